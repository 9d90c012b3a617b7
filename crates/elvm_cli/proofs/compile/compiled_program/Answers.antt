use Rattle.c_types.specs.Typed.{plain_of}
use Rattle.elvm_cli.proofs.Compiled.{compiles, none_compiled}
use Rattle.elvm_cli.proofs.compile.compiled_program.Goals as goal

pub compile_tree-requires : goal.compile_tree-requires
compile_tree-requires c = c.texts_are_compiled.ensures c.args.text.now (plain_of c.in-Ok.typed) c.are_bytes.ensures c.in-Ok.ensures.ok

pub returns-clause-ok : goal.returns-clause-ok
returns-clause-ok c =
    let u = plain_of c.in-Ok.typed in
    compiles c.args.text.now u c.in-Ok.ensures.ok (c.texts_are_compiled.ensures c.args.text.now u c.are_bytes.ensures c.in-Ok.ensures.ok) c.compile_tree.result c.compile_tree.ensures.ok

pub returns-clause-err : goal.returns-clause-err
returns-clause-err c = none_compiled c.args.text.now c.compile_tree.result c.compile_tree.ensures.err
