use Rattle.std.specs.Prelude.{Some}
use Rattle.c_syntax.specs.Plain as tree
use Rattle.c_syntax.specs.View.{ty_of, decls_of, stmt_of}
use Rattle.c_eval.specs.Text.{item_definitions}
use Rattle.c_lower_data.proofs.EntryLemmas.{defined, one_entered}
use Rattle.c_lower_data.proofs.blocks.add_definition.Goals as goal

pub returns : goal.returns
returns c = λ s inner all rest typed are.
    let name = c.args.name.now in
    let at = c.args.at in
    let gives = ty_of c.args.gives.now in
    let params = decls_of c.args.parameters.now.items.items in
    let body = stmt_of c.args.body.now in
    one_entered c.args.entries.now.entries c.add_entry.new.entries.entries c.args.block c.block_behind.result all (item_definitions s (tree.Function name at gives params (Some body))) rest s name params body (defined s inner name at gives params body typed)
    c.in_ok-add_entry.ensures (λ k h. c.block_behind.ensures k h) are
