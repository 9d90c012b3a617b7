use Rattle.c_syntax.specs.View.{decls_of, stmt_of}
use Rattle.c_types.specs.Units.{body_scope}
use Rattle.c_types.specs.Room.{charge_of}
use Rattle.c_signatures.proofs.BlockLemmas.{same_holds}
use Rattle.c_flat.specs.Defined.{defined}
use Rattle.c_flat.proofs.AddLemmas.{function_more}
use Rattle.c_flat.proofs.items.add_signed.Goals as goal

pub returns-clause-holds : goal.returns-clause-holds
returns-clause-holds c = λ s holds.
    let k = c.in_ok-one.ensures in
    same_holds c.args.types.now c.define.new.types c.args.here.now.declared c.define.new.here.declared s k.grows k.tags k.same holds

pub returns-clause-adds : goal.returns-clause-adds
returns-clause-adds c = λ rules s g names is signed fit charge.
    let name = c.args.name.now in
    let params = decls_of c.args.parameters.now.items.items in
    let body = stmt_of c.args.body.now in
    function_more rules c.args.out.now c.define.new.out names c.args.compiled.now.items c.push.new.self.items (defined s name params body g) (charge_of (body_scope s name g) params body) c.in_ok-one.one
    (c.in_ok-one.ensures.defines s g names is.holds signed is.files is.structs fit) fit.1 charge c.in_ok-push.ensures.items
