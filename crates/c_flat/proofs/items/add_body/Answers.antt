use Rattle.c_syntax.specs.View.{ty_of, decls_of}
use Rattle.c_flat.proofs.ItemLemmas.{no_body}
use Rattle.c_flat.proofs.items.add_body.Goals as goal

pub returns-in-None-clause-adds : goal.returns-in-None-clause-adds
returns-in-None-clause-adds c = λ rules s names is fit knows.
    no_body rules c.args.out.now names c.args.compiled.now.items s c.args.name.now c.args.at (ty_of c.args.gives.now) (decls_of c.args.parameters.now.items.items) c.args.body.now c.in-None.is
