use Rattle.std.proofs.Common.{◌≡◌, ◌∙◌}
use Rattle.std.proofs.lemmas.Result.{IfOk-weaker}
use Rattle.c_syntax.specs.View.{ty_of, decl_of}
use Rattle.c_grammar.specs.Tree.{Meanings, more, Several, unnamed, parameter_of}
use Rattle.c_held.specs.View.{meaning_of, layers_of}
use Rattle.c_declare.proofs.Same.{unnamed_decl, parameter_unnamed}
use Rattle.c_declare.proofs.declarations.parameter_in.Goals as goal

pub returns-in_default : goal.returns-in_default
returns-in_default c =
    let t = ty_of c.args.ty in
    let layers = layers_of c.take_unnamed.result.items t in
    IfOk-weaker c.unnamed_parameter.result (λ d. decl_of d ≡ unnamed_decl c.args.pos layers) (λ d. (ms : Meanings) → decl_of d ≡ parameter_of (Several (more (meaning_of c.args.tail.now) ms)) c.args.pos t)
    (λ d e ms. let u : layers ≡ unnamed (Several (more (meaning_of c.args.tail.now) ms)) t = cc (c.take_unnamed.ensures t ms, c.in_default.other-is) in e ∙ parameter_unnamed c.args.tail.now c.in_default.not-Declares ms c.args.pos t layers u)
    c.unnamed_parameter.ensures
