use Rattle.std.proofs.Common.{◌≡◌, sym, ap, subst, ◌∙◌}
use Rattle.std.specs.Prelude.{Ok, Err, true}
use Rattle.c_syntax.specs.View.{unit_of}
use Rattle.c_syntax.specs.Plain.{CUnit}
use Rattle.c_types.specs.Limits.{is_small, answer_to}
use Rattle.c_check.proofs.whole.settled.Goals as goal

pub of-requires-clause-typed : goal.of-requires-clause-typed
of-requires-clause-typed c =
    let u = unit_of c.args.unit in
    let k = (c.answers_are_of_typed_texts.ensures u).accepted c.in-Ok.weight (sym c.requires ∙ c.in-Ok.is) in
    k.0

pub of-requires-clause-weight : goal.of-requires-clause-weight
of-requires-clause-weight c =
    let u = unit_of c.args.unit in
    let k = (c.answers_are_of_typed_texts.ensures u).accepted c.in-Ok.weight (sym c.requires ∙ c.in-Ok.is) in
    k.2

pub returns-in-Ok-clause-accepted : goal.returns-in-Ok-clause-accepted
returns-in-Ok-clause-accepted c = sym c.requires ∙ (c.in-Ok.is ∙ ap Ok (sym c.of.ensures.weight))

pub returns-in-Ok-clause-small : goal.returns-in-Ok-clause-small
returns-in-Ok-clause-small c =
    let u = unit_of c.args.unit in
    let k = (c.answers_are_of_typed_texts.ensures u).accepted c.in-Ok.weight (sym c.requires ∙ c.in-Ok.is) in
    ap is_small c.of.ensures.unit ∙ k.1
