use Rattle.std.proofs.Common.{◌≡◌, true, ◌||◌, ◌∙◌}
use Rattle.c_types.specs.Operands.{converts}
use Rattle.c_types.specs.Declarations.{takes_string}
use Rattle.c_types.specs.Known.{OneType}
use Rattle.c_declared.proofs.FigureLemmas.{or_true, or_false}
use Rattle.c_declared.proofs.RuleLemmas.{some_type, object_as}
use Rattle.c_declared.proofs.value_rules.object_fault.Goals as goal
use Rattle.c_declared.proofs.value_rules.object_fault.Goals.{then-taken, else-taken}

pub returns-after-taken-clause-told : goal.returns-after-taken-clause-told
returns-after-taken-clause-told c = λ x t e o h f.
    let k = some_type c.args.types.now c.in-Some.number c.args.ty t c.in-Some.is h in
    let at_new = c.in_ok-value-in-Some.ensures.grows c.in-Some.number (OneType k.0) k.2 in
    let taken = c.takes_string-taken.ensures k.0 e at_new f in
    let value = c.in_ok-value-in-Some.ensures.value x o in
    let kept : c.if-taken.kept ≡ (takes_string k.0 e || converts x k.0) =
    elim c.if-taken.branch [
      | then-taken w ↦
          let is = w.kept-is in
          let yes = w.if-taken.true in
          let whole : c.if-taken.kept ≡ true = cc in
          let same : c.if-taken.kept ≡ takes_string k.0 e = cc in
          or_true c.if-taken.kept (takes_string k.0 e) (converts x k.0) whole same
      | else-taken w ↦
          let is = w.kept-is in
          or_false c.takes_string-taken.result (takes_string k.0 e) (converts x k.0) c.if-taken.kept w.if-taken.false taken
          (is ∙ w.converts-kept.ensures x k.0 value at_new (w.class_of.ensures k.0 at_new))
    ] in
    object_as c.mismatch.result c.if-taken.kept c.args.a.at t k.0 e x c.mismatch.ensures kept o.at k.1
