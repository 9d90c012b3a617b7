use Rattle.std.proofs.Common.{sym, ap, ◌∙◌}
use Rattle.c_types.specs.Table.{known}
use Rattle.c_operands.proofs.ClassLemmas.{points_to}
use Rattle.c_resolved.specs.Resolved.{follow_of}
use Rattle.c_kinds.proofs.SideLemmas.{function_followed, object_followed}
use Rattle.c_kinds.proofs.kinds.follow.Goals as goal

pub returns-in-Function : goal.returns-in-Function
returns-in-Function c = λ t h.
    let table = c.args.types.now in
    let p = points_to table.tags (known table) c.shape.result c.in-Some.to t (sym c.in-Some.ensures) (c.shape.ensures.says ∙ h) in
    function_followed p.0 (sym (c.class_of.ensures p.0 p.2) ∙ c.in-Function.is) ∙ ap follow_of (sym p.1)

pub returns-in_default : goal.returns-in_default
returns-in_default c = λ t h.
    let table = c.args.types.now in
    let p = points_to table.tags (known table) c.shape.result c.in-Some.to t (sym c.in-Some.ensures) (c.shape.ensures.says ∙ h) in
    c.fetch.ensures p.0 p.2 ∙ (object_followed p.0 (λ e. c.in_default.not-Function (c.class_of.ensures p.0 p.2 ∙ e)) ∙ ap follow_of (sym p.1))
