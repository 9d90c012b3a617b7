use Rattle.std.proofs.Common.{sym, ap, ◌∙◌}
use Rattle.c_types.specs.Operands.{is_array, is_designator}
use Rattle.c_operands.specs.Classes.{array}
use Rattle.c_operands.proofs.ClassLemmas.{class_says}
use Rattle.c_declared.proofs.FigureLemmas.{name_static, or_true, or_false}
use Rattle.c_declared.proofs.value_rules.is_static.Goals as goal

pub returns-then-is_array : goal.returns-then-is_array
returns-then-is_array c = λ x e o h.
    or_true c.is_array.result (is_array x.ty) (is_designator x.sort) c.if-is_array.true (c.is_array.ensures ∙ (ap array (c.class_of.ensures x.ty o.ty) ∙ sym (class_says x.ty).array))
    ∙ sym (name_static e x (sym c.in-Name.is ∙ h))

pub returns-else-is_array : goal.returns-else-is_array
returns-else-is_array c = λ x e o h.
    or_false c.is_array.result (is_array x.ty) (is_designator x.sort) c.is_designator.result c.if-is_array.false (c.is_array.ensures ∙ (ap array (c.class_of.ensures x.ty o.ty) ∙ sym (class_says x.ty).array))
    (c.is_designator.ensures ∙ ap is_designator o.sort)
    ∙ sym (name_static e x (sym c.in-Name.is ∙ h))
