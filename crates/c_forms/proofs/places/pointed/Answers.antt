use Rattle.std.proofs.Common.{◌≡◌, true, false, Some, refl, sym, ap, ◌∙◌, subst}
use Rattle.std.specs.Prelude.{Ok}
use Rattle.c_types.specs.declared.fault.TypeFault.TheVariants as fault
use Rattle.c_types.specs.Types as types
use Rattle.c_types.specs.Types.{CType, is_object_type}
use Rattle.c_types.specs.Operands as plain
use Rattle.c_types.specs.Known.{OneType}
use Rattle.c_types.specs.Table.{known}
use Rattle.c_operands.specs.Classes.{class_of, function_pointer}
use Rattle.c_operands.specs.Seen.{IsOperand, IsJudged}
use Rattle.c_operands.proofs.ClassLemmas.{points_to}
use Rattle.c_operands.proofs.OperandLemmas.{one_as}
use Rattle.c_forms.proofs.PlaceLemmas.{function_pointed, object_pointed}
use Rattle.c_forms.proofs.places.pointed.Goals as goal

pub returns-then-is_function_pointer : goal.returns-then-is_function_pointer
returns-then-is_function_pointer c = λ t tags h all.
    let table = c.args.types.now in
    let p = points_to table.tags (known table) c.shape.result c.in-Some.to t (sym c.in-Some.ensures) (c.shape.ensures.says ∙ h) in
    let e : c.class_of-class.result ≡ class_of (types.Pointer p.0) = c.class_of-class.ensures t h ∙ ap class_of p.1 in
    let f : function_pointer (class_of (types.Pointer p.0)) ≡ true = cc in
    subst (λ (v : CType). IsJudged (IsOperand table) (Ok c.value_at.result) (plain.pointed_operand tags c.args.at v)) (sym p.1)
    (subst (IsJudged (IsOperand table) (Ok c.value_at.result)) (sym (function_pointed tags c.args.at p.0 f))
    (c.value_at.ensures table (types.Pointer p.0) (h ∙ ap (λ v. Some (OneType v)) p.1)))

pub returns-else-is_function_pointer : goal.returns-else-is_function_pointer
returns-else-is_function_pointer c = λ t tags h all.
    let table = c.args.types.now in
    let p = points_to table.tags (known table) c.shape.result c.in-Some.to t (sym c.in-Some.ensures) (c.shape.ensures.says ∙ h) in
    let e : c.class_of-class.result ≡ class_of (types.Pointer p.0) = c.class_of-class.ensures t h ∙ ap class_of p.1 in
    let f : function_pointer (class_of (types.Pointer p.0)) ≡ false = cc in
    let kept = c.is_object_type-kept.ensures p.0 tags p.2 all in
    subst (λ (v : CType). IsJudged (IsOperand table) c.one_rule.result (plain.pointed_operand tags c.args.at v)) (sym p.1)
    (subst (IsJudged (IsOperand table) c.one_rule.result) (sym (object_pointed tags c.args.at p.0 f))
    (one_as table c.one_rule.result (plain.place_at c.args.at p.0) c.is_object_type-kept.result (is_object_type tags p.0) (fault.Mismatch c.args.at) (fault.Mismatch c.args.at) kept refl
    (c.one_rule.ensures table (plain.place_at c.args.at p.0) (c.place_at.ensures table p.0 p.2))))
