use Rattle.std.proofs.Common.{refl, sym, subst, ◌∙◌}
use Rattle.std.specs.Prelude.{Err}
use Rattle.c_types.specs.declared.fault.TypeFault.TheVariants as fault
use Rattle.c_types.specs.Types.{CType}
use Rattle.c_types.specs.Operands as plain
use Rattle.c_types.specs.Table.{known}
use Rattle.c_operands.specs.Seen.{IsOperand, IsJudged}
use Rattle.c_operands.proofs.ClassLemmas.{points_to}
use Rattle.c_operands.proofs.ListLemmas.{no_pointer}
use Rattle.c_operands.proofs.calls.pointer_call.Goals as goal

pub function_call-requires : goal.function_call-requires
function_call-requires c =
    let table = c.args.types.now in
    let p = points_to table.tags (known table) c.shape-shape.result c.in-Some.to c.requires.0 (sym c.in-Some.ensures) (c.shape-shape.ensures.says ∙ c.requires.1) in
    (p.0, p.2)

pub returns-in-Some : goal.returns-in-Some
returns-in-Some c = λ t xs h a.
    let table = c.args.types.now in
    let p = points_to table.tags (known table) c.shape-shape.result c.in-Some.to t (sym c.in-Some.ensures) (c.shape-shape.ensures.says ∙ h) in
    subst (λ (u : CType). IsJudged (IsOperand table) c.function_call.result (plain.pointer_call c.args.at u xs)) (sym p.1)
    (c.function_call.ensures p.0 xs p.2 a)

pub returns-in-None : goal.returns-in-None
returns-in-None c = λ t xs h a.
    let table = c.args.types.now in
    subst (IsJudged (IsOperand table) (Err (fault.BadCall c.args.at)))
    (sym (no_pointer table.tags (known table) c.shape-shape.result t (sym c.in-None.ensures) (c.shape-shape.ensures.says ∙ h) c.args.at xs)) refl
