use Rattle.std.proofs.Common.{◌≡◌, Bool, refl, ap, ap₂, ◌∙◌}
use Rattle.c_layouts.proofs.KeptLemmas.{layouts_kept}
use Rattle.c_types.specs.Types.{Int}
use Rattle.c_eval.specs.Environment.{operand_type}
use Rattle.c_eval.specs.Eval.{step_op}
use Rattle.c_code.specs.Code as code
use Rattle.c_store.specs.declared.kind.Kind.{Kind}
use Rattle.c_plain.specs.declared.instruction.Operation.{Operation}
use Rattle.c_plain.specs.declared.instruction.Instruction.TheVariants as plain
use Rattle.c_resolved.specs.Resolved.{operation_of}
use Rattle.c_kinds.specs.Sides.{IsSide}
use Rattle.c_expressions.proofs.KeptLemmas.{judged_kept}
use Rattle.c_pieces.proofs.pieces.stepped.Goals as goal

same : (k l : Kind) (o q : Operation) (a b : Bool) → k ≡ l → o ≡ q → a ≡ b → plain.Step (record { kind = k; operation = o; gives_old = a }) ≡ plain.Step (record { kind = l; operation = q; gives_old = b })
same k l o q a b e f g =
    ap (λ z. plain.Step (record { kind = z; operation = o; gives_old = a })) e ∙ (ap (λ z. plain.Step (record { kind = l; operation = z; gives_old = a })) f ∙ ap (λ z. plain.Step (record { kind = l; operation = q; gives_old = z })) g)

pub returns-clause-emits : goal.returns-clause-emits
returns-clause-emits c = λ p tags judged layouts counted.
    let old = c.args.types.now in
    let mid = c.side.new.types in
    let t = operand_type p in
    let a = c.in_ok-left.ensures.side p tags judged layouts counted.left in
    let ty = c.in_ok-ty.ensures.ty p (judged_kept old mid c.args.a p c.in_ok-left.ensures.grows judged) in
    let kind = c.kind.ensures t ty in
    let operation = c.operation.ensures t Int tags a (record { class = refl; words = refl }) in
    c.add.ensures (code.Step tags c.args.op t) (record { means = λ names r e. (same _ _ _ _ _ _ kind (operation ∙ ap (λ o. operation_of tags o t Int) c.step_op.ensures) c.gives_old.ensures, counted.some) })
