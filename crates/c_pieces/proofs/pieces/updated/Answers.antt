use Rattle.std.proofs.Common.{ap₂}
use Rattle.c_types.specs.Table.{known}
use Rattle.c_operands.proofs.OperandLemmas.{grows_then}
use Rattle.c_layouts.proofs.KeptLemmas.{layouts_kept}
use Rattle.c_types.specs.Types.{decayed}
use Rattle.c_eval.specs.Environment.{operand_type}
use Rattle.c_code.specs.Code as code
use Rattle.c_plain.specs.declared.instruction.Instruction.TheVariants as plain
use Rattle.c_expressions.proofs.KeptLemmas.{judged_kept}
use Rattle.c_pieces.proofs.pieces.updated.Goals as goal

pub returns-clause-emits : goal.returns-clause-emits
returns-clause-emits c = λ p q tags left right layouts counted.
    let old = c.args.types.now in
    let mid = c.side.new.types in
    let new = c.value_side.new.types in
    let t = operand_type p in
    let u = decayed (operand_type q) in
    let before = c.in_ok-left.ensures in
    let later = c.in_ok-right.ensures in
    let a = before.side p tags left layouts counted.left in
    let b = later.side q tags (judged_kept old mid c.args.b q before.grows right) (layouts_kept old mid c.args.layouts.now tags before.grows before.tags layouts) counted.right in
    let ty = c.in_ok-ty.ensures.ty p (judged_kept old new c.args.a p (grows_then (known old) (known mid) (known new) before.grows later.grows) left) in
    c.add.ensures (code.Update tags c.args.op t u) (record { means = λ names r e. (ap₂ (λ k o. plain.Update k o) (c.kind.ensures t ty) (c.operation.ensures t u tags a b), counted.some) })
