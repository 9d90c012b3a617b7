use Rattle.std.proofs.Common.{ap}
use Rattle.c_layouts.proofs.KeptLemmas.{layouts_kept}
use Rattle.c_types.specs.Types.{decayed}
use Rattle.c_eval.specs.Environment.{operand_type}
use Rattle.c_code.specs.Code as code
use Rattle.c_plain.specs.declared.instruction.Instruction.TheVariants as plain
use Rattle.c_expressions.proofs.KeptLemmas.{judged_kept}
use Rattle.c_pieces.proofs.pieces.operated.Goals as goal

pub returns-clause-emits : goal.returns-clause-emits
returns-clause-emits c = λ p q tags left right layouts counted.
    let old = c.args.types.now in
    let mid = c.value_side.new.types in
    let t = decayed (operand_type p) in
    let u = decayed (operand_type q) in
    let before = c.in_ok-left.ensures in
    let a = before.side p tags left layouts counted.left in
    let b = c.in_ok-right.ensures.side q tags (judged_kept old mid c.args.b q before.grows right) (layouts_kept old mid c.args.layouts.now tags before.grows before.tags layouts) counted.right in
    c.add.ensures (code.Operate tags c.args.op t u) (record { means = λ names r e. (ap plain.Operate (c.operation.ensures t u tags a b), counted.some) })
