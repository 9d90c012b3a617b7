-- Steps whose value isn't used.
use Rattle.c_syntax.specs.declared.tree.StepOp.{StepOp}
use Rattle.c_syntax.specs.declared.tree.StepOp.TheVariants.{PreInc, PreDec, PostInc, PostDec}

-- the step that updates alike and gives the new value
abbrev pub updating : StepOp → StepOp
updating PostInc = PreInc
updating PostDec = PreDec
updating op = op
