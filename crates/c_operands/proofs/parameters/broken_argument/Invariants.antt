use Rattle.c_types.specs.Types.{CTypes}
use Rattle.c_operands.specs.Arguments.{HasList}
use Rattle.c_operands.proofs.ArgumentLemmas.{SoFar}
use Rattle.c_operands.proofs.parameters.broken_argument.Given as goal

abbrev pub invariant-loop-argument : goal.invariant-loop-argument
invariant-loop-argument l = (ts : CTypes) → HasList l.types l.fn.list ts → SoFar l.types l.rest l.arguments l.argument-index ts l.told
