use Rattle.c_types.specs.Types.{CTypes}
use Rattle.c_operands.specs.Arguments.{HasList}
use Rattle.c_operands.proofs.ListLemmas.{Passed}
use Rattle.c_operands.proofs.parameters.has_length.Given as goal

abbrev pub invariant-loop-index : goal.invariant-loop-index
invariant-loop-index l = (ts : CTypes) → HasList l.types l.fn.list ts → Passed l.types l.rest ts l._index
