use Rattle.c_types.specs.Types.{CTypes}
use Rattle.c_operands.specs.Arguments.{HasList}
use Rattle.c_pieces.proofs.CallLemmas.{SoFar}
use Rattle.c_pieces.proofs.lists.argument_kinds.Given as goal

abbrev pub invariant-loop-index : goal.invariant-loop-index
invariant-loop-index l = (ts : CTypes) → HasList l.types l.list ts → SoFar l.types ts l.count l.kinds.items l.rest l._index
