use Rattle.c_pieces.proofs.CallLemmas.{Goes}
use Rattle.c_pieces.proofs.formats.pieces.Given as goal

abbrev pub invariant-loop-byte : goal.invariant-loop-byte
invariant-loop-byte l = Goes l.fn.out l.out l.format l.count l.byte-index l.left
