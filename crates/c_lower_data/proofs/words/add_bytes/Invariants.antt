use Rattle.std.proofs.Common.{drop}
use Rattle.c_lower_data.proofs.LetterLemmas.{Wording}
use Rattle.c_lower_data.proofs.words.add_bytes.Given as goal

abbrev pub invariant-loop-byte : goal.invariant-loop-byte
invariant-loop-byte l = Wording l.fn.words.items l.words.items l.bytes (drop l.byte-index l.bytes)
