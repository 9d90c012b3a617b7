use Rattle.std.proofs.Common.{◌≡◌, drop}
use Rattle.ws_lang.specs.Spelling.{binary}
use Rattle.ws_lang.proofs.NumberLemmas.{binary_from}
use Rattle.ws_lang.proofs.number.size_of.Given as goal

abbrev pub invariant-loop-digit : goal.invariant-loop-digit
invariant-loop-digit l = binary_from l.size (drop l.digit-index l.digits) ≡ binary l.digits
