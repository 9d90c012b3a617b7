-- What a parser answers is right.
use Rattle.std.proofs.Common.{◌≡◌, ◌<◌, ◌≤◌, List, length}
use Rattle.std.specs.Prelude.{Result, Ok, Err, MatchResult}
use Rattle.c_syntax.specs.declared.token.Token.{Token}
use Rattle.c_syntax.specs.declared.tree.Unit.{Unit as TheUnit}
use Rattle.c_syntax.specs.View.{unit_of}
use Rattle.c_syntax.specs.Plain.{CUnit}
use Rattle.c_grammar.specs.Spells.{IsUnitWithin}
use Rattle.c_parse.specs.declared.fault.ParseFault.{ParseFault}
use Rattle.c_parse.specs.declared.fault.ParseFault.TheVariants.{Syntax, TooDeep, TooLarge, Memory}
use Rattle.c_parse.specs.Answer.{IsSmall, Fails, IsRight, Parses, answered, IsUnlessMemory}
use Rattle.c_parse.proofs.OneAnswer.{only_right}

pub right_there : (ts : List Token) (r : Result TheUnit ParseFault) → IsSmall ts → MatchResult r (λ u. IsUnitWithin ts (unit_of u)) (λ e. Fails ts e) → IsRight ts (answered r)
right_there ts (Ok u) h g = (h, g)
right_there ts (Err (Syntax p)) h g = (h, g)
right_there ts (Err (TooDeep p)) h g = (h, g)
right_there ts (Err TooLarge) h g = absurd g
right_there ts (Err Memory) h g = tt

pub only_there : (ts : List Token) (r : Result TheUnit ParseFault) → IsSmall ts → MatchResult r (λ u. IsUnitWithin ts (unit_of u)) (λ e. Fails ts e) → (s : Result CUnit ParseFault) → Parses ts s → IsUnlessMemory (answered r) s
only_there ts r h g s p = only_right ts (answered r) s (right_there ts r h g) p

pub only_large : (ts : List Token) → 1000001 < length ts → (s : Result CUnit ParseFault) → Parses ts s → IsUnlessMemory (Err TooLarge) s
only_large ts h s p = only_right ts (Err TooLarge) s h p
