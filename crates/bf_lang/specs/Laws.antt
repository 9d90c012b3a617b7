-- Laws of the definitions.
use Rattle.std.specs.Prelude.{◌≡◌, ◌≢◌, ◌↔◌, ℕ, ◌+◌, Bool, List, Result, Err, map}
use Rattle.bf_lang.specs.declared.command.Command.{Command}
use Rattle.bf_lang.specs.declared.text.BfFault.{BfFault}
use Rattle.bf_lang.specs.declared.text.BfFault.TheVariants.{Memory}
use Rattle.bf_lang.specs.Brackets.{IsCloseOf, IsOpenOf, IsPaired}
use Rattle.bf_lang.specs.Balance.{IsBalanced, is_open, is_close}
use Rattle.bf_lang.specs.Text.{IsReadAs, bf_spells, byte_of}
use Rattle.bf_lang.specs.Step.{Config, here, bf_rule}

-- the partner's partner of a bracket is itself
abbrev pub AreMutual : {A : Type 0} → (A → Bool) → (A → Bool) → List A → Type 0
AreMutual opens closes xs = (i j : ℕ) → IsCloseOf opens closes xs i j ↔ IsOpenOf opens closes xs j i

-- want of memory apart, a text spells one program or is refused for one reason, and never both
pub record IsReadInOneWay (text : List ℕ) : Type 0 where
  pub some : (r : Result (List Command) BfFault) × IsReadAs text r × (r ≢ Err Memory)
  pub one : (r r' : Result (List Command) BfFault) → IsReadAs text r → IsReadAs text r' → r ≢ Err Memory → r' ≢ Err Memory → r ≡ r'

-- a `[` at a cell that is 0 goes past its partner, and a `]` at one that is not goes behind its own; else both go on
pub record JumpsToPartners (code : List Command) (i j : ℕ) : Type 0 where
  pub skips : (s : Config) (byte : ℕ) → s.place ≡ i → here s ≡ 0 → ((bf_rule code).next s byte).place ≡ j + 1
  pub enters : (s : Config) (byte : ℕ) → s.place ≡ i → here s ≢ 0 → ((bf_rule code).next s byte).place ≡ i + 1
  pub repeats : (s : Config) (byte : ℕ) → s.place ≡ j → here s ≢ 0 → ((bf_rule code).next s byte).place ≡ i + 1
  pub leaves : (s : Config) (byte : ℕ) → s.place ≡ j → here s ≡ 0 → ((bf_rule code).next s byte).place ≡ j + 1

-- the text of commands
abbrev pub text_of : List Command → List ℕ
text_of code = map byte_of code

-- commands that are closed in order are those in which each bracket has its partner, and their text spells them
pub record AreSpelled (code : List Command) : Type 0 where
  pub paired : IsBalanced code ↔ IsPaired is_open is_close code
  pub text : IsBalanced code → bf_spells (text_of code) code
