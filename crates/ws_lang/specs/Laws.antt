-- Laws of numbers that are read, and of runs.
use Rattle.std.specs.Prelude.{◌≡◌, ⊤, ℕ, ◌+◌, true, false, Bool, List, [], ◌∷◌, ◌++◌, length, nat_lt, nat_eq, ℤ, pos, None, Some}
use Rattle.std.specs.declared.option.Option.{Option}
use Rattle.std.specs.List.{AllByRecursion}
use Rattle.std.specs.Str.Parse.{AllDigits, digits_value}
use Rattle.mach_core.specs.declared.machine.Status.TheVariants.{Going}
use Rattle.mach_core.specs.Rule.{Moment, IsInput, input_at, run_from, run}
use Rattle.mach_core.specs.Sparse.{value_at}
use Rattle.ws_lang.specs.Instruction.{Instruction, IsInRange}
use Rattle.mach_core.specs.Integer.{is_in_range}
use Rattle.ws_lang.specs.Spelling.{signed}
use Rattle.ws_lang.specs.Step.{Config, Seen, Reading, Blanks, Digits, Outside, is_blank, is_digit, reading_on, closed, ws_rule, ws_start}

-- the bytes of the input from one on are these
abbrev pub AreNext : List ℕ → ℕ → List ℕ → Type 0
AreNext input t [] = ⊤
AreNext input t (b ∷ bytes) = (input_at input t ≡ b) × AreNext input (t + 1) bytes

-- a plus, a minus or no sign
abbrev pub sign_bytes : Option Bool → List ℕ
sign_bytes None = []
sign_bytes (Some false) = 43 ∷ []
sign_bytes (Some true) = 45 ∷ []

-- the sign is a minus
abbrev pub is_minus : Option Bool → Bool
is_minus None = false
is_minus (Some negative) = negative

-- the byte is no blank and no sign
pub record IsOther (byte : ℕ) : Type 0 where
  pub blank : is_blank byte ≡ false
  pub plus : nat_eq byte 43 ≡ false
  pub minus : nat_eq byte 45 ≡ false

-- a configuration, with so many bytes taken
abbrev pub moment : List ℕ → Config → ℕ → Moment Config
moment output c taken = record { config = c; taken = taken; output = output }

-- Blanks, a sign at most, digits and the byte that closes the number come next in the input, and the number is within signed 64 bits: each byte is taken in a step of its own, and the number is stored.
abbrev pub NumbersAreStored : Type 0
NumbersAreStored =
    (code : List Instruction) (input : List ℕ) (c : Config) (address : ℤ) (output : List ℕ) → c.status ≡ Going → nat_lt c.place (length code) ≡ true
    → (blanks : List ℕ) (sign : Option Bool) (ds : List ℕ) (z t : ℕ) → AllByRecursion (λ b. is_blank b ≡ true) blanks → AllDigits 10 ds → is_digit z ≡ false → (sign ≡ None → ds ≡ [] → IsOther z)
    → is_in_range (signed (is_minus sign) (digits_value 10 ds)) ≡ true → AreNext input t (blanks ++ (sign_bytes sign ++ ds ++ z ∷ []))
    → run_from (ws_rule code) input (moment output (reading_on c address Blanks) t) (length blanks + (length (sign_bytes sign) + length ds + 1))
    ≡ moment output (closed c address (signed (is_minus sign) (digits_value 10 ds))) (t + (length blanks + (length (sign_bytes sign) + length ds + 1)))

-- the digits that were seen of a number make one within signed 64 bits; that it leads outside may be seen too
abbrev pub SeenFits : Seen → Type 0
SeenFits Blanks = ⊤
SeenFits (Digits negative n) = is_in_range (signed negative n) ≡ true
SeenFits Outside = ⊤

-- the same of the number that is being read, if there is one
abbrev pub ReadingFits : Option Reading → Type 0
ReadingFits None = ⊤
ReadingFits (Some reading) = SeenFits reading.seen

-- each value is a signed number of 64 bits
pub record HasValuesInRange (c : Config) : Type 0 where
  pub stack : AllByRecursion (λ z. is_in_range z ≡ true) c.stack
  pub heap : (address : ℤ) → is_in_range (value_at (pos 0) c.heap address) ≡ true
  pub reading : ReadingFits c.reading

-- values of the stack and of the heap are signed numbers of 64 bits all along a run of a program whose numbers are
abbrev pub ValuesStayInRange : Type 0
ValuesStayInRange =
    (code : List Instruction) (input : List ℕ) (n : ℕ) → AllByRecursion IsInRange code → IsInput input
    → HasValuesInRange (run (ws_rule code) (ws_start code) input n).config
