-- Programs and texts, worked out by the definitions.
use Rattle.std.proofs.Common.{◌≡◌, ℕ, ◌^◌, ◌-◌, List, [], ◌∷◌, codes, ℤ, pos, negsuc, refl, arith}
use Rattle.std.specs.FinMap.{gets}
use Rattle.mach_core.specs.declared.machine.Status.{Status}
use Rattle.mach_core.specs.declared.machine.Status.TheVariants.{Going, Ended, Fault}
use Rattle.mach_core.specs.Rule.{Moment, run}
use Rattle.sq_lang.specs.declared.text.SqFault.TheVariants.{BadNumber, NumberRange}
use Rattle.sq_lang.specs.Text.{SpellsCell, sq_spells}
use Rattle.sq_lang.specs.Answers.{IsRefused}
use Rattle.sq_lang.specs.Step.{Config, sq_rule, sq_start, cell_at}
use Rattle.sq_lang.proofs.Digits.{digits_decide}
use Rattle.sq_lang.proofs.Spelling.{unbroken}

-- the moment after some steps on an input
abbrev after : List ℤ → List ℕ → ℕ → Moment Config
after program input n = run (sq_rule program) (sq_start program) input n

abbrev stands : List ℤ → List ℕ → ℕ → Status
stands program input n = (sq_rule program).standing (after program input n).config

-- `6 -1 0 7 7 -1 72 0` writes `H` in its first step
abbrev letter : List ℤ
letter = pos 6 ∷ negsuc 0 ∷ pos 0 ∷ pos 7 ∷ pos 7 ∷ negsuc 0 ∷ pos 72 ∷ pos 0 ∷ []

pub letter_is_written : (after letter [] 1).output ≡ 72 ∷ []
letter_is_written = simp gets

pub letter_goes_on : stands letter [] 1 ≡ Going
letter_goes_on = simp gets

-- and ends in its second: the difference is 0, and the target is negative
pub letter_ends : stands letter [] 2 ≡ Ended
letter_ends = simp gets

-- `3 3` goes on without end: the third word, past the program, is 0
pub missing_word_is_zero : stands (pos 3 ∷ pos 3 ∷ []) [] 5 ≡ Going
missing_word_is_zero = simp gets

pub missing_word_leads_back : (after (pos 3 ∷ pos 3 ∷ []) [] 5).config.address ≡ pos 0
missing_word_leads_back = simp gets

-- `-1 -1` is at fault 1: an input can't be written at once
pub both_negative : stands (negsuc 0 ∷ negsuc 0 ∷ []) [] 1 ≡ Fault 1
both_negative = simp gets

-- and has taken nothing
pub fault_takes_nothing : (after (negsuc 0 ∷ negsuc 0 ∷ []) (65 ∷ []) 1).taken ≡ 0
fault_takes_nothing = simp gets

-- `-2` as the first or the second word is at fault 1 too
pub first_below : stands (negsuc 1 ∷ pos 0 ∷ pos 0 ∷ []) [] 1 ≡ Fault 1
first_below = simp gets

pub second_below : stands (pos 0 ∷ negsuc 1 ∷ pos 0 ∷ []) [] 1 ≡ Fault 1
second_below = simp gets

-- `-1 6 0 6 -1 0`: takes a byte, on to the next three words, and writes it
abbrev echo : List ℤ
echo = negsuc 0 ∷ pos 6 ∷ pos 0 ∷ pos 6 ∷ negsuc 0 ∷ pos 0 ∷ []

pub byte_is_taken : (after echo (65 ∷ 66 ∷ []) 2).output ≡ 65 ∷ []
byte_is_taken = simp gets

pub one_byte_is_taken : (after echo (65 ∷ 66 ∷ []) 2).taken ≡ 1
one_byte_is_taken = simp gets

-- past the end of the input it takes a zero, and counts it
pub past_the_end : (after echo [] 2).output ≡ 0 ∷ []
past_the_end = simp gets

pub past_the_end_counts : (after echo [] 2).taken ≡ 1
past_the_end_counts = simp gets

-- a cell is written modulo 256: -1 as 255, and 256 as 0
pub minus_one_is_255 : (after (pos 3 ∷ negsuc 0 ∷ pos 0 ∷ negsuc 0 ∷ []) [] 1).output ≡ 255 ∷ []
minus_one_is_255 = simp gets

pub past_255 : (after (pos 3 ∷ negsuc 0 ∷ pos 0 ∷ pos 256 ∷ []) [] 1).output ≡ 0 ∷ []
past_255 = simp gets

-- cell b less cell a, and not the other way round: 0 - (-5) is above 0, so the target 9 isn't taken
pub positive_goes_on : (after (pos 3 ∷ pos 4 ∷ pos 9 ∷ negsuc 4 ∷ []) [] 1).config.address ≡ pos 3
positive_goes_on = simp gets

pub difference_is_stored : cell_at (after (pos 3 ∷ pos 4 ∷ pos 9 ∷ negsuc 4 ∷ []) [] 1).config.cells 4 ≡ pos 5
difference_is_stored = simp gets

-- the lowest number of 64 bits is a result, and one below it is fault 2
pub lowest : stands (pos 3 ∷ pos 4 ∷ negsuc 0 ∷ pos 0 ∷ negsuc (2 ^ 63 - 1) ∷ []) [] 1 ≡ Ended
lowest = simp gets

pub below_lowest : stands (pos 3 ∷ pos 4 ∷ negsuc 0 ∷ pos 1 ∷ negsuc (2 ^ 63 - 1) ∷ []) [] 1 ≡ Fault 2
below_lowest = simp gets

-- the highest is one, and one above it is fault 2
pub highest : stands (pos 3 ∷ pos 4 ∷ pos 0 ∷ pos 0 ∷ pos (2 ^ 63 - 1) ∷ []) [] 1 ≡ Going
highest = simp gets

pub above_highest : stands (pos 3 ∷ pos 4 ∷ pos 0 ∷ negsuc 0 ∷ pos (2 ^ 63 - 1) ∷ []) [] 1 ≡ Fault 2
above_highest = simp gets

-- at address 2^63 - 4 there are three words, all 0: the run goes back to 0
pub last_address : (after (pos 3 ∷ pos 3 ∷ pos (2 ^ 63 - 4) ∷ []) [] 2).config.address ≡ pos 0
last_address = simp gets

-- one higher there aren't: fault 2
pub past_last_address : stands (pos 3 ∷ pos 3 ∷ pos (2 ^ 63 - 3) ∷ []) [] 2 ≡ Fault 2
past_last_address = simp gets

-- a text: the lowest number, a tab and a line feed between, zeros in front, and a blank behind
pub lowest_fits : SpellsCell (codes "-9223372036854775808") (negsuc (2 ^ 63 - 1))
lowest_fits = record { number = (omega arith, digits_decide (codes "9223372036854775808")); value = refl; fits = record { sfits = omega arith } }

seven : SpellsCell (codes "007") (pos 7)
seven = record { number = (omega arith, (omega arith, (omega arith, (omega arith, tt)))); value = refl; fits = record { sfits = omega arith } }

one : SpellsCell (codes "1") (pos 1)
one = record { number = (omega arith, (omega arith, tt)); value = refl; fits = record { sfits = omega arith } }

pub numbers_are_spelled : sq_spells (codes "1\t\n007 ") (pos 1 ∷ pos 7 ∷ [])
numbers_are_spelled = (
  codes " ",
  (
    [],
    codes "1",
    codes "\t\n007 ",
    record { whole = refl; separators = tt; unbroken = (omega arith, (refl, tt)); parted = refl },
    one,
    (codes "\t\n", codes "007", codes " ", record { whole = refl; separators = (refl, (refl, tt)); unbroken = (omega arith, (refl, (refl, (refl, tt)))); parted = refl }, seven, refl),
  ),
  (refl, tt),
)

-- `1 x` is refused at the third byte, for a piece that is no number
pub letter_is_no_number : IsRefused (codes "1 x") (BadNumber 2)
letter_is_no_number = record {
  cells = pos 1 ∷ [];
  tail = codes " x";
  before = ([], codes "1", codes " x", record { whole = refl; separators = tt; unbroken = (omega arith, (refl, tt)); parted = refl }, one, refl);
  gap = codes " ";
  piece = codes "x";
  rest = [];
  begins = record { whole = refl; separators = (refl, tt); unbroken = (omega arith, (refl, tt)); parted = tt };
  wrong = (refl, λ n. omega (arith, n.1.0));
}

-- a `-` by itself is no number, and no sign but `-` stands before one
pub minus_alone : IsRefused (codes "-") (BadNumber 0)
minus_alone = record {
  cells = [];
  tail = codes "-";
  before = refl;
  gap = [];
  piece = codes "-";
  rest = [];
  begins = record { whole = refl; separators = tt; unbroken = (omega arith, (refl, tt)); parted = tt };
  wrong = (refl, λ n. omega (arith, n.0));
}

pub plus_one : IsRefused (codes "+1") (BadNumber 0)
plus_one = record {
  cells = [];
  tail = codes "+1";
  before = refl;
  gap = [];
  piece = codes "+1";
  rest = [];
  begins = record { whole = refl; separators = tt; unbroken = (omega arith, (refl, (refl, tt))); parted = tt };
  wrong = (refl, λ n. omega (arith, n.1.0));
}

-- one above the highest number
pub above_the_highest : IsRefused (codes " 9223372036854775808") (NumberRange 1)
above_the_highest = record {
  cells = [];
  tail = codes " 9223372036854775808";
  before = refl;
  gap = codes " ";
  piece = codes "9223372036854775808";
  rest = [];
  begins = record {
    whole = refl;
    separators = (refl, tt);
    unbroken = (omega arith, unbroken (codes "9223372036854775808") (digits_decide (codes "9223372036854775808")));
    parted = tt;
  };
  wrong = (refl, (omega arith, digits_decide (codes "9223372036854775808")), λ f. omega (arith, f.sfits));
}
