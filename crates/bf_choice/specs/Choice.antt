-- One of many pieces, by the binary digits of its number.
use Rattle.std.specs.Prelude.{◌≡◌, ℕ, zero, suc, ◌+◌, ◌*◌, ◌/◌, ◌%◌, ◌^◌, ◌<◌, ◌≤◌, Bool, nat_eq, cond, List, [], ◌∷◌, ◌++◌, map, length, take, drop, Option, Some, None, Vec}
use Rattle.std.specs.declared.alloc.Global.{Global}
use Rattle.bf_lang.specs.declared.command.Command.{Command}
use Rattle.bf_lang.specs.Balance.{IsBalanced}
use Rattle.bf_tape.specs.Tape.{Tape, get, put}
use Rattle.bf_tape.specs.Piece.{moved}
use Rattle.bf_tape.specs.Does.{Does}
use Rattle.bf_tape.specs.Code.{goto_code, add_code, move_code, if_code}

-- the cell of a digit, and the one to spare for the choice on it
abbrev pub bit_cell : ℕ → ℕ
bit_cell i = 3 * i + 1

abbrev pub spare_cell : ℕ → ℕ
spare_cell i = 3 * i + 2

abbrev pub first_of : List (List Command) → List Command
first_of [] = []
first_of (a ∷ arms) = a

-- a choice on the highest digit between the pieces from there on and those before, and so on
abbrev pub tree_code : ℕ → List (List Command) → List Command
tree_code zero arms = first_of arms
tree_code (suc d) [] = []
tree_code (suc d) (a ∷ arms) =
    if_code 0 (bit_cell d) (spare_cell d) (tree_code d (drop (2 ^ d) (a ∷ arms))) (tree_code d (take (2 ^ d) (a ∷ arms))) ++ goto_code (spare_cell d) 0

-- the piece that digits name, the highest first
abbrev pub pick : ℕ → List Bool → List (List Command) → Option (List Command)
pick zero bs [] = None
pick zero bs (a ∷ arms) = Some a
pick (suc d) [] arms = None
pick (suc d) (b ∷ bs) arms = pick d bs (cond b (drop (2 ^ d) arms) (take (2 ^ d) arms))

-- the number of digits, the highest first
abbrev pub number_of : List Bool → ℕ
number_of [] = 0
number_of (b ∷ bs) = cond b (2 ^ length bs) 0 + number_of bs

-- digits in their cells, and no choice under way
abbrev pub chosen : ℕ → List Bool → Tape → Tape
chosen zero bs s = s
chosen (suc d) [] s = s
chosen (suc d) (b ∷ bs) s = chosen d bs (put (put s (bit_cell d) (cond b 1 0)) (spare_cell d) 0)

abbrev pub none_chosen : ℕ → Tape → Tape
none_chosen zero s = s
none_chosen (suc d) s = none_chosen d (put (put s (bit_cell d) 0) (spare_cell d) 0)

-- whatever these cells hold, the commands do this and leave them
abbrev pub Works : List ℕ → ℕ → List Command → Tape → Tape → ℕ → Type 0
Works input zero code s s' n = Does input code 0 s 0 s' n
Works input (suc d) code s s' n = (x y : ℕ) → Works input d code (put (put s (bit_cell d) x) (spare_cell d) y) (put (put s' (bit_cell d) x) (spare_cell d) y) n

abbrev pub AreBalanced : List (List Command) → Type 0
AreBalanced [] = Unit {0}
AreBalanced (a ∷ arms) = IsBalanced a × AreBalanced arms

-- the commands of pieces
abbrev pub codes : List (Vec Command Global) → List (List Command)
codes arms = map (λ a. a.items) arms

-- the piece that the digits name runs, and the digits are 0 afterwards
abbrev pub ChosenRuns : Type 0
ChosenRuns = (input : List ℕ) (d : ℕ) (bs : List Bool) (arms : List (List Command)) (a : List Command) (s s' : Tape) (n : ℕ) → length bs ≡ d → 3 * d ≤ 250 → AreBalanced arms → pick d bs arms ≡ Some a → Works input d a s s' n
    → Does input (tree_code d arms) 0 (chosen d bs s) 0 (none_chosen d s') (n + d * 9000)

-- the piece that the digits of a number name is the one of that number
abbrev pub PickIsByNumber : Type 0
PickIsByNumber = (d : ℕ) (bs : List Bool) (front rest : List (List Command)) (a : List Command) → length bs ≡ d → length front ≡ number_of bs → pick d bs (front ++ a ∷ rest) ≡ Some a

-- the commands of all pieces together
abbrev pub weight : List (List Command) → ℕ
weight [] = 0
weight (a ∷ arms) = length a + weight arms

-- the tree has the pieces' commands, and few more for each piece and each digit
abbrev pub TreesAreShort : Type 0
TreesAreShort = (d : ℕ) (arms : List (List Command)) → d ≤ 14 → length arms ≤ 2 ^ d → length (tree_code d arms) ≤ weight arms + 264 * (length arms + d)

-- the digits of a number, the highest first
abbrev pub digits_of : ℕ → ℕ → List Bool
digits_of zero n = []
digits_of (suc d) n = nat_eq (n / 2 ^ d % 2) 1 ∷ digits_of d n

-- the digits of a number for the next choice, in the third cell of each digit
abbrev pub aimed : ℕ → ℕ → Tape → Tape
aimed zero n s = s
aimed (suc d) n s = put (aimed d n s) (3 * d + 3) (n / 2 ^ d % 2)

-- where the head is behind as many digits, and the commands that aim at a number
abbrev pub digit_cell : ℕ → ℕ → ℕ
digit_cell h zero = h
digit_cell h (suc d) = 3 * d + 3

abbrev pub aim_code : ℕ → ℕ → ℕ → List Command
aim_code h zero n = []
aim_code h (suc d) n = aim_code h d n ++ add_code (digit_cell h d) (3 * d + 3) (n / 2 ^ d % 2)

-- the commands that make what was aimed at the choice
abbrev pub advance_code : ℕ → ℕ → List Command
advance_code h zero = []
advance_code h (suc d) = advance_code h d ++ move_code (digit_cell h d) (3 * d + 3) (3 * d + 1)

-- those cells are 0
abbrev pub AreFree : ℕ → Tape → Type 0
AreFree d s = (i : ℕ) → i < d → get s (3 * i + 3) ≡ 0

-- all cells of the digits are 0
abbrev pub AreBare : ℕ → Tape → Type 0
AreBare d s = (c : ℕ) → 1 ≤ c → c < 3 * d + 1 → get s c ≡ 0

-- the digits for the next choice become those of a choice
abbrev pub advanced : ℕ → Tape → Tape
advanced zero s = s
advanced (suc d) s = moved (advanced d s) (3 * d + 3) (3 * d + 1)

-- a number is the one of its digits
pub record DigitsAreANumbers : Type 0 where
  pub many : (d n : ℕ) → length (digits_of d n) ≡ d
  pub number : (d n : ℕ) → n < 2 ^ d → number_of (digits_of d n) ≡ n

-- what was aimed at is the choice after the digits advanced
abbrev pub AimIsTheNextChoice : Type 0
AimIsTheNextChoice = (d n : ℕ) (s : Tape) → AreBare d s → advanced d (aimed d n s) ≡ chosen d (digits_of d n) s

-- the tape at the piece that digits name: each digit in its cell, and each choice under way
abbrev pub chosen_at : ℕ → List Bool → Tape → Tape
chosen_at zero bs s = s
chosen_at (suc d) [] s = s
chosen_at (suc d) (b ∷ bs) s = chosen_at d bs (put (put s (bit_cell d) (cond b 1 0)) (spare_cell d) 1)

-- the digits are in their cells, and each choice is under way
abbrev pub StillChosen : ℕ → List Bool → Tape → Type 0
StillChosen zero bs t = Unit {0}
StillChosen (suc d) [] t = Unit {0}
StillChosen (suc d) (b ∷ bs) t = (get t (bit_cell d) ≡ cond b 1 0) × ((get t (spare_cell d) ≡ 1) × StillChosen d bs t)

-- the tree comes to where the piece that the digits name comes, with the digits 0
abbrev pub ChosenComes : Type 0
ChosenComes = (input : List ℕ) (d : ℕ) (bs : List Bool) (arms : List (List Command)) (a : List Command) (s t : Tape) (n : ℕ) → length bs ≡ d → 3 * d ≤ 240 → AreBalanced arms → pick d bs arms ≡ Some a
    → Does input a 0 (chosen_at d bs s) 0 t n → StillChosen d bs t → Does input (tree_code d arms) 0 (chosen d bs s) 0 (none_chosen d t) (n + d * 9000)
