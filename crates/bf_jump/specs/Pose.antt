-- A comparison that a conditional jump asks for.
use Rattle.std.specs.Prelude.{◌≡◌, ℕ, ◌+◌, ◌-◌, ◌/◌, ◌%◌, ◌^◌, ◌<◌, Bool, true, false, not, cond, nat_eq, nat_lt, nat_le, List, [], ◌++◌}
use Rattle.word24.specs.Word.{number_of}
use Rattle.eir_core.specs.declared.ops.Reg.{Reg}
use Rattle.eir_core.specs.declared.ops.Operand.{Operand}
use Rattle.eir_core.specs.declared.ops.Operand.TheVariants.{Reg as register, Imm}
use Rattle.eir_core.specs.declared.ops.Cond.{Cond}
use Rattle.eir_core.specs.declared.ops.Cond.TheVariants.{Eq, Ne, Gt, Le}
use Rattle.eir_core.specs.Step.{holds}
use Rattle.bf_lang.specs.declared.command.Command.{Command}
use Rattle.bf_tape.specs.Tape.{Tape, get, put}
use Rattle.bf_tape.specs.Code.{add_code}
use Rattle.bf_word.specs.Word.{word_in, with_word}
use Rattle.bf_word.specs.WordCode.{equals_code}
use Rattle.bf_ops.specs.Frame.{cell_of, value_in, is_negated}
use Rattle.bf_ops.specs.OpsCode.{bring_code, bring_cell}

-- three cells are 0, and so is the first one behind each register's word
pub record IsReady (to : ℕ) (s : Tape) : Type 0 where
  pub word : word_in s to ≡ 0
  pub spares : (x : Reg) → get s (cell_of x + 3) ≡ 0

-- how far a byte is from 0, either way round; and a constant to which a register is compared where it stands
abbrev pub turns : ℕ → ℕ
turns b = cond (nat_lt 128 b) (256 - b) b

abbrev pub is_near : ℕ → Bool
is_near n = nat_le (turns (n % 256) + turns (n / 256 % 256) + turns (n / 65536 % 256)) 128

-- comparisons by equality, and those in which the value comes first
abbrev pub is_sameness : Cond → Bool
is_sameness Eq = true
is_sameness Ne = true
is_sameness _ = false

abbrev pub is_turned : Cond → Bool
is_turned Gt = true
is_turned Le = true
is_turned _ = false

abbrev pub is_told_near : Cond → ℕ → Bool
is_told_near test n = cond (is_sameness test) (is_near n) false

-- two words in the cells 87 to 89 and 97 to 99; the cell 47 tells that they are compared by equality, 49 what the answer is taken from, and 48 that something is asked
abbrev pub words_posed : Tape → ℕ → ℕ → Tape
words_posed s a b = with_word (with_word s 87 a) 97 b

abbrev pub told_of : Tape → ℕ → ℕ → Bool → Bool → Tape
told_of s a b same otherwise = put (put (words_posed s a b) 47 (cond same 1 0)) 49 (cond otherwise 1 0)

abbrev pub posed_as : Tape → ℕ → ℕ → Bool → Bool → Tape
posed_as s a b same otherwise = put (told_of s a b same otherwise) 48 1

-- a register and a value posed, and a register that was compared to a constant where it stands
abbrev pub posed_far : Cond → Reg → Operand → Tape → Tape
posed_far test x v s =
    cond (is_turned test) (posed_as s (value_in s v) (word_in s (cell_of x)) (is_sameness test) (is_negated test)) (posed_as s (word_in s (cell_of x)) (value_in s v) (is_sameness test) (is_negated test))

abbrev pub posed_near : Cond → Reg → ℕ → Tape → Tape
posed_near test x n s = posed_as s 0 (cond (is_negated test) 1 0) false (nat_eq (word_in s (cell_of x)) n)

abbrev pub posed : Cond → Reg → Operand → Tape → Tape
posed test x (register q) s = posed_far test x (register q) s
posed test x (Imm w) s = cond (is_told_near test (number_of w)) (posed_near test x (number_of w) s) (posed_far test x (Imm w) s)

-- what is told of two words
abbrev pub told : Bool → ℕ → ℕ → Bool → Bool
told same a b otherwise = let t = cond same (nat_eq a b) (nat_lt a b) in cond otherwise (not t) t

-- a comparison is posed such that what is told is whether it holds
pub record IsPosed (s t : Tape) (truth : Bool) : Type 0 where
  pub a : ℕ
  pub b : ℕ
  pub same : Bool
  pub otherwise : Bool
  pub is : t ≡ posed_as s a b same otherwise
  pub a_below : a < 2 ^ 24
  pub b_below : b < 2 ^ 24
  pub tells : told same a b otherwise ≡ truth

abbrev pub ComparisonsArePosed : Type 0
ComparisonsArePosed = (test : Cond) (x : Reg) (v : Operand) (s : Tape) → word_in s (cell_of x) < 2 ^ 24 → value_in s v < 2 ^ 24 → IsPosed s (posed test x v s) (holds test (word_in s (cell_of x)) (value_in s v))

-- the commands. `h` is the cell at which the head is before them
abbrev pub both_code : ℕ → Operand → Operand → List Command
both_code h x y = bring_code h x 87 ++ bring_code (bring_cell x 87) y 97

abbrev pub words_code : ℕ → Cond → Reg → Operand → List Command
words_code h test x v = cond (is_turned test) (both_code h v (register x)) (both_code h (register x) v)

abbrev pub words_cell : Cond → Reg → Operand → ℕ
words_cell test x v = cond (is_turned test) (bring_cell (register x) 97) (bring_cell v 97)

abbrev pub flag_code : ℕ → ℕ → Bool → List Command
flag_code h c on = cond on (add_code h c 1) []

abbrev pub flag_cell : ℕ → ℕ → Bool → ℕ
flag_cell h c on = cond on c h

abbrev pub far_code : ℕ → Cond → Reg → Operand → List Command
far_code h test x v =
    words_code h test x v
    ++ flag_code (words_cell test x v) 47 (is_sameness test)
    ++ flag_code (flag_cell (words_cell test x v) 47 (is_sameness test)) 49 (is_negated test)
    ++ add_code (flag_cell (flag_cell (words_cell test x v) 47 (is_sameness test)) 49 (is_negated test)) 48 1

abbrev pub near_code : ℕ → Bool → Reg → ℕ → List Command
near_code h otherwise x n = equals_code h (cell_of x) n 49 ++ flag_code (cell_of x + 2) 97 otherwise ++ add_code (flag_cell (cell_of x + 2) 97 otherwise) 48 1

abbrev pub pose_code : ℕ → Cond → Reg → Operand → List Command
pose_code h test x (register q) = far_code h test x (register q)
pose_code h test x (Imm w) = cond (is_told_near test (number_of w)) (near_code h (is_negated test) x (number_of w)) (far_code h test x (Imm w))
