-- Folding: the operations of a block, with the constants that are known where they stand.
use Rattle.std.specs.Prelude.{ℕ, ◌%◌, ◌^◌, cond, List, [], ◌∷◌, Option, Some, None}
use Rattle.std.specs.Option.{option_map_or}
use Rattle.std.proofs.Common.{lit<}
use Rattle.std.proofs.Math.Nat.{mod-lt}
use Rattle.word24.specs.declared.word.Word.{Word}
use Rattle.word24.specs.Word.{number_of, sum_word, difference_word}
use Rattle.eir_core.specs.declared.ops.Reg.{Reg}
use Rattle.eir_core.specs.declared.ops.Operand.{Operand}
use Rattle.eir_core.specs.declared.ops.Operand.TheVariants.{Reg as register, Imm}
use Rattle.eir_core.specs.declared.ops.Cond.{Cond}
use Rattle.eir_core.specs.declared.ops.Op.{Op}
use Rattle.eir_core.specs.declared.ops.Op.TheVariants.{Mov, Add, Sub, Load, Store, Putc, Getc, Exit, Set, Jump, JumpIf}
use Rattle.eir_core.specs.Step.{holds}
use Rattle.eir_opt.specs.declared.by_register.ByRegister.{ByRegister}
use Rattle.eir_opt.specs.ByRegister.{at, with_at, everywhere}

-- the word that each register is known to hold, if any
abbrev pub Known : Type 0
Known = ByRegister (Option Word)

-- at the front of a block no register is known
abbrev pub none_known : Known
none_known = everywhere None

-- the word that a number is modulo 2^24
abbrev pub wrapped : ℕ → Word
wrapped n = record { value = n % 2 ^ 24; in_range = mod-lt n (lit< tt) }

-- the word that an operand is known to stand for, if any
abbrev pub constant_in : Known → Operand → Option Word
constant_in known (register r) = at known r
constant_in known (Imm w) = Some w

-- an operand: a register that is known becomes its constant
abbrev pub operand_in : Known → Operand → Operand
operand_in known v = option_map_or Imm (constant_in known v) v

-- the word that is made of two, where both are known
abbrev pub made : (ℕ → ℕ → ℕ) → Option Word → Option Word → Option Word
made f (Some x) (Some y) = Some (wrapped (f (number_of x) (number_of y)))
made f (Some x) None = None
made f None y = None

-- 1 where the comparison holds, else 0
abbrev pub told : Cond → ℕ → ℕ → ℕ
told test x y = cond (holds test x y) 1 0

-- a Mov of the result where it is known, and else the operation
abbrev pub mov_or : Reg → Option Word → Op → Op
mov_or r (Some w) op = Mov r (Imm w)
mov_or r None op = op

-- an operation where these registers are known: each known operand becomes its constant, and an Add, Sub or Set of
-- a known register and a constant becomes a Mov of the result
abbrev pub folded_op : Known → Op → Op
folded_op known (Mov r v) = Mov r (operand_in known v)
folded_op known (Add r v) = mov_or r (made sum_word (at known r) (constant_in known v)) (Add r (operand_in known v))
folded_op known (Sub r v) = mov_or r (made difference_word (at known r) (constant_in known v)) (Sub r (operand_in known v))
folded_op known (Load r v) = Load r (operand_in known v)
folded_op known (Store r v) = Store r (operand_in known v)
folded_op known (Putc v) = Putc (operand_in known v)
folded_op known (Getc r) = Getc r
folded_op known Exit = Exit
folded_op known (Set test r v) = mov_or r (made (told test) (at known r) (constant_in known v)) (Set test r (operand_in known v))
folded_op known (Jump target) = Jump (operand_in known target)
folded_op known (JumpIf test target r v) = JumpIf test (operand_in known target) r (operand_in known v)

-- the constant that an operand is, if it is one
abbrev pub constant_of : Operand → Option Word
constant_of (register r) = None
constant_of (Imm w) = Some w

-- after a Mov of a constant the register is known, and after each other operation that sets its register it is not
abbrev pub known_after : Known → Op → Known
known_after known (Mov r v) = with_at known r (constant_of v)
known_after known (Add r v) = with_at known r None
known_after known (Sub r v) = with_at known r None
known_after known (Load r v) = with_at known r None
known_after known (Getc r) = with_at known r None
known_after known (Set test r v) = with_at known r None
known_after known op = known

-- operations from a place on where these registers are known
abbrev pub folded_from : Known → List Op → List Op
folded_from known [] = []
folded_from known (op ∷ ops) = folded_op known op ∷ folded_from (known_after known (folded_op known op)) ops

-- the operations of a block
abbrev pub folded : List Op → List Op
folded ops = folded_from none_known ops
