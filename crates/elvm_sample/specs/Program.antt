-- The sample program of so many blocks.
use Rattle.std.specs.Prelude.{ℕ, ◌+◌, ◌*◌, ◌%◌, ◌^◌, List, [], ◌∷◌, map}
use Rattle.std.specs.List.{range_with_len}
use Rattle.std.proofs.Common.{lit<}
use Rattle.std.proofs.Math.Nat.{mod-lt}
use Rattle.word24.specs.declared.word.Word.{Word}
use Rattle.eir_core.specs.declared.ops.Reg.TheVariants.{A, B}
use Rattle.eir_core.specs.declared.ops.Operand.{Operand}
use Rattle.eir_core.specs.declared.ops.Operand.TheVariants.{Reg as register, Imm}
use Rattle.eir_core.specs.declared.ops.Op.{Op}
use Rattle.eir_core.specs.declared.ops.Op.TheVariants.{Add, Store, Load, Putc, Jump}
use Rattle.eir_core.specs.Eir.{Eir}

-- the word that a number is modulo 2^24
abbrev pub wrapped : ℕ → Word
wrapped number = record { value = number % 2 ^ 24; in_range = mod-lt number (lit< tt) }

-- the operand that is this word
abbrev pub constant : ℕ → Operand
constant number = Imm (wrapped number)

-- the block of this number: adds a constant to A, stores and loads the sum, writes it, and goes to the next block
abbrev pub sample_block : ℕ → List Op
sample_block k =
    Add A (constant ((7 * k + 3) % 251))
    ∷ Store A (constant k)
    ∷ Load B (constant k)
    ∷ Putc (register B)
    ∷ Jump (constant (k + 1))
    ∷ []

-- the blocks of the numbers below n, with no data and the start 0
abbrev pub sample_program : ℕ → Eir
sample_program n = record { blocks = map sample_block (range_with_len 0 n); words = []; start = 0 }
