-- The program of EIR to which a program of C is compiled, and what it shows.
use Rattle.std.specs.Prelude.{ℕ, ◌+◌, ◌*◌, ◌^◌, List}
use Rattle.eir_core.specs.Eir.{Eir}
use Rattle.c_syntax.specs.Plain.{CUnit}
use Rattle.c_types.specs.Limits.{weight_of}
use Rattle.c_eval.specs.Meaning.{meaning_of}
use Rattle.c_valid.specs.Valid.{AreBytes}
use Rattle.c_helpers.specs.Simple.{desugared}
use Rattle.c_lowered.specs.Whole.{lowered}
use Rattle.c_followed.specs.Faithful.{IsFaithful}

-- the program to which a typed tree is compiled: operators become calls of helper functions, and the tree is lowered
abbrev pub compiled : CUnit → Eir
compiled u = lowered (desugared u)

-- how many of its steps so much fuel stands for at most: 2^20 for each unit and one more, times the text's weight and one more
abbrev pub steps_for : CUnit → (fuel : ℕ) → ℕ
steps_for u fuel = 2 ^ 20 * (weight_of u + 1) * (fuel + 1)

-- what is emitted shows the program's output and taken bytes within these steps, and, short of an undefined act, no earlier than units are spent, and ends where the program does
abbrev pub IsCompiled : CUnit → List ℕ → Type 0
IsCompiled u input = (fuel : ℕ) → IsFaithful (compiled u) input fuel (steps_for u fuel) (meaning_of u input fuel)

-- so it is on each input of bytes
abbrev pub IsCompiledOnBytes : CUnit → Type 0
IsCompiledOnBytes u = (input : List ℕ) → AreBytes input → IsCompiled u input
