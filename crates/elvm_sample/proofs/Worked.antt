-- Samples, worked out by the definitions.
use Rattle.std.proofs.Common.{◌≡◌, ℕ, ◌^◌, ◌<◌, ◌∙◌, List, [], ◌∷◌, length, get_or, codes, Some, None, refl, ap, arith}
use Rattle.std.specs.Fmt.{decimal}
use Rattle.std.specs.FinMap as map
use Rattle.std.specs.FinMap.{gets}
use Rattle.std.specs.Str.Parse.{AllDigits, IsNumeral, digits_value}
use Rattle.std.proofs.lemmas.Fmt.{decimal-digits_value, decimal_digit}
use Rattle.std.proofs.lemmas.Str.Parse.{numerals_by_value, tells_digits}
use Rattle.mach_core.specs.declared.machine.Status.TheVariants.{Going, Ended}
use Rattle.mach_core.specs.Rule.{Moment, run, run_from}
use Rattle.eir_core.specs.declared.ops.Reg.TheVariants.{A, B}
use Rattle.eir_core.specs.declared.ops.Operand.TheVariants.{Reg as register}
use Rattle.eir_core.specs.declared.ops.Op.TheVariants.{Add, Store, Load, Putc, Jump}
use Rattle.eir_core.specs.Eir.{size_of}
use Rattle.eir_core.specs.Memory.{Memory}
use Rattle.eir_core.specs.Step.{Config, eir_rule, eir_start}
use Rattle.elvm_sample.specs.Program.{constant, sample_block, sample_program}
use Rattle.elvm_sample.specs.Line.{last_of, sample_line}
use Rattle.elvm_sample.specs.Sample.{sample_output}

-- the program of no block is nothing, and has ended at once
pub nothing : sample_program 0 ≡ record { blocks = []; words = []; start = 0 }
nothing = refl

pub nothing_ends : (eir_rule (sample_program 0)).standing (eir_start (sample_program 0)) ≡ Ended
nothing_ends = refl

pub nothing_is_written : last_of (sample_output 0) ≡ None
nothing_is_written = refl

-- the blocks of the numbers 0 and 1: each leads to the next, the last one to the number without a block
pub two_blocks : sample_program 2 ≡ record {
  blocks =
      (Add A (constant 3) ∷ Store A (constant 0) ∷ Load B (constant 0) ∷ Putc (register B) ∷ Jump (constant 1) ∷ [])
      ∷ (Add A (constant 10) ∷ Store A (constant 1) ∷ Load B (constant 1) ∷ Putc (register B) ∷ Jump (constant 2) ∷ []) ∷ [];
  words = [];
  start = 0;
}
two_blocks = refl

-- what a block adds is below 251: 7 * 36 + 3 is 255
pub constant_wraps : sample_block 36 ≡ Add A (constant 4) ∷ Store A (constant 36) ∷ Load B (constant 36) ∷ Putc (register B) ∷ Jump (constant 37) ∷ []
constant_wraps = refl

pub three_blocks_size : size_of (sample_program 3) ≡ 18
three_blocks_size = refl

-- A grows from block to block: 3, 3 + 10, 3 + 10 + 17
pub one_block_writes : sample_output 1 ≡ 3 ∷ []
one_block_writes = simp gets

-- at the front of a block of three, with these words in A and B
abbrev front : ℕ → ℕ → ℕ → Memory → List ℕ → Moment Config
front k a b memory output = record {
  config = record { block = k; index = 0; regs = record { a = a; b = b; c = 0; d = 0; sp = 0; bp = 0 }; memory = memory };
  taken = 0;
  output = output;
}

abbrev five_steps : Moment Config → Moment Config
five_steps m = run_from (eir_rule (sample_program 3)) [] m 5

first_block : (m : Memory) → five_steps (front 0 0 0 m []) ≡ front 1 3 3 (map.insert m 0 3) (3 ∷ [])
first_block m = simp gets

second_block : (m : Memory) → five_steps (front 1 3 3 m (3 ∷ [])) ≡ front 2 13 13 (map.insert m 1 13) (3 ∷ 13 ∷ [])
second_block m = simp gets

third_block : (m : Memory) → five_steps (front 2 13 13 m (3 ∷ 13 ∷ [])) ≡ front 3 30 30 (map.insert m 2 30) (3 ∷ 13 ∷ 30 ∷ [])
third_block m = simp gets

pub three_blocks_write : sample_output 3 ≡ 3 ∷ 13 ∷ 30 ∷ []
three_blocks_write =
    let m1 : Memory = map.insert map.empty 0 3 in
    ap (λ (m : Moment Config). (five_steps (five_steps m)).output) (first_block map.empty)
    ∙ (ap (λ (m : Moment Config). (five_steps m).output) (second_block m1) ∙ ap (λ (m : Moment Config). m.output) (third_block (map.insert m1 1 13)))

-- the fourteenth step goes on, and the fifteenth ends it
pub fourteen_steps : (eir_rule (sample_program 3)).standing (run (eir_rule (sample_program 3)) (eir_start (sample_program 3)) [] 14).config ≡ Going
fourteen_steps = refl

pub fifteen_steps : (eir_rule (sample_program 3)).standing (run (eir_rule (sample_program 3)) (eir_start (sample_program 3)) [] 15).config ≡ Ended
fifteen_steps = refl

-- digits without zeros in front are the decimal text of their number
digits_are : (ds : List ℕ) → IsNumeral 10 ds → (get_or ds 0 0 ≡ 48 → length ds ≡ 1) → digits_value 10 ds < 2 ^ 64 → decimal (digits_value 10 ds) ≡ ds
digits_are ds n zeros small = decimal-digits_value (numerals_by_value (AllDigits 10) tells_digits) ds n.1 n.0 zeros small

decimal_18 : decimal 18 ≡ codes "18"
decimal_18 = digits_are (codes "18") (omega arith, (omega arith, (omega arith, tt))) (λ z. cc) (omega arith)

decimal_15 : decimal 15 ≡ codes "15"
decimal_15 = digits_are (codes "15") (omega arith, (omega arith, (omega arith, tt))) (λ z. cc) (omega arith)

decimal_30 : decimal 30 ≡ codes "30"
decimal_30 = digits_are (codes "30") (omega arith, (omega arith, (omega arith, tt))) (λ z. cc) (omega arith)

decimal_66 : decimal 66 ≡ codes "66"
decimal_66 = digits_are (codes "66") (omega arith, (omega arith, (omega arith, tt))) (λ z. cc) (omega arith)

decimal_454 : decimal 454 ≡ codes "454"
decimal_454 = digits_are (codes "454") (omega arith, (omega arith, (omega arith, (omega arith, tt)))) (λ z. cc) (omega arith)

decimal_20 : decimal 20 ≡ codes "20"
decimal_20 = digits_are (codes "20") (omega arith, (omega arith, (omega arith, tt))) (λ z. cc) (omega arith)

-- the lines of no block and of three, for texts of 20 and of 454 bytes that take 3 and 66 steps
pub line_of_none : sample_line 0 None 20 3 ≡ codes "sample 0 size 0 steps 0 bytes 0 last - text 20 moves 3 same\n"
line_of_none = simp (decimal_digit 0 (omega arith), decimal_digit 3 (omega arith), decimal_20)

pub line_of_three : sample_line 3 (Some 30) 454 66 ≡ codes "sample 3 size 18 steps 15 bytes 3 last 30 text 454 moves 66 same\n"
line_of_three = simp (decimal_digit 3 (omega arith), decimal_18, decimal_15, decimal_30, decimal_454, decimal_66)
