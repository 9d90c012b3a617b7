-- That the numbers in the line of a sample are those of its program.
use Rattle.std.specs.Prelude.{◌≡◌, ℕ, ◌*◌, ◌≤◌, List, length}
use Rattle.mach_core.specs.Rule.{run}
use Rattle.eir_core.specs.Eir.{IsEir, size_of}
use Rattle.eir_core.specs.Step.{eir_rule, eir_start}
use Rattle.elvm_sample.specs.Program.{sample_program}
use Rattle.elvm_sample.specs.Ends.{EndsAfter}

-- a sample of n blocks has the size 6 n
abbrev pub SamplesHaveTheirSize : Type 0
SamplesHaveTheirSize = (n : ℕ) → size_of (sample_program n) ≡ 6 * n

-- it is a program
abbrev pub SamplesArePrograms : Type 0
SamplesArePrograms = (n : ℕ) → n ≤ 20000 → IsEir (sample_program n)

-- on every input it ends after 5 n steps and not before
abbrev pub SamplesEnd : Type 0
SamplesEnd = (n : ℕ) (input : List ℕ) → n ≤ 20000 → EndsAfter (eir_rule (sample_program n)) (eir_start (sample_program n)) input (5 * n)

-- on every input it writes n bytes and takes none
pub record WritesSoMany (n : ℕ) (input : List ℕ) : Type 0 where
  pub written : length (run (eir_rule (sample_program n)) (eir_start (sample_program n)) input (5 * n)).output ≡ n
  pub taken : (run (eir_rule (sample_program n)) (eir_start (sample_program n)) input (5 * n)).taken ≡ 0

abbrev pub SamplesWrite : Type 0
SamplesWrite = (n : ℕ) (input : List ℕ) → n ≤ 20000 → WritesSoMany n input
