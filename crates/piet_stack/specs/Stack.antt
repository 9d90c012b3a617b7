-- What lies on the stack.
-- It serves the proofs alone: what an emission promises names none of it.
use Rattle.std.specs.Prelude.{◌≡◌, ℕ, zero, suc, ◌+◌, ◌-◌, ◌*◌, ◌^◌, ◌<◌, ◌≤◌, cond, List, [], ◌∷◌, ◌++◌, ℤ, pos}
use Rattle.word24.specs.Word.{near, is_high}
use Rattle.eir_core.specs.Memory.{Memory, word_at}
use Rattle.eir_core.specs.Step.{Regs}

-- the registers, the first one on top
abbrev pub regs_stack : Regs → List ℤ
regs_stack r = pos r.a ∷ pos r.b ∷ pos r.c ∷ pos r.d ∷ pos r.sp ∷ pos r.bp ∷ []

-- so many pairs of words, each of one from the start and one from the end
abbrev pub pairs : (ℕ → ℕ) → ℕ → List ℤ
pairs word zero = []
pairs word (suc n) = pairs word n ++ pos (word n) ∷ pos (word (2 ^ 24 - 1 - n)) ∷ []

-- the place of a word among the pairs
abbrev pub place_of : ℕ → ℕ
place_of v = 2 * near v + cond (is_high v) 1 0

-- the number of pairs, the registers, and the words of memory in pairs
abbrev pub laid : Regs → Memory → ℕ → List ℤ
laid regs memory n = pos n ∷ (regs_stack regs ++ pairs (word_at memory) n)

-- words that lie in no pair are 0
pub record HasPairs (memory : Memory) (n : ℕ) : Type 0 where
  pub few : n ≤ 2 ^ 23
  pub rest : (v : ℕ) → v < 2 ^ 24 → n ≤ near v → word_at memory v ≡ 0
