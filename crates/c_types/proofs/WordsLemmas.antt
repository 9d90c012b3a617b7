-- Products of capped numbers.
use Rattle.std.proofs.Common.{◌≡◌, ◌⊎◌, ⊎_elim, ℕ, zero, suc, ◌+◌, ◌*◌, ◌<◌, ◌≤◌, min, arith, refl, ap, sym, ◌∙◌}
use Rattle.std.proofs.Math.Nat.{mul-le-mul_left}
use Rattle.std.proofs.Common.{◌%◌, ◌^◌}
use Rattle.std.proofs.lemmas.Nat.{mul-mod_first}
use Rattle.word24.specs.Word.{number_of}
use Rattle.c_types.specs.Limits.{most_words}
use Rattle.c_types.specs.declared.words.Words.{Words}
use Rattle.c_types.specs.Seen.{Counts}

order : (a b : ℕ) → (a ≤ b) ⊎ (b ≤ a)
order a b = grind arith

some_times : (count n cap : ℕ) → 0 < count → cap ≤ n → min (cap * count) cap ≡ min (count * n) cap
some_times count n cap some above =
    let more : count * cap ≤ count * n = mul-le-mul_left count above in
    let most : cap * 1 ≤ cap * count = mul-le-mul_left cap (omega arith) in
    omega arith

all_times : (count n cap : ℕ) → cap ≤ n → min (cap * count) cap ≡ min (count * n) cap
all_times zero n cap above = omega arith
all_times (suc count) n cap above = some_times (suc count) n cap (omega arith) above

-- a product of a number that is cut off at a cap is cut off as the number's own
pub min_times : (count n cap : ℕ) → min (min n cap * count) cap ≡ min (count * n) cap
min_times count n cap =
    ⊎_elim
    (λ below. let e : min n cap ≡ n = omega arith in ap (λ m. min (m * count) cap) e ∙ omega arith)
    (λ above. let e : min n cap ≡ cap = omega arith in ap (λ m. min (m * count) cap) e ∙ all_times count n cap above)
    (order n cap)

-- what the parts of a product count
pub times_counts : (w r : Words) (count n : ℕ) → number_of r.low ≡ number_of w.low * count % 2 ^ 24 → r.capped ≡ min (w.capped * count) (most_words + 1) → Counts w n → Counts r (count * n)
times_counts w r count n low capped counts = record {
  low = low ∙ (ap (λ m. m * count % 2 ^ 24) counts.low ∙ (mul-mod_first n count (2 ^ 24) ∙ ap (λ m. m % 2 ^ 24) (omega arith)));
  capped = capped ∙ (ap (λ m. min (m * count) (most_words + 1)) counts.capped ∙ min_times count n (most_words + 1));
}
