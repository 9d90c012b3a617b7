-- How long the tree of choices is.
use Rattle.std.proofs.Common.{◌≡◌, ℕ, zero, suc, ◌+◌, ◌-◌, ◌*◌, ◌^◌, ◌<◌, ◌≤◌, true, false, nat_le, List, [], ◌∷◌, ◌++◌, length, take, drop, refl, sym, ap, subst, ◌∙◌, arith, add-one, length-append, length-drop}
use Rattle.std.proofs.lemmas.Bool.{leb-true, leb-false}
use Rattle.std.proofs.lemmas.Grind.{pow_more}
use Rattle.std.proofs.lemmas.Nat.{pow_pos}
use Rattle.bf_lang.specs.declared.command.Command.{Command}
use Rattle.bf_tape.specs.Code.{goto_code, if_code}
use Rattle.bf_tape.proofs.Added.{length-many}
use Rattle.bf_choice.specs.Choice.{bit_cell, spare_cell, tree_code, weight, TreesAreShort}

if_short : (d : ℕ) (this other : List Command) → d < 14 → length (if_code 0 (bit_cell d) (spare_cell d) this other ++ goto_code (spare_cell d) 0) ≤ length this + length other + 264
if_short d this other ld = simp (length-append, length-many) (omega arith)

double : (d : ℕ) → 2 ^ suc d ≡ 2 ^ d * 2
double d = ap (λ n. 2 ^ n) (sym (add-one d)) ∙ pow_more 2 d

weight_split : (n : ℕ) (arms : List (List Command)) → weight (take n arms) + weight (drop n arms) ≡ weight arms
weight_split zero arms = omega arith
weight_split (suc n) [] = refl
weight_split (suc n) (a ∷ arms) = let more = weight_split n arms in omega (arith, more)

none_there : (d : ℕ) → tree_code d [] ≡ []
none_there zero = refl
none_there (suc d) = refl

past_end : (n : ℕ) (arms : List (List Command)) → length arms ≤ n → drop n arms ≡ []
past_end zero [] le = refl
past_end zero (a ∷ arms) le = absurd (omega arith)
past_end (suc n) [] le = refl
past_end (suc n) (a ∷ arms) le = past_end n arms (omega arith)

whole_front : (n : ℕ) (arms : List (List Command)) → length arms ≤ n → take n arms ≡ arms
whole_front zero [] le = refl
whole_front zero (a ∷ arms) le = absurd (omega arith)
whole_front (suc n) [] le = refl
whole_front (suc n) (a ∷ arms) le = ap (λ l. a ∷ l) (whole_front n arms (omega arith))

front_length : (n : ℕ) (arms : List (List Command)) → n ≤ length arms → length (take n arms) ≡ n
front_length zero arms le = refl
front_length (suc n) [] le = absurd (omega arith)
front_length (suc n) (a ∷ arms) le = ap suc (front_length n arms (omega arith))

-- as many pieces as there are numbers
full : (d : ℕ) (arms : List (List Command)) → d ≤ 14 → length arms ≡ 2 ^ d → length (tree_code d arms) + 264 ≤ weight arms + 264 * length arms
full zero [] ld e = absurd (omega (arith, e))
full zero (a ∷ arms) ld e = omega (arith, e)
full (suc d) [] ld e = absurd (omega (arith, e, double d, pow_pos d))
full (suc d) (a ∷ rest) ld e =
    let arms : List (List Command) = a ∷ rest in
    let n : ℕ = 2 ^ d in
    let all : length arms ≡ n * 2 = e ∙ double d in
    let low_long : length (take n arms) ≡ n = front_length n arms (omega (arith, all)) in
    let high_long : length (drop n arms) ≡ n = length-drop n arms ∙ omega (arith, all) in
    let low = full d (take n arms) (omega arith) low_long in
    let high = full d (drop n arms) (omega arith) high_long in
    let both = if_short d (tree_code d (drop n arms)) (tree_code d (take n arms)) (omega arith) in
    let split = weight_split n arms in
    omega (arith, all, low_long, high_long, low, high, both, split)

pub short : TreesAreShort
short zero [] ld le = omega arith
short zero (a ∷ arms) ld le = omega arith
short (suc d) [] ld le = omega arith
short (suc d) (a ∷ rest) ld le =
    let arms : List (List Command) = a ∷ rest in
    let n : ℕ = 2 ^ d in
    let both = if_short d (tree_code d (drop n arms)) (tree_code d (take n arms)) (omega arith) in
    elim (nat_le (length arms) n) as (λ t. nat_le (length arms) n ≡ t → length (if_code 0 (bit_cell d) (spare_cell d) (tree_code d (drop n arms)) (tree_code d (take n arms)) ++ goto_code (spare_cell d) 0) ≤ weight arms + 264 * (length arms + suc d)) [
      | true ↦ λ t.
          let few : length arms ≤ n = leb-true (length arms) n t in
          let high : length (tree_code d (drop n arms)) ≡ 0 = ap (λ l. length (tree_code d l)) (past_end n arms few) ∙ ap length (none_there d) in
          let low : length (tree_code d (take n arms)) ≤ weight arms + 264 * (length arms + d) = subst (λ l. length (tree_code d l) ≤ weight arms + 264 * (length arms + d)) (sym (whole_front n arms few)) (short d arms (omega arith) few) in
          omega (arith, both, high, low)
      | false ↦ λ t.
          let many : n < length arms = leb-false (length arms) n t in
          let low_long : length (take n arms) ≡ n = front_length n arms (omega (arith, many)) in
          let high_long : length (drop n arms) ≡ length arms - n = length-drop n arms in
          let low = full d (take n arms) (omega arith) low_long in
          let high = short d (drop n arms) (omega arith) (omega (arith, high_long, le, double d)) in
          let split = weight_split n arms in
          omega (arith, both, low, high, low_long, high_long, many, split)
    ] refl
