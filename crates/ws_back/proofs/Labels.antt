-- The labels differ, and lead to their marks.
use Rattle.std.proofs.Common.{◌||◌, ◌≡◌, ◌≢◌, ℕ, zero, suc, ◌+◌, ◌*◌, ◌/◌, ◌%◌, ◌^◌, ◌<◌, Bool, true, false, cond, nat_eq, List, [], ◌∷◌, ◌++◌, length, drop, Contains, refl, sym, ap, subst, ◌∙◌, arith}
use Rattle.std.proofs.lemmas.Bool.{eqb-true}
use Rattle.std.proofs.lemmas.Bool.Decides.{nat_tests}
use Rattle.std.specs.List.{list_any}
use Rattle.std.proofs.lemmas.List.{length-drop}
use Rattle.std.proofs.lemmas.List.Elements.{Contains-append_right}
use Rattle.std.proofs.lemmas.List.Sums.{fold-append}
use Rattle.std.proofs.Math.Nat.{pow-succ'}
use Rattle.ws_lang.specs.Instruction.{Label, Instruction, Mark, marks_of, marks, AreDistinct}
use Rattle.ws_lang.specs.Spelling.{binary}
use Rattle.ws_lang.specs.Step.{is_same_label, place_of}
use Rattle.ws_back.specs.Code.{digits, label}

one_digit : (n : ℕ) → 2 * (n / 2) + cond (nat_eq (n % 2) 1) 1 0 ≡ n
one_digit n = grind (arith, nat_tests)

-- the number of the digits of a number
pub binary-digits : (width n : ℕ) → n < 2 ^ width → binary (digits width n) ≡ n
unfolding digits
binary-digits zero n h = omega arith
binary-digits (suc width) n h =
    let p : 2 ^ suc width ≡ 2 * 2 ^ width = pow-succ' 2 width in
    let half : n / 2 < 2 ^ width = omega arith in
    elim (nat_eq n 0) as (λ b. nat_eq n 0 ≡ b → binary (cond b [] (digits width (n / 2) ++ nat_eq (n % 2) 1 ∷ [])) ≡ n) [
      | true ↦ λ e. sym (eqb-true n 0 e)
      | false ↦ λ e.
          fold-append (λ (v : ℕ) (bit : Bool). 2 * v + cond bit 1 0) 0 (digits width (n / 2)) (nat_eq (n % 2) 1 ∷ [])
          ∙ (ap (λ v. 2 * v + cond (nat_eq (n % 2) 1) 1 0) (binary-digits width (n / 2) half) ∙ one_digit n)
    ] refl

same_itself : (xs : Label) → is_same_label xs xs ≡ true
same_itself [] = refl
same_itself (true ∷ xs) = same_itself xs
same_itself (false ∷ xs) = same_itself xs

same_is : (xs ys : Label) → is_same_label xs ys ≡ true → xs ≡ ys
same_is [] [] e = refl
same_is [] (y ∷ ys) e = cc
same_is (x ∷ xs) [] e = cc
same_is (true ∷ xs) (true ∷ ys) e = ap (λ zs. true ∷ zs) (same_is xs ys e)
same_is (true ∷ xs) (false ∷ ys) e = cc
same_is (false ∷ xs) (true ∷ ys) e = cc
same_is (false ∷ xs) (false ∷ ys) e = ap (λ zs. false ∷ zs) (same_is xs ys e)

-- labels of two numbers are two
pub label-apart : (a b : ℕ) → a < 2 ^ 25 → b < 2 ^ 25 → a ≢ b → label a ≢ label b
label-apart a b ha hb ne e = ne (sym (binary-digits 25 a ha) ∙ (ap binary e ∙ binary-digits 25 b hb))

-- a label that isn't marked is no mark
unmarked_test : (l : Label) (ls : List Label) → (Contains ls l → ⊥) → list_any (λ marked. is_same_label marked l) ls ≡ false
unmarked_test l [] none = refl
unmarked_test l (x ∷ ls) none =
    elim (is_same_label x l) as (λ t. is_same_label x l ≡ t → (t || list_any (λ marked. is_same_label marked l) ls) ≡ false) [
      | true ↦ λ e. absurd (none (subst (Contains (x ∷ ls)) (same_is x l e) (0, omega arith, refl)))
      | false ↦ λ e. unmarked_test l ls (λ h. none (Contains-append_right (x ∷ []) ls l h))
    ] refl

-- a mark further on is one of the code
pub marked_there : (code : List Instruction) (l : Label) (k : ℕ) (xs : List Instruction) → drop k code ≡ Mark l ∷ xs → Contains (marks code) l
marked_there [] l k xs e = absurd (omega (arith, ap length e, length-drop {A = Instruction} k []))
marked_there (x ∷ code) l zero xs e = subst (λ is. Contains (marks is) l) (sym e) (0, omega arith, refl)
marked_there (x ∷ code) l (suc k) xs e = Contains-append_right (marks_of x) (marks code) l (marked_there code l k xs e)

-- lists without a member in common
distinct_parts : (xs ys : List Label) (l : Label) → AreDistinct (xs ++ ys) → Contains ys l → Contains xs l → ⊥
distinct_parts [] ys l d h (i, small, is) = absurd (omega arith)
distinct_parts (x ∷ xs) ys l d h (zero, small, is) = d.0 (Contains-append_right xs ys x (subst (Contains ys) (sym is) h))
distinct_parts (x ∷ xs) ys l d h (suc i, small, is) = distinct_parts xs ys l d.1 h (i, omega arith, is)

distinct_behind : (xs ys : List Label) → AreDistinct (xs ++ ys) → AreDistinct ys
distinct_behind [] ys d = d
distinct_behind (x ∷ xs) ys d = distinct_behind xs ys d.1

-- where each label is marked once, it leads to its mark
pub place_of-marked : (code : List Instruction) (l : Label) (k : ℕ) (xs : List Instruction) → AreDistinct (marks code) → drop k code ≡ Mark l ∷ xs → place_of l code ≡ k
place_of-marked [] l k xs d e = absurd (omega (arith, ap length e, length-drop {A = Instruction} k []))
place_of-marked (x ∷ code) l zero xs d e = ap (place_of l) e ∙ ap (λ t. cond (t || false) 0 (suc (place_of l xs))) (same_itself l)
place_of-marked (x ∷ code) l (suc k) xs d e =
    let other : list_any (λ marked. is_same_label marked l) (marks_of x) ≡ false = unmarked_test l (marks_of x) (distinct_parts (marks_of x) (marks code) l d (marked_there code l k xs e)) in
    ap (λ t. cond t 0 (suc (place_of l code))) other ∙ ap suc (place_of-marked code l k xs (distinct_behind (marks_of x) (marks code) d) e)
