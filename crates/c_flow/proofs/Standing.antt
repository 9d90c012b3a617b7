-- Code that stands in a program.
use Rattle.std.proofs.Common.{◌≡◌, ℕ, suc, ◌+◌, List, [], ◌∷◌, ◌++◌, length, Some, subst, arith, length-append}
use Rattle.std.specs.Prelude.{slice_get}
use Rattle.c_code.specs.Code.{Instruction}
use Rattle.c_code.specs.Machine.{Program}

abbrev pub Stands : Program → ℕ → List Instruction → Type 0
Stands p at [] = Unit {0}
Stands p at (i ∷ is) = (slice_get p.instructions at ≡ Some i) × Stands p (suc at) is

pub stands_first : (p : Program) (at : ℕ) (xs ys : List Instruction) → Stands p at (xs ++ ys) → Stands p at xs
stands_first p at [] ys s = tt
stands_first p at (x ∷ xs) ys s = (s.0, stands_first p (suc at) xs ys s.1)

pub stands_rest : (p : Program) (at mid : ℕ) (xs ys : List Instruction) → mid ≡ at + length xs → Stands p at (xs ++ ys) → Stands p mid ys
stands_rest p at mid [] ys e s = let f : at ≡ mid = omega (arith, e) in subst (λ k. Stands p k ys) f s
stands_rest p at mid (x ∷ xs) ys e s = stands_rest p (suc at) mid xs ys (further e) s.1
  where
    further : mid ≡ at + length (x ∷ xs) → mid ≡ suc at + length xs
    further e = omega (arith, e)

pub stands_at : (p : Program) (at to : ℕ) (is : List Instruction) → at ≡ to → Stands p at is → Stands p to is
stands_at p at to is e s = subst (λ k. Stands p k is) e s

-- where code ends
pub end_place : (at to : ℕ) (is js : List Instruction) → to ≡ at + length (is ++ js) → to ≡ (at + length is) + length js
end_place at to is js e = let l : length (is ++ js) ≡ length is + length js = length-append is js in omega (arith, e, l)

pub one_on : (at to : ℕ) → to ≡ at + 1 → suc at ≡ to
one_on at to e = omega (arith, e)

pub none_on : (at to : ℕ) → to ≡ at + 0 → at ≡ to
none_on at to e = omega (arith, e)

pub behind_one : (at to : ℕ) (is : List Instruction) (i : Instruction) → to ≡ at + length (is ++ i ∷ []) → suc (at + length is) ≡ to
behind_one at to is i e = let l : length (is ++ i ∷ []) ≡ length is + 1 = length-append is (i ∷ []) in omega (arith, e, l)

pub behind_two : (at to : ℕ) (is js : List Instruction) (i : Instruction) → to ≡ at + length (is ++ (js ++ i ∷ [])) → suc ((at + length is) + length js) ≡ to
behind_two at to is js i e =
    let k : length (is ++ (js ++ i ∷ [])) ≡ length is + length (js ++ i ∷ []) = length-append is (js ++ i ∷ []) in
    let l : length (js ++ i ∷ []) ≡ length js + 1 = length-append js (i ∷ []) in
    omega (arith, e, k, l)
