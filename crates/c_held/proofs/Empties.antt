-- Whether a row is empty.
use Rattle.std.proofs.Common.{◌≡◌, ◌<◌, ℕ, suc, List, [], ◌∷◌, Bool, true, false, nat_lt, length, drop, get_or, refl, sym, ap, arith}
use Rattle.std.proofs.lemmas.Bool.Decides.{nat_tests}
use Rattle.c_grammar.specs.Tree.{Several, is_none, none, more}
use Rattle.c_grammar.specs.Values.{meanings_of}
use Rattle.c_held.specs.View.{meaning_of, row_of}
use Rattle.c_held.specs.declared.value.Made.{Made}

pub row_with_none : (xs : List Made) → false ≡ nat_lt 0 (length xs) → true ≡ is_none (Several (meanings_of (row_of xs)))
row_with_none [] h = refl
row_with_none (x ∷ xs) h =
    let test : nat_lt 0 (suc (length xs)) ≡ true = grind (arith, nat_tests) in
    absurd (cc (h, test))

pub row_with_some : (xs : List Made) → true ≡ nat_lt 0 (length xs) → false ≡ is_none (Several (meanings_of (row_of xs)))
row_with_some [] h = absurd (cc (h))
row_with_some (x ∷ xs) h = refl

pub begins_with_none : (xs : List Made) → length xs ≡ 0 → meanings_of (row_of xs) ≡ none
begins_with_none [] h = refl
begins_with_none (x ∷ xs) h = absurd (omega (arith, h))

pub begins_with : (xs : List Made) (x : Made) → 0 < length xs → x ≡ get_or xs 0 x → meanings_of (row_of xs) ≡ more (meaning_of x.meaning) (meanings_of (row_of (drop 1 xs)))
begins_with [] x l h = absurd (omega (arith, l))
begins_with (y ∷ xs) x l h = ap (λ z. more (meaning_of z.meaning) (meanings_of (row_of xs))) (sym h)
