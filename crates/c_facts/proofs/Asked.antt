-- What a parser asks of parts, by single ones.
use Rattle.std.proofs.Common.{◌≡◌, ℕ, zero, suc, ◌+◌, ◌-◌, List, [], ◌∷◌, Option, Some, None, Bool, true, false, refl, sym, ap, ◌∙◌, length, nat_lt, arith}
use Rattle.std.proofs.lemmas.Bool.Decides.{nat_tests}
use Rattle.std.specs.Prelude.{slice_get}
use Rattle.c_grammar.specs.Nesting.{operators_of}
use Rattle.c_grammar.specs.declared.names.Category.TheVariants.{Level}
use Rattle.c_grammar.specs.declared.names.Production.{Production}
use Rattle.c_grammar.specs.Values as values
use Rattle.c_held.specs.View.{value_at, values_of, row_of}
use Rattle.c_held.specs.declared.value.Made.{Made}
use Rattle.c_held.specs.declared.value.Value.{Value}

same : {X : Type 0} (x y : X) → Some x ≡ Some y → y ≡ x
same x y h = sym (cc (h))

pub second_inside : (xs : List Value) (v : Value) → Some v ≡ slice_get xs 1 → values.inside_of (value_at v) ≡ values.brackets_of (values_of xs)
second_inside [] v h = absurd (cc (h))
second_inside (x ∷ []) v h = absurd (cc (h))
second_inside (x ∷ y ∷ ys) v h = ap (λ z. values.inside_of (value_at z)) (sym (same v y h))

pub none_inside : (xs : List Value) → None ≡ slice_get xs 1 → Level 15 ≡ values.brackets_of (values_of xs)
none_inside [] h = refl
none_inside (x ∷ []) h = refl
none_inside (x ∷ y ∷ ys) h = absurd (cc (h))

pub second_blank : (xs : List Value) (v : Value) → Some v ≡ slice_get xs 1 → values.is_blank (value_at v) ≡ values.has_none (values_of xs)
second_blank [] v h = absurd (cc (h))
second_blank (x ∷ []) v h = absurd (cc (h))
second_blank (x ∷ y ∷ ys) v h = ap (λ z. values.is_blank (value_at z)) (sym (same v y h))

pub none_blank : (xs : List Value) → None ≡ slice_get xs 1 → false ≡ values.has_none (values_of xs)
none_blank [] h = refl
none_blank (x ∷ []) h = refl
none_blank (x ∷ y ∷ ys) h = absurd (cc (h))

pub last_open : (xs : List Value) (v : Value) → Some v ≡ slice_get xs (length xs - 1) → values.is_open (value_at v) ≡ values.last_is_open (values_of xs)
last_open [] v h = absurd (cc (h))
last_open (x ∷ []) v h = ap (λ z. values.is_open (value_at z)) (sym (same v x h))
last_open (x ∷ y ∷ ys) v h = last_open (y ∷ ys) v (h ∙ ap (slice_get (x ∷ y ∷ ys)) index ∙ further)
  where
    index : suc (suc (length ys)) - 1 ≡ suc (length ys)
    index = omega arith

    further : slice_get (x ∷ y ∷ ys) (suc (length ys)) ≡ slice_get (y ∷ ys) (suc (length ys) - 1)
    further = ap (slice_get (y ∷ ys)) (omega arith)

pub none_open : (xs : List Value) → None ≡ slice_get xs (length xs - 1) → false ≡ values.last_is_open (values_of xs)
none_open [] h = refl
none_open (x ∷ []) h = absurd (cc (h))
none_open (x ∷ y ∷ ys) h = none_open (y ∷ ys) (h ∙ ap (slice_get (x ∷ y ∷ ys)) index ∙ further)
  where
    index : suc (suc (length ys)) - 1 ≡ suc (length ys)
    index = omega arith

    further : slice_get (x ∷ y ∷ ys) (suc (length ys)) ≡ slice_get (y ∷ ys) (suc (length ys) - 1)
    further = ap (slice_get (y ∷ ys)) (omega arith)

pub blank_row : (xs : List Made) → false ≡ nat_lt 0 (length xs) → true ≡ values.is_blank (values.Values (row_of xs))
blank_row [] h = refl
blank_row (x ∷ xs) h =
    let test : nat_lt 0 (suc (length xs)) ≡ true = grind (arith, nat_tests) in
    absurd (cc (h, test))

pub filled_row : (xs : List Made) → true ≡ nat_lt 0 (length xs) → false ≡ values.is_blank (values.Values (row_of xs))
filled_row [] h = absurd (cc (h))
filled_row (x ∷ xs) h = refl

pub first_operators : (p : Production) (xs : List Value) (v : Value) (all : ℕ) → Some v ≡ slice_get xs 0 → all ≡ values.all_operators_in (values_of xs) → operators_of p (values.operators_in (value_at v)) (all - values.operators_in (value_at v)) ≡ values.operators_made p (values_of xs)
first_operators p [] v all h e = absurd (cc (h))
first_operators p (x ∷ xs) v all h e =
    let first : values.operators_in (value_at v) ≡ values.operators_in (value_at x) = ap (λ z. values.operators_in (value_at z)) (sym (same v x h)) in
    let others : all - values.operators_in (value_at v) ≡ values.all_operators_in (values_of xs) = omega (arith, first, e) in
    ap (λ a. operators_of p a (all - values.operators_in (value_at v))) first ∙ ap (operators_of p (values.operators_in (value_at x))) others

pub none_operators : (p : Production) (xs : List Value) → None ≡ slice_get xs 0 → 0 ≡ values.operators_made p (values_of xs)
none_operators p [] h = refl
none_operators p (x ∷ xs) h = absurd (cc (h))
