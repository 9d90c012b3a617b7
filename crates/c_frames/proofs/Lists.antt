-- A value more at the end of a list.
use Rattle.std.proofs.Common.{◌≡◌, ℕ, zero, suc, ◌+◌, ◌-◌, ◌<◌, ◌≤◌, List, [], ◌∷◌, ◌++◌, Some, None, Bool, true, false, length, drop, refl, sym, ap, ◌∙◌, subst, arith, add_assoc, add-zero}
use Rattle.std.specs.Prelude.{slice_get, if◌then◌else◌}
use Rattle.c_grammar.specs.Nesting.{Context, Walk, place, total, other_counts, other_hands, Count, Hand}
use Rattle.c_grammar.specs.Values as machine
use Rattle.c_grammar.specs.Values.{Value, ValueList, nil, cons, joined, with_last, past_value, past_values, past_row, last_depth_of, stars_in, all_stars_in, operators_in, later_in}
use Rattle.c_grammar.specs.declared.names.Symbol.{Symbol}
use Rattle.c_held.specs.View.{made_of, value_at, values_of, row_of}
use Rattle.c_held.specs.Shape.{StandsAt, StandAt}
use Rattle.c_held.specs.declared.value.Made.{Made}
use Rattle.c_held.specs.declared.value.Value.{Value as Held}

pub values_last : (xs : List Held) (x : Held) → values_of (xs ++ x ∷ []) ≡ with_last (values_of xs) (value_at x)
values_last [] x = refl
values_last (y ∷ ys) x = ap (cons (value_at y)) (values_last ys x)

pub row_last : (xs : List Made) (x : Made) → row_of (xs ++ x ∷ []) ≡ with_last (row_of xs) (made_of x)
row_last [] x = refl
row_last (y ∷ ys) x = ap (cons (made_of y)) (row_last ys x)

pub past_last : (vs : ValueList) (w : Walk) (v : Value) → past_values w (with_last vs v) ≡ past_value (past_values w vs) v
past_last nil w v = refl
past_last (cons x xs) w v = past_last xs (past_value w x) v

pub stars_last : (vs : ValueList) (v : Value) → all_stars_in (with_last vs v) ≡ all_stars_in vs + stars_in v
stars_last nil v = omega arith
stars_last (cons x xs) v = ap (λ z. stars_in x + z) (stars_last xs v) ∙ sym (add_assoc (stars_in x) (all_stars_in xs) (stars_in v))

pub depth_last : (vs : ValueList) (w : Walk) (v : Value) → last_depth_of w (with_last vs v) ≡ total (place (past_values w vs))
depth_last nil w v = refl
depth_last (cons x nil) w v = refl
depth_last (cons x (cons y ys)) w v = depth_last (cons y ys) (past_value w x) v

pub past_row_sum : (vs : ValueList) (c : Context) → past_row c vs ≡ record { rest = c.rest; declarator = c.declarator + all_stars_in vs; cast = c.cast }
past_row_sum nil c = ap (λ z. with_declarator z) (sym (add-zero c.declarator))
  where
    with_declarator : ℕ → Context
    with_declarator n = record { rest = c.rest; declarator = n; cast = c.cast }
past_row_sum (cons v vs) c = past_row_sum vs (with_declarator (c.declarator + stars_in v)) ∙ ap with_declarator (add_assoc c.declarator (stars_in v) (all_stars_in vs))
  where
    with_declarator : ℕ → Context
    with_declarator n = record { rest = c.rest; declarator = n; cast = c.cast }

pub stand_last : (ss : List Symbol) (xs : List Held) (x : Held) (k : Symbol) (left : List Symbol) → StandAt ss xs → drop (length xs) ss ≡ k ∷ left → StandsAt k x → StandAt ss (xs ++ x ∷ [])
stand_last ss [] x k left h e g = let P : List Symbol → Type 0 = λ z. StandAt z (x ∷ []) in subst P (sym e) (g, tt)
stand_last [] (y ∷ ys) x k left h e g = h
stand_last (s ∷ ss) (y ∷ ys) x k left h e g = (h.0, stand_last ss ys x k left h.1 e g)

pub next_counts : (n : ℕ) (xs : List Count) → other_counts (drop n xs) ≡ drop (suc n) xs
next_counts zero [] = refl
next_counts zero (x ∷ xs) = refl
next_counts (suc n) [] = refl
next_counts (suc n) (x ∷ xs) = next_counts n xs

pub next_hands : (n : ℕ) (xs : List Hand) → other_hands (drop n xs) ≡ drop (suc n) xs
next_hands zero [] = refl
next_hands zero (x ∷ xs) = refl
next_hands (suc n) [] = refl
next_hands (suc n) (x ∷ xs) = next_hands n xs

pub later_is : (b : Bool) (v : Value) → later_in b v ≡ (if b then operators_in v else 0)
later_is true v = refl
later_is false v = refl

-- the last of a list
pub record Split {X : Type 0} (xs : List X) (x : X) : Type 0 where
  pub front : List X
  pub is_split : xs ≡ front ++ x ∷ []

pub last_split : {X : Type 0} (xs : List X) (x : X) → Some x ≡ slice_get xs (length xs - 1) → Split xs x
last_split [] x h = absurd (cc (h))
last_split (y ∷ []) x h = record { front = []; is_split = ap (λ z. z ∷ []) (sym (cc (h))) }
last_split (y ∷ z ∷ zs) x h =
    let one : length (y ∷ z ∷ zs) - 1 ≡ suc (length (z ∷ zs) - 1) = omega arith in
    let e : slice_get (y ∷ z ∷ zs) (length (y ∷ z ∷ zs) - 1) ≡ slice_get (z ∷ zs) (length (z ∷ zs) - 1) = ap (slice_get (y ∷ z ∷ zs)) one in
    let r = last_split (z ∷ zs) x (h ∙ e) in
    record { front = y ∷ r.front; is_split = ap (λ w. y ∷ w) r.is_split }

-- the place that comes next is the first that is left
pub drop_next : (ss : List Symbol) (n : ℕ) (k : Symbol) → Some k ≡ slice_get ss n → drop n ss ≡ k ∷ drop (suc n) ss
drop_next [] n k h = absurd (cc (h))
drop_next (s ∷ ss) zero k h = ap (λ z. z ∷ ss) (sym (cc (h)))
drop_next (s ∷ ss) (suc n) k h = drop_next ss n k h

-- and none is left where none comes
pub drop_none : (ss : List Symbol) (n : ℕ) → None ≡ slice_get ss n → drop n ss ≡ []
drop_none [] zero h = refl
drop_none [] (suc n) h = refl
drop_none (s ∷ ss) zero h = absurd (cc (h))
drop_none (s ∷ ss) (suc n) h = drop_none ss n h

pub next_within : (ss : List Symbol) (n : ℕ) (k : Symbol) → Some k ≡ slice_get ss n → n < length ss
next_within [] n k h = absurd (cc (h))
next_within (s ∷ ss) zero k h = omega arith
next_within (s ∷ ss) (suc n) k h = let r : n < length ss = next_within ss n k h in omega (arith, r)

-- as many parts as places
pub stand_within : (ss : List Symbol) (xs : List Held) → StandAt ss xs → length xs ≤ length ss
stand_within ss [] h = omega arith
stand_within [] (x ∷ xs) h = absurd h
stand_within (s ∷ ss) (x ∷ xs) h = let r : length xs ≤ length ss = stand_within ss xs h.1 in omega (arith, r)

pub all_places : (ss : List Symbol) (n : ℕ) → drop n ss ≡ [] → length ss ≤ n
all_places [] n h = omega arith
all_places (s ∷ ss) zero h = absurd (cc (h))
all_places (s ∷ ss) (suc n) h = let r : length ss ≤ n = all_places ss n h in omega (arith, r)
