-- The digits of a number are written place after place.
use Rattle.std.proofs.Common.{◌≡◌, ℕ, zero, suc, ◌+◌, ◌-◌, ◌*◌, ◌/◌, ◌%◌, ◌^◌, ◌<◌, ◌≤◌, List, [], ◌∷◌, ◌++◌, Some, Bool, true, false, nat_le, refl, ap, ap₂, ◌∙◌, subst, arith, append_assoc, pow-suc, mul_comm}
use Rattle.std.specs.Prelude.{◌&&◌, if◌then◌else◌}
use Rattle.std.specs.Fmt.{digit_glyph}
use Rattle.std.proofs.lemmas.Bool.{lt-ltb, le-leb, leb-false}
use Rattle.std.proofs.Math.Nat.{mod-lt, mod-le, div-one, div-lt_iff_lt-mul, pow-le-pow_right}
use Rattle.c_syntax.specs.Plain.{CStmt, CStmts, If, MoreStmt, stmts}
use Rattle.c_types.specs.Types as type
use Rattle.c_types.specs.Types.{Tags}
use Rattle.c_types.specs.Scope as entity
use Rattle.c_types.specs.Scope.{Scope, Names}
use Rattle.c_eval.specs.State.{Value, Object, State}
use Rattle.c_eval.specs.Run.{unless, give}
use Rattle.c_eval.specs.Operators.{used, of_word, word_result, on_words, order, operated}
use Rattle.c_eval.specs.Environment.{Environment, block_objects, behind}
use Rattle.c_eval.specs.Eval.{Next}
use Rattle.c_helpers.specs.Terms.{variable, unsigned_number, at_most, call, set}
use Rattle.c_helpers.specs.Functions.{a, r, digit, call_of, places}
use Rattle.c_apart.proofs.Apart.{Done, Part, p_after, p_bind, p_give, p_stuck, p_choose, p_given, p_outer, p_named, p_read, p_load, p_put, p_write, p_store, p_own_value, p_assigned, p_variable, p_used, p_compared, p_operated, p_combined, p_assignment, p_call, p_condition, p_go_on, p_does, p_all}
use Rattle.c_apart.proofs.Words.{unsigned_at_most}
use Rattle.c_products.proofs.Product.{holding}
use Rattle.c_products.proofs.IntQuotient.{p_one}
use Rattle.c_products.specs.MovesFound.{KnowsOf}
use Rattle.c_formats.specs.Places.{powers, digits_at, rest_at, units_at, bytes}
use Rattle.c_formats.proofs.Numbers.{power_some, one_power}
use Rattle.c_formats.specs.DigitsLaws.{digit_parameters}
use Rattle.c_formats.proofs.Calls.{digit_out, may_digit, p_digit}

-- the number and what is left of it
abbrev pub two : ℕ → ℕ → List Object
two x z = holding true x ∷ holding true z ∷ []

-- behind the declaration of what is left
abbrev pub here : Tags → Names → List (List ℕ) → ℕ → Environment
here tags names defined l = record {
  scope = record { tags = tags; block = (r, entity.Object type.Unsigned) ∷ []; outer = (a, entity.Object type.Unsigned) ∷ names; defined = defined };
  objects = (r, Some 1) ∷ (a, Some 0) ∷ [];
  next = 2;
  literals_before = l;
}

abbrev place : ℕ → CStmt
place p = If (at_most (unsigned_number p) (variable a)) (set r (call digit.name (variable r ∷ unsigned_number p ∷ [])))

abbrev last_place : CStmt
last_place = call_of digit.name (variable r ∷ unsigned_number 1 ∷ [])

-- one digit at a time is called
abbrev pub digit_part : ℕ → List ℕ → List Value → Part Value
digit_part deep = p_one digit.name (p_digit deep)

-- no place declares an object
pub none_declared : (ps : List ℕ) (s : Scope) → block_objects s (stmts (places ps)) ≡ []
none_declared [] s = refl
none_declared (p ∷ ps) s = none_declared ps s

-- a statement that is done, and the next ones
pub all_next : (t : CStmt) (ts : CStmts) (deep : ℕ) (sub : List ℕ → List Value → Part Value) (here : Environment) (st st1 : State) (own own1 : List Object) → p_does t deep sub here st own ≡ Done Next st1 own1 →
    p_all (MoreStmt t ts) deep sub here st own ≡ p_all ts deep sub (behind t here) st1 own1
unfolding p_bind p_after p_go_on
all_next t ts deep sub here st st1 own own1 e = ap (λ z. p_after z (λ flow. p_go_on flow (p_all ts deep sub (behind t here)))) e

module _ (tags : Tags) (names : Names) (defined : List (List ℕ)) (deep : ℕ) (known : KnowsOf names type.Unsigned digit_parameters digit) where
  on_runs : (p x z l : ℕ) (st : State) → p % 2 ^ 24 ≡ p → nat_le p x ≡ true → may_digit deep st z p ≡ true →
      p_does (place p) deep (digit_part deep) (here tags names defined l) st (two x z) ≡ Done Next (record st { spare = st.spare - (z / p + 2); output = st.output ++ digit_out z p }) (two x (z % p))
  unfolding p_one p_digit p_after p_bind p_give p_stuck p_choose p_given p_outer p_named p_read p_load p_put p_write p_store p_own_value p_assigned p_variable p_used p_compared p_operated p_combined p_assignment p_call p_condition used give unless of_word word_result on_words order operated
  on_runs p x z l st small le good = rw (small, unsigned_at_most p x ∙ le, known.1, good) refl

  off_runs : (p x z l : ℕ) (st : State) → p % 2 ^ 24 ≡ p → nat_le p x ≡ false → p_does (place p) deep (digit_part deep) (here tags names defined l) st (two x z) ≡ Done Next st (two x z)
  unfolding p_after p_bind p_give p_choose p_given p_outer p_named p_read p_load p_own_value p_variable p_used p_compared p_operated p_combined p_condition used give of_word word_result on_words
  off_runs p x z l st small more = rw (small, unsigned_at_most p x ∙ more) refl

  last_runs : (x z l : ℕ) (st : State) → may_digit deep st z 1 ≡ true → p_does last_place deep (digit_part deep) (here tags names defined l) st (two x z) ≡ Done Next (record st { spare = st.spare - (z / 1 + 2); output = st.output ++ digit_out z 1 }) (two x z)
  unfolding p_one p_digit p_after p_bind p_give p_choose p_given p_outer p_named p_read p_load p_own_value p_variable p_used p_call used give
  last_runs x z l st good = rw (known.1, good) refl

  may_be : (st : State) (z p : ℕ) → z < 2 ^ 24 → 0 < p → z / p < 16 → 17 < deep → z / p + 2 ≤ st.spare → st.words + 16 ≤ 1024 → may_digit deep st z p ≡ true
  unfolding may_digit
  may_be st z p sz some few lt le small =
      ap₂ (λ a b. a && b) (ap₂ (λ a b. a && b) (ap₂ (λ a b. a && b) (ap₂ (λ a b. a && b) (ap₂ (λ a b. a && b) (lt-ltb z (2 ^ 24) sz) (lt-ltb 0 p some)) (lt-ltb (z / p) 16 few)) (lt-ltb 17 deep lt)) (le-leb (z / p + 2) st.spare le)) (le-leb (st.words + 16) 1024 small)

  module _ (b x : ℕ) (low : 2 ≤ b) (high : b ≤ 16) (sx : x < 2 ^ 24) (lt : 17 < deep) where
    some : 0 < b
    some = omega (arith, low)

    abbrev Written : ℕ → ℕ → ℕ → State → Type 0
    Written k z l st =
        p_all (stmts (places (powers b k))) deep (digit_part deep) (here tags names defined l) st (two x z)
        ≡ Done Next (record st { spare = st.spare - units_at b k x z; output = st.output ++ bytes (digits_at b k x z) }) (two x (rest_at b k x z))

    -- the lowest place
    lowest : (z l : ℕ) (st : State) → z < b → z ≤ x → z + 2 ≤ st.spare → st.words + 16 ≤ 1024 → Written 0 z l st
    unfolding p_bind p_after p_go_on p_give
    lowest z l st less most le small =
        let one : z / 1 ≡ z = div-one z in
        rw (last_runs x z l st (may_be st z 1 (omega (arith, most, sx)) (omega arith) (omega (arith, one, less, high)) lt (omega (arith, one, le)) small)) (ap (λ q. Done Next (record st { spare = st.spare - (q + 2); output = st.output ++ digit_glyph false q % 2 ^ 8 ∷ [] }) (two x z)) one)

    quotient_few : (k z : ℕ) → z < b ^ suc (suc k) → z / b ^ suc k < b
    quotient_few k z less = (div-lt_iff_lt-mul {k = b ^ suc k} {x = z} {y = b} (power_some b some (suc k))).1 (subst (λ w. z < w) (pow-suc b (suc k) ∙ mul_comm (b ^ suc k) b) less)

    -- a place above it
    above : (k z l : ℕ) (st : State) (t : Bool) → nat_le (b ^ suc k) x ≡ t → b ^ suc k < 2 ^ 24 → z < b ^ suc (suc k) → z ≤ x → st.words + 16 ≤ 1024
        → (if t then z / b ^ suc k + 2 + units_at b k x (z % b ^ suc k) else units_at b k x z) ≤ st.spare
        → ((z : ℕ) (l : ℕ) (st : State) → z < b ^ suc k → z ≤ x → units_at b k x z ≤ st.spare → st.words + 16 ≤ 1024 → Written k z l st)
        → p_all (stmts (places (powers b (suc k)))) deep (digit_part deep) (here tags names defined l) st (two x z)
        ≡ Done Next (record st { spare = st.spare - (if t then z / b ^ suc k + 2 + units_at b k x (z % b ^ suc k) else units_at b k x z); output = st.output ++ bytes (if t then digit_glyph false (z / b ^ suc k) ∷ digits_at b k x (z % b ^ suc k) else digits_at b k x z) }) (two x (if t then rest_at b k x (z % b ^ suc k) else rest_at b k x z))
    above k z l st true e fits less most small le rest =
        let p : ℕ = b ^ suc k in
        let some_p : 0 < p = power_some b some (suc k) in
        let few : z / p < b = quotient_few k z less in
        let whole : p % 2 ^ 24 ≡ p = omega (arith, fits) in
        let good : may_digit deep st z p ≡ true = may_be st z p (omega (arith, most, sx)) some_p (omega (arith, few, high)) lt (omega (arith, le)) small in
        let left : z % p ≤ x = omega (arith, mod-le z p, most) in
        all_next (place p) (stmts (places (powers b k))) deep (digit_part deep) (here tags names defined l) st (record st { spare = st.spare - (z / p + 2); output = st.output ++ digit_out z p }) (two x z) (two x (z % p)) (on_runs p x z l st whole e good)
        ∙ (rest (z % p) _ (record st { spare = st.spare - (z / p + 2); output = st.output ++ digit_out z p }) (mod-lt z some_p) left (omega (arith, le)) small
        ∙ λ i. Done Next (record st { spare = spent (z / p + 2) (units_at b k x (z % p)) i; output = append_assoc st.output (digit_out z p) (bytes (digits_at b k x (z % p))) i }) (two x (rest_at b k x (z % p))))
      where
        spent : (m n : ℕ) → st.spare - m - n ≡ st.spare - (m + n)
        spent m n = omega arith
    above k z l st false e fits less most small le rest =
        let p : ℕ = b ^ suc k in
        let whole : p % 2 ^ 24 ≡ p = omega (arith, fits) in
        all_next (place p) (stmts (places (powers b k))) deep (digit_part deep) (here tags names defined l) st st (two x z) (two x z) (off_runs p x z l st whole e)
        ∙ rest z _ st (omega (arith, most, leb-false p x e)) most le small

    pub places_run : (k z l : ℕ) (st : State) → b ^ k < 2 ^ 24 → z < b ^ suc k → z ≤ x → units_at b k x z ≤ st.spare → st.words + 16 ≤ 1024 → Written k z l st
    places_run zero z l st fits less most le small = lowest z l st (subst (λ w. z < w) (one_power b some) less) most le small
    places_run (suc k) z l st fits less most le small =
        above k z l st (nat_le (b ^ suc k) x) refl fits less most small le
        (λ z l st less most le small. places_run k z l st (lower k fits) less most le small)
      where
        lower : (k : ℕ) → b ^ suc k < 2 ^ 24 → b ^ k < 2 ^ 24
        lower k fits = let h : b ^ k ≤ b ^ suc k = pow-le-pow_right some (omega arith) in omega (arith, h, fits)

    -- so many units at most
    pub units_few : (k z : ℕ) → z < b ^ suc k → z ≤ x → units_at b k x z ≤ suc k * 17
    units_few zero z less most = let l : z < b = subst (λ w. z < w) (one_power b some) less in omega (arith, l, high)
    units_few (suc k) z less most =
        by_test (nat_le (b ^ suc k) x) refl (units_few k (z % b ^ suc k) (mod-lt z (power_some b some (suc k))) (omega (arith, mod-le z (b ^ suc k), most))) (λ h. units_few k z h most)
      where
        by_test : (t : Bool) → nat_le (b ^ suc k) x ≡ t → units_at b k x (z % b ^ suc k) ≤ suc k * 17 → (z < b ^ suc k → units_at b k x z ≤ suc k * 17) → (if t then z / b ^ suc k + 2 + units_at b k x (z % b ^ suc k) else units_at b k x z) ≤ suc (suc k) * 17
        by_test true e h g = omega (arith, h, quotient_few k z less, high)
        by_test false e h g = let l : units_at b k x z ≤ suc k * 17 = g (omega (arith, most, leb-false (b ^ suc k) x e)) in omega (arith, l)
