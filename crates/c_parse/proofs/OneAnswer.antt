-- Tokens have one answer.
use Rattle.std.proofs.Common.{◌≡◌, ℕ, zero, suc, ◌<◌, ◌≤◌, List, [], ◌∷◌, ◌++◌, Some, None, Bool, true, false, nat_lt, length, take, drop, refl, sym, ap, ◌∙◌, subst, append_assoc, append-nil, arith}
use Rattle.std.specs.Prelude.{slice_get, Result, Ok, Err}
use Rattle.c_syntax.specs.declared.token.Token.{Token}
use Rattle.c_syntax.specs.Plain.{CUnit}
use Rattle.c_grammar.specs.Spelling.{Spelt, Starts}
use Rattle.c_grammar.specs.Spells.{Spells, IsFirstBad, IsDeepAt, IsShallowBefore, StandsAt, IsSyntaxAt, IsTooDeepAt, IsUnitWithin}
use Rattle.c_grammar.proofs.Exact.{one_tree}
use Rattle.c_parse.specs.declared.fault.ParseFault.{ParseFault}
use Rattle.c_parse.specs.declared.fault.ParseFault.TheVariants.{Syntax, TooDeep, TooLarge, Memory}
use Rattle.c_parse.specs.Answer.{Parses, IsUnlessMemory, IsRight}

take_and_drop : (xs : List Token) (m : ℕ) → xs ≡ take m xs ++ drop m xs
take_and_drop [] zero = refl
take_and_drop [] (suc m) = refl
take_and_drop (x ∷ xs) zero = refl
take_and_drop (x ∷ xs) (suc m) = ap (λ z. x ∷ z) (take_and_drop xs m)

take_lower : (xs : List Token) (m n : ℕ) → m ≤ n → take m (take n xs) ≡ take m xs
take_lower [] zero zero h = refl
take_lower [] zero (suc n) h = refl
take_lower [] (suc m) zero h = refl
take_lower [] (suc m) (suc n) h = refl
take_lower (x ∷ xs) zero zero h = refl
take_lower (x ∷ xs) zero (suc n) h = refl
take_lower (x ∷ xs) (suc m) zero h = absurd (omega (arith, h))
take_lower (x ∷ xs) (suc m) (suc n) h = ap (λ z. x ∷ z) (take_lower xs m n (omega (arith, h)))

starts_take : (xs : List Token) (m : ℕ) → Starts xs → Starts (take m xs)
starts_take xs m st =
    record { rest = drop m xs ++ st.rest; spelt = subst Spelt (ap (λ z. z ++ st.rest) (take_and_drop xs m) ∙ append_assoc (take m xs) (drop m xs) st.rest) st.spelt }

-- a unit starts with fewer tokens too
lower_starts : (ts : List Token) (m n : ℕ) → m ≤ n → Starts (take n ts) → Starts (take m ts)
lower_starts ts m n h st = subst Starts (take_lower ts m n h) (starts_take (take n ts) m st)

spelt_starts : (ts : List Token) (m : ℕ) → Spelt ts → Starts (take m ts)
spelt_starts ts m sp = starts_take ts m (record { rest = []; spelt = subst Spelt (sym (append-nil ts)) sp })

data Order (a b : ℕ) : Type 0 where
  Less : a < b → Order a b
  Equal : a ≡ b → Order a b
  More : b < a → Order a b

order : (a b : ℕ) → Order a b
order zero zero = Equal refl
order zero (suc b) = Less (omega arith)
order (suc a) zero = More (omega arith)
order (suc a) (suc b) = above (order a b)
  where
    above : Order a b → Order (suc a) (suc b)
    above (Less h) = Less (omega (arith, h))
    above (Equal h) = Equal (ap suc h)
    above (More h) = More (omega (arith, h))

same_place : (ts : List Token) (k l p q : ℕ) → k ≡ l → StandsAt ts k p → StandsAt ts l q → p ≡ q
same_place ts k l p q e a b =
    let same : Some a.0 ≡ Some b.0 = sym a.1 ∙ ap (slice_get ts) e ∙ b.1 in
    let token : a.0 ≡ b.0 = cc in
    sym a.2 ∙ ap (λ t. t.pos) token ∙ b.2

first_bad_once : (ts : List Token) (k l : ℕ) → IsFirstBad ts k → IsFirstBad ts l → k ≡ l
first_bad_once ts k l a b = on (order k l)
  where
    on : Order k l → k ≡ l
    on (Less h) = absurd (a.dead (lower_starts ts (suc k) l (omega (arith, h)) b.starts))
    on (Equal h) = h
    on (More h) = absurd (b.dead (lower_starts ts (suc l) k (omega (arith, h)) a.starts))

deep_once : (ts : List Token) (k l : ℕ) → IsDeepAt ts k → IsShallowBefore ts k → IsDeepAt ts l → IsShallowBefore ts l → k ≡ l
deep_once ts k l a f b g = on (order k l)
  where
    on : Order k l → k ≡ l
    on (Less h) = absurd (g k h a)
    on (Equal h) = h
    on (More h) = absurd (f l h b)

not_both : (ts : List Token) (k l : ℕ) → IsFirstBad ts k → IsShallowBefore ts k → IsDeepAt ts l → ⊥
not_both ts k l a f b = on (order k l)
  where
    on : Order k l → ⊥
    on (Less h) = a.dead (lower_starts ts (suc k) (suc l) (omega (arith, h)) b.start)
    on (Equal h) = a.dead (lower_starts ts (suc k) (suc l) (omega (arith, h)) b.start)
    on (More h) = f l h b

not_spelled : (ts : List Token) (k : ℕ) → Spelt ts → IsFirstBad ts k → ⊥
not_spelled ts k sp b = b.dead (spelt_starts ts (suc k) sp)

there : (ts : List Token) (k p : ℕ) → StandsAt ts k p → k < length ts
there ts k p s = within ts k s.0 s.1
  where
    within : (xs : List Token) (i : ℕ) (t : Token) → slice_get xs i ≡ Some t → i < length xs
    within [] i t h = absurd (cc (h))
    within (x ∷ xs) zero t h = omega arith
    within (x ∷ xs) (suc i) t h = let r : i < length xs = within xs i t h in omega (arith, r)

pub one_answer : (ts : List Token) (a b : Result CUnit ParseFault) → Parses ts a → Parses ts b → a ≡ b
one_answer ts (Ok t) (Ok u) h g = ap Ok (one_tree ts t u h.1.spells g.1.spells)
one_answer ts (Ok t) (Err (Syntax p)) h g = absurd (not_spelled ts g.1.k h.1.spells.spelt g.1.bad)
one_answer ts (Ok t) (Err (TooDeep p)) h g = absurd (h.1.shallow g.1.k (there ts g.1.k p g.1.place) g.1.deep)
one_answer ts (Ok t) (Err TooLarge) h g = absurd (omega (arith, h.0, g))
one_answer ts (Ok t) (Err Memory) h g = absurd g
one_answer ts (Err (Syntax p)) (Ok u) h g = absurd (not_spelled ts h.1.k g.1.spells.spelt h.1.bad)
one_answer ts (Err (Syntax p)) (Err (Syntax q)) h g = ap (λ z. Err (Syntax z)) (same_place ts h.1.k g.1.k p q (first_bad_once ts h.1.k g.1.k h.1.bad g.1.bad) h.1.place g.1.place)
one_answer ts (Err (Syntax p)) (Err (TooDeep q)) h g = absurd (not_both ts h.1.k g.1.k h.1.bad h.1.shallow g.1.deep)
one_answer ts (Err (Syntax p)) (Err TooLarge) h g = absurd (omega (arith, h.0, g))
one_answer ts (Err (Syntax p)) (Err Memory) h g = absurd g
one_answer ts (Err (TooDeep p)) (Ok u) h g = absurd (g.1.shallow h.1.k (there ts h.1.k p h.1.place) h.1.deep)
one_answer ts (Err (TooDeep p)) (Err (Syntax q)) h g = absurd (not_both ts g.1.k h.1.k g.1.bad g.1.shallow h.1.deep)
one_answer ts (Err (TooDeep p)) (Err (TooDeep q)) h g = ap (λ z. Err (TooDeep z)) (same_place ts h.1.k g.1.k p q (deep_once ts h.1.k g.1.k h.1.deep h.1.shallow g.1.deep g.1.shallow) h.1.place g.1.place)
one_answer ts (Err (TooDeep p)) (Err TooLarge) h g = absurd (omega (arith, h.0, g))
one_answer ts (Err (TooDeep p)) (Err Memory) h g = absurd g
one_answer ts (Err TooLarge) (Ok u) h g = absurd (omega (arith, h, g.0))
one_answer ts (Err TooLarge) (Err (Syntax q)) h g = absurd (omega (arith, h, g.0))
one_answer ts (Err TooLarge) (Err (TooDeep q)) h g = absurd (omega (arith, h, g.0))
one_answer ts (Err TooLarge) (Err TooLarge) h g = refl
one_answer ts (Err TooLarge) (Err Memory) h g = absurd g
one_answer ts (Err Memory) b h g = absurd h

pub only_right : (ts : List Token) (a r : Result CUnit ParseFault) → IsRight ts a → Parses ts r → IsUnlessMemory a r
only_right ts (Err Memory) r h g = tt
only_right ts (Ok t) r h g = one_answer ts (Ok t) r h g
only_right ts (Err (Syntax p)) r h g = one_answer ts (Err (Syntax p)) r h g
only_right ts (Err (TooDeep p)) r h g = one_answer ts (Err (TooDeep p)) r h g
only_right ts (Err TooLarge) r h g = one_answer ts (Err TooLarge) r h g
