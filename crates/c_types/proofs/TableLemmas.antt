-- A table with one shape more.
use Rattle.std.proofs.Common.{◌≡◌, ◌≢◌, ◌⊎◌, inl, inr, ⊎_elim, ℕ, zero, suc, ◌+◌, ◌<◌, ◌≤◌, Bool, true, false, ◌||◌, not, cond, List, [], ◌∷◌, ◌++◌, length, map, Option, Some, None, refl, sym, ap, ◌∙◌, subst, arith, length-append, if◌then◌else◌}
use Rattle.std.specs.Prelude.{slice_get, nat_eq}
use Rattle.std.proofs.lemmas.Bool.{eqb-true}
use Rattle.std.proofs.lemmas.Bool.Decides.{nat_tests}
use Rattle.c_types.specs.Laws.{EqualTypesAreOne}
use Rattle.std.specs.List.{list_any, prefix_len, position_or_len}
use Rattle.std.proofs.lemmas.Option.{slice_get_within}
use Rattle.c_types.specs.Types as types
use Rattle.c_types.specs.Types.{CType, CTypes}
use Rattle.c_types.specs.declared.shape.Shape.{Shape}
use Rattle.c_types.specs.declared.shape.Shape.TheVariants.{Void, Int, Unsigned, Char, UChar, Null, Struct, Pointer, Array, Function, NoType, MoreType}
use Rattle.c_types.specs.Known.{Known, OneType, TypeList, of_tag, of_type, with_list, of_both, says, Grows}
use Rattle.c_types.specs.Table.{known_or, known_behind, known_by, PartsBelow, AreMade}
use Rattle.c_types.proofs.ShapeLemmas.{AreApart, one_shape, said}

pub get_old : {X : Type 0} (xs : List X) (x : X) (n : ℕ) (y : X) → slice_get xs n ≡ Some y → slice_get (xs ++ x ∷ []) n ≡ Some y
get_old [] x n y h = cc
get_old (z ∷ xs) x zero y h = h
get_old (z ∷ xs) x (suc n) y h = get_old xs x n y h

pub get_new : {X : Type 0} (xs : List X) (x : X) → slice_get (xs ++ x ∷ []) (length xs) ≡ Some x
get_new [] x = refl
get_new (z ∷ xs) x = get_new xs x

beyond : {X : Type 0} (n : ℕ) (y : X) → slice_get [] n ≡ Some y → ⊥
beyond n y h = cc

get_cases : {X : Type 0} (xs : List X) (x : X) (n : ℕ) (y : X) → slice_get (xs ++ x ∷ []) n ≡ Some y → (slice_get xs n ≡ Some y) ⊎ ((n ≡ length xs) × (y ≡ x))
get_cases [] x zero y h = inr (refl, cc)
get_cases [] x (suc n) y h = absurd (beyond n y h)
get_cases (z ∷ xs) x zero y h = inl h
get_cases (z ∷ xs) x (suc n) y h = ⊎_elim (λ old. inl old) (λ new. inr (ap suc new.0, new.1)) (get_cases xs x n y h)

pub get_some : {X : Type 0} (xs : List X) (n : ℕ) → n < length xs → (y : X) × (slice_get xs n ≡ Some y)
get_some [] n h = absurd (omega arith)
get_some (z ∷ xs) zero h = (z, refl)
get_some (z ∷ xs) (suc n) h = get_some xs n (omega arith)

pub grows_by : (known : List Known) (k : Known) → Grows known (known ++ k ∷ [])
grows_by known k n x h = get_old known k n x h

pub behind_push : (tags : List (List ℕ)) (known : List Known) (shapes : List Shape) (s : Shape) → known_behind tags known (shapes ++ s ∷ []) ≡ known_behind tags known shapes ++ known_or (says tags (known_behind tags known shapes) s) ∷ []
behind_push tags known [] s = refl
behind_push tags known (t ∷ shapes) s = behind_push tags (known ++ known_or (says tags known t) ∷ []) shapes s

type_below : (known : List Known) (t : ℕ) (f : CType → CType) (k : Known) (o : Option Known) → slice_get known t ≡ o → of_type o f ≡ Some k → t < length known
type_below known t f k (Some x) e h = slice_get_within known t x e
type_below known t f k None e h = cc

list_below : (known : List Known) (u : CType) (ts : ℕ) (f : CType → CTypes → Known) (k : Known) (p : Option Known) → slice_get known ts ≡ p → with_list u p f ≡ Some k → ts < length known
list_below known u ts f k (Some x) e h = slice_get_within known ts x e
list_below known u ts f k None e h = cc

both_below : (known : List Known) (t ts : ℕ) (f : CType → CTypes → Known) (k : Known) (o : Option Known) → slice_get known t ≡ o → of_both o (slice_get known ts) f ≡ Some k → (t < length known) × (ts < length known)
both_below known t ts f k (Some (OneType u)) e h = (slice_get_within known t (OneType u) e, list_below known u ts f k (slice_get known ts) refl h)
both_below known t ts f k (Some (TypeList us)) e h = cc
both_below known t ts f k None e h = cc

parts_below : (tags : List (List ℕ)) (known : List Known) (s : Shape) (k : Known) → says tags known s ≡ Some k → PartsBelow s (length known)
parts_below tags known (Pointer t) k h = type_below known t (λ u. types.Pointer u) k (slice_get known t) refl h
parts_below tags known (Array t n) k h = type_below known t (λ u. types.Array u n) k (slice_get known t) refl h
parts_below tags known (Function t ts) k h = both_below known t ts (λ u us. OneType (types.Function u us)) k (slice_get known t) refl h
parts_below tags known (MoreType t ts) k h = both_below known t ts (λ u us. TypeList (types.MoreType u us)) k (slice_get known t) refl h
parts_below tags known Void k h = tt
parts_below tags known _ k h = tt

module _ (tags : List (List ℕ)) (shapes : List Shape) (known : List Known) (s : Shape) (k : Known) where
  -- a shape that isn't there yet stays made with the others
  pub made_more : AreMade tags shapes known → says tags known s ≡ Some k → ((n : ℕ) → slice_get shapes n ≡ Some s → ⊥) → AreMade tags (shapes ++ s ∷ []) (known ++ k ∷ [])
  made_more m h new = record {
    as_long = length-append known (k ∷ []) ∙ (ap (λ n. n + 1) m.as_long ∙ sym (length-append shapes (s ∷ [])));
    made = λ n t at. ⊎_elim (λ old. kept n t old) (λ last. made_here n t last.0 last.1) (get_cases shapes s n t at);
    below = λ n t at. ⊎_elim (λ old. m.below n t old) (λ last. below_here n t last.0 last.1) (get_cases shapes s n t at);
    one = λ a b x at_a at_b.
        ⊎_elim
        (λ old_a. ⊎_elim (λ old_b. m.one a b x old_a old_b) (λ last_b. absurd (apart a x old_a last_b.1)) (get_cases known k b x at_b))
        (λ last_a. ⊎_elim (λ old_b. absurd (apart b x old_b last_a.1)) (λ last_b. last_a.0 ∙ sym last_b.0) (get_cases known k b x at_b))
        (get_cases known k a x at_a);
    tag = m.tag;
  }
    where
      long : length known ≡ length shapes
      long = m.as_long

      there : (n : ℕ) (t : Shape) → slice_get shapes n ≡ Some t → n < length known
      there n t old = subst (λ l. n < l) (sym long) (slice_get_within shapes n t old)

      kept : (n : ℕ) (t : Shape) → slice_get shapes n ≡ Some t → says tags (known ++ k ∷ []) t ≡ slice_get (known ++ k ∷ []) n
      kept n t old =
          let x = get_some known n (there n t old) in
          said tags known (known ++ k ∷ []) (grows_by known k) t x.0 (m.made n t old ∙ x.1) ∙ sym (get_old known k n x.0 x.1)

      made_here : (n : ℕ) (t : Shape) → n ≡ length shapes → t ≡ s → says tags (known ++ k ∷ []) t ≡ slice_get (known ++ k ∷ []) n
      made_here n t e f =
          ap (says tags (known ++ k ∷ [])) f
          ∙ (said tags known (known ++ k ∷ []) (grows_by known k) s k h
          ∙ (sym (get_new known k) ∙ ap (slice_get (known ++ k ∷ [])) (long ∙ sym e)))

      below_here : (n : ℕ) (t : Shape) → n ≡ length shapes → t ≡ s → PartsBelow t n
      below_here n t e f = subst (λ u. PartsBelow u n) (sym f) (subst (PartsBelow s) (long ∙ sym e) (parts_below tags known s k h))

      apart : (n : ℕ) (x : Known) → slice_get known n ≡ Some x → x ≡ k → ⊥
      apart n x at e =
          let t = get_some shapes n (subst (λ l. n < l) long (slice_get_within known n x at)) in
          let same : t.0 ≡ s = one_shape tags known (record { one = m.one; tag = m.tag }) t.0 s k (m.made n t.0 t.1 ∙ (at ∙ ap Some e)) h in
          new n (t.1 ∙ ap Some same)

-- ---- where a set finds a value

pub no_place : {X : Type 0} (p : X → Bool) (xs : List X) → list_any p xs ≡ false → position_or_len p xs ≡ length xs
no_place p [] h = refl
no_place p (x ∷ xs) h = by (p x) (list_any p xs) (position_or_len p xs) h (no_place p xs) where
  by : (b c : Bool) (n : ℕ) → (b || c) ≡ false → (c ≡ false → n ≡ length xs) → cond (not b) (1 + n) 0 ≡ suc (length xs)
  by true c n g f = cc
  by false c n g f = let e : n ≡ length xs = f g in omega arith

both_false : (b c : Bool) → (b || c) ≡ false → (b ≡ false) × (c ≡ false)
both_false false c h = (refl, h)
both_false true c h = cc

pub none_there : {X : Type 0} (p : X → Bool) (xs : List X) → list_any p xs ≡ false → (n : ℕ) (x : X) → slice_get xs n ≡ Some x → p x ≡ true → ⊥
none_there p [] h n x at e = cc
none_there p (y ∷ xs) h zero x at e =
    let f : p y ≡ false = (both_false (p y) (list_any p xs) h).0 in
    let same : y ≡ x = cc in cc
none_there p (y ∷ xs) h (suc n) x at e = none_there p xs (both_false (p y) (list_any p xs) h).1 n x at e

abbrev IsThere : {X : Type 0} → (X → Bool) → List X → ℕ → Type 0
IsThere {X} p xs n = (x : X) × (slice_get xs n ≡ Some x) × (p x ≡ true)

one_more : {X : Type 0} (p : X → Bool) (y : X) (xs : List X) (n : ℕ) → IsThere p xs n → IsThere p (y ∷ xs) (1 + n)
one_more p y xs n r = (r.0, next r.0 r.1, r.2) where
  next : (x : _) → slice_get xs n ≡ Some x → slice_get (y ∷ xs) (1 + n) ≡ Some x
  next x h = let e : 1 + n ≡ suc n = omega arith in ap (slice_get (y ∷ xs)) e ∙ h

pub there_at : {X : Type 0} (p : X → Bool) (xs : List X) → list_any p xs ≡ true → IsThere p xs (position_or_len p xs)
there_at p [] h = cc
there_at p (y ∷ xs) h = by (p y) (list_any p xs) refl h (λ c. one_more p y xs (position_or_len p xs) (there_at p xs c)) where
  by : (b c : Bool) → p y ≡ b → (b || c) ≡ true → (c ≡ true → IsThere p (y ∷ xs) (1 + position_or_len p xs)) → IsThere p (y ∷ xs) (cond (not b) (1 + position_or_len p xs) 0)
  by true c e g f = (y, refl, e)
  by false c e g f = f g

-- what a table is after a shape was given a number
pub record IsNumbered (tags : List (List ℕ)) (old new : List Shape) (k : Known) (n : ℕ) : Type 0 where
  pub number : slice_get (known_by tags new) n ≡ Some k
  pub grows : Grows (known_by tags old) (known_by tags new)
  pub made : AreMade tags new (known_by tags new)

module _ (eq : Shape → Shape → Bool) (same : (x y : Shape) → eq x y ≡ true → x ≡ y) (self : (x : Shape) → eq x x ≡ true) (tags : List (List ℕ)) (old new : List Shape) (s : Shape) (k : Known) where
  numbered_old : (n : ℕ) → AreMade tags old (known_by tags old) → says tags (known_by tags old) s ≡ Some k → new ≡ old → n ≡ position_or_len (eq s) old → list_any (eq s) old ≡ true → IsNumbered tags old new k n
  numbered_old n m h kept at there =
      let x = there_at (eq s) old there in
      let is : s ≡ x.0 = same s x.0 x.2 in
      let stands : slice_get old n ≡ Some s = ap (slice_get old) at ∙ (x.1 ∙ ap Some (sym is)) in
      subst (λ all. IsNumbered tags old all k n) (sym kept) (record { number = sym (m.made n s stands) ∙ h; grows = λ i y f. f; made = m })

  numbered_new : (n : ℕ) → AreMade tags old (known_by tags old) → says tags (known_by tags old) s ≡ Some k → new ≡ old ++ s ∷ [] → n ≡ position_or_len (eq s) old → list_any (eq s) old ≡ false → IsNumbered tags old new k n
  numbered_new n m h more at absent =
      let known : List Known = known_by tags old in
      let last : known_or (says tags known s) ≡ k = ap known_or h in
      let all : known_by tags (old ++ s ∷ []) ≡ known ++ k ∷ [] = behind_push tags [] old s ∙ ap (λ x. known ++ x ∷ []) last in
      let count : n ≡ length known = at ∙ (no_place (eq s) old absent ∙ sym m.as_long) in
      let made : AreMade tags (old ++ s ∷ []) (known ++ k ∷ []) = made_more tags old known s k m h (λ i f. none_there (eq s) old absent i s f (self s)) in
      subst (λ all. IsNumbered tags old all k n) (sym more) (record {
        number = ap (λ ks. slice_get ks n) all ∙ (ap (slice_get (known ++ k ∷ [])) count ∙ get_new known k);
        grows = λ i y f. ap (λ ks. slice_get ks i) all ∙ get_old known k i y f;
        made = subst (AreMade tags (old ++ s ∷ [])) (sym all) made;
      })

  pub numbered : (n : ℕ) → AreMade tags old (known_by tags old) → says tags (known_by tags old) s ≡ Some k → new ≡ (if list_any (eq s) old then old else old ++ s ∷ []) → n ≡ position_or_len (eq s) old → IsNumbered tags old new k n
  numbered n m h keys at = by (list_any (eq s) old) refl keys where
    by : (b : Bool) → list_any (eq s) old ≡ b → new ≡ (if b then old else old ++ s ∷ []) → IsNumbered tags old new k n
    by true e f = numbered_old n m h f at e
    by false e f = numbered_new n m h f at e

-- an empty table is made
pub nothing_made : (tags : List (List ℕ)) → ((m n : ℕ) (name : List ℕ) → slice_get tags m ≡ Some name → slice_get tags n ≡ Some name → m ≡ n) → AreMade tags [] []
nothing_made tags apart = record {
  as_long = refl;
  made = λ n s h. absurd (beyond n s h);
  below = λ n s h. absurd (beyond n s h);
  one = λ m n k h. absurd (beyond m k h);
  tag = apart;
}

-- numbers are equal where types are
pub same_numbers : (known : List Known) (a b : ℕ) (t u : CType) → ((m n : ℕ) (k : Known) → slice_get known m ≡ Some k → slice_get known n ≡ Some k → m ≡ n) → EqualTypesAreOne
    → slice_get known a ≡ Some (OneType t) → slice_get known b ≡ Some (OneType u) → nat_eq a b ≡ types.same_type t u
same_numbers known a b t u one equal at_a at_b = by (nat_eq a b) (types.same_type t u) refl refl where
  by : (x y : Bool) → nat_eq a b ≡ x → types.same_type t u ≡ y → x ≡ y
  by true true e f = refl
  by false false e f = refl
  by true false e f =
      let same : a ≡ b = eqb-true a b e in
      let alike : Some (OneType t) ≡ Some (OneType u) = sym at_a ∙ (ap (slice_get known) same ∙ at_b) in
      let type : t ≡ u = cc in
      let yes : types.same_type t u ≡ true = (equal t u).1 type in cc
  by false true e f =
      let type : t ≡ u = (equal t u).0 f in
      let same : a ≡ b = one a b (OneType u) (at_a ∙ ap (λ v. Some (OneType v)) type) at_b in
      let yes : nat_eq a b ≡ true = subst (λ n. nat_eq a n ≡ true) same (grind (arith, nat_tests)) in cc
