-- Filling a block, codel by codel.
use Rattle.std.proofs.Common.{◌≡◌, ◌≢◌, ℕ, zero, suc, ◌+◌, ◌*◌, ◌<◌, ◌≤◌, Bool, true, false, not, cond, ◌==◌, nat_lt, ◌⊎◌, inl, inr, List, [], ◌∷◌, ◌++◌, length, set, get_or, Some, slice_get, refl, sym, ap, subst, ◌∙◌, arith}
use Rattle.std.proofs.Math.Nat.{mul-le-mul_right}
use Rattle.std.proofs.lemmas.Bool.{ltb-true, ltb-false, eqb-true}
use Rattle.std.proofs.lemmas.Nat.{mul-add-lt}
use Rattle.std.proofs.lemmas.List.{get_or-set_same, get_or-set_other, length-set}
use Rattle.piet_image.specs.declared.colour.Colour.TheVariants.{Hue}
use Rattle.piet_image.specs.declared.place.Place.{Place}
use Rattle.piet_image.specs.declared.place.Pointer.{Pointer}
use Rattle.piet_image.specs.declared.place.Pointer.TheVariants.{Right, Down, Left, Up}
use Rattle.piet_image.specs.Picture.{beside}
use Rattle.piet_image.specs.Block.{IsHue, Leads, Among, Distinct}
use Rattle.piet_image.specs.Raster.{Raster, picture_of}
use Rattle.piet_image.proofs.Counts.{fewer, sum_below}
use Rattle.piet_image.proofs.Fill.{has_place, among_of, has_of, leads_on}
use Rattle.piet_image.proofs.Images.{within}
use Rattle.piet_lang.specs.Chart.{Inside, index_of, Filling}
use Rattle.piet_lang.specs.Free.{free_codels}
use Rattle.piet_lang.specs.Blocks.{ExploredAt}

lt_or : (a b : ℕ) → (a < b) ⊎ (b ≤ a)
lt_or a b = elim (nat_lt a b) as (λ t. nat_lt a b ≡ t → (a < b) ⊎ (b ≤ a)) [
  | true ↦ λ is. inl (ltb-true a b is)
  | false ↦ λ is. inr (ltb-false a b is)
] refl

below_row : (w y y' x x' : ℕ) → x < w → y < y' → y * w + x ≡ y' * w + x' → ⊥
below_row w y y' x x' h l e = let bound : suc y * w ≤ y' * w = mul-le-mul_right w l in omega (arith, bound, e)

same_row : (w y y' x x' : ℕ) → x < w → x' < w → y * w + x ≡ y' * w + x' → y ≡ y'
same_row w y y' x x' a b e = go (lt_or y y') (lt_or y' y)
  where
    go : (y < y') ⊎ (y' ≤ y) → (y' < y) ⊎ (y ≤ y') → y ≡ y'
    go (inl l) q = absurd (below_row w y y' x x' a l e)
    go (inr g) (inl l) = absurd (below_row w y' y x' x b l (sym e))
    go (inr g) (inr k) = omega arith

place_same : (p q : Place) → p.x ≡ q.x → p.y ≡ q.y → p ≡ q
place_same p q x y i = record { x = x i; y = y i }

-- codels of one index are one
pub one_index : (im : Raster) (p q : Place) → Inside im p → Inside im q → index_of im p ≡ index_of im q → p ≡ q
one_index im p q a b e =
    let x = same_row im.height p.x q.x p.y q.y a.1 b.1 e in
    let y : p.y ≡ q.y = (let f : q.x * im.height + p.y ≡ q.x * im.height + q.y = ap (λ n. n * im.height + p.y) (sym x) ∙ e in omega (arith, f)) in
    place_same p q x y

pub index_within : (im : Raster) (p : Place) → Inside im p → index_of im p < im.height * im.width
index_within im p a = omega (arith, mul-add-lt p.x im.height p.y im.width a.0 a.1)

pub hue_inside : (im : Raster) (p : Place) (h l : ℕ) → IsHue (picture_of im) p h l → Inside im p
hue_inside im p h l is = ((within im).x p (Hue h l) is, (within im).y p (Hue h l) is)

-- one more member
among_more : (xs : List Place) (q r : Place) → Among r xs → Among r (xs ++ q ∷ [])
among_more [] q r m = absurd m
among_more (x ∷ xs) q r (inl e) = inl e
among_more (x ∷ xs) q r (inr m) = inr (among_more xs q r m)

among_last : (xs : List Place) (q : Place) → Among q (xs ++ q ∷ [])
among_last [] q = inl refl
among_last (x ∷ xs) q = inr (among_last xs q)

among_either : (xs : List Place) (q r : Place) → Among r (xs ++ q ∷ []) → Among r xs ⊎ (q ≡ r)
among_either [] q r (inl e) = inr e
among_either [] q r (inr m) = absurd m
among_either (x ∷ xs) q r (inl e) = inl (inl e)
among_either (x ∷ xs) q r (inr m) = go (among_either xs q r m)
  where
    go : Among r xs ⊎ (q ≡ r) → Among r (x ∷ xs) ⊎ (q ≡ r)
    go (inl k) = inl (inr k)
    go (inr e) = inr e

distinct_more : (xs : List Place) (q : Place) → Distinct xs → (Among q xs → ⊥) → Distinct (xs ++ q ∷ [])
distinct_more [] q d new = ((λ m. m), tt)
distinct_more (x ∷ xs) q d new = ((λ m. go (among_either xs q x m)), distinct_more xs q d.1 (λ m. new (inr m)))
  where
    go : Among x xs ⊎ (q ≡ x) → ⊥
    go (inl m) = d.0 m
    go (inr e) = new (inl (sym e))

-- a member or not
pub among_or : (xs : List Place) (q : Place) → Among q xs ⊎ (Among q xs → ⊥)
among_or xs q = go (has_place xs q) refl
  where
    go : (b : Bool) → has_place xs q ≡ b → Among q xs ⊎ (Among q xs → ⊥)
    go true e = inl (among_of xs q e)
    go false e = inr (λ m. let t = has_of xs q m in let z : false ≡ true = sym e ∙ t in cc)

module _ (im : Raster) (h l : ℕ) (start : Place) (number : ℕ) (before : List ℕ) where
  abbrev State : List ℕ → List Place → Type 0
  State now members = Filling im h l start number before now members

  pub fill_more : (now : List ℕ) (members : List Place) (place q : Place) (d : Pointer) → length now ≡ im.height * im.width → (number ≡ 0 → ⊥) → State now members → Among place members → beside d place ≡ Some q → Inside im q
      → IsHue (picture_of im) q h l → get_or now (index_of im q) 0 ≡ 0 → State (set now (index_of im q) number) (members ++ q ∷ [])
  fill_more now members place q d count some state known next inside is zero_is = record {
    size = length-set now (index_of im q) number ∙ state.size;
    within = λ r m. by_within r (among_either members q r m);
    hued = λ r m. by_hued r (among_either members q r m);
    distinct = distinct_more members q state.distinct new;
    first = among_more members q start state.first;
    path = λ r m. by_path r (among_either members q r m);
    marked = λ r m. by_marked r (among_either members q r m);
    others = λ r a m. other r a (λ e. m (subst (λ z. Among z (members ++ q ∷ [])) e (among_last members q))) ∙ state.others r a (λ k. m (among_more members q r k));
    fresh = λ r m. by_fresh r (among_either members q r m);
  }
    where
      new : Among q members → ⊥
      new m = some (sym (state.marked q m) ∙ zero_is)

      other : (r : Place) → Inside im r → (q ≡ r → ⊥) → get_or (set now (index_of im q) number) (index_of im r) 0 ≡ get_or now (index_of im r) 0
      other r a apart =
          let ne : index_of im r ≢ index_of im q = λ e. apart (one_index im q r inside a (sym e)) in
          get_or-set_other now (index_of im q) (index_of im r) number 0 ne

      by_within : (r : Place) → Among r members ⊎ (q ≡ r) → Inside im r
      by_within r (inl m) = state.within r m
      by_within r (inr e) = subst (Inside im) e inside

      by_hued : (r : Place) → Among r members ⊎ (q ≡ r) → IsHue (picture_of im) r h l
      by_hued r (inl m) = state.hued r m
      by_hued r (inr e) = subst (λ z. IsHue (picture_of im) z h l) e is

      by_path : (r : Place) → Among r members ⊎ (q ≡ r) → (way : List Place) × Leads (picture_of im) h l start way r
      by_path r (inl m) = state.path r m
      by_path r (inr e) =
          let way = state.path place known in
          (way.0 ++ q ∷ [], subst (λ z. Leads (picture_of im) h l start (way.0 ++ q ∷ []) z) e (leads_on (picture_of im) h l start way.0 place d q way.1 next is))

      by_marked : (r : Place) → Among r members ⊎ (q ≡ r) → get_or (set now (index_of im q) number) (index_of im r) 0 ≡ number
      by_marked r (inl m) = other r (state.within r m) (λ e. new (subst (λ z. Among z members) (sym e) m)) ∙ state.marked r m
      by_marked r (inr e) = subst (λ z. get_or (set now (index_of im q) number) (index_of im z) 0 ≡ number) e (get_or-set_same now (index_of im q) number 0 (omega (arith, index_within im q inside, count)))

      by_fresh : (r : Place) → Among r members ⊎ (q ≡ r) → get_or before (index_of im r) 0 ≡ 0
      by_fresh r (inl m) = state.fresh r m
      by_fresh r (inr e) = subst (λ z. get_or before (index_of im z) 0 ≡ 0) e (sym (state.others q inside new) ∙ zero_is)

  -- the first member
  pub fill_first : length before ≡ im.height * im.width → Inside im start → IsHue (picture_of im) start h l → get_or before (index_of im start) 0 ≡ 0 → State (set before (index_of im start) number) (start ∷ [])
  fill_first count inside is zero_is = record {
    size = length-set before (index_of im start) number;
    within = λ r m. by_within r m;
    hued = λ r m. by_hued r m;
    distinct = ((λ m. m), tt);
    first = inl refl;
    path = λ r m. by_path r m;
    marked = λ r m. by_marked r m;
    others = λ r a m.
        let ne : index_of im r ≢ index_of im start = λ e. m (inl (one_index im start r inside a (sym e))) in
        get_or-set_other before (index_of im start) (index_of im r) number 0 ne;
    fresh = λ r m. by_fresh r m;
  }
    where
      by_within : (r : Place) → Among r (start ∷ []) → Inside im r
      by_within r (inl e) = subst (Inside im) e inside
      by_within r (inr m) = absurd m

      by_hued : (r : Place) → Among r (start ∷ []) → IsHue (picture_of im) r h l
      by_hued r (inl e) = subst (λ z. IsHue (picture_of im) z h l) e is
      by_hued r (inr m) = absurd m

      by_path : (r : Place) → Among r (start ∷ []) → (way : List Place) × Leads (picture_of im) h l start way r
      by_path r (inl e) = ([], e)
      by_path r (inr m) = absurd m

      by_marked : (r : Place) → Among r (start ∷ []) → get_or (set before (index_of im start) number) (index_of im r) 0 ≡ number
      by_marked r (inl e) = subst (λ z. get_or (set before (index_of im start) number) (index_of im z) 0 ≡ number) e (get_or-set_same before (index_of im start) number 0 (omega (arith, index_within im start inside, count)))
      by_marked r (inr m) = absurd m

      by_fresh : (r : Place) → Among r (start ∷ []) → get_or before (index_of im r) 0 ≡ 0
      by_fresh r (inl e) = subst (λ z. get_or before (index_of im z) 0 ≡ 0) e zero_is
      by_fresh r (inr m) = absurd m

-- numbers that were given stay
pub kept_set : (now : List ℕ) (i number : ℕ) → (number ≡ 0 → ⊥) → (j : ℕ) → get_or now j 0 ≢ 0 → get_or (set now i number) j 0 ≢ 0
kept_set [] i number some j other = other
kept_set (n ∷ now) zero number some zero other = some
kept_set (n ∷ now) zero number some (suc j) other = other
kept_set (n ∷ now) (suc i) number some zero other = other
kept_set (n ∷ now) (suc i) number some (suc j) other = kept_set now i number some j other

-- one codel fewer has none
numbered : Raster → List ℕ → ℕ → ℕ → Bool
numbered im now x y = not (get_or now (x * im.height + y) 0 == 0)

not_zero : (n : ℕ) → (n ≡ 0 → ⊥) → not (n == 0) ≡ true
not_zero zero some = absurd (some refl)
not_zero (suc n) some = go (suc n == 0) refl
  where
    go : (b : Bool) → (suc n == 0) ≡ b → not (suc n == 0) ≡ true
    go true e = absurd (some (eqb-true (suc n) 0 e))
    go false e = ap not e

zero_not : (n : ℕ) → n ≡ 0 → not (n == 0) ≡ false
zero_not n e = subst (λ k. not (k == 0) ≡ false) (sym e) refl

from_test : (n : ℕ) → not (n == 0) ≡ true → n ≡ 0 → ⊥
from_test n t e = let f = zero_not n e in let z : true ≡ false = sym t ∙ f in cc

pub fewer_free : (im : Raster) (now : List ℕ) (q : Place) (number : ℕ) → length now ≡ im.height * im.width → Inside im q → (number ≡ 0 → ⊥) → get_or now (index_of im q) 0 ≡ 0
    → free_codels im (set now (index_of im q) number) < free_codels im now
fewer_free im now q number count inside some zero_is =
    fewer im.width im.height q.x q.y (λ x y. not (get_or (set now (index_of im q) number) (x * im.height + y) 0 == 0)) (λ x y. not (get_or now (x * im.height + y) 0 == 0))
    (λ x y t. not_zero (get_or (set now (index_of im q) number) (x * im.height + y) 0) (kept_set now (index_of im q) number some (x * im.height + y) (from_test (get_or now (x * im.height + y) 0) t)))
    inside.0 inside.1
    (not_zero (get_or (set now (index_of im q) number) (index_of im q) 0) (subst (λ n. n ≡ 0 → ⊥) (sym (get_or-set_same now (index_of im q) number 0 (omega (arith, index_within im q inside, count)))) some))
    (zero_not (get_or now (index_of im q) 0) zero_is)

one_each : (n : ℕ) (g : ℕ → ℕ) (k : ℕ) → ((j : ℕ) → g j ≤ k) → sum_below n g ≤ n * k
one_each zero g k le = omega arith
one_each (suc n) g k le = let a = one_each n g k le in let b = le n in omega arith

one_at_most : (b : Bool) → cond b 0 1 ≤ 1
one_at_most true = omega arith
one_at_most false = omega arith

pub free_few : (im : Raster) (now : List ℕ) → free_codels im now ≤ im.height * im.width
free_few im now = one_each im.height (λ y. sum_below im.width (λ x. cond (not (get_or now (x * im.height + y) 0 == 0)) 0 1)) im.width
    (λ y. let row = one_each im.width (λ x. cond (not (get_or now (x * im.height + y) 0 == 0)) 0 1) 1 (λ x. one_at_most (not (get_or now (x * im.height + y) 0 == 0))) in omega (arith, row))

pub among_left : (xs ys : List Place) (r : Place) → Among r xs → Among r (xs ++ ys)
among_left [] ys r m = absurd m
among_left (x ∷ xs) ys r (inl e) = inl e
among_left (x ∷ xs) ys r (inr m) = inr (among_left xs ys r m)

abbrev ExploredWay : Raster → ℕ → ℕ → List ℕ → Place → Pointer → Type 0
ExploredWay im h l numbers r d = (q : Place) → beside d r ≡ Some q → IsHue (picture_of im) q h l → get_or numbers (index_of im q) 0 ≢ 0

pub each_way : (im : Raster) (h l : ℕ) (numbers : List ℕ) (r : Place) → ExploredWay im h l numbers r Right → ExploredWay im h l numbers r Down → ExploredWay im h l numbers r Left → ExploredWay im h l numbers r Up → ExploredAt im h l numbers r
each_way im h l numbers r a b c d Right = a
each_way im h l numbers r a b c d Down = b
each_way im h l numbers r a b c d Left = c
each_way im h l numbers r a b c d Up = d

-- what stands at an index stays where more comes behind
pub get_left : (xs ys : List Place) (k : ℕ) → k < length xs → slice_get (xs ++ ys) k ≡ slice_get xs k
get_left [] ys k h = absurd (omega arith)
get_left (x ∷ xs) ys zero h = refl
get_left (x ∷ xs) ys (suc k) h = get_left xs ys k (omega arith)

-- one member more is explored
pub explored_more : (im : Raster) (h l : ℕ) (old new : List ℕ) (members added members' : List Place) (done : ℕ) (place : Place) → members' ≡ members ++ added → done < length members → slice_get members done ≡ Some place
    → ((k : ℕ) (r : Place) → k < done → slice_get members k ≡ Some r → ExploredAt im h l old r) → ((j : ℕ) → get_or old j 0 ≢ 0 → get_or new j 0 ≢ 0) → ExploredAt im h l new place
    → (k : ℕ) (r : Place) → k < done + 1 → slice_get members' k ≡ Some r → ExploredAt im h l new r
explored_more im h l old new members added members' done place more below here before kept now k r less e = go (lt_of k done less)
  where
    lt_of : (k n : ℕ) → k < n + 1 → (k < n) ⊎ (k ≡ n)
    lt_of k n h = grind arith

    back : (k < done) ⊎ (k ≡ done) → slice_get members k ≡ Some r
    back (inl less) = sym (get_left members added k (omega (arith, less, below))) ∙ (ap (λ xs. slice_get xs k) (sym more) ∙ e)
    back (inr same) = sym (get_left members added k (omega (arith, same, below))) ∙ (ap (λ xs. slice_get xs k) (sym more) ∙ e)

    go : (k < done) ⊎ (k ≡ done) → ExploredAt im h l new r
    go (inl less) = λ d q next is. kept (index_of im q) (before k r less (back (inl less)) d q next is)
    go (inr same) =
        let there : Some place ≡ Some r = sym here ∙ (ap (slice_get members) (sym same) ∙ back (inr same)) in
        let one : place ≡ r = cc in
        subst (ExploredAt im h l new) one now
