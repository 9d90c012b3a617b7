-- The last codels of a block.
use Rattle.std.proofs.Common.{◌≡◌, ℕ, zero, suc, ◌+◌, ◌<◌, ◌≤◌, Bool, true, false, not, ◌⊎◌, inl, inr, List, [], ◌∷◌, ◌++◌, length, get_or, Some, slice_get, refl, sym, ap, subst, ◌∙◌, arith}
use Rattle.std.specs.Bool.{MatchBool}
use Rattle.std.proofs.lemmas.List.{length_push}
use Rattle.std.proofs.lemmas.Option.{slice_get-get_or}
use Rattle.piet_image.specs.declared.place.Place.{Place}
use Rattle.piet_image.specs.declared.place.Pointer.{Pointer}
use Rattle.piet_image.specs.declared.place.Pointer.TheVariants.{Right, Down, Left, Up}
use Rattle.piet_image.specs.declared.place.Chooser.{Chooser}
use Rattle.piet_image.specs.declared.place.Chooser.TheVariants.{ToLeft, ToRight}
use Rattle.piet_image.specs.Picture.{side}
use Rattle.piet_image.specs.Block.{Further, Before, Among}
use Rattle.piet_image.proofs.AtlasOf.{not_both, before_trans, before_self}
use Rattle.piet_lang.specs.Chart.{side_index, pointer_at, chooser_at, IsLast, IsLater}
use Rattle.piet_lang.specs.Blocks.{AddsExits}

pub further_first : (d e : Pointer) (place other : Place) → Further d place other → Before d e other place
further_first d e place other a = record { along = λ z. not_both d other place z a; across = λ level. absurd (level a) }

pub further_second : (d e : Pointer) (place other : Place) → Further d other place → Before d e place other
further_second d e place other a = record { along = λ z. not_both d place other z a; across = λ level. absurd (level a) }

pub level : (d e : Pointer) (place other : Place) (r : Bool) → (Further d place other → ⊥) → (Further d other place → ⊥) → MatchBool r (Further e place other) (Further e place other → ⊥) → MatchBool (not r) (Before d e place other) (Before d e other place)
level d e place other true a b m = record { along = b; across = λ z y. not_both e other place y m }
level d e place other false a b m = record { along = a; across = λ z y. m y }

-- the last of those before an index
pub record LastBelow (members : List Place) (d : Pointer) (c : Chooser) (count : ℕ) (last : Place) : Type 0 where
  pub known : Among last members
  pub all : (k : ℕ) (q : Place) → k < count → slice_get members k ≡ Some q → Before d (side d c) q last

pub among_at : (members : List Place) (k : ℕ) (q : Place) → slice_get members k ≡ Some q → Among q members
among_at [] zero q e = cc
among_at [] (suc k) q e = cc
among_at (m ∷ members) zero q e = let same : m ≡ q = cc in inl same
among_at (m ∷ members) (suc k) q e = inr (among_at members k q e)

pub record Index (members : List Place) (q : Place) : Type 0 where
  pub at : ℕ
  pub below : at < length members
  pub is : slice_get members at ≡ Some q

pub index_among : (members : List Place) (q : Place) → Among q members → Index members q
index_among [] q m = absurd m
index_among (m ∷ members) q (inl e) = record { at = 0; below = omega arith; is = ap (λ (z : Place). Some z) e }
index_among (m ∷ members) q (inr k) = let r = index_among members q k in record { at = suc r.at; below = omega (arith, r.below); is = r.is }

pub last_none : (members : List Place) (d : Pointer) (c : Chooser) (first : Place) → slice_get members 0 ≡ Some first → LastBelow members d c 0 first
last_none members d c first e = record { known = among_at members 0 first e; all = λ k q h. absurd (omega arith) }

one_more : (members : List Place) (d : Pointer) (c : Chooser) (n : ℕ) (last place next : Place) → LastBelow members d c n last → slice_get members n ≡ Some place → Among next members → Before d (side d c) last next → Before d (side d c) place next → LastBelow members d c (n + 1) next
one_more members d c n last place next below is known first second = record { known = known; all = λ k q h e. go k q e (lt_of k n h) }
  where
    lt_of : (k n : ℕ) → k < n + 1 → (k < n) ⊎ (k ≡ n)
    lt_of k n h = grind arith

    go : (k : ℕ) (q : Place) → slice_get members k ≡ Some q → (k < n) ⊎ (k ≡ n) → Before d (side d c) q next
    go k q e (inl l) = before_trans d (side d c) q last next (below.all k q l e) first
    go k q e (inr s) =
        let there : Some q ≡ Some place = sym e ∙ (ap (slice_get members) s ∙ is) in
        let same : q ≡ place = cc in
        subst (λ z. Before d (side d c) z next) (sym same) second

pub last_kept : (members : List Place) (d : Pointer) (c : Chooser) (n : ℕ) (last place : Place) → LastBelow members d c n last → slice_get members n ≡ Some place → Before d (side d c) place last → LastBelow members d c (n + 1) last
last_kept members d c n last place below is before = one_more members d c n last place last below is below.known (before_self d (side d c) last) before

pub last_all : (members : List Place) (d : Pointer) (c : Chooser) (n : ℕ) (last : Place) → length members ≤ n → LastBelow members d c n last → IsLast members d c last
last_all members d c n last all below = record { known = below.known; last = λ q m. (let r = index_among members q m in below.all r.at q (let b = r.below in omega arith) r.is) }

-- the exits that were added so far
pub record AddsSome (members old new : List Place) (k : ℕ) : Type 0 where
  pub count : length new ≡ length old + k
  pub kept : (j : ℕ) → j < length old → slice_get new j ≡ slice_get old j
  pub exit : (d : Pointer) (c : Chooser) → side_index d c < k → (e : Place) × (slice_get new (length old + side_index d c) ≡ Some e) × IsLast members d c e

pub adds_none : (members old : List Place) → AddsSome members old old 0
adds_none members old = record { count = omega arith; kept = λ j h. refl; exit = λ d c h. absurd (omega arith) }

get_last : (xs : List Place) (x : Place) (n : ℕ) → n ≡ length xs → slice_get (xs ++ x ∷ []) n ≡ Some x
get_last [] x zero e = refl
get_last [] x (suc n) e = absurd (omega arith)
get_last (y ∷ xs) x zero e = absurd (omega arith)
get_last (y ∷ xs) x (suc n) e = get_last xs x n (omega arith)

get_kept : (xs : List Place) (x : Place) (n : ℕ) → n < length xs → slice_get (xs ++ x ∷ []) n ≡ slice_get xs n
get_kept [] x n h = absurd (omega arith)
get_kept (y ∷ xs) x zero h = refl
get_kept (y ∷ xs) x (suc n) h = get_kept xs x n (omega arith)

pointer_is : (d : Pointer) (c : Chooser) → pointer_at (side_index d c) ≡ d
pointer_is Right ToLeft = refl
pointer_is Right ToRight = refl
pointer_is Down ToLeft = refl
pointer_is Down ToRight = refl
pointer_is Left ToLeft = refl
pointer_is Left ToRight = refl
pointer_is Up ToLeft = refl
pointer_is Up ToRight = refl

chooser_is : (d : Pointer) (c : Chooser) → chooser_at (side_index d c) ≡ c
chooser_is Right ToLeft = refl
chooser_is Right ToRight = refl
chooser_is Down ToLeft = refl
chooser_is Down ToRight = refl
chooser_is Left ToLeft = refl
chooser_is Left ToRight = refl
chooser_is Up ToLeft = refl
chooser_is Up ToRight = refl

pub adds_more : (members old new : List Place) (k : ℕ) (e : Place) → AddsSome members old new k → IsLast members (pointer_at k) (chooser_at k) e → AddsSome members old (new ++ e ∷ []) (k + 1)
adds_more members old new k e adds last = record {
  count = omega (arith, length_push new e, adds.count);
  kept = λ j h. get_kept new e j (omega (arith, adds.count)) ∙ adds.kept j h;
  exit = λ d c h. go d c (lt_of (side_index d c) k h);
}
  where
    lt_of : (a n : ℕ) → a < n + 1 → (a < n) ⊎ (a ≡ n)
    lt_of a n h = grind arith

    go : (d : Pointer) (c : Chooser) → (side_index d c < k) ⊎ (side_index d c ≡ k) → (x : Place) × (slice_get (new ++ e ∷ []) (length old + side_index d c) ≡ Some x) × IsLast members d c x
    go d c (inl l) =
        let r = adds.exit d c l in
        (r.0, get_kept new e (length old + side_index d c) (omega (arith, adds.count)) ∙ r.1, r.2)
    go d c (inr s) =
        let way : pointer_at k ≡ d = ap pointer_at (sym s) ∙ pointer_is d c in
        let choice : chooser_at k ≡ c = ap chooser_at (sym s) ∙ chooser_is d c in
        (e, get_last new e (length old + side_index d c) (omega (arith, adds.count, s)), subst (λ x. IsLast members d x e) choice (subst (λ x. IsLast members x (chooser_at k) e) way last))

below_eight : (d : Pointer) (c : Chooser) → side_index d c < 8
below_eight Right ToLeft = omega arith
below_eight Right ToRight = omega arith
below_eight Down ToLeft = omega arith
below_eight Down ToRight = omega arith
below_eight Left ToLeft = omega arith
below_eight Left ToRight = omega arith
below_eight Up ToLeft = omega arith
below_eight Up ToRight = omega arith

pub adds_all : (members old new : List Place) (k : ℕ) → k ≡ 8 → AddsSome members old new k → AddsExits members old new
adds_all members old new k e adds = record {
  count = adds.count ∙ ap (λ n. length old + n) e;
  kept = adds.kept;
  exit = λ d c. adds.exit d c (omega (arith, e, below_eight d c));
}

pub first_is : (members : List Place) (d : Place) → 0 < length members → slice_get members 0 ≡ Some (get_or members 0 d)
first_is members d h = slice_get-get_or members 0 d h

pub later_is : (d e : Pointer) (place last : Place) (r : Bool) → MatchBool r (Before d e place last) (Before d e last place) → r ≡ true → IsLater d e last place last
later_is d e place last true m h = record { first = before_self d e last; second = m; one = inl refl }
later_is d e place last false m h = cc

pub last_later : (members : List Place) (d : Pointer) (c : Chooser) (n : ℕ) (last place next : Place) → LastBelow members d c n last → slice_get members n ≡ Some place → IsLater d (side d c) last place next → LastBelow members d c (n + 1) next
last_later members d c n last place next below is l = one_more members d c n last place next below is (known l.one) l.first l.second
  where
    known : (last ≡ next) ⊎ (place ≡ next) → Among next members
    known (inl e) = subst (λ z. Among z members) e below.known
    known (inr e) = subst (λ z. Among z members) e (among_at members n place is)
