-- Each block of a finite picture is a list of codels.
use Rattle.piet_image.specs.declared.place.Place.{Place}
use Rattle.std.proofs.Common.{◌≡◌, ℕ, zero, suc, ◌<◌, Bool, true, false, nat_eq, ◌&&◌, ◌||◌, ◌⊎◌, inl, inr, List, [], ◌∷◌, ◌++◌, length, Option, Some, None, refl, sym, ap, subst, ◌∙◌, arith, eq-eqb}
use Rattle.std.proofs.lemmas.Bool.{eqb-true}
use Rattle.piet_image.specs.declared.colour.Colour.{Colour}
use Rattle.piet_image.specs.declared.colour.Colour.TheVariants.{White, Black, Hue}
use Rattle.piet_image.specs.declared.place.Pointer.{Pointer}
use Rattle.piet_image.specs.declared.place.Pointer.TheVariants.{Right, Down, Left, Up}
use Rattle.piet_image.specs.Picture.{Picture, beside}
use Rattle.piet_image.specs.Block.{IsHue, Leads, Joined, Among, Distinct, HasSize}
use Rattle.piet_image.proofs.Counts.{count_free, fewer}
use Rattle.piet_image.specs.Laws.{Within}

abbrev pub same_place : Place → Place → Bool
same_place p q = nat_eq p.x q.x && nat_eq p.y q.y

abbrev pub has_place : List Place → Place → Bool
has_place [] q = false
has_place (p ∷ ps) q = same_place p q || has_place ps q

and_left : (a b : Bool) → (a && b) ≡ true → a ≡ true
and_left true b h = refl
and_left false b h = h

and_right : (a b : Bool) → (a && b) ≡ true → b ≡ true
and_right true b h = h
and_right false b h = cc

pub is_same : (p q : Place) → same_place p q ≡ true → p ≡ q
is_same p q e =
    let x : p.x ≡ q.x = eqb-true p.x q.x (and_left (nat_eq p.x q.x) (nat_eq p.y q.y) e) in
    let y : p.y ≡ q.y = eqb-true p.y q.y (and_right (nat_eq p.x q.x) (nat_eq p.y q.y) e) in
    λ i. record { x = x i; y = y i }

pub same_self : (p : Place) → same_place p p ≡ true
same_self p = rw (eq-eqb p.x p.x refl) (rw (eq-eqb p.y p.y refl) refl)

pub among_of : (ps : List Place) (q : Place) → has_place ps q ≡ true → Among q ps
among_of [] q e = cc
among_of (p ∷ ps) q e = go (among_of ps q) (same_place p q) refl e
  where
    go : (has_place ps q ≡ true → Among q ps) → (b : Bool) → same_place p q ≡ b → (b || has_place ps q) ≡ true → Among q (p ∷ ps)
    go more true is e = inl (is_same p q is)
    go more false is e = inr (more e)

or_right : (a b : Bool) → b ≡ true → (a || b) ≡ true
or_right true b h = refl
or_right false b h = h

pub has_of : (ps : List Place) (q : Place) → Among q ps → has_place ps q ≡ true
has_of [] q m = absurd m
has_of (p ∷ ps) q (inl e) = ap (λ b. b || has_place ps q) (ap (λ z. same_place z q) e ∙ same_self q)
has_of (p ∷ ps) q (inr m) = or_right (same_place p q) (has_place ps q) (has_of ps q m)

hue_test : ℕ → ℕ → Option Colour → Bool
hue_test h l None = false
hue_test h l (Some White) = false
hue_test h l (Some Black) = false
hue_test h l (Some (Hue a b)) = nat_eq a h && nat_eq b l

hue_is : (h l : ℕ) (o : Option Colour) → hue_test h l o ≡ true → o ≡ Some (Hue h l)
unfolding hue_test
hue_is h l None e = cc
hue_is h l (Some White) e = cc
hue_is h l (Some Black) e = cc
hue_is h l (Some (Hue a b)) e =
    let x = eqb-true a h (and_left (nat_eq a h) (nat_eq b l) e) in
    let y = eqb-true b l (and_right (nat_eq a h) (nat_eq b l) e) in
    λ i. Some (Hue (x i) (y i))

is_hue : (h l : ℕ) → hue_test h l (Some (Hue h l)) ≡ true
unfolding hue_test
is_hue h l = rw (eq-eqb h h refl) (rw (eq-eqb l l refl) refl)

pub leads_on : (f : Picture) (h l : ℕ) (p : Place) (path : List Place) (r : Place) (d : Pointer) (q : Place) → Leads f h l p path r → beside d r ≡ Some q → IsHue f q h l → Leads f h l p (path ++ q ∷ []) q
leads_on f h l p [] r d q leads e is = (d, ap (beside d) leads ∙ e, is, refl)
leads_on f h l p (s ∷ path) r d q leads e is = (leads.0, leads.1, leads.2, leads_on f h l s path r d q leads.3 e is)

module _ (f : Picture) (w k : ℕ) (inside : Within f w k) (p : Place) (h l : ℕ) (is : IsHue f p h l) where
  -- a neighbour that is not there yet
  record Open (s : List Place) : Type 0 where
    from : Place
    by : Pointer
    to : Place
    known : Among from s
    next : beside by from ≡ Some to
    hue : IsHue f to h l
    new : has_place s to ≡ false

  Closed : List Place → List Place → Type 0
  Closed s t = (r : Place) → Among r t → (d : Pointer) (q : Place) → beside d r ≡ Some q → IsHue f q h l → has_place s q ≡ true

  abbrev ClosedAt : List Place → Place → Pointer → Type 0
  ClosedAt s r d = (q : Place) → beside d r ≡ Some q → IsHue f q h l → has_place s q ≡ true

  hued : (o : Option Colour) → o ≡ Some (Hue h l) → hue_test h l o ≡ true
  hued o e = ap (hue_test h l) e ∙ is_hue h l

  one_way : (s : List Place) (r : Place) (d : Pointer) → Among r s → Open s ⊎ ClosedAt s r d
  one_way s r d m = go (beside d r) refl
    where
      had : (q : Place) → beside d r ≡ Some q → (a b : Bool) → hue_test h l (f q) ≡ a → has_place s q ≡ b → Open s ⊎ ClosedAt s r d
      had q e true false x y = inl (record { from = r; by = d; to = q; known = m; next = e; hue = hue_is h l (f q) x; new = y })
      had q e true true x y = inr (λ z e' g. let same : q ≡ z = cc in ap (has_place s) (sym same) ∙ y)
      had q e false b x y = inr (λ z e' g. let same : q ≡ z = cc in let t : hue_test h l (f q) ≡ true = ap (λ u. hue_test h l (f u)) same ∙ hued (f z) g in cc)

      go : (o : Option Place) → beside d r ≡ o → Open s ⊎ ClosedAt s r d
      go None e = inr (λ z e' g. cc)
      go (Some q) e = had q e (hue_test h l (f q)) (has_place s q) refl refl

  all_ways : (s : List Place) (r : Place) → Among r s → Open s ⊎ ((d : Pointer) → ClosedAt s r d)
  all_ways s r m = go (one_way s r Right m) (one_way s r Down m) (one_way s r Left m) (one_way s r Up m)
    where
      turn : ClosedAt s r Right → ClosedAt s r Down → ClosedAt s r Left → ClosedAt s r Up → (d : Pointer) → ClosedAt s r d
      turn a b c e Right = a
      turn a b c e Down = b
      turn a b c e Left = c
      turn a b c e Up = e

      go : Open s ⊎ ClosedAt s r Right → Open s ⊎ ClosedAt s r Down → Open s ⊎ ClosedAt s r Left → Open s ⊎ ClosedAt s r Up → Open s ⊎ ((d : Pointer) → ClosedAt s r d)
      go (inl o) b c e = inl o
      go (inr a) (inl o) c e = inl o
      go (inr a) (inr b) (inl o) e = inl o
      go (inr a) (inr b) (inr c) (inl o) = inl o
      go (inr a) (inr b) (inr c) (inr e) = inr (turn a b c e)

  look : (s t : List Place) → ((r : Place) → Among r t → Among r s) → Open s ⊎ Closed s t
  unfolding Closed
  look s [] part = inr (λ r m. absurd m)
  look s (r ∷ t) part = go (all_ways s r (part r (inl refl))) (look s t (λ z m. part z (inr m)))
    where
      pick : ((d : Pointer) → ClosedAt s r d) → Closed s t → (z : Place) → Among z (r ∷ t) → (d : Pointer) (q : Place) → beside d z ≡ Some q → IsHue f q h l → has_place s q ≡ true
      pick a c z (inl e) d q n g = a d q (ap (beside d) e ∙ n) g
      pick a c z (inr m) d q n g = c z m d q n g

      go : Open s ⊎ ((d : Pointer) → ClosedAt s r d) → Open s ⊎ Closed s t → Open s ⊎ Closed s (r ∷ t)
      go (inl o) c = inl o
      go (inr a) (inl o) = inl o
      go (inr a) (inr c) = inr (λ z m d q n g. pick a c z m d q n g)

  record Part (s : List Place) : Type 0 where
    distinct : Distinct s
    first : Among p s
    path : (q : Place) → Among q s → (way : List Place) × Leads f h l p way q

  record Whole : Type 0 where
    members : List Place
    part : Part members
    closed : Closed members members

  abbrev free : List Place → ℕ
  free s = count_free w k (λ x y. has_place s (record { x = x; y = y }))

  bigger : (s : List Place) → Part s → (o : Open s) → Part (o.to ∷ s)
  bigger s part o = record {
    distinct = ((λ m. let t = has_of s o.to m in let e = o.new in let c : true ≡ false = sym t ∙ e in cc), part.distinct);
    first = inr part.first;
    path = λ q m. go q m;
  }
    where
      before : (way : List Place) × Leads f h l p way o.from
      before = part.path o.from o.known

      go : (q : Place) → Among q (o.to ∷ s) → (way : List Place) × Leads f h l p way q
      go q (inl e) = (before.0 ++ o.to ∷ [], subst (λ z. Leads f h l p (before.0 ++ o.to ∷ []) z) e (leads_on f h l p before.0 o.from o.by o.to before.1 o.next o.hue))
      go q (inr m) = part.path q m

  less_free : (s : List Place) (o : Open s) → free (o.to ∷ s) < free s
  less_free s o = fewer w k o.to.x o.to.y (λ x y. has_place (o.to ∷ s) (record { x = x; y = y })) (λ x y. has_place s (record { x = x; y = y }))
      (λ x y e. or_right (same_place o.to (record { x = x; y = y })) (has_place s (record { x = x; y = y })) e)
      (inside.x o.to (Hue h l) o.hue) (inside.y o.to (Hue h l) o.hue)
      (ap (λ b. b || has_place s o.to) (same_self o.to)) o.new

  grow : (a : ℕ) (s : List Place) → Part s → free s < a → Whole
  grow zero s part less = absurd (omega arith)
  grow (suc a) s part less = go (λ o. grow a (o.to ∷ s) (bigger s part o) (let e = less_free s o in omega arith)) (look s s (λ r m. m))
    where
      go : (Open s → Whole) → Open s ⊎ Closed s s → Whole
      go more (inl o) = more o
      go more (inr c) = record { members = s; part = part; closed = c }

  whole : Whole
  whole = grow (suc (free (p ∷ []))) (p ∷ []) (record { distinct = ((λ m. m), tt); first = inl refl; path = λ q m. go q m }) (omega arith)
    where
      go : (q : Place) → Among q (p ∷ []) → (way : List Place) × Leads f h l p way q
      go q (inl e) = ([], e)
      go q (inr m) = absurd m

  stays : (s : List Place) → Closed s s → (r : Place) → Among r s → (path : List Place) (q : Place) → Leads f h l r path q → Among q s
  unfolding Closed
  stays s closed r m [] q leads = subst (λ z. Among z s) leads m
  stays s closed r m (z ∷ path) q leads = stays s closed z (among_of s z (closed r m leads.0 z leads.1 leads.2)) path q leads.3

  to_joined : (q : Place) → (way : List Place) × Leads f h l p way q → Joined f p q
  to_joined q way = record { hue = h; light = l; is = is; path = way.0; leads = way.1 }

  from_joined : (q : Place) → Joined f p q → Among q whole.members
  from_joined q j =
      let same : Some (Hue h l) ≡ Some (Hue j.hue j.light) = sym is ∙ j.is in
      let a : j.hue ≡ h = cc in
      let b : j.light ≡ l = cc in
      let leads : Leads f h l p j.path q = subst (λ z. Leads f h z p j.path q) b (subst (λ z. Leads f z j.light p j.path q) a j.leads) in
      stays whole.members whole.closed p whole.part.first j.path q leads

  pub block_size : ℕ
  block_size = length whole.members

  pub has_size : HasSize f p block_size
  unfolding block_size
  has_size = record {
    members = whole.members;
    distinct = whole.part.distinct;
    all = λ q. ((λ m. to_joined q (whole.part.path q m)), from_joined q);
    count = refl;
  }
