-- Each finite picture has its atlas, and only one.
use Rattle.piet_image.specs.declared.place.Place.{Place}
use Rattle.piet_image.specs.declared.place.Stand.{Stand}
use Rattle.std.proofs.Common.{◌≡◌, ℕ, ◌<◌, true, false, nat_lt, ◌⊎◌, inl, inr, List, [], ◌∷◌, Option, Some, None, refl, subst, arith}
use Rattle.std.proofs.lemmas.Bool.{ltb-true, ltb-false}
use Rattle.piet_image.specs.declared.colour.Colour.{Colour}
use Rattle.piet_image.specs.declared.colour.Colour.TheVariants.{White, Black, Hue}
use Rattle.piet_image.specs.declared.place.Pointer.{Pointer}
use Rattle.piet_image.specs.declared.place.Pointer.TheVariants.{Right, Down, Left, Up}
use Rattle.piet_image.specs.declared.place.Chooser.{Chooser}
use Rattle.piet_image.specs.declared.place.Chooser.TheVariants.{ToLeft, ToRight}
use Rattle.piet_image.specs.Picture.{Picture, side}
use Rattle.piet_image.specs.Slide.{Slides}
use Rattle.piet_image.specs.Block.{IsHue, Joined, Further, Before, Among, HasSize, IsExit, Atlas}
use Rattle.piet_image.proofs.Blocks.{itself}
use Rattle.piet_image.proofs.SlideEnds.{slide_ends}
use Rattle.piet_image.specs.Laws.{Within}
use Rattle.piet_image.proofs.Fill.{has_size, block_size}

not_trans : (d : Pointer) (a b c : Place) → (Further d a b → ⊥) → (Further d b c → ⊥) → Further d a c → ⊥
not_trans Right a b c p q r = omega arith
not_trans Down a b c p q r = omega arith
not_trans Left a b c p q r = omega arith
not_trans Up a b c p q r = omega arith

through_last : (d : Pointer) (b a c : Place) → Further d b a → (Further d b c → ⊥) → Further d c a
through_last Right b a c p q = omega arith
through_last Down b a c p q = omega arith
through_last Left b a c p q = omega arith
through_last Up b a c p q = omega arith

through_first : (d : Pointer) (c b a : Place) → Further d c b → (Further d a b → ⊥) → Further d c a
through_first Right b a c p q = omega arith
through_first Down b a c p q = omega arith
through_first Left b a c p q = omega arith
through_first Up b a c p q = omega arith

pub not_both : (d : Pointer) (p q : Place) → Further d p q → Further d q p → ⊥
not_both Right p q a b = omega arith
not_both Down p q a b = omega arith
not_both Left p q a b = omega arith
not_both Up p q a b = omega arith

not_itself : (d : Pointer) (p : Place) → Further d p p → ⊥
not_itself d p a = not_both d p p a a

lt_or : (a b : ℕ) → (a < b) ⊎ (a < b → ⊥)
lt_or a b = elim (nat_lt a b) as (λ t. nat_lt a b ≡ t → (a < b) ⊎ (a < b → ⊥)) [
  | true ↦ λ is. inl (ltb-true a b is)
  | false ↦ λ is. let g = ltb-false a b is in inr (λ h. omega arith)
] refl

further_or : (d : Pointer) (p q : Place) → Further d p q ⊎ (Further d p q → ⊥)
further_or Right p q = lt_or q.x p.x
further_or Down p q = lt_or q.y p.y
further_or Left p q = lt_or p.x q.x
further_or Up p q = lt_or p.y q.y

pub one_is_last : (d e : Pointer) (q p : Place) → Before d e q p ⊎ Before d e p q
one_is_last d e q p = go (further_or d q p) (further_or d p q) (further_or e q p)
  where
    go : Further d q p ⊎ (Further d q p → ⊥) → Further d p q ⊎ (Further d p q → ⊥) → Further e q p ⊎ (Further e q p → ⊥) → Before d e q p ⊎ Before d e p q
    go (inl a) b c = inr (record { along = λ z. not_both d p q z a; across = λ z y. z a })
    go (inr a) (inl b) c = inl (record { along = a; across = λ z y. z b })
    go (inr a) (inr b) (inl c) = inr (record { along = b; across = λ z y. not_both e q p c y })
    go (inr a) (inr b) (inr c) = inl (record { along = a; across = λ z y. c y })

pub before_trans : (d e : Pointer) (a b c : Place) → Before d e a b → Before d e b c → Before d e a c
before_trans d e a b c p q = record {
  along = not_trans d a b c p.along q.along;
  across = λ level. not_trans e a b c (p.across (λ z. level (through_last d b a c z q.along))) (q.across (λ z. level (through_first d c b a z p.along)));
}

pub before_self : (d e : Pointer) (p : Place) → Before d e p p
before_self d e p = record { along = not_itself d p; across = λ z. not_itself e p }

record Last (d e : Pointer) (ms : List Place) : Type 0 where
  place : Place
  known : Among place ms
  last : (q : Place) → Among q ms → Before d e q place

find_last : (d e : Pointer) (m : Place) (ms : List Place) → Last d e (m ∷ ms)
find_last d e m [] = record { place = m; known = inl refl; last = λ q k. go q k }
  where
    go : (q : Place) → Among q (m ∷ []) → Before d e q m
    go q (inl s) = subst (λ z. Before d e z m) s (before_self d e m)
    go q (inr k) = absurd k
find_last d e m (n ∷ ms) = pick (find_last d e n ms)
  where
    pick : Last d e (n ∷ ms) → Last d e (m ∷ n ∷ ms)
    pick r = choose (one_is_last d e m r.place)
      where
        choose : Before d e m r.place ⊎ Before d e r.place m → Last d e (m ∷ n ∷ ms)
        choose (inl b) = record { place = r.place; known = inr r.known; last = λ q k. go q k }
          where
            go : (q : Place) → Among q (m ∷ n ∷ ms) → Before d e q r.place
            go q (inl s) = subst (λ z. Before d e z r.place) s b
            go q (inr k) = r.last q k
        choose (inr b) = record { place = m; known = inl refl; last = λ q k. go q k }
          where
            go : (q : Place) → Among q (m ∷ n ∷ ms) → Before d e q m
            go q (inl s) = subst (λ z. Before d e z m) s (before_self d e m)
            go q (inr k) = before_trans d e q r.place m (r.last q k) b

record Exit (f : Picture) (p : Place) (d : Pointer) (c : Chooser) : Type 0 where
  place : Place
  is : IsExit f p d c place

find_exit : (f : Picture) (p : Place) (d : Pointer) (c : Chooser) (n : ℕ) (h l : ℕ) → IsHue f p h l → HasSize f p n → Exit f p d c
find_exit f p d c n h l is size = go size.members size.all
  where
    go : (ms : List Place) → ((q : Place) → (Among q ms → Joined f p q) × (Joined f p q → Among q ms)) → Exit f p d c
    go [] all = absurd ((all p).1 (itself f p h l is))
    go (m ∷ ms) all =
        let r = find_last d (side d c) m ms in
        record { place = r.place; is = record { joined = (all r.place).0 r.known; last = λ q j. r.last q ((all q).1 j) } }

place_same : (p q : Place) → p.x ≡ q.x → p.y ≡ q.y → p ≡ q
place_same p q x y i = record { x = x i; y = y i }

not_less : (a b : ℕ) → (a < b → ⊥) → (b < a → ⊥) → a ≡ b
not_less a b f g = omega arith

-- one place cannot be told from the other by how far they lie
pub level_same : (p q : Place) (d : Pointer) (c : Chooser) → Before d (side d c) p q → Before d (side d c) q p → p ≡ q
level_same p q Right ToLeft a b = place_same p q (not_less p.x q.x (b.along) (a.along)) (not_less p.y q.y (a.across b.along) (b.across a.along))
level_same p q Right ToRight a b = place_same p q (not_less p.x q.x (b.along) (a.along)) (not_less p.y q.y (b.across a.along) (a.across b.along))
level_same p q Down ToLeft a b = place_same p q (not_less p.x q.x (b.across a.along) (a.across b.along)) (not_less p.y q.y (b.along) (a.along))
level_same p q Down ToRight a b = place_same p q (not_less p.x q.x (a.across b.along) (b.across a.along)) (not_less p.y q.y (b.along) (a.along))
level_same p q Left ToLeft a b = place_same p q (not_less p.x q.x (a.along) (b.along)) (not_less p.y q.y (b.across a.along) (a.across b.along))
level_same p q Left ToRight a b = place_same p q (not_less p.x q.x (a.along) (b.along)) (not_less p.y q.y (a.across b.along) (b.across a.along))
level_same p q Up ToLeft a b = place_same p q (not_less p.x q.x (a.across b.along) (b.across a.along)) (not_less p.y q.y (a.along) (b.along))
level_same p q Up ToRight a b = place_same p q (not_less p.x q.x (b.across a.along) (a.across b.along)) (not_less p.y q.y (a.along) (b.along))

module _ (f : Picture) (w k : ℕ) (inside : Within f w k) where
  abbrev size_by : (p : Place) (o : Option Colour) → f p ≡ o → ℕ
  size_by p None is = 0
  size_by p (Some White) is = 0
  size_by p (Some Black) is = 0
  size_by p (Some (Hue h l)) is = block_size f w k inside p h l is

  abbrev exit_by : (p : Place) (o : Option Colour) → f p ≡ o → Pointer → Chooser → Place
  exit_by p None is d c = p
  exit_by p (Some White) is d c = p
  exit_by p (Some Black) is d c = p
  exit_by p (Some (Hue h l)) is d c = (find_exit f p d c (block_size f w k inside p h l is) h l is (has_size f w k inside p h l is)).place

  abbrev slid_by : (s : Stand) (o : Option Colour) → f s.place ≡ o → Option Stand
  slid_by s None is = None
  slid_by s (Some Black) is = None
  slid_by s (Some (Hue h l)) is = None
  slid_by s (Some White) is = (slide_ends f w k inside s is).end

  pub atlas_of : Atlas f
  atlas_of = record {
    size = λ p. size_by p (f p) refl;
    exit = λ p. exit_by p (f p) refl;
    slid = λ s. slid_by s (f s.place) refl;
    sized = λ p h l is. sized_by p h l (f p) refl is;
    exits = λ p h l d c is. exits_by p h l d c (f p) refl is;
    slides = λ s is. slides_by s (f s.place) refl is;
  }
    where
      sized_by : (p : Place) (h l : ℕ) (o : Option Colour) (e : f p ≡ o) → o ≡ Some (Hue h l) → HasSize f p (size_by p o e)
      sized_by p h l None e is = cc
      sized_by p h l (Some White) e is = cc
      sized_by p h l (Some Black) e is = cc
      sized_by p h l (Some (Hue a b)) e is = has_size f w k inside p a b e

      exits_by : (p : Place) (h l : ℕ) (d : Pointer) (c : Chooser) (o : Option Colour) (e : f p ≡ o) → o ≡ Some (Hue h l) → IsExit f p d c (exit_by p o e d c)
      exits_by p h l d c None e is = cc
      exits_by p h l d c (Some White) e is = cc
      exits_by p h l d c (Some Black) e is = cc
      exits_by p h l d c (Some (Hue a b)) e is = (find_exit f p d c (block_size f w k inside p a b e) a b e (has_size f w k inside p a b e)).is

      slides_by : (s : Stand) (o : Option Colour) (e : f s.place ≡ o) → o ≡ Some White → Slides f [] s (slid_by s o e)
      slides_by s None e is = cc
      slides_by s (Some Black) e is = cc
      slides_by s (Some (Hue h l)) e is = cc
      slides_by s (Some White) e is = (slide_ends f w k inside s e).slides

-- two exits of a block are one
pub exit_same : (f : Picture) (p : Place) (d : Pointer) (c : Chooser) (a b : Place) → IsExit f p d c a → IsExit f p d c b → a ≡ b
exit_same f p d c a b s t = level_same a b d c (t.last a s.joined) (s.last b t.joined)
