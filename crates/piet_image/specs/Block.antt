-- Blocks of one colour.
use Rattle.piet_image.specs.declared.place.Place.{Place}
use Rattle.piet_image.specs.declared.place.Stand.{Stand}
use Rattle.std.specs.Prelude.{◌≡◌, ℕ, ◌<◌, ◌⊎◌, ◌↔◌, List, [], ◌∷◌, length, Option, Some}
use Rattle.piet_image.specs.declared.colour.Colour.TheVariants.{White, Hue}
use Rattle.piet_image.specs.declared.place.Pointer.{Pointer}
use Rattle.piet_image.specs.declared.place.Pointer.TheVariants.{Right, Down, Left, Up}
use Rattle.piet_image.specs.declared.place.Chooser.{Chooser}
use Rattle.piet_image.specs.Picture.{Picture, beside, side}
use Rattle.piet_image.specs.Slide.{Slides}

abbrev pub IsHue : Picture → Place → ℕ → ℕ → Type 0
IsHue f p h l = f p ≡ Some (Hue h l)

-- from one place to another by codels of one colour, each sharing a side with the next
abbrev pub Leads : Picture → ℕ → ℕ → Place → List Place → Place → Type 0
Leads f h l p [] q = p ≡ q
Leads f h l p (r ∷ rs) q = (d : Pointer) × (beside d p ≡ Some r) × IsHue f r h l × Leads f h l r rs q

-- two codels belong to one block
pub record Joined (f : Picture) (p q : Place) : Type 0 where
  pub hue : ℕ
  pub light : ℕ
  pub is : IsHue f p hue light
  pub path : List Place
  pub leads : Leads f hue light p path q

-- one place lies further this way than another
abbrev pub Further : Pointer → Place → Place → Type 0
Further Right p q = q.x < p.x
Further Down p q = q.y < p.y
Further Left p q = p.x < q.x
Further Up p q = p.y < q.y

-- no further this way, and of those as far this way no further to the side
pub record Before (d e : Pointer) (q p : Place) : Type 0 where
  pub along : Further d q p → ⊥
  pub across : (Further d p q → ⊥) → Further e q p → ⊥

-- the exit codel of the block of a place
pub record IsExit (f : Picture) (p : Place) (d : Pointer) (c : Chooser) (e : Place) : Type 0 where
  pub joined : Joined f p e
  pub last : (q : Place) → Joined f p q → Before d (side d c) q e

abbrev pub Among : Place → List Place → Type 0
Among q [] = ⊥
Among q (p ∷ ps) = (p ≡ q) ⊎ Among q ps

abbrev pub Distinct : List Place → Type 0
Distinct [] = Unit {0}
Distinct (p ∷ ps) = (Among p ps → ⊥) × Distinct ps

-- the codels of the block of a place, once each
pub record HasSize (f : Picture) (p : Place) (n : ℕ) : Type 0 where
  pub members : List Place
  pub distinct : Distinct members
  pub all : (q : Place) → Among q members ↔ Joined f p q
  pub count : length members ≡ n

-- what is to be known of a picture
pub record Atlas (f : Picture) : Type 0 where
  pub size : Place → ℕ
  pub exit : Place → Pointer → Chooser → Place
  pub slid : Stand → Option Stand
  pub sized : (p : Place) (h l : ℕ) → IsHue f p h l → HasSize f p (size p)
  pub exits : (p : Place) (h l : ℕ) (d : Pointer) (c : Chooser) → IsHue f p h l → IsExit f p d c (exit p d c)
  pub slides : (s : Stand) → f s.place ≡ Some White → Slides f [] s (slid s)
