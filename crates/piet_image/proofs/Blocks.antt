-- A codel that is a block of its own.
use Rattle.piet_image.specs.declared.place.Place.{Place}
use Rattle.std.proofs.Common.{◌≡◌, ℕ, List, [], ◌∷◌, length, inl, inr, Some, refl, sym, ◌∙◌}
use Rattle.piet_image.specs.declared.colour.Colour.TheVariants.{Hue}
use Rattle.piet_image.specs.declared.place.Pointer.{Pointer}
use Rattle.piet_image.specs.declared.place.Chooser.{Chooser}
use Rattle.piet_image.specs.Picture.{Picture, beside}
use Rattle.piet_image.specs.Block.{IsHue, Leads, Joined, Among, Distinct, Atlas}

-- no codel beside it has its colour
pub record Alone (f : Picture) (p : Place) (h l : ℕ) : Type 0 where
  pub is : IsHue f p h l
  pub apart : (d : Pointer) (q : Place) → beside d p ≡ Some q → IsHue f q h l → ⊥

only_path : (f : Picture) (p : Place) (h l : ℕ) → Alone f p h l → (h' l' : ℕ) → IsHue f p h' l' → (path : List Place) (q : Place) → Leads f h' l' p path q → p ≡ q
only_path f p h l alone h' l' is [] q leads = leads
only_path f p h l alone h' l' is (r ∷ rs) q leads =
    let same : Some (Hue h l) ≡ Some (Hue h' l') = sym alone.is ∙ is in
    let here : IsHue f r h l = leads.2 ∙ sym same in
    absurd (alone.apart leads.0 r leads.1 here)

pub only_itself : (f : Picture) (p : Place) (h l : ℕ) → Alone f p h l → (q : Place) → Joined f p q → p ≡ q
only_itself f p h l alone q j = only_path f p h l alone j.hue j.light j.is j.path q j.leads

pub itself : (f : Picture) (p : Place) (h l : ℕ) → IsHue f p h l → Joined f p p
itself f p h l is = record { hue = h; light = l; is = is; path = []; leads = refl }

pub alone-exit : (f : Picture) (atlas : Atlas f) (p : Place) (h l : ℕ) (d : Pointer) (c : Chooser) → Alone f p h l → atlas.exit p d c ≡ p
alone-exit f atlas p h l d c alone = sym (only_itself f p h l alone (atlas.exit p d c) (atlas.exits p h l d c alone.is).joined)

one_member : (p : Place) (ms : List Place) → ((q : Place) → Among q ms → p ≡ q) → Among p ms → Distinct ms → length ms ≡ 1
one_member p [] one here d = absurd here
one_member p (m ∷ []) one here d = refl
one_member p (m ∷ k ∷ ms) one here d =
    let a : p ≡ m = one m (inl refl) in
    let b : p ≡ k = one k (inr (inl refl)) in
    absurd (d.0 (inl (sym b ∙ a)))

pub alone-size : (f : Picture) (atlas : Atlas f) (p : Place) (h l : ℕ) → Alone f p h l → atlas.size p ≡ 1
alone-size f atlas p h l alone =
    let known = atlas.sized p h l alone.is in
    sym known.count ∙ one_member p known.members (λ q a. only_itself f p h l alone q ((known.all q).0 a)) ((known.all p).1 (itself f p h l alone.is)) known.distinct
