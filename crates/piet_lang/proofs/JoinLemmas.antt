-- Codels of one block, from any of them.
use Rattle.std.proofs.Common.{◌≡◌, ℕ, zero, suc, List, [], ◌∷◌, ◌++◌, Some, sym, ap, subst, ◌∙◌}
use Rattle.piet_image.specs.declared.colour.Colour.TheVariants.{Hue}
use Rattle.piet_image.specs.declared.place.Place.{Place}
use Rattle.piet_image.specs.declared.place.Pointer.{Pointer}
use Rattle.piet_image.specs.declared.place.Pointer.TheVariants.{Right, Down, Left, Up}
use Rattle.piet_image.specs.Picture.{Picture, beside}
use Rattle.piet_image.specs.Block.{IsHue, Leads, Joined}
use Rattle.piet_image.proofs.Fill.{leads_on}

opposite : Pointer → Pointer
opposite Right = Left
opposite Down = Up
opposite Left = Right
opposite Up = Down

from_left : (x y : ℕ) (q : Place) → beside Left (record { x = x; y = y }) ≡ Some q → beside Right q ≡ Some (record { x = x; y = y })
from_left zero y q e = cc
from_left (suc x) y q e =
    let s : record_at x y ≡ q = cc in
    ap (beside Right) (sym s)
  where
    record_at : ℕ → ℕ → Place
    record_at x y = record { x = x; y = y }

from_up : (x y : ℕ) (q : Place) → beside Up (record { x = x; y = y }) ≡ Some q → beside Down q ≡ Some (record { x = x; y = y })
from_up x zero q e = cc
from_up x (suc y) q e =
    let s : record_at x y ≡ q = cc in
    ap (beside Down) (sym s)
  where
    record_at : ℕ → ℕ → Place
    record_at x y = record { x = x; y = y }

right_of : Place → Place
right_of p = record { x = suc p.x; y = p.y }

below_of : Place → Place
below_of p = record { x = p.x; y = suc p.y }

from_right : (p q : Place) → beside Right p ≡ Some q → beside Left q ≡ Some p
unfolding right_of
from_right p q e = let s : right_of p ≡ q = cc in ap (beside Left) (sym s)

from_down : (p q : Place) → beside Down p ≡ Some q → beside Up q ≡ Some p
unfolding below_of
from_down p q e = let s : below_of p ≡ q = cc in ap (beside Up) (sym s)

back : (d : Pointer) (p q : Place) → beside d p ≡ Some q → beside (opposite d) q ≡ Some p
unfolding opposite
back Right p q e = from_right p q e
back Down p q e = from_down p q e
back Left p q e = from_left p.x p.y q e
back Up p q e = from_up p.x p.y q e

abbrev Way : Picture → ℕ → ℕ → Place → Place → Type 0
Way f h l p q = (way : List Place) × Leads f h l p way q

leads_join : (f : Picture) (h l : ℕ) (p : Place) (way : List Place) (q : Place) (more : List Place) (r : Place) → Leads f h l p way q → Leads f h l q more r → Way f h l p r
leads_join f h l p [] q more r a b = (more, subst (λ z. Leads f h l z more r) (sym a) b)
leads_join f h l p (s ∷ way) q more r a b =
    let rest = leads_join f h l s way q more r a.3 b in
    (s ∷ rest.0, (a.0, a.1, a.2, rest.1))

leads_back : (f : Picture) (h l : ℕ) (p : Place) (way : List Place) (q : Place) → IsHue f p h l → Leads f h l p way q → Way f h l q p
leads_back f h l p [] q is a = ([], sym a)
leads_back f h l p (s ∷ way) q is a =
    let rest = leads_back f h l s way q a.2 a.3 in
    (rest.0 ++ p ∷ [], leads_on f h l q rest.0 s (opposite a.0) p rest.1 (back a.0 p s a.1) is)

-- from one codel of a block to another, by the first
pub by_first : (f : Picture) (h l : ℕ) (start q r : Place) → IsHue f start h l → IsHue f q h l → (w : List Place) → Leads f h l start w q → (v : List Place) → Leads f h l start v r → Joined f q r
by_first f h l start q r s is w a v b =
    let first = leads_back f h l start w q s a in
    let all = leads_join f h l q first.0 start v r first.1 b in
    record { hue = h; light = l; is = is; path = all.0; leads = all.1 }

pub joined_back : (f : Picture) (h l : ℕ) (p q : Place) → IsHue f p h l → IsHue f q h l → (w : List Place) → Leads f h l p w q → Joined f q p
joined_back f h l p q s is w a =
    let first = leads_back f h l p w q s a in
    record { hue = h; light = l; is = is; path = first.0; leads = first.1 }

-- a path in the colour of its first codel
pub same_hue : (f : Picture) (p q : Place) (h l : ℕ) → IsHue f p h l → (j : Joined f p q) → Leads f h l p j.path q
same_hue f p q h l is j =
    let same : Some (Hue h l) ≡ Some (Hue j.hue j.light) = sym is ∙ j.is in
    let a : j.hue ≡ h = cc in
    let b : j.light ≡ l = cc in
    subst (λ z. Leads f h z p j.path q) b (subst (λ z. Leads f z j.light p j.path q) a j.leads)

pub leads_hue : (f : Picture) (h l : ℕ) (p : Place) (way : List Place) (q : Place) → IsHue f p h l → Leads f h l p way q → IsHue f q h l
leads_hue f h l p [] q is a = subst (λ z. IsHue f z h l) a is
leads_hue f h l p (s ∷ way) q is a = leads_hue f h l s way q a.2 a.3
