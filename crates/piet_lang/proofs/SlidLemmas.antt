-- A slide, place by place and stop by stop.
use Rattle.std.proofs.Common.{◌≡◌, ℕ, suc, ◌+◌, ◌*◌, ◌<◌, ◌≤◌, Bool, true, false, ◌||◌, List, [], ◌∷◌, ◌++◌, reverse, None, Some, refl, sym, ap, subst, ◌∙◌, arith}
use Rattle.std.specs.List.{list_any}
use Rattle.std.proofs.Math.Nat.{mul-le-mul_right}
use Rattle.std.proofs.lemmas.List.{reverse-append}
use Rattle.piet_image.specs.declared.colour.Colour.TheVariants.{White}
use Rattle.piet_image.specs.declared.place.Place.{Place}
use Rattle.piet_image.specs.declared.place.Stand.{Stand}
use Rattle.piet_image.specs.declared.place.Pointer.{Pointer}
use Rattle.piet_image.specs.declared.place.Pointer.TheVariants.{Right, Down, Left, Up}
use Rattle.piet_image.specs.declared.met.Met.TheVariants.{Blocked, Free, Onto}
use Rattle.piet_image.specs.Picture.{ahead, beside}
use Rattle.piet_image.specs.Raster.{Raster, picture_of}
use Rattle.piet_image.specs.Slide.{same_stop, has_stopped, forward, cornered, Slides}
use Rattle.piet_image.proofs.Images.{within}
use Rattle.piet_image.proofs.Slides.{slides_on, slides_corner, slides_onto, slides_never}
use Rattle.piet_image.proofs.SlideEnds.{left_over, room, room_less, free_at, any_chooser, fewer_left}
use Rattle.piet_lang.specs.Slid.{slide_left, SlidesOn}

any_more : (xs ys : List Stand) (s : Stand) → has_stopped (xs ++ ys) s ≡ (has_stopped xs s || has_stopped ys s)
any_more [] ys s = refl
any_more (x ∷ xs) ys s = ap (λ b. same_stop x s || b) (any_more xs ys s) ∙ assoc (same_stop x s) (has_stopped xs s) (has_stopped ys s)
  where
    assoc : (a b c : Bool) → (a || (b || c)) ≡ ((a || b) || c)
    assoc true b c = refl
    assoc false b c = refl

either : (a b : Bool) → (a || (b || false)) ≡ (b || a)
either true true = refl
either true false = refl
either false true = refl
either false false = refl

-- the stops are kept the last at the end
pub any_stop : (stops : List Stand) (s : Stand) → list_any (λ t. same_stop t s) stops ≡ has_stopped (reverse stops) s
any_stop [] s = refl
any_stop (x ∷ stops) s =
    let rest = any_stop stops s in
    sym (ap (λ (xs : List Stand). has_stopped xs s) (reverse_cons x stops) ∙ (any_more (reverse stops) (x ∷ []) s ∙ (either (has_stopped (reverse stops) s) (same_stop x s) ∙ ap (λ b. same_stop x s || b) (sym rest))))
  where
    reverse_cons : (x : Stand) (xs : List Stand) → reverse (x ∷ xs) ≡ reverse xs ++ x ∷ []
    reverse_cons x xs = reverse-append (x ∷ []) xs

reverse_push : (xs : List Stand) (x : Stand) → reverse (xs ++ x ∷ []) ≡ x ∷ reverse xs
reverse_push xs x = reverse-append xs (x ∷ [])

room_most : (w h : ℕ) (d : Pointer) (x y : ℕ) → x < w → y < h → room w h d x y ≤ w + h
room_most w h Right x y a b = omega arith
room_most w h Down x y a b = omega arith
room_most w h Left x y a b = omega arith
room_most w h Up x y a b = omega arith

less_by : (a a' k r r' : ℕ) → a' < a → r' < k → a' * k + r' < a * k + r
less_by a a' k r r' l m = let bound : suc a' * k ≤ a * k = mul-le-mul_right k l in omega (arith, bound)

module _ (im : Raster) (stops : List Stand) (at : Stand) (white : picture_of im at.place ≡ Some White) where
  pub goes_on : (q : Place) → ahead (picture_of im) at.pointer at.place ≡ Free q → SlidesOn im stops at stops (forward at q)
  unfolding slide_left
  goes_on q met =
      let known = free_at (picture_of im) (beside at.pointer at.place) q met in
      let less = room_less im.width im.height at.pointer at.place.x at.place.y q known.place ((within im).x q White known.white) ((within im).y q White known.white) in
      record {
        white = known.white;
        less = omega (arith, less);
        rest = λ end s. slides_on (picture_of im) (reverse stops) at end q met s;
      }

  pub turns : ahead (picture_of im) at.pointer at.place ≡ Blocked → list_any (λ t. same_stop t at) stops ≡ false → SlidesOn im stops at (stops ++ at ∷ []) (cornered at)
  unfolding slide_left
  turns met new =
      let fresh : has_stopped (reverse stops) at ≡ false = sym (any_stop stops at) ∙ new in
      let x = (within im).x at.place White white in
      let y = (within im).y at.place White white in
      let fewer = fewer_left im.width im.height (reverse stops) at x y (sym (any_chooser (reverse stops) at) ∙ fresh) in
      let most = room_most im.width im.height (cornered at).pointer at.place.x at.place.y x y in
      let back = reverse_push stops at in
      let all = less_by (left_over im.width im.height (reverse stops)) (left_over im.width im.height (at ∷ reverse stops)) (im.width + im.height + 1) (room im.width im.height at.pointer at.place.x at.place.y) (room im.width im.height (cornered at).pointer at.place.x at.place.y) fewer (omega (arith, most)) in
      record {
        white = white;
        less = subst (λ (xs : List Stand). left_over im.width im.height xs * (im.width + im.height + 1) + room im.width im.height (cornered at).pointer at.place.x at.place.y < left_over im.width im.height (reverse stops) * (im.width + im.height + 1) + room im.width im.height at.pointer at.place.x at.place.y) (sym back) all;
        rest = λ end s. slides_corner (picture_of im) (reverse stops) at end met fresh (subst (λ (xs : List Stand). Slides (picture_of im) xs (cornered at) end) back s);
      }

  pub enters : (q : Place) (h l : ℕ) → ahead (picture_of im) at.pointer at.place ≡ Onto q h l → Slides (picture_of im) (reverse stops) at (Some (forward at q))
  enters q h l met = slides_onto (picture_of im) (reverse stops) at q h l met

  pub never : ahead (picture_of im) at.pointer at.place ≡ Blocked → list_any (λ t. same_stop t at) stops ≡ true → Slides (picture_of im) (reverse stops) at None
  never met old = slides_never (picture_of im) (reverse stops) at met (sym (any_stop stops at) ∙ old)
