-- Slides along straight corridors.
use Rattle.piet_image.specs.declared.place.Place.{Place}
use Rattle.piet_image.specs.declared.place.Stand.{Stand}
use Rattle.std.proofs.Common.{◌≡◌, ℕ, zero, suc, ◌+◌, ◌<◌, List, Option, Some, sym, ap, subst, ◌∙◌, arith, add-suc, add-zero}
use Rattle.piet_image.specs.declared.colour.Colour.TheVariants.{White}
use Rattle.piet_image.specs.declared.place.Pointer.{Pointer}
use Rattle.piet_image.specs.declared.place.Pointer.TheVariants.{Right, Down, Left, Up}
use Rattle.piet_image.specs.declared.place.Chooser.{Chooser}
use Rattle.piet_image.specs.declared.met.Met.TheVariants.{Free}
use Rattle.piet_image.specs.Picture.{Picture, met_by, ahead}
use Rattle.piet_image.specs.Slide.{Slides}
use Rattle.piet_image.proofs.Slides.{slides_on}

abbrev pub stand : ℕ → ℕ → Pointer → Chooser → Stand
stand x y d c = record { place = record { x = x; y = y }; pointer = d; chooser = c }

abbrev pub spot : ℕ → ℕ → Place
spot x y = record { x = x; y = y }

module _ (f : Picture) (stops : List Stand) (c : Chooser) (end : Option Stand) where
  -- to the left, down to a first place
  pub corridor_left : (x n y : ℕ) → ((k : ℕ) → k < n → f (spot (x + k) y) ≡ Some White) → Slides f stops (stand x y Left c) end → Slides f stops (stand (x + n) y Left c) end
  corridor_left x zero y white last = subst (λ k. Slides f stops (stand k y Left c) end) (sym (add-zero x)) last
  corridor_left x (suc n) y white last =
      let rest = corridor_left x n y (λ k h. white k (omega arith)) last in
      let met : ahead f Left (spot (suc (x + n)) y) ≡ Free (spot (x + n) y) = ap (met_by (spot (x + n) y)) (white n (omega arith)) in
      subst (λ k. Slides f stops (stand k y Left c) end) (sym (add-suc x n)) (slides_on f stops (stand (suc (x + n)) y Left c) end (spot (x + n) y) met rest)

  pub corridor_up : (x y n : ℕ) → ((k : ℕ) → k < n → f (spot x (y + k)) ≡ Some White) → Slides f stops (stand x y Up c) end → Slides f stops (stand x (y + n) Up c) end
  corridor_up x y zero white last = subst (λ k. Slides f stops (stand x k Up c) end) (sym (add-zero y)) last
  corridor_up x y (suc n) white last =
      let rest = corridor_up x y n (λ k h. white k (omega arith)) last in
      let met : ahead f Up (spot x (suc (y + n))) ≡ Free (spot x (y + n)) = ap (met_by (spot x (y + n))) (white n (omega arith)) in
      subst (λ k. Slides f stops (stand x k Up c) end) (sym (add-suc y n)) (slides_on f stops (stand x (suc (y + n)) Up c) end (spot x (y + n)) met rest)

  pub corridor_right : (x n y : ℕ) → ((k : ℕ) → k < n → f (spot (x + suc k) y) ≡ Some White) → Slides f stops (stand (x + n) y Right c) end → Slides f stops (stand x y Right c) end
  corridor_right x zero y white last = subst (λ k. Slides f stops (stand k y Right c) end) (add-zero x) last
  corridor_right x (suc n) y white last =
      let step : (k : ℕ) → suc x + suc k ≡ x + suc (suc k) = λ k. omega arith in
      let more : x + suc n ≡ suc x + n = omega arith in
      let rest = corridor_right (suc x) n y (λ k h. ap (λ j. f (spot j y)) (step k) ∙ white (suc k) (omega arith)) (subst (λ k. Slides f stops (stand k y Right c) end) more last) in
      let one : suc x ≡ x + 1 = omega arith in
      slides_on f stops (stand x y Right c) end (spot (suc x) y) (ap (met_by (spot (suc x) y)) (ap (λ j. f (spot j y)) one ∙ white 0 (omega arith))) rest

  pub corridor_down : (x y n : ℕ) → ((k : ℕ) → k < n → f (spot x (y + suc k)) ≡ Some White) → Slides f stops (stand x (y + n) Down c) end → Slides f stops (stand x y Down c) end
  corridor_down x y zero white last = subst (λ k. Slides f stops (stand x k Down c) end) (add-zero y) last
  corridor_down x y (suc n) white last =
      let step : (k : ℕ) → suc y + suc k ≡ y + suc (suc k) = λ k. omega arith in
      let more : y + suc n ≡ suc y + n = omega arith in
      let rest = corridor_down x (suc y) n (λ k h. ap (λ j. f (spot x j)) (step k) ∙ white (suc k) (omega arith)) (subst (λ k. Slides f stops (stand x k Down c) end) more last) in
      let one : suc y ≡ y + 1 = omega arith in
      slides_on f stops (stand x y Down c) end (spot x (suc y)) (ap (met_by (spot x (suc y))) (ap (λ j. f (spot x j)) one ∙ white 0 (omega arith))) rest
