-- Slides, piece by piece.
use Rattle.piet_image.specs.declared.place.Place.{Place}
use Rattle.piet_image.specs.declared.place.Stand.{Stand}
use Rattle.std.proofs.Common.{◌≡◌, ℕ, zero, suc, ◌+◌, Bool, true, false, cond, List, ◌∷◌, Option, Some, None, refl, sym, ap, ◌∙◌, arith}
use Rattle.piet_image.specs.declared.met.Met.{Met}
use Rattle.piet_image.specs.declared.met.Met.TheVariants.{Blocked, Free, Onto}
use Rattle.piet_image.specs.Picture.{Picture, ahead}
use Rattle.piet_image.specs.Slide.{forward, cornered, has_stopped, slide, Slides}

abbrev pub met_slide : Picture → ℕ → List Stand → Stand → Met → Option (Option Stand)
met_slide f n stops s m = elim m [
  | Blocked ↦ cond (has_stopped stops s) (Some None) (slide f n (s ∷ stops) (cornered s))
  | Free q ↦ slide f n stops (forward s q)
  | Onto q h l ↦ Some (Some (forward s q))
]

pub slide-suc : (f : Picture) (n : ℕ) (stops : List Stand) (s : Stand) → slide f (suc n) stops s ≡ met_slide f n stops s (ahead f s.pointer s.place)
unfolding slide
slide-suc f n stops s = refl

pub slides_on : (f : Picture) (stops : List Stand) (s : Stand) (end : Option Stand) (q : Place) → ahead f s.pointer s.place ≡ Free q → Slides f stops (forward s q) end → Slides f stops s end
slides_on f stops s end q met more = record {
  count = suc more.count;
  ends = slide-suc f more.count stops s ∙ (ap (met_slide f more.count stops s) met ∙ more.ends);
}

pub slides_corner : (f : Picture) (stops : List Stand) (s : Stand) (end : Option Stand) → ahead f s.pointer s.place ≡ Blocked → has_stopped stops s ≡ false → Slides f (s ∷ stops) (cornered s) end → Slides f stops s end
slides_corner f stops s end met new more = record {
  count = suc more.count;
  ends = slide-suc f more.count stops s ∙ (ap (met_slide f more.count stops s) met ∙ (ap (λ b. cond b (Some None) (slide f more.count (s ∷ stops) (cornered s))) new ∙ more.ends));
}

pub slides_onto : (f : Picture) (stops : List Stand) (s : Stand) (q : Place) (h l : ℕ) → ahead f s.pointer s.place ≡ Onto q h l → Slides f stops s (Some (forward s q))
slides_onto f stops s q h l met = record {
  count = 1;
  ends = slide-suc f 0 stops s ∙ ap (met_slide f 0 stops s) met;
}

pub slides_never : (f : Picture) (stops : List Stand) (s : Stand) → ahead f s.pointer s.place ≡ Blocked → has_stopped stops s ≡ true → Slides f stops s None
slides_never f stops s met old = record {
  count = 1;
  ends = slide-suc f 0 stops s ∙ (ap (met_slide f 0 stops s) met ∙ ap (λ b. cond b (Some None) (slide f 0 (s ∷ stops) (cornered s))) old);
}

-- more places change nothing
pub slide-more : (f : Picture) (n k : ℕ) (stops : List Stand) (s : Stand) (end : Option Stand) → slide f n stops s ≡ Some end → slide f (n + k) stops s ≡ Some end
unfolding slide
slide-more f zero k stops s end e = cc
slide-more f (suc n) k stops s end e =
    let at : suc n + k ≡ suc (n + k) = omega arith in
    ap (λ j. slide f j stops s) at ∙ (slide-suc f (n + k) stops s ∙ go (λ ts t h. slide-more f n k ts t end h) (ahead f s.pointer s.place) (sym (slide-suc f n stops s) ∙ e))
  where
    one : (b : Bool) → (slide f n (s ∷ stops) (cornered s) ≡ Some end → slide f (n + k) (s ∷ stops) (cornered s) ≡ Some end) → cond b (Some None) (slide f n (s ∷ stops) (cornered s)) ≡ Some end → cond b (Some None) (slide f (n + k) (s ∷ stops) (cornered s)) ≡ Some end
    one true more h = h
    one false more h = more h

    go : ((ts : List Stand) (t : Stand) → slide f n ts t ≡ Some end → slide f (n + k) ts t ≡ Some end) → (m : Met) → met_slide f n stops s m ≡ Some end → met_slide f (n + k) stops s m ≡ Some end
    go more Blocked h = one (has_stopped stops s) (more (s ∷ stops) (cornered s)) h
    go more (Free q) h = more stops (forward s q) h
    go more (Onto q h' l) h = h

pub one_end : (f : Picture) (stops : List Stand) (s : Stand) (a b : Option Stand) → Slides f stops s a → Slides f stops s b → a ≡ b
one_end f stops s a b p q =
    let x = slide-more f p.count q.count stops s a p.ends in
    let y = slide-more f q.count p.count stops s b q.ends in
    let z : p.count + q.count ≡ q.count + p.count = omega arith in
    let w = ap (λ j. slide f j stops s) z in
    cc
