-- Each slide in a finite picture comes to an end.
use Rattle.piet_image.specs.Laws.{Within}
use Rattle.piet_image.specs.declared.place.Place.{Place}
use Rattle.piet_image.specs.declared.place.Stand.{Stand}
use Rattle.std.proofs.Common.{◌≡◌, ℕ, zero, suc, ◌+◌, ◌-◌, ◌<◌, ◌≤◌, Bool, true, false, nat_eq, ◌&&◌, ◌||◌, List, [], ◌∷◌, Option, Some, None, refl, sym, ap, ◌∙◌, arith, eq-eqb}
use Rattle.piet_image.specs.declared.colour.Colour.{Colour}
use Rattle.piet_image.specs.declared.colour.Colour.TheVariants.{White, Black, Hue}
use Rattle.piet_image.specs.declared.place.Pointer.{Pointer}
use Rattle.piet_image.specs.declared.place.Pointer.TheVariants.{Right, Down, Left, Up}
use Rattle.piet_image.specs.declared.place.Chooser.TheVariants.{ToLeft}
use Rattle.piet_image.specs.declared.met.Met.{Met}
use Rattle.piet_image.specs.declared.met.Met.TheVariants.{Blocked, Free, Onto}
use Rattle.piet_image.specs.Picture.{Picture, met_by, met_at, ahead, beside}
use Rattle.piet_image.specs.Slide.{forward, cornered, same_pointer, same_stop, has_stopped, Slides}
use Rattle.piet_image.proofs.Slides.{slides_on, slides_corner, slides_onto, slides_never}
use Rattle.piet_image.proofs.Counts.{count_free, fewer, no_more}

pub record FreeAt (f : Picture) (o : Option Place) (q : Place) : Type 0 where
  pub place : o ≡ Some q
  pub white : f q ≡ Some White

pub free_at : (f : Picture) (o : Option Place) (q : Place) → met_at f o ≡ Free q → FreeAt f o q
free_at f None q e = cc
free_at f (Some p) q e = go (f p) refl e
  where
    go : (c : Option Colour) → f p ≡ c → met_by p c ≡ Free q → FreeAt f (Some p) q
    go None is h = cc
    go (Some White) is h = record { place = cc; white = cc }
    go (Some Black) is h = cc
    go (Some (Hue a b)) is h = cc

-- how far it is to the edge at most
abbrev pub room : ℕ → ℕ → Pointer → ℕ → ℕ → ℕ
room w h Right x y = w - x
room w h Down x y = h - y
room w h Left x y = x
room w h Up x y = y

pub room_less : (w h : ℕ) (d : Pointer) (x y : ℕ) (q : Place) → beside d (record { x = x; y = y }) ≡ Some q → q.x < w → q.y < h → room w h d q.x q.y < room w h d x y
room_less w h Right x y q e a b = let z : q.x ≡ suc x = cc in omega arith
room_less w h Down x y q e a b = let z : q.y ≡ suc y = cc in omega arith
room_less w h Left zero y q e a b = cc
room_less w h Left (suc x) y q e a b = let z : q.x ≡ x = cc in omega arith
room_less w h Up x zero q e a b = cc
room_less w h Up x (suc y) q e a b = let z : q.y ≡ y = cc in omega arith

-- whether a slide stopped at a place in each way
abbrev pub stopped_by : List Stand → Pointer → ℕ → ℕ → Bool
stopped_by stops d x y = has_stopped stops (record { place = record { x = x; y = y }; pointer = d; chooser = ToLeft })

abbrev pub left_over : ℕ → ℕ → List Stand → ℕ
left_over w h stops = (count_free w h (stopped_by stops Right) + count_free w h (stopped_by stops Down)) + (count_free w h (stopped_by stops Left) + count_free w h (stopped_by stops Up))

or_true : (a b : Bool) → b ≡ true → (a || b) ≡ true
or_true true b h = refl
or_true false b h = h

same_itself : (d : Pointer) (x y : ℕ) → (same_pointer d d && (nat_eq x x && nat_eq y y)) ≡ true
same_itself Right x y = rw (eq-eqb x x refl) (rw (eq-eqb y y refl) refl)
same_itself Down x y = rw (eq-eqb x x refl) (rw (eq-eqb y y refl) refl)
same_itself Left x y = rw (eq-eqb x x refl) (rw (eq-eqb y y refl) refl)
same_itself Up x y = rw (eq-eqb x x refl) (rw (eq-eqb y y refl) refl)

now_stopped : (stops : List Stand) (s : Stand) → stopped_by (s ∷ stops) s.pointer s.place.x s.place.y ≡ true
now_stopped stops s = rw (same_itself s.pointer s.place.x s.place.y) refl

module _ (w h : ℕ) (stops : List Stand) (s : Stand) where
  still : (d : Pointer) (x y : ℕ) → stopped_by stops d x y ≡ true → stopped_by (s ∷ stops) d x y ≡ true
  still d x y e = or_true (same_stop s (record { place = record { x = x; y = y }; pointer = d; chooser = ToLeft })) (stopped_by stops d x y) e

  as_many : (d : Pointer) → count_free w h (stopped_by (s ∷ stops) d) ≤ count_free w h (stopped_by stops d)
  as_many d = no_more w h (stopped_by (s ∷ stops) d) (stopped_by stops d) (still d)

  one_fewer : s.place.x < w → s.place.y < h → stopped_by stops s.pointer s.place.x s.place.y ≡ false → count_free w h (stopped_by (s ∷ stops) s.pointer) < count_free w h (stopped_by stops s.pointer)
  one_fewer a b new = fewer w h s.place.x s.place.y (stopped_by (s ∷ stops) s.pointer) (stopped_by stops s.pointer) (still s.pointer) a b (now_stopped stops s) new

  pub fewer_left : s.place.x < w → s.place.y < h → stopped_by stops s.pointer s.place.x s.place.y ≡ false → left_over w h (s ∷ stops) < left_over w h stops
  fewer_left a b new =
      let r = as_many Right in
      let d = as_many Down in
      let l = as_many Left in
      let u = as_many Up in
      go s.pointer (one_fewer a b new) r d l u
    where
      go : (d : Pointer) → count_free w h (stopped_by (s ∷ stops) d) < count_free w h (stopped_by stops d)
          → count_free w h (stopped_by (s ∷ stops) Right) ≤ count_free w h (stopped_by stops Right)
          → count_free w h (stopped_by (s ∷ stops) Down) ≤ count_free w h (stopped_by stops Down)
          → count_free w h (stopped_by (s ∷ stops) Left) ≤ count_free w h (stopped_by stops Left)
          → count_free w h (stopped_by (s ∷ stops) Up) ≤ count_free w h (stopped_by stops Up)
          → left_over w h (s ∷ stops) < left_over w h stops
      go Right e r d l u = omega arith
      go Down e r d l u = omega arith
      go Left e r d l u = omega arith
      go Up e r d l u = omega arith

pub record Comes (f : Picture) (stops : List Stand) (s : Stand) : Type 0 where
  pub end : Option Stand
  pub slides : Slides f stops s end

pub any_chooser : (stops : List Stand) (s : Stand) → has_stopped stops s ≡ stopped_by stops s.pointer s.place.x s.place.y
any_chooser [] s = refl
any_chooser (t ∷ ts) s = ap (λ b. same_stop t s || b) (any_chooser ts s)

module _ (f : Picture) (w h : ℕ) (inside : Within f w h) where
  on_a_row : (a : ℕ) → ((stops : List Stand) (s : Stand) → left_over w h stops < a → f s.place ≡ Some White → Comes f stops s)
      → (b : ℕ) (stops : List Stand) (s : Stand) → left_over w h stops < suc a → room w h s.pointer s.place.x s.place.y < b → f s.place ≡ Some White → Comes f stops s
  on_a_row a more zero stops s l r white = absurd (omega arith)
  on_a_row a more (suc b) stops s l r white = go (λ q less is. on_a_row a more b stops (forward s q) l less is) (ahead f s.pointer s.place) refl
    where
      stop : (b : Bool) → has_stopped stops s ≡ b → ahead f s.pointer s.place ≡ Blocked → Comes f stops s
      stop true old met = record { end = None; slides = slides_never f stops s met old }
      stop false new met =
          let x = inside.x s.place White white in
          let y = inside.y s.place White white in
          let less = fewer_left w h stops s x y (sym (any_chooser stops s) ∙ new) in
          let rest = more (s ∷ stops) (cornered s) (omega arith) white in
          record { end = rest.end; slides = slides_corner f stops s rest.end met new rest.slides }

      go : ((q : Place) → room w h s.pointer q.x q.y < b → f q ≡ Some White → Comes f stops (forward s q)) → (m : Met) → ahead f s.pointer s.place ≡ m → Comes f stops s
      go on Blocked met = stop (has_stopped stops s) refl met
      go on (Free q) met =
          let known = free_at f (beside s.pointer s.place) q met in
          let less = room_less w h s.pointer s.place.x s.place.y q known.place (inside.x q White known.white) (inside.y q White known.white) in
          let rest = on q (omega arith) known.white in
          record { end = rest.end; slides = slides_on f stops s rest.end q met rest.slides }
      go on (Onto q a l) met = record { end = Some (forward s q); slides = slides_onto f stops s q a l met }

  from_any : (a : ℕ) (stops : List Stand) (s : Stand) → left_over w h stops < a → f s.place ≡ Some White → Comes f stops s
  from_any zero stops s l white = absurd (omega arith)
  from_any (suc a) stops s l white = on_a_row a (from_any a) (suc (room w h s.pointer s.place.x s.place.y)) stops s l (omega arith) white

  -- from each white codel
  pub slide_ends : (s : Stand) → f s.place ≡ Some White → Comes f [] s
  slide_ends s white = from_any (suc (left_over w h [])) [] s (omega arith) white
