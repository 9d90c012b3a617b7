-- A slide over white.
use Rattle.piet_image.specs.declared.place.Stand.{Stand}
use Rattle.piet_image.specs.declared.place.Place.{Place}
use Rattle.std.specs.Prelude.{◌≡◌, ℕ, zero, suc, Bool, true, false, cond, nat_eq, ◌&&◌, ◌||◌, List, [], ◌∷◌, Option, Some, None}
use Rattle.piet_image.specs.declared.place.Pointer.{Pointer}
use Rattle.piet_image.specs.declared.place.Pointer.TheVariants.{Right, Down, Left, Up}
use Rattle.piet_image.specs.declared.place.Chooser.{Chooser}
use Rattle.piet_image.specs.declared.met.Met.TheVariants.{Blocked, Free, Onto}
use Rattle.piet_image.specs.Picture.{Picture, ahead, turned, toggled}

abbrev pub same_pointer : Pointer → Pointer → Bool
same_pointer Right Right = true
same_pointer Down Down = true
same_pointer Left Left = true
same_pointer Up Up = true
same_pointer _ _ = false

abbrev pub same_stop : Stand → Stand → Bool
same_stop a b = same_pointer a.pointer b.pointer && (nat_eq a.place.x b.place.x && nat_eq a.place.y b.place.y)

abbrev pub has_stopped : List Stand → Stand → Bool
has_stopped [] s = false
has_stopped (t ∷ ts) s = same_stop t s || has_stopped ts s

abbrev pub forward : Stand → Place → Stand
forward s q = record { place = q; pointer = s.pointer; chooser = s.chooser }

abbrev pub cornered : Stand → Stand
cornered s = record { place = s.place; pointer = turned s.pointer; chooser = toggled s.chooser }

-- so many places of a slide from a white codel, after some stops: nothing while it goes on, then where it enters a colour, or that it ends the run
unfoldable pub slide : Picture → ℕ → List Stand → Stand → Option (Option Stand)
slide f zero stops s = None
slide f (suc n) stops s = elim (ahead f s.pointer s.place) [
  | Blocked ↦ cond (has_stopped stops s) (Some None) (slide f n (s ∷ stops) (cornered s))
  | Free q ↦ slide f n stops (forward s q)
  | Onto q h l ↦ Some (Some (forward s q))
]

-- a slide comes to this
pub record Slides (f : Picture) (stops : List Stand) (s : Stand) (end : Option Stand) : Type 0 where
  pub count : ℕ
  pub ends : slide f count stops s ≡ Some end
