-- What a parser holds, as the machine on values has it.
use Rattle.std.specs.Prelude.{◌≡◌, ℕ, suc, List, [], ◌∷◌, ◌++◌, length, drop, Some, slice_get}
use Rattle.c_grammar.specs.Grammar.{rhs, HasRoom}
use Rattle.c_grammar.specs.declared.names.Production.{Production}
use Rattle.c_grammar.specs.declared.names.Symbol.{Symbol}
use Rattle.c_grammar.specs.Nesting.{Context, Walk, walk, counts, hands, goes_on}
use Rattle.c_grammar.specs.Values as machine
use Rattle.c_grammar.specs.Values.{Open, At, past_values, all_stars_in}
use Rattle.c_held.specs.View.{values_of, row_of}
use Rattle.c_held.specs.Shape.{StandsAt, StandAt}
use Rattle.c_held.specs.declared.value.Made.{Made}
use Rattle.c_held.specs.declared.value.Value.{Value as Held}
use Rattle.c_nesting.specs.Nested.{context_of, carries_at}
use Rattle.c_frames.specs.declared.frame.Frame.{Frame}

-- a production that is open; its places that are left are those behind its parts
abbrev pub open_of : Frame → Open
open_of f = At f.production (values_of f.done.items) (row_of f.row.items) (drop (length f.done.items) (rhs f.production))

-- the last is the innermost
abbrev pub opens : List Frame → List Open → List Open
opens [] s = s
opens (f ∷ fs) s = opens fs (open_of f ∷ s)

-- how far a production is behind its first places
abbrev pub walk_at : Production → ℕ → Context → Walk
walk_at p n c = record { so_far = c; carries = carries_at p n; then' = goes_on p; counts = drop n (counts p); hands = drop n (hands p) }

abbrev pub walk_of : Frame → Walk
walk_of f = walk_at f.production (length f.done.items) (context_of f.so_far)

-- its parts stand at its places, and it counts what the machine counts above these
pub record IsSound (f : Frame) (s : List Open) : Type 0 where
  pub room : HasRoom f.production
  pub stand : StandAt (rhs f.production) f.done.items
  pub walked : walk_of f ≡ past_values (walk f.production (machine.context_of s)) (values_of f.done.items)
  pub stars : f.row_stars ≡ all_stars_in (row_of f.row.items)

abbrev pub AreSound : List Frame → List Open → Type 0
AreSound [] s = Unit {0}
AreSound (f ∷ fs) s = IsSound f s × AreSound fs (open_of f ∷ s)

-- a production on top of a stack
pub record StandsOn (f : Frame) (fs : List Frame) : Type 0 where
  pub frame : IsSound f (opens fs [])
  pub below : AreSound fs []

-- the machine's stack is this one
pub record Stands (fs : List Frame) (s : List Open) : Type 0 where
  pub opens_are : opens fs [] ≡ s
  pub sound : AreSound fs []

-- the place that comes next
abbrev pub StandsNext : Frame → Symbol → Type 0
StandsNext f k = Some k ≡ slice_get (rhs f.production) (length f.done.items)

-- a value more at the next place
pub record Grows (f g : Frame) (x : Held) : Type 0 where
  pub production : g.production ≡ f.production
  pub done : g.done.items ≡ f.done.items ++ x ∷ []
  pub row : g.row.items ≡ []
  pub sound : (fs : List Frame) (k : Symbol) → StandsOn f fs → StandsNext f k → StandsAt k x → StandsOn g fs

-- a part more in the row
pub record GrowsByOne (f g : Frame) (m : Made) : Type 0 where
  pub production : g.production ≡ f.production
  pub done : g.done.items ≡ f.done.items
  pub row : g.row.items ≡ f.row.items ++ m ∷ []
  pub sound : (fs : List Frame) → StandsOn f fs → StandsOn g fs

-- no part in the row
pub record IsCleared (f g : Frame) : Type 0 where
  pub production : g.production ≡ f.production
  pub done : g.done.items ≡ f.done.items
  pub row : g.row.items ≡ []
  pub sound : (fs : List Frame) → StandsOn f fs → StandsOn g fs
