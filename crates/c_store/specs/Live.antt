-- Live objects in a row, and the indices of their cells.
use Rattle.std.specs.Prelude.{◌≡◌, ℕ, suc, ◌+◌, ◌-◌, ◌<◌, ◌≤◌, nat_lt, List, [], ◌∷◌, ◌++◌, length, Option, Some, None, slice_get, if◌then◌else◌}
use Rattle.c_store.specs.declared.live.Live.{Live}

-- the index of a cell of an object, if it has so many
abbrev pub index_of : ℕ → Option Live → Option ℕ
index_of offset None = None
index_of offset (Some x) = if nat_lt offset x.length then Some (x.first + offset) else None

-- the numbers ascend, from one on
abbrev pub Ascending : List Live → ℕ → Type 0
Ascending [] low = Unit {0}
Ascending (x ∷ xs) low = (low ≤ x.number) × Ascending xs (suc x.number)

-- the cells stand one after the other, from an index on up to another one
abbrev pub InRow : List Live → (at end : ℕ) → Type 0
InRow [] at end = at ≡ end
InRow (x ∷ xs) at end = (x.first ≡ at) × InRow xs (at + x.length) end

-- each number is below the next one
abbrev pub NumbersBelow : List Live → ℕ → Type 0
NumbersBelow [] next = Unit {0}
NumbersBelow (x ∷ xs) next = (x.number < next) × NumbersBelow xs next

-- objects as they are held, with so many cells, the next one's number being given
pub record IsHeld (objects : List Live) (count next : ℕ) : Type 0 where
  pub ascending : Ascending objects 0
  pub row : InRow objects 0 count
  pub below : NumbersBelow objects next

-- so many of the oldest objects, behind which each number is at least the given one, and the last of which has a number below it
pub record OldestBelow (objects : List Live) (number count : ℕ) : Type 0 where
  pub within : count ≤ length objects
  pub above : (k : ℕ) (x : Live) → count ≤ k → slice_get objects k ≡ Some x → number ≤ x.number
  pub last : (x : Live) → 0 < count → slice_get objects (count - 1) ≡ Some x → x.number < number

-- one object more, of this number, whose cells begin at an index
pub record IsAdded (old new : List Live) (number first length : ℕ) : Type 0 where
  pub last : Live
  pub behind : new ≡ old ++ last ∷ []
  pub number_is : last.number ≡ number
  pub first_is : last.first ≡ first
  pub length_is : last.length ≡ length
