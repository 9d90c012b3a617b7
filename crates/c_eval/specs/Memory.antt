-- Objects, and the pointers into them.
use Rattle.std.specs.Prelude.{ℕ, ◌+◌, Bool, true, false, not, ◌&&◌, ◌||◌, ◌==◌, nat_lt, nat_le, List, [], ◌∷◌, ◌++◌, length, map, take, drop, Option, Some, None, slice_get, slice_set, ℤ, pos, ◌+ℤ◌, ◌-ℤ◌, int_lt, int_div, int_rem, unsigned_abs, if◌then◌else◌}
use Rattle.std.specs.Option.{option_map, option_map_or}
use Rattle.std.specs.Str.{bytes_eq}
use Rattle.c_types.specs.Types.{CType, is_pointer, is_null, is_function_pointer}
use Rattle.c_eval.specs.State.{Value, Word, Null, Point, Letter, Function, Cell, Unset, Holds, Object, OutsideObject, OtherKind, UnsetCell, LiteralWrite, PointerArithmetic, PointerOrder, PointerEquality, Run}
use Rattle.c_eval.specs.Run.{◌>>=◌, give, undefined, unless, objects_now, with_objects}

-- ---- kinds

-- what a cell can hold
pub data Kind : Type 0 where
  Number : Kind
  ObjectPointer : Kind
  FunctionPointer : Kind

-- the kind of the values of a type of one word
abbrev pub kind_of : CType → Kind
kind_of t = if is_function_pointer t then FunctionPointer else if is_pointer t || is_null t then ObjectPointer else Number

-- a value is of a kind; null is of both kinds of pointers
abbrev pub is_of : Kind → Value → Bool
is_of Number (Word n) = true
is_of ObjectPointer Null = true
is_of ObjectPointer (Point o k) = true
is_of ObjectPointer (Letter f i text k) = true
is_of FunctionPointer Null = true
is_of FunctionPointer (Function f) = true
is_of _ _ = false

-- an unset cell holds no other kind
abbrev pub holds_no_other : Kind → Cell → Bool
holds_no_other kind Unset = true
holds_no_other kind (Holds v) = is_of kind v

-- 0 or null
abbrev pub zero_of : Kind → Value
zero_of Number = Word 0
zero_of ObjectPointer = Null
zero_of FunctionPointer = Null

-- ---- cells

-- a literal has a cell for each byte and one for its zero
abbrev pub letters : List ℕ → List Cell
letters text = map (λ c. Holds (Word c)) (text ++ 0 ∷ [])

-- a dead object can't be accessed
abbrev pub live_cells : Option Object → Option (List Cell)
live_cells None = None
live_cells (Some x) = if x.live then Some x.cells else None

-- the cells of the live object into which a pointer points; a literal is live throughout
abbrev pub cells_at : List Object → Value → Option (List Cell)
cells_at os (Point o k) = live_cells (slice_get os o)
cells_at os (Letter f i text k) = Some (letters text)
cells_at os _ = None

-- how many cells a pointer lies behind the start
abbrev pub offset_of : Value → ℕ
offset_of (Point o k) = k
offset_of (Letter f i text k) = k
offset_of _ = 0

-- the cell at an offset
abbrev pub cell_in : Option (List Cell) → ℕ → Option Cell
cell_in None k = None
cell_in (Some cells) k = slice_get cells k

-- the cell to which a pointer points
abbrev pub cell_at : List Object → Value → Option Cell
cell_at os p = cell_in (cells_at os p) (offset_of p)

-- a read gives what a cell of the kind holds
unfoldable pub read_cell : Kind → Option Cell → Run Value
read_cell kind None = undefined OutsideObject
read_cell kind (Some Unset) = undefined UnsetCell
read_cell kind (Some (Holds v)) = unless (is_of kind v) OtherKind (give v)

-- a read of a cell
unfoldable pub load : Kind → Value → Run Value
load kind p = objects_now >>= λ os. read_cell kind (cell_at os p)

-- an object whose cell holds a value
abbrev pub with_cell : Option Object → ℕ → Value → Object
with_cell None k v = record { live = false; cells = [] }
with_cell (Some x) k v = record x { cells = slice_set x.cells k (Holds v) }

-- a cell of an object becomes a value, which is given on
unfoldable pub put_cell : List Object → Value → Value → Run Value
put_cell os (Point o k) v = with_objects (slice_set os o (with_cell (slice_get os o) k v)) >>= λ _. give v
put_cell os (Letter f i text k) v = undefined LiteralWrite
put_cell os _ v = undefined OutsideObject

-- a cell that holds another kind isn't written
unfoldable pub write_cell : Kind → Option Cell → List Object → Value → Value → Run Value
write_cell kind None os p v = undefined OutsideObject
write_cell kind (Some c) os p v = unless (holds_no_other kind c) OtherKind (put_cell os p v)

-- a write of a value to a cell
unfoldable pub store : Kind → Value → Value → Run Value
store kind p v = objects_now >>= λ os. write_cell kind (cell_at os p) os p v

-- ---- blocks

-- an object that lives
abbrev pub live_object : List Cell → Object
live_object cells = record { live = true; cells = cells }

-- one that is dead, with its cells as they were
abbrev pub dead : Object → Object
dead x = record x { live = false }

-- new objects with these cells; the number of the first
unfoldable pub enter : List (List Cell) → Run ℕ
enter new = objects_now >>= λ os. with_objects (os ++ map live_object new) >>= λ _. give (length os)

-- the objects from a number on are dead from here
unfoldable pub leave : ℕ → Run (Unit {0})
leave n = objects_now >>= λ os. with_objects (take n os ++ map dead (drop n os))

-- new objects live from the entry of a block to its end
unfoldable pub within : {A : Type 0} → List (List Cell) → (ℕ → Run A) → Run A
within new body = enter new >>= λ n. body n >>= λ a. leave n >>= λ _. give a

-- ---- pointers

-- the number of cells of the object into which a pointer points, dead or live
abbrev pub extent_of : List Object → Value → Option ℕ
extent_of os (Point o k) = option_map (λ x. length x.cells) (slice_get os o)
extent_of os (Letter f i text k) = Some (length text + 1)
extent_of os _ = None

-- the pointer into the same object at another offset
abbrev pub at_offset : Value → ℕ → Value
at_offset (Point o k) n = Point o n
at_offset (Letter f i text k) n = Letter f i text n
at_offset v n = v

-- an offset is one of the object or its end
abbrev pub is_within : ℤ → Option ℕ → Bool
is_within z None = false
is_within z (Some n) = not (int_lt z (pos 0)) && nat_le (unsigned_abs z) n

-- where a pointer comes to by so many cells
abbrev pub offset_by : Value → ℤ → ℤ
offset_by p cells = pos (offset_of p) +ℤ cells

-- pointer arithmetic stays in the object or at its end
unfoldable pub moved : Value → ℤ → Run Value
moved p cells =
    objects_now >>= λ os. unless (is_within (offset_by p cells) (extent_of os p)) PointerArithmetic (give (at_offset p (unsigned_abs (offset_by p cells))))

-- the place of a member so many cells behind the start of a struct; a member of null, or outside the object and its end, is an access outside it at once
unfoldable pub member_at : ℕ → Value → Run Value
member_at n p =
    objects_now >>= λ os. unless (is_within (offset_by p (pos n)) (extent_of os p)) OutsideObject (give (at_offset p (offset_of p + n)))

-- one function, or both file scope
abbrev pub same_owner : Option (List ℕ) → Option (List ℕ) → Bool
same_owner None None = true
same_owner (Some f) (Some g) = bytes_eq f g
same_owner _ _ = false

-- two pointers into one object; each literal is an object of its own
abbrev pub same_object : Value → Value → Bool
same_object (Point o k) (Point p l) = o == p
same_object (Letter f i text k) (Letter g j other l) = same_owner f g && i == j
same_object _ _ = false

-- an object is dead
abbrev pub is_dead_object : Option Object → Bool
is_dead_object None = true
is_dead_object (Some x) = not x.live

-- a pointer points to a dead object; no literal is ever dead
abbrev pub is_dead : List Object → Value → Bool
is_dead os (Point o k) = is_dead_object (slice_get os o)
is_dead os _ = false

-- it points to its object's end
abbrev pub is_at_end : List Object → Value → Bool
is_at_end os p = option_map_or (λ n. offset_of p == n) (extent_of os p) false

-- it points to a cell of its object
abbrev pub is_into : List Object → Value → Bool
is_into os p = option_map_or (λ n. nat_lt (offset_of p) n) (extent_of os p) false

-- the one points to its object's end, and the other into another object
abbrev pub meets_end : List Object → Value → Value → Bool
meets_end os p q = not (same_object p q) && is_at_end os p && is_into os q

-- both are null, point to one function, or to one place of an object
abbrev pub same_pointer : Value → Value → Bool
same_pointer Null Null = true
same_pointer (Function f) (Function g) = bytes_eq f g
same_pointer p q = same_object p q && offset_of p == offset_of q

-- pointers of a kind are equal or not, unless one is dead or one is at an end that another object may begin at
unfoldable pub equal_pointers : Kind → Value → Value → Run Bool
equal_pointers kind p q =
    objects_now >>= λ os.
    unless (is_of kind p && is_of kind q) OtherKind
    (unless (not (is_dead os p || is_dead os q || meets_end os p q || meets_end os q p)) PointerEquality
    (give (same_pointer p q)))

-- what is ordered and subtracted as a pointer: one to an object, null, or the word 0, which is null there
abbrev pub serves_as_pointer : Value → Bool
serves_as_pointer (Word n) = n == 0
serves_as_pointer v = is_of ObjectPointer v

-- the order of two pointers into one object is that of their offsets
unfoldable pub pointer_before : Value → Value → Run Bool
pointer_before p q =
    unless (serves_as_pointer p && serves_as_pointer q) OtherKind (unless (same_object p q) PointerOrder (give (nat_lt (offset_of p) (offset_of q))))

-- the whole number of elements of so many cells between two pointers
unfoldable pub pointer_difference : ℕ → Value → Value → Run ℤ
pointer_difference cells p q =
    let between = pos (offset_of p) -ℤ pos (offset_of q) in
    unless (serves_as_pointer p && serves_as_pointer q) OtherKind
    (unless (same_object p q && unsigned_abs (int_rem between (pos cells)) == 0) PointerOrder
    (give (int_div between (pos cells))))
