-- What a run of C does with its memory and with pointers.
use Rattle.std.specs.Prelude.{ℕ, suc, ◌+◌, Bool, true, false, not, ◌&&◌, ◌||◌, ◌==◌, nat_lt, nat_le, List, [], ◌∷◌, ◌++◌, length, map, filter, find, replicate, Option, Some, None, Result, Ok, Err, slice_get, slice_set, ℤ, pos, ◌+ℤ◌, ◌-ℤ◌, int_lt, int_div, int_rem, unsigned_abs, is_some, if◌then◌else◌}
use Rattle.std.specs.Option.{option_map_or}
use Rattle.c_store.specs.declared.act.Act.{Act}
use Rattle.c_store.specs.declared.act.Act.TheVariants.{OutsideObject, OtherKind, UnsetCell, LiteralWrite, PointerArithmetic, PointerOrder, PointerEquality, NoResult}
use Rattle.c_store.specs.declared.kind.Kind.{Kind}
use Rattle.c_store.specs.declared.kind.Kind.TheVariants.{Number, ObjectPointer, FunctionPointer}
use Rattle.c_store.specs.Values.{Value, Word, Null, Point, Letter, Function, Missing, Cell, Unset, Holds, Literal, Object, Stack}

-- ---- values

-- a value is of a kind; null is of both kinds of pointers
abbrev pub is_of : Kind → Value → Bool
is_of Number (Word n) = true
is_of ObjectPointer Null = true
is_of ObjectPointer (Point o n k) = true
is_of ObjectPointer (Letter l k) = true
is_of FunctionPointer Null = true
is_of FunctionPointer (Function f) = true
is_of _ _ = false

-- an unset cell holds no other kind
abbrev pub holds_no_other : Kind → Cell → Bool
holds_no_other kind Unset = true
holds_no_other kind (Holds v) = is_of kind v

-- a word is true where it isn't 0, a pointer where it isn't null
abbrev pub is_true : Value → Bool
is_true (Word n) = not (n == 0)
is_true Null = false
is_true _ = true

-- the word 0 becomes null where it is used as a pointer
abbrev pub as_pointer : Value → Value
as_pointer (Word n) = if n == 0 then Null else Word n
as_pointer v = v

-- unless a rule is kept the act is undefined
abbrev pub unless : {A : Type 0} → Bool → Act → Result A Act → Result A Act
unless true act r = r
unless false act r = Err act

-- the use of a value: a function that gave no result has none
abbrev pub used : Value → Result Value Act
used Missing = Err NoResult
used v = Ok v

-- ---- pointers

-- how many cells a pointer lies behind the start
abbrev pub offset_of : Value → ℕ
offset_of (Point o n k) = k
offset_of (Letter l k) = k
offset_of _ = 0

-- how many cells a literal has: one for each byte, and one for its zero
abbrev pub letter_count : Option Literal → Option ℕ
letter_count None = None
letter_count (Some l) = Some (length l.text + 1)

-- how many cells the object has into which a pointer points, dead or live
abbrev pub length_of : List Literal → Value → Option ℕ
length_of literals (Point o n k) = Some n
length_of literals (Letter l k) = letter_count (slice_get literals l)
length_of literals _ = None

-- the pointer into the same object at another offset
abbrev pub at_offset : Value → ℕ → Value
at_offset (Point o n k) offset = Point o n offset
at_offset (Letter l k) offset = Letter l offset
at_offset v offset = v

-- an offset that is one of so many cells, or their end
abbrev pub offset_within : ℤ → ℕ → Option ℕ
offset_within z n = if not (int_lt z (pos 0)) && nat_le (unsigned_abs z) n then Some (unsigned_abs z) else None

-- the pointer at an offset that there is
abbrev pub pointer_at : Act → Value → Option ℕ → Result Value Act
pointer_at act v None = Err act
pointer_at act v (Some n) = Ok (at_offset v n)

-- the pointer so many cells farther, in an object of this length
abbrev pub farther : Act → Value → ℤ → Option ℕ → Result Value Act
farther act v z None = Err act
farther act v z (Some n) = pointer_at act v (offset_within (pos (offset_of v) +ℤ z) n)

-- pointer arithmetic stays in the object or at its end
abbrev pub moved : List Literal → Value → ℤ → Result Value Act
moved literals v z = farther PointerArithmetic v z (length_of literals v)

-- a member of null, or outside the object and its end, is an access outside it at once
abbrev pub member_at : List Literal → ℕ → Value → Result Value Act
member_at literals n v = farther OutsideObject v (pos n) (length_of literals v)

-- one literal
abbrev pub same_literal : Option Literal → Option Literal → Bool
same_literal (Some l) (Some m) = l.owner == m.owner && l.number == m.number
same_literal _ _ = false

-- two pointers into one object; each literal is an object of its own
abbrev pub same_object : List Literal → Value → Value → Bool
same_object literals (Point o n k) (Point p m l) = o == p
same_object literals (Letter l k) (Letter m j) = same_literal (slice_get literals l) (slice_get literals m)
same_object literals _ _ = false

-- what is ordered and subtracted as a pointer: one to an object, null, or the word 0, which is null there
abbrev pub serves_as_pointer : Value → Bool
serves_as_pointer (Word n) = n == 0
serves_as_pointer v = is_of ObjectPointer v

-- the order of two pointers into one object is that of their offsets
abbrev pub pointer_before : List Literal → Value → Value → Result Bool Act
pointer_before literals v w =
    unless (serves_as_pointer v && serves_as_pointer w) OtherKind (unless (same_object literals v w) PointerOrder (Ok (nat_lt (offset_of v) (offset_of w))))

-- the whole number of elements of so many cells between two pointers
abbrev pub pointer_difference : List Literal → ℕ → Value → Value → Result ℤ Act
pointer_difference literals cells v w =
    let between = pos (offset_of v) -ℤ pos (offset_of w) in
    unless (serves_as_pointer v && serves_as_pointer w) OtherKind
    (unless (same_object literals v w && unsigned_abs (int_rem between (pos cells)) == 0) PointerOrder
    (Ok (int_div between (pos cells))))

-- ---- accesses

-- the live object of a number
abbrev pub object_of : ℕ → List Object → Option Object
object_of n live = find (λ x. x.number == n) live

abbrev pub cells_in : Option Object → Option (List Cell)
cells_in None = None
cells_in (Some x) = Some x.cells

-- a literal has a cell for each byte and one for its zero
abbrev pub letters : Option Literal → Option (List Cell)
letters None = None
letters (Some l) = Some (map (λ c. Holds (Word c)) (l.text ++ 0 ∷ []))

-- the cells of the live object into which a pointer points; a literal is live throughout
abbrev pub cells_at : List Literal → Stack → Value → Option (List Cell)
cells_at literals s (Point o n k) = cells_in (object_of o s.live)
cells_at literals s (Letter l k) = letters (slice_get literals l)
cells_at literals s _ = None

abbrev pub cell_in : Option (List Cell) → ℕ → Option Cell
cell_in None k = None
cell_in (Some cells) k = slice_get cells k

-- the cell to which a pointer points
abbrev pub cell_at : List Literal → Stack → Value → Option Cell
cell_at literals s v = cell_in (cells_at literals s v) (offset_of v)

-- a read gives what a cell of the kind holds
abbrev pub read_cell : Kind → Option Cell → Result Value Act
read_cell kind None = Err OutsideObject
read_cell kind (Some Unset) = Err UnsetCell
read_cell kind (Some (Holds v)) = unless (is_of kind v) OtherKind (Ok v)

-- a read of a cell
abbrev pub load : List Literal → Stack → Kind → Value → Result Value Act
load literals s kind p = read_cell kind (cell_at literals s p)

-- an object with this value in a cell, where it has that number
abbrev pub with_cell : (number offset : ℕ) → Value → Object → Object
with_cell n k v x = if x.number == n then record x { cells = slice_set x.cells k (Holds v) } else x

-- the memory after a value was put into a cell
abbrev pub put_cell : Stack → Value → Value → Result Stack Act
put_cell s (Point o n k) v = Ok (record s { live = map (with_cell o k v) s.live })
put_cell s (Letter l k) v = Err LiteralWrite
put_cell s _ v = Err OutsideObject

-- a cell that holds another kind isn't written
abbrev pub write_cell : Kind → Option Cell → Stack → Value → Value → Result Stack Act
write_cell kind None s p v = Err OutsideObject
write_cell kind (Some c) s p v = unless (holds_no_other kind c) OtherKind (put_cell s p v)

-- a write of a value to a cell
abbrev pub stored : List Literal → Stack → Kind → Value → Value → Result Stack Act
stored literals s kind p v = write_cell kind (cell_at literals s p) s p v

-- ---- blocks

-- new objects with these cells
abbrev pub entered : List (List Cell) → Stack → Stack
entered [] s = s
entered (cells ∷ more) s = entered more (record { next = suc s.next; live = s.live ++ record { number = s.next; cells = cells } ∷ [] })

-- new objects of so many unset cells each
abbrev pub entered_all : List ℕ → Stack → Stack
entered_all lengths s = entered (map (λ n. replicate n Unset) lengths) s

-- new objects of one cell each, which hold these values
abbrev pub entered_values : List Value → Stack → Stack
entered_values vs s = entered (map (λ v. Holds v ∷ []) vs) s

-- the objects from a number on are dead from here
abbrev pub left : ℕ → Stack → Stack
left n s = record s { live = filter (λ x. nat_lt x.number n) s.live }

-- ---- equality

-- a pointer points to a dead object; no literal is ever dead
abbrev pub is_dead : Stack → Value → Bool
is_dead s (Point o n k) = not (is_some (object_of o s.live))
is_dead s _ = false

-- it points to its object's end
abbrev pub is_at_end : List Literal → Value → Bool
is_at_end literals v = option_map_or (λ n. offset_of v == n) (length_of literals v) false

-- it points to a cell of its object
abbrev pub is_into : List Literal → Value → Bool
is_into literals v = option_map_or (λ n. nat_lt (offset_of v) n) (length_of literals v) false

-- the one points to its object's end, and the other into another object
abbrev pub meets_end : List Literal → Value → Value → Bool
meets_end literals v w = not (same_object literals v w) && is_at_end literals v && is_into literals w

-- both are null, point to one function, or to one place of an object
abbrev pub same_pointer : List Literal → Value → Value → Bool
same_pointer literals Null Null = true
same_pointer literals (Function f) (Function g) = f == g
same_pointer literals v w = same_object literals v w && offset_of v == offset_of w

-- pointers of a kind are equal or not, unless one is dead or one is at an end that another object may begin at
abbrev pub equal_pointers : List Literal → Stack → Kind → Value → Value → Result Bool Act
equal_pointers literals s kind v w =
    unless (is_of kind v && is_of kind w) OtherKind
    (unless (not (is_dead s v || is_dead s w || meets_end literals v w || meets_end literals w v)) PointerEquality
    (Ok (same_pointer literals v w)))
