-- Reads, writes, blocks and pointers keep states valid.
use Rattle.std.proofs.Common.{◌≡◌, ℕ, zero, suc, ◌+◌, ◌<◌, ◌≤◌, List, [], ◌∷◌, ◌++◌, length, Option, Some, None, Bool, true, false, nat_le, sym, subst, arith, map, take, drop, slice_get, slice_set, length-set}
use Rattle.std.specs.Prelude.{ℤ, pos, ◌+ℤ◌, ◌^◌, not, int_lt, unsigned_abs, if◌then◌else◌}
use Rattle.std.specs.Option.{option_map}
use Rattle.std.proofs.lemmas.Bool.{leb-true, and_parts}
use Rattle.c_eval.specs.State.{Value, Word, Null, Point, Letter, Function, Missing, Cell, Unset, Holds, Object, OutsideObject, OtherKind, UnsetCell, LiteralWrite, PointerArithmetic, PointerOrder, PointerEquality, Run}
use Rattle.c_eval.specs.Memory.{Kind, is_of, holds_no_other, letters, live_cells, cells_at, offset_of, cell_in, cell_at, read_cell, load, with_cell, put_cell, write_cell, store, live_object, dead, enter, leave, within, extent_of, at_offset, is_within, offset_by, moved, member_at, equal_pointers, pointer_before, pointer_difference}
use Rattle.c_valid.specs.Valid.{AreBytes, most_cells, IsValid, CellIsValid, CellsAreValid, ObjectIsValid, ObjectsAreValid}
use Rattle.c_valid.proofs.Keeping.{Keeps, Any, bind_keeps, give_keeps, undefined_keeps, unless_keeps, objects_now_keeps, with_objects_keeps}

-- what may be missing
abbrev pub IfSome : {A : Type 0} → (A → Type 0) → Option A → Type 0
IfSome G None = Unit {0}
IfSome G (Some a) = G a

-- ---- cells

pub byte_is_word : {c : ℕ} → c < 2 ^ 8 → c < 2 ^ 24
byte_is_word lt = omega (arith, lt)

letters_valid : (text : List ℕ) → AreBytes text → CellsAreValid (letters text)
letters_valid [] bytes = (omega arith, tt)
letters_valid (c ∷ cs) bytes = (byte_is_word bytes.0, letters_valid cs bytes.1)

pub cell_valid : (cells : List Cell) (k : ℕ) → CellsAreValid cells → IfSome CellIsValid (slice_get cells k)
cell_valid [] k valid = tt
cell_valid (c ∷ cs) zero valid = valid.0
cell_valid (c ∷ cs) (suc k) valid = cell_valid cs k valid.1

pub object_valid : (os : List Object) (o : ℕ) → ObjectsAreValid os → IfSome ObjectIsValid (slice_get os o)
object_valid [] o valid = tt
object_valid (x ∷ xs) zero valid = valid.0
object_valid (x ∷ xs) (suc o) valid = object_valid xs o valid.1

live_valid : (x : Option Object) → IfSome ObjectIsValid x → IfSome CellsAreValid (live_cells x)
live_valid None valid = tt
live_valid (Some x) valid = of_live x.live
  where
    of_live : (b : Bool) → IfSome CellsAreValid (if b then Some x.cells else None)
    of_live true = valid.0
    of_live false = tt

pub cells_valid : (os : List Object) (p : Value) → ObjectsAreValid os → IsValid p → IfSome CellsAreValid (cells_at os p)
cells_valid os (Point o k) valid p = live_valid (slice_get os o) (object_valid os o valid)
cells_valid os (Letter f i text k) valid p = letters_valid text p.0.0
cells_valid os (Word n) valid p = tt
cells_valid os Null valid p = tt
cells_valid os (Function f) valid p = tt
cells_valid os Missing valid p = tt

cell_in_valid : (cells : Option (List Cell)) (k : ℕ) → IfSome CellsAreValid cells → IfSome CellIsValid (cell_in cells k)
cell_in_valid None k valid = tt
cell_in_valid (Some cells) k valid = cell_valid cells k valid

-- the cell to which a pointer points
pub pointed_valid : (os : List Object) (p : Value) → ObjectsAreValid os → IsValid p → IfSome CellIsValid (cell_at os p)
pointed_valid os p valid q = cell_in_valid (cells_at os p) (offset_of p) (cells_valid os p valid q)

read_cell_keeps : (kind : Kind) (c : Option Cell) → IfSome CellIsValid c → Keeps IsValid (read_cell kind c)
unfolding read_cell
read_cell_keeps kind None valid = undefined_keeps OutsideObject
read_cell_keeps kind (Some Unset) valid = undefined_keeps UnsetCell
read_cell_keeps kind (Some (Holds v)) valid = unless_keeps (is_of kind v) OtherKind (λ e. give_keeps v valid)

pub load_keeps : (kind : Kind) (p : Value) → IsValid p → Keeps IsValid (load kind p)
unfolding load
load_keeps kind p q = bind_keeps objects_now_keeps (λ os valid. read_cell_keeps kind (cell_at os p) (pointed_valid os p valid q))

-- ---- writes

set_cells_valid : (cells : List Cell) (k : ℕ) (c : Cell) → CellsAreValid cells → CellIsValid c → CellsAreValid (slice_set cells k c)
set_cells_valid [] k c valid new = tt
set_cells_valid (x ∷ xs) zero c valid new = (new, valid.1)
set_cells_valid (x ∷ xs) (suc k) c valid new = (valid.0, set_cells_valid xs k c valid.1 new)

set_valid : (os : List Object) (o : ℕ) (x : Object) → ObjectsAreValid os → ObjectIsValid x → ObjectsAreValid (slice_set os o x)
set_valid [] o x valid new = tt
set_valid (y ∷ ys) zero x valid new = (new, valid.1)
set_valid (y ∷ ys) (suc o) x valid new = (valid.0, set_valid ys o x valid.1 new)

with_cell_valid : (x : Option Object) (k : ℕ) (v : Value) → IfSome ObjectIsValid x → IsValid v → ObjectIsValid (with_cell x k v)
with_cell_valid None k v valid new = (tt, omega arith)
with_cell_valid (Some x) k v valid new = (set_cells_valid x.cells k (Holds v) valid.0 new, subst (λ n. n < most_cells) (sym (length-set x.cells k (Holds v))) valid.1)

put_cell_keeps : (os : List Object) (p v : Value) → ObjectsAreValid os → IsValid v → Keeps IsValid (put_cell os p v)
unfolding put_cell
put_cell_keeps os (Point o k) v valid new =
    bind_keeps (with_objects_keeps _ (set_valid os o _ valid (with_cell_valid (slice_get os o) k v (object_valid os o valid) new))) (λ _ _. give_keeps v new)
put_cell_keeps os (Letter f i text k) v valid new = undefined_keeps LiteralWrite
put_cell_keeps os (Word n) v valid new = undefined_keeps OutsideObject
put_cell_keeps os Null v valid new = undefined_keeps OutsideObject
put_cell_keeps os (Function f) v valid new = undefined_keeps OutsideObject
put_cell_keeps os Missing v valid new = undefined_keeps OutsideObject

write_cell_keeps : (kind : Kind) (c : Option Cell) (os : List Object) (p v : Value) → ObjectsAreValid os → IsValid v → Keeps IsValid (write_cell kind c os p v)
unfolding write_cell
write_cell_keeps kind None os p v valid new = undefined_keeps OutsideObject
write_cell_keeps kind (Some c) os p v valid new = unless_keeps (holds_no_other kind c) OtherKind (λ e. put_cell_keeps os p v valid new)

pub store_keeps : (kind : Kind) (p v : Value) → IsValid v → Keeps IsValid (store kind p v)
unfolding store
store_keeps kind p v new = bind_keeps objects_now_keeps (λ os valid. write_cell_keeps kind (cell_at os p) os p v valid new)

-- ---- blocks

-- cells of new objects, not too many for one
abbrev pub NewAreValid : List (List Cell) → Type 0
NewAreValid [] = Unit {0}
NewAreValid (cells ∷ new) = (CellsAreValid cells × (length cells < most_cells)) × NewAreValid new

pub entered_valid : (os : List Object) (new : List (List Cell)) → ObjectsAreValid os → NewAreValid new → ObjectsAreValid (os ++ map live_object new)
entered_valid [] [] valid fits = tt
entered_valid [] (cells ∷ new) valid fits = (fits.0, entered_valid [] new tt fits.1)
entered_valid (x ∷ xs) new valid fits = (valid.0, entered_valid xs new valid.1 fits)

left_valid : (n : ℕ) (os : List Object) → ObjectsAreValid os → ObjectsAreValid (take n os ++ map dead (drop n os))
left_valid zero [] valid = tt
left_valid zero (x ∷ xs) valid = (valid.0, left_valid zero xs valid.1)
left_valid (suc n) [] valid = tt
left_valid (suc n) (x ∷ xs) valid = (valid.0, left_valid n xs valid.1)

enter_keeps : (new : List (List Cell)) → NewAreValid new → Keeps Any (enter new)
unfolding enter
enter_keeps new fits = bind_keeps objects_now_keeps (λ os valid. bind_keeps (with_objects_keeps _ (entered_valid os new valid fits)) (λ _ _. give_keeps (length os) tt))

leave_keeps : (n : ℕ) → Keeps Any (leave n)
unfolding leave
leave_keeps n = bind_keeps objects_now_keeps (λ os valid. with_objects_keeps _ (left_valid n os valid))

pub within_keeps : {A : Type 0} {G : A → Type 0} (new : List (List Cell)) {body : ℕ → Run A} → NewAreValid new → ((n : ℕ) → Keeps G (body n)) → Keeps G (within new body)
unfolding within
within_keeps new fits t = bind_keeps (enter_keeps new fits) (λ n _. bind_keeps (t n) (λ a g. bind_keeps (leave_keeps n) (λ _ _. give_keeps a g)))

-- ---- pointers

-- the cells of an object, which are none where there is none
abbrev pub or_none : Option ℕ → ℕ
or_none None = 0
or_none (Some n) = n

object_small : (x : Option Object) → IfSome ObjectIsValid x → or_none (option_map (λ o. length o.cells) x) < most_cells
object_small None valid = omega arith
object_small (Some x) valid = valid.1

pub extent_small : (os : List Object) (p : Value) → ObjectsAreValid os → IsValid p → or_none (extent_of os p) < most_cells
extent_small os (Point o k) valid p = object_small (slice_get os o) (object_valid os o valid)
extent_small os (Letter f i text k) valid p = p.0.1
extent_small os (Word n) valid p = omega arith
extent_small os Null valid p = omega arith
extent_small os (Function f) valid p = omega arith
extent_small os Missing valid p = omega arith

pub within_extent : (z : ℤ) (n : Option ℕ) → is_within z n ≡ true → unsigned_abs z ≤ or_none n
within_extent z None e = absurd (cc e)
within_extent z (Some n) e = leb-true (unsigned_abs z) n (and_parts (not (int_lt z (pos 0))) (nat_le (unsigned_abs z) n) e).1

at_offset_valid : (p : Value) (k : ℕ) → IsValid p → k < most_cells → IsValid (at_offset p k)
at_offset_valid (Point o l) k p lt = lt
at_offset_valid (Letter f i text l) k p lt = (p.0, lt)
at_offset_valid (Word n) k p lt = p
at_offset_valid Null k p lt = tt
at_offset_valid (Function f) k p lt = tt
at_offset_valid Missing k p lt = tt

pub moved_keeps : (p : Value) (cells : ℤ) → IsValid p → Keeps IsValid (moved p cells)
unfolding moved
moved_keeps p cells q =
    bind_keeps objects_now_keeps (λ os valid. unless_keeps _ PointerArithmetic (λ e.
    let le : unsigned_abs (offset_by p cells) ≤ or_none (extent_of os p) = within_extent (offset_by p cells) (extent_of os p) e in
    give_keeps _ (at_offset_valid p _ q (omega (arith, le, extent_small os p valid q)))))

pub member_at_keeps : (n : ℕ) (p : Value) → IsValid p → Keeps IsValid (member_at n p)
unfolding member_at
member_at_keeps n p q =
    bind_keeps objects_now_keeps (λ os valid. unless_keeps _ OutsideObject (λ e.
    let le : unsigned_abs (pos (offset_of p) +ℤ pos n) ≤ or_none (extent_of os p) = within_extent (offset_by p (pos n)) (extent_of os p) e in
    give_keeps _ (at_offset_valid p _ q (omega (arith, le, extent_small os p valid q, sum_is (offset_of p) n)))))
  where
    sum_is : (a b : ℕ) → unsigned_abs (pos a +ℤ pos b) ≡ a + b
    sum_is a b = grind arith

pub equal_pointers_keeps : (kind : Kind) (p q : Value) → Keeps Any (equal_pointers kind p q)
unfolding equal_pointers
equal_pointers_keeps kind p q = bind_keeps objects_now_keeps (λ os _. unless_keeps _ OtherKind (λ _. unless_keeps _ PointerEquality (λ _. give_keeps _ tt)))

pub pointer_before_keeps : (p q : Value) → Keeps Any (pointer_before p q)
unfolding pointer_before
pointer_before_keeps p q = unless_keeps _ OtherKind (λ _. unless_keeps _ PointerOrder (λ _. give_keeps _ tt))

pub pointer_difference_keeps : (cells : ℕ) (p q : Value) → Keeps Any (pointer_difference cells p q)
unfolding pointer_difference
pointer_difference_keeps cells p q = unless_keeps _ OtherKind (λ _. unless_keeps _ PointerOrder (λ _. give_keeps _ tt))
