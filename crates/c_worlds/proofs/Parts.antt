-- Parts of runs that do the same, and keep the functions to which pointers point.
use Rattle.std.proofs.Common.{◌≡◌, ℕ, zero, suc, ◌+◌, ◌≤◌, arith, List, [], ◌∷◌, ◌++◌, length, Option, Some, None, Bool, true, false, refl, ap, ◌∙◌, map, take, drop, slice_get, slice_set}
use Rattle.std.specs.Prelude.{ℤ, unsigned_abs, if◌then◌else◌}
use Rattle.c_eval.specs.State.{Value, Word, Null, Point, Letter, Function, Missing, Cell, Unset, Holds, Object, Act, OutsideObject, OtherKind, UnsetCell, LiteralWrite, PointerArithmetic, PointerOrder, PointerEquality, State, Outcome, Gives, Ended, Going, Undefined, Run}
use Rattle.c_eval.specs.Run.{after, ◌>>=◌, give, undefined, unless, exit, spend, spend_spare, paid, stop, put, next_byte, objects_now, with_objects}
use Rattle.c_eval.specs.Memory.{Kind, is_of, holds_no_other, letters, live_cells, cells_at, offset_of, cell_in, cell_at, read_cell, load, with_cell, put_cell, write_cell, store, live_object, dead, enter, leave, at_offset, offset_by, moved, member_at, equal_pointers, pointer_before, pointer_difference}
use Rattle.c_worlds.specs.Named.{IsNamed, CellIsNamed, CellsAreNamed, ObjectsAreNamed, StateIsNamed, IsKept}

-- of what is given nothing is told
abbrev pub Any : {A : Type 0} → A → Type 0
Any a = Unit {0}

-- what may be missing
abbrev pub IfSome : {A : Type 0} → (A → Type 0) → Option A → Type 0
IfSome G None = Unit {0}
IfSome G (Some a) = G a

-- from each such state the first does what the second does, which leads to one
pub record Goes (P : List ℕ → Type 0) (limit : ℕ) {A : Type 0} (G : A → Type 0) (m n : Run A) : Type 0 where
  pub goes : (st : State) → StateIsNamed P limit st → (m st ≡ n st) × IsKept P limit G (n st)

module _ (P : List ℕ → Type 0) (limit : ℕ) where
  abbrev N : Value → Type 0
  N = IsNamed P

  -- ---- one part after the other

  after_goes : {A B : Type 0} (G : A → Type 0) (H : B → Type 0) (r : Outcome A) (f g : A → Run B) → IsKept P limit G r → ((a : A) → G a → Goes P limit H (f a) (g a)) → (after r f ≡ after r g) × IsKept P limit H (after r g)
  unfolding after
  after_goes G H (Gives a st) f g k t = (t a k.0).goes st k.1
  after_goes G H (Ended st) f g k t = (refl, k)
  after_goes G H (Going st) f g k t = (refl, k)
  after_goes G H (Undefined act st) f g k t = (refl, k)

  pub bind_goes : {A B : Type 0} {G : A → Type 0} {H : B → Type 0} {m n : Run A} {f g : A → Run B} → Goes P limit G m n → ((a : A) → G a → Goes P limit H (f a) (g a)) → Goes P limit H (m >>= f) (n >>= g)
  unfolding ◌>>=◌
  bind_goes {G = G} {H = H} {m = m} {n = n} {f = f} {g = g} k t = record {
    goes = λ st v.
        let x = k.goes st v in
        let y = after_goes G H (n st) f g x.1 t in
        (ap (λ r. after r f) x.0 ∙ y.0, y.1);
  }

  pub give_goes : {A : Type 0} {G : A → Type 0} (a : A) → G a → Goes P limit G (give a) (give a)
  unfolding give
  give_goes a g = record { goes = λ st v. (refl, (g, v)) }

  pub undefined_goes : {A : Type 0} {G : A → Type 0} (act : Act) → Goes P limit {A = A} G (undefined act) (undefined act)
  unfolding undefined
  undefined_goes act = record { goes = λ st v. (refl, v) }

  pub exit_goes : {A : Type 0} {G : A → Type 0} → Goes P limit {A = A} G exit exit
  unfolding exit
  exit_goes = record { goes = λ st v. (refl, v) }

  pub stop_goes : {A : Type 0} {G : A → Type 0} → Goes P limit {A = A} G stop stop
  unfolding stop
  stop_goes = record { goes = λ st v. (refl, v) }

  pub unless_goes : {A : Type 0} {G : A → Type 0} (b : Bool) (act : Act) {m n : Run A} → Goes P limit G m n → Goes P limit G (unless b act m) (unless b act n)
  unfolding unless
  unless_goes true act t = t
  unless_goes false act t = undefined_goes act

  pub if_goes : {A : Type 0} {G : A → Type 0} (b : Bool) {m n o p : Run A} → Goes P limit G m o → Goes P limit G n p → Goes P limit G (if b then m else n) (if b then o else p)
  if_goes true t u = t
  if_goes false t u = u

  spend_goes : {A : Type 0} (G : A → Type 0) (i : ℕ) (m n : Run A) (st : State) → Goes P limit G m n → i ≤ limit → StateIsNamed P limit st → (spend m i st ≡ spend n i st) × IsKept P limit G (spend n i st)
  unfolding spend
  spend_goes G zero m n st k le v = (refl, v)
  spend_goes G (suc i) m n st k le v = let fewer : i ≤ limit = omega (arith, le) in k.goes (record st { left = i }) (v.0, fewer)

  spare_goes : {A : Type 0} (G : A → Type 0) (i : ℕ) (m n : Run A) (st : State) → Goes P limit G m n → StateIsNamed P limit st → (spend_spare m i st ≡ spend_spare n i st) × IsKept P limit G (spend_spare n i st)
  unfolding spend_spare
  spare_goes G zero m n st k v = (refl, v)
  spare_goes G (suc i) m n st k v = k.goes (record st { spare = i }) v

  pub paid_goes : {A : Type 0} {G : A → Type 0} (inner : Bool) {m n : Run A} → Goes P limit G m n → Goes P limit G (paid inner m) (paid inner n)
  unfolding paid
  paid_goes {G = G} false {m = m} {n = n} k = record { goes = λ st v. spend_goes G st.left m n st k v.1 v }
  paid_goes {G = G} true {m = m} {n = n} k = record { goes = λ st v. spare_goes G st.spare m n st k v }

  pub put_goes : (c : ℕ) → Goes P limit Any (put c) (put c)
  unfolding put
  put_goes c = record { goes = λ st v. (refl, (tt, v)) }

  pub next_byte_goes : (input : List ℕ) → Goes P limit Any (next_byte input) (next_byte input)
  unfolding next_byte
  next_byte_goes input = record { goes = λ st v. (refl, (tt, v)) }

  pub objects_now_goes : Goes P limit (ObjectsAreNamed P) objects_now objects_now
  unfolding objects_now
  objects_now_goes = record { goes = λ st v. (refl, (v.0, v)) }

  with_objects_goes : (os : List Object) → ObjectsAreNamed P os → Goes P limit Any (with_objects os) (with_objects os)
  unfolding with_objects
  with_objects_goes os n = record { goes = λ st v. (refl, (tt, (n, v.1))) }

  -- ---- cells

  letters_named : (text : List ℕ) → CellsAreNamed P (letters text)
  letters_named [] = (tt, tt)
  letters_named (c ∷ cs) = (tt, letters_named cs)

  cell_named : (cells : List Cell) (k : ℕ) → CellsAreNamed P cells → IfSome (CellIsNamed P) (slice_get cells k)
  cell_named [] k n = tt
  cell_named (c ∷ cs) zero n = n.0
  cell_named (c ∷ cs) (suc k) n = cell_named cs k n.1

  abbrev ObjectIsNamed : Object → Type 0
  ObjectIsNamed x = CellsAreNamed P x.cells

  object_named : (os : List Object) (o : ℕ) → ObjectsAreNamed P os → IfSome ObjectIsNamed (slice_get os o)
  object_named [] o n = tt
  object_named (x ∷ xs) zero n = n.0
  object_named (x ∷ xs) (suc o) n = object_named xs o n.1

  live_named : (x : Option Object) → IfSome ObjectIsNamed x → IfSome (CellsAreNamed P) (live_cells x)
  live_named None n = tt
  live_named (Some x) n = of_live x.live
    where
      of_live : (b : Bool) → IfSome (CellsAreNamed P) (if b then Some x.cells else None)
      of_live true = n
      of_live false = tt

  cells_named : (os : List Object) (p : Value) → ObjectsAreNamed P os → IfSome (CellsAreNamed P) (cells_at os p)
  cells_named os (Point o k) n = live_named (slice_get os o) (object_named os o n)
  cells_named os (Letter f i text k) n = letters_named text
  cells_named os (Word w) n = tt
  cells_named os Null n = tt
  cells_named os (Function f) n = tt
  cells_named os Missing n = tt

  cell_in_named : (cells : Option (List Cell)) (k : ℕ) → IfSome (CellsAreNamed P) cells → IfSome (CellIsNamed P) (cell_in cells k)
  cell_in_named None k n = tt
  cell_in_named (Some cells) k n = cell_named cells k n

  read_cell_goes : (kind : Kind) (c : Option Cell) → IfSome (CellIsNamed P) c → Goes P limit N (read_cell kind c) (read_cell kind c)
  unfolding read_cell
  read_cell_goes kind None n = undefined_goes OutsideObject
  read_cell_goes kind (Some Unset) n = undefined_goes UnsetCell
  read_cell_goes kind (Some (Holds v)) n = unless_goes (is_of kind v) OtherKind (give_goes v n)

  pub load_goes : (kind : Kind) (p : Value) → Goes P limit N (load kind p) (load kind p)
  unfolding load
  load_goes kind p = bind_goes objects_now_goes (λ os n. read_cell_goes kind (cell_at os p) (cell_in_named (cells_at os p) (offset_of p) (cells_named os p n)))

  -- ---- writes

  set_cells_named : (cells : List Cell) (k : ℕ) (c : Cell) → CellsAreNamed P cells → CellIsNamed P c → CellsAreNamed P (slice_set cells k c)
  set_cells_named [] k c n new = tt
  set_cells_named (x ∷ xs) zero c n new = (new, n.1)
  set_cells_named (x ∷ xs) (suc k) c n new = (n.0, set_cells_named xs k c n.1 new)

  set_named : (os : List Object) (o : ℕ) (x : Object) → ObjectsAreNamed P os → ObjectIsNamed x → ObjectsAreNamed P (slice_set os o x)
  set_named [] o x n new = tt
  set_named (y ∷ ys) zero x n new = (new, n.1)
  set_named (y ∷ ys) (suc o) x n new = (n.0, set_named ys o x n.1 new)

  with_cell_named : (x : Option Object) (k : ℕ) (v : Value) → IfSome ObjectIsNamed x → N v → ObjectIsNamed (with_cell x k v)
  with_cell_named None k v n new = tt
  with_cell_named (Some x) k v n new = set_cells_named x.cells k (Holds v) n new

  put_cell_goes : (os : List Object) (p v : Value) → ObjectsAreNamed P os → N v → Goes P limit N (put_cell os p v) (put_cell os p v)
  unfolding put_cell
  put_cell_goes os (Point o k) v n new = bind_goes (with_objects_goes (slice_set os o (with_cell (slice_get os o) k v)) (set_named os o (with_cell (slice_get os o) k v) n (with_cell_named (slice_get os o) k v (object_named os o n) new))) (λ _ _. give_goes v new)
  put_cell_goes os (Letter f i text k) v n new = undefined_goes LiteralWrite
  put_cell_goes os (Word w) v n new = undefined_goes OutsideObject
  put_cell_goes os Null v n new = undefined_goes OutsideObject
  put_cell_goes os (Function f) v n new = undefined_goes OutsideObject
  put_cell_goes os Missing v n new = undefined_goes OutsideObject

  write_cell_goes : (kind : Kind) (c : Option Cell) (os : List Object) (p v : Value) → ObjectsAreNamed P os → N v → Goes P limit N (write_cell kind c os p v) (write_cell kind c os p v)
  unfolding write_cell
  write_cell_goes kind None os p v n new = undefined_goes OutsideObject
  write_cell_goes kind (Some c) os p v n new = unless_goes (holds_no_other kind c) OtherKind (put_cell_goes os p v n new)

  pub store_goes : (kind : Kind) (p v : Value) → N v → Goes P limit N (store kind p v) (store kind p v)
  unfolding store
  store_goes kind p v new = bind_goes objects_now_goes (λ os n. write_cell_goes kind (cell_at os p) os p v n new)

  -- ---- blocks

  abbrev pub NewAreNamed : List (List Cell) → Type 0
  NewAreNamed [] = Unit {0}
  NewAreNamed (cells ∷ new) = CellsAreNamed P cells × NewAreNamed new

  entered_named : (os : List Object) (new : List (List Cell)) → ObjectsAreNamed P os → NewAreNamed new → ObjectsAreNamed P (os ++ map live_object new)
  entered_named [] [] n fits = tt
  entered_named [] (cells ∷ new) n fits = (fits.0, entered_named [] new tt fits.1)
  entered_named (x ∷ xs) new n fits = (n.0, entered_named xs new n.1 fits)

  left_named : (i : ℕ) (os : List Object) → ObjectsAreNamed P os → ObjectsAreNamed P (take i os ++ map dead (drop i os))
  left_named zero [] n = tt
  left_named zero (x ∷ xs) n = (n.0, left_named zero xs n.1)
  left_named (suc i) [] n = tt
  left_named (suc i) (x ∷ xs) n = (n.0, left_named i xs n.1)

  pub enter_goes : (new : List (List Cell)) → NewAreNamed new → Goes P limit Any (enter new) (enter new)
  unfolding enter
  enter_goes new fits = bind_goes objects_now_goes (λ os n. bind_goes (with_objects_goes (os ++ map live_object new) (entered_named os new n fits)) (λ _ _. give_goes (length os) tt))

  pub leave_goes : (i : ℕ) → Goes P limit Any (leave i) (leave i)
  unfolding leave
  leave_goes i = bind_goes objects_now_goes (λ os n. with_objects_goes (take i os ++ map dead (drop i os)) (left_named i os n))

  -- ---- pointers

  at_offset_named : (p : Value) (k : ℕ) → N p → N (at_offset p k)
  at_offset_named (Point o l) k n = tt
  at_offset_named (Letter f i text l) k n = tt
  at_offset_named (Word w) k n = tt
  at_offset_named Null k n = tt
  at_offset_named (Function f) k n = n
  at_offset_named Missing k n = tt

  pub moved_goes : (p : Value) (cells : ℤ) → N p → Goes P limit N (moved p cells) (moved p cells)
  unfolding moved
  moved_goes p cells n = bind_goes objects_now_goes (λ os _. unless_goes _ PointerArithmetic (give_goes (at_offset p (unsigned_abs (offset_by p cells))) (at_offset_named p (unsigned_abs (offset_by p cells)) n)))

  pub member_at_goes : (k : ℕ) (p : Value) → N p → Goes P limit N (member_at k p) (member_at k p)
  unfolding member_at
  member_at_goes k p n = bind_goes objects_now_goes (λ os _. unless_goes _ OutsideObject (give_goes (at_offset p (offset_of p + k)) (at_offset_named p (offset_of p + k) n)))

  pub equal_pointers_goes : (kind : Kind) (p q : Value) → Goes P limit Any (equal_pointers kind p q) (equal_pointers kind p q)
  unfolding equal_pointers
  equal_pointers_goes kind p q = bind_goes objects_now_goes (λ os _. unless_goes _ OtherKind (unless_goes _ PointerEquality (give_goes _ tt)))

  pub pointer_before_goes : (p q : Value) → Goes P limit Any (pointer_before p q) (pointer_before p q)
  unfolding pointer_before
  pointer_before_goes p q = unless_goes _ OtherKind (unless_goes _ PointerOrder (give_goes _ tt))

  pub pointer_difference_goes : (cells : ℕ) (p q : Value) → Goes P limit Any (pointer_difference cells p q) (pointer_difference cells p q)
  unfolding pointer_difference
  pointer_difference_goes cells p q = unless_goes _ OtherKind (unless_goes _ PointerOrder (give_goes _ tt))
