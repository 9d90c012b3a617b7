-- A run does what its part apart does, over the objects before and the own ones in one list: the parts of runs.
use Rattle.std.proofs.Common.{◌≡◌, ℕ, zero, suc, ◌+◌, List, [], ◌∷◌, ◌++◌, length, Option, Some, None, Bool, true, false, refl, sym, ap, ◌∙◌, subst, arith, append_assoc, length-append, length-set, map, take, drop, slice_get, slice_set, suc-add}
use Rattle.std.specs.Prelude.{if◌then◌else◌, ℤ, unsigned_abs}
use Rattle.std.specs.Option.{option_map}
use Rattle.c_eval.specs.State.{Value, Word, Null, Point, Letter, Function, Missing, Cell, Unset, Holds, Object, State, Act, OtherKind, LiteralWrite, PointerArithmetic, Outcome, Gives, Ended, Going, Undefined, Run}
use Rattle.c_eval.specs.Run.{after, ◌>>=◌, give, undefined, unless, choose, spend, spend_spare, paid, put, objects_now, with_objects}
use Rattle.c_eval.specs.Memory.{Kind, is_of, holds_no_other, live_cells, cell_in, cell_at, read_cell, load, with_cell, put_cell, write_cell, store, live_object, dead, enter, leave, within, is_within, offset_by, at_offset, moved}
use Rattle.c_apart.proofs.Apart.{Out, Done, Paused, Stuck, Part, p_after, p_bind, p_give, p_stuck, p_choose, p_spend, p_paid, p_run, p_unit, p_given, p_outer, p_read, p_load, p_put, p_write, p_store, p_enter, p_leave, p_within}

-- the two lists in one
abbrev pub joined : State → List Object → State
joined st own = record st { objects = st.objects ++ own }

-- n objects stand before the own ones
abbrev pub Joins : {A B : Type 0} → ℕ → (A → B) → Out A → Outcome B → Type 0
Joins n φ (Done a st own) r = (r ≡ Gives (φ a) (joined st own)) × (length st.objects ≡ n)
Joins n φ (Paused st own) r = (r ≡ Going (joined st own)) × (length st.objects ≡ n)
Joins n φ Stuck r = Unit {0}

pub record Split {A B : Type 0} (n : ℕ) (φ : A → B) (s : Part A) (m : Run B) : Type 0 where
  pub follows : (st : State) (own : List Object) → length st.objects ≡ n → Joins n φ (s st own) (m (joined st own))

abbrev pub itself : {A : Type 0} → A → A
itself a = a

after_splits : {A B C D : Type 0} (n : ℕ) (φ : A → B) (ψ : C → D) (o : Out A) (r : Outcome B) (f : A → Part C) (g : B → Run D) → Joins n φ o r → ((a : A) → Split n ψ (f a) (g (φ a))) → Joins n ψ (p_after o f) (after r g)
unfolding p_after after
after_splits n φ ψ (Done a st own) r f g (e, l) h = subst (λ z. Joins n ψ (f a st own) (after z g)) (sym e) ((h a).follows st own l)
after_splits n φ ψ (Paused st own) r f g (e, l) h = (ap (λ z. after z g) e, l)
after_splits n φ ψ Stuck r f g h k = tt

pub bind_splits : {A B C D : Type 0} {n : ℕ} {φ : A → B} {ψ : C → D} {s : Part A} {m : Run B} {f : A → Part C} (g : B → Run D) → Split n φ s m → ((a : A) → Split n ψ (f a) (g (φ a))) → Split n ψ (p_bind s f) (m >>= g)
unfolding p_bind ◌>>=◌
bind_splits {n = n} {φ = φ} {ψ = ψ} {s = s} {m = m} {f = f} g h k = record { follows = λ st own l. after_splits n φ ψ (s st own) (m (joined st own)) f g (h.follows st own l) k }

pub give_splits : {A B : Type 0} (n : ℕ) (φ : A → B) (a : A) → Split n φ (p_give a) (give (φ a))
unfolding p_give give
give_splits n φ a = record { follows = λ st own l. (refl, l) }

pub stuck_splits : {A B : Type 0} {n : ℕ} {φ : A → B} {m : Run B} → Split n φ p_stuck m
unfolding p_stuck
stuck_splits = record { follows = λ st own l. tt }

pub choose_splits : {A B : Type 0} {n : ℕ} {φ : A → B} (t : Bool) {a b : Part A} {a' b' : Run B} → Split n φ a a' → Split n φ b b' → Split n φ (p_choose t a b) (choose t a' b')
unfolding p_choose choose
choose_splits true h k = h
choose_splits false h k = k

-- where the test fails nothing is said
pub either_splits : {A B : Type 0} {n : ℕ} {φ : A → B} (t : Bool) {a : Part A} {a' : Run B} (b' : Run B) → Split n φ a a' → Split n φ (p_choose t a p_stuck) (if t then a' else b')
unfolding p_choose p_stuck
either_splits true b' h = h
either_splits false b' h = record { follows = λ st own l. tt }

pub other_splits : {A B : Type 0} {n : ℕ} {φ : A → B} (t : Bool) {b : Part A} (a' : Run B) {b' : Run B} → Split n φ b b' → Split n φ (p_choose t p_stuck b) (if t then a' else b')
unfolding p_choose p_stuck
other_splits true a' h = record { follows = λ st own l. tt }
other_splits false a' h = h

unless_splits : {A B : Type 0} {n : ℕ} {φ : A → B} (t : Bool) (act : Act) {a : Part A} {a' : Run B} → Split n φ a a' → Split n φ (p_choose t a p_stuck) (unless t act a')
unfolding p_choose p_stuck unless
unless_splits true act h = h
unless_splits false act h = record { follows = λ st own l. tt }

pub paid_splits : {A : Type 0} {n : ℕ} {a : Part A} {a' : Run A} → Split n itself a a' → Split n itself (p_paid a) (paid true a')
unfolding p_paid paid p_spend spend_spare
paid_splits {n = n} {a = a} {a' = a'} h = record { follows = λ st own l. go st own l st.spare }
  where
    go : (st : State) (own : List Object) → length st.objects ≡ n → (k : ℕ) → Joins n itself (p_spend a k st own) (spend_spare a' k (joined st own))
    go st own l zero = tt
    go st own l (suc k) = h.follows (record st { spare = k }) own l

pub unit_splits : {A : Type 0} {n : ℕ} {a : Part A} {a' : Run A} → Split n itself a a' → Split n itself (p_unit a) (paid false a')
unfolding p_unit paid p_run spend
unit_splits {n = n} {a = a} {a' = a'} h = record { follows = λ st own l. go st own l st.left }
  where
    go : (st : State) (own : List Object) → length st.objects ≡ n → (k : ℕ) → Joins n itself (p_run a k st own) (spend a' k (joined st own))
    go st own l zero = (refl, l)
    go st own l (suc k) = h.follows (record st { left = k }) own l

-- ---- lists that stand before the own one

got_behind : (xs ys : List Object) (j : ℕ) → slice_get (xs ++ ys) (length xs + j) ≡ slice_get ys j
got_behind [] ys j = ap (slice_get ys) (omega arith)
got_behind (x ∷ xs) ys j = ap (slice_get (x ∷ (xs ++ ys))) (suc-add (length xs) j) ∙ got_behind xs ys j

set_behind : (xs ys : List Object) (j : ℕ) (v : Object) → slice_set (xs ++ ys) (length xs + j) v ≡ xs ++ slice_set ys j v
set_behind [] ys j v = ap (λ k. slice_set ys k v) (omega arith)
set_behind (x ∷ xs) ys j v = ap (λ k. slice_set (x ∷ (xs ++ ys)) k v) (suc-add (length xs) j) ∙ ap (λ z. x ∷ z) (set_behind xs ys j v)

taken_behind : (xs ys : List Object) (j : ℕ) → take (length xs + j) (xs ++ ys) ≡ xs ++ take j ys
taken_behind [] ys j = ap (λ k. take k ys) (omega arith)
taken_behind (x ∷ xs) ys j = ap (λ k. take k (x ∷ (xs ++ ys))) (suc-add (length xs) j) ∙ ap (λ z. x ∷ z) (taken_behind xs ys j)

dropped_behind : (xs ys : List Object) (j : ℕ) → drop (length xs + j) (xs ++ ys) ≡ drop j ys
dropped_behind [] ys j = ap (λ k. drop k ys) (omega arith)
dropped_behind (x ∷ xs) ys j = ap (λ k. drop k (x ∷ (xs ++ ys))) (suc-add (length xs) j) ∙ dropped_behind xs ys j

got : (n : ℕ) (st : State) (own : List Object) (j : ℕ) → length st.objects ≡ n → slice_get (st.objects ++ own) (n + j) ≡ slice_get own j
got n st own j l = ap (λ k. slice_get (st.objects ++ own) (k + j)) (sym l) ∙ got_behind st.objects own j

was_set : (n : ℕ) (st : State) (own : List Object) (j : ℕ) (v : Object) → length st.objects ≡ n → slice_set (st.objects ++ own) (n + j) v ≡ st.objects ++ slice_set own j v
was_set n st own j v l = ap (λ k. slice_set (st.objects ++ own) (k + j) v) (sym l) ∙ set_behind st.objects own j v

got_before : (xs ys : List Object) (o : ℕ) (x : Object) → slice_get xs o ≡ Some x → slice_get (xs ++ ys) o ≡ Some x
got_before [] ys o x e = absurd (cc (e))
got_before (y ∷ xs) ys zero x e = e
got_before (y ∷ xs) ys (suc o) x e = got_before xs ys o x e

set_before : (xs ys : List Object) (o : ℕ) (x z : Object) → slice_get xs o ≡ Some x → slice_set (xs ++ ys) o z ≡ slice_set xs o z ++ ys
set_before [] ys o x z e = absurd (cc (e))
set_before (y ∷ xs) ys zero x z e = refl
set_before (y ∷ xs) ys (suc o) x z e = ap (λ r. y ∷ r) (set_before xs ys o x z e)

-- ---- own cells

-- the place of an own object
abbrev pub own_place : ℕ → ℕ → Value
own_place n j = Point (n + j) 0

pub load_splits : (n : ℕ) (kind : Kind) (j : ℕ) → Split n itself (p_load kind j) (load kind (own_place n j))
unfolding p_load load p_read read_cell objects_now ◌>>=◌ after p_stuck p_give give
load_splits n kind j = record { follows = λ st own l. subst (λ z. Joins n itself (p_read kind (cell_in (live_cells (slice_get own j)) 0) st own) (read_cell kind (cell_in (live_cells z) 0) (joined st own))) (sym (got n st own j l)) (go st own l (cell_in (live_cells (slice_get own j)) 0)) }
  where
    go : (st : State) (own : List Object) → length st.objects ≡ n → (c : Option Cell) → Joins n itself (p_read kind c st own) (read_cell kind c (joined st own))
    go st own l None = tt
    go st own l (Some Unset) = tt
    go st own l (Some (Holds v)) = (unless_splits (is_of kind v) _ (give_splits n itself v)).follows st own l

put_splits : (n : ℕ) (j : ℕ) (v : Value) (st : State) (own : List Object) → length st.objects ≡ n → Joins n itself (p_put j v st own) (put_cell (st.objects ++ own) (own_place n j) v (joined st own))
unfolding p_put put_cell with_objects ◌>>=◌ after give
put_splits n j v st own l =
    (ap (λ os. Gives v (record st { objects = os })) (ap (λ o. slice_set (st.objects ++ own) (n + j) (with_cell o 0 v)) (got n st own j l) ∙ was_set n st own j (with_cell (slice_get own j) 0 v) l), l)

pub store_splits : (n : ℕ) (kind : Kind) (j : ℕ) (v : Value) → Split n itself (p_store kind j v) (store kind (own_place n j) v)
unfolding p_store store p_write write_cell objects_now ◌>>=◌ after p_stuck p_choose unless
store_splits n kind j v = record { follows = λ st own l. subst (λ z. Joins n itself (p_write kind (cell_in (live_cells (slice_get own j)) 0) j v st own) (write_cell kind (cell_in (live_cells z) 0) (st.objects ++ own) (own_place n j) v (joined st own))) (sym (got n st own j l)) (go st own l (cell_in (live_cells (slice_get own j)) 0)) }
  where
    tested : (st : State) (own : List Object) → length st.objects ≡ n → (t : Bool) → Joins n itself (p_choose t (p_put j v) p_stuck st own) (unless t OtherKind (put_cell (st.objects ++ own) (own_place n j) v) (joined st own))
    tested st own l true = put_splits n j v st own l
    tested st own l false = tt

    go : (st : State) (own : List Object) → length st.objects ≡ n → (c : Option Cell) → Joins n itself (p_write kind c j v st own) (write_cell kind c (st.objects ++ own) (own_place n j) v (joined st own))
    go st own l None = tt
    go st own l (Some c) = tested st own l (holds_no_other kind c)

-- ---- parts that see the objects before the own ones alone

pub give_outer : {A : Type 0} (n : ℕ) (a : A) → Split n itself (p_outer (give a)) (give a)
unfolding p_outer p_given give
give_outer n a = record { follows = λ st own l. (refl, l) }

pub undefined_outer : {A : Type 0} (n : ℕ) (act : Act) → Split n itself (p_outer (undefined {A = A} act)) (undefined act)
unfolding p_outer p_given undefined
undefined_outer n act = record { follows = λ st own l. tt }

pub unless_outer : {A : Type 0} {n : ℕ} (t : Bool) (act : Act) {m : Run A} → Split n itself (p_outer m) m → Split n itself (p_outer (unless t act m)) (unless t act m)
unfolding unless undefined p_outer p_given
unless_outer true act h = h
unless_outer false act h = record { follows = λ st own l. tt }

given_after : {A B : Type 0} (n : ℕ) (r r' : Outcome A) (f : A → Run B) (own : List Object) → Joins n itself (p_given r own) r' → ((a : A) → Split n itself (p_outer (f a)) (f a)) → Joins n itself (p_given (after r f) own) (after r' f)
unfolding p_given after p_outer
given_after n (Gives a st) r' f own (e, l) h = subst (λ z. Joins n itself (p_given (f a st) own) (after z f)) (sym e) ((h a).follows st own l)
given_after n (Ended st) r' f own e h = tt
given_after n (Going st) r' f own e h = tt
given_after n (Undefined act st) r' f own e h = tt

pub bind_outer : {A B : Type 0} {n : ℕ} {m : Run A} {f : A → Run B} → Split n itself (p_outer m) m → ((a : A) → Split n itself (p_outer (f a)) (f a)) → Split n itself (p_outer (m >>= f)) (m >>= f)
unfolding p_outer ◌>>=◌
bind_outer {n = n} {m = m} {f = f} h k = record { follows = λ st own l. given_after n (m st) (m (joined st own)) f own (h.follows st own l) k }

pub put_outer : (n c : ℕ) → Split n itself (p_outer (put c)) (put c)
unfolding p_outer p_given put
put_outer n c = record { follows = λ st own l. (refl, l) }

read_outer : (n : ℕ) (kind : Kind) (c : Option Cell) → Split n itself (p_outer (read_cell kind c)) (read_cell kind c)
unfolding read_cell
read_outer n kind None = undefined_outer n _
read_outer n kind (Some Unset) = undefined_outer n _
read_outer n kind (Some (Holds v)) = unless_outer (is_of kind v) _ (give_outer n v)

-- an object that stands before is the same in the joined list
module _ (n : ℕ) (o : ℕ) (st : State) (own : List Object) (l : length st.objects ≡ n) where
  pub before : (P : Option Object → Option Object → Type 0) → P None (slice_get (st.objects ++ own) o) → ((x : Object) → slice_get st.objects o ≡ Some x → P (Some x) (Some x)) → P (slice_get st.objects o) (slice_get (st.objects ++ own) o)
  before P none some = go (slice_get st.objects o) refl
    where
      go : (y : Option Object) → slice_get st.objects o ≡ y → P y (slice_get (st.objects ++ own) o)
      go None e = none
      go (Some x) e = subst (P (Some x)) (sym (got_before st.objects own o x e)) (some x e)

pub load_outer : (n : ℕ) (kind : Kind) (p : Value) → Split n itself (p_outer (load kind p)) (load kind p)
unfolding p_outer p_given load objects_now ◌>>=◌ after read_cell undefined
load_outer n kind (Point o k) = record { follows = λ st own l. before n o st own l (λ x y. Joins {A = Value} n itself (p_given (read_cell kind (cell_in (live_cells x) k) st) own) (read_cell kind (cell_in (live_cells y) k) (joined st own))) tt (λ x e. (read_outer n kind (cell_in (live_cells (Some x)) k)).follows st own l) }
load_outer n kind (Letter f i text k) = record { follows = λ st own l. (read_outer n kind (cell_at [] (Letter f i text k))).follows st own l }
load_outer n kind (Word w) = record { follows = λ st own l. tt }
load_outer n kind Null = record { follows = λ st own l. tt }
load_outer n kind (Function f) = record { follows = λ st own l. tt }
load_outer n kind Missing = record { follows = λ st own l. tt }

pub store_outer : (n : ℕ) (kind : Kind) (p v : Value) → Split n itself (p_outer (store kind p v)) (store kind p v)
unfolding p_outer p_given store objects_now ◌>>=◌ after write_cell undefined put_cell with_objects give unless
store_outer n kind (Point o k) v = record { follows = λ st own l. go st own l (slice_get st.objects o) refl }
  where
    tested : (st : State) (own : List Object) → length st.objects ≡ n → (x : Object) → slice_get st.objects o ≡ Some x → (t : Bool) → Joins n itself (p_given (unless t OtherKind (put_cell st.objects (Point o k) v) st) own) (unless t OtherKind (put_cell (st.objects ++ own) (Point o k) v) (joined st own))
    tested st own l x e true =
        (ap (λ os. Gives v (record st { objects = os })) (ap (λ y. slice_set (st.objects ++ own) o (with_cell y k v)) (got_before st.objects own o x e ∙ sym e) ∙ set_before st.objects own o x (with_cell (slice_get st.objects o) k v) e), length-set st.objects o (with_cell (slice_get st.objects o) k v) ∙ l)
    tested st own l x e false = tt

    into : (st : State) (own : List Object) → length st.objects ≡ n → (x : Object) → slice_get st.objects o ≡ Some x → (c : Option Cell) → Joins n itself (p_given (write_cell kind c st.objects (Point o k) v st) own) (write_cell kind c (st.objects ++ own) (Point o k) v (joined st own))
    into st own l x e None = tt
    into st own l x e (Some c) = tested st own l x e (holds_no_other kind c)

    go : (st : State) (own : List Object) → length st.objects ≡ n → (y : Option Object) → slice_get st.objects o ≡ y → Joins n itself (p_given (write_cell kind (cell_in (live_cells y) k) st.objects (Point o k) v st) own) (store kind (Point o k) v (joined st own))
    go st own l None e = tt
    go st own l (Some x) e = subst (λ z. Joins n itself (p_given (write_cell kind (cell_in (live_cells (Some x)) k) st.objects (Point o k) v st) own) (write_cell kind (cell_in (live_cells z) k) (st.objects ++ own) (Point o k) v (joined st own))) (sym (got_before st.objects own o x e)) (into st own l x e (cell_in (live_cells (Some x)) k))
store_outer n kind (Letter f i text k) v = record { follows = λ st own l. go st own l (cell_at [] (Letter f i text k)) }
  where
    tested : (st : State) (own : List Object) → (t : Bool) → Joins {A = Value} n itself (p_given (unless t OtherKind (undefined LiteralWrite) st) own) (unless t OtherKind (undefined LiteralWrite) (joined st own))
    tested st own true = tt
    tested st own false = tt

    go : (st : State) (own : List Object) → length st.objects ≡ n → (c : Option Cell) → Joins n itself (p_given (write_cell kind c st.objects (Letter f i text k) v st) own) (write_cell kind c (st.objects ++ own) (Letter f i text k) v (joined st own))
    go st own l None = tt
    go st own l (Some c) = tested st own (holds_no_other kind c)
store_outer n kind (Word w) v = record { follows = λ st own l. tt }
store_outer n kind Null v = record { follows = λ st own l. tt }
store_outer n kind (Function f) v = record { follows = λ st own l. tt }
store_outer n kind Missing v = record { follows = λ st own l. tt }

pub moved_outer : (n : ℕ) (p : Value) (z : ℤ) → Split n itself (p_outer (moved p z)) (moved p z)
unfolding p_outer p_given moved objects_now ◌>>=◌ after unless undefined give
moved_outer n (Point o k) z = record { follows = λ st own l. before n o st own l (λ x y. Joins {A = Value} n itself (p_given (unless (is_within (offset_by (Point o k) z) (option_map (λ w. length w.cells) x)) PointerArithmetic (give (at_offset (Point o k) (unsigned_abs (offset_by (Point o k) z)))) st) own) (unless (is_within (offset_by (Point o k) z) (option_map (λ w. length w.cells) y)) PointerArithmetic (give (at_offset (Point o k) (unsigned_abs (offset_by (Point o k) z)))) (joined st own))) tt (λ x e. (unless_outer (is_within (offset_by (Point o k) z) (Some (length x.cells))) PointerArithmetic (give_outer n _)).follows st own l) }
moved_outer n (Letter f i text k) z = record { follows = λ st own l. (unless_outer (is_within (offset_by (Letter f i text k) z) (Some (length text + 1))) PointerArithmetic (give_outer n _)).follows st own l }
moved_outer n (Word w) z = record { follows = λ st own l. tt }
moved_outer n Null z = record { follows = λ st own l. tt }
moved_outer n (Function f) z = record { follows = λ st own l. tt }
moved_outer n Missing z = record { follows = λ st own l. tt }

-- ---- blocks

enter_splits : (n : ℕ) (new : List (List Cell)) → Split n (λ j. n + j) (p_enter new) (enter new)
unfolding p_enter enter objects_now with_objects ◌>>=◌ after give
enter_splits n new = record { follows = λ st own l. (λ i. Gives ((length-append st.objects own ∙ ap (λ k. k + length own) l) i) (record st { objects = append_assoc st.objects own (map live_object new) i }), l) }

leave_splits : (n j : ℕ) → Split n itself (p_leave j) (leave (n + j))
unfolding p_leave leave objects_now with_objects ◌>>=◌ after
leave_splits n j = record { follows = λ st own l. (ap (λ os. Gives tt (record st { objects = os })) (cut st own l), l) }
  where
    cut : (st : State) (own : List Object) → length st.objects ≡ n → take (n + j) (st.objects ++ own) ++ map dead (drop (n + j) (st.objects ++ own)) ≡ st.objects ++ (take j own ++ map dead (drop j own))
    cut st own l =
        ap (λ k. take (k + j) (st.objects ++ own) ++ map dead (drop (k + j) (st.objects ++ own))) (sym l)
        ∙ ((λ i. taken_behind st.objects own j i ++ map dead (dropped_behind st.objects own j i)) ∙ append_assoc st.objects (take j own) (map dead (drop j own)))

pub within_splits : {A : Type 0} {n : ℕ} (new : List (List Cell)) {s : ℕ → Part A} (m : ℕ → Run A) → ((j : ℕ) → Split n itself (s j) (m (n + j))) → Split n itself (p_within new s) (within new m)
unfolding p_within within
within_splits {n = n} new m h = bind_splits _ (enter_splits n new) (λ j. bind_splits _ (h j) (λ a. bind_splits _ (leave_splits n j) (λ _. give_splits n itself a)))
