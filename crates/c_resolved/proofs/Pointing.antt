-- Pointers moved and compared.
use Rattle.std.proofs.Common.{◌≡◌, ℕ, suc, ◌+◌, Bool, true, false, not, ◌&&◌, ◌||◌, List, Option, Some, None, Result, Ok, Err, refl, sym, ap, ◌∙◌, subst, if◌then◌else◌, arith}
use Rattle.std.specs.Prelude.{slice_get, ◌==◌, nat_lt, nat_le, ℤ, pos, ◌+ℤ◌, ◌-ℤ◌, int_lt, int_div, int_rem, unsigned_abs, is_some}
use Rattle.std.specs.Option.{option_map_or}
use Rattle.std.specs.Str.{bytes_eq}
use Rattle.std.specs.Cmp.Lexicographic.{bytes_decides}
use Rattle.std.proofs.lemmas.Bool.Decides.{nat_tests}
use Rattle.c_eval.specs.State as run
use Rattle.c_eval.specs.State.{State}
use Rattle.c_eval.specs.Memory as memory
use Rattle.c_eval.specs.Run as words
use Rattle.c_eval.specs.Run.{◌>>=◌}
use Rattle.c_store.specs.declared.kind.Kind.{Kind}
use Rattle.c_store.specs.declared.kind.Kind.TheVariants as kind
use Rattle.c_store.specs.declared.act.Act.{Act}
use Rattle.c_store.specs.declared.act.Act.TheVariants as act
use Rattle.c_store.specs.Values.{Value, Literal, Object, Stack}
use Rattle.c_store.specs.Words.{unless, is_of, offset_of, length_of, at_offset, offset_within, pointer_at, farther, moved, member_at, same_literal, same_object, pointer_before, pointer_difference, serves_as_pointer, object_of, cells_in, is_dead, is_at_end, is_into, meets_end, same_pointer, equal_pointers}
use Rattle.c_resolved.specs.Same.{act_of, kind_in, Tables, IsOwner, at_file, in_function, AreApart, Same, word, null, point, letter, function, missing, SameObject, lengths_of, Shows, Agree, gives, acts}
use Rattle.c_resolved.proofs.Likeness.{kinds, offsets, at_offsets, extents}

-- ---- tests

-- a test on both sides: related answers, or the same act
tested : {A B : Type 0} → (R : A → B → Type 0) → (st : State) (b c : Bool) → b ≡ c → (a : Act) → (m : run.Run A) (r : Result B Act) → Agree R st (m st) r → Agree R st (words.unless b (act_of a) m st) (unless c a r)
unfolding words.unless words.undefined
tested R st true true e a m r agree = agree
tested R st false false e a m r agree = acts a
tested R st true false e a m r agree = cc
tested R st false true e a m r agree = cc

given : {A : Type 0} → (st : State) (x y : A) → x ≡ y → Agree {A = A} {B = A} (λ a b. a ≡ b) st (words.give x st) (Ok y)
unfolding words.give
given st x y e = gives e

-- ---- arithmetic

reach_by : (t : Tables) (st : State) (a : Act) (result k : ℕ) (v : run.Value) (w : Value) → Same t (lengths_of st.objects) v w → result ≡ k → (b : Bool)
    → Agree (Same t (lengths_of st.objects)) st (words.unless b (act_of a) (words.give (memory.at_offset v result)) st) (pointer_at a w (if b then Some k else None))
unfolding words.unless words.give words.undefined
reach_by t st a result k v w alike e true = gives (subst (λ (m : ℕ). Same t (lengths_of st.objects) (memory.at_offset v result) (at_offset w m)) e (at_offsets t (lengths_of st.objects) result alike))
reach_by t st a result k v w alike e false = acts a

-- where a pointer comes to from an offset
abbrev along : Act → Value → ℤ → ℕ → Option ℕ → Result Value Act
along a w z k None = Err a
along a w z k (Some n) = pointer_at a w (offset_within (pos k +ℤ z) n)

farther_along : (a : Act) (w : Value) (z : ℤ) (o : Option ℕ) → along a w z (offset_of w) o ≡ farther a w z o
farther_along a w z None = refl
farther_along a w z (Some n) = refl

reach_in : (t : Tables) (st : State) (a : Act) (z : ℤ) (result : ℕ) (v : run.Value) (w : Value) → Same t (lengths_of st.objects) v w → result ≡ unsigned_abs (memory.offset_by v z) → (o : Option ℕ)
    → Agree (Same t (lengths_of st.objects)) st (words.unless (memory.is_within (memory.offset_by v z) o) (act_of a) (words.give (memory.at_offset v result)) st) (along a w z (memory.offset_of v) o)
unfolding words.unless words.undefined
reach_in t st a z result v w alike e None = acts a
reach_in t st a z result v w alike e (Some n) =
    reach_by t st a result (unsigned_abs (memory.offset_by v z)) v w alike e (not (int_lt (memory.offset_by v z) (pos 0)) && nat_le (unsigned_abs (memory.offset_by v z)) n)

reaches : (t : Tables) (st : State) (a : Act) (z : ℤ) (result : ℕ) (v : run.Value) (w : Value) → Same t (lengths_of st.objects) v w → result ≡ unsigned_abs (memory.offset_by v z)
    → Agree (Same t (lengths_of st.objects)) st (words.unless (memory.is_within (memory.offset_by v z) (memory.extent_of st.objects v)) (act_of a) (words.give (memory.at_offset v result)) st) (farther a w z (length_of t.literals w))
reaches t st a z result v w alike e =
    let same : along a w z (memory.offset_of v) (memory.extent_of st.objects v) ≡ farther a w z (length_of t.literals w) =
    ap (λ (k : ℕ). along a w z k (memory.extent_of st.objects v)) (offsets t (lengths_of st.objects) alike)
    ∙ (ap (along a w z (offset_of w)) (extents t st.objects alike) ∙ farther_along a w z (length_of t.literals w))
    in
    subst (λ (r : Result Value Act). Agree (Same t (lengths_of st.objects)) st (words.unless (memory.is_within (memory.offset_by v z) (memory.extent_of st.objects v)) (act_of a) (words.give (memory.at_offset v result)) st) r) same
    (reach_in t st a z result v w alike e (memory.extent_of st.objects v))

pub moves_show : (t : Tables) (st : State) (v : run.Value) (w : Value) (cells : ℤ) → Same t (lengths_of st.objects) v w → Agree (Same t (lengths_of st.objects)) st (memory.moved v cells st) (moved t.literals w cells)
unfolding memory.moved words.objects_now ◌>>=◌ words.after
moves_show t st v w cells alike = reaches t st act.PointerArithmetic cells (unsigned_abs (memory.offset_by v cells)) v w alike refl

plus : (a n : ℕ) → a + n ≡ unsigned_abs (pos a +ℤ pos n)
plus a n = refl

pub members_show : (t : Tables) (st : State) (v : run.Value) (w : Value) (n : ℕ) → Same t (lengths_of st.objects) v w → Agree (Same t (lengths_of st.objects)) st (memory.member_at n v st) (member_at t.literals n w)
unfolding memory.member_at words.objects_now ◌>>=◌ words.after
members_show t st v w n alike = reaches t st act.OutsideObject (pos n) (memory.offset_of v + n) v w alike (plus (memory.offset_of v) n)

-- ---- one object

-- two names are one where their numbers are
names_alike : (names : List (List ℕ)) → AreApart names → (f g : ℕ) (a b : List ℕ) → slice_get names f ≡ Some a → slice_get names g ≡ Some b → (c : Bool) → (c ≡ true → f ≡ g) → (f ≡ g → c ≡ true) → bytes_eq a b ≡ c
names_alike names apart f g a b e h c to back = by (bytes_eq a b) refl c refl where
  by : (x : Bool) → bytes_eq a b ≡ x → (y : Bool) → c ≡ y → x ≡ y
  by true p true q = refl
  by false p false q = refl
  by true p false q =
      let same : a ≡ b = (bytes_decides a b).0 p in
      let one : f ≡ g = apart f g a e (h ∙ ap Some (sym same)) in
      let yes : c ≡ true = back one in cc
  by false p true q =
      let one : f ≡ g = to q in
      let both : Some a ≡ Some b = sym e ∙ (ap (slice_get names) one ∙ h) in
      let same : a ≡ b = cc in
      let yes : bytes_eq a b ≡ true = (bytes_decides a b).1 same in cc

not_zero : (n : ℕ) → false ≡ (0 == suc n)
not_zero n = sym (let t : (0 == suc n) ≡ false = grind (arith, nat_tests) in t)

not_zero_back : (n : ℕ) → false ≡ (suc n == 0)
not_zero_back n = sym (let t : (suc n == 0) ≡ false = grind (arith, nat_tests) in t)

equal_suc : (f g : ℕ) → (suc f == suc g) ≡ true → f ≡ g
equal_suc f g t = let same : suc f ≡ suc g = grind (arith, nat_tests) in omega arith

suc_equal : (f g : ℕ) → f ≡ g → (suc f == suc g) ≡ true
suc_equal f g e = grind (arith, nat_tests)

equal_numbers : (f g : ℕ) → (f == g) ≡ true → f ≡ g
equal_numbers f g t = grind (arith, nat_tests)

numbers_equal : (f g : ℕ) → f ≡ g → (f == g) ≡ true
numbers_equal f g e = grind (arith, nat_tests)

owners : (names : List (List ℕ)) → AreApart names → {f g : Option (List ℕ)} → {m n : ℕ} → IsOwner names f m → IsOwner names g n → memory.same_owner f g ≡ (m == n)
owners names apart at_file at_file = refl
owners names apart at_file (in_function g b h) = not_zero g
owners names apart (in_function f a e) at_file = not_zero_back f
owners names apart (in_function f a e) (in_function g b h) = names_alike names apart f g a b e h (suc f == suc g) (equal_suc f g) (suc_equal f g)

module _ (t : Tables) (apart : AreApart t.names) (os : List run.Object) where
  pub same_objects : {p q : run.Value} → {v w : Value} → Same t (lengths_of os) p v → Same t (lengths_of os) q w → memory.same_object p q ≡ same_object t.literals v w
  same_objects (point o n k e) (point p m l f) = refl
  same_objects (point o n k e) (word m) = refl
  same_objects (point o n k e) null = refl
  same_objects (point o n k e) (letter other m y j f theirs) = refl
  same_objects (point o n k e) (function g b f) = refl
  same_objects (point o n k e) missing = refl
  same_objects (letter owner l x k e own) (letter other m y j f theirs) =
      ap (λ (z : Bool). z && x.number == y.number) (owners t.names apart own theirs)
      ∙ sym (ap (λ (o : Option Literal). same_literal o (slice_get t.literals m)) e ∙ ap (λ (o : Option Literal). same_literal (Some x) o) f)
  same_objects (letter owner l x k e own) (word m) = refl
  same_objects (letter owner l x k e own) null = refl
  same_objects (letter owner l x k e own) (point p m j f) = refl
  same_objects (letter owner l x k e own) (function g b f) = refl
  same_objects (letter owner l x k e own) missing = refl
  same_objects (word n) s = refl
  same_objects null s = refl
  same_objects (function f a e) s = refl
  same_objects missing s = refl

  ends : {p : run.Value} → {v : Value} → Same t (lengths_of os) p v → memory.is_at_end os p ≡ is_at_end t.literals v
  ends {p} {v} s =
      ap (λ (k : ℕ). option_map_or (λ n. k == n) (memory.extent_of os p) false) (offsets t (lengths_of os) s)
      ∙ ap (λ (o : Option ℕ). option_map_or (λ n. offset_of v == n) o false) (extents t os s)

  intos : {p : run.Value} → {v : Value} → Same t (lengths_of os) p v → memory.is_into os p ≡ is_into t.literals v
  intos {p} {v} s =
      ap (λ (k : ℕ). option_map_or (λ n. nat_lt k n) (memory.extent_of os p) false) (offsets t (lengths_of os) s)
      ∙ ap (λ (o : Option ℕ). option_map_or (λ n. nat_lt (offset_of v) n) o false) (extents t os s)

  meets : {p q : run.Value} → {v w : Value} → Same t (lengths_of os) p v → Same t (lengths_of os) q w → memory.meets_end os p q ≡ meets_end t.literals v w
  meets {p} {q} {v} {w} r s =
      ap (λ (b : Bool). not b && memory.is_at_end os p && memory.is_into os q) (same_objects r s)
      ∙ (ap (λ (b : Bool). not (same_object t.literals v w) && b && memory.is_into os q) (ends r)
      ∙ ap (λ (b : Bool). not (same_object t.literals v w) && is_at_end t.literals v && b) (intos s))

  places : {p q : run.Value} → {v w : Value} → Same t (lengths_of os) p v → Same t (lengths_of os) q w → (memory.same_object p q && memory.offset_of p == memory.offset_of q) ≡ (same_object t.literals v w && offset_of v == offset_of w)
  places {p} {q} {v} {w} r s =
      ap (λ (b : Bool). b && memory.offset_of p == memory.offset_of q) (same_objects r s)
      ∙ (ap (λ (k : ℕ). same_object t.literals v w && k == memory.offset_of q) (offsets t (lengths_of os) r)
      ∙ ap (λ (k : ℕ). same_object t.literals v w && offset_of v == k) (offsets t (lengths_of os) s))

  same_pointers : {p q : run.Value} → {v w : Value} → Same t (lengths_of os) p v → Same t (lengths_of os) q w → memory.same_pointer p q ≡ same_pointer t.literals v w
  same_pointers null null = refl
  same_pointers null (word m) = refl
  same_pointers null (point p m l f) = refl
  same_pointers null (letter other m y j f theirs) = refl
  same_pointers null (function g b f) = refl
  same_pointers null missing = refl
  same_pointers (function f a e) (function g b h) = names_alike t.names apart f g a b e h (f == g) (equal_numbers f g) (numbers_equal f g)
  same_pointers (function f a e) (word m) = refl
  same_pointers (function f a e) null = refl
  same_pointers (function f a e) (point p m l h) = refl
  same_pointers (function f a e) (letter other m y j h theirs) = refl
  same_pointers (function f a e) missing = refl
  same_pointers (word n) s = refl
  same_pointers (point o n k e) s = places (point o n k e) s
  same_pointers (letter owner l x k e own) s = places (letter owner l x k e own) s
  same_pointers missing s = refl

both_kinds : (t : Tables) (lengths : List ℕ) (k : Kind) → {p q : run.Value} → {v w : Value} → Same t lengths p v → Same t lengths q w → (memory.is_of (kind_in k) p && memory.is_of (kind_in k) q) ≡ (is_of k v && is_of k w)
both_kinds t lengths k {p} {q} {v} {w} r s = ap (λ (b : Bool). b && memory.is_of (kind_in k) q) (kinds t lengths k r) ∙ ap (λ (b : Bool). is_of k v && b) (kinds t lengths k s)

-- ---- order and difference

serve : (t : Tables) (lengths : List ℕ) → {v : run.Value} → {w : Value} → Same t lengths v w → memory.serves_as_pointer v ≡ serves_as_pointer w
serve t lengths (word n) = refl
serve t lengths null = refl
serve t lengths (point o n k e) = refl
serve t lengths (letter owner l x k e own) = refl
serve t lengths (function f name e) = refl
serve t lengths missing = refl

both_serve : (t : Tables) (lengths : List ℕ) → {p q : run.Value} → {v w : Value} → Same t lengths p v → Same t lengths q w → (memory.serves_as_pointer p && memory.serves_as_pointer q) ≡ (serves_as_pointer v && serves_as_pointer w)
both_serve t lengths {p} {q} {v} {w} r s = ap (λ (b : Bool). b && memory.serves_as_pointer q) (serve t lengths r) ∙ ap (λ (b : Bool). serves_as_pointer v && b) (serve t lengths s)

pub orders_show : (t : Tables) (st : State) (p q : run.Value) (v w : Value) → AreApart t.names → Same t (lengths_of st.objects) p v → Same t (lengths_of st.objects) q w
    → Agree {A = Bool} {B = Bool} (λ a b. a ≡ b) st (memory.pointer_before p q st) (pointer_before t.literals v w)
unfolding memory.pointer_before
orders_show t st p q v w apart r s =
    let before : nat_lt (memory.offset_of p) (memory.offset_of q) ≡ nat_lt (offset_of v) (offset_of w) =
    ap (λ (k : ℕ). nat_lt k (memory.offset_of q)) (offsets t (lengths_of st.objects) r) ∙ ap (λ (k : ℕ). nat_lt (offset_of v) k) (offsets t (lengths_of st.objects) s)
    in
    tested {A = Bool} {B = Bool} (λ a b. a ≡ b) st (memory.serves_as_pointer p && memory.serves_as_pointer q) (serves_as_pointer v && serves_as_pointer w) (both_serve t (lengths_of st.objects) r s) act.OtherKind
    (words.unless (memory.same_object p q) run.PointerOrder (words.give (nat_lt (memory.offset_of p) (memory.offset_of q)))) (unless (same_object t.literals v w) act.PointerOrder (Ok (nat_lt (offset_of v) (offset_of w))))
    (tested {A = Bool} {B = Bool} (λ a b. a ≡ b) st (memory.same_object p q) (same_object t.literals v w) (same_objects t apart st.objects r s) act.PointerOrder
    (words.give (nat_lt (memory.offset_of p) (memory.offset_of q))) (Ok (nat_lt (offset_of v) (offset_of w))) (given st (nat_lt (memory.offset_of p) (memory.offset_of q)) (nat_lt (offset_of v) (offset_of w)) before))

pub differences_show : (t : Tables) (st : State) (cells : ℕ) (p q : run.Value) (v w : Value) → AreApart t.names → Same t (lengths_of st.objects) p v → Same t (lengths_of st.objects) q w
    → Agree {A = ℤ} {B = ℤ} (λ a b. a ≡ b) st (memory.pointer_difference cells p q st) (pointer_difference t.literals cells v w)
unfolding memory.pointer_difference
differences_show t st cells p q v w apart r s =
    let between : (pos (memory.offset_of p) -ℤ pos (memory.offset_of q)) ≡ (pos (offset_of v) -ℤ pos (offset_of w)) =
    ap (λ (k : ℕ). pos k -ℤ pos (memory.offset_of q)) (offsets t (lengths_of st.objects) r) ∙ ap (λ (k : ℕ). pos (offset_of v) -ℤ pos k) (offsets t (lengths_of st.objects) s)
    in
    let whole : (memory.same_object p q && unsigned_abs (int_rem (pos (memory.offset_of p) -ℤ pos (memory.offset_of q)) (pos cells)) == 0) ≡ (same_object t.literals v w && unsigned_abs (int_rem (pos (offset_of v) -ℤ pos (offset_of w)) (pos cells)) == 0) =
    ap (λ (b : Bool). b && unsigned_abs (int_rem (pos (memory.offset_of p) -ℤ pos (memory.offset_of q)) (pos cells)) == 0) (same_objects t apart st.objects r s)
    ∙ ap (λ (z : ℤ). same_object t.literals v w && unsigned_abs (int_rem z (pos cells)) == 0) between
    in
    tested {A = ℤ} {B = ℤ} (λ a b. a ≡ b) st (memory.serves_as_pointer p && memory.serves_as_pointer q) (serves_as_pointer v && serves_as_pointer w) (both_serve t (lengths_of st.objects) r s) act.OtherKind
    (words.unless (memory.same_object p q && unsigned_abs (int_rem (pos (memory.offset_of p) -ℤ pos (memory.offset_of q)) (pos cells)) == 0) run.PointerOrder (words.give (int_div (pos (memory.offset_of p) -ℤ pos (memory.offset_of q)) (pos cells))))
    (unless (same_object t.literals v w && unsigned_abs (int_rem (pos (offset_of v) -ℤ pos (offset_of w)) (pos cells)) == 0) act.PointerOrder (Ok (int_div (pos (offset_of v) -ℤ pos (offset_of w)) (pos cells))))
    (tested {A = ℤ} {B = ℤ} (λ a b. a ≡ b) st (memory.same_object p q && unsigned_abs (int_rem (pos (memory.offset_of p) -ℤ pos (memory.offset_of q)) (pos cells)) == 0) (same_object t.literals v w && unsigned_abs (int_rem (pos (offset_of v) -ℤ pos (offset_of w)) (pos cells)) == 0) whole act.PointerOrder
    (words.give (int_div (pos (memory.offset_of p) -ℤ pos (memory.offset_of q)) (pos cells))) (Ok (int_div (pos (offset_of v) -ℤ pos (offset_of w)) (pos cells)))
    (given st (int_div (pos (memory.offset_of p) -ℤ pos (memory.offset_of q)) (pos cells)) (int_div (pos (offset_of v) -ℤ pos (offset_of w)) (pos cells)) (ap (λ (z : ℤ). int_div z (pos cells)) between)))

-- ---- equality

dead_object : (t : Tables) (lengths : List ℕ) (x : Option run.Object) (y : Option Object) → SameObject t lengths (memory.live_cells x) (cells_in y) → memory.is_dead_object x ≡ not (is_some y)
dead_object t lengths None None s = refl
dead_object t lengths None (Some y) s = elim s [ ]
dead_object t lengths (Some x) y s = by x.live s where
  by : (b : Bool) → SameObject t lengths (if b then Some x.cells else None) (cells_in y) → not b ≡ not (is_some y)
  by true r = live y r where
    live : (z : Option Object) → SameObject t lengths (Some x.cells) (cells_in z) → false ≡ not (is_some z)
    live None q = elim q [ ]
    live (Some z) q = refl
  by false r = dead y r where
    dead : (z : Option Object) → SameObject t lengths None (cells_in z) → true ≡ not (is_some z)
    dead None q = refl
    dead (Some z) q = elim q [ ]

deaths : (t : Tables) (os : List run.Object) (s : Stack) → Shows t os s → {p : run.Value} → {v : Value} → Same t (lengths_of os) p v → memory.is_dead os p ≡ is_dead s v
deaths t os s shows (point o n k e) = dead_object t (lengths_of os) (slice_get os o) (object_of o s.live) (shows.objects o)
deaths t os s shows (word n) = refl
deaths t os s shows null = refl
deaths t os s shows (letter owner l x k e own) = refl
deaths t os s shows (function f a e) = refl
deaths t os s shows missing = refl

pub equality_shows : (t : Tables) (st : State) (s : Stack) (k : Kind) (p q : run.Value) (v w : Value) → AreApart t.names → Shows t st.objects s → Same t (lengths_of st.objects) p v → Same t (lengths_of st.objects) q w
    → Agree {A = Bool} {B = Bool} (λ a b. a ≡ b) st (memory.equal_pointers (kind_in k) p q st) (equal_pointers t.literals s k v w)
unfolding memory.equal_pointers words.objects_now ◌>>=◌ words.after
equality_shows t st s k p q v w apart shows r q_is =
    let os = st.objects in
    let defined : not (memory.is_dead os p || memory.is_dead os q || memory.meets_end os p q || memory.meets_end os q p) ≡ not (is_dead s v || is_dead s w || meets_end t.literals v w || meets_end t.literals w v) =
    ap (λ (b : Bool). not (b || memory.is_dead os q || memory.meets_end os p q || memory.meets_end os q p)) (deaths t os s shows r)
    ∙ (ap (λ (b : Bool). not (is_dead s v || b || memory.meets_end os p q || memory.meets_end os q p)) (deaths t os s shows q_is)
    ∙ (ap (λ (b : Bool). not (is_dead s v || is_dead s w || b || memory.meets_end os q p)) (meets t apart os r q_is)
    ∙ ap (λ (b : Bool). not (is_dead s v || is_dead s w || meets_end t.literals v w || b)) (meets t apart os q_is r)))
    in
    tested {A = Bool} {B = Bool} (λ a b. a ≡ b) st (memory.is_of (kind_in k) p && memory.is_of (kind_in k) q) (is_of k v && is_of k w) (both_kinds t (lengths_of os) k r q_is) act.OtherKind
    (words.unless (not (memory.is_dead os p || memory.is_dead os q || memory.meets_end os p q || memory.meets_end os q p)) run.PointerEquality (words.give (memory.same_pointer p q)))
    (unless (not (is_dead s v || is_dead s w || meets_end t.literals v w || meets_end t.literals w v)) act.PointerEquality (Ok (same_pointer t.literals v w)))
    (tested {A = Bool} {B = Bool} (λ a b. a ≡ b) st (not (memory.is_dead os p || memory.is_dead os q || memory.meets_end os p q || memory.meets_end os q p)) (not (is_dead s v || is_dead s w || meets_end t.literals v w || meets_end t.literals w v)) defined act.PointerEquality
    (words.give (memory.same_pointer p q)) (Ok (same_pointer t.literals v w)) (given st (memory.same_pointer p q) (same_pointer t.literals v w) (same_pointers t apart os r q_is)))
