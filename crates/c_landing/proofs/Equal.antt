-- Pointers are equal where their words are.
use Rattle.std.proofs.Common.{◌≡◌, ⊎_elim, ℕ, ◌+◌, ◌-◌, ◌<◌, ◌≤◌, Bool, true, false, List, [], ◌∷◌, ◌++◌, length, Option, Some, None, refl, sym, ap, ap₂, ◌∙◌, arith, nat_eq, nat_lt, slice_get, get_or, length-append, if◌then◌else◌}
use Rattle.std.specs.Prelude.{◌&&◌, ◌||◌, ◌==◌, not}
use Rattle.std.specs.Option.{option_map, option_map_or}
use Rattle.std.specs.Str.{bytes_eq}
use Rattle.std.proofs.lemmas.Bool.{and_parts, or_parts, cases_lt}
use Rattle.std.proofs.lemmas.Slice.Eq.{bytes_eq-Decides}
use Rattle.std.proofs.lemmas.Option.{slice_get-get_or}
use Rattle.c_types.specs.Types.{CType, is_pointer, is_null, is_function_pointer}
use Rattle.c_eval.specs.State.{Value, Word, Null, Point, Letter, Function, Missing, Unset, Object, State, PointerEquality, OtherKind}
use Rattle.c_eval.specs.Memory.{Kind, Number, ObjectPointer, FunctionPointer, kind_of, is_of, live_cells, cell_in, offset_of, extent_of, same_owner, same_object, is_dead_object, is_dead, is_at_end, is_into, meets_end, same_pointer, equal_pointers}
use Rattle.c_eval.specs.Operators.{as_pointer, compared_kind}
use Rattle.c_eval.specs.Eval.{World}
use Rattle.c_place.specs.Place.{Machine}
use Rattle.c_memory.specs.Lies.{Extent, base, Ground, Means, cell_of}
use Rattle.c_landing.specs.Landing.{Setting, Ready, GivesStill}
use Rattle.c_landing.specs.Few.{Agrees}
use Rattle.c_landing.proofs.Stilling.{give_still, unless_still, objects_still, object_room}
use Rattle.c_landing.proofs.Sums.{in_one}

pub differ : (a b : ℕ) → (a ≡ b → ⊥) → nat_eq a b ≡ false
differ a b h = go (nat_eq a b) refl
  where
    go : (t : Bool) → nat_eq a b ≡ t → nat_eq a b ≡ false
    go false e = e
    go true e = absurd (h (grind (arith, e)))

agree : (a b : ℕ) → a ≡ b → nat_eq a b ≡ true
agree a b h = grind (arith, h)

-- a pointer to an object, or to a function
object_case : (P : Value → Type 0) (p : Value) → is_of ObjectPointer p ≡ true → P Null → ((o k : ℕ) → P (Point o k)) → ((f : Option (List ℕ)) (i : ℕ) (text : List ℕ) (k : ℕ) → P (Letter f i text k)) → P p
object_case P Null e a b c = a
object_case P (Point o k) e a b c = b o k
object_case P (Letter f i text k) e a b c = c f i text k
object_case P (Word n) e a b c = absurd (cc e)
object_case P (Function name) e a b c = absurd (cc e)
object_case P Missing e a b c = absurd (cc e)

function_case : (P : Value → Type 0) (p : Value) → is_of FunctionPointer p ≡ true → P Null → ((name : List ℕ) → P (Function name)) → P p
function_case P Null e a b = a
function_case P (Function name) e a b = b name
function_case P (Point o k) e a b = absurd (cc e)
function_case P (Letter f i text k) e a b = absurd (cc e)
function_case P (Word n) e a b = absurd (cc e)
function_case P Missing e a b = absurd (cc e)

-- where a pointer's object stands, its words, and where in it the pointer is
record Held (os : List Object) (p : Value) (a : ℕ) : Type 0 where
  at : ℕ
  words : ℕ
  extent : extent_of os p ≡ Some words
  some : 1 ≤ words
  inside : offset_of p ≤ words
  is : a ≡ at + offset_of p

-- two objects have no word in common
abbrev Separate : (at words at1 words1 : ℕ) → Type 0
Separate at words at1 words1 = (i j : ℕ) → i < words → j < words1 → at + i ≡ at1 + j → ⊥

-- pointers into them are apart, unless one is at an end and the other in the other object
apart_words : (os : List Object) (p q : Value) (a b : ℕ) (h : Held os p a) (k : Held os q b) → Separate h.at h.words k.at k.words → same_object p q ≡ false → same_object q p ≡ false → meets_end os p q ≡ false → meets_end os q p ≡ false → a ≡ b → ⊥
apart_words os p q a b h k sep s1 s2 m1 m2 e = ⊎_elim (λ lp. ⊎_elim (λ lq. sep (offset_of p) (offset_of q) lp lq (omega (arith, e, h.is, k.is))) (λ lq. meeting q p k.words h.words k.extent h.extent s2 m2 (omega (arith, lq, k.inside)) lp) (cases_lt (offset_of q) k.words))
    (λ lp. ⊎_elim (λ lq. meeting p q h.words k.words h.extent k.extent s1 m1 (omega (arith, lp, h.inside)) lq)
    (λ lq. sep (h.words - 1) (k.words - 1) (omega (arith, h.some)) (omega (arith, k.some)) (omega (arith, e, h.is, k.is, lp, lq, h.inside, k.inside, h.some, k.some))) (cases_lt (offset_of q) k.words)) (cases_lt (offset_of p) h.words)
  where
    meeting : (p q : Value) (n l : ℕ) → extent_of os p ≡ Some n → extent_of os q ≡ Some l → same_object p q ≡ false → meets_end os p q ≡ false → offset_of p ≡ n → offset_of q < l → ⊥
    meeting p q n l ep eq s m at lt =
        let one : is_at_end os p ≡ true = ap (λ z. option_map_or (λ n. offset_of p == n) z false) ep ∙ agree (offset_of p) n at in
        let below : nat_lt (offset_of q) l ≡ true = grind (arith, lt) in
        let two : is_into os q ≡ true = ap (λ z. option_map_or (λ n. nat_lt (offset_of q) n) z false) eq ∙ below in
        let f : true ≡ false = sym (ap (λ z. not z && true && true) s) ∙ (ap (λ z. not (same_object p q) && z && true) (sym one) ∙ (ap (λ z. not (same_object p q) && is_at_end os p && z) (sym two) ∙ m)) in
        absurd (cc f)

module _ (S : Setting) (w : World) (agrees : Agrees S w) (bs : List Extent) (st : State) (m : Machine) (d n : ℕ) (r : Ready S bs st m d n) where
  abbrev g : Ground
  g = S.ground

  -- the word 0 as a pointer
  pub as_pointer_means : (x : Value) (a : ℕ) → Means g bs x a → Means g bs (as_pointer x) a
  as_pointer_means (Word k) a h = go (k == 0) refl
    where
      go : (t : Bool) → (k == 0) ≡ t → Means g bs (if t then Null else Word k) a
      go true e = let z : k ≡ 0 = grind (arith, e) in h.0 ∙ z
      go false e = h
  as_pointer_means Null a h = h
  as_pointer_means (Point o k) a h = h
  as_pointer_means (Letter f i text k) a h = h
  as_pointer_means (Function name) a h = h
  as_pointer_means Missing a h = h

  -- what points into an object isn't null
  pub point_above : (o k a : ℕ) → Means g bs (Point o k) a → 1 ≤ a
  point_above o k a h = let b = object_room g bs st.objects m.memory (m.regs.bp + d) o r.lies (omega (arith, h.0, r.lies.seen)) in omega (arith, h.2, b.0)

  pub letter_above : (f : Option (List ℕ)) (i : ℕ) (text : List ℕ) (k a : ℕ) → Means g bs (Letter f i text k) a → 1 ≤ a
  letter_above f i text k a h = let b = agrees.letters f i text h.0 in omega (arith, h.2, b.0)

  -- ---- live objects

  record Living (o : ℕ) : Type 0 where
    object : Object
    is : slice_get st.objects o ≡ Some object
    live : object.live ≡ true

  living : (o : ℕ) → is_dead_object (slice_get st.objects o) ≡ false → Living o
  living o e = go (slice_get st.objects o) refl
    where
      alive : (x : Object) (b : Bool) → slice_get st.objects o ≡ Some x → x.live ≡ b → not b ≡ false → Living o
      alive x true h l f = record { object = x; is = h; live = l }
      alive x false h l f = absurd (cc f)

      go : (x : Option Object) → slice_get st.objects o ≡ x → Living o
      go None h = let f : true ≡ false = sym (ap is_dead_object h) ∙ e in absurd (cc f)
      go (Some x) h = alive x x.live h refl (sym (ap is_dead_object h) ∙ e)

  held_point : (o k a : ℕ) → Living o → Means g bs (Point o k) a → Held st.objects (Point o k) a
  held_point o k a l h =
      let f = r.lies.full o l.object l.is in
      record { at = base bs o; words = length l.object.cells; extent = ap (option_map (λ y. length y.cells)) l.is; some = f.0; inside = omega (arith, h.1, f.1); is = h.2 }

  held_letter : (f : Option (List ℕ)) (i : ℕ) (text : List ℕ) (k a : ℕ) → Means g bs (Letter f i text k) a → Held st.objects (Letter f i text k) a
  held_letter f i text k a h = record { at = g.literal f i; words = length text + 1; extent = refl; some = omega arith; inside = h.1; is = h.2 }

  live_cell : (o j : ℕ) (l : Living o) → j < length l.object.cells → cell_of st.objects o j ≡ Some (get_or l.object.cells j Unset)
  live_cell o j l lt = ap (λ z. cell_in (live_cells z) j) l.is ∙ (ap (λ (b : Bool). cell_in (if b then Some l.object.cells else None) j) l.live ∙ slice_get-get_or l.object.cells j Unset lt)

  points_apart : (o h : ℕ) (l : Living o) (k : Living h) → (o == h) ≡ false → Separate (base bs o) (length l.object.cells) (base bs h) (length k.object.cells)
  points_apart o h l k ne i j li lj e =
      let same = r.lies.apart o i h j _ _ (live_cell o i l li) (live_cell h j k lj) e in
      let bad : true ≡ false = sym (agree o h same.0) ∙ ne in
      absurd (cc bad)

  letter_there : (text : List ℕ) (j : ℕ) → j < length text + 1 → slice_get (text ++ 0 ∷ []) j ≡ Some (get_or (text ++ 0 ∷ []) j 0)
  letter_there text j lt = slice_get-get_or (text ++ 0 ∷ []) j 0 (omega (arith, lt, length-append text (0 ∷ [])))

  point_letter_apart : (o : ℕ) (l : Living o) (f : Option (List ℕ)) (i : ℕ) (text : List ℕ) → g.text f i ≡ Some text → Separate (base bs o) (length l.object.cells) (g.literal f i) (length text + 1)
  point_letter_apart o l f i text t x j li lj e = let there = r.letters f i text j _ t (letter_there text j lj) in there.3 o x _ (live_cell o x l li) e

  letters_apart : (f h : Option (List ℕ)) (i j : ℕ) (text more : List ℕ) → g.text f i ≡ Some text → g.text h j ≡ Some more → (same_owner f h && i == j) ≡ false → Separate (g.literal f i) (length text + 1) (g.literal h j) (length more + 1)
  letters_apart f h i j text more tf th ne x y lx ly e =
      let bad : true ≡ false = sym (agrees.letters_apart f h i j text more x y tf th (omega (arith, lx)) (omega (arith, ly)) e) ∙ ne in absurd (cc bad)

  other_way : (f h : Option (List ℕ)) (i j : ℕ) → (same_owner f h && i == j) ≡ false → (same_owner h f && j == i) ≡ false
  other_way f h i j e = go (same_owner h f && j == i) refl
    where
      owners : (f h : Option (List ℕ)) → same_owner h f ≡ true → same_owner f h ≡ true
      owners None None e = refl
      owners (Some x) (Some y) e = (bytes_eq-Decides x y).1 (sym ((bytes_eq-Decides y x).0 e))
      owners None (Some y) e = absurd (cc e)
      owners (Some x) None e = absurd (cc e)

      number : (j == i) ≡ true → (i == j) ≡ true
      number e = grind (arith, e)

      go : (b : Bool) → (same_owner h f && j == i) ≡ b → (same_owner h f && j == i) ≡ false
      go false k = k
      go true k =
          let p = and_parts (same_owner h f) (j == i) k in
          let bad : true ≡ false = sym (ap₂ (λ x y. x && y) (owners f h p.0) (number p.1)) ∙ e in
          absurd (cc bad)

  turned_number : (o h : ℕ) → (o == h) ≡ false → (h == o) ≡ false
  turned_number o h e = differ h o (λ s. let bad : true ≡ false = sym (agree o h (sym s)) ∙ e in absurd (cc bad))

  record Tests (p q : Value) : Type 0 where
    dead_p : is_dead st.objects p ≡ false
    dead_q : is_dead st.objects q ≡ false
    meets : meets_end st.objects p q ≡ false
    met : meets_end st.objects q p ≡ false

  tests : (p q : Value) → not (is_dead st.objects p || is_dead st.objects q || meets_end st.objects p q || meets_end st.objects q p) ≡ true → Tests p q
  tests p q e =
      let a = or_parts (is_dead st.objects p || is_dead st.objects q || meets_end st.objects p q) (meets_end st.objects q p) (denied _ e) in
      let b = or_parts (is_dead st.objects p || is_dead st.objects q) (meets_end st.objects p q) a.0 in
      let c = or_parts (is_dead st.objects p) (is_dead st.objects q) b.0 in
      record { dead_p = c.0; dead_q = c.1; meets = b.1; met = a.1 }
    where
      denied : (t : Bool) → not t ≡ true → t ≡ false
      denied true e = absurd (cc e)
      denied false e = refl

  -- pointers into one object are equal where their offsets are
  in_object : (p q : Value) (a b : ℕ) → Means g bs p a → Means g bs q b → same_object p q ≡ true → nat_eq (offset_of p) (offset_of q) ≡ nat_eq a b
  in_object p q a b mp mq e = let one = in_one S w agrees bs st m d n r p q a b mp mq e in shift one.0 (offset_of p) (offset_of q) a b one.1 one.2
    where
      shift : (c k l a b : ℕ) → a ≡ c + k → b ≡ c + l → nat_eq k l ≡ nat_eq a b
      shift c k l a b e f = go (nat_eq k l) refl
        where
          go : (t : Bool) → nat_eq k l ≡ t → nat_eq k l ≡ nat_eq a b
          go true h = h ∙ sym (agree a b (let s : k ≡ l = grind (arith, h) in omega (arith, e, f, s)))
          go false h = h ∙ sym (differ a b (λ s. let bad : true ≡ false = sym (agree k l (omega (arith, e, f, s))) ∙ h in absurd (cc bad)))

  objects_equal : (p q : Value) (a b : ℕ) → is_of ObjectPointer p ≡ true → is_of ObjectPointer q ≡ true → Tests p q → Means g bs p a → Means g bs q b → same_pointer p q ≡ nat_eq a b
  unfolding held_point living held_letter
  objects_equal p q a b kp kq t mp mq = object_case (λ p. Tests p q → Means g bs p a → same_pointer p q ≡ nat_eq a b) p kp
      (λ t mp. object_case (λ q. Means g bs q b → same_pointer Null q ≡ nat_eq a b) q kq (λ mq. sym (agree a b (mp ∙ sym mq))) (λ o k mq. sym (differ a b (λ e. absurd (omega (arith, e, mp, point_above o k b mq))))) (λ f i text k mq. sym (differ a b (λ e. absurd (omega (arith, e, mp, letter_above f i text k b mq))))) mq)
      (λ o k t mp. object_case (λ q. Tests (Point o k) q → Means g bs q b → same_pointer (Point o k) q ≡ nat_eq a b) q kq (λ t mq. sym (differ a b (λ e. absurd (omega (arith, e, mq, point_above o k a mp))))) (λ h l t mq. points o h k l t mp mq (o == h) refl)
      (λ f i text l t mq. sym (differ a b (λ e. apart_words st.objects (Point o k) (Letter f i text l) a b (held_point o k a (living o t.dead_p) mp) (held_letter f i text l b mq) (point_letter_apart o (living o t.dead_p) f i text mq.0) refl refl t.meets t.met e))) t mq)
      (λ f i text k t mp. object_case (λ q. Tests (Letter f i text k) q → Means g bs q b → same_pointer (Letter f i text k) q ≡ nat_eq a b) q kq (λ t mq. sym (differ a b (λ e. absurd (omega (arith, e, mq, letter_above f i text k a mp)))))
      (λ o l t mq. sym (differ a b (λ e. apart_words st.objects (Point o l) (Letter f i text k) b a (held_point o l b (living o t.dead_q) mq) (held_letter f i text k a mp) (point_letter_apart o (living o t.dead_q) f i text mp.0) refl refl t.met t.meets (sym e))))
      (λ h j more l t mq. literals f h i j text more k l t mp mq (same_owner f h && i == j) refl) t mq)
      t mp
    where
      points : (o h k l : ℕ) → Tests (Point o k) (Point h l) → Means g bs (Point o k) a → Means g bs (Point h l) b → (c : Bool) → (o == h) ≡ c → ((o == h) && (k == l)) ≡ nat_eq a b
      points o h k l t mp mq true e = ap (λ c. c && (k == l)) e ∙ in_object (Point o k) (Point h l) a b mp mq e
      points o h k l t mp mq false e =
          ap (λ c. c && (k == l)) e ∙ sym (differ a b (λ s. apart_words st.objects (Point o k) (Point h l) a b (held_point o k a (living o t.dead_p) mp) (held_point h l b (living h t.dead_q) mq) (points_apart o h (living o t.dead_p) (living h t.dead_q) e) e (turned_number o h e) t.meets t.met s))

      literals : (f h : Option (List ℕ)) (i j : ℕ) (text more : List ℕ) (k l : ℕ) → Tests (Letter f i text k) (Letter h j more l) → Means g bs (Letter f i text k) a → Means g bs (Letter h j more l) b → (c : Bool) → (same_owner f h && i == j) ≡ c
          → ((same_owner f h && i == j) && (k == l)) ≡ nat_eq a b
      literals f h i j text more k l t mp mq true e = ap (λ c. c && (k == l)) e ∙ in_object (Letter f i text k) (Letter h j more l) a b mp mq e
      literals f h i j text more k l t mp mq false e =
          ap (λ c. c && (k == l)) e ∙ sym (differ a b (λ s. apart_words st.objects (Letter f i text k) (Letter h j more l) a b (held_letter f i text k a mp) (held_letter h j more l b mq) (letters_apart f h i j text more mp.0 mq.0 e) e (other_way f h i j e) t.meets t.met s))

  functions_equal : (p q : Value) (a b : ℕ) → is_of FunctionPointer p ≡ true → is_of FunctionPointer q ≡ true → Means g bs p a → Means g bs q b → same_pointer p q ≡ nat_eq a b
  functions_equal p q a b kp kq mp mq = function_case (λ p. Means g bs p a → same_pointer p q ≡ nat_eq a b) p kp
      (λ mp. function_case (λ q. Means g bs q b → same_pointer Null q ≡ nat_eq a b) q kq (λ mq. sym (agree a b (mp ∙ sym mq))) (λ name mq. sym (differ a b (λ e. absurd (omega (arith, e, mp, agrees.stands name mq.0, mq.1))))) mq)
      (λ name mp. function_case (λ q. Means g bs q b → same_pointer (Function name) q ≡ nat_eq a b) q kq (λ mq. sym (differ a b (λ e. absurd (omega (arith, e, mq, agrees.stands name mp.0, mp.1))))) (λ other mq. names name other mp mq (bytes_eq name other) refl) mq) mp
    where
      names : (name other : List ℕ) → Means g bs (Function name) a → Means g bs (Function other) b → (c : Bool) → bytes_eq name other ≡ c → bytes_eq name other ≡ nat_eq a b
      names name other mp mq true e = e ∙ sym (agree a b (mp.1 ∙ (ap g.entry ((bytes_eq-Decides name other).0 e) ∙ sym mq.1)))
      names name other mp mq false e = e ∙ sym (differ a b (λ s. let bad : true ≡ false = sym (agrees.functions_apart name other (agrees.stands name mp.0) (sym mp.1 ∙ (s ∙ mq.1))) ∙ e in absurd (cc bad)))

  -- pointers of a kind
  abbrev pub IsPointerKind : Kind → Type 0
  IsPointerKind Number = ⊥
  IsPointerKind kind = Unit {0}

  pub pointers_equal : (kind : Kind) (x y : Value) (a b : ℕ) → IsPointerKind kind → Means g bs x a → Means g bs y b → GivesStill st (λ t. t ≡ nat_eq a b) (equal_pointers kind (as_pointer x) (as_pointer y) st)
  unfolding equal_pointers
  pointers_equal kind x y a b k mx my = objects_still st _ _ (unless_still st _ _ OtherKind _ (λ kinds. unless_still st _ _ PointerEquality _ (λ e. give_still st (λ t. t ≡ nat_eq a b) _ (by kind k (and_parts _ _ kinds) (tests (as_pointer x) (as_pointer y) e)))))
    where
      by : (kind : Kind) → IsPointerKind kind → (is_of kind (as_pointer x) ≡ true) × (is_of kind (as_pointer y) ≡ true) → Tests (as_pointer x) (as_pointer y) → same_pointer (as_pointer x) (as_pointer y) ≡ nat_eq a b
      by Number k h t = absurd k
      by ObjectPointer k h t = objects_equal (as_pointer x) (as_pointer y) a b h.0 h.1 t (as_pointer_means x a mx) (as_pointer_means y b my)
      by FunctionPointer k h t = functions_equal (as_pointer x) (as_pointer y) a b h.0 h.1 (as_pointer_means x a mx) (as_pointer_means y b my)

  pointer_kind : (t : CType) → is_pointer t ≡ true → IsPointerKind (kind_of t)
  pointer_kind t e = go (is_function_pointer t) (is_pointer t) (is_null t) e
    where
      go : (f p n : Bool) → p ≡ true → IsPointerKind (if f then FunctionPointer else if p || n then ObjectPointer else Number)
      go true p n e = tt
      go false true n e = tt
      go false false n e = absurd (cc e)

  pub compared_pointers : (t u : CType) → IsPointerKind (compared_kind t u)
  compared_pointers t u = go (is_pointer t) (is_pointer u) refl refl
    where
      go : (x y : Bool) → is_pointer t ≡ x → is_pointer u ≡ y → IsPointerKind (if x then kind_of t else if y then kind_of u else ObjectPointer)
      go true y e f = pointer_kind t e
      go false true e f = pointer_kind u f
      go false false e f = tt
