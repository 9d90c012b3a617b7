-- Binary operators.
use Rattle.std.proofs.Common.{◌≡◌, ℕ, ◌<◌, Bool, true, false, not, ◌||◌, ◌&&◌, Result, Ok, Err, refl, sym, ap, ◌∙◌, subst, if◌then◌else◌, arith}
use Rattle.std.specs.Prelude.{◌==◌, ℤ, pos, ◌*ℤ◌, neg_ℤ}
use Rattle.std.proofs.lemmas.Bool.Decides.{nat_tests}
use Rattle.c_syntax.specs.declared.tree.BinOp.{BinOp}
use Rattle.c_syntax.specs.declared.tree.BinOp.TheVariants as binary
use Rattle.c_types.specs.Types.{CType, Tags, is_pointer, is_null, is_unsigned}
use Rattle.c_types.specs.Constants.{counted, wrapped, truth, binary_value}
use Rattle.c_eval.specs.State as run
use Rattle.c_eval.specs.State.{State, Run}
use Rattle.c_eval.specs.Run.{◌>>=◌, after, give}
use Rattle.c_eval.specs.Memory as memory
use Rattle.c_eval.specs.Operators as operators
use Rattle.c_eval.specs.Operators.{element_words}
use Rattle.c_store.specs.declared.act.Act.{Act}
use Rattle.c_store.specs.declared.act.Act.TheVariants as act
use Rattle.c_store.specs.declared.kind.Kind.{Kind}
use Rattle.c_store.specs.Values.{Value, Word, Stack}
use Rattle.c_store.specs.Words.{as_pointer, moved, pointer_before, pointer_difference, equal_pointers}
use Rattle.c_plain.specs.declared.instruction.Operation.TheVariants as operation
use Rattle.c_plain.specs.Operators.{and_then, number_in, truth_value, word_result, pointer_plus, pointer_less, elements_between, answered, operated}
use Rattle.c_resolved.specs.Same.{kind_in, Tables, AreApart, Same, word, Shows, lengths_of, Agree, gives}
use Rattle.c_resolved.proofs.Likeness.{pointers}
use Rattle.c_resolved.proofs.Pointing as pointing
use Rattle.c_resolved.specs.Resolved.{compared_kind, words_operation, sum_operation, difference_operation, equality_operation, order_operation, operation_of, HasElements}
use Rattle.c_resolved.proofs.Binding.{bind, number, result_shown}
use Rattle.c_resolved.proofs.Meant.{compared_meant}

words_given : (t : Tables) (st : State) (m n : ℕ) → m ≡ n → Agree (Same t (lengths_of st.objects)) st (give (run.Word m) st) (Ok (Word n))
unfolding give
words_given t st m n e = gives (subst (λ (k : ℕ). Same t (lengths_of st.objects) (run.Word m) (Word k)) e (word m))

-- a test's answer as a word
tell : (t : Tables) (st : State) (b c : Bool) → b ≡ c → Agree (Same t (lengths_of st.objects)) st (give (operators.truth_value b) st) (Ok (truth_value c))
unfolding give
tell t st b c e = gives (subst (λ (n : ℕ). Same t (lengths_of st.objects) (run.Word (truth b)) (Word n)) (ap truth e) (word (truth b)))

-- a test, whose answer is turned round or not
answers : (t : Tables) (st : State) (negated : Bool) (f : Bool → Bool) → ((b : Bool) → f b ≡ (if negated then not b else b)) → (m : Run Bool) (r : Result Bool Act) → Agree {A = Bool} {B = Bool} (λ a b. a ≡ b) st (m st) r
    → Agree (Same t (lengths_of st.objects)) st ((m >>= λ b. give (operators.truth_value (f b))) st) (answered negated r)
unfolding ◌>>=◌
answers t st negated f same m r agree =
    bind (λ a b. a ≡ b) (Same t (lengths_of st.objects)) st (λ b. give (operators.truth_value (f b))) (λ b. Ok (truth_value (if negated then not b else b))) agree
    (λ a b e. tell t st (f a) (if negated then not b else b) (same a ∙ ap (λ (c : Bool). if negated then not c else c) e))

module _ (t : Tables) (st : State) (s : Stack) (tags : Tags) (apart : AreApart t.names) (shows : Shows t st.objects s) where
  on_words : (op : BinOp) (a b : CType) → {x y : run.Value} → {v w : Value} → Same t (lengths_of st.objects) x v → Same t (lengths_of st.objects) y w
      → Agree (Same t (lengths_of st.objects)) st (operators.on_words op a b x y st) (operated t.literals s (words_operation op a b) v w)
  unfolding operators.on_words
  on_words op a b {x} {y} {v} {w} p q =
      number (Same t (lengths_of st.objects)) t st (λ m. operators.of_word y (λ n. operators.word_result op (binary_value 0 op (is_unsigned a) (is_unsigned a || is_unsigned b) m n)))
      (λ k. and_then (number_in w) (λ n. word_result op (binary_value 0 op (is_unsigned a) (is_unsigned a || is_unsigned b) k n))) p
      (λ m. number (Same t (lengths_of st.objects)) t st (λ n. operators.word_result op (binary_value 0 op (is_unsigned a) (is_unsigned a || is_unsigned b) m n)) (λ n. word_result op (binary_value 0 op (is_unsigned a) (is_unsigned a || is_unsigned b) m n)) q
      (λ n. result_shown t st op (binary_value 0 op (is_unsigned a) (is_unsigned a || is_unsigned b) m n)))

  plus : (a b : CType) → {x y : run.Value} → {v w : Value} → Same t (lengths_of st.objects) x v → Same t (lengths_of st.objects) y w
      → Agree (Same t (lengths_of st.objects)) st (operators.pointer_sum tags a b x y st) (pointer_plus t.literals (is_unsigned b) (element_words tags a) v w)
  unfolding operators.pointer_sum
  plus a b {x} {y} {v} {w} p q =
      number (Same t (lengths_of st.objects)) t st (λ n. memory.moved x (counted (is_unsigned b) n *ℤ pos (element_words tags a))) (λ n. moved t.literals v (counted (is_unsigned b) n *ℤ pos (element_words tags a))) q
      (λ n. pointing.moves_show t st x v (counted (is_unsigned b) n *ℤ pos (element_words tags a)) p)

  less : (a b : CType) → {x y : run.Value} → {v w : Value} → Same t (lengths_of st.objects) x v → Same t (lengths_of st.objects) y w
      → Agree (Same t (lengths_of st.objects)) st (operators.pointer_less tags a b x y st) (pointer_less t.literals (is_unsigned b) (element_words tags a) v w)
  unfolding operators.pointer_less
  less a b {x} {y} {v} {w} p q =
      number (Same t (lengths_of st.objects)) t st (λ n. memory.moved x (neg_ℤ (counted (is_unsigned b) n *ℤ pos (element_words tags a)))) (λ n. moved t.literals v (neg_ℤ (counted (is_unsigned b) n *ℤ pos (element_words tags a)))) q
      (λ n. pointing.moves_show t st x v (neg_ℤ (counted (is_unsigned b) n *ℤ pos (element_words tags a))) p)

  sums : (a b : CType) → {x y : run.Value} → {v w : Value} → Same t (lengths_of st.objects) x v → Same t (lengths_of st.objects) y w
      → Agree (Same t (lengths_of st.objects)) st (operators.sum tags a b x y st) (operated t.literals s (sum_operation tags a b) v w)
  unfolding operators.sum
  sums a b {x} {y} {v} {w} p q = by (is_pointer a) (is_pointer b) where
    by : (c d : Bool)
        → Agree (Same t (lengths_of st.objects)) st ((if c then operators.pointer_sum tags a b x y else if d then operators.pointer_sum tags b a y x else operators.on_words binary.Add a b x y) st)
        (operated t.literals s (if c then operation.PointerPlus (is_unsigned b) (element_words tags a) else if d then operation.PlusPointer (is_unsigned a) (element_words tags b) else words_operation binary.Add a b) v w)
    by true d = plus a b p q
    by false true = plus b a q p
    by false false = on_words binary.Add a b p q

  between : (n : ℕ) → 0 < n → {x y : run.Value} → {v w : Value} → Same t (lengths_of st.objects) x v → Same t (lengths_of st.objects) y w
      → Agree (Same t (lengths_of st.objects)) st ((memory.pointer_difference n x y >>= λ z. give (run.Word (wrapped z))) st) (elements_between t.literals n v w)
  unfolding ◌>>=◌
  between n some {x} {y} {v} {w} p q =
      let test : (n == 0) ≡ false = grind (arith, nat_tests) in
      subst (λ (b : Bool). Agree (Same t (lengths_of st.objects)) st (after (memory.pointer_difference n x y st) (λ z. give (run.Word (wrapped z)))) (if b then Err act.HelperLimit else and_then (pointer_difference t.literals n v w) (λ z. Ok (Word (wrapped z))))) (sym test)
      (bind {A = ℤ} {B = ℤ} (λ a b. a ≡ b) (Same t (lengths_of st.objects)) st (λ z. give (run.Word (wrapped z))) (λ z. Ok (Word (wrapped z))) (pointing.differences_show t st n x y v w apart p q)
      (λ y z e. said y z e))
    where
      said : (y z : ℤ) → y ≡ z → Agree (Same t (lengths_of st.objects)) st (give (run.Word (wrapped y)) st) (Ok (Word (wrapped z)))
      said y z e = words_given t st (wrapped y) (wrapped z) (ap wrapped e)

  differences : (a b : CType) → 0 < element_words tags a → {x y : run.Value} → {v w : Value} → Same t (lengths_of st.objects) x v → Same t (lengths_of st.objects) y w
      → Agree (Same t (lengths_of st.objects)) st (operators.difference tags a b x y st) (operated t.literals s (difference_operation tags a b) v w)
  unfolding operators.difference
  differences a b some {x} {y} {v} {w} p q = by (is_pointer a && is_pointer b) (is_pointer a) where
    by : (c d : Bool)
        → Agree (Same t (lengths_of st.objects)) st ((if c then (memory.pointer_difference (element_words tags a) x y >>= λ z. give (run.Word (wrapped z))) else if d then operators.pointer_less tags a b x y else operators.on_words binary.Sub a b x y) st)
        (operated t.literals s (if c then operation.Difference (element_words tags a) else if d then operation.PointerLess (is_unsigned b) (element_words tags a) else words_operation binary.Sub a b) v w)
    by true d = between (element_words tags a) some p q
    by false true = less a b p q
    by false false = on_words binary.Sub a b p q

  equals : (k : memory.Kind) (l : Kind) → k ≡ kind_in l → {x y : run.Value} → {v w : Value} → Same t (lengths_of st.objects) x v → Same t (lengths_of st.objects) y w
      → Agree {A = Bool} {B = Bool} (λ a b. a ≡ b) st (memory.equal_pointers k (operators.as_pointer x) (operators.as_pointer y) st) (equal_pointers t.literals s l (as_pointer v) (as_pointer w))
  equals k l e {x} {y} {v} {w} p q =
      subst (λ (m : memory.Kind). Agree {A = Bool} {B = Bool} (λ a b. a ≡ b) st (memory.equal_pointers m (operators.as_pointer x) (operators.as_pointer y) st) (equal_pointers t.literals s l (as_pointer v) (as_pointer w))) (sym e)
      (pointing.equality_shows t st s l (operators.as_pointer x) (operators.as_pointer y) (as_pointer v) (as_pointer w) apart shows (pointers t (lengths_of st.objects) p) (pointers t (lengths_of st.objects) q))

  equalities : (op : BinOp) (a b : CType) (negated : Bool) (f : Bool → Bool) → ((c : Bool) → f c ≡ (if negated then not c else c)) → {x y : run.Value} → {v w : Value} → Same t (lengths_of st.objects) x v → Same t (lengths_of st.objects) y w
      → Agree (Same t (lengths_of st.objects)) st (operators.equality op a b x y f st) (operated t.literals s (equality_operation op a b negated) v w)
  unfolding operators.equality
  equalities op a b negated f same {x} {y} {v} {w} p q = by (is_pointer a || is_pointer b || is_null a || is_null b) where
    by : (c : Bool)
        → Agree (Same t (lengths_of st.objects)) st ((if c then (memory.equal_pointers (operators.compared_kind a b) (operators.as_pointer x) (operators.as_pointer y) >>= λ d. give (operators.truth_value (f d))) else operators.on_words op a b x y) st)
        (operated t.literals s (if c then operation.Equal (compared_kind a b) negated else words_operation op a b) v w)
    by true =
        answers t st negated f same (memory.equal_pointers (operators.compared_kind a b) (operators.as_pointer x) (operators.as_pointer y)) (equal_pointers t.literals s (compared_kind a b) (as_pointer v) (as_pointer w))
        (equals (operators.compared_kind a b) (compared_kind a b) (compared_meant a b) p q)
    by false = on_words op a b p q

  orders : (op : BinOp) (a b : CType) (swapped negated : Bool) (before : Run Bool) (r : Result Bool Act) (f : Bool → Bool) → ((c : Bool) → f c ≡ (if negated then not c else c)) → {x y : run.Value} → {v w : Value}
      → Same t (lengths_of st.objects) x v → Same t (lengths_of st.objects) y w → Agree {A = Bool} {B = Bool} (λ c d. c ≡ d) st (before st) r → r ≡ (if swapped then pointer_before t.literals w v else pointer_before t.literals v w)
      → Agree (Same t (lengths_of st.objects)) st (operators.order op a b x y before f st) (operated t.literals s (order_operation op a b swapped negated) v w)
  unfolding operators.order
  orders op a b swapped negated before r f same {x} {y} {v} {w} p q agree e = by (is_pointer a) where
    by : (c : Bool)
        → Agree (Same t (lengths_of st.objects)) st ((if c then (before >>= λ d. give (operators.truth_value (f d))) else operators.on_words op a b x y) st)
        (operated t.literals s (if c then operation.Before swapped negated else words_operation op a b) v w)
    by true =
        subst (λ (z : Result Bool Act). Agree (Same t (lengths_of st.objects)) st ((before >>= λ d. give (operators.truth_value (f d))) st) (answered negated z)) e (answers t st negated f same before r agree)
    by false = on_words op a b p q

pub operations : (t : Tables) (st : State) (s : Stack) (tags : Tags) (op : BinOp) (a b : CType) (x y : run.Value) (v w : Value) → AreApart t.names → Shows t st.objects s → HasElements tags op a
    → Same t (lengths_of st.objects) x v → Same t (lengths_of st.objects) y w → Agree (Same t (lengths_of st.objects)) st (operators.operated tags op a b x y st) (operated t.literals s (operation_of tags op a b) v w)
unfolding operators.operated
operations t st s tags binary.Add a b x y v w apart shows some p q = sums t st s tags apart shows a b p q
operations t st s tags binary.Sub a b x y v w apart shows some p q = differences t st s tags apart shows a b some p q
operations t st s tags binary.Eq a b x y v w apart shows some p q = equalities t st s tags apart shows binary.Eq a b false (λ c. c) (λ c. refl) p q
operations t st s tags binary.Ne a b x y v w apart shows some p q = equalities t st s tags apart shows binary.Ne a b true not (λ c. refl) p q
operations t st s tags binary.Lt a b x y v w apart shows some p q =
    orders t st s tags apart shows binary.Lt a b false false (memory.pointer_before x y) (pointer_before t.literals v w) (λ c. c) (λ c. refl) p q (pointing.orders_show t st x y v w apart p q) refl
operations t st s tags binary.Gt a b x y v w apart shows some p q =
    orders t st s tags apart shows binary.Gt a b true false (memory.pointer_before y x) (pointer_before t.literals w v) (λ c. c) (λ c. refl) p q (pointing.orders_show t st y x w v apart q p) refl
operations t st s tags binary.Le a b x y v w apart shows some p q =
    orders t st s tags apart shows binary.Le a b true true (memory.pointer_before y x) (pointer_before t.literals w v) not (λ c. refl) p q (pointing.orders_show t st y x w v apart q p) refl
operations t st s tags binary.Ge a b x y v w apart shows some p q =
    orders t st s tags apart shows binary.Ge a b false true (memory.pointer_before x y) (pointer_before t.literals v w) not (λ c. refl) p q (pointing.orders_show t st x y v w apart p q) refl
operations t st s tags op a b x y v w apart shows some p q = on_words t st s tags apart shows op a b p q
