-- Sums and differences of words and pointers.
use Rattle.std.proofs.Common.{◌≡◌, ℕ, ◌+◌, ◌^◌, ◌<◌, Bool, true, false, List, length, Option, Some, None, refl, sym, ap, ◌∙◌, subst, arith, slice_get, if◌then◌else◌}
use Rattle.std.specs.Prelude.{ℤ, pos, ◌+ℤ◌, ◌-ℤ◌, ◌*ℤ◌, neg_ℤ, unsigned_abs, ◌&&◌, ◌||◌, ◌==◌}
use Rattle.std.specs.Option.{option_map}
use Rattle.std.proofs.lemmas.Bool.{and_parts}
use Rattle.std.proofs.lemmas.Slice.Eq.{bytes_eq-Decides}
use Rattle.word24.specs.Word.{sum_word, difference_word}
use Rattle.c_syntax.specs.declared.tree.BinOp.TheVariants as binary
use Rattle.c_types.specs.Types.{CType, is_pointer, is_unsigned, Tags}
use Rattle.c_types.specs.Constants.{counted, wrapped}
use Rattle.c_eval.specs.State.{Value, Word, Null, Point, Letter, Function, Missing, Object, State, Run, PointerArithmetic, PointerOrder, OtherKind}
use Rattle.c_eval.specs.Run.{◌>>=◌, give, unless}
use Rattle.c_eval.specs.Memory.{same_owner, same_object, offset_of, is_within, extent_of, offset_by, at_offset, moved, pointer_difference}
use Rattle.c_eval.specs.Operators.{of_word, word_result, on_words, element_words, pointer_sum, pointer_less, sum, difference}
use Rattle.c_eval.specs.Eval.{World}
use Rattle.c_place.specs.Place.{Machine}
use Rattle.c_memory.specs.Lies.{Extent, base, words_at, Ground, Means}
use Rattle.c_landing.specs.Landing.{Setting, Ready, GivesStill}
use Rattle.c_landing.specs.Few.{Agrees, IsNarrow}
use Rattle.c_landing.proofs.Stilling.{still_then, give_still, undefined_still, unless_still, objects_still, within, object_room}
use Rattle.c_landing.proofs.Arithmetic.{wrapped_word, sum_of, difference_of, moved_on, moved_back, between}

pub of_word_still : {A : Type 0} (st : State) (Q : A → Type 0) (x : Value) (f : ℕ → Run A) → ((k : ℕ) → x ≡ Word k → GivesStill st Q (f k st)) → GivesStill st Q (of_word x f st)
unfolding of_word
of_word_still st Q (Word k) f h = h k refl
of_word_still st Q Null f h = undefined_still st Q _
of_word_still st Q (Point o k) f h = undefined_still st Q _
of_word_still st Q (Letter g i text k) f h = undefined_still st Q _
of_word_still st Q (Function name) f h = undefined_still st Q _
of_word_still st Q Missing f h = undefined_still st Q _

-- a value that is a word means it
pub word_means : (g : Ground) (bs : List Extent) (x : Value) (a k : ℕ) → Means g bs x a → x ≡ Word k → (a ≡ k) × (k < 2 ^ 24)
word_means g bs x a k h e = subst (λ v. Means g bs v a) e h

module _ (S : Setting) (w : World) (agrees : Agrees S w) (bs : List Extent) (st : State) (m : Machine) (d n : ℕ) (r : Ready S bs st m d n) where
  abbrev g : Ground
  g = S.ground

  -- a pointer that moves stays in its object, and its address moves with it
  moved_gives : (p : Value) (z : ℤ) (a c : ℕ) → Means g bs p a → ((b k j : ℕ) → a ≡ b + k → pos k +ℤ z ≡ pos j → b + j < 2 ^ 24 → c ≡ b + j) → GivesStill st (λ v. Means g bs v c) (moved p z st)
  unfolding moved
  moved_gives p z a c h k = objects_still st (λ v. Means g bs v c) (λ os. unless (is_within (offset_by p z) (extent_of os p)) PointerArithmetic (give (at_offset p (unsigned_abs (offset_by p z))))) (by p h)
    where
      into : (o j : ℕ) → Means g bs (Point o j) a → (x : Option Object) → slice_get st.objects o ≡ x → is_within (pos j +ℤ z) (option_map (λ y. length y.cells) x) ≡ true → Means g bs (Point o (unsigned_abs (pos j +ℤ z))) c
      into o j h None e f = absurd (cc f)
      into o j h (Some x) e f =
          let b = within (pos j +ℤ z) (length x.cells) f in
          let full = r.lies.full o x e in
          let each = r.lies.each o x e in
          (h.0, omega (arith, b.1, full.1), k (base bs o) j (unsigned_abs (pos j +ℤ z)) h.2 b.0 (omega (arith, b.1, each.1)))

      by : (p : Value) → Means g bs p a → GivesStill st (λ v. Means g bs v c) (unless (is_within (offset_by p z) (extent_of st.objects p)) PointerArithmetic (give (at_offset p (unsigned_abs (offset_by p z)))) st)
      by (Point o j) h = unless_still st (λ v. Means g bs v c) _ PointerArithmetic _ (λ f. give_still st (λ v. Means g bs v c) (Point o (unsigned_abs (pos j +ℤ z))) (into o j h (slice_get st.objects o) refl f))
      by (Letter f i text j) h = unless_still st (λ v. Means g bs v c) _ PointerArithmetic _ (λ e.
          let b = within (pos j +ℤ z) (length text + 1) e in
          let room = agrees.letters f i text h.0 in
          give_still st (λ v. Means g bs v c) (Letter f i text (unsigned_abs (pos j +ℤ z))) (h.0, b.1, k (g.literal f i) j (unsigned_abs (pos j +ℤ z)) h.2 b.0 (omega (arith, b.1, room.1))))
      by (Word x) h = unless_still st (λ v. Means g bs v c) _ PointerArithmetic _ (λ e. absurd (cc e))
      by Null h = unless_still st (λ v. Means g bs v c) _ PointerArithmetic _ (λ e. absurd (cc e))
      by (Function name) h = unless_still st (λ v. Means g bs v c) _ PointerArithmetic _ (λ e. absurd (cc e))
      by Missing h = unless_still st (λ v. Means g bs v c) _ PointerArithmetic _ (λ e. absurd (cc e))

  pointer_sum_gives : (tags : Tags) (t u : CType) (p y : Value) (a b : ℕ) → element_words tags t ≡ 1 → Means g bs p a → Means g bs y b → GivesStill st (λ v. Means g bs v (sum_word a b)) (pointer_sum tags t u p y st)
  unfolding pointer_sum
  pointer_sum_gives tags t u p y a b one mp my = of_word_still st _ y _ (λ k is.
      let q = word_means g bs y b k my is in
      let P : ℕ → Type 0 = λ z. GivesStill st (λ v. Means g bs v (sum_word a b)) (moved p (counted (is_unsigned u) k *ℤ pos z) st) in
      subst P (sym one) (moved_gives p (counted (is_unsigned u) k *ℤ pos 1) a (sum_word a b) mp (λ c i j e f room. (let moves = moved_on (is_unsigned u) k c i j q.1 f room in omega (arith, moves, e, q.0)))))

  pointer_less_gives : (tags : Tags) (t u : CType) (p y : Value) (a b : ℕ) → element_words tags t ≡ 1 → Means g bs p a → Means g bs y b → GivesStill st (λ v. Means g bs v (difference_word a b)) (pointer_less tags t u p y st)
  unfolding pointer_less
  pointer_less_gives tags t u p y a b one mp my = of_word_still st _ y _ (λ k is.
      let q = word_means g bs y b k my is in
      let P : ℕ → Type 0 = λ z. GivesStill st (λ v. Means g bs v (difference_word a b)) (moved p (neg_ℤ (counted (is_unsigned u) k *ℤ pos z)) st) in
      subst P (sym one) (moved_gives p (neg_ℤ (counted (is_unsigned u) k *ℤ pos 1)) a (difference_word a b) mp (λ c i j e f room. (let moves = moved_back (is_unsigned u) k c i j q.1 f room in omega (arith, moves, e, q.0)))))

  words_sum : (t u : CType) (x y : Value) (a b : ℕ) → Means g bs x a → Means g bs y b → GivesStill st (λ v. Means g bs v (sum_word a b)) (on_words binary.Add t u x y st)
  unfolding on_words word_result
  words_sum t u x y a b mx my = of_word_still st _ x _ (λ i ix. of_word_still st _ y _ (λ j iy.
      let p = word_means g bs x a i mx ix in
      let q = word_means g bs y b j my iy in
      let us = is_unsigned t || is_unsigned u in
      let sums = sum_of us i j p.1 q.1 in
      give_still st _ (Word (wrapped (counted us i +ℤ counted us j))) (omega (arith, sums, p.0, q.0), wrapped_word _)))

  words_less : (t u : CType) (x y : Value) (a b : ℕ) → Means g bs x a → Means g bs y b → GivesStill st (λ v. Means g bs v (difference_word a b)) (on_words binary.Sub t u x y st)
  unfolding on_words word_result
  words_less t u x y a b mx my = of_word_still st _ x _ (λ i ix. of_word_still st _ y _ (λ j iy.
      let p = word_means g bs x a i mx ix in
      let q = word_means g bs y b j my iy in
      let us = is_unsigned t || is_unsigned u in
      let sums = difference_of us i j p.1 q.1 in
      give_still st _ (Word (wrapped (counted us i -ℤ counted us j))) (omega (arith, sums, p.0, q.0), wrapped_word _)))

  pub sum_gives : (tags : Tags) (t u : CType) (x y : Value) (a b : ℕ) → IsNarrow tags t → IsNarrow tags u → Means g bs x a → Means g bs y b → GivesStill st (λ v. Means g bs v (sum_word a b)) (sum tags t u x y st)
  unfolding sum
  sum_gives tags t u x y a b nt nu mx my = first (is_pointer t) refl
    where
      second : (c : Bool) → is_pointer u ≡ c → GivesStill st (λ v. Means g bs v (sum_word a b)) ((if c then pointer_sum tags u t y x else on_words binary.Add t u x y) st)
      second true e = let P : ℕ → Type 0 = λ z. GivesStill st (λ v. Means g bs v z) (pointer_sum tags u t y x st) in let swap : sum_word b a ≡ sum_word a b = omega arith in subst P swap (pointer_sum_gives tags u t y x b a (nu e) my mx)
      second false e = words_sum t u x y a b mx my

      first : (c : Bool) → is_pointer t ≡ c → GivesStill st (λ v. Means g bs v (sum_word a b)) ((if c then pointer_sum tags t u x y else if is_pointer u then pointer_sum tags u t y x else on_words binary.Add t u x y) st)
      first true e = pointer_sum_gives tags t u x y a b (nt e) mx my
      first false e = second (is_pointer u) refl

  -- ---- what lies between two pointers

  pub in_one : (p q : Value) (a b : ℕ) → Means g bs p a → Means g bs q b → same_object p q ≡ true → (c : ℕ) × (a ≡ c + offset_of p) × (b ≡ c + offset_of q) × (a < 2 ^ 24) × (b < 2 ^ 24)
  in_one (Point o k) (Point h l) a b mp mq e =
      let is : o ≡ h = grind (arith, e) in
      let there : o < length bs = omega (arith, mp.0, r.lies.seen) in
      let room = object_room g bs st.objects m.memory (m.regs.bp + d) o r.lies there in
      let at : base bs o ≡ base bs h = ap (base bs) is in
      let wide : words_at bs o ≡ words_at bs h = ap (words_at bs) is in
      (base bs o, mp.2, omega (arith, mq.2, at), omega (arith, mp.2, mp.1, room.1), omega (arith, mq.2, mq.1, room.1, at, wide))
  in_one (Letter f i text k) (Letter h j more l) a b mp mq e =
      let parts = and_parts (same_owner f h) (i == j) e in
      let is : i ≡ j = number i j parts.1 in
      let owner : f ≡ h = owners f h parts.0 in
      let at : g.literal f i ≡ g.literal h j = ap (λ z. g.literal z i) owner ∙ ap (g.literal h) is in
      let rf = agrees.letters f i text mp.0 in
      let rh = agrees.letters h j more mq.0 in
      (g.literal f i, mp.2, omega (arith, mq.2, at), omega (arith, mp.2, mp.1, rf.1), omega (arith, mq.2, mq.1, rh.1))
    where
      number : (i j : ℕ) → (i == j) ≡ true → i ≡ j
      number i j e = grind (arith, e)

      owners : (f h : Option (List ℕ)) → same_owner f h ≡ true → f ≡ h
      owners None None e = refl
      owners (Some x) (Some y) e = ap Some ((bytes_eq-Decides x y).0 e)
      owners None (Some y) e = absurd (cc e)
      owners (Some x) None e = absurd (cc e)
  in_one (Word x) q a b mp mq e = absurd (cc e)
  in_one Null q a b mp mq e = absurd (cc e)
  in_one (Function name) q a b mp mq e = absurd (cc e)
  in_one Missing q a b mp mq e = absurd (cc e)
  in_one (Point o k) (Word x) a b mp mq e = absurd (cc e)
  in_one (Point o k) Null a b mp mq e = absurd (cc e)
  in_one (Point o k) (Letter h j more l) a b mp mq e = absurd (cc e)
  in_one (Point o k) (Function name) a b mp mq e = absurd (cc e)
  in_one (Point o k) Missing a b mp mq e = absurd (cc e)
  in_one (Letter f i text k) (Word x) a b mp mq e = absurd (cc e)
  in_one (Letter f i text k) Null a b mp mq e = absurd (cc e)
  in_one (Letter f i text k) (Point h l) a b mp mq e = absurd (cc e)
  in_one (Letter f i text k) (Function name) a b mp mq e = absurd (cc e)
  in_one (Letter f i text k) Missing a b mp mq e = absurd (cc e)

  between_gives : (p q : Value) (a b : ℕ) → Means g bs p a → Means g bs q b → GivesStill st (λ v. Means g bs v (difference_word a b)) ((pointer_difference 1 p q >>= λ z. give (Word (wrapped z))) st)
  unfolding pointer_difference
  between_gives p q a b mp mq = still_then st (λ z. wrapped z ≡ difference_word a b) (λ v. Means g bs v (difference_word a b)) _ _
      (unless_still st _ _ OtherKind _ (λ kinds. unless_still st _ _ PointerOrder _ (λ e.
      let one = in_one p q a b mp mq (and_parts (same_object p q) _ e).0 in
      let is = between one.0 (offset_of p) (offset_of q) (omega (arith, one.1, one.3)) (omega (arith, one.2, one.4)) in
      give_still st (λ z. wrapped z ≡ difference_word a b) _ (sym is ∙ (ap (λ z. difference_word z (one.0 + offset_of q)) (sym one.1) ∙ ap (difference_word a) (sym one.2))))))
      (λ z e. give_still st _ (Word (wrapped z)) (sym e, wrapped_word z))

  pub difference_gives : (tags : Tags) (t u : CType) (x y : Value) (a b : ℕ) → IsNarrow tags t → Means g bs x a → Means g bs y b → GivesStill st (λ v. Means g bs v (difference_word a b)) (difference tags t u x y st)
  unfolding difference
  difference_gives tags t u x y a b nt mx my = first (is_pointer t) refl (is_pointer u)
    where
      first : (c : Bool) → is_pointer t ≡ c → (e : Bool)
          → GivesStill st (λ v. Means g bs v (difference_word a b)) ((if c && e then (pointer_difference (element_words tags t) x y >>= λ z. give (Word (wrapped z))) else if c then pointer_less tags t u x y else on_words binary.Sub t u x y) st)
      first true e true = let P : ℕ → Type 0 = λ k. GivesStill st (λ v. Means g bs v (difference_word a b)) ((pointer_difference k x y >>= λ z. give (Word (wrapped z))) st) in subst P (sym (nt e)) (between_gives x y a b mx my)
      first true e false = pointer_less_gives tags t u x y a b (nt e) mx my
      first false e c = words_less t u x y a b mx my
