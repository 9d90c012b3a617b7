-- Comparisons of words and pointers, and the truth of values.
use Rattle.std.proofs.Common.{◌≡◌, ℕ, ◌+◌, ◌^◌, ◌<◌, ◌≤◌, Bool, true, false, List, Some, refl, sym, ap, ap₂, ◌∙◌, subst, arith, nat_eq, nat_lt, if◌then◌else◌}
use Rattle.std.specs.Prelude.{◌||◌, not, int_lt}
use Rattle.eir_core.specs.declared.ops.Cond.{Cond}
use Rattle.eir_core.specs.declared.ops.Cond.TheVariants.{Eq, Ne, Lt, Gt, Le, Ge}
use Rattle.eir_core.specs.Step.{holds}
use Rattle.c_syntax.specs.declared.tree.BinOp.{BinOp}
use Rattle.c_syntax.specs.declared.tree.BinOp.TheVariants as binary
use Rattle.c_types.specs.Types.{CType, is_pointer, is_null, is_unsigned, Tags}
use Rattle.c_types.specs.Constants as constant
use Rattle.c_types.specs.Constants.{counted, truth, binary_value}
use Rattle.c_eval.specs.State.{Value, Word, Null, Point, Letter, Function, Missing, State, Run, OtherKind, PointerOrder}
use Rattle.c_eval.specs.Run.{◌>>=◌, give}
use Rattle.c_eval.specs.Memory.{offset_of, equal_pointers, pointer_before}
use Rattle.c_eval.specs.Operators.{as_pointer, is_true, truth_value, word_result, on_words, compared_kind, equality, order, operated}
use Rattle.c_eval.specs.Eval.{World}
use Rattle.c_place.specs.Place.{Machine}
use Rattle.c_memory.specs.Lies.{Extent, Ground, Means}
use Rattle.c_lowered.specs.Operations.{comparison_of, is_signed}
use Rattle.c_landing.specs.Landing.{Setting, Ready, GivesStill}
use Rattle.c_landing.specs.Few.{Agrees}
use Rattle.c_landing.proofs.Stilling.{still_then, still_wider, give_still, unless_still}
use Rattle.c_landing.specs.Tails.{IsGiven}
use Rattle.c_landing.proofs.Arithmetic.{lifted, before_is, not_before_is}
use Rattle.c_landing.proofs.Sums.{of_word_still, word_means, in_one}
use Rattle.c_landing.proofs.Equal.{differ, point_above, letter_above, pointers_equal, compared_pointers}

module _ (S : Setting) (w : World) (agrees : Agrees S w) (bs : List Extent) (st : State) (m : Machine) (d n : ℕ) (r : Ready S bs st m d n) where
  abbrev g : Ground
  g = S.ground

  -- a value is true where its word isn't 0
  pub true_word : (x : Value) (a : ℕ) → IsGiven x → Means g bs x a → is_true x ≡ not (nat_eq a 0)
  true_word (Word k) a i h = ap (λ z. not (nat_eq z 0)) (sym h.0)
  true_word Null a i h = ap (λ z. not (nat_eq z 0)) (sym h)
  true_word (Point o k) a i h = ap not (sym (differ a 0 (λ e. absurd (omega (arith, e, point_above S w agrees bs st m d n r o k a h)))))
  true_word (Letter f j text k) a i h = ap not (sym (differ a 0 (λ e. absurd (omega (arith, e, letter_above S w agrees bs st m d n r f j text k a h)))))
  true_word (Function name) a i h = ap not (sym (differ a 0 (λ e. absurd (omega (arith, e, agrees.stands name h.0, h.1)))))
  true_word Missing a i h = absurd i

  -- two words are compared
  words_compared : (op : BinOp) (t u : CType) (x y : Value) (a b : ℕ) (c : ℕ → ℕ → Bool) → ((i j : ℕ) → binary_value 0 op (is_unsigned t) (is_unsigned t || is_unsigned u) i j ≡ constant.Value (truth (c i j)))
      → Means g bs x a → Means g bs y b → GivesStill st (λ v. (v ≡ truth_value (c a b)) × (a < 2 ^ 24) × (b < 2 ^ 24)) (on_words op t u x y st)
  unfolding on_words word_result
  words_compared op t u x y a b c h mx my = of_word_still st _ x _ (λ i ix. of_word_still st _ y _ (λ j iy.
      let p = word_means g bs x a i mx ix in
      let q = word_means g bs y b j my iy in
      let P : constant.Constant → Type 0 = λ z. GivesStill st (λ v. (v ≡ truth_value (c a b)) × (a < 2 ^ 24) × (b < 2 ^ 24)) (word_result op z st) in
      subst P (sym (h i j)) (give_still st (λ v. (v ≡ truth_value (c a b)) × (a < 2 ^ 24) × (b < 2 ^ 24)) (truth_value (c i j)) (ap₂ (λ k l. truth_value (c k l)) (sym p.0) (sym q.0), omega (arith, p.0, p.1), omega (arith, q.0, q.1)))))

  equality_compared : (op : BinOp) (t u : CType) (x y : Value) (a b : ℕ) (f : Bool → Bool) → ((i j : ℕ) → binary_value 0 op (is_unsigned t) (is_unsigned t || is_unsigned u) i j ≡ constant.Value (truth (f (nat_eq i j))))
      → Means g bs x a → Means g bs y b → GivesStill st (λ v. v ≡ truth_value (f (nat_eq a b))) (equality op t u x y f st)
  unfolding equality
  equality_compared op t u x y a b f h mx my = go (is_pointer t || is_pointer u || is_null t || is_null u)
    where
      go : (c : Bool) → GivesStill st (λ v. v ≡ truth_value (f (nat_eq a b))) ((if c then (equal_pointers (compared_kind t u) (as_pointer x) (as_pointer y) >>= λ b. give (truth_value (f b))) else on_words op t u x y) st)
      go true = still_then st (λ c. c ≡ nat_eq a b) _ _ _ (pointers_equal S w agrees bs st m d n r (compared_kind t u) x y a b (compared_pointers S w agrees bs st m d n r t u) mx my) (λ c e. give_still st _ (truth_value (f c)) (ap (λ z. truth_value (f z)) e))
      go false = still_wider st _ _ (on_words op t u x y st) (words_compared op t u x y a b (λ i j. f (nat_eq i j)) h mx my) (λ v q. q.0)

  -- the order of pointers into one object
  before_compared : (x y : Value) (a b : ℕ) → Means g bs x a → Means g bs y b → GivesStill st (λ c. c ≡ nat_lt a b) (pointer_before x y st)
  unfolding pointer_before
  before_compared x y a b mx my = unless_still st _ _ OtherKind _ (λ kinds. unless_still st _ _ PointerOrder _ (λ e.
      let one = in_one S w agrees bs st m d n r x y a b mx my e in
      give_still st (λ c. c ≡ nat_lt a b) (nat_lt (offset_of x) (offset_of y)) (shift one.0 (offset_of x) (offset_of y) a b one.1 one.2)))
    where
      shift : (c k l a b : ℕ) → a ≡ c + k → b ≡ c + l → nat_lt k l ≡ nat_lt a b
      shift c k l a b e f = same (nat_lt k l) (nat_lt a b) refl refl
        where
          same : (s t : Bool) → nat_lt k l ≡ s → nat_lt a b ≡ t → s ≡ t
          same true true h i = refl
          same false false h i = refl
          same true false h i = absurd (let x : k < l = grind (arith, h) in let y : b ≤ a = grind (arith, i) in omega (arith, x, y, e, f))
          same false true h i = absurd (let x : l ≤ k = grind (arith, h) in let y : a < b = grind (arith, i) in omega (arith, x, y, e, f))

  -- an order: of pointers as they are, of words by whether they count as unsigned
  order_compared : (op : BinOp) (t u : CType) (x y : Value) (a b : ℕ) (before : Run Bool) (f : Bool → Bool) (c : Bool → ℕ → ℕ → Bool)
      → ((i j : ℕ) → i < 2 ^ 24 → j < 2 ^ 24 → binary_value 0 op (is_unsigned t) (is_unsigned t || is_unsigned u) i j ≡ constant.Value (truth (c (not (is_unsigned t || is_unsigned u)) i j)))
      → GivesStill st (λ z. f z ≡ c false a b) (before st) → Means g bs x a → Means g bs y b
      → GivesStill st (λ v. v ≡ truth_value (c (not (is_pointer t || is_unsigned t || is_unsigned u)) a b)) (order op t u x y before f st)
  unfolding order on_words word_result
  order_compared op t u x y a b before f c h bef mx my = go (is_pointer t)
    where
      go : (p : Bool) → GivesStill st (λ v. v ≡ truth_value (c (not (p || is_unsigned t || is_unsigned u)) a b)) ((if p then (before >>= λ b. give (truth_value (f b))) else on_words op t u x y) st)
      go true = still_then st _ _ before _ bef (λ z e. give_still st _ (truth_value (f z)) (ap truth_value e))
      go false = of_word_still st _ x _ (λ i ix. of_word_still st _ y _ (λ j iy.
          let p = word_means g bs x a i mx ix in
          let q = word_means g bs y b j my iy in
          let signed = not (is_unsigned t || is_unsigned u) in
          let P : constant.Constant → Type 0 = λ z. GivesStill st (λ v. v ≡ truth_value (c signed a b)) (word_result op z st) in
          subst P (sym (h i j p.1 q.1)) (give_still st (λ v. v ≡ truth_value (c signed a b)) (truth_value (c signed i j)) (ap₂ (λ k l. truth_value (c signed k l)) (sym p.0) (sym q.0)))))

  abbrev Compares : Cond → Bool → ℕ → ℕ → Bool
  Compares test signed a b = holds test (lifted signed a) (lifted signed b)

  back : (us : Bool) (i j : ℕ) → i < 2 ^ 24 → j < 2 ^ 24 → int_lt (counted us i) (counted us j) ≡ nat_lt (lifted (not us) i) (lifted (not us) j)
  back us i j a b = before_is us i j a b

  pub compared_gives : (tags : Tags) (op : BinOp) (test : Cond) (t u : CType) (x y : Value) (a b : ℕ) → comparison_of op ≡ Some test → Means g bs x a → Means g bs y b → GivesStill st (λ v. v ≡ truth_value (Compares test (is_signed op t u) a b)) (operated tags op t u x y st)
  unfolding operated
  compared_gives tags binary.Eq test t u x y a b e mx my =
      let is : Eq ≡ test = cc e in
      subst (λ z. GivesStill st (λ v. v ≡ truth_value (Compares z false a b)) (equality binary.Eq t u x y (λ b. b) st)) is (equality_compared binary.Eq t u x y a b (λ b. b) (λ i j. refl) mx my)
  compared_gives tags binary.Ne test t u x y a b e mx my =
      let is : Ne ≡ test = cc e in
      subst (λ z. GivesStill st (λ v. v ≡ truth_value (Compares z false a b)) (equality binary.Ne t u x y not st)) is (equality_compared binary.Ne t u x y a b not (λ i j. refl) mx my)
  compared_gives tags binary.Lt test t u x y a b e mx my =
      let is : Lt ≡ test = cc e in
      subst (λ z. GivesStill st (λ v. v ≡ truth_value (Compares z (is_signed binary.Lt t u) a b)) (order binary.Lt t u x y (pointer_before x y) (λ b. b) st)) is
      (order_compared binary.Lt t u x y a b (pointer_before x y) (λ b. b) (λ s k l. Compares Lt s k l) (λ i j li lj. ap (λ z. constant.Value (truth z)) (back (is_unsigned t || is_unsigned u) i j li lj)) (before_compared x y a b mx my) mx my)
  compared_gives tags binary.Gt test t u x y a b e mx my =
      let is : Gt ≡ test = cc e in
      subst (λ z. GivesStill st (λ v. v ≡ truth_value (Compares z (is_signed binary.Gt t u) a b)) (order binary.Gt t u x y (pointer_before y x) (λ b. b) st)) is
      (order_compared binary.Gt t u x y a b (pointer_before y x) (λ b. b) (λ s k l. Compares Gt s k l) (λ i j li lj. ap (λ z. constant.Value (truth z)) (back (is_unsigned t || is_unsigned u) j i lj li)) (before_compared y x b a my mx) mx my)
  compared_gives tags binary.Le test t u x y a b e mx my =
      let is : Le ≡ test = cc e in
      subst (λ z. GivesStill st (λ v. v ≡ truth_value (Compares z (is_signed binary.Le t u) a b)) (order binary.Le t u x y (pointer_before y x) not st)) is
      (order_compared binary.Le t u x y a b (pointer_before y x) not (λ s k l. Compares Le s k l)
      (λ i j li lj. ap (λ z. constant.Value (truth z)) (ap not (back (is_unsigned t || is_unsigned u) j i lj li) ∙ not_before_is _ _)) (still_wider st _ _ (pointer_before y x st) (before_compared y x b a my mx) (λ z q. ap not q ∙ not_before_is a b)) mx my)
  compared_gives tags binary.Ge test t u x y a b e mx my =
      let is : Ge ≡ test = cc e in
      subst (λ z. GivesStill st (λ v. v ≡ truth_value (Compares z (is_signed binary.Ge t u) a b)) (order binary.Ge t u x y (pointer_before x y) not st)) is
      (order_compared binary.Ge t u x y a b (pointer_before x y) not (λ s k l. Compares Ge s k l)
      (λ i j li lj. ap (λ z. constant.Value (truth z)) (ap not (back (is_unsigned t || is_unsigned u) i j li lj) ∙ not_before_is _ _)) (still_wider st _ _ (pointer_before x y st) (before_compared x y a b mx my) (λ z q. ap not q ∙ not_before_is b a)) mx my)
  compared_gives tags binary.Or test t u x y a b e mx my = absurd (cc e)
  compared_gives tags binary.And test t u x y a b e mx my = absurd (cc e)
  compared_gives tags binary.BitOr test t u x y a b e mx my = absurd (cc e)
  compared_gives tags binary.BitXor test t u x y a b e mx my = absurd (cc e)
  compared_gives tags binary.BitAnd test t u x y a b e mx my = absurd (cc e)
  compared_gives tags binary.Shl test t u x y a b e mx my = absurd (cc e)
  compared_gives tags binary.Shr test t u x y a b e mx my = absurd (cc e)
  compared_gives tags binary.Add test t u x y a b e mx my = absurd (cc e)
  compared_gives tags binary.Sub test t u x y a b e mx my = absurd (cc e)
  compared_gives tags binary.Mul test t u x y a b e mx my = absurd (cc e)
  compared_gives tags binary.Div test t u x y a b e mx my = absurd (cc e)
  compared_gives tags binary.Mod test t u x y a b e mx my = absurd (cc e)
