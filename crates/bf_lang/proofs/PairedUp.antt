-- The table of folds, one command further.
use Rattle.std.proofs.Common.{◌≡◌, ◌≢◌, ◌⊎◌, inl, inr, ℕ, suc, ◌+◌, ◌-◌, ◌<◌, ◌≤◌, List, [], ◌∷◌, ◌++◌, length, take, drop, reverse, get_or, set, Option, Some, None, slice_get, slice_range, refl, sym, ap, ◌∙◌, subst, arith, add-one}
use Rattle.std.proofs.lemmas.List.{take_more, take-append-drop, take_all, get_or_append_left, get_or-set_same, get_or-set_other, get_or-drop, length-set, reverse-append, length_push, get_or_push, length-drop, length-take-le, append_assoc, take-take, drop-take, drop-drop, nil_from_length}
use Rattle.std.proofs.lemmas.Option.{slice_get-get_or, slice_get_within}
use Rattle.mach_core.proofs.Lists.{next_is, none_past}
use Rattle.bf_lang.specs.declared.command.Command.{Command}
use Rattle.bf_lang.specs.declared.command.Command.TheVariants.{Open as OpenCommand, Close as CloseCommand}
use Rattle.bf_lang.specs.declared.fold.Fold.{Fold}
use Rattle.bf_lang.specs.declared.fold.Fold.TheVariants.{Open, Close, Other}
use Rattle.bf_lang.specs.Balance.{depth_after, IsBalanced}
use Rattle.bf_lang.specs.Step.{open_before}
use Rattle.bf_lang.specs.Fold.{IsFold, IsRow, IsPlain, fold_at, past_partner, AreFolds}
use Rattle.bf_lang.specs.Pairing.{AreOpen, IsAmong, ArePaired}
use Rattle.bf_lang.proofs.Partners.{balanced_append, balanced_loop, depth_append, depth_more, close_of_loop, open_of_loop}

some_is : {A : Type 0} (a b : A) → Some a ≡ Some b → a ≡ b
some_is a b e = cc

same_item : (code : List Command) (k : ℕ) (c : Command) → slice_get code k ≡ Some c → get_or code k c ≡ c
same_item code k c at = some_is (get_or code k c) c (sym (slice_get-get_or code k c (slice_get_within code k c at)) ∙ at)

-- the commands from one place to another, and the next
range_more : (code : List Command) (i k : ℕ) (c : Command) → i ≤ k → slice_get code k ≡ Some c → slice_range code i (k + 1) ≡ slice_range code i k ++ c ∷ []
range_more code i k c le at =
    let n : k + 1 - i ≡ k - i + 1 = omega arith in
    let place : i + (k - i) ≡ k = omega arith in
    let there : k - i < length (drop i code) = omega (arith, length-drop i code, slice_get_within code k c at) in
    let item : get_or (drop i code) (k - i) c ≡ c = get_or-drop i code (k - i) c ∙ (ap (λ j. get_or code j c) place ∙ same_item code k c at) in
    ap (λ q. take q (drop i code)) n ∙ (take_more (drop i code) (k - i) c there ∙ ap (λ x. take (k - i) (drop i code) ++ x ∷ []) item)

take_next : (code : List Command) (k : ℕ) (c : Command) → slice_get code k ≡ Some c → take (k + 1) code ≡ take k code ++ c ∷ []
take_next code k c at = take_more code k c (slice_get_within code k c at) ∙ ap (λ x. take k code ++ x ∷ []) (same_item code k c at)

balanced_none : (code : List Command) (i : ℕ) → IsBalanced (slice_range code i i)
balanced_none code i = let none : 0 ≡ i - i = omega arith in subst (λ n. IsBalanced (take n (drop i code))) none refl

-- a command that is no bracket
open_plain : (code : List Command) (k : ℕ) (c : Command) (is : List ℕ) → slice_get code k ≡ Some c → IsBalanced (c ∷ []) → AreOpen code k is → AreOpen code (k + 1) is
open_plain code k c [] at plain b = subst (λ xs. IsBalanced xs) (sym (take_next code k c at)) (balanced_append (take k code) (c ∷ []) b plain)
open_plain code k c (i ∷ is) at plain b =
    let le : i + 1 ≤ k = omega (arith, b.0) in
    (omega (arith, b.0), b.1, subst (λ xs. IsBalanced xs) (sym (range_more code (i + 1) k c le at)) (balanced_append (slice_range code (i + 1) k) (c ∷ []) b.2 plain), b.3)

-- a `[`
open_more : (code : List Command) (k : ℕ) (is : List ℕ) → slice_get code k ≡ Some OpenCommand → AreOpen code k is → AreOpen code (k + 1) (k ∷ is)
open_more code k is at b = (omega arith, at, balanced_none code (k + 1), b)

-- the innermost open bracket, what it encloses, and the `]` at a place
loop_at : (code : List Command) (i k : ℕ) → i < k → slice_get code i ≡ Some OpenCommand → slice_get code k ≡ Some CloseCommand → drop i code ≡ OpenCommand ∷ (slice_range code (i + 1) k ++ CloseCommand ∷ drop (suc k) code)
loop_at code i k low opens closes =
    let place : i + 1 + (k - (i + 1)) ≡ k = omega arith in
    let rest : drop (k - (i + 1)) (drop (i + 1) code) ≡ CloseCommand ∷ drop (suc k) code =
    drop-drop (k - (i + 1)) (i + 1) code ∙ (ap (λ j. drop j code) place ∙ next_is code k CloseCommand closes) in
    let whole : drop (i + 1) code ≡ slice_range code (i + 1) k ++ CloseCommand ∷ drop (suc k) code = sym (take-append-drop (k - (i + 1)) (drop (i + 1) code)) ∙ ap (λ xs. slice_range code (i + 1) k ++ xs) rest in
    next_is code i OpenCommand opens ∙ ap (λ xs. OpenCommand ∷ xs) (ap (λ j. drop j code) (sym (add-one i)) ∙ whole)

range_length : (code : List Command) (i k : ℕ) → i < k → k ≤ length code → length (slice_range code (i + 1) k) ≡ k - (i + 1)
range_length code i k low le = length-take-le (k - (i + 1)) (drop (i + 1) code) (omega (arith, length-drop (i + 1) code))

-- what stands before an open bracket, and behind it
range_open : (code : List Command) (j i k : ℕ) → j ≤ i → i < k → slice_get code i ≡ Some OpenCommand → slice_range code j k ≡ slice_range code j i ++ OpenCommand ∷ slice_range code (i + 1) k
range_open code j i k le low opens =
    let more : k - j ≡ i - j + (k - i) = omega arith in
    let place : j + (i - j) ≡ i = omega arith in
    let n : k - i ≡ suc (k - (i + 1)) = omega arith in
    let less : i - j ≤ i - j + (k - i) = omega arith in
    let front : take (i - j) (take (i - j + (k - i)) (drop j code)) ≡ slice_range code j i = take-take (i - j) (i - j + (k - i)) (drop j code) less in
    let rest : drop (i - j) (drop j code) ≡ OpenCommand ∷ drop (suc i) code = drop-drop (i - j) j code ∙ (ap (λ q. drop q code) place ∙ next_is code i OpenCommand opens) in
    let back : drop (i - j) (take (i - j + (k - i)) (drop j code)) ≡ OpenCommand ∷ slice_range code (i + 1) k =
    drop-take (i - j) (k - i) (drop j code)
    ∙ (ap (take (k - i)) rest
    ∙ (ap (λ q. take q (OpenCommand ∷ drop (suc i) code)) n
    ∙ ap (λ q. OpenCommand ∷ take (k - (i + 1)) (drop q code)) (sym (add-one i)))) in
    ap (λ q. take q (drop j code)) more
    ∙ (sym (take-append-drop (i - j) (take (i - j + (k - i)) (drop j code)))
    ∙ (λ t. front t ++ back t))

-- it closes
range_split : (code : List Command) (j i k : ℕ) → j ≤ i → i < k → slice_get code i ≡ Some OpenCommand → slice_get code k ≡ Some CloseCommand
    → slice_range code j (k + 1) ≡ slice_range code j i ++ OpenCommand ∷ (slice_range code (i + 1) k ++ CloseCommand ∷ [])
range_split code j i k le low opens closes =
    let upto : j ≤ k = omega arith in
    range_more code j k CloseCommand upto closes
    ∙ (ap (λ xs. xs ++ CloseCommand ∷ []) (range_open code j i k le low opens)
    ∙ append_assoc (slice_range code j i) (OpenCommand ∷ slice_range code (i + 1) k) (CloseCommand ∷ []))

take_range : (code : List Command) (k : ℕ) → take k code ≡ slice_range code 0 k
take_range code k = let n : k ≡ k - 0 = omega arith in ap (λ q. take q code) n

open_less : (code : List Command) (i k : ℕ) (is : List ℕ) → slice_get code k ≡ Some CloseCommand → AreOpen code k (i ∷ is) → AreOpen code (k + 1) is
open_less code i k [] closes b =
    let le : 0 ≤ i = omega arith in
    let front : IsBalanced (slice_range code 0 i) = subst (λ xs. IsBalanced xs) (take_range code i) b.3 in
    subst (λ xs. IsBalanced xs) (sym (take_range code (k + 1) ∙ range_split code 0 i k le b.0 b.1 closes))
    (balanced_append (slice_range code 0 i) (OpenCommand ∷ (slice_range code (i + 1) k ++ CloseCommand ∷ [])) front (balanced_loop (slice_range code (i + 1) k) b.2))
open_less code i k (j ∷ is) closes b =
    let rest = b.3 in
    let le : j + 1 ≤ i = omega (arith, rest.0) in
    let low : j < k + 1 = omega (arith, rest.0, b.0) in (
      low,
      rest.1,
      subst (λ xs. IsBalanced xs) (sym (range_split code (j + 1) i k le b.0 b.1 closes))
          (balanced_append (slice_range code (j + 1) i) (OpenCommand ∷ (slice_range code (i + 1) k ++ CloseCommand ∷ [])) rest.2 (balanced_loop (slice_range code (i + 1) k) b.2)),
      rest.3,
    )

-- as many are open as are waiting
open_depth : (code : List Command) (k : ℕ) (is : List ℕ) → AreOpen code k is → depth_after 0 (take k code) ≡ Some (length is)
open_depth code k [] b = b
open_depth code k (i ∷ is) b =
    let le : 0 ≤ i = omega arith in
    let inner = slice_range code (i + 1) k in
    let split : take k code ≡ take i code ++ OpenCommand ∷ inner = take_range code k ∙ (range_open code 0 i k le b.0 b.1 ∙ ap (λ xs. xs ++ OpenCommand ∷ inner) (sym (take_range code i))) in
    let front : depth_after 0 (take i code) ≡ Some (length is) = open_depth code i is b.3 in
    let depth : 0 + suc (length is) ≡ suc (length is) = omega arith in
    ap (depth_after 0) split
    ∙ (depth_append (take i code) (OpenCommand ∷ inner) 0 (length is) front
    ∙ (ap (λ d. depth_after d inner) (sym depth) ∙ (depth_more inner 0 0 (suc (length is)) b.2 ∙ ap (λ d. Some d) depth)))

-- no `]` without its `[`
unbalanced : (code : List Command) (k : ℕ) → IsBalanced code → IsBalanced (take k code) → slice_get code k ≡ Some CloseCommand → ⊥
unbalanced code k whole front closes =
    let split : code ≡ take k code ++ CloseCommand ∷ drop (suc k) code = sym (take-append-drop k code) ∙ ap (λ xs. take k code ++ xs) (next_is code k CloseCommand closes) in
    clash (depth_after 0 (take k code ++ CloseCommand ∷ drop (suc k) code)) (depth_append (take k code) (CloseCommand ∷ drop (suc k) code) 0 0 front) (ap (depth_after 0) (sym split) ∙ whole) where
      clash : (o : Option ℕ) → o ≡ None → o ≡ Some 0 → ⊥
      clash o e f = cc

-- the table with one more fold
fold_push : (folds : List Fold) (f : Fold) (k p : ℕ) → length folds ≡ k → p < k → fold_at (folds ++ f ∷ []) p ≡ fold_at folds p
fold_push folds f k p e l = get_or_append_left folds (f ∷ []) Other p (omega (arith, e))

before_or_last : (p k : ℕ) → p < k + 1 → (p < k) ⊎ (p ≡ k)
before_or_last p k l = grind arith

pub paired_plain : (code : List Command) (k : ℕ) (folds : List Fold) (waiting : List ℕ) (c : Command) (f : Fold) → slice_get code k ≡ Some c → IsBalanced (c ∷ []) → IsFold code k f
    → ArePaired code k folds waiting → ArePaired code (k + 1) (folds ++ f ∷ []) waiting
paired_plain code k folds waiting c f at plain is p = record {
  count = omega (arith, length_push folds f, p.count);
  within = omega (arith, slice_get_within code k c at);
  pending = open_plain code k c (reverse waiting) at plain p.pending;
  each = λ q l. by q (before_or_last q k l);
} where
  by : (q : ℕ) → (q < k) ⊎ (q ≡ k) → IsFold code q (fold_at (folds ++ f ∷ []) q) ⊎ IsAmong q (reverse waiting)
  by q (inl l) = subst (λ g. IsFold code q g ⊎ IsAmong q (reverse waiting)) (sym (fold_push folds f k q p.count l)) (p.each q l)
  by q (inr e) =
      let last : fold_at (folds ++ f ∷ []) k ≡ f = get_or_push folds f Other k p.count in
      inl (subst (λ j. IsFold code j (fold_at (folds ++ f ∷ []) j)) (sym e) (subst (λ g. IsFold code k g) (sym last) is))

pub single : (code : List Command) (k : ℕ) (c : Command) → slice_get code k ≡ Some c → IsRow code k c 1
single code k c at = record {
  some = omega arith;
  each = λ j l. let is : k ≡ k + j = omega arith in subst (λ p. slice_get code p ≡ Some c) is at;
}

reversed_push : (xs : List ℕ) (x : ℕ) → reverse (xs ++ x ∷ []) ≡ x ∷ reverse xs
reversed_push xs x = reverse-append xs (x ∷ [])

pub paired_open : (code : List Command) (k : ℕ) (folds : List Fold) (waiting : List ℕ) → slice_get code k ≡ Some OpenCommand
    → ArePaired code k folds waiting → ArePaired code (k + 1) (folds ++ Other ∷ []) (waiting ++ k ∷ [])
paired_open code k folds waiting at p = record {
  count = omega (arith, length_push folds Other, p.count);
  within = omega (arith, slice_get_within code k OpenCommand at);
  pending = subst (λ is. AreOpen code (k + 1) is) (sym (reversed_push waiting k)) (open_more code k (reverse waiting) at p.pending);
  each = λ q l. subst (λ is. IsFold code q (fold_at (folds ++ Other ∷ []) q) ⊎ IsAmong q is) (sym (reversed_push waiting k)) (by q (before_or_last q k l));
} where
  older : (q : ℕ) → (f : Fold) → IsFold code q f ⊎ IsAmong q (reverse waiting) → IsFold code q f ⊎ IsAmong q (k ∷ reverse waiting)
  older q f (inl is) = inl is
  older q f (inr among) = inr (inr among)

  by : (q : ℕ) → (q < k) ⊎ (q ≡ k) → IsFold code q (fold_at (folds ++ Other ∷ []) q) ⊎ IsAmong q (k ∷ reverse waiting)
  by q (inl l) = older q (fold_at (folds ++ Other ∷ []) q) (subst (λ g. IsFold code q g ⊎ IsAmong q (reverse waiting)) (sym (fold_push folds Other k q p.count l)) (p.each q l))
  by q (inr e) = inr (inl e)

same_or_not : (q i : ℕ) → (q ≡ i) ⊎ (q ≢ i)
same_or_not q i = grind arith

-- a `]` with the innermost `[` at i
module _ (code : List Command) (k i : ℕ) (folds : List Fold) (waiting : List ℕ) (closes : slice_get code k ≡ Some CloseCommand) (p : ArePaired code k folds (waiting ++ i ∷ [])) where
  pending : AreOpen code k (i ∷ reverse waiting)
  pending = subst (λ is. AreOpen code k is) (reversed_push waiting i) p.pending

  pub start_before : i < k
  start_before = pending.0

  there : k < length code
  there = slice_get_within code k CloseCommand closes

  size : length (slice_range code (i + 1) k) ≡ k - (i + 1)
  size = range_length code i k start_before (omega (arith, there))

  at_loop : drop i code ≡ OpenCommand ∷ (slice_range code (i + 1) k ++ CloseCommand ∷ drop (suc k) code)
  at_loop = loop_at code i k start_before pending.1 closes

  past_is : k + 1 ≡ past_partner code i
  past_is = omega (arith, close_of_loop code (slice_range code (i + 1) k) (drop (suc k) code) i pending.2 at_loop, size, start_before)

  back_is : i + 1 ≡ open_before code k 0
  back_is =
      let e : i + 1 + length (slice_range code (i + 1) k) ≡ k = omega (arith, size, start_before) in
      sym (ap (λ j. open_before code j 0) (sym e) ∙ open_of_loop code (slice_range code (i + 1) k) (drop (suc k) code) i pending.2 at_loop)

  abbrev table : List Fold
  table = set folds i (Open (k + 1)) ++ Close (i + 1) ∷ []

  count_set : length (set folds i (Open (k + 1))) ≡ k
  count_set = length-set folds i (Open (k + 1)) ∙ p.count

  by_among : (q : ℕ) → q ≢ i → (f : Fold) → IsFold code q f ⊎ IsAmong q (i ∷ reverse waiting) → IsFold code q f ⊎ IsAmong q (reverse waiting)
  by_among q ne f (inl is) = inl is
  by_among q ne f (inr (inl e)) = absurd (ne e)
  by_among q ne f (inr (inr among)) = inr among

  at_start : IsFold code i (fold_at table i)
  at_start =
      let low : i < length (set folds i (Open (k + 1))) = omega (arith, count_set, start_before) in
      let few : i < length folds = omega (arith, p.count, start_before) in
      let is : fold_at table i ≡ Open (k + 1) = get_or_append_left (set folds i (Open (k + 1))) (Close (i + 1) ∷ []) Other i low ∙ get_or-set_same folds i (Open (k + 1)) Other few in
      let bound : k + 1 ≤ length code = omega (arith, there) in
      subst (λ g. IsFold code i g) (sym is) (pending.1, past_is, bound)

  elsewhere : (q : ℕ) → q < k → q ≢ i → fold_at table q ≡ fold_at folds q
  elsewhere q l ne = get_or_append_left (set folds i (Open (k + 1))) (Close (i + 1) ∷ []) Other q (omega (arith, count_set)) ∙ get_or-set_other folds i q (Open (k + 1)) Other ne

  by_place : (q : ℕ) → q < k → (q ≡ i) ⊎ (q ≢ i) → IsFold code q (fold_at table q) ⊎ IsAmong q (reverse waiting)
  by_place q l (inl e) = inl (subst (λ j. IsFold code j (fold_at table j)) (sym e) at_start)
  by_place q l (inr ne) =
      subst (λ g. IsFold code q g ⊎ IsAmong q (reverse waiting)) (sym (elsewhere q l ne))
      (by_among q ne (fold_at folds q) (subst (λ is. IsFold code q (fold_at folds q) ⊎ IsAmong q is) (reversed_push waiting i) (p.each q l)))

  by_last : (q : ℕ) → (q < k) ⊎ (q ≡ k) → IsFold code q (fold_at table q) ⊎ IsAmong q (reverse waiting)
  by_last q (inl l) = by_place q l (same_or_not q i)
  by_last q (inr e) =
      let last : fold_at table k ≡ Close (i + 1) = get_or_push (set folds i (Open (k + 1))) (Close (i + 1)) Other k count_set in
      let bound : i + 1 ≤ length code = omega (arith, there, start_before) in
      inl (subst (λ j. IsFold code j (fold_at table j)) (sym e) (subst (λ g. IsFold code k g) (sym last) (closes, back_is, bound)))

  pub paired_close : ArePaired code (k + 1) table waiting
  paired_close = record {
    count = omega (arith, length_push (set folds i (Open (k + 1))) (Close (i + 1)), count_set);
    within = omega (arith, there);
    pending = open_less code i k (reverse waiting) closes pending;
    each = λ q l. by_last q (before_or_last q k l);
  }

pub none_open : (code : List Command) (k : ℕ) (folds : List Fold) (waiting : List ℕ) → length waiting ≡ 0 → IsBalanced code → slice_get code k ≡ Some CloseCommand → ArePaired code k folds waiting → ⊥
none_open code k folds waiting none balanced closes p =
    unbalanced code k balanced (subst (λ is. AreOpen code k (reverse is)) (nil_from_length waiting none) p.pending) closes

-- at the end
pub folds_done : (code : List Command) (folds : List Fold) (waiting : List ℕ) → IsBalanced code → ArePaired code (length code) folds waiting → AreFolds code (folds ++ Other ∷ [])
folds_done code folds waiting balanced p = record {
  count = length_push folds Other ∙ ap (λ n. n + 1) p.count;
  each = λ q l. by q (before_or_last q (length code) (omega (arith, length_push folds Other, p.count)));
} where
  none : length (reverse waiting) ≡ 0
  none = some_is (length (reverse waiting)) 0 (sym (open_depth code (length code) (reverse waiting) p.pending) ∙ (ap (depth_after 0) (take_all (length code) code (omega arith)) ∙ balanced))

  not_among : (q : ℕ) (is : List ℕ) → length is ≡ 0 → IsAmong q is → ⊥
  not_among q [] e among = among
  not_among q (i ∷ is) e among = omega (arith, e)

  settled : (q : ℕ) (f : Fold) → IsFold code q f ⊎ IsAmong q (reverse waiting) → IsFold code q f
  settled q f (inl is) = is
  settled q f (inr among) = absurd (not_among q (reverse waiting) none among)

  by : (q : ℕ) → (q < length code) ⊎ (q ≡ length code) → IsFold code q (fold_at (folds ++ Other ∷ []) q)
  by q (inl l) = subst (λ g. IsFold code q g) (sym (fold_push folds Other (length code) q p.count l)) (settled q (fold_at folds q) (p.each q l))
  by q (inr e) =
      let last : fold_at (folds ++ Other ∷ []) q ≡ Other = ap (fold_at (folds ++ Other ∷ [])) e ∙ get_or_push folds Other Other (length code) p.count in
      let end : slice_get code q ≡ None = none_past code q (omega (arith, e)) in
      subst (λ g. IsFold code q g) (sym last) (subst (λ o. IsPlain o) (sym end) tt)
