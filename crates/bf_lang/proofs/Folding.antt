-- Many commands in one go.
use Rattle.std.proofs.Common.{◌≡◌, ◌⊎◌, inl, inr, ℕ, zero, suc, ◌+◌, ◌*◌, ◌%◌, ◌^◌, ◌<◌, true, false, cond, nat_eq, nat_lt, List, [], ◌∷◌, ◌++◌, length, drop, get_or, set, Some, slice_get, refl, sym, ap, ◌∙◌, subst, arith, add-zero}
use Rattle.std.proofs.lemmas.List.{set-set, set-get_or, get_or-set_same, length-set}
use Rattle.std.proofs.lemmas.Option.{slice_get_within}
use Rattle.mach_core.specs.declared.machine.Status.TheVariants.{Going, Ended}
use Rattle.mach_core.specs.Rule.{Rule, Moment, run_from}
use Rattle.mach_core.specs.Silent.{StepsSilently}
use Rattle.mach_core.proofs.Runs.{run_from-add}
use Rattle.mach_core.proofs.Silently.{silent_none, silent_more}
use Rattle.mach_core.proofs.Lists.{next_is}
use Rattle.bf_lang.specs.declared.command.Command.{Command}
use Rattle.bf_lang.specs.declared.command.Command.TheVariants.{Right, Left, Plus, Minus, Open, Close}
use Rattle.bf_lang.specs.Cells.{raised, lowered}
use Rattle.bf_lang.specs.Step.{Config, after, takes, bytes_of, with_here, here, open_before, bf_rule}
use Rattle.bf_lang.specs.StateInside.{config_at}
use Rattle.bf_lang.specs.Fold.{IsClear, past_partner}
use Rattle.bf_lang.proofs.TapeCells.{cell_tape, tape_set}
use Rattle.bf_lang.proofs.Partners.{close_of_loop, open_of_loop}

before_or_from : (k n : ℕ) → (k < n) ⊎ ((j : ℕ) × (k ≡ n + j))
before_or_from k zero = inr (k, omega arith)
before_or_from k (suc n) = by (before_or_from k n) where
  by : (k < n) ⊎ ((j : ℕ) × (k ≡ n + j)) → (k < suc n) ⊎ ((j : ℕ) × (k ≡ suc n + j))
  by (inl l) = inl (omega arith)
  by (inr (zero, e)) = inl (omega arith)
  by (inr (suc j, e)) = inr (j, omega arith)

-- silent steps, and then others
pub silent_then : {C : Type 0} (rule : Rule C) (a b c : C) (n m : ℕ) → StepsSilently rule a n b → StepsSilently rule b m c → StepsSilently rule a (n + m) c
silent_then {C} rule a b c n m s t = record {
  lead = λ input now at. run_from-add rule input now n m ∙ (ap (λ x. run_from rule input x m) (s.lead input now at) ∙ t.lead input (record { config = b; taken = now.taken; output = now.output }) refl);
  going = λ input now k at below. by input now k at below (before_or_from k n);
} where
  by : (input : List ℕ) (now : Moment C) (k : ℕ) → now.config ≡ a → k < n + m → (k < n) ⊎ ((j : ℕ) × (k ≡ n + j)) → rule.standing (run_from rule input now k).config ≡ Going
  by input now k at below (inl l) = s.going input now k at l
  by input now k at below (inr (j, e)) =
      let less : j < m = omega arith in
      ap (λ x. rule.standing x.config) (ap (run_from rule input now) e ∙ (run_from-add rule input now n j ∙ ap (λ x. run_from rule input x j) (s.lead input now at)))
      ∙ t.going input (record { config = b; taken = now.taken; output = now.output }) j refl less

pub silent_is : {C : Type 0} (rule : Rule C) (a b b' : C) (n n' : ℕ) → n ≡ n' → b ≡ b' → StepsSilently rule a n b → StepsSilently rule a n' b'
silent_is rule a b b' n n' e f s = subst (λ k. StepsSilently rule a k b') e (subst (λ x. StepsSilently rule a n x) f s)

module _ (code : List Command) where
  -- one more command
  one_more : (old : Config) (n k h : ℕ) (xs : List ℕ) (c : Command) (next : Config) → StepsSilently (bf_rule code) old n (config_at k h xs) → slice_get code k ≡ Some c
      → takes (Some c) ≡ false → bytes_of (Some c) (config_at k h xs) ≡ [] → after code (config_at k h xs) (Some c) 0 ≡ next → StepsSilently (bf_rule code) old (n + 1) next
  one_more old n k h xs c next s at t b a =
      let within : k < length code = slice_get_within code k c at in
      let test : nat_lt k (length code) ≡ true = grind arith in
      silent_more (bf_rule code) old (config_at k h xs) next n s
      (ap (λ x. cond x Going Ended) test)
      (ap takes at ∙ t)
      (ap (λ o. bytes_of o (config_at k h xs)) at ∙ b)
      (ap (λ o. after code (config_at k h xs) o 0) at ∙ a)

  pub none : (k h : ℕ) (xs : List ℕ) → StepsSilently (bf_rule code) (config_at k h xs) 0 (config_at k h xs)
  none k h xs = silent_none (bf_rule code) (config_at k h xs)

  -- a row of `>`
  pub row_right : (k n h : ℕ) (xs : List ℕ) → ((j : ℕ) → j < n → slice_get code (k + j) ≡ Some Right) → StepsSilently (bf_rule code) (config_at k h xs) n (config_at (k + n) (h + n) xs)
  row_right k zero h xs each = silent_is (bf_rule code) (config_at k h xs) (config_at k h xs) (config_at (k + 0) (h + 0) xs) 0 0 refl (λ i. config_at (sym (add-zero k) i) (sym (add-zero h) i) xs) (none k h xs)
  row_right k (suc n) h xs each =
      let old = config_at k h xs in
      let s = row_right k n h xs (λ j l. each j (omega arith)) in
      let last : n < suc n = omega arith in
      let count : n + 1 ≡ suc n = omega arith in
      let place : k + n + 1 ≡ k + suc n = omega arith in
      let head : h + n + 1 ≡ h + suc n = omega arith in
      silent_is (bf_rule code) old (config_at (k + n + 1) (h + n + 1) xs) (config_at (k + suc n) (h + suc n) xs) (n + 1) (suc n) count (λ i. config_at (place i) (head i) xs)
      (one_more old n (k + n) (h + n) xs Right (config_at (k + n + 1) (h + n + 1) xs) s (each n last) refl refl refl)

  -- a row of `<`
  pub row_left : (k n h : ℕ) (xs : List ℕ) → ((j : ℕ) → j < n → slice_get code (k + j) ≡ Some Left) → StepsSilently (bf_rule code) (config_at k (h + n) xs) n (config_at (k + n) h xs)
  row_left k zero h xs each = silent_is (bf_rule code) (config_at k (h + 0) xs) (config_at k (h + 0) xs) (config_at (k + 0) h xs) 0 0 refl (λ i. config_at (sym (add-zero k) i) (add-zero h i) xs) (none k (h + 0) xs)
  row_left k (suc n) h xs each =
      let head : suc h + n ≡ h + suc n = omega arith in
      let s = subst (λ g. StepsSilently (bf_rule code) (config_at k g xs) n (config_at (k + n) (suc h) xs)) head (row_left k n (suc h) xs (λ j l. each j (omega arith))) in
      let old = config_at k (h + suc n) xs in
      let last : n < suc n = omega arith in
      let count : n + 1 ≡ suc n = omega arith in
      let place : k + n + 1 ≡ k + suc n = omega arith in
      silent_is (bf_rule code) old (config_at (k + n + 1) h xs) (config_at (k + suc n) h xs) (n + 1) (suc n) count (λ i. config_at (place i) h xs)
      (one_more old n (k + n) (suc h) xs Left (config_at (k + n + 1) h xs) s (each n last) refl refl refl)

  -- a number made so often of another
  abbrev pub again : (ℕ → ℕ) → ℕ → ℕ → ℕ
  again f zero x = x
  again f (suc n) x = f (again f n x)

  -- the command makes another number of the cell under the head
  record Makes (c : Command) (f : ℕ → ℕ) : Type 0 where
    quiet : takes (Some c) ≡ false
    silent : (s : Config) → bytes_of (Some c) s ≡ []
    makes : (s : Config) → after code s (Some c) 0 ≡ with_here s (f (here s))

  made : (h k v : ℕ) (xs : List ℕ) → h < length xs → with_here (config_at k h xs) v ≡ config_at (k + 1) h (set xs h v)
  made h k v xs l i = record { place = k + 1; head = h; cells = tape_set xs h v l i; fell = false }

  row_cell : (c : Command) (f : ℕ → ℕ) → Makes c f → (k n h : ℕ) (xs : List ℕ) → h < length xs → ((j : ℕ) → j < n → slice_get code (k + j) ≡ Some c)
      → StepsSilently (bf_rule code) (config_at k h xs) n (config_at (k + n) h (set xs h (again f n (get_or xs h 0))))
  row_cell c f is k zero h xs l each =
      silent_is (bf_rule code) (config_at k h xs) (config_at k h xs) (config_at (k + 0) h (set xs h (get_or xs h 0))) 0 0 refl (λ i. config_at (sym (add-zero k) i) h (sym (set-get_or xs h 0) i)) (none k h xs)
  row_cell c f is k (suc n) h xs l each =
      let old = config_at k h xs in
      let x = again f n (get_or xs h 0) in
      let ys = set xs h x in
      let s = row_cell c f is k n h xs l (λ j m. each j (omega arith)) in
      let last : n < suc n = omega arith in
      let count : n + 1 ≡ suc n = omega arith in
      let place : k + n + 1 ≡ k + suc n = omega arith in
      let long : h < length ys = omega (arith, length-set xs h x) in
      let value : here (config_at (k + n) h ys) ≡ x = cell_tape ys h ∙ get_or-set_same xs h x 0 l in
      let next : after code (config_at (k + n) h ys) (Some c) 0 ≡ config_at (k + suc n) h (set xs h (f x)) =
      is.makes (config_at (k + n) h ys) ∙ (ap (λ v. with_here (config_at (k + n) h ys) (f v)) value
      ∙ (made h (k + n) (f x) ys long ∙ (λ i. config_at (place i) h (set-set xs h x (f x) i)))) in
      silent_is (bf_rule code) old (config_at (k + suc n) h (set xs h (f x))) (config_at (k + suc n) h (set xs h (f x))) (n + 1) (suc n) count refl
      (one_more old n (k + n) h ys c (config_at (k + suc n) h (set xs h (f x))) s (each n last) is.quiet (is.silent (config_at (k + n) h ys)) next)

  plus_makes : Makes Plus raised
  plus_makes = record { quiet = refl; silent = λ s. refl; makes = λ s. refl }

  minus_makes : Makes Minus lowered
  minus_makes = record { quiet = refl; silent = λ s. refl; makes = λ s. refl }

  again_raised : (n x : ℕ) → x < 2 ^ 8 → again raised n x ≡ (x + n) % 2 ^ 8
  again_raised zero x lt = omega arith
  again_raised (suc n) x lt = ap raised (again_raised n x lt) ∙ omega arith

  lowered_is : (v : ℕ) → v < 2 ^ 8 → lowered v ≡ (v + 255) % 2 ^ 8
  lowered_is zero lt = refl
  lowered_is (suc n) lt = omega arith

  again_lowered : (n x : ℕ) → x < 2 ^ 8 → again lowered n x ≡ (x + 255 * n) % 2 ^ 8
  again_lowered zero x lt = omega arith
  again_lowered (suc n) x lt = ap lowered (again_lowered n x lt) ∙ (lowered_is ((x + 255 * n) % 2 ^ 8) (omega arith) ∙ omega arith)

  pub row_plus : (k n h v : ℕ) (xs : List ℕ) → h < length xs → get_or xs h 0 < 2 ^ 8 → v ≡ (get_or xs h 0 + n) % 2 ^ 8 → ((j : ℕ) → j < n → slice_get code (k + j) ≡ Some Plus)
      → StepsSilently (bf_rule code) (config_at k h xs) n (config_at (k + n) h (set xs h v))
  row_plus k n h v xs l small is each =
      subst (λ w. StepsSilently (bf_rule code) (config_at k h xs) n (config_at (k + n) h (set xs h w))) (again_raised n (get_or xs h 0) small ∙ sym is) (row_cell Plus raised plus_makes k n h xs l each)

  pub row_minus : (k n h v : ℕ) (xs : List ℕ) → h < length xs → get_or xs h 0 < 2 ^ 8 → v ≡ (get_or xs h 0 + 255 * n) % 2 ^ 8 → ((j : ℕ) → j < n → slice_get code (k + j) ≡ Some Minus)
      → StepsSilently (bf_rule code) (config_at k h xs) n (config_at (k + n) h (set xs h v))
  row_minus k n h v xs l small is each =
      subst (λ w. StepsSilently (bf_rule code) (config_at k h xs) n (config_at (k + n) h (set xs h w))) (again_lowered n (get_or xs h 0) small ∙ sym is) (row_cell Minus lowered minus_makes k n h xs l each)

  -- a `[`
  pub jump_open : (k h to : ℕ) (xs : List ℕ) → slice_get code k ≡ Some Open → to ≡ past_partner code k → StepsSilently (bf_rule code) (config_at k h xs) 1 (config_at (cond (nat_eq (get_or xs h 0) 0) to (k + 1)) h xs)
  jump_open k h to xs at is =
      let next : after code (config_at k h xs) (Some Open) 0 ≡ config_at (cond (nat_eq (get_or xs h 0) 0) to (k + 1)) h xs = λ i. config_at (cond (nat_eq (cell_tape xs h i) 0) (sym is i) (k + 1)) h xs in
      one_more (config_at k h xs) 0 k h xs Open (config_at (cond (nat_eq (get_or xs h 0) 0) to (k + 1)) h xs) (none k h xs) at refl refl next

  -- a `]`
  pub jump_close : (k h to : ℕ) (xs : List ℕ) → slice_get code k ≡ Some Close → to ≡ open_before code k 0 → StepsSilently (bf_rule code) (config_at k h xs) 1 (config_at (cond (nat_eq (get_or xs h 0) 0) (k + 1) to) h xs)
  jump_close k h to xs at is =
      let next : after code (config_at k h xs) (Some Close) 0 ≡ config_at (cond (nat_eq (get_or xs h 0) 0) (k + 1) to) h xs = λ i. config_at (cond (nat_eq (cell_tape xs h i) 0) (k + 1) (sym is i)) h xs in
      one_more (config_at k h xs) 0 k h xs Close (config_at (cond (nat_eq (get_or xs h 0) 0) (k + 1) to) h xs) (none k h xs) at refl refl next

  -- the loop `[-]`
  module _ (k h : ℕ) (clear : IsClear code k) where
    loop_at : drop k code ≡ Open ∷ ((Minus ∷ []) ++ Close ∷ drop (k + 3) code)
    loop_at =
        let one : suc k ≡ k + 1 = omega arith in
        let two : suc (k + 1) ≡ k + 2 = omega arith in
        let three : suc (k + 2) ≡ k + 3 = omega arith in
        next_is code k Open clear.opens
        ∙ ap (λ xs. Open ∷ xs) (ap (λ j. drop j code) one ∙ (next_is code (k + 1) Minus clear.counts
        ∙ ap (λ xs. Minus ∷ xs) (ap (λ j. drop j code) two ∙ (next_is code (k + 2) Close clear.closes
        ∙ ap (λ xs. Close ∷ xs) (ap (λ j. drop j code) three)))))

    pub past_is : k + 3 ≡ past_partner code k
    past_is = omega (arith, close_of_loop code (Minus ∷ []) (drop (k + 3) code) k refl loop_at)

    back_is : k + 1 ≡ open_before code (k + 2) 0
    back_is =
        let e : k + 1 + 1 ≡ k + 2 = omega arith in
        sym (ap (λ j. open_before code j 0) (sym e) ∙ open_of_loop code (Minus ∷ []) (drop (k + 3) code) k refl loop_at)

    -- one turn, from behind its `[`
    one_turn : (n : ℕ) (xs : List ℕ) → h < length xs → StepsSilently (bf_rule code) (config_at (k + 1) h (set xs h (suc n))) 2 (config_at (cond (nat_eq n 0) (k + 3) (k + 1)) h (set xs h n))
    one_turn n xs l =
        let s0 = config_at (k + 1) h (set xs h (suc n)) in
        let long : h < length (set xs h (suc n)) = omega (arith, length-set xs h (suc n)) in
        let two : k + 1 + 1 ≡ k + 2 = omega arith in
        let three : k + 2 + 1 ≡ k + 3 = omega arith in
        let value : here s0 ≡ suc n = cell_tape (set xs h (suc n)) h ∙ get_or-set_same xs h (suc n) 0 l in
        let less : after code s0 (Some Minus) 0 ≡ config_at (k + 2) h (set xs h n) =
        ap (λ v. with_here s0 (lowered v)) value ∙ (made h (k + 1) n (set xs h (suc n)) long ∙ (λ i. config_at (two i) h (set-set xs h (suc n) n i))) in
        let first : StepsSilently (bf_rule code) s0 1 (config_at (k + 2) h (set xs h n)) = one_more s0 0 (k + 1) h (set xs h (suc n)) Minus (config_at (k + 2) h (set xs h n)) (none (k + 1) h (set xs h (suc n))) clear.counts refl refl less in
        let jump = jump_close (k + 2) h (k + 1) (set xs h n) clear.closes back_is in
        let got : get_or (set xs h n) h 0 ≡ n = get_or-set_same xs h n 0 l in
        silent_is (bf_rule code) s0 (config_at (cond (nat_eq (get_or (set xs h n) h 0) 0) (k + 2 + 1) (k + 1)) h (set xs h n)) (config_at (cond (nat_eq n 0) (k + 3) (k + 1)) h (set xs h n)) 2 2 refl
        (λ i. config_at (cond (nat_eq (got i) 0) (three i) (k + 1)) h (set xs h n))
        (silent_then (bf_rule code) s0 (config_at (k + 2) h (set xs h n)) (config_at (cond (nat_eq (get_or (set xs h n) h 0) 0) (k + 2 + 1) (k + 1)) h (set xs h n)) 1 1 first jump)

    -- all turns
    clear_turns : (n : ℕ) (xs : List ℕ) → h < length xs → StepsSilently (bf_rule code) (config_at (k + 1) h (set xs h (suc n))) (2 * (n + 1)) (config_at (k + 3) h (set xs h 0))
    clear_turns zero xs l = one_turn zero xs l
    clear_turns (suc m) xs l =
        let test : nat_eq (suc m) 0 ≡ false = grind arith in
        let count : 2 + 2 * (m + 1) ≡ 2 * (suc m + 1) = omega arith in
        let s0 = config_at (k + 1) h (set xs h (suc (suc m))) in
        let one = subst (λ b. StepsSilently (bf_rule code) s0 2 (config_at (cond b (k + 3) (k + 1)) h (set xs h (suc m)))) test (one_turn (suc m) xs l) in
        silent_is (bf_rule code) s0 (config_at (k + 3) h (set xs h 0)) (config_at (k + 3) h (set xs h 0)) (2 + 2 * (m + 1)) (2 * (suc m + 1)) count refl
        (silent_then (bf_rule code) s0 (config_at (k + 1) h (set xs h (suc m))) (config_at (k + 3) h (set xs h 0)) 2 (2 * (m + 1)) one (clear_turns m xs l))

    pub clear_all : (x : ℕ) (xs : List ℕ) → h < length xs → get_or xs h 0 ≡ x → StepsSilently (bf_rule code) (config_at k h xs) (cond (nat_eq x 0) 1 (2 * x + 1)) (config_at (k + 3) h (set xs h 0))
    clear_all zero xs l e =
        let same : xs ≡ set xs h 0 = sym (set-get_or xs h 0) ∙ ap (set xs h) e in
        silent_is (bf_rule code) (config_at k h xs) (config_at (cond (nat_eq (get_or xs h 0) 0) (k + 3) (k + 1)) h xs) (config_at (k + 3) h (set xs h 0)) 1 1 refl
        (λ i. config_at (cond (nat_eq (e i) 0) (k + 3) (k + 1)) h (same i)) (jump_open k h (k + 3) xs clear.opens past_is)
    clear_all (suc n) xs l e =
        let test : nat_eq (suc n) 0 ≡ false = grind arith in
        let same : xs ≡ set xs h (suc n) = sym (set-get_or xs h 0) ∙ ap (set xs h) e in
        let first : StepsSilently (bf_rule code) (config_at k h xs) 1 (config_at (k + 1) h (set xs h (suc n))) =
        silent_is (bf_rule code) (config_at k h xs) (config_at (cond (nat_eq (get_or xs h 0) 0) (k + 3) (k + 1)) h xs) (config_at (k + 1) h (set xs h (suc n))) 1 1 refl
        ((λ i. config_at (cond (nat_eq (e i) 0) (k + 3) (k + 1)) h (same i)) ∙ ap (λ b. config_at (cond b (k + 3) (k + 1)) h (set xs h (suc n))) test) (jump_open k h (k + 3) xs clear.opens past_is) in
        let count : 1 + 2 * (n + 1) ≡ cond (nat_eq (suc n) 0) 1 (2 * suc n + 1) = omega arith ∙ sym (ap (λ b. cond b 1 (2 * suc n + 1)) test) in
        silent_is (bf_rule code) (config_at k h xs) (config_at (k + 3) h (set xs h 0)) (config_at (k + 3) h (set xs h 0)) (1 + 2 * (n + 1)) (cond (nat_eq (suc n) 0) 1 (2 * suc n + 1)) count refl
        (silent_then (bf_rule code) (config_at k h xs) (config_at (k + 1) h (set xs h (suc n))) (config_at (k + 3) h (set xs h 0)) 1 (2 * (n + 1)) first (clear_turns n xs l))
