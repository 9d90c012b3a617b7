-- Marks and jumps, and how the dispatch finds a block.
use Rattle.std.proofs.Common.{◌≡◌, ℕ, zero, suc, ◌+◌, ◌*◌, ◌^◌, ◌<◌, ◌≤◌, min, Bool, true, false, cond, nat_eq, nat_lt, List, [], ◌∷◌, ◌++◌, length, drop, refl, sym, ap, ◌∙◌, arith, add-one, append_assoc}
use Rattle.std.specs.Prelude.{ℤ, pos, ◌-ℤ◌, int_lt}
use Rattle.std.proofs.lemmas.Bool.Decides.{nat_tests}
use Rattle.std.proofs.lemmas.Bool.{ltb-true, ltb-false}
use Rattle.std.proofs.lemmas.Int.{ints}
use Rattle.std.proofs.Math.Nat.{pow-succ'}
use Rattle.mach_core.specs.Sparse.{value_at, with_value}
use Rattle.mach_core.specs.Reaches.{Reaches}
use Rattle.mach_core.proofs.Reaching.{stays_there, and_then, one_step, looser}
use Rattle.word24.specs.Word.{number_of}
use Rattle.eir_core.specs.declared.ops.Operand.{Operand}
use Rattle.eir_core.specs.declared.ops.Operand.TheVariants.{Reg as register, Imm}
use Rattle.eir_core.specs.Eir.{Eir}
use Rattle.eir_core.specs.Memory.{Memory}
use Rattle.eir_core.specs.Step.{Regs, reg_of, value_of}
use Rattle.sim_trait.specs.Digits.{digit_count}
use Rattle.sim_trait.proofs.Digits.{digit_count-digits}
use Rattle.ws_lang.specs.Instruction.{Label, Instruction, Push, Retrieve, Subtract, Mark, Jump, JumpIfZero, JumpIfNegative}
use Rattle.mach_core.specs.Integer.{is_zero}
use Rattle.ws_lang.specs.Step.{Heap, Goes, place_of, ws_rule}
use Rattle.ws_back.specs.Code.{wanted, end_label, dispatch_label, branch_label, block_label, goal_label, target_code, target_label, blocks_code, end_code, branch_code, tree_code}
use Rattle.ws_back.specs.Related.{Holds, rest_of}
use Rattle.mach_core.proofs.Lists.{after_head, skipped}
use Rattle.std.proofs.lemmas.List.{drop_all}
use Rattle.ws_back.proofs.Straight.{config, at, one_quiet, Silent, seq, push, store, retrieve, difference}
use Rattle.ws_back.proofs.Heaps.{holds-wanted, at-wanted}
use Rattle.ws_back.proofs.Values.{value}
use Rattle.ws_back.proofs.Places.{Layout, leads}
use Rattle.ws_back.proofs.Lengths.{Within}

-- the heap with the number of the wanted block, where a register has it
abbrev pub with_wanted : Heap → Regs → Operand → Heap
with_wanted h r (register x) = with_value is_zero h wanted (pos (reg_of r x))
with_wanted h r (Imm w) = h

pub holds-target : (h : Heap) (r : Regs) (m : Memory) (v : Operand) → Holds h r m → Holds (with_wanted h r v) r m
holds-target h r m (register x) held = holds-wanted h r m (pos (reg_of r x)) held
holds-target h r m (Imm w) held = held

-- the most steps from where a jump leads to the block
abbrev pub arrival : ℕ → Operand → ℕ
arrival n (register r) = 6 * digit_count n + 2
arrival n (Imm w) = 0

-- a difference is below zero where the second number is greater
below_zero : (x y : ℕ) → int_lt (pos x -ℤ pos y) (pos 0) ≡ nat_lt x y
below_zero x y = grind (arith, ints, nat_tests)

module _ (code : List Instruction) (input : List ℕ) where
  -- straight code that stands at a place
  pub run_straight : {is : List Instruction} {h h' : Heap} {st st' : List ℤ} (most t : ℕ) (o : List ℕ) (k : ℕ) (rest : List Instruction) → Silent code input is h st h' st' → Within is most → drop k code ≡ is ++ rest
      → Reaches (ws_rule code) input (at h t o k st) (at h' t o (k + length is) st') 1 most
  run_straight {is = is} most t o k rest s w e = record { count = length is; enough = w.some; few = w.few; ends = s.runs k t o rest e }

  pub passes_mark : (h : Heap) (t : ℕ) (o : List ℕ) (k : ℕ) (st : List ℤ) (l : Label) (xs : List Instruction) → drop k code ≡ Mark l ∷ xs → Reaches (ws_rule code) input (at h t o k st) (at h t o (k + 1) st) 1 1
  passes_mark h t o k st l xs e = one_step (ws_rule code) input (at h t o k st) (at h t o (k + 1) st) (one_quiet code input h t o k st (Mark l) xs (config h (k + 1) st) e refl)

  pub jumps : (h : Heap) (t : ℕ) (o : List ℕ) (k : ℕ) (st : List ℤ) (l : Label) (xs : List Instruction) → drop k code ≡ Jump l ∷ xs → Reaches (ws_rule code) input (at h t o k st) (at h t o (place_of l code) st) 1 1
  jumps h t o k st l xs e = one_step (ws_rule code) input (at h t o k st) (at h t o (place_of l code) st) (one_quiet code input h t o k st (Jump l) xs (config h (place_of l code) st) e refl)

  chosen : (h : Heap) (j k : ℕ) (st : List ℤ) (b : Bool) → Goes (cond b (config h j st) (config h k st)) ≡ Goes (config h (cond b j k) st)
  chosen h j k st true = refl
  chosen h j k st false = refl

  pub jumps_if : (h : Heap) (t : ℕ) (o : List ℕ) (k : ℕ) (x : ℤ) (st : List ℤ) (l : Label) (xs : List Instruction) (b : Bool) → is_zero x ≡ b → drop k code ≡ JumpIfZero l ∷ xs
      → Reaches (ws_rule code) input (at h t o k (x ∷ st)) (at h t o (cond b (place_of l code) (k + 1)) st) 1 1
  jumps_if h t o k x st l xs b is e =
      let act = ap (λ b'. Goes (cond b' (config h (place_of l code) st) (config h (k + 1) st))) is ∙ chosen h (place_of l code) (k + 1) st b in
      one_step (ws_rule code) input (at h t o k (x ∷ st)) (at h t o (cond b (place_of l code) (k + 1)) st)
      (one_quiet code input h t o k (x ∷ st) (JumpIfZero l) xs (config h (cond b (place_of l code) (k + 1)) st) e act)

  pub jumps_if_negative : (h : Heap) (t : ℕ) (o : List ℕ) (k : ℕ) (x : ℤ) (st : List ℤ) (l : Label) (xs : List Instruction) (b : Bool) → int_lt x (pos 0) ≡ b → drop k code ≡ JumpIfNegative l ∷ xs
      → Reaches (ws_rule code) input (at h t o k (x ∷ st)) (at h t o (cond b (place_of l code) (k + 1)) st) 1 1
  jumps_if_negative h t o k x st l xs b is e =
      let act = ap (λ b'. Goes (cond b' (config h (place_of l code) st) (config h (k + 1) st))) is ∙ chosen h (place_of l code) (k + 1) st b in
      one_step (ws_rule code) input (at h t o k (x ∷ st)) (at h t o (cond b (place_of l code) (k + 1)) st)
      (one_quiet code input h t o k (x ∷ st) (JumpIfNegative l) xs (config h (cond b (place_of l code) (k + 1)) st) e act)

  -- stores the number of the wanted block, where a register has it
  pub targets : (h : Heap) (r : Regs) (m : Memory) → Holds h r m → (v : Operand) (st : List ℤ) → Silent code input (target_code v) h st (with_wanted h r v) st
  targets h r m held (register x) st = seq (push code input wanted h st) (seq (value code input h r m held (register x) (wanted ∷ st)) (store code input h wanted (pos (reg_of r x)) st))
  targets h r m held (Imm w) st = record { runs = λ k t o rest e. ap (λ j. at h t o j st) (stays k) }
    where
      stays : (k : ℕ) → k ≡ k + 0
      stays k = omega arith

module _ (p : Eir) (code : List Instruction) (layout : Layout p code) (input : List ℕ) where
  abbrev count : ℕ
  count = length p.blocks

  -- from a moment to the front of a block
  pub record Lands (h : Heap) (t : ℕ) (o : List ℕ) (k n most : ℕ) : Type 0 where
    pub place : ℕ
    pub reached : Reaches (ws_rule code) input (at h t o k []) (at h t o place []) 0 most
    pub ahead : drop place code ≡ rest_of p n 0

  -- behind the last block there is the end
  pub rest_ended : (k : ℕ) → count ≤ k → rest_of p k 0 ≡ end_code
  rest_ended k h = ap (λ bs. blocks_code count k bs ++ end_code) (drop_all k p.blocks h)

  pub ahead_of_goal : (k : ℕ) → drop (place_of (goal_label count k) code) code ≡ rest_of p k 0
  ahead_of_goal k = elim (nat_lt k count) as (λ b. nat_lt k count ≡ b → drop (place_of (cond b (block_label k) end_label) code) code ≡ rest_of p k 0) [
    | true ↦ λ e. layout.to_block k (ltb-true k count e)
    | false ↦ λ e. layout.to_end ∙ sym (rest_ended k (ltb-false k count e))
  ] refl

  -- from the number of blocks on each number leads to the end
  rest_capped : (v : ℕ) → rest_of p (min v count) 0 ≡ rest_of p v 0
  rest_capped v = elim (nat_lt v count) as (λ b. nat_lt v count ≡ b → rest_of p (min v count) 0 ≡ rest_of p v 0) [
    | true ↦ λ e. let lt : v < count = ltb-true v count e in let same : min v count ≡ v = omega arith in ap (λ k. rest_of p k 0) same
    | false ↦ λ e.
        let le : count ≤ v = ltb-false v count e in
        let same : min v count ≡ count = omega arith in
        ap (λ k. rest_of p k 0) same ∙ (rest_ended count (omega arith) ∙ sym (rest_ended v le))
  ] refl

  -- the same from an earlier moment on
  earlier : (h : Heap) (t : ℕ) (o : List ℕ) (k j n a b most : ℕ) → Reaches (ws_rule code) input (at h t o k []) (at h t o j []) a b → Lands h t o j n most → (most' : ℕ) → b + most ≤ most' → Lands h t o k n most'
  earlier h t o k j n a b most r go most' le = record { place = go.place; reached = and_then 0 most' r go.reached (omega arith) le; ahead = go.ahead }

  -- a comparison with the number in the middle
  compares : (h : Heap) (t : ℕ) (o : List ℕ) (v middle k : ℕ) (xs : List Instruction) (b : Bool) → value_at (pos 0) h wanted ≡ pos v → v < 2 ^ 24 → middle < 2 ^ 63 → nat_lt v middle ≡ b → drop k code ≡ branch_code middle ++ xs
      → Reaches (ws_rule code) input (at h t o k []) (at h t o (cond b (place_of (branch_label middle) code) (k + 4 + 1)) []) 1 5
  compares h t o v middle k xs b is small fits test e =
      let row : List Instruction = Push wanted ∷ Retrieve ∷ Push (pos middle) ∷ Subtract ∷ [] in
      let next : List Instruction = JumpIfNegative (branch_label middle) ∷ xs in
      let run : Silent code input row h [] h ((pos v -ℤ pos middle) ∷ []) =
      seq (push code input wanted h []) (seq (retrieve code input h wanted (pos v) [] is) (seq (push code input (pos middle) h (pos v ∷ [])) (difference code input h v middle [] (omega arith) fits))) in
      let first = run_straight code input 4 t o k next run (record { some = omega arith; few = omega arith }) e in
      let there : drop (k + 4) code ≡ next = skipped code k row next e in
      and_then 1 5 first (jumps_if_negative code input h t o (k + 4) (pos v -ℤ pos middle) [] (branch_label middle) xs b (below_zero v middle ∙ test) there) (omega arith) (omega arith)

  -- the tree from a number on
  tree : (h : Heap) (t : ℕ) (o : List ℕ) (v : ℕ) → value_at (pos 0) h wanted ≡ pos v → v < 2 ^ 24 → (depth low k : ℕ) (xs : List Instruction) → low ≤ min v count → min v count < low + 2 ^ depth
      → drop k code ≡ tree_code count depth low ++ xs → Lands h t o k v (6 * depth + 1)
  tree h t o v is small zero low k xs above below e =
      let here : low ≡ min v count = omega arith in record {
        place = place_of (goal_label count low) code;
        reached = looser 0 (6 * 0 + 1) (jumps code input h t o k [] (goal_label count low) xs e) (omega arith) (omega arith);
        ahead = ahead_of_goal low ∙ (ap (λ j. rest_of p j 0) here ∙ rest_capped v);
      }
  tree h t o v is small (suc depth) low k xs above below e =
      let middle = low + 2 ^ depth in
      let upper = tree_code count depth middle in
      let lower = tree_code count depth low in
      let inner : List Instruction = upper ++ Mark (branch_label middle) ∷ lower in
      let p' : 2 ^ suc depth ≡ 2 * 2 ^ depth = pow-succ' 2 depth in
      elim (nat_lt count middle) as (λ b. nat_lt count middle ≡ b → drop k code ≡ cond b lower (branch_code middle ++ inner) ++ xs → Lands h t o k v (6 * suc depth + 1)) [
        | true ↦ λ y e'.
            let lt : count < middle = ltb-true count middle y in
            let stays = stays_there (ws_rule code) input (at h t o k []) in
            earlier h t o k k v 0 0 (6 * depth + 1) stays (tree h t o v is small depth low k xs above (omega arith) e') (6 * suc depth + 1) (omega arith)
        | false ↦ λ y e'.
            let le : middle ≤ count = ltb-false count middle y in
            let few = layout.few in
            let there : drop k code ≡ branch_code middle ++ (inner ++ xs) = e' ∙ append_assoc (branch_code middle) inner xs in
            let marked : List Instruction = Mark (branch_label middle) ∷ (lower ++ xs) in
            let behind : drop (k + 5) code ≡ upper ++ marked = skipped code k (branch_code middle) (inner ++ xs) there ∙ append_assoc upper (Mark (branch_label middle) ∷ lower) xs in
            let same : k + 5 ≡ k + 4 + 1 = omega arith in
            let at_mark : drop (k + 5 + length upper) code ≡ marked = skipped code (k + 5) upper marked behind in
            elim (nat_lt v middle) as (λ b. nat_lt v middle ≡ b → Lands h t o k v (6 * suc depth + 1)) [
              | true ↦ λ z.
                  let lt : v < middle = ltb-true v middle z in
                  let j = place_of (branch_label middle) code in
                  let found : drop j code ≡ marked = leads code (branch_label middle) (k + 5 + length upper) (lower ++ xs) layout.once at_mark in
                  let next : drop (j + 1) code ≡ lower ++ xs = ap (λ i. drop i code) (add-one j) ∙ after_head code j (Mark (branch_label middle)) (lower ++ xs) found in
                  let first = compares h t o v middle k (inner ++ xs) true is small (omega arith) z there in
                  let both = and_then 0 6 first (passes_mark code input h t o j [] (branch_label middle) (lower ++ xs) found) (omega arith) (omega arith) in
                  earlier h t o k (j + 1) v 0 6 (6 * depth + 1) both (tree h t o v is small depth low (j + 1) xs above (omega arith) next) (6 * suc depth + 1) (omega arith)
              | false ↦ λ z.
                  let ge : middle ≤ v = ltb-false v middle z in
                  let first = compares h t o v middle k (inner ++ xs) false is small (omega arith) z there in
                  earlier h t o k (k + 4 + 1) v 1 5 (6 * depth + 1) first (tree h t o v is small depth middle (k + 4 + 1) marked (omega arith) (omega arith) (ap (λ i. drop i code) (sym same) ∙ behind)) (6 * suc depth + 1) (omega arith)
            ] refl
      ] refl e

  -- the dispatch goes to the wanted block
  dispatches : (h : Heap) (t : ℕ) (o : List ℕ) (v : ℕ) → value_at (pos 0) h wanted ≡ pos v → v < 2 ^ 24 → Lands h t o (place_of dispatch_label code) v (6 * digit_count count + 2)
  dispatches h t o v is small =
      let k = place_of dispatch_label code in
      let depth = digit_count count in
      let next : List Instruction = tree_code count depth 0 ++ layout.after_dispatch in
      let behind : drop (k + 1) code ≡ next = ap (λ i. drop i code) (add-one k) ∙ after_head code k (Mark dispatch_label) next layout.to_dispatch in
      let enough = (digit_count-digits count).enough in
      let go = tree h t o v is small depth 0 (k + 1) layout.after_dispatch (omega arith) (omega arith) behind in
      earlier h t o k (k + 1) v 1 1 (6 * depth + 1) (passes_mark code input h t o k [] dispatch_label next layout.to_dispatch) go (6 * depth + 2) (omega arith)

  -- from where a jump leads to the block
  pub lands : (h : Heap) (t : ℕ) (o : List ℕ) (r : Regs) (v : Operand) → value_of r v < 2 ^ 24 → Lands (with_wanted h r v) t o (place_of (target_label count v) code) (value_of r v) (arrival count v)
  lands h t o r (register x) small = dispatches (with_wanted h r (register x)) t o (reg_of r x) (at-wanted h (pos (reg_of r x))) small
  lands h t o r (Imm w) small = record {
    place = place_of (goal_label count (number_of w)) code;
    reached = stays_there (ws_rule code) input (at h t o (place_of (goal_label count (number_of w)) code) []);
    ahead = ahead_of_goal (number_of w);
  }
