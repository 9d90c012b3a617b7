-- Code without marks and jumps, one instruction after the other.
use Rattle.std.proofs.Common.{◌≡◌, ℕ, ◌+◌, ◌-◌, ◌*◌, ◌/◌, ◌^◌, ◌<◌, ◌≤◌, true, false, cond, nat_lt, List, [], ◌∷◌, ◌++◌, length, drop, None, refl, ap, ◌∙◌, arith, append-nil, append_assoc, length-append}
use Rattle.std.specs.Prelude.{ℤ, pos, negsuc, ◌+ℤ◌, ◌-ℤ◌, ◌*ℤ◌}
use Rattle.std.proofs.lemmas.Int.{ints}
use Rattle.std.proofs.lemmas.Bool.{lt-ltb, ltb-true, ltb-false}
use Rattle.mach_core.specs.declared.machine.Status.TheVariants.{Going, Fault}
use Rattle.mach_core.specs.Sparse.{value_at, with_value}
use Rattle.word24.specs.Word.{sum_word, difference_word}
use Rattle.mach_core.specs.Rule.{Moment, applied, run_from, input_at}
use Rattle.mach_core.proofs.Runs.{applied-going, run_from-add}
use Rattle.ws_lang.specs.Instruction.{Instruction, Push, Add, Subtract, Multiply, Divide, Modulo, Store, Retrieve}
use Rattle.mach_core.specs.Integer.{is_in_range, is_zero, floor_quotient, floor_remainder}
use Rattle.ws_lang.specs.Step.{Heap, Config, Act, Goes, Fails, act_of, act_at, is_taking, outcome, bytes_of, computed, onward, ws_rule}
use Rattle.mach_core.proofs.Lists.{at_head, inside, skipped}

-- a configuration that goes on, with nothing else under way
abbrev pub config : Heap → ℕ → List ℤ → Config
config h k st = record { place = k; stack = st; heap = h; returns = []; reading = None; status = Going }

abbrev pub at : Heap → ℕ → List ℕ → ℕ → List ℤ → Moment Config
at h t o k st = record { config = config h k st; taken = t; output = o }

-- what an act makes of a moment
abbrev pub moved : List ℕ → Config → ℕ → List ℕ → Act → Moment Config
moved input c t o a = record { config = outcome c a (cond (is_taking a) (input_at input t) 0); taken = cond (is_taking a) (t + 1) t; output = o ++ bytes_of a }

-- one instruction
pub one_instruction : (code : List Instruction) (input : List ℕ) (h : Heap) (t : ℕ) (o : List ℕ) (k : ℕ) (st : List ℤ) (x : Instruction) (xs : List Instruction) → drop k code ≡ x ∷ xs
    → applied (ws_rule code) input (at h t o k st) ≡ moved input (config h k st) t o (act_of code (config h k st) x)
one_instruction code input h t o k st x xs e =
    let going : (ws_rule code).standing (config h k st) ≡ Going = ap (λ b. cond b Going (Fault 4)) (lt-ltb k (length code) (inside code k x xs e)) in
    applied-going (ws_rule code) input (at h t o k st) going ∙ ap (λ i. moved input (config h k st) t o (act_at code (config h k st) i)) (at_head code k x xs e)

-- one that goes on quietly
pub one_quiet : (code : List Instruction) (input : List ℕ) (h : Heap) (t : ℕ) (o : List ℕ) (k : ℕ) (st : List ℤ) (x : Instruction) (xs : List Instruction) (d : Config) → drop k code ≡ x ∷ xs
    → act_of code (config h k st) x ≡ Goes d → applied (ws_rule code) input (at h t o k st) ≡ record { config = d; taken = t; output = o }
one_quiet code input h t o k st x xs d e is =
    one_instruction code input h t o k st x xs e
    ∙ (ap (λ a. moved input (config h k st) t o a) is
    ∙ ap (λ (out : List ℕ). record { config = d; taken = t; output = out }) (append-nil o))

-- wherever these instructions stand, they make this heap and stack of that heap and stack, and go on behind themselves
pub record Silent (code : List Instruction) (input : List ℕ) (is : List Instruction) (h : Heap) (st : List ℤ) (h' : Heap) (st' : List ℤ) : Type 0 where
  pub runs : (k t : ℕ) (o : List ℕ) (rest : List Instruction) → drop k code ≡ is ++ rest → run_from (ws_rule code) input (at h t o k st) (length is) ≡ at h' t o (k + length is) st'

pub seq : {code : List Instruction} {input : List ℕ} {is js : List Instruction} {h h' h'' : Heap} {st st' st'' : List ℤ} → Silent code input is h st h' st' → Silent code input js h' st' h'' st'' → Silent code input (is ++ js) h st h'' st''
seq {code = code} {input = input} {is = is} {js = js} {h = h} {h'' = h''} {st = st} {st'' = st''} p q = record {
  runs = λ k t o rest e.
      let l : length (is ++ js) ≡ length is + length js = length-append is js in
      let e' : drop k code ≡ is ++ (js ++ rest) = e ∙ append_assoc is js rest in
      let far : k + length is + length js ≡ k + length (is ++ js) = omega arith in
      ap (run_from (ws_rule code) input (at h t o k st)) l
      ∙ (run_from-add (ws_rule code) input (at h t o k st) (length is) (length js)
      ∙ (ap (λ m. run_from (ws_rule code) input m (length js)) (p.runs k t o (js ++ rest) e')
      ∙ (q.runs (k + length is) t o rest (skipped code k is (js ++ rest) e')
      ∙ ap (λ j. at h'' t o j st'') far)));
}

module _ (code : List Instruction) (input : List ℕ) where
  single : (x : Instruction) (h : Heap) (st : List ℤ) (h' : Heap) (st' : List ℤ) → ((k : ℕ) → act_of code (config h k st) x ≡ Goes (config h' (k + 1) st')) → Silent code input (x ∷ []) h st h' st'
  single x h st h' st' is = record { runs = λ k t o rest e. one_quiet code input h t o k st x rest (config h' (k + 1) st') e (is k) }

  -- a computed value that is in range
  in_range : (n : ℕ) → n < 2 ^ 63 → is_in_range (pos n) ≡ true
  in_range n small = lt-ltb n (2 ^ 63) small

  results : (h : Heap) (st : List ℤ) (k : ℕ) (c : Config) (z : ℤ) (n : ℕ) → z ≡ pos n → n < 2 ^ 63 → computed c z st ≡ Goes (onward c (pos n ∷ st))
  results h st k c z n e small = ap (λ v. computed c v st) e ∙ ap (λ b. cond b (Goes (onward c (pos n ∷ st))) (Fails 2)) (in_range n small)

  difference_in_range : (x y : ℕ) → x < 2 ^ 63 → y < 2 ^ 63 → is_in_range (pos x -ℤ pos y) ≡ true
  difference_in_range x y a b = elim (nat_lt x y) as (λ t. nat_lt x y ≡ t → is_in_range (pos x -ℤ pos y) ≡ true) [
    | true ↦ λ e.
        let lt : x < y = ltb-true x y e in
        let z : pos x -ℤ pos y ≡ negsuc (y - x - 1) = omega (arith, ints) in
        let small : y - x - 1 < 2 ^ 63 = omega arith in
        ap is_in_range z ∙ lt-ltb (y - x - 1) (2 ^ 63) small
    | false ↦ λ e.
        let le : y ≤ x = ltb-false x y e in
        let z : pos x -ℤ pos y ≡ pos (x - y) = omega (arith, ints) in
        let small : x - y < 2 ^ 63 = omega arith in
        ap is_in_range z ∙ lt-ltb (x - y) (2 ^ 63) small
  ] refl

  pub push : (n : ℤ) (h : Heap) (st : List ℤ) → Silent code input (Push n ∷ []) h st h (n ∷ st)
  push n h st = single (Push n) h st h (n ∷ st) (λ k. refl)

  pub store : (h : Heap) (a v : ℤ) (st : List ℤ) → Silent code input (Store ∷ []) h (v ∷ a ∷ st) (with_value is_zero h a v) st
  store h a v st = single Store h (v ∷ a ∷ st) (with_value is_zero h a v) st (λ k. refl)

  pub retrieve : (h : Heap) (a v : ℤ) (st : List ℤ) → value_at (pos 0) h a ≡ v → Silent code input (Retrieve ∷ []) h (a ∷ st) h (v ∷ st)
  retrieve h a v st e = single Retrieve h (a ∷ st) h (v ∷ st) (λ k. ap (λ x. Goes (config h (k + 1) (x ∷ st))) e)

  pub add : (h : Heap) (x y : ℕ) (st : List ℤ) → x + y < 2 ^ 63 → Silent code input (Add ∷ []) h (pos y ∷ pos x ∷ st) h (pos (x + y) ∷ st)
  add h x y st small = single Add h (pos y ∷ pos x ∷ st) h (pos (x + y) ∷ st) (λ k. results h st k (config h k (pos y ∷ pos x ∷ st)) (pos x +ℤ pos y) (x + y) refl small)

  pub subtract : (h : Heap) (x y : ℕ) (st : List ℤ) → y ≤ x → x < 2 ^ 63 → Silent code input (Subtract ∷ []) h (pos y ∷ pos x ∷ st) h (pos (x - y) ∷ st)
  subtract h x y st le small =
      let e : pos x -ℤ pos y ≡ pos (x - y) = omega (arith, ints) in
      single Subtract h (pos y ∷ pos x ∷ st) h (pos (x - y) ∷ st) (λ k. results h st k (config h k (pos y ∷ pos x ∷ st)) (pos x -ℤ pos y) (x - y) e (omega arith))

  pub multiply : (h : Heap) (x y : ℕ) (st : List ℤ) → x * y < 2 ^ 63 → Silent code input (Multiply ∷ []) h (pos y ∷ pos x ∷ st) h (pos (x * y) ∷ st)
  multiply h x y st small = single Multiply h (pos y ∷ pos x ∷ st) h (pos (x * y) ∷ st) (λ k. results h st k (config h k (pos y ∷ pos x ∷ st)) (pos x *ℤ pos y) (x * y) refl small)

  pub divide : (h : Heap) (x : ℕ) (st : List ℤ) → x / 2 ^ 24 < 2 ^ 63 → Silent code input (Divide ∷ []) h (pos (2 ^ 24) ∷ pos x ∷ st) h (pos (x / 2 ^ 24) ∷ st)
  divide h x st small = single Divide h (pos (2 ^ 24) ∷ pos x ∷ st) h (pos (x / 2 ^ 24) ∷ st) (λ k. results h st k (config h k (pos (2 ^ 24) ∷ pos x ∷ st)) (floor_quotient (pos x) (pos (2 ^ 24))) (x / 2 ^ 24) refl small)

  pub modulo : (h : Heap) (z : ℤ) (n : ℕ) (st : List ℤ) → floor_remainder z (pos (2 ^ 24)) ≡ pos n → n < 2 ^ 24 → Silent code input (Modulo ∷ []) h (pos (2 ^ 24) ∷ z ∷ st) h (pos n ∷ st)
  modulo h z n st e small = single Modulo h (pos (2 ^ 24) ∷ z ∷ st) h (pos n ∷ st) (λ k. results h st k (config h k (pos (2 ^ 24) ∷ z ∷ st)) (floor_remainder z (pos (2 ^ 24))) n e (omega arith))

  -- a difference that may be below zero
  pub difference : (h : Heap) (x y : ℕ) (st : List ℤ) → x < 2 ^ 63 → y < 2 ^ 63 → Silent code input (Subtract ∷ []) h (pos y ∷ pos x ∷ st) h ((pos x -ℤ pos y) ∷ st)
  difference h x y st a b = single Subtract h (pos y ∷ pos x ∷ st) h ((pos x -ℤ pos y) ∷ st) (λ k. ap (λ t. cond t (Goes (onward (config h k (pos y ∷ pos x ∷ st)) ((pos x -ℤ pos y) ∷ st))) (Fails 2)) (difference_in_range x y a b))

-- the remainder of a sum and of a difference
pub remainder_of_sum : (x y : ℕ) → floor_remainder (pos (x + y)) (pos (2 ^ 24)) ≡ pos (sum_word x y)
remainder_of_sum x y = omega (arith, ints)

pub remainder_of_difference : (x y : ℕ) → x < 2 ^ 24 → y < 2 ^ 24 → floor_remainder (pos x -ℤ pos y) (pos (2 ^ 24)) ≡ pos (difference_word x y)
remainder_of_difference x y a b = elim (nat_lt x y) as (λ t. nat_lt x y ≡ t → floor_remainder (pos x -ℤ pos y) (pos (2 ^ 24)) ≡ pos (difference_word x y)) [
  | true ↦ λ e.
      let lt : x < y = ltb-true x y e in
      let z : pos x -ℤ pos y ≡ negsuc (y - x - 1) = omega (arith, ints) in
      let q : (y - x - 1) / 2 ^ 24 ≡ 0 = omega arith in
      let r : negsuc (y - x - 1) -ℤ (pos (2 ^ 24) *ℤ negsuc 0) ≡ pos (difference_word x y) = omega (arith, ints) in
      ap (λ v. floor_remainder v (pos (2 ^ 24))) z ∙ (ap (λ n. negsuc (y - x - 1) -ℤ (pos (2 ^ 24) *ℤ negsuc n)) q ∙ r)
  | false ↦ λ e.
      let le : y ≤ x = ltb-false x y e in
      let z : pos x -ℤ pos y ≡ pos (x - y) = omega (arith, ints) in
      let q : (x - y) / 2 ^ 24 ≡ 0 = omega arith in
      let r : pos (x - y) -ℤ (pos (2 ^ 24) *ℤ pos 0) ≡ pos (difference_word x y) = omega (arith, ints) in
      ap (λ v. floor_remainder v (pos (2 ^ 24))) z ∙ (ap (λ n. pos (x - y) -ℤ (pos (2 ^ 24) *ℤ pos n)) q ∙ r)
] refl
