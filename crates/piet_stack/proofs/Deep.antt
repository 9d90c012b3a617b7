-- What the code for words of memory makes of the stack.
use Rattle.std.proofs.Common.{◌≡◌, ℕ, zero, suc, ◌+◌, ◌-◌, ◌*◌, ◌/◌, ◌^◌, ◌<◌, ◌≤◌, min, Bool, true, false, cond, List, [], ◌∷◌, ◌++◌, length, pos, ℤ, refl, sym, ap, subst, ◌∙◌, arith, append_assoc, append-nil}
use Rattle.std.specs.Prelude.{nat_lt, nat_le, nat_eq}
use Rattle.std.proofs.lemmas.Bool.Decides.{nat_tests}
use Rattle.std.proofs.lemmas.List.{length-append}
use Rattle.word24.specs.Word.{near, is_high}
use Rattle.eir_core.specs.declared.ops.Reg.{Reg}
use Rattle.eir_core.specs.declared.ops.Operand.TheVariants.{Reg as register}
use Rattle.eir_core.specs.Step.{Regs, reg_of, with_reg}
use Rattle.piet_lane.specs.declared.command.Command.TheVariants.{Push, Roll}
use Rattle.piet_stack.specs.Code.{number_code, high_code, low_code, near_code, place_code, put_code, depth_code, bring_code, load_code, store_code, ensure_code, grow_code, pick_code, reg_index}
use Rattle.piet_stack.specs.Makes.{Makes}
use Rattle.piet_stack.specs.Stack.{regs_stack, place_of}
use Rattle.piet_stack.proofs.Effects.{next, named, from_named, number, pick, place, turn, bit, push, pop, add, subtract, multiply, halve, greater, negate, duplicate, swap}
use Rattle.piet_stack.proofs.Values.{bed, value, put_reg, bit_small, times_bit, pick_reg}

-- the place of an address
high_is : (v : ℕ) → nat_lt (2 ^ 23 - 1) v ≡ is_high v
high_is v = grind (arith, nat_tests)

near_is : (v : ℕ) (b : Bool) → is_high v ≡ b → v < 2 ^ 24 → v * bit (nat_eq (bit b) 0) + (2 ^ 24 - 1 - v) * bit b ≡ near v
near_is v true e h = let high : 2 ^ 23 ≤ v = grind (arith, nat_tests) in omega (arith, high, h)
near_is v false e h = let low : v < 2 ^ 23 = grind (arith, nat_tests) in omega (arith, low, h)

placed : (v : ℕ) → v < 2 ^ 24
    → bit (nat_lt (2 ^ 23 - 1) v) + ((v * bit (nat_eq (bit (nat_lt (2 ^ 23 - 1) v)) 0) + (2 ^ 24 - 1 - v) * bit (nat_lt (2 ^ 23 - 1) v)) + (v * bit (nat_eq (bit (nat_lt (2 ^ 23 - 1) v)) 0) + (2 ^ 24 - 1 - v) * bit (nat_lt (2 ^ 23 - 1) v))) ≡ place_of v
placed v h =
    ap (λ b. bit b + ((v * bit (nat_eq (bit b) 0) + (2 ^ 24 - 1 - v) * bit b) + (v * bit (nat_eq (bit b) 0) + (2 ^ 24 - 1 - v) * bit b))) (high_is v)
    ∙ (ap (λ n. bit (is_high v) + (n + n)) (near_is v (is_high v) refl h) ∙ (let z : bit (is_high v) + (near v + near v) ≡ 2 * near v + bit (is_high v) = omega arith in z))

pub places : (v : ℕ) (s : List ℤ) → v < 2 ^ 24 → Makes place_code (pos v ∷ s) (pos (place_of v) ∷ s)
places v s h =
    let t = bit (nat_lt (2 ^ 23 - 1) v) in
    let u = bit (nat_eq t 0) in
    let a = v * u in
    let m = 2 ^ 24 - 1 - v in
    let n = a + m * t in
    let a_small : v * u ≤ v = times_bit v u (bit_small (nat_eq t 0)) in
    let m_small : m * t ≤ m = times_bit m t (bit_small (nat_lt (2 ^ 23 - 1) v)) in
    let t_small : t ≤ 1 = bit_small (nat_lt (2 ^ 23 - 1) v) in
    let high : Makes high_code (pos v ∷ s) (pos t ∷ pos v ∷ s) =
    next (duplicate (pos v) s) (next (number (2 ^ 23 - 1) (pos v ∷ pos v ∷ s) (omega arith)) (greater v (2 ^ 23 - 1) (pos v ∷ s))) in
    let low : Makes low_code (pos t ∷ pos v ∷ s) (pos a ∷ pos t ∷ pos v ∷ s) =
    next (pick 1 (pos t ∷ []) (pos v) s refl (omega arith) (omega arith))
    (next (pick 1 (pos v ∷ []) (pos t) (pos v ∷ s) refl (omega arith) (omega arith))
    (next (negate t (pos v ∷ pos t ∷ pos v ∷ s)) (multiply v u (pos t ∷ pos v ∷ s) (omega (arith, a_small, h))))) in
    let nearer : Makes near_code (pos a ∷ pos t ∷ pos v ∷ s) (pos n ∷ pos t ∷ pos v ∷ s) =
    next (number (2 ^ 24 - 1) (pos a ∷ pos t ∷ pos v ∷ s) (omega arith))
    (next (pick 3 (pos (2 ^ 24 - 1) ∷ pos a ∷ pos t ∷ []) (pos v) s refl (omega arith) (omega arith))
    (next (subtract (2 ^ 24 - 1) v (pos a ∷ pos t ∷ pos v ∷ s) (omega (arith, h)) (omega arith))
    (next (pick 2 (pos m ∷ pos a ∷ []) (pos t) (pos v ∷ s) refl (omega arith) (omega arith))
    (next (multiply m t (pos a ∷ pos t ∷ pos v ∷ s) (omega (arith, m_small)))
    (add a (m * t) (pos t ∷ pos v ∷ s) (omega (arith, m_small, a_small, h))))))) in
    named (next high (next low (next nearer
    (next (duplicate (pos n) (pos t ∷ pos v ∷ s))
    (next (add n n (pos t ∷ pos v ∷ s) (omega (arith, m_small, a_small, h)))
    (next (add t (n + n) (pos v ∷ s) (omega (arith, m_small, a_small, t_small, h)))
    (place 0 (pos (t + (n + n))) [] (pos v) s refl (omega arith))))))))
    (ap (λ k. pos k ∷ s) (placed v h))

-- a word among others, under some values and a place that says how many are before it
module _ (i : ℕ) (before after : List ℤ) (known : length before ≡ i) (few : i < 2 ^ 25) (word : ℤ) where
  -- brought to the top
  pub brings : (pre : List ℤ) → length pre ≡ 7 → Makes bring_code (pos i ∷ (pre ++ (before ++ word ∷ after))) (word ∷ pos i ∷ (pre ++ (before ++ after)))
  brings pre e =
      let s = pre ++ (before ++ word ∷ after) in
      let whole : (pos i ∷ (pre ++ before)) ++ (word ∷ after) ≡ pos i ∷ (pre ++ (before ++ word ∷ after)) = ap (λ (z : List ℤ). pos i ∷ z) (append_assoc pre before (word ∷ after)) in
      let less : (pos i ∷ (pre ++ before)) ++ after ≡ pos i ∷ (pre ++ (before ++ after)) = ap (λ (z : List ℤ). pos i ∷ z) (append_assoc pre before after) in
      let size : suc (length (pre ++ before)) ≡ i + 9 - 1 = let f = length-append pre before in omega (arith, f, e, known) in
      let turned : Makes (Roll ∷ []) (pos (i + 9 - 1) ∷ pos (i + 9) ∷ pos i ∷ s) (word ∷ pos i ∷ (pre ++ (before ++ after))) =
      from_named (ap (λ (z : List ℤ). pos (i + 9 - 1) ∷ pos (i + 9) ∷ z) whole)
      (named (turn (i + 9) (i + 9 - 1) (pos i ∷ (pre ++ before)) (word ∷ []) after size (omega arith) (omega arith) (omega arith)) (ap (λ (z : List ℤ). word ∷ z) less)) in
      next (duplicate (pos i) s)
      (next (next (number 9 (pos i ∷ pos i ∷ s) (omega arith)) (add i 9 (pos i ∷ s) (omega arith)))
      (next (duplicate (pos (i + 9)) (pos i ∷ s))
      (next (push (pos (i + 9) ∷ pos (i + 9) ∷ pos i ∷ s))
      (next (subtract (i + 9) 1 (pos (i + 9) ∷ pos i ∷ s) (omega arith) (omega arith)) turned))))

  -- put among them
  pub buries : (under : ℕ) (pre : List ℤ) (v : ℤ) → length pre ≡ 7 + under → under < 10 → Makes (depth_code (8 + under) ++ Push ∷ Roll ∷ []) (pos i ∷ v ∷ (pre ++ (before ++ after))) (pre ++ (before ++ v ∷ after))
  buries under pre v e small =
      let s = pre ++ (before ++ after) in
      let whole : (v ∷ []) ++ ((pre ++ before) ++ after) ≡ v ∷ (pre ++ (before ++ after)) = ap (λ (z : List ℤ). v ∷ z) (append_assoc pre before after) in
      let more : (pre ++ before) ++ (v ∷ after) ≡ pre ++ (before ++ v ∷ after) = append_assoc pre before (v ∷ after) in
      let size : 1 + length (pre ++ before) ≡ i + (8 + under) = let f = length-append pre before in omega (arith, f, e, known) in
      let turned : Makes (Roll ∷ []) (pos 1 ∷ pos (i + (8 + under)) ∷ v ∷ s) (pre ++ (before ++ v ∷ after)) =
      from_named (ap (λ (z : List ℤ). pos 1 ∷ pos (i + (8 + under)) ∷ z) whole)
      (named (turn (i + (8 + under)) 1 (v ∷ []) (pre ++ before) after refl size (omega arith) (omega arith)) more) in
      next (next (number (8 + under) (pos i ∷ v ∷ s) (omega arith)) (add i (8 + under) (v ∷ s) (omega arith)))
      (next (push (pos (i + (8 + under)) ∷ v ∷ s)) turned)

-- the word at a place goes into a register
pub loads : (n : ℕ) (regs : Regs) (i w : ℕ) (before after : List ℤ) (r : Reg) → length before ≡ i → i < 2 ^ 25
    → Makes (load_code r) (pos i ∷ bed n (before ++ pos w ∷ after) regs) (bed n (before ++ pos w ∷ after) (with_reg regs r w))
loads n regs i w before after r e few =
    let pre = pos n ∷ regs_stack regs in
    let s = pre ++ (before ++ after) in
    next (brings i before after e few (pos w) pre refl)
    (next (swap (pos w) (pos i) s)
    (next (pick 1 (pos i ∷ []) (pos w) s refl (omega arith) (omega arith))
    (next (swap (pos w) (pos i) (pos w ∷ s))
    (next (next (number 9 (pos i ∷ pos w ∷ pos w ∷ s) (omega arith)) (add i 9 (pos w ∷ pos w ∷ s) (omega arith)))
    (next (push (pos (i + 9) ∷ pos w ∷ pos w ∷ s)) (next turned (put_reg n (before ++ pos w ∷ after) regs r w)))))))
  where
    turned : Makes (Roll ∷ []) (pos 1 ∷ pos (i + 9) ∷ pos w ∷ pos w ∷ (pos n ∷ (regs_stack regs ++ (before ++ after)))) (pos w ∷ bed n (before ++ pos w ∷ after) regs)
    turned =
        let all = pos w ∷ pos n ∷ (regs_stack regs) in
        let size : 1 + length (all ++ before) ≡ i + 9 = let f = length-append all before in omega (arith, f, e) in
        from_named (ap (λ (z : List ℤ). pos 1 ∷ pos (i + 9) ∷ pos w ∷ z) (append_assoc all before after))
        (named (turn (i + 9) 1 (pos w ∷ []) (all ++ before) after refl size (omega arith) (omega arith)) (append_assoc all before (pos w ∷ after)))

-- the word at a place becomes that of a register
pub stores : (n : ℕ) (regs : Regs) (i : ℕ) (w : ℤ) (before after : List ℤ) (r : Reg) → length before ≡ i → i < 2 ^ 25
    → Makes (store_code r) (pos i ∷ bed n (before ++ w ∷ after) regs) (bed n (before ++ pos (reg_of regs r) ∷ after) regs)
stores n regs i w before after r e few =
    let pre = pos n ∷ regs_stack regs in
    let x = pos (reg_of regs r) in
    next (brings i before after e few w pre refl)
    (next (pop w (pos i ∷ (pre ++ (before ++ after))))
    (next (pick_reg n (before ++ after) regs 1 (pos i ∷ []) r refl (omega arith))
    (next (swap x (pos i) (pre ++ (before ++ after))) (buries i before after e few w 0 pre x refl (omega arith)))))

-- whether there are pairs up to a place
pub ensures : (n grow lane i : ℕ) (s : List ℤ) → grow < 2 ^ 15 → i < 2 ^ 25 → Makes (ensure_code grow) (pos lane ∷ pos i ∷ pos n ∷ s) (pos (bit (nat_lt (i / 2) n) + grow) ∷ pos lane ∷ pos i ∷ pos n ∷ s)
ensures n grow lane i s small few =
    let under = pos lane ∷ pos i ∷ pos n ∷ s in
    let b = bit (nat_lt (i / 2) n) in
    let b_small = bit_small (nat_lt (i / 2) n) in
    next (pick 2 (pos lane ∷ pos i ∷ []) (pos n) s refl (omega arith) (omega arith))
    (next (pick 2 (pos n ∷ pos lane ∷ []) (pos i) (pos n ∷ s) refl (omega arith) (omega arith))
    (next (number 2 (pos i ∷ pos n ∷ under) (omega arith))
    (next (halve i (pos n ∷ under) (omega arith))
    (next (greater n (i / 2) under) (next (number grow (pos b ∷ under) (omega arith)) (add b grow under (omega (arith, b_small, small))))))))

-- one pair more, of zeros
pub grows : (n lane i : ℕ) (regs : Regs) (mem : List ℤ) → length mem ≡ 2 * n → n ≤ 2 ^ 23
    → Makes grow_code (pos lane ∷ pos i ∷ bed n mem regs) (pos lane ∷ pos i ∷ bed (n + 1) (mem ++ pos 0 ∷ pos 0 ∷ []) regs)
grows n lane i regs mem e few =
    let all = pos lane ∷ pos i ∷ bed n mem regs in
    let zeros = pos 0 ∷ pos 0 ∷ [] in
    let under = pos lane ∷ pos i ∷ (pos n ∷ (regs_stack regs ++ (mem ++ zeros))) in
    next (push all)
    (next (negate 1 all)
    (next (push (pos 0 ∷ all))
    (next (negate 1 (pos 0 ∷ all))
    (next (pick 4 (pos 0 ∷ pos 0 ∷ pos lane ∷ pos i ∷ []) (pos n) (regs_stack regs ++ mem) refl (omega arith) (omega arith))
    (next (duplicate (pos n) (pos 0 ∷ pos 0 ∷ all))
    (next (add n n (pos 0 ∷ pos 0 ∷ all) (omega arith))
    (next (number 11 (pos (n + n) ∷ pos 0 ∷ pos 0 ∷ all) (omega arith))
    (next (add (n + n) 11 (pos 0 ∷ pos 0 ∷ all) (omega arith))
    (next (number 2 (pos (n + n + 11) ∷ pos 0 ∷ pos 0 ∷ all) (omega arith))
    (next turned
    (next (pick 2 (pos lane ∷ pos i ∷ []) (pos n) (regs_stack regs ++ (mem ++ zeros)) refl (omega arith) (omega arith))
    (next (push (pos n ∷ under))
    (next (add n 1 under (omega arith)) (place 2 (pos (n + 1)) (pos lane ∷ pos i ∷ []) (pos n) (regs_stack regs ++ (mem ++ zeros)) refl (omega arith)))))))))))))))
  where
    turned : Makes (Roll ∷ []) (pos 2 ∷ pos (n + n + 11) ∷ pos 0 ∷ pos 0 ∷ (pos lane ∷ pos i ∷ bed n mem regs)) (pos lane ∷ pos i ∷ (pos n ∷ (regs_stack regs ++ (mem ++ pos 0 ∷ pos 0 ∷ []))))
    turned =
        let ys = pos lane ∷ pos i ∷ (pos n ∷ (regs_stack regs ++ mem)) in
        let size : 2 + length ys ≡ n + n + 11 = let f = length-append (regs_stack regs) mem in omega (arith, f, e) in
        from_named (ap (λ (z : List ℤ). pos 2 ∷ pos (n + n + 11) ∷ pos 0 ∷ pos 0 ∷ z) (append-nil ys))
        (named (turn (n + n + 11) 2 (pos 0 ∷ pos 0 ∷ []) ys [] refl size (omega arith) (omega arith)) (ap (λ (z : List ℤ). pos lane ∷ pos i ∷ pos n ∷ z) (append_assoc (regs_stack regs) mem (pos 0 ∷ pos 0 ∷ []))))
