-- Code that pushes the word of an operand, and code that pushes whether a comparison holds.
use Rattle.std.proofs.Common.{◌≡◌, ℕ, ◌+◌, ◌-◌, ◌*◌, ◌/◌, ◌^◌, ◌<◌, ◌≤◌, Bool, true, false, not, cond, nat_eq, nat_lt, List, ◌∷◌, refl, subst, arith}
use Rattle.std.specs.Prelude.{ℤ, pos, nat_le}
use Rattle.std.proofs.lemmas.Bool.Decides.{nat_tests}
use Rattle.word24.specs.Word.{IsWord, number_of}
use Rattle.eir_core.specs.declared.ops.Reg.{Reg}
use Rattle.eir_core.specs.declared.ops.Operand.{Operand}
use Rattle.eir_core.specs.declared.ops.Operand.TheVariants.{Reg as register, Imm}
use Rattle.eir_core.specs.declared.ops.Cond.{Cond}
use Rattle.eir_core.specs.declared.ops.Cond.TheVariants.{Eq, Ne, Lt, Gt, Le, Ge}
use Rattle.eir_core.specs.Memory.{Memory}
use Rattle.eir_core.specs.Step.{Regs, reg_of, value_of, holds}
use Rattle.ws_lang.specs.Instruction.{Instruction}
use Rattle.ws_lang.specs.Step.{Heap}
use Rattle.ws_back.specs.Code.{address, value_code, reaches_code, at_least_code, above_code, flag_code, negated}
use Rattle.ws_back.specs.Related.{Holds}
use Rattle.ws_back.proofs.Straight.{Silent, seq, push, retrieve, add, subtract, multiply, divide}

-- an operand stands for a word
pub word_of_operand : (r : Regs) (v : Operand) → ((x : Reg) → IsWord (reg_of r x)) → IsWord (value_of r v)
word_of_operand r (register x) all = all x
word_of_operand r (Imm w) all = w.in_range

-- the quotients that the comparisons are read from
at_least_is : (x y : ℕ) → x < 2 ^ 24 → y < 2 ^ 24 → (x + 2 ^ 24 - y) / 2 ^ 24 ≡ cond (nat_le y x) 1 0
at_least_is x y a b = grind (arith, nat_tests)

above_is : (x y : ℕ) → x < 2 ^ 24 → y < 2 ^ 24 → (x + (2 ^ 24 - 1) - y) / 2 ^ 24 ≡ cond (nat_lt y x) 1 0
above_is x y a b = grind (arith, nat_tests)

both_is : (x y : ℕ) → cond (nat_le y x) 1 0 * cond (nat_le x y) 1 0 ≡ cond (nat_eq x y) 1 0
both_is x y = grind (arith, nat_tests)

either_is : (x y : ℕ) → cond (nat_lt y x) 1 0 + cond (nat_lt x y) 1 0 ≡ cond (not (nat_eq x y)) 1 0
either_is x y = grind (arith, nat_tests)

flag_small : (b : Bool) → cond b 1 0 < 2
flag_small true = omega arith
flag_small false = omega arith

flags_small : (a b : Bool) → cond a 1 0 * cond b 1 0 < 2
flags_small true true = omega arith
flags_small true false = omega arith
flags_small false true = omega arith
flags_small false false = omega arith

-- the negated comparison
pub holds-negated : (t : Cond) (x y : ℕ) → holds (negated t) x y ≡ not (holds t x y)
holds-negated Eq x y = refl
holds-negated Ne x y = grind arith
holds-negated Lt x y = grind (arith, nat_tests)
holds-negated Gt x y = grind (arith, nat_tests)
holds-negated Le x y = grind (arith, nat_tests)
holds-negated Ge x y = grind (arith, nat_tests)

-- the same with another name of the number on top
settled : {code : List Instruction} {input : List ℕ} {is : List Instruction} {h h' : Heap} {st st' : List ℤ} (a b : ℕ) → a ≡ b → Silent code input is h st h' (pos a ∷ st') → Silent code input is h st h' (pos b ∷ st')
settled {code = code} {input = input} {is = is} {h = h} {h' = h'} {st = st} {st' = st'} a b e p = subst (λ n. Silent code input is h st h' (pos n ∷ st')) e p

module _ (code : List Instruction) (input : List ℕ) (h : Heap) (r : Regs) (m : Memory) (held : Holds h r m) where
  pub value : (v : Operand) (st : List ℤ) → Silent code input (value_code v) h st h (pos (value_of r v) ∷ st)
  value (register x) st = seq (push code input (address x) h st) (retrieve code input h (address x) (pos (reg_of r x)) st (held.registers x))
  value (Imm w) st = push code input (pos (number_of w)) h st

  reaches : (n : ℕ) (x y : Operand) (st : List ℤ) → n ≤ 2 ^ 24 → value_of r x < 2 ^ 24 → value_of r y ≤ value_of r x + n → Silent code input (reaches_code n x y) h st h (pos ((value_of r x + n - value_of r y) / 2 ^ 24) ∷ st)
  reaches n x y st small a le =
      let u = value_of r x in
      let v = value_of r y in
      seq (value x st)
      (seq (push code input (pos n) h (pos u ∷ st))
      (seq (add code input h u n st (omega arith))
      (seq (value y (pos (u + n) ∷ st))
      (seq (subtract code input h (u + n) v st le (omega arith))
      (seq (push code input (pos (2 ^ 24)) h (pos (u + n - v) ∷ st))
      (divide code input h (u + n - v) st (omega arith)))))))

  at_least : (x y : Operand) (st : List ℤ) → value_of r x < 2 ^ 24 → value_of r y < 2 ^ 24 → Silent code input (at_least_code x y) h st h (pos (cond (nat_le (value_of r y) (value_of r x)) 1 0) ∷ st)
  at_least x y st a b = settled _ _ (at_least_is (value_of r x) (value_of r y) a b) (reaches (2 ^ 24) x y st (omega arith) a (omega arith))

  above : (x y : Operand) (st : List ℤ) → value_of r x < 2 ^ 24 → value_of r y < 2 ^ 24 → Silent code input (above_code x y) h st h (pos (cond (nat_lt (value_of r y) (value_of r x)) 1 0) ∷ st)
  above x y st a b = settled _ _ (above_is (value_of r x) (value_of r y) a b) (reaches (2 ^ 24 - 1) x y st (omega arith) a (omega arith))

  pub flag : (t : Cond) (x y : Operand) (st : List ℤ) → value_of r x < 2 ^ 24 → value_of r y < 2 ^ 24 → Silent code input (flag_code t x y) h st h (pos (cond (holds t (value_of r x) (value_of r y)) 1 0) ∷ st)
  flag Eq x y st a b =
      let u = value_of r x in
      let v = value_of r y in
      let p = cond (nat_le v u) 1 0 in
      let q = cond (nat_le u v) 1 0 in
      let small : p * q < 2 = flags_small (nat_le v u) (nat_le u v) in
      settled _ _ (both_is u v) (seq (at_least x y st a b) (seq (at_least y x (pos p ∷ st) b a) (multiply code input h p q st (omega arith))))
  flag Ne x y st a b =
      let u = value_of r x in
      let v = value_of r y in
      let p = cond (nat_lt v u) 1 0 in
      let q = cond (nat_lt u v) 1 0 in
      let small : p < 2 = flag_small (nat_lt v u) in
      let small' : q < 2 = flag_small (nat_lt u v) in
      settled _ _ (either_is u v) (seq (above x y st a b) (seq (above y x (pos p ∷ st) b a) (add code input h p q st (omega arith))))
  flag Lt x y st a b = above y x st b a
  flag Gt x y st a b = above x y st a b
  flag Le x y st a b = at_least y x st b a
  flag Ge x y st a b = at_least x y st a b
