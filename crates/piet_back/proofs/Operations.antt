-- What the lanes of operations make of the stack.
use Rattle.std.proofs.Common.{◌≡◌, ℕ, zero, suc, ◌+◌, ◌-◌, ◌*◌, ◌%◌, ◌^◌, ◌<◌, ◌≤◌, Bool, true, false, cond, nat_lt, List, [], ◌∷◌, ◌++◌, length, pos, ℤ, refl, sym, ap, subst, ◌∙◌, arith, append-nil}
use Rattle.mach_core.specs.Rule.{input_at}
use Rattle.word24.specs.Word.{sum_word, difference_word}
use Rattle.eir_core.specs.declared.ops.Reg.{Reg}
use Rattle.eir_core.specs.declared.ops.Reg.TheVariants.{A}
use Rattle.eir_core.specs.declared.ops.Operand.{Operand}
use Rattle.eir_core.specs.declared.ops.Operand.TheVariants.{Reg as register, Imm}
use Rattle.eir_core.specs.declared.ops.Cond.{Cond}
use Rattle.eir_core.specs.declared.ops.Op.TheVariants.{Mov, Add, Sub, Load, Store, Putc, Getc, Exit, Set, Jump, JumpIf}
use Rattle.eir_core.specs.Step.{Regs, reg_of, with_reg, value_of, holds}
use Rattle.piet_lane.specs.declared.command.Command.{Command}
use Rattle.piet_lane.specs.declared.command.Command.TheVariants.{InChar, OutChar}
use Rattle.piet_lane.specs.Runs.{Values, after_one}
use Rattle.piet_lane.specs.Lanes.{act_of_command}
use Rattle.piet_stack.specs.declared.operation.Ways.{Ways}
use Rattle.piet_stack.specs.Code.{number_code, no_lane, block_lane, value_code, put_reg_code, op_code, second_code}
use Rattle.piet_stack.specs.Makes.{values_at, Does, Makes}
use Rattle.piet_stack.specs.Stack.{place_of}
use Rattle.piet_stack.proofs.Effects.{does_more, next, named, number, wrap, add, subtract, bit}
use Rattle.piet_stack.proofs.Values.{bed, value, put_reg, flag, target, choose}
use Rattle.piet_stack.proofs.Deep.{places}

-- a byte is written
out_does : (input : List ℕ) (v : ℕ) (s : List ℤ) (taken : ℕ) (output : List ℕ) → Does input (OutChar ∷ []) (values_at (pos v ∷ s) taken output) (values_at s taken (output ++ v % 2 ^ 8 ∷ []))
out_does input v s taken output = record { made = refl; fits = (refl, tt) }

-- a byte is taken
in_does : (input : List ℕ) (s : List ℤ) (taken : ℕ) (output : List ℕ) → Does input (InChar ∷ []) (values_at s taken output) (values_at (pos (input_at input taken) ∷ s) (taken + 1) output)
in_does input s taken output = record { made = ap (λ (o : List ℕ). values_at (pos (input_at input taken) ∷ s) (taken + 1) o) (append-nil output); fits = (refl, tt) }

module _ (w : Ways) (n : ℕ) (mem : List ℤ) (regs : Regs) (small : (v : Operand) → value_of regs v < 2 ^ 24) (near : w.on < 2 ^ 15) where
  abbrev b : List ℤ
  b = bed n mem regs

  -- a register becomes a word, and on
  onward : (r : Reg) (x : ℕ) → Makes (put_reg_code r ++ number_code w.on) (pos x ∷ b) (pos w.on ∷ bed n mem (with_reg regs r x))
  onward r x = next (put_reg n mem regs r x) (number w.on (bed n mem (with_reg regs r x)) (omega (arith, near)))

  pub mov_makes : (r : Reg) (v : Operand) → Makes (op_code w (Mov r v)) b (pos w.on ∷ bed n mem (with_reg regs r (value_of regs v)))
  mov_makes r v = next (value n mem regs 0 [] v refl (omega arith)) (onward r (value_of regs v))

  pub add_makes : (r : Reg) (v : Operand) → Makes (op_code w (Add r v)) b (pos w.on ∷ bed n mem (with_reg regs r (sum_word (reg_of regs r) (value_of regs v))))
  add_makes r v =
      let x = reg_of regs r in
      let y = value_of regs v in
      let a = small (register r) in
      let c = small v in
      next (value n mem regs 0 [] (register r) refl (omega arith))
      (next (value n mem regs 1 (pos x ∷ []) v refl (omega arith))
      (next (add x y b (omega (arith, a, c)))
      (next (number (2 ^ 24) (pos (x + y) ∷ b) (omega arith)) (next (wrap (x + y) b) (onward r (sum_word x y))))))

  differ : (x y : ℕ) → y < 2 ^ 24 → (x + 2 ^ 24 - y) % 2 ^ 24 ≡ difference_word x y
  differ x y h = ap (λ k. k % 2 ^ 24) (let z : x + 2 ^ 24 - y ≡ x + (2 ^ 24 - y) = omega (arith, h) in z)

  pub sub_makes : (r : Reg) (v : Operand) → Makes (op_code w (Sub r v)) b (pos w.on ∷ bed n mem (with_reg regs r (difference_word (reg_of regs r) (value_of regs v))))
  sub_makes r v =
      let x = reg_of regs r in
      let y = value_of regs v in
      let a = small (register r) in
      let c = small v in
      next (value n mem regs 0 [] (register r) refl (omega arith))
      (next (number (2 ^ 24) (pos x ∷ b) (omega arith))
      (next (add x (2 ^ 24) b (omega (arith, a)))
      (next (value n mem regs 1 (pos (x + 2 ^ 24) ∷ []) v refl (omega arith))
      (next (subtract (x + 2 ^ 24) y b (omega (arith, c)) (omega (arith, a)))
      (next (number (2 ^ 24) (pos (x + 2 ^ 24 - y) ∷ b) (omega arith))
      (next (named (wrap (x + 2 ^ 24 - y) b) (ap (λ k. pos k ∷ b) (differ x y c))) (onward r (difference_word x y))))))))

  pub set_makes : (test : Cond) (r : Reg) (v : Operand) → Makes (op_code w (Set test r v)) b (pos w.on ∷ bed n mem (with_reg regs r (cond (holds test (reg_of regs r) (value_of regs v)) 1 0)))
  set_makes test r v = next (flag n mem regs small test r v) (onward r (bit (holds test (reg_of regs r) (value_of regs v))))

  pub exit_makes : Makes (op_code w Exit) b (pos no_lane ∷ b)
  exit_makes = number no_lane b (omega arith)

  pub jump_makes : (v : Operand) → w.blocks < 2 ^ 15 → Makes (op_code w (Jump v)) b (pos (block_lane w.blocks (value_of regs v)) ∷ b)
  jump_makes v few = target n mem regs 0 w.blocks [] v refl (omega arith) few (small v)

  pub jump_if_makes : (test : Cond) (goal : Operand) (r : Reg) (v : Operand) → w.blocks < 2 ^ 15
      → Makes (op_code w (JumpIf test goal r v)) b (pos (cond (holds test (reg_of regs r) (value_of regs v)) (block_lane w.blocks (value_of regs goal)) w.on) ∷ b)
  jump_if_makes test goal r v few = next (flag n mem regs small test r v) (choose n mem regs w.blocks w.on (holds test (reg_of regs r) (value_of regs v)) goal few near (small goal))

  pub access_makes : (v : Operand) → w.second < 2 ^ 15 → w.ensure < 2 ^ 15 → Makes (op_code w (Load A v)) b (pos w.ensure ∷ pos w.second ∷ pos (place_of (value_of regs v)) ∷ b)
  access_makes v second ensure =
      let i = place_of (value_of regs v) in
      next (value n mem regs 0 [] v refl (omega arith))
      (next (places (value_of regs v) b (small v)) (next (number w.second (pos i ∷ b) (omega (arith, second))) (number w.ensure (pos w.second ∷ pos i ∷ b) (omega (arith, ensure)))))

  pub putc_does : (input : List ℕ) (taken : ℕ) (output : List ℕ) (v : Operand) → Does input (op_code w (Putc v)) (values_at b taken output) (values_at (pos w.on ∷ b) taken (output ++ value_of regs v % 2 ^ 8 ∷ []))
  putc_does input taken output v =
      let x = value_of regs v in
      let after = output ++ x % 2 ^ 8 ∷ [] in
      does_more input (value_code 0 v) (OutChar ∷ number_code w.on) (values_at b taken output) (values_at (pos x ∷ b) taken output) (values_at (pos w.on ∷ b) taken after)
      ((value n mem regs 0 [] v refl (omega arith)).does input taken output)
      (does_more input (OutChar ∷ []) (number_code w.on) (values_at (pos x ∷ b) taken output) (values_at b taken after) (values_at (pos w.on ∷ b) taken after)
      (out_does input x b taken output) ((number w.on b (omega (arith, near))).does input taken after))

  pub getc_does : (input : List ℕ) (taken : ℕ) (output : List ℕ) (r : Reg) → Does input (op_code w (Getc r)) (values_at b taken output) (values_at (pos w.on ∷ bed n mem (with_reg regs r (input_at input taken))) (taken + 1) output)
  getc_does input taken output r =
      let x = input_at input taken in
      does_more input (InChar ∷ []) (put_reg_code r ++ number_code w.on) (values_at b taken output) (values_at (pos x ∷ b) (taken + 1) output) (values_at (pos w.on ∷ bed n mem (with_reg regs r x)) (taken + 1) output)
      (in_does input b taken output) ((onward r x).does input (taken + 1) output)
