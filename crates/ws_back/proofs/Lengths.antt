-- How long code is.
use Rattle.std.proofs.Common.{ℕ, ◌+◌, ◌-◌, ◌*◌, ◌^◌, ◌≤◌, List, [], ◌∷◌, length, arith, length-append}
use Rattle.eir_core.specs.declared.ops.Operand.{Operand}
use Rattle.eir_core.specs.declared.ops.Operand.TheVariants.{Reg as register, Imm}
use Rattle.eir_core.specs.declared.ops.Cond.{Cond}
use Rattle.eir_core.specs.declared.ops.Cond.TheVariants.{Eq, Ne, Lt, Gt, Le, Ge}
use Rattle.eir_core.specs.declared.ops.Op.{Op}
use Rattle.eir_core.specs.declared.ops.Op.TheVariants.{Mov, Add, Sub, Load, Store, Putc, Getc, Exit, Set, Jump, JumpIf}
use Rattle.sim_trait.specs.Digits.{digit_count}
use Rattle.ws_lang.specs.Instruction.{Instruction, JumpIfZero}
use Rattle.ws_back.specs.Code.{value_code, reaches_code, flag_code, negated, target_label, op_code}

-- the steps from a jump's instruction on to the block whose number a register has, and none where the number is given
abbrev pub landing : ℕ → Operand → ℕ
landing n (register r) = 6 * digit_count n + 8
landing n (Imm w) = 0

-- the most steps of the code of an operation
abbrev pub most_of : ℕ → Op → ℕ
most_of n (Jump target) = 21 + landing n target
most_of n (JumpIf test target r v) = 21 + landing n target
most_of n op = 21

-- the most instructions of an operation
abbrev pub most_code : Op → ℕ
most_code (JumpIf test (register x) r v) = 24
most_code op = 21

-- between one and so many
pub record Within (is : List Instruction) (most : ℕ) : Type 0 where
  pub some : 1 ≤ length is
  pub few : length is ≤ most

pub value-within : (v : Operand) → Within (value_code v) 2
value-within (register r) = record { some = omega arith; few = omega arith }
value-within (Imm w) = record { some = omega arith; few = omega arith }

reaches-within : (n : ℕ) (x y : Operand) → Within (reaches_code n x y) 9
reaches-within n x y =
    let u = value-within x in
    let v = value-within y in
    record { some = omega (arith, length-append {A = Instruction}); few = omega (arith, length-append {A = Instruction}) }

pub flag-within : (t : Cond) (x y : Operand) → Within (flag_code t x y) 19
flag-within Eq x y =
    let u = reaches-within (2 ^ 24) x y in
    let v = reaches-within (2 ^ 24) y x in
    record { some = omega (arith, length-append {A = Instruction}); few = omega (arith, length-append {A = Instruction}) }
flag-within Ne x y =
    let u = reaches-within (2 ^ 24 - 1) x y in
    let v = reaches-within (2 ^ 24 - 1) y x in
    record { some = omega (arith, length-append {A = Instruction}); few = omega (arith, length-append {A = Instruction}) }
flag-within Lt x y = let u = reaches-within (2 ^ 24 - 1) y x in record { some = u.some; few = omega arith }
flag-within Gt x y = let u = reaches-within (2 ^ 24 - 1) x y in record { some = u.some; few = omega arith }
flag-within Le x y = let u = reaches-within (2 ^ 24) y x in record { some = u.some; few = omega arith }
flag-within Ge x y = let u = reaches-within (2 ^ 24) x y in record { some = u.some; few = omega arith }

pub op-within : (n : ℕ) (op : Op) → Within (op_code n op) (most_code op)
op-within n (Mov r v) = let u = value-within v in record { some = omega arith; few = omega (arith, length-append {A = Instruction}) }
op-within n (Add r v) = let u = value-within v in record { some = omega arith; few = omega (arith, length-append {A = Instruction}) }
op-within n (Sub r v) = let u = value-within v in record { some = omega arith; few = omega (arith, length-append {A = Instruction}) }
op-within n (Load r v) = let u = value-within v in record { some = omega arith; few = omega (arith, length-append {A = Instruction}) }
op-within n (Store r v) = let u = value-within v in record { some = omega (arith, length-append {A = Instruction}); few = omega (arith, length-append {A = Instruction}) }
op-within n (Putc v) = let u = value-within v in record { some = omega (arith, length-append {A = Instruction}); few = omega (arith, length-append {A = Instruction}) }
op-within n (Getc r) = record { some = omega arith; few = omega arith }
op-within n Exit = record { some = omega arith; few = omega arith }
op-within n (Set t r v) = let u = flag-within t (register r) v in record { some = omega arith; few = omega (arith, length-append {A = Instruction}) }
op-within n (Jump (register r)) = record { some = omega arith; few = omega arith }
op-within n (Jump (Imm w)) = record { some = omega arith; few = omega arith }
op-within n (JumpIf t (register x) r v) = let u = flag-within (negated t) (register r) v in record { some = omega arith; few = omega (arith, length-append {A = Instruction}) }
op-within n (JumpIf t (Imm w) r v) =
    let u = flag-within (negated t) (register r) v in
    let all = length-append (flag_code (negated t) (register r) v) (JumpIfZero (target_label n (Imm w)) ∷ []) in
    record { some = omega (arith, all); few = omega (arith, all) }

-- none has more than 24
pub op-short : (n : ℕ) (op : Op) → length (op_code n op) ≤ 24
op-short n op = omega (arith, (op-within n op).few, most_code-short op)
  where
    most_code-short : (op : Op) → most_code op ≤ 24
    most_code-short (JumpIf t (register x) r v) = omega arith
    most_code-short op = omega arith
