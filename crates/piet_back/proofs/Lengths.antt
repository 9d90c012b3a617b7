-- How many commands a lane has at most.
use Rattle.std.proofs.Common.{◌≡◌, ℕ, zero, suc, ◌+◌, ◌-◌, ◌*◌, ◌/◌, ◌%◌, ◌^◌, ◌<◌, ◌≤◌, Bool, true, false, cond, nat_lt, nat_eq, List, [], ◌∷◌, ◌++◌, length, refl, sym, ap, ◌∙◌, arith}
use Rattle.std.proofs.Math.Nat.{pow-succ'}
use Rattle.std.proofs.lemmas.Bool.Decides.{nat_tests}
use Rattle.std.proofs.lemmas.List.{length-append}
use Rattle.word24.specs.Word.{number_of}
use Rattle.eir_core.specs.declared.ops.Reg.{Reg}
use Rattle.eir_core.specs.declared.ops.Reg.TheVariants.{A, B, C, D, SP, BP}
use Rattle.eir_core.specs.declared.ops.Operand.{Operand}
use Rattle.eir_core.specs.declared.ops.Operand.TheVariants.{Reg as register, Imm}
use Rattle.eir_core.specs.declared.ops.Cond.{Cond}
use Rattle.eir_core.specs.declared.ops.Cond.TheVariants.{Eq, Ne, Lt, Gt, Le, Ge}
use Rattle.eir_core.specs.declared.ops.Op.{Op}
use Rattle.eir_core.specs.declared.ops.Op.TheVariants.{Mov, Add, Sub, Load, Store, Putc, Getc, Exit, Set, Jump, JumpIf}
use Rattle.piet_lane.specs.declared.command.Command.{Command}
use Rattle.piet_lane.specs.declared.command.Command.TheVariants.{Push, Not, Add as add, Duplicate, Subtract, Multiply, Divide, Modulo, Greater, OutChar, InChar}
use Rattle.piet_stack.specs.declared.operation.Ways.{Ways}
use Rattle.piet_stack.specs.Code.{digits_code, number_code, roll_code, swap_code, pick_code, put_code, reg_index, value_code, put_reg_code, flag_code, no_lane, block_lane, clamp_code, target_code, choose_code, place_code, load_code, store_code, ensure_code, grow_code, op_code, second_code}

-- numbers
tail_few : (b : Bool) → length (Duplicate ∷ add ∷ cond b (Push ∷ add ∷ []) []) ≤ 4
tail_few true = omega arith
tail_few false = omega arith

front_few : (b : Bool) → length (Push ∷ cond b (Not ∷ []) []) ≤ 2
front_few true = omega arith
front_few false = omega arith

digits_few : (width k n : ℕ) → k < width → n < 2 ^ suc k → length (digits_code width n) ≤ 4 * k + 2
unfolding digits_code
digits_few zero k n w h = absurd (omega arith)
digits_few (suc width) zero n w h =
    let t : nat_lt n 2 ≡ true = grind (arith, nat_tests) in
    let f = front_few (nat_eq n 0) in
    rw t (omega (arith, f))
digits_few (suc width) (suc k) n w h =
    let p : 2 ^ suc (suc k) ≡ 2 * 2 ^ suc k = pow-succ' 2 (suc k) in
    let half : n / 2 < 2 ^ suc k = omega (arith, p, h) in
    by (digits_few width k (n / 2) (omega (arith, w)) half) (nat_lt n 2)
  where
    by : length (digits_code width (n / 2)) ≤ 4 * k + 2 → (b : Bool) → length (cond b (Push ∷ cond (nat_eq n 0) (Not ∷ []) []) (digits_code width (n / 2) ++ Duplicate ∷ add ∷ cond (nat_eq (n % 2) 1) (Push ∷ add ∷ []) [])) ≤ 4 * suc k + 2
    by less true = let f = front_few (nat_eq n 0) in omega (arith, f)
    by less false =
        let f = length-append (digits_code width (n / 2)) (Duplicate ∷ add ∷ cond (nat_eq (n % 2) 1) (Push ∷ add ∷ []) []) in
        let t = tail_few (nat_eq (n % 2) 1) in
        omega (arith, less, f, t)

pub word_few : (n : ℕ) → n < 2 ^ 24 → length (number_code n) ≤ 94
word_few n h = digits_few 25 23 n (omega arith) h

pub lane_few : (n : ℕ) → n < 2 ^ 15 → length (number_code n) ≤ 58
lane_few n h = digits_few 25 14 n (omega arith) h

-- what is the same for all programs
pick_few : (k : ℕ) (r : Reg) → k < 3 → length (pick_code (k + 1 + reg_index r)) ≤ 40
unfolding digits_code
pick_few zero A h = omega arith
pick_few zero B h = omega arith
pick_few zero C h = omega arith
pick_few zero D h = omega arith
pick_few zero SP h = omega arith
pick_few zero BP h = omega arith
pick_few (suc zero) A h = omega arith
pick_few (suc zero) B h = omega arith
pick_few (suc zero) C h = omega arith
pick_few (suc zero) D h = omega arith
pick_few (suc zero) SP h = omega arith
pick_few (suc zero) BP h = omega arith
pick_few (suc (suc zero)) A h = omega arith
pick_few (suc (suc zero)) B h = omega arith
pick_few (suc (suc zero)) C h = omega arith
pick_few (suc (suc zero)) D h = omega arith
pick_few (suc (suc zero)) SP h = omega arith
pick_few (suc (suc zero)) BP h = omega arith
pick_few (suc (suc (suc k))) r h = absurd (omega arith)

put_few : (r : Reg) → length (put_reg_code r) ≤ 40
unfolding digits_code
put_few A = omega arith
put_few B = omega arith
put_few C = omega arith
put_few D = omega arith
put_few SP = omega arith
put_few BP = omega arith

place_few : length place_code ≤ 270
unfolding digits_code
place_few = omega arith

load_few : (r : Reg) → length (load_code r) ≤ 120
unfolding digits_code
load_few A = omega arith
load_few B = omega arith
load_few C = omega arith
load_few D = omega arith
load_few SP = omega arith
load_few BP = omega arith

store_few : (r : Reg) → length (store_code r) ≤ 120
unfolding digits_code
store_few A = omega arith
store_few B = omega arith
store_few C = omega arith
store_few D = omega arith
store_few SP = omega arith
store_few BP = omega arith

pub grow_few : length grow_code ≤ 100
unfolding digits_code
grow_few = omega arith

modulus_few : length (number_code (2 ^ 24)) ≤ 60
unfolding digits_code
modulus_few = omega arith

two_few : length (number_code 2) ≤ 5
unfolding digits_code
two_few = omega arith

pair_few : length (pick_code 2) ≤ 30
unfolding digits_code
pair_few = omega arith

pick_one : length (pick_code 1) ≤ 20
unfolding digits_code
pick_one = omega arith

turn_few : length (roll_code 3 1) ≤ 10
unfolding digits_code
turn_few = omega arith

swap_few : length swap_code ≤ 10
unfolding digits_code
swap_few = omega arith

pub ensure_few : (grow : ℕ) → grow < 2 ^ 15 → length (ensure_code grow) ≤ 140
ensure_few grow h =
    let last = number_code grow ++ add ∷ [] in
    let late = number_code 2 ++ Divide ∷ Greater ∷ last in
    let a = length-append (pick_code 2) (pick_code 2 ++ late) in
    let b = length-append (pick_code 2) late in
    let c = length-append (number_code 2) (Divide ∷ Greater ∷ last) in
    let d = length-append (number_code grow) (add ∷ []) in
    let n = lane_few grow h in
    omega (arith, a, b, c, d, pair_few, two_few, n)

value_few : (k : ℕ) (v : Operand) → k < 3 → length (value_code k v) ≤ 94
value_few k (register r) h = let z = pick_few k r h in omega (arith, z)
value_few k (Imm w) h = word_few (number_of w) w.in_range

reg_and : (r : Reg) (v : Operand) (code : List Command) (m : ℕ) → length code ≤ m → length (value_code 0 (register r) ++ (value_code 1 v ++ code)) ≤ 134 + m
reg_and r v code m h =
    let a = length-append (value_code 0 (register r)) (value_code 1 v ++ code) in
    let b = length-append (value_code 1 v) code in
    omega (arith, a, b, pick_few 0 r (omega arith), value_few 1 v (omega arith), h)

and_reg : (r : Reg) (v : Operand) (code : List Command) (m : ℕ) → length code ≤ m → length (value_code 0 v ++ (value_code 1 (register r) ++ code)) ≤ 134 + m
and_reg r v code m h =
    let a = length-append (value_code 0 v) (value_code 1 (register r) ++ code) in
    let b = length-append (value_code 1 (register r)) code in
    omega (arith, a, b, pick_few 1 r (omega arith), value_few 0 v (omega arith), h)

flag_few : (test : Cond) (r : Reg) (v : Operand) → length (flag_code test r v) ≤ 137
flag_few Eq r v = let z = reg_and r v (Subtract ∷ Not ∷ []) 2 (omega arith) in omega (arith, z)
flag_few Ne r v = reg_and r v (Subtract ∷ Not ∷ Not ∷ []) 3 (omega arith)
flag_few Gt r v = let z = reg_and r v (Greater ∷ []) 1 (omega arith) in omega (arith, z)
flag_few Le r v = let z = reg_and r v (Greater ∷ Not ∷ []) 2 (omega arith) in omega (arith, z)
flag_few Lt r v = let z = and_reg r v (Greater ∷ []) 1 (omega arith) in omega (arith, z)
flag_few Ge r v = let z = and_reg r v (Greater ∷ Not ∷ []) 2 (omega arith) in omega (arith, z)

clamp_few : (blocks : ℕ) → blocks < 2 ^ 15 → length (clamp_code blocks) ≤ 155
clamp_few blocks h =
    let last = Multiply ∷ add ∷ [] in
    let late = Multiply ∷ (roll_code 3 1 ++ last) in
    let mid = Greater ∷ Duplicate ∷ Not ∷ (number_code no_lane ++ late) in
    let a = length-append (number_code blocks) (pick_code 1 ++ mid) in
    let b = length-append (pick_code 1) mid in
    let c = length-append (number_code no_lane) late in
    let d = length-append (roll_code 3 1) last in
    omega (arith, a, b, c, d, lane_few blocks h, lane_few no_lane (omega arith), pick_one, turn_few)

lane_small : (blocks k : ℕ) → blocks < 2 ^ 15 → block_lane blocks k < 2 ^ 15
lane_small blocks k h = grind (arith, nat_tests)

target_few : (blocks k : ℕ) (v : Operand) → blocks < 2 ^ 15 → k < 3 → length (target_code blocks k v) ≤ 195
target_few blocks k (register r) h low = let a = length-append (value_code k (register r)) (clamp_code blocks) in omega (arith, a, pick_few k r low, clamp_few blocks h)
target_few blocks k (Imm w) h low = let a = lane_few (block_lane blocks (number_of w)) (lane_small blocks (number_of w) h) in omega (arith, a)

choose_few : (blocks on : ℕ) (v : Operand) → blocks < 2 ^ 15 → on < 2 ^ 15 → length (choose_code blocks on v) ≤ 268
choose_few blocks on v h small =
    let last = Multiply ∷ add ∷ [] in
    let late = swap_code ++ (target_code blocks 2 v ++ last) in
    let a = length-append (number_code on) (Multiply ∷ late) in
    let b = length-append swap_code (target_code blocks 2 v ++ last) in
    let c = length-append (target_code blocks 2 v) last in
    omega (arith, a, b, c, lane_few on small, swap_few, target_few blocks 2 v h (omega arith))

-- how the lanes of an operation are numbered
pub record IsNear (w : Ways) : Type 0 where
  pub blocks : w.blocks < 2 ^ 15
  pub on : w.on < 2 ^ 15
  pub second : w.second < 2 ^ 15
  pub ensure : w.ensure < 2 ^ 15

module _ (w : Ways) (near : IsNear w) where
  put_on : (r : Reg) → length (put_reg_code r ++ number_code w.on) ≤ 98
  put_on r = let a = length-append (put_reg_code r) (number_code w.on) in omega (arith, a, put_few r, lane_few w.on near.on)

  wrapped : (r : Reg) → length (Modulo ∷ (put_reg_code r ++ number_code w.on)) ≤ 99
  wrapped r = let z = put_on r in omega (arith, z)

  access_few : (v : Operand) → length (value_code 0 v ++ (place_code ++ (number_code w.second ++ number_code w.ensure))) ≤ 480
  access_few v =
      let a = length-append (value_code 0 v) (place_code ++ (number_code w.second ++ number_code w.ensure)) in
      let b = length-append place_code (number_code w.second ++ number_code w.ensure) in
      let c = length-append (number_code w.second) (number_code w.ensure) in
      omega (arith, a, b, c, value_few 0 v (omega arith), place_few, lane_few w.second near.second, lane_few w.ensure near.ensure)

  pub op_few : (op : Op) → length (op_code w op) ≤ 480
  op_few (Mov r v) = let a = length-append (value_code 0 v) (put_reg_code r ++ number_code w.on) in omega (arith, a, value_few 0 v (omega arith), put_on r)
  op_few (Add r v) =
      let late = number_code (2 ^ 24) ++ Modulo ∷ (put_reg_code r ++ number_code w.on) in
      let a = length-append (number_code (2 ^ 24)) (Modulo ∷ (put_reg_code r ++ number_code w.on)) in
      let z = reg_and r v (add ∷ late) 160 (omega (arith, a, modulus_few, wrapped r)) in
      omega (arith, z)
  op_few (Sub r v) =
      let late = number_code (2 ^ 24) ++ Modulo ∷ (put_reg_code r ++ number_code w.on) in
      let mid = value_code 1 v ++ Subtract ∷ late in
      let a = length-append (number_code (2 ^ 24)) (Modulo ∷ (put_reg_code r ++ number_code w.on)) in
      let b = length-append (value_code 1 v) (Subtract ∷ late) in
      let c = length-append (number_code (2 ^ 24)) (add ∷ mid) in
      let d = length-append (value_code 0 (register r)) (number_code (2 ^ 24) ++ add ∷ mid) in
      omega (arith, a, b, c, d, modulus_few, wrapped r, value_few 1 v (omega arith), pick_few 0 r (omega arith))
  op_few (Load r v) = access_few v
  op_few (Store r v) = access_few v
  op_few (Putc v) = let a = length-append (value_code 0 v) (OutChar ∷ number_code w.on) in omega (arith, a, value_few 0 v (omega arith), lane_few w.on near.on)
  op_few (Getc r) = let z = put_on r in omega (arith, z)
  op_few Exit = let z = lane_few no_lane (omega arith) in omega (arith, z)
  op_few (Set test r v) = let a = length-append (flag_code test r v) (put_reg_code r ++ number_code w.on) in omega (arith, a, flag_few test r v, put_on r)
  op_few (Jump v) = let z = target_few w.blocks 0 v near.blocks (omega arith) in omega (arith, z)
  op_few (JumpIf test target r v) = let a = length-append (flag_code test r v) (choose_code w.blocks w.on target) in omega (arith, a, flag_few test r v, choose_few w.blocks w.on target near.blocks near.on)

  pub second_few : (op : Op) → length (second_code w op) ≤ 480
  second_few (Load r v) = let a = length-append (load_code r) (number_code w.on) in omega (arith, a, load_few r, lane_few w.on near.on)
  second_few (Store r v) = let a = length-append (store_code r) (number_code w.on) in omega (arith, a, store_few r, lane_few w.on near.on)
  second_few (Mov r v) = omega arith
  second_few (Add r v) = omega arith
  second_few (Sub r v) = omega arith
  second_few (Putc v) = omega arith
  second_few (Getc r) = omega arith
  second_few Exit = omega arith
  second_few (Set test r v) = omega arith
  second_few (Jump v) = omega arith
  second_few (JumpIf test target r v) = omega arith
