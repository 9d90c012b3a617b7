-- What the code of values, registers, comparisons and targets makes of the stack.
use Rattle.std.proofs.Common.{◌≡◌, ℕ, zero, suc, ◌+◌, ◌-◌, ◌*◌, ◌^◌, ◌<◌, ◌≤◌, Bool, true, false, not, cond, List, [], ◌∷◌, ◌++◌, length, pos, ℤ, refl, sym, ap, subst, ◌∙◌, arith, append_assoc}
use Rattle.std.specs.Prelude.{nat_lt, nat_le, nat_eq}
use Rattle.std.proofs.lemmas.Bool.Decides.{nat_tests}
use Rattle.std.proofs.lemmas.List.{length-append}
use Rattle.word24.specs.Word.{number_of}
use Rattle.eir_core.specs.declared.ops.Reg.{Reg}
use Rattle.eir_core.specs.declared.ops.Reg.TheVariants.{A, B, C, D, SP, BP}
use Rattle.eir_core.specs.declared.ops.Operand.{Operand}
use Rattle.eir_core.specs.declared.ops.Operand.TheVariants.{Reg as register, Imm}
use Rattle.eir_core.specs.declared.ops.Cond.{Cond}
use Rattle.eir_core.specs.declared.ops.Cond.TheVariants.{Eq, Ne, Lt, Gt, Le, Ge}
use Rattle.eir_core.specs.Step.{Regs, reg_of, with_reg, value_of, holds}
use Rattle.piet_lane.specs.declared.command.Command.{Command}
use Rattle.piet_stack.specs.Code.{number_code, pick_code, reg_index, value_code, put_reg_code, flag_code, no_lane, block_lane, clamp_code, target_code, choose_code}
use Rattle.piet_stack.specs.Makes.{Makes}
use Rattle.piet_stack.specs.Stack.{regs_stack}
use Rattle.piet_stack.proofs.Effects.{next, named, from_named, number, pick, place, bit, add, multiply, greater, negate, same, duplicate, roll, swap}

-- a value under some others and then more
pub pick_under : (depth : ℕ) (above pre : List ℤ) (v : ℤ) (rest : List ℤ) → length above + length pre ≡ depth → 1 ≤ depth → depth < 2 ^ 24 → Makes (pick_code depth) (above ++ (pre ++ v ∷ rest)) (v ∷ (above ++ (pre ++ v ∷ rest)))
pick_under depth above pre v rest e some small =
    let whole = append_assoc above pre (v ∷ rest) in
    let size : length (above ++ pre) ≡ depth = length-append above pre ∙ e in
    subst (λ (z : List ℤ). Makes (pick_code depth) z (v ∷ z)) whole (pick depth (above ++ pre) v rest size some small)

pub bit_small : (b : Bool) → bit b ≤ 1
bit_small true = omega arith
bit_small false = omega arith

-- a factor that is 1 or 0
pub times_bit : (a t : ℕ) → t ≤ 1 → a * t ≤ a
times_bit a zero h = omega arith
times_bit a (suc zero) h = omega arith
times_bit a (suc (suc t)) h = absurd (omega arith)

pub bit_times : (a t : ℕ) → t ≤ 1 → t * a ≤ a
bit_times a zero h = omega arith
bit_times a (suc zero) h = omega arith
bit_times a (suc (suc t)) h = absurd (omega arith)

module _ (n : ℕ) (mem : List ℤ) where
  abbrev pub bed : Regs → List ℤ
  bed regs = pos n ∷ (regs_stack regs ++ mem)

  pub pick_reg : (regs : Regs) (k : ℕ) (above : List ℤ) (r : Reg) → length above ≡ k → k < 10 → Makes (pick_code (k + 1 + reg_index r)) (above ++ bed regs) (pos (reg_of regs r) ∷ (above ++ bed regs))
  pick_reg regs k above A e h = pick_under (k + 1 + 0) above (pos n ∷ []) (pos regs.a) (pos regs.b ∷ pos regs.c ∷ pos regs.d ∷ pos regs.sp ∷ pos regs.bp ∷ mem) (omega (arith, e)) (omega arith) (omega arith)
  pick_reg regs k above B e h = pick_under (k + 1 + 1) above (pos n ∷ pos regs.a ∷ []) (pos regs.b) (pos regs.c ∷ pos regs.d ∷ pos regs.sp ∷ pos regs.bp ∷ mem) (omega (arith, e)) (omega arith) (omega arith)
  pick_reg regs k above C e h = pick_under (k + 1 + 2) above (pos n ∷ pos regs.a ∷ pos regs.b ∷ []) (pos regs.c) (pos regs.d ∷ pos regs.sp ∷ pos regs.bp ∷ mem) (omega (arith, e)) (omega arith) (omega arith)
  pick_reg regs k above D e h = pick_under (k + 1 + 3) above (pos n ∷ pos regs.a ∷ pos regs.b ∷ pos regs.c ∷ []) (pos regs.d) (pos regs.sp ∷ pos regs.bp ∷ mem) (omega (arith, e)) (omega arith) (omega arith)
  pick_reg regs k above SP e h = pick_under (k + 1 + 4) above (pos n ∷ pos regs.a ∷ pos regs.b ∷ pos regs.c ∷ pos regs.d ∷ []) (pos regs.sp) (pos regs.bp ∷ mem) (omega (arith, e)) (omega arith) (omega arith)
  pick_reg regs k above BP e h = pick_under (k + 1 + 5) above (pos n ∷ pos regs.a ∷ pos regs.b ∷ pos regs.c ∷ pos regs.d ∷ pos regs.sp ∷ []) (pos regs.bp) mem (omega (arith, e)) (omega arith) (omega arith)

  pub put_reg : (regs : Regs) (r : Reg) (w : ℕ) → Makes (put_reg_code r) (pos w ∷ bed regs) (bed (with_reg regs r w))
  put_reg regs A w = place 1 (pos w) (pos n ∷ []) (pos regs.a) (pos regs.b ∷ pos regs.c ∷ pos regs.d ∷ pos regs.sp ∷ pos regs.bp ∷ mem) refl (omega arith)
  put_reg regs B w = place 2 (pos w) (pos n ∷ pos regs.a ∷ []) (pos regs.b) (pos regs.c ∷ pos regs.d ∷ pos regs.sp ∷ pos regs.bp ∷ mem) refl (omega arith)
  put_reg regs C w = place 3 (pos w) (pos n ∷ pos regs.a ∷ pos regs.b ∷ []) (pos regs.c) (pos regs.d ∷ pos regs.sp ∷ pos regs.bp ∷ mem) refl (omega arith)
  put_reg regs D w = place 4 (pos w) (pos n ∷ pos regs.a ∷ pos regs.b ∷ pos regs.c ∷ []) (pos regs.d) (pos regs.sp ∷ pos regs.bp ∷ mem) refl (omega arith)
  put_reg regs SP w = place 5 (pos w) (pos n ∷ pos regs.a ∷ pos regs.b ∷ pos regs.c ∷ pos regs.d ∷ []) (pos regs.sp) (pos regs.bp ∷ mem) refl (omega arith)
  put_reg regs BP w = place 6 (pos w) (pos n ∷ pos regs.a ∷ pos regs.b ∷ pos regs.c ∷ pos regs.d ∷ pos regs.sp ∷ []) (pos regs.bp) mem refl (omega arith)

  pub value : (regs : Regs) (k : ℕ) (above : List ℤ) (v : Operand) → length above ≡ k → k < 10 → Makes (value_code k v) (above ++ bed regs) (pos (value_of regs v) ∷ (above ++ bed regs))
  value regs k above (register r) e h = pick_reg regs k above r e h
  value regs k above (Imm w) e h = number (number_of w) (above ++ bed regs) (let z = w.in_range in omega arith)

  module _ (regs : Regs) (small : (v : Operand) → value_of regs v < 2 ^ 24) where
    abbrev x_of : Reg → ℕ
    x_of r = reg_of regs r

    not_lt : (x y : ℕ) → bit (nat_eq (bit (nat_lt y x)) 0) ≡ bit (nat_le x y)
    not_lt x y = grind (arith, nat_tests)

    not_eq : (x y : ℕ) → bit (nat_eq (bit (nat_eq x y)) 0) ≡ bit (not (nat_eq x y))
    not_eq x y = grind (arith, nat_tests)

    both : (u v : Operand) → Makes (value_code 0 u ++ value_code 1 v) (bed regs) (pos (value_of regs v) ∷ pos (value_of regs u) ∷ bed regs)
    both u v = next (value regs 0 [] u refl (omega arith)) (value regs 1 (pos (value_of regs u) ∷ []) v refl (omega arith))

    behind : {code : List Command} {t : List ℤ} (u v : Operand) → Makes code (pos (value_of regs v) ∷ pos (value_of regs u) ∷ bed regs) t → Makes (value_code 0 u ++ (value_code 1 v ++ code)) (bed regs) t
    behind u v more = next (value regs 0 [] u refl (omega arith)) (next (value regs 1 (pos (value_of regs u) ∷ []) v refl (omega arith)) more)

    pub flag : (test : Cond) (r : Reg) (v : Operand) → Makes (flag_code test r v) (bed regs) (pos (bit (holds test (reg_of regs r) (value_of regs v))) ∷ bed regs)
    flag Eq r v = let a = small (register r) in let b = small v in behind (register r) v (same (reg_of regs r) (value_of regs v) (bed regs) (omega arith) (omega arith))
    flag Ne r v =
        let a = small (register r) in
        let b = small v in
        named (behind (register r) v (next (same (reg_of regs r) (value_of regs v) (bed regs) (omega arith) (omega arith)) (negate (bit (nat_eq (reg_of regs r) (value_of regs v))) (bed regs))))
        (ap (λ k. pos k ∷ bed regs) (not_eq (reg_of regs r) (value_of regs v)))
    flag Gt r v = behind (register r) v (greater (reg_of regs r) (value_of regs v) (bed regs))
    flag Le r v =
        named (behind (register r) v (next (greater (reg_of regs r) (value_of regs v) (bed regs)) (negate (bit (nat_lt (value_of regs v) (reg_of regs r))) (bed regs))))
        (ap (λ k. pos k ∷ bed regs) (not_lt (reg_of regs r) (value_of regs v)))
    flag Lt r v = behind v (register r) (greater (value_of regs v) (reg_of regs r) (bed regs))
    flag Ge r v =
        named (behind v (register r) (next (greater (value_of regs v) (reg_of regs r) (bed regs)) (negate (bit (nat_lt (reg_of regs r) (value_of regs v))) (bed regs))))
        (ap (λ k. pos k ∷ bed regs) (not_lt (value_of regs v) (reg_of regs r)))

-- the lane of a block in the place of its number
clamped : (blocks x : ℕ) → bit (nat_eq (bit (nat_lt x blocks)) 0) * no_lane + x * bit (nat_lt x blocks) ≡ block_lane blocks x
clamped blocks x = go (nat_lt x blocks)
  where
    go : (b : Bool) → bit (nat_eq (bit b) 0) * no_lane + x * bit b ≡ cond b x no_lane
    go true = omega arith
    go false = omega arith

pub clamp : (blocks x : ℕ) (s : List ℤ) → blocks < 2 ^ 15 → x < 2 ^ 24 → Makes (clamp_code blocks) (pos x ∷ s) (pos (block_lane blocks x) ∷ s)
clamp blocks x s small word =
    let f = bit (nat_lt x blocks) in
    let u = bit (nat_eq f 0) in
    let m = u * no_lane in
    let f_small = bit_small (nat_lt x blocks) in
    let u_small = bit_small (nat_eq f 0) in
    let m_small : u * no_lane ≤ no_lane = bit_times no_lane u u_small in
    let p_small : x * f ≤ x = times_bit x f f_small in
    named (next (number blocks (pos x ∷ s) (omega arith))
    (next (pick 1 (pos blocks ∷ []) (pos x) s refl (omega arith) (omega arith))
    (next (greater blocks x (pos x ∷ s))
    (next (duplicate (pos f) (pos x ∷ s))
    (next (negate f (pos f ∷ pos x ∷ s))
    (next (number no_lane (pos u ∷ pos f ∷ pos x ∷ s) (omega arith))
    (next (multiply u no_lane (pos f ∷ pos x ∷ s) (omega (arith, m_small)))
    (next (roll 3 1 (pos m ∷ []) (pos f ∷ pos x ∷ []) s refl refl (omega arith) (omega arith) (omega arith))
    (next (multiply x f (pos m ∷ s) (omega (arith, p_small, word)))
    (add m (x * f) s (omega (arith, p_small, m_small, word))))))))))))
    (ap (λ k. pos k ∷ s) (clamped blocks x))

pub lane_small : (blocks k : ℕ) → blocks < 2 ^ 15 → block_lane blocks k < 2 ^ 15
lane_small blocks k h = grind (arith, nat_tests)

pub target : (n : ℕ) (mem : List ℤ) (regs : Regs) (k blocks : ℕ) (above : List ℤ) (v : Operand) → length above ≡ k → k < 10 → blocks < 2 ^ 15 → value_of regs v < 2 ^ 24
    → Makes (target_code blocks k v) (above ++ bed n mem regs) (pos (block_lane blocks (value_of regs v)) ∷ (above ++ bed n mem regs))
target n mem regs k blocks above (register r) e h small word = next (value n mem regs k above (register r) e h) (clamp blocks (reg_of regs r) (above ++ bed n mem regs) small word)
target n mem regs k blocks above (Imm w) e h small word = number (block_lane blocks (number_of w)) (above ++ bed n mem regs) (let z = lane_small blocks (number_of w) small in omega arith)

chosen : (b : Bool) (x on : ℕ) → bit (nat_eq (bit b) 0) * on + bit b * x ≡ cond b x on
chosen true x on = omega arith
chosen false x on = omega arith

pub choose : (n : ℕ) (mem : List ℤ) (regs : Regs) (blocks on : ℕ) (b : Bool) (v : Operand) → blocks < 2 ^ 15 → on < 2 ^ 15 → value_of regs v < 2 ^ 24
    → Makes (choose_code blocks on v) (pos (bit b) ∷ bed n mem regs) (pos (cond b (block_lane blocks (value_of regs v)) on) ∷ bed n mem regs)
choose n mem regs blocks on b v small near word =
    let s = bed n mem regs in
    let t = bit b in
    let u = bit (nat_eq t 0) in
    let m = u * on in
    let x = block_lane blocks (value_of regs v) in
    let m_small : u * on ≤ on = bit_times on u (bit_small (nat_eq t 0)) in
    let x_small = lane_small blocks (value_of regs v) small in
    let p_small : t * x ≤ x = bit_times x t (bit_small b) in
    named (next (duplicate (pos t) s)
    (next (negate t (pos t ∷ s))
    (next (number on (pos u ∷ pos t ∷ s) (omega arith))
    (next (multiply u on (pos t ∷ s) (omega (arith, m_small, near)))
    (next (swap (pos m) (pos t) s)
    (next (target n mem regs 2 blocks (pos t ∷ pos m ∷ []) v refl (omega arith) small word)
    (next (multiply t x (pos m ∷ s) (omega (arith, p_small, x_small)))
    (add m (t * x) s (omega (arith, p_small, m_small, x_small, near))))))))))
    (ap (λ k. pos k ∷ s) (chosen b x on))
