-- An operation does the same where the registers that it reads agree.
use Rattle.std.proofs.Common.{◌≡◌, ◌⊎◌, inl, inr, ℕ, ◌%◌, ◌^◌, Bool, true, false, cond, not, ◌||◌, List, [], ◌∷◌, Option, None, Some, refl, ap, ◌∙◌}
use Rattle.std.proofs.lemmas.Bool.{or_left, or_right, or_from, and_left, and_right, not_from_true}
use Rattle.word24.specs.Word.{sum_word, difference_word, near}
use Rattle.eir_core.specs.declared.ops.Reg.{Reg}
use Rattle.eir_core.specs.declared.ops.Operand.{Operand}
use Rattle.eir_core.specs.declared.ops.Operand.TheVariants.{Reg as register, Imm}
use Rattle.eir_core.specs.declared.ops.Op.{Op}
use Rattle.eir_core.specs.declared.ops.Op.TheVariants.{Mov, Add, Sub, Load, Store, Putc, Getc, Exit, Set, Jump, JumpIf}
use Rattle.eir_core.specs.Eir.{is_jump}
use Rattle.eir_core.specs.Memory.{Memory, word_at, with_word}
use Rattle.eir_core.specs.Reach.{near_of}
use Rattle.eir_core.specs.Step.{Regs, reg_of, value_of, holds, bytes_of}
use Rattle.eir_opt.specs.Trimming.{is_same, is_register, reads, overwrites, is_overwritten}
use Rattle.eir_opt.proofs.OneRegister.{is_same-self, set_agrees}
use Rattle.eir_opt.proofs.Effects.{regs_after, memory_after, target_of}

-- two sets of registers agree at each of which this is true
abbrev pub AgreeOn : (Reg → Bool) → Regs → Regs → Type 0
AgreeOn test x y = (r : Reg) → test r ≡ true → reg_of y r ≡ reg_of x r

-- what an operation does at the second registers is what it does at the first
pub record SeesAs (op : Op) (x y : Regs) : Type 0 where
  pub memory_same : (memory : Memory) → memory_after op y memory ≡ memory_after op x memory
  pub target_same : (count : ℕ) → target_of count op y ≡ target_of count op x
  pub writes_same : bytes_of y (Some op) ≡ bytes_of x (Some op)
  pub near_same : near_of y (Some op) ≡ near_of x (Some op)
  pub result_same : (memory : Memory) (byte : ℕ) (r : Reg) → (overwrites op r ≡ false → reg_of y r ≡ reg_of x r) → reg_of (regs_after op y memory byte) r ≡ reg_of (regs_after op x memory byte) r

value_agrees : (v : Operand) (x y : Regs) → AgreeOn (is_register v) x y → value_of y v ≡ value_of x v
value_agrees (register r) x y h = h r (is_same-self r)
value_agrees (Imm w) x y h = refl

-- the register and the operand of an operation that reads both
both_agree : (r : Reg) (v : Operand) (x y : Regs) → AgreeOn (λ z. is_same r z || is_register v z) x y → (reg_of y r ≡ reg_of x r) × (value_of y v ≡ value_of x v)
both_agree r v x y h = (h r (or_left (is_same r r) (is_register v r) (is_same-self r)), value_agrees v x y (λ z e. h z (or_right (is_same r z) (is_register v z) e)))

pub sees_as : (op : Op) (x y : Regs) → AgreeOn (reads op) x y → SeesAs op x y
sees_as (Mov r v) x y h = record {
  memory_same = λ memory. refl;
  target_same = λ count. refl;
  writes_same = refl;
  near_same = refl;
  result_same = λ memory byte z other. set_agrees x y r _ _ z (value_agrees v x y h) other;
}
sees_as (Add r v) x y h =
    let both = both_agree r v x y h in
    record {
      memory_same = λ memory. refl;
      target_same = λ count. refl;
      writes_same = refl;
      near_same = refl;
      result_same = λ memory byte z other.
          set_agrees x y r (sum_word (reg_of x r) (value_of x v)) (sum_word (reg_of y r) (value_of y v)) z
          (ap (λ n. sum_word n (value_of y v)) both.0 ∙ ap (sum_word (reg_of x r)) both.1) (λ _. other refl);
    }
sees_as (Sub r v) x y h =
    let both = both_agree r v x y h in
    record {
      memory_same = λ memory. refl;
      target_same = λ count. refl;
      writes_same = refl;
      near_same = refl;
      result_same = λ memory byte z other.
          set_agrees x y r (difference_word (reg_of x r) (value_of x v)) (difference_word (reg_of y r) (value_of y v)) z
          (ap (λ n. difference_word n (value_of y v)) both.0 ∙ ap (difference_word (reg_of x r)) both.1) (λ _. other refl);
    }
sees_as (Load r v) x y h = record {
  memory_same = λ memory. refl;
  target_same = λ count. refl;
  writes_same = refl;
  near_same = ap near (value_agrees v x y h);
  result_same = λ memory byte z other. set_agrees x y r _ _ z (ap (word_at memory) (value_agrees v x y h)) other;
}
sees_as (Store r v) x y h =
    let both = both_agree r v x y h in
    record {
      memory_same = λ memory. ap (λ n. with_word memory n (reg_of y r)) both.1 ∙ ap (with_word memory (value_of x v)) both.0;
      target_same = λ count. refl;
      writes_same = refl;
      near_same = ap near both.1;
      result_same = λ memory byte z other. other refl;
    }
sees_as (Putc v) x y h = record {
  memory_same = λ memory. refl;
  target_same = λ count. refl;
  writes_same = ap (λ n. n % 2 ^ 8 ∷ []) (value_agrees v x y h);
  near_same = refl;
  result_same = λ memory byte z other. other refl;
}
sees_as (Getc r) x y h = record {
  memory_same = λ memory. refl;
  target_same = λ count. refl;
  writes_same = refl;
  near_same = refl;
  result_same = λ memory byte z other. set_agrees x y r byte byte z refl other;
}
sees_as Exit x y h = record {
  memory_same = λ memory. refl;
  target_same = λ count. refl;
  writes_same = refl;
  near_same = refl;
  result_same = λ memory byte z other. other refl;
}
sees_as (Set test r v) x y h =
    let both = both_agree r v x y h in
    let told : ℕ → ℕ → ℕ = λ n m. cond (holds test n m) 1 0 in
    record {
      memory_same = λ memory. refl;
      target_same = λ count. refl;
      writes_same = refl;
      near_same = refl;
      result_same = λ memory byte z other.
          set_agrees x y r (told (reg_of x r) (value_of x v)) (told (reg_of y r) (value_of y v)) z
          (ap (λ n. told n (value_of y v)) both.0 ∙ ap (told (reg_of x r)) both.1) (λ _. other refl);
    }
sees_as (Jump target) x y h = record {
  memory_same = λ memory. refl;
  target_same = λ count. ap Some (value_agrees target x y h);
  writes_same = refl;
  near_same = refl;
  result_same = λ memory byte z other. other refl;
}
sees_as (JumpIf test target r v) x y h =
    let goal = value_agrees target x y (λ z e. h z (or_left (is_register target z) (is_same r z || is_register v z) e)) in
    let both = both_agree r v x y (λ z e. h z (or_right (is_register target z) (is_same r z || is_register v z) e)) in
    let goes : ℕ → ℕ → ℕ → Option ℕ = λ n m k. cond (holds test n m) (Some k) None in
    record {
      memory_same = λ memory. refl;
      target_same = λ count.
          ap (λ n. goes n (value_of y v) (value_of y target)) both.0
          ∙ (ap (λ m. goes (reg_of x r) m (value_of y target)) both.1 ∙ ap (goes (reg_of x r) (value_of x v)) goal);
      writes_same = refl;
      near_same = refl;
      result_same = λ memory byte z other. other refl;
    }

-- two sets of registers agree at each that the operations don't overwrite
abbrev pub Agree : List Op → Regs → Regs → Type 0
Agree kept x y = (r : Reg) → is_overwritten kept r ≡ false → reg_of y r ≡ reg_of x r

pub agree-reads : (op : Op) (kept : List Op) (x y : Regs) → Agree (op ∷ kept) x y → AgreeOn (reads op) x y
agree-reads op kept x y h r read = h r (and_left (not (reads op r)) (overwrites op r || is_overwritten kept r) (not_from_true (reads op r) read))

-- a kept operation leads from agreement to agreement
pub agree_after : (op : Op) (kept : List Op) (x y : Regs) (memory : Memory) (byte : ℕ) → Agree (op ∷ kept) x y → Agree kept (regs_after op x memory byte) (regs_after op y memory byte)
agree_after op kept x y memory byte h r later =
    (sees_as op x y (agree-reads op kept x y h)).result_same memory byte r
    (λ unset. h r (and_right (not (reads op r)) (overwrites op r || is_overwritten kept r) (or_from (overwrites op r) (is_overwritten kept r) unset later)))

-- an operation that goes elsewhere is a jump or goes behind the last block
pub goes_elsewhere : (op : Op) (count k : ℕ) (regs : Regs) → target_of count op regs ≡ Some k → (is_jump op ≡ true) ⊎ (k ≡ count)
goes_elsewhere (Jump target) count k regs e = inl refl
goes_elsewhere (JumpIf test target r v) count k regs e = inl refl
goes_elsewhere Exit count k regs e = inr (cc)
goes_elsewhere (Mov r v) count k regs e = absurd (cc)
goes_elsewhere (Add r v) count k regs e = absurd (cc)
goes_elsewhere (Sub r v) count k regs e = absurd (cc)
goes_elsewhere (Load r v) count k regs e = absurd (cc)
goes_elsewhere (Store r v) count k regs e = absurd (cc)
goes_elsewhere (Putc v) count k regs e = absurd (cc)
goes_elsewhere (Getc r) count k regs e = absurd (cc)
goes_elsewhere (Set test r v) count k regs e = absurd (cc)
