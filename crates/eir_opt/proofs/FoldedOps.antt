-- A folded operation does what the operation does.
use Rattle.std.proofs.Common.{◌≡◌, ℕ, ◌%◌, ◌^◌, true, false, cond, [], ◌∷◌, Option, None, Some, refl, sym, ap, ◌∙◌, arith}
use Rattle.std.specs.Option.{option_map_or}
use Rattle.word24.specs.declared.word.Word.{Word}
use Rattle.word24.specs.Word.{number_of, sum_word, difference_word}
use Rattle.eir_core.specs.declared.ops.Reg.{Reg}
use Rattle.eir_core.specs.declared.ops.Operand.{Operand}
use Rattle.eir_core.specs.declared.ops.Operand.TheVariants.{Reg as register, Imm}
use Rattle.eir_core.specs.declared.ops.Cond.{Cond}
use Rattle.eir_core.specs.declared.ops.Op.{Op}
use Rattle.eir_core.specs.declared.ops.Op.TheVariants.{Mov, Add, Sub, Load, Store, Putc, Getc, Exit, Set, Jump, JumpIf}
use Rattle.eir_core.specs.Memory.{Memory, word_at, with_word}
use Rattle.eir_core.specs.Reach.{near_of}
use Rattle.eir_core.specs.Step.{Regs, reg_of, with_reg, value_of, holds, takes, bytes_of}
use Rattle.word24.specs.Word.{near}
use Rattle.eir_opt.specs.ByRegister.{at}
use Rattle.eir_opt.specs.Folding.{Known, wrapped, constant_in, operand_in, made, told, mov_or, folded_op}
use Rattle.eir_opt.proofs.Effects.{regs_after, memory_after, target_of}
use Rattle.eir_opt.proofs.KnownWords.{Holds}

-- the second operation does what the first does, at these registers
pub record DoesAs (regs : Regs) (op op' : Op) : Type 0 where
  pub regs_same : (memory : Memory) (byte : ℕ) → regs_after op' regs memory byte ≡ regs_after op regs memory byte
  pub memory_same : (memory : Memory) → memory_after op' regs memory ≡ memory_after op regs memory
  pub target_same : (count : ℕ) → target_of count op' regs ≡ target_of count op regs
  pub takes_same : takes (Some op') ≡ takes (Some op)
  pub writes_same : bytes_of regs (Some op') ≡ bytes_of regs (Some op)
  pub near_same : near_of regs (Some op') ≡ near_of regs (Some op)

-- a known operand is its constant
constant_in-value : (known : Known) (regs : Regs) (v : Operand) (w : Word) → Holds known regs → constant_in known v ≡ Some w → value_of regs v ≡ number_of w
constant_in-value known regs (register r) w h e = h r w e
constant_in-value known regs (Imm u) w h e = let same : u ≡ w = cc in ap number_of same

operand_in-value : (known : Known) (regs : Regs) (v : Operand) → Holds known regs → value_of regs (operand_in known v) ≡ value_of regs v
operand_in-value known regs v h =
    elim (constant_in known v) as (λ o. constant_in known v ≡ o → value_of regs (option_map_or Imm o v) ≡ value_of regs v)
    [ None ↦ λ e. refl | Some w ↦ λ e. sym (constant_in-value known regs v w h e) ] refl

-- what is made of two words is known only where they are
made_cases : (f : ℕ → ℕ → ℕ) (x y : Option Word) (P : Option Word → Type 0)
    → P None → ((u w : Word) → x ≡ Some u → y ≡ Some w → P (Some (wrapped (f (number_of u) (number_of w))))) → P (made f x y)
made_cases f (Some u) (Some w) P none some = some u w refl refl
made_cases f (Some u) None P none some = none
made_cases f None y P none some = none

pub mov_or_cases : (r : Reg) (o : Option Word) (op : Op) (P : Op → Type 0) → P op → ((w : Word) → P (Mov r (Imm w))) → P (mov_or r o op)
mov_or_cases r (Some w) op P none some = some w
mov_or_cases r None op P none some = none

-- a result that is known is moved
settled : (known : Known) (regs : Regs) (f : ℕ → ℕ → ℕ) (r : Reg) (v : Operand) (op op' : Op) → Holds known regs
    → ((x y : ℕ) → f x y % 2 ^ 24 ≡ f x y)
    → DoesAs regs op op'
    → ((n : ℕ) → n ≡ f (reg_of regs r) (value_of regs v) → (w : Word) → number_of w ≡ n → DoesAs regs op (Mov r (Imm w)))
    → DoesAs regs op (mov_or r (made f (at known r) (constant_in known v)) op')
settled known regs f r v op op' h word kept moves =
    made_cases f (at known r) (constant_in known v) (λ o. DoesAs regs op (mov_or r o op')) kept
    (λ u w first second.
    let x : reg_of regs r ≡ number_of u = h r u first in
    let y : value_of regs v ≡ number_of w = constant_in-value known regs v w h second in
    let n : f (number_of u) (number_of w) ≡ f (reg_of regs r) (value_of regs v) = ap (λ k. f k (number_of w)) (sym x) ∙ ap (f (reg_of regs r)) (sym y) in
    moves (f (number_of u) (number_of w)) n (wrapped (f (number_of u) (number_of w))) (word (number_of u) (number_of w)))

told_word : (test : Cond) (x y : ℕ) → told test x y % 2 ^ 24 ≡ told test x y
told_word test x y = elim (holds test x y) as (λ b. cond b 1 0 % 2 ^ 24 ≡ cond b 1 0) [ true ↦ refl | false ↦ refl ]

sum_word-word : (x y : ℕ) → sum_word x y % 2 ^ 24 ≡ sum_word x y
sum_word-word x y = omega arith

difference_word-word : (x y : ℕ) → difference_word x y % 2 ^ 24 ≡ difference_word x y
difference_word-word x y = omega arith

-- a folded operation does what the operation does, where the known registers hold their words
pub folded_op-DoesAs : (known : Known) (regs : Regs) (op : Op) → Holds known regs → DoesAs regs op (folded_op known op)
folded_op-DoesAs known regs (Mov r v) h = record {
  regs_same = λ memory byte. ap (with_reg regs r) (operand_in-value known regs v h);
  memory_same = λ memory. refl;
  target_same = λ count. refl;
  takes_same = refl;
  writes_same = refl;
  near_same = refl;
}
folded_op-DoesAs known regs (Add r v) h =
    settled known regs sum_word r v (Add r v) (Add r (operand_in known v)) h sum_word-word
    (record {
      regs_same = λ memory byte. ap (λ n. with_reg regs r (sum_word (reg_of regs r) n)) (operand_in-value known regs v h);
      memory_same = λ memory. refl;
      target_same = λ count. refl;
      takes_same = refl;
      writes_same = refl;
      near_same = refl;
    })
    (λ n is w number. record {
      regs_same = λ memory byte. ap (with_reg regs r) (number ∙ is);
      memory_same = λ memory. refl;
      target_same = λ count. refl;
      takes_same = refl;
      writes_same = refl;
      near_same = refl;
    })
folded_op-DoesAs known regs (Sub r v) h =
    settled known regs difference_word r v (Sub r v) (Sub r (operand_in known v)) h difference_word-word
    (record {
      regs_same = λ memory byte. ap (λ n. with_reg regs r (difference_word (reg_of regs r) n)) (operand_in-value known regs v h);
      memory_same = λ memory. refl;
      target_same = λ count. refl;
      takes_same = refl;
      writes_same = refl;
      near_same = refl;
    })
    (λ n is w number. record {
      regs_same = λ memory byte. ap (with_reg regs r) (number ∙ is);
      memory_same = λ memory. refl;
      target_same = λ count. refl;
      takes_same = refl;
      writes_same = refl;
      near_same = refl;
    })
folded_op-DoesAs known regs (Load r v) h = record {
  regs_same = λ memory byte. ap (λ n. with_reg regs r (word_at memory n)) (operand_in-value known regs v h);
  memory_same = λ memory. refl;
  target_same = λ count. refl;
  takes_same = refl;
  writes_same = refl;
  near_same = ap near (operand_in-value known regs v h);
}
folded_op-DoesAs known regs (Store r v) h = record {
  regs_same = λ memory byte. refl;
  memory_same = λ memory. ap (λ n. with_word memory n (reg_of regs r)) (operand_in-value known regs v h);
  target_same = λ count. refl;
  takes_same = refl;
  writes_same = refl;
  near_same = ap near (operand_in-value known regs v h);
}
folded_op-DoesAs known regs (Putc v) h = record {
  regs_same = λ memory byte. refl;
  memory_same = λ memory. refl;
  target_same = λ count. refl;
  takes_same = refl;
  writes_same = ap (λ n. n % 2 ^ 8 ∷ []) (operand_in-value known regs v h);
  near_same = refl;
}
folded_op-DoesAs known regs (Getc r) h = record {
  regs_same = λ memory byte. refl;
  memory_same = λ memory. refl;
  target_same = λ count. refl;
  takes_same = refl;
  writes_same = refl;
  near_same = refl;
}
folded_op-DoesAs known regs Exit h = record {
  regs_same = λ memory byte. refl;
  memory_same = λ memory. refl;
  target_same = λ count. refl;
  takes_same = refl;
  writes_same = refl;
  near_same = refl;
}
folded_op-DoesAs known regs (Set test r v) h =
    settled known regs (told test) r v (Set test r v) (Set test r (operand_in known v)) h (told_word test)
    (record {
      regs_same = λ memory byte. ap (λ n. with_reg regs r (told test (reg_of regs r) n)) (operand_in-value known regs v h);
      memory_same = λ memory. refl;
      target_same = λ count. refl;
      takes_same = refl;
      writes_same = refl;
      near_same = refl;
    })
    (λ n is w number. record {
      regs_same = λ memory byte. ap (with_reg regs r) (number ∙ is);
      memory_same = λ memory. refl;
      target_same = λ count. refl;
      takes_same = refl;
      writes_same = refl;
      near_same = refl;
    })
folded_op-DoesAs known regs (Jump target) h = record {
  regs_same = λ memory byte. refl;
  memory_same = λ memory. refl;
  target_same = λ count. ap Some (operand_in-value known regs target h);
  takes_same = refl;
  writes_same = refl;
  near_same = refl;
}
folded_op-DoesAs known regs (JumpIf test target r v) h = record {
  regs_same = λ memory byte. refl;
  memory_same = λ memory. refl;
  target_same = λ count.
      ap (λ n. cond (holds test (reg_of regs r) n) (Some (value_of regs (operand_in known target))) None) (operand_in-value known regs v h)
      ∙ ap (λ n. cond (holds test (reg_of regs r) (value_of regs v)) (Some n) None) (operand_in-value known regs target h);
  takes_same = refl;
  writes_same = refl;
  near_same = refl;
}
