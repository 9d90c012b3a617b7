-- An address goes on by some words.
use Rattle.std.proofs.Common.{◌≡◌, ℕ, zero, suc, ◌%◌, ◌^◌, List, [], ◌∷◌, ◌++◌, refl, sym, ap, subst, append-nil, arith}
use Rattle.std.proofs.lemmas.Bool.Decides.{nat_tests}
use Rattle.std.specs.Prelude.{Result, OnOk, true, false, nat_le}
use Rattle.word24.specs.declared.word.Word.{Word}
use Rattle.word24.specs.Word.{number_of}
use Rattle.eir_core.specs.declared.ops.Reg.TheVariants.{A}
use Rattle.eir_core.specs.declared.ops.Operand.TheVariants.{Imm}
use Rattle.eir_core.specs.declared.ops.Op.{Op}
use Rattle.eir_core.specs.declared.ops.Op.TheVariants.{Add}
use Rattle.c_lowered.specs.Operations.{wrapped, moved_on}
use Rattle.c_addressing.proofs.SameLemmas.{same_word}

none_left : (n : ℕ) → nat_le n 0 ≡ true → n ≡ 0
none_left n h = grind (arith, nat_tests)

pub none_on : (ops : List Op) (n : ℕ) → nat_le n 0 ≡ true → ops ≡ ops ++ moved_on n
none_on ops n h = subst (λ (k : ℕ). ops ≡ ops ++ moved_on k) (sym (none_left n h)) (sym (append-nil ops))

pub some_on : {T E : Type 0} (r : Result T E) (old new : List Op) (w : Word) (n : ℕ) → nat_le n 0 ≡ false → number_of w ≡ n % 2 ^ 24 → OnOk r (new ≡ old ++ Add A (Imm w) ∷ []) → OnOk r (new ≡ old ++ moved_on n)
some_on r old new w zero h e f = absurd cc
some_on r old new w (suc n) h e f = subst (λ (v : Word). OnOk r (new ≡ old ++ Add A (Imm v) ∷ [])) (same_word w (wrapped (suc n)) e) f
