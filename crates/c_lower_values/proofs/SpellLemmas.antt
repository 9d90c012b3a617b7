-- Known words of a frame, one behind the other.
use Rattle.std.proofs.Common.{◌≡◌, ℕ, suc, ◌+◌, ◌-◌, ◌<◌, ◌≤◌, get_or, add-one, drop-cons, List, [], ◌∷◌, ◌++◌, length, drop, replicate, sym, ap, ◌∙◌, append_assoc, append-nil, arith}
use Rattle.eir_core.specs.declared.ops.Reg.TheVariants.{A}
use Rattle.eir_core.specs.declared.ops.Op.{Op}
use Rattle.eir_core.specs.declared.ops.Op.TheVariants.{Mov}
use Rattle.c_lowered.specs.Locations.{Framed}
use Rattle.c_lowered.specs.Operations.{constant, store_to}
use Rattle.c_lowered.specs.Statements.{spelled}
use Rattle.c_counted.specs.Numbers.{IsNumber}
use Rattle.c_addressing.specs.declared.here.Output.{Output}
use Rattle.c_addressing.specs.Here.{Emits}
use Rattle.c_addressing.proofs.HereLemmas.{as_code}
use Rattle.c_applied.proofs.LeadsLemmas.{nothing, then_piece, told_block}

-- the first words are written, and what is left stands behind them
pub record IsSpelled (a b : Output) (place : ℕ) (all left : List ℕ) (n : ℕ) : Type 0 where
  pub is : List Op
  pub word : ℕ
  pub emits : Emits a b is 0
  pub told : IsNumber place word
  pub whole : spelled all n ≡ is ++ spelled left word

pub record Spelling (a b : Output) (at place : ℕ) (all left : List ℕ) : Type 0 where
  pub so_far : (n : ℕ) → IsNumber at n → IsSpelled a b place all left n

pub none_spelled : (a : Output) (at : ℕ) (all left : List ℕ) → all ≡ left → Spelling a a at at all left
none_spelled a at all left same = record {
  so_far = λ n h. record { is = []; word = n; emits = nothing a; told = h; whole = ap (λ (l : List ℕ). spelled l n) same };
}

pub one_spelled : (a b c : Output) (at place on : ℕ) (all left : List ℕ) (x : ℕ) (rest : List ℕ) → Spelling a b at place all left → left ≡ x ∷ rest
    → ((n : ℕ) → IsNumber place n → Emits b c (Mov A (constant x) ∷ store_to (Framed n)) 0) → ((n : ℕ) → IsNumber place n → IsNumber on (n + 1)) → Spelling a c at on all rest
one_spelled a b c at place on all left x rest g same emit next = record {
  so_far = λ n h.
      let s = g.so_far n h in
      let own : List Op = Mov A (constant x) ∷ store_to (Framed s.word) in
      record {
        is = s.is ++ own;
        word = suc s.word;
        emits = then_piece s.emits (emit s.word s.told);
        told = told_block (add-one s.word) (next s.word s.told);
        whole = s.whole ∙ (ap (λ (l : List ℕ). s.is ++ spelled l s.word) same ∙ sym (append_assoc s.is own (spelled rest (suc s.word))));
      };
}

pub all_spelled : (a b : Output) (at place : ℕ) (all left : List ℕ) → Spelling a b at place all left → left ≡ [] → (n : ℕ) → IsNumber at n → Emits a b (spelled all n) 0
all_spelled a b at place all left g end n h =
    let s = g.so_far n h in
    as_code (sym (s.whole ∙ (ap (λ (l : List ℕ). s.is ++ spelled l s.word) end ∙ append-nil s.is))) s.emits

pub drop_from : (xs : List ℕ) (i x : ℕ) → i < length xs → x ≡ get_or xs i 0 → drop i xs ≡ x ∷ drop (i + 1) xs
drop_from xs i x h e = rw (add-one, drop-cons xs i 0) (ap (λ (y : ℕ). y ∷ drop (suc i) xs) (sym e))

pub one_zero : (count i : ℕ) → i < count → replicate {A = ℕ} (count - i) 0 ≡ 0 ∷ replicate (count - (i + 1)) 0
one_zero count i h = let e : count - i ≡ suc (count - (i + 1)) = omega arith in ap (λ (n : ℕ). replicate {A = ℕ} n 0) e

pub no_zero : (count i : ℕ) → count ≤ i → replicate {A = ℕ} (count - i) 0 ≡ []
no_zero count i h = let e : count - i ≡ 0 = omega arith in ap (λ (n : ℕ). replicate {A = ℕ} n 0) e
