-- Folds joined with those behind them.
use Rattle.std.proofs.Common.{◌≡◌, ◌≢◌, ◌⊎◌, inl, inr, ℕ, zero, suc, ◌+◌, ◌-◌, ◌<◌, List, length, set, Some, slice_get, subst, sym, arith, min, ◌^◌}
use Rattle.std.proofs.lemmas.List.{get_or-set_same, get_or-set_other, length-set}
use Rattle.bf_lang.specs.declared.command.Command.{Command}
use Rattle.bf_lang.specs.declared.fold.Fold.{Fold}
use Rattle.bf_lang.specs.declared.fold.Fold.TheVariants.{Other}
use Rattle.bf_lang.specs.Fold.{IsRow, IsFold, fold_at, AreFolds}

-- a row with one more in front, or as many of it as are counted
pub row_more : (code : List Command) (k : ℕ) (c : Command) (m n r : ℕ) → IsRow code k c m → IsRow code (k + 1) c n → r ≡ min (n + 1) (2 ^ 32 - 1) → IsRow code k c r
row_more code k c m n r first next is = record {
  some = grind (arith, is);
  each = λ j l. let few : j < n + 1 = grind (arith, is, l) in by j few;
} where
  by : (j : ℕ) → j < n + 1 → slice_get code (k + j) ≡ Some c
  by zero l = first.each 0 first.some
  by (suc j) l =
      let place : k + 1 + j ≡ k + suc j = omega arith in
      let less : j < n = omega arith in
      subst (λ p. slice_get code p ≡ Some c) place (next.each j less)

same_or_not : (q i : ℕ) → (q ≡ i) ⊎ (q ≢ i)
same_or_not q i = grind arith

-- the table with another fold at a place
pub folds_set : (code : List Command) (folds : List Fold) (k : ℕ) (f : Fold) → k < length folds → AreFolds code folds → IsFold code k f → AreFolds code (set folds k f)
folds_set code folds k f low a is = record {
  count = grind (arith, length-set folds k f, a.count);
  each = λ q l. by q (same_or_not q k) (omega (arith, l, length-set folds k f));
} where
  by : (q : ℕ) → (q ≡ k) ⊎ (q ≢ k) → q < length folds → IsFold code q (fold_at (set folds k f) q)
  by q (inl e) l = subst (λ j. IsFold code j (fold_at (set folds k f) j)) (sym e) (subst (λ g. IsFold code k g) (sym (get_or-set_same folds k f Other low)) is)
  by q (inr ne) l = subst (λ g. IsFold code q g) (sym (get_or-set_other folds k q f Other ne)) (a.each q l)
