-- The piece that runs, by the tape that it comes to.
use Rattle.std.proofs.Common.{◌≡◌, ◌≢◌, ℕ, zero, suc, ◌+◌, ◌*◌, ◌^◌, ◌≤◌, Bool, true, false, List, [], ◌∷◌, ◌++◌, take, drop, sym, ap, subst, ◌∙◌, arith, suc-mul}
use Rattle.bf_lang.specs.declared.command.Command.{Command}
use Rattle.bf_lang.specs.Balance.{IsBalanced}
use Rattle.bf_tape.specs.Tape.{Tape, get, put}
use Rattle.bf_tape.specs.Does.{Does}
use Rattle.bf_tape.specs.Code.{goto_code, if_code}
use Rattle.bf_tape.proofs.Moves.{does_then, does_within}
use Rattle.bf_tape.proofs.Pieces.{does_goto}
use Rattle.bf_tape.proofs.Turning.{does_this, does_other, get_put, get_other, put_same}
use Rattle.bf_word.proofs.Words.{put_put}
use Rattle.bf_choice.specs.Choice.{bit_cell, spare_cell, tree_code, chosen, none_chosen, ChosenComes}
use Rattle.bf_choice.proofs.Chosen.{swapped, chosen_get, chosen_put, none_get, none_put, balanced_tree, balanced_take, balanced_drop, pick_none, first_given, IsThere}

-- the choice on a digit, where the rest has come to a tape
module _ (input : List ℕ) (d : ℕ) (bs : List Bool) (up low : List Command) (s t : Tape) (n : ℕ) (small : 3 * d ≤ 240) where
  differ : bit_cell d ≢ spare_cell d
  differ = omega arith

  abbrev u : Tape
  u = none_chosen d t

  ready : (v : ℕ) → put (chosen d bs (put (put s (bit_cell d) v) (spare_cell d) 0)) (spare_cell d) 1 ≡ chosen d bs (put (put s (bit_cell d) v) (spare_cell d) 1)
  ready v = chosen_put d bs (put (put s (bit_cell d) v) (spare_cell d) 0) (spare_cell d) 1 (omega arith) ∙ ap (chosen d bs) (put_put (put s (bit_cell d) v) (spare_cell d) 0 1)

  digit : (v : ℕ) → get (chosen d bs (put (put s (bit_cell d) v) (spare_cell d) 0)) (bit_cell d) ≡ v
  digit v =
      chosen_get d bs (put (put s (bit_cell d) v) (spare_cell d) 0) (bit_cell d) (omega arith)
      ∙ (get_other (put s (bit_cell d) v) (spare_cell d) (bit_cell d) 0 (λ e. differ (sym e)) ∙ get_put s (bit_cell d) v)

  pub upper : (IsBalanced up × IsBalanced low) → Does input up 0 (chosen d bs (put (put s (bit_cell d) 1) (spare_cell d) 1)) 0 u n → get t (spare_cell d) ≡ 1
      → Does input (if_code 0 (bit_cell d) (spare_cell d) up low ++ goto_code (spare_cell d) 0) 0 (chosen d bs (put (put s (bit_cell d) 1) (spare_cell d) 0)) 0 (none_chosen (suc d) t) (n + 9000)
  upper b inner kept =
      let c : Tape = chosen d bs (put (put s (bit_cell d) 1) (spare_cell d) 0) in
      let choice = does_this input 0 (bit_cell d) (spare_cell d) up low (omega arith) (omega arith) (omega arith) differ b.0 b.1 c u n (λ e. absurd (omega (arith, digit 1, e)))
      (subst (λ v. Does input up 0 v 0 u n) (sym (ready 1)) inner) (none_get d t (spare_cell d) (omega arith) ∙ kept) in
      let last : put (put u (spare_cell d) 0) (bit_cell d) 0 ≡ none_chosen (suc d) t =
      ap (λ v. put v (bit_cell d) 0) (none_put d t (spare_cell d) 0 (omega arith))
      ∙ (none_put d (put t (spare_cell d) 0) (bit_cell d) 0 (omega arith) ∙ ap (none_chosen d) (swapped t (spare_cell d) (bit_cell d) 0 0 (λ e. differ (sym e)))) in
      does_then (n + 9000) (subst (λ v. Does input (if_code 0 (bit_cell d) (spare_cell d) up low) 0 c (spare_cell d) v (n + 8192)) last choice) (does_goto input (spare_cell d) 0 (none_chosen (suc d) t) 255 (omega arith)) (omega arith)

  pub lower : (IsBalanced up × IsBalanced low) → Does input low 0 (chosen d bs (put (put s (bit_cell d) 0) (spare_cell d) 1)) 0 u n → get t (bit_cell d) ≡ 0 → get t (spare_cell d) ≡ 1
      → Does input (if_code 0 (bit_cell d) (spare_cell d) up low ++ goto_code (spare_cell d) 0) 0 (chosen d bs (put (put s (bit_cell d) 0) (spare_cell d) 0)) 0 (none_chosen (suc d) t) (n + 9000)
  lower b inner none kept =
      let c : Tape = chosen d bs (put (put s (bit_cell d) 0) (spare_cell d) 0) in
      let choice = does_other input 0 (bit_cell d) (spare_cell d) up low (omega arith) (omega arith) (omega arith) differ b.0 b.1 c u n (digit 0)
      (subst (λ v. Does input low 0 v 0 u n) (sym (ready 0)) inner) (none_get d t (spare_cell d) (omega arith) ∙ kept) in
      let last : put u (spare_cell d) 0 ≡ none_chosen (suc d) t = none_put d t (spare_cell d) 0 (omega arith) ∙ ap (λ v. none_chosen d (put v (spare_cell d) 0)) (sym (put_same t (bit_cell d) 0 none)) in
      does_then (n + 9000) (subst (λ v. Does input (if_code 0 (bit_cell d) (spare_cell d) up low) 0 c (spare_cell d) v (n + 8192)) last choice) (does_goto input (spare_cell d) 0 (none_chosen (suc d) t) 255 (omega arith)) (omega arith)

pub does_tree_at : ChosenComes
does_tree_at input zero bs [] a s t n same small b is does still = absurd (subst IsThere (sym is) tt)
does_tree_at input zero bs (x ∷ rest) a s t n same small b is does still = does_within (n + 0 * 9000) (subst (λ c. Does input c 0 s 0 t n) (sym (ap first_given is)) does) (omega arith)
does_tree_at input (suc d) [] arms a s t n same small b is does still = absurd (omega (arith, same))
does_tree_at input (suc d) (x ∷ bs) [] a s t n same small b is does still = absurd (subst IsThere (sym is ∙ pick_none (suc d) (x ∷ bs)) tt)
does_tree_at input (suc d) (true ∷ bs) (x ∷ rest) a s t n same small b is does still =
    let arms : List (List Command) = x ∷ rest in
    let up : List Command = tree_code d (drop (2 ^ d) arms) in
    let low : List Command = tree_code d (take (2 ^ d) arms) in
    let inner = does_tree_at input d bs (drop (2 ^ d) arms) a (put (put s (bit_cell d) 1) (spare_cell d) 1) t n (omega (arith, same)) (omega arith) (balanced_drop (2 ^ d) arms b) is does still.1.1 in
    does_within (n + suc d * 9000)
    (upper input d bs up low s t (n + d * 9000) (omega arith) (balanced_tree d (drop (2 ^ d) arms) (balanced_drop (2 ^ d) arms b), balanced_tree d (take (2 ^ d) arms) (balanced_take (2 ^ d) arms b)) inner still.1.0) (omega (arith, suc-mul d 9000))
does_tree_at input (suc d) (false ∷ bs) (x ∷ rest) a s t n same small b is does still =
    let arms : List (List Command) = x ∷ rest in
    let up : List Command = tree_code d (drop (2 ^ d) arms) in
    let low : List Command = tree_code d (take (2 ^ d) arms) in
    let inner = does_tree_at input d bs (take (2 ^ d) arms) a (put (put s (bit_cell d) 0) (spare_cell d) 1) t n (omega (arith, same)) (omega arith) (balanced_take (2 ^ d) arms b) is does still.1.1 in
    does_within (n + suc d * 9000)
    (lower input d bs up low s t (n + d * 9000) (omega arith) (balanced_tree d (drop (2 ^ d) arms) (balanced_drop (2 ^ d) arms b), balanced_tree d (take (2 ^ d) arms) (balanced_take (2 ^ d) arms b)) inner still.0 still.1.0) (omega (arith, suc-mul d 9000))
