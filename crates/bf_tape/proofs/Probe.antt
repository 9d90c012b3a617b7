-- The test of a cell that keeps it.
use Rattle.std.proofs.Common.{◌≡◌, ◌≢◌, ℕ, ◌+◌, List, [], ◌∷◌, ◌++◌, refl, sym, ap, subst, ◌∙◌, arith}
use Rattle.bf_lang.specs.declared.command.Command.{Command}
use Rattle.bf_lang.specs.declared.command.Command.TheVariants.{Right, Left, Plus, Minus}
use Rattle.bf_lang.specs.Cells.{raised, lowered}
use Rattle.bf_tape.specs.Tape.{Tape, get, put}
use Rattle.bf_tape.specs.Does.{Does, loop}
use Rattle.bf_tape.specs.Does.Strides.{Stand, Stride}
use Rattle.bf_tape.specs.Code.{many, probe_code}
use Rattle.bf_tape.proofs.Moves.{does_plus, does_minus, does_then, does_strides}
use Rattle.bf_tape.proofs.Pieces.{does_rights, does_lefts}
use Rattle.bf_tape.proofs.Turning.{get_put, get_other}
use Rattle.bf_tape.proofs.Slotted.{put_held}

module _ (input : List ℕ) (h : ℕ) (s : Tape) (f_zero : get s (h + 3) ≡ 0) (z_zero : get s (h + 3 + 3) ≡ 0) where
  abbrev pub one : Tape
  one = put s (h + 3) 1

  abbrev pub none : Tape
  none = put s (h + 3) 0

  one_is : put s (h + 3) (raised (get s (h + 3))) ≡ one
  one_is = ap (λ v. put s (h + 3) (raised v)) f_zero

  pub f_one : get one (h + 3) ≡ 1
  f_one = get_put s (h + 3) 1

  f_none : get none (h + 3) ≡ 0
  f_none = get_put s (h + 3) 0

  x_kept : get one h ≡ get s h
  x_kept = get_other s (h + 3) h 1 (omega arith)

  z_one : get one (h + 3 + 3) ≡ 0
  z_one = get_other s (h + 3) (h + 3 + 3) 1 (omega arith) ∙ z_zero

  z_none : get none (h + 3 + 3) ≡ 0
  z_none = get_other s (h + 3) (h + 3 + 3) 0 (omega arith) ∙ z_zero

  pub down_is : put one (h + 3) (lowered (get one (h + 3))) ≡ none
  down_is = ap (λ v. put one (h + 3) (lowered v)) f_one ∙ put_held s ((h + 3) ∷ []) (1 ∷ []) 0 0 (tt, tt) (omega arith) refl

  -- the flag is raised
  start : Does input ((many 3 Right ++ (Plus ∷ [])) ++ many 3 Left) h s h one 7
  start = does_then 7 (does_then 4 (does_rights input 3 h s) (subst (λ t. Does input (Plus ∷ []) (h + 3) s (h + 3) t 1) one_is (does_plus input (h + 3) s)) (omega arith)) (does_lefts input 3 h one) (omega arith)

  body : Does input (many 3 Right ++ (Minus ∷ [])) h one (h + 3) none 4
  body = does_then 4 (does_rights input 3 h one) (subst (λ t. Does input (Minus ∷ []) (h + 3) one (h + 3) t 1) down_is (does_minus input (h + 3) one)) (omega arith)

  -- the cell is not 0
  pub probe_other : get s h ≢ 0 → Does input probe_code h s (h + 3) none 32
  probe_other on =
      let first : Does input (loop (many 3 Right ++ (Minus ∷ []))) h one (h + 3) none 6 =
      does_strides refl (Stride h (h + 3) (h + 3) one none none 4 0 (λ e. on (sym x_kept ∙ e)) body (Stand (h + 3) none f_none)) in
      let second : Does input (loop (many 3 Right)) (h + 3 + 3) none (h + 3 + 3) none 1 = does_strides {body = many 3 Right} refl (Stand (h + 3 + 3) none z_none) in
      does_then 32 (does_then 29 (does_then 20 (does_then 16 start first (omega arith)) (does_rights input 3 (h + 3) none) (omega arith)) second (omega arith)) (does_lefts input 3 (h + 3) none) (omega arith)

  -- the cell is 0
  pub probe_zero : get s h ≡ 0 → Does input probe_code h s (h + 3) one 32
  probe_zero off =
      let first : Does input (loop (many 3 Right ++ (Minus ∷ []))) h one h one 1 = does_strides {body = many 3 Right ++ (Minus ∷ [])} refl (Stand h one (x_kept ∙ off)) in
      let up : get one (h + 3) ≢ 0 = λ e. absurd (omega (arith, f_one, e)) in
      let second : Does input (loop (many 3 Right)) (h + 3) one (h + 3 + 3) one 5 =
      does_strides refl (Stride (h + 3) (h + 3 + 3) (h + 3 + 3) one one one 3 0 up (does_rights input 3 (h + 3) one) (Stand (h + 3 + 3) one z_one)) in
      does_then 32 (does_then 29 (does_then 20 (does_then 16 start first (omega arith)) (does_rights input 3 h one) (omega arith)) second (omega arith)) (does_lefts input 3 (h + 3) one) (omega arith)
