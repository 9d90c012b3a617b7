-- Steps of one byte of a counter.
use Rattle.std.proofs.Common.{◌≡◌, ◌≢◌, ℕ, ◌+◌, true, false, nat_eq, cond, List, [], ◌∷◌, ◌++◌, refl, sym, ap, subst, ◌∙◌, arith}
use Rattle.std.proofs.lemmas.Bool.{eqb-true, eqb-false}
use Rattle.bf_lang.specs.declared.command.Command.{Command}
use Rattle.bf_lang.specs.declared.command.Command.TheVariants.{Plus, Minus}
use Rattle.bf_lang.specs.Cells.{raised, lowered}
use Rattle.bf_lang.specs.Balance.{IsBalanced}
use Rattle.bf_tape.specs.Tape.{Tape, get, put}
use Rattle.bf_tape.specs.Does.{Does, loop}
use Rattle.bf_tape.specs.Does.Strides.{Stand, Stride}
use Rattle.bf_tape.specs.Code.{probe_code}
use Rattle.bf_tape.proofs.Moves.{does_plus, does_minus, does_then, does_strides, does_within}
use Rattle.bf_tape.proofs.Pieces.{does_lefts, does_rights}
use Rattle.bf_tape.proofs.Turning.{put_same}
use Rattle.bf_tape.proofs.Probe.{probe_other, probe_zero, f_one, down_is}
use Rattle.bf_word.specs.Steps.{if_zero_code, next_code}

module _ (input : List ℕ) (h : ℕ) (s : Tape) (f_zero : get s (h + 3) ≡ 0) (z_zero : get s (h + 3 + 3) ≡ 0) where
  same : put s (h + 3) 0 ≡ s
  same = put_same s (h + 3) 0 f_zero

  if_other : (more : List Command) → IsBalanced more → get s h ≢ 0 → Does input (if_zero_code more) h s h s 40
  if_other more b on =
      let first : Does input probe_code h s (h + 3) s 32 = subst (λ t. Does input probe_code h s (h + 3) t 32) same (probe_other input h s f_zero z_zero on) in
      let second : Does input (loop (Minus ∷ more)) (h + 3) s (h + 3) s 1 = does_strides {body = Minus ∷ more} b (Stand (h + 3) s f_zero) in
      does_then 40 (does_then 34 first second (omega arith)) (does_lefts input 3 h s) (omega arith)

  if_zero : (more : List Command) (s' : Tape) (n : ℕ) → get s h ≡ 0 → Does input more (h + 3) s (h + 3) s' n → get s' (h + 3) ≡ 0 → Does input (if_zero_code more) h s h s' (n + 48)
  if_zero more s' n off does f_after =
      let up : Tape = put s (h + 3) 1 in
      let first : Does input probe_code h s (h + 3) up 32 = probe_zero input h s f_zero z_zero off in
      let on : get up (h + 3) ≢ 0 = λ e. absurd (omega (arith, f_one input h s f_zero z_zero, e)) in
      let minus : Does input (Minus ∷ []) (h + 3) up (h + 3) s 1 = subst (λ t. Does input (Minus ∷ []) (h + 3) up (h + 3) t 1) (down_is input h s f_zero z_zero ∙ same) (does_minus input (h + 3) up) in
      let body : Does input (Minus ∷ more) (h + 3) up (h + 3) s' (n + 1) = does_then (n + 1) minus does (omega arith) in
      let second : Does input (loop (Minus ∷ more)) (h + 3) up (h + 3) s' (n + 1 + 1 + 0 + 1) =
      does_strides {body = Minus ∷ more} body.balanced (Stride (h + 3) (h + 3) (h + 3) up s' s' (n + 1) 0 on body (Stand (h + 3) s' f_after)) in
      does_then (n + 48) (does_then (n + 40) first second (omega arith)) (does_lefts input 3 h s') (omega arith)

-- to the next byte and back
pub does_next : (input : List ℕ) (inner : List Command) (h : ℕ) (t t' : Tape) (n : ℕ) → Does input inner h t h t' n → Does input (next_code inner) (h + 2) t (h + 2) t' (n + 4)
does_next input inner h t t' n does = does_then (n + 4) (does_then (n + 2) (does_lefts input 2 h t) does (omega arith)) (does_rights input 2 h t') (omega arith)

-- a tape of which one cell is a byte, and the rest may change with it
module _ (input : List ℕ) (R : Type 0) (h : ℕ) (T : ℕ → R → Tape) (is : (x : ℕ) (r : R) → get (T x r) h ≡ x) (f : (x : ℕ) (r : R) → get (T x r) (h + 3) ≡ 0) (z : (x : ℕ) (r : R) → get (T x r) (h + 3 + 3) ≡ 0)
    (set : (x y : ℕ) (r : R) → put (T x r) h y ≡ T y r) where
  chosen : (more : List Command) (n x : ℕ) (r r' : R) → Does input more (h + 3) (T x r) (h + 3) (T x r') n → Does input (if_zero_code more) h (T x r) h (T x (cond (nat_eq x 0) r' r)) (n + 48)
  chosen more n x r r' does =
      elim (nat_eq x 0) as (λ q. nat_eq x 0 ≡ q → Does input (if_zero_code more) h (T x r) h (T x (cond q r' r)) (n + 48)) [
        | true ↦ λ q. if_zero input h (T x r) (f x r) (z x r) more (T x r') n (is x r ∙ eqb-true x 0 q) does (f x r')
        | false ↦ λ q. does_within (n + 48) (if_other input h (T x r) (f x r) (z x r) more does.balanced (λ e. eqb-false x 0 q (sym (is x r) ∙ e))) (omega arith)
      ] refl

  pub down : (more : List Command) (n x : ℕ) (r r' : R) → Does input more (h + 3) (T x r) (h + 3) (T x r') n → Does input (if_zero_code more ++ (Minus ∷ [])) h (T x r) h (T (lowered x) (cond (nat_eq x 0) r' r)) (n + 49)
  down more n x r r' does =
      let t : Tape = T x (cond (nat_eq x 0) r' r) in
      let e : put t h (lowered (get t h)) ≡ T (lowered x) (cond (nat_eq x 0) r' r) = ap (λ v. put t h (lowered v)) (is x (cond (nat_eq x 0) r' r)) ∙ set x (lowered x) (cond (nat_eq x 0) r' r) in
      does_then (n + 49) (chosen more n x r r' does) (subst (λ u. Does input (Minus ∷ []) h t h u 1) e (does_minus input h t)) (omega arith)

  pub up : (more : List Command) (n x : ℕ) (r r' : R) → Does input more (h + 3) (T (raised x) r) (h + 3) (T (raised x) r') n
      → Does input ((Plus ∷ []) ++ if_zero_code more) h (T x r) h (T (raised x) (cond (nat_eq (raised x) 0) r' r)) (n + 49)
  up more n x r r' does =
      let t : Tape = T x r in
      let e : put t h (raised (get t h)) ≡ T (raised x) r = ap (λ v. put t h (raised v)) (is x r) ∙ set x (raised x) r in
      does_then (n + 49) (subst (λ u. Does input (Plus ∷ []) h t h u 1) e (does_plus input h t)) (chosen more n (raised x) r r' does) (omega arith)
