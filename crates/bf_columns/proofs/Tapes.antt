-- Tapes with cells put and marks laid.
use Rattle.std.proofs.Common.{◌≡◌, ◌≢◌, ℕ, ◌+◌, true, false, nat_eq, cond, List, [], ◌∷◌, ◌++◌, refl, sym, ap, subst, ◌∙◌, arith, ne_eqb}
use Rattle.std.proofs.lemmas.Bool.{eqb-true}
use Rattle.bf_lang.specs.declared.command.Command.{Command}
use Rattle.bf_tape.specs.Tape.{Tape, get, put, set_cell}
use Rattle.bf_tape.specs.Does.{Does}
use Rattle.bf_tape.proofs.Slotted.{same_tape, put_held, held}
use Rattle.bf_tape.proofs.Moves.{does_then}

-- the one after the other
pub next : {input : List ℕ} {xs ys : List Command} {h h' h'' : ℕ} {s s' s'' : Tape} {a b : ℕ} → Does input xs h s h' s' a → Does input ys h' s' h'' s'' b → Does input (xs ++ ys) h s h'' s'' (a + b)
next {a = a} {b = b} f g = does_then (a + b) f g (omega arith)

-- the same from and to cells that are told otherwise
pub between : {input : List ℕ} {cs : List Command} {h h' : ℕ} {s s' : Tape} {n : ℕ} (k k' : ℕ) → Does input cs h s h' s' n → h ≡ k → h' ≡ k' → Does input cs k s k' s' n
between {input = input} {cs = cs} {h = h} {s = s} {s' = s'} {n = n} k k' does e e' = subst (λ x. Does input cs x s k' s' n) e (subst (λ x. Does input cs h s x s' n) e' does)

-- to a tape that is told otherwise
pub comes_to : {input : List ℕ} {cs : List Command} {h h' : ℕ} {s s' : Tape} {n : ℕ} (t : Tape) → Does input cs h s h' s' n → s' ≡ t → Does input cs h s h' t n
comes_to {input = input} {cs = cs} {h = h} {h' = h'} {s = s} {n = n} t does e = subst (λ x. Does input cs h s h' x n) e does

pub goes_from : {input : List ℕ} {cs : List Command} {h h' : ℕ} {s s' : Tape} {n : ℕ} (t : Tape) → Does input cs h s h' s' n → s ≡ t → Does input cs h t h' s' n
goes_from {input = input} {cs = cs} {h = h} {h' = h'} {s' = s'} {n = n} t does e = subst (λ x. Does input cs h x h' s' n) e does

pub put_same : (s : Tape) (c v w : ℕ) → put (put s c v) c w ≡ put s c w
put_same s c v w = put_held s (c ∷ []) (v ∷ []) 0 w (tt, tt) (omega arith) refl

-- a cell that has the number
pub put_is : (s : Tape) (c v : ℕ) → get s c ≡ v → put s c v ≡ s
put_is s c v e = ap (λ x. put s c x) (sym e) ∙ held s (c ∷ [])

-- two cells, in either order
pub put_swap : (s : Tape) (a b v w : ℕ) → a ≢ b → put (put s a v) b w ≡ put (put s b w) a v
put_swap s a b v w differ = same_tape s (set_cell (set_cell s.cells (s.base + a) v) (s.base + b) w) (set_cell (set_cell s.cells (s.base + b) w) (s.base + a) v) each
  where
    each : (q : ℕ) → set_cell (set_cell s.cells (s.base + a) v) (s.base + b) w q ≡ set_cell (set_cell s.cells (s.base + b) w) (s.base + a) v q
    each q = elim (nat_eq q (s.base + b)) as (λ t. nat_eq q (s.base + b) ≡ t → cond t w (cond (nat_eq q (s.base + a)) v (s.cells q)) ≡ cond (nat_eq q (s.base + a)) v (cond t w (s.cells q))) [
      | true ↦ λ e. let at : q ≡ s.base + b = eqb-true q (s.base + b) e in ap (λ t. cond t v w) (sym (ne_eqb q (s.base + a) (λ f. differ (omega arith))))
      | false ↦ λ e. refl
    ] refl

-- a tape of zeros
abbrev pub zeros : Tape
zeros = record { base = 0; cells = λ q. 0; taken = 0; output = [] }
