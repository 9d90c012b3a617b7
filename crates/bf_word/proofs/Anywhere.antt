-- A piece on cells from 0 on, on cells from another one on.
use Rattle.std.proofs.Common.{◌≡◌, ℕ, ◌+◌, nat_eq, true, cond, List, [], ◌∷◌, map, refl, sym, ap, ◌∙◌, arith}
use Rattle.bf_lang.specs.declared.command.Command.{Command}
use Rattle.bf_tape.specs.Tape.{Tape}
use Rattle.bf_tape.specs.Does.{Does}
use Rattle.bf_tape.specs.Piece.{shifted}
use Rattle.bf_tape.specs.Slots.{filled, holding}
use Rattle.bf_tape.proofs.Turning.{reframe, reframe_start}

-- cells of a frame, named in another
pub filled_from : (ns vs : List ℕ) (b w : ℕ) (cells : ℕ → ℕ) (q : ℕ) → filled (map (λ n. w + n) ns) vs b cells q ≡ filled ns vs (b + w) cells q
filled_from [] vs b w cells q = refl
filled_from (n ∷ ns) [] b w cells q = refl
filled_from (n ∷ ns) (v ∷ vs) b w cells q =
    let e : b + (w + n) ≡ b + w + n = omega arith in
    ap (λ p. cond (nat_eq q p) v (filled (map (λ n. w + n) ns) vs b cells q)) e ∙ ap (λ r. cond (nat_eq q (b + w + n)) v r) (filled_from ns vs b w cells q)

-- the same commands on the same cells, under a frame that begins so many cells before
pub does_from : (input : List ℕ) (cs : List Command) (s : Tape) (w h h' : ℕ) (ns vs vs' : List ℕ) (n : ℕ) → Does input cs h (holding (shifted s w true) ns vs) h' (holding (shifted s w true) ns vs') n
    → Does input cs (w + h) (holding s (map (λ n. w + n) ns) vs) (w + h') (holding s (map (λ n. w + n) ns) vs') n
does_from input cs s w h h' ns vs vs' n does =
    let before : s.base + w + h ≡ s.base + (w + h) = omega arith in
    let after : s.base + (w + h') ≡ s.base + w + h' = omega arith in
    reframe_start (w + h) (holding s (map (λ n. w + n) ns) vs)
    (reframe (w + h') (record { base = s.base; cells = (holding s (map (λ n. w + n) ns) vs').cells; taken = s.taken; output = s.output }) does after (λ i. λ q. filled_from ns vs' s.base w s.cells q i) refl refl)
    before (λ i. λ q. sym (filled_from ns vs s.base w s.cells q) i) refl refl
