-- What calls add, one after the other.
use Rattle.std.proofs.Common.{◌≡◌, ℕ, ◌+◌, ◌^◌, ◌<◌, ◌≤◌, List, [], ◌++◌, Result, Ok, Err, OnOk, sym, ap, subst, ◌∙◌, arith, append_assoc, length-append}
use Rattle.bf_lang.proofs.Partners.{balanced_append}
use Rattle.bf_tape.specs.Tape.{Tape}
use Rattle.bf_tape.specs.Does.{Does}
use Rattle.bf_tape.specs.Piece.{Piece, joined, Adds}
use Rattle.bf_tape.proofs.Moves.{does_then, does_within}
use Rattle.bf_tape.proofs.Pieces.{by_bytes}

-- the one and then the other, where the second may be used on what the first makes
pub adds_then : {p q r : Piece} {k1 k2 : Tape → Type 0} {e1 e2 : List ℕ → Tape → Tape} {m1 l1 m2 l2 : ℕ} (K : Tape → Type 0) → Adds p q k1 e1 m1 l1 → Adds q r k2 e2 m2 l2
    → ((input : List ℕ) (s : Tape) → ((c : ℕ) → s.cells c < 2 ^ 8) → K s → k1 s × k2 (e1 input s)) → Adds p r K (λ input s. e2 input (e1 input s)) (m1 + m2) (l1 + l2)
adds_then {p = p} {e1 = e1} {m1 = m1} {l1 = l1} {m2 = m2} {l2 = l2} K a b fits = record {
  added = a.added ++ b.added;
  commands = b.commands ∙ (ap (λ xs. xs ++ b.added) a.commands ∙ append_assoc p.commands a.added b.added);
  short = omega (arith, length-append a.added b.added, a.short, b.short);
  balanced = balanced_append a.added b.added a.balanced b.balanced;
  does = λ input s is kind. by_bytes (balanced_append a.added b.added a.balanced b.balanced) (λ bytes.
      let fit = fits input s bytes kind in
      does_then (m1 + m2) (a.does input s is fit.0) (b.does input (e1 input s) is fit.1) (omega arith));
}

-- the same effect in other words, and larger bounds
pub adds_as : {p q : Piece} {k K : Tape → Type 0} {e : List ℕ → Tape → Tape} {m l : ℕ} (E : List ℕ → Tape → Tape) (M L : ℕ) → Adds p q k e m l
    → ((input : List ℕ) (s : Tape) → ((c : ℕ) → s.cells c < 2 ^ 8) → K s → k s × (e input s ≡ E input s)) → m ≤ M → l ≤ L → Adds p q K E M L
adds_as {p = p} {q = q} {m = m} E M L a same few short = record {
  added = a.added;
  commands = a.commands;
  short = omega (arith, a.short);
  balanced = a.balanced;
  does = λ input s is kind. by_bytes a.balanced (λ bytes.
      let is_same = same input s bytes kind in
      does_within M (subst (λ t. Does input a.added p.cell s q.cell t m) is_same.1 (a.does input s is is_same.0)) few);
}

-- a piece made aside, and joined
pub adds_aside : {T E : Type 0} {K : Tape → Type 0} {e : List ℕ → Tape → Tape} {m l : ℕ} {first last : Piece} (r : Result T E) (old new : Piece) → OnOk r (new ≡ joined old last.commands last.cell)
    → first ≡ record { commands = []; cell = old.cell } → Adds first last K e m l → OnOk r (Adds old new K e m l)
adds_aside {K = K} {e = e} {m = m} {l = l} {last = last} (Ok x) old new is from adds =
    let a : Adds (record { commands = []; cell = old.cell }) last K e m l = subst (λ p. Adds p last K e m l) from adds in
    subst (λ p. Adds old p K e m l) (sym is) (record { added = a.added; commands = ap (λ xs. old.commands ++ xs) a.commands; short = a.short; balanced = a.balanced; does = a.does })
adds_aside (Err x) old new is from adds = tt
