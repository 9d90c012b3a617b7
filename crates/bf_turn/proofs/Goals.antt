-- What is aimed at.
use Rattle.std.proofs.Common.{◌≡◌, ℕ, ◌+◌, ◌*◌, ◌%◌, ◌^◌, ◌≤◌, inl, [], length, sym, ap, subst, ◌∙◌, arith}
use Rattle.eir_core.specs.declared.ops.Reg.{Reg}
use Rattle.bf_lang.specs.Balance.{IsBalanced}
use Rattle.bf_tape.specs.Tape.{get, put}
use Rattle.bf_tape.specs.Does.{Does}
use Rattle.bf_tape.specs.Piece.{Piece, Adds, any}
use Rattle.bf_word.specs.Word.{word_in, with_word}
use Rattle.bf_word.proofs.Words.{cell_kept}
use Rattle.bf_word.proofs.Chain.{adds_then, adds_as}
use Rattle.bf_ops.specs.Frame.{cell_of}
use Rattle.bf_choice.specs.Choice.{AreFree, aimed}
use Rattle.bf_jump.specs.declared.goal.Goal.{Goal}
use Rattle.bf_jump.specs.declared.goal.Goal.TheVariants.{Operation, Block}
use Rattle.bf_turn.specs.Goal.{IsOpen, Heads}
use Rattle.bf_jump.specs.Goal.{aimed_for}

pub block_adds : {p q t : Piece} (d cell : ℕ) (x : Reg) → cell ≡ cell_of x → Adds p q (λ s. (word_in s 114 ≡ 0) × (get s (cell + 3) ≡ 0)) (λ input s. with_word s 114 (word_in s cell)) (3 * 2 ^ 20) (3 * 2 ^ 11)
    → Adds q t any (λ input s. put s 44 ((get s 44 + 1) % 2 ^ 8)) 512 512 → Adds p t (IsOpen d) (λ input s. aimed_for d (Block x) s) (2 ^ 22) 7168
block_adds d cell x is a b =
    adds_as (λ input s. aimed_for d (Block x) s) (2 ^ 22) 7168
    (adds_then (IsOpen d) a b (λ input s bytes k. (
      (
        λ i. k.clear 114 (omega arith) (omega arith) i + 256 * k.clear 115 (omega arith) (omega arith) i + 65536 * k.clear 116 (omega arith) (omega arith) i,
        ap (λ c. get s (c + 3)) is ∙ k.counters x (cell_of x + 3) (omega arith) (omega arith),
      ),
      tt,
    )))
    (λ input s bytes k.
    let w : ℕ = word_in s cell in
    let none : get (with_word s 114 w) 44 ≡ 0 = cell_kept s 114 w 44 (inl (omega arith)) ∙ k.flag in
    let one : (get (with_word s 114 w) 44 + 1) % 2 ^ 8 ≡ 1 = omega (arith, none) in
    (k, ap (λ v. put (with_word s 114 w) 44 v) one ∙ ap (λ c. put (with_word s 114 (word_in s c)) 44 1) is)) (omega arith) (omega arith)

pub operation_adds : {p q : Piece} (d n : ℕ) → d ≤ 14 → Adds p q (AreFree d) (λ input s. aimed d n s) (d * 512) (d * 512) → Adds p q (IsOpen d) (λ input s. aimed_for d (Operation n) s) (2 ^ 22) 7168
operation_adds d n few a = adds_as (λ input s. aimed_for d (Operation n) s) (2 ^ 22) 7168 a (λ input s bytes k. (k.free, λ i. aimed d n s)) (omega arith) (omega arith)

pub goal_adds : {p q : Piece} (d : ℕ) (goal known : Goal) → goal ≡ known → Adds p q (IsOpen d) (λ input s. aimed_for d known s) (2 ^ 22) 7168 → Adds p q (IsOpen d) (λ input s. aimed_for d goal s) (2 ^ 22) 7168
goal_adds {p = p} {q = q} d goal known is a = subst (λ g. Adds p q (IsOpen d) (λ input s. aimed_for d g s) (2 ^ 22) 7168) (sym is) a

-- a piece by itself
pub heads : {first mid last : Piece} (d : ℕ) (goal : Goal) → first ≡ record { commands = []; cell = 0 } → last.cell ≡ 0 → Adds first mid (IsOpen d) (λ input s. aimed_for d goal s) (2 ^ 22) 7168 → Adds mid last any (λ input s. s) 255 255 → Heads last.commands d goal
heads {first = first} {last = last} d goal from home a b =
    let both : Adds first last (IsOpen d) (λ input s. aimed_for d goal s) (2 ^ 22 + 255) (7168 + 255) = adds_then (IsOpen d) a b (λ input s bytes k. (k, tt)) in
    let c : Adds (record { commands = []; cell = 0 }) last (IsOpen d) (λ input s. aimed_for d goal s) (2 ^ 22 + 255) (7168 + 255) = subst (λ p. Adds p last (IsOpen d) (λ input s. aimed_for d goal s) (2 ^ 22 + 255) (7168 + 255)) from both in
    record {
      balanced = subst IsBalanced (sym c.commands) c.balanced;
      short = omega (arith, ap length c.commands, c.short);
      does = λ input s is ready.
          subst (λ k. Does input last.commands 0 s k (aimed_for d goal s) (2 ^ 22 + 255)) home
          (subst (λ xs. Does input xs 0 s last.cell (aimed_for d goal s) (2 ^ 22 + 255)) (sym c.commands) (c.does input s is ready));
    }
