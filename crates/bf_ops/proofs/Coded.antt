-- The commands of calls, by cases.
use Rattle.std.proofs.Common.{◌≡◌, ◌≢◌, ℕ, nat_eq, cond, List, [], sym, subst, append-nil, eq-eqb, ne_eqb}
use Rattle.bf_lang.specs.declared.command.Command.{Command}
use Rattle.bf_tape.specs.Piece.{Piece, joined}

pub none_code : (p : Piece) → p ≡ joined p [] p.cell
none_code p = λ i. record { commands = sym (append-nil p.commands) i; cell = p.cell }

pub code_as : {q : Piece} {A : Type 0} (p : Piece) (code : A → List Command) (cell : A → ℕ) (v known : A) → v ≡ known → q ≡ joined p (code known) (cell known) → q ≡ joined p (code v) (cell v)
code_as {q = q} p code cell v known is e = subst (λ x. q ≡ joined p (code x) (cell x)) (sym is) e

-- where a test is known
pub same_code : {q : Piece} (p : Piece) (a b : ℕ) (xs ys : List Command) (c d : ℕ) → a ≡ b → q ≡ joined p xs c → q ≡ joined p (cond (nat_eq a b) xs ys) (cond (nat_eq a b) c d)
same_code {q = q} p a b xs ys c d same e = subst (λ t. q ≡ joined p (cond t xs ys) (cond t c d)) (sym (eq-eqb a b same)) e

pub other_code : {q : Piece} (p : Piece) (a b : ℕ) (xs ys : List Command) (c d : ℕ) → a ≢ b → q ≡ joined p ys d → q ≡ joined p (cond (nat_eq a b) xs ys) (cond (nat_eq a b) c d)
other_code {q = q} p a b xs ys c d differ e = subst (λ t. q ≡ joined p (cond t xs ys) (cond t c d)) (sym (ne_eqb a b differ)) e
