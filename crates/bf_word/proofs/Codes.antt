-- The commands of calls, one after the other.
use Rattle.std.proofs.Common.{◌≡◌, ℕ, List, [], ◌++◌, Result, Ok, Err, OnOk, refl, sym, ap, ◌∙◌, append_assoc}
use Rattle.bf_lang.specs.declared.command.Command.{Command}
use Rattle.bf_tape.specs.Piece.{Piece, joined}

-- the first call of a piece that begins with nothing
pub first_code : {p q : Piece} (c d : ℕ) (code : ℕ → List Command) → p ≡ record { commands = []; cell = c } → q ≡ joined p (code p.cell) d → q ≡ record { commands = code c; cell = d }
first_code c d code first is = is ∙ ap (λ p. joined p (code p.cell) d) first

-- a further one
pub next_code : {p q : Piece} (c d : ℕ) (xs : List Command) (code : ℕ → List Command) → p ≡ record { commands = xs; cell = c } → q ≡ joined p (code p.cell) d → q ≡ record { commands = xs ++ code c; cell = d }
next_code c d xs code before is = is ∙ ap (λ p. joined p (code p.cell) d) before

-- another name of the head's cell
pub renamed_code : {p q : Piece} (c d : ℕ) (xs : List Command) → p ≡ record { commands = xs; cell = c } → q ≡ record { commands = p.commands; cell = d } → q ≡ record { commands = xs; cell = d }
renamed_code c d xs before is = is ∙ ap (λ p. record { commands = p.commands; cell = d }) before

-- a piece made aside, and joined
pub aside_code : {T E : Type 0} {last : Piece} (r : Result T E) (old new : Piece) (xs : List Command) (d : ℕ) → OnOk r (new ≡ joined old last.commands last.cell) → last ≡ record { commands = xs; cell = d } → OnOk r (new ≡ joined old xs d)
aside_code (Ok x) old new xs d is last_is = is ∙ ap (λ p. joined old p.commands p.cell) last_is
aside_code (Err e) old new xs d is last_is = tt
