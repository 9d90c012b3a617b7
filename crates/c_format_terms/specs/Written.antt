-- What a conversion writes of an expression.
use Rattle.std.specs.Prelude.{ℕ, List, [], ◌∷◌, ◌++◌, ◌==◌, codes, if◌then◌else◌}
use Rattle.c_syntax.specs.Plain.{CExpr, CStmt}
use Rattle.c_helpers.specs.Functions.{call_of, put_piece, refill}

abbrev pub written : ℕ → CExpr → List CStmt
written letter e = if letter == 99 then put_piece e ∷ [] else refill ∷ call_of (codes "%" ++ letter ∷ []) (e ∷ []) ∷ []
