-- Statements that are declarations.
use Rattle.std.specs.Prelude.{ℕ, ◌+◌, Bool, true, false, List, [], ◌∷◌}
use Rattle.c_syntax.specs.Plain as plain
use Rattle.c_syntax.specs.Plain.{CStmt, CPart}
use Rattle.c_syntax.specs.View.{stmt_of, part_of}
use Rattle.c_syntax.specs.declared.tree.Stmt.{Stmt}
use Rattle.c_syntax.specs.declared.tree.Part.{Part}

abbrev pub declares : CStmt → Bool
declares (plain.Local d) = true
declares _ = false

abbrev pub part_declares : CPart → Bool
part_declares (plain.Label at e) = false
part_declares (plain.Item t) = declares t

-- of the code
unfoldable pub is_local : Stmt → Bool
is_local s = declares (stmt_of s)

unfoldable pub is_local_part : Part → Bool
is_local_part p = part_declares (part_of p)

abbrev pub one_if : Bool → ℕ
one_if true = 1
one_if false = 0

-- how many elements are so
abbrev pub count_in : {X : Type 0} → (X → Bool) → List X → ℕ
count_in p [] = 0
count_in p (x ∷ xs) = one_if (p x) + count_in p xs
