-- The names that one external has in its body, and in its first value.
use Rattle.std.specs.Prelude.{ℕ, List, [], Option, Some, None}
use Rattle.c_syntax.specs.Plain as plain
use Rattle.c_syntax.specs.Plain.{CStmt, CItem}
use Rattle.c_helpers.specs.Names.{stmt_names, first_names}

abbrev pub names_of_body : Option CStmt → List (List ℕ)
names_of_body None = []
names_of_body (Some body) = stmt_names body

abbrev pub names_in_body : CItem → List (List ℕ)
names_in_body (plain.Function name at result params body) = names_of_body body
names_in_body item = []

abbrev pub names_of_object : CItem → List (List ℕ)
names_of_object (plain.Object d) = first_names d.first
names_of_object item = []
