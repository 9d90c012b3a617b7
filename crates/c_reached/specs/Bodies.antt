-- The bodies of functions by their names.
use Rattle.std.specs.Prelude.{◌≡◌, ℕ, List, [], ◌∷◌, Option, Some, None, option_map, if◌then◌else◌}
use Rattle.std.specs.Option.{option_or}
use Rattle.std.specs.Map.{lookup}
use Rattle.std.specs.Str.{bytes_eq}
use denote.Ref.{Bor}
use Rattle.c_syntax.specs.Plain as plain
use Rattle.c_syntax.specs.Plain.{CStmt, CItem}
use Rattle.c_syntax.specs.View.{stmt_of}
use Rattle.c_syntax.specs.declared.tree.Stmt.{Stmt}

-- a body of the code
abbrev pub plain_body : Option (Bor Stmt) → Option CStmt
plain_body body = option_map (λ s. stmt_of s.now) body

-- what a table has for a name
abbrev pub body_in : List (Bor (List ℕ) × Bor Stmt) → List ℕ → Option CStmt
body_in entries name = plain_body (lookup (λ k. bytes_eq name k.now) entries)

-- the body that a definition gives to each name
abbrev pub named_body : List ℕ → CStmt → List ℕ → Option CStmt
named_body f body name = if bytes_eq name f then Some body else None

abbrev pub maybe_named : List ℕ → Option CStmt → List ℕ → Option CStmt
maybe_named f (Some body) name = named_body f body name
maybe_named f None name = None

abbrev pub own_body : CItem → List ℕ → Option CStmt
own_body (plain.Function f at result params body) name = maybe_named f body name
own_body item name = None

-- the body of the first definition of a name
abbrev pub body_of : List CItem → List ℕ → Option CStmt
body_of [] name = None
body_of (item ∷ items) name = option_or (own_body item name) (body_of items name)

-- what has no body in a table gets one
abbrev pub IsPut : (old new : List (Bor (List ℕ) × Bor Stmt)) → (List ℕ → Option CStmt) → Type 0
IsPut old new more = (name : List ℕ) → body_in new name ≡ option_or (body_in old name) (more name)

-- a table has the bodies of a text
abbrev pub Stands : List (Bor (List ℕ) × Bor Stmt) → List CItem → Type 0
Stands entries items = (name : List ℕ) → body_in entries name ≡ body_of items name
