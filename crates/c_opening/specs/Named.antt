-- The names that the externals of a text declare.
use Rattle.std.specs.Prelude.{◌≡◌, ℕ, Bool, true, false, ◌&&◌, List, [], ◌∷◌, Option, Some, None, slice_get, codes}
use Rattle.std.specs.Str.{bytes_eq}
use Rattle.c_syntax.specs.Plain as plain
use Rattle.c_syntax.specs.Plain.{CTy, CDecl, CStmt, CItem}
use Rattle.c_types.specs.Table.{Table}

abbrev pub tag_in : CItem → Option (List ℕ)
tag_in (plain.StructItem tag) = Some tag.name
tag_in _ = None

abbrev pub definition_in : CItem → Option (List ℕ)
definition_in (plain.Function name at result params (Some body)) = Some name
definition_in _ = None

abbrev pub with_some : Option (List ℕ) → List (List ℕ) → List (List ℕ)
with_some (Some name) names = name ∷ names
with_some None names = names

-- a name is the one that there may be
abbrev pub is_named : Option (List ℕ) → List ℕ → Bool
is_named (Some name) other = bytes_eq other name
is_named None other = false

-- the tags that a text declares
abbrev pub tags_in : List CItem → List (List ℕ)
tags_in [] = []
tags_in (item ∷ items) = with_some (tag_in item) (tags_in items)

-- a tag has a number
abbrev pub HasNumber : Table → List ℕ → Type 0
HasNumber table name = (n : ℕ) × (slice_get table.tags n ≡ Some name)

abbrev pub is_int : CTy → Bool
is_int plain.Int = true
is_int _ = false

abbrev pub is_empty : List CDecl → Bool
is_empty [] = true
is_empty _ = false

abbrev pub is_there : Option CStmt → Bool
is_there (Some body) = true
is_there None = false

-- a definition of `main` without parameters that gives an int
abbrev pub is_main_of : List ℕ → CTy → List CDecl → Option CStmt → Bool
is_main_of name gives params body = is_int gives && is_empty params && is_there body && bytes_eq name (codes "main")
