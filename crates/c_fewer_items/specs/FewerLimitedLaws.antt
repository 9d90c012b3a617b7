-- Functions with fewer operators are within the limits where those are that they were.
use Rattle.std.specs.Prelude.{ℕ, Bool, List}
use Rattle.c_eval.specs.Text.{Definition}
use Rattle.c_valid.specs.Limited.{StmtIsLimited}
use Rattle.c_fewer_items.specs.Kept.{DefinitionStands}

-- a body with fewer operators has no other string literals than the body, and its objects have the types that they had
abbrev pub DefinitionsStayLimited : Type 0
DefinitionsStayLimited = (test : List ℕ → Bool) (f g : Definition) → DefinitionStands test f g → StmtIsLimited f.scope f.body → StmtIsLimited g.scope g.body
