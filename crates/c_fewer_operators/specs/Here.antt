-- Where an expression stands.
use Rattle.std.specs.Prelude.{◌≡◌}
use Rattle.c_types.specs.Scope.{Scope}
use Rattle.c_types.specs.Table.{Table, texts}
use Rattle.c_operands.specs.Scoped.{Fits}
use Rattle.c_fewer_operators.specs.declared.here.Here.{Here}

-- what is declared is what a scope has, and the tags have their names in the order of their numbers
pub record Stands (table : Table) (h : Here) (s : Scope) : Type 0 where
  pub fits : Fits table h.declared s
  pub names : texts h.tags.items ≡ table.tags

-- there is such a scope
abbrev pub StandsSome : Table → Here → Type 0
StandsSome table h = (s : Scope) × Stands table h s
