-- Where a declaration stands.
use Rattle.std.specs.Prelude.{◌≡◌}
use Rattle.c_types.specs.Scope.{Scope}
use Rattle.c_types.specs.Table.{Table, texts}
use Rattle.c_declared.specs.Held.{Holds}
use Rattle.c_fewer_operators.specs.declared.here.Here.{Here}

-- what is declared is what a scope has, also the order of members, and the tags have their names in the order of their numbers
pub record StandsIn (table : Table) (h : Here) (s : Scope) : Type 0 where
  pub holds : Holds table h.declared s
  pub names : texts h.tags.items ≡ table.tags

-- there is such a scope
abbrev pub StandsInSome : Table → Here → Type 0
StandsInSome table h = (s : Scope) × StandsIn table h s
