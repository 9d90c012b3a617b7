-- An external that is gone through.
use Rattle.std.specs.Prelude.{◌≡◌}
use Rattle.c_syntax.specs.Plain.{CItem}
use Rattle.c_syntax.specs.View.{item_of}
use Rattle.c_syntax.specs.declared.tree.Item.{Item}
use Rattle.c_types.specs.Scope.{Scope}
use Rattle.c_types.specs.Declarations.{scope_or}
use Rattle.c_types.specs.Units.{item_judged}
use Rattle.c_types.specs.Table.{Table}
use Rattle.c_helpers.specs.Fewer.{fewer_in_item}
use Rattle.c_fewer_operators.specs.declared.here.Here.{Here}
use Rattle.c_fewer_declarations.specs.Standing.{StandsIn}

-- its tree is made, and what is declared is the scope behind it
pub record IsPassed (table : Table) (h : Here) (s : Scope) (tree : Item) (item : CItem) : Type 0 where
  pub is : item_of tree ≡ fewer_in_item s item
  pub stands : StandsIn table h (scope_or s (item_judged s item))
