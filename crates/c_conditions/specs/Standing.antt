-- What stands around a statement of the code, as the definitions have it.
use Rattle.std.specs.Prelude.{◌≡◌}
use Rattle.c_types.specs.Statements as plain
use Rattle.c_types.specs.Table.{Table, HasType}
use Rattle.c_conditions.specs.declared.around.Around.{Around}

pub record StandsIn (table : Table) (a : Around) (w : plain.Around) : Type 0 where
  pub result : HasType table a.result w.result
  pub continues : a.continues ≡ w.continues
  pub breaks : a.breaks ≡ w.breaks
