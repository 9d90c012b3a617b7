-- Texts of the string literals of first values at file scope.
use Rattle.std.specs.Prelude.{ℕ, List}
use denote.Ref.{Bor}
use Rattle.c_syntax.specs.Plain.{CItem}
use Rattle.c_types.specs.Declarations.{scope_or}
use Rattle.c_types.specs.Units.{item_judged}
use Rattle.c_eval.specs.Environment.{Environment}
use Rattle.c_types.specs.Table.{Table}
use Rattle.c_operands.specs.declared.declarations.Declarations.{Declarations}
use Rattle.c_declared.specs.Held.{Holds}
use Rattle.c_lowered.specs.Whole.{item_literals}
use Rattle.c_lower_literals.specs.Gathered.{Adds}

-- those of an external stand behind others, and what it declares is known
pub record Passes (table : Table) (d : Declarations) (old new : List (Bor (List ℕ))) (item : CItem) (here : Environment) : Type 0 where
  pub holds : Holds table d (scope_or here.scope (item_judged here.scope item))
  pub adds : Adds old new (item_literals item here)
