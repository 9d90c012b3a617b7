-- The helper functions of a table.
use Rattle.std.specs.Prelude.{ℕ, List, [], ◌∷◌, map, Some}
use denote.Ref.{Bor}
use Rattle.c_syntax.specs.Plain as plain
use Rattle.c_syntax.specs.Plain.{CDecl, CItem}
use Rattle.c_helpers.specs.Terms.{declaration}
use Rattle.c_types.specs.Room.{Multiply}
use Rattle.c_helpers.specs.Fewer.{function_of, told}
use Rattle.c_helpers.specs.Functions as functions
use Rattle.c_helpers.specs.Functions.{compound, unit_name, refill_name, piece_name, a}
use Rattle.c_helper_steps.specs.declared.steps.TypeName.{TypeName}
use Rattle.c_helper_terms.specs.declared.tables.Helper.{Helper}
use Rattle.c_helper_steps.specs.Postfix.{tree_of, made}

abbrev pub parameter_of : TypeName × Bor (List ℕ) → CDecl
parameter_of p = declaration (tree_of p.0) p.1.now

-- a row of the table as an external
abbrev pub external : Helper → CItem
external h = plain.Function h.name.now 0 (tree_of h.gives) (map parameter_of h.parameters.now) (Some (made h.body.now))

-- the compound assignment by the operator of a sign, which has a name
abbrev pub compound_of : Bor (List ℕ) × Bor (List ℕ) → CItem
compound_of p = function_of (record (compound p.0.now Multiply) { name = p.1.now })

-- the helper functions that stand in each text
abbrev pub fixed : List functions.Helper
fixed = told unit_name [] ∷ told refill_name [] ∷ told piece_name (declaration plain.Int a ∷ []) ∷ functions.functions
