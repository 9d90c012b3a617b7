-- The helper functions that a program with fewer operators has.
use Rattle.std.specs.Prelude.{ℕ, ◌^◌, ◌≤◌, List}
use Rattle.c_syntax.specs.Plain.{CUnit}
use Rattle.c_types.specs.Scope.{contains}
use Rattle.c_types.specs.Units.{defined_in, start_scope}
use Rattle.c_eval.specs.Text.{text_of}
use Rattle.c_helpers.specs.Fewer.{fewer_in_items}
use Rattle.c_helpers.specs.Simple.{with_helpers, reached, desugared, helpers_of}
use Rattle.c_fewer_items.specs.FewerHeadsLaws.{CallsAreDefined}
use Rattle.c_fewer_items.specs.FewerFrontsLaws.{FormatsCallDefined}
use Rattle.c_fewer_calls.specs.There.{HasHelpers}
use Rattle.c_programs.specs.Programs.{IsProgram}

-- the functions that are reached once operators became calls
abbrev pub reached_names : CUnit → List (List ℕ)
reached_names u = reached (with_helpers (fewer_in_items (start_scope u) u.items))

-- those that are defined then
abbrev pub defined_names : CUnit → List (List ℕ)
defined_names u = defined_in (desugared u).items

-- where what is reached calls only what is defined, the program has each helper function that is reached
abbrev pub HelpersOfProgramsAreThere : Type 0
HelpersOfProgramsAreThere =
    (u : CUnit) (ration : ℕ) → IsProgram u → CallsAreDefined (reached_names u) (defined_names u) → FormatsCallDefined (reached_names u) (defined_names u) → 2 ^ 9 ≤ ration
    → HasHelpers (helpers_of ration u) (text_of (desugared u)) (λ name. contains (reached_names u) name)
