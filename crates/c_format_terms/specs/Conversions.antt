-- The conversions that are still to come, from where one is in a format.
use Rattle.std.specs.Prelude.{ℕ, List, Option, None, true, false, ◌==◌, if◌then◌else◌}
use Rattle.c_types.specs.Operands.{conversions_behind}
use Rattle.c_format_terms.specs.declared.conversions.State.{State}
use Rattle.c_format_terms.specs.declared.conversions.State.TheVariants as state

abbrev pub behind_text : ℕ → State
behind_text byte = if byte == 37 then state.Percent else state.Text

abbrev pub conversions_from : State → List ℕ → Option (List ℕ)
conversions_from state.Text format = conversions_behind false format
conversions_from state.Percent format = conversions_behind true format
conversions_from state.Fault format = None
