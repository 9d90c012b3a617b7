-- What helper functions stand for that neither takes nor writes a byte.
use Rattle.std.specs.Prelude.{◌≡◌, ℕ, Bool, false, ◌||◌, List, Some}
use Rattle.std.specs.Str.{bytes_eq}
use Rattle.c_eval.specs.State.{Value, State, Outcome, Gives, Ended, Going, Undefined}
use Rattle.c_helpers.specs.Functions.{put_string}
use Rattle.c_helpers.specs.Meanings.{Action, is_format, stands_for}

-- however a part ends, its state shows the bytes taken and written that this one does
abbrev pub ShowsNoMore : {A : Type 0} → State → Outcome A → Type 0
ShowsNoMore st (Gives a after) = (after.taken ≡ st.taken) × (after.output ≡ st.output)
ShowsNoMore st (Ended after) = (after.taken ≡ st.taken) × (after.output ≡ st.output)
ShowsNoMore st (Going after) = (after.taken ≡ st.taken) × (after.output ≡ st.output)
ShowsNoMore st (Undefined act after) = (after.taken ≡ st.taken) × (after.output ≡ st.output)

-- the names of functions that print: those of formats, and that of `puts`
abbrev pub prints : List ℕ → Bool
prints name = is_format name || bytes_eq name put_string.name

-- what every other helper function stands for neither takes nor writes a byte, whatever its arguments
abbrev pub OperatorsAreSilent : Type 0
OperatorsAreSilent = (name : List ℕ) (action : Action) (vs : List Value) (st : State) → stands_for name ≡ Some action → prints name ≡ false → ShowsNoMore st (action vs st)
