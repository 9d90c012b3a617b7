-- Expressions that write nothing and call nothing leave the state of a run as it is.
use Rattle.std.specs.Prelude.{◌≡◌, true}
use Rattle.c_syntax.specs.Plain.{CExpr}
use Rattle.c_eval.specs.State.{State, Outcome, Gives, Ended, Going, Undefined}
use Rattle.c_eval.specs.Environment.{Environment}
use Rattle.c_eval.specs.Eval.{World, value_of, place_of}
use Rattle.c_lowered.specs.Locations.{is_quiet}

-- a value or an undefined act, with the state as it was: the run has neither ended nor wants a unit
abbrev pub IsStill : {A : Type 0} → State → Outcome A → Type 0
IsStill before (Gives v st) = st ≡ before
IsStill before (Ended st) = ⊥
IsStill before (Going st) = ⊥
IsStill before (Undefined act st) = st ≡ before

-- so the first operand may be read behind a second that is quiet
pub record QuietKeepsState : Type 0 where
  pub value : (e : CExpr) (w : World) (here : Environment) (st : State) → is_quiet e ≡ true → IsStill st (value_of e w here st)
  pub place : (e : CExpr) (w : World) (here : Environment) (st : State) → is_quiet e ≡ true → IsStill st (place_of e w here st)
