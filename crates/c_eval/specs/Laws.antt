-- Laws of the meaning of texts.
use Rattle.std.specs.Prelude.{◌≡◌, ℕ, ◌<◌, ◌≤◌, List, ◌++◌}
use Rattle.mach_core.specs.Rule.{input_at}
use Rattle.c_syntax.specs.Plain.{CUnit}
use Rattle.c_eval.specs.State as state
use Rattle.c_eval.specs.State.{Act, number_of, State}
use Rattle.c_eval.specs.Text.{text_of}
use Rattle.c_eval.specs.Meaning.{Ended, Going, Undefined, Meaning, own_rules, eval, meaning_of}

-- one run goes on where another is still going, and else shows the same
pub record GoesOnFrom (before behind : Meaning) : Type 0 where
  pub output : (tail : List ℕ) × (behind.output ≡ before.output ++ tail)
  pub taken : before.taken ≤ behind.taken
  pub settled : (before.end ≡ Going → ⊥) → behind ≡ before

-- a run at more fuel extends a run at less: output and taken bytes only grow
abbrev pub MoreFuelExtends : Type 0
MoreFuelExtends = (u : CUnit) (input : List ℕ) (less more : ℕ) → less ≤ more → GoesOnFrom (meaning_of u input less) (meaning_of u input more)

-- a run that has ended is the same at more fuel
abbrev pub EndedStays : Type 0
EndedStays = (u : CUnit) (input : List ℕ) (less more : ℕ) → less ≤ more → (meaning_of u input less).end ≡ Ended → meaning_of u input more ≡ meaning_of u input less

-- so is one that came to an undefined act
abbrev pub UndefinedStays : Type 0
UndefinedStays =
    (u : CUnit) (input : List ℕ) (less more : ℕ) (act : Act) → less ≤ more → (meaning_of u input less).end ≡ Undefined act → meaning_of u input more ≡ meaning_of u input less

-- two inputs have the same first bytes
abbrev pub AgreeOn : ℕ → List ℕ → List ℕ → Type 0
AgreeOn n i j = (b : ℕ) → b < n → input_at i b ≡ input_at j b

-- a run doesn't depend on input past what it has taken
abbrev pub TakenBytesDecide : Type 0
TakenBytesDecide = (u : CUnit) (i j : List ℕ) (fuel : ℕ) → AgreeOn (meaning_of u i fuel).taken i j → meaning_of u j fuel ≡ meaning_of u i fuel

-- a run is still going only where its fuel is used up
abbrev pub GoingIsOutOfFuel : Type 0
GoingIsOutOfFuel = (u : CUnit) (input : List ℕ) (fuel : ℕ) (st : State) → eval (own_rules u) (text_of u) input fuel ≡ state.Going st → st.left ≡ 0

-- a text that a programmer wrote comes to the acts 1 to 12 alone
abbrev pub ActsAreNumbered : Type 0
ActsAreNumbered = (u : CUnit) (input : List ℕ) (fuel : ℕ) (act : Act) → (meaning_of u input fuel).end ≡ Undefined act → number_of act ≤ 12
