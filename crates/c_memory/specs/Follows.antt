-- A run of a program that follows a part of a run of C, with the units of fuel and the operations counted.
use Rattle.std.specs.Prelude.{◌≡◌, ℕ, zero, suc, ◌+◌, ◌<◌, ◌≤◌, List, length}
use Rattle.mach_core.specs.Rule.{Moment, run_from}
use Rattle.eir_core.specs.Eir.{Eir}
use Rattle.eir_core.specs.Step.{Config, eir_rule}
use Rattle.c_eval.specs.State.{State, Outcome, Gives, Ended, Going, Undefined}
use Rattle.c_place.specs.Place.{Place, Machine, moment}

-- the units of the run, and of the second fuel
pub record Fuel : Type 0 where
  pub left : ℕ
  pub spare : ℕ

abbrev pub fuel_of : State → Fuel
fuel_of st = record { left = st.left; spare = st.spare }

-- what so many units pay for, at so many operations each
unfoldable pub worth : ℕ → ℕ → ℕ
worth d zero = 0
worth d (suc u) = d + worth d u

-- in which a part of a run takes place
pub record Mode : Type 0 where
  -- what the units still pay for
  pub pay : Fuel → ℕ
  -- how many calls and turns may still come
  pub gauge : Fuel → ℕ

-- outside helper functions: a unit pays for d operations
abbrev pub outer : ℕ → Mode
outer d = record { pay = λ x. worth d x.left; gauge = λ x. x.left }

-- in a use of a helper function: a unit of the second fuel, of which a use has at most `ration`, pays for h operations
abbrev pub in_use : (d h ration : ℕ) → Mode
in_use d h ration = record { pay = λ x. worth d x.left + worth h x.spare; gauge = λ x. worth (suc ration) x.left + x.spare }

-- at a place, with what a state of C shows
abbrev pub here : Place → Machine → State → Moment Config
here s m st = moment s m st.taken st.output

-- a run comes from one moment to another: it takes no fewer operations than units of the run are spent, and no more than c and what the units pay for
pub record Comes (p : Eir) (input : List ℕ) (mode : Mode) (from : Moment Config) (x : Fuel) (c : ℕ) (to : Moment Config) (y : Fuel) : Type 0 where
  pub count : ℕ
  pub ends : run_from (eir_rule p) input from count ≡ to
  pub spent : x.left ≤ count + y.left
  pub less : y.left ≤ x.left
  pub down : mode.gauge y ≤ mode.gauge x
  pub paid : count + mode.pay y ≤ c + mode.pay x

-- a run follows a part of a run of C: it comes to a moment that shows the part's state, and that Q holds of where the part gives a value
abbrev pub Follows : {A : Type 0} → Eir → List ℕ → Mode → Moment Config → Fuel → ℕ → Outcome A → (A → State → Place → Machine → Type 0) → Type 0
Follows p input mode from x c (Gives v st) Q = (s : Place) × (m : Machine) × Comes p input mode from x c (here s m st) (fuel_of st) × Q v st s m
Follows p input mode from x c (Ended st) Q = (s : Place) × (m : Machine) × Comes p input mode from x c (here s m st) (fuel_of st) × (length p.blocks ≤ s.block)
Follows p input mode from x c (Going st) Q = (s : Place) × (m : Machine) × (n : ℕ) × Comes p input mode from x c (here s m st) (record { left = 0; spare = n }) × (s.block < length p.blocks)
Follows p input mode from x c (Undefined act st) Q = (s : Place) × (m : Machine) × (y : Fuel) × Comes p input mode from x c (here s m st) y

-- one unit less, which paid for so many operations
pub record OneLess (mode : Mode) (worth_one : ℕ) (x y : Fuel) : Type 0 where
  pub left : x.left ≤ 1 + y.left
  pub less : y.left ≤ x.left
  pub gauge : mode.gauge y < mode.gauge x
  pub paid : mode.pay y + worth_one ≤ mode.pay x
