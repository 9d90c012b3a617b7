-- What a picture does that runs lanes.
use Rattle.piet_image.specs.declared.place.Chooser.{Chooser}
use Rattle.piet_image.specs.declared.place.Pointer.TheVariants.{Left}
use Rattle.piet_image.specs.declared.place.Stand.{Stand}
use Rattle.std.specs.Prelude.{◌≡◌, ℕ, ◌+◌, ◌*◌, suc, ◌<◌, ◌≤◌, Bool, true, false, cond, ℤ, pos, List, [], ◌∷◌, ◌++◌, length, Some, None}
use Rattle.mach_core.specs.Rule.{Rule, Moment, input_at, run_from, at_start}
use Rattle.mach_core.specs.declared.machine.Status.TheVariants.{Going, Ended}
use Rattle.piet_lang.specs.declared.act.Act.{Act}
use Rattle.piet_lang.specs.declared.act.Act.TheVariants.{Point, Switch, InNumber, OutNumber}
use Rattle.piet_lang.specs.Act.{after_act, act_fits}
use Rattle.piet_lang.specs.Step.{Config, takes, bytes_of, piet_rule, piet_start}
use Rattle.piet_image.specs.Picture.{Picture}
use Rattle.piet_image.specs.Block.{Atlas}
use Rattle.piet_lane.specs.Board.{lane_at}

-- what lanes work on
pub record Values : Type 0 where
  pub stack : List ℤ
  pub taken : ℕ
  pub output : List ℕ

abbrev pub with_stack : Values → List ℤ → Values
with_stack v s = record { stack = s; taken = v.taken; output = v.output }

abbrev pub nothing_yet : Values
nothing_yet = record { stack = []; taken = 0; output = [] }

-- one act, at a block of one codel
abbrev pub after_one : List ℕ → Values → Act → Values
after_one input v a = record {
  stack = after_act a 1 (cond (takes (Some a)) (input_at input v.taken) 0) v.stack;
  taken = cond (takes (Some a)) (v.taken + 1) v.taken;
  output = v.output ++ bytes_of (Some a) v.stack;
}

abbrev pub after_all : List ℕ → Values → List Act → Values
after_all input v [] = v
after_all input v (a ∷ rest) = after_all input (after_one input v a) rest

-- no value leaves signed 64 bits on the way
abbrev pub Fit : List ℕ → Values → List Act → Type 0
Fit input v [] = Unit {0}
Fit input v (a ∷ rest) = (act_fits a v.stack ≡ true) × Fit input (after_one input v a) rest

-- the acts of lanes
abbrev pub plain : Act → Bool
plain Point = false
plain Switch = false
plain InNumber = false
plain OutNumber = false
plain _ = true

abbrev pub Plain : List Act → Type 0
Plain [] = Unit {0}
Plain (a ∷ rest) = (plain a ≡ true) × Plain rest

abbrev pub moment_at : Stand → Values → Moment Config
moment_at s v = record { config = record { at = s; stack = v.stack; reading = None; standing = Going }; taken = v.taken; output = v.output }

-- at the last codel of a lane
pub record AtEnd (lanes : List (List Act)) (reach : ℕ) (i : ℕ) (v : Values) (m : Moment Config) : Type 0 where
  pub x : ℕ
  pub chooser : Chooser
  pub here : x + suc (length (lane_at lanes i)) ≡ reach + 2
  pub known : i < length lanes
  pub is : moment_at (record { place = record { x = x; y = 6 + 5 * i }; pointer = Left; chooser = chooser }) v ≡ m

-- within so many steps, but not at once
pub record Comes {D : Type 0} (rule : Rule D) (input : List ℕ) (m : Moment D) (most : ℕ) (To : Moment D → Type 0) : Type 0 where
  pub count : ℕ
  pub some : 1 ≤ count
  pub few : count ≤ most
  pub there : To (run_from rule input m count)

-- the picture runs the lanes: Ends i v m says that m is at the end of lane i with these values
pub record RunsLanes (f : Picture) (atlas : Atlas f) (lanes : List (List Act)) (start : ℕ) (Ends : ℕ → Values → Moment Config → Type 0) : Type 0 where
  pub going : (i : ℕ) (v : Values) (m : Moment Config) → Ends i v m → (m.config.standing ≡ Going) × (m.taken ≡ v.taken) × (m.output ≡ v.output)
  pub begins : (input : List ℕ) → Fit input nothing_yet (lane_at lanes start)
      → Comes (piet_rule f atlas) input (at_start (piet_start f)) (64 * (length lanes + length (lane_at lanes start) + 1)) (Ends start (after_all input nothing_yet (lane_at lanes start)))
  pub goes_on : (input : List ℕ) (i j : ℕ) (s : List ℤ) (v : Values) (m : Moment Config) → Ends i (with_stack v (pos j ∷ s)) m → j ≤ 32767 → j < length lanes → Fit input (with_stack v s) (lane_at lanes j)
      → Comes (piet_rule f atlas) input m (64 * (length lanes + length (lane_at lanes j) + 1)) (Ends j (after_all input (with_stack v s) (lane_at lanes j)))
  pub finishes : (input : List ℕ) (i j : ℕ) (s : List ℤ) (v : Values) (m : Moment Config) → Ends i (with_stack v (pos j ∷ s)) m → j ≤ 32767 → length lanes ≤ j
      → Comes (piet_rule f atlas) input m (64 * (length lanes + 0 + 1)) (λ w. (w.config.standing ≡ Ended) × (w.taken ≡ v.taken) × (w.output ≡ v.output))
