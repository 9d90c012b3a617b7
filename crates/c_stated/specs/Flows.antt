-- Code of statements, and where their flows go on.
use Rattle.std.specs.Prelude.{◌≡◌, ℕ, suc, ◌+◌, ◌<◌, List, [], ◌∷◌, length}
use Rattle.eir_core.specs.Eir.{Eir}
use Rattle.eir_core.specs.Memory.{Memory}
use Rattle.eir_core.specs.declared.ops.Op.{Op}
use Rattle.eir_core.specs.declared.ops.Op.TheVariants.{Jump}
use Rattle.c_eval.specs.State.{Cell, State, Run}
use Rattle.c_eval.specs.Eval.{Flow, Next, Broke, Continued, Returned}
use Rattle.c_place.specs.Place.{Place, Machine, Has, Stands, behind_all}
use Rattle.c_lowered.specs.Locations.{Location, Framed}
use Rattle.c_lowered.specs.Operations.{constant, return_code}
use Rattle.c_lowered.specs.Statements.{Targets}
use Rattle.c_memory.specs.Follows.{fuel_of, here, Follows}
use Rattle.c_memory.specs.Lies.{Extent, base}
use Rattle.c_landing.specs.Landing.{at_number, Setting, Ready, Left, InA}

-- ---- flows

-- behind the code; or before the jump to the block to which a `break` or a `continue` leads; or before the code that leads to the caller
abbrev pub GoesOn : Eir → Targets → (end : Place) → Flow → Place → Type 0
GoesOn p to end Next s = s ≡ end
GoesOn p to end Broke s = Has p s (Jump (constant to.broke))
GoesOn p to end Continued s = Has p s (Jump (constant to.continued))
GoesOn p to end (Returned v) s = Stands p s return_code

-- what a function gives stands in A
abbrev pub FlowInA : Setting → Flow → List Extent → Machine → Type 0
FlowInA S (Returned v) bs m = InA S v bs m
FlowInA S flow bs m = Unit {0}

-- a statement has come to where its flow goes on
pub record FlowReached (S : Setting) (bs : List Extent) (st : State) (mem : Memory) (bp d : ℕ) (to : Targets) (end : Place) (flow : Flow) (st1 : State) (s1 : Place) (m1 : Machine) : Type 0 where
  pub goes : GoesOn S.program to end flow s1
  pub bases : List Extent
  pub left : Left S bs st mem bp d bases st1 m1
  pub means : FlowInA S flow bases m1

-- ---- objects that are declared

-- the object that has a number in the run lies in the frame, where the one that has a number for the code does
pub record IsFramed (bs : List Extent) (bp : ℕ) (bases : List Location) (coded named : ℕ) : Type 0 where
  pub offset : ℕ
  pub place : at_number bases coded ≡ Framed offset
  pub there : named < length bs
  pub lies : base bs named ≡ bp + offset

-- so do objects that are declared one after the other
abbrev pub AreFramed : List Extent → ℕ → List Location → (coded named : ℕ) → List (List Cell) → Type 0
AreFramed bs bp bases i o [] = Unit {0}
AreFramed bs bp bases i o (cells ∷ more) = IsFramed bs bp bases i o × AreFramed bs bp bases (suc i) (suc o) more

-- ---- statements

-- code follows statements from its begin in a block, where the objects that they declare lie in the frame
pub record Performs (S : Setting) (code : List Op) (block d n c : ℕ) (run : Run Flow) (to : Targets) (coded named : ℕ) (objects : List (List Cell)) : Type 0 where
  pub at : (s : Place) (bs : List Extent) (st : State) (m : Machine) → s.block ≡ block → Stands S.program s code → Ready S bs st m d n → AreFramed bs m.regs.bp S.linking.bases coded named objects
      → Follows S.program S.input S.mode (here s m st) (fuel_of st) c (run st) (FlowReached S bs st m.memory m.regs.bp d to (behind_all s code))
