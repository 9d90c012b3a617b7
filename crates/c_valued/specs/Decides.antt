-- Code of conditions, which comes to one of two places.
use Rattle.std.specs.Prelude.{◌≡◌, ℕ, ◌+◌, Bool, true, false, not, List, if◌then◌else◌}
use Rattle.eir_core.specs.Memory.{Memory}
use Rattle.eir_core.specs.Step.{reg_of, value_of, holds}
use Rattle.eir_core.specs.declared.ops.Reg.{Reg}
use Rattle.eir_core.specs.declared.ops.Operand.{Operand}
use Rattle.eir_core.specs.declared.ops.Cond.{Cond}
use Rattle.eir_core.specs.declared.ops.Op.{Op}
use Rattle.c_eval.specs.State.{Value, State, Run}
use Rattle.c_eval.specs.Operators.{is_true, truth_value}
use Rattle.c_place.specs.Code.{jumps}
use Rattle.c_place.specs.Place.{Place, Machine, front, Stands, behind_all}
use Rattle.c_memory.specs.Follows.{fuel_of, here, Follows}
use Rattle.c_memory.specs.Lies.{Extent}
use Rattle.c_landing.specs.Landing.{Setting, Ready, Reached}

-- a truth is as it is wanted
abbrev pub is_wanted : (wanted truth : Bool) → Bool
is_wanted true truth = truth
is_wanted false truth = not truth

-- one place where the truth is as wanted, and another where it isn't
abbrev pub DecidedAt : Setting → List Extent → State → Memory → (bp d : ℕ) → (there other : Place) → (wanted : Bool) → (Value → Type 0) → Value → State → Place → Machine → Type 0
DecidedAt S bs st mem bp d there other wanted M v st1 s1 m1 = Reached S bs st mem bp d (if is_wanted wanted (is_true v) then there else other) (λ v bs m. M v) v st1 s1 m1

-- code comes to the front of a block where the value of a part is as wanted, and else behind itself, where a block begins
pub record Decides (S : Setting) (code : List Op) (block d n c : ℕ) (run : Run Value) (M : Value → Type 0) (wanted : Bool) (target : ℕ) : Type 0 where
  pub at : (s : Place) (bs : List Extent) (st : State) (m : Machine) → s.block ≡ block → Stands S.program s code → Ready S bs st m d n
      → Follows S.program S.input S.mode (here s m st) (fuel_of st) c (run st) (DecidedAt S bs st m.memory m.regs.bp d (front target) (behind_all s code) wanted M)
  pub ends : (s : Place) → behind_all s code ≡ front (s.block + jumps code)

-- of a value as any other, and of one that is 1 or 0
abbrev pub Whatever : Value → Type 0
Whatever v = Unit {0}

abbrev pub IsTruth : Value → Type 0
IsTruth v = v ≡ truth_value (is_true v)

-- a comparison of two operands tells the truth of a value
abbrev pub Tested : Cond → Reg → Operand → Value → List Extent → Machine → Type 0
Tested test first second v bs m = is_true v ≡ holds test (reg_of m.regs first) (value_of m.regs second)
