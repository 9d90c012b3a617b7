-- What a call that ran a machine has done, against the run of its rule.
use Rattle.std.specs.Prelude.{◌≡◌, ◌⊎◌, ℕ, Result, Ok, Err, Some}
use Rattle.mach_core.specs.declared.run.RunEnd.{RunEnd}
use Rattle.mach_core.specs.Outside.{Rose}
use Rattle.mach_core.specs.Ran.{LacksByte, OnInput, Ran, RanBroken, RanFewer}
use Rattle.mach_core.specs.Rule.{Rule}
use Rattle.c_run.specs.declared.run.CEnd.{CEnd}
use Rattle.c_run.specs.declared.run.CFault.{CFault}
use Rattle.c_run.specs.declared.run.CFault.TheVariants.{Read, Write, Memory}
use Rattle.c_run.specs.Ends.{c_end}
use Rattle.c_run.specs.Runs.{OnSource, OnSink}

-- after so many steps it has come to an end
abbrev pub RanTo : {C : Type 0} → Rule C → C → ℕ → RunEnd → C → OnSource → OnSink → Type 0
RanTo rule start limit end now input out = OnInput input.left input.left_after (λ bytes given. Ran rule start input.left input.left_after bytes given limit end now out.got out.got_after)

-- what its answer says: how the run comes to an end, or that the source failed where a byte was wanted, that the sink failed, or that no memory was found
abbrev pub MachineAnswers : {C : Type 0} → Rule C → C → Result CEnd CFault → OnSource → OnSink → Type 0
MachineAnswers {C} rule start (Ok c) input out = (limit : ℕ) × (end : RunEnd) × (now : C) × (c_end end ≡ Some c) × RanTo rule start limit end now input out
MachineAnswers {C} rule start (Err Read) input out = Rose input.faults input.faults_after × ((limit : ℕ) × (now : C) × LacksByte rule start limit input.left input.left_after now out.got out.got_after)
MachineAnswers {C} rule start (Err Write) input out =
    Rose out.faults out.faults_after × ((limit : ℕ) × (now : C) × OnInput input.left input.left_after (λ bytes given. RanBroken rule start input.left input.left_after bytes given limit now out.got out.got_after))
MachineAnswers {C} rule start (Err Memory) input out =
    ((limit : ℕ) × (now : C) × OnInput input.left input.left_after (λ bytes given. RanFewer rule start input.left input.left_after bytes given limit now out.got out.got_after))
    ⊎ ((limit : ℕ) × (end : RunEnd) × (now : C) × RanTo rule start limit end now input out)
