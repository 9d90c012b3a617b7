-- Refusals whose reasons lie in what is refused.
use Rattle.std.specs.Prelude.{◌≢◌, ℕ, Err}
use Rattle.c_syntax.specs.Plain.{CUnit}
use Rattle.c_types.specs.declared.fault.TypeFault.TheVariants as fault
use Rattle.c_types.specs.Limits.{answer_to}

-- no tree is refused for want of memory
abbrev pub UnitsHaveReasons : Type 0
UnitsHaveReasons = (u : CUnit) → answer_to u ≢ Err fault.Memory
