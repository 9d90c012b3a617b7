-- That a module has one answer.
use Rattle.std.specs.Prelude.{◌≡◌, ◌≢◌, ◌⊎◌}
use Rattle.wasm_bin.specs.declared.module.Module.{Module}
use Rattle.wasm_valid.specs.declared.fault.ValidFault.{ValidFault}
use Rattle.wasm_valid.specs.declared.fault.ValidFault.TheVariants.{Memory}
use Rattle.wasm_valid.specs.Rules.{IsValid, IsRefused}

-- a module is valid or refused, and never both, and it is refused in one way; want of memory tells nothing of the module
pub record HasOneAnswer (m : Module) : Type 0 where
  pub some : IsValid m ⊎ ((fault : ValidFault) × (fault ≢ Memory) × IsRefused m fault)
  pub taken : (fault : ValidFault) → fault ≢ Memory → IsValid m → IsRefused m fault → ⊥
  pub refused : (a b : ValidFault) → a ≢ Memory → b ≢ Memory → IsRefused m a → IsRefused m b → a ≡ b
