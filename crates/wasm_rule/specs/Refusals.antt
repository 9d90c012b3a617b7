-- Why a module can't be run here.
use Rattle.std.specs.Prelude.{◌≡◌, ◌≢◌, ◌⊎◌, true, false, IsSome, None, ⊤}
use Rattle.wasm_bin.specs.declared.module.Module.{Module}
use Rattle.wasm_rule.specs.declared.fault.LinkFault.{LinkFault}
use Rattle.wasm_rule.specs.declared.fault.LinkFault.TheVariants.{WrongImport, NoMain, BadData, Memory}
use Rattle.wasm_rule.specs.Start.{are_known, main_of, are_placed, IsLinkable}

-- the imports come first, then `main`, and then the segments
abbrev pub IsRefusedFor : Module → LinkFault → Type 0
IsRefusedFor m WrongImport = are_known m ≡ false
IsRefusedFor m NoMain = (are_known m ≡ true) × (main_of m ≡ None)
IsRefusedFor m BadData = (are_known m ≡ true) × IsSome (main_of m) × (are_placed m ≡ false)
IsRefusedFor m Memory = ⊤

-- a module can be run here or is refused, and never both, and it is refused in one way; want of memory tells nothing of the module
pub record HasOneAnswer (m : Module) : Type 0 where
  pub some : IsLinkable m ⊎ ((fault : LinkFault) × (fault ≢ Memory) × IsRefusedFor m fault)
  pub taken : (fault : LinkFault) → fault ≢ Memory → IsLinkable m → IsRefusedFor m fault → ⊥
  pub refused : (a b : LinkFault) → a ≢ Memory → b ≢ Memory → IsRefusedFor m a → IsRefusedFor m b → a ≡ b
