-- Which bytes are a module that can be run here.
use Rattle.std.specs.Prelude.{ℕ, List}
use Rattle.wasm_bin.specs.declared.module.Module.{Module}
use Rattle.wasm_bin.specs.Module.{module_spells}
use Rattle.wasm_valid.specs.Rules.{IsValid}
use Rattle.wasm_rule.specs.Start.{IsLinkable}

-- the bytes are a module that is valid and can be run here
pub record WasmSpells (bytes : List ℕ) (m : Module) : Type 0 where
  pub spelled : module_spells bytes m
  pub valid : IsValid m
  pub linkable : IsLinkable m
