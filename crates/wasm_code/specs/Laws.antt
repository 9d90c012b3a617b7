-- Laws of the module for a program.
use Rattle.std.specs.Prelude.{ℕ, ◌^◌, ◌≤◌, List, length}
use Rattle.eir_core.specs.Eir.{Eir, IsEir, size_of}
use Rattle.wasm_valid.specs.Rules.{IsValid}
use Rattle.wasm_rule.specs.Spells.{WasmSpells}
use Rattle.wasm_rule.specs.Start.{IsLinkable}
use Rattle.wasm_code.specs.Emitted.{module_for}

-- it is valid
abbrev pub ModulesAreValid : Type 0
ModulesAreValid = (p : Eir) → IsValid (module_for p)

-- it can be run here
abbrev pub ModulesAreLinkable : Type 0
ModulesAreLinkable = (p : Eir) → size_of p ≤ 2 ^ 16 → IsLinkable (module_for p)

-- some bytes, of which there are 2^29 at most, are this module, valid and to be run here
abbrev pub ModulesAreSpelled : Type 0
ModulesAreSpelled = (p : Eir) → IsEir p → size_of p ≤ 2 ^ 16 → (bytes : List ℕ) × WasmSpells bytes (module_for p) × (length bytes ≤ 2 ^ 29)
