-- What the bytes of a file are: a module, or refused.
use Rattle.std.specs.Prelude.{ℕ, ◌<◌, ◌≤◌, List}
use Rattle.wasm_bytes.specs.declared.fault.ModFault.{ModFault}
use Rattle.wasm_bytes.specs.declared.fault.ModFault.TheVariants.{Malformed, Unsupported, TooLarge, Memory}
use Rattle.wasm_bin.specs.declared.module.Module.{Module}
use Rattle.wasm_bytes.specs.Outcome.{Fails}
use Rattle.wasm_bin.specs.Parts.{parts_of}
use Rattle.wasm_bin.specs.Section.{module_in}
use Rattle.wasm_bin.specs.Grammar.{ModuleSpells}

-- the bytes spell the module
abbrev pub module_spells : List ℕ → Module → Type 0
module_spells bytes m = ModuleSpells bytes (parts_of m)

-- The bytes are refused for this: reading from left to right meets it. Want of memory is free.
abbrev pub IsRefusedFor : List ℕ → ModFault → Type 0
IsRefusedFor bytes fault = Fails fault (module_in bytes)

-- the place of a fault lies in a file of so many bytes, or at its end where a byte is wanted or doesn't fit
abbrev pub IsFaultWithin : ℕ → ModFault → Type 0
IsFaultWithin n (Malformed at) = at ≤ n
IsFaultWithin n (Unsupported at) = at < n
IsFaultWithin n (TooLarge at) = at < n
IsFaultWithin n Memory = ⊥
