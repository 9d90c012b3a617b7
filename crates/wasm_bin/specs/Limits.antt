-- The limits that a module keeps which bytes spell.
use Rattle.std.specs.Prelude.{◌≡◌, ◌^◌, ◌≤◌, All, length, Option, None, Some}
use Rattle.wasm_bin.specs.declared.module.FuncType.{FuncType}
use Rattle.wasm_bin.specs.declared.module.Limits.{Limits}
use Rattle.wasm_bin.specs.declared.module.Module.{Module}

-- a memory has at most 1024 pages at the start
abbrev pub HasFewPages : Option Limits → Type 0
HasFewPages None = Unit {0}
HasFewPages (Some l) = l.min ≤ 1024

pub record KeepsLimits (m : Module) : Type 0 where
  pub types : length m.types ≤ 2 ^ 20
  pub params : All (λ (t : FuncType). t.params ≤ 2 ^ 16) m.types
  pub imports : length m.imports ≤ 2 ^ 20
  pub funcs : length m.funcs ≤ 2 ^ 20
  -- each function that is not imported has a body
  pub bodies : length m.bodies ≡ length m.funcs
  pub pages : HasFewPages m.memory
  pub globals : length m.globals ≤ 2 ^ 20
  pub exports : length m.exports ≤ 2 ^ 20
  pub segments : length m.segments ≤ 2 ^ 20
