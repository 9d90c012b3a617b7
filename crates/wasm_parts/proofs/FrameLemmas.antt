-- Places in the code of a call, and its values.
use Rattle.std.proofs.Common.{◌≡◌, ℕ, ◌+◌, ◌<◌, List, [], ◌∷◌, length, drop, set, refl, sym, arith}
use Rattle.std.proofs.lemmas.List.{drop-drop}
use Rattle.wasm_bin.specs.declared.module.Instr.{Instr}

-- one instruction on
pub next_place : (place : ℕ) (code : List Instr) → drop (place + 1) code ≡ drop 1 (drop place code)
next_place place code = sym (drop-drop 1 place code)

-- another value at the top
pub set_top : (values : List ℕ) (value : ℕ) → 0 < length values → set values 0 value ≡ value ∷ drop 1 values
set_top [] value lt = absurd (omega arith)
set_top (x ∷ values) value lt = refl

pub ruleset topmost = (next_place, set_top)
