-- Where the blocks of some code go on, as places in it.
use Rattle.std.specs.Prelude.{◌≡◌, ℕ, ◌+◌, ◌<◌, List, ◌∷◌, length, drop, slice_index_or}
use Rattle.wasm_bin.specs.declared.module.Instr.{Instr}
use Rattle.wasm_bin.specs.declared.module.Instr.TheVariants.{Block, Loop, If, Else, End}
use Rattle.wasm_parts.specs.declared.jumps.Jump.{Jump}
use Rattle.wasm_rule.specs.Code.{past_end, else_part}

-- the places behind the `end` and at the `else` of the block so many levels out of the rest of some code
pub record Leads (code : List Instr) (depth : ℕ) (rest : List Instr) (jump : Jump) : Type 0 where
  pub past : past_end depth rest ≡ drop jump.past code
  pub other : else_part depth rest ≡ drop jump.other code

-- at each place of the code, the places of the block that begins there
abbrev pub IsTable : List Instr → List Jump → Type 0
IsTable code table = (place : ℕ) (jump : Jump) → place < length code → Leads code 0 (drop (place + 1) code) (slice_index_or table place jump)

-- the places of the blocks that enclose the rest of some code, the innermost first; farther out all lead to the last places
abbrev pub AreOpen : List Instr → List Instr → Jump → List Jump → Type 0
AreOpen code rest last open_blocks = (depth : ℕ) → Leads code depth rest (slice_index_or open_blocks depth last)

-- the places of the blocks that enclose an instruction at a place, from those of the blocks that enclose what follows
abbrev pub enclosing : Instr → ℕ → Jump → List Jump → List Jump
enclosing (Block gives) place last inner = drop 1 inner
enclosing (Loop gives) place last inner = drop 1 inner
enclosing (If gives) place last inner = drop 1 inner
enclosing Else place last inner = record { past = (slice_index_or inner 0 last).past; other = place + 1 } ∷ drop 1 inner
enclosing End place last inner = record { past = place + 1; other = place } ∷ inner
enclosing _ place last inner = inner
