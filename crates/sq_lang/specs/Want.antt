-- When a step may find no memory.
use Rattle.std.specs.Prelude.{◌≡◌, ◌≢◌, ℕ, ◌/◌, pos, ◌-ℤ◌}
use Rattle.sq_lang.specs.declared.act.Act.{Act}
use Rattle.sq_lang.specs.declared.act.Act.TheVariants.{Take, Write, Subtract, Stop}
use Rattle.sq_lang.specs.Step.{CellMap, cell_at}

-- the page of an address holds 0 alone
abbrev pub IsBlank : CellMap → ℕ → Type 0
IsBlank cells address = (q : ℕ) → q / 4096 ≡ address / 4096 → cell_at cells q ≡ pos 0

-- the act puts a value other than 0 into a cell whose page holds 0 alone
abbrev pub WantsPage : CellMap → Act → ℕ → Type 0
WantsPage cells (Take b) byte = (byte ≢ 0) × IsBlank cells b
WantsPage cells (Write a) byte = ⊥
WantsPage cells (Subtract a b target) byte = (cell_at cells b -ℤ cell_at cells a ≢ pos 0) × IsBlank cells b
WantsPage cells (Stop code) byte = ⊥
