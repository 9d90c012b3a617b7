-- Laws of the translation.
use Rattle.std.specs.Prelude.{ℕ, ◌≤◌, ◌^◌, true, List}
use Rattle.eir_core.specs.Eir.{Eir, IsEir, size_of}
use Rattle.sim_trait.specs.Bound.{Slowdown}
use Rattle.sim_trait.specs.Laws.{Simulates, Translates}
use Rattle.piet_image.specs.Raster.{Raster}
use Rattle.piet_lang.specs.Rule.{rule_of, start_of}
use Rattle.piet_back.specs.Related.{RunsProgram, Related, spells_image}

-- how much slower a board may be: by this factor, and by how far the program reaches into its memory too
abbrev pub piet_slowdown : Slowdown
piet_slowdown = record { factor = 2 ^ 16; by_reach = true }

-- an image that runs the lanes of a program that is not too large does what the program does
abbrev pub BoardSimulates : Type 0
BoardSimulates = (p : Eir) (q : Raster) (reach : ℕ) → IsEir p → size_of p ≤ 2 ^ 12 → RunsProgram p q reach → Simulates (rule_of q) (start_of q) (Related p q) piet_slowdown p

-- a text of an image for a program
abbrev pub StandsFor : Eir → List ℕ → Type 0
StandsFor p text = (q : Raster) × Translates spells_image rule_of start_of Related piet_slowdown p text q
