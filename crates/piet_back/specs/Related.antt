-- An EIR program and its board are at the same.
-- It serves the proofs alone: what an emission promises names none of it but the spelling.
use Rattle.std.specs.Prelude.{◌≡◌, ℕ, ◌+◌, ◌<◌, ◌≤◌, List, [], ◌∷◌, length, take, pos}
use Rattle.mach_core.specs.Rule.{at_start}
use Rattle.mach_core.specs.declared.machine.Status.TheVariants.{Ended}
use Rattle.eir_core.specs.Eir.{Eir}
use Rattle.eir_core.specs.Step.{Config}
use Rattle.eir_core.specs.Words.{IsWords, IsPlaced}
use Rattle.piet_image.specs.Raster.{Raster, picture_of}
use Rattle.piet_image.specs.Text.{Spells}
use Rattle.piet_image.proofs.Images.{image_atlas}
use Rattle.piet_lang.specs.Step.{Config as PietConfig}
use Rattle.piet_lane.specs.Lanes.{lanes_of}
use Rattle.piet_lane.specs.Runs.{RunsLanes, AtEnd}
use Rattle.piet_stack.specs.Makes.{values_at}
use Rattle.piet_stack.specs.Stack.{laid, HasPairs}
use Rattle.piet_back.specs.Lanes.{layout_of, flat, op_lane, lanes, start_lane}

-- the text spells the image in codels of one pixel
abbrev pub spells_image : List ℕ → Raster → Type 0
spells_image text image = Spells text 1 image

-- the number of an operation among those of all blocks
abbrev pub op_number : Eir → ℕ → ℕ → ℕ
op_number p b i = length (flat (take b p.blocks)) + i

-- the image runs the lanes of the program, the longest of which has so many commands
abbrev pub RunsProgram : Eir → Raster → ℕ → Type 0
RunsProgram p q reach = RunsLanes (picture_of q) (image_atlas q) (lanes_of (lanes p)) (start_lane p) (AtEnd (lanes_of (lanes p)) reach)

-- the run stands at the end of a lane, with the lane of the next operation on top of the registers and the memory
pub record IsLaid (p : Eir) (q : Raster) (c : Config) (d : PietConfig) : Type 0 where
  pub reach : ℕ
  pub runs : RunsProgram p q reach
  pub lane : ℕ
  pub count : ℕ
  pub pairs : HasPairs c.memory count
  pub stack : d.stack ≡ pos (op_lane (layout_of p) (op_number p c.block c.index)) ∷ laid c.regs c.memory count
  pub ends : AtEnd (lanes_of (lanes p)) reach lane (values_at d.stack 0 []) (at_start d)

-- the same words stand at the same places, and the run has ended where the program has
pub record Related (p : Eir) (q : Raster) (c : Config) (d : PietConfig) : Type 0 where
  pub words : IsWords c
  pub placed : IsPlaced p c
  pub going : c.block < length p.blocks → IsLaid p q c d
  pub ended : length p.blocks ≤ c.block → d.standing ≡ Ended
