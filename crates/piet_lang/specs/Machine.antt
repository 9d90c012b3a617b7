-- What a machine executes, and where it is.
use Rattle.piet_image.specs.Raster.{Raster}
use Rattle.piet_lang.specs.declared.machine.PietMachine.{PietMachine}
use Rattle.piet_lang.specs.Step.{Config}

abbrev pub code_of : PietMachine → Raster
code_of m = m.chart

abbrev pub state_of : PietMachine → Config
state_of m = m.state
