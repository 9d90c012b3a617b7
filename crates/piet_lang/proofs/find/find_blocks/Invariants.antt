use Rattle.piet_lang.specs.Blocks.{Found}
use Rattle.piet_lang.proofs.find.find_blocks.Given as goal

abbrev pub invariant-loop-index : goal.invariant-loop-index
invariant-loop-index l = Found l.image l.blocks.numbers.items l.blocks.sizes.items l.blocks.exits.items l.index
