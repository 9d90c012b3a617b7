use Rattle.std.proofs.Common.{arith}
use Rattle.sq_back.proofs.Sizes.{memory_start-few}
use Rattle.sq_back.proofs.image.put_first.Goals as goal

pub overflow_add-memory : goal.overflow_add-memory
overflow_add-memory g c = omega (arith, memory_start-few c.args.p.now c.requires.size, c.blocks_start.ensures, c.blocks_cells.ensures)

pub head_lines-head-requires : goal.head_lines-head-requires
head_lines-head-requires g c = omega (arith, c.requires.sound.start, c.requires.sound.size, c.start.ensures)
