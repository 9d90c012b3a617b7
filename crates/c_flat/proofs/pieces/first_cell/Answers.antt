use Rattle.std.proofs.Common.{refl}
use Rattle.c_code.specs.Code as code
use Rattle.c_flat.proofs.pieces.first_cell.Goals as goal

pub returns : goal.returns
returns c = λ t has. c.add.ensures (code.First c.args.slot c.args.offset t) (record { means = λ names p more. ((refl, refl), c.kind.ensures t has) })
