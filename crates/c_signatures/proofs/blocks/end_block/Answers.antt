use Rattle.c_signatures.proofs.BlockLemmas.{names_left}
use Rattle.c_signatures.proofs.blocks.end_block.Goals as goal

pub returns : goal.returns
returns c = λ d inside mark.
    let e = c.leave.new.self in
    let k = names_left d.names.block e.block d.names.outer e.outer c.args.declared.now.names.outer c.args.mark inside.outer c.in_ok-leave.ensures.names mark c.in_ok-leave.ensures.outer in
    record { block = k.0; outer = k.1; layouts = inside.layouts; defined = inside.defined }
