use Rattle.std.proofs.Common.{◌∙◌}
use Rattle.c_signatures.proofs.BlockLemmas.{first_left}
use Rattle.c_signatures.proofs.bodies.leave_body.Goals as goal

pub returns : goal.returns
returns c = λ d inside mark.
    let e = c.leave.new.self in
    let k = first_left d.names.block e.block (inside.name, inside.entity) d.names.outer e.outer c.args.declared.now.names.outer c.args.mark inside.outer c.in_ok-leave.ensures.names mark c.in_ok-leave.ensures.outer in
    record { block = c.in_ok-withdraw.ensures.block ∙ k.0; outer = c.in_ok-withdraw.ensures.outer ∙ k.1; layouts = inside.layouts; defined = inside.defined }
