use Rattle.std.proofs.Common.{◌≡◌, Some, None, rules}
use Rattle.std.specs.Prelude.{slice_get}
use Rattle.wasm_run.proofs.StateLemmas.{branch_done, out_done}
use Rattle.wasm_run.proofs.state.State.branch.Goals as goal

pub returns-in-Some-clause-ok : goal.returns-in-Some-clause-ok
returns-in-Some-clause-ok c =
    let there : slice_get c.args.self.now.frame.marks c.args.depth ≡ Some c.in-Some.mark = search rules in
    branch_done c.go_out.result c.args.self.now c.args.count c.args.depth c.in-Some.mark c.go_out.new.self there c.go_out.ensures.ok

pub returns-in-None-clause-ok : goal.returns-in-None-clause-ok
returns-in-None-clause-ok c =
    let none : slice_get c.args.self.now.frame.marks c.args.depth ≡ None = search rules in
    out_done c.end_call.result c.args.self.now c.end_call.new.self c.args.count c.args.depth none c.end_call.ensures.ok
