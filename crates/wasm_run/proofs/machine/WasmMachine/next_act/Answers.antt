use Rattle.std.proofs.Common.{◌≡◌, ◌+◌, length, get_or, Some, None, ◌∙◌, rules}
use Rattle.std.specs.Prelude.{slice_get}
use Rattle.wasm_rule.specs.Code.{own_code}
use Rattle.wasm_rule.specs.Step.{act_of}
use Rattle.wasm_run.proofs.MachineLemmas.{view_with, act_here, act_gone, within_code}
use Rattle.wasm_run.proofs.machine.WasmMachine.next_act.Goals as goal

pub returns-in-Some-clause-act : goal.returns-in-Some-clause-act
returns-in-Some-clause-act c =
    let m = c.args.self.now.linked in
    let s = c.args.self.now.state in
    let there : slice_get (own_code m s.frame.body) s.frame.place ≡ Some c.in-Some.instr.now = search rules in
    let count : c.len.result ≡ length s.callers.items = search rules in
    let is : c.act.result ≡ act_of m (view_with s (c.len.result + 1)) c.in-Some.instr.now = search rules in
    is ∙ act_here m s c.len.result c.in-Some.instr.now count there

pub returns-in-Some-clause-within : goal.returns-in-Some-clause-within
returns-in-Some-clause-within c =
    let m = c.args.self.now.linked in
    let s = c.args.self.now.state in
    let there : slice_get (own_code m s.frame.body) s.frame.place ≡ Some c.in-Some.instr.now = search rules in
    within_code (own_code m s.frame.body) s.frame.place c.in-Some.instr.now there

pub returns-in-None-clause-none : goal.returns-in-None-clause-none
returns-in-None-clause-none c =
    let m = c.args.self.now.linked in
    let s = c.args.self.now.state in
    let none : slice_get (own_code m s.frame.body) s.frame.place ≡ None = search rules in
    act_gone m s none
