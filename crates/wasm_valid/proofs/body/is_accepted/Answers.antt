use Rattle.std.proofs.Common.{◌≡◌, true, rules}
use Rattle.wasm_valid.specs.Context.{context_of}
use Rattle.wasm_valid.specs.Checking.{step, Leads}
use Rattle.wasm_valid.proofs.Low.{IsLow-step}
use Rattle.wasm_valid.proofs.Deciding.{walk_more, leads_is}
use Rattle.wasm_valid.proofs.body.is_accepted.Goals as goal

pub loop-instruction-preserved : goal.loop-instruction-preserved
loop-instruction-preserved c =
    let k = context_of c.args.m.now c.args.locals c.args.results in
    let i = c.instruction-item.result in
    let s = c.loop-instruction.state in
    let t = c.step.new.self in
    let going : c.in_ok-step.field-0 ≡ true = search rules in
    let leads : Leads (step k i s) c.in_ok-step.field-0 t = c.in_ok-step.ensures in
    record {
      rest = walk_more k c.args.code.now c.loop-instruction.instruction-index i s t c.in_ok-step.field-0 c.loop-instruction-test.true c.instruction-item.is leads going c.loop-instruction.invariant.rest;
      low = IsLow-step k i s t c.loop-instruction.instruction-index c.requires c.loop-instruction.invariant.low (leads_is (step k i s) t c.in_ok-step.field-0 leads going);
    }
