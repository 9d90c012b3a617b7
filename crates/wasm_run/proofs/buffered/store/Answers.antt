use Rattle.std.proofs.Common.{◌≡◌, true, refl, rules}
use Rattle.wasm_run.proofs.HeldSteps.{stores}
use Rattle.wasm_rule.specs.Memory.{is_within}
use Rattle.wasm_run.proofs.buffered.store.Goals as goal

pub returns : goal.returns
returns c = λ globals jumps.
    let within : is_within c.args.memory.now c.args.address c.args.count ≡ true = search rules in
    record {
      takes_none = refl;
      writes_none = refl;
      function_kept = c.take.ensures.body;
      leads = λ m s table inner. stores m s c.args.frame.now c.take.new.self globals c.args.memory.now c.put.new.self c.args.count c.args.address c.args.word within (c.put.ensures.done c.if-not-put.false) (c.take.ensures.call m);
    }
