use Rattle.std.proofs.Common.{◌≡◌, ℕ, sym, ap, subst, ◌∙◌, arith}
use Rattle.mach_core.specs.Held.{Buffers}
use Rattle.wasm_bin.specs.declared.module.Module.{Module}
use Rattle.wasm_rule.specs.Code.{own_code}
use Rattle.wasm_parts.specs.Jumps.{IsTable}
use Rattle.wasm_run.specs.InCall.{act_on, IsHeldStep}
use Rattle.wasm_run.proofs.HeldSteps.{one_more}
use Rattle.wasm_run.proofs.buffered.run_buffered.Goals as goal

pub steps-preserved : goal.steps-preserved
steps-preserved c =
    let m = c.args.linked.now in
    let frame = c.steps.frame in
    let code = c.code-code.result.now in
    let jumps = c.jumps-jumps.result.now in
    let instr = c.index-code-frame.result in
    let kept = c.steps.invariant.function_kept in
    let act = act_on c.module.result.now c.args.calls frame c.steps.globals c.steps.memory instr in
    let before : Buffers = record { held = c.args.feed.now; put = c.args.put.now } in
    let there : Buffers = record { held = c.steps.feed; put = c.steps.put } in
    let after' : Buffers = record { held = c.make.new.feed; put = c.make.new.put } in
    let held : IsHeldStep act jumps frame c.steps.globals c.steps.memory there c.make.new.frame c.make.new.globals c.make.new.memory after' = c.if-not-make.ensures in
    let at : code ≡ own_code m frame.body = c.code-code.ensures ∙ ap (own_code m) (sym kept) in
    let table : IsTable (own_code m frame.body) jumps = subst (λ (own : ℕ). IsTable (own_code m own) jumps) (sym kept) c.jumps-jumps.ensures in
    let is : act ≡ act_on m c.args.calls frame c.steps.globals c.steps.memory instr = ap (λ (k : Module). act_on k c.args.calls frame c.steps.globals c.steps.memory instr) c.module.ensures in
    record {
      few = omega arith;
      function_kept = held.function_kept ∙ kept;
      runs = one_more m c.args.calls jumps code instr c.steps.made act c.args.frame.now c.args.globals.now c.args.memory.now before frame c.steps.globals c.steps.memory there c.make.new.frame c.make.new.globals c.make.new.memory after'
          c.steps.invariant.runs at table c.if-frame-code.true c.index-code-frame.is is held;
    }
