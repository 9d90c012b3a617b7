use Rattle.std.proofs.Common.{refl, sym, subst}
use Rattle.wasm_rule.specs.declared.act.Act.{Act}
use Rattle.wasm_rule.specs.declared.act.Act.TheVariants as act
use Rattle.wasm_run.specs.InCall.{IsQuiet}
use Rattle.wasm_run.proofs.HeldSteps.{inside, call_is, sets_global}
use Rattle.wasm_run.proofs.buffered.perform.Goals as goal

pub returns-in-Take : goal.returns-in-Take
returns-in-Take c =
    let frame = c.args.frame.now in
    let globals = c.args.globals.now in
    let memory = c.args.memory.now in
    subst (λ (a : Act). IsQuiet a c.args.jumps.now frame globals memory c.take.new.self globals memory) (sym c.in-Take.is)
    (inside (act.Take c.in-Take.count) c.args.jumps.now frame c.take.new.self globals memory refl refl c.take.ensures.body
    (λ m s table within. call_is m s globals memory frame c.take.new.self _ (c.take.ensures.call m)))

pub returns-in-SetLocal : goal.returns-in-SetLocal
returns-in-SetLocal c =
    let frame = c.args.frame.now in
    let globals = c.args.globals.now in
    let memory = c.args.memory.now in
    subst (λ (a : Act). IsQuiet a c.args.jumps.now frame globals memory c.set_local.new.self globals memory) (sym c.in-SetLocal.is)
    (inside (act.SetLocal c.in-SetLocal.taken c.in-SetLocal.index c.in-SetLocal.value) c.args.jumps.now frame c.set_local.new.self globals memory refl refl c.set_local.ensures.body
    (λ m s table within. call_is m s globals memory frame c.set_local.new.self _ (c.set_local.ensures.call m)))

pub returns-in-SetGlobal : goal.returns-in-SetGlobal
returns-in-SetGlobal c =
    let frame = c.args.frame.now in
    let globals = c.args.globals.now in
    let memory = c.args.memory.now in
    let quiet : IsQuiet (act.SetGlobal c.in-SetGlobal.index c.in-SetGlobal.value) c.args.jumps.now frame globals memory c.take-in-SetGlobal.new.self c.set_item.new.items memory = record {
      takes_none = refl;
      writes_none = refl;
      function_kept = c.take-in-SetGlobal.ensures.body;
      leads = λ m s table within. sets_global m s frame c.take-in-SetGlobal.new.self globals c.set_item.new.items memory c.in-SetGlobal.index c.in-SetGlobal.value c.set_item.ensures (c.take-in-SetGlobal.ensures.call m);
    } in
    subst (λ (a : Act). IsQuiet a c.args.jumps.now frame globals memory c.take-in-SetGlobal.new.self c.set_item.new.items memory) (sym c.in-SetGlobal.is) quiet
