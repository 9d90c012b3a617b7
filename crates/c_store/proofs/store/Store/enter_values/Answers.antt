use Rattle.std.proofs.Common.{refl, arith}
use Rattle.c_store.proofs.Steps.{filter_below, forgotten}
use Rattle.c_store.proofs.store.Store.enter_values.Goals as goal

pub loop-value-init : goal.loop-value-init
loop-value-init c = record {
  ahead = refl;
  number = c.next-number.ensures.next;
  least = omega (arith, c.next-number.ensures.next);
  before = filter_below c.args.self.now.live c.next-number.result c.next-number.ensures.below;
}

pub returns-in-Err-clause-err : goal.returns-in-Err-clause-err
returns-in-Err-clause-err c =
    forgotten c.forget.new.self c.add_value.new.self c.loop-value.self c.args.self.now c.next-number.result c.forget.ensures c.in-Err.ensures.err c.loop-value.invariant.before c.loop-value.invariant.number
