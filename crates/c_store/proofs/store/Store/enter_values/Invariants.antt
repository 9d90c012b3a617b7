use Rattle.std.proofs.Common.{◌≡◌, ◌≤◌, drop, map}
use Rattle.std.specs.Prelude.{filter, nat_lt}
use Rattle.c_store.specs.Words.{entered_values}
use Rattle.c_store.specs.Shown.{value_of}
use Rattle.c_store.proofs.store.Store.enter_values.Given as goal

abbrev pub invariant-loop-value : goal.invariant-loop-value
invariant-loop-value l = record {
  ahead : entered_values (map value_of (drop l.value-index l.values)) l.self ≡ entered_values (map value_of l.values) l.fn.self;
  number : l.number ≡ l.fn.self.next;
  least : l.number ≤ l.self.next;
  before : filter (λ x. nat_lt x.number l.number) l.self.live ≡ l.fn.self.live;
}
