use Rattle.std.proofs.Common.{◌≡◌, ◌≤◌, drop}
use Rattle.std.specs.Prelude.{filter, nat_lt}
use Rattle.c_store.specs.Words.{entered_all}
use Rattle.c_store.proofs.store.Store.enter.Given as goal

abbrev pub invariant-loop-length : goal.invariant-loop-length
invariant-loop-length l = record {
  ahead : entered_all (drop l.length-index l.lengths) l.self ≡ entered_all l.lengths l.fn.self;
  number : l.number ≡ l.fn.self.next;
  least : l.number ≤ l.self.next;
  before : filter (λ x. nat_lt x.number l.number) l.self.live ≡ l.fn.self.live;
}
