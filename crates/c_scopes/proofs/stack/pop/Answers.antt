use Rattle.std.proofs.Common.{◌≡◌, ◌-◌, length, Some, sym, ap, ◌∙◌, arith}
use Rattle.std.specs.Prelude.{slice_get}
use Rattle.c_scopes.proofs.StackLemmas.{popped}
use Rattle.c_scopes.proofs.stack.pop.Goals as goal

pub returns-clause-stands : goal.returns-clause-stands
returns-clause-stands c =
    let items = c.args.declared.now.items in
    let last : slice_get items (length items - 1) ≡ Some c.in-Some.last = sym (c.in-Some.ensures ∙ (c.last.ensures.value ∙ ap (λ (ds : _). slice_get ds (length ds - 1)) c.deref.ensures.value)) in
    let count : c.len.result - 1 ≡ length items - 1 = omega arith in
    popped items c.truncate.new.self.items (c.len.result - 1) c.in-Some.last c.args.latest.now.entries c.insert.new.self.entries last c.truncate.ensures.items count c.in_ok-insert.ensures.entries
