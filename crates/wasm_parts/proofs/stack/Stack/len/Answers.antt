use Rattle.std.proofs.Common.{length, sym, ap, ◌∙◌}
use Rattle.wasm_parts.proofs.StackLemmas.{count_of}
use Rattle.wasm_parts.proofs.stack.Stack.len.Goals as goal

pub returns : goal.returns
returns g c = sym (count_of c.self.inside.items.items c.self.inside.count c.self.invariant) ∙ ap length c.self.view_is
