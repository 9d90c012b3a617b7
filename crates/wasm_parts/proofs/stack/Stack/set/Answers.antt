use Rattle.std.proofs.Common.{◌≡◌, ◌<◌, length, set, sym, ap, subst, ◌∙◌}
use Rattle.wasm_parts.proofs.StackLemmas.{count_of, changed_at}
use Rattle.wasm_parts.proofs.stack.Stack.set.Goals as goal

pub returns : goal.returns
returns g c =
    let items = c.self.inside.items.items in
    let n = c.self.inside.count in
    let all : length c.args.self.now ≡ n = sym (ap length c.self.view_is) ∙ count_of items n c.self.invariant in
    let lt : c.args.depth < n = subst (λ k. c.args.depth < k) all c.requires in
    changed_at items n c.args.depth c.args.item c.self.invariant lt ∙ ap (λ l. set l c.args.depth c.args.item) c.self.view_is
