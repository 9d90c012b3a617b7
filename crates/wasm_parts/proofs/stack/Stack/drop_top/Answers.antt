use Rattle.std.proofs.Common.{◌≡◌, ◌-◌, take, drop, reverse, ap, ◌∙◌, rules}
use Rattle.wasm_parts.proofs.StackLemmas.{taken_off}
use Rattle.wasm_parts.proofs.stack.Stack.drop_top.Goals as goal

pub returns : goal.returns
returns g c =
    let items = c.self.inside.items.items in
    let n = c.self.inside.count in
    let rest : c.saturating_sub-self-inside.result ≡ n - c.args.count = search rules in
    ap (λ k. reverse (take k items)) rest ∙ (taken_off items n c.args.count c.self.invariant ∙ ap (drop c.args.count) c.self.view_is)
