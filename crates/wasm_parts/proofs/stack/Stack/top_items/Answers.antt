use Rattle.std.proofs.Common.{◌≡◌, ◌-◌, take, drop, reverse, ap, ◌∙◌, rules}
use Rattle.std.proofs.lemmas.Result.{IfOk-weaker}
use Rattle.wasm_parts.proofs.StackLemmas.{top_of}
use Rattle.wasm_parts.proofs.stack.Stack.top_items.Goals as goal

pub returns : goal.returns
returns g c =
    let items = c.self.inside.items.items in
    let n = c.self.inside.count in
    let rest : c.saturating_sub-rest.result ≡ n - c.args.count = search rules in
    IfOk-weaker c.from_slice.result _ _ (λ v e. e ∙ (ap (λ (l : _). take (n - c.saturating_sub-rest.result) (drop c.saturating_sub-rest.result l)) c.deref.ensures.value ∙ ap (λ k. take (n - k) (drop k items)) rest ∙ (top_of items n c.args.count c.self.invariant ∙ ap (λ l. reverse (take c.args.count l)) c.self.view_is))) c.from_slice.ensures.items
