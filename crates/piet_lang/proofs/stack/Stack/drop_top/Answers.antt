use Rattle.std.proofs.Common.{◌≡◌, ◌-◌, drop, ap, ◌∙◌, rules}
use Rattle.piet_lang.specs.Stack.{values_of}
use Rattle.piet_lang.proofs.StackLemmas.{values_drop}
use Rattle.piet_lang.proofs.stack.Stack.drop_top.Goals as goal

pub returns : goal.returns
returns c =
    let slots = c.self.inside.slots.items in
    let rest : c.saturating_sub-self-inside.result ≡ c.self.inside.len - c.args.count = search rules in
    ap (values_of slots) rest ∙ (values_drop slots c.self.inside.len c.args.count c.self.invariant ∙ ap (drop c.args.count) c.self.view_is)
