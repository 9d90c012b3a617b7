use Rattle.std.proofs.Common.{sym, ap, ◌∙◌}
use Rattle.std.specs.Prelude.{slice_get}
use Rattle.wasm_parts.proofs.StackLemmas.{item_of, no_item}
use Rattle.wasm_parts.proofs.stack.Stack.get.Goals as goal

pub returns-then-depth-self : goal.returns-then-depth-self
returns-then-depth-self g c =
    let items = c.self.inside.items.items in
    let n = c.self.inside.count in
    sym (item_of items n c.args.depth c.index.result.now c.self.invariant c.if-depth-self.true c.index.ensures) ∙ ap (λ l. slice_get l c.args.depth) c.self.view_is

pub returns-else-depth-self : goal.returns-else-depth-self
returns-else-depth-self g c =
    sym (no_item c.self.inside.items.items c.self.inside.count c.args.depth c.self.invariant c.if-depth-self.false) ∙ ap (λ l. slice_get l c.args.depth) c.self.view_is
