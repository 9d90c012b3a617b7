use Rattle.std.proofs.Common.{◌≡◌, Some, None, position, sym, ap, ◌∙◌}
use Rattle.std.specs.Map.{lookup, keys_of}
use Rattle.ordered.proofs.EntryLemmas.{value_at, no_value}
use Rattle.ordered.proofs.map.OrderedMap.get.Goals as goal

pub returns-in-Some : goal.returns-in-Some
returns-in-Some g c =
    let passes = g.K.PartialEq.eq c.args.key.now in
    let there : position passes (keys_of c.self.inside.entries.items) ≡ Some c.in-Some.number =
    sym (c.self.invariant.finds c.args.key.now) ∙ (sym c.get.ensures.value ∙ (sym c.copied.ensures ∙ c.in-Some.is)) in
    record { value = sym (value_at passes c.self.inside.entries.items c.in-Some.number c.index.result.now there c.index.ensures) ∙ ap (λ m. lookup passes m.entries) c.self.view_is }

pub returns-in-None : goal.returns-in-None
returns-in-None g c =
    let passes = g.K.PartialEq.eq c.args.key.now in
    let nowhere : position passes (keys_of c.self.inside.entries.items) ≡ None =
    sym (c.self.invariant.finds c.args.key.now) ∙ (sym c.get.ensures.value ∙ (sym c.copied.ensures ∙ c.in-None.is)) in
    record { value = sym (no_value passes c.self.inside.entries.items nowhere) ∙ ap (λ m. lookup passes m.entries) c.self.view_is }
