use Rattle.std.proofs.Common.{ap, ◌∙◌, is_some}
use Rattle.std.specs.List.{list_any}
use Rattle.ordered.proofs.PlaceLemmas.{place_any}
use Rattle.ordered.proofs.set.OrderedSet.contains.Goals as goal

pub returns : goal.returns
returns g c =
    let passes = g.T.PartialEq.eq c.args.value.now in
    c.contains_key.ensures ∙ (ap is_some (c.self.invariant.finds c.args.value.now) ∙ (place_any passes c.self.inside.keys.items ∙ ap (λ s. list_any passes s.keys) c.self.view_is))
