use Rattle.std.proofs.Common.{ℕ, List, ◌∷◌, map, ap, ◌∙◌}
use Rattle.c_syntax.specs.View.{item_of}
use Rattle.c_helpers.specs.Fewer.{names_at_file_scope}
use Rattle.c_reached.proofs.GoingLemmas.{one_before}
use Rattle.c_reached.proofs.reach.seeds.Goals as goal

pub returns : goal.returns
returns c =
    let rest = names_at_file_scope (map item_of c.args.items.now) in
    one_before c.new-names.result.items c.push.new.self.items c.add_first_values.new.names.items _ rest c.new-names.ensures.items c.in_ok-push.ensures.items c.in_ok-add_first_values.ensures
    ∙ ap (λ (name : List ℕ). name ∷ rest) c.as_slice.ensures
