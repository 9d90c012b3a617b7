use Rattle.std.proofs.Common.{◌≡◌, ◌++◌, map, ap, ◌∙◌}
use Rattle.c_syntax.specs.View.{item_of}
use Rattle.c_grammar.specs.Tree.{act, items, tags_of, type_of}
use Rattle.c_held.specs.View.{means, base_of, struct_items}
use Rattle.c_held_rows.proofs.Functions.{items_same}
use Rattle.c_declare_externals.proofs.externals.declared_external.Goals as goal

pub returns : goal.returns
unfolding act
returns c =
    let tag : map item_of c.push_tag.new.items.items ≡ tags_of (means c.args.spec.now) = c.in_ok-push_tag.ensures ∙ ap (λ z. map item_of z ++ struct_items c.words_with_tag-base.result.1) c.new-items.ensures.items ∙ c.words_with_tag-base.ensures.tag in
    let base : base_of c.words_with_tag-base.result.0 ≡ type_of (means c.args.spec.now) = c.words_with_tag-base.ensures.base in
    items_same _ _ (λ b t. c.in_ok-push_items_of.ensures ∙ (λ i. tag i ++ items (means c.args.rest.now) (base i) (base i)))
