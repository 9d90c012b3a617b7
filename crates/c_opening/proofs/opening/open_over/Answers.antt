use Rattle.std.proofs.Common.{◌≡◌, List, length, map, sym, ap, subst, ◌∙◌}
use Rattle.std.proofs.lemmas.List.{length-map}
use Rattle.c_syntax.specs.View.{item_of}
use Rattle.c_syntax.specs.declared.tree.Item.{Item}
use Rattle.c_types.specs.Scope.{file_scope}
use Rattle.c_types.specs.Units.{defined_in}
use Rattle.c_types.proofs.NameLemmas.{names_apart}
use Rattle.c_operands.specs.declared.declarations.Declarations.{Declarations}
use Rattle.c_declared.specs.Held.{AreDistinct, Holds}
use Rattle.c_opening.proofs.OpeningLemmas.{opened}
use Rattle.c_opening.proofs.opening.open_over.Goals as goal

pub returns-clause-holds : goal.returns-clause-holds
returns-clause-holds c =
    let types = c.declare_built_ins.new.types in
    let keys = c.args.tags.keys in
    let d : Declarations = record { alloc = c.args.alloc; layouts = c.in_ok-layouts.layouts; names = c.declare_built_ins.new.names; defined = c.in_ok-defined.defined } in
    let tags = c.in_ok-declare_built_ins.ensures.tags ∙ c.new-types.ensures.tags in
    let many : c.len.result ≡ length types.tags = c.len.ensures.len ∙ (sym (length-map keys (λ k. k.now)) ∙ ap length (sym tags)) in
    subst (λ (l : List Item). Holds types d (file_scope (defined_in (map item_of l)))) c.as_slice-items.ensures.value
    (opened types d (defined_in (map item_of c.as_slice-items.result.now)) c.len.result c.in_ok-layouts.ensures many c.in_ok-declare_built_ins.ensures.names (c.in_ok-declare_built_ins.ensures.outer ∙ c.new-names.ensures.outer)
    c.in_ok-defined.ensures (subst AreDistinct (sym tags) (names_apart keys c.len.ensures.unique)))

pub returns-clause-tags : goal.returns-clause-tags
returns-clause-tags c = c.in_ok-declare_built_ins.ensures.tags ∙ c.new-types.ensures.tags
