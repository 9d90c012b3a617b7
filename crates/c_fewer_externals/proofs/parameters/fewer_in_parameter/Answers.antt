use Rattle.std.proofs.Common.{sym, ◌∙◌}
use Rattle.c_fewer_trees.proofs.OnwardLemmas.{Onward, then_on}
use Rattle.c_fewer_declarations.proofs.StandingLemmas.{standing, some_standing, holds_on, some_holds}
use Rattle.c_fewer_externals.proofs.parameters.fewer_in_parameter.Goals as goal

pub fewer_in_plain-requires : goal.fewer_in_plain-requires
fewer_in_plain-requires c = some_standing c.requires

pub add-requires : goal.add-requires
add-requires c =
    let f : Onward c.args.types.now c.fewer_in_plain.new.types = record { grows = c.in_ok-tree.ensures.grows; tags = c.in_ok-tree.ensures.tags } in
    some_holds f c.requires

pub returns-clause-tree : goal.returns-clause-tree
returns-clause-tree c = λ s stands. c.in_ok-tree.ensures.tree s (standing stands)

pub returns-clause-behind : goal.returns-clause-behind
returns-clause-behind c = λ s stands.
    let f : Onward c.args.types.now c.fewer_in_plain.new.types = record { grows = c.in_ok-tree.ensures.grows; tags = c.in_ok-tree.ensures.tags } in
    let g : Onward c.fewer_in_plain.new.types c.add.new.types = record { grows = c.in_ok-add.ensures.grows; tags = c.in_ok-add.ensures.tags } in
    record { holds = (c.in_ok-add.ensures.added s (holds_on f stands)).holds; names = stands.names ∙ sym (then_on f g).tags }

pub returns-clause-grows : goal.returns-clause-grows
returns-clause-grows c =
    let f : Onward c.args.types.now c.fewer_in_plain.new.types = record { grows = c.in_ok-tree.ensures.grows; tags = c.in_ok-tree.ensures.tags } in
    let g : Onward c.fewer_in_plain.new.types c.add.new.types = record { grows = c.in_ok-add.ensures.grows; tags = c.in_ok-add.ensures.tags } in
    (then_on f g).grows

pub returns-clause-tags : goal.returns-clause-tags
returns-clause-tags c = c.in_ok-add.ensures.tags ∙ c.in_ok-tree.ensures.tags

pub returns-clause-around : goal.returns-clause-around
returns-clause-around c = c.in_ok-add.ensures.around
