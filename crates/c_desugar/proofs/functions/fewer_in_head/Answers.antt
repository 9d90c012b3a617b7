use Rattle.std.proofs.Common.{◌∙◌}
use Rattle.c_fewer_declarations.proofs.StandingLemmas.{standing, some_standing}
use Rattle.c_fewer_trees.proofs.OnwardLemmas.{Onward, then_on}
use Rattle.c_desugar.proofs.FunctionLemmas.{stands_still, some_still}
use Rattle.c_desugar.proofs.functions.fewer_in_head.Goals as goal

pub fewer_in_type-requires : goal.fewer_in_type-requires
fewer_in_type-requires c = some_standing c.requires

pub fewer_in_parameters-requires : goal.fewer_in_parameters-requires
fewer_in_parameters-requires c =
    let f : Onward c.args.types.now c.fewer_in_type.new.types = record { grows = c.in_ok-result.ensures.grows; tags = c.in_ok-result.ensures.tags } in
    some_still f c.requires

pub returns-clause-head : goal.returns-clause-head
returns-clause-head c = λ s stands.
    let f : Onward c.args.types.now c.fewer_in_type.new.types = record { grows = c.in_ok-result.ensures.grows; tags = c.in_ok-result.ensures.tags } in
    record { name = c.in_ok-copy.ensures; result = c.in_ok-result.ensures.tree s (standing stands); params = c.in_ok-params.ensures.tree s (stands_still f stands) }

pub returns-clause-stands : goal.returns-clause-stands
returns-clause-stands c = λ s stands.
    let f : Onward c.args.types.now c.fewer_in_type.new.types = record { grows = c.in_ok-result.ensures.grows; tags = c.in_ok-result.ensures.tags } in
    c.in_ok-params.ensures.stands s (stands_still f stands)

pub returns-clause-grows : goal.returns-clause-grows
returns-clause-grows c =
    let f : Onward c.args.types.now c.fewer_in_type.new.types = record { grows = c.in_ok-result.ensures.grows; tags = c.in_ok-result.ensures.tags } in
    let g : Onward c.fewer_in_type.new.types c.fewer_in_parameters.new.types = record { grows = c.in_ok-params.ensures.grows; tags = c.in_ok-params.ensures.tags } in
    (then_on f g).grows

pub returns-clause-tags : goal.returns-clause-tags
returns-clause-tags c = c.in_ok-params.ensures.tags ∙ c.in_ok-result.ensures.tags
