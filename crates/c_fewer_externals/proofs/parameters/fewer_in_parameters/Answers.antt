use Rattle.c_types.specs.Scope.{entered}
use Rattle.c_declared.proofs.HeldLemmas.{block_entered}
use Rattle.c_signatures.proofs.BlockLemmas.{inside_then, may_end, same_holds}
use Rattle.c_fewer_externals.proofs.parameters.fewer_in_parameters.Goals as goal

pub fewer_in_all-requires : goal.fewer_in_all-requires
fewer_in_all-requires c =
    let h = c.requires in
    let i = c.begin_block-mark.ensures.inside in
    (entered h.0, record { holds = block_entered c.args.types.now c.args.here.now.declared c.begin_block-mark.new.declared h.0 c.begin_block-mark.ensures.block i.outer i.layouts i.defined h.1.holds; names = h.1.names })

pub end_block-requires : goal.end_block-requires
end_block-requires c =
    let d0 = c.args.here.now.declared in
    let d2 = c.fewer_in_all.new.here.declared in
    may_end d0 d2 c.begin_block-mark.result (inside_then d0 c.begin_block-mark.new.declared d2 c.begin_block-mark.ensures.inside c.in_ok-items.ensures.around) c.begin_block-mark.ensures.mark

pub returns-clause-tree : goal.returns-clause-tree
returns-clause-tree c = λ s stands.
    let i = c.begin_block-mark.ensures.inside in
    c.in_ok-items.ensures.trees (entered s) (record { holds = block_entered c.args.types.now c.args.here.now.declared c.begin_block-mark.new.declared s c.begin_block-mark.ensures.block i.outer i.layouts i.defined stands.holds; names = stands.names })

pub returns-clause-stands : goal.returns-clause-stands
returns-clause-stands c = λ s stands.
    let d0 = c.args.here.now.declared in
    let d2 = c.fewer_in_all.new.here.declared in
    let inside = inside_then d0 c.begin_block-mark.new.declared d2 c.begin_block-mark.ensures.inside c.in_ok-items.ensures.around in
    let same = c.in_ok-end_block.ensures d0 inside c.begin_block-mark.ensures.mark in
    record {
      holds = same_holds c.args.types.now c.fewer_in_all.new.types d0 c.end_block.new.declared s c.in_ok-items.ensures.grows c.in_ok-items.ensures.tags same stands.holds;
      names = c.in_ok-items.ensures.stands.1.names;
    }

pub returns-clause-grows : goal.returns-clause-grows
returns-clause-grows c = c.in_ok-items.ensures.grows

pub returns-clause-tags : goal.returns-clause-tags
returns-clause-tags c = c.in_ok-items.ensures.tags
