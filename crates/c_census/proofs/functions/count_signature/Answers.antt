use Rattle.c_syntax.specs.View.{decls_of}
use Rattle.c_types.specs.Census.{parameters_sum}
use Rattle.c_signatures.proofs.BlockLemmas.{inside_then, may_end}
use Rattle.c_census.proofs.MovedLemmas.{block_some, block_moved}
use Rattle.c_census.proofs.functions.count_signature.Goals as goal

pub count_parameters-requires : goal.count_parameters-requires
count_parameters-requires c = block_some c.args.types.now c.args.declared.now c.begin_block-mark.new.declared c.begin_block-mark.ensures.block c.begin_block-mark.ensures.inside c.requires

pub end_block-requires : goal.end_block-requires
end_block-requires c =
    let d = c.args.declared.now in
    may_end d c.count_parameters.new.declared c.begin_block-mark.result (inside_then d c.begin_block-mark.new.declared c.count_parameters.new.declared c.begin_block-mark.ensures.inside c.in_ok-sum.ensures.around) c.begin_block-mark.ensures.mark

pub returns : goal.returns
returns c =
    let d = c.args.declared.now in
    let d1 = c.begin_block-mark.new.declared in
    let b = c.begin_block-mark.ensures in
    let inside = inside_then d d1 c.count_parameters.new.declared b.inside c.in_ok-sum.ensures.around in
    block_moved c.args.types.now c.count_parameters.new.types d d1 c.end_block.new.declared c.in_ok-sum.sum (λ s k. parameters_sum k s (decls_of c.args.parameters.now.items.items)) b.block b.inside c.in_ok-sum.ensures.counted
    (c.in_ok-end_block.ensures d inside b.mark)
