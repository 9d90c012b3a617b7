use Rattle.std.proofs.Common.{◌+◌, ◌++◌, ◌∷◌, arith, drop, subst}
use Rattle.std.proofs.lemmas.Result.{err_from_is_err_and}
use Rattle.mach_core.specs.Outside.{Rose}
use Rattle.ws_lang.specs.Instruction.{Mark}
use Rattle.ws_back.specs.Code.{block_label, ops_code, blocks_code}
use Rattle.ws_back.specs.Text.{text_of}
use Rattle.ws_back.specs.Pieces.{IsHanded}
use Rattle.ws_back.proofs.Handed.{Ahead, ahead_more, ahead_stops_with, rises_after, blocks_more}
use Rattle.ws_back.proofs.handing.put_blocks.Goals as goal

pub returns-in_err-put_block-clause-handed : goal.returns-in_err-put_block-clause-handed
returns-in_err-put_block-clause-handed g c =
    let before = g.O.Sink.got c.args.out.now in
    let here = g.O.Sink.got c.loop-k.out in
    let now = g.O.Sink.got c.put_block.new.out in
    let rose = Rose (g.O.Sink.faults c.loop-k.out) (g.O.Sink.faults c.put_block.new.out) in
    let rose' = Rose (g.O.Sink.faults c.args.out.now) (g.O.Sink.faults c.put_block.new.out) in
    let n = c.block_count-count.result in
    let k = c.loop-k.k in
    let p = c.args.p.now in
    let bs = p.blocks in
    let all = blocks_code n 0 bs in
    let ahead = subst (Ahead before here c.args.put.now c.loop-k.put all) (blocks_more n bs k c.in-Some.ops.now c.in-Some.ensures.ops) c.loop-k.invariant.ahead in
    let stops =
    ahead_stops_with before here now c.args.put.now c.loop-k.put c.put_block.new.put c.put_block.new.put all (Mark (block_label k) ∷ ops_code n c.in-Some.ops.now) (blocks_code n (k + 1) (drop (k + 1) bs)) rose rose' c.in_err-put_block.field-0.0 c.from_residual.result
    (rises_after _ _ _ c.loop-k.invariant.later) (err_from_is_err_and c.from_residual.result c.from_residual.ensures.1) ahead c.in_err-put_block.ensures.handed in
    subst (λ m. IsHanded before now rose' (c.args.put.now ++ text_of (blocks_code m 0 bs)) c.put_block.new.put c.from_residual.result) c.block_count-count.ensures.count stops

pub loop-k-preserved : goal.loop-k-preserved
loop-k-preserved g c =
    let before = g.O.Sink.got c.args.out.now in
    let here = g.O.Sink.got c.loop-k.out in
    let now = g.O.Sink.got c.put_block.new.out in
    let n = c.block_count-count.result in
    let k = c.loop-k.k in
    let p = c.args.p.now in
    let bs = p.blocks in
    let all = blocks_code n 0 bs in
    let ahead = subst (Ahead before here c.args.put.now c.loop-k.put all) (blocks_more n bs k c.in-Some.ops.now c.in-Some.ensures.ops) c.loop-k.invariant.ahead in
    record {
      ahead = ahead_more before here now c.args.put.now c.loop-k.put c.put_block.new.put all (Mark (block_label k) ∷ ops_code n c.in-Some.ops.now) (blocks_code n (k + 1) (drop (k + 1) bs)) ahead c.in_ok-put_block.ensures.handed;
      later = omega (arith, c.loop-k.invariant.later, c.in_ok-put_block.ensures.later);
    }
