use Rattle.std.proofs.Common.{◌+◌, arith, drop, subst}
use Rattle.std.proofs.lemmas.Result.{err_from_is_err_and}
use Rattle.mach_core.specs.Outside.{Rose}
use Rattle.ws_back.specs.Code.{op_code, ops_code}
use Rattle.ws_back.proofs.Handed.{Ahead, ahead_more, ahead_stops_with, rises_after, ops_more}
use Rattle.ws_back.proofs.handing.put_ops.Goals as goal

pub returns-in_err-put_piece-clause-handed : goal.returns-in_err-put_piece-clause-handed
returns-in_err-put_piece-clause-handed g c =
    let before = g.O.Sink.got c.args.out.now in
    let here = g.O.Sink.got c.loop-op.out in
    let now = g.O.Sink.got c.put_piece.new.out in
    let rose = Rose (g.O.Sink.faults c.loop-op.out) (g.O.Sink.faults c.put_piece.new.out) in
    let rose' = Rose (g.O.Sink.faults c.args.out.now) (g.O.Sink.faults c.put_piece.new.out) in
    let ahead = subst (Ahead before here c.args.put.now c.loop-op.put (ops_code c.args.count c.args.ops.now)) (ops_more c.args.count c.args.ops.now c.loop-op.op-index c.op-item.result c.loop-op-test.true c.op-item.is) c.loop-op.invariant.ahead in
    ahead_stops_with before here now c.args.put.now c.loop-op.put c.put_piece.new.put c.put_piece.new.put (ops_code c.args.count c.args.ops.now) (op_code c.args.count c.op-item.result) (ops_code c.args.count (drop (c.loop-op.op-index + 1) c.args.ops.now)) rose rose' c.in_err-put_piece.field-0.0 c.from_residual.result
    (rises_after _ _ _ c.loop-op.invariant.later) (err_from_is_err_and c.from_residual.result c.from_residual.ensures.1) ahead c.in_err-put_piece.ensures.handed

pub loop-op-preserved : goal.loop-op-preserved
loop-op-preserved g c =
    let before = g.O.Sink.got c.args.out.now in
    let here = g.O.Sink.got c.loop-op.out in
    let now = g.O.Sink.got c.put_piece.new.out in
    let ahead = subst (Ahead before here c.args.put.now c.loop-op.put (ops_code c.args.count c.args.ops.now)) (ops_more c.args.count c.args.ops.now c.loop-op.op-index c.op-item.result c.loop-op-test.true c.op-item.is) c.loop-op.invariant.ahead in
    record {
      ahead = ahead_more before here now c.args.put.now c.loop-op.put c.put_piece.new.put (ops_code c.args.count c.args.ops.now) (op_code c.args.count c.op-item.result) (ops_code c.args.count (drop (c.loop-op.op-index + 1) c.args.ops.now)) ahead c.in_ok-put_piece.ensures.handed;
      later = omega (arith, c.loop-op.invariant.later, c.in_ok-put_piece.ensures.later);
    }
