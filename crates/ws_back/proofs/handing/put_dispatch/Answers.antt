use Rattle.std.proofs.Common.{◌∷◌, [], arith, ◌≤◌}
use Rattle.std.proofs.lemmas.Result.{err_from_is_err_and}
use Rattle.mach_core.specs.Outside.{Rose}
use Rattle.sim_trait.specs.Digits.{digit_count}
use Rattle.sim_trait.proofs.Digits.{digit_count-digits}
use Rattle.ws_lang.specs.Instruction.{Mark}
use Rattle.ws_back.specs.Code.{dispatch_label, tree_code, dispatch_code}
use Rattle.ws_back.proofs.Handed.{ahead_start, ahead_more, ahead_last, ahead_stops_with, rises_after}
use Rattle.ws_back.proofs.handing.put_dispatch.Goals as goal

pub returns-in_err-put_piece-clause-handed : goal.returns-in_err-put_piece-clause-handed
returns-in_err-put_piece-clause-handed g c =
    let tree = tree_code c.args.count (digit_count c.args.count) 0 in
    let got0 = g.O.Sink.got c.args.out.now in
    let put0 = c.args.put.now in
    let got1 = g.O.Sink.got c.put_piece.new.out in
    let put1 = c.put_piece.new.put in
    let rose = Rose (g.O.Sink.faults c.args.out.now) (g.O.Sink.faults c.put_piece.new.out) in
    let all = dispatch_code c.args.count in
    let later : g.O.Sink.faults c.args.out.now ≤ g.O.Sink.faults c.args.out.now = omega arith in
    ahead_stops_with got0 got0 got1 put0 put0 put1 put1 all (Mark dispatch_label ∷ []) tree rose rose c.in_err-put_piece.field-0.0 c.from_residual.result (rises_after _ _ _ later) (err_from_is_err_and c.from_residual.result c.from_residual.ensures.1) (ahead_start got0 put0 all) c.in_err-put_piece.ensures.handed

-- 2^21 is below 2^22
pub put_tree-requires-clause-depth : goal.put_tree-requires-clause-depth
put_tree-requires-clause-depth g c = rw c.digit_count.ensures ((digit_count-digits c.args.count).least 22 (omega (arith, c.requires)))

pub returns-clause-handed : goal.returns-clause-handed
returns-clause-handed g c =
    let tree = tree_code c.args.count (digit_count c.args.count) 0 in
    let got0 = g.O.Sink.got c.args.out.now in
    let put0 = c.args.put.now in
    let got1 = g.O.Sink.got c.put_piece.new.out in
    let put1 = c.put_piece.new.put in
    let got2 = g.O.Sink.got c.put_tree.new.out in
    let put2 = c.put_tree.new.put in
    let rose = Rose (g.O.Sink.faults c.put_piece.new.out) (g.O.Sink.faults c.put_tree.new.out) in
    let rose' = Rose (g.O.Sink.faults c.args.out.now) (g.O.Sink.faults c.put_tree.new.out) in
    let all = dispatch_code c.args.count in
    let ahead1 = ahead_more got0 got0 got1 put0 put0 put1 all (Mark dispatch_label ∷ []) tree (ahead_start got0 put0 all) c.in_ok-put_piece.ensures.handed in
    let later : g.O.Sink.faults c.args.out.now ≤ g.O.Sink.faults c.put_piece.new.out = omega (arith, c.in_ok-put_piece.ensures.later) in
    ahead_last got0 got1 got2 put0 put1 put2 all tree rose rose' c.put_tree.result (rises_after _ _ _ later) ahead1 (rw c.digit_count.ensures at c.put_tree.ensures.handed)
