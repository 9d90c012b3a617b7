use Rattle.std.proofs.Common.{◌+◌, List, [], drop, get_or, Bor, subst}
use Rattle.std.proofs.lemmas.Result.{err_from_is_err_and}
use Rattle.std.specs.List.{flat_map}
use Rattle.sq_back.specs.declared.line.Line.{Line}
use Rattle.sq_back.specs.Text.{lines_text}
use Rattle.mach_core.specs.Puts.{Outlet}
use Rattle.mach_core.proofs.Ahead.{Ahead, ahead_more, ahead_stops, ahead_done}
use Rattle.sq_back.proofs.Texts.{groups_next, groups_done}
use Rattle.sq_back.proofs.put.put_groups.Goals as goal

pub returns-in_err-put_lines : goal.returns-in_err-put_lines
returns-in_err-put_lines g c =
    let old : Outlet = record { got = g.O.Sink.got c.args.out.now; faults = g.O.Sink.faults c.args.out.now; held = c.args.put.now } in
    let here : Outlet = record { got = g.O.Sink.got c.loop-group.out; faults = g.O.Sink.faults c.loop-group.out; held = c.loop-group.put } in
    let new : Outlet = record { got = g.O.Sink.got c.put_lines.new.out; faults = g.O.Sink.faults c.put_lines.new.out; held = c.put_lines.new.put } in
    let lines = λ (group : Bor (List Line)). group.now in
    let none : Bor (List Line) = record { ref_ptr = (0, 0); now = [] } in
    let groups = c.args.groups.now in
    let i = c.loop-group.group-index in
    let all = lines_text (flat_map lines groups) in
    let left = subst (λ bs. Ahead old here all bs) (groups_next lines groups i none c.loop-group-test.true) c.loop-group.invariant in
    ahead_stops old here new all (lines_text (get_or groups i none).now) (lines_text (flat_map lines (drop (i + 1) groups))) c.in_err-put_lines.field-0.0 c.from_residual.result
    (err_from_is_err_and c.from_residual.result c.from_residual.ensures.1) left c.in_err-put_lines.ensures

pub loop-group-preserved : goal.loop-group-preserved
loop-group-preserved g c =
    let old : Outlet = record { got = g.O.Sink.got c.args.out.now; faults = g.O.Sink.faults c.args.out.now; held = c.args.put.now } in
    let here : Outlet = record { got = g.O.Sink.got c.loop-group.out; faults = g.O.Sink.faults c.loop-group.out; held = c.loop-group.put } in
    let new : Outlet = record { got = g.O.Sink.got c.put_lines.new.out; faults = g.O.Sink.faults c.put_lines.new.out; held = c.put_lines.new.put } in
    let lines = λ (group : Bor (List Line)). group.now in
    let none : Bor (List Line) = record { ref_ptr = (0, 0); now = [] } in
    let groups = c.args.groups.now in
    let i = c.loop-group.group-index in
    let all = lines_text (flat_map lines groups) in
    let left = subst (λ bs. Ahead old here all bs) (groups_next lines groups i none c.loop-group-test.true) c.loop-group.invariant in
    ahead_more old here new all (lines_text (get_or groups i none).now) (lines_text (flat_map lines (drop (i + 1) groups))) tt left c.in_ok-put_lines.ensures

pub returns : goal.returns
returns g c =
    let old : Outlet = record { got = g.O.Sink.got c.args.out.now; faults = g.O.Sink.faults c.args.out.now; held = c.args.put.now } in
    let here : Outlet = record { got = g.O.Sink.got c.loop-group.out; faults = g.O.Sink.faults c.loop-group.out; held = c.loop-group.put } in
    ahead_done old here (lines_text (flat_map (λ (group : Bor (List Line)). group.now) c.args.groups.now)) tt (subst (λ bs. Ahead old here (lines_text (flat_map (λ (group : Bor (List Line)). group.now) c.args.groups.now)) bs) (groups_done (λ (group : Bor (List Line)). group.now) c.args.groups.now c.loop-group.group-index c.loop-group-test.false) c.loop-group.invariant)
