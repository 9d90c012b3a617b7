use Rattle.std.proofs.Common.{◌+◌, drop, get_or, pos, subst}
use Rattle.std.proofs.lemmas.Result.{err_from_is_err_and}
use Rattle.sq_back.specs.declared.line.Line.{Line}
use Rattle.sq_back.specs.Text.{line_text, lines_text}
use Rattle.mach_core.specs.Puts.{Outlet}
use Rattle.mach_core.proofs.Ahead.{Ahead, ahead_more, ahead_stops, ahead_done}
use Rattle.sq_back.proofs.Texts.{lines_next, lines_done}
use Rattle.sq_back.proofs.put.put_lines.Goals as goal

pub returns-in_err-put_line : goal.returns-in_err-put_line
returns-in_err-put_line g c =
    let old : Outlet = record { got = g.O.Sink.got c.args.out.now; faults = g.O.Sink.faults c.args.out.now; held = c.args.put.now } in
    let here : Outlet = record { got = g.O.Sink.got c.loop-line.out; faults = g.O.Sink.faults c.loop-line.out; held = c.loop-line.put } in
    let new : Outlet = record { got = g.O.Sink.got c.put_line.new.out; faults = g.O.Sink.faults c.put_line.new.out; held = c.put_line.new.put } in
    let zeros : Line = record { from = pos 0; to = pos 0; next = pos 0 } in
    let lines = c.args.lines.now in
    let i = c.loop-line.line-index in
    let left = subst (λ bs. Ahead old here (lines_text lines) bs) (lines_next lines i zeros c.loop-line-test.true) c.loop-line.invariant in
    ahead_stops old here new (lines_text lines) (line_text (get_or lines i zeros)) (lines_text (drop (i + 1) lines)) c.in_err-put_line.field-0.0 c.from_residual.result
    (err_from_is_err_and c.from_residual.result c.from_residual.ensures.1) left c.in_err-put_line.ensures

pub loop-line-preserved : goal.loop-line-preserved
loop-line-preserved g c =
    let old : Outlet = record { got = g.O.Sink.got c.args.out.now; faults = g.O.Sink.faults c.args.out.now; held = c.args.put.now } in
    let here : Outlet = record { got = g.O.Sink.got c.loop-line.out; faults = g.O.Sink.faults c.loop-line.out; held = c.loop-line.put } in
    let new : Outlet = record { got = g.O.Sink.got c.put_line.new.out; faults = g.O.Sink.faults c.put_line.new.out; held = c.put_line.new.put } in
    let zeros : Line = record { from = pos 0; to = pos 0; next = pos 0 } in
    let lines = c.args.lines.now in
    let i = c.loop-line.line-index in
    let left = subst (λ bs. Ahead old here (lines_text lines) bs) (lines_next lines i zeros c.loop-line-test.true) c.loop-line.invariant in
    ahead_more old here new (lines_text lines) (line_text (get_or lines i zeros)) (lines_text (drop (i + 1) lines)) tt left c.in_ok-put_line.ensures

pub returns : goal.returns
returns g c =
    let old : Outlet = record { got = g.O.Sink.got c.args.out.now; faults = g.O.Sink.faults c.args.out.now; held = c.args.put.now } in
    let here : Outlet = record { got = g.O.Sink.got c.loop-line.out; faults = g.O.Sink.faults c.loop-line.out; held = c.loop-line.put } in
    ahead_done old here (lines_text c.args.lines.now) tt (subst (λ bs. Ahead old here (lines_text c.args.lines.now) bs) (lines_done c.args.lines.now c.loop-line.line-index c.loop-line-test.false) c.loop-line.invariant)
