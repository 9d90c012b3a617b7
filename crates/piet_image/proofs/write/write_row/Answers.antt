use Rattle.std.proofs.Common.{◌+◌, ◌==◌, cond, length, drop, get_or, Ok, Err, ap, subst, arith}
use Rattle.std.proofs.lemmas.Result.{err_from_is_err_and}
use Rattle.mach_core.specs.Puts.{Outlet, Puts}
use Rattle.mach_core.proofs.Ahead.{Ahead, ahead_more, ahead_stops, ahead_done}
use Rattle.piet_image.specs.declared.colour.Colour.{Colour}
use Rattle.piet_image.specs.declared.colour.Colour.TheVariants.{White}
use Rattle.piet_image.specs.Colours.{rgb_of}
use Rattle.piet_image.specs.Printed.{rgb_text, row_text}
use Rattle.piet_image.proofs.WriteLemmas.{row_next, row_done}
use Rattle.piet_image.proofs.write.write_row.Goals as goal

pub returns-in_err-write_colour : goal.returns-in_err-write_colour
returns-in_err-write_colour g c =
    let old : Outlet = record { got = g.O.Sink.got c.args.out.now; faults = g.O.Sink.faults c.args.out.now; held = c.args.put.now } in
    let here : Outlet = record { got = g.O.Sink.got c.loop-i.out; faults = g.O.Sink.faults c.loop-i.out; held = c.loop-i.put } in
    let new : Outlet = record { got = g.O.Sink.got c.write_colour.new.out; faults = g.O.Sink.faults c.write_colour.new.out; held = c.write_colour.new.put } in
    let row = c.args.row.now in
    let i = c.loop-i.i in
    let left = subst (λ bs. Ahead old here (row_text row) bs) (row_next row i White c.loop-i-test.true) c.loop-i.invariant in
    let made = subst (λ e. Puts here new (rgb_text (rgb_of (get_or row i White)) e) (Err c.in_err-write_colour.field-0.0)) c.end_of.ensures c.in_err-write_colour.ensures in
    ahead_stops old here new (row_text row) (rgb_text (rgb_of (get_or row i White)) (cond (i + 1 == length row) 10 32)) (row_text (drop (i + 1) row)) c.in_err-write_colour.field-0.0 c.from_residual.result
    (err_from_is_err_and c.from_residual.result c.from_residual.ensures.1) left made

pub loop-i-preserved : goal.loop-i-preserved
loop-i-preserved g c =
    let old : Outlet = record { got = g.O.Sink.got c.args.out.now; faults = g.O.Sink.faults c.args.out.now; held = c.args.put.now } in
    let here : Outlet = record { got = g.O.Sink.got c.loop-i.out; faults = g.O.Sink.faults c.loop-i.out; held = c.loop-i.put } in
    let new : Outlet = record { got = g.O.Sink.got c.write_colour.new.out; faults = g.O.Sink.faults c.write_colour.new.out; held = c.write_colour.new.put } in
    let row = c.args.row.now in
    let i = c.loop-i.i in
    let left = subst (λ bs. Ahead old here (row_text row) bs) (row_next row i White c.loop-i-test.true) c.loop-i.invariant in
    let made = subst (λ e. Puts here new (rgb_text (rgb_of (get_or row i White)) e) (Ok tt)) c.end_of.ensures c.in_ok-write_colour.ensures in
    ahead_more old here new (row_text row) (rgb_text (rgb_of (get_or row i White)) (cond (i + 1 == length row) 10 32)) (row_text (drop (i + 1) row)) tt left made

pub returns : goal.returns
returns g c =
    let old : Outlet = record { got = g.O.Sink.got c.args.out.now; faults = g.O.Sink.faults c.args.out.now; held = c.args.put.now } in
    let here : Outlet = record { got = g.O.Sink.got c.loop-i.out; faults = g.O.Sink.faults c.loop-i.out; held = c.loop-i.put } in
    ahead_done old here (row_text c.args.row.now) tt (subst (λ bs. Ahead old here (row_text c.args.row.now) bs) (row_done c.args.row.now c.loop-i.i c.loop-i-test.false) c.loop-i.invariant)
