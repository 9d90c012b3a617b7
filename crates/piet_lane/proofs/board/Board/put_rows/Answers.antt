use Rattle.std.proofs.Common.{◌≡◌, ◌+◌, ◌*◌, ◌++◌, List, length, drop, Some, slice_get, Ok, Err, refl, sym, subst, ◌∙◌, arith}
use Rattle.std.specs.List.{AllByRecursion, flat_map}
use Rattle.mach_core.specs.Puts.{Outlet, Puts}
use Rattle.mach_core.proofs.Ahead.{Ahead, ahead_more, ahead_stops, ahead_done}
use Rattle.piet_image.specs.declared.colour.Colour.{Colour}
use Rattle.piet_image.specs.Colours.{IsColour}
use Rattle.piet_image.specs.Printed.{row_text}
use Rattle.piet_image.proofs.Rows.{get_each}
use Rattle.piet_lane.specs.Drawn.{row_at, rows_of}
use Rattle.piet_lane.specs.Lanes.{lanes_of}
use Rattle.piet_lane.proofs.Drawing.{row_colours, count_lanes, rows_high}
use Rattle.piet_lane.proofs.Puts.{texts_next, texts_done, stops_at, stops_never}
use Rattle.piet_lane.proofs.board.Board.put_rows.Goals as goal

pub write_row-requires : goal.write_row-requires
write_row-requires g c =
    let d = c.args.self.now in
    subst (AllByRecursion IsColour) (sym (c.deref.ensures.value ∙ c.in-Ok.ensures)) (row_colours (lanes_of d.lanes) d.reach d.start c.loop-y.y)

pub returns-in_default-write_row : goal.returns-in_default-write_row
returns-in_default-write_row g c =
    let old : Outlet = record { got = g.O.Sink.got c.args.out.now; faults = g.O.Sink.faults c.args.out.now; held = c.args.put.now } in
    let here : Outlet = record { got = g.O.Sink.got c.loop-y.out; faults = g.O.Sink.faults c.loop-y.out; held = c.loop-y.put } in
    let new : Outlet = record { got = g.O.Sink.got c.write_row.new.out; faults = g.O.Sink.faults c.write_row.new.out; held = c.write_row.new.put } in
    let d = c.args.self.now in
    let lanes = lanes_of d.lanes in
    let y = c.loop-y.y in
    let rows = rows_of lanes d.reach d.start in
    let row = row_at lanes d.reach d.start y in
    let there : slice_get rows y ≡ Some row = get_each (λ y. row_at lanes d.reach d.start y) (5 * length lanes + 6) y (omega (arith, c.loop-y-test.true, c.count.ensures.count, count_lanes d.lanes)) in
    let left = subst (λ bs. Ahead old here (flat_map row_text rows) bs) (texts_next rows y row there) c.loop-y.invariant in
    let made = subst (λ (r : List Colour). Puts here new (row_text r) (Err c.in_default-write_row.field-0)) (c.deref.ensures.value ∙ c.in-Ok.ensures) c.in_default-write_row.ensures in
    stops_at old new (flat_map row_text rows) c.in_default-write_row.field-0
    (ahead_stops old here new (flat_map row_text rows) (row_text row) (flat_map row_text (drop (y + 1) rows)) c.in_default-write_row.field-0 (Err c.in_default-write_row.field-0) (c.in_default-write_row.field-0, refl, refl) left made)

pub loop-y-preserved : goal.loop-y-preserved
loop-y-preserved g c =
    let old : Outlet = record { got = g.O.Sink.got c.args.out.now; faults = g.O.Sink.faults c.args.out.now; held = c.args.put.now } in
    let here : Outlet = record { got = g.O.Sink.got c.loop-y.out; faults = g.O.Sink.faults c.loop-y.out; held = c.loop-y.put } in
    let new : Outlet = record { got = g.O.Sink.got c.write_row.new.out; faults = g.O.Sink.faults c.write_row.new.out; held = c.write_row.new.put } in
    let d = c.args.self.now in
    let lanes = lanes_of d.lanes in
    let y = c.loop-y.y in
    let rows = rows_of lanes d.reach d.start in
    let row = row_at lanes d.reach d.start y in
    let there : slice_get rows y ≡ Some row = get_each (λ y. row_at lanes d.reach d.start y) (5 * length lanes + 6) y (omega (arith, c.loop-y-test.true, c.count.ensures.count, count_lanes d.lanes)) in
    let left = subst (λ bs. Ahead old here (flat_map row_text rows) bs) (texts_next rows y row there) c.loop-y.invariant in
    let made = subst (λ (r : List Colour). Puts here new (row_text r) (Ok tt)) (c.deref.ensures.value ∙ c.in-Ok.ensures) c.in-Ok-write_row.ensures in
    ahead_more old here new (flat_map row_text rows) (row_text row) (flat_map row_text (drop (y + 1) rows)) tt left made

pub returns : goal.returns
returns g c =
    let old : Outlet = record { got = g.O.Sink.got c.args.out.now; faults = g.O.Sink.faults c.args.out.now; held = c.args.put.now } in
    let here : Outlet = record { got = g.O.Sink.got c.loop-y.out; faults = g.O.Sink.faults c.loop-y.out; held = c.loop-y.put } in
    let d = c.args.self.now in
    let lanes = lanes_of d.lanes in
    let rows = rows_of lanes d.reach d.start in
    let high = rows_high lanes d.reach d.start in
    let over = texts_done rows c.loop-y.y (omega (arith, high, c.loop-y-test.false, c.count.ensures.count, count_lanes d.lanes)) in
    stops_never old here (flat_map row_text rows) tt (ahead_done old here (flat_map row_text rows) tt (subst (λ bs. Ahead old here (flat_map row_text rows) bs) over c.loop-y.invariant))
