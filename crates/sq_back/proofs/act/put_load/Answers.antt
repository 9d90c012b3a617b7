use Rattle.std.proofs.Common.{◌≡◌, List, pos, ◌+◌, subst, rules}
use Rattle.sq_back.specs.declared.line.Line.{Line}
use Rattle.sq_back.specs.Code.{move_lines, value_cell, register_cell, work_cell, load_next, load_start}
use Rattle.sq_back.specs.Text.{lines_text}
use Rattle.mach_core.specs.Puts.{Outlet, Puts}
use Rattle.sq_back.proofs.Texts.{three_groups}
use Rattle.sq_back.proofs.act.put_load.Goals as goal

pub returns : goal.returns
returns g c =
    let old : Outlet = record { got = g.O.Sink.got c.args.out.now; faults = g.O.Sink.faults c.args.out.now; held = c.args.put.now } in
    let new : Outlet = record { got = g.O.Sink.got c.put_groups.new.out; faults = g.O.Sink.faults c.put_groups.new.out; held = c.put_groups.new.put } in
    let own = c.args.site.own in
    let at = own + 3 in
    let first : c.move_lines-address.result ≡ move_lines at (value_cell own c.args.v) work_cell (pos (at + 12)) = search rules in
    let second : c.move_lines-call.result ≡ move_lines (at + 12) (own + 1) load_next (pos load_start) = search rules in
    let third : c.move_lines-word.result ≡ move_lines (at + 24) work_cell (register_cell c.args.r) c.args.site.place = search rules in
    subst (λ (lines : List Line). Puts old new (lines_text lines) c.put_groups.result)
    (three_groups c.move_lines-address.result c.move_lines-call.result c.move_lines-word.result first second third)
    c.put_groups.ensures
