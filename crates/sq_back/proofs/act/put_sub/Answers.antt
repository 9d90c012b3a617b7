use Rattle.std.proofs.Common.{◌≡◌, List, ◌∷◌, [], ◌+◌, subst, rules}
use Rattle.sq_back.specs.declared.line.Line.{Line}
use Rattle.sq_back.specs.Code.{value_cell, register_cell, straight, wrap_difference_lines}
use Rattle.sq_back.specs.Text.{lines_text}
use Rattle.mach_core.specs.Puts.{Outlet, Puts}
use Rattle.sq_back.proofs.Texts.{two_groups}
use Rattle.sq_back.proofs.act.put_sub.Goals as goal

pub returns : goal.returns
returns g c =
    let old : Outlet = record { got = g.O.Sink.got c.args.out.now; faults = g.O.Sink.faults c.args.out.now; held = c.args.put.now } in
    let new : Outlet = record { got = g.O.Sink.got c.put_groups.new.out; faults = g.O.Sink.faults c.put_groups.new.out; held = c.put_groups.new.put } in
    let own = c.args.site.own in
    let at = own + 3 in
    let first : c.subtract.result ∷ [] ≡ straight at ((value_cell own c.args.v, register_cell c.args.r) ∷ []) = search rules in
    let second : c.wrap_difference_lines-wrap.result ≡ wrap_difference_lines (at + 3) (register_cell c.args.r) c.args.site.place = search rules in
    subst (λ (lines : List Line). Puts old new (lines_text lines) c.put_groups.result)
    (two_groups (c.subtract.result ∷ []) c.wrap_difference_lines-wrap.result first second)
    c.put_groups.ensures
