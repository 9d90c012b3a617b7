use Rattle.std.proofs.Common.{◌≡◌, ◌+◌, subst, refl, rules}
use Rattle.std.proofs.lemmas.Result.{err_from_is_err_and}
use Rattle.sq_back.specs.Code.{own_numbers, act_lines}
use Rattle.sq_back.specs.Text.{line_text, lines_text}
use Rattle.mach_core.specs.Puts.{Outlet, Puts}
use Rattle.mach_core.proofs.Ahead.{puts_both, puts_stopped}
use Rattle.sq_back.proofs.Texts.{op_text}
use Rattle.sq_back.proofs.act.put_op.Goals as goal

pub returns-in_err-put_line : goal.returns-in_err-put_line
returns-in_err-put_line g c =
    let old : Outlet = record { got = g.O.Sink.got c.args.out.now; faults = g.O.Sink.faults c.args.out.now; held = c.args.put.now } in
    let mid : Outlet = record { got = g.O.Sink.got c.put_line.new.out; faults = g.O.Sink.faults c.put_line.new.out; held = c.put_line.new.put } in
    let line = c.own_numbers.result in
    let own : line ≡ own_numbers c.args.site.own c.args.site.place c.args.op = search rules in
    let act = act_lines c.args.site.count c.args.site.own (c.args.site.own + 3) c.args.site.place c.args.op in
    subst (λ bytes. Puts old mid bytes c.from_residual.result) (op_text c.args.site.count c.args.site.own c.args.site.place c.args.op line act own refl)
    (puts_stopped old mid (line_text line) (lines_text act) c.in_err-put_line.field-0.0 c.from_residual.result (err_from_is_err_and c.from_residual.result c.from_residual.ensures.1) c.in_err-put_line.ensures)

pub returns : goal.returns
returns g c =
    let old : Outlet = record { got = g.O.Sink.got c.args.out.now; faults = g.O.Sink.faults c.args.out.now; held = c.args.put.now } in
    let mid : Outlet = record { got = g.O.Sink.got c.put_line.new.out; faults = g.O.Sink.faults c.put_line.new.out; held = c.put_line.new.put } in
    let new : Outlet = record { got = g.O.Sink.got c.put_act.new.out; faults = g.O.Sink.faults c.put_act.new.out; held = c.put_act.new.put } in
    let line = c.own_numbers.result in
    let own : line ≡ own_numbers c.args.site.own c.args.site.place c.args.op = search rules in
    let act = act_lines c.args.site.count c.args.site.own (c.args.site.own + 3) c.args.site.place c.args.op in
    subst (λ bytes. Puts old new bytes c.put_act.result) (op_text c.args.site.count c.args.site.own c.args.site.place c.args.op line act own refl)
    (puts_both old mid new (line_text line) (lines_text act) tt c.put_act.result c.in_ok-put_line.ensures c.put_act.ensures)
