use Rattle.std.proofs.Common.{◌++◌, ◌∷◌, [], map, sym, subst}
use Rattle.std.proofs.lemmas.Result.{err_from_is_err_and}
use Rattle.eir_print.specs.Printed.{text_of, op_line, start_lines, label_line, block_lines}
use Rattle.eir_print.proofs.Texts.{block_text}
use Rattle.mach_core.specs.Puts.{Outlet}
use Rattle.mach_core.proofs.Ahead.{Ahead, ahead_start, ahead_more, ahead_stops, ahead_last}
use Rattle.eir_print.proofs.print.put_block.Goals as goal

pub returns-in_err-put_start : goal.returns-in_err-put_start
returns-in_err-put_start g c =
    let old : Outlet = record { got = g.O.Sink.got c.args.out.now; faults = g.O.Sink.faults c.args.out.now; held = c.args.put.now } in
    let new1 : Outlet = record { got = g.O.Sink.got c.put_start.new.out; faults = g.O.Sink.faults c.put_start.new.out; held = c.put_start.new.put } in
    let all = text_of (block_lines c.args.start c.args.k c.args.ops.now) in
    let ahead0 = subst (λ bs. Ahead old old all bs) (sym (block_text c.args.start c.args.k c.args.ops.now)) (ahead_start old all) in
    ahead_stops old old new1 all (text_of (start_lines c.args.start c.args.k)) (text_of (label_line c.args.k ∷ []) ++ (text_of (map op_line c.args.ops.now))) c.in_err-put_start.field-0.0 c.from_residual.result (err_from_is_err_and c.from_residual.result c.from_residual.ensures.1) ahead0 c.in_err-put_start.ensures

pub returns-in_err-put_label : goal.returns-in_err-put_label
returns-in_err-put_label g c =
    let old : Outlet = record { got = g.O.Sink.got c.args.out.now; faults = g.O.Sink.faults c.args.out.now; held = c.args.put.now } in
    let new1 : Outlet = record { got = g.O.Sink.got c.put_start.new.out; faults = g.O.Sink.faults c.put_start.new.out; held = c.put_start.new.put } in
    let new2 : Outlet = record { got = g.O.Sink.got c.put_label.new.out; faults = g.O.Sink.faults c.put_label.new.out; held = c.put_label.new.put } in
    let all = text_of (block_lines c.args.start c.args.k c.args.ops.now) in
    let ahead0 = subst (λ bs. Ahead old old all bs) (sym (block_text c.args.start c.args.k c.args.ops.now)) (ahead_start old all) in
    let ahead1 = ahead_more old old new1 all (text_of (start_lines c.args.start c.args.k)) (text_of (label_line c.args.k ∷ []) ++ (text_of (map op_line c.args.ops.now))) tt ahead0 c.in_ok-put_start.ensures in
    ahead_stops old new1 new2 all (text_of (label_line c.args.k ∷ [])) (text_of (map op_line c.args.ops.now)) c.in_err-put_label.field-0.0 c.from_residual-in_err-put_label.result (err_from_is_err_and c.from_residual-in_err-put_label.result c.from_residual-in_err-put_label.ensures.1) ahead1 c.in_err-put_label.ensures

pub returns : goal.returns
returns g c =
    let old : Outlet = record { got = g.O.Sink.got c.args.out.now; faults = g.O.Sink.faults c.args.out.now; held = c.args.put.now } in
    let new1 : Outlet = record { got = g.O.Sink.got c.put_start.new.out; faults = g.O.Sink.faults c.put_start.new.out; held = c.put_start.new.put } in
    let new2 : Outlet = record { got = g.O.Sink.got c.put_label.new.out; faults = g.O.Sink.faults c.put_label.new.out; held = c.put_label.new.put } in
    let new3 : Outlet = record { got = g.O.Sink.got c.put_ops.new.out; faults = g.O.Sink.faults c.put_ops.new.out; held = c.put_ops.new.put } in
    let all = text_of (block_lines c.args.start c.args.k c.args.ops.now) in
    let ahead0 = subst (λ bs. Ahead old old all bs) (sym (block_text c.args.start c.args.k c.args.ops.now)) (ahead_start old all) in
    let ahead1 = ahead_more old old new1 all (text_of (start_lines c.args.start c.args.k)) (text_of (label_line c.args.k ∷ []) ++ (text_of (map op_line c.args.ops.now))) tt ahead0 c.in_ok-put_start.ensures in
    let ahead2 = ahead_more old new1 new2 all (text_of (label_line c.args.k ∷ [])) (text_of (map op_line c.args.ops.now)) tt ahead1 c.in_ok-put_label.ensures in
    ahead_last old new2 new3 all (text_of (map op_line c.args.ops.now)) c.put_ops.result ahead2 c.put_ops.ensures
