use Rattle.std.proofs.Common.{◌≡◌, List, pos, ◌+◌, subst, rules}
use Rattle.sq_back.specs.declared.line.Line.{Line}
use Rattle.sq_back.specs.Code.{difference_lines, sign_lines, goto_lines, branches_of, value_cell, register_cell}
use Rattle.word24.specs.Word.{number_of}
use Rattle.sq_back.specs.Code.{goal as goal_place}
use Rattle.sq_back.specs.Text.{lines_text}
use Rattle.mach_core.specs.Puts.{Outlet, Puts}
use Rattle.sq_back.proofs.Texts.{two_groups, three_groups}
use Rattle.sq_back.proofs.act.put_jump_if.Goals as goal

pub returns-in-Reg : goal.returns-in-Reg
returns-in-Reg g c =
    let old : Outlet = record { got = g.O.Sink.got c.args.out.now; faults = g.O.Sink.faults c.args.out.now; held = c.args.put.now } in
    let new : Outlet = record { got = g.O.Sink.got c.put_groups.new.out; faults = g.O.Sink.faults c.put_groups.new.out; held = c.put_groups.new.put } in
    let own = c.args.site.own in
    let at = own + 3 in
    let first : c.difference_lines-difference.result ≡ difference_lines at (register_cell c.args.r) (value_cell own c.args.v) = search rules in
    let second : c.sign_lines-sign.result ≡ sign_lines (at + 15) (branches_of c.args.test (pos (at + 27)) c.args.site.place) = search rules in
    let third : c.goto_lines.result ≡ goto_lines (at + 27) c.in-Reg.t = search rules in
    rw c.in-Reg.is
    (subst (λ (lines : List Line). Puts old new (lines_text lines) c.put_groups.result)
    (three_groups c.difference_lines-difference.result c.sign_lines-sign.result c.goto_lines.result first second third)
    c.put_groups.ensures)

pub returns-in-Imm : goal.returns-in-Imm
returns-in-Imm g c =
    let old : Outlet = record { got = g.O.Sink.got c.args.out.now; faults = g.O.Sink.faults c.args.out.now; held = c.args.put.now } in
    let new : Outlet = record { got = g.O.Sink.got c.put_groups-in-Imm.new.out; faults = g.O.Sink.faults c.put_groups-in-Imm.new.out; held = c.put_groups-in-Imm.new.put } in
    let own = c.args.site.own in
    let at = own + 3 in
    let first : c.difference_lines-difference.result ≡ difference_lines at (register_cell c.args.r) (value_cell own c.args.v) = search rules in
    let second : c.sign_lines-sign-in-Imm.result ≡ sign_lines (at + 15) (branches_of c.args.test (goal_place c.args.site.count (number_of c.in-Imm.word)) c.args.site.place) = search rules in
    rw c.in-Imm.is
    (subst (λ (lines : List Line). Puts old new (lines_text lines) c.put_groups-in-Imm.result)
    (two_groups c.difference_lines-difference.result c.sign_lines-sign-in-Imm.result first second)
    c.put_groups-in-Imm.ensures)
