use Rattle.std.proofs.Common.{◌≡◌, List, ◌∷◌, [], pos, ◌+◌, subst, rules}
use Rattle.sq_back.specs.declared.line.Line.{Line}
use Rattle.sq_back.specs.Code.{difference_lines, sign_lines, branches_of, value_cell, register_cell, minus_one_cell, subtract, go}
use Rattle.sq_back.specs.Text.{lines_text}
use Rattle.mach_core.specs.Puts.{Outlet, Puts}
use Rattle.sq_back.proofs.Texts.{three_groups}
use Rattle.sq_back.proofs.act.put_set.Goals as goal

pub returns : goal.returns
returns g c =
    let old : Outlet = record { got = g.O.Sink.got c.args.out.now; faults = g.O.Sink.faults c.args.out.now; held = c.args.put.now } in
    let new : Outlet = record { got = g.O.Sink.got c.put_groups.new.out; faults = g.O.Sink.faults c.put_groups.new.out; held = c.put_groups.new.put } in
    let own = c.args.site.own in
    let at = own + 3 in
    let cell = register_cell c.args.r in
    let first : c.difference_lines-difference.result ≡ difference_lines at cell (value_cell own c.args.v) = search rules in
    let second : c.sign_lines-sign.result ≡ sign_lines (at + 15) (branches_of c.args.test (pos (at + 30)) (pos (at + 27))) = search rules in
    let third : c.flag_lines-flag.result ≡ subtract cell cell c.args.site.place ∷ subtract cell cell (pos (at + 33)) ∷ subtract minus_one_cell cell (pos (at + 36)) ∷ go c.args.site.place ∷ [] = search rules in
    subst (λ (lines : List Line). Puts old new (lines_text lines) c.put_groups.result)
    (three_groups c.difference_lines-difference.result c.sign_lines-sign.result c.flag_lines-flag.result first second third)
    c.put_groups.ensures
