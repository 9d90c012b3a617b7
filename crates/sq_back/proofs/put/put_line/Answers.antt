use Rattle.std.proofs.Common.{FitsSigned, w64, rules, ap, subst, ◌∙◌}
use Rattle.std.specs.Fmt.{signed_decimal}
use Rattle.std.proofs.lemmas.Int.{to_z-of_z}
use Rattle.mach_core.specs.Puts.{Outlet, Puts}
use Rattle.sq_back.proofs.Texts.{line_bytes}
use Rattle.sq_back.proofs.put.put_line.Goals as goal

pub returns : goal.returns
returns g c =
    let old : Outlet = record { got = g.O.Sink.got c.args.out.now; faults = g.O.Sink.faults c.args.out.now; held = c.args.put.now } in
    let new : Outlet = record { got = g.O.Sink.got c.pieces.new.out; faults = g.O.Sink.faults c.pieces.new.out; held = c.pieces.new.self } in
    let line = c.args.line in
    let from : FitsSigned w64 line.from = search rules in
    let to : FitsSigned w64 line.to = search rules in
    let next : FitsSigned w64 line.next = search rules in
    subst (λ bytes. Puts old new bytes c.pieces.result)
    (line_bytes line c.signed-from.result.now c.signed-to.result.now c.signed-next.result.now
    (c.signed-from.ensures ∙ ap signed_decimal (to_z-of_z w64 line.from from))
    (c.signed-to.ensures ∙ ap signed_decimal (to_z-of_z w64 line.to to))
    (c.signed-next.ensures ∙ ap signed_decimal (to_z-of_z w64 line.next next)))
    c.pieces.ensures
