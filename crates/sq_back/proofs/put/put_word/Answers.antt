use Rattle.std.proofs.Common.{subst, ap, ◌∙◌}
use Rattle.std.specs.Fmt.{decimal}
use Rattle.mach_core.specs.Puts.{Outlet, Puts}
use Rattle.sq_back.proofs.Texts.{word_bytes}
use Rattle.sq_back.proofs.put.put_word.Goals as goal

pub returns : goal.returns
returns g c =
    let old : Outlet = record { got = g.O.Sink.got c.args.out.now; faults = g.O.Sink.faults c.args.out.now; held = c.args.put.now } in
    let new : Outlet = record { got = g.O.Sink.got c.pieces.new.out; faults = g.O.Sink.faults c.pieces.new.out; held = c.pieces.new.self } in
    subst (λ bytes. Puts old new bytes c.pieces.result)
    (word_bytes c.args.word c.as_bytes-number.result.now (c.as_bytes-number.ensures.value ∙ (c.format.ensures.text ∙ ap decimal c.get.ensures.value)))
    c.pieces.ensures
