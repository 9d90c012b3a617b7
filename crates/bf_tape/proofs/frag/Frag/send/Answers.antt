use Rattle.std.proofs.Common.{◌≡◌, ℕ, ◌+◌, List, [], ◌∷◌, ◌++◌, drop, get_or, length, sym, ap, subst, ◌∙◌}
use Rattle.std.proofs.lemmas.List.{drop_more}
use Rattle.std.proofs.lemmas.Result.{err_from_is_err_and}
use Rattle.mach_core.specs.Puts.{Outlet, Puts}
use Rattle.mach_core.proofs.Ahead.{Ahead, ahead_more, ahead_stops}
use Rattle.bf_lang.specs.declared.command.Command.{Command}
use Rattle.bf_lang.specs.declared.command.Command.TheVariants.{Right}
use Rattle.bf_lang.specs.Laws.{text_of}
use Rattle.bf_tape.proofs.frag.Frag.send.Goals as goal

pub returns-in_err-byte : goal.returns-in_err-byte
returns-in_err-byte g c =
    let old : Outlet = record { got = g.O.Sink.got c.args.out.now; faults = g.O.Sink.faults c.args.out.now; held = c.args.put.now } in
    let here : Outlet = record { got = g.O.Sink.got c.loop-command.out; faults = g.O.Sink.faults c.loop-command.out; held = c.loop-command.put } in
    let new : Outlet = record { got = g.O.Sink.got c.byte.new.out; faults = g.O.Sink.faults c.byte.new.out; held = c.byte.new.self } in
    let code = c.commands-commands.result.now in
    let i = c.loop-command.command-index in
    let next : text_of (drop i code) ≡ c.byte_of.result ∷ text_of (drop (i + 1) code) = ap text_of (drop_more code i Right c.loop-command-test.true) ∙ ap (λ b. b ∷ text_of (drop (i + 1) code)) (sym c.byte_of.ensures) in
    let left = subst (λ bs. Ahead old here (text_of code) bs) next c.loop-command.invariant in
    let stops = ahead_stops old here new (text_of code) (c.byte_of.result ∷ []) (text_of (drop (i + 1) code)) c.in_err-byte.field-0.0 c.from_residual.result
    (err_from_is_err_and c.from_residual.result c.from_residual.ensures.1) left (record { ok = tt; err = c.in_err-byte.ensures.err; cause = c.in_err-byte.ensures.cause }) in
    subst (λ (cs : List Command). Puts old new (text_of cs) c.from_residual.result) c.commands-commands.ensures.commands stops

pub loop-command-preserved : goal.loop-command-preserved
loop-command-preserved g c =
    let old : Outlet = record { got = g.O.Sink.got c.args.out.now; faults = g.O.Sink.faults c.args.out.now; held = c.args.put.now } in
    let here : Outlet = record { got = g.O.Sink.got c.loop-command.out; faults = g.O.Sink.faults c.loop-command.out; held = c.loop-command.put } in
    let new : Outlet = record { got = g.O.Sink.got c.byte.new.out; faults = g.O.Sink.faults c.byte.new.out; held = c.byte.new.self } in
    let code = c.commands-commands.result.now in
    let i = c.loop-command.command-index in
    let next : text_of (drop i code) ≡ c.byte_of.result ∷ text_of (drop (i + 1) code) = ap text_of (drop_more code i Right c.loop-command-test.true) ∙ ap (λ b. b ∷ text_of (drop (i + 1) code)) (sym c.byte_of.ensures) in
    let left = subst (λ bs. Ahead old here (text_of code) bs) next c.loop-command.invariant in
    ahead_more old here new (text_of code) (c.byte_of.result ∷ []) (text_of (drop (i + 1) code)) tt left (record { ok = c.in_ok-byte.ensures.ok; err = tt; cause = c.in_ok-byte.ensures.cause })
