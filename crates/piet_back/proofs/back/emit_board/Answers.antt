use Rattle.std.proofs.Common.{◌≡◌, ◌+◌, ◌^◌, ◌≤◌, length, refl, sym, ap, subst, ◌∙◌, arith, List, Err}
use Rattle.std.proofs.lemmas.List.{length-map}
use Rattle.eir_core.specs.Eir.{size_of}
use Rattle.piet_lane.specs.declared.board.WriteFault.{WriteFault}
use Rattle.piet_lane.specs.declared.command.Command.{Command}
use Rattle.piet_lane.specs.Drawn.{Reached}
use Rattle.piet_back.specs.declared.layout.Layout.{Layout}
use Rattle.piet_back.specs.Lanes.{layout_of, init_lane, lanes, start_lane}
use Rattle.piet_back.proofs.Emitted.{puts_stands, front_stands, nothing_stands}
use Rattle.piet_back.proofs.Reached.{lanes_reached}
use Rattle.piet_back.proofs.Simulation.{tiny_of}
use Rattle.piet_back.proofs.back.emit_board.Goals as goal

pub returns-in_default-clause-answers : goal.returns-in_default-clause-answers
returns-in_default-clause-answers g c =
    let p = c.args.p.now in
    let small : size_of p ≤ 2 ^ 12 = omega (arith, c.size-size.ensures.size, c.if-size-gt-LIMIT.false) in
    (small, nothing_stands p (g.O.Sink.got c.args.out.now) c.size-size.ensures.sound small)

pub new-board-requires-clause-few : goal.new-board-requires-clause-few
new-board-requires-clause-few g c =
    let p = c.args.p.now in
    let small : size_of p ≤ 2 ^ 12 = omega (arith, c.size-size.ensures.size, c.if-size-gt-LIMIT.false) in
    let tiny = tiny_of p small in
    let count : length c.in-Ok.all.items ≡ length (lanes p) = sym (length-map c.in-Ok.all.items (λ v. v.items)) ∙ ap length c.in-Ok.ensures in
    omega (arith, c.in-Ok.all.ok.0, count, tiny.lanes, tiny.small)

pub new-board-requires-clause-known : goal.new-board-requires-clause-known
new-board-requires-clause-known g c =
    let p = c.args.p.now in
    let small : size_of p ≤ 2 ^ 12 = omega (arith, c.size-size.ensures.size, c.if-size-gt-LIMIT.false) in
    let tiny = tiny_of p small in
    let count : length c.in-Ok.all.items ≡ length (lanes p) = sym (length-map c.in-Ok.all.items (λ v. v.items)) ∙ ap length c.in-Ok.ensures in
    let init : c.init_lane.result ≡ init_lane (layout_of p) = c.init_lane.ensures ∙ ap init_lane c.layout_of-g.ensures in
    let words : c.layout_of-g.result.words ≡ length p.words = ap (λ (z : Layout). z.words) c.layout_of-g.ensures in
    omega (arith, c.in-Ok.all.ok.0, count, tiny.lanes, init, words)

pub new-board-requires-clause-short : goal.new-board-requires-clause-short
new-board-requires-clause-short g c =
    let p = c.args.p.now in
    let small : size_of p ≤ 2 ^ 12 = omega (arith, c.size-size.ensures.size, c.if-size-gt-LIMIT.false) in
    subst (λ (all : List (List Command)). Reached all 512) (sym c.in-Ok.ensures) (lanes_reached p (tiny_of p small))

pub returns-in-Ok-write-clause-answers : goal.returns-in-Ok-write-clause-answers
returns-in-Ok-write-clause-answers g c =
    let p = c.args.p.now in
    let small : size_of p ≤ 2 ^ 12 = omega (arith, c.size-size.ensures.size, c.if-size-gt-LIMIT.false) in
    let init : c.init_lane.result ≡ init_lane (layout_of p) = c.init_lane.ensures ∙ ap init_lane c.layout_of-g.ensures in
    let words : c.layout_of-g.result.words ≡ length p.words = ap (λ (z : Layout). z.words) c.layout_of-g.ensures in
    let first : c.init_lane.result + c.layout_of-g.result.words ≡ start_lane p = omega (arith, init, words) in
    (small, puts_stands p c.new-board.result (g.O.Sink.got c.args.out.now) (g.O.Sink.got c.write.new.out) c.size-size.ensures.sound small (c.new-board.ensures.lanes ∙ c.in-Ok.ensures) (c.new-board.ensures.start ∙ first) c.in-Ok-write.ensures.ok)

pub returns-in-Err-Write-clause-answers : goal.returns-in-Err-Write-clause-answers
returns-in-Err-Write-clause-answers g c =
    let p = c.args.p.now in
    let small : size_of p ≤ 2 ^ 12 = omega (arith, c.size-size.ensures.size, c.if-size-gt-LIMIT.false) in
    let init : c.init_lane.result ≡ init_lane (layout_of p) = c.init_lane.ensures ∙ ap init_lane c.layout_of-g.ensures in
    let words : c.layout_of-g.result.words ≡ length p.words = ap (λ (z : Layout). z.words) c.layout_of-g.ensures in
    let first : c.init_lane.result + c.layout_of-g.result.words ≡ start_lane p = omega (arith, init, words) in
    (small, c.in-Err-Write.ensures.write (ap (λ (e : WriteFault). Err e) c.in-Err-Write.field-0-is), front_stands p c.new-board.result (g.O.Sink.got c.args.out.now) (g.O.Sink.got c.write.new.out) c.size-size.ensures.sound small (c.new-board.ensures.lanes ∙ c.in-Ok.ensures) (c.new-board.ensures.start ∙ first) c.in-Err-Write.ensures.err)

pub returns-clause-answers : goal.returns-clause-answers
returns-clause-answers g c =
    let p = c.args.p.now in
    let small : size_of p ≤ 2 ^ 12 = omega (arith, c.size-size.ensures.size, c.if-size-gt-LIMIT.false) in
    let init : c.init_lane.result ≡ init_lane (layout_of p) = c.init_lane.ensures ∙ ap init_lane c.layout_of-g.ensures in
    let words : c.layout_of-g.result.words ≡ length p.words = ap (λ (z : Layout). z.words) c.layout_of-g.ensures in
    let first : c.init_lane.result + c.layout_of-g.result.words ≡ start_lane p = omega (arith, init, words) in
    (small, front_stands p c.new-board.result (g.O.Sink.got c.args.out.now) (g.O.Sink.got c.write.new.out) c.size-size.ensures.sound small (c.new-board.ensures.lanes ∙ c.in-Ok.ensures) (c.new-board.ensures.start ∙ first) c.in-Err-Memory.ensures.err)
