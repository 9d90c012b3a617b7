use Rattle.std.proofs.Common.{◌+◌, ◌∷◌, [], drop, map, subst}
use Rattle.std.proofs.lemmas.Result.{err_from_is_err_and}
use Rattle.eir_print.specs.Printed.{text_of, word_line}
use Rattle.mach_core.specs.Puts.{Outlet}
use Rattle.mach_core.proofs.Ahead.{Ahead, ahead_more, ahead_stops}
use Rattle.eir_print.proofs.Texts.{lines_next}
use Rattle.eir_print.proofs.print.put_words.Goals as goal

pub returns-in_err-put_word : goal.returns-in_err-put_word
returns-in_err-put_word g c =
    let old : Outlet = record { got = g.O.Sink.got c.args.out.now; faults = g.O.Sink.faults c.args.out.now; held = c.args.put.now } in
    let here : Outlet = record { got = g.O.Sink.got c.loop-word.out; faults = g.O.Sink.faults c.loop-word.out; held = c.loop-word.put } in
    let new : Outlet = record { got = g.O.Sink.got c.put_word.new.out; faults = g.O.Sink.faults c.put_word.new.out; held = c.put_word.new.put } in
    let all = text_of (map word_line c.args.words.now) in
    let i = c.loop-word.word-index in
    let x = c.word-item.result in
    let left = subst (λ bs. Ahead old here all bs) (lines_next word_line c.args.words.now i x c.loop-word-test.true c.word-item.is) c.loop-word.invariant in
    ahead_stops old here new all (text_of (word_line x ∷ [])) (text_of (map word_line (drop (i + 1) c.args.words.now))) c.in_err-put_word.field-0.0 c.from_residual.result
    (err_from_is_err_and c.from_residual.result c.from_residual.ensures.1) left c.in_err-put_word.ensures

pub loop-word-preserved : goal.loop-word-preserved
loop-word-preserved g c =
    let old : Outlet = record { got = g.O.Sink.got c.args.out.now; faults = g.O.Sink.faults c.args.out.now; held = c.args.put.now } in
    let here : Outlet = record { got = g.O.Sink.got c.loop-word.out; faults = g.O.Sink.faults c.loop-word.out; held = c.loop-word.put } in
    let new : Outlet = record { got = g.O.Sink.got c.put_word.new.out; faults = g.O.Sink.faults c.put_word.new.out; held = c.put_word.new.put } in
    let all = text_of (map word_line c.args.words.now) in
    let i = c.loop-word.word-index in
    let x = c.word-item.result in
    let left = subst (λ bs. Ahead old here all bs) (lines_next word_line c.args.words.now i x c.loop-word-test.true c.word-item.is) c.loop-word.invariant in
    ahead_more old here new all (text_of (word_line x ∷ [])) (text_of (map word_line (drop (i + 1) c.args.words.now))) tt left c.in_ok-put_word.ensures
