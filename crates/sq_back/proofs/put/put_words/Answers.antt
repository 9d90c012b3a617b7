use Rattle.std.proofs.Common.{◌+◌, drop, subst}
use Rattle.std.proofs.lemmas.Result.{err_from_is_err_and}
use Rattle.sq_back.specs.Text.{word_text, words_text}
use Rattle.mach_core.specs.Puts.{Outlet}
use Rattle.mach_core.proofs.Ahead.{Ahead, ahead_more, ahead_stops, ahead_done}
use Rattle.sq_back.proofs.Texts.{words_next, words_done}
use Rattle.sq_back.proofs.put.put_words.Goals as goal

pub returns-in_err-put_word : goal.returns-in_err-put_word
returns-in_err-put_word g c =
    let old : Outlet = record { got = g.O.Sink.got c.args.out.now; faults = g.O.Sink.faults c.args.out.now; held = c.args.put.now } in
    let here : Outlet = record { got = g.O.Sink.got c.loop-word.out; faults = g.O.Sink.faults c.loop-word.out; held = c.loop-word.put } in
    let new : Outlet = record { got = g.O.Sink.got c.put_word.new.out; faults = g.O.Sink.faults c.put_word.new.out; held = c.put_word.new.put } in
    let all = words_text c.args.words.now in
    let i = c.loop-word.word-index in
    let x = c.word-item.result in
    let left = subst (λ bs. Ahead old here all bs) (words_next c.args.words.now i x c.loop-word-test.true c.word-item.is) c.loop-word.invariant in
    ahead_stops old here new all (word_text x) (words_text (drop (i + 1) c.args.words.now)) c.in_err-put_word.field-0.0 c.from_residual.result
    (err_from_is_err_and c.from_residual.result c.from_residual.ensures.1) left c.in_err-put_word.ensures

pub loop-word-preserved : goal.loop-word-preserved
loop-word-preserved g c =
    let old : Outlet = record { got = g.O.Sink.got c.args.out.now; faults = g.O.Sink.faults c.args.out.now; held = c.args.put.now } in
    let here : Outlet = record { got = g.O.Sink.got c.loop-word.out; faults = g.O.Sink.faults c.loop-word.out; held = c.loop-word.put } in
    let new : Outlet = record { got = g.O.Sink.got c.put_word.new.out; faults = g.O.Sink.faults c.put_word.new.out; held = c.put_word.new.put } in
    let all = words_text c.args.words.now in
    let i = c.loop-word.word-index in
    let x = c.word-item.result in
    let left = subst (λ bs. Ahead old here all bs) (words_next c.args.words.now i x c.loop-word-test.true c.word-item.is) c.loop-word.invariant in
    ahead_more old here new all (word_text x) (words_text (drop (i + 1) c.args.words.now)) tt left c.in_ok-put_word.ensures

pub returns : goal.returns
returns g c =
    let old : Outlet = record { got = g.O.Sink.got c.args.out.now; faults = g.O.Sink.faults c.args.out.now; held = c.args.put.now } in
    let here : Outlet = record { got = g.O.Sink.got c.loop-word.out; faults = g.O.Sink.faults c.loop-word.out; held = c.loop-word.put } in
    ahead_done old here (words_text c.args.words.now) tt (subst (λ bs. Ahead old here (words_text c.args.words.now) bs) (words_done c.args.words.now c.loop-word.word-index c.loop-word-test.false) c.loop-word.invariant)
