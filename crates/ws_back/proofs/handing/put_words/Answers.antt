use Rattle.std.proofs.Common.{◌+◌, ◌∷◌, [], arith, drop, subst}
use Rattle.std.proofs.lemmas.Result.{err_from_is_err_and}
use Rattle.mach_core.specs.Outside.{Rose}
use Rattle.ws_back.specs.Code.{words_code}
use Rattle.ws_back.proofs.Handed.{Ahead, ahead_more, ahead_stops_with, rises_after, words_more}
use Rattle.ws_back.proofs.handing.put_words.Goals as goal

pub returns-in_err-put_piece-clause-handed : goal.returns-in_err-put_piece-clause-handed
returns-in_err-put_piece-clause-handed g c =
    let before = g.O.Sink.got c.args.out.now in
    let here = g.O.Sink.got c.loop-a.out in
    let now = g.O.Sink.got c.put_piece.new.out in
    let rose = Rose (g.O.Sink.faults c.loop-a.out) (g.O.Sink.faults c.put_piece.new.out) in
    let rose' = Rose (g.O.Sink.faults c.args.out.now) (g.O.Sink.faults c.put_piece.new.out) in
    let ahead = subst (Ahead before here c.args.put.now c.loop-a.put (words_code 0 c.args.words.now)) (words_more c.args.words.now c.loop-a.a c.index-words-a.result c.loop-a-test.true c.index-words-a.is) c.loop-a.invariant.ahead in
    ahead_stops_with before here now c.args.put.now c.loop-a.put c.put_piece.new.put c.put_piece.new.put (words_code 0 c.args.words.now) (words_code c.loop-a.a (c.index-words-a.result ∷ [])) (words_code (c.loop-a.a + 1) (drop (c.loop-a.a + 1) c.args.words.now)) rose rose' c.in_err-put_piece.field-0.0 c.from_residual.result
    (rises_after _ _ _ c.loop-a.invariant.later) (err_from_is_err_and c.from_residual.result c.from_residual.ensures.1) ahead c.in_err-put_piece.ensures.handed

pub loop-a-preserved : goal.loop-a-preserved
loop-a-preserved g c =
    let before = g.O.Sink.got c.args.out.now in
    let here = g.O.Sink.got c.loop-a.out in
    let now = g.O.Sink.got c.put_piece.new.out in
    let ahead = subst (Ahead before here c.args.put.now c.loop-a.put (words_code 0 c.args.words.now)) (words_more c.args.words.now c.loop-a.a c.index-words-a.result c.loop-a-test.true c.index-words-a.is) c.loop-a.invariant.ahead in
    record {
      ahead = ahead_more before here now c.args.put.now c.loop-a.put c.put_piece.new.put (words_code 0 c.args.words.now) (words_code c.loop-a.a (c.index-words-a.result ∷ [])) (words_code (c.loop-a.a + 1) (drop (c.loop-a.a + 1) c.args.words.now)) ahead c.in_ok-put_piece.ensures.handed;
      later = omega (arith, c.loop-a.invariant.later, c.in_ok-put_piece.ensures.later);
    }
