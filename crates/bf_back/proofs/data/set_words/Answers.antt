use Rattle.std.proofs.Common.{ap, take, ◌∙◌}
use Rattle.bf_tape.specs.Piece.{joined}
use Rattle.bf_turn.proofs.Listed.{all_taken}
use Rattle.bf_back.specs.Code.{words_code}
use Rattle.bf_back.proofs.Loaded.{words_start, words_more, words_done}
use Rattle.bf_back.proofs.Coded.{still, words_none, words_coded}
use Rattle.bf_back.proofs.data.set_words.Goals as goal

pub loop-word-init : goal.loop-word-init
loop-word-init c = record { code = λ home. still (words_code (take 0 c.args.words.now)) home (words_none c.args.words.now); effect = words_start c.args.f.now c.args.words.now }

pub loop-word-preserved : goal.loop-word-preserved
loop-word-preserved c = record {
  code = λ home. words_coded c.args.f.now c.args.words.now c.loop-word.word-index c.word-item.result c.loop-word-test.true c.word-item.is (c.loop-word.invariant.code home) c.in_ok-set.ensures.code c.in_ok-shift.ensures.code;
  effect = words_more c.args.words.now c.loop-word.word-index c.word-item.result c.loop-word-test.true c.word-item.is c.loop-word.invariant.effect c.in_ok-set.ensures.effect c.in_ok-shift.ensures.effect;
}

pub returns-clause-code : goal.returns-clause-code
returns-clause-code c = λ home. c.loop-word.invariant.code home ∙ ap (λ ws. joined c.args.f.now (words_code ws) 0) (all_taken c.loop-word.word-index c.args.words.now c.loop-word-test.false)

pub returns-clause-effect : goal.returns-clause-effect
returns-clause-effect c = words_done c.args.words.now c.loop-word.word-index c.loop-word-test.false c.loop-word.auto.word-index-end c.loop-word.invariant.effect
