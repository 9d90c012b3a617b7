use Rattle.std.proofs.Common.{◌≡◌, [], refl, ap, ◌∙◌, arith}
use Rattle.bf_tape.specs.Piece.{joined}
use Rattle.bf_back.specs.Code.{back_code}
use Rattle.bf_back.proofs.Loaded.{back_start, back_more, back_done}
use Rattle.bf_back.proofs.Coded.{still, back_coded}
use Rattle.bf_back.proofs.data.go_back.Goals as goal

pub loop-walked-init : goal.loop-walked-init
loop-walked-init c = record { code = λ home. still [] home refl; effect = back_start c.args.f.now c.args.records }

pub loop-walked-preserved : goal.loop-walked-preserved
loop-walked-preserved c = record {
  code = λ home. back_coded c.args.f.now c.loop-walked.walked (c.loop-walked.invariant.code home) c.in_ok-shift.ensures.code;
  effect = back_more c.args.records c.loop-walked.walked c.loop-walked-test.true c.loop-walked.invariant.effect c.in_ok-shift.ensures.effect;
}

pub returns-clause-code : goal.returns-clause-code
returns-clause-code c =
    let ends : c.loop-walked.walked ≡ c.args.records = omega (arith, c.loop-walked-test.false, c.loop-walked.auto.walked-end) in
    λ home. c.loop-walked.invariant.code home ∙ ap (λ k. joined c.args.f.now (back_code k) 0) ends

pub returns-clause-effect : goal.returns-clause-effect
returns-clause-effect c = back_done c.args.records c.loop-walked.walked c.loop-walked-test.false c.loop-walked.auto.walked-end c.loop-walked.invariant.effect
