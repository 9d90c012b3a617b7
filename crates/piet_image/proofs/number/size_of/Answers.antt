use Rattle.std.proofs.Common.{◌+◌, ◌-◌, ◌^◌, min, get_or, ap, ◌∙◌}
use Rattle.std.proofs.lemmas.Str.Parse.{digit_at}
use Rattle.piet_image.proofs.Digits.{size_more}
use Rattle.piet_image.proofs.number.size_of.Goals as goal

pub overflow_sub-digit : goal.overflow_sub-digit
overflow_sub-digit c = (digit_at c.args.digits.now c.loop-digit.digit-index c.requires c.loop-digit-test.true).0

pub loop-digit-preserved : goal.loop-digit-preserved
loop-digit-preserved c =
    let d = get_or c.args.digits.now c.loop-digit.digit-index 0 in
    c.saturating_add-size.ensures
    ∙ (ap (λ x. min (x + (d - 48)) (2 ^ 64 - 1)) c.saturating_mul.ensures
    ∙ size_more c.args.digits.now c.loop-digit.digit-index c.loop-digit.size c.requires c.loop-digit-test.true c.loop-digit.invariant)
