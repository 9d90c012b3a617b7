use Rattle.std.proofs.Common.{◌≡◌, ◌+◌, ◌*◌, ◌^◌, min, take, get_or, sym, ap, ◌∙◌}
use Rattle.std.specs.Char.{digit_value}
use Rattle.c_syntax.specs.Bytes.{value_of}
use Rattle.c_syntax.proofs.NumberLemmas.{value_of-more, capped_step}
use Rattle.c_syntax.proofs.bytes.number_up_to.Goals as goal

pub loop-digit-preserved : goal.loop-digit-preserved
loop-digit-preserved c =
    let i = c.loop-digit.digit-index in
    let digits = c.args.digits.now in
    let more : value_of c.args.radix (take (i + 1) digits) ≡ value_of c.args.radix (take i digits) * c.args.radix + digit_value (get_or digits i 0) = value_of-more c.args.radix digits i c.loop-digit-test.true in
    let capped : min (c.loop-digit.number * c.args.radix + digit_value (get_or digits i 0)) (2 ^ 24) ≡ min (value_of c.args.radix (take i digits) * c.args.radix + digit_value (get_or digits i 0)) (2 ^ 24) =
    ap (λ n. min (n * c.args.radix + digit_value (get_or digits i 0)) (2 ^ 24)) c.loop-digit.invariant ∙ capped_step (2 ^ 24) (value_of c.args.radix (take i digits)) c.args.radix (digit_value (get_or digits i 0)) c.requires.positive in
    c.min-number.ensures ∙ ap (λ d. min (c.loop-digit.number * c.args.radix + d) (2 ^ 24)) c.digit_value.ensures.value ∙ capped ∙ ap (λ n. min n (2 ^ 24)) (sym more)
