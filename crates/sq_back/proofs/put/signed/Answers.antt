use Rattle.std.proofs.Common.{FitsSigned, w64, ap, ◌∙◌}
use Rattle.std.specs.Fmt.{signed_decimal}
use Rattle.std.proofs.lemmas.Int.{to_z-of_z}
use Rattle.sq_back.proofs.put.signed.Goals as goal

pub returns : goal.returns
returns c =
    let fits : FitsSigned w64 c.args.n = c.ranges.n in
    c.as_bytes.ensures.value ∙ (c.format.ensures.text ∙ ap signed_decimal (to_z-of_z w64 c.args.n fits))
