use Rattle.std.proofs.Common.{◌&&◌, Bool, ap, ◌∙◌}
use Rattle.c_operands.proofs.FormatLemmas.{is_letter}
use Rattle.c_operands.proofs.formats.is_taken.Goals as goal

pub returns : goal.returns
returns c = λ x o h.
    c.both.ensures
    ∙ (ap (λ (k : Bool). k && c.is_printed-fits.result) c.is_conversion-known.ensures
    ∙ ap (λ (k : Bool). is_letter c.args.letter && k) (c.is_printed-fits.ensures x o h))
