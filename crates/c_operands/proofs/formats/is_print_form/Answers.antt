use Rattle.std.proofs.Common.{Option, Bool, ◌&&◌, not, length, sym, ap, ◌∙◌}
use Rattle.std.specs.Prelude.{option_map}
use Rattle.c_types.specs.Operands.{is_print_form}
use Rattle.c_operands.proofs.ArgumentLemmas.{as_many}
use Rattle.c_operands.proofs.FormatLemmas.{form_as}
use Rattle.c_operands.proofs.formats.is_print_form.Goals as goal

pub returns-in-Some : goal.returns-in-Some
returns-in-Some c = λ xs h a.
    form_as c.both.result c.agree-fits.result (length c.args.arguments.now) c.in-Some.format.now xs (c.both.ensures ∙ ap (λ (b : Bool). not b && c.agree-fits.result) c.is_empty.ensures) (as_many c.args.types.now c.args.arguments.now xs a) (c.agree-fits.ensures xs h a)
    ∙ ap (λ (o : Option _). is_print_form (option_map (λ f. f.now) o) xs) (sym c.in-Some.is)
