use Rattle.std.proofs.Common.{◌∙◌}
use Rattle.c_types.specs.Types.{is_arithmetic}
use Rattle.c_types.specs.Operands.{value_type, is_element_pointer}
use Rattle.c_forms.proofs.GivenLemmas.{number_as, or_as}
use Rattle.c_forms.proofs.StepLemmas.{has_sum}
use Rattle.c_forms.proofs.steps.can_step.Goals as goal

pub returns : goal.returns
returns c = λ x tags v have.
    let t = value_type x in
    or_as c.either.result c.is_number-number.result c.is_element_pointer-pointer.result (is_arithmetic t) (is_element_pointer tags t) c.either.ensures
    (number_as c.is_number-number.result c.args.a.class t c.is_number-number.ensures v.class)
    (c.is_element_pointer-pointer.ensures t tags v.ty have)
    ∙ has_sum tags t
