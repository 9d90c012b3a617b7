use Rattle.std.proofs.Common.{◌∙◌}
use Rattle.c_types.specs.Operands.{value_type}
use Rattle.c_operands.proofs.ConversionLemmas.{converts_by}
use Rattle.c_operands.proofs.conversion.converts.Goals as goal

pub returns : goal.returns
returns c = λ x t v h e.
    c.classes_convert.ensures
    ∙ converts_by c.args.a.class c.args.class c.args.a.null c.is_same.result x t v.class v.null e (c.is_same.ensures (value_type x) t v.ty h)
