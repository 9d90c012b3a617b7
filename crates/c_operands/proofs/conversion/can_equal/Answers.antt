use Rattle.std.proofs.Common.{◌∙◌}
use Rattle.c_types.specs.Operands.{value_type}
use Rattle.c_operands.proofs.ConversionLemmas.{equal_by}
use Rattle.c_operands.proofs.conversion.can_equal.Goals as goal

pub returns : goal.returns
returns c = λ x y v w.
    c.classes_equal.ensures
    ∙ equal_by c.equal_types_are_one.ensures c.args.a.class c.args.b.class c.args.a.null c.args.b.null c.is_same.result x y v.class v.null w.class w.null
    (c.is_same.ensures (value_type x) (value_type y) v.ty w.ty)
