use Rattle.std.proofs.Common.{ap}
use Rattle.c_types.specs.declared.fault.TypeFault.TheVariants as fault
use Rattle.c_types.specs.Operands as plain
use Rattle.c_types.specs.Known.{OneType}
use Rattle.c_operands.proofs.OperandLemmas.{two_as, word_as}
use Rattle.c_operands.proofs.operators.assign.Goals as goal

pub returns-clause-judged : goal.returns-clause-judged
returns-clause-judged c = λ tags x y o p.
    let new = c.value_of.new.types in
    let v = c.in_ok-value.ensures.value y p in
    let left = c.in_ok-value.ensures.grows c.args.a.ty (OneType x.ty) o.ty in
    let class = c.class_of-class.ensures x.ty left in
    let kept = c.converts-kept.ensures y x.ty v left class in
    let word = word_as c.is_word_place.result c.args.a.sort c.class_of-class.result x c.is_word_place.ensures o.sort class in
    two_as new c.two_rules.result (plain.value_at c.args.at x.ty) c.is_word_place.result (plain.is_word_place x) c.converts-kept.result (plain.converts y x.ty)
    (fault.NotLvalue c.args.a.at) (fault.NotLvalue x.pos) (fault.Mismatch c.args.at) word kept (ap fault.NotLvalue o.at)
    (c.two_rules.ensures new (plain.value_at c.args.at x.ty) (c.value_at.ensures new x.ty left))
