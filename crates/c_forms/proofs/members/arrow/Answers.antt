use Rattle.c_types.specs.Operands.{value_type}
use Rattle.c_operands.proofs.OperandLemmas.{type_within}
use Rattle.c_forms.proofs.GivenLemmas.{seen, is_seen}
use Rattle.c_layouts.proofs.KeptLemmas.{layouts_kept}
use Rattle.c_forms.proofs.members.arrow.Goals as goal

pub member_behind-requires : goal.member_behind-requires
member_behind-requires c =
    let x = seen c.args.a c.requires.0 in
    let v = c.in_ok-value.ensures.value x (is_seen c.args.types.now c.args.a c.requires.0 c.requires.1) in
    type_within c.value_of.new.types c.in_ok-value.value.ty (value_type x) v.ty

pub returns-clause-judged : goal.returns-clause-judged
returns-clause-judged c = λ x tags o all.
    let v = c.in_ok-value.ensures.value x o in
    c.member_behind.ensures (value_type x) tags v.ty
    (layouts_kept c.args.types.now c.value_of.new.types c.args.layouts.now tags c.in_ok-value.ensures.grows c.in_ok-value.ensures.tags all)
