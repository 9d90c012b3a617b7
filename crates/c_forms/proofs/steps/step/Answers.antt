use Rattle.std.proofs.Common.{ap}
use Rattle.std.specs.Prelude.{is_some}
use Rattle.c_types.specs.declared.fault.TypeFault.TheVariants as fault
use Rattle.c_types.specs.Types as types
use Rattle.c_types.specs.Operands as plain
use Rattle.c_types.specs.Operands.{value_type}
use Rattle.c_types.specs.Known.{OneType}
use Rattle.c_operands.proofs.OperandLemmas.{type_within, two_as, word_as}
use Rattle.c_forms.proofs.GivenLemmas.{seen, is_seen}
use Rattle.c_layouts.proofs.KeptLemmas.{layouts_kept}
use Rattle.c_forms.proofs.steps.step.Goals as goal

pub can_step-kept-requires : goal.can_step-kept-requires
can_step-kept-requires c =
    let x = seen c.args.a c.requires.0 in
    let v = c.in_ok-value.ensures.value x (is_seen c.args.types.now c.args.a c.requires.0 c.requires.1) in
    type_within c.value_of.new.types c.in_ok-value.value.ty (value_type x) v.ty

pub returns-clause-judged : goal.returns-clause-judged
returns-clause-judged c = λ x tags o all.
    let new = c.value_of.new.types in
    let t = value_type x in
    let v = c.in_ok-value.ensures.value x o in
    let left = c.in_ok-value.ensures.grows c.args.a.ty (OneType x.ty) o.ty in
    let class = c.class_of-class.ensures x.ty left in
    let have = layouts_kept c.args.types.now new c.args.layouts.now tags c.in_ok-value.ensures.grows c.in_ok-value.ensures.tags all in
    let kept = c.can_step-kept.ensures x tags v have in
    let word = word_as c.is_word_place.result c.args.a.sort c.class_of-class.result x c.is_word_place.ensures o.sort class in
    two_as new c.two_rules.result (plain.value_at c.args.at t) c.is_word_place.result (plain.is_word_place x) c.can_step-kept.result (is_some (plain.sum_type tags t types.Int))
    (fault.NotLvalue c.args.a.at) (fault.NotLvalue x.pos) (fault.Mismatch c.args.at) word kept (ap fault.NotLvalue o.at)
    (c.two_rules.ensures new (plain.value_at c.args.at t) (c.value_at.ensures new t v.ty))
