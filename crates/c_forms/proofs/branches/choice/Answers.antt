use Rattle.std.proofs.Common.{◌≡◌, ap, sym, refl, ◌∙◌}
use Rattle.std.specs.Prelude.{is_some}
use Rattle.std.specs.Option.{option_map_or}
use Rattle.c_types.specs.declared.fault.TypeFault.TheVariants as fault
use Rattle.c_types.specs.Types as types
use Rattle.c_types.specs.Constants as constants
use Rattle.c_types.specs.Operands as plain
use Rattle.c_types.specs.Known.{OneType, of_type}
use Rattle.c_types.specs.Table.{known}
use Rattle.c_types.specs.Seen.{constant_of}
use Rattle.c_operands.proofs.OperandLemmas.{two_as, grows_then}
use Rattle.c_forms.proofs.GivenLemmas.{seen, is_seen}
use Rattle.c_forms.proofs.BranchLemmas.{some_given, choice_as, three}
use Rattle.c_forms.proofs.branches.choice.Goals as goal

pub type_number-requires : goal.type_number-requires
type_number-requires c =
    let t0 = c.args.types.now in
    let t1 = c.number.new.self in
    let t2 = c.number-2.new.self in
    let t3 = c.value_of.new.types in
    let t4 = c.value_of-2.new.types in
    let t5 = c.value_of-3.new.types in
    let e = c.requires.test in
    let f = c.requires.first in
    let g = c.requires.second in
    let y = seen c.args.b f.0 in
    let z = seen c.args.c g.0 in
    let values = three t0 t2 t3 t4 t5 c.args.a c.args.b c.args.c c.in_ok-test.test c.in_ok-first.first c.in_ok-second.second (seen c.args.a e.0) y z
    (grows_then (known t0) (known t1) (known t2) c.in_ok-void.ensures.grows c.in_ok-to_void.ensures.grows)
    c.in_ok-test.ensures.value c.in_ok-test.ensures.grows c.in_ok-first.ensures.value c.in_ok-first.ensures.grows c.in_ok-second.ensures.value c.in_ok-second.ensures.grows
    (is_seen t0 c.args.a e.0 e.1) (is_seen t0 c.args.b f.0 f.1) (is_seen t0 c.args.c g.0 g.1) in
    let pointer = c.in_ok-to_void.ensures.number ∙ ap (λ k. of_type k (λ u. types.Pointer u)) c.in_ok-void.ensures.number in
    let n = c.in_ok-to_void.to_void in
    let k = OneType (types.Pointer types.Void) in
    let now = c.in_ok-second.ensures.grows n k (c.in_ok-first.ensures.grows n k (c.in_ok-test.ensures.grows n k pointer)) in
    let given = c.choice_type-given.ensures y z values.first values.second now in
    (option_map_or (λ t. t) (plain.choice_type y z) types.Void, c.given_or_void.ensures t5 (plain.choice_type y z) given)

pub returns-clause-judged : goal.returns-clause-judged
returns-clause-judged c = λ x y z o p q.
    let t0 = c.args.types.now in
    let t1 = c.number.new.self in
    let t2 = c.number-2.new.self in
    let t3 = c.value_of.new.types in
    let t4 = c.value_of-2.new.types in
    let t5 = c.value_of-3.new.types in
    let new = c.type_number.new.types in
    let values = three t0 t2 t3 t4 t5 c.args.a c.args.b c.args.c c.in_ok-test.test c.in_ok-first.first c.in_ok-second.second x y z
    (grows_then (known t0) (known t1) (known t2) c.in_ok-void.ensures.grows c.in_ok-to_void.ensures.grows)
    c.in_ok-test.ensures.value c.in_ok-test.ensures.grows c.in_ok-first.ensures.value c.in_ok-first.ensures.grows c.in_ok-second.ensures.value c.in_ok-second.ensures.grows o p q in
    let pointer = c.in_ok-to_void.ensures.number ∙ ap (λ k. of_type k (λ u. types.Pointer u)) c.in_ok-void.ensures.number in
    let n = c.in_ok-to_void.to_void in
    let k = OneType (types.Pointer types.Void) in
    let now = c.in_ok-second.ensures.grows n k (c.in_ok-first.ensures.grows n k (c.in_ok-test.ensures.grows n k pointer)) in
    let given = c.choice_type-given.ensures y z values.first values.second now in
    let t = option_map_or (λ t. t) (plain.choice_type y z) types.Void in
    let ty = c.in_ok-ty.ensures.number t (c.given_or_void.ensures t5 (plain.choice_type y z) given) in
    let kept = c.is_condition-kept.ensures x values.test in
    let there = c.is_some.ensures ∙ some_given t5 c.choice_type-given.result (plain.choice_type y z) given in
    let constant = choice_as (constant_of c.choice_constant-constant.result) (constant_of c.args.a.constant) (constant_of c.args.b.constant) (constant_of c.args.c.constant) x.constant y.constant z.constant
    c.choice_constant-constant.ensures o.constant p.constant q.constant in
    let result = plain.operand c.args.at t plain.Other (constants.choice_constant x.constant y.constant z.constant) in
    two_as new c.two_rules.result result c.is_condition-kept.result (plain.is_condition x) c.is_some.result (is_some (plain.choice_type y z))
    (fault.Mismatch c.args.a.at) (fault.Mismatch x.pos) (fault.Mismatch c.args.at) kept there (ap fault.Mismatch o.at)
    (c.two_rules.ensures new result (record { at = refl; ty = ty; sort = refl; constant = constant }))
