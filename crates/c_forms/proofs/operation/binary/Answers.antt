use Rattle.std.proofs.Common.{◌≡◌, Some, refl, sym, ◌∙◌, subst}
use Rattle.std.specs.Prelude.{Ok, Err}
use Rattle.c_types.specs.declared.fault.TypeFault.TheVariants as fault
use Rattle.c_types.specs.Types.{is_unsigned}
use Rattle.c_types.specs.Constants as constants
use Rattle.c_types.specs.Operands as plain
use Rattle.c_types.specs.Known.{OneType}
use Rattle.c_types.specs.Operands.{value_type, either_unsigned}
use Rattle.c_types.specs.Seen.{constant_of}
use Rattle.c_operands.specs.Seen.{IsOperand, IsJudged}
use Rattle.c_operands.proofs.OperandLemmas.{type_within}
use Rattle.c_forms.proofs.GivenLemmas.{unsigned_as, or_as, value_kept, seen, is_seen, given_some, given_none, constant_as, ready, kept_binary, broken_binary}
use Rattle.c_forms.proofs.operation.binary.Goals as goal

pub binary_type-requires-clause-left : goal.binary_type-requires-clause-left
binary_type-requires-clause-left c =
    let l = c.requires.left in
    let x = seen c.args.a l.0 in
    let v = c.in_ok-left.ensures.value x (is_seen c.args.types.now c.args.a l.0 l.1) in
    let w = value_kept c.value_of.new.types c.value_of-2.new.types c.in_ok-left.left x c.in_ok-right.ensures.grows v in
    type_within c.value_of-2.new.types c.in_ok-left.left.ty (value_type x) w.ty

pub binary_type-requires-clause-right : goal.binary_type-requires-clause-right
binary_type-requires-clause-right c =
    let r = c.requires.right in
    let t = c.in_ok-left.ensures.grows c.args.b.ty (OneType r.0) r.1 in
    let y = seen c.args.b r.0 in
    let w = c.in_ok-right.ensures.value y (is_seen c.value_of.new.types c.args.b r.0 t) in
    type_within c.value_of-2.new.types c.in_ok-right.right.ty (value_type y) w.ty

pub returns-in-None-clause-judged : goal.returns-in-None-clause-judged
returns-in-None-clause-judged c = λ x y tags o p all.
    let r = ready c.args.types.now c.value_of.new.types c.value_of-2.new.types c.args.layouts.now tags c.args.a c.args.b c.in_ok-left.left c.in_ok-right.right x y
    c.in_ok-left.ensures.value c.in_ok-left.ensures.grows c.in_ok-left.ensures.tags c.in_ok-right.ensures.value c.in_ok-right.ensures.grows c.in_ok-right.ensures.tags o p all in
    let none = given_none c.value_of-2.new.types (plain.binary_type tags c.args.op x y) (c.in-None.ensures x y tags r.left r.right r.have) in
    subst (IsJudged (IsOperand c.value_of-2.new.types) (Err (fault.Mismatch c.args.at))) (sym (broken_binary tags c.args.at c.args.op x y none)) refl

pub type_number-requires : goal.type_number-requires
type_number-requires c =
    let old = c.args.types.now in
    let l = c.requires.left in
    let k = c.requires.right in
    let all = c.requires.layouts in
    let x = seen c.args.a l.0 in
    let y = seen c.args.b k.0 in
    let r = ready old c.value_of.new.types c.value_of-2.new.types c.args.layouts.now all.0 c.args.a c.args.b c.in_ok-left.left c.in_ok-right.right x y
    c.in_ok-left.ensures.value c.in_ok-left.ensures.grows c.in_ok-left.ensures.tags c.in_ok-right.ensures.value c.in_ok-right.ensures.grows c.in_ok-right.ensures.tags
    (is_seen old c.args.a l.0 l.1) (is_seen old c.args.b k.0 k.1) all.1 in
    let g = given_some c.value_of-2.new.types c.in-Some.given (plain.binary_type all.0 c.args.op x y) (c.in-Some.ensures x y all.0 r.left r.right r.have) in
    (g.0, g.2)

pub returns-in_ok-ty-in-Some-clause-judged : goal.returns-in_ok-ty-in-Some-clause-judged
returns-in_ok-ty-in-Some-clause-judged c = λ x y tags o p all.
    let r = ready c.args.types.now c.value_of.new.types c.value_of-2.new.types c.args.layouts.now tags c.args.a c.args.b c.in_ok-left.left c.in_ok-right.right x y
    c.in_ok-left.ensures.value c.in_ok-left.ensures.grows c.in_ok-left.ensures.tags c.in_ok-right.ensures.value c.in_ok-right.ensures.grows c.in_ok-right.ensures.tags o p all in
    let g = given_some c.value_of-2.new.types c.in-Some.given (plain.binary_type tags c.args.op x y) (c.in-Some.ensures x y tags r.left r.right r.have) in
    let u = unsigned_as c.is_unsigned-unsigned.result c.in_ok-left.left.class (value_type x) c.is_unsigned-unsigned.ensures r.left.class in
    let w = unsigned_as c.is_unsigned.result c.in_ok-right.right.class (value_type y) c.is_unsigned.ensures r.right.class in
    let e = or_as c.either-either.result c.is_unsigned-unsigned.result c.is_unsigned.result (is_unsigned (value_type x)) (is_unsigned (value_type y)) c.either-either.ensures u w in
    let constant = constant_as c.args.at c.args.op (constant_of c.binary_constant-constant.result) (constant_of c.args.a.constant) (constant_of c.args.b.constant) x.constant y.constant
    c.is_unsigned-unsigned.result c.either-either.result (is_unsigned (value_type x)) (either_unsigned x y) c.binary_constant-constant.ensures u e o.constant p.constant in
    subst (IsJudged (IsOperand c.type_number.new.types) (Ok _)) (sym (kept_binary tags c.args.at c.args.op x y g.0 g.1))
    (record { at = refl; ty = c.in_ok-ty-in-Some.ensures.number g.0 g.2; sort = refl; constant = constant })
