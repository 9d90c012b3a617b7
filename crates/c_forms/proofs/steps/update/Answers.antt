use Rattle.std.proofs.Common.{ap}
use Rattle.c_types.specs.declared.fault.TypeFault.TheVariants as fault
use Rattle.c_types.specs.Operands as plain
use Rattle.c_types.specs.Operands.{value_type}
use Rattle.c_types.specs.Known.{OneType}
use Rattle.c_operands.proofs.OperandLemmas.{type_within, two_as, word_as}
use Rattle.c_forms.proofs.GivenLemmas.{value_kept, seen, is_seen, ready}
use Rattle.c_forms.proofs.steps.update.Goals as goal

pub binary_type-given-requires-clause-left : goal.binary_type-given-requires-clause-left
binary_type-given-requires-clause-left c =
    let l = c.requires.left in
    let x = seen c.args.a l.0 in
    let v = c.in_ok-left.ensures.value x (is_seen c.args.types.now c.args.a l.0 l.1) in
    let w = value_kept c.value_of.new.types c.value_of-2.new.types c.in_ok-left.left x c.in_ok-right.ensures.grows v in
    type_within c.value_of-2.new.types c.in_ok-left.left.ty (value_type x) w.ty

pub binary_type-given-requires-clause-right : goal.binary_type-given-requires-clause-right
binary_type-given-requires-clause-right c =
    let r = c.requires.right in
    let t = c.in_ok-left.ensures.grows c.args.b.ty (OneType r.0) r.1 in
    let y = seen c.args.b r.0 in
    let w = c.in_ok-right.ensures.value y (is_seen c.value_of.new.types c.args.b r.0 t) in
    type_within c.value_of-2.new.types c.in_ok-right.right.ty (value_type y) w.ty

pub result_converts-requires-clause-given : goal.result_converts-requires-clause-given
result_converts-requires-clause-given c =
    let old = c.args.types.now in
    let l = c.requires.left in
    let k = c.requires.right in
    let all = c.requires.layouts in
    let x = seen c.args.a l.0 in
    let y = seen c.args.b k.0 in
    let r = ready old c.value_of.new.types c.value_of-2.new.types c.args.layouts.now all.0 c.args.a c.args.b c.in_ok-left.left c.in_ok-right.right x y
    c.in_ok-left.ensures.value c.in_ok-left.ensures.grows c.in_ok-left.ensures.tags c.in_ok-right.ensures.value c.in_ok-right.ensures.grows c.in_ok-right.ensures.tags
    (is_seen old c.args.a l.0 l.1) (is_seen old c.args.b k.0 k.1) all.1 in
    (plain.binary_type all.0 c.args.op x y, c.binary_type-given.ensures x y all.0 r.left r.right r.have)

pub result_converts-requires-clause-ty : goal.result_converts-requires-clause-ty
result_converts-requires-clause-ty c =
    let l = c.requires.left in
    (l.0, c.in_ok-right.ensures.grows c.args.a.ty (OneType l.0) (c.in_ok-left.ensures.grows c.args.a.ty (OneType l.0) l.1))

pub class_of-class-requires : goal.class_of-class-requires
class_of-class-requires c =
    let l = c.requires.left in
    let t = c.in_ok-right.ensures.grows c.args.a.ty (OneType l.0) (c.in_ok-left.ensures.grows c.args.a.ty (OneType l.0) l.1) in
    type_within c.result_converts.new.types c.args.a.ty l.0 (c.in_ok-kept.ensures.grows c.args.a.ty (OneType l.0) t)

pub returns-clause-judged : goal.returns-clause-judged
returns-clause-judged c = λ x y tags o p all.
    let mid = c.value_of-2.new.types in
    let new = c.result_converts.new.types in
    let r = ready c.args.types.now c.value_of.new.types mid c.args.layouts.now tags c.args.a c.args.b c.in_ok-left.left c.in_ok-right.right x y
    c.in_ok-left.ensures.value c.in_ok-left.ensures.grows c.in_ok-left.ensures.tags c.in_ok-right.ensures.value c.in_ok-right.ensures.grows c.in_ok-right.ensures.tags o p all in
    let at_mid = c.in_ok-right.ensures.grows c.args.a.ty (OneType x.ty) (c.in_ok-left.ensures.grows c.args.a.ty (OneType x.ty) o.ty) in
    let ty = c.in_ok-kept.ensures.grows c.args.a.ty (OneType x.ty) at_mid in
    let given = plain.binary_type tags c.args.op x y in
    let kept = c.in_ok-kept.ensures.converts given x.ty (c.binary_type-given.ensures x y tags r.left r.right r.have) at_mid in
    let class = c.class_of-class.ensures x.ty ty in
    let word = word_as c.is_word_place.result c.args.a.sort c.class_of-class.result x c.is_word_place.ensures o.sort class in
    two_as new c.two_rules.result (plain.value_at c.args.at x.ty) c.is_word_place.result (plain.is_word_place x) c.in_ok-kept.kept (plain.result_converts c.args.at given x.ty)
    (fault.NotLvalue c.args.a.at) (fault.NotLvalue x.pos) (fault.Mismatch c.args.at) word kept (ap fault.NotLvalue o.at)
    (c.two_rules.ensures new (plain.value_at c.args.at x.ty) (c.value_at.ensures new x.ty ty))
