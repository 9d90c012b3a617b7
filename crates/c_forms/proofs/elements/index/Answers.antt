use Rattle.std.proofs.Common.{sym, subst, refl}
use Rattle.std.specs.Prelude.{Err}
use Rattle.c_types.specs.declared.fault.TypeFault.TheVariants as fault
use Rattle.c_types.specs.Operands as plain
use Rattle.c_types.specs.Operands.{value_type}
use Rattle.c_types.specs.Known.{OneType}
use Rattle.c_operands.specs.Seen.{IsOperand, IsJudged}
use Rattle.c_operands.proofs.OperandLemmas.{type_within}
use Rattle.c_forms.proofs.GivenLemmas.{value_kept, seen, is_seen, given_some, given_none, ready}
use Rattle.c_layouts.proofs.KeptLemmas.{layouts_kept}
use Rattle.c_forms.proofs.ElementLemmas.{element_of, no_element}
use Rattle.c_forms.proofs.elements.index.Goals as goal

pub sum_type-requires-clause-left : goal.sum_type-requires-clause-left
sum_type-requires-clause-left c =
    let l = c.requires.left in
    let x = seen c.args.a l.0 in
    let v = c.in_ok-left.ensures.value x (is_seen c.args.types.now c.args.a l.0 l.1) in
    let w = value_kept c.value_of.new.types c.value_of-2.new.types c.in_ok-left.left x c.in_ok-right.ensures.grows v in
    type_within c.value_of-2.new.types c.in_ok-left.left.ty (value_type x) w.ty

pub sum_type-requires-clause-right : goal.sum_type-requires-clause-right
sum_type-requires-clause-right c =
    let r = c.requires.right in
    let t = c.in_ok-left.ensures.grows c.args.b.ty (OneType r.0) r.1 in
    let y = seen c.args.b r.0 in
    let w = c.in_ok-right.ensures.value y (is_seen c.value_of.new.types c.args.b r.0 t) in
    type_within c.value_of-2.new.types c.in_ok-right.right.ty (value_type y) w.ty

pub returns-in-None-clause-judged : goal.returns-in-None-clause-judged
returns-in-None-clause-judged c = λ x y tags o p all.
    let r = ready c.args.types.now c.value_of.new.types c.value_of-2.new.types c.args.layouts.now tags c.args.a c.args.b c.in_ok-left.left c.in_ok-right.right x y
    c.in_ok-left.ensures.value c.in_ok-left.ensures.grows c.in_ok-left.ensures.tags c.in_ok-right.ensures.value c.in_ok-right.ensures.grows c.in_ok-right.ensures.tags o p all in
    let none = given_none c.value_of-2.new.types (plain.sum_type tags (value_type x) (value_type y)) (c.in-None.ensures x y tags r.left r.right r.have) in
    subst (IsJudged (IsOperand c.value_of-2.new.types) (Err (fault.Mismatch c.args.at))) (sym (no_element tags c.args.at x y none)) refl

pub type_number-requires : goal.type_number-requires
type_number-requires c =
    let old = c.args.types.now in
    let l = c.requires.left in
    let k = c.requires.right in
    let all = c.requires.layouts in
    let x = seen c.args.a l.0 in
    let y = seen c.args.b k.0 in
    let r = ready old c.value_of.new.types c.value_of-2.new.types c.args.layouts.now all.0 c.args.a c.args.b c.in_ok-left.left c.in_ok-right.right x y
    c.in_ok-left.ensures.value c.in_ok-left.ensures.grows c.in_ok-left.ensures.tags c.in_ok-right.ensures.value c.in_ok-right.ensures.grows c.in_ok-right.ensures.tags
    (is_seen old c.args.a l.0 l.1) (is_seen old c.args.b k.0 k.1) all.1 in
    let g = given_some c.value_of-2.new.types c.in-Some.given (plain.sum_type all.0 (value_type x) (value_type y)) (c.in-Some.ensures x y all.0 r.left r.right r.have) in
    (g.0, g.2)

pub pointed-requires : goal.pointed-requires
pointed-requires c =
    let old = c.args.types.now in
    let l = c.requires.left in
    let k = c.requires.right in
    let all = c.requires.layouts in
    let x = seen c.args.a l.0 in
    let y = seen c.args.b k.0 in
    let r = ready old c.value_of.new.types c.value_of-2.new.types c.args.layouts.now all.0 c.args.a c.args.b c.in_ok-left.left c.in_ok-right.right x y
    c.in_ok-left.ensures.value c.in_ok-left.ensures.grows c.in_ok-left.ensures.tags c.in_ok-right.ensures.value c.in_ok-right.ensures.grows c.in_ok-right.ensures.tags
    (is_seen old c.args.a l.0 l.1) (is_seen old c.args.b k.0 k.1) all.1 in
    let g = given_some c.value_of-2.new.types c.in-Some.given (plain.sum_type all.0 (value_type x) (value_type y)) (c.in-Some.ensures x y all.0 r.left r.right r.have) in
    type_within c.type_number.new.types c.in_ok-ty-in-Some.ty g.0 (c.in_ok-ty-in-Some.ensures.number g.0 g.2)

pub returns-in_ok-ty-in-Some-clause-judged : goal.returns-in_ok-ty-in-Some-clause-judged
returns-in_ok-ty-in-Some-clause-judged c = λ x y tags o p all.
    let mid = c.value_of-2.new.types in
    let new = c.type_number.new.types in
    let r = ready c.args.types.now c.value_of.new.types mid c.args.layouts.now tags c.args.a c.args.b c.in_ok-left.left c.in_ok-right.right x y
    c.in_ok-left.ensures.value c.in_ok-left.ensures.grows c.in_ok-left.ensures.tags c.in_ok-right.ensures.value c.in_ok-right.ensures.grows c.in_ok-right.ensures.tags o p all in
    let g = given_some mid c.in-Some.given (plain.sum_type tags (value_type x) (value_type y)) (c.in-Some.ensures x y tags r.left r.right r.have) in
    let have = layouts_kept mid new c.args.layouts.now tags c.in_ok-ty-in-Some.ensures.grows c.in_ok-ty-in-Some.ensures.tags r.have in
    subst (IsJudged (IsOperand new) c.pointed.result) (sym (element_of tags c.args.at x y g.0 g.1))
    (c.pointed.ensures g.0 tags (c.in_ok-ty-in-Some.ensures.number g.0 g.2) have)
