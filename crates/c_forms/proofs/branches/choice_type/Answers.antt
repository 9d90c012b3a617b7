use Rattle.std.proofs.Common.{◌≡◌, ◌&&◌, ◌||◌, Bool, refl, sym, ap, ◌∙◌}
use Rattle.c_types.specs.Types as types
use Rattle.c_types.specs.Types.{same_type, common_type, is_arithmetic, is_void, is_pointer, is_void_pointer, is_object_pointer}
use Rattle.c_types.specs.Operands as plain
use Rattle.c_types.specs.Operands.{value_type, is_null_constant}
use Rattle.c_operands.specs.Classes.{number, void, pointer, void_pointer, object_pointer}
use Rattle.c_operands.proofs.ClassLemmas.{class_says}
use Rattle.c_forms.proofs.GivenLemmas.{both_as, or_as}
use Rattle.c_forms.proofs.BranchLemmas.{general_as}
use Rattle.c_forms.proofs.branches.choice_type.Goals as goal

pub returns : goal.returns
returns c = λ x y v w p.
    let table = c.args.types.now in
    let a = c.args.a.class in
    let b = c.args.b.class in
    let t = value_type x in
    let u = value_type y in
    let s = class_says t in
    let r = class_says u in
    let equal = or_as c.either-equal.result c.is_same.result c.args.b.null (same_type t u) (is_null_constant y) c.either-equal.ensures (c.is_same.ensures t u v.ty w.ty) w.null in
    let are_numbers = both_as c.are_numbers.result (number a) (number b) (is_arithmetic t) (is_arithmetic u) c.are_numbers.ensures (ap number v.class ∙ sym s.number) (ap number w.class ∙ sym r.number) in
    let are_void = both_as c.are_void.result (void a) (void b) (is_void t) (is_void u) c.are_void.ensures (ap void v.class ∙ sym s.void) (ap void w.class ∙ sym r.void) in
    let is_first = both_as c.is_kept.result (pointer a) c.either-equal.result (is_pointer t) (same_type t u || is_null_constant y) c.is_kept.ensures (ap pointer v.class ∙ sym s.pointer) equal in
    let is_second = both_as c.is_kept-2.result (pointer b) c.args.a.null (is_pointer u) (is_null_constant x) c.is_kept-2.ensures (ap pointer w.class ∙ sym r.pointer) v.null in
    let are_general = general_as c.are_general.result a b t u c.are_general.ensures v.class w.class in
    let are_null = both_as c.both.result c.args.a.null c.args.b.null (is_null_constant x) (is_null_constant y) c.both.ensures v.null w.null in
    let numbers = c.when-numbers.ensures table (is_arithmetic t && is_arithmetic u) (common_type t u) are_numbers (c.common.ensures table t u v.class w.class) in
    let nothing = c.when-nothing.ensures table (is_void t && is_void u) types.Void are_void refl in
    let first = c.when-first.ensures table (is_pointer t && (same_type t u || is_null_constant y)) t is_first v.ty in
    let second = c.when-second.ensures table (is_pointer u && is_null_constant x) u is_second w.ty in
    let general = c.when-general.ensures table ((is_void_pointer t && is_object_pointer u) || (is_object_pointer t && is_void_pointer u)) (types.Pointer types.Void) are_general p in
    let null = c.when-null.ensures table (is_null_constant x && is_null_constant y) types.Null are_null refl in
    let o_numbers = plain.when (is_arithmetic t && is_arithmetic u) (common_type t u) in
    let o_nothing = plain.when (is_void t && is_void u) types.Void in
    let o_first = plain.when (is_pointer t && (same_type t u || is_null_constant y)) t in
    let o_second = plain.when (is_pointer u && is_null_constant x) u in
    let o_general = plain.when ((is_void_pointer t && is_object_pointer u) || (is_object_pointer t && is_void_pointer u)) (types.Pointer types.Void) in
    let o_null = plain.when (is_null_constant x && is_null_constant y) types.Null in
    let o_from_general = plain.or_else o_general o_null in
    let o_from_second = plain.or_else o_second o_from_general in
    let o_from_first = plain.or_else o_first o_from_second in
    let from_general = c.or_else-from_general.ensures table o_general o_null general null in
    let from_second = c.or_else-from_second.ensures table o_second o_from_general second from_general in
    let from_first = c.or_else-from_first.ensures table o_first o_from_second first from_second in
    let from_nothing = c.or_else-from_nothing.ensures table o_nothing o_from_first nothing from_first in
    c.or_else.ensures table o_numbers (plain.or_else o_nothing o_from_first) numbers from_nothing
