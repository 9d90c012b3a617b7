-- What has a sum with a number, and sizes.
use Rattle.std.proofs.Common.{◌≡◌, ℕ, Bool, true, false, ◌&&◌, ◌||◌, Option, Some, None, refl, sym, ap, ◌∙◌}
use Rattle.std.specs.Prelude.{is_some}
use Rattle.c_types.specs.Types as types
use Rattle.c_types.specs.Types.{CType, Tags, is_arithmetic, is_null}
use Rattle.c_types.specs.Operands as plain
use Rattle.c_types.specs.Operands.{is_element_pointer}
use Rattle.c_operands.specs.declared.class.Class.{Class}
use Rattle.c_operands.specs.Classes.{class_of, null_type}
use Rattle.c_operands.proofs.ClassLemmas.{class_says}

by_tests : (a e : Bool) (x y z : CType) → (a || e) ≡ is_some (plain.or_else (plain.when (a && true) x) (plain.or_else (plain.when (e && true) y) (plain.when (a && false) z)))
by_tests true e x y z = refl
by_tests false true x y z = refl
by_tests false false x y z = refl

pub has_sum : (all : Tags) (t : CType) → (is_arithmetic t || is_element_pointer all t) ≡ is_some (plain.sum_type all t types.Int)
has_sum all t = by_tests (is_arithmetic t) (is_element_pointer all t) (types.common_type t types.Int) t types.Int

pub null_class : (b : Bool) (c : Class) (t : CType) → b ≡ null_type c → c ≡ class_of t → b ≡ is_null t
null_class b c t h e = h ∙ (ap null_type e ∙ sym (class_says t).null)
