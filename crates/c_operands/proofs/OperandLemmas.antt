-- Operands while the table of types grows, and rules whose tests are at hand.
use Rattle.std.proofs.Common.{◌≡◌, ℕ, ◌<◌, Bool, true, false, ◌&&◌, ◌||◌, List, [], ◌∷◌, length, Option, Some, None, refl, sym, ap, ◌∙◌, subst}
use Rattle.std.specs.Prelude.{Result, Ok, Err, not, if◌then◌else◌}
use Rattle.std.proofs.lemmas.Option.{slice_get_within}
use Rattle.c_types.specs.declared.fault.TypeFault.{TypeFault}
use Rattle.c_types.specs.declared.fault.TypeFault.TheVariants as fault
use Rattle.c_types.specs.Types.{CType, is_null, is_scalar, is_arithmetic, is_unsigned, is_struct, decayed, promoted}
use Rattle.c_types.specs.Types as types
use Rattle.c_types.specs.declared.shape.Shape.TheVariants as shape
use Rattle.c_types.specs.Operands as plain
use Rattle.c_types.specs.Operands.{is_place, is_zero, is_array, is_designator, is_word_place, is_null_constant, value_type, address_operand}
use Rattle.c_types.specs.Constants as constants
use Rattle.c_types.specs.Refusals.{keeping}
use Rattle.c_types.specs.Known.{OneType, Grows, Known, says}
use Rattle.c_types.specs.Table.{Table, known, HasType}
use Rattle.c_types.specs.Seen.{constant_of}
use Rattle.c_operands.specs.declared.class.Class.{Class}
use Rattle.c_operands.specs.declared.operand.Sort.{Sort}
use Rattle.c_operands.specs.declared.operand.Operand.{Operand}
use Rattle.c_operands.specs.Classes.{class_of, number, scalar, null_type, unsigned, structure, array, promoted_shape}
use Rattle.c_operands.specs.Seen.{IsOperand, IsJudged, sort_of}
use Rattle.c_operands.proofs.ClassLemmas.{class_says}
use Rattle.c_operands.proofs.ConversionLemmas.{null_decayed}

pub type_within : (table : Table) (n : ℕ) (t : CType) → HasType table n t → n < length (known table)
type_within table n t h = slice_get_within (known table) n (OneType t) h

pub operand_kept : (old new : Table) (x : Operand) (a : plain.Operand) → Grows (known old) (known new) → IsOperand old x a → IsOperand new x a
operand_kept old new x a grows o = record { at = o.at; ty = grows x.ty (OneType a.ty) o.ty; sort = o.sort; constant = o.constant }

pub grows_then : (a b c : List Known) → Grows a b → Grows b c → Grows a c
grows_then a b c f g = λ n k h. g n k (f n k h)

-- a rule's test and refusal may be written as they are equal
pub one_as : (table : Table) (r : Result Operand TypeFault) (x : plain.Operand) (b c : Bool) (d e : TypeFault) → b ≡ c → d ≡ e → IsJudged (IsOperand table) r (keeping ((b, d) ∷ []) x) → IsJudged (IsOperand table) r (keeping ((c, e) ∷ []) x)
one_as table r x b c d e f g h = subst (λ k. IsJudged (IsOperand table) r (keeping ((c, k) ∷ []) x)) g (subst (λ k. IsJudged (IsOperand table) r (keeping ((k, d) ∷ []) x)) f h)

pub two_as : (table : Table) (r : Result Operand TypeFault) (x : plain.Operand) (a b c d : Bool) (k l m : TypeFault) → a ≡ b → c ≡ d → k ≡ l → IsJudged (IsOperand table) r (keeping ((a, k) ∷ (c, m) ∷ []) x) → IsJudged (IsOperand table) r (keeping ((b, l) ∷ (d, m) ∷ []) x)
two_as table r x a b c d k l m e f g h =
    subst (λ n. IsJudged (IsOperand table) r (keeping ((b, n) ∷ (d, m) ∷ []) x)) g
    (subst (λ n. IsJudged (IsOperand table) r (keeping ((b, k) ∷ (n, m) ∷ []) x)) f
    (subst (λ n. IsJudged (IsOperand table) r (keeping ((n, k) ∷ (c, m) ∷ []) x)) e h))

pub null_as : (n : Bool) (s : Sort) (c : Class) (x : plain.Operand) → n ≡ (is_zero (sort_of s) || null_type c) → sort_of s ≡ x.sort → c ≡ class_of (decayed x.ty) → n ≡ is_null_constant x
null_as n s c x h e f =
    h ∙ (ap (λ k. is_zero k || null_type c) e ∙ (ap (λ k. is_zero x.sort || null_type k) f ∙ ap (λ b. is_zero x.sort || b) (sym (class_says (decayed x.ty)).null ∙ null_decayed x.ty)))

pub address_as : (b : Bool) (s : Sort) (c : Class) (x : plain.Operand) → b ≡ (is_place (sort_of s) || array c) → sort_of s ≡ x.sort → c ≡ class_of x.ty → b ≡ (is_place x.sort || is_array x.ty)
address_as b s c x h e f = h ∙ (ap (λ k. is_place k || array c) e ∙ ap (λ k. is_place x.sort || k) (ap array f ∙ sym (class_says x.ty).array))

pub word_as : (b : Bool) (s : Sort) (c : Class) (x : plain.Operand) → b ≡ (is_place (sort_of s) && scalar c) → sort_of s ≡ x.sort → c ≡ class_of x.ty → b ≡ is_word_place x
word_as b s c x h e f = h ∙ (ap (λ k. is_place k && scalar c) e ∙ ap (λ k. is_place x.sort && k) (ap scalar f ∙ sym (class_says x.ty).scalar))

pub address_of_place : (at : ℕ) (x : plain.Operand) → is_designator x.sort ≡ false → address_operand at x ≡ keeping ((is_place x.sort || is_array x.ty, fault.NotLvalue x.pos) ∷ []) (plain.value_at at (types.Pointer x.ty))
address_of_place at x e = ap (λ b. if b then Ok (plain.value_at at x.ty) else keeping ((is_place x.sort || is_array x.ty, fault.NotLvalue x.pos) ∷ []) (plain.value_at at (types.Pointer x.ty))) e

pub cast_as : (r : constants.Constant) (c : Class) (k l : constants.Constant) (t : CType) → r ≡ (if number c then k else constants.NotConstant) → c ≡ class_of t → k ≡ l → r ≡ (if is_arithmetic t then l else constants.NotConstant)
cast_as r c k l t h e f =
    h ∙ (ap (λ b. if b then k else constants.NotConstant) (ap number e ∙ sym (class_says t).number) ∙ ap (λ v. if is_arithmetic t then v else constants.NotConstant) f)

pub comma_as : (r a b k l : constants.Constant) → r ≡ constants.on_two a b (λ x y. constants.Value y) → a ≡ k → b ≡ l → r ≡ constants.on_two k l (λ x y. constants.Value y)
comma_as r a b k l h e f = h ∙ (ap (λ v. constants.on_two v b (λ x y. constants.Value y)) e ∙ ap (λ v. constants.on_two k v (λ x y. constants.Value y)) f)

pub struct_as : (b : Bool) (c : Class) (t : CType) → b ≡ structure c → c ≡ class_of t → not b ≡ not (is_struct t)
struct_as b c t h e = ap not (h ∙ (ap structure e ∙ sym (class_says t).structure))
