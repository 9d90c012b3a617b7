-- What classes decide is what types decide.
use Rattle.std.proofs.Common.{◌≡◌, ℕ, List, refl, sym, ap, subst, ◌∙◌}
use Rattle.std.specs.Prelude.{Option, Some, None, Result, Ok, Err, slice_get}
use Rattle.c_types.specs.Types as types
use Rattle.c_types.specs.Types.{CType}
use Rattle.c_lowered.specs.Locations.{Location, held}
use Rattle.c_types.specs.Types.{Tags, decayed}
use Rattle.c_types.specs.declared.fault.TypeFault.{TypeFault}
use Rattle.c_types.specs.Refusals.{Judged}
use Rattle.c_types.specs.Operands as plain
use Rattle.c_types.specs.Scope.{Scope}
use Rattle.c_eval.specs.Environment.{operand_type, word_in, constant_word, member_offset, pointee}
use Rattle.c_types.specs.declared.shape.Shape.{Shape}
use Rattle.c_types.specs.declared.shape.Shape.TheVariants as shape
use Rattle.c_types.specs.Known.{Known, OneType, TypeList, of_tag, of_type, of_both, says}
use Rattle.c_types.specs.Table.{Table, known, HasType}
use Rattle.c_layouts.specs.declared.layout.Layout.{Layout}
use Rattle.c_layouts.specs.Layouts.{AreLayouts}
use Rattle.c_types.specs.Seen.{constant_of, Counts}
use Rattle.c_types.specs.declared.words.Words.{Words}
use Rattle.c_operands.specs.declared.class.Class.{Class}
use Rattle.c_operands.specs.declared.operand.Operand.{Operand}
use Rattle.c_operands.specs.Classes.{class_of}
use Rattle.c_operands.specs.Seen.{IsOperand, IsJudged}
use Rattle.c_operands.proofs.ClassLemmas.{points_to, elements_of}
use Rattle.c_operands.specs.declared.declarations.Declarations.{Declarations}
use Rattle.c_declared.specs.Held.{Holds}
use Rattle.c_declared.specs.Slots.{AreOrdered}
use Rattle.c_offsets.specs.Offsets.{IsTypeAmong}
use Rattle.c_addressing.specs.Classes.{held_by, target_of, aim, AimsAt}

pub held_is : (t : CType) (l : Location) → held_by (class_of t) l ≡ held t l
held_is types.Void l = refl
held_is types.Int l = refl
held_is types.Unsigned l = refl
held_is types.Char l = refl
held_is types.UChar l = refl
held_is types.Null l = refl
held_is (types.Struct tag) l = refl
held_is (types.Array t n) l = refl
held_is (types.Function t ts) l = refl
held_is (types.Pointer types.Void) l = refl
held_is (types.Pointer types.Int) l = refl
held_is (types.Pointer types.Unsigned) l = refl
held_is (types.Pointer types.Char) l = refl
held_is (types.Pointer types.UChar) l = refl
held_is (types.Pointer types.Null) l = refl
held_is (types.Pointer (types.Struct tag)) l = refl
held_is (types.Pointer (types.Array t n)) l = refl
held_is (types.Pointer (types.Function t ts)) l = refl
held_is (types.Pointer (types.Pointer t)) l = refl

-- ---- what was judged

pub judged_type : (table : Table) (x : Operand) (p : Judged plain.Operand) → IsJudged (IsOperand table) (Ok x) p → HasType table x.ty (operand_type p)
judged_type table x (Ok a) h = h.ty
judged_type table x (Err e) h = absurd h

pub judged_void : (table : Table) (d : TypeFault) (p : Judged plain.Operand) → IsJudged (IsOperand table) (Err d) p → operand_type p ≡ types.Void
judged_void table d (Err e) h = refl
judged_void table d (Ok a) h = absurd h

pub judged_word : (table : Table) (x : Operand) (p : Judged plain.Operand) → IsJudged (IsOperand table) (Ok x) p → constant_word (constant_of x.constant) ≡ word_in p
judged_word table x (Ok a) h = ap constant_word h.constant
judged_word table x (Err e) h = absurd h

pub refused_word : (table : Table) (d : TypeFault) (p : Judged plain.Operand) → IsJudged (IsOperand table) (Err d) p → word_in p ≡ 0
refused_word table d (Err e) h = refl
refused_word table d (Ok a) h = absurd h

pub among : (table : Table) (d : Declarations) (s : Scope) (layouts : List Layout) (ty : ℕ) (t : CType) → layouts ≡ d.layouts.items → HasType table ty t → Holds table d s → IsTypeAmong table layouts ty t s.tags
among table d s layouts ty t e is h = record {
  is = is;
  members = subst (λ (ls : List Layout). AreLayouts table ls s.tags) (sym e) h.fits.layouts;
  ordered = subst (λ (ls : List Layout). AreOrdered table ls s.tags) (sym e) h.ordered;
}

-- ---- pointers

aims_pointer : (table : Table) (n : ℕ) (t u : CType) → t ≡ types.Pointer u → slice_get (known table) n ≡ Some (OneType u) → AimsAt table (Some n) (decayed t)
aims_pointer table n t u e h = subst (λ (x : CType). AimsAt table (Some n) (decayed x)) (sym e) h

aims_array : (table : Table) (n : ℕ) (t u : CType) → decayed t ≡ types.Pointer u → slice_get (known table) n ≡ Some (OneType u) → AimsAt table (Some n) (decayed t)
aims_array table n t u e h = subst (λ (x : CType). AimsAt table (Some n) x) (sym e) h

one_type : (t u : CType) → Some (OneType t) ≡ Some (OneType u) → t ≡ u
one_type t u e = cc

struct_aims : (table : Table) (o : Option (List ℕ)) (t : CType) → of_tag o ≡ Some (OneType t) → AimsAt table None (decayed t)
struct_aims table (Some tag) t h = subst (λ (x : CType). AimsAt table None (decayed x)) (one_type (types.Struct tag) t h) tt
struct_aims table None t h = absurd cc

function_aims : (table : Table) (o p : Option Known) (t : CType) → of_both o p (λ u us. OneType (types.Function u us)) ≡ Some (OneType t) → AimsAt table None (decayed t)
function_aims table (Some (OneType u)) (Some (TypeList us)) t h = subst (λ (x : CType). AimsAt table None (decayed x)) (one_type (types.Function u us) t h) tt
function_aims table (Some (OneType u)) (Some (OneType v)) t h = absurd cc
function_aims table (Some (OneType u)) None t h = absurd cc
function_aims table (Some (TypeList us)) p t h = absurd cc
function_aims table None p t h = absurd cc

list_aims : (table : Table) (o p : Option Known) (t : CType) → of_both o p (λ u us. TypeList (types.MoreType u us)) ≡ Some (OneType t) → AimsAt table None (decayed t)
list_aims table (Some (OneType u)) (Some (TypeList us)) t h = absurd cc
list_aims table (Some (OneType u)) (Some (OneType v)) t h = absurd cc
list_aims table (Some (OneType u)) None t h = absurd cc
list_aims table (Some (TypeList us)) p t h = absurd cc
list_aims table None p t h = absurd cc

pub aim_is : (table : Table) (s : Shape) (t : CType) → says table.tags (known table) s ≡ Some (OneType t) → AimsAt table (aim s) (decayed t)
aim_is table (shape.Pointer n) t h = let p = points_to table.tags (known table) (shape.Pointer n) n t refl h in aims_pointer table n t p.0 p.1 p.2
aim_is table (shape.Array n k) t h = let p = elements_of table.tags (known table) (shape.Array n k) n t refl h in aims_array table n t p.0 p.1 p.2
aim_is table shape.Void t h = subst (λ (x : CType). AimsAt table None (decayed x)) (one_type types.Void t h) tt
aim_is table shape.Int t h = subst (λ (x : CType). AimsAt table None (decayed x)) (one_type types.Int t h) tt
aim_is table shape.Unsigned t h = subst (λ (x : CType). AimsAt table None (decayed x)) (one_type types.Unsigned t h) tt
aim_is table shape.Char t h = subst (λ (x : CType). AimsAt table None (decayed x)) (one_type types.Char t h) tt
aim_is table shape.UChar t h = subst (λ (x : CType). AimsAt table None (decayed x)) (one_type types.UChar t h) tt
aim_is table shape.Null t h = subst (λ (x : CType). AimsAt table None (decayed x)) (one_type types.Null t h) tt
aim_is table (shape.Struct n) t h = struct_aims table (slice_get table.tags n) t h
aim_is table (shape.Function a b) t h = function_aims table (slice_get (known table) a) (slice_get (known table) b) t h
aim_is table shape.NoType t h = absurd cc
aim_is table (shape.MoreType a b) t h = list_aims table (slice_get (known table) a) (slice_get (known table) b) t h

-- the class of what is pointed to
pub target_found : (table : Table) (n : ℕ) (p : CType) (c : Class) → AimsAt table (Some n) p → ((t : CType) → HasType table n t → c ≡ class_of t) → Some c ≡ target_of p
target_found table n (types.Pointer t) c h f = ap Some (f t h)
target_found table n types.Void c h f = absurd h
target_found table n types.Int c h f = absurd h
target_found table n types.Unsigned c h f = absurd h
target_found table n types.Char c h f = absurd h
target_found table n types.UChar c h f = absurd h
target_found table n types.Null c h f = absurd h
target_found table n (types.Struct tag) c h f = absurd h
target_found table n (types.Array t k) c h f = absurd h
target_found table n (types.Function t ts) c h f = absurd h

-- what is aimed at has a type
pub target_type : (table : Table) (n : ℕ) (p : CType) → AimsAt table (Some n) p → HasType table n (pointee p)
target_type table n (types.Pointer t) h = h
target_type table n types.Void h = absurd h
target_type table n types.Int h = absurd h
target_type table n types.Unsigned h = absurd h
target_type table n types.Char h = absurd h
target_type table n types.UChar h = absurd h
target_type table n types.Null h = absurd h
target_type table n (types.Struct tag) h = absurd h
target_type table n (types.Array t k) h = absurd h
target_type table n (types.Function t ts) h = absurd h

-- nothing is
pub no_target : (table : Table) (p : CType) → AimsAt table None p → (None ≡ target_of p) × (pointee p ≡ types.Void)
no_target table (types.Pointer t) h = absurd h
no_target table types.Void h = (refl, refl)
no_target table types.Int h = (refl, refl)
no_target table types.Unsigned h = (refl, refl)
no_target table types.Char h = (refl, refl)
no_target table types.UChar h = (refl, refl)
no_target table types.Null h = (refl, refl)
no_target table (types.Struct tag) h = (refl, refl)
no_target table (types.Array t k) h = (refl, refl)
no_target table (types.Function t ts) h = (refl, refl)
