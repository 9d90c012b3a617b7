-- Members and pointers to structs.
use Rattle.std.proofs.Common.{◌≡◌, ℕ, List, Option, Some, None, refl, subst}
use Rattle.std.specs.Prelude.{Ok, Err, slice_get}
use Rattle.std.specs.Option.{option_map_or}
use Rattle.c_types.specs.declared.fault.TypeFault.TheVariants as fault
use Rattle.c_types.specs.Types as types
use Rattle.c_types.specs.Types.{CType, Tags}
use Rattle.c_types.specs.Refusals.{Judged}
use Rattle.c_types.specs.Operands as plain
use Rattle.c_types.specs.declared.shape.Shape.{Shape}
use Rattle.c_types.specs.declared.shape.Shape.TheVariants as shape
use Rattle.c_types.specs.Known.{Known, OneType, says}
use Rattle.c_types.specs.Table.{Table, known, HasType}
use Rattle.c_types.proofs.ByShape.{one_type, from_tag, from_type, from_both, no_type}
use Rattle.c_layouts.specs.Layouts.{IsMember, tag_of}
use Rattle.c_operands.specs.declared.operand.Operand.{Operand}
use Rattle.c_operands.specs.Classes.{pointee}
use Rattle.c_operands.specs.Seen.{IsOperand, IsJudged}

abbrev pub member_or : ℕ → Option CType → Judged plain.Operand
member_or at o = option_map_or (λ t. Ok (plain.place_at at t)) o (Err (fault.Unknown at))

pub found_is : (table : Table) (n at : ℕ) (o : Option CType) (r : Operand) → IsMember (known table) (Some n) o
    → ((t : CType) → HasType table n t → IsOperand table r (plain.place_at at t)) → IsJudged (IsOperand table) (Ok r) (member_or at o)
found_is table n at (Some t) r h f = f t h
found_is table n at None r h f = absurd h

pub missing_is : (table : Table) (at : ℕ) (o : Option CType) → IsMember (known table) None o → IsJudged (IsOperand table) (Err (fault.Unknown at)) (member_or at o)
missing_is table at None h = refl
missing_is table at (Some t) h = cc

-- only a struct has members
abbrev NoMember : Tags → ℕ → List ℕ → CType → Type 0
NoMember all at name t = plain.member_operand all at name t ≡ Err (fault.Mismatch at)

pub no_struct : (all : Tags) (at : ℕ) (name : List ℕ) (tags : List (List ℕ)) (k : List Known) (s : Shape) (t : CType) → tag_of s ≡ None → says tags k s ≡ Some (OneType t) → NoMember all at name t
no_struct all at name tags k shape.Void t e h = subst (NoMember all at name) (one_type types.Void t h) refl
no_struct all at name tags k shape.Int t e h = subst (NoMember all at name) (one_type types.Int t h) refl
no_struct all at name tags k shape.Unsigned t e h = subst (NoMember all at name) (one_type types.Unsigned t h) refl
no_struct all at name tags k shape.Char t e h = subst (NoMember all at name) (one_type types.Char t h) refl
no_struct all at name tags k shape.UChar t e h = subst (NoMember all at name) (one_type types.UChar t h) refl
no_struct all at name tags k shape.Null t e h = subst (NoMember all at name) (one_type types.Null t h) refl
no_struct all at name tags k (shape.Struct n) t e h = absurd cc
no_struct all at name tags k (shape.Pointer n) t e h = from_type (slice_get k n) (λ u. types.Pointer u) (NoMember all at name) (λ u. refl) t h
no_struct all at name tags k (shape.Array n m) t e h = from_type (slice_get k n) (λ u. types.Array u m) (NoMember all at name) (λ u. refl) t h
no_struct all at name tags k (shape.Function a b) t e h = from_both (slice_get k a) (slice_get k b) (NoMember all at name) (λ u us. refl) t h
no_struct all at name tags k shape.NoType t e h = absurd cc
no_struct all at name tags k (shape.MoreType a b) t e h = absurd (no_type (slice_get k a) (slice_get k b) t h)

abbrev NoArrow : Tags → ℕ → List ℕ → CType → Type 0
NoArrow all at name t = plain.arrow_operand all at name t ≡ Err (fault.Mismatch at)

pub no_arrow : (all : Tags) (at : ℕ) (name : List ℕ) (tags : List (List ℕ)) (k : List Known) (s : Shape) (t : CType) → pointee s ≡ None → says tags k s ≡ Some (OneType t) → NoArrow all at name t
no_arrow all at name tags k shape.Void t e h = subst (NoArrow all at name) (one_type types.Void t h) refl
no_arrow all at name tags k shape.Int t e h = subst (NoArrow all at name) (one_type types.Int t h) refl
no_arrow all at name tags k shape.Unsigned t e h = subst (NoArrow all at name) (one_type types.Unsigned t h) refl
no_arrow all at name tags k shape.Char t e h = subst (NoArrow all at name) (one_type types.Char t h) refl
no_arrow all at name tags k shape.UChar t e h = subst (NoArrow all at name) (one_type types.UChar t h) refl
no_arrow all at name tags k shape.Null t e h = subst (NoArrow all at name) (one_type types.Null t h) refl
no_arrow all at name tags k (shape.Struct n) t e h = from_tag (slice_get tags n) (NoArrow all at name) (λ tag. refl) t h
no_arrow all at name tags k (shape.Pointer n) t e h = absurd cc
no_arrow all at name tags k (shape.Array n m) t e h = from_type (slice_get k n) (λ u. types.Array u m) (NoArrow all at name) (λ u. refl) t h
no_arrow all at name tags k (shape.Function a b) t e h = from_both (slice_get k a) (slice_get k b) (NoArrow all at name) (λ u us. refl) t h
no_arrow all at name tags k shape.NoType t e h = absurd cc
no_arrow all at name tags k (shape.MoreType a b) t e h = absurd (no_type (slice_get k a) (slice_get k b) t h)
