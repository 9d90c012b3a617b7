-- Types by their shapes, and rules whose tests are at hand.
use Rattle.std.proofs.Common.{◌≡◌, ℕ, Bool, true, false, ◌||◌, List, [], ◌∷◌, Option, Some, refl, sym, ap, subst, ◌∙◌, if◌then◌else◌}
use Rattle.std.specs.Prelude.{Result, Ok, Err, IsSome, is_some, slice_get}
use Rattle.c_types.specs.declared.fault.TypeFault.{TypeFault}
use Rattle.c_types.specs.declared.fault.TypeFault.TheVariants as fault
use Rattle.c_types.specs.Types as types
use Rattle.c_types.specs.Types.{CType, CTypes, is_object_type, is_scalar, decayed}
use Rattle.c_types.specs.Refusals.{both, after, keeping, least}
use Rattle.c_types.specs.Scope.{Scope}
use Rattle.c_types.specs.Expressions.{array_of, is_result_type, parameter_type}
use Rattle.c_types.specs.declared.shape.Shape.TheVariants as shape
use Rattle.c_types.specs.Known.{Known, OneType, TypeList, of_type, of_both, says}
use Rattle.c_types.specs.Table.{Table, HasType}
use Rattle.c_operands.specs.declared.class.Class.{Class}
use Rattle.c_operands.specs.Classes.{class_of, void, scalar}
use Rattle.c_operands.specs.Seen.{IsJudged}
use Rattle.c_operands.proofs.ClassLemmas.{class_says}
use Rattle.c_operands.specs.Arguments.{HasList}

pub known_some : (o : Option Known) (k : Known) → o ≡ Some k → IsSome o
known_some o k e = ap is_some e

pub pointer_known : (tags : List (List ℕ)) (k : List Known) (n : ℕ) (t : CType) → slice_get k n ≡ Some (OneType t) → says tags k (shape.Pointer n) ≡ Some (OneType (types.Pointer t))
pointer_known tags k n t h = ap (λ (o : Option Known). of_type o (λ u. types.Pointer u)) h

pub array_known : (tags : List (List ℕ)) (k : List Known) (n m : ℕ) (t : CType) → slice_get k n ≡ Some (OneType t) → says tags k (shape.Array n m) ≡ Some (OneType (types.Array t m))
array_known tags k n m t h = ap (λ (o : Option Known). of_type o (λ u. types.Array u m)) h

pub function_known : (tags : List (List ℕ)) (k : List Known) (n m : ℕ) (t : CType) (ts : CTypes) → slice_get k n ≡ Some (OneType t) → slice_get k m ≡ Some (TypeList ts) → says tags k (shape.Function n m) ≡ Some (OneType (types.Function t ts))
function_known tags k n m t ts h g =
    ap (λ (o : Option Known). of_both o (slice_get k m) (λ u us. OneType (types.Function u us))) h
    ∙ ap (λ (o : Option Known). of_both (Some (OneType t)) o (λ u us. OneType (types.Function u us))) g

pub more_known : (tags : List (List ℕ)) (k : List Known) (n m : ℕ) (t : CType) (ts : CTypes) → slice_get k n ≡ Some (OneType t) → slice_get k m ≡ Some (TypeList ts) → says tags k (shape.MoreType n m) ≡ Some (TypeList (types.MoreType t ts))
more_known tags k n m t ts h g =
    ap (λ (o : Option Known). of_both o (slice_get k m) (λ u us. TypeList (types.MoreType u us))) h
    ∙ ap (λ (o : Option Known). of_both (Some (OneType t)) o (λ u us. TypeList (types.MoreType u us))) g

-- a rule's test may be written as it is equal
pub rule_as : (table : Table) (r : Result ℕ TypeFault) (t : CType) (b c : Bool) (e : TypeFault) → b ≡ c → IsJudged (HasType table) r (keeping ((b, e) ∷ []) t) → IsJudged (HasType table) r (keeping ((c, e) ∷ []) t)
rule_as table r t b c e f h = subst (λ (k : Bool). IsJudged (HasType table) r (keeping ((k, e) ∷ []) t)) f h

pub result_as : (b : Bool) (c : Class) (t : CType) → b ≡ (void c || scalar c) → c ≡ class_of t → b ≡ is_result_type t
result_as b c t h e =
    let s = class_says t in
    h ∙ (ap (λ (k : Class). void k || scalar k) e
    ∙ (ap (λ (k : Bool). k || scalar (class_of t)) (sym s.void) ∙ ap (λ (k : Bool). types.is_void t || k) (sym s.scalar)))

pub scalar_as : (b : Bool) (c : Class) (t : CType) → b ≡ scalar c → c ≡ class_of t → b ≡ is_scalar t
scalar_as b c t h e = h ∙ (ap scalar e ∙ sym (class_says t).scalar)

-- ---- arrays of a length that is judged

pub long_enough : (table : Table) (r : Result ℕ TypeFault) (s : Scope) (at : ℕ) (t : CType) (n : ℕ) (kept : Bool) → kept ≡ is_object_type s.tags t → IsJudged (HasType table) r (keeping ((kept, fault.Mismatch at) ∷ []) (types.Array t n))
    → IsJudged (HasType table) r (both {A = CType} {B = ℕ} {C = CType} (array_of s at t 1) (Ok n) (λ _ m. Ok (types.Array t m)))
long_enough table r s at t n true e h = subst (λ (k : Bool). IsJudged (HasType table) r (both {A = CType} {B = ℕ} {C = CType} (keeping ((k, fault.Mismatch at) ∷ []) (types.Array t 1)) (Ok n) (λ _ m. Ok (types.Array t m)))) e h
long_enough table r s at t n false e h = subst (λ (k : Bool). IsJudged (HasType table) r (both {A = CType} {B = ℕ} {C = CType} (keeping ((k, fault.Mismatch at) ∷ []) (types.Array t 1)) (Ok n) (λ _ m. Ok (types.Array t m)))) e h

pub no_length : (table : Table) (s : Scope) (at : ℕ) (t : CType) (d told : TypeFault) (kept : Bool) → kept ≡ is_object_type s.tags t → told ≡ (if kept then d else least (fault.Mismatch at) d)
    → IsJudged (HasType table) (Err told) (both {A = CType} {B = ℕ} {C = CType} (array_of s at t 1) (Err d) (λ _ m. Ok (types.Array t m)))
no_length table s at t d told true e h = subst (λ (k : Bool). IsJudged (HasType table) (Err told) (both {A = CType} {B = ℕ} {C = CType} (keeping ((k, fault.Mismatch at) ∷ []) (types.Array t 1)) (Err d) (λ _ m. Ok (types.Array t m)))) e h
no_length table s at t d told false e h = subst (λ (k : Bool). IsJudged (HasType table) (Err told) (both {A = CType} {B = ℕ} {C = CType} (keeping ((k, fault.Mismatch at) ∷ []) (types.Array t 1)) (Err d) (λ _ m. Ok (types.Array t m)))) e h

-- ---- parameters

pub parameter_kept : (table : Table) (at more : ℕ) (t : CType) (ts : CTypes) → is_scalar (decayed t) ≡ true → HasList table more (types.MoreType (decayed t) ts)
    → IsJudged (HasList table) (Ok more) (after (parameter_type at t) (λ u. Ok (types.MoreType u ts)))
parameter_kept table at more t ts e h = subst (λ (k : Bool). IsJudged (HasList table) (Ok more) (after (keeping ((k, fault.Mismatch at) ∷ []) (decayed t)) (λ u. Ok (types.MoreType u ts)))) (sym e) h

pub parameter_broken : (table : Table) (at : ℕ) (t : CType) (ts : CTypes) → is_scalar (decayed t) ≡ false → IsJudged {A = ℕ} (HasList table) (Err (fault.Mismatch at)) (after (parameter_type at t) (λ u. Ok (types.MoreType u ts)))
parameter_broken table at t ts e = subst (λ (k : Bool). IsJudged {A = ℕ} (HasList table) (Err (fault.Mismatch at)) (after (keeping ((k, fault.Mismatch at) ∷ []) (decayed t)) (λ u. Ok (types.MoreType u ts)))) (sym e) refl
