-- Functions and lists of parameters, by their shapes.
use Rattle.std.proofs.Common.{◌≡◌, ℕ, ◌+◌, ◌<◌, Bool, true, false, List, Option, Some, None, length, refl, sym, ap, subst, ◌∙◌, arith}
use Rattle.std.specs.Prelude.{slice_get, Err, is_none, ◌==◌}
use Rattle.std.proofs.lemmas.Bool.Decides.{nat_tests}
use Rattle.c_types.specs.declared.fault.TypeFault.TheVariants as fault
use Rattle.c_types.specs.Types as types
use Rattle.c_types.specs.Types.{CType, CTypes}
use Rattle.c_types.specs.Operands as plain
use Rattle.c_types.specs.Operands.{count_of}
use Rattle.c_types.specs.declared.shape.Shape.{Shape}
use Rattle.c_types.specs.declared.shape.Shape.TheVariants as shape
use Rattle.c_types.specs.Known.{Known, OneType, TypeList, of_tag, of_type, of_both, says}
use Rattle.c_types.specs.Table.{Table, known}
use Rattle.std.proofs.lemmas.Option.{slice_get_within}
use Rattle.c_types.proofs.ByShape.{one_type, from_tag, from_type, from_both, no_type}
use Rattle.c_operands.specs.Classes.{pointee}
use Rattle.c_operands.specs.Arguments.{function_parts, first_type, HasList}

some_pair : (p q : ℕ × ℕ) → Some p ≡ Some q → p ≡ q
some_pair p q e = cc

-- ---- a list that goes on

pub record IsMore (k : List Known) (n m : ℕ) (ts : CTypes) : Type 0 where
  pub t : CType
  pub us : CTypes
  pub is : ts ≡ types.MoreType t us
  pub first : slice_get k n ≡ Some (OneType t)
  pub rest : slice_get k m ≡ Some (TypeList us)

pairs_more : (k : List Known) (o p : Option Known) (n m : ℕ) (ts : CTypes) → slice_get k n ≡ o → slice_get k m ≡ p → of_both o p (λ u us. TypeList (types.MoreType u us)) ≡ Some (TypeList ts) → IsMore k n m ts
pairs_more k (Some (OneType u)) (Some (TypeList us)) n m ts e f h = record { t = u; us = us; is = (cc); first = e; rest = f }
pairs_more k (Some (OneType u)) (Some (OneType v)) n m ts e f h = absurd cc
pairs_more k (Some (OneType u)) None n m ts e f h = absurd cc
pairs_more k (Some (TypeList us)) p n m ts e f h = absurd cc
pairs_more k None p n m ts e f h = absurd cc

pub more_is : (tags : List (List ℕ)) (k : List Known) (s : Shape) (n m : ℕ) (ts : CTypes) → first_type s ≡ Some (n, m) → says tags k s ≡ Some (TypeList ts) → IsMore k n m ts
more_is tags k (shape.MoreType a b) n m ts e h =
    let same = some_pair (a, b) (n, m) e in
    let left : a ≡ n = ap (λ (p : ℕ × ℕ). p.0) same in
    let right : b ≡ m = ap (λ (p : ℕ × ℕ). p.1) same in
    pairs_more k (slice_get k a) (slice_get k b) n m ts (ap (slice_get k) (sym left)) (ap (slice_get k) (sym right)) h
more_is tags k shape.Void n m ts e h = absurd cc
more_is tags k _ n m ts e h = absurd cc

-- ---- a list that ends

tag_no_list : (o : Option (List ℕ)) (ts : CTypes) → of_tag o ≡ Some (TypeList ts) → ⊥
tag_no_list (Some tag) ts h = cc
tag_no_list None ts h = cc

type_no_list : (o : Option Known) (f : CType → CType) (ts : CTypes) → of_type o f ≡ Some (TypeList ts) → ⊥
type_no_list (Some (OneType u)) f ts h = cc
type_no_list (Some (TypeList us)) f ts h = cc
type_no_list None f ts h = cc

function_no_list : (o p : Option Known) (ts : CTypes) → of_both o p (λ u us. OneType (types.Function u us)) ≡ Some (TypeList ts) → ⊥
function_no_list (Some (OneType u)) (Some (TypeList us)) ts h = cc
function_no_list (Some (OneType u)) (Some (OneType v)) ts h = cc
function_no_list (Some (OneType u)) None ts h = cc
function_no_list (Some (TypeList us)) p ts h = cc
function_no_list None p ts h = cc

pub none_is : (tags : List (List ℕ)) (k : List Known) (s : Shape) (ts : CTypes) → first_type s ≡ None → says tags k s ≡ Some (TypeList ts) → ts ≡ types.NoType
none_is tags k shape.NoType ts e h = cc
none_is tags k shape.Void ts e h = cc
none_is tags k shape.Int ts e h = cc
none_is tags k shape.Unsigned ts e h = cc
none_is tags k shape.Char ts e h = cc
none_is tags k shape.UChar ts e h = cc
none_is tags k shape.Null ts e h = cc
none_is tags k (shape.Struct n) ts e h = absurd (tag_no_list (slice_get tags n) ts h)
none_is tags k (shape.Pointer n) ts e h = absurd (type_no_list (slice_get k n) (λ u. types.Pointer u) ts h)
none_is tags k (shape.Array n m) ts e h = absurd (type_no_list (slice_get k n) (λ u. types.Array u m) ts h)
none_is tags k (shape.Function a b) ts e h = absurd (function_no_list (slice_get k a) (slice_get k b) ts h)
none_is tags k (shape.MoreType a b) ts e h = cc

-- so many types are passed of a list, and a number is that of the others
pub record Passed (table : Table) (n : ℕ) (ts : CTypes) (i : ℕ) : Type 0 where
  pub rest : CTypes
  pub list : HasList table n rest
  pub count : count_of ts ≡ i + count_of rest

pub passed_first : (ts us : CTypes) (t : CType) (rest : CTypes) (i : ℕ) → count_of ts ≡ i + count_of rest → rest ≡ types.MoreType t us → count_of ts ≡ i + 1 + count_of us
passed_first ts us t rest i h e = let f = ap count_of e in omega arith

pub ended_early : (ts rest : CTypes) (i count : ℕ) → count_of ts ≡ i + count_of rest → rest ≡ types.NoType → i < count → false ≡ (count_of ts == count)
ended_early ts rest i count h e less = let f = ap count_of e in grind (arith, nat_tests)

pub ended : (ts rest : CTypes) (count : ℕ) → count_of ts ≡ count + count_of rest → rest ≡ types.NoType → true ≡ (count_of ts == count)
ended ts rest count h e = let f = ap count_of e in grind (arith, nat_tests)

pub goes_on : (ts us : CTypes) (t : CType) (rest : CTypes) (count : ℕ) → count_of ts ≡ count + count_of rest → rest ≡ types.MoreType t us → false ≡ (count_of ts == count)
goes_on ts us t rest count h e = let f = ap count_of e in grind (arith, nat_tests)

pub list_within : (table : Table) (n : ℕ) (ts : CTypes) → HasList table n ts → n < length (known table)
list_within table n ts h = slice_get_within (known table) n (TypeList ts) h

-- so many types are counted of a list, and whether others are left
pub all_counted : (tags : List (List ℕ)) (k : List Known) (s : Shape) (b : Bool) (ts rest : CTypes) (count : ℕ) → b ≡ is_none (first_type s) → says tags k s ≡ Some (TypeList rest) → count_of ts ≡ count + count_of rest → b ≡ (count_of ts == count)
all_counted tags k s b ts rest count h e f = by (first_type s) refl where
  by : (o : Option (ℕ × ℕ)) → first_type s ≡ o → b ≡ (count_of ts == count)
  by None g = h ∙ (ap is_none g ∙ ended ts rest count f (none_is tags k s rest g e))
  by (Some p) g = let m = more_is tags k s p.0 p.1 rest g e in h ∙ (ap is_none g ∙ goes_on ts m.us m.t rest count f m.is)

-- ---- functions

pub record IsFunction (k : List Known) (n m : ℕ) (t : CType) : Type 0 where
  pub result : CType
  pub params : CTypes
  pub is : t ≡ types.Function result params
  pub first : slice_get k n ≡ Some (OneType result)
  pub list : slice_get k m ≡ Some (TypeList params)

pairs_function : (k : List Known) (o p : Option Known) (n m : ℕ) (t : CType) → slice_get k n ≡ o → slice_get k m ≡ p → of_both o p (λ u us. OneType (types.Function u us)) ≡ Some (OneType t) → IsFunction k n m t
pairs_function k (Some (OneType u)) (Some (TypeList us)) n m t e f h = record { result = u; params = us; is = sym (one_type (types.Function u us) t h); first = e; list = f }
pairs_function k (Some (OneType u)) (Some (OneType v)) n m t e f h = absurd cc
pairs_function k (Some (OneType u)) None n m t e f h = absurd cc
pairs_function k (Some (TypeList us)) p n m t e f h = absurd cc
pairs_function k None p n m t e f h = absurd cc

pub function_is : (tags : List (List ℕ)) (k : List Known) (s : Shape) (n m : ℕ) (t : CType) → function_parts s ≡ Some (n, m) → says tags k s ≡ Some (OneType t) → IsFunction k n m t
function_is tags k (shape.Function a b) n m t e h =
    let same = some_pair (a, b) (n, m) e in
    let left : a ≡ n = ap (λ (p : ℕ × ℕ). p.0) same in
    let right : b ≡ m = ap (λ (p : ℕ × ℕ). p.1) same in
    pairs_function k (slice_get k a) (slice_get k b) n m t (ap (slice_get k) (sym left)) (ap (slice_get k) (sym right)) h
function_is tags k shape.Void n m t e h = absurd cc
function_is tags k _ n m t e h = absurd cc

-- what is no function isn't called, and what is no pointer isn't called through
abbrev NoCall : CType → Type 0
NoCall t = (at : ℕ) (defined : Bool) (xs : List plain.Operand) → plain.function_call at defined t xs ≡ Err (fault.BadCall at)

pub no_function : (tags : List (List ℕ)) (k : List Known) (s : Shape) (t : CType) → function_parts s ≡ None → says tags k s ≡ Some (OneType t) → NoCall t
no_function tags k shape.Void t e h = subst NoCall (one_type types.Void t h) (λ at defined xs. refl)
no_function tags k shape.Int t e h = subst NoCall (one_type types.Int t h) (λ at defined xs. refl)
no_function tags k shape.Unsigned t e h = subst NoCall (one_type types.Unsigned t h) (λ at defined xs. refl)
no_function tags k shape.Char t e h = subst NoCall (one_type types.Char t h) (λ at defined xs. refl)
no_function tags k shape.UChar t e h = subst NoCall (one_type types.UChar t h) (λ at defined xs. refl)
no_function tags k shape.Null t e h = subst NoCall (one_type types.Null t h) (λ at defined xs. refl)
no_function tags k (shape.Struct n) t e h = from_tag (slice_get tags n) NoCall (λ tag at defined xs. refl) t h
no_function tags k (shape.Pointer n) t e h = from_type (slice_get k n) (λ u. types.Pointer u) NoCall (λ u at defined xs. refl) t h
no_function tags k (shape.Array n m) t e h = from_type (slice_get k n) (λ u. types.Array u m) NoCall (λ u at defined xs. refl) t h
no_function tags k (shape.Function a b) t e h = absurd cc
no_function tags k shape.NoType t e h = absurd cc
no_function tags k (shape.MoreType a b) t e h = absurd (no_type (slice_get k a) (slice_get k b) t h)

abbrev NoPointerCall : CType → Type 0
NoPointerCall t = (at : ℕ) (xs : List plain.Operand) → plain.pointer_call at t xs ≡ Err (fault.BadCall at)

pub no_pointer : (tags : List (List ℕ)) (k : List Known) (s : Shape) (t : CType) → pointee s ≡ None → says tags k s ≡ Some (OneType t) → NoPointerCall t
no_pointer tags k shape.Void t e h = subst NoPointerCall (one_type types.Void t h) (λ at xs. refl)
no_pointer tags k shape.Int t e h = subst NoPointerCall (one_type types.Int t h) (λ at xs. refl)
no_pointer tags k shape.Unsigned t e h = subst NoPointerCall (one_type types.Unsigned t h) (λ at xs. refl)
no_pointer tags k shape.Char t e h = subst NoPointerCall (one_type types.Char t h) (λ at xs. refl)
no_pointer tags k shape.UChar t e h = subst NoPointerCall (one_type types.UChar t h) (λ at xs. refl)
no_pointer tags k shape.Null t e h = subst NoPointerCall (one_type types.Null t h) (λ at xs. refl)
no_pointer tags k (shape.Struct n) t e h = from_tag (slice_get tags n) NoPointerCall (λ tag at xs. refl) t h
no_pointer tags k (shape.Pointer n) t e h = absurd cc
no_pointer tags k (shape.Array n m) t e h = from_type (slice_get k n) (λ u. types.Array u m) NoPointerCall (λ u at xs. refl) t h
no_pointer tags k (shape.Function a b) t e h = from_both (slice_get k a) (slice_get k b) NoPointerCall (λ u us at xs. refl) t h
no_pointer tags k shape.NoType t e h = absurd cc
no_pointer tags k (shape.MoreType a b) t e h = absurd (no_type (slice_get k a) (slice_get k b) t h)
