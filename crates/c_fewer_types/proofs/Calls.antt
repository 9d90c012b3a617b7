-- A call of a helper function has that function's type, and the cast of it the type that is written.
use Rattle.std.proofs.Common.{◌≡◌, ℕ, List, [], ◌∷◌, length, Option, Some, None, Bool, true, false, refl, ap, ap₂, ◌∙◌}
use Rattle.std.specs.Prelude.{◌&&◌, ◌||◌, ◌==◌, Ok, Err, if◌then◌else◌}
use Rattle.std.specs.Option.{option_map_or}
use Rattle.c_syntax.specs.Plain as plain
use Rattle.c_syntax.specs.Plain.{CExpr, CExprs}
use Rattle.c_types.specs.declared.fault.TypeFault.{TypeFault}
use Rattle.c_types.specs.declared.fault.TypeFault.TheVariants as fault
use Rattle.c_types.specs.Types as type
use Rattle.c_types.specs.Types.{CType, CTypes, NoType, MoreType, Tags, is_arithmetic, is_pointer, is_function_pointer, is_void_pointer, is_object_pointer, is_scalar, same_type, decayed, is_object_type}
use Rattle.c_types.specs.Constants.{NotConstant}
use Rattle.c_types.specs.Refusals.{Judged, after, both, broken, keeping}
use Rattle.c_types.specs.Scope.{Scope}
use Rattle.c_types.specs.Operands.{Sort, Place, Other, Operand, operand, value_at, value_type, is_place, is_designator, is_array, is_null_constant, converts, can_cast, cast_operand, address_operand, argument_rules, count_of, Callee, Direct, call_operand}
use Rattle.c_types.specs.Expressions.{named_callee, format_of, judged, all_judged}
use Rattle.c_fewer_types.specs.Written.{CanBeWritten}
use Rattle.c_fewer_types.proofs.TypeTreesProofs.{tree_told}
use Rattle.c_helpers.specs.Fewer.{helper_call, as_type, address_at}
use Rattle.c_fewer_types.specs.Stands.{helper_type, NameStands}
use Rattle.c_fewer_types.proofs.Judged.{IsOf}

-- ---- what converts

pub number_converts : (x : Operand) (t : CType) → is_arithmetic (value_type x) ≡ true → is_arithmetic t ≡ true → converts x t ≡ true
number_converts x t e f = λ i. (e i && f i) || (is_pointer t && same_type (value_type x) t) || (is_void_pointer (value_type x) && is_object_pointer t) || (is_object_pointer (value_type x) && is_void_pointer t) || (is_null_constant x && is_pointer t)

-- a pointer to an object converts to `void *`
pub object_converts : (x : Operand) → is_object_pointer (value_type x) ≡ true → converts x (type.Pointer type.Void) ≡ true
object_converts x e =
    go (is_arithmetic (value_type x) && false) (same_type (value_type x) (type.Pointer type.Void)) (is_void_pointer (value_type x) && true) (is_object_pointer (value_type x)) (is_null_constant x && true) e
  where
    go : (a b c o n : Bool) → o ≡ true → (a || b || c || (o && true) || n) ≡ true
    go true b c o n e = refl
    go false true c o n e = refl
    go false false true o n e = refl
    go false false false o n e = ap (λ z. (z && true) || n) e

-- a pointer to what an object can be is one to an object
pub object_pointer : (tags : Tags) (t : CType) → is_object_type tags t ≡ true → is_object_pointer (type.Pointer t) ≡ true
object_pointer tags (type.Function t ts) e = absurd (cc e)
object_pointer tags type.Void e = absurd (cc e)
object_pointer tags type.Int e = refl
object_pointer tags type.Unsigned e = refl
object_pointer tags type.Char e = refl
object_pointer tags type.UChar e = refl
object_pointer tags type.Null e = refl
object_pointer tags (type.Struct tag) e = refl
object_pointer tags (type.Pointer t) e = refl
object_pointer tags (type.Array t n) e = refl

pub scalar_pointer : (t : CType) → is_scalar t ≡ true → is_object_pointer (type.Pointer t) ≡ true
scalar_pointer (type.Function t ts) e = absurd (cc e)
scalar_pointer type.Void e = refl
scalar_pointer type.Int e = refl
scalar_pointer type.Unsigned e = refl
scalar_pointer type.Char e = refl
scalar_pointer type.UChar e = refl
scalar_pointer type.Null e = refl
scalar_pointer (type.Struct tag) e = refl
scalar_pointer (type.Pointer t) e = refl
scalar_pointer (type.Array t n) e = refl

-- numbers can be written
pub number_can : (tags : Tags) (t : CType) → is_arithmetic t ≡ true → CanBeWritten tags t
number_can tags type.Int e = tt
number_can tags type.Unsigned e = tt
number_can tags type.Char e = tt
number_can tags type.UChar e = tt
number_can tags t e = absurd (cc e)

-- numbers are cast to numbers
pub number_cast : (t u : CType) → is_arithmetic t ≡ true → is_arithmetic u ≡ true → can_cast t u ≡ true
number_cast t type.Int e f = ap (λ z. (z && true) || (is_object_pointer t && false) || (is_function_pointer t && same_type t type.Int)) e
number_cast t type.Unsigned e f = ap (λ z. (z && true) || (is_object_pointer t && false) || (is_function_pointer t && same_type t type.Unsigned)) e
number_cast t type.Char e f = ap (λ z. (z && true) || (is_object_pointer t && false) || (is_function_pointer t && same_type t type.Char)) e
number_cast t type.UChar e f = ap (λ z. (z && true) || (is_object_pointer t && false) || (is_function_pointer t && same_type t type.UChar)) e
number_cast t u e f = absurd (cc f)

-- `void *` is cast to each pointer to an object
pub pointer_cast : (t : CType) → is_object_pointer t ≡ true → can_cast (type.Pointer type.Void) t ≡ true
pointer_cast (type.Pointer t) e = ap (λ z. z || false) e
pointer_cast t e = absurd (cc e)

-- ---- calls

abbrev one : Judged Operand → Judged (List Operand)
one r = both {A = Operand} {B = List Operand} r (Ok []) (λ x xs. Ok (x ∷ xs))

abbrev two : Judged Operand → Judged Operand → Judged (List Operand)
two r q = both {A = Operand} {B = List Operand} r (one q) (λ x xs. Ok (x ∷ xs))

abbrev three : Judged Operand → Judged Operand → Judged Operand → Judged (List Operand)
three r q u = both {A = Operand} {B = List Operand} r (two q u) (λ x xs. Ok (x ∷ xs))

abbrev pub calling : ℕ → Option (List ℕ) → Judged Callee → Judged (List Operand) → Judged Operand
calling at format c xs = both c xs (λ c xs. call_operand at c format xs)

abbrev settled : Operand → Option TypeFault → Judged Operand
settled x o = option_map_or (λ e. Err e) o (Ok x)

module _ (s s' : Scope) where
  pub helper_judged : (at pos : ℕ) (name : List ℕ) (result : CType) (params : CTypes) (es : CExprs) (xs : List Operand) → helper_type name ≡ Some (type.Function result params) → NameStands s s' name → all_judged s' es ≡ Ok xs
      → broken ((count_of params == length xs, fault.BadCall at) ∷ argument_rules params xs) ≡ None → judged s' (plain.Call at (plain.Var pos name) es) ≡ Ok (value_at at result)
  helper_judged at pos name result params es xs known p e k =
      let h = p.helper (type.Function result params) known in
      ap (λ o. calling at (format_of es) (named_callee s' at name o) (all_judged s' es)) h.1
      ∙ (ap (λ b. calling at (format_of es) (Ok (Direct (type.Function result params) b)) (all_judged s' es)) h.2
      ∙ (ap (λ r. calling at (format_of es) (Ok (Direct (type.Function result params) true)) r) e ∙ ap (settled (value_at at result)) k))

  pub one_called : (at : ℕ) (name : List ℕ) (result p : CType) (a : CExpr) (x : Operand) → helper_type name ≡ Some (type.Function result (MoreType p NoType)) → NameStands s s' name
      → judged s' a ≡ Ok x → converts x p ≡ true → judged s' (helper_call at name (a ∷ [])) ≡ Ok (value_at at result)
  one_called at name result p a x known n e k =
      helper_judged at at name result (MoreType p NoType) (plain.exprs (a ∷ [])) (x ∷ []) known n (ap one e) (λ i. broken ((true, fault.BadCall at) ∷ (k i, fault.Mismatch x.pos) ∷ []))

  pub two_called : (at : ℕ) (name : List ℕ) (result p q : CType) (a b : CExpr) (x y : Operand) → helper_type name ≡ Some (type.Function result (MoreType p (MoreType q NoType))) → NameStands s s' name
      → judged s' a ≡ Ok x → judged s' b ≡ Ok y → converts x p ≡ true → converts y q ≡ true → judged s' (helper_call at name (a ∷ b ∷ [])) ≡ Ok (value_at at result)
  two_called at name result p q a b x y known n e f k l =
      helper_judged at at name result (MoreType p (MoreType q NoType)) (plain.exprs (a ∷ b ∷ [])) (x ∷ y ∷ []) known n (ap₂ two e f)
      (λ i. broken ((true, fault.BadCall at) ∷ (k i, fault.Mismatch x.pos) ∷ (l i, fault.Mismatch y.pos) ∷ []))

  pub three_called : (at : ℕ) (name : List ℕ) (result p q o : CType) (a b c : CExpr) (x y z : Operand) → helper_type name ≡ Some (type.Function result (MoreType p (MoreType q (MoreType o NoType)))) → NameStands s s' name
      → judged s' a ≡ Ok x → judged s' b ≡ Ok y → judged s' c ≡ Ok z → converts x p ≡ true → converts y q ≡ true → converts z o ≡ true → judged s' (helper_call at name (a ∷ b ∷ c ∷ [])) ≡ Ok (value_at at result)
  three_called at name result p q o a b c x y z known n e f g k l m =
      helper_judged at at name result (MoreType p (MoreType q (MoreType o NoType))) (plain.exprs (a ∷ b ∷ c ∷ [])) (x ∷ y ∷ z ∷ []) known n (λ i. three (e i) (f i) (g i))
      (λ i. broken ((true, fault.BadCall at) ∷ (k i, fault.Mismatch x.pos) ∷ (l i, fault.Mismatch y.pos) ∷ (m i, fault.Mismatch z.pos) ∷ []))

  -- what is cast to a type is of that type
  pub cast_is : (at : ℕ) (t r : CType) (e : CExpr) → judged s' e ≡ Ok (value_at at r) → CanBeWritten s'.tags t → can_cast (decayed r) t ≡ true → IsOf (judged s' (as_type at t e)) t
  cast_is at t r e k c l = record {
    what = operand at t Other (if is_arithmetic t then NotConstant else NotConstant);
    is =
        ap₂ (λ w j. both {A = CType} {B = Operand} w j (λ u x. cast_operand at u x)) (tree_told s' at t c) k
        ∙ ap (λ b. keeping ((b, fault.Mismatch at) ∷ []) (operand at t Other (if is_arithmetic t then NotConstant else NotConstant))) l;
    ty = refl;
    sort = refl;
  }

  -- the address of a place
  pub address_judged : (at : ℕ) (a : CExpr) (x : Operand) → judged s' a ≡ Ok x → is_place x.sort ≡ true → judged s' (address_at at a) ≡ Ok (value_at at (type.Pointer x.ty))
  address_judged at a x e k =
      ap (λ r. after {A = Operand} r (λ x. address_operand at x)) e
      ∙ (ap (λ b. if b then Ok (value_at at x.ty) else keeping ((is_place x.sort || is_array x.ty, fault.NotLvalue x.pos) ∷ []) (value_at at (type.Pointer x.ty))) (no_designator x.sort k)
      ∙ ap (λ b. keeping ((b || is_array x.ty, fault.NotLvalue x.pos) ∷ []) (value_at at (type.Pointer x.ty))) k)
    where
      no_designator : (o : Sort) → is_place o ≡ true → is_designator o ≡ false
      no_designator Place e = refl
      no_designator o e = absurd (cc e)
