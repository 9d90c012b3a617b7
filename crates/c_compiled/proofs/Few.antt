-- The operators that stay are few.
use Rattle.std.proofs.Common.{◌≡◌, ℕ, ◌≤◌, Bool, true, false, List, [], ◌∷◌, Option, Some, None, Ok, Err, refl, sym, ap, ◌∙◌, subst, arith}
use Rattle.std.specs.Prelude.{not, ◌&&◌, ◌||◌, nat_lt, if◌then◌else◌}
use Rattle.std.specs.Option.{option_map_or}
use Rattle.std.proofs.lemmas.Bool.Decides.{nat_tests}
use Rattle.c_syntax.specs.Plain as plain
use Rattle.c_syntax.specs.Plain.{CExpr, CExprs}
use Rattle.c_syntax.specs.declared.tree.UnOp.TheVariants as unary
use Rattle.c_syntax.specs.declared.tree.StepOp.{StepOp}
use Rattle.c_syntax.specs.declared.tree.StepOp.TheVariants as step
use Rattle.c_syntax.specs.declared.tree.BinOp.TheVariants as binary
use Rattle.c_syntax.specs.Words.{meaning}
use Rattle.c_types.specs.declared.fault.TypeFault.TheVariants as fault
use Rattle.c_types.specs.Types as type
use Rattle.c_types.specs.Types.{CType, is_arithmetic, is_scalar, is_pointer, is_object_pointer, is_void_pointer, is_object_type, is_unsigned, decayed, Layout, Unfinished, Members, Tags, words_of, same_type, common_type}
use Rattle.c_types.specs.Constants.{NotConstant, binary_constant}
use Rattle.c_types.specs.Operands.{Operand, operand, Designator, either_unsigned, value_type, value_at, place_at, converts, is_element_pointer, when, or_else, sum_type, difference_type, unary_operand, step_operand, binary_operand, assign_operand, choice_operand, comma_operand, cast_operand, index_operand, member_in, member_operand, arrow_operand}
use Rattle.c_types.specs.Room.{is_wide_pointer}
use Rattle.c_types.specs.Scope.{Scope, Entity, Object, Routine, BuiltIn, Printf, entity_of, contains}
use Rattle.c_types.specs.Expressions.{named, written, format_of, judged}
use Rattle.c_types.proofs.TypeLemmas.{equal_types}
use Rattle.c_eval.specs.Environment.{operand_type, type_in, value_type_in}
use Rattle.c_alike.specs.Alike.{EachName}
use Rattle.c_fewer_types.specs.Written.{ScopeCanBeWritten, StringsAreShort}
use Rattle.c_helpers.specs.Fewer.{sum_tree, difference_tree, wide_step, format_call, named_call, call_tree, fewer, fewer_all}
use Rattle.c_fewer_types.specs.Stands.{NameStands, ExprStands}
use Rattle.c_fewer_types.proofs.Names.{operator_names, assignment_names, step_names, element_names}
use Rattle.c_fewer_types.specs.Laws.{KnowsBuiltIns}
use Rattle.c_fewer_types.proofs.Kept.{types_are_kept}
use Rattle.c_fewer_types.proofs.Judged.{keeping_is, first_kept}
use Rattle.c_fewer_types.proofs.Rules.{typed_told, Assigned, assigned, scalar_same, pointer_assigned, stepped, some_of}
use Rattle.c_fewer_types.proofs.FewerTypedRules.{after_is, both_is, three_is}
use Rattle.c_fewer_meaning.proofs.Typing.{index_pointed}
use Rattle.c_landing.specs.Few.{NameIsFew, IsNarrow, IsObjectType, IsFew}
use Rattle.c_fewer_reached.specs.Updates.{UpdatesAre}
use Rattle.c_compiled.specs.Few.{TagsHaveObjects, NameServes, OperatorsAreFew}

-- ---- types

pointer_no_number : (t : CType) → is_pointer t ≡ true → is_arithmetic t ≡ false
pointer_no_number (type.Pointer t) p = refl
pointer_no_number type.Void p = refl
pointer_no_number type.Int p = absurd (cc p)
pointer_no_number type.Unsigned p = absurd (cc p)
pointer_no_number type.Char p = absurd (cc p)
pointer_no_number type.UChar p = absurd (cc p)
pointer_no_number type.Null p = refl
pointer_no_number (type.Struct tag) p = refl
pointer_no_number (type.Array t n) p = refl
pointer_no_number (type.Function t ts) p = refl

object_no_function : (tags : Tags) (t : CType) → is_object_type tags t ≡ true → IsObjectType t
object_no_function tags (type.Function t ts) h = absurd (cc h)
object_no_function tags type.Void h = tt
object_no_function tags type.Int h = tt
object_no_function tags type.Unsigned h = tt
object_no_function tags type.Char h = tt
object_no_function tags type.UChar h = tt
object_no_function tags type.Null h = tt
object_no_function tags (type.Struct tag) h = tt
object_no_function tags (type.Pointer t) h = tt
object_no_function tags (type.Array t n) h = tt

pointed_no_function : (t : CType) → is_object_pointer (type.Pointer t) ≡ true → IsObjectType t
pointed_no_function (type.Function t ts) h = absurd (cc h)
pointed_no_function type.Void h = tt
pointed_no_function type.Int h = tt
pointed_no_function type.Unsigned h = tt
pointed_no_function type.Char h = tt
pointed_no_function type.UChar h = tt
pointed_no_function type.Null h = tt
pointed_no_function (type.Struct tag) h = tt
pointed_no_function (type.Pointer t) h = tt
pointed_no_function (type.Array t n) h = tt

-- a pointer converts to no number
no_number : (at : ℕ) (u t : CType) → is_pointer u ≡ true → is_arithmetic t ≡ true → converts (value_at at u) t ≡ false
no_number at (type.Pointer v) t p n = by t n (is_void_pointer (type.Pointer v)) refl (is_object_pointer (type.Pointer v)) refl
  where
    by : (t : CType) → is_arithmetic t ≡ true → (a : Bool) → is_void_pointer (type.Pointer v) ≡ a → (b : Bool) → is_object_pointer (type.Pointer v) ≡ b → converts (value_at at (type.Pointer v)) t ≡ false
    by type.Int n true e true f = rw (e, f) refl
    by type.Int n true e false f = rw (e, f) refl
    by type.Int n false e true f = rw (e, f) refl
    by type.Int n false e false f = rw (e, f) refl
    by type.Unsigned n true e true f = rw (e, f) refl
    by type.Unsigned n true e false f = rw (e, f) refl
    by type.Unsigned n false e true f = rw (e, f) refl
    by type.Unsigned n false e false f = rw (e, f) refl
    by type.Char n true e true f = rw (e, f) refl
    by type.Char n true e false f = rw (e, f) refl
    by type.Char n false e true f = rw (e, f) refl
    by type.Char n false e false f = rw (e, f) refl
    by type.UChar n true e true f = rw (e, f) refl
    by type.UChar n true e false f = rw (e, f) refl
    by type.UChar n false e true f = rw (e, f) refl
    by type.UChar n false e false f = rw (e, f) refl
    by type.Void n a e b f = absurd (cc n)
    by type.Null n a e b f = absurd (cc n)
    by (type.Struct tag) n a e b f = absurd (cc n)
    by (type.Pointer t) n a e b f = absurd (cc n)
    by (type.Array t k) n a e b f = absurd (cc n)
    by (type.Function t ts) n a e b f = absurd (cc n)
no_number at type.Void t p n = absurd (cc p)
no_number at type.Int t p n = absurd (cc p)
no_number at type.Unsigned t p n = absurd (cc p)
no_number at type.Char t p n = absurd (cc p)
no_number at type.UChar t p n = absurd (cc p)
no_number at type.Null t p n = absurd (cc p)
no_number at (type.Struct tag) t p n = absurd (cc p)
no_number at (type.Array t n) u p k = absurd (cc p)
no_number at (type.Function t ts) u p n = absurd (cc p)

element_is_pointer : (tags : Tags) (t : CType) → is_element_pointer tags t ≡ true → is_pointer t ≡ true
element_is_pointer tags (type.Pointer t) h = refl
element_is_pointer tags type.Void h = absurd (cc h)
element_is_pointer tags type.Int h = absurd (cc h)
element_is_pointer tags type.Unsigned h = absurd (cc h)
element_is_pointer tags type.Char h = absurd (cc h)
element_is_pointer tags type.UChar h = absurd (cc h)
element_is_pointer tags type.Null h = absurd (cc h)
element_is_pointer tags (type.Struct tag) h = absurd (cc h)
element_is_pointer tags (type.Array t n) h = absurd (cc h)
element_is_pointer tags (type.Function t ts) h = absurd (cc h)

-- ---- what a sum or a difference moves points to an object

sum_left : (tags : Tags) (t u r : CType) → sum_type tags t u ≡ Some r → is_pointer t ≡ true → is_element_pointer tags t ≡ true
sum_left tags t u r e p = go (is_arithmetic t) (is_arithmetic u) (is_element_pointer tags t) (is_element_pointer tags u) (pointer_no_number t p) e
  where
    go : (a n e f : Bool) → a ≡ false → or_else (when (a && n) (common_type t u)) (or_else (when (e && n) t) (when (a && f) u)) ≡ Some r → e ≡ true
    go true n e f apart h = absurd (cc apart)
    go false n true f apart h = refl
    go false n false f apart h = absurd (cc h)

sum_right : (tags : Tags) (t u r : CType) → sum_type tags t u ≡ Some r → is_pointer u ≡ true → (is_element_pointer tags u ≡ true) × (is_arithmetic t ≡ true) × (r ≡ u)
sum_right tags t u r e p = go (is_arithmetic t) (is_arithmetic u) (is_element_pointer tags t) (is_element_pointer tags u) (pointer_no_number u p) e
  where
    go : (a n e f : Bool) → n ≡ false → or_else (when (a && n) (common_type t u)) (or_else (when (e && n) t) (when (a && f) u)) ≡ Some r → (f ≡ true) × (a ≡ true) × (r ≡ u)
    go a true e f apart h = absurd (cc apart)
    go true false true true apart h = let same : u ≡ r = cc h in (refl, refl, sym same)
    go true false false true apart h = let same : u ≡ r = cc h in (refl, refl, sym same)
    go true false true false apart h = absurd (cc h)
    go true false false false apart h = absurd (cc h)
    go false false true f apart h = absurd (cc h)
    go false false false f apart h = absurd (cc h)

difference_left : (tags : Tags) (t u r : CType) → difference_type tags t u ≡ Some r → is_pointer t ≡ true → is_element_pointer tags t ≡ true
difference_left tags t u r e p = go (is_arithmetic t) (is_arithmetic u) (is_element_pointer tags t) (same_type t u) (pointer_no_number t p) e
  where
    go : (a n e q : Bool) → a ≡ false → or_else (when (a && n) (common_type t u)) (or_else (when (e && n) t) (when (e && q) type.Int)) ≡ Some r → e ≡ true
    go true n e q apart h = absurd (cc apart)
    go false n true q apart h = refl
    go false n false q apart h = absurd (cc h)

difference_right : (tags : Tags) (t u r : CType) → difference_type tags t u ≡ Some r → is_pointer u ≡ true → (is_element_pointer tags t ≡ true) × (t ≡ u)
difference_right tags t u r e p = go (is_arithmetic t) (is_arithmetic u) (is_element_pointer tags t) (same_type t u) refl (pointer_no_number u p) e
  where
    go : (a n e q : Bool) → same_type t u ≡ q → n ≡ false → or_else (when (a && n) (common_type t u)) (or_else (when (e && n) t) (when (e && q) type.Int)) ≡ Some r → (e ≡ true) × (t ≡ u)
    go a true e q same apart h = absurd (cc apart)
    go true false true true same apart h = (refl, (equal_types t u).0 same)
    go false false true true same apart h = (refl, (equal_types t u).0 same)
    go true false true false same apart h = absurd (cc h)
    go false false true false same apart h = absurd (cc h)
    go true false false q same apart h = absurd (cc h)
    go false false false q same apart h = absurd (cc h)

-- ---- calls

module _ (valued : List ℕ → Bool) (s' : Scope) where
  by_if : (b : Bool) (x y : CExpr) → (b ≡ true → IsFew x valued s') → (b ≡ false → IsFew y valued s') → IsFew (if b then x else y) valued s'
  by_if true x y f g = f refl
  by_if false x y f g = g refl

  printed_few : (at pos : ℕ) (name : List ℕ) (format : Option (List ℕ)) (es : CExprs) → IsFew (format_call at pos name format es) valued s'
  printed_few at pos name (Some f) es = tt
  printed_few at pos name None es = tt

  named_few : (at pos : ℕ) (name : List ℕ) (x : Option Entity) (format : Option (List ℕ)) (es : CExprs) → IsFew (named_call at pos name x format es) valued s'
  named_few at pos name (Some Printf) format es = printed_few at pos name format es
  named_few at pos name (Some (BuiltIn t)) format es = tt
  named_few at pos name (Some (Object t)) format es = tt
  named_few at pos name (Some (Routine t b)) format es = tt
  named_few at pos name None format es = tt

  call_few : (s : Scope) (at : ℕ) (f : CExpr) (format : Option (List ℕ)) (es : CExprs) → IsFew (call_tree s at f format es) valued s'
  call_few s at (plain.Var pos name) format es = named_few at pos name (entity_of s name) format es
  call_few s at (plain.Number pos n x) format es = tt
  call_few s at (plain.Str pos text) format es = tt
  call_few s at (plain.Null pos) format es = tt
  call_few s at (plain.Unary pos op a) format es = tt
  call_few s at (plain.Step pos op a) format es = tt
  call_few s at (plain.Binary pos op a b) format es = tt
  call_few s at (plain.Assign pos op a b) format es = tt
  call_few s at (plain.Cond pos a b c) format es = tt
  call_few s at (plain.Comma pos a b) format es = tt
  call_few s at (plain.Cast pos t a) format es = tt
  call_few s at (plain.SizeTy pos t) format es = tt
  call_few s at (plain.SizeOf pos a) format es = tt
  call_few s at (plain.Index pos a b) format es = tt
  call_few s at (plain.Call pos f fs) format es = tt
  call_few s at (plain.Member pos a m) format es = tt
  call_few s at (plain.Arrow pos a m) format es = tt

  wide_step_few : (tags : Tags) (at : ℕ) (op : StepOp) (t : CType) (a : CExpr) → IsFew (wide_step tags at op t a) valued s'
  wide_step_few tags at step.PreInc t a = tt
  wide_step_few tags at step.PreDec t a = tt
  wide_step_few tags at step.PostInc t a = tt
  wide_step_few tags at step.PostDec t a = tt

-- ---- expressions

module _ (valued : List ℕ → Bool) (s s' : Scope) (tags : s.tags ≡ s'.tags) (can : ScopeCanBeWritten s) (known : KnowsBuiltIns s) (objects : TagsHaveObjects s.tags) where
  abbrev P : List ℕ → Type 0
  P = NameStands s s'

  abbrev Q : List ℕ → Type 0
  Q = NameServes valued s

  -- the type that an expression had
  type_same : (e : CExpr) (x : Operand) → StringsAreShort e → ExprStands s s' e → judged s e ≡ Ok x → type_in s' (fewer s e) ≡ type_in s e
  type_same e x h p k = let g = types_are_kept s s' e tags can known h p x k in ap operand_type g.1 ∙ (sym g.2.ty ∙ sym (ap operand_type k))

  narrow : (t : CType) → is_wide_pointer s.tags t ≡ false → (is_pointer t ≡ true → is_element_pointer s.tags t ≡ true) → IsNarrow s.tags t
  narrow (type.Pointer u) w f p = let o = objects.words u (f refl) in one (words_of s.tags u) w o
    where
      one : (n : ℕ) → nat_lt 1 n ≡ false → 1 ≤ n → n ≡ 1
      one n w o = grind (arith, nat_tests, w, o)
  narrow type.Void w f p = absurd (cc p)
  narrow type.Int w f p = absurd (cc p)
  narrow type.Unsigned w f p = absurd (cc p)
  narrow type.Char w f p = absurd (cc p)
  narrow type.UChar w f p = absurd (cc p)
  narrow type.Null w f p = absurd (cc p)
  narrow (type.Struct tag) w f p = absurd (cc p)
  narrow (type.Array t n) w f p = absurd (cc p)
  narrow (type.Function t ts) w f p = absurd (cc p)

  narrow_there : (t t' : CType) → t' ≡ t → IsNarrow s.tags t → IsNarrow s'.tags t'
  narrow_there t t' e n = subst (λ z. IsNarrow s'.tags z) (sym e) (subst (λ z. IsNarrow z t) tags n)

  -- an operator that stays, from its sides as the text has them
  module _ (at : ℕ) (a b : CExpr) (x y : Operand) (ka : judged s a ≡ Ok x) (kb : judged s b ≡ Ok y) (ta : type_in s' (fewer s a) ≡ type_in s a) (tb : type_in s' (fewer s b) ≡ type_in s b) (fa : IsFew (fewer s a) valued s') (fb : IsFew (fewer s b) valued s') where
    abbrev t : CType
    t = value_type_in s a

    abbrev u : CType
    u = value_type_in s b

    left_is : t ≡ value_type x
    left_is = ap (λ z. decayed (operand_type z)) ka

    right_is : u ≡ value_type y
    right_is = ap (λ z. decayed (operand_type z)) kb

    sum_few : (r : CType) → sum_type s.tags (value_type x) (value_type y) ≡ Some r → IsFew (sum_tree s.tags at t u (fewer s a) (fewer s b)) valued s'
    sum_few r e0 =
        let e : sum_type s.tags t u ≡ Some r = subst (λ z. sum_type s.tags z u ≡ Some r) (sym left_is) (subst (λ z. sum_type s.tags (value_type x) z ≡ Some r) (sym right_is) e0) in
        by_if valued s' (is_wide_pointer s.tags t) _ _ (λ w. tt)
        (λ w. by_if valued s' (is_wide_pointer s.tags u) _ _ (λ v. tt)
        (λ v. (tt, (narrow_there t _ (ap decayed ta) (narrow t w (λ p. sum_left s.tags t u r e p)), narrow_there u _ (ap decayed tb) (narrow u v (λ p. (sum_right s.tags t u r e p).0))), fa, fb)))

    difference_few : (r : CType) → difference_type s.tags (value_type x) (value_type y) ≡ Some r → IsFew (difference_tree s.tags at t u (fewer s a) (fewer s b)) valued s'
    difference_few r e0 =
        let e : difference_type s.tags t u ≡ Some r = subst (λ z. difference_type s.tags z u ≡ Some r) (sym left_is) (subst (λ z. difference_type s.tags (value_type x) z ≡ Some r) (sym right_is) e0) in
        by_if valued s' (not (is_wide_pointer s.tags t)) _ _
        (λ w. (tt, (narrow_there t _ (ap decayed ta) (narrow t (denied (is_wide_pointer s.tags t) w) (λ p. difference_left s.tags t u r e p)), narrow_there u _ (ap decayed tb) (λ p. right r e (denied (is_wide_pointer s.tags t) w) p p)), fa, fb))
        (λ w. by_if valued s' (is_pointer u) _ _ (λ v. tt) (λ v. tt))
      where
        denied : (b : Bool) → not b ≡ true → b ≡ false
        denied true e = absurd (cc e)
        denied false e = refl

        right : (r : CType) → difference_type s.tags t u ≡ Some r → is_wide_pointer s.tags t ≡ false → is_pointer u ≡ true → IsNarrow s.tags u
        right r e w p = let d = difference_right s.tags t u r e p in subst (λ z. IsNarrow s.tags z) d.1 (narrow t w (λ q. d.0))

  -- what an assignment with a sum or a difference asks of its sides
  place_type : (a : CExpr) (x : Operand) → judged s a ≡ Ok x → is_scalar x.ty ≡ true → type_in s a ≡ value_type x
  place_type a x k sc = ap operand_type k ∙ sym (scalar_same x.ty sc)

  pointer_is : (t : CType) → is_pointer t ≡ true → (v : CType) × (t ≡ type.Pointer v)
  pointer_is (type.Pointer v) p = (v, refl)
  pointer_is type.Void p = absurd (cc p)
  pointer_is type.Int p = absurd (cc p)
  pointer_is type.Unsigned p = absurd (cc p)
  pointer_is type.Char p = absurd (cc p)
  pointer_is type.UChar p = absurd (cc p)
  pointer_is type.Null p = absurd (cc p)
  pointer_is (type.Struct tag) p = absurd (cc p)
  pointer_is (type.Array t n) p = absurd (cc p)
  pointer_is (type.Function t ts) p = absurd (cc p)

  -- the right side of an assignment with a sum or a difference is no pointer
  adds : (at : ℕ) (x y z : Operand) → Assigned s.tags at binary.Add x y z → is_pointer (value_type y) ≡ true → ⊥
  adds at x y z k p =
      let d = sum_right s.tags (value_type x) (value_type y) k.result k.gives p in
      let n : is_arithmetic x.ty ≡ true = subst (λ z. is_arithmetic z ≡ true) (scalar_same x.ty k.scalar) d.1 in
      let apart = no_number at (value_type y) x.ty p n in
      let yes : converts (value_at at (value_type y)) x.ty ≡ true = subst (λ z. converts (value_at at z) x.ty ≡ true) d.2 k.converts in absurd (cc (sym yes ∙ apart))

  takes : (at : ℕ) (x y z : Operand) → Assigned s.tags at binary.Sub x y z → is_pointer (value_type y) ≡ true → ⊥
  takes at x y z k p =
      let d = difference_right s.tags (value_type x) (value_type y) k.result k.gives p in
      let q = element_is_pointer s.tags (value_type x) d.0 in
      let v = pointer_is (value_type x) q in
      let c : converts (value_at at k.result) (type.Pointer v.0) ≡ true = subst (λ z. converts (value_at at k.result) z ≡ true) (sym (scalar_same x.ty k.scalar) ∙ v.1) k.converts in
      let n = (pointer_assigned s.tags at x y v.0 v.1 binary.Sub k.result k.gives c).0 in absurd (cc (sym n ∙ pointer_no_number (value_type y) p))

  member_object : (at : ℕ) (name : List ℕ) (t : CType) (x : Operand) → member_operand s.tags at name t ≡ Ok x → IsObjectType x.ty
  member_object at name (type.Struct tag) x e = by (meaning s.tags tag) refl e
    where
      found : (members : List (List ℕ × CType)) (words : ℕ) → meaning s.tags tag ≡ Some (Members members words) → (o : Option CType) → meaning members name ≡ o → option_map_or (λ t. Ok (place_at at t)) o (Err (fault.Unknown at)) ≡ Ok x → IsObjectType x.ty
      found members words m (Some t) f e = let same : place_at at t ≡ x = cc e in subst (λ z. IsObjectType z) (ap (λ (z : Operand). z.ty) same) (object_no_function s.tags t (objects.members tag name members words t m f))
      found members words m None f e = absurd (cc e)

      by : (l : Option Layout) → meaning s.tags tag ≡ l → member_in at name l ≡ Ok x → IsObjectType x.ty
      by (Some (Members members words)) m e = found members words m (meaning members name) refl e
      by (Some Unfinished) m e = absurd (cc e)
      by None m e = absurd (cc e)
  member_object at name type.Void x e = absurd (cc e)
  member_object at name type.Int x e = absurd (cc e)
  member_object at name type.Unsigned x e = absurd (cc e)
  member_object at name type.Char x e = absurd (cc e)
  member_object at name type.UChar x e = absurd (cc e)
  member_object at name type.Null x e = absurd (cc e)
  member_object at name (type.Pointer t) x e = absurd (cc e)
  member_object at name (type.Array t n) x e = absurd (cc e)
  member_object at name (type.Function t ts) x e = absurd (cc e)

  arrow_object : (at : ℕ) (name : List ℕ) (t : CType) (x : Operand) → arrow_operand s.tags at name t ≡ Ok x → IsObjectType x.ty
  arrow_object at name (type.Pointer t) x e = member_object at name t x e
  arrow_object at name type.Void x e = absurd (cc e)
  arrow_object at name type.Int x e = absurd (cc e)
  arrow_object at name type.Unsigned x e = absurd (cc e)
  arrow_object at name type.Char x e = absurd (cc e)
  arrow_object at name type.UChar x e = absurd (cc e)
  arrow_object at name type.Null x e = absurd (cc e)
  arrow_object at name (type.Struct tag) x e = absurd (cc e)
  arrow_object at name (type.Array t n) x e = absurd (cc e)
  arrow_object at name (type.Function t ts) x e = absurd (cc e)

  -- a name
  name_few : (at : ℕ) (name : List ℕ) (e : Option Entity) (x : Operand) → entity_of s name ≡ e → named s at name e ≡ Ok x → P name → Q name → NameIsFew valued name (entity_of s' name)
  name_few at name (Some (Object t)) x f k p q = subst (λ z. NameIsFew valued name z) (sym (p.text (Object t) f)) tt
  name_few at name (Some (Routine t b)) x f k p q =
      let r = p.text (Routine t b) f in
      let rules = keeping_is {A = Operand} ((contains s.defined name, fault.BadCall at) ∷ []) (operand at (type.Pointer t) Designator NotConstant) x k in
      subst (λ z. NameIsFew valued name z) (sym r.1) (q.points t b f (first_kept (contains s.defined name) (fault.BadCall at) [] rules.0).0)
  name_few at name (Some (BuiltIn t)) x f k p q = absurd (cc k)
  name_few at name (Some Printf) x f k p q = absurd (cc k)
  name_few at name None x f k p q = absurd (cc k)

  or_false : (a b : Bool) → (a || b) ≡ false → (a ≡ false) × (b ≡ false)
  or_false true b e = absurd (cc e)
  or_false false b e = (refl, e)

  few_of : (e : CExpr) (x : Operand) → StringsAreShort e → UpdatesAre e → ExprStands s s' e → EachName Q (fewer s e) → judged s e ≡ Ok x → IsFew (fewer s e) valued s'
  few_of (plain.Number at n y) x h u p q k = tt
  few_of (plain.Str at text) x h u p q k = tt
  few_of (plain.Null at) x h u p q k = tt
  few_of (plain.Var at name) x h u p q k = name_few at name (entity_of s name) x refl k p q
  few_of (plain.Unary at unary.Invert a) x h u p q k = tt
  few_of (plain.Unary at unary.Address a) x h u p q k = let j = after_is (judged s a) (λ x. unary_operand s.tags at unary.Address x) x k in (tt, few_of a j.0 h u p q j.1)
  few_of (plain.Unary at unary.Deref a) x h u p q k = let j = after_is (judged s a) (λ x. unary_operand s.tags at unary.Deref x) x k in (tt, few_of a j.0 h u p q j.1)
  few_of (plain.Unary at unary.Not a) x h u p q k = let j = after_is (judged s a) (λ x. unary_operand s.tags at unary.Not x) x k in (tt, few_of a j.0 h u p q j.1)
  few_of (plain.Unary at unary.Minus a) x h u p q k = let j = after_is (judged s a) (λ x. unary_operand s.tags at unary.Minus x) x k in (tt, few_of a j.0 h u p q j.1)
  few_of (plain.Unary at unary.Plus a) x h u p q k = let j = after_is (judged s a) (λ x. unary_operand s.tags at unary.Plus x) x k in (tt, few_of a j.0 h u p q j.1)
  few_of (plain.Step at op a) x h u p q k =
      let j = after_is (judged s a) (λ x. step_operand s.tags at x) x k in
      let pn = step_names P s.tags at op (type_in s a) (fewer s a) p in
      let qn = step_names Q s.tags at op (type_in s a) (fewer s a) q in
      let is = stepped s.tags at j.0 x j.2 in
      let r = some_of (sum_type s.tags (value_type j.0) type.Int) is.sum in
      let place = place_type a j.0 j.1 is.scalar in
      by_if valued s' (is_wide_pointer s.tags (type_in s a)) _ _ (λ w. wide_step_few valued s' s.tags at op (type_in s a) (fewer s a))
      (λ w. (
        narrow_there (type_in s a) (type_in s' (fewer s a)) (type_same a j.0 h pn j.1) (narrow (type_in s a) w (λ z. subst (λ t. is_element_pointer s.tags t ≡ true) (sym place) (sum_left s.tags (value_type j.0) type.Int r.0 r.1 (subst (λ t. is_pointer t ≡ true) place z)))),
        few_of a j.0 h u pn qn j.1,
      ))
  few_of (plain.Binary at binary.Mul a b) x h u p q k = tt
  few_of (plain.Binary at binary.Div a b) x h u p q k = tt
  few_of (plain.Binary at binary.Mod a b) x h u p q k = tt
  few_of (plain.Binary at binary.BitAnd a b) x h u p q k = tt
  few_of (plain.Binary at binary.BitOr a b) x h u p q k = tt
  few_of (plain.Binary at binary.BitXor a b) x h u p q k = tt
  few_of (plain.Binary at binary.Shl a b) x h u p q k = tt
  few_of (plain.Binary at binary.Shr a b) x h u p q k = tt
  few_of (plain.Binary at binary.And a b) x h u p q k =
      let j = both_is (judged s a) (judged s b) (λ x y. binary_operand s.tags at binary.And x y) x k in
      (tt, tt, few_of a j.0 h.0 u.0 p.0 q.0 j.1.1, few_of b j.1.0 h.1 u.1 p.1 q.1 j.1.2)
  few_of (plain.Binary at binary.Or a b) x h u p q k =
      let j = both_is (judged s a) (judged s b) (λ x y. binary_operand s.tags at binary.Or x y) x k in
      (tt, tt, few_of a j.0 h.0 u.0 p.0 q.0 j.1.1, few_of b j.1.0 h.1 u.1 p.1 q.1 j.1.2)
  few_of (plain.Binary at binary.Eq a b) x h u p q k =
      let j = both_is (judged s a) (judged s b) (λ x y. binary_operand s.tags at binary.Eq x y) x k in
      (tt, tt, few_of a j.0 h.0 u.0 p.0 q.0 j.1.1, few_of b j.1.0 h.1 u.1 p.1 q.1 j.1.2)
  few_of (plain.Binary at binary.Ne a b) x h u p q k =
      let j = both_is (judged s a) (judged s b) (λ x y. binary_operand s.tags at binary.Ne x y) x k in
      (tt, tt, few_of a j.0 h.0 u.0 p.0 q.0 j.1.1, few_of b j.1.0 h.1 u.1 p.1 q.1 j.1.2)
  few_of (plain.Binary at binary.Lt a b) x h u p q k =
      let j = both_is (judged s a) (judged s b) (λ x y. binary_operand s.tags at binary.Lt x y) x k in
      (tt, tt, few_of a j.0 h.0 u.0 p.0 q.0 j.1.1, few_of b j.1.0 h.1 u.1 p.1 q.1 j.1.2)
  few_of (plain.Binary at binary.Gt a b) x h u p q k =
      let j = both_is (judged s a) (judged s b) (λ x y. binary_operand s.tags at binary.Gt x y) x k in
      (tt, tt, few_of a j.0 h.0 u.0 p.0 q.0 j.1.1, few_of b j.1.0 h.1 u.1 p.1 q.1 j.1.2)
  few_of (plain.Binary at binary.Le a b) x h u p q k =
      let j = both_is (judged s a) (judged s b) (λ x y. binary_operand s.tags at binary.Le x y) x k in
      (tt, tt, few_of a j.0 h.0 u.0 p.0 q.0 j.1.1, few_of b j.1.0 h.1 u.1 p.1 q.1 j.1.2)
  few_of (plain.Binary at binary.Ge a b) x h u p q k =
      let j = both_is (judged s a) (judged s b) (λ x y. binary_operand s.tags at binary.Ge x y) x k in
      (tt, tt, few_of a j.0 h.0 u.0 p.0 q.0 j.1.1, few_of b j.1.0 h.1 u.1 p.1 q.1 j.1.2)
  few_of (plain.Binary at binary.Add a b) x h u p q k =
      let j = both_is (judged s a) (judged s b) (λ x y. binary_operand s.tags at binary.Add x y) x k in
      let result = type_in s (plain.Binary at binary.Add a b) in
      let pn = operator_names P s.tags at None binary.Add result (value_type_in s a) (value_type_in s b) (fewer s a) (fewer s b) p in
      let qn = operator_names Q s.tags at None binary.Add result (value_type_in s a) (value_type_in s b) (fewer s a) (fewer s b) q in
      let c = binary_constant at binary.Add (is_unsigned (value_type j.0)) (either_unsigned j.0 j.1.0) j.0.constant j.1.0.constant in
      let told = typed_told at c (sum_type s.tags (value_type j.0) (value_type j.1.0)) x j.1.3 in
      sum_few at a b j.0 j.1.0 j.1.1 j.1.2 (type_same a j.0 h.0 pn.0 j.1.1) (type_same b j.1.0 h.1 pn.1 j.1.2) (few_of a j.0 h.0 u.0 pn.0 qn.0 j.1.1) (few_of b j.1.0 h.1 u.1 pn.1 qn.1 j.1.2) x.ty told.0
  few_of (plain.Binary at binary.Sub a b) x h u p q k =
      let j = both_is (judged s a) (judged s b) (λ x y. binary_operand s.tags at binary.Sub x y) x k in
      let result = type_in s (plain.Binary at binary.Sub a b) in
      let pn = operator_names P s.tags at None binary.Sub result (value_type_in s a) (value_type_in s b) (fewer s a) (fewer s b) p in
      let qn = operator_names Q s.tags at None binary.Sub result (value_type_in s a) (value_type_in s b) (fewer s a) (fewer s b) q in
      let c = binary_constant at binary.Sub (is_unsigned (value_type j.0)) (either_unsigned j.0 j.1.0) j.0.constant j.1.0.constant in
      let told = typed_told at c (difference_type s.tags (value_type j.0) (value_type j.1.0)) x j.1.3 in
      difference_few at a b j.0 j.1.0 j.1.1 j.1.2 (type_same a j.0 h.0 pn.0 j.1.1) (type_same b j.1.0 h.1 pn.1 j.1.2) (few_of a j.0 h.0 u.0 pn.0 qn.0 j.1.1) (few_of b j.1.0 h.1 u.1 pn.1 qn.1 j.1.2) x.ty told.0
  few_of (plain.Assign at None a b) x h u p q k =
      let j = both_is (judged s a) (judged s b) (λ x y. assign_operand s.tags at None x y) x k in (tt, tt, few_of a j.0 h.0 u.0 p.0 q.0 j.1.1, few_of b j.1.0 h.1 u.1 p.1 q.1 j.1.2)
  few_of (plain.Assign at (Some binary.Mul) a b) x h u p q k = tt
  few_of (plain.Assign at (Some binary.Div) a b) x h u p q k = tt
  few_of (plain.Assign at (Some binary.Mod) a b) x h u p q k = tt
  few_of (plain.Assign at (Some binary.BitAnd) a b) x h u p q k = tt
  few_of (plain.Assign at (Some binary.BitOr) a b) x h u p q k = tt
  few_of (plain.Assign at (Some binary.BitXor) a b) x h u p q k = tt
  few_of (plain.Assign at (Some binary.Shl) a b) x h u p q k = tt
  few_of (plain.Assign at (Some binary.Shr) a b) x h u p q k = tt
  few_of (plain.Assign at (Some binary.And) a b) x h u p q k = absurd u.0
  few_of (plain.Assign at (Some binary.Or) a b) x h u p q k = absurd u.0
  few_of (plain.Assign at (Some binary.Eq) a b) x h u p q k = absurd u.0
  few_of (plain.Assign at (Some binary.Ne) a b) x h u p q k = absurd u.0
  few_of (plain.Assign at (Some binary.Lt) a b) x h u p q k = absurd u.0
  few_of (plain.Assign at (Some binary.Gt) a b) x h u p q k = absurd u.0
  few_of (plain.Assign at (Some binary.Le) a b) x h u p q k = absurd u.0
  few_of (plain.Assign at (Some binary.Ge) a b) x h u p q k = absurd u.0
  few_of (plain.Assign at (Some binary.Add) a b) x h u p q k =
      let j = both_is (judged s a) (judged s b) (λ x y. assign_operand s.tags at (Some binary.Add) x y) x k in
      let pn = assignment_names P s.tags at None binary.Add (type_in s a) (value_type_in s b) (fewer s a) (fewer s b) p in
      let qn = assignment_names Q s.tags at None binary.Add (type_in s a) (value_type_in s b) (fewer s a) (fewer s b) q in
      let is = assigned s.tags at binary.Add j.0 j.1.0 x j.1.3 in
      let place = place_type a j.0 j.1.1 is.scalar in
      let value : value_type_in s b ≡ value_type j.1.0 = ap (λ z. decayed (operand_type z)) j.1.2 in
      let ta = type_same a j.0 h.0 pn.0 j.1.1 in
      let tb = type_same b j.1.0 h.1 pn.1 j.1.2 in
      by_if valued s' (is_wide_pointer s.tags (type_in s a)) _ _ (λ w. tt)
      (λ w. (
        tt,
        (
          narrow_there (type_in s a) (type_in s' (fewer s a)) ta (narrow (type_in s a) w (λ z. subst (λ t. is_element_pointer s.tags t ≡ true) (sym place) (sum_left s.tags (value_type j.0) (value_type j.1.0) is.result is.gives (subst (λ t. is_pointer t ≡ true) place z)))),
          narrow_there (value_type_in s b) (value_type_in s' (fewer s b)) (ap decayed tb) (λ z. absurd (adds at j.0 j.1.0 x is (subst (λ t. is_pointer t ≡ true) value z))),
        ),
        few_of a j.0 h.0 u.1 pn.0 qn.0 j.1.1,
        few_of b j.1.0 h.1 u.2 pn.1 qn.1 j.1.2,
      ))
  few_of (plain.Assign at (Some binary.Sub) a b) x h u p q k =
      let j = both_is (judged s a) (judged s b) (λ x y. assign_operand s.tags at (Some binary.Sub) x y) x k in
      let pn = assignment_names P s.tags at None binary.Sub (type_in s a) (value_type_in s b) (fewer s a) (fewer s b) p in
      let qn = assignment_names Q s.tags at None binary.Sub (type_in s a) (value_type_in s b) (fewer s a) (fewer s b) q in
      let is = assigned s.tags at binary.Sub j.0 j.1.0 x j.1.3 in
      let place = place_type a j.0 j.1.1 is.scalar in
      let value : value_type_in s b ≡ value_type j.1.0 = ap (λ z. decayed (operand_type z)) j.1.2 in
      let ta = type_same a j.0 h.0 pn.0 j.1.1 in
      let tb = type_same b j.1.0 h.1 pn.1 j.1.2 in
      by_if valued s' (is_wide_pointer s.tags (type_in s a)) _ _ (λ w. tt)
      (λ w. (
        tt,
        (
          narrow_there (type_in s a) (type_in s' (fewer s a)) ta (narrow (type_in s a) w (λ z. subst (λ t. is_element_pointer s.tags t ≡ true) (sym place) (difference_left s.tags (value_type j.0) (value_type j.1.0) is.result is.gives (subst (λ t. is_pointer t ≡ true) place z)))),
          narrow_there (value_type_in s b) (value_type_in s' (fewer s b)) (ap decayed tb) (λ z. absurd (takes at j.0 j.1.0 x is (subst (λ t. is_pointer t ≡ true) value z))),
        ),
        few_of a j.0 h.0 u.1 pn.0 qn.0 j.1.1,
        few_of b j.1.0 h.1 u.2 pn.1 qn.1 j.1.2,
      ))
  few_of (plain.Cond at a b c) x h u p q k =
      let j = three_is (judged s a) (judged s b) (judged s c) (λ x y z. choice_operand at x y z) x k in
      (few_of a j.0 h.0 u.0 p.0 q.0 j.1.1.1, few_of b j.1.0 h.1 u.1 p.1 q.1 j.1.1.2, few_of c j.1.1.0 h.2 u.2 p.2 q.2 j.1.1.3)
  few_of (plain.Comma at a b) x h u p q k =
      let j = both_is (judged s a) (judged s b) (λ x y. comma_operand at x y) x k in (few_of a j.0 h.0 u.0 p.0 q.0 j.1.1, few_of b j.1.0 h.1 u.1 p.1 q.1 j.1.2)
  few_of (plain.Cast at t a) x h u p q k = let j = both_is (written s at t) (judged s a) (λ u x. cast_operand at u x) x k in few_of a j.1.0 h u p.1 q.1 j.1.2
  few_of (plain.SizeTy at t) x h u p q k = tt
  few_of (plain.SizeOf at a) x h u p q k = tt
  few_of (plain.Index at a b) x h u p q k =
      let j = both_is (judged s a) (judged s b) (λ x y. index_operand s.tags at x y) x k in
      let pn = element_names P s.tags at (value_type_in s a) (value_type_in s b) (fewer s a) (fewer s b) p in
      let qn = element_names Q s.tags at (value_type_in s a) (value_type_in s b) (fewer s a) (fewer s b) q in
      let is = index_pointed s.tags at j.0 j.1.0 x j.1.3 in
      let ta = type_same a j.0 h.0 pn.0 j.1.1 in
      let tb = type_same b j.1.0 h.1 pn.1 j.1.2 in
      let fa = few_of a j.0 h.0 u.0 pn.0 qn.0 j.1.1 in
      let fb = few_of b j.1.0 h.1 u.1 pn.1 qn.1 j.1.2 in
      let left : value_type j.0 ≡ value_type_in s a = sym (ap (λ z. decayed (operand_type z)) j.1.1) in
      let right : value_type j.1.0 ≡ value_type_in s b = sym (ap (λ z. decayed (operand_type z)) j.1.2) in
      let sum : sum_type s.tags (value_type_in s a) (value_type_in s b) ≡ Some (type.Pointer is.to) = subst (λ z. sum_type s.tags z (value_type_in s b) ≡ Some (type.Pointer is.to)) left (subst (λ z. sum_type s.tags (value_type j.0) z ≡ Some (type.Pointer is.to)) right is.sum) in
      by_if valued s' (is_wide_pointer s.tags (value_type_in s a) || is_wide_pointer s.tags (value_type_in s b)) (plain.Unary at unary.Deref (sum_tree s.tags at (value_type_in s a) (value_type_in s b) (fewer s a) (fewer s b))) (plain.Index at (fewer s a) (fewer s b))
      (λ w. (tt, sum_few at a b j.0 j.1.0 j.1.1 j.1.2 ta tb fa fb (type.Pointer is.to) is.sum))
      (λ w. (
      let apart = or_false (is_wide_pointer s.tags (value_type_in s a)) (is_wide_pointer s.tags (value_type_in s b)) w in
      let same : fewer s (plain.Index at a b) ≡ plain.Index at (fewer s a) (fewer s b) = ap (λ (z : Bool). if z then plain.Unary at unary.Deref (sum_tree s.tags at (value_type_in s a) (value_type_in s b) (fewer s a) (fewer s b)) else plain.Index at (fewer s a) (fewer s b)) w in
      let ty : type_in s' (plain.Index at (fewer s a) (fewer s b)) ≡ is.to = ap (λ z. type_in s' z) (sym same) ∙ (type_same (plain.Index at a b) x h p k ∙ (ap operand_type k ∙ is.ty)) in (
        narrow_there (value_type_in s a) (value_type_in s' (fewer s a)) (ap decayed ta) (narrow (value_type_in s a) apart.0 (λ z. sum_left s.tags (value_type_in s a) (value_type_in s b) (type.Pointer is.to) sum z)),
        narrow_there (value_type_in s b) (value_type_in s' (fewer s b)) (ap decayed tb) (narrow (value_type_in s b) apart.1 (λ z. (sum_right s.tags (value_type_in s a) (value_type_in s b) (type.Pointer is.to) sum z).0)),
        subst (λ z. IsObjectType z) (sym ty) (pointed_no_function is.to is.object),
        fa,
        fb,
      )))
  few_of (plain.Call at f es) x h u p q k = call_few valued s' s at (fewer s f) (format_of es) (fewer_all s es)
  few_of (plain.Member at a m) x h u p q k =
      let j = after_is (judged s a) (λ x. member_operand s.tags at m x.ty) x k in
      (subst (λ z. IsObjectType z) (sym (type_same (plain.Member at a m) x h p k ∙ ap operand_type k)) (member_object at m j.0.ty x j.2), few_of a j.0 h u p q j.1)
  few_of (plain.Arrow at a m) x h u p q k =
      let j = after_is (judged s a) (λ x. arrow_operand s.tags at m (value_type x)) x k in
      (subst (λ z. IsObjectType z) (sym (type_same (plain.Arrow at a m) x h p k ∙ ap operand_type k)) (arrow_object at m (value_type j.0) x j.2), few_of a j.0 h u p q j.1)

pub operators_are_few : OperatorsAreFew
operators_are_few valued s s' e x tags can known objects h u p q k = few_of valued s s' tags can known objects e x h u p q k
