-- Rules of operators take operands that are as good.
use Rattle.std.proofs.Common.{◌≡◌, ℕ, suc, List, [], ◌∷◌, length, Option, Some, None, Bool, true, false, refl, sym, ap, ap₂, ◌∙◌, subst, ◌⊎◌, inl, inr}
use Rattle.std.specs.Prelude.{◌&&◌, ◌||◌, ◌==◌, not, is_some, Ok, Err, if◌then◌else◌}
use Rattle.std.specs.Option.{option_map, option_map_or}
use Rattle.c_syntax.specs.declared.tree.UnOp.{UnOp}
use Rattle.c_syntax.specs.declared.tree.BinOp.{BinOp}
use Rattle.c_syntax.specs.declared.tree.UnOp.TheVariants as unary
use Rattle.c_syntax.specs.declared.tree.BinOp.TheVariants as binary
use Rattle.c_types.specs.declared.fault.TypeFault.{TypeFault}
use Rattle.c_types.specs.declared.fault.TypeFault.TheVariants as fault
use Rattle.c_types.specs.Types as type
use Rattle.c_types.specs.Types.{CType, CTypes, NoType, MoreType, Tags, is_arithmetic, is_unsigned, is_void, is_pointer, is_scalar, is_struct, is_null, same_type, is_void_pointer, is_object_pointer, decayed, promoted, common_type, is_object_type}
use Rattle.c_types.specs.Constants.{Constant, NotConstant, Value, on_two, choice_constant, unary_constant, binary_constant}
use Rattle.c_types.specs.Refusals.{Judged, Rule, least_of, broken, keeping}
use Rattle.c_types.specs.Operands.{Other, Operand, operand, value_at, place_at, value_type, is_place, is_designator, is_zero, is_array, is_word_place, is_null_constant, is_condition, converts, can_equal, can_order, can_cast, when, or_else, sum_type, difference_type, number_type, binary_type, typed_or, either_unsigned, binary_operand, address_operand, pointed_operand, number_operand, unary_operand, step_operand, result_converts, assign_operand, choice_type, choice_operand, comma_operand, cast_operand, index_operand, argument_rules, count_of, function_call}
use Rattle.c_fewer_types.specs.AsGood.{IsAsGood, AreAsGood, JudgedAsGood, RulesTakeAsGood}

-- ---- what isn't a literal

-- an operand of a sort that is no literal is as good as another of its type
other_good : (at pos : ℕ) (t u : CType) (c d : Constant) → t ≡ u → IsAsGood (operand at t Other c) (operand pos u Other d)
other_good at pos t u c d e = record { ty = e; place = refl; designator = refl; zero = λ e. e; number = λ e. absurd (cc e) }

place_good : (at pos : ℕ) (t : CType) → IsAsGood (place_at at t) (place_at pos t)
place_good at pos t = record { ty = refl; place = refl; designator = refl; zero = λ e. e; number = λ e. absurd (cc e) }

ok_good : (a b : Operand) → IsAsGood a b → JudgedAsGood (Ok a) (Ok b)
ok_good a b g x e = let same : a ≡ x = cc e in (b, refl, subst (λ z. IsAsGood z b) same g)

-- ---- rules

-- each rule that the one keeps the other keeps
abbrev Follow : List Rule → List Rule → Type 0
Follow [] [] = Unit {0}
Follow (r ∷ rs) (q ∷ qs) = (r.0 ≡ true → q.0 ≡ true) × Follow rs qs
Follow _ _ = ⊥

rules_kept : (rs qs : List Rule) → Follow rs qs → broken rs ≡ None → broken qs ≡ None
rules_kept [] [] f e = refl
rules_kept [] (q ∷ qs) f e = absurd f
rules_kept (r ∷ rs) [] f e = absurd f
rules_kept (r ∷ rs) (q ∷ qs) f e = go r.0 refl (λ l. rules_kept rs qs f.1 l) e
  where
    first : q.0 ≡ true → broken qs ≡ None → broken (q ∷ qs) ≡ None
    first k l = ap (λ b. if b then broken qs else Some (least_of q.1 (broken qs))) k ∙ l

    go : (b : Bool) → r.0 ≡ b → (broken rs ≡ None → broken qs ≡ None) → (if b then broken rs else Some (least_of r.1 (broken rs))) ≡ None → broken (q ∷ qs) ≡ None
    go true k more l = first (f.0 k) (more l)
    go false k more l = absurd (cc l)

keeping_if_good : (rs qs : List Rule) (a b : Operand) → Follow rs qs → (broken rs ≡ None → IsAsGood a b) → JudgedAsGood (keeping rs a) (keeping qs b)
keeping_if_good rs qs a b f g x e = go (broken rs) refl e
  where
    go : (o : Option TypeFault) → broken rs ≡ o → option_map_or (λ e. Err e) o (Ok a) ≡ Ok x → (y : Operand) × (keeping qs b ≡ Ok y) × IsAsGood x y
    go None k l = let same : a ≡ x = cc l in (b, ap (λ o. option_map_or (λ e. Err e) o (Ok b)) (rules_kept rs qs f k), subst (λ z. IsAsGood z b) same (g k))
    go (Some d) k l = absurd (cc l)

keeping_good : (rs qs : List Rule) (a b : Operand) → Follow rs qs → IsAsGood a b → JudgedAsGood (keeping rs a) (keeping qs b)
keeping_good rs qs a b f g = keeping_if_good rs qs a b f (λ k. g)

-- ---- tests

or_follow : (x y u v : Bool) → (x ≡ true → y ≡ true) → (u ≡ true → v ≡ true) → (x || u) ≡ true → (y || v) ≡ true
or_follow true y u v f g e = ap (λ z. z || v) (f refl)
or_follow false true u v f g e = refl
or_follow false false u v f g e = g e

and_follow : (x y u v : Bool) → (x ≡ true → y ≡ true) → (u ≡ true → v ≡ true) → (x && u) ≡ true → (y && v) ≡ true
and_follow true y u v f g e = ap (λ z. z && v) (f refl) ∙ g e
and_follow false y u v f g e = absurd (cc e)

same_follow : (x y : Bool) → x ≡ y → x ≡ true → y ≡ true
same_follow x y e k = sym e ∙ k

-- ---- conditions

module _ (a b : Operand) (g : IsAsGood a b) where
  null_follows : is_null_constant a ≡ true → is_null_constant b ≡ true
  null_follows e = go (is_zero a.sort) (is_zero b.sort) (is_null a.ty) (is_null b.ty) g.zero (ap is_null g.ty) e
    where
      go : (x y u v : Bool) → (x ≡ true → y ≡ true) → u ≡ v → (x || u) ≡ true → (y || v) ≡ true
      go true y u v f k e = ap (λ z. z || v) (f refl)
      go false true u v f k e = refl
      go false false u v f k e = sym k ∙ e

  place_follows : is_word_place a ≡ true → is_word_place b ≡ true
  place_follows e = sym (ap₂ (λ p t. p && is_scalar t) g.place g.ty) ∙ e

  condition_follows : is_condition a ≡ true → is_condition b ≡ true
  condition_follows e = sym (ap (λ t. is_scalar (decayed t) || is_null t) g.ty) ∙ e

  converts_follows : (t : CType) → converts a t ≡ true → converts b t ≡ true
  converts_follows t e =
      go (plain a.ty) (is_null_constant a) (plain b.ty) (is_null_constant b) (is_pointer t) (ap plain g.ty) null_follows e
    where
      plain : CType → Bool
      plain u = (is_arithmetic (decayed u) && is_arithmetic t) || (is_pointer t && same_type (decayed u) t) || (is_void_pointer (decayed u) && is_object_pointer t) || (is_object_pointer (decayed u) && is_void_pointer t)

      go : (x n y m p : Bool) → x ≡ y → (n ≡ true → m ≡ true) → (x || (n && p)) ≡ true → (y || (m && p)) ≡ true
      go true n y m p k f e = ap (λ z. z || (m && p)) (sym k)
      go false n true m p k f e = refl
      go false true false m p k f e = ap (λ z. z && p) (f refl) ∙ e
      go false false false m p k f e = absurd (cc e)

  value_same : value_type a ≡ value_type b
  value_same = ap decayed g.ty

-- ---- types that may be missing

-- what the one has the other has
record Follows (o p : Option CType) : Type 0 where
  follow : (t : CType) → o ≡ Some t → p ≡ Some t

path_follows : (o p : Option CType) → o ≡ p → Follows o p
path_follows o p e = record { follow = λ t k. sym e ∙ k }

when_follows : (x y : Bool) (t : CType) → (x ≡ true → y ≡ true) → Follows (when x t) (when y t)
when_follows true y t f = record { follow = λ u k. ap (λ z. when z t) (f refl) ∙ k }
when_follows false y t f = record { follow = λ u k. absurd (cc k) }

equal_follows : (a b c d : Operand) → IsAsGood a b → IsAsGood c d → can_equal a c ≡ true → can_equal b d ≡ true
equal_follows a b c d g h =
    or_follow _ _ _ _
    (or_follow _ _ _ _
    (or_follow _ _ _ _ (same_follow _ _ (λ i. is_arithmetic (value_same a b g i) && is_arithmetic (value_same c d h i)))
    (and_follow _ _ _ _ (same_follow _ _ (ap is_pointer (value_same a b g))) (λ e. subst (λ t. converts d t ≡ true) (value_same a b g) (converts_follows c d h (value_type a) e))))
    (and_follow _ _ _ _ (same_follow _ _ (ap is_pointer (value_same c d h))) (λ e. subst (λ t. converts b t ≡ true) (value_same c d h) (converts_follows a b g (value_type c) e))))
    (and_follow _ _ _ _ (null_follows a b g) (null_follows c d h))

binary_follows : (tags : Tags) (op : BinOp) (a b c d : Operand) → IsAsGood a b → IsAsGood c d → Follows (binary_type tags op a c) (binary_type tags op b d)
binary_follows tags binary.Or a b c d g h = when_follows _ _ type.Int (and_follow _ _ _ _ (condition_follows a b g) (condition_follows c d h))
binary_follows tags binary.And a b c d g h = when_follows _ _ type.Int (and_follow _ _ _ _ (condition_follows a b g) (condition_follows c d h))
binary_follows tags binary.Eq a b c d g h = when_follows _ _ type.Int (equal_follows a b c d g h)
binary_follows tags binary.Ne a b c d g h = when_follows _ _ type.Int (equal_follows a b c d g h)
binary_follows tags binary.Lt a b c d g h = path_follows _ _ (λ i. when (can_order (value_same a b g i) (value_same c d h i)) type.Int)
binary_follows tags binary.Gt a b c d g h = path_follows _ _ (λ i. when (can_order (value_same a b g i) (value_same c d h i)) type.Int)
binary_follows tags binary.Le a b c d g h = path_follows _ _ (λ i. when (can_order (value_same a b g i) (value_same c d h i)) type.Int)
binary_follows tags binary.Ge a b c d g h = path_follows _ _ (λ i. when (can_order (value_same a b g i) (value_same c d h i)) type.Int)
binary_follows tags binary.Shl a b c d g h = path_follows _ _ (λ i. number_type (value_same a b g i) (value_same c d h i) (value_same a b g i))
binary_follows tags binary.Shr a b c d g h = path_follows _ _ (λ i. number_type (value_same a b g i) (value_same c d h i) (value_same a b g i))
binary_follows tags binary.Add a b c d g h = path_follows _ _ (λ i. sum_type tags (value_same a b g i) (value_same c d h i))
binary_follows tags binary.Sub a b c d g h = path_follows _ _ (λ i. difference_type tags (value_same a b g i) (value_same c d h i))
binary_follows tags op a b c d g h = path_follows _ _ (λ i. number_type (value_same a b g i) (value_same c d h i) (common_type (value_same a b g i) (value_same c d h i)))

-- ---- choices

-- the type of a choice of two that aren't both numbers, by their types and by which are null constants
abbrev others : CType → CType → Bool → Bool → Option CType
others t u m n =
    or_else (when (is_void t && is_void u) type.Void)
    (or_else (when (is_pointer t && (same_type t u || n)) t)
    (or_else (when (is_pointer u && m) u)
    (or_else (when ((is_void_pointer t && is_object_pointer u) || (is_object_pointer t && is_void_pointer u)) (type.Pointer type.Void))
    (when (m && n) type.Null))))

abbrev picked : CType → CType → Bool → Bool → Option CType
picked t u m n = or_else (number_type t u (common_type t u)) (others t u m n)

-- where no test is met there is no type
none_picked : (p v x y z w : Bool) (c t u : CType) → p ≡ false → v ≡ false → x ≡ false → y ≡ false → z ≡ false → w ≡ false
    → or_else (when p c) (or_else (when v type.Void) (or_else (when x t) (or_else (when y u) (or_else (when z (type.Pointer type.Void)) (when w type.Null))))) ≡ None
none_picked p v x y z w c t u a b d e f g = λ i. or_else (when (a i) c) (or_else (when (b i) type.Void) (or_else (when (d i) t) (or_else (when (e i) u) (or_else (when (f i) (type.Pointer type.Void)) (when (g i) type.Null)))))

right_false : (x y : Bool) → y ≡ false → (x && y) ≡ false
right_false true y e = e
right_false false y e = refl

both_false : (x y : Bool) → x ≡ false → y ≡ false → (x || y) ≡ false
both_false x y e f = ap₂ (λ a b. a || b) e f

-- a number is neither void nor a pointer
no_void : (t : CType) → is_arithmetic t ≡ true → is_void t ≡ false
no_void type.Int e = refl
no_void type.Unsigned e = refl
no_void type.Char e = refl
no_void type.UChar e = refl
no_void t e = absurd (cc e)

no_pointer : (t : CType) → is_arithmetic t ≡ true → is_pointer t ≡ false
no_pointer type.Int e = refl
no_pointer type.Unsigned e = refl
no_pointer type.Char e = refl
no_pointer type.UChar e = refl
no_pointer t e = absurd (cc e)

no_void_pointer : (t : CType) → is_arithmetic t ≡ true → is_void_pointer t ≡ false
no_void_pointer type.Int e = refl
no_void_pointer type.Unsigned e = refl
no_void_pointer type.Char e = refl
no_void_pointer type.UChar e = refl
no_void_pointer t e = absurd (cc e)

no_object_pointer : (t : CType) → is_arithmetic t ≡ true → is_object_pointer t ≡ false
no_object_pointer type.Int e = refl
no_object_pointer type.Unsigned e = refl
no_object_pointer type.Char e = refl
no_object_pointer type.UChar e = refl
no_object_pointer t e = absurd (cc e)

pointer_differs : (t u : CType) → is_arithmetic u ≡ true → (is_pointer t && (same_type t u || false)) ≡ false
pointer_differs (type.Pointer t) type.Int e = refl
pointer_differs (type.Pointer t) type.Unsigned e = refl
pointer_differs (type.Pointer t) type.Char e = refl
pointer_differs (type.Pointer t) type.UChar e = refl
pointer_differs (type.Pointer t) u e = absurd (cc e)
pointer_differs t u e = refl

none_of_left : (t u : CType) (n : Bool) → (is_arithmetic t && is_arithmetic u) ≡ false → is_arithmetic t ≡ true → picked t u false n ≡ None
none_of_left t u n e k =
    none_picked _ _ _ _ _ _ (common_type t u) t u e (ap (λ z. z && is_void u) (no_void t k)) (ap (λ z. z && (same_type t u || n)) (no_pointer t k)) (right_false (is_pointer u) false refl)
    (both_false _ _ (ap (λ z. z && is_object_pointer u) (no_void_pointer t k)) (ap (λ z. z && is_void_pointer u) (no_object_pointer t k))) refl

none_of_right : (t u : CType) (m : Bool) → (is_arithmetic t && is_arithmetic u) ≡ false → is_arithmetic u ≡ true → picked t u m false ≡ None
none_of_right t u m e k =
    none_picked _ _ _ _ _ _ (common_type t u) t u e (right_false (is_void t) (is_void u) (no_void u k)) (pointer_differs t u k) (ap (λ z. z && m) (no_pointer u k))
    (both_false _ _ (right_false (is_void_pointer t) (is_object_pointer u) (no_object_pointer u k)) (right_false (is_object_pointer t) (is_void_pointer u) (no_void_pointer u k))) (right_false m false refl)

-- where both are numbers it is theirs, whichever are null constants
numbers_picked : (t u : CType) (m n : Bool) → (is_arithmetic t && is_arithmetic u) ≡ true → picked t u m n ≡ Some (common_type t u)
numbers_picked t u m n e = ap (λ z. or_else (when z (common_type t u)) (others t u m n)) e

picked_left : (t u : CType) (m m' n : Bool) → (m ≡ true → m' ≡ true) → (m' ≡ true → (m ≡ true) ⊎ (is_arithmetic t ≡ true)) → Follows (picked t u m n) (picked t u m' n)
picked_left t u true true n f g = record { follow = λ r k. k }
picked_left t u true false n f g = absurd (cc (f refl))
picked_left t u false false n f g = record { follow = λ r k. k }
picked_left t u false true n f g = record { follow = λ r k. of_sort (g refl) r k (is_arithmetic t && is_arithmetic u) refl }
  where
    of_sort : (false ≡ true) ⊎ (is_arithmetic t ≡ true) → (r : CType) → picked t u false n ≡ Some r → (p : Bool) → (is_arithmetic t && is_arithmetic u) ≡ p → picked t u true n ≡ Some r
    of_sort (inl e) r k p l = absurd (cc e)
    of_sort (inr e) r k true l = numbers_picked t u true n l ∙ (sym (numbers_picked t u false n l) ∙ k)
    of_sort (inr e) r k false l = absurd (cc (sym (none_of_left t u n l e) ∙ k))

picked_right : (t u : CType) (m n n' : Bool) → (n ≡ true → n' ≡ true) → (n' ≡ true → (n ≡ true) ⊎ (is_arithmetic u ≡ true)) → Follows (picked t u m n) (picked t u m n')
picked_right t u m true true f g = record { follow = λ r k. k }
picked_right t u m true false f g = absurd (cc (f refl))
picked_right t u m false false f g = record { follow = λ r k. k }
picked_right t u m false true f g = record { follow = λ r k. of_sort (g refl) r k (is_arithmetic t && is_arithmetic u) refl }
  where
    of_sort : (false ≡ true) ⊎ (is_arithmetic u ≡ true) → (r : CType) → picked t u m false ≡ Some r → (p : Bool) → (is_arithmetic t && is_arithmetic u) ≡ p → picked t u m true ≡ Some r
    of_sort (inl e) r k p l = absurd (cc e)
    of_sort (inr e) r k true l = numbers_picked t u m true l ∙ (sym (numbers_picked t u m false l) ∙ k)
    of_sort (inr e) r k false l = absurd (cc (sym (none_of_right t u m l e) ∙ k))

-- a null constant that isn't one in the first is a number
null_or_number : (a b : Operand) → IsAsGood a b → is_null_constant b ≡ true → (is_null_constant a ≡ true) ⊎ (is_arithmetic (value_type b) ≡ true)
null_or_number a b g e = go (is_zero b.sort) refl e
  where
    decayed_number : (t : CType) → is_arithmetic t ≡ true → is_arithmetic (decayed t) ≡ true
    decayed_number (type.Array t n) e = absurd (cc e)
    decayed_number type.Int e = refl
    decayed_number type.Unsigned e = refl
    decayed_number type.Char e = refl
    decayed_number type.UChar e = refl
    decayed_number t e = absurd (cc e)

    null_type : (x y : Bool) → y ≡ true → (x || y) ≡ true
    null_type true y e = refl
    null_type false y e = e

    go : (x : Bool) → is_zero b.sort ≡ x → (x || is_null b.ty) ≡ true → (is_null_constant a ≡ true) ⊎ (is_arithmetic (value_type b) ≡ true)
    go true k e = inr (decayed_number b.ty (g.number k))
    go false k e = inl (null_type (is_zero a.sort) (is_null a.ty) (ap is_null g.ty ∙ e))

choice_follows : (a b c d : Operand) → IsAsGood a b → IsAsGood c d → Follows (choice_type a c) (choice_type b d)
choice_follows a b c d g h = record {
  follow = λ r k.
      let types : picked (value_type b) (value_type d) (is_null_constant a) (is_null_constant c) ≡ Some r = sym (λ i. picked (value_same a b g i) (value_same c d h i) (is_null_constant a) (is_null_constant c)) ∙ k in
      let left = (picked_left (value_type b) (value_type d) (is_null_constant a) (is_null_constant b) (is_null_constant c) (null_follows a b g) (null_or_number a b g)).follow r types in
      (picked_right (value_type b) (value_type d) (is_null_constant b) (is_null_constant c) (is_null_constant d) (null_follows c d h) (null_or_number c d h)).follow r left;
}

-- ---- operators

missing_good : (r : Judged Operand) (e : TypeFault) → JudgedAsGood (Err e) r
missing_good r e x k = absurd (cc k)

pointed_good : (tags : Tags) (at pos : ℕ) (t : CType) → JudgedAsGood (pointed_operand tags at t) (pointed_operand tags pos t)
pointed_good tags at pos (type.Pointer (type.Function t ts)) = ok_good (value_at at (type.Pointer (type.Function t ts))) (value_at pos (type.Pointer (type.Function t ts))) (other_good at pos _ _ NotConstant NotConstant refl)
pointed_good tags at pos (type.Pointer t) =
    keeping_good ((is_object_type tags t, fault.Mismatch at) ∷ []) ((is_object_type tags t, fault.Mismatch pos) ∷ []) (place_at at t) (place_at pos t) ((λ e. e), tt) (place_good at pos t)
pointed_good tags at pos t = missing_good _ (fault.Mismatch at)

pointed_same : (tags : Tags) (at pos : ℕ) (t u : CType) → t ≡ u → JudgedAsGood (pointed_operand tags at t) (pointed_operand tags pos u)
pointed_same tags at pos t u e = subst (λ z. JudgedAsGood (pointed_operand tags at t) (pointed_operand tags pos z)) e (pointed_good tags at pos t)

address_good : (at pos : ℕ) (a b : Operand) → IsAsGood a b → JudgedAsGood (address_operand at a) (address_operand pos b)
address_good at pos a b g = go (is_designator a.sort) (is_designator b.sort) g.designator
  where
    go : (x y : Bool) → x ≡ y
        → JudgedAsGood (if x then Ok (value_at at a.ty) else keeping ((is_place a.sort || is_array a.ty, fault.NotLvalue a.pos) ∷ []) (value_at at (type.Pointer a.ty)))
        (if y then Ok (value_at pos b.ty) else keeping ((is_place b.sort || is_array b.ty, fault.NotLvalue b.pos) ∷ []) (value_at pos (type.Pointer b.ty)))
    go true true e = ok_good (value_at at a.ty) (value_at pos b.ty) (other_good at pos a.ty b.ty NotConstant NotConstant g.ty)
    go true false e = absurd (cc e)
    go false true e = absurd (cc e)
    go false false e =
        keeping_good ((is_place a.sort || is_array a.ty, fault.NotLvalue a.pos) ∷ []) ((is_place b.sort || is_array b.ty, fault.NotLvalue b.pos) ∷ []) (value_at at (type.Pointer a.ty)) (value_at pos (type.Pointer b.ty))
        (same_follow (is_place a.sort || is_array a.ty) (is_place b.sort || is_array b.ty) (λ i. g.place i || is_array (g.ty i)), tt) (other_good at pos (type.Pointer a.ty) (type.Pointer b.ty) NotConstant NotConstant (ap type.Pointer g.ty))

number_good : (at pos : ℕ) (op : UnOp) (a b : Operand) → IsAsGood a b → JudgedAsGood (number_operand at op a) (number_operand pos op b)
number_good at pos op a b g =
    keeping_good ((is_arithmetic (value_type a), fault.Mismatch at) ∷ []) ((is_arithmetic (value_type b), fault.Mismatch pos) ∷ []) (operand at (promoted (value_type a)) Other (unary_constant op a.constant)) (operand pos (promoted (value_type b)) Other (unary_constant op b.constant))
    (same_follow (is_arithmetic (value_type a)) (is_arithmetic (value_type b)) (ap is_arithmetic (value_same a b g)), tt) (other_good at pos (promoted (value_type a)) (promoted (value_type b)) _ _ (ap promoted (value_same a b g)))

unary_good : (tags : Tags) (at pos : ℕ) (op : UnOp) (a b : Operand) → IsAsGood a b → JudgedAsGood (unary_operand tags at op a) (unary_operand tags pos op b)
unary_good tags at pos unary.Address a b g = address_good at pos a b g
unary_good tags at pos unary.Deref a b g = pointed_same tags at pos (value_type a) (value_type b) (value_same a b g)
unary_good tags at pos unary.Not a b g =
    keeping_good ((is_condition a, fault.Mismatch at) ∷ []) ((is_condition b, fault.Mismatch pos) ∷ []) (operand at type.Int Other (unary_constant unary.Not a.constant)) (operand pos type.Int Other (unary_constant unary.Not b.constant))
    (condition_follows a b g, tt) (other_good at pos type.Int type.Int _ _ refl)
unary_good tags at pos op a b g = number_good at pos op a b g

step_good : (tags : Tags) (at pos : ℕ) (a b : Operand) → IsAsGood a b → JudgedAsGood (step_operand tags at a) (step_operand tags pos b)
step_good tags at pos a b g =
    keeping_good ((is_word_place a, fault.NotLvalue a.pos) ∷ (is_some (sum_type tags (value_type a) type.Int), fault.Mismatch at) ∷ []) ((is_word_place b, fault.NotLvalue b.pos) ∷ (is_some (sum_type tags (value_type b) type.Int), fault.Mismatch pos) ∷ [])
    (value_at at (value_type a)) (value_at pos (value_type b))
    (place_follows a b g, (same_follow (is_some (sum_type tags (value_type a) type.Int)) (is_some (sum_type tags (value_type b) type.Int)) (ap (λ t. is_some (sum_type tags t type.Int)) (value_same a b g)), tt))
    (other_good at pos (value_type a) (value_type b) NotConstant NotConstant (value_same a b g))

typed_good : (at pos : ℕ) (c d : Constant) (o p : Option CType) → Follows o p → JudgedAsGood (typed_or at (option_map (λ t. operand at t Other c) o)) (typed_or pos (option_map (λ t. operand pos t Other d) p))
typed_good at pos c d None p f = missing_good _ (fault.Mismatch at)
typed_good at pos c d (Some t) p f =
    subst (λ z. JudgedAsGood (Ok (operand at t Other c)) (typed_or pos (option_map (λ t. operand pos t Other d) z))) (sym (f.follow t refl)) (ok_good (operand at t Other c) (operand pos t Other d) (other_good at pos t t c d refl))

binary_good : (tags : Tags) (at pos : ℕ) (op : BinOp) (a b c d : Operand) → IsAsGood a b → IsAsGood c d → JudgedAsGood (binary_operand tags at op a c) (binary_operand tags pos op b d)
binary_good tags at pos op a b c d g h =
    typed_good at pos (binary_constant at op (is_unsigned (value_type a)) (either_unsigned a c) a.constant c.constant) (binary_constant pos op (is_unsigned (value_type b)) (either_unsigned b d) b.constant d.constant) (binary_type tags op a c) (binary_type tags op b d)
    (binary_follows tags op a b c d g h)

-- a result that converts
result_follows : (at pos : ℕ) (o p : Option CType) (t u : CType) → Follows o p → t ≡ u → result_converts at o t ≡ true → result_converts pos p u ≡ true
result_follows at pos None p t u f e k = absurd (cc k)
result_follows at pos (Some r) p t u f e k = ap (λ z. result_converts pos z u) (f.follow r refl) ∙ subst (λ z. converts (value_at at r) z ≡ true) e k

assign_good : (tags : Tags) (at pos : ℕ) (op : Option BinOp) (a b c d : Operand) → IsAsGood a b → IsAsGood c d → JudgedAsGood (assign_operand tags at op a c) (assign_operand tags pos op b d)
assign_good tags at pos None a b c d g h =
    keeping_good ((is_word_place a, fault.NotLvalue a.pos) ∷ (converts c a.ty, fault.Mismatch at) ∷ []) ((is_word_place b, fault.NotLvalue b.pos) ∷ (converts d b.ty, fault.Mismatch pos) ∷ []) (value_at at a.ty) (value_at pos b.ty)
    (place_follows a b g, ((λ e. subst (λ t. converts d t ≡ true) g.ty (converts_follows c d h a.ty e)), tt)) (other_good at pos a.ty b.ty NotConstant NotConstant g.ty)
assign_good tags at pos (Some op) a b c d g h =
    keeping_good ((is_word_place a, fault.NotLvalue a.pos) ∷ (result_converts at (binary_type tags op a c) a.ty, fault.Mismatch at) ∷ []) ((is_word_place b, fault.NotLvalue b.pos) ∷ (result_converts pos (binary_type tags op b d) b.ty, fault.Mismatch pos) ∷ [])
    (value_at at a.ty) (value_at pos b.ty) (place_follows a b g, (result_follows at pos (binary_type tags op a c) (binary_type tags op b d) a.ty b.ty (binary_follows tags op a b c d g h) g.ty, tt)) (other_good at pos a.ty b.ty NotConstant NotConstant g.ty)

-- a choice of a type that isn't missing
some_follows : (o p : Option CType) → Follows o p → is_some o ≡ true → is_some p ≡ true
some_follows None p f e = absurd (cc e)
some_follows (Some t) p f e = ap is_some (f.follow t refl)

choice_good : (at pos : ℕ) (a b c d e f : Operand) → IsAsGood a b → IsAsGood c d → IsAsGood e f → JudgedAsGood (choice_operand at a c e) (choice_operand pos b d f)
choice_good at pos a b c d e f g h i =
    keeping_if_good ((is_condition a, fault.Mismatch a.pos) ∷ (is_some (choice_type c e), fault.Mismatch at) ∷ []) ((is_condition b, fault.Mismatch b.pos) ∷ (is_some (choice_type d f), fault.Mismatch pos) ∷ [])
    (operand at (option_map_or (λ t. t) (choice_type c e) type.Void) Other (choice_constant a.constant c.constant e.constant)) (operand pos (option_map_or (λ t. t) (choice_type d f) type.Void) Other (choice_constant b.constant d.constant f.constant))
    (condition_follows a b g, (some_follows (choice_type c e) (choice_type d f) (choice_follows c d e f h i), tt))
    (λ k. other_good at pos _ _ _ _ (same_type_picked (choice_type c e) (choice_type d f) (choice_follows c d e f h i) (is_condition a) k))
  where
    same_type_picked : (o p : Option CType) → Follows o p → (x : Bool) → broken ((x, fault.Mismatch a.pos) ∷ (is_some o, fault.Mismatch at) ∷ []) ≡ None → option_map_or (λ t. t) o type.Void ≡ option_map_or (λ t. t) p type.Void
    same_type_picked (Some t) p f x k = sym (ap (λ z. option_map_or (λ t. t) z type.Void) (f.follow t refl))
    same_type_picked None p f true k = absurd (cc k)
    same_type_picked None p f false k = absurd (cc k)

comma_good : (at pos : ℕ) (a b c d : Operand) → IsAsGood c d → JudgedAsGood (comma_operand at a c) (comma_operand pos b d)
comma_good at pos a b c d h =
    keeping_good ((not (is_struct c.ty), fault.Mismatch at) ∷ []) ((not (is_struct d.ty), fault.Mismatch pos) ∷ []) (operand at (value_type c) Other (on_two a.constant c.constant (λ x y. Value y))) (operand pos (value_type d) Other (on_two b.constant d.constant (λ x y. Value y)))
    (same_follow (not (is_struct c.ty)) (not (is_struct d.ty)) (ap (λ t. not (is_struct t)) h.ty), tt) (other_good at pos (value_type c) (value_type d) _ _ (value_same c d h))

cast_good : (at pos : ℕ) (t : CType) (a b : Operand) → IsAsGood a b → JudgedAsGood (cast_operand at t a) (cast_operand pos t b)
cast_good at pos t a b g =
    keeping_good ((can_cast (value_type a) t, fault.Mismatch at) ∷ []) ((can_cast (value_type b) t, fault.Mismatch pos) ∷ []) (operand at t Other (if is_arithmetic t then a.constant else NotConstant)) (operand pos t Other (if is_arithmetic t then b.constant else NotConstant))
    (same_follow (can_cast (value_type a) t) (can_cast (value_type b) t) (ap (λ u. can_cast u t) (value_same a b g)), tt) (other_good at pos t t _ _ refl)

index_good : (tags : Tags) (at pos : ℕ) (a b c d : Operand) → IsAsGood a b → IsAsGood c d → JudgedAsGood (index_operand tags at a c) (index_operand tags pos b d)
index_good tags at pos a b c d g h =
    subst (λ z. JudgedAsGood (index_operand tags at a c) (option_map_or (λ t. pointed_operand tags pos t) z (Err (fault.Mismatch pos)))) (λ i. sum_type tags (value_same a b g i) (value_same c d h i)) (go (sum_type tags (value_type a) (value_type c)))
  where
    go : (o : Option CType) → JudgedAsGood (option_map_or (λ t. pointed_operand tags at t) o (Err (fault.Mismatch at))) (option_map_or (λ t. pointed_operand tags pos t) o (Err (fault.Mismatch pos)))
    go None = missing_good _ (fault.Mismatch at)
    go (Some t) = pointed_good tags at pos t

-- ---- calls

same_length : (xs ys : List Operand) → AreAsGood xs ys → length xs ≡ length ys
same_length [] [] g = refl
same_length (x ∷ xs) (y ∷ ys) g = ap (λ n. suc n) (same_length xs ys g.1)
same_length [] (y ∷ ys) g = absurd g
same_length (x ∷ xs) [] g = absurd g

arguments_follow : (ts : CTypes) (xs ys : List Operand) → AreAsGood xs ys → Follow (argument_rules ts xs) (argument_rules ts ys)
arguments_follow NoType xs ys g = tt
arguments_follow (MoreType t ts) [] [] g = tt
arguments_follow (MoreType t ts) (x ∷ xs) (y ∷ ys) g = (converts_follows x y g.0 t, arguments_follow ts xs ys g.1)
arguments_follow (MoreType t ts) [] (y ∷ ys) g = absurd g
arguments_follow (MoreType t ts) (x ∷ xs) [] g = absurd g

call_good : (at pos : ℕ) (t : CType) (xs ys : List Operand) → AreAsGood xs ys → JudgedAsGood (function_call at true t xs) (function_call pos true t ys)
call_good at pos (type.Function result ts) xs ys g =
    keeping_good ((true && count_of ts == length xs, fault.BadCall at) ∷ argument_rules ts xs) ((true && count_of ts == length ys, fault.BadCall pos) ∷ argument_rules ts ys) (value_at at result) (value_at pos result)
    (same_follow (count_of ts == length xs) (count_of ts == length ys) (ap (λ n. count_of ts == n) (same_length xs ys g)), arguments_follow ts xs ys g) (other_good at pos result result NotConstant NotConstant refl)
call_good at pos t xs ys g = missing_good _ (fault.BadCall at)

pub rules_take_as_good : RulesTakeAsGood
rules_take_as_good = record {
  unary = unary_good;
  step = step_good;
  binary = binary_good;
  assign = assign_good;
  choice = choice_good;
  comma = comma_good;
  cast = cast_good;
  index = index_good;
  call = call_good;
}
