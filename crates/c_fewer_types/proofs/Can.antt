-- What is judged has a type that can be written.
use Rattle.std.proofs.Common.{◌≡◌, ℕ, ◌^◌, ◌≤◌, ◌⊎◌, inl, inr, List, [], ◌∷◌, length, Option, Some, None, Bool, true, false, nat_lt, nat_le, refl, sym, ap, ◌∙◌, subst, arith}
use Rattle.std.specs.Prelude.{◌&&◌, ◌||◌, ◌==◌, not, is_some, IfOk, Ok, Err, if◌then◌else◌}
use Rattle.std.specs.Option.{option_map, option_map_or}
use Rattle.std.proofs.lemmas.Bool.{and_parts, leb-true}
use Rattle.c_syntax.specs.Plain as plain
use Rattle.c_syntax.specs.Plain.{CExpr, CExprs, CTy, CTys}
use Rattle.c_syntax.specs.Words.{meaning}
use Rattle.c_syntax.specs.declared.tree.UnOp.{UnOp}
use Rattle.c_syntax.specs.declared.tree.BinOp.{BinOp}
use Rattle.c_syntax.specs.declared.tree.UnOp.TheVariants as unary
use Rattle.c_syntax.specs.declared.tree.BinOp.TheVariants as binary
use Rattle.c_types.specs.declared.fault.TypeFault.{TypeFault}
use Rattle.c_types.specs.declared.fault.TypeFault.TheVariants as fault
use Rattle.c_types.specs.Types as type
use Rattle.c_types.specs.Types.{CType, CTypes, NoType, MoreType, Layout, Unfinished, Members, Tags, is_arithmetic, is_unsigned, is_void, is_pointer, is_scalar, is_struct, is_null, same_type, is_void_pointer, is_object_pointer, decayed, promoted, common_type, is_object_type}
use Rattle.c_types.specs.Constants as constant
use Rattle.c_types.specs.Constants.{Constant, on_two, choice_constant, unary_constant, binary_constant}
use Rattle.c_types.specs.Refusals.{Judged, Rule, after, both, broken, keeping}
use Rattle.c_types.specs.Scope as entity
use Rattle.c_types.specs.Scope.{Scope, Entity, entity_of, contains}
use Rattle.c_types.specs.Operands.{Designator, Other, Operand, operand, value_at, place_at, value_type, is_place, is_designator, is_array, is_word_place, is_null_constant, is_condition, can_cast, converts, is_element_pointer, when, or_else, sum_type, difference_type, binary_type, typed_or, binary_operand, address_operand, pointed_operand, number_operand, unary_operand, step_operand, result_converts, assign_operand, choice_type, choice_operand, comma_operand, cast_operand, size_operand, index_operand, member_in, member_operand, arrow_operand, Callee, Direct, Format, Through, is_print_form, argument_rules, count_of, function_call, pointer_call, call_operand}
use Rattle.c_types.specs.Expressions.{named, named_callee, callee_of, format_of, names_function, literal, length_in, array_of, sized_array, parameter_type, is_result_type, judged, all_judged, written, parameters}
use Rattle.c_fewer_types.specs.Written.{CanBeWritten, AreParameters, EntityCanBeWritten, ScopeCanBeWritten, OperandCanBeWritten, StringsAreShort}
use Rattle.c_fewer_types.specs.TypeTreesLaws.{TypesCanBeWritten, OperandsCanBeWritten}

-- where it isn't refused, this holds of it
record Gives {A : Type 0} (P : A → Type 0) (r : Judged A) : Type 0 where
  told : IfOk r P

given : {A : Type 0} (P : A → Type 0) (a : A) → P a → Gives P (Ok a)
given P a p = record { told = p }

refused : {A : Type 0} (P : A → Type 0) (e : TypeFault) → Gives P (Err e)
refused P e = record { told = tt }

keeping_gives : {A : Type 0} (P : A → Type 0) (rules : List Rule) (a : A) → P a → Gives P (keeping rules a)
keeping_gives P rules a p = go (broken rules)
  where
    go : (o : Option TypeFault) → Gives P (option_map_or (λ e. Err e) o (Ok a))
    go None = record { told = p }
    go (Some e) = record { told = tt }

-- its first rule is kept
first_gives : {A : Type 0} (P : A → Type 0) (b : Bool) (f : TypeFault) (rules : List Rule) (a : A) → (b ≡ true → P a) → Gives P (keeping ((b, f) ∷ rules) a)
first_gives P true f rules a p = keeping_gives P rules a (p refl)
first_gives P false f rules a p = record { told = tt }

after_gives : {A B : Type 0} (P : A → Type 0) (Q : B → Type 0) (r : Judged A) (f : A → Judged B) → Gives P r → ((a : A) → P a → Gives Q (f a)) → Gives Q (after r f)
after_gives P Q (Ok a) f g h = h a g.told
after_gives P Q (Err e) f g h = record { told = tt }

both_gives : {A B C : Type 0} (P : A → Type 0) (Q : B → Type 0) (R : C → Type 0) (r : Judged A) (q : Judged B) (f : A → B → Judged C) → Gives P r → Gives Q q → ((a : A) (b : B) → P a → Q b → Gives R (f a b)) → Gives R (both r q f)
both_gives P Q R (Ok a) (Ok b) f g k h = h a b g.told k.told
both_gives P Q R (Ok a) (Err e) f g k h = record { told = tt }
both_gives P Q R (Err d) (Ok b) f g k h = record { told = tt }
both_gives P Q R (Err d) (Err e) f g k h = record { told = tt }

abbrev Any : {A : Type 0} → A → Type 0
Any a = Unit {0}

anything : {A : Type 0} (r : Judged A) → Gives Any r
anything (Ok a) = record { told = tt }
anything (Err e) = record { told = tt }

-- ---- types that are written

decayed_can : (tags : Tags) (t : CType) → CanBeWritten tags t → CanBeWritten tags (decayed t)
decayed_can tags (type.Array t n) c = c.2
decayed_can tags type.Void c = tt
decayed_can tags type.Int c = tt
decayed_can tags type.Unsigned c = tt
decayed_can tags type.Char c = tt
decayed_can tags type.UChar c = tt
decayed_can tags type.Null c = c
decayed_can tags (type.Struct tag) c = c
decayed_can tags (type.Pointer t) c = c
decayed_can tags (type.Function t ts) c = c

struct_gives : (s : Scope) (at : ℕ) (name : List ℕ) (o : Option Layout) → meaning s.tags name ≡ o → Gives (CanBeWritten s.tags) (option_map_or (λ _. Ok (type.Struct name)) o (Err (fault.Unknown at)))
struct_gives s at name None e = record { told = tt }
struct_gives s at name (Some layout) e = record { told = ap is_some e }

-- a length that is told is one from 1 to 2^22
length_gives : (at : ℕ) (c : Constant) → Gives (λ n. n ≤ 2 ^ 22) (length_in at c)
length_gives at constant.NotConstant = record { told = tt }
length_gives at (constant.Undefined pos) = record { told = tt }
length_gives at (constant.Value n) = first_gives (λ n. n ≤ 2 ^ 22) (nat_lt 0 n && nat_le n (2 ^ 22)) (fault.Mismatch at) [] n (λ e. leb-true n (2 ^ 22) (and_parts (nat_lt 0 n) (nat_le n (2 ^ 22)) e).1)

array_gives : (s : Scope) (at : ℕ) (t : CType) (n : ℕ) → Gives (λ u. is_object_type s.tags t ≡ true) (array_of s at t n)
array_gives s at t n = first_gives (λ u. is_object_type s.tags t ≡ true) (is_object_type s.tags t) (fault.Mismatch at) [] (type.Array t n) (λ e. e)

mutual
  written_gives : (s : Scope) (at : ℕ) (t : CTy) → Gives (CanBeWritten s.tags) (written s at t)
  written_gives s at plain.Void = record { told = tt }
  written_gives s at plain.Int = record { told = tt }
  written_gives s at plain.Unsigned = record { told = tt }
  written_gives s at plain.Char = record { told = tt }
  written_gives s at plain.UChar = record { told = tt }
  written_gives s at (plain.Struct name) = struct_gives s at name (meaning s.tags name) refl
  written_gives s at (plain.Pointer t) = after_gives (CanBeWritten s.tags) (CanBeWritten s.tags) (written s at t) (λ u. Ok (type.Pointer u)) (written_gives s at t) (λ u c. given (CanBeWritten s.tags) (type.Pointer u) c)
  written_gives s at (plain.Array t) =
      after_gives (CanBeWritten s.tags) (CanBeWritten s.tags) (written s at t) (λ u. array_of s at u 0) (written_gives s at t)
      (λ u c. first_gives (CanBeWritten s.tags) (is_object_type s.tags u) (fault.Mismatch at) [] (type.Array u 0) (λ e. (e, omega arith, c)))
  written_gives s at (plain.ArrayOf t n) =
      both_gives (CanBeWritten s.tags) Any (CanBeWritten s.tags) (written s at t) (judged s n) (λ u x. sized_array s at u x) (written_gives s at t) (anything (judged s n))
      (λ u x c _. both_gives (λ v. is_object_type s.tags u ≡ true) (λ n. n ≤ 2 ^ 22) (CanBeWritten s.tags) (array_of s at u 1) (length_in x.pos x.constant) (λ _ n. Ok (type.Array u n)) (array_gives s at u 1) (length_gives x.pos x.constant)
      (λ v n o few. given (CanBeWritten s.tags) (type.Array u n) (o, few, c)))
  written_gives s at (plain.Func t ts) =
      both_gives (CanBeWritten s.tags) (AreParameters s.tags) (CanBeWritten s.tags) (written s at t) (parameters s at ts) (λ u us. keeping ((is_result_type u, fault.Mismatch at) ∷ []) (type.Function u us)) (written_gives s at t) (parameters_give s at ts)
      (λ u us c d. first_gives (CanBeWritten s.tags) (is_result_type u) (fault.Mismatch at) [] (type.Function u us) (λ e. (e, c, d)))

  parameters_give : (s : Scope) (at : ℕ) (ts : CTys) → Gives (AreParameters s.tags) (parameters s at ts)
  parameters_give s at plain.NoTy = record { told = tt }
  parameters_give s at (plain.MoreTy t ts) =
      both_gives (CanBeWritten s.tags) (AreParameters s.tags) (AreParameters s.tags) (written s at t) (parameters s at ts) (λ u us. after (parameter_type at u) (λ v. Ok (MoreType v us))) (written_gives s at t) (parameters_give s at ts)
      (λ u us c d. after_gives (λ v. (is_scalar v ≡ true) × CanBeWritten s.tags v) (AreParameters s.tags) (parameter_type at u) (λ v. Ok (MoreType v us))
      (first_gives (λ v. (is_scalar v ≡ true) × CanBeWritten s.tags v) (is_scalar (decayed u)) (fault.Mismatch at) [] (decayed u) (λ e. (e, decayed_can s.tags u c)))
      (λ v p. given (AreParameters s.tags) (MoreType v us) (p.0, p.1, d)))

pub types_can_be_written : TypesCanBeWritten
types_can_be_written s at t = (written_gives s at t).told

-- ---- types of values

abbrev OrNull : Tags → CType → Type 0
OrNull tags t = CanBeWritten tags t ⊎ (t ≡ type.Null)

value_can : (tags : Tags) (a : Operand) → OperandCanBeWritten tags a → OrNull tags (value_type a)
value_can tags a (inl c) = inl (decayed_can tags a.ty c)
value_can tags a (inr e) = inr (ap decayed e.0)

other_can : (tags : Tags) (at : ℕ) (t : CType) (c : Constant) → OrNull tags t → OperandCanBeWritten tags (operand at t Other c)
other_can tags at t c (inl x) = inl x
other_can tags at t c (inr e) = inr (e, refl)

-- what may be missing
record SomeCan (tags : Tags) (o : Option CType) : Type 0 where
  can : (t : CType) → o ≡ Some t → OrNull tags t

when_can : (tags : Tags) (b : Bool) (t : CType) → OrNull tags t → SomeCan tags (when b t)
when_can tags true t o = record { can = λ u e. let same : t ≡ u = cc e in subst (OrNull tags) same o }
when_can tags false t o = record { can = λ u e. absurd (cc e) }

or_else_can : (tags : Tags) (o p : Option CType) → SomeCan tags o → SomeCan tags p → SomeCan tags (or_else o p)
or_else_can tags None p a b = b
or_else_can tags (Some t) p a b = a

common_can : (tags : Tags) (t u : CType) → OrNull tags (common_type t u)
common_can tags t u = go (is_unsigned t || is_unsigned u)
  where
    go : (b : Bool) → OrNull tags (if b then type.Unsigned else type.Int)
    go true = inl tt
    go false = inl tt

sum_can : (tags : Tags) (t u : CType) → OrNull tags t → OrNull tags u → SomeCan tags (sum_type tags t u)
sum_can tags t u a b =
    or_else_can tags (when (is_arithmetic t && is_arithmetic u) (common_type t u)) _ (when_can tags _ _ (common_can tags t u))
    (or_else_can tags (when (is_element_pointer tags t && is_arithmetic u) t) _ (when_can tags _ t a) (when_can tags _ u b))

difference_can : (tags : Tags) (t u : CType) → OrNull tags t → OrNull tags u → SomeCan tags (difference_type tags t u)
difference_can tags t u a b =
    or_else_can tags (when (is_arithmetic t && is_arithmetic u) (common_type t u)) _ (when_can tags _ _ (common_can tags t u))
    (or_else_can tags (when (is_element_pointer tags t && is_arithmetic u) t) _ (when_can tags _ t a) (when_can tags _ type.Int (inl tt)))

binary_can : (tags : Tags) (op : BinOp) (a b : Operand) → OrNull tags (value_type a) → OrNull tags (value_type b) → SomeCan tags (binary_type tags op a b)
binary_can tags binary.Or a b x y = when_can tags _ type.Int (inl tt)
binary_can tags binary.And a b x y = when_can tags _ type.Int (inl tt)
binary_can tags binary.Eq a b x y = when_can tags _ type.Int (inl tt)
binary_can tags binary.Ne a b x y = when_can tags _ type.Int (inl tt)
binary_can tags binary.Lt a b x y = when_can tags _ type.Int (inl tt)
binary_can tags binary.Gt a b x y = when_can tags _ type.Int (inl tt)
binary_can tags binary.Le a b x y = when_can tags _ type.Int (inl tt)
binary_can tags binary.Ge a b x y = when_can tags _ type.Int (inl tt)
binary_can tags binary.Shl a b x y = when_can tags _ (value_type a) x
binary_can tags binary.Shr a b x y = when_can tags _ (value_type a) x
binary_can tags binary.Add a b x y = sum_can tags (value_type a) (value_type b) x y
binary_can tags binary.Sub a b x y = difference_can tags (value_type a) (value_type b) x y
binary_can tags op a b x y = when_can tags _ _ (common_can tags (value_type a) (value_type b))

choice_can : (tags : Tags) (a b : Operand) → OrNull tags (value_type a) → OrNull tags (value_type b) → SomeCan tags (choice_type a b)
choice_can tags a b x y =
    or_else_can tags (when (is_arithmetic (value_type a) && is_arithmetic (value_type b)) (common_type (value_type a) (value_type b))) _ (when_can tags _ _ (common_can tags (value_type a) (value_type b)))
    (or_else_can tags (when (is_void (value_type a) && is_void (value_type b)) type.Void) _ (when_can tags _ type.Void (inl tt))
    (or_else_can tags (when (is_pointer (value_type a) && (same_type (value_type a) (value_type b) || is_null_constant b)) (value_type a)) _ (when_can tags _ (value_type a) x)
    (or_else_can tags (when (is_pointer (value_type b) && is_null_constant a) (value_type b)) _ (when_can tags _ (value_type b) y)
    (or_else_can tags (when ((is_void_pointer (value_type a) && is_object_pointer (value_type b)) || (is_object_pointer (value_type a) && is_void_pointer (value_type b))) (type.Pointer type.Void)) _ (when_can tags _ (type.Pointer type.Void) (inl tt))
    (when_can tags _ type.Null (inr refl))))))

-- ---- operands

typed_gives : (tags : Tags) (at : ℕ) (c : Constant) (o : Option CType) → SomeCan tags o → Gives (OperandCanBeWritten tags) (typed_or at (option_map (λ t. operand at t Other c) o))
typed_gives tags at c None o = record { told = tt }
typed_gives tags at c (Some t) o = record { told = other_can tags at t c (o.can t refl) }

pointed_gives : (tags : Tags) (at : ℕ) (t : CType) → OrNull tags t → Gives (OperandCanBeWritten tags) (pointed_operand tags at t)
pointed_gives tags at (type.Pointer (type.Function t ts)) (inl c) = record { told = inl c }
pointed_gives tags at (type.Pointer t) (inl c) = first_gives (OperandCanBeWritten tags) (is_object_type tags t) (fault.Mismatch at) [] (place_at at t) (λ e. inl c)
pointed_gives tags at (type.Pointer t) (inr e) = absurd (cc e)
pointed_gives tags at t o = record { told = tt }

address_gives : (tags : Tags) (at : ℕ) (a : Operand) → OperandCanBeWritten tags a → Gives (OperandCanBeWritten tags) (address_operand at a)
address_gives tags at a o = by_name (is_designator a.sort) o
  where
    ordinary : (b : Bool) → (is_place a.sort || is_array a.ty) ≡ b → OperandCanBeWritten tags a → b ≡ true → OperandCanBeWritten tags (value_at at (type.Pointer a.ty))
    ordinary b e (inl c) h = inl c
    ordinary b e (inr n) h = absurd (cc (sym ((λ i. is_place (n.1 i) || is_array (n.0 i))) ∙ (e ∙ h)))

    by_name : (b : Bool) → OperandCanBeWritten tags a → Gives (OperandCanBeWritten tags) (if b then Ok (value_at at a.ty) else keeping ((is_place a.sort || is_array a.ty, fault.NotLvalue a.pos) ∷ []) (value_at at (type.Pointer a.ty)))
    by_name true (inl c) = record { told = inl c }
    by_name true (inr n) = record { told = inr (n.0, refl) }
    by_name false o = first_gives (OperandCanBeWritten tags) (is_place a.sort || is_array a.ty) (fault.NotLvalue a.pos) [] (value_at at (type.Pointer a.ty)) (λ e. ordinary (is_place a.sort || is_array a.ty) refl o e)

number_gives : (tags : Tags) (at : ℕ) (op : UnOp) (a : Operand) → Gives (OperandCanBeWritten tags) (number_operand at op a)
number_gives tags at op a = keeping_gives (OperandCanBeWritten tags) ((is_arithmetic (value_type a), fault.Mismatch at) ∷ []) (operand at (promoted (value_type a)) Other (unary_constant op a.constant)) (go (is_unsigned (value_type a)))
  where
    go : (b : Bool) → OperandCanBeWritten tags (operand at (if b then type.Unsigned else type.Int) Other (unary_constant op a.constant))
    go true = inl tt
    go false = inl tt

unary_gives : (tags : Tags) (at : ℕ) (op : UnOp) (a : Operand) → OperandCanBeWritten tags a → Gives (OperandCanBeWritten tags) (unary_operand tags at op a)
unary_gives tags at unary.Address a o = address_gives tags at a o
unary_gives tags at unary.Deref a o = pointed_gives tags at (value_type a) (value_can tags a o)
unary_gives tags at unary.Not a o = keeping_gives (OperandCanBeWritten tags) ((is_condition a, fault.Mismatch at) ∷ []) (operand at type.Int Other (unary_constant unary.Not a.constant)) (inl tt)
unary_gives tags at op a o = number_gives tags at op a

step_gives : (tags : Tags) (at : ℕ) (a : Operand) → OperandCanBeWritten tags a → Gives (OperandCanBeWritten tags) (step_operand tags at a)
step_gives tags at a o =
    keeping_gives (OperandCanBeWritten tags) ((is_word_place a, fault.NotLvalue a.pos) ∷ (is_some (sum_type tags (value_type a) type.Int), fault.Mismatch at) ∷ []) (value_at at (value_type a))
    (other_can tags at (value_type a) constant.NotConstant (value_can tags a o))

same_operand : (tags : Tags) (at : ℕ) (a : Operand) → OperandCanBeWritten tags a → OperandCanBeWritten tags (value_at at a.ty)
same_operand tags at a (inl c) = inl c
same_operand tags at a (inr n) = inr (n.0, refl)

assign_gives : (tags : Tags) (at : ℕ) (op : Option BinOp) (a b : Operand) → OperandCanBeWritten tags a → Gives (OperandCanBeWritten tags) (assign_operand tags at op a b)
assign_gives tags at None a b o = keeping_gives (OperandCanBeWritten tags) ((is_word_place a, fault.NotLvalue a.pos) ∷ (converts b a.ty, fault.Mismatch at) ∷ []) (value_at at a.ty) (same_operand tags at a o)
assign_gives tags at (Some op) a b o =
    keeping_gives (OperandCanBeWritten tags) ((is_word_place a, fault.NotLvalue a.pos) ∷ (result_converts at (binary_type tags op a b) a.ty, fault.Mismatch at) ∷ []) (value_at at a.ty) (same_operand tags at a o)

choice_gives : (tags : Tags) (at : ℕ) (a b c : Operand) → OperandCanBeWritten tags b → OperandCanBeWritten tags c → Gives (OperandCanBeWritten tags) (choice_operand at a b c)
choice_gives tags at a b c x y =
    keeping_gives (OperandCanBeWritten tags) ((is_condition a, fault.Mismatch a.pos) ∷ (is_some (choice_type b c), fault.Mismatch at) ∷ [])
    (operand at (option_map_or (λ t. t) (choice_type b c) type.Void) Other (choice_constant a.constant b.constant c.constant))
    (other_can tags at _ (choice_constant a.constant b.constant c.constant) (go (choice_type b c) (choice_can tags b c (value_can tags b x) (value_can tags c y))))
  where
    go : (o : Option CType) → SomeCan tags o → OrNull tags (option_map_or (λ t. t) o type.Void)
    go None s = inl tt
    go (Some t) s = s.can t refl

comma_gives : (tags : Tags) (at : ℕ) (a b : Operand) → OperandCanBeWritten tags b → Gives (OperandCanBeWritten tags) (comma_operand at a b)
comma_gives tags at a b o =
    keeping_gives (OperandCanBeWritten tags) ((not (is_struct b.ty), fault.Mismatch at) ∷ []) (operand at (value_type b) Other (on_two a.constant b.constant (λ x y. constant.Value y))) (other_can tags at (value_type b) (on_two a.constant b.constant (λ x y. constant.Value y)) (value_can tags b o))

cast_gives : (tags : Tags) (at : ℕ) (t : CType) (a : Operand) → CanBeWritten tags t → Gives (OperandCanBeWritten tags) (cast_operand at t a)
cast_gives tags at t a c =
    keeping_gives (OperandCanBeWritten tags) ((can_cast (value_type a) t, fault.Mismatch at) ∷ []) (operand at t Other (if is_arithmetic t then a.constant else constant.NotConstant)) (inl c)

size_gives : (tags : Tags) (at : ℕ) (t : CType) → Gives (OperandCanBeWritten tags) (size_operand tags at t)
size_gives tags at t = keeping_gives (OperandCanBeWritten tags) ((is_object_type tags t || is_null t, fault.Mismatch at) ∷ []) _ (inl tt)

index_gives : (tags : Tags) (at : ℕ) (a b : Operand) → OperandCanBeWritten tags a → OperandCanBeWritten tags b → Gives (OperandCanBeWritten tags) (index_operand tags at a b)
index_gives tags at a b x y = go (sum_type tags (value_type a) (value_type b)) (sum_can tags (value_type a) (value_type b) (value_can tags a x) (value_can tags b y))
  where
    go : (o : Option CType) → SomeCan tags o → Gives (OperandCanBeWritten tags) (option_map_or (λ t. pointed_operand tags at t) o (Err (fault.Mismatch at)))
    go None s = record { told = tt }
    go (Some t) s = pointed_gives tags at t (s.can t refl)

-- ---- names and members

named_gives : (s : Scope) (at : ℕ) (name : List ℕ) (x : Option Entity) → EntityCanBeWritten s.tags x → Gives (OperandCanBeWritten s.tags) (named s at name x)
named_gives s at name (Some (entity.Object t)) c = record { told = inl c }
named_gives s at name (Some (entity.Routine t begun)) c =
    keeping_gives (OperandCanBeWritten s.tags) ((contains s.defined name, fault.BadCall at) ∷ []) (operand at (type.Pointer t) Designator constant.NotConstant) (inl c)
named_gives s at name (Some (entity.BuiltIn t)) c = record { told = tt }
named_gives s at name (Some entity.Printf) c = record { told = tt }
named_gives s at name None c = record { told = tt }

module _ (s : Scope) (known : ScopeCanBeWritten s) where
  member_gives : (at : ℕ) (name : List ℕ) (t : CType) → Gives (OperandCanBeWritten s.tags) (member_operand s.tags at name t)
  member_gives at name (type.Struct tag) = of_layout (meaning s.tags tag) refl
    where
      of_type : (members : List (List ℕ × CType)) (words : ℕ) (o : Option CType) → meaning s.tags tag ≡ Some (Members members words) → meaning members name ≡ o
          → Gives (OperandCanBeWritten s.tags) (option_map_or (λ t. Ok (place_at at t)) o (Err (fault.Unknown at)))
      of_type members words None e f = record { told = tt }
      of_type members words (Some t) e f = record { told = inl (known.members tag members words name t e f) }

      of_layout : (o : Option Layout) → meaning s.tags tag ≡ o → Gives (OperandCanBeWritten s.tags) (member_in at name o)
      of_layout None e = record { told = tt }
      of_layout (Some Unfinished) e = record { told = tt }
      of_layout (Some (Members members words)) e = of_type members words (meaning members name) e refl
  member_gives at name t = record { told = tt }

  arrow_gives : (at : ℕ) (name : List ℕ) (t : CType) → Gives (OperandCanBeWritten s.tags) (arrow_operand s.tags at name t)
  arrow_gives at name (type.Pointer t) = member_gives at name t
  arrow_gives at name t = record { told = tt }

-- ---- calls

abbrev CalleeCanBeWritten : Tags → Callee → Type 0
CalleeCanBeWritten tags (Direct t defined) = CanBeWritten tags t
CalleeCanBeWritten tags Format = Unit {0}
CalleeCanBeWritten tags (Through t) = OrNull tags t

function_gives : (tags : Tags) (at : ℕ) (defined : Bool) (t : CType) (xs : List Operand) → CanBeWritten tags t → Gives (OperandCanBeWritten tags) (function_call at defined t xs)
function_gives tags at defined (type.Function result params) xs c =
    keeping_gives (OperandCanBeWritten tags) ((defined && count_of params == length xs, fault.BadCall at) ∷ argument_rules params xs) (value_at at result) (inl c.1)
function_gives tags at defined t xs c = record { told = tt }

pointer_gives : (tags : Tags) (at : ℕ) (t : CType) (xs : List Operand) → OrNull tags t → Gives (OperandCanBeWritten tags) (pointer_call at t xs)
pointer_gives tags at (type.Pointer t) xs (inl c) = function_gives tags at true t xs c
pointer_gives tags at (type.Pointer t) xs (inr e) = absurd (cc e)
pointer_gives tags at t xs o = record { told = tt }

call_gives : (tags : Tags) (at : ℕ) (c : Callee) (format : Option (List ℕ)) (xs : List Operand) → CalleeCanBeWritten tags c → Gives (OperandCanBeWritten tags) (call_operand at c format xs)
call_gives tags at (Direct t defined) format xs c = function_gives tags at defined t xs c
call_gives tags at (Through t) format xs c = pointer_gives tags at t xs c
call_gives tags at Format format xs c = keeping_gives (OperandCanBeWritten tags) ((is_print_form format xs, fault.BadCall at) ∷ []) (value_at at type.Void) (inl tt)

named_callee_gives : (s : Scope) (at : ℕ) (name : List ℕ) (x : Option Entity) → EntityCanBeWritten s.tags x → Gives (CalleeCanBeWritten s.tags) (named_callee s at name x)
named_callee_gives s at name (Some (entity.Object t)) c = record { told = inl (decayed_can s.tags t c) }
named_callee_gives s at name (Some (entity.Routine t begun)) c = record { told = c }
named_callee_gives s at name (Some (entity.BuiltIn t)) c = record { told = c }
named_callee_gives s at name (Some entity.Printf) c = record { told = tt }
named_callee_gives s at name None c = record { told = tt }

callee_gives : (s : Scope) (at : ℕ) (f : CExpr) (r : Judged Operand) → ScopeCanBeWritten s → Gives (OperandCanBeWritten s.tags) r → Gives (CalleeCanBeWritten s.tags) (callee_of s at f r)
callee_gives s at (plain.Var pos name) r known g = named_callee_gives s at name (entity_of s name) (known.names name)
callee_gives s at f r known g =
    after_gives (OperandCanBeWritten s.tags) (CalleeCanBeWritten s.tags) r (λ a. Ok (Through (value_type a))) g (λ a o. given (CalleeCanBeWritten s.tags) (Through (value_type a)) (value_can s.tags a o))

-- ---- expressions

if_gives : (tags : Tags) (b : Bool) (e : TypeFault) (r : Judged Operand) → Gives (OperandCanBeWritten tags) r → Gives (OperandCanBeWritten tags) (if b then Err e else r)
if_gives tags true e r g = record { told = tt }
if_gives tags false e r g = g

literal_can : (tags : Tags) (at n : ℕ) (unsigned : Bool) → OperandCanBeWritten tags (literal at n unsigned)
literal_can tags at n true = inl tt
literal_can tags at n false = inl tt

operand_gives : (s : Scope) (known : ScopeCanBeWritten s) (e : CExpr) → StringsAreShort e → Gives (OperandCanBeWritten s.tags) (judged s e)
operand_gives s known (plain.Number at n unsigned) h = record { told = literal_can s.tags at n unsigned }
operand_gives s known (plain.Str at text) h = record { told = inl (refl, h, tt) }
operand_gives s known (plain.Null at) h = record { told = inr (refl, refl) }
operand_gives s known (plain.Var at name) h = named_gives s at name (entity_of s name) (known.names name)
operand_gives s known (plain.Unary at op a) h =
    after_gives (OperandCanBeWritten s.tags) (OperandCanBeWritten s.tags) (judged s a) (λ x. unary_operand s.tags at op x) (operand_gives s known a h) (λ x o. unary_gives s.tags at op x o)
operand_gives s known (plain.Step at op a) h =
    after_gives (OperandCanBeWritten s.tags) (OperandCanBeWritten s.tags) (judged s a) (λ x. step_operand s.tags at x) (operand_gives s known a h) (λ x o. step_gives s.tags at x o)
operand_gives s known (plain.Binary at op a b) h =
    both_gives (OperandCanBeWritten s.tags) (OperandCanBeWritten s.tags) (OperandCanBeWritten s.tags) (judged s a) (judged s b) (λ x y. binary_operand s.tags at op x y) (operand_gives s known a h.0) (operand_gives s known b h.1)
    (λ x y o p. typed_gives s.tags at _ (binary_type s.tags op x y) (binary_can s.tags op x y (value_can s.tags x o) (value_can s.tags y p)))
operand_gives s known (plain.Assign at op a b) h =
    both_gives (OperandCanBeWritten s.tags) (OperandCanBeWritten s.tags) (OperandCanBeWritten s.tags) (judged s a) (judged s b) (λ x y. assign_operand s.tags at op x y) (operand_gives s known a h.0) (operand_gives s known b h.1)
    (λ x y o p. assign_gives s.tags at op x y o)
operand_gives s known (plain.Cond at a b c) h =
    both_gives (OperandCanBeWritten s.tags) (λ yz. OperandCanBeWritten s.tags yz.0 × OperandCanBeWritten s.tags yz.1) (OperandCanBeWritten s.tags) (judged s a) (both (judged s b) (judged s c) (λ y z. Ok (y, z))) (λ x yz. choice_operand at x yz.0 yz.1)
    (operand_gives s known a h.0)
    (both_gives (OperandCanBeWritten s.tags) (OperandCanBeWritten s.tags) (λ yz. OperandCanBeWritten s.tags yz.0 × OperandCanBeWritten s.tags yz.1) (judged s b) (judged s c) (λ y z. Ok (y, z)) (operand_gives s known b h.1) (operand_gives s known c h.2)
    (λ y z o p. record { told = (o, p) }))
    (λ x yz o p. choice_gives s.tags at x yz.0 yz.1 p.0 p.1)
operand_gives s known (plain.Comma at a b) h =
    both_gives (OperandCanBeWritten s.tags) (OperandCanBeWritten s.tags) (OperandCanBeWritten s.tags) (judged s a) (judged s b) (λ x y. comma_operand at x y) (operand_gives s known a h.0) (operand_gives s known b h.1)
    (λ x y o p. comma_gives s.tags at x y p)
operand_gives s known (plain.Cast at t a) h =
    both_gives (CanBeWritten s.tags) (OperandCanBeWritten s.tags) (OperandCanBeWritten s.tags) (written s at t) (judged s a) (λ u x. cast_operand at u x) (written_gives s at t) (operand_gives s known a h) (λ u x c o. cast_gives s.tags at u x c)
operand_gives s known (plain.SizeTy at t) h =
    after_gives (CanBeWritten s.tags) (OperandCanBeWritten s.tags) (written s at t) (λ u. size_operand s.tags at u) (written_gives s at t) (λ u c. size_gives s.tags at u)
operand_gives s known (plain.SizeOf at a) h =
    if_gives s.tags (names_function s a) (fault.Mismatch at) (after (judged s a) (λ x. size_operand s.tags at x.ty)) (after_gives Any (OperandCanBeWritten s.tags) (judged s a) (λ x. size_operand s.tags at x.ty) (anything (judged s a)) (λ x o. size_gives s.tags at x.ty))
operand_gives s known (plain.Index at a b) h =
    both_gives (OperandCanBeWritten s.tags) (OperandCanBeWritten s.tags) (OperandCanBeWritten s.tags) (judged s a) (judged s b) (λ x y. index_operand s.tags at x y) (operand_gives s known a h.0) (operand_gives s known b h.1)
    (λ x y o p. index_gives s.tags at x y o p)
operand_gives s known (plain.Call at f es) h =
    both_gives (CalleeCanBeWritten s.tags) Any (OperandCanBeWritten s.tags) (callee_of s at f (judged s f)) (all_judged s es) (λ c xs. call_operand at c (format_of es) xs) (callee_gives s at f (judged s f) known (operand_gives s known f h.0)) (anything (all_judged s es))
    (λ c xs o p. call_gives s.tags at c (format_of es) xs o)
operand_gives s known (plain.Member at a m) h =
    after_gives Any (OperandCanBeWritten s.tags) (judged s a) (λ x. member_operand s.tags at m x.ty) (anything (judged s a)) (λ x o. member_gives s known at m x.ty)
operand_gives s known (plain.Arrow at a m) h =
    after_gives Any (OperandCanBeWritten s.tags) (judged s a) (λ x. arrow_operand s.tags at m (value_type x)) (anything (judged s a)) (λ x o. arrow_gives s known at m (value_type x))

pub operands_can_be_written : OperandsCanBeWritten
operands_can_be_written s e known h = (operand_gives s known e h).told
