-- Each form of typed expressions.
use Rattle.std.proofs.Common.{◌≡◌, ℕ, Bool, true, false, ◌&&◌, ◌||◌, not, List, [], ◌∷◌, length, Option, Some, None, refl, sym, ap, subst, cond, if◌then◌else◌}
use Rattle.std.specs.Prelude.{◌^◌, ◌%◌, ◌==◌, is_some, Ok, Err}
use Rattle.std.specs.Option.{option_map, option_map_or}
use Rattle.std.specs.Str.{bytes_eq}
use Rattle.std.proofs.lemmas.Bool.{and_parts}
use Rattle.c_syntax.specs.Plain as plain
use Rattle.c_syntax.specs.Plain.{CExpr, CExprs, CTy, CTys}
use Rattle.c_syntax.specs.Words.{meaning}
use Rattle.c_syntax.specs.declared.tree.BinOp.{BinOp}
use Rattle.c_syntax.specs.declared.tree.BinOp.TheVariants as binary
use Rattle.c_types.specs.declared.fault.TypeFault.{TypeFault}
use Rattle.c_types.specs.declared.fault.TypeFault.TheVariants as fault
use Rattle.c_types.specs.Types as type
use Rattle.c_types.specs.Types.{CType, CTypes, Tags, Layout, is_arithmetic, is_scalar, is_pointer, is_unsigned, is_void, is_null, is_struct, is_object_pointer, is_void_pointer, is_function_pointer, same_type, decayed, promoted, common_type, words_of, is_object_type}
use Rattle.c_types.specs.Refusals.{Judged}
use Rattle.c_types.specs.Constants.{Constant, NotConstant, Value, on_two, choice_constant, binary_constant}
use Rattle.c_types.specs.Scope.{Scope, Entity, Object, Routine, BuiltIn, Printf}
use Rattle.c_types.specs.Operands.{Operand, Other, is_place, is_condition, is_word_place, is_null_constant, converts, can_cast, can_equal, can_order, result_converts, choice_type, count_of, argument_rules, is_print_form, operand, value_at, place_at, sum_type, number_type, when, value_type, typed_or, binary_type, pointed_operand, binary_operand, assign_operand, choice_operand, comma_operand, cast_operand, size_operand, index_operand, member_in, member_operand, arrow_operand, Callee, Direct, Format, Through, function_call, pointer_call, call_operand}
use Rattle.c_types.specs.Expressions.{named_callee, through, judged}
use Rattle.c_eval.specs.Environment.{operand_type, type_in, value_type_in, pointee}
use Rattle.c_resolved.specs.Resolved.{HasElements}
use Rattle.c_pieces.specs.Counted.{AreCounted}
use Rattle.c_fitting.specs.Fit.{IsFit}
use Rattle.c_fitting.specs.Good.{IsGood, EachIsGood, LayoutIsGood, TagsAreGood, EntityIsGood}
use Rattle.c_fitting.proofs.Judgement.{IfOk, keeping_ok, keeping_one, keeping_two}
use Rattle.c_fitting.proofs.TypeLemmas.{member_below, is_aggregate, IsValue, int_value, word_value, decayed_good, scalar_single, scalar_decayed, result_single, arithmetic_single, pointer_single, IfSome, when_some, or_else_some, sum_value, difference_value}
use Rattle.c_types.specs.Laws.{Casts, ToNothing, Numbers, ObjectPointers, EqualFunctionPointers}
use Rattle.c_types.proofs.OperatorLemmas.{casts_by_the_rule}
use Rattle.c_fitting.proofs.ExprLemmas.{IsKnown, IsSingle, at_value, place_or, known, at_place, weaker, IsPointed, pointed, counted, type_is}

some_weaker : (G H : CType → Type 0) (o : Option CType) → ((t : CType) → G t → H t) → IfSome G o → IfSome H o
some_weaker G H (Some t) f g = f t g
some_weaker G H None f g = tt

-- ---- operators on two sides

-- what an operator gives, and that it counts elements that are there
abbrev IsResult : Tags → BinOp → CType → CType → Type 0
IsResult tags op t r = IsValue tags r × HasElements tags op t

left_value : (tags : Tags) (a b : Operand) → IsGood tags a.ty → (is_arithmetic (value_type a) && is_arithmetic (value_type b)) ≡ true → IsValue tags (value_type a)
left_value tags a b g e = record { good = decayed_good tags a.ty g; single = arithmetic_single (value_type a) (and_parts (is_arithmetic (value_type a)) (is_arithmetic (value_type b)) e).0 }

words : (tags : Tags) (op : BinOp) (a b : Operand) → HasElements tags op (value_type a) → IfSome (IsResult tags op (value_type a)) (number_type (value_type a) (value_type b) (common_type (value_type a) (value_type b)))
words tags op a b e =
    when_some (IsResult tags op (value_type a)) (is_arithmetic (value_type a) && is_arithmetic (value_type b)) (common_type (value_type a) (value_type b)) (λ _. (word_value tags (is_unsigned (value_type a) || is_unsigned (value_type b)), e))

binary_value : (tags : Tags) → TagsAreGood tags → (op : BinOp) (a b : Operand) → IsGood tags a.ty → IsGood tags b.ty → IfSome (IsResult tags op (value_type a)) (binary_type tags op a b)
binary_value tags h binary.Or a b g f = when_some (IsResult tags binary.Or (value_type a)) (is_condition a && is_condition b) type.Int (λ _. (int_value tags, tt))
binary_value tags h binary.And a b g f = when_some (IsResult tags binary.And (value_type a)) (is_condition a && is_condition b) type.Int (λ _. (int_value tags, tt))
binary_value tags h binary.Eq a b g f = when_some (IsResult tags binary.Eq (value_type a)) (can_equal a b) type.Int (λ _. (int_value tags, tt))
binary_value tags h binary.Ne a b g f = when_some (IsResult tags binary.Ne (value_type a)) (can_equal a b) type.Int (λ _. (int_value tags, tt))
binary_value tags h binary.Lt a b g f = when_some (IsResult tags binary.Lt (value_type a)) (can_order (value_type a) (value_type b)) type.Int (λ _. (int_value tags, tt))
binary_value tags h binary.Gt a b g f = when_some (IsResult tags binary.Gt (value_type a)) (can_order (value_type a) (value_type b)) type.Int (λ _. (int_value tags, tt))
binary_value tags h binary.Le a b g f = when_some (IsResult tags binary.Le (value_type a)) (can_order (value_type a) (value_type b)) type.Int (λ _. (int_value tags, tt))
binary_value tags h binary.Ge a b g f = when_some (IsResult tags binary.Ge (value_type a)) (can_order (value_type a) (value_type b)) type.Int (λ _. (int_value tags, tt))
binary_value tags h binary.Shl a b g f = when_some (IsResult tags binary.Shl (value_type a)) (is_arithmetic (value_type a) && is_arithmetic (value_type b)) (value_type a) (λ e. (left_value tags a b g e, tt))
binary_value tags h binary.Shr a b g f = when_some (IsResult tags binary.Shr (value_type a)) (is_arithmetic (value_type a) && is_arithmetic (value_type b)) (value_type a) (λ e. (left_value tags a b g e, tt))
binary_value tags h binary.Add a b g f =
    some_weaker (IsValue tags) (IsResult tags binary.Add (value_type a)) (sum_type tags (value_type a) (value_type b)) (λ t v. (v, tt))
    (sum_value tags (value_type a) (value_type b) (decayed_good tags a.ty g) (decayed_good tags b.ty f))
binary_value tags h binary.Sub a b g f = difference_value tags h (value_type a) (value_type b) (decayed_good tags a.ty g)
binary_value tags h binary.BitOr a b g f = words tags binary.BitOr a b tt
binary_value tags h binary.BitXor a b g f = words tags binary.BitXor a b tt
binary_value tags h binary.BitAnd a b g f = words tags binary.BitAnd a b tt
binary_value tags h binary.Mul a b g f = words tags binary.Mul a b tt
binary_value tags h binary.Div a b g f = words tags binary.Div a b tt
binary_value tags h binary.Mod a b g f = words tags binary.Mod a b tt

typed_known : (G : Operand → Type 0) (H : CType → Type 0) (at : ℕ) (c : Constant) (o : Option CType) → IfSome H o → ((t : CType) → H t → G (operand at t Other c)) → IfOk G (typed_or at (option_map (λ t. operand at t Other c) o))
typed_known G H at c None h f = tt
typed_known G H at c (Some t) h f = f t h

value_type_is : (s : Scope) (e : CExpr) (a : Operand) → judged s e ≡ Ok a → value_type_in s e ≡ value_type a
value_type_is s e a j = ap (λ r. decayed (operand_type r)) j

counted_in : (s : Scope) (op : BinOp) (e f : CExpr) (a b : Operand) → judged s e ≡ Ok a → judged s f ≡ Ok b → AreCounted s.tags op (value_type a) (value_type b) → AreCounted s.tags op (value_type_in s e) (value_type_in s f)
counted_in s op e f a b i j c =
    subst (λ t. AreCounted s.tags op t (value_type_in s f)) (sym (value_type_is s e a i)) (subst (λ u. AreCounted s.tags op (value_type a) u) (sym (value_type_is s f b j)) c)

pub binary_known : (s : Scope) (at : ℕ) (op : BinOp) (e f : CExpr) (a b : Operand) → TagsAreGood s.tags → judged s e ≡ Ok a → judged s f ≡ Ok b → IsKnown s e a → IsKnown s f b → IfOk (IsKnown s (plain.Binary at op e f)) (binary_operand s.tags at op a b)
binary_known s at op e f a b h i j k l =
    let c = binary_constant at op (is_unsigned (value_type a)) (is_unsigned (value_type a) || is_unsigned (value_type b)) a.constant b.constant in
    typed_known (IsKnown s (plain.Binary at op e f)) (IsResult s.tags op (value_type a)) at c (binary_type s.tags op a b) (binary_value s.tags h op a b k.good l.good)
    (λ t r. known s (plain.Binary at op e f) (operand at t Other c)
    (k.fit, l.fit, counted_in s op e f a b i j (counted s.tags h op (value_type a) (value_type b) (decayed_good s.tags a.ty k.good) (decayed_good s.tags b.ty l.good) r.1))
    (at_value s.tags at t c r.0))

-- ---- assignments

result_some : (X : Type 0) (tags : Tags) (at : ℕ) (o : Option CType) (t : CType) → result_converts at o t ≡ true → IfSome (λ r. IsValue tags r × X) o → X
result_some X tags at None t e h = absurd cc
result_some X tags at (Some r) t e h = h.1

pub assign_known : (s : Scope) (at : ℕ) (op : Option BinOp) (e f : CExpr) (a b : Operand) → TagsAreGood s.tags → judged s e ≡ Ok a → judged s f ≡ Ok b → IsKnown s e a → IsKnown s f b → IfOk (IsKnown s (plain.Assign at op e f)) (assign_operand s.tags at op a b)
assign_known s at None e f a b h i j k l =
    keeping_two (IsKnown s (plain.Assign at None e f)) (is_word_place a) (fault.NotLvalue a.pos) (converts b a.ty) (fault.Mismatch at) (value_at at a.ty)
    (λ w c. let p = and_parts (is_place a.sort) (is_scalar a.ty) w in
    known s (plain.Assign at None e f) (value_at at a.ty) (k.fit, l.fit, k.place (place_or (is_place a.sort) (is_aggregate a.ty) p.0), tt) (k.good, scalar_single a.ty p.1, refl))
assign_known s at (Some op) e f a b h i j k l =
    keeping_two (IsKnown s (plain.Assign at (Some op) e f)) (is_word_place a) (fault.NotLvalue a.pos) (result_converts at (binary_type s.tags op a b) a.ty) (fault.Mismatch at) (value_at at a.ty)
    (λ w c.
    let p = and_parts (is_place a.sort) (is_scalar a.ty) w in
    let n : HasElements s.tags op (value_type a) = result_some (HasElements s.tags op (value_type a)) s.tags at (binary_type s.tags op a b) a.ty c (binary_value s.tags h op a b k.good l.good) in
    let m : HasElements s.tags op a.ty = subst (λ t. HasElements s.tags op t) (scalar_decayed a.ty p.1) n in
    let q : AreCounted s.tags op a.ty (value_type b) = counted s.tags h op a.ty (value_type b) k.good (decayed_good s.tags b.ty l.good) m in
    let r : AreCounted s.tags op (type_in s e) (value_type_in s f) =
    subst (λ t. AreCounted s.tags op t (value_type_in s f)) (sym (type_is s e a i)) (subst (λ u. AreCounted s.tags op a.ty u) (sym (value_type_is s f b j)) q) in
    known s (plain.Assign at (Some op) e f) (value_at at a.ty) (k.fit, l.fit, k.place (place_or (is_place a.sort) (is_aggregate a.ty) p.0), r) (k.good, scalar_single a.ty p.1, refl))

-- ---- choices, commas, casts and sizes

choice_value : (tags : Tags) (a b : Operand) → IsGood tags a.ty → IsGood tags b.ty → IfSome (IsValue tags) (choice_type a b)
choice_value tags a b g f =
    let t = value_type a in let u = value_type b in
    or_else_some (IsValue tags) (when (is_arithmetic t && is_arithmetic u) (common_type t u)) _ (when_some (IsValue tags) (is_arithmetic t && is_arithmetic u) (common_type t u) (λ _. word_value tags (is_unsigned t || is_unsigned u)))
    (or_else_some (IsValue tags) (when (is_void t && is_void u) type.Void) _ (when_some (IsValue tags) (is_void t && is_void u) type.Void (λ _. record { good = tt; single = refl }))
    (or_else_some (IsValue tags) (when (is_pointer t && (same_type t u || is_null_constant b)) t) _
    (when_some (IsValue tags) (is_pointer t && (same_type t u || is_null_constant b)) t
    (λ e. record { good = decayed_good tags a.ty g; single = pointer_single t (and_parts (is_pointer t) (same_type t u || is_null_constant b) e).0 }))
    (or_else_some (IsValue tags) (when (is_pointer u && is_null_constant a) u) _
    (when_some (IsValue tags) (is_pointer u && is_null_constant a) u (λ e. record { good = decayed_good tags b.ty f; single = pointer_single u (and_parts (is_pointer u) (is_null_constant a) e).0 }))
    (or_else_some (IsValue tags) (when ((is_void_pointer t && is_object_pointer u) || (is_object_pointer t && is_void_pointer u)) (type.Pointer type.Void)) (when (is_null_constant a && is_null_constant b) type.Null)
    (when_some (IsValue tags) ((is_void_pointer t && is_object_pointer u) || (is_object_pointer t && is_void_pointer u)) (type.Pointer type.Void) (λ _. record { good = tt; single = refl }))
    (when_some (IsValue tags) (is_null_constant a && is_null_constant b) type.Null (λ _. record { good = tt; single = refl }))))))

or_void : (tags : Tags) (o : Option CType) → IfSome (IsValue tags) o → IsValue tags (option_map_or (λ t. t) o type.Void)
or_void tags None v = record { good = tt; single = refl }
or_void tags (Some t) v = v

pub choice_known : (s : Scope) (at : ℕ) (e f g : CExpr) (a b c : Operand) → IsKnown s e a → IsKnown s f b → IsKnown s g c → IfOk (IsKnown s (plain.Cond at e f g)) (choice_operand at a b c)
choice_known s at e f g a b c k l m =
    keeping_two (IsKnown s (plain.Cond at e f g)) (is_condition a) (fault.Mismatch a.pos) (is_some (choice_type b c)) (fault.Mismatch at) (operand at (option_map_or (λ t. t) (choice_type b c) type.Void) Other (choice_constant a.constant b.constant c.constant))
    (λ _ _. known s (plain.Cond at e f g) (operand at (option_map_or (λ t. t) (choice_type b c) type.Void) Other (choice_constant a.constant b.constant c.constant)) (k.fit, l.fit, m.fit)
    (at_value s.tags at (option_map_or (λ t. t) (choice_type b c) type.Void) (choice_constant a.constant b.constant c.constant) (or_void s.tags (choice_type b c) (choice_value s.tags b c l.good m.good))))

comma_single : (t : CType) → not (is_struct t) ≡ true → is_aggregate (decayed t) ≡ false
comma_single (type.Struct tag) h = absurd cc
comma_single (type.Array t n) h = refl
comma_single (type.Pointer t) h = refl
comma_single type.Void h = refl
comma_single (type.Function t ts) h = refl
comma_single type.Int h = refl
comma_single type.Unsigned h = refl
comma_single type.Char h = refl
comma_single type.UChar h = refl
comma_single type.Null h = refl

pub comma_known : (s : Scope) (at : ℕ) (e f : CExpr) (a b : Operand) → IsKnown s e a → IsKnown s f b → IfOk (IsKnown s (plain.Comma at e f)) (comma_operand at a b)
comma_known s at e f a b k l =
    keeping_one (IsKnown s (plain.Comma at e f)) (not (is_struct b.ty)) (fault.Mismatch at) (operand at (value_type b) Other (on_two a.constant b.constant (λ x y. Value y)))
    (λ n. known s (plain.Comma at e f) (operand at (value_type b) Other (on_two a.constant b.constant (λ x y. Value y))) (k.fit, l.fit) (decayed_good s.tags b.ty l.good, comma_single b.ty n, refl))

cast_single : (t u : CType) → Casts t u → is_aggregate u ≡ false
cast_single t u (ToNothing e) = ap is_aggregate e
cast_single t u (Numbers p q) = arithmetic_single u q
cast_single t u (ObjectPointers d e m n p q) = ap is_aggregate q
cast_single t u (EqualFunctionPointers r ps p q) = ap is_aggregate q

pub cast_known : (s : Scope) (at : ℕ) (t : CTy) (e : CExpr) (u : CType) (a : Operand) → IsGood s.tags u → IsKnown s e a → IfOk (IsKnown s (plain.Cast at t e)) (cast_operand at u a)
cast_known s at t e u a g k =
    keeping_one (IsKnown s (plain.Cast at t e)) (can_cast (value_type a) u) (fault.Mismatch at) (operand at u Other (if is_arithmetic u then a.constant else NotConstant))
    (λ c. known s (plain.Cast at t e) (operand at u Other (if is_arithmetic u then a.constant else NotConstant)) k.fit (g, cast_single (value_type a) u ((casts_by_the_rule (value_type a) u).0 c), refl))

pub size_known : (s : Scope) (at : ℕ) (e : CExpr) (t : CType) → IsFit s e → IfOk (IsKnown s e) (size_operand s.tags at t)
size_known s at e t f =
    keeping_one (IsKnown s e) (is_object_type s.tags t || is_null t) (fault.Mismatch at) (operand at type.Unsigned Other (Value (words_of s.tags t % 2 ^ 24)))
    (λ _. known s e (operand at type.Unsigned Other (Value (words_of s.tags t % 2 ^ 24))) f (tt, refl, refl))

-- ---- elements and members

element_known : (tags : Tags) (at : ℕ) (o : Option CType) (r : Judged Operand) → IfSome (IsValue tags) o → IfOk (IsPointed tags) r → IfOk (IsPointed tags) (option_map_or (λ t. pointed_operand tags at t) o r)
element_known tags at None r v w = w
element_known tags at (Some t) r v w = pointed tags at t v.good

pub index_known : (s : Scope) (at : ℕ) (e f : CExpr) (a b : Operand) → TagsAreGood s.tags → judged s e ≡ Ok a → judged s f ≡ Ok b → IsKnown s e a → IsKnown s f b → IfOk (IsKnown s (plain.Index at e f)) (index_operand s.tags at a b)
index_known s at e f a b h i j k l =
    weaker (IsPointed s.tags) (IsKnown s (plain.Index at e f)) (index_operand s.tags at a b)
    (λ c g. at_place s (plain.Index at e f) c
    (k.fit, l.fit, counted_in s binary.Add e f a b i j (counted s.tags h binary.Add (value_type a) (value_type b) (decayed_good s.tags a.ty k.good) (decayed_good s.tags b.ty l.good) tt)) tt g.1 g.0)
    (element_known s.tags at (sum_type s.tags (value_type a) (value_type b)) (Err (fault.Mismatch at)) (sum_value s.tags (value_type a) (value_type b) (decayed_good s.tags a.ty k.good) (decayed_good s.tags b.ty l.good)) tt)

member_found : (tags : Tags) (at : ℕ) (e : TypeFault) (ms : List (List ℕ × CType)) (name : List ℕ) → EachIsGood tags ms → IfOk (IsPointed tags) (option_map_or (λ t. Ok (place_at at t)) (meaning ms name) (Err e))
member_found tags at e [] name g = tt
member_found tags at e (m ∷ ms) name g = by_name (bytes_eq name m.0) (member_found tags at e ms name g.1)
  where
    by_name : (b : Bool) → IfOk (IsPointed tags) (option_map_or (λ t. Ok (place_at at t)) (meaning ms name) (Err e)) → IfOk (IsPointed tags) (option_map_or (λ t. Ok (place_at at t)) (cond b (Some m.1) (meaning ms name)) (Err e))
    by_name true r = (g.0, refl)
    by_name false r = r

member_in_known : (tags : Tags) (at : ℕ) (name : List ℕ) (o : Option Layout) → LayoutIsGood tags o → IfOk (IsPointed tags) (member_in at name o)
member_in_known tags at name (Some (type.Members ms words)) g = member_found tags at (fault.Unknown at) ms name g.types
member_in_known tags at name (Some type.Unfinished) g = tt
member_in_known tags at name None g = tt

-- what has a member is a struct
abbrev IsMember : Tags → CType → Operand → Type 0
IsMember tags t a = IsPointed tags a × (is_aggregate t ≡ true)

member_known : (tags : Tags) → TagsAreGood tags → (at : ℕ) (name : List ℕ) (t : CType) → IfOk (IsMember tags t) (member_operand tags at name t)
member_known tags h at name (type.Struct tag) = weaker (IsPointed tags) (IsMember tags (type.Struct tag)) (member_in at name (meaning tags tag)) (λ a g. (g, refl)) (member_in_known tags at name (meaning tags tag) (h.at tag))
member_known tags h at name (type.Pointer t) = tt
member_known tags h at name (type.Array t n) = tt
member_known tags h at name type.Void = tt
member_known tags h at name (type.Function t ts) = tt
member_known tags h at name type.Int = tt
member_known tags h at name type.Unsigned = tt
member_known tags h at name type.Char = tt
member_known tags h at name type.UChar = tt
member_known tags h at name type.Null = tt

or_place : (a b : Bool) → b ≡ true → (a || b) ≡ true
or_place true b h = refl
or_place false b h = h

pub dot_known : (s : Scope) (at : ℕ) (e : CExpr) (m : List ℕ) (a : Operand) → TagsAreGood s.tags → IsKnown s e a → IfOk (IsKnown s (plain.Member at e m)) (member_operand s.tags at m a.ty)
dot_known s at e m a h k =
    weaker (IsMember s.tags a.ty) (IsKnown s (plain.Member at e m)) (member_operand s.tags at m a.ty)
    (λ b g. at_place s (plain.Member at e m) b (k.fit, k.place (or_place (is_place a.sort) (is_aggregate a.ty) g.1), member_below s.tags h (type_in s e) m) tt g.0.1 g.0.0)
    (member_known s.tags h at m a.ty)

pointer_member : (tags : Tags) → TagsAreGood tags → (at : ℕ) (name : List ℕ) (t : CType) → IfOk (IsPointed tags) (arrow_operand tags at name t)
pointer_member tags h at name (type.Pointer t) = weaker (IsMember tags t) (IsPointed tags) (member_operand tags at name t) (λ a g. g.0) (member_known tags h at name t)
pointer_member tags h at name (type.Struct tag) = tt
pointer_member tags h at name (type.Array t n) = tt
pointer_member tags h at name type.Void = tt
pointer_member tags h at name (type.Function t ts) = tt
pointer_member tags h at name type.Int = tt
pointer_member tags h at name type.Unsigned = tt
pointer_member tags h at name type.Char = tt
pointer_member tags h at name type.UChar = tt
pointer_member tags h at name type.Null = tt

pub arrow_known : (s : Scope) (at : ℕ) (e : CExpr) (m : List ℕ) (a : Operand) → TagsAreGood s.tags → IsKnown s e a → IfOk (IsKnown s (plain.Arrow at e m)) (arrow_operand s.tags at m (value_type a))
arrow_known s at e m a h k =
    weaker (IsPointed s.tags) (IsKnown s (plain.Arrow at e m)) (arrow_operand s.tags at m (value_type a))
    (λ b g. at_place s (plain.Arrow at e m) b (k.fit, member_below s.tags h (pointee (value_type_in s e)) m) tt g.1 g.0)
    (pointer_member s.tags h at m (value_type a))

-- ---- calls

abbrev pub CalleeIsGood : Tags → Callee → Type 0
CalleeIsGood tags (Direct t defined) = IsGood tags t
CalleeIsGood tags (Through t) = IsGood tags t
CalleeIsGood tags Format = Unit {0}

function_known : (tags : Tags) (at : ℕ) (defined : Bool) (t : CType) (xs : List Operand) → IsGood tags t → IfOk (IsSingle tags) (function_call at defined t xs)
function_known tags at defined (type.Function t ts) xs g =
    keeping_ok (IsSingle tags) ((defined && count_of ts == length xs, fault.BadCall at) ∷ argument_rules ts xs) (value_at at t) (λ _. (g.0, result_single t g.2, refl))
function_known tags at defined (type.Pointer t) xs g = tt
function_known tags at defined (type.Struct tag) xs g = tt
function_known tags at defined (type.Array t n) xs g = tt
function_known tags at defined type.Void xs g = tt
function_known tags at defined type.Int xs g = tt
function_known tags at defined type.Unsigned xs g = tt
function_known tags at defined type.Char xs g = tt
function_known tags at defined type.UChar xs g = tt
function_known tags at defined type.Null xs g = tt

pointer_known : (tags : Tags) (at : ℕ) (t : CType) (xs : List Operand) → IsGood tags t → IfOk (IsSingle tags) (pointer_call at t xs)
pointer_known tags at (type.Pointer t) xs g = function_known tags at true t xs g
pointer_known tags at (type.Struct tag) xs g = tt
pointer_known tags at (type.Array t n) xs g = tt
pointer_known tags at (type.Function t ts) xs g = tt
pointer_known tags at type.Void xs g = tt
pointer_known tags at type.Int xs g = tt
pointer_known tags at type.Unsigned xs g = tt
pointer_known tags at type.Char xs g = tt
pointer_known tags at type.UChar xs g = tt
pointer_known tags at type.Null xs g = tt

pub call_known : (tags : Tags) (at : ℕ) (c : Callee) (format : Option (List ℕ)) (xs : List Operand) → CalleeIsGood tags c → IfOk (IsSingle tags) (call_operand at c format xs)
call_known tags at (Direct t defined) format xs g = function_known tags at defined t xs g
call_known tags at (Through t) format xs g = pointer_known tags at t xs g
call_known tags at Format format xs g = keeping_one (IsSingle tags) (is_print_form format xs) (fault.BadCall at) (value_at at type.Void) (λ _. (tt, refl, refl))

pub named_callee_known : (s : Scope) (at : ℕ) (name : List ℕ) (o : Option Entity) → EntityIsGood s.tags o → IfOk (CalleeIsGood s.tags) (named_callee s at name o)
named_callee_known s at name (Some (Object t)) g = decayed_good s.tags t g
named_callee_known s at name (Some (Routine t begun)) g = g
named_callee_known s at name (Some (BuiltIn t)) g = g
named_callee_known s at name (Some Printf) g = tt
named_callee_known s at name None g = tt

-- the callee of a call is fit
abbrev pub IsCallee : Scope → CExpr → Callee → Type 0
IsCallee s f c = IsFit s f × CalleeIsGood s.tags c

pub through_known : (s : Scope) (f : CExpr) (r : Judged Operand) → IfOk (IsKnown s f) r → IfOk (IsCallee s f) (through r)
through_known s f (Ok a) k = (k.fit, decayed_good s.tags a.ty k.good)
through_known s f (Err e) k = tt
