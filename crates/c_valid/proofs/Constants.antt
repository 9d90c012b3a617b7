-- The values of constant expressions are words.
use Rattle.std.proofs.Common.{ℕ, ◌<◌, List, [], ◌∷◌, Option, Some, None, Bool, true, false, arith}
use Rattle.std.specs.Prelude.{◌^◌, ◌%◌, not, ◌&&◌, ◌||◌, ◌==◌, length, is_some, Ok, Err, if◌then◌else◌}
use Rattle.std.specs.Option.{option_map, option_map_or}
use Rattle.c_syntax.specs.Plain as plain
use Rattle.c_syntax.specs.Plain.{CExpr}
use Rattle.c_syntax.specs.Words.{meaning}
use Rattle.c_syntax.specs.declared.tree.UnOp.{UnOp}
use Rattle.c_syntax.specs.declared.tree.BinOp.{BinOp}
use Rattle.c_syntax.specs.declared.tree.UnOp.TheVariants as unary
use Rattle.c_syntax.specs.declared.tree.BinOp.TheVariants as binary
use Rattle.c_types.specs.declared.fault.TypeFault.{TypeFault}
use Rattle.c_types.specs.declared.fault.TypeFault.TheVariants as fault
use Rattle.c_types.specs.Types as type
use Rattle.c_types.specs.Types.{CType, Tags, Layout, is_arithmetic, is_null, is_struct, promoted, words_of, is_object_type}
use Rattle.c_types.specs.Refusals.{Judged, Rule, after, both, broken, keeping}
use Rattle.c_types.specs.Constants.{Constant, NotConstant, Undefined, Value, on_one, on_two, is_constant, beside, choice_constant, unary_constant, binary_constant}
use Rattle.c_types.specs.Scope.{Scope, Entity, Object, Routine, BuiltIn, Printf, entity_of, contains}
use Rattle.c_types.specs.Operands.{Operand, Other, Designator, is_place, is_array, is_condition, is_word_place, converts, can_cast, result_converts, choice_type, count_of, argument_rules, is_print_form, operand, value_at, place_at, is_designator, sum_type, value_type, typed_or, binary_type, address_operand, pointed_operand, unary_operand, assign_operand, cast_operand, size_operand, member_in, member_operand, arrow_operand, Callee, Direct, Format, Through, function_call, pointer_call, call_operand}
use Rattle.c_types.specs.Expressions.{names_function, named, callee_of, format_of, judged, all_judged, written}
use Rattle.c_eval.specs.Environment.{constant_word, word_in, constant_in}
use Rattle.c_valid.specs.Valid.{ConstantIsWord}
use Rattle.c_valid.proofs.Keeping.{Any}
use Rattle.c_valid.proofs.Operators.{truth_below, binary_word, unary_word}

-- ---- constants

on_one_word : (c : Constant) (f : ℕ → Constant) → ConstantIsWord c → ((n : ℕ) → n < 2 ^ 24 → ConstantIsWord (f n)) → ConstantIsWord (on_one c f)
on_one_word NotConstant f w t = tt
on_one_word (Undefined at) f w t = tt
on_one_word (Value n) f w t = t n w

on_two_word : (c d : Constant) (f : ℕ → ℕ → Constant) → ConstantIsWord c → ConstantIsWord d → ((m n : ℕ) → m < 2 ^ 24 → n < 2 ^ 24 → ConstantIsWord (f m n)) → ConstantIsWord (on_two c d f)
on_two_word NotConstant d f v w t = tt
on_two_word (Undefined at) NotConstant f v w t = tt
on_two_word (Undefined at) (Undefined other) f v w t = tt
on_two_word (Undefined at) (Value n) f v w t = tt
on_two_word (Value m) d f v w t = on_one_word d (f m) w (λ n lt. t m n v lt)

beside_word : (skipped c : Constant) → ConstantIsWord c → ConstantIsWord (beside skipped c)
beside_word skipped c w = by_form (is_constant skipped)
  where
    by_form : (b : Bool) → ConstantIsWord (if b then c else NotConstant)
    by_form true = w
    by_form false = tt

if_word : (b : Bool) (c d : Constant) → ConstantIsWord c → ConstantIsWord d → ConstantIsWord (if b then c else d)
if_word true c d v w = v
if_word false c d v w = w

binary_constant_word : (at : ℕ) (op : BinOp) (left unsigned : Bool) (c d : Constant) → ConstantIsWord c → ConstantIsWord d → ConstantIsWord (binary_constant at op left unsigned c d)
binary_constant_word at binary.Or left unsigned c d v w =
    beside_word d _ (on_one_word c _ v (λ n lt. if_word (n == 0) _ (Value 1) (on_one_word d _ w (λ m below. truth_below (not (m == 0)))) (omega arith)))
binary_constant_word at binary.And left unsigned c d v w =
    beside_word d _ (on_one_word c _ v (λ n lt. if_word (n == 0) (Value 0) _ (omega arith) (on_one_word d _ w (λ m below. truth_below (not (m == 0))))))
binary_constant_word at op left unsigned c d v w = on_two_word c d _ v w (λ m n a b. binary_word at op left unsigned m n a b)

choice_constant_word : (a b c : Constant) → ConstantIsWord b → ConstantIsWord c → ConstantIsWord (choice_constant a b c)
choice_constant_word a b c v w = beside_word b _ (beside_word c _ (by_choice a))
  where
    by_choice : (a : Constant) → ConstantIsWord (on_one a (λ x. if x == 0 then c else b))
    by_choice NotConstant = tt
    by_choice (Undefined at) = tt
    by_choice (Value x) = if_word (x == 0) c b w v

-- ---- judgements

-- what isn't refused
abbrev pub IfOk : {A : Type 0} → (A → Type 0) → Judged A → Type 0
IfOk G (Ok a) = G a
IfOk G (Err e) = Unit {0}

-- the value of an operand as a constant
abbrev pub IsWord : Operand → Type 0
IsWord a = ConstantIsWord a.constant

after_ok : {A B : Type 0} (G : A → Type 0) (H : B → Type 0) (r : Judged A) (f : A → Judged B) → IfOk G r → ((a : A) → G a → IfOk H (f a)) → IfOk H (after r f)
after_ok G H (Ok a) f g t = t a g
after_ok G H (Err e) f g t = tt

both_ok : {A B C : Type 0} (G : A → Type 0) (H : B → Type 0) (K : C → Type 0) (r : Judged A) (q : Judged B) (f : A → B → Judged C) → IfOk G r → IfOk H q → ((a : A) (b : B) → G a → H b → IfOk K (f a b)) → IfOk K (both r q f)
both_ok G H K (Ok a) (Ok b) f g h t = t a b g h
both_ok G H K (Ok a) (Err e) f g h t = tt
both_ok G H K (Err d) (Ok b) f g h t = tt
both_ok G H K (Err d) (Err e) f g h t = tt

any_ok : {A : Type 0} (r : Judged A) → IfOk Any r
any_ok (Ok a) = tt
any_ok (Err e) = tt

keeping_ok : {A : Type 0} (G : A → Type 0) (rules : List Rule) (a : A) → G a → IfOk G (keeping rules a)
keeping_ok {A} G rules a g = by_broken (broken rules)
  where
    by_broken : (o : Option TypeFault) → IfOk G (option_map_or (λ e. Err e) o (Ok a))
    by_broken None = g
    by_broken (Some e) = tt

typed_or_ok : (at : ℕ) (o : Option CType) (c : Constant) → ConstantIsWord c → IfOk IsWord (typed_or at (option_map (λ t. operand at t Other c) o))
typed_or_ok at None c w = tt
typed_or_ok at (Some t) c w = w

pointed_word : (tags : Tags) (at : ℕ) (t : CType) → IfOk IsWord (pointed_operand tags at t)
pointed_word tags at (type.Pointer (type.Function t ts)) = tt
pointed_word tags at (type.Pointer t) = keeping_ok IsWord ((is_object_type tags t, fault.Mismatch at) ∷ []) (place_at at t) tt
pointed_word tags at t = tt

address_word : (at : ℕ) (a : Operand) → IfOk IsWord (address_operand at a)
address_word at a = by_sort (is_designator a.sort)
  where
    by_sort : (b : Bool) → IfOk IsWord (if b then Ok (value_at at a.ty) else keeping ((is_place a.sort || is_array a.ty, fault.NotLvalue a.pos) ∷ []) (value_at at (type.Pointer a.ty)))
    by_sort true = tt
    by_sort false = keeping_ok IsWord ((is_place a.sort || is_array a.ty, fault.NotLvalue a.pos) ∷ []) (value_at at (type.Pointer a.ty)) tt

unary_operand_word : (tags : Tags) (at : ℕ) (op : UnOp) (a : Operand) → IsWord a → IfOk IsWord (unary_operand tags at op a)
unary_operand_word tags at unary.Address a w = address_word at a
unary_operand_word tags at unary.Deref a w = pointed_word tags at (value_type a)
unary_operand_word tags at unary.Not a w = keeping_ok IsWord ((is_condition a, fault.Mismatch at) ∷ []) (operand at type.Int Other (unary_constant unary.Not a.constant)) (unary_word unary.Not a.constant w)
unary_operand_word tags at op a w = keeping_ok IsWord ((is_arithmetic (value_type a), fault.Mismatch at) ∷ []) (operand at (promoted (value_type a)) Other (unary_constant op a.constant)) (unary_word op a.constant w)

assign_word : (tags : Tags) (at : ℕ) (op : Option BinOp) (a b : Operand) → IfOk IsWord (assign_operand tags at op a b)
assign_word tags at None a b = keeping_ok IsWord ((is_word_place a, fault.NotLvalue a.pos) ∷ (converts b a.ty, fault.Mismatch at) ∷ []) (value_at at a.ty) tt
assign_word tags at (Some op) a b = keeping_ok IsWord ((is_word_place a, fault.NotLvalue a.pos) ∷ (result_converts at (binary_type tags op a b) a.ty, fault.Mismatch at) ∷ []) (value_at at a.ty) tt

size_word : (tags : Tags) (at : ℕ) (t : CType) → IfOk IsWord (size_operand tags at t)
size_word tags at t = keeping_ok IsWord ((is_object_type tags t || is_null t, fault.Mismatch at) ∷ []) (operand at type.Unsigned Other (Value (words_of tags t % 2 ^ 24))) (omega arith)

index_word : (tags : Tags) (at : ℕ) (o : Option CType) (r : Judged Operand) → IfOk IsWord r → IfOk IsWord (option_map_or (λ t. pointed_operand tags at t) o r)
index_word tags at None r w = w
index_word tags at (Some t) r w = pointed_word tags at t

member_word : (at : ℕ) (o : Option CType) (e : TypeFault) → IfOk IsWord (option_map_or (λ t. Ok (place_at at t)) o (Err e))
member_word at None e = tt
member_word at (Some t) e = tt

member_in_word : (at : ℕ) (name : List ℕ) (o : Option Layout) → IfOk IsWord (member_in at name o)
member_in_word at name (Some (type.Members ms words)) = member_word at (meaning ms name) _
member_in_word at name (Some type.Unfinished) = tt
member_in_word at name None = tt

member_operand_word : (tags : Tags) (at : ℕ) (name : List ℕ) (t : CType) → IfOk IsWord (member_operand tags at name t)
member_operand_word tags at name (type.Struct tag) = member_in_word at name (meaning tags tag)
member_operand_word tags at name t = tt

arrow_word : (tags : Tags) (at : ℕ) (name : List ℕ) (t : CType) → IfOk IsWord (arrow_operand tags at name t)
arrow_word tags at name (type.Pointer t) = member_operand_word tags at name t
arrow_word tags at name t = tt

function_word : (at : ℕ) (defined : Bool) (t : CType) (xs : List Operand) → IfOk IsWord (function_call at defined t xs)
function_word at defined (type.Function t ts) xs = keeping_ok IsWord ((defined && count_of ts == length xs, fault.BadCall at) ∷ argument_rules ts xs) (value_at at t) tt
function_word at defined t xs = tt

pointer_call_word : (at : ℕ) (t : CType) (xs : List Operand) → IfOk IsWord (pointer_call at t xs)
pointer_call_word at (type.Pointer t) xs = function_word at true t xs
pointer_call_word at t xs = tt

call_word : (at : ℕ) (c : Callee) (format : Option (List ℕ)) (xs : List Operand) → IfOk IsWord (call_operand at c format xs)
call_word at (Direct t defined) format xs = function_word at defined t xs
call_word at (Through t) format xs = pointer_call_word at t xs
call_word at Format format xs = keeping_ok IsWord ((is_print_form format xs, fault.BadCall at) ∷ []) (value_at at type.Void) tt

named_word : (s : Scope) (at : ℕ) (name : List ℕ) (o : Option Entity) → IfOk IsWord (named s at name o)
named_word s at name (Some (Object t)) = tt
named_word s at name (Some (Routine t begun)) = keeping_ok IsWord ((contains s.defined name, fault.BadCall at) ∷ []) (operand at (type.Pointer t) Designator NotConstant) tt
named_word s at name (Some (BuiltIn t)) = tt
named_word s at name (Some Printf) = tt
named_word s at name None = tt

cast_word : (at : ℕ) (t : CType) (a : Operand) → IsWord a → IfOk IsWord (cast_operand at t a)
cast_word at t a w = keeping_ok IsWord ((can_cast (value_type a) t, fault.Mismatch at) ∷ []) (operand at t Other (if is_arithmetic t then a.constant else NotConstant)) (if_word (is_arithmetic t) a.constant NotConstant w tt)

unless_named : (b : Bool) (e : TypeFault) (r : Judged Operand) → IfOk IsWord r → IfOk IsWord (if b then Err e else r)
unless_named true e r w = tt
unless_named false e r w = w

-- a judged expression has no constant of 2^24 or more
pub judged_word : (s : Scope) (e : CExpr) → IfOk IsWord (judged s e)
judged_word s (plain.Number at n unsigned) = omega arith
judged_word s (plain.Str at text) = tt
judged_word s (plain.Null at) = tt
judged_word s (plain.Var at name) = named_word s at name (entity_of s name)
judged_word s (plain.Unary at op a) = after_ok IsWord IsWord (judged s a) _ (judged_word s a) (λ x w. unary_operand_word s.tags at op x w)
judged_word s (plain.Step at op a) = after_ok IsWord IsWord (judged s a) _ (judged_word s a) (λ x w. keeping_ok IsWord ((is_word_place x, fault.NotLvalue x.pos) ∷ (is_some (sum_type s.tags (value_type x) type.Int), fault.Mismatch at) ∷ []) (value_at at (value_type x)) tt)
judged_word s (plain.Binary at op a b) =
    both_ok IsWord IsWord IsWord (judged s a) (judged s b) _ (judged_word s a) (judged_word s b)
    (λ x y v w. typed_or_ok at (binary_type s.tags op x y) _ (binary_constant_word at op _ _ x.constant y.constant v w))
judged_word s (plain.Assign at op a b) = both_ok IsWord IsWord IsWord (judged s a) (judged s b) _ (judged_word s a) (judged_word s b) (λ x y v w. assign_word s.tags at op x y)
judged_word s (plain.Cond at a b c) =
    both_ok IsWord (λ yz. IsWord yz.0 × IsWord yz.1) IsWord (judged s a) _ _ (judged_word s a)
    (both_ok IsWord IsWord (λ yz. IsWord yz.0 × IsWord yz.1) (judged s b) (judged s c) _ (judged_word s b) (judged_word s c) (λ y z v w. (v, w)))
    (λ x yz u vw. keeping_ok IsWord ((is_condition x, fault.Mismatch x.pos) ∷ (is_some (choice_type yz.0 yz.1), fault.Mismatch at) ∷ []) (operand at (option_map_or (λ t. t) (choice_type yz.0 yz.1) type.Void) Other (choice_constant x.constant yz.0.constant yz.1.constant)) (choice_constant_word x.constant yz.0.constant yz.1.constant vw.0 vw.1))
judged_word s (plain.Comma at a b) =
    both_ok IsWord IsWord IsWord (judged s a) (judged s b) _ (judged_word s a) (judged_word s b)
    (λ x y v w. keeping_ok IsWord ((not (is_struct y.ty), fault.Mismatch at) ∷ []) (operand at (value_type y) Other (on_two x.constant y.constant (λ m n. Value n))) (on_two_word x.constant y.constant _ v w (λ m n c d. d)))
judged_word s (plain.Cast at t a) = both_ok Any IsWord IsWord (written s at t) (judged s a) _ (any_ok _) (judged_word s a) (λ u x _ w. cast_word at u x w)
judged_word s (plain.SizeTy at t) = after_ok Any IsWord (written s at t) _ (any_ok _) (λ u _. size_word s.tags at u)
judged_word s (plain.SizeOf at a) = unless_named (names_function s a) _ _ (after_ok IsWord IsWord (judged s a) _ (judged_word s a) (λ x w. size_word s.tags at x.ty))
judged_word s (plain.Index at a b) =
    both_ok IsWord IsWord IsWord (judged s a) (judged s b) _ (judged_word s a) (judged_word s b) (λ x y v w. index_word s.tags at (sum_type s.tags (value_type x) (value_type y)) _ tt)
judged_word s (plain.Call at f es) =
    both_ok Any Any IsWord (callee_of s at f (judged s f)) (all_judged s es) _ (any_ok _) (any_ok _) (λ c xs _ _. call_word at c (format_of es) xs)
judged_word s (plain.Member at a m) = after_ok IsWord IsWord (judged s a) _ (judged_word s a) (λ x w. member_operand_word s.tags at m x.ty)
judged_word s (plain.Arrow at a m) = after_ok IsWord IsWord (judged s a) _ (judged_word s a) (λ x w. arrow_word s.tags at m (value_type x))

-- the word of a constant expression
constant_below : (c : Constant) → ConstantIsWord c → constant_word c < 2 ^ 24
constant_below NotConstant w = omega arith
constant_below (Undefined at) w = omega arith
constant_below (Value n) w = w

pub constant_in_below : (s : Scope) (e : CExpr) → constant_in s e < 2 ^ 24
constant_in_below s e = of_judged (judged s e) (judged_word s e)
  where
    of_judged : (r : Judged Operand) → IfOk IsWord r → word_in r < 2 ^ 24
    of_judged (Ok a) w = constant_below a.constant w
    of_judged (Err e) w = omega arith
