-- Constant expressions are numbers and have no string literal; a literal 0 has the value 0.
use Rattle.std.proofs.Common.{◌≡◌, ℕ, ◌+◌, List, [], ◌∷◌, ◌++◌, length, Option, Some, None, Bool, true, false, refl, sym, ap, ap₂, ◌∙◌, subst}
use Rattle.std.specs.Prelude.{◌&&◌, ◌||◌, ◌==◌, ◌%◌, ◌^◌, not, is_some, IfOk, Ok, Err, if◌then◌else◌}
use Rattle.std.specs.Option.{option_map, option_map_or}
use Rattle.std.proofs.lemmas.Bool.{eqb-true}
use Rattle.c_syntax.specs.Plain as plain
use Rattle.c_syntax.specs.Plain.{CExpr}
use Rattle.c_syntax.specs.Words.{meaning}
use Rattle.c_syntax.specs.declared.tree.UnOp.{UnOp}
use Rattle.c_syntax.specs.declared.tree.BinOp.{BinOp}
use Rattle.c_syntax.specs.declared.tree.UnOp.TheVariants as unary
use Rattle.c_syntax.specs.declared.tree.BinOp.TheVariants as binary
use Rattle.c_types.specs.declared.fault.TypeFault.{TypeFault}
use Rattle.c_types.specs.declared.fault.TypeFault.TheVariants as fault
use Rattle.c_types.specs.Types as type
use Rattle.c_types.specs.Types.{CType, Layout, Unfinished, Members, Tags, is_arithmetic, is_unsigned, is_struct, is_null, decayed, promoted, common_type, is_object_type}
use Rattle.c_types.specs.Constants as constant
use Rattle.c_types.specs.Constants.{Constant, on_one, on_two, is_constant, beside, choice_constant, unary_constant, binary_constant, binary_value, truth}
use Rattle.c_types.specs.Refusals.{Judged, Rule, after, both, broken, keeping}
use Rattle.c_types.specs.Scope as entity
use Rattle.c_types.specs.Scope.{Scope, Entity, entity_of, contains}
use Rattle.c_types.specs.Operands.{Sort, Zero, Designator, Place, Other, Operand, operand, value_at, place_at, value_type, is_place, is_designator, is_zero, is_array, is_word_place, is_condition, can_cast, converts, when, or_else, sum_type, binary_type, typed_or, either_unsigned, address_operand, pointed_operand, number_operand, unary_operand, step_operand, result_converts, assign_operand, choice_type, choice_operand, comma_operand, cast_operand, size_operand, index_operand, member_in, member_operand, arrow_operand, Callee, Direct, Format, Through, is_print_form, argument_rules, count_of, function_call, pointer_call, call_operand}
use Rattle.c_types.specs.Expressions.{named, callee_of, format_of, names_function, literal, judged, all_judged, written}
use Rattle.c_eval.specs.LiteralsIn.{literals_in}

-- ---- constants that are made of others

one_constant : (c : Constant) (f : ℕ → Constant) → is_constant (on_one c f) ≡ true → is_constant c ≡ true
one_constant constant.NotConstant f h = h
one_constant (constant.Undefined at) f h = refl
one_constant (constant.Value n) f h = refl

two_constants : (c d : Constant) (f : ℕ → ℕ → Constant) → is_constant (on_two c d f) ≡ true → (is_constant c ≡ true) × (is_constant d ≡ true)
two_constants constant.NotConstant d f h = absurd (cc h)
two_constants (constant.Undefined at) constant.NotConstant f h = absurd (cc h)
two_constants (constant.Undefined at) (constant.Undefined other) f h = (refl, refl)
two_constants (constant.Undefined at) (constant.Value n) f h = (refl, refl)
two_constants (constant.Value m) d f h = (refl, one_constant d (λ n. f m n) h)

both_sides : (c d : Constant) → is_constant (beside c d) ≡ true → (is_constant c ≡ true) × (is_constant d ≡ true)
both_sides constant.NotConstant d h = absurd (cc h)
both_sides (constant.Undefined at) d h = (refl, h)
both_sides (constant.Value n) d h = (refl, h)

unary_part : (op : UnOp) (c : Constant) → is_constant (unary_constant op c) ≡ true → is_constant c ≡ true
unary_part unary.Address c h = absurd (cc h)
unary_part unary.Deref c h = absurd (cc h)
unary_part unary.Plus c h = h
unary_part unary.Minus c h = one_constant c _ h
unary_part unary.Invert c h = one_constant c _ h
unary_part unary.Not c h = one_constant c _ h

binary_parts : (at : ℕ) (op : BinOp) (left unsigned : Bool) (c d : Constant) → is_constant (binary_constant at op left unsigned c d) ≡ true → (is_constant c ≡ true) × (is_constant d ≡ true)
binary_parts at binary.Or left unsigned c d h = let p = both_sides d (on_one c (λ x. if x == 0 then on_one d (λ y. constant.Value (truth (not (y == 0)))) else constant.Value 1)) h in (one_constant c _ p.1, p.0)
binary_parts at binary.And left unsigned c d h = let p = both_sides d (on_one c (λ x. if x == 0 then constant.Value 0 else on_one d (λ y. constant.Value (truth (not (y == 0)))))) h in (one_constant c _ p.1, p.0)
binary_parts at op left unsigned c d h = two_constants c d (λ x y. binary_value at op left unsigned x y) h

choice_parts : (a b c : Constant) → is_constant (choice_constant a b c) ≡ true → (is_constant a ≡ true) × (is_constant b ≡ true) × (is_constant c ≡ true)
choice_parts a b c h =
    let p = both_sides b (beside c (on_one a (λ x. if x == 0 then c else b))) h in
    let q = both_sides c (on_one a (λ x. if x == 0 then c else b)) p.1 in
    (one_constant a _ q.1, p.0, q.0)

cast_parts : (b : Bool) (c : Constant) → is_constant (if b then c else constant.NotConstant) ≡ true → (b ≡ true) × (is_constant c ≡ true)
cast_parts true c h = (refl, h)
cast_parts false c h = absurd (cc h)

-- ---- types of numbers

decayed_number : (t : CType) → is_arithmetic t ≡ true → is_arithmetic (decayed t) ≡ true
decayed_number (type.Array t n) h = absurd (cc h)
decayed_number type.Void h = h
decayed_number type.Int h = h
decayed_number type.Unsigned h = h
decayed_number type.Char h = h
decayed_number type.UChar h = h
decayed_number type.Null h = h
decayed_number (type.Struct tag) h = h
decayed_number (type.Pointer t) h = h
decayed_number (type.Function t ts) h = h

counted_number : (b : Bool) → is_arithmetic (if b then type.Unsigned else type.Int) ≡ true
counted_number true = refl
counted_number false = refl

abbrev AreNumbers : Option CType → Type 0
AreNumbers o = (t : CType) → o ≡ Some t → is_arithmetic t ≡ true

some_number : (t : CType) → is_arithmetic t ≡ true → AreNumbers (Some t)
some_number t h u e = let same : t ≡ u = cc e in subst (λ z. is_arithmetic z ≡ true) same h

when_number : (b : Bool) (t : CType) → is_arithmetic t ≡ true → AreNumbers (when b t)
when_number true t h u e = some_number t h u e
when_number false t h u e = absurd (cc e)

-- two numbers give what their first rule says
first_number : (t u : CType) (o : Option CType) → is_arithmetic t ≡ true → is_arithmetic u ≡ true → AreNumbers (or_else (when (is_arithmetic t && is_arithmetic u) (common_type t u)) o)
first_number t u o h k =
    subst (λ (b : Bool). AreNumbers (or_else (when b (common_type t u)) o)) (sym (ap₂ (λ x y. x && y) h k)) (some_number (common_type t u) (counted_number (is_unsigned t || is_unsigned u)))

binary_number : (tags : Tags) (op : BinOp) (a b : Operand) → is_arithmetic (value_type a) ≡ true → is_arithmetic (value_type b) ≡ true → AreNumbers (binary_type tags op a b)
binary_number tags binary.Or a b h k = when_number (is_condition a && is_condition b) type.Int refl
binary_number tags binary.And a b h k = when_number (is_condition a && is_condition b) type.Int refl
binary_number tags binary.Eq a b h k = when_number _ type.Int refl
binary_number tags binary.Ne a b h k = when_number _ type.Int refl
binary_number tags binary.Lt a b h k = when_number _ type.Int refl
binary_number tags binary.Gt a b h k = when_number _ type.Int refl
binary_number tags binary.Le a b h k = when_number _ type.Int refl
binary_number tags binary.Ge a b h k = when_number _ type.Int refl
binary_number tags binary.Shl a b h k = when_number (is_arithmetic (value_type a) && is_arithmetic (value_type b)) (value_type a) h
binary_number tags binary.Shr a b h k = when_number (is_arithmetic (value_type a) && is_arithmetic (value_type b)) (value_type a) h
binary_number tags binary.Add a b h k = first_number (value_type a) (value_type b) _ h k
binary_number tags binary.Sub a b h k = first_number (value_type a) (value_type b) _ h k
binary_number tags op a b h k = when_number (is_arithmetic (value_type a) && is_arithmetic (value_type b)) (common_type (value_type a) (value_type b)) (counted_number (is_unsigned (value_type a) || is_unsigned (value_type b)))

-- ---- what an expression tells

-- of an operand whose expression has these string literals
abbrev pub Is : List (List ℕ) → Operand → Type 0
Is ls a = (is_constant a.constant ≡ true → (is_arithmetic a.ty ≡ true) × (ls ≡ [])) × (is_zero a.sort ≡ true → a.constant ≡ constant.Value 0)

record Tells (ls : List (List ℕ)) (r : Judged Operand) : Type 0 where
  told : IfOk r (Is ls)

no_constant : (ls : List (List ℕ)) (at : ℕ) (t : CType) (sort : Sort) → is_zero sort ≡ false → Is ls (operand at t sort constant.NotConstant)
no_constant ls at t sort e = (λ c. absurd (cc c), λ z. absurd (cc (sym z ∙ e)))

-- what is no literal
other_is : (ls : List (List ℕ)) (at : ℕ) (t : CType) (c : Constant) → (is_constant c ≡ true → (is_arithmetic t ≡ true) × (ls ≡ [])) → Is ls (operand at t Other c)
other_is ls at t c h = (h, λ z. absurd (cc z))

keeping_tells : (ls : List (List ℕ)) (rules : List Rule) (a : Operand) → Is ls a → Tells ls (keeping rules a)
keeping_tells ls rules a h = go (broken rules)
  where
    go : (o : Option TypeFault) → Tells ls (option_map_or (λ e. Err e) o (Ok a))
    go None = record { told = h }
    go (Some e) = record { told = tt }

after_tells : {A : Type 0} (ls : List (List ℕ)) (r : Judged A) (f : A → Judged Operand) → ((a : A) → r ≡ Ok a → Tells ls (f a)) → Tells ls (after r f)
after_tells ls (Ok a) f h = h a refl
after_tells ls (Err e) f h = record { told = tt }

both_tell : {A B : Type 0} (ls : List (List ℕ)) (r : Judged A) (q : Judged B) (f : A → B → Judged Operand) → ((a : A) (b : B) → r ≡ Ok a → q ≡ Ok b → Tells ls (f a b)) → Tells ls (both r q f)
both_tell ls (Ok a) (Ok b) f h = h a b refl refl
both_tell ls (Ok a) (Err e) f h = record { told = tt }
both_tell ls (Err d) (Ok b) f h = record { told = tt }
both_tell ls (Err d) (Err e) f h = record { told = tt }

told_of : (ls : List (List ℕ)) (r : Judged Operand) (a : Operand) → Tells ls r → r ≡ Ok a → Is ls a
told_of ls r a t e = subst (λ q. IfOk q (Is ls)) e t.told

pointed_tells : (ls : List (List ℕ)) (tags : Tags) (at : ℕ) (t : CType) → Tells ls (pointed_operand tags at t)
pointed_tells ls tags at (type.Pointer (type.Function t ts)) = record { told = no_constant ls at (type.Pointer (type.Function t ts)) Other refl }
pointed_tells ls tags at (type.Pointer t) = keeping_tells ls ((is_object_type tags t, fault.Mismatch at) ∷ []) (place_at at t) (no_constant ls at t Place refl)
pointed_tells ls tags at t = record { told = tt }

address_tells : (ls : List (List ℕ)) (at : ℕ) (a : Operand) → Tells ls (address_operand at a)
address_tells ls at a = go (is_designator a.sort)
  where
    go : (b : Bool) → Tells ls (if b then Ok (value_at at a.ty) else keeping ((is_place a.sort || is_array a.ty, fault.NotLvalue a.pos) ∷ []) (value_at at (type.Pointer a.ty)))
    go true = record { told = no_constant ls at a.ty Other refl }
    go false = keeping_tells ls ((is_place a.sort || is_array a.ty, fault.NotLvalue a.pos) ∷ []) (value_at at (type.Pointer a.ty)) (no_constant ls at (type.Pointer a.ty) Other refl)

number_tells : (ls : List (List ℕ)) (at : ℕ) (op : UnOp) (a : Operand) → Is ls a → Tells ls (number_operand at op a)
number_tells ls at op a i =
    keeping_tells ls ((is_arithmetic (value_type a), fault.Mismatch at) ∷ []) (operand at (promoted (value_type a)) Other (unary_constant op a.constant))
    (other_is ls at (promoted (value_type a)) (unary_constant op a.constant) (λ c. (counted_number (is_unsigned (value_type a)), (i.0 (unary_part op a.constant c)).1)))

unary_tells : (ls : List (List ℕ)) (tags : Tags) (at : ℕ) (op : UnOp) (a : Operand) → Is ls a → Tells ls (unary_operand tags at op a)
unary_tells ls tags at unary.Address a i = address_tells ls at a
unary_tells ls tags at unary.Deref a i = pointed_tells ls tags at (value_type a)
unary_tells ls tags at unary.Not a i =
    keeping_tells ls ((is_condition a, fault.Mismatch at) ∷ []) (operand at type.Int Other (unary_constant unary.Not a.constant)) (other_is ls at type.Int (unary_constant unary.Not a.constant) (λ c. (refl, (i.0 (unary_part unary.Not a.constant c)).1)))
unary_tells ls tags at op a i = number_tells ls at op a i

typed_tells : (ls : List (List ℕ)) (at : ℕ) (c : Constant) (o : Option CType) → (is_constant c ≡ true → AreNumbers o × (ls ≡ [])) → Tells ls (typed_or at (option_map (λ t. operand at t Other c) o))
typed_tells ls at c None h = record { told = tt }
typed_tells ls at c (Some t) h = record { told = other_is ls at t c (λ k. ((h k).0 t refl, (h k).1)) }

none_in : (ls ms : List (List ℕ)) → ls ≡ [] → ms ≡ [] → ls ++ ms ≡ []
none_in ls ms e f = ap₂ (λ x y. x ++ y) e f

value_number : (a : Operand) → is_arithmetic a.ty ≡ true → is_arithmetic (value_type a) ≡ true
value_number a h = decayed_number a.ty h

binary_tells : (ls ms : List (List ℕ)) (tags : Tags) (at : ℕ) (op : BinOp) (a b : Operand) → Is ls a → Is ms b → Tells (ls ++ ms) (typed_or at (option_map (λ t. operand at t Other (binary_constant at op (is_unsigned (value_type a)) (either_unsigned a b) a.constant b.constant)) (binary_type tags op a b)))
binary_tells ls ms tags at op a b i j =
    typed_tells (ls ++ ms) at (binary_constant at op (is_unsigned (value_type a)) (either_unsigned a b) a.constant b.constant) (binary_type tags op a b)
    (λ c. let p = binary_parts at op (is_unsigned (value_type a)) (either_unsigned a b) a.constant b.constant c in
    let x = i.0 p.0 in
    let y = j.0 p.1 in
    (binary_number tags op a b (value_number a x.0) (value_number b y.0), none_in ls ms x.1 y.1))

assign_tells : (ls : List (List ℕ)) (tags : Tags) (at : ℕ) (op : Option BinOp) (a b : Operand) → Tells ls (assign_operand tags at op a b)
assign_tells ls tags at None a b = keeping_tells ls ((is_word_place a, fault.NotLvalue a.pos) ∷ (converts b a.ty, fault.Mismatch at) ∷ []) (value_at at a.ty) (no_constant ls at a.ty Other refl)
assign_tells ls tags at (Some op) a b = keeping_tells ls ((is_word_place a, fault.NotLvalue a.pos) ∷ (result_converts at (binary_type tags op a b) a.ty, fault.Mismatch at) ∷ []) (value_at at a.ty) (no_constant ls at a.ty Other refl)

choice_number : (a b : Operand) → is_arithmetic (value_type a) ≡ true → is_arithmetic (value_type b) ≡ true → is_arithmetic (option_map_or (λ t. t) (choice_type a b) type.Void) ≡ true
choice_number a b h k = both_numbers (is_arithmetic (value_type a)) (is_arithmetic (value_type b)) h k _
  where
    both_numbers : (x y : Bool) → x ≡ true → y ≡ true → (o : Option CType) → is_arithmetic (option_map_or (λ t. t) (or_else (when (x && y) (common_type (value_type a) (value_type b))) o) type.Void) ≡ true
    both_numbers true true h k o = counted_number (is_unsigned (value_type a) || is_unsigned (value_type b))
    both_numbers true false h k o = absurd (cc k)
    both_numbers false y h k o = absurd (cc h)

choice_tells : (ls ms ns : List (List ℕ)) (at : ℕ) (a b c : Operand) → Is ls a → Is ms b → Is ns c → Tells (ls ++ (ms ++ ns)) (choice_operand at a b c)
choice_tells ls ms ns at a b c i j k =
    keeping_tells (ls ++ (ms ++ ns)) ((is_condition a, fault.Mismatch a.pos) ∷ (is_some (choice_type b c), fault.Mismatch at) ∷ []) (operand at (option_map_or (λ t. t) (choice_type b c) type.Void) Other (choice_constant a.constant b.constant c.constant))
    (other_is (ls ++ (ms ++ ns)) at (option_map_or (λ t. t) (choice_type b c) type.Void) (choice_constant a.constant b.constant c.constant)
    (λ h. let p = choice_parts a.constant b.constant c.constant h in
    let x = i.0 p.0 in
    let y = j.0 p.1 in
    let z = k.0 p.2 in
    (choice_number b c (value_number b y.0) (value_number c z.0), none_in ls (ms ++ ns) x.1 (none_in ms ns y.1 z.1))))

comma_tells : (ls ms : List (List ℕ)) (at : ℕ) (a b : Operand) → Is ls a → Is ms b → Tells (ls ++ ms) (comma_operand at a b)
comma_tells ls ms at a b i j =
    keeping_tells (ls ++ ms) ((not (is_struct b.ty), fault.Mismatch at) ∷ []) (operand at (value_type b) Other (on_two a.constant b.constant (λ x y. constant.Value y)))
    (other_is (ls ++ ms) at (value_type b) (on_two a.constant b.constant (λ x y. constant.Value y))
    (λ h. let p = two_constants a.constant b.constant (λ x y. constant.Value y) h in
    let x = i.0 p.0 in
    let y = j.0 p.1 in
    (value_number b y.0, none_in ls ms x.1 y.1)))

cast_tells : (ls : List (List ℕ)) (at : ℕ) (t : CType) (a : Operand) → Is ls a → Tells ls (cast_operand at t a)
cast_tells ls at t a i =
    keeping_tells ls ((can_cast (value_type a) t, fault.Mismatch at) ∷ []) (operand at t Other (if is_arithmetic t then a.constant else constant.NotConstant))
    (other_is ls at t (if is_arithmetic t then a.constant else constant.NotConstant) (λ h. let p = cast_parts (is_arithmetic t) a.constant h in (p.0, (i.0 p.1).1)))

size_tells : (tags : Tags) (at : ℕ) (t : CType) → Tells [] (size_operand tags at t)
size_tells tags at t = keeping_tells [] ((is_object_type tags t || is_null t, fault.Mismatch at) ∷ []) _ (other_is [] at type.Unsigned _ (λ h. (refl, refl)))

index_tells : (ls : List (List ℕ)) (tags : Tags) (at : ℕ) (a b : Operand) → Tells ls (index_operand tags at a b)
index_tells ls tags at a b = go (sum_type tags (value_type a) (value_type b))
  where
    go : (o : Option CType) → Tells ls (option_map_or (λ t. pointed_operand tags at t) o (Err (fault.Mismatch at)))
    go None = record { told = tt }
    go (Some t) = pointed_tells ls tags at t

member_tells : (ls : List (List ℕ)) (tags : Tags) (at : ℕ) (name : List ℕ) (t : CType) → Tells ls (member_operand tags at name t)
member_tells ls tags at name (type.Struct tag) = of_layout (meaning tags tag)
  where
    of_type : (o : Option CType) → Tells ls (option_map_or (λ t. Ok (place_at at t)) o (Err (fault.Unknown at)))
    of_type None = record { told = tt }
    of_type (Some t) = record { told = no_constant ls at t Place refl }

    of_layout : (o : Option Layout) → Tells ls (member_in at name o)
    of_layout None = record { told = tt }
    of_layout (Some Unfinished) = record { told = tt }
    of_layout (Some (Members members words)) = of_type (meaning members name)
member_tells ls tags at name t = record { told = tt }

arrow_tells : (ls : List (List ℕ)) (tags : Tags) (at : ℕ) (name : List ℕ) (t : CType) → Tells ls (arrow_operand tags at name t)
arrow_tells ls tags at name (type.Pointer t) = member_tells ls tags at name t
arrow_tells ls tags at name t = record { told = tt }

function_tells : (ls : List (List ℕ)) (at : ℕ) (defined : Bool) (t : CType) (xs : List Operand) → Tells ls (function_call at defined t xs)
function_tells ls at defined (type.Function result params) xs =
    keeping_tells ls ((defined && count_of params == length xs, fault.BadCall at) ∷ argument_rules params xs) (value_at at result) (no_constant ls at result Other refl)
function_tells ls at defined t xs = record { told = tt }

pointer_tells : (ls : List (List ℕ)) (at : ℕ) (t : CType) (xs : List Operand) → Tells ls (pointer_call at t xs)
pointer_tells ls at (type.Pointer t) xs = function_tells ls at true t xs
pointer_tells ls at t xs = record { told = tt }

call_tells : (ls : List (List ℕ)) (at : ℕ) (c : Callee) (format : Option (List ℕ)) (xs : List Operand) → Tells ls (call_operand at c format xs)
call_tells ls at (Direct t defined) format xs = function_tells ls at defined t xs
call_tells ls at (Through t) format xs = pointer_tells ls at t xs
call_tells ls at Format format xs = keeping_tells ls ((is_print_form format xs, fault.BadCall at) ∷ []) (value_at at type.Void) (no_constant ls at type.Void Other refl)

named_tells : (ls : List (List ℕ)) (s : Scope) (at : ℕ) (name : List ℕ) (x : Option Entity) → Tells ls (named s at name x)
named_tells ls s at name (Some (entity.Object t)) = record { told = no_constant ls at t Place refl }
named_tells ls s at name (Some (entity.Routine t begun)) =
    keeping_tells ls ((contains s.defined name, fault.BadCall at) ∷ []) (operand at (type.Pointer t) Designator constant.NotConstant) (no_constant ls at (type.Pointer t) Designator refl)
named_tells ls s at name (Some (entity.BuiltIn t)) = record { told = tt }
named_tells ls s at name (Some entity.Printf) = record { told = tt }
named_tells ls s at name None = record { told = tt }

if_tells : (b : Bool) (e : TypeFault) (r : Judged Operand) → Tells [] r → Tells [] (if b then Err e else r)
if_tells true e r g = record { told = tt }
if_tells false e r g = g

literal_is : (at n : ℕ) (unsigned : Bool) → Is [] (literal at n unsigned)
literal_is at n unsigned = (λ c. (counted_number unsigned, refl), λ z. of_zero (n == 0) refl z)
  where
    of_zero : (b : Bool) → (n == 0) ≡ b → is_zero (if b then Zero else Other) ≡ true → constant.Value (n % 2 ^ 24) ≡ constant.Value 0
    of_zero true e z = ap (λ m. constant.Value (m % 2 ^ 24)) (eqb-true n 0 e)
    of_zero false e z = absurd (cc z)

expr_tells : (s : Scope) (e : CExpr) → Tells (literals_in s e) (judged s e)
expr_tells s (plain.Number at n unsigned) = record { told = literal_is at n unsigned }
expr_tells s (plain.Str at text) = record { told = no_constant (text ∷ []) at (type.Array type.Char (length text + 1)) Other refl }
expr_tells s (plain.Null at) = record { told = no_constant [] at type.Null Other refl }
expr_tells s (plain.Var at name) = named_tells [] s at name (entity_of s name)
expr_tells s (plain.Unary at op a) = after_tells (literals_in s a) (judged s a) (λ x. unary_operand s.tags at op x) (λ x e. unary_tells (literals_in s a) s.tags at op x (told_of (literals_in s a) (judged s a) x (expr_tells s a) e))
expr_tells s (plain.Step at op a) =
    after_tells (literals_in s a) (judged s a) (λ x. step_operand s.tags at x)
    (λ x e. keeping_tells (literals_in s a) ((is_word_place x, fault.NotLvalue x.pos) ∷ (is_some (sum_type s.tags (value_type x) type.Int), fault.Mismatch at) ∷ []) (value_at at (value_type x)) (no_constant (literals_in s a) at (value_type x) Other refl))
expr_tells s (plain.Binary at op a b) =
    both_tell (literals_in s a ++ literals_in s b) (judged s a) (judged s b) _
    (λ x y e f. binary_tells (literals_in s a) (literals_in s b) s.tags at op x y (told_of (literals_in s a) (judged s a) x (expr_tells s a) e) (told_of (literals_in s b) (judged s b) y (expr_tells s b) f))
expr_tells s (plain.Assign at op a b) = both_tell (literals_in s a ++ literals_in s b) (judged s a) (judged s b) (λ x y. assign_operand s.tags at op x y) (λ x y e f. assign_tells (literals_in s a ++ literals_in s b) s.tags at op x y)
expr_tells s (plain.Cond at a b c) =
    both_tell (literals_in s a ++ (literals_in s b ++ literals_in s c)) (judged s a) (both {A = Operand} {B = Operand} {C = Operand × Operand} (judged s b) (judged s c) (λ y z. Ok (y, z))) (λ x yz. choice_operand at x yz.0 yz.1)
    (λ x yz e f. let k = pair_of (judged s b) (judged s c) yz f in
    choice_tells (literals_in s a) (literals_in s b) (literals_in s c) at x yz.0 yz.1 (told_of (literals_in s a) (judged s a) x (expr_tells s a) e) (told_of (literals_in s b) (judged s b) yz.0 (expr_tells s b) k.0) (told_of (literals_in s c) (judged s c) yz.1 (expr_tells s c) k.1))
  where
    pair_of : (r q : Judged Operand) (yz : Operand × Operand) → both {A = Operand} {B = Operand} {C = Operand × Operand} r q (λ y z. Ok (y, z)) ≡ Ok yz → (r ≡ Ok yz.0) × (q ≡ Ok yz.1)
    pair_of (Ok y) (Ok z) yz e = let same : (y, z) ≡ yz = cc e in (ap (λ (p : Operand × Operand). Ok p.0) same, ap (λ (p : Operand × Operand). Ok p.1) same)
    pair_of (Ok y) (Err f) yz e = absurd (cc e)
    pair_of (Err d) (Ok z) yz e = absurd (cc e)
    pair_of (Err d) (Err f) yz e = absurd (cc e)
expr_tells s (plain.Comma at a b) =
    both_tell (literals_in s a ++ literals_in s b) (judged s a) (judged s b) (λ x y. comma_operand at x y)
    (λ x y e f. comma_tells (literals_in s a) (literals_in s b) at x y (told_of (literals_in s a) (judged s a) x (expr_tells s a) e) (told_of (literals_in s b) (judged s b) y (expr_tells s b) f))
expr_tells s (plain.Cast at t a) =
    both_tell (literals_in s a) (written s at t) (judged s a) (λ u x. cast_operand at u x) (λ u x e f. cast_tells (literals_in s a) at u x (told_of (literals_in s a) (judged s a) x (expr_tells s a) f))
expr_tells s (plain.SizeTy at t) = after_tells [] (written s at t) (λ u. size_operand s.tags at u) (λ u e. size_tells s.tags at u)
expr_tells s (plain.SizeOf at a) = if_tells (names_function s a) (fault.Mismatch at) (after (judged s a) (λ x. size_operand s.tags at x.ty)) (after_tells [] (judged s a) (λ x. size_operand s.tags at x.ty) (λ x e. size_tells s.tags at x.ty))
expr_tells s (plain.Index at a b) = both_tell (literals_in s a ++ literals_in s b) (judged s a) (judged s b) (λ x y. index_operand s.tags at x y) (λ x y e f. index_tells (literals_in s a ++ literals_in s b) s.tags at x y)
expr_tells s (plain.Call at f es) = both_tell (literals_in s (plain.Call at f es)) (callee_of s at f (judged s f)) (all_judged s es) (λ c xs. call_operand at c (format_of es) xs) (λ c xs e g. call_tells (literals_in s (plain.Call at f es)) at c (format_of es) xs)
expr_tells s (plain.Member at a m) = after_tells (literals_in s a) (judged s a) (λ x. member_operand s.tags at m x.ty) (λ x e. member_tells (literals_in s a) s.tags at m x.ty)
expr_tells s (plain.Arrow at a m) = after_tells (literals_in s a) (judged s a) (λ x. arrow_operand s.tags at m (value_type x)) (λ x e. arrow_tells (literals_in s a) s.tags at m (value_type x))

pub expr_is : (s : Scope) (e : CExpr) (a : Operand) → judged s e ≡ Ok a → Is (literals_in s e) a
expr_is s e a k = told_of (literals_in s e) (judged s e) a (expr_tells s e) k
