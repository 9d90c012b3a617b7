-- The types of expressions, by their form and the declarations in scope; and those of the types that are written in a text, whose lengths are expressions.
use Rattle.std.specs.Prelude.{ℕ, ◌+◌, ◌%◌, ◌^◌, Bool, true, false, ◌&&◌, ◌||◌, ◌==◌, nat_lt, nat_le, List, [], ◌∷◌, length, Option, Some, None, Ok, Err, if◌then◌else◌}
use Rattle.std.specs.Option.{option_map_or}
use Rattle.c_syntax.specs.Plain as plain
use Rattle.c_syntax.specs.Plain.{CExpr, CExprs, CTy, CTys}
use Rattle.c_syntax.specs.Words.{meaning}
use Rattle.c_types.specs.declared.fault.TypeFault.TheVariants as fault
use Rattle.c_types.specs.Types.{CType, CTypes, Void, Int, Unsigned, Char, UChar, Null, Struct, Pointer, Array, Function, NoType, MoreType, is_void, is_scalar, decayed, is_object_type}
use Rattle.c_types.specs.Refusals.{Judged, after, both, all_three, keeping}
use Rattle.c_types.specs.Constants.{Constant, NotConstant, Undefined, Value}
use Rattle.c_types.specs.Scope.{Scope, Entity, Object, Routine, BuiltIn, Printf, entity_of, is_function, contains}
use Rattle.c_types.specs.Operands.{Operand, operand, value_at, place_at, Designator, Zero, Other, value_type, unary_operand, step_operand, binary_operand, assign_operand, choice_operand, comma_operand, cast_operand, size_operand, index_operand, member_operand, arrow_operand, Callee, Direct, Format, Through, call_operand}

-- a name that isn't called: a function's name is a pointer to it, if the text defines it
abbrev pub named : Scope → ℕ → List ℕ → Option Entity → Judged Operand
named s at name (Some (Object t)) = Ok (place_at at t)
named s at name (Some (Routine t begun)) =
    keeping ((contains s.defined name, fault.BadCall at) ∷ []) (operand at (Pointer t) Designator NotConstant)
named s at name (Some _) = Err (fault.BadCall at)
named s at name None = Err (fault.Unknown at)

abbrev pub through : Judged Operand → Judged Callee
through judgement = after judgement (λ a. Ok (Through (value_type a)))

-- a name that is called: its refusal is at the bracket
abbrev pub named_callee : Scope → ℕ → List ℕ → Option Entity → Judged Callee
named_callee s at name (Some (Object t)) = Ok (Through (decayed t))
named_callee s at name (Some (Routine t begun)) = Ok (Direct t (contains s.defined name))
named_callee s at name (Some (BuiltIn t)) = Ok (Direct t true)
named_callee s at name (Some Printf) = Ok Format
named_callee s at name None = Err (fault.Unknown at)

-- what is called, the judgement of its expression being at hand
abbrev pub callee_of : Scope → ℕ → CExpr → Judged Operand → Judged Callee
callee_of s at (plain.Var pos name) judgement = named_callee s at name (entity_of s name)
callee_of s at _ judgement = through judgement

-- the string that is the first argument
abbrev pub format_of : CExprs → Option (List ℕ)
format_of (plain.MoreExpr (plain.Str pos text) es) = Some text
format_of _ = None

-- the expression is a function's name
abbrev pub names_function : Scope → CExpr → Bool
names_function s (plain.Var pos name) = is_function (entity_of s name)
names_function s _ = false

-- a literal
abbrev pub literal : ℕ → ℕ → Bool → Operand
literal at value unsigned = operand at (if unsigned then Unsigned else Int) (if value == 0 then Zero else Other) (Value (value % 2 ^ 24))

-- a length is a constant expression of value 1 to 2^22
abbrev pub length_in : ℕ → Constant → Judged ℕ
length_in at NotConstant = Err (fault.Mismatch at)
length_in at (Undefined pos) = Err (fault.Mismatch pos)
length_in at (Value n) = keeping ((nat_lt 0 n && nat_le n (2 ^ 22), fault.Mismatch at) ∷ []) n

-- an array's elements are objects; a length of 0 is one that is left open
abbrev pub array_of : Scope → ℕ → CType → ℕ → Judged CType
array_of s at t n = keeping ((is_object_type s.tags t, fault.Mismatch at) ∷ []) (Array t n)

-- an array of a length that is an expression
abbrev pub sized_array : Scope → ℕ → CType → Operand → Judged CType
sized_array s at t a = both (array_of s at t 1) (length_in a.pos a.constant) (λ _ n. Ok (Array t n))

-- array parameters are pointers
abbrev pub parameter_type : ℕ → CType → Judged CType
parameter_type at t = keeping ((is_scalar (decayed t), fault.Mismatch at) ∷ []) (decayed t)

-- a result is nothing or of one word
abbrev pub is_result_type : CType → Bool
is_result_type t = is_void t || is_scalar t

abbrev pub struct_in : Scope → ℕ → List ℕ → Judged CType
struct_in s at name = option_map_or (λ _. Ok (Struct name)) (meaning s.tags name) (Err (fault.Unknown at))

abbrev mutual
  -- what an expression is
  pub judged : Scope → CExpr → Judged Operand
  judged s (plain.Number at value unsigned) = Ok (literal at value unsigned)
  judged s (plain.Str at text) = Ok (value_at at (Array Char (length text + 1)))
  judged s (plain.Null at) = Ok (value_at at Null)
  judged s (plain.Var at name) = named s at name (entity_of s name)
  judged s (plain.Unary at op a) = after (judged s a) (λ x. unary_operand s.tags at op x)
  judged s (plain.Step at op a) = after (judged s a) (λ x. step_operand s.tags at x)
  judged s (plain.Binary at op a b) = both (judged s a) (judged s b) (λ x y. binary_operand s.tags at op x y)
  judged s (plain.Assign at op a b) = both (judged s a) (judged s b) (λ x y. assign_operand s.tags at op x y)
  judged s (plain.Cond at a b c) = all_three (judged s a) (judged s b) (judged s c) (λ x y z. choice_operand at x y z)
  judged s (plain.Comma at a b) = both (judged s a) (judged s b) (λ x y. comma_operand at x y)
  judged s (plain.Cast at t a) = both (written s at t) (judged s a) (λ u x. cast_operand at u x)
  judged s (plain.SizeTy at t) = after (written s at t) (λ u. size_operand s.tags at u)
  judged s (plain.SizeOf at a) = if names_function s a then Err (fault.Mismatch at) else after (judged s a) (λ x. size_operand s.tags at x.ty)
  judged s (plain.Index at a b) = both (judged s a) (judged s b) (λ x y. index_operand s.tags at x y)
  judged s (plain.Call at f es) = both (callee_of s at f (judged s f)) (all_judged s es) (λ c xs. call_operand at c (format_of es) xs)
  judged s (plain.Member at a m) = after (judged s a) (λ x. member_operand s.tags at m x.ty)
  judged s (plain.Arrow at a m) = after (judged s a) (λ x. arrow_operand s.tags at m (value_type x))

  pub all_judged : Scope → CExprs → Judged (List Operand)
  all_judged s plain.NoExpr = Ok []
  all_judged s (plain.MoreExpr e es) = both (judged s e) (all_judged s es) (λ x xs. Ok (x ∷ xs))

  -- the type that is written at a declaration, a cast or a `sizeof`, whose place its own refusals have
  pub written : Scope → ℕ → CTy → Judged CType
  written s at plain.Void = Ok Void
  written s at plain.Int = Ok Int
  written s at plain.Unsigned = Ok Unsigned
  written s at plain.Char = Ok Char
  written s at plain.UChar = Ok UChar
  written s at (plain.Struct name) = struct_in s at name
  written s at (plain.Pointer t) = after (written s at t) (λ u. Ok (Pointer u))
  written s at (plain.Array t) = after (written s at t) (λ u. array_of s at u 0)
  written s at (plain.ArrayOf t n) = both (written s at t) (judged s n) (λ u x. sized_array s at u x)
  written s at (plain.Func t ts) = both (written s at t) (parameters s at ts) (λ u us. keeping ((is_result_type u, fault.Mismatch at) ∷ []) (Function u us))

  pub parameters : Scope → ℕ → CTys → Judged CTypes
  parameters s at plain.NoTy = Ok NoType
  parameters s at (plain.MoreTy t ts) = both (written s at t) (parameters s at ts) (λ u us. after (parameter_type at u) (λ v. Ok (MoreType v us)))
