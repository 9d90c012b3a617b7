-- The tree with fewer operators: calls of helper functions stand where the operators stood.
use Rattle.std.specs.Prelude.{ℕ, zero, suc, ◌-◌, ◌^◌, Bool, false, not, ◌||◌, List, [], ◌∷◌, ◌++◌, map, Option, Some, None, Ok, Err, if◌then◌else◌, codes, drop}
use Rattle.std.specs.Option.{option_map}
use Rattle.std.specs.List.{filter}
use Rattle.std.specs.Str.{bytes_eq}
use Rattle.c_syntax.specs.Plain as plain
use Rattle.c_syntax.specs.Plain.{CExpr, CExprs, CTy, CTys, CValue, CValues, CDecl, CStmt, CStmts, CPart, CParts, CTag, CItem, CUnit, exprs}
use Rattle.c_syntax.specs.declared.tree.StepOp.{StepOp}
use Rattle.c_syntax.specs.declared.tree.BinOp.{BinOp}
use Rattle.c_syntax.specs.declared.tree.UnOp.TheVariants as unary
use Rattle.c_syntax.specs.declared.tree.StepOp.TheVariants as step
use Rattle.c_syntax.specs.declared.tree.BinOp.TheVariants as binary
use Rattle.c_types.specs.Types as type
use Rattle.c_types.specs.Types.{CType, CTypes, is_pointer, is_unsigned, Tags, Unfinished}
use Rattle.c_types.specs.Refusals.{Judged}
use Rattle.c_types.specs.Scope.{Scope, Entity, BuiltIn, Printf, entity_of, entered}
use Rattle.c_types.specs.Expressions.{format_of}
use Rattle.c_types.specs.Declarations.{scope_or, with_tag}
use Rattle.c_types.specs.Units.{Signature, signature, body_scope, parameter, parameter_scope_or, item_judged}
use Rattle.c_types.specs.Census.{scope_behind, scope_behind_head, scope_behind_part}
use Rattle.c_types.specs.Room.{is_wide_pointer}
use Rattle.c_eval.specs.Operators.{element_words}
use Rattle.c_eval.specs.Environment.{type_in, value_type_in, constant_in}
use Rattle.c_helpers.specs.Terms.{number, declaration}
use Rattle.c_helpers.specs.Functions.{Helper, functions, format_name, print_format, put_string, unit_name, refill_name, piece_name, a}
use Rattle.c_helpers.specs.Meanings.{is_format}
use Rattle.c_helpers.specs.Names.{stmt_names, first_names}

-- ---- types and constant expressions

-- an array whose length is left open, or one of so many elements
abbrev pub array_tree : CTy → ℕ → CTy
array_tree t zero = plain.Array t
array_tree t (suc n) = plain.ArrayOf t (number (suc n))

abbrev mutual
  -- a type as it is written
  pub type_tree : CType → CTy
  type_tree type.Int = plain.Int
  type_tree type.Unsigned = plain.Unsigned
  type_tree type.Char = plain.Char
  type_tree type.UChar = plain.UChar
  type_tree (type.Struct tag) = plain.Struct tag
  type_tree (type.Pointer t) = plain.Pointer (type_tree t)
  type_tree (type.Array t n) = array_tree (type_tree t) n
  type_tree (type.Function t ts) = plain.Func (type_tree t) (type_trees ts)
  type_tree _ = plain.Void

  pub type_trees : CTypes → CTys
  type_trees type.NoType = plain.NoTy
  type_trees (type.MoreType t ts) = plain.MoreTy (type_tree t) (type_trees ts)

-- the value of a constant expression, in place of it
abbrev pub constant_tree : Scope → CExpr → CExpr
constant_tree s e = plain.Number 0 (constant_in s e) (is_unsigned (type_in s e))

abbrev mutual
  -- a type whose lengths are numbers
  pub fewer_in_type : Scope → CTy → CTy
  fewer_in_type s (plain.Pointer t) = plain.Pointer (fewer_in_type s t)
  fewer_in_type s (plain.Array t) = plain.Array (fewer_in_type s t)
  fewer_in_type s (plain.ArrayOf t e) = plain.ArrayOf (fewer_in_type s t) (constant_tree s e)
  fewer_in_type s (plain.Func t ts) = plain.Func (fewer_in_type s t) (fewer_in_types s ts)
  fewer_in_type s t = t

  pub fewer_in_types : Scope → CTys → CTys
  fewer_in_types s plain.NoTy = plain.NoTy
  fewer_in_types s (plain.MoreTy t ts) = plain.MoreTy (fewer_in_type s t) (fewer_in_types s ts)

-- ---- operators

-- the sign of an operator for which a helper function stands, with how its operands count where that matters
abbrev pub sign_of : BinOp → (unsigned : Bool) → Option (List ℕ)
sign_of binary.Mul unsigned = Some (codes "*")
sign_of binary.Div unsigned = Some (if unsigned then codes "unsigned /" else codes "int /")
sign_of binary.Mod unsigned = Some (if unsigned then codes "unsigned %" else codes "int %")
sign_of binary.BitAnd unsigned = Some (codes "&")
sign_of binary.BitOr unsigned = Some (codes "|")
sign_of binary.BitXor unsigned = Some (codes "^")
sign_of binary.Shl unsigned = Some (codes "<<")
sign_of binary.Shr unsigned = Some (if unsigned then codes "unsigned >>" else codes "int >>")
sign_of op unsigned = None

-- a shift counts as its left side does, and the others as unsigned where one side does
abbrev pub counts_unsigned : BinOp → CType → CType → Bool
counts_unsigned binary.Shr t u = is_unsigned t
counts_unsigned op t u = is_unsigned t || is_unsigned u

-- the call of a helper function
abbrev pub helper_call : ℕ → List ℕ → List CExpr → CExpr
helper_call at name es = plain.Call at (plain.Var at name) (exprs es)

-- with the type that the operator gives
abbrev pub as_type : ℕ → CType → CExpr → CExpr
as_type at t e = plain.Cast at (type_tree t) e

-- a number that counts so
abbrev pub kind_word : Bool → List ℕ
kind_word unsigned = if unsigned then codes "unsigned" else codes "int"

-- the words of an element, and below zero to take a number of elements
abbrev pub words_in : Tags → CType → CExpr
words_in tags t = number (element_words tags t)

abbrev pub words_back : Tags → CType → CExpr
words_back tags t = number (2 ^ 24 - element_words tags t)

-- a pointer to wide elements, moved by a number of them
abbrev pub moved_pointer : ℕ → CType → (unsigned : Bool) → CExpr → CExpr → CExpr → CExpr
moved_pointer at t unsigned a b words = as_type at t (helper_call at (codes "pointer + " ++ kind_word unsigned) (a ∷ b ∷ words ∷ []))

-- sums with pointers to wide elements, on either side
abbrev pub sum_tree : Tags → ℕ → CType → CType → CExpr → CExpr → CExpr
sum_tree tags at t u a b =
    if is_wide_pointer tags t then moved_pointer at t (is_unsigned u) a b (words_in tags t)
    else if is_wide_pointer tags u then as_type at u (helper_call at (kind_word (is_unsigned t) ++ codes " + pointer") (a ∷ b ∷ words_in tags u ∷ []))
    else plain.Binary at binary.Add a b

abbrev pub difference_tree : Tags → ℕ → CType → CType → CExpr → CExpr → CExpr
difference_tree tags at t u a b =
    if not (is_wide_pointer tags t) then plain.Binary at binary.Sub a b
    else if is_pointer u then helper_call at (codes "pointer - pointer") (a ∷ b ∷ words_in tags t ∷ [])
    else moved_pointer at t (is_unsigned u) a b (words_back tags t)

-- an operator of which no helper function stands on words
abbrev pub plain_operator : Tags → ℕ → BinOp → CType → CType → CExpr → CExpr → CExpr
plain_operator tags at binary.Add t u a b = sum_tree tags at t u a b
plain_operator tags at binary.Sub t u a b = difference_tree tags at t u a b
plain_operator tags at op t u a b = plain.Binary at op a b

-- an operator of a type on operands of two types
abbrev pub operator_tree : Tags → ℕ → Option (List ℕ) → BinOp → CType → CType → CType → CExpr → CExpr → CExpr
operator_tree tags at (Some sign) op result t u a b = as_type at result (helper_call at sign (a ∷ b ∷ []))
operator_tree tags at None op result t u a b = plain_operator tags at op t u a b

-- the place of an assignment is handed on as a pointer
abbrev pub address_at : ℕ → CExpr → CExpr
address_at at a = plain.Unary at unary.Address a

-- the pointer at a place is moved
abbrev pub moved_place : ℕ → CType → (unsigned : Bool) → CExpr → CExpr → CExpr → CExpr
moved_place at t unsigned a b words = as_type at t (helper_call at (codes "pointer += " ++ kind_word unsigned) (address_at at a ∷ b ∷ words ∷ []))

-- there and back
abbrev pub words_by : BinOp → Tags → CType → CExpr
words_by binary.Sub tags t = words_back tags t
words_by op tags t = words_in tags t

abbrev pub plain_assignment : Tags → ℕ → BinOp → CType → CType → CExpr → CExpr → CExpr
plain_assignment tags at op t u a b =
    if is_wide_pointer tags t then moved_place at t (is_unsigned u) a b (words_by op tags t) else plain.Assign at (Some op) a b

-- an assignment to a place of one type of a value of another
abbrev pub assignment_tree : Tags → ℕ → Option (List ℕ) → BinOp → CType → CType → CExpr → CExpr → CExpr
assignment_tree tags at (Some sign) op t u a b = as_type at t (helper_call at (sign ++ codes "=") (address_at at a ∷ b ∷ []))
assignment_tree tags at None op t u a b = plain_assignment tags at op t u a b

-- a step of a pointer to wide elements
abbrev pub wide_step : Tags → ℕ → StepOp → CType → CExpr → CExpr
wide_step tags at step.PreInc t a = moved_place at t false a (number 1) (words_in tags t)
wide_step tags at step.PreDec t a = moved_place at t false a (number 1) (words_back tags t)
wide_step tags at step.PostInc t a = as_type at t (helper_call at (codes "pointer++") (address_at at a ∷ words_in tags t ∷ []))
wide_step tags at step.PostDec t a = as_type at t (helper_call at (codes "pointer++") (address_at at a ∷ words_back tags t ∷ []))

abbrev pub step_tree : Tags → ℕ → StepOp → CType → CExpr → CExpr
step_tree tags at op t a = if is_wide_pointer tags t then wide_step tags at op t a else plain.Step at op a

-- an element of a wide array is what the sum points to
abbrev pub element_tree : Tags → ℕ → CType → CType → CExpr → CExpr → CExpr
element_tree tags at t u a b =
    if is_wide_pointer tags t || is_wide_pointer tags u then plain.Unary at unary.Deref (sum_tree tags at t u a b)
    else plain.Index at a b

-- ---- expressions

-- all but the format
abbrev pub behind_format : CExprs → CExprs
behind_format plain.NoExpr = plain.NoExpr
behind_format (plain.MoreExpr e es) = es

abbrev pub format_call : ℕ → ℕ → List ℕ → Option (List ℕ) → CExprs → CExpr
format_call at pos name (Some format) es = plain.Call at (plain.Var pos (format_name format)) (behind_format es)
format_call at pos name None es = plain.Call at (plain.Var pos name) es

-- a called name, with the format of the arguments as they were
abbrev pub named_call : ℕ → ℕ → List ℕ → Option Entity → Option (List ℕ) → CExprs → CExpr
named_call at pos name (Some Printf) format es = format_call at pos name format es
named_call at pos name (Some (BuiltIn t)) format es =
    plain.Call at (plain.Var pos (if bytes_eq name (codes "puts") then put_string.name else name)) es
named_call at pos name _ format es = plain.Call at (plain.Var pos name) es

abbrev pub call_tree : Scope → ℕ → CExpr → Option (List ℕ) → CExprs → CExpr
call_tree s at (plain.Var pos name) format es = named_call at pos name (entity_of s name) format es
call_tree s at f format es = plain.Call at f es

abbrev mutual
  -- an expression that is evaluated, with calls in place of operators
  pub fewer : Scope → CExpr → CExpr
  fewer s (plain.Number at n unsigned) = plain.Number at n unsigned
  fewer s (plain.Str at text) = plain.Str at text
  fewer s (plain.Null at) = plain.Null at
  fewer s (plain.Var at name) = plain.Var at name
  fewer s (plain.Unary at unary.Invert a) = as_type at (type_in s (plain.Unary at unary.Invert a)) (helper_call at (codes "~") (fewer s a ∷ []))
  fewer s (plain.Unary at op a) = plain.Unary at op (fewer s a)
  fewer s (plain.Step at op a) = step_tree s.tags at op (type_in s a) (fewer s a)
  fewer s (plain.Binary at op a b) =
      operator_tree s.tags at (sign_of op (counts_unsigned op (value_type_in s a) (value_type_in s b))) op (type_in s (plain.Binary at op a b)) (value_type_in s a) (value_type_in s b) (fewer s a) (fewer s b)
  fewer s (plain.Assign at None a b) = plain.Assign at None (fewer s a) (fewer s b)
  fewer s (plain.Assign at (Some op) a b) =
      assignment_tree s.tags at (sign_of op (counts_unsigned op (type_in s a) (value_type_in s b))) op (type_in s a) (value_type_in s b) (fewer s a) (fewer s b)
  fewer s (plain.Cond at a b c) = plain.Cond at (fewer s a) (fewer s b) (fewer s c)
  fewer s (plain.Comma at a b) = plain.Comma at (fewer s a) (fewer s b)
  fewer s (plain.Cast at t a) = plain.Cast at (fewer_in_type s t) (fewer s a)
  fewer s (plain.SizeTy at t) = constant_tree s (plain.SizeTy at t)
  fewer s (plain.SizeOf at a) = constant_tree s (plain.SizeOf at a)
  fewer s (plain.Index at a b) = element_tree s.tags at (value_type_in s a) (value_type_in s b) (fewer s a) (fewer s b)
  -- a called name stays what it is
  fewer s (plain.Call at f es) = call_tree s at (fewer s f) (format_of es) (fewer_all s es)
  fewer s (plain.Member at a m) = plain.Member at (fewer s a) m
  fewer s (plain.Arrow at a m) = plain.Arrow at (fewer s a) m

  pub fewer_all : Scope → CExprs → CExprs
  fewer_all s plain.NoExpr = plain.NoExpr
  fewer_all s (plain.MoreExpr e es) = plain.MoreExpr (fewer s e) (fewer_all s es)

-- ---- first values

-- at file scope: what is no constant expression stays
abbrev pub static_tree : Scope → CExpr → CExpr
static_tree s (plain.Str at text) = plain.Str at text
static_tree s (plain.Null at) = plain.Null at
static_tree s (plain.Var at name) = plain.Var at name
static_tree s (plain.Unary at unary.Address a) = plain.Unary at unary.Address a
static_tree s e = constant_tree s e

abbrev mutual
  -- the expressions of a first value become others
  pub with_values : (CExpr → CExpr) → CValue → CValue
  with_values f (plain.One e) = plain.One (f e)
  with_values f (plain.Many vs) = plain.Many (with_all_values f vs)

  pub with_all_values : (CExpr → CExpr) → CValues → CValues
  with_all_values f plain.NoValue = plain.NoValue
  with_all_values f (plain.MoreValue v vs) = plain.MoreValue (with_values f v) (with_all_values f vs)

-- a declaration in a scope, its first value in the scope behind it
abbrev pub fewer_in_declaration : Scope → (CExpr → CExpr) → CDecl → CDecl
fewer_in_declaration s f d = record d { ty = fewer_in_type s d.ty; first = option_map (with_values f) d.first }

-- ---- statements

abbrev pub maybe_fewer : Scope → Option CExpr → Option CExpr
maybe_fewer s e = option_map (fewer s) e

abbrev mutual
  pub fewer_in : Scope → CStmt → CStmt
  fewer_in s (plain.Block ss) = plain.Block (fewer_in_all (entered s) ss)
  fewer_in s (plain.Local d) = plain.Local (fewer_in_declaration s (fewer (scope_behind s (plain.Local d))) d)
  fewer_in s (plain.Do_expr e) = plain.Do_expr (fewer s e)
  fewer_in s plain.Empty = plain.Empty
  fewer_in s (plain.If e t) = plain.If (fewer s e) (fewer_in s t)
  fewer_in s (plain.IfElse e t u) = plain.IfElse (fewer s e) (fewer_in s t) (fewer_in s u)
  fewer_in s (plain.While e t) = plain.While (fewer s e) (fewer_in s t)
  fewer_in s (plain.Do t e) = plain.Do (fewer_in s t) (fewer s e)
  fewer_in s (plain.For first test step t) =
      let inner = scope_behind_head s first in
      plain.For (fewer_in s first) (maybe_fewer inner test) (maybe_fewer inner step) (fewer_in inner t)
  fewer_in s (plain.Return at e) = plain.Return at (maybe_fewer s e)
  fewer_in s (plain.Break at) = plain.Break at
  fewer_in s (plain.Continue at) = plain.Continue at
  fewer_in s (plain.Switch e ps) = plain.Switch (fewer s e) (fewer_in_parts (entered s) ps)

  pub fewer_in_all : Scope → CStmts → CStmts
  fewer_in_all s plain.NoStmt = plain.NoStmt
  fewer_in_all s (plain.MoreStmt t ts) = plain.MoreStmt (fewer_in s t) (fewer_in_all (scope_behind s t) ts)

  pub fewer_in_part : Scope → CPart → CPart
  fewer_in_part s (plain.Label at e) = plain.Label at (option_map (constant_tree s) e)
  fewer_in_part s (plain.Item t) = plain.Item (fewer_in s t)

  pub fewer_in_parts : Scope → CParts → CParts
  fewer_in_parts s plain.NoPart = plain.NoPart
  fewer_in_parts s (plain.MorePart p ps) = plain.MorePart (fewer_in_part s p) (fewer_in_parts (scope_behind_part s p) ps)

-- ---- externals

-- a body shares its scope with the parameters
abbrev pub fewer_in_body : Scope → CStmt → CStmt
fewer_in_body s (plain.Block ss) = plain.Block (fewer_in_all s ss)
fewer_in_body s t = fewer_in s t

abbrev pub fewer_in_parameters : Scope → List CDecl → List CDecl
fewer_in_parameters s [] = []
fewer_in_parameters s (d ∷ ds) = fewer_in_declaration s (λ e. e) d ∷ fewer_in_parameters (parameter_scope_or s (parameter s d)) ds

abbrev pub fewer_in_function : Scope → List ℕ → Judged Signature → CStmt → CStmt
fewer_in_function s name (Ok f) body = fewer_in_body (body_scope s name f) body
fewer_in_function s name (Err e) body = body

abbrev pub fewer_in_item : Scope → CItem → CItem
fewer_in_item s (plain.StructItem tag) = plain.StructItem (record tag { members = map (fewer_in_declaration (with_tag s tag.name Unfinished) (λ e. e)) tag.members })
fewer_in_item s (plain.Object d) = plain.Object (fewer_in_declaration s (static_tree (scope_or s (item_judged s (plain.Object d)))) d)
fewer_in_item s (plain.Function name at result params body) =
    plain.Function name at (fewer_in_type s result) (fewer_in_parameters (entered s) params) (option_map (fewer_in_function s name (signature s at result params)) body)

abbrev pub fewer_in_items : Scope → List CItem → List CItem
fewer_in_items s [] = []
fewer_in_items s (item ∷ items) = fewer_in_item s item ∷ fewer_in_items (scope_or s (item_judged s item)) items

-- ---- the whole

-- what is in the text only once
abbrev pub distinct : List (List ℕ) → List (List ℕ)
distinct [] = []
distinct (name ∷ names) = name ∷ filter (λ other. not (bytes_eq name other)) (distinct names)

-- the names in a function's body
abbrev pub body_names : List CItem → List ℕ → List (List ℕ)
body_names [] f = []
body_names (plain.Function name at result params (Some body) ∷ items) f = if bytes_eq f name then stmt_names body else body_names items f
body_names (item ∷ items) f = body_names items f

-- the names in all bodies, and those in first values at file scope
abbrev pub names_in_bodies : List CItem → List (List ℕ)
names_in_bodies [] = []
names_in_bodies (plain.Function name at result params (Some body) ∷ items) = stmt_names body ++ names_in_bodies items
names_in_bodies (item ∷ items) = names_in_bodies items

abbrev pub names_at_file_scope : List CItem → List (List ℕ)
names_at_file_scope [] = []
names_at_file_scope (plain.Object d ∷ items) = first_names d.first ++ names_at_file_scope items
names_at_file_scope (item ∷ items) = names_at_file_scope items

-- a helper function as an external
abbrev pub function_of : Helper → CItem
function_of h = plain.Function h.name 0 h.result h.params (Some h.body)

-- those that are told of alone, and never run
abbrev pub told : List ℕ → List CDecl → Helper
told name params = record { name = name; result = plain.Void; params = params; body = plain.Block plain.NoStmt; kinds = [] }

abbrev pub formats_in : List CItem → List (List ℕ)
formats_in items = map (drop 7) (distinct (filter is_format (names_in_bodies items)))

-- all helper functions that a text with calls of them may call
abbrev pub helpers_for : List CItem → List Helper
helpers_for items = told unit_name [] ∷ told refill_name [] ∷ told piece_name (declaration plain.Int a ∷ []) ∷ (functions ++ map print_format (formats_in items))
