-- The charge of a call, the kinds of a tree and its room.
use Rattle.std.specs.Prelude.{ℕ, ◌+◌, ◌*◌, Bool, false, ◌||◌, ◌==◌, nat_lt, List, [], ◌∷◌, ◌++◌, length, Option, Some, None, Ok, Err, if◌then◌else◌, codes}
use Rattle.std.specs.Option.{option_map_or}
use Rattle.std.specs.List.{list_any, flat_map}
use Rattle.std.specs.Str.{bytes_eq}
use Rattle.c_syntax.specs.Plain as plain
use Rattle.c_syntax.specs.Plain.{CExpr, CStmt, CValue, CDecl, CItem, CUnit}
use Rattle.c_syntax.specs.declared.tree.UnOp.TheVariants as unary
use Rattle.c_syntax.specs.declared.tree.BinOp.{BinOp}
use Rattle.c_syntax.specs.declared.tree.BinOp.TheVariants as binary
use Rattle.c_types.specs.Types.{CType, Void, Pointer, is_pointer, Tags, words_of}
use Rattle.c_types.specs.Refusals.{Judged}
use Rattle.c_types.specs.Scope.{Scope, Entity, BuiltIn, Printf, entity_of}
use Rattle.c_types.specs.Operands.{Operand, value_type, conversions_of}
use Rattle.c_types.specs.Expressions.{judged, format_of}
use Rattle.c_types.specs.Declarations.{scope_or}
use Rattle.c_types.specs.Units.{Signature, signature, body_scope, item_judged, start_scope}
use Rattle.c_types.specs.Census.{body_sum, unit_sum}
use Rattle.c_types.specs.Limits.{weight_of}

-- the nodes of a body
abbrev pub body_nodes : Scope → CStmt → ℕ
body_nodes s t = body_sum (record { expr = λ s e. 1; node = 1; ty = λ tags t. 0; object = λ tags t v. 0 }) s t

-- the words of its locals
abbrev pub local_words : Scope → CStmt → ℕ
local_words s t = body_sum (record { expr = λ s e. 0; node = 0; ty = λ tags t. 0; object = λ tags t v. words_of tags t }) s t

-- the charge of a call: the parameters, the words of the locals, 2, and 4 times the nodes of the body, whose scope is given
abbrev pub charge_of : Scope → List CDecl → CStmt → ℕ
charge_of s params body = length params + local_words s body + 2 + 4 * body_nodes s body

-- the charge of each function that a text defines, in the order of the definitions
abbrev pub charge_in : Scope → List ℕ → List CDecl → CStmt → Judged Signature → ℕ
charge_in s name params body (Ok f) = charge_of (body_scope s name f) params body
charge_in s name params body (Err e) = 0

abbrev pub charges_in : Scope → List CItem → List (List ℕ × ℕ)
charges_in s [] = []
charges_in s (plain.Function name at result params (Some body) ∷ items) =
    (name, charge_in s name params body (signature s at result params)) ∷ charges_in (scope_or s (item_judged s (plain.Function name at result params (Some body)))) items
charges_in s (item ∷ items) = charges_in (scope_or s (item_judged s item)) items

abbrev pub charges_of : CUnit → List (List ℕ × ℕ)
charges_of u = charges_in (start_scope u) u.items

-- what takes a helper function for each kind that occurs
pub data Kind : Type 0 where
  Multiply Divide Remainder BitAnd BitOr BitXor Invert ShiftLeft ShiftRight : Kind
  PrintSigned PrintUnsigned PrintHex PrintString PutString : Kind
  -- on elements of more than one word
  PointerArithmetic PointerDifference : Kind

abbrev pub kinds : List Kind
kinds =
    Multiply ∷ Divide ∷ Remainder ∷ BitAnd ∷ BitOr ∷ BitXor ∷ Invert ∷ ShiftLeft ∷ ShiftRight
    ∷ PrintSigned ∷ PrintUnsigned ∷ PrintHex ∷ PrintString ∷ PutString ∷ PointerArithmetic ∷ PointerDifference ∷ []

abbrev pub kind_number : Kind → ℕ
kind_number Multiply = 0
kind_number Divide = 1
kind_number Remainder = 2
kind_number BitAnd = 3
kind_number BitOr = 4
kind_number BitXor = 5
kind_number Invert = 6
kind_number ShiftLeft = 7
kind_number ShiftRight = 8
kind_number PrintSigned = 9
kind_number PrintUnsigned = 10
kind_number PrintHex = 11
kind_number PrintString = 12
kind_number PutString = 13
kind_number PointerArithmetic = 14
kind_number PointerDifference = 15

abbrev pub operator_kinds : BinOp → List Kind
operator_kinds binary.Mul = Multiply ∷ []
operator_kinds binary.Div = Divide ∷ []
operator_kinds binary.Mod = Remainder ∷ []
operator_kinds binary.BitAnd = BitAnd ∷ []
operator_kinds binary.BitOr = BitOr ∷ []
operator_kinds binary.BitXor = BitXor ∷ []
operator_kinds binary.Shl = ShiftLeft ∷ []
operator_kinds binary.Shr = ShiftRight ∷ []
operator_kinds _ = []

-- the type with which an expression is used
abbrev pub used_type : Judged Operand → CType
used_type (Ok a) = value_type a
used_type (Err e) = Void

-- a pointer to elements of more than one word
abbrev pub is_wide_pointer : Tags → CType → Bool
is_wide_pointer tags (Pointer t) = nat_lt 1 (words_of tags t)
is_wide_pointer tags _ = false

abbrev pub where_wide : Bool → Kind → List Kind
where_wide wide kind = if wide then kind ∷ [] else []

-- those of a sum or a difference of two types
abbrev pub pointer_kinds : Tags → BinOp → CType → CType → List Kind
pointer_kinds tags binary.Add t u = where_wide (is_wide_pointer tags t || is_wide_pointer tags u) PointerArithmetic
pointer_kinds tags binary.Sub t u = where_wide (is_wide_pointer tags t) (if is_pointer u then PointerDifference else PointerArithmetic)
pointer_kinds tags _ t u = []

abbrev pub binary_kinds : Scope → BinOp → CExpr → CExpr → List Kind
binary_kinds s op a b = operator_kinds op ++ pointer_kinds s.tags op (used_type (judged s a)) (used_type (judged s b))

abbrev pub letter_kinds : ℕ → List Kind
letter_kinds b =
    if b == 100 then PrintSigned ∷ []
    else if b == 117 then PrintUnsigned ∷ []
    else if b == 120 then PrintHex ∷ []
    else if b == 115 then PrintString ∷ []
    else []

-- those of a format's conversions
abbrev pub format_kinds : Option (List ℕ) → List Kind
format_kinds None = []
format_kinds (Some format) = option_map_or (λ letters. flat_map letter_kinds letters) (conversions_of format) []

abbrev pub called_kinds : List ℕ → Option Entity → Option (List ℕ) → List Kind
called_kinds name (Some Printf) format = format_kinds format
called_kinds name (Some (BuiltIn t)) format = if bytes_eq name (codes "puts") then PutString ∷ [] else []
called_kinds name _ format = []

abbrev pub callee_kinds : Scope → CExpr → Option (List ℕ) → List Kind
callee_kinds s (plain.Var at name) format = called_kinds name (entity_of s name) format
callee_kinds s _ format = []

-- the kinds that an expression itself makes use of
abbrev pub kinds_at : Scope → CExpr → List Kind
kinds_at s (plain.Unary at unary.Invert a) = Invert ∷ []
kinds_at s (plain.Binary at op a b) = binary_kinds s op a b
kinds_at s (plain.Assign at (Some op) a b) = binary_kinds s op a b
kinds_at s (plain.Step at op a) = where_wide (is_wide_pointer s.tags (used_type (judged s a))) PointerArithmetic
kinds_at s (plain.Index at a b) = pointer_kinds s.tags binary.Add (used_type (judged s a)) (used_type (judged s b))
kinds_at s (plain.Call at f es) = callee_kinds s f (format_of es)
kinds_at s _ = []

-- how many expressions make use of a kind
abbrev pub uses_of : Kind → CUnit → ℕ
uses_of kind u =
    unit_sum (record { expr = λ s e. if list_any (λ k. kind_number k == kind_number kind) (kinds_at s e) then 1 else 0; node = 0; ty = λ tags t. 0; object = λ tags t v. 0 }) u

abbrev pub count_kinds : List Kind → CUnit → ℕ
count_kinds [] u = 0
count_kinds (kind ∷ more) u = (if nat_lt 0 (uses_of kind u) then 1 else 0) + count_kinds more u

-- which of the sixteen occur
abbrev pub kinds_of : CUnit → ℕ
kinds_of u = count_kinds kinds u

abbrev pub room_of : CUnit → ℕ
room_of u = 30 * weight_of u + 2048 * kinds_of u + 256
