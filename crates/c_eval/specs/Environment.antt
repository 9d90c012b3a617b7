-- What a name stands for at a place of the text, and the objects of a block.
use Rattle.std.specs.Prelude.{ℕ, suc, ◌+◌, Bool, true, false, ◌||◌, ◌==◌, List, [], ◌∷◌, ◌++◌, length, replicate, Option, Some, None, Ok, Err, if◌then◌else◌}
use Rattle.std.specs.Str.{bytes_eq}
use Rattle.std.specs.List.{flat_map}
use Rattle.c_syntax.specs.Plain as plain
use Rattle.c_syntax.specs.Plain.{CExpr, CValue, CDecl, CStmt, CStmts, CPart, CParts}
use Rattle.c_syntax.specs.Words.{meaning}
use Rattle.c_types.specs.Types.{CType, CTypes, NoType, Void, Struct, Pointer, Array, Function, decayed, Layout, Unfinished, Members, Tags, words_of}
use Rattle.c_types.specs.Constants.{Constant, NotConstant, Undefined, Value}
use Rattle.c_types.specs.Refusals.{Judged}
use Rattle.c_types.specs.Scope.{Scope, Entity, Object, Routine, BuiltIn, Printf, entity_of, entered}
use Rattle.c_types.specs.Operands.{Operand}
use Rattle.c_types.specs.Expressions.{judged}
use Rattle.c_types.specs.Declarations.{Slots, Elements, Fields, Nothing, declared_type, types_of_members}
use Rattle.c_types.specs.Census.{scope_behind, scope_behind_part}
use Rattle.c_eval.specs.State.{Cell, Unset}
use Rattle.c_eval.specs.Memory.{Kind, kind_of}
use Rattle.c_eval.specs.LiteralsIn.{literals_in, value_literals, stmt_literals}

-- ---- types

-- the type that a judgement tells; a typed text has no refused part
abbrev pub type_or_void : Judged CType → CType
type_or_void (Ok t) = t
type_or_void (Err e) = Void

-- of an operand too
abbrev pub operand_type : Judged Operand → CType
operand_type (Ok a) = a.ty
operand_type (Err e) = Void

-- the type of an expression
abbrev pub type_in : Scope → CExpr → CType
type_in s e = operand_type (judged s e)

-- with an array as a pointer to its first element
abbrev pub value_type_in : Scope → CExpr → CType
value_type_in s e = decayed (type_in s e)

-- the word of a constant that has a value
abbrev pub constant_word : Constant → ℕ
constant_word NotConstant = 0
constant_word (Undefined at) = 0
constant_word (Value n) = n

abbrev pub word_in : Judged Operand → ℕ
word_in (Ok a) = constant_word a.constant
word_in (Err e) = 0

-- the word of a constant expression
abbrev pub constant_in : Scope → CExpr → ℕ
constant_in s e = word_in (judged s e)

-- the type of a declared object
abbrev pub object_type_in : Scope → CDecl → CType
object_type_in s d = type_or_void (declared_type s d)

-- what a pointer of a type points to
abbrev pub pointee : CType → CType
pointee (Pointer t) = t
pointee _ = Void

-- the parameters of the function to which a pointer points
abbrev pub parameters_of : CType → CTypes
parameters_of (Pointer (Function t ts)) = ts
parameters_of _ = NoType

-- the words of the members before one
abbrev pub words_before : Tags → List (List ℕ × CType) → List ℕ → ℕ
words_before tags [] name = 0
words_before tags (m ∷ ms) name = if bytes_eq name m.0 then 0 else words_of tags m.1 + words_before tags ms name

abbrev pub offset_in : Tags → List ℕ → Option Layout → ℕ
offset_in tags name (Some (Members members words)) = words_before tags members name
offset_in tags name _ = 0

-- how many words of a struct stand before a member
abbrev pub member_offset : Tags → CType → List ℕ → ℕ
member_offset tags (Struct tag) name = offset_in tags name (meaning tags tag)
member_offset tags _ name = 0

-- ---- cells

-- the kinds of an object's cells, those of a struct being given
abbrev pub kinds_with : (List ℕ → List Kind) → CType → List Kind
kinds_with of_struct (Struct tag) = of_struct tag
kinds_with of_struct (Array t n) = flat_map (λ kinds. kinds) (replicate n (kinds_with of_struct t))
kinds_with of_struct t = kind_of t ∷ []

-- the types of the members of a layout
abbrev pub members_in : Layout → List CType
members_in Unfinished = []
members_in (Members members words) = types_of_members members

-- those of a struct: its members have types that were declared before it
abbrev pub struct_kinds : Tags → List ℕ → List Kind
struct_kinds [] tag = []
struct_kinds (entry ∷ tags) tag = if bytes_eq tag entry.0 then flat_map (λ t. kinds_with (struct_kinds tags) t) (members_in entry.1) else struct_kinds tags tag

-- the kinds of the cells of an object of a type
abbrev pub cell_kinds : Tags → CType → List Kind
cell_kinds tags t = kinds_with (struct_kinds tags) t

-- the kinds of the cells that are left in a braced list
abbrev pub slot_kinds : Tags → Slots → List Kind
slot_kinds tags (Elements t n) = cell_kinds tags (Array t n)
slot_kinds tags (Fields ts) = flat_map (λ t. cell_kinds tags t) ts
slot_kinds tags Nothing = []

-- the type of the next object of a braced list
abbrev pub type_or_nothing : Option CType → CType
type_or_nothing None = Void
type_or_nothing (Some t) = t

-- a local is unset at first
abbrev pub unset_cells : Scope → CDecl → List Cell
unset_cells s d = replicate (words_of s.tags (object_type_in s d)) Unset

-- the objects that a statement declares in its block
abbrev pub objects_in : Scope → CStmt → List (List Cell)
objects_in s (plain.Local d) = unset_cells s d ∷ []
objects_in s _ = []

-- the objects of a block, one for each of its declarations
abbrev pub block_objects : Scope → CStmts → List (List Cell)
block_objects s plain.NoStmt = []
block_objects s (plain.MoreStmt t ts) = objects_in s t ++ block_objects (scope_behind s t) ts

-- those that stand at the outer level of a `switch`
abbrev pub part_objects : Scope → CPart → List (List Cell)
part_objects s (plain.Label at e) = []
part_objects s (plain.Item t) = objects_in s t

-- one for each of its declarations, whether jumped over or not
abbrev pub parts_objects : Scope → CParts → List (List Cell)
parts_objects s plain.NoPart = []
parts_objects s (plain.MorePart p ps) = part_objects s p ++ parts_objects (scope_behind_part s p) ps

-- ---- places of the text

-- what is in scope at a place
pub record Environment : Type 0 where
  pub scope : Scope
  -- the object that each name in scope has, the innermost first; a parameter without an argument has none
  pub objects : List (List ℕ × Option ℕ)
  -- the number of the block's next object
  pub next : ℕ
  -- how many string literals of the function stand before
  pub literals_before : ℕ

-- behind so many literals
abbrev pub behind_literals : List (List ℕ) → Environment → Environment
behind_literals these here = record here { literals_before = here.literals_before + length these }

-- behind an expression
abbrev pub past : CExpr → Environment → Environment
past e here = behind_literals (literals_in here.scope e) here

-- behind an expression that may be missing
abbrev pub past_maybe : Option CExpr → Environment → Environment
past_maybe None here = here
past_maybe (Some e) here = past e here

-- behind a first value
abbrev pub past_value : CValue → Environment → Environment
past_value v here = behind_literals (value_literals here.scope v) here

-- behind the name of a declaration: its first value knows it
abbrev pub declaring : CDecl → Environment → Environment
declaring d here =
    record here { scope = scope_behind here.scope (plain.Local d); objects = (d.name, Some here.next) ∷ here.objects; next = suc here.next }

-- behind one that may be missing
abbrev pub past_first : Option CValue → Environment → Environment
past_first None here = here
past_first (Some v) here = past_value v here

-- behind a statement that declares nothing
abbrev pub past_stmt : CStmt → Environment → Environment
past_stmt t here = behind_literals (stmt_literals here.scope t) here

-- behind a statement
abbrev pub behind : CStmt → Environment → Environment
behind (plain.Local d) here = past_first d.first (declaring d here)
behind t here = past_stmt t here

-- behind the statements of a block
abbrev pub behind_all : CStmts → Environment → Environment
behind_all plain.NoStmt here = here
behind_all (plain.MoreStmt t ts) here = behind_all ts (behind t here)

-- behind a part of a `switch`
abbrev pub behind_part : CPart → Environment → Environment
behind_part (plain.Label at e) here = here
behind_part (plain.Item t) here = behind t here

-- in a block whose first object has this number
abbrev pub in_block : ℕ → Environment → Environment
in_block n here = record here { scope = entered here.scope; next = n }

-- ---- calls

-- what is called
pub data Callee : Type 0 where
  -- a function of the text, with the types of its parameters
  Direct : (name : List ℕ) → (params : CTypes) → Callee
  -- a function that is always known
  Known : (name : List ℕ) → (params : CTypes) → Callee
  Format : Callee
  -- the value of an expression
  Through : (params : CTypes) → Callee

-- the parameters of a function's type
abbrev pub function_parameters : CType → CTypes
function_parameters (Function t ts) = ts
function_parameters _ = NoType

-- a called name is a function, or else the value of an object
abbrev pub named_callee : List ℕ → Option Entity → Callee
named_callee name (Some (Object t)) = Through (parameters_of (decayed t))
named_callee name (Some (Routine t begun)) = Direct name (function_parameters t)
named_callee name (Some (BuiltIn t)) = Known name (function_parameters t)
named_callee name (Some Printf) = Format
named_callee name None = Through NoType

-- any other expression is called through its value
abbrev pub callee_in : Scope → CExpr → Callee
callee_in s (plain.Var at name) = named_callee name (entity_of s name)
callee_in s e = Through (parameters_of (value_type_in s e))

-- ---- switch

-- where a `switch` goes on
pub data Target : Type 0 where
  Case : (word : ℕ) → Target
  Default : Target

-- a part is the label of the equal word, or the default
abbrev pub is_target : Target → Scope → CPart → Bool
is_target (Case word) s (plain.Label at (Some e)) = constant_in s e == word
is_target Default s (plain.Label at None) = true
is_target target s _ = false

-- the parts have such a label
abbrev pub has_target : Target → Scope → CParts → Bool
has_target target s plain.NoPart = false
has_target target s (plain.MorePart p ps) = is_target target s p || has_target target (scope_behind_part s p) ps

-- the label of the equal word, else the default
abbrev pub target_of : ℕ → Scope → CParts → Target
target_of word s ps = if has_target (Case word) s ps then Case word else Default
