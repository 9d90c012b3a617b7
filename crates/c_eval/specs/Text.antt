-- What a run takes from a text: its functions and its objects at file scope.
use Rattle.std.specs.Prelude.{ℕ, suc, List, [], ◌∷◌, ◌++◌, map, Option, Some, None, Ok, Err, if◌then◌else◌}
use Rattle.std.specs.Str.{bytes_eq}
use Rattle.std.specs.List.{find}
use Rattle.c_syntax.specs.Plain as plain
use Rattle.c_syntax.specs.Plain.{CExpr, CValue, CValues, CDecl, CStmt, CItem, CUnit}
use Rattle.c_syntax.specs.declared.tree.UnOp.TheVariants as unary
use Rattle.c_syntax.specs.Words.{meaning}
use Rattle.c_types.specs.Types.{CType}
use Rattle.c_types.specs.Refusals.{Judged}
use Rattle.c_types.specs.Scope.{Scope, Entity, Object, entity_of}
use Rattle.c_types.specs.Declarations.{Slots, first_slot, next_slots, slots_of, takes_string, scope_or}
use Rattle.c_types.specs.Units.{Signature, signature, body_scope, item_judged, start_scope}
use Rattle.c_eval.specs.State as state
use Rattle.c_eval.specs.State.{Value, Word, Null, Point, Letter, Function, Missing, Cell, Holds}
use Rattle.c_eval.specs.Memory.{Kind, zero_of, live_object}
use Rattle.c_eval.specs.Operators.{converted}
use Rattle.c_eval.specs.Environment.{constant_in, object_type_in, cell_kinds, slot_kinds, type_or_nothing, Environment, past_value, past_first}
use Rattle.c_eval.specs.Eval.{array_text}

-- ---- objects at file scope

-- the place behind an external
abbrev pub behind_item : CItem → Environment → Environment
behind_item (plain.Object d) here =
    past_first d.first (record here { scope = scope_or here.scope (item_judged here.scope (plain.Object d)); objects = (d.name, Some here.next) ∷ here.objects; next = suc here.next })
behind_item item here = record here { scope = scope_or here.scope (item_judged here.scope item) }

-- the place behind externals
abbrev pub behind_items : List CItem → Environment → Environment
behind_items [] here = here
behind_items (item ∷ items) here = behind_items items (behind_item item here)

-- the start of the object or the function that a name stands for
abbrev pub static_pointer : List ℕ → Option Entity → Option (Option ℕ) → Value
static_pointer name (Some (Object t)) (Some (Some o)) = Point o 0
static_pointer name _ _ = Function name

-- what a name is worth at file scope
abbrev pub static_named : Environment → List ℕ → Value
static_named here name = static_pointer name (entity_of here.scope name) (meaning here.objects name)

-- a first value at file scope: a constant expression, a string, NULL, `&name`, or the name of an array or of a function
abbrev pub static_value : Environment → CExpr → Value
static_value here (plain.Str at text) = Letter None here.literals_before text 0
static_value here (plain.Null at) = Null
static_value here (plain.Var at name) = static_named here name
static_value here (plain.Unary at unary.Address (plain.Var pos name)) = static_named here name
static_value here e = Word (constant_in here.scope e)

-- cells that are 0 or null
abbrev pub zero_cells : List Kind → List Cell
zero_cells kinds = map (λ kind. Holds (zero_of kind)) kinds

abbrev mutual
  -- the cells of a first value; what is missing is 0 or null
  pub static_cells : CValue → CType → Environment → List Cell
  static_cells (plain.One e) t here = if takes_string t e then map (λ c. Holds (Word c)) (array_text t e) else Holds (converted t (static_value here e)) ∷ []
  static_cells (plain.Many vs) t here = all_static_cells vs (slots_of here.scope.tags (Some t)) here

  pub all_static_cells : CValues → Slots → Environment → List Cell
  all_static_cells plain.NoValue slots here = zero_cells (slot_kinds here.scope.tags slots)
  all_static_cells (plain.MoreValue v vs) slots here =
      static_cells v (type_or_nothing (first_slot slots)) here ++ all_static_cells vs (next_slots slots) (past_value v here)

-- objects at file scope start as 0 or null
abbrev pub first_cells : CType → Option CValue → Environment → List Cell
first_cells t None here = zero_cells (cell_kinds here.scope.tags t)
first_cells t (Some v) here = static_cells v t here

-- a first value knows its own object
abbrev pub item_objects : CItem → Environment → List state.Object
item_objects (plain.Object d) here = live_object (first_cells (object_type_in here.scope d) d.first (record (behind_item (plain.Object d) here) { literals_before = here.literals_before })) ∷ []
item_objects _ here = []

-- the objects of file scope, in the order of the text
abbrev pub file_objects : List CItem → Environment → List state.Object
file_objects [] here = []
file_objects (item ∷ items) here = item_objects item here ++ file_objects items (behind_item item here)

-- before the first external
abbrev pub file_start : CUnit → Environment
file_start u = record { scope = start_scope u; objects = []; next = 0; literals_before = 0 }

-- ---- functions

-- a function with a definition
pub record Definition : Type 0 where
  pub name : List ℕ
  pub result : CType
  pub params : List (List ℕ)
  -- the scope of its body
  pub scope : Scope
  pub body : CStmt

-- the definition of a function of such a signature
abbrev pub definition_in : Scope → List ℕ → List CDecl → CStmt → Judged Signature → List Definition
definition_in s name params body (Ok f) = record { name = name; result = f.result; params = map (λ d. d.name) params; scope = body_scope s name f; body = body } ∷ []
definition_in s name params body (Err e) = []

-- that of an external, if it is one
abbrev pub item_definitions : Scope → CItem → List Definition
item_definitions s (plain.Function name at result params (Some body)) = definition_in s name params body (signature s at result params)
item_definitions s _ = []

-- those of a text, in its order
abbrev pub definitions : Scope → List CItem → List Definition
definitions s [] = []
definitions s (item ∷ items) = item_definitions s item ++ definitions (scope_or s (item_judged s item)) items

-- ---- the whole

-- what a run takes from a text
pub record Text : Type 0 where
  pub functions : List Definition
  -- the objects of file scope, by name and in their order
  pub names : List (List ℕ × Option ℕ)
  pub objects : List state.Object

-- of a whole tree
abbrev pub text_of : CUnit → Text
text_of u = record {
  functions = definitions (start_scope u) u.items;
  names = (behind_items u.items (file_start u)).objects;
  objects = file_objects u.items (file_start u);
}

-- the definition of a function
abbrev pub function_named : Text → List ℕ → Option Definition
function_named t name = find (λ f. bytes_eq name f.name) t.functions
