-- Scopes in which the names of a tree with fewer operators have their meaning.
use Rattle.std.specs.Prelude.{◌≡◌, ℕ, Bool, true, List, map, Option, Some, drop, if◌then◌else◌}
use Rattle.c_syntax.specs.Plain as plain
use Rattle.c_syntax.specs.Plain.{CExpr, CTy}
use Rattle.c_syntax.specs.Words.{meaning}
use Rattle.c_types.specs.Types.{CType, Void, Int, Unsigned, Char, Pointer, Function, types}
use Rattle.c_types.specs.Scope.{Scope, Entity, Object, Routine, BuiltIn, Printf, entity_of, contains}
use Rattle.c_eval.specs.LiteralsIn.{is_printf}
use Rattle.c_alike.specs.Alike.{EachName}
use Rattle.c_helpers.specs.Functions.{Helper, functions, print_format}
use Rattle.c_helpers.specs.Meanings.{is_format}
use Rattle.c_helpers.specs.Fewer.{fewer}

-- the types that helper functions have in their heads
abbrev pub head_type : CTy → CType
head_type plain.Int = Int
head_type plain.Unsigned = Unsigned
head_type plain.Char = Char
head_type (plain.Pointer t) = Pointer (head_type t)
head_type _ = Void

abbrev pub function_type : Helper → CType
function_type h = Function (head_type h.result) (types (map (λ d. head_type d.ty) h.params))

-- the type of a helper function by its name, also of a format's
abbrev pub helper_type : List ℕ → Option CType
helper_type name = if is_format name then Some (function_type (print_format (drop 7 name))) else meaning (map (λ h. (h.name, function_type h)) functions) name

-- what stands for the same; of a function it may be open whether its definition has begun
abbrev pub EntityStands : Entity → Option Entity → Type 0
EntityStands (Object t) o = o ≡ Some (Object t)
EntityStands (Routine t begun) o = (begins : Bool) × (o ≡ Some (Routine t begins))
EntityStands (BuiltIn t) o = o ≡ Some (BuiltIn t)
EntityStands Printf o = o ≡ Some Printf

-- a name of the one scope stands for the same in the other, which knows the helper functions
pub record NameStands (s s' : Scope) (name : List ℕ) : Type 0 where
  pub text : (x : Entity) → entity_of s name ≡ Some x → EntityStands x (entity_of s' name)
  pub printf : is_printf (entity_of s name) ≡ is_printf (entity_of s' name)
  pub defined : contains s.defined name ≡ true → contains s'.defined name ≡ true
  pub helper : (t : CType) → helper_type name ≡ Some t → (begun : Bool) × (entity_of s' name ≡ Some (Routine t begun)) × (contains s'.defined name ≡ true)

-- so does each name of an expression that was made from one of the first scope
abbrev pub ExprStands : Scope → Scope → CExpr → Type 0
ExprStands s s' e = EachName (NameStands s s') (fewer s e)
