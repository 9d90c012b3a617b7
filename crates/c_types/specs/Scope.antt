-- The declarations in scope.
use Rattle.std.specs.Prelude.{ℕ, Bool, true, false, List, [], ◌∷◌, ◌++◌, Option, Some, codes}
use Rattle.std.specs.Option.{option_map_or}
use Rattle.std.specs.Str.{bytes_eq}
use Rattle.std.specs.List.{list_any}
use Rattle.c_syntax.specs.Words.{meaning}
use Rattle.c_types.specs.Types.{CType, Void, Int, Char, Pointer, Function, types, Tags}

-- what a name stands for
pub data Entity : Type 0 where
  Object : (t : CType) → Entity
  -- a function of the text, and whether its definition has begun
  Routine : (t : CType) → (begun : Bool) → Entity
  -- a function that is always known
  BuiltIn : (t : CType) → Entity
  -- `printf`, whose arguments are those of its format
  Printf : Entity

abbrev pub Names : Type 0
Names = List (List ℕ × Entity)

pub record Scope : Type 0 where
  pub tags : Tags
  -- the names of the innermost block, the last one first
  pub block : Names
  -- those of the blocks around it, the inner ones first
  pub outer : Names
  -- the functions that the whole text defines
  pub defined : List (List ℕ)

abbrev pub contains : List (List ℕ) → List ℕ → Bool
contains names name = list_any (λ other. bytes_eq name other) names

-- what a name stands for: the innermost declaration counts
abbrev pub entity_of : Scope → List ℕ → Option Entity
entity_of s name = meaning (s.block ++ s.outer) name

-- the name has a declaration in the innermost block
abbrev pub is_declared_here : Scope → List ℕ → Bool
is_declared_here s name = option_map_or (λ entity. true) (meaning s.block name) false

abbrev pub with_name : Scope → List ℕ → Entity → Scope
with_name s name entity = record s { block = (name, entity) ∷ s.block }

-- a block begins
abbrev pub entered : Scope → Scope
entered s = record s { block = []; outer = s.block ++ s.outer }

-- an entity is a function
abbrev pub is_function : Option Entity → Bool
is_function (Some (Routine t begun)) = true
is_function (Some (BuiltIn t)) = true
is_function (Some Printf) = true
is_function _ = false

abbrev pub built_in : CType → List CType → Entity
built_in result params = BuiltIn (Function result (types params))

-- the functions that are always known
abbrev pub built_ins : Names
built_ins =
    (codes "getchar", built_in Int [])
    ∷ (codes "__builtin_getc", built_in Int [])
    ∷ (codes "putchar", built_in Int (Int ∷ []))
    ∷ (codes "puts", built_in Int (Pointer Char ∷ []))
    ∷ (codes "printf", Printf)
    ∷ (codes "exit", built_in Void (Int ∷ []))
    ∷ []

-- before the first declaration of a text that defines these functions
abbrev pub file_scope : List (List ℕ) → Scope
file_scope defined = record { tags = []; block = built_ins; outer = []; defined = defined }
