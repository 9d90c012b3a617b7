-- Texts of C, compiled.
use Rattle.std.specs.Prelude.{◌≡◌, ◌≤◌, ◌^◌, ℕ, List, Ok}
use Rattle.eir_core.specs.Eir.{size_of}
use Rattle.c_syntax.specs.Plain.{CUnit}
use Rattle.c_types.specs.Room.{room_of}
use Rattle.c_types.specs.Scope.{Scope}
use Rattle.c_types.specs.Units.{all_items, start_scope}
use Rattle.c_valid.specs.Valid.{AreBytes}
use Rattle.c_helpers.specs.Simple.{desugared}
use Rattle.c_fitting.specs.Blocks.{UnitDeclaresInBlocks}
use Rattle.c_source.specs.Source.{Spells}
use Rattle.c_compiled.specs.Compiled.{compiled, IsCompiledOnBytes}

-- what lowering asks of a tree: it is typed, and declarations stand in blocks
pub record IsLowerable (u : CUnit) : Type 0 where
  pub typed : (end : Scope) × (all_items (start_scope u) u.items ≡ Ok end)
  pub blocks : UnitDeclaresInBlocks u

-- a typed tree can be lowered, once operators became calls; the program has at most the room of the tree, which isn't above the largest size that a program may have, and behaves as the tree on each input of bytes
pub record IsCompiledText (u : CUnit) : Type 0 where
  pub lowerable : IsLowerable (desugared u)
  pub fits : size_of (compiled u) ≤ room_of u
  pub small : size_of (compiled u) ≤ 2 ^ 21
  pub means : IsCompiledOnBytes u

-- so it is with the typed tree that a text of bytes spells
abbrev pub TextsAreCompiled : Type 0
TextsAreCompiled = (text : List ℕ) (u : CUnit) → AreBytes text → Spells text u → IsCompiledText u
