-- Where the statements of a block stand.
use Rattle.std.specs.Prelude.{◌≡◌, ℕ, ◌+◌, List, length, Some}
use Rattle.c_syntax.specs.Plain.{CDecl}
use Rattle.c_eval.specs.State.{Cell}
use Rattle.c_eval.specs.Environment.{Environment, object_type_in, declaring, in_block}
use Rattle.c_types.specs.Table.{HasType}
use Rattle.c_declared.specs.Held.{HoldsSome}
use Rattle.c_lowered.specs.Locations.{Linking, located, with_block}
use Rattle.c_lowered.specs.Statements.{offset_in_frame, words_in}
use Rattle.c_counted.specs.Numbers.{IsNumber}
use Rattle.c_addressing.specs.declared.here.Here.{Here}
use Rattle.c_addressing.specs.declared.here.Output.{Output}
use Rattle.c_addressing.specs.Here.{IsHere}
use Rattle.c_applied.specs.Leads.{Keeps}
use Rattle.c_lower_blocks.specs.declared.blocks.Block.{Block}
use Rattle.c_lower_blocks.specs.declared.blocks.Begun.{Begun}
use Rattle.c_lower_blocks.specs.declared.locals.Local.{Local}
use Rattle.c_lower_blocks.specs.Blocks.{IsInside, AreMarks, IsBeside}

-- what the code knows of a place is what the definitions say of it, the block's next object has the next number, and the frame is free from a word on
pub record Stands (h : Here) (out : Output) (k : Block) (w : Linking) (env : Environment) (n : ℕ) : Type 0 where
  pub here : IsHere h out w env
  pub next : k.next ≡ env.next
  pub free : IsNumber k.free n

-- in a block that began with these objects, where the frame is free from a word on
abbrev pub StandsIn : Here → Output → Block → Linking → Environment → ℕ → List (List Cell) → Type 0
StandsIn h out k w env n objects = Stands h out k (with_block objects n w) (in_block (length w.bases) env) (n + words_in objects)

-- whatever a tree is, types only grow, the names around the block stay, and the frame is free from the same word on
pub record Goes (old new : Output) (h e : Here) (k l : Block) : Type 0 where
  pub keeps : Keeps old new
  pub beside : IsBeside h e
  pub holds : HoldsSome new.types e.declared
  pub free : l.free ≡ k.free

-- whatever its objects are, a block began
pub record Begins (old new : Output) (h e : Here) (b : Begun) : Type 0 where
  pub keeps : Keeps old new
  pub inside : IsInside h e
  pub marks : AreMarks h b.marks
  pub holds : HoldsSome new.types e.declared

-- an object is declared as its declaration says, with its type and its word in the frame
pub record IsDeclared (h : Here) (out : Output) (k : Block) (w : Linking) (env : Environment) (n : ℕ) (d : CDecl) (local : Local) : Type 0 where
  pub ty : HasType out.types local.ty (object_type_in env.scope d)
  pub at : IsNumber local.at (offset_in_frame (located w (Some (Some env.next))))
  pub stands : Stands h out k w (declaring d env) n
