-- Where the statements of a block get code.
use Rattle.std.specs.Prelude.{◌≡◌}
use Rattle.c_eval.specs.Environment.{Environment}
use Rattle.c_code.specs.Code.{Site}
use Rattle.c_types.specs.Known.{Grows}
use Rattle.c_types.specs.Table.{Table, known}
use Rattle.c_declared.specs.Held.{HoldsSome}
use Rattle.c_emitted.specs.declared.emitter.Emitter.{Emitter}
use Rattle.c_here.specs.declared.here.Here.{Here}
use Rattle.c_here.specs.Here.{IsHere}
use Rattle.c_blocks.specs.declared.objects.Block.{Block}
use Rattle.c_blocks.specs.Blocks.{IsBeside}

-- what the code knows of a place is what the definitions say of it, and the block's next object has the next slot
pub record Stands (table : Table) (h : Here) (out : Emitter) (k : Block) (site : Site) (env : Environment) : Type 0 where
  pub here : IsHere table h out site env
  pub next : k.next ≡ env.next

-- whatever a tree is, types only grow, and the names around the block stay
pub record Keeps (old new : Table) (h e : Here) : Type 0 where
  pub grows : Grows (known old) (known new)
  pub tags : new.tags ≡ old.tags
  pub beside : IsBeside h e
  pub holds : HoldsSome new e.declared
