-- Names in blocks.
use Rattle.std.specs.Prelude.{ℕ, List, take, drop}
use Rattle.c_scopes.specs.declared.entity.Entity.{Entity}
use Rattle.c_scopes.specs.declared.stack.Declared.{Declared}
use Rattle.c_scopes.specs.Stack.{pairs}

pub record Blocks : Type 0 where
  -- the names of the innermost block, the last one first
  pub block : List (List ℕ × Entity)
  -- those of the blocks around it, the inner ones first
  pub outer : List (List ℕ × Entity)

abbrev pub blocks_of : List Declared → ℕ → Blocks
blocks_of ds start = record { block = pairs (drop start ds); outer = pairs (take start ds) }
