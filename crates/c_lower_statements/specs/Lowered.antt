-- Statements that were lowered.
use Rattle.std.specs.Prelude.{ℕ, ◌+◌, List, length, Option}
use Rattle.eir_core.specs.declared.ops.Op.{Op}
use Rattle.c_syntax.specs.Plain.{CExpr, CStmt, CStmts, CPart, CParts}
use Rattle.c_eval.specs.Environment.{Environment, past_maybe, past_stmt, behind, behind_all, behind_part}
use Rattle.c_eval.specs.LiteralsIn.{maybe_literals, stmt_literals, stmts_literals, part_literals, parts_literals}
use Rattle.c_fitting.specs.Blocks.{IsNoDeclaration, DeclaresInBlocks, AllDeclareInBlocks, PartDeclaresInBlocks, PartsDeclareInBlocks}
use Rattle.c_cells.specs.declared.structs.StructKinds.{StructKinds}
use Rattle.c_cells.specs.Structs.{AreStructKinds}
use Rattle.c_lowered.specs.Locations.{Linking}
use Rattle.c_lowered.specs.Counts.{maybe_jumps, maybe_truth_jumps, stmt_jumps, stmts_jumps, part_jumps, parts_jumps}
use Rattle.c_lowered.specs.Statements as plain
use Rattle.c_lowered.specs.Statements.{for_code, stmt_code, stmts_code, part_code, parts_code}
use Rattle.c_counted.specs.Numbers.{IsNumber}
use Rattle.c_addressing.specs.declared.here.Here.{Here}
use Rattle.c_addressing.specs.declared.here.Output.{Output}
use Rattle.c_applied.specs.Leads.{Leads}
use Rattle.c_lower_blocks.specs.declared.blocks.Block.{Block}
use Rattle.c_lower_blocks.specs.Standing.{Stands, Goes}
use Rattle.c_lower_statements.specs.declared.targets.Targets.{Targets}
use Rattle.c_lower_statements.specs.Pieces.{behind_parts}

pub record AreTargets (to : Targets) (p : plain.Targets) : Type 0 where
  pub broke : IsNumber to.broke p.broke
  pub continued : IsNumber to.continued p.continued

-- what the code knows of a place is what the definitions say of it, also of the kinds of structs' cells
pub record IsPlaced (h : Here) (kinds : StructKinds) (out : Output) (k : Block) (w : Linking) (env : Environment) (n : ℕ) : Type 0 where
  pub stands : Stands h out k w env n
  pub structs : AreStructKinds out.types kinds env.scope.tags

-- code was added, in which so many literals stand, behind which another place is reached and a block begins
pub record Reaches (old new : Output) (e : Here) (kinds : StructKinds) (l : Block) (w : Linking) (place : Environment) (n : ℕ) (code : List Op) (literals told end : ℕ) : Type 0 where
  pub leads : Leads old new code literals told end
  pub placed : IsPlaced e kinds new l w place n

-- a statement got its code, which begins in a block
pub record Lowers (old new : Output) (h e : Here) (kinds : StructKinds) (k l : Block) (t : CStmt) (to : Targets) (first told : ℕ) : Type 0 where
  pub goes : Goes old new h e k l
  pub code : (w : Linking) (env : Environment) (n m : ℕ) (p : plain.Targets) → IsPlaced h kinds old k w env n → IsNumber first m → AreTargets to p → DeclaresInBlocks t
      → Reaches old new e kinds l w (behind t env) n (stmt_code t w env m n p) (length (stmt_literals env.scope t)) told (m + stmt_jumps t)

-- statements got theirs
pub record LowersAll (old new : Output) (h e : Here) (kinds : StructKinds) (k l : Block) (ts : CStmts) (to : Targets) (first told : ℕ) : Type 0 where
  pub goes : Goes old new h e k l
  pub code : (w : Linking) (env : Environment) (n m : ℕ) (p : plain.Targets) → IsPlaced h kinds old k w env n → IsNumber first m → AreTargets to p → AllDeclareInBlocks ts
      → Reaches old new e kinds l w (behind_all ts env) n (stmts_code ts w env m n p) (length (stmts_literals env.scope ts)) told (m + stmts_jumps ts)

-- a part of a `switch` got its code
pub record LowersPart (old new : Output) (h e : Here) (kinds : StructKinds) (k l : Block) (x : CPart) (to : Targets) (first told : ℕ) : Type 0 where
  pub goes : Goes old new h e k l
  pub code : (w : Linking) (env : Environment) (n m : ℕ) (p : plain.Targets) → IsPlaced h kinds old k w env n → IsNumber first m → AreTargets to p → PartDeclaresInBlocks x
      → Reaches old new e kinds l w (behind_part x env) n (part_code x w env m n p) (length (part_literals env.scope x)) told (m + part_jumps x)

-- the parts got theirs
pub record LowersParts (old new : Output) (h e : Here) (kinds : StructKinds) (k l : Block) (xs : CParts) (to : Targets) (first told : ℕ) : Type 0 where
  pub goes : Goes old new h e k l
  pub code : (w : Linking) (env : Environment) (n m : ℕ) (p : plain.Targets) → IsPlaced h kinds old k w env n → IsNumber first m → AreTargets to p → PartsDeclareInBlocks xs
      → Reaches old new e kinds l w (behind_parts xs env) n (parts_code xs w env m n p) (length (parts_literals env.scope xs)) told (m + parts_jumps xs)

-- the loop of a `for` behind its head: a test and a step, which may be missing, and a body
pub record Turns (old new : Output) (h e : Here) (kinds : StructKinds) (k l : Block) (test step : Option CExpr) (t : CStmt) (first told : ℕ) : Type 0 where
  pub goes : Goes old new h e k l
  pub code : (w : Linking) (env : Environment) (n m : ℕ) → IsPlaced h kinds old k w env n → IsNumber first m → DeclaresInBlocks t → IsNoDeclaration t
      → Reaches old new e kinds l w (past_stmt t (past_maybe step (past_maybe test env))) n (for_code m test step t w env n (λ inner at around. stmt_code t w inner at n around))
      (length (maybe_literals env.scope test) + (length (maybe_literals env.scope step) + length (stmt_literals env.scope t))) told (m + (maybe_truth_jumps test + stmt_jumps t + maybe_jumps step + 3))
