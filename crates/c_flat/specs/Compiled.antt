-- Statements that have got plain code.
use Rattle.std.specs.Prelude.{◌≡◌, ℕ, List, [], ◌++◌, length, Option}
use Rattle.c_syntax.specs.Plain as plain
use Rattle.c_syntax.specs.Plain.{CExpr, CStmt, CStmts, CPart, CParts}
use Rattle.c_types.specs.Scope.{Scope}
use Rattle.c_eval.specs.State.{Cell}
use Rattle.c_eval.specs.Environment.{Environment, objects_in, block_objects, part_objects, parts_objects, past_maybe, past_stmt, behind, behind_all, behind_part}
use Rattle.c_eval.specs.LiteralsIn.{maybe_literals, stmt_literals, stmts_literals, part_literals, parts_literals}
use Rattle.c_code.specs.Code.{Instruction, Label, Site, maybe_test_code, maybe_effect_code, loop_code, label_of, labels_in, stmt_code, stmts_code, part_code, parts_code}
use Rattle.c_types.specs.Table.{Table}
use Rattle.c_emitted.specs.declared.emitter.Emitter.{Emitter}
use Rattle.c_emitted.specs.Emits.{Emits}
use Rattle.c_here.specs.declared.here.Here.{Here}
use Rattle.c_fitting.specs.Whole.{MaybeIsFit, TakesNoSlot, StmtIsFit, StmtsAreFit, PartIsFit, PartsAreFit}
use Rattle.c_cells.specs.declared.structs.StructKinds.{StructKinds}
use Rattle.c_cells.specs.Structs.{AreStructKinds}
use Rattle.c_aside.specs.declared.cases.Label as rust
use Rattle.c_aside.specs.Cases.{labels_of}
use Rattle.c_blocks.specs.declared.objects.Block.{Block}
use Rattle.c_blocks.specs.Objects.{unset_objects}
use Rattle.c_blocks.specs.Standing.{Stands, Keeps}

-- what the code knows of a place is what the definitions say of it, also of the kinds of structs' cells
pub record IsPlaced (table : Table) (h : Here) (kinds : StructKinds) (out : Emitter) (k : Block) (site : Site) (env : Environment) : Type 0 where
  pub stands : Stands table h out k site env
  pub structs : AreStructKinds table kinds env.scope.tags

-- code was emitted behind which another place is reached, and the block has these objects more
pub record Reaches (table : Table) (h : Here) (kinds : StructKinds) (a b : Emitter) (k l : Block) (site : Site) (place : Environment) (is : List Instruction) (literals : List (List ℕ)) (objects : List (List Cell)) : Type 0 where
  pub emits : Emits a b is literals
  pub placed : IsPlaced table h kinds b l site place
  pub more : unset_objects l.lengths.items ≡ unset_objects k.lengths.items ++ objects

-- whatever a tree is, types only grow, and the names around the block stay, and the slots behind it
pub record Goes (old new : Table) (h e : Here) (k l : Block) : Type 0 where
  pub keeps : Keeps old new h e
  pub free : l.free ≡ k.free

-- a statement got its code
pub record Compiles (old new : Table) (h e : Here) (kinds : StructKinds) (a b : Emitter) (k l : Block) (t : CStmt) : Type 0 where
  pub goes : Goes old new h e k l
  pub code : (site : Site) (env : Environment) → IsPlaced old h kinds a k site env → StmtIsFit env.scope t
      → Reaches new e kinds a b k l site (behind t env) (stmt_code t k.free site env) (stmt_literals env.scope t) (objects_in env.scope t)

-- statements got theirs
pub record CompilesAll (old new : Table) (h e : Here) (kinds : StructKinds) (a b : Emitter) (k l : Block) (ts : CStmts) : Type 0 where
  pub goes : Goes old new h e k l
  pub code : (site : Site) (env : Environment) → IsPlaced old h kinds a k site env → StmtsAreFit env.scope ts
      → Reaches new e kinds a b k l site (behind_all ts env) (stmts_code ts k.free site env) (stmts_literals env.scope ts) (block_objects env.scope ts)

-- a loop behind its head: a test and a step, which may be missing, and a body
pub record Loops (old new : Table) (h e : Here) (kinds : StructKinds) (a b : Emitter) (k l : Block) (test step : Option CExpr) (t : CStmt) : Type 0 where
  pub goes : Goes old new h e k l
  pub code : (site : Site) (env : Environment) → IsPlaced old h kinds a k site env → MaybeIsFit env.scope test → MaybeIsFit env.scope step → StmtIsFit env.scope t → TakesNoSlot t
      → let inner = past_maybe step (past_maybe test env) in
      Reaches new e kinds a b k l site (past_stmt t inner) (loop_code (maybe_test_code test site env) (maybe_effect_code step site (past_maybe test env)) (stmt_code t k.free site inner))
      (maybe_literals env.scope test ++ (maybe_literals env.scope step ++ stmt_literals env.scope t)) []

-- the place behind the parts of a `switch`
abbrev pub behind_parts : CParts → Environment → Environment
behind_parts plain.NoPart here = here
behind_parts (plain.MorePart p ps) here = behind_parts ps (behind_part p here)

-- a part of a `switch` got its code, and the labels are one more where it is one
pub record CompilesPart (old new : Table) (h e : Here) (kinds : StructKinds) (a b : Emitter) (k l : Block) (before after : List rust.Label) (p : CPart) : Type 0 where
  pub goes : Goes old new h e k l
  pub code : (site : Site) (env : Environment) → IsPlaced old h kinds a k site env → PartIsFit env.scope p
      → Reaches new e kinds a b k l site (behind_part p env) (part_code p k.free site env) (part_literals env.scope p) (part_objects env.scope p)
  pub told : (site : Site) (env : Environment) → IsPlaced old h kinds a k site env → PartIsFit env.scope p → labels_of after ≡ labels_of before ++ label_of p env (length a.code)

-- the parts got theirs
pub record CompilesParts (old new : Table) (h e : Here) (kinds : StructKinds) (a b : Emitter) (k l : Block) (labels : List rust.Label) (ps : CParts) : Type 0 where
  pub goes : Goes old new h e k l
  pub code : (site : Site) (env : Environment) → IsPlaced old h kinds a k site env → PartsAreFit env.scope ps
      → Reaches new e kinds a b k l site (behind_parts ps env) (parts_code ps k.free site env) (parts_literals env.scope ps) (parts_objects env.scope ps)
  pub told : (site : Site) (env : Environment) → IsPlaced old h kinds a k site env → PartsAreFit env.scope ps → labels_of labels ≡ labels_in ps k.free site env (length a.code)
