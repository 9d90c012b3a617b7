-- How many objects blocks have.
use Rattle.std.proofs.Common.{◌≡◌, ◌+◌, ℕ, List, [], ◌∷◌, ◌++◌, length, map, refl, sym, ◌∙◌, arith, length-append}
use Rattle.c_syntax.specs.Plain as plain
use Rattle.c_syntax.specs.Plain.{CStmt, CStmts, CPart, CParts, stmts, parts}
use Rattle.c_syntax.specs.View.{stmt_of, part_of}
use Rattle.c_syntax.specs.declared.tree.Stmt.{Stmt}
use Rattle.c_syntax.specs.declared.tree.Part.{Part}
use Rattle.c_types.specs.Scope.{Scope}
use Rattle.c_types.specs.Census.{scope_behind, scope_behind_part}
use Rattle.c_eval.specs.Environment.{objects_in, block_objects, part_objects, parts_objects}
use Rattle.c_code.specs.Code.{slots_for, slots_for_all, slots_for_part, slots_for_parts}
use Rattle.c_fitting.specs.Whole.{StmtIsFit, StmtsAreFit, PartIsFit, PartsAreFit}
use Rattle.c_blocks.specs.Counts.{declares, part_declares, one_if, count_in, is_local, is_local_part}

-- what takes a slot is a declaration
slot_counted : (s : Scope) (t : CStmt) → StmtIsFit s t → slots_for t ≡ one_if (declares t)
slot_counted s (plain.Local d) fit = refl
slot_counted s (plain.If e t) fit = fit.2
slot_counted s (plain.IfElse e t u) fit = omega (arith, fit.1.1, fit.2.1)
slot_counted s (plain.While e t) fit = fit.2
slot_counted s (plain.Do t e) fit = fit.0.1
slot_counted s (plain.For (plain.Block ss) test step t) fit = refl
slot_counted s (plain.For plain.Empty test step t) fit = omega (arith, fit.3.1)
slot_counted s (plain.For first test step t) fit = omega (arith, fit.0.1, fit.3.1)
slot_counted s plain.Empty fit = refl
slot_counted s _ fit = refl

pub slots_counted : (s : Scope) (ts : List Stmt) → StmtsAreFit s (stmts (map stmt_of ts)) → slots_for_all (stmts (map stmt_of ts)) ≡ count_in is_local ts
unfolding is_local
slots_counted s [] fit = refl
slots_counted s (t ∷ ts) fit =
    let one : slots_for (stmt_of t) ≡ one_if (declares (stmt_of t)) = slot_counted s (stmt_of t) fit.0 in
    let rest : slots_for_all (stmts (map stmt_of ts)) ≡ count_in is_local ts = slots_counted (scope_behind s (stmt_of t)) ts fit.1 in
    omega (arith, one, rest)

object_counted : (s : Scope) (t : CStmt) → length (objects_in s t) ≡ one_if (declares t)
object_counted s (plain.Local d) = refl
object_counted s plain.Empty = refl
object_counted s _ = refl

pub objects_counted : (s : Scope) (ts : CStmts) → StmtsAreFit s ts → length (block_objects s ts) ≡ slots_for_all ts
objects_counted s plain.NoStmt fit = refl
objects_counted s (plain.MoreStmt t ts) fit =
    let one : length (objects_in s t) ≡ one_if (declares t) = object_counted s t in
    let slot : slots_for t ≡ one_if (declares t) = slot_counted s t fit.0 in
    let rest : length (block_objects (scope_behind s t) ts) ≡ slots_for_all ts = objects_counted (scope_behind s t) ts fit.1 in
    let all = length-append (objects_in s t) (block_objects (scope_behind s t) ts) in
    omega (arith, one, slot, rest, all)

-- ---- parts of a `switch`

part_counted : (s : Scope) (p : CPart) → PartIsFit s p → slots_for_part p ≡ one_if (part_declares p)
part_counted s (plain.Label at e) fit = refl
part_counted s (plain.Item t) fit = slot_counted s t fit

pub parts_counted : (s : Scope) (ps : List Part) → PartsAreFit s (parts (map part_of ps)) → slots_for_parts (parts (map part_of ps)) ≡ count_in is_local_part ps
unfolding is_local_part
parts_counted s [] fit = refl
parts_counted s (p ∷ ps) fit =
    let one : slots_for_part (part_of p) ≡ one_if (part_declares (part_of p)) = part_counted s (part_of p) fit.0 in
    let rest : slots_for_parts (parts (map part_of ps)) ≡ count_in is_local_part ps = parts_counted (scope_behind_part s (part_of p)) ps fit.1 in
    omega (arith, one, rest)

part_object_counted : (s : Scope) (p : CPart) → length (part_objects s p) ≡ one_if (part_declares p)
part_object_counted s (plain.Label at e) = refl
part_object_counted s (plain.Item t) = object_counted s t

pub parts_objects_counted : (s : Scope) (ps : CParts) → PartsAreFit s ps → length (parts_objects s ps) ≡ slots_for_parts ps
parts_objects_counted s plain.NoPart fit = refl
parts_objects_counted s (plain.MorePart p ps) fit =
    let one : length (part_objects s p) ≡ one_if (part_declares p) = part_object_counted s p in
    let slot : slots_for_part p ≡ one_if (part_declares p) = part_counted s p fit.0 in
    let rest : length (parts_objects (scope_behind_part s p) ps) ≡ slots_for_parts ps = parts_objects_counted (scope_behind_part s p) ps fit.1 in
    let all = length-append (part_objects s p) (parts_objects (scope_behind_part s p) ps) in
    omega (arith, one, slot, rest, all)
