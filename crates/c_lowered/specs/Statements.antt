-- The code of statements. A flow that leaves a statement is a jump: there is nothing to put back.
use Rattle.std.specs.Prelude.{ℕ, suc, ◌+◌, List, [], ◌∷◌, ◌++◌, length, replicate, sum_by, Option, Some, None, if◌then◌else◌}
use Rattle.eir_core.specs.declared.ops.Reg.TheVariants.{A}
use Rattle.eir_core.specs.declared.ops.Cond.TheVariants.{Eq}
use Rattle.eir_core.specs.declared.ops.Op.{Op}
use Rattle.eir_core.specs.declared.ops.Op.TheVariants.{Mov, Jump, JumpIf}
use Rattle.c_syntax.specs.Plain as plain
use Rattle.c_syntax.specs.Plain.{CExpr, CValue, CValues, CDecl, CStmt, CStmts, CPart, CParts}
use Rattle.c_types.specs.Types.{CType, words_of}
use Rattle.c_types.specs.Scope.{entered}
use Rattle.c_types.specs.Declarations.{Slots, first_slot, next_slots, slots_of, takes_string}
use Rattle.c_eval.specs.State.{Cell}
use Rattle.c_eval.specs.Environment.{constant_in, object_type_in, slot_kinds, type_or_nothing, block_objects, parts_objects, Environment, past, past_maybe, past_value, declaring, past_stmt, behind, behind_all, behind_part, in_block}
use Rattle.c_eval.specs.Eval.{array_text}
use Rattle.c_lowered.specs.Locations.{Location, Framed, Linking, located, with_block}
use Rattle.c_lowered.specs.Operations.{constant, store_to, return_code}
use Rattle.c_lowered.specs.Counts.{expr_jumps, truth_jumps, maybe_jumps, maybe_truth_jumps, first_jumps, stmt_jumps, stmts_jumps, case_jumps, part_jumps, parts_jumps}
use Rattle.c_lowered.specs.Expressions.{value_code, effect_code, unless_code, where_code}

-- ---- first values

-- words in a frame from a word of it on
abbrev pub spelled : List ℕ → ℕ → List Op
spelled [] d = []
spelled (c ∷ cs) d = Mov A (constant c) ∷ (store_to (Framed d) ++ spelled cs (suc d))

abbrev mutual
  -- a first value goes to an object at a word of the frame; `free` is the frame's first free word
  pub first_code : CValue → CType → (at : ℕ) → Linking → Environment → ℕ → (free : ℕ) → List Op
  first_code (plain.One e) t at w here k free =
      if takes_string t e then spelled (array_text t e) at else value_code e w here k free ++ store_to (Framed at)
  first_code (plain.Many vs) t at w here k free = firsts_code vs (slots_of here.scope.tags (Some t)) at w here k free

  -- what is missing is 0 or null
  pub firsts_code : CValues → Slots → (at : ℕ) → Linking → Environment → ℕ → (free : ℕ) → List Op
  firsts_code plain.NoValue slots at w here k free = spelled (replicate (length (slot_kinds here.scope.tags slots)) 0) at
  firsts_code (plain.MoreValue v vs) slots at w here k free =
      first_code v (type_or_nothing (first_slot slots)) at w here k free
      ++ firsts_code vs (next_slots slots) (at + words_of here.scope.tags (type_or_nothing (first_slot slots))) w (past_value v here) (k + first_jumps v) free

-- the offset of an object in a frame; a block's objects lie there
abbrev pub offset_in_frame : Location → ℕ
offset_in_frame (Framed n) = n
offset_in_frame _ = 0

abbrev pub declaration_code : CDecl → Option CValue → Linking → Environment → ℕ → ℕ → List Op
declaration_code d None w here k free = []
declaration_code d (Some v) w here k free =
    first_code v (object_type_in here.scope d) (offset_in_frame (located w (Some (Some here.next)))) w (declaring d here) k free

-- ---- statements

-- the blocks to which `break` and `continue` lead
pub record Targets : Type 0 where
  pub broke : ℕ
  pub continued : ℕ

abbrev pub targets : ℕ → ℕ → Targets
targets b c = record { broke = b; continued = c }

abbrev pub jump_to : ℕ → List Op
jump_to k = Jump (constant k) ∷ []

-- a missing condition is true
abbrev pub maybe_unless_code : Option CExpr → Linking → Environment → ℕ → ℕ → ℕ → List Op
maybe_unless_code None w here k d target = []
maybe_unless_code (Some e) w here k d target = unless_code e w here k d target

abbrev pub maybe_effect_code : Option CExpr → Linking → Environment → ℕ → ℕ → List Op
maybe_effect_code None w here k d = []
maybe_effect_code (Some e) w here k d = effect_code e w here k d

abbrev pub returned_code : Option CExpr → Linking → Environment → ℕ → ℕ → List Op
returned_code None w here k d = return_code
returned_code (Some e) w here k d = value_code e w here k d ++ return_code

-- a loop that begins in block k; its condition jumps to a block where it is false, and has s jumps, the body m, and the step n
abbrev pub loop_code : ℕ → (s m n : ℕ) → (test : ℕ → List Op) → (body : Targets → List Op) → (step : List Op) → List Op
loop_code k s m n test body step =
    let again = k + 1 in
    let stepping = again + s + m + 1 in
    let end = stepping + n + 1 in
    jump_to again ++ (test end ++ (body (targets end stepping) ++ (jump_to stepping ++ (step ++ jump_to again))))

-- the loop of a `for` that begins in block k; its head has made this place, and body has the code of the body, by its place and its first block
abbrev pub for_code : ℕ → (test step : Option CExpr) → CStmt → Linking → Environment → ℕ → (body : Environment → ℕ → Targets → List Op) → List Op
for_code k test step t w here d body =
    loop_code k (maybe_truth_jumps test) (stmt_jumps t) (maybe_jumps step) (λ end. maybe_unless_code test w here (k + 1) d end)
    (body (past_maybe step (past_maybe test here)) (k + 1 + maybe_truth_jumps test))
    (maybe_effect_code step w (past_maybe test here) (k + 1 + maybe_truth_jumps test + stmt_jumps t + 1) d)

-- the words of a block's objects
abbrev pub words_in : List (List Cell) → ℕ
words_in objects = sum_by length objects

-- ---- switch

-- the comparisons with the words of the labels; the parts begin in block k
abbrev pub cases_code : CParts → Environment → ℕ → List Op
cases_code plain.NoPart here k = []
cases_code (plain.MorePart (plain.Label at (Some e)) ps) here k =
    JumpIf Eq (constant (k + 1)) A (constant (constant_in here.scope e)) ∷ cases_code ps (behind_part (plain.Label at (Some e)) here) (k + 1)
cases_code (plain.MorePart p ps) here k = cases_code ps (behind_part p here) (k + part_jumps p)

-- the block of the default, or else that behind the parts
abbrev pub default_block : CParts → ℕ → ℕ → ℕ
default_block plain.NoPart k end = end
default_block (plain.MorePart (plain.Label at None) ps) k end = k + 1
default_block (plain.MorePart p ps) k end = default_block ps (k + part_jumps p) end

abbrev mutual
  -- it begins in block k; d is the frame's first free word
  pub stmt_code : CStmt → Linking → Environment → ℕ → ℕ → Targets → List Op
  stmt_code (plain.Block ss) w here k d to =
      let objects = block_objects (entered here.scope) ss in
      stmts_code ss (with_block objects d w) (in_block (length w.bases) here) k (d + words_in objects) to
  stmt_code (plain.Local decl) w here k d to = declaration_code decl decl.first w here k d
  stmt_code (plain.Do_expr e) w here k d to = effect_code e w here k d
  stmt_code plain.Empty w here k d to = []
  stmt_code (plain.If e t) w here k d to =
      let end = k + truth_jumps e + stmt_jumps t + 1 in
      unless_code e w here k d end ++ (stmt_code t w (past e here) (k + truth_jumps e) d to ++ jump_to end)
  stmt_code (plain.IfElse e t u) w here k d to =
      let other = k + truth_jumps e + stmt_jumps t + 1 in
      let end = other + stmt_jumps u + 1 in
      unless_code e w here k d other
      ++ (stmt_code t w (past e here) (k + truth_jumps e) d to ++ (jump_to end ++ (stmt_code u w (past_stmt t (past e here)) other d to ++ jump_to end)))
  stmt_code (plain.While e t) w here k d to =
      let again = k + 1 in
      let end = again + truth_jumps e + stmt_jumps t + 1 in
      jump_to again ++ (unless_code e w here again d end ++ (stmt_code t w (past e here) (again + truth_jumps e) d (targets end again) ++ jump_to again))
  stmt_code (plain.Do t e) w here k d to =
      let body = k + 1 in
      let test = body + stmt_jumps t + 1 in
      let end = test + truth_jumps e in
      jump_to body ++ (stmt_code t w here body d (targets end test) ++ (jump_to test ++ where_code e w (past_stmt t here) test d body))
  -- the declarations in a head live for the whole `for`
  stmt_code (plain.For (plain.Block ss) test step t) w here k d to =
      let objects = block_objects (entered here.scope) ss in
      let free = d + words_in objects in
      stmts_code ss (with_block objects d w) (in_block (length w.bases) here) k free to
      ++ for_code (k + stmts_jumps ss) test step t (with_block objects d w) (behind_all ss (in_block (length w.bases) here)) free
      (λ inner first around. stmt_code t (with_block objects d w) inner first free around)
  stmt_code (plain.For start test step t) w here k d to =
      stmt_code start w here k d to ++ for_code (k + stmt_jumps start) test step t w (behind start here) d (λ inner first around. stmt_code t w inner first d around)
  stmt_code (plain.Return at e) w here k d to = returned_code e w here k d
  stmt_code (plain.Break at) w here k d to = jump_to to.broke
  stmt_code (plain.Continue at) w here k d to = jump_to to.continued
  stmt_code (plain.Switch e ps) w here k d to =
      let objects = parts_objects (entered here.scope) ps in
      let inner = in_block (length w.bases) (past e here) in
      let first = k + expr_jumps e + case_jumps ps + 1 in
      let end = first + parts_jumps ps + 1 in
      value_code e w here k d
      ++ (cases_code ps inner first ++ (jump_to (default_block ps first end)
      ++ (parts_code ps (with_block objects d w) inner first (d + words_in objects) (targets end to.continued) ++ jump_to end)))

  pub stmts_code : CStmts → Linking → Environment → ℕ → ℕ → Targets → List Op
  stmts_code plain.NoStmt w here k d to = []
  stmts_code (plain.MoreStmt t ts) w here k d to = stmt_code t w here k d to ++ stmts_code ts w (behind t here) (k + stmt_jumps t) d to

  pub part_code : CPart → Linking → Environment → ℕ → ℕ → Targets → List Op
  part_code (plain.Label at e) w here k d to = jump_to (k + 1)
  part_code (plain.Item t) w here k d to = stmt_code t w here k d to

  pub parts_code : CParts → Linking → Environment → ℕ → ℕ → Targets → List Op
  parts_code plain.NoPart w here k d to = []
  parts_code (plain.MorePart p ps) w here k d to = part_code p w here k d to ++ parts_code ps w (behind_part p here) (k + part_jumps p) d to
