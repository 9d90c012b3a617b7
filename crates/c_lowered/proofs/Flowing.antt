-- The jumps of the code of statements.
use Rattle.std.proofs.Common.{◌≡◌, ℕ, suc, ◌+◌, Bool, true, false, List, [], ◌∷◌, ◌++◌, length, Option, Some, None, refl, sym, arith, if◌then◌else◌}
use Rattle.eir_core.specs.declared.ops.Op.{Op}
use Rattle.c_syntax.specs.Plain.{CExpr, Number, Str, Null, Var, Unary, Step, Binary, Assign, Cond, Comma, Cast, SizeTy, SizeOf, Index, Call, Member, Arrow, CValue, One, Many, CValues, NoValue, MoreValue, CDecl, CStmt, Block, Local, Do_expr, Empty, If, IfElse, While, Do, For, Return, Break, Continue, Switch, CStmts, NoStmt, MoreStmt, CPart, Label, Item, CParts, NoPart, MorePart}
use Rattle.c_syntax.specs.declared.tree.StepOp.TheVariants as step
use Rattle.c_types.specs.Types as type
use Rattle.c_types.specs.Types.{CType, words_of}
use Rattle.c_types.specs.Scope.{entered}
use Rattle.c_types.specs.Declarations.{Slots, first_slot, next_slots, slots_of, takes_string}
use Rattle.c_eval.specs.Environment.{Environment, object_type_in, type_or_nothing, block_objects, past, past_maybe, past_value, declaring, past_stmt, behind, behind_all, behind_part, in_block}
use Rattle.c_eval.specs.Eval.{array_text}
use Rattle.c_lowered.specs.Locations.{Framed, Linking, with_block}
use Rattle.c_lowered.specs.Operations.{store_to}
use Rattle.c_lowered.specs.Counts.{expr_jumps, truth_jumps, maybe_jumps, maybe_truth_jumps, first_jumps, firsts_jumps, maybe_first_jumps, case_jumps, stmt_jumps, stmts_jumps, part_jumps, parts_jumps}
use Rattle.c_lowered.specs.Expressions.{value_code, unused, effect_code, unless_code, where_code}
use Rattle.c_lowered.specs.Statements.{spelled, first_code, firsts_code, declaration_code, Targets, targets, jump_to, maybe_unless_code, maybe_effect_code, returned_code, loop_code, for_code, words_in, cases_code, stmt_code, stmts_code, part_code, parts_code}
use Rattle.c_lowered.proofs.Quiet.{HasJumps, exactly, the_same, and_quiet, quiet_and, and_then, jump_and, other_and}
use Rattle.c_lowered.proofs.Jumping.{value_jumps, truth_jumps_are}

-- ---- first values

spelled_jumps : (cs : List ℕ) (d : ℕ) → HasJumps (spelled cs d) 0
spelled_jumps [] d = exactly refl
spelled_jumps (c ∷ cs) d = other_and refl (quiet_and {xs = store_to (Framed d)} (exactly refl) (spelled_jumps cs (suc d)))

-- a string that is spelled
string_form : (t : CType) (n : ℕ) (e : CExpr) → takes_string (type.Array t n) e ≡ true → expr_jumps e ≡ 0
string_form t n (Str at text) h = refl
string_form t n (Number at m u) h = absurd (cc h)
string_form t n (Null at) h = absurd (cc h)
string_form t n (Var at name) h = absurd (cc h)
string_form t n (SizeTy at y) h = absurd (cc h)
string_form t n (SizeOf at a) h = absurd (cc h)
string_form t n (Unary at op a) h = absurd (cc h)
string_form t n (Binary at op a b) h = absurd (cc h)
string_form t n (Assign at op a b) h = absurd (cc h)
string_form t n (Cond at a b c) h = absurd (cc h)
string_form t n (Comma at a b) h = absurd (cc h)
string_form t n (Cast at y a) h = absurd (cc h)
string_form t n (Index at a b) h = absurd (cc h)
string_form t n (Call at f es) h = absurd (cc h)
string_form t n (Member at a m) h = absurd (cc h)
string_form t n (Arrow at a m) h = absurd (cc h)
string_form t n (Step at op a) h = absurd (cc h)

string_is_quiet : (t : CType) (e : CExpr) → takes_string t e ≡ true → expr_jumps e ≡ 0
string_is_quiet (type.Array t n) e h = string_form t n e h
string_is_quiet type.Void e h = absurd (cc h)
string_is_quiet type.Int e h = absurd (cc h)
string_is_quiet type.Unsigned e h = absurd (cc h)
string_is_quiet type.Char e h = absurd (cc h)
string_is_quiet type.UChar e h = absurd (cc h)
string_is_quiet type.Null e h = absurd (cc h)
string_is_quiet (type.Struct tag) e h = absurd (cc h)
string_is_quiet (type.Pointer t) e h = absurd (cc h)
string_is_quiet (type.Function t ts) e h = absurd (cc h)

mutual
  first_jumps_are : (v : CValue) (t : CType) (at : ℕ) (w : Linking) (here : Environment) (k free : ℕ) → HasJumps (first_code v t at w here k free) (first_jumps v)
  first_jumps_are (One e) t at w here k free = by (takes_string t e) refl
    where
      by : (b : Bool) → takes_string t e ≡ b → HasJumps (if b then spelled (array_text t e) at else value_code e w here k free ++ store_to (Framed at)) (expr_jumps e)
      by true h = the_same (spelled_jumps (array_text t e) at) (sym (string_is_quiet t e h))
      by false h = and_quiet {ys = store_to (Framed at)} (value_jumps e w here k free) (exactly refl)
  first_jumps_are (Many vs) t at w here k free = firsts_jumps_are vs (slots_of here.scope.tags (Some t)) at w here k free

  firsts_jumps_are : (vs : CValues) (slots : Slots) (at : ℕ) (w : Linking) (here : Environment) (k free : ℕ) → HasJumps (firsts_code vs slots at w here k free) (firsts_jumps vs)
  firsts_jumps_are NoValue slots at w here k free = spelled_jumps _ at
  firsts_jumps_are (MoreValue v vs) slots at w here k free =
      and_then (first_jumps_are v (type_or_nothing (first_slot slots)) at w here k free)
      (firsts_jumps_are vs (next_slots slots) (at + words_of here.scope.tags (type_or_nothing (first_slot slots))) w (past_value v here) (k + first_jumps v) free)

declaration_jumps : (decl : CDecl) (v : Option CValue) (w : Linking) (here : Environment) (k free : ℕ) → HasJumps (declaration_code decl v w here k free) (maybe_first_jumps v)
declaration_jumps decl None w here k free = exactly refl
declaration_jumps decl (Some v) w here k free = first_jumps_are v (object_type_in here.scope decl) _ w (declaring decl here) k free

-- ---- parts of statements

unused_jumps : (e : CExpr) → expr_jumps (unused e) ≡ expr_jumps e
unused_jumps (Number at n u) = refl
unused_jumps (Str at text) = refl
unused_jumps (Null at) = refl
unused_jumps (Var at name) = refl
unused_jumps (SizeTy at t) = refl
unused_jumps (SizeOf at a) = refl
unused_jumps (Unary at op a) = refl
unused_jumps (Binary at op a b) = refl
unused_jumps (Assign at op a b) = refl
unused_jumps (Cond at a b c) = refl
unused_jumps (Comma at a b) = refl
unused_jumps (Cast at t a) = refl
unused_jumps (Index at a b) = refl
unused_jumps (Call at f es) = refl
unused_jumps (Member at a m) = refl
unused_jumps (Arrow at a m) = refl
unused_jumps (Step at step.PreInc a) = refl
unused_jumps (Step at step.PreDec a) = refl
unused_jumps (Step at step.PostInc a) = refl
unused_jumps (Step at step.PostDec a) = refl

effect_jumps : (e : CExpr) (w : Linking) (here : Environment) (k d : ℕ) → HasJumps (effect_code e w here k d) (expr_jumps e)
effect_jumps e w here k d = the_same (value_jumps (unused e) w here k d) (unused_jumps e)

unless_jumps : (e : CExpr) (w : Linking) (here : Environment) (k d target : ℕ) → HasJumps (unless_code e w here k d target) (truth_jumps e)
unless_jumps e w here k d target = truth_jumps_are e w here k d (value_code e w here k d) (value_jumps e w here k d) false target

where_jumps : (e : CExpr) (w : Linking) (here : Environment) (k d target : ℕ) → HasJumps (where_code e w here k d target) (truth_jumps e)
where_jumps e w here k d target = truth_jumps_are e w here k d (value_code e w here k d) (value_jumps e w here k d) true target

maybe_unless_jumps : (e : Option CExpr) (w : Linking) (here : Environment) (k d target : ℕ) → HasJumps (maybe_unless_code e w here k d target) (maybe_truth_jumps e)
maybe_unless_jumps None w here k d target = exactly refl
maybe_unless_jumps (Some e) w here k d target = unless_jumps e w here k d target

maybe_effect_jumps : (e : Option CExpr) (w : Linking) (here : Environment) (k d : ℕ) → HasJumps (maybe_effect_code e w here k d) (maybe_jumps e)
maybe_effect_jumps None w here k d = exactly refl
maybe_effect_jumps (Some e) w here k d = effect_jumps e w here k d

returned_jumps : (e : Option CExpr) (w : Linking) (here : Environment) (k d : ℕ) → HasJumps (returned_code e w here k d) (maybe_jumps e + 1)
returned_jumps None w here k d = exactly refl
returned_jumps (Some e) w here k d = and_then {n = 1} (value_jumps e w here k d) (exactly refl)

to_block : (k : ℕ) → HasJumps (jump_to k) 1
to_block k = exactly refl

loop_jumps : (k s m n : ℕ) (test : ℕ → List Op) (body : Targets → List Op) (again : List Op) → ((i : ℕ) → HasJumps (test i) s) → ((around : Targets) → HasJumps (body around) m) → HasJumps again n
    → HasJumps (loop_code k s m n test body again) (s + m + n + 3)
loop_jumps k s m n test body again ht hb hs =
    the_same (and_then (to_block (k + 1)) (and_then (ht (k + 1 + s + m + 1 + n + 1)) (and_then (hb (targets (k + 1 + s + m + 1 + n + 1) (k + 1 + s + m + 1))) (and_then (to_block (k + 1 + s + m + 1)) (and_then hs (to_block (k + 1))))))) (omega arith)

for_jumps : (k : ℕ) (test again : Option CExpr) (t : CStmt) (w : Linking) (here : Environment) (d : ℕ) (body : Environment → ℕ → Targets → List Op) → ((inner : Environment) (i : ℕ) (around : Targets) → HasJumps (body inner i around) (stmt_jumps t))
    → HasJumps (for_code k test again t w here d body) (maybe_truth_jumps test + stmt_jumps t + maybe_jumps again + 3)
for_jumps k test again t w here d body hb =
    loop_jumps k (maybe_truth_jumps test) (stmt_jumps t) (maybe_jumps again) (λ end. maybe_unless_code test w here (k + 1) d end) (body (past_maybe again (past_maybe test here)) (k + 1 + maybe_truth_jumps test))
    (maybe_effect_code again w (past_maybe test here) (k + 1 + maybe_truth_jumps test + stmt_jumps t + 1) d)
    (λ i. maybe_unless_jumps test w here (k + 1) d i) (λ around. hb (past_maybe again (past_maybe test here)) (k + 1 + maybe_truth_jumps test) around) (maybe_effect_jumps again w (past_maybe test here) (k + 1 + maybe_truth_jumps test + stmt_jumps t + 1) d)

cases_jumps : (ps : CParts) (here : Environment) (k : ℕ) → HasJumps (cases_code ps here k) (case_jumps ps)
cases_jumps NoPart here k = exactly refl
cases_jumps (MorePart (Label at (Some e)) ps) here k = jump_and refl (cases_jumps ps (behind_part (Label at (Some e)) here) (k + 1))
cases_jumps (MorePart (Label at None) ps) here k = cases_jumps ps (behind_part (Label at None) here) (k + 1)
cases_jumps (MorePart (Item t) ps) here k = cases_jumps ps (behind_part (Item t) here) (k + stmt_jumps t)

mutual
  pub stmt_jumps_are : (t : CStmt) (w : Linking) (here : Environment) (k d : ℕ) (to : Targets) → HasJumps (stmt_code t w here k d to) (stmt_jumps t)
  stmt_jumps_are (Block ss) w here k d to = stmts_jumps_are ss _ _ k _ to
  stmt_jumps_are (Local decl) w here k d to = declaration_jumps decl decl.first w here k d
  stmt_jumps_are (Do_expr e) w here k d to = effect_jumps e w here k d
  stmt_jumps_are Empty w here k d to = exactly refl
  stmt_jumps_are (If e t) w here k d to =
      the_same (and_then (unless_jumps e w here k d _) (and_then (stmt_jumps_are t w (past e here) (k + truth_jumps e) d to) (to_block _))) (omega arith)
  stmt_jumps_are (IfElse e t u) w here k d to =
      the_same (and_then (unless_jumps e w here k d _) (and_then (stmt_jumps_are t w (past e here) (k + truth_jumps e) d to) (and_then (to_block _) (and_then (stmt_jumps_are u w (past_stmt t (past e here)) (k + truth_jumps e + stmt_jumps t + 1) d to) (to_block _))))) (omega arith)
  stmt_jumps_are (While e t) w here k d to =
      the_same (and_then (to_block _) (and_then (unless_jumps e w here (k + 1) d _) (and_then (stmt_jumps_are t w (past e here) (k + 1 + truth_jumps e) d _) (to_block _)))) (omega arith)
  stmt_jumps_are (Do t e) w here k d to =
      the_same (and_then (to_block _) (and_then (stmt_jumps_are t w here (k + 1) d _) (and_then (to_block _) (where_jumps e w (past_stmt t here) (k + 1 + stmt_jumps t + 1) d _)))) (omega arith)
  stmt_jumps_are (For (Block ss) test again t) w here k d to =
      let objects = block_objects (entered here.scope) ss in
      let free = d + words_in objects in
      the_same (and_then (stmts_jumps_are ss (with_block objects d w) (in_block (length w.bases) here) k free to)
      (for_jumps (k + stmts_jumps ss) test again t (with_block objects d w) (behind_all ss (in_block (length w.bases) here)) free (λ inner first around. stmt_code t (with_block objects d w) inner first free around)
      (λ inner i around. stmt_jumps_are t (with_block objects d w) inner i free around))) (omega arith)
  stmt_jumps_are (For (Local x) test again t) w here k d to =
      the_same (and_then (stmt_jumps_are (Local x) w here k d to) (for_jumps (k + stmt_jumps (Local x)) test again t w (behind (Local x) here) d (λ inner first around. stmt_code t w inner first d around) (λ inner i around. stmt_jumps_are t w inner i d around))) (omega arith)
  stmt_jumps_are (For (Do_expr x) test again t) w here k d to =
      the_same (and_then (stmt_jumps_are (Do_expr x) w here k d to) (for_jumps (k + stmt_jumps (Do_expr x)) test again t w (behind (Do_expr x) here) d (λ inner first around. stmt_code t w inner first d around) (λ inner i around. stmt_jumps_are t w inner i d around))) (omega arith)
  stmt_jumps_are (For Empty test again t) w here k d to =
      the_same (and_then (stmt_jumps_are Empty w here k d to) (for_jumps (k + stmt_jumps Empty) test again t w (behind Empty here) d (λ inner first around. stmt_code t w inner first d around) (λ inner i around. stmt_jumps_are t w inner i d around))) (omega arith)
  stmt_jumps_are (For (If x y) test again t) w here k d to =
      the_same (and_then (stmt_jumps_are (If x y) w here k d to) (for_jumps (k + stmt_jumps (If x y)) test again t w (behind (If x y) here) d (λ inner first around. stmt_code t w inner first d around) (λ inner i around. stmt_jumps_are t w inner i d around))) (omega arith)
  stmt_jumps_are (For (IfElse x y z) test again t) w here k d to =
      the_same (and_then (stmt_jumps_are (IfElse x y z) w here k d to) (for_jumps (k + stmt_jumps (IfElse x y z)) test again t w (behind (IfElse x y z) here) d (λ inner first around. stmt_code t w inner first d around) (λ inner i around. stmt_jumps_are t w inner i d around))) (omega arith)
  stmt_jumps_are (For (While x y) test again t) w here k d to =
      the_same (and_then (stmt_jumps_are (While x y) w here k d to) (for_jumps (k + stmt_jumps (While x y)) test again t w (behind (While x y) here) d (λ inner first around. stmt_code t w inner first d around) (λ inner i around. stmt_jumps_are t w inner i d around))) (omega arith)
  stmt_jumps_are (For (Do x y) test again t) w here k d to =
      the_same (and_then (stmt_jumps_are (Do x y) w here k d to) (for_jumps (k + stmt_jumps (Do x y)) test again t w (behind (Do x y) here) d (λ inner first around. stmt_code t w inner first d around) (λ inner i around. stmt_jumps_are t w inner i d around))) (omega arith)
  stmt_jumps_are (For (For x y z u) test again t) w here k d to =
      the_same (and_then (stmt_jumps_are (For x y z u) w here k d to) (for_jumps (k + stmt_jumps (For x y z u)) test again t w (behind (For x y z u) here) d (λ inner first around. stmt_code t w inner first d around) (λ inner i around. stmt_jumps_are t w inner i d around))) (omega arith)
  stmt_jumps_are (For (Return x y) test again t) w here k d to =
      the_same (and_then (stmt_jumps_are (Return x y) w here k d to) (for_jumps (k + stmt_jumps (Return x y)) test again t w (behind (Return x y) here) d (λ inner first around. stmt_code t w inner first d around) (λ inner i around. stmt_jumps_are t w inner i d around))) (omega arith)
  stmt_jumps_are (For (Break x) test again t) w here k d to =
      the_same (and_then (stmt_jumps_are (Break x) w here k d to) (for_jumps (k + stmt_jumps (Break x)) test again t w (behind (Break x) here) d (λ inner first around. stmt_code t w inner first d around) (λ inner i around. stmt_jumps_are t w inner i d around))) (omega arith)
  stmt_jumps_are (For (Continue x) test again t) w here k d to =
      the_same (and_then (stmt_jumps_are (Continue x) w here k d to) (for_jumps (k + stmt_jumps (Continue x)) test again t w (behind (Continue x) here) d (λ inner first around. stmt_code t w inner first d around) (λ inner i around. stmt_jumps_are t w inner i d around))) (omega arith)
  stmt_jumps_are (For (Switch x y) test again t) w here k d to =
      the_same (and_then (stmt_jumps_are (Switch x y) w here k d to) (for_jumps (k + stmt_jumps (Switch x y)) test again t w (behind (Switch x y) here) d (λ inner first around. stmt_code t w inner first d around) (λ inner i around. stmt_jumps_are t w inner i d around))) (omega arith)
  stmt_jumps_are (Return at e) w here k d to = returned_jumps e w here k d
  stmt_jumps_are (Break at) w here k d to = exactly refl
  stmt_jumps_are (Continue at) w here k d to = exactly refl
  stmt_jumps_are (Switch e ps) w here k d to =
      the_same (and_then (value_jumps e w here k d) (and_then (cases_jumps ps _ _) (and_then (to_block _) (and_then (parts_jumps_are ps _ _ _ _ _) (to_block _))))) (omega arith)

  stmts_jumps_are : (ts : CStmts) (w : Linking) (here : Environment) (k d : ℕ) (to : Targets) → HasJumps (stmts_code ts w here k d to) (stmts_jumps ts)
  stmts_jumps_are NoStmt w here k d to = exactly refl
  stmts_jumps_are (MoreStmt t ts) w here k d to = and_then (stmt_jumps_are t w here k d to) (stmts_jumps_are ts w (behind t here) (k + stmt_jumps t) d to)

  part_jumps_are : (p : CPart) (w : Linking) (here : Environment) (k d : ℕ) (to : Targets) → HasJumps (part_code p w here k d to) (part_jumps p)
  part_jumps_are (Label at e) w here k d to = exactly refl
  part_jumps_are (Item t) w here k d to = stmt_jumps_are t w here k d to

  parts_jumps_are : (ps : CParts) (w : Linking) (here : Environment) (k d : ℕ) (to : Targets) → HasJumps (parts_code ps w here k d to) (parts_jumps ps)
  parts_jumps_are NoPart w here k d to = exactly refl
  parts_jumps_are (MorePart p ps) w here k d to = and_then (part_jumps_are p w here k d to) (parts_jumps_are ps w (behind_part p here) (k + part_jumps p) d to)
