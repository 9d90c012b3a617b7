-- How long the code of statements is, and that it fits the cost.
use Rattle.std.proofs.Common.{◌≡◌, ℕ, suc, ◌+◌, ◌*◌, ◌≤◌, Bool, true, false, List, [], ◌∷◌, ◌++◌, length, Option, Some, None, refl, ap, ◌∙◌, arith, length-append, if◌then◌else◌}
use Rattle.std.specs.Prelude.{replicate}
use Rattle.std.proofs.lemmas.List.{length-replicate}
use Rattle.eir_core.specs.declared.ops.Op.{Op}
use Rattle.c_syntax.specs.Plain.{CExpr, Number, Str, Null, Var, Unary, Step, Binary, Assign, Cond, Comma, Cast, SizeTy, SizeOf, Index, Call, Member, Arrow, CValue, One, Many, CValues, NoValue, MoreValue, CDecl, CStmt, Block, Local, Do_expr, Empty, If, IfElse, While, Do, For, Return, Break, Continue, Switch, CStmts, NoStmt, MoreStmt, CPart, Label, Item, CParts, NoPart, MorePart}
use Rattle.c_syntax.specs.declared.tree.StepOp.TheVariants as step
use Rattle.c_types.specs.Types.{CType, words_of}
use Rattle.c_types.specs.Scope.{Scope, entered}
use Rattle.c_types.specs.Declarations.{Slots, first_slot, next_slots, slots_of, takes_string}
use Rattle.c_types.specs.Census.{scope_behind, scope_behind_all, scope_behind_part}
use Rattle.c_eval.specs.Environment.{Environment, object_type_in, slot_kinds, type_or_nothing, block_objects, parts_objects, past, past_maybe, past_value, past_first, declaring, past_stmt, behind, behind_all, behind_part, in_block}
use Rattle.c_eval.specs.Eval.{array_text}
use Rattle.c_helpers.specs.Cost.{cost_of, value_cost, values_cost, maybe_cost, first_cost, stmt_cost, stmts_cost, parts_cost}
use Rattle.c_lowered.specs.Locations.{Framed, Linking, located, with_block}
use Rattle.c_lowered.specs.Operations.{store_to}
use Rattle.c_lowered.specs.Counts.{expr_jumps, truth_jumps, maybe_jumps, maybe_truth_jumps, first_jumps, firsts_jumps, maybe_first_jumps, case_jumps, stmt_jumps, stmts_jumps, part_jumps, parts_jumps}
use Rattle.c_lowered.specs.Expressions.{value_code, unused, effect_code, unless_code, where_code}
use Rattle.c_lowered.specs.Statements.{offset_in_frame, spelled, first_code, firsts_code, declaration_code, Targets, targets, jump_to, maybe_unless_code, maybe_effect_code, returned_code, for_code, words_in, cases_code, stmt_code, stmts_code, part_code, parts_code}
use Rattle.c_stated.specs.Counts.{expr_ops, first_words, firsts_words, declared_words, stmt_words, stmts_words, part_words, parts_words}
use Rattle.c_stated.proofs.CostsValues.{value_most, truth_most, value_fits, truth_fits}

-- code with so many jumps has room in a cost: its operations and the jumps are at most this
pub record Fits (ops : List Op) (jumps cost : ℕ) : Type 0 where
  pub room : length ops + jumps ≤ cost

fits_both : {xs ys : List Op} {i j m n : ℕ} → Fits xs i m → Fits ys j n → Fits (xs ++ ys) (i + j) (m + n)
fits_both {xs} {ys} hx hy = record { room = omega (arith, length-append xs ys, hx.room, hy.room) }

looser : {ops : List Op} {i j m n : ℕ} → Fits ops i m → i ≡ j → m ≤ n → Fits ops j n
looser h e le = record { room = omega (arith, h.room, e, le) }

no_more : {ops : List Op} {i m n : ℕ} → Fits ops i m → m ≤ n → Fits ops i n
no_more h le = record { room = omega (arith, h.room, le) }

-- ---- first values

spelled_length : (cs : List ℕ) (d : ℕ) → length (spelled cs d) ≡ 4 * length cs
spelled_length [] d = refl
spelled_length (c ∷ cs) d = omega (arith, spelled_length cs (suc d))

mutual
  first_fits : (v : CValue) (t : CType) (at : ℕ) (w : Linking) (here : Environment) (k free : ℕ) → length (first_code v t at w here k free) + first_jumps v ≤ value_cost v + 4 * first_words here.scope t v
  first_fits (One e) t at w here k free = by (takes_string t e)
    where
      by : (b : Bool) → length (if b then spelled (array_text t e) at else value_code e w here k free ++ store_to (Framed at)) + expr_jumps e ≤ 4 + cost_of e + 4 * (if b then length (array_text t e) else 0)
      by true = omega (arith, spelled_length (array_text t e) at, value_fits e)
      by false = omega (arith, length-append (value_code e w here k free) (store_to (Framed at)), (value_most e w here k free).bound, value_fits e)
  first_fits (Many vs) t at w here k free = omega (arith, firsts_fit vs (slots_of here.scope.tags (Some t)) at w here k free)

  firsts_fit : (vs : CValues) (slots : Slots) (at : ℕ) (w : Linking) (here : Environment) (k free : ℕ) → length (firsts_code vs slots at w here k free) + firsts_jumps vs ≤ values_cost vs + 4 * firsts_words here.scope slots vs
  firsts_fit NoValue slots at w here k free = omega (arith, spelled_length (replicate (length (slot_kinds here.scope.tags slots)) 0) at, length-replicate {A = ℕ} (length (slot_kinds here.scope.tags slots)) 0)
  firsts_fit (MoreValue v vs) slots at w here k free =
      omega (
        arith,
        length-append (first_code v (type_or_nothing (first_slot slots)) at w here k free) (firsts_code vs (next_slots slots) (at + words_of here.scope.tags (type_or_nothing (first_slot slots))) w (past_value v here) (k + first_jumps v) free),
        first_fits v (type_or_nothing (first_slot slots)) at w here k free,
        firsts_fit vs (next_slots slots) (at + words_of here.scope.tags (type_or_nothing (first_slot slots))) w (past_value v here) (k + first_jumps v) free,
      )

declaration_fits : (decl : CDecl) (v : Option CValue) (w : Linking) (here : Environment) (k free : ℕ) → Fits (declaration_code decl v w here k free) (maybe_first_jumps v) (4 + first_cost v + 4 * declared_words here.scope decl v)
declaration_fits decl None w here k free = record { room = omega arith }
declaration_fits decl (Some v) w here k free = record { room = omega (arith, first_fits v (object_type_in here.scope decl) (offset_in_frame (located w (Some (Some here.next)))) w (declaring decl here) k free) }

-- ---- parts of statements

unused_ops : (e : CExpr) → expr_ops (unused e) ≡ expr_ops e
unused_ops (Number at n u) = refl
unused_ops (Str at text) = refl
unused_ops (Null at) = refl
unused_ops (Var at name) = refl
unused_ops (SizeTy at t) = refl
unused_ops (SizeOf at a) = refl
unused_ops (Unary at op a) = refl
unused_ops (Binary at op a b) = refl
unused_ops (Assign at op a b) = refl
unused_ops (Cond at a b c) = refl
unused_ops (Comma at a b) = refl
unused_ops (Cast at t a) = refl
unused_ops (Index at a b) = refl
unused_ops (Call at f es) = refl
unused_ops (Member at a m) = refl
unused_ops (Arrow at a m) = refl
unused_ops (Step at step.PreInc a) = refl
unused_ops (Step at step.PreDec a) = refl
unused_ops (Step at step.PostInc a) = refl
unused_ops (Step at step.PostDec a) = refl

effect_fits : (e : CExpr) (w : Linking) (here : Environment) (k d : ℕ) → Fits (effect_code e w here k d) (expr_jumps e) (cost_of e)
effect_fits e w here k d = record { room = omega (arith, (value_most (unused e) w here k d).bound, unused_ops e, value_fits e) }

value_room : (e : CExpr) (w : Linking) (here : Environment) (k d : ℕ) → Fits (value_code e w here k d) (expr_jumps e) (cost_of e)
value_room e w here k d = record { room = omega (arith, (value_most e w here k d).bound, value_fits e) }

unless_fits : (e : CExpr) (w : Linking) (here : Environment) (k d target : ℕ) → Fits (unless_code e w here k d target) (truth_jumps e) (cost_of e)
unless_fits e w here k d target = record { room = omega (arith, (truth_most e w here k d (value_code e w here k d) (value_most e w here k d) false target).bound, truth_fits e) }

where_fits : (e : CExpr) (w : Linking) (here : Environment) (k d target : ℕ) → Fits (where_code e w here k d target) (truth_jumps e) (cost_of e)
where_fits e w here k d target = record { room = omega (arith, (truth_most e w here k d (value_code e w here k d) (value_most e w here k d) true target).bound, truth_fits e) }

maybe_unless_fits : (e : Option CExpr) (w : Linking) (here : Environment) (k d target : ℕ) → Fits (maybe_unless_code e w here k d target) (maybe_truth_jumps e) (maybe_cost e)
maybe_unless_fits None w here k d target = record { room = omega arith }
maybe_unless_fits (Some e) w here k d target = unless_fits e w here k d target

maybe_effect_fits : (e : Option CExpr) (w : Linking) (here : Environment) (k d : ℕ) → Fits (maybe_effect_code e w here k d) (maybe_jumps e) (maybe_cost e)
maybe_effect_fits None w here k d = record { room = omega arith }
maybe_effect_fits (Some e) w here k d = effect_fits e w here k d

returned_fits : (e : Option CExpr) (w : Linking) (here : Environment) (k d : ℕ) → Fits (returned_code e w here k d) (maybe_jumps e + 1) (8 + maybe_cost e)
returned_fits None w here k d = record { room = omega arith }
returned_fits (Some e) w here k d = looser (fits_both {j = 1} {n = 3} (value_room e w here k d) (record { room = omega arith })) (omega arith) (omega arith)

to_block : (k : ℕ) → Fits (jump_to k) 1 2
to_block k = record { room = omega arith }

for_fits : (k : ℕ) (test again : Option CExpr) (t : CStmt) (w : Linking) (here : Environment) (d : ℕ) (body : Environment → ℕ → Targets → List Op) (c : ℕ) → ((around : Targets) → Fits (body (past_maybe again (past_maybe test here)) (k + 1 + maybe_truth_jumps test) around) (stmt_jumps t) c)
    → Fits (for_code k test again t w here d body) (maybe_truth_jumps test + stmt_jumps t + maybe_jumps again + 3) (maybe_cost test + c + maybe_cost again + 6)
for_fits k test again t w here d body c hb =
    let stepping = k + 1 + maybe_truth_jumps test + stmt_jumps t + 1 in
    let end = stepping + maybe_jumps again + 1 in
    looser (fits_both (to_block (k + 1)) (fits_both (maybe_unless_fits test w here (k + 1) d end) (fits_both (hb (targets end stepping)) (fits_both (to_block stepping) (fits_both (maybe_effect_fits again w (past_maybe test here) stepping d) (to_block (k + 1))))))) (omega arith) (omega arith)

-- the parts alone, without the comparisons
abbrev part_room : CPart → ℕ
part_room (Label at e) = 2
part_room (Item t) = stmt_cost t

abbrev parts_room : CParts → ℕ
parts_room NoPart = 0
parts_room (MorePart p ps) = part_room p + parts_room ps

cases_room : (ps : CParts) → case_jumps ps + case_jumps ps + parts_room ps ≤ parts_cost ps
cases_room NoPart = omega arith
cases_room (MorePart (Label at (Some e)) ps) = omega (arith, cases_room ps)
cases_room (MorePart (Label at None) ps) = omega (arith, cases_room ps)
cases_room (MorePart (Item t) ps) = omega (arith, cases_room ps)

cases_fit : (ps : CParts) (here : Environment) (k : ℕ) → length (cases_code ps here k) ≡ case_jumps ps
cases_fit NoPart here k = refl
cases_fit (MorePart (Label at (Some e)) ps) here k = ap suc (cases_fit ps (behind_part (Label at (Some e)) here) (k + 1))
cases_fit (MorePart (Label at None) ps) here k = cases_fit ps (behind_part (Label at None) here) (k + 1)
cases_fit (MorePart (Item t) ps) here k = cases_fit ps (behind_part (Item t) here) (k + stmt_jumps t)

comparisons_fit : (ps : CParts) (here : Environment) (k : ℕ) → Fits (cases_code ps here k) (case_jumps ps) (case_jumps ps + case_jumps ps)
comparisons_fit ps here k = record { room = omega (arith, cases_fit ps here k) }

-- ---- scopes behind statements

behind_scope : (t : CStmt) (here : Environment) → (behind t here).scope ≡ scope_behind here.scope t
behind_scope (Local decl) here = by decl.first
  where
    by : (v : Option CValue) → (past_first v (declaring decl here)).scope ≡ scope_behind here.scope (Local decl)
    by None = refl
    by (Some v) = refl
behind_scope (Block ss) here = refl
behind_scope (Do_expr e) here = refl
behind_scope Empty here = refl
behind_scope (If e t) here = refl
behind_scope (IfElse e t u) here = refl
behind_scope (While e t) here = refl
behind_scope (Do t e) here = refl
behind_scope (For x y z u) here = refl
behind_scope (Return at e) here = refl
behind_scope (Break at) here = refl
behind_scope (Continue at) here = refl
behind_scope (Switch e ps) here = refl

behind_all_scope : (ss : CStmts) (here : Environment) → (behind_all ss here).scope ≡ scope_behind_all here.scope ss
behind_all_scope NoStmt here = refl
behind_all_scope (MoreStmt t ts) here = behind_all_scope ts (behind t here) ∙ ap (λ s. scope_behind_all s ts) (behind_scope t here)

part_scope : (p : CPart) (here : Environment) → (behind_part p here).scope ≡ scope_behind_part here.scope p
part_scope (Label at e) here = refl
part_scope (Item t) here = behind_scope t here

maybe_scope : (e : Option CExpr) (here : Environment) → (past_maybe e here).scope ≡ here.scope
maybe_scope None here = refl
maybe_scope (Some e) here = refl

head_scope : (test again : Option CExpr) (here : Environment) (s : Scope) → here.scope ≡ s → (past_maybe again (past_maybe test here)).scope ≡ s
head_scope test again here s e = maybe_scope again (past_maybe test here) ∙ (maybe_scope test here ∙ e)

mutual
  pub stmt_fits : (t : CStmt) (w : Linking) (here : Environment) (k d : ℕ) (to : Targets) → Fits (stmt_code t w here k d to) (stmt_jumps t) (stmt_cost t + 4 * stmt_words here.scope t)
  stmt_fits (Block ss) w here k d to =
      let objects = block_objects (entered here.scope) ss in
      no_more (stmts_fit ss (with_block objects d w) (in_block (length w.bases) here) k (d + words_in objects) to) (omega arith)
  stmt_fits (Local decl) w here k d to = declaration_fits decl decl.first w here k d
  stmt_fits (Do_expr e) w here k d to = no_more (effect_fits e w here k d) (omega arith)
  stmt_fits Empty w here k d to = record { room = omega arith }
  stmt_fits (If e t) w here k d to =
      looser (fits_both (unless_fits e w here k d _) (fits_both (stmt_fits t w (past e here) (k + truth_jumps e) d to) (to_block _))) (omega arith) (omega arith)
  stmt_fits (IfElse e t u) w here k d to =
      looser (fits_both (unless_fits e w here k d _) (fits_both (stmt_fits t w (past e here) (k + truth_jumps e) d to) (fits_both (to_block _) (fits_both (stmt_fits u w (past_stmt t (past e here)) (k + truth_jumps e + stmt_jumps t + 1) d to) (to_block _))))) (omega arith) (omega arith)
  stmt_fits (While e t) w here k d to =
      looser (fits_both (to_block _) (fits_both (unless_fits e w here (k + 1) d _) (fits_both (stmt_fits t w (past e here) (k + 1 + truth_jumps e) d _) (to_block _)))) (omega arith) (omega arith)
  stmt_fits (Do t e) w here k d to =
      looser (fits_both (to_block _) (fits_both (stmt_fits t w here (k + 1) d _) (fits_both (to_block _) (where_fits e w (past_stmt t here) (k + 1 + stmt_jumps t + 1) d _)))) (omega arith) (omega arith)
  stmt_fits (For (Block ss) test again t) w here k d to =
      let objects = block_objects (entered here.scope) ss in
      let free = d + words_in objects in
      let start = in_block (length w.bases) here in
      let inner = behind_all ss start in
      let scope : (past_maybe again (past_maybe test inner)).scope ≡ scope_behind_all (entered here.scope) ss = head_scope test again inner (scope_behind_all (entered here.scope) ss) (behind_all_scope ss start) in
      looser (fits_both (stmts_fit ss (with_block objects d w) start k free to)
      (for_fits (k + stmts_jumps ss) test again t (with_block objects d w) inner free (λ inner first around. stmt_code t (with_block objects d w) inner first free around) (stmt_cost t + 4 * stmt_words (scope_behind_all (entered here.scope) ss) t)
      (λ around. no_more (stmt_fits t (with_block objects d w) (past_maybe again (past_maybe test inner)) (k + stmts_jumps ss + 1 + maybe_truth_jumps test) free around) (omega (arith, ap (λ s. stmt_words s t) scope))))) (omega arith) (omega arith)
  stmt_fits (For (Local x) test again t) w here k d to =
      looser (fits_both (stmt_fits (Local x) w here k d to)
      (for_fits (k + stmt_jumps (Local x)) test again t w (behind (Local x) here) d (λ inner first around. stmt_code t w inner first d around) (stmt_cost t + 4 * stmt_words (scope_behind here.scope (Local x)) t)
      (λ around. no_more (stmt_fits t w (past_maybe again (past_maybe test (behind (Local x) here))) (k + stmt_jumps (Local x) + 1 + maybe_truth_jumps test) d around) (omega (arith, ap (λ s. stmt_words s t) (head_scope test again (behind (Local x) here) (scope_behind here.scope (Local x)) (behind_scope (Local x) here))))))) (omega arith) (omega arith)
  stmt_fits (For (Do_expr x) test again t) w here k d to =
      looser (fits_both (stmt_fits (Do_expr x) w here k d to)
      (for_fits (k + stmt_jumps (Do_expr x)) test again t w (behind (Do_expr x) here) d (λ inner first around. stmt_code t w inner first d around) (stmt_cost t + 4 * stmt_words (scope_behind here.scope (Do_expr x)) t)
      (λ around. no_more (stmt_fits t w (past_maybe again (past_maybe test (behind (Do_expr x) here))) (k + stmt_jumps (Do_expr x) + 1 + maybe_truth_jumps test) d around) (omega (arith, ap (λ s. stmt_words s t) (head_scope test again (behind (Do_expr x) here) (scope_behind here.scope (Do_expr x)) (behind_scope (Do_expr x) here))))))) (omega arith) (omega arith)
  stmt_fits (For Empty test again t) w here k d to =
      looser (fits_both (stmt_fits Empty w here k d to)
      (for_fits (k + stmt_jumps Empty) test again t w (behind Empty here) d (λ inner first around. stmt_code t w inner first d around) (stmt_cost t + 4 * stmt_words (scope_behind here.scope Empty) t)
      (λ around. no_more (stmt_fits t w (past_maybe again (past_maybe test (behind Empty here))) (k + stmt_jumps Empty + 1 + maybe_truth_jumps test) d around) (omega (arith, ap (λ s. stmt_words s t) (head_scope test again (behind Empty here) (scope_behind here.scope Empty) (behind_scope Empty here))))))) (omega arith) (omega arith)
  stmt_fits (For (If x y) test again t) w here k d to =
      looser (fits_both (stmt_fits (If x y) w here k d to)
      (for_fits (k + stmt_jumps (If x y)) test again t w (behind (If x y) here) d (λ inner first around. stmt_code t w inner first d around) (stmt_cost t + 4 * stmt_words (scope_behind here.scope (If x y)) t)
      (λ around. no_more (stmt_fits t w (past_maybe again (past_maybe test (behind (If x y) here))) (k + stmt_jumps (If x y) + 1 + maybe_truth_jumps test) d around) (omega (arith, ap (λ s. stmt_words s t) (head_scope test again (behind (If x y) here) (scope_behind here.scope (If x y)) (behind_scope (If x y) here))))))) (omega arith) (omega arith)
  stmt_fits (For (IfElse x y z) test again t) w here k d to =
      looser (fits_both (stmt_fits (IfElse x y z) w here k d to)
      (for_fits (k + stmt_jumps (IfElse x y z)) test again t w (behind (IfElse x y z) here) d (λ inner first around. stmt_code t w inner first d around) (stmt_cost t + 4 * stmt_words (scope_behind here.scope (IfElse x y z)) t)
      (λ around. no_more (stmt_fits t w (past_maybe again (past_maybe test (behind (IfElse x y z) here))) (k + stmt_jumps (IfElse x y z) + 1 + maybe_truth_jumps test) d around) (omega (arith, ap (λ s. stmt_words s t) (head_scope test again (behind (IfElse x y z) here) (scope_behind here.scope (IfElse x y z)) (behind_scope (IfElse x y z) here))))))) (omega arith) (omega arith)
  stmt_fits (For (While x y) test again t) w here k d to =
      looser (fits_both (stmt_fits (While x y) w here k d to)
      (for_fits (k + stmt_jumps (While x y)) test again t w (behind (While x y) here) d (λ inner first around. stmt_code t w inner first d around) (stmt_cost t + 4 * stmt_words (scope_behind here.scope (While x y)) t)
      (λ around. no_more (stmt_fits t w (past_maybe again (past_maybe test (behind (While x y) here))) (k + stmt_jumps (While x y) + 1 + maybe_truth_jumps test) d around) (omega (arith, ap (λ s. stmt_words s t) (head_scope test again (behind (While x y) here) (scope_behind here.scope (While x y)) (behind_scope (While x y) here))))))) (omega arith) (omega arith)
  stmt_fits (For (Do x y) test again t) w here k d to =
      looser (fits_both (stmt_fits (Do x y) w here k d to)
      (for_fits (k + stmt_jumps (Do x y)) test again t w (behind (Do x y) here) d (λ inner first around. stmt_code t w inner first d around) (stmt_cost t + 4 * stmt_words (scope_behind here.scope (Do x y)) t)
      (λ around. no_more (stmt_fits t w (past_maybe again (past_maybe test (behind (Do x y) here))) (k + stmt_jumps (Do x y) + 1 + maybe_truth_jumps test) d around) (omega (arith, ap (λ s. stmt_words s t) (head_scope test again (behind (Do x y) here) (scope_behind here.scope (Do x y)) (behind_scope (Do x y) here))))))) (omega arith) (omega arith)
  stmt_fits (For (For x y z u) test again t) w here k d to =
      looser (fits_both (stmt_fits (For x y z u) w here k d to)
      (for_fits (k + stmt_jumps (For x y z u)) test again t w (behind (For x y z u) here) d (λ inner first around. stmt_code t w inner first d around) (stmt_cost t + 4 * stmt_words (scope_behind here.scope (For x y z u)) t)
      (λ around. no_more (stmt_fits t w (past_maybe again (past_maybe test (behind (For x y z u) here))) (k + stmt_jumps (For x y z u) + 1 + maybe_truth_jumps test) d around) (omega (arith, ap (λ s. stmt_words s t) (head_scope test again (behind (For x y z u) here) (scope_behind here.scope (For x y z u)) (behind_scope (For x y z u) here))))))) (omega arith) (omega arith)
  stmt_fits (For (Return x y) test again t) w here k d to =
      looser (fits_both (stmt_fits (Return x y) w here k d to)
      (for_fits (k + stmt_jumps (Return x y)) test again t w (behind (Return x y) here) d (λ inner first around. stmt_code t w inner first d around) (stmt_cost t + 4 * stmt_words (scope_behind here.scope (Return x y)) t)
      (λ around. no_more (stmt_fits t w (past_maybe again (past_maybe test (behind (Return x y) here))) (k + stmt_jumps (Return x y) + 1 + maybe_truth_jumps test) d around) (omega (arith, ap (λ s. stmt_words s t) (head_scope test again (behind (Return x y) here) (scope_behind here.scope (Return x y)) (behind_scope (Return x y) here))))))) (omega arith) (omega arith)
  stmt_fits (For (Break x) test again t) w here k d to =
      looser (fits_both (stmt_fits (Break x) w here k d to)
      (for_fits (k + stmt_jumps (Break x)) test again t w (behind (Break x) here) d (λ inner first around. stmt_code t w inner first d around) (stmt_cost t + 4 * stmt_words (scope_behind here.scope (Break x)) t)
      (λ around. no_more (stmt_fits t w (past_maybe again (past_maybe test (behind (Break x) here))) (k + stmt_jumps (Break x) + 1 + maybe_truth_jumps test) d around) (omega (arith, ap (λ s. stmt_words s t) (head_scope test again (behind (Break x) here) (scope_behind here.scope (Break x)) (behind_scope (Break x) here))))))) (omega arith) (omega arith)
  stmt_fits (For (Continue x) test again t) w here k d to =
      looser (fits_both (stmt_fits (Continue x) w here k d to)
      (for_fits (k + stmt_jumps (Continue x)) test again t w (behind (Continue x) here) d (λ inner first around. stmt_code t w inner first d around) (stmt_cost t + 4 * stmt_words (scope_behind here.scope (Continue x)) t)
      (λ around. no_more (stmt_fits t w (past_maybe again (past_maybe test (behind (Continue x) here))) (k + stmt_jumps (Continue x) + 1 + maybe_truth_jumps test) d around) (omega (arith, ap (λ s. stmt_words s t) (head_scope test again (behind (Continue x) here) (scope_behind here.scope (Continue x)) (behind_scope (Continue x) here))))))) (omega arith) (omega arith)
  stmt_fits (For (Switch x y) test again t) w here k d to =
      looser (fits_both (stmt_fits (Switch x y) w here k d to)
      (for_fits (k + stmt_jumps (Switch x y)) test again t w (behind (Switch x y) here) d (λ inner first around. stmt_code t w inner first d around) (stmt_cost t + 4 * stmt_words (scope_behind here.scope (Switch x y)) t)
      (λ around. no_more (stmt_fits t w (past_maybe again (past_maybe test (behind (Switch x y) here))) (k + stmt_jumps (Switch x y) + 1 + maybe_truth_jumps test) d around) (omega (arith, ap (λ s. stmt_words s t) (head_scope test again (behind (Switch x y) here) (scope_behind here.scope (Switch x y)) (behind_scope (Switch x y) here))))))) (omega arith) (omega arith)
  stmt_fits (Return at e) w here k d to = no_more (returned_fits e w here k d) (omega arith)
  stmt_fits (Break at) w here k d to = record { room = omega arith }
  stmt_fits (Continue at) w here k d to = record { room = omega arith }
  stmt_fits (Switch e ps) w here k d to =
      let objects = parts_objects (entered here.scope) ps in
      let inner = in_block (length w.bases) (past e here) in
      let first = k + expr_jumps e + case_jumps ps + 1 in
      looser (fits_both {m = cost_of e} (value_room e w here k d) (fits_both (comparisons_fit ps inner first) (fits_both (to_block _) (fits_both (parts_fit ps (with_block objects d w) inner first (d + words_in objects) _) (to_block _))))) (omega arith) (omega (arith, cases_room ps))

  stmts_fit : (ts : CStmts) (w : Linking) (here : Environment) (k d : ℕ) (to : Targets) → Fits (stmts_code ts w here k d to) (stmts_jumps ts) (stmts_cost ts + 4 * stmts_words here.scope ts)
  stmts_fit NoStmt w here k d to = record { room = omega arith }
  stmts_fit (MoreStmt t ts) w here k d to =
      no_more (fits_both (stmt_fits t w here k d to) (stmts_fit ts w (behind t here) (k + stmt_jumps t) d to)) (omega (arith, ap (λ s. stmts_words s ts) (behind_scope t here)))

  part_fits : (p : CPart) (w : Linking) (here : Environment) (k d : ℕ) (to : Targets) → Fits (part_code p w here k d to) (part_jumps p) (part_room p + 4 * part_words here.scope p)
  part_fits (Label at e) w here k d to = record { room = omega arith }
  part_fits (Item t) w here k d to = stmt_fits t w here k d to

  parts_fit : (ps : CParts) (w : Linking) (here : Environment) (k d : ℕ) (to : Targets) → Fits (parts_code ps w here k d to) (parts_jumps ps) (parts_room ps + 4 * parts_words here.scope ps)
  parts_fit NoPart w here k d to = record { room = omega arith }
  parts_fit (MorePart p ps) w here k d to =
      no_more (fits_both (part_fits p w here k d to) (parts_fit ps w (behind_part p here) (k + part_jumps p) d to)) (omega (arith, ap (λ s. parts_words s ps) (part_scope p here)))
