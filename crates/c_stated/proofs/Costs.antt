-- The operations that are run for a statement are at most what its tree costs.
use Rattle.std.proofs.Common.{◌≡◌, ◌+◌, ◌*◌, ◌≤◌, Bool, true, false, length, Option, Some, None, refl, ap, ◌∙◌, subst, arith, if◌then◌else◌}
use Rattle.c_syntax.specs.Plain.{CExpr, CValue, One, Many, CValues, NoValue, MoreValue, CDecl, CStmt, Block, Local, Do_expr, Empty, If, IfElse, While, Do, For, Return, Break, Continue, Switch, CStmts, NoStmt, MoreStmt, Label, Item, CParts, NoPart, MorePart}
use Rattle.c_types.specs.Types.{CType}
use Rattle.c_types.specs.Scope.{Scope, entered}
use Rattle.c_types.specs.Declarations.{Slots, first_slot, next_slots, slots_of, takes_string}
use Rattle.c_types.specs.Census.{scope_behind, scope_behind_all}
use Rattle.c_eval.specs.Environment.{Environment, object_type_in, type_or_nothing, past, past_maybe, past_stmt, declaring, behind, behind_all, in_block}
use Rattle.c_eval.specs.Eval.{array_text}
use Rattle.c_helpers.specs.Cost.{cost_of, maybe_cost, value_cost, values_cost, first_cost, stmt_cost, stmts_cost, parts_cost}
use Rattle.c_lowered.specs.Counts.{case_jumps}
use Rattle.c_stated.specs.Counts.{first_words, firsts_words, declared_words, stmt_words, stmts_words, parts_words}
use Rattle.c_valued.specs.Steps.{steps}
use Rattle.c_valued.proofs.Costing.{steps_fit, truth_fits}
use Rattle.c_stated.specs.Statements.{first_steps, firsts_steps, declared_steps, maybe_steps, maybe_truth_steps, stmt_steps, stmts_steps, parts_steps}
use Rattle.c_stated.proofs.Switches.{scope_is}

-- ---- scopes

maybe_scope : (e : Option CExpr) (site : Environment) → (past_maybe e site).scope ≡ site.scope
maybe_scope None site = refl
maybe_scope (Some e) site = refl

all_scope : (ts : CStmts) (site : Environment) → (behind_all ts site).scope ≡ scope_behind_all site.scope ts
all_scope NoStmt site = refl
all_scope (MoreStmt t ts) site = all_scope ts (behind t site) ∙ ap (λ s. scope_behind_all s ts) (scope_is t site)

-- ---- expressions

value_fits : (e : CExpr) → steps 0 e ≤ cost_of e
value_fits e = let h = steps_fit e in omega (arith, h)

maybe_fits : (e : Option CExpr) → maybe_steps 0 e ≤ maybe_cost e
maybe_fits None = omega arith
maybe_fits (Some e) = value_fits e

maybe_truth_fits : (e : Option CExpr) → maybe_truth_steps 0 e ≤ maybe_cost e
maybe_truth_fits None = omega arith
maybe_truth_fits (Some e) = truth_fits e

-- ---- first values

mutual
  first_fits : (v : CValue) (t : CType) (s : Scope) → first_steps 0 s t v ≤ value_cost v + 4 * first_words s t v
  first_fits (One e) t s = by (takes_string t e)
    where
      by : (b : Bool) → (if b then 4 * length (array_text t e) else steps 0 e + 3) ≤ 4 + cost_of e + 4 * (if b then length (array_text t e) else 0)
      by true = omega arith
      by false = let h = steps_fit e in omega (arith, h)
  first_fits (Many vs) t s = let h = firsts_fit vs (slots_of s.tags (Some t)) s in omega (arith, h)

  firsts_fit : (vs : CValues) (slots : Slots) (s : Scope) → firsts_steps 0 s slots vs ≤ values_cost vs + 4 * firsts_words s slots vs
  firsts_fit NoValue slots s = omega arith
  firsts_fit (MoreValue v vs) slots s = let h = first_fits v (type_or_nothing (first_slot slots)) s in let k = firsts_fit vs (next_slots slots) s in omega (arith, h, k)

declared_fits : (d : CDecl) (v : Option CValue) (site : Environment) → declared_steps 0 (declaring d site).scope (object_type_in site.scope d) v ≤ 4 + first_cost v + 4 * declared_words site.scope d v
declared_fits d None site = omega arith
declared_fits d (Some v) site = let h = first_fits v (object_type_in site.scope d) (declaring d site).scope in omega (arith, h)

-- ---- statements

-- the loop of a `for`
loop_fits : (test step : Option CExpr) (t : CStmt) (site : Environment) (s : Scope) → site.scope ≡ s → stmt_steps 0 t (past_maybe step (past_maybe test site)) ≤ stmt_cost t + 4 * stmt_words (past_maybe step (past_maybe test site)).scope t
    → maybe_truth_steps 0 test + maybe_steps 0 step + stmt_steps 0 t (past_maybe step (past_maybe test site)) + 2 ≤ 8 + maybe_cost test + maybe_cost step + stmt_cost t + 4 * stmt_words s t
loop_fits test step t site s e h =
    let same : (past_maybe step (past_maybe test site)).scope ≡ s = maybe_scope step (past_maybe test site) ∙ (maybe_scope test site ∙ e) in
    let k = subst (λ z. stmt_steps 0 t (past_maybe step (past_maybe test site)) ≤ stmt_cost t + 4 * stmt_words z t) same h in
    let a = maybe_truth_fits test in
    let b = maybe_fits step in
    omega (arith, k, a, b)

mutual
  pub stmt_fits : (t : CStmt) (site : Environment) → stmt_steps 0 t site ≤ stmt_cost t + 4 * stmt_words site.scope t
  stmt_fits (Block ss) site = let h = stmts_fit ss (in_block 0 site) in omega (arith, h)
  stmt_fits (Local d) site = declared_fits d d.first site
  stmt_fits (Do_expr e) site = let h = value_fits e in omega (arith, h)
  stmt_fits Empty site = omega arith
  stmt_fits (If e t) site = let h = truth_fits e in let k = stmt_fits t (past e site) in omega (arith, h, k)
  stmt_fits (IfElse e t u) site = let h = truth_fits e in let k = stmt_fits t (past e site) in let l = stmt_fits u (past_stmt t (past e site)) in omega (arith, h, k, l)
  stmt_fits (While e t) site = let h = truth_fits e in let k = stmt_fits t (past e site) in omega (arith, h, k)
  stmt_fits (Do t e) site = let h = truth_fits e in let k = stmt_fits t site in omega (arith, h, k)
  stmt_fits (For (Block ss) test step t) site =
      let head = stmts_fit ss (in_block 0 site) in
      let rest = loop_fits test step t (behind_all ss (in_block 0 site)) (scope_behind_all (entered site.scope) ss) (all_scope ss (in_block 0 site)) (stmt_fits t _) in
      omega (arith, head, rest)
  stmt_fits (For (Local d) test step t) site = let head = stmt_fits (Local d) site in let rest = loop_fits test step t (behind (Local d) site) (scope_behind site.scope (Local d)) (scope_is (Local d) site) (stmt_fits t _) in omega (arith, head, rest)
  stmt_fits (For (Do_expr e) test step t) site = let head = stmt_fits (Do_expr e) site in let rest = loop_fits test step t (behind (Do_expr e) site) (scope_behind site.scope (Do_expr e)) (scope_is (Do_expr e) site) (stmt_fits t _) in omega (arith, head, rest)
  stmt_fits (For Empty test step t) site = let head = stmt_fits Empty site in let rest = loop_fits test step t (behind Empty site) (scope_behind site.scope Empty) (scope_is Empty site) (stmt_fits t _) in omega (arith, head, rest)
  stmt_fits (For (If e a) test step t) site = let head = stmt_fits (If e a) site in let rest = loop_fits test step t (behind (If e a) site) (scope_behind site.scope (If e a)) (scope_is (If e a) site) (stmt_fits t _) in omega (arith, head, rest)
  stmt_fits (For (IfElse e a b) test step t) site = let head = stmt_fits (IfElse e a b) site in let rest = loop_fits test step t (behind (IfElse e a b) site) (scope_behind site.scope (IfElse e a b)) (scope_is (IfElse e a b) site) (stmt_fits t _) in omega (arith, head, rest)
  stmt_fits (For (While e a) test step t) site = let head = stmt_fits (While e a) site in let rest = loop_fits test step t (behind (While e a) site) (scope_behind site.scope (While e a)) (scope_is (While e a) site) (stmt_fits t _) in omega (arith, head, rest)
  stmt_fits (For (Do a e) test step t) site = let head = stmt_fits (Do a e) site in let rest = loop_fits test step t (behind (Do a e) site) (scope_behind site.scope (Do a e)) (scope_is (Do a e) site) (stmt_fits t _) in omega (arith, head, rest)
  stmt_fits (For (For a x y b) test step t) site = let head = stmt_fits (For a x y b) site in let rest = loop_fits test step t (behind (For a x y b) site) (scope_behind site.scope (For a x y b)) (scope_is (For a x y b) site) (stmt_fits t _) in omega (arith, head, rest)
  stmt_fits (For (Return at e) test step t) site = let head = stmt_fits (Return at e) site in let rest = loop_fits test step t (behind (Return at e) site) (scope_behind site.scope (Return at e)) (scope_is (Return at e) site) (stmt_fits t _) in omega (arith, head, rest)
  stmt_fits (For (Break at) test step t) site = let head = stmt_fits (Break at) site in let rest = loop_fits test step t (behind (Break at) site) (scope_behind site.scope (Break at)) (scope_is (Break at) site) (stmt_fits t _) in omega (arith, head, rest)
  stmt_fits (For (Continue at) test step t) site = let head = stmt_fits (Continue at) site in let rest = loop_fits test step t (behind (Continue at) site) (scope_behind site.scope (Continue at)) (scope_is (Continue at) site) (stmt_fits t _) in omega (arith, head, rest)
  stmt_fits (For (Switch e ps) test step t) site = let head = stmt_fits (Switch e ps) site in let rest = loop_fits test step t (behind (Switch e ps) site) (scope_behind site.scope (Switch e ps)) (scope_is (Switch e ps) site) (stmt_fits t _) in omega (arith, head, rest)
  stmt_fits (Return at e) site = let h = maybe_fits e in omega (arith, h)
  stmt_fits (Break at) site = omega arith
  stmt_fits (Continue at) site = omega arith
  stmt_fits (Switch e ps) site = let h = value_fits e in let k = parts_fit ps (in_block 0 (past e site)) in omega (arith, h, k)

  stmts_fit : (ts : CStmts) (site : Environment) → stmts_steps 0 ts site ≤ stmts_cost ts + 4 * stmts_words site.scope ts
  stmts_fit NoStmt site = omega arith
  stmts_fit (MoreStmt t ts) site =
      let h = stmt_fits t site in
      let k = subst (λ s. stmts_steps 0 ts (behind t site) ≤ stmts_cost ts + 4 * stmts_words s ts) (scope_is t site) (stmts_fit ts (behind t site)) in
      omega (arith, h, k)

  -- with the comparisons
  parts_fit : (ps : CParts) (site : Environment) → case_jumps ps + parts_steps 0 ps site ≤ parts_cost ps + 4 * parts_words site.scope ps
  parts_fit NoPart site = omega arith
  parts_fit (MorePart (Label at None) ps) site = let k = parts_fit ps site in omega (arith, k)
  parts_fit (MorePart (Label at (Some e)) ps) site = let k = parts_fit ps site in omega (arith, k)
  parts_fit (MorePart (Item t) ps) site =
      let h = stmt_fits t site in
      let k = subst (λ s. case_jumps ps + parts_steps 0 ps (behind t site) ≤ parts_cost ps + 4 * parts_words s ps) (scope_is t site) (parts_fit ps (behind t site)) in
      omega (arith, h, k)
