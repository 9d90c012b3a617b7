-- So it is with statements.
use Rattle.std.proofs.Common.{ℕ, ◌+◌, ◌*◌, ◌≤◌, Bool, true, false, length, Option, Some, None, arith, if◌then◌else◌}
use Rattle.c_syntax.specs.Plain.{CExpr, CValue, One, Many, CValues, NoValue, MoreValue, CStmt, Block, Local, Do_expr, Empty, If, IfElse, While, Do, For, Return, Break, Continue, Switch, CStmts, NoStmt, MoreStmt, Label, Item, CParts, NoPart, MorePart}
use Rattle.c_types.specs.Types.{CType}
use Rattle.c_types.specs.Scope.{Scope}
use Rattle.c_types.specs.Declarations.{Slots, first_slot, next_slots, slots_of, takes_string}
use Rattle.c_eval.specs.Environment.{Environment, object_type_in, type_or_nothing, past, past_maybe, past_stmt, declaring, behind, behind_all, in_block}
use Rattle.c_eval.specs.Eval.{array_text}
use Rattle.c_valued.specs.Steps.{steps}
use Rattle.c_stated.specs.Statements.{first_steps, firsts_steps, declared_steps, maybe_steps, maybe_truth_steps, stmt_steps, stmts_steps, parts_steps}
use Rattle.c_stated.specs.Worth.{calls_in, maybe_calls, first_calls, firsts_calls, maybe_first_calls, stmt_calls, stmts_calls, parts_calls}
use Rattle.c_stated.proofs.Values.{steps_more, truth_more}

maybe_more : (u : ℕ) (e : Option CExpr) → maybe_steps u e ≤ maybe_steps 0 e + u * maybe_calls e
maybe_more u None = omega arith
maybe_more u (Some e) = steps_more u e

maybe_truth_more : (u : ℕ) (e : Option CExpr) → maybe_truth_steps u e ≤ maybe_truth_steps 0 e + u * maybe_calls e
maybe_truth_more u None = omega arith
maybe_truth_more u (Some e) = truth_more u e

mutual
  first_more : (u : ℕ) (v : CValue) (t : CType) (s : Scope) → first_steps u s t v ≤ first_steps 0 s t v + u * first_calls v
  first_more u (One e) t s = by (takes_string t e)
    where
      by : (b : Bool) → (if b then 4 * length (array_text t e) else steps u e + 3) ≤ (if b then 4 * length (array_text t e) else steps 0 e + 3) + u * calls_in e
      by true = omega arith
      by false = let h = steps_more u e in omega (arith, h)
  first_more u (Many vs) t s = firsts_more u vs (slots_of s.tags (Some t)) s

  firsts_more : (u : ℕ) (vs : CValues) (slots : Slots) (s : Scope) → firsts_steps u s slots vs ≤ firsts_steps 0 s slots vs + u * firsts_calls vs
  firsts_more u NoValue slots s = omega arith
  firsts_more u (MoreValue v vs) slots s = let h = first_more u v (type_or_nothing (first_slot slots)) s in let k = firsts_more u vs (next_slots slots) s in omega (arith, h, k)

declared_more : (u : ℕ) (v : Option CValue) (t : CType) (s : Scope) → declared_steps u s t v ≤ declared_steps 0 s t v + u * maybe_first_calls v
declared_more u None t s = omega arith
declared_more u (Some v) t s = first_more u v t s

mutual
  pub stmt_more : (u : ℕ) (t : CStmt) (site : Environment) → stmt_steps u t site ≤ stmt_steps 0 t site + u * stmt_calls t
  stmt_more u (Block ss) site = stmts_more u ss (in_block 0 site)
  stmt_more u (Local d) site = declared_more u d.first (object_type_in site.scope d) (declaring d site).scope
  stmt_more u (Do_expr e) site = steps_more u e
  stmt_more u Empty site = omega arith
  stmt_more u (If e t) site = let h = truth_more u e in let k = stmt_more u t (past e site) in omega (arith, h, k)
  stmt_more u (IfElse e t v) site = let h = truth_more u e in let k = stmt_more u t (past e site) in let l = stmt_more u v (past_stmt t (past e site)) in omega (arith, h, k, l)
  stmt_more u (While e t) site = let h = truth_more u e in let k = stmt_more u t (past e site) in omega (arith, h, k)
  stmt_more u (Do t e) site = let h = truth_more u e in let k = stmt_more u t site in omega (arith, h, k)
  stmt_more u (For (Block ss) test step t) site =
      let inner = behind_all ss (in_block 0 site) in
      let head = stmts_more u ss (in_block 0 site) in
      let a = maybe_truth_more u test in
      let b = maybe_more u step in
      let k = stmt_more u t (past_maybe step (past_maybe test inner)) in
      omega (arith, head, a, b, k)
  stmt_more u (For (Local d) test step t) site =
      let head = stmt_more u (Local d) site in
      let p = maybe_truth_more u test in
      let q = maybe_more u step in
      let k = stmt_more u t (past_maybe step (past_maybe test (behind (Local d) site))) in
      omega (arith, head, p, q, k)
  stmt_more u (For (Do_expr e) test step t) site =
      let head = stmt_more u (Do_expr e) site in
      let p = maybe_truth_more u test in
      let q = maybe_more u step in
      let k = stmt_more u t (past_maybe step (past_maybe test (behind (Do_expr e) site))) in
      omega (arith, head, p, q, k)
  stmt_more u (For Empty test step t) site =
      let head = stmt_more u Empty site in
      let p = maybe_truth_more u test in
      let q = maybe_more u step in
      let k = stmt_more u t (past_maybe step (past_maybe test (behind Empty site))) in
      omega (arith, head, p, q, k)
  stmt_more u (For (If e a) test step t) site =
      let head = stmt_more u (If e a) site in
      let p = maybe_truth_more u test in
      let q = maybe_more u step in
      let k = stmt_more u t (past_maybe step (past_maybe test (behind (If e a) site))) in
      omega (arith, head, p, q, k)
  stmt_more u (For (IfElse e a b) test step t) site =
      let head = stmt_more u (IfElse e a b) site in
      let p = maybe_truth_more u test in
      let q = maybe_more u step in
      let k = stmt_more u t (past_maybe step (past_maybe test (behind (IfElse e a b) site))) in
      omega (arith, head, p, q, k)
  stmt_more u (For (While e a) test step t) site =
      let head = stmt_more u (While e a) site in
      let p = maybe_truth_more u test in
      let q = maybe_more u step in
      let k = stmt_more u t (past_maybe step (past_maybe test (behind (While e a) site))) in
      omega (arith, head, p, q, k)
  stmt_more u (For (Do a e) test step t) site =
      let head = stmt_more u (Do a e) site in
      let p = maybe_truth_more u test in
      let q = maybe_more u step in
      let k = stmt_more u t (past_maybe step (past_maybe test (behind (Do a e) site))) in
      omega (arith, head, p, q, k)
  stmt_more u (For (For a x y b) test step t) site =
      let head = stmt_more u (For a x y b) site in
      let p = maybe_truth_more u test in
      let q = maybe_more u step in
      let k = stmt_more u t (past_maybe step (past_maybe test (behind (For a x y b) site))) in
      omega (arith, head, p, q, k)
  stmt_more u (For (Return at e) test step t) site =
      let head = stmt_more u (Return at e) site in
      let p = maybe_truth_more u test in
      let q = maybe_more u step in
      let k = stmt_more u t (past_maybe step (past_maybe test (behind (Return at e) site))) in
      omega (arith, head, p, q, k)
  stmt_more u (For (Break at) test step t) site =
      let head = stmt_more u (Break at) site in
      let p = maybe_truth_more u test in
      let q = maybe_more u step in
      let k = stmt_more u t (past_maybe step (past_maybe test (behind (Break at) site))) in
      omega (arith, head, p, q, k)
  stmt_more u (For (Continue at) test step t) site =
      let head = stmt_more u (Continue at) site in
      let p = maybe_truth_more u test in
      let q = maybe_more u step in
      let k = stmt_more u t (past_maybe step (past_maybe test (behind (Continue at) site))) in
      omega (arith, head, p, q, k)
  stmt_more u (For (Switch e ps) test step t) site =
      let head = stmt_more u (Switch e ps) site in
      let p = maybe_truth_more u test in
      let q = maybe_more u step in
      let k = stmt_more u t (past_maybe step (past_maybe test (behind (Switch e ps) site))) in
      omega (arith, head, p, q, k)
  stmt_more u (Return at e) site = maybe_more u e
  stmt_more u (Break at) site = omega arith
  stmt_more u (Continue at) site = omega arith
  stmt_more u (Switch e ps) site = let h = steps_more u e in let k = parts_more u ps (in_block 0 (past e site)) in omega (arith, h, k)

  stmts_more : (u : ℕ) (ts : CStmts) (site : Environment) → stmts_steps u ts site ≤ stmts_steps 0 ts site + u * stmts_calls ts
  stmts_more u NoStmt site = omega arith
  stmts_more u (MoreStmt t ts) site = let h = stmt_more u t site in let k = stmts_more u ts (behind t site) in omega (arith, h, k)

  parts_more : (u : ℕ) (ps : CParts) (site : Environment) → parts_steps u ps site ≤ parts_steps 0 ps site + u * parts_calls ps
  parts_more u NoPart site = omega arith
  parts_more u (MorePart (Label at e) ps) site = let k = parts_more u ps site in omega (arith, k)
  parts_more u (MorePart (Item t) ps) site = let h = stmt_more u t site in let k = parts_more u ps (behind t site) in omega (arith, h, k)
