-- How long the code of expressions is.
use Rattle.std.proofs.Common.{ℕ, suc, ◌+◌, ◌≤◌, Bool, true, false, if◌then◌else◌, List, Option, Some, None, arith}
use Rattle.eir_core.specs.declared.ops.Reg.TheVariants.{A}
use Rattle.eir_core.specs.declared.ops.Op.{Op}
use Rattle.c_syntax.specs.Plain.{CExpr, Number, Str, Null, Var, Unary, Step, Binary, Assign, Cond, Comma, Cast, SizeTy, SizeOf, Index, Call, Member, Arrow, CExprs, NoExpr, MoreExpr}
use Rattle.c_syntax.specs.declared.tree.UnOp.{UnOp}
use Rattle.c_syntax.specs.declared.tree.UnOp.TheVariants as unary
use Rattle.c_syntax.specs.declared.tree.BinOp.{BinOp}
use Rattle.c_syntax.specs.declared.tree.BinOp.TheVariants as binary
use Rattle.c_eval.specs.Environment.{Environment, type_in, value_type_in, pointee, member_offset, past, Callee, callee_in}
use Rattle.c_eval.specs.Eval.{step_op}
use Rattle.c_helpers.specs.Cost.{cost_of, costs_of}
use Rattle.c_lowered.specs.Locations.{Linking, is_quiet, known_place, named_direct, direct}
use Rattle.c_lowered.specs.Operations.{sum_code, fetched, operands, save, restore}
use Rattle.c_lowered.specs.Counts.{binary_jumps, binary_truth_jumps, unary_truth_jumps, names_known, expr_jumps, truth_jumps, exprs_jumps}
use Rattle.c_lowered.specs.Expressions.{known_name, known_code, call_code, value_code, place_code, truth_code, argument_code, arguments_code}
use Rattle.c_stated.specs.Counts.{binary_ops, binary_truth_ops, unary_truth_ops, expr_ops, truth_ops, exprs_ops}
use Rattle.c_stated.proofs.Pieces.{AtMost, most, weaker, joined, load_most, fetched_most, moved_on_most, operands_most, sum_most, tested_most, binary_code_most, binary_truth_most, unary_code_most, unary_truth_most, direct_or_most, loaded_most, stepped_most, assignment_most, choice_most, known_most, callee_most}

call_most : (known : Option (List ℕ)) (c : Callee) (d back : ℕ) (w : Linking) (pointer argument arguments : List Op) (m n : ℕ) → AtMost pointer m → AtMost argument (n + 3) → AtMost arguments n → AtMost (call_code d back w known c pointer argument arguments) (m + n + 9)
call_most None c d back w pointer argument arguments m n hp ha hs = callee_most c d back w pointer argument arguments m n hp ha hs
call_most (Some name) c d back w pointer argument arguments m n hp ha hs = weaker (joined {ys = known_code name} ha (known_most name)) (omega arith)

pair_most : (a b : CExpr) (w : Linking) (here : Environment) (k d : ℕ) → AtMost (value_code a w here k d) (expr_ops a) → ((i : ℕ) → AtMost (value_code b w (past a here) (k + expr_jumps a) i) (expr_ops b))
    → AtMost (operands d (is_quiet b) (direct a w here) (direct b w (past a here)) (value_code a w here k d) (λ d. value_code b w (past a here) (k + expr_jumps a) d)).code (expr_ops a + expr_ops b + 6)
pair_most a b w here k d ha hb = operands_most d (is_quiet b) (direct a w here) (direct b w (past a here)) (value_code a w here k d) (λ d. value_code b w (past a here) (k + expr_jumps a) d) (expr_ops a) (expr_ops b) ha hb

sum_pair_most : (a b : CExpr) (w : Linking) (here : Environment) (k d : ℕ) → AtMost (value_code a w here k d) (expr_ops a) → ((i : ℕ) → AtMost (value_code b w (past a here) (k + expr_jumps a) i) (expr_ops b))
    → AtMost (sum_code (operands d (is_quiet b) (direct a w here) (direct b w (past a here)) (value_code a w here k d) (λ d. value_code b w (past a here) (k + expr_jumps a) d))) (expr_ops a + expr_ops b + 6 + 1)
sum_pair_most a b w here k d ha hb = sum_most (operands d (is_quiet b) (direct a w here) (direct b w (past a here)) (value_code a w here k d) (λ d. value_code b w (past a here) (k + expr_jumps a) d)) (expr_ops a + expr_ops b + 6) (pair_most a b w here k d ha hb)

mutual
  pub value_most : (e : CExpr) (w : Linking) (here : Environment) (k d : ℕ) → AtMost (value_code e w here k d) (expr_ops e)
  value_most (Number at n u) w here k d = most (omega arith)
  value_most (Str at text) w here k d = most (omega arith)
  value_most (Null at) w here k d = most (omega arith)
  value_most (Var at name) w here k d = loaded_most (named_direct w here name _)
  value_most (Unary at op a) w here k d =
      direct_or_most (direct (Unary at op a) w here) _ (expr_ops a) (unary_code_most op (value_type_in here.scope a) (value_code a w here k d) _ (expr_ops a) (value_most a w here k d) (place_most a w here k d (value_code a w here k d) (value_most a w here k d)))
  value_most (Step at op a) w here k d =
      stepped_most (step_op op) op (known_place a w here) _ (expr_ops a) (place_most a w here k d (value_code a w here k d) (value_most a w here k d))
  value_most (Binary at op a b) w here k d =
      binary_code_most op _ k (truth_jumps a) (truth_jumps b) (truth_ops a) (truth_ops b) _ _ _ (expr_ops a) (expr_ops b)
      (λ h i. truth_most a w here k d (value_code a w here k d) (value_most a w here k d) h i)
      (λ h i. truth_most b w (past a here) (k + truth_jumps a) d (value_code b w (past a here) (k + truth_jumps a) d) (value_most b w (past a here) (k + truth_jumps a) d) h i)
      (pair_most a b w here k d (value_most a w here k d) (λ i. value_most b w (past a here) (k + expr_jumps a) i))
  value_most (Assign at op a b) w here k d =
      assignment_most op d (known_place a w here) (direct b w (past a here)) _ _ (expr_ops a) (expr_ops b)
      (place_most a w here k d (value_code a w here k d) (value_most a w here k d)) (λ i. value_most b w (past a here) (k + expr_jumps a) i)
  value_most (Cond at a b c) w here k d =
      choice_most k (truth_jumps a) (expr_jumps b) (expr_jumps c) (truth_ops a) (expr_ops b) (expr_ops c) _ _ _
      (λ i. truth_most a w here k d (value_code a w here k d) (value_most a w here k d) false i)
      (value_most b w (past a here) (k + truth_jumps a) d) (value_most c w (past b (past a here)) (k + truth_jumps a + expr_jumps b + 1) d)
  value_most (Comma at a b) w here k d = joined (value_most a w here k d) (value_most b w (past a here) (k + expr_jumps a) d)
  value_most (Cast at t a) w here k d = value_most a w here k d
  value_most (SizeTy at t) w here k d = most (omega arith)
  value_most (SizeOf at a) w here k d = most (omega arith)
  value_most (Index at a b) w here k d =
      weaker (joined {ys = fetched (type_in here.scope (Index at a b))} (sum_pair_most a b w here k d (value_most a w here k d) (λ i. value_most b w (past a here) (k + expr_jumps a) i)) (fetched_most (type_in here.scope (Index at a b)))) (omega arith)
  value_most (Call at f es) w here k d =
      call_most (known_name f) (callee_in here.scope f) d (k + expr_jumps f + exprs_jumps es + 1) w _ _ _ (expr_ops f) (exprs_ops es) (value_most f w here k d)
      (argument_most es w (past f here) (k + expr_jumps f) d) (arguments_most es w (past f here) (k + expr_jumps f) (suc d))
  value_most (Member at a m) w here k d =
      direct_or_most (direct (Member at a m) w here) _ (expr_ops a)
      (weaker (joined (place_most a w here k d (value_code a w here k d) (value_most a w here k d)) (joined (moved_on_most (member_offset here.scope.tags (type_in here.scope a) m)) (fetched_most (type_in here.scope (Member at a m))))) (omega arith))
  value_most (Arrow at a m) w here k d =
      weaker (joined (value_most a w here k d) (joined (moved_on_most (member_offset here.scope.tags (pointee (value_type_in here.scope a)) m)) (fetched_most (type_in here.scope (Arrow at a m))))) (omega arith)

  place_most : (e : CExpr) (w : Linking) (here : Environment) (k d : ℕ) (value : List Op) → AtMost value (expr_ops e) → AtMost (place_code e w here k d value) (expr_ops e)
  place_most (Var at name) w here k d value h = load_most A _
  place_most (Unary at op a) w here k d value h = weaker (value_most a w here k d) (omega arith)
  place_most (Index at a b) w here k d value h = weaker (sum_pair_most a b w here k d (value_most a w here k d) (λ i. value_most b w (past a here) (k + expr_jumps a) i)) (omega arith)
  place_most (Member at a m) w here k d value h = weaker (joined (place_most a w here k d (value_code a w here k d) (value_most a w here k d)) (moved_on_most (member_offset here.scope.tags (type_in here.scope a) m))) (omega arith)
  place_most (Arrow at a m) w here k d value h = weaker (joined (value_most a w here k d) (moved_on_most (member_offset here.scope.tags (pointee (value_type_in here.scope a)) m))) (omega arith)
  place_most (Number at n u) w here k d value h = h
  place_most (Str at text) w here k d value h = h
  place_most (Null at) w here k d value h = h
  place_most (SizeTy at t) w here k d value h = h
  place_most (SizeOf at a) w here k d value h = h
  place_most (Step at op a) w here k d value h = h
  place_most (Binary at op a b) w here k d value h = h
  place_most (Assign at op a b) w here k d value h = h
  place_most (Cond at a b c) w here k d value h = h
  place_most (Comma at a b) w here k d value h = h
  place_most (Cast at t a) w here k d value h = h
  place_most (Call at f es) w here k d value h = h

  pub truth_most : (e : CExpr) (w : Linking) (here : Environment) (k d : ℕ) (value : List Op) → AtMost value (expr_ops e) → (holds : Bool) (target : ℕ) → AtMost (truth_code e w here k d value holds target) (truth_ops e)
  truth_most (Unary at op a) w here k d value h holds target =
      unary_truth_most op holds target _ value (truth_ops a) (expr_ops a) (λ g i. truth_most a w here k d (value_code a w here k d) (value_most a w here k d) g i) h
  truth_most (Binary at op a b) w here k d value h holds target =
      binary_truth_most op _ holds target (k + truth_jumps a + truth_jumps b) _ _ _ value (truth_ops a) (truth_ops b) (expr_ops a) (expr_ops b)
      (λ g i. truth_most a w here k d (value_code a w here k d) (value_most a w here k d) g i)
      (λ g i. truth_most b w (past a here) (k + truth_jumps a) d (value_code b w (past a here) (k + truth_jumps a) d) (value_most b w (past a here) (k + truth_jumps a) d) g i)
      (pair_most a b w here k d (value_most a w here k d) (λ i. value_most b w (past a here) (k + expr_jumps a) i)) h
  truth_most (Number at n u) w here k d value h holds target = weaker (tested_most holds target value (expr_ops (Number at n u)) h) (omega arith)
  truth_most (Str at text) w here k d value h holds target = weaker (tested_most holds target value (expr_ops (Str at text)) h) (omega arith)
  truth_most (Null at) w here k d value h holds target = weaker (tested_most holds target value (expr_ops (Null at)) h) (omega arith)
  truth_most (Var at name) w here k d value h holds target = weaker (tested_most holds target value (expr_ops (Var at name)) h) (omega arith)
  truth_most (SizeTy at t) w here k d value h holds target = weaker (tested_most holds target value (expr_ops (SizeTy at t)) h) (omega arith)
  truth_most (SizeOf at a) w here k d value h holds target = weaker (tested_most holds target value (expr_ops (SizeOf at a)) h) (omega arith)
  truth_most (Step at op a) w here k d value h holds target = weaker (tested_most holds target value (expr_ops (Step at op a)) h) (omega arith)
  truth_most (Assign at op a b) w here k d value h holds target = weaker (tested_most holds target value (expr_ops (Assign at op a b)) h) (omega arith)
  truth_most (Cond at a b c) w here k d value h holds target = weaker (tested_most holds target value (expr_ops (Cond at a b c)) h) (omega arith)
  truth_most (Comma at a b) w here k d value h holds target = weaker (tested_most holds target value (expr_ops (Comma at a b)) h) (omega arith)
  truth_most (Cast at t a) w here k d value h holds target = weaker (tested_most holds target value (expr_ops (Cast at t a)) h) (omega arith)
  truth_most (Index at a b) w here k d value h holds target = weaker (tested_most holds target value (expr_ops (Index at a b)) h) (omega arith)
  truth_most (Call at f es) w here k d value h holds target = weaker (tested_most holds target value (expr_ops (Call at f es)) h) (omega arith)
  truth_most (Member at a m) w here k d value h holds target = weaker (tested_most holds target value (expr_ops (Member at a m)) h) (omega arith)
  truth_most (Arrow at a m) w here k d value h holds target = weaker (tested_most holds target value (expr_ops (Arrow at a m)) h) (omega arith)

  argument_most : (es : CExprs) (w : Linking) (here : Environment) (k d : ℕ) → AtMost (argument_code es w here k d) (exprs_ops es + 3)
  argument_most NoExpr w here k d = most (omega arith)
  argument_most (MoreExpr e NoExpr) w here k d = weaker (value_most e w here k d) (omega arith)
  argument_most (MoreExpr e (MoreExpr f es)) w here k d =
      weaker (joined (value_most e w here k d) (joined {xs = save d} {m = 3} (most (omega arith)) (joined {ys = restore A d} {n = 3} (arguments_most (MoreExpr f es) w (past e here) (k + expr_jumps e) (suc d)) (most (omega arith))))) (omega arith)

  arguments_most : (es : CExprs) (w : Linking) (here : Environment) (k d : ℕ) → AtMost (arguments_code es w here k d) (exprs_ops es)
  arguments_most NoExpr w here k d = most (omega arith)
  arguments_most (MoreExpr e es) w here k d =
      weaker (joined (value_most e w here k d) (joined {xs = save d} {m = 3} (most (omega arith)) (arguments_most es w (past e here) (k + expr_jumps e) (suc d)))) (omega arith)

-- ---- against the cost

binary_fits : (op : BinOp) (s t m n sj tj mj nj ca cb : ℕ) → s + sj + 1 ≤ ca → t + tj + 1 ≤ cb → m + mj + 3 ≤ ca → n + nj + 3 ≤ cb → binary_ops op s t m n + binary_jumps op sj tj mj nj + 3 ≤ 15 + ca + cb
binary_fits binary.And s t m n sj tj mj nj ca cb hs ht hm hn = omega (arith, hs, ht, hm, hn)
binary_fits binary.Or s t m n sj tj mj nj ca cb hs ht hm hn = omega (arith, hs, ht, hm, hn)
binary_fits binary.Add s t m n sj tj mj nj ca cb hs ht hm hn = omega (arith, hs, ht, hm, hn)
binary_fits binary.Sub s t m n sj tj mj nj ca cb hs ht hm hn = omega (arith, hs, ht, hm, hn)
binary_fits binary.BitOr s t m n sj tj mj nj ca cb hs ht hm hn = omega (arith, hs, ht, hm, hn)
binary_fits binary.BitXor s t m n sj tj mj nj ca cb hs ht hm hn = omega (arith, hs, ht, hm, hn)
binary_fits binary.BitAnd s t m n sj tj mj nj ca cb hs ht hm hn = omega (arith, hs, ht, hm, hn)
binary_fits binary.Shl s t m n sj tj mj nj ca cb hs ht hm hn = omega (arith, hs, ht, hm, hn)
binary_fits binary.Shr s t m n sj tj mj nj ca cb hs ht hm hn = omega (arith, hs, ht, hm, hn)
binary_fits binary.Mul s t m n sj tj mj nj ca cb hs ht hm hn = omega (arith, hs, ht, hm, hn)
binary_fits binary.Div s t m n sj tj mj nj ca cb hs ht hm hn = omega (arith, hs, ht, hm, hn)
binary_fits binary.Mod s t m n sj tj mj nj ca cb hs ht hm hn = omega (arith, hs, ht, hm, hn)
binary_fits binary.Eq s t m n sj tj mj nj ca cb hs ht hm hn = omega (arith, hs, ht, hm, hn)
binary_fits binary.Ne s t m n sj tj mj nj ca cb hs ht hm hn = omega (arith, hs, ht, hm, hn)
binary_fits binary.Lt s t m n sj tj mj nj ca cb hs ht hm hn = omega (arith, hs, ht, hm, hn)
binary_fits binary.Gt s t m n sj tj mj nj ca cb hs ht hm hn = omega (arith, hs, ht, hm, hn)
binary_fits binary.Le s t m n sj tj mj nj ca cb hs ht hm hn = omega (arith, hs, ht, hm, hn)
binary_fits binary.Ge s t m n sj tj mj nj ca cb hs ht hm hn = omega (arith, hs, ht, hm, hn)

binary_truth_fits : (op : BinOp) (s t m n sj tj mj nj ca cb : ℕ) → s + sj + 1 ≤ ca → t + tj + 1 ≤ cb → m + mj + 3 ≤ ca → n + nj + 3 ≤ cb → binary_truth_ops op s t m n + binary_truth_jumps op sj tj mj nj + 1 ≤ 15 + ca + cb
binary_truth_fits binary.And s t m n sj tj mj nj ca cb hs ht hm hn = omega (arith, hs, ht, hm, hn)
binary_truth_fits binary.Or s t m n sj tj mj nj ca cb hs ht hm hn = omega (arith, hs, ht, hm, hn)
binary_truth_fits binary.Add s t m n sj tj mj nj ca cb hs ht hm hn = omega (arith, hs, ht, hm, hn)
binary_truth_fits binary.Sub s t m n sj tj mj nj ca cb hs ht hm hn = omega (arith, hs, ht, hm, hn)
binary_truth_fits binary.BitOr s t m n sj tj mj nj ca cb hs ht hm hn = omega (arith, hs, ht, hm, hn)
binary_truth_fits binary.BitXor s t m n sj tj mj nj ca cb hs ht hm hn = omega (arith, hs, ht, hm, hn)
binary_truth_fits binary.BitAnd s t m n sj tj mj nj ca cb hs ht hm hn = omega (arith, hs, ht, hm, hn)
binary_truth_fits binary.Shl s t m n sj tj mj nj ca cb hs ht hm hn = omega (arith, hs, ht, hm, hn)
binary_truth_fits binary.Shr s t m n sj tj mj nj ca cb hs ht hm hn = omega (arith, hs, ht, hm, hn)
binary_truth_fits binary.Mul s t m n sj tj mj nj ca cb hs ht hm hn = omega (arith, hs, ht, hm, hn)
binary_truth_fits binary.Div s t m n sj tj mj nj ca cb hs ht hm hn = omega (arith, hs, ht, hm, hn)
binary_truth_fits binary.Mod s t m n sj tj mj nj ca cb hs ht hm hn = omega (arith, hs, ht, hm, hn)
binary_truth_fits binary.Eq s t m n sj tj mj nj ca cb hs ht hm hn = omega (arith, hs, ht, hm, hn)
binary_truth_fits binary.Ne s t m n sj tj mj nj ca cb hs ht hm hn = omega (arith, hs, ht, hm, hn)
binary_truth_fits binary.Lt s t m n sj tj mj nj ca cb hs ht hm hn = omega (arith, hs, ht, hm, hn)
binary_truth_fits binary.Gt s t m n sj tj mj nj ca cb hs ht hm hn = omega (arith, hs, ht, hm, hn)
binary_truth_fits binary.Le s t m n sj tj mj nj ca cb hs ht hm hn = omega (arith, hs, ht, hm, hn)
binary_truth_fits binary.Ge s t m n sj tj mj nj ca cb hs ht hm hn = omega (arith, hs, ht, hm, hn)

unary_truth_fits : (op : UnOp) (s m sj mj ca : ℕ) → s + sj + 1 ≤ ca → m + mj + 3 ≤ ca → unary_truth_ops op s m + unary_truth_jumps op sj mj + 1 ≤ 5 + ca
unary_truth_fits unary.Not s m sj mj ca hs hm = omega (arith, hs, hm)
unary_truth_fits unary.Address s m sj mj ca hs hm = omega (arith, hs, hm)
unary_truth_fits unary.Deref s m sj mj ca hs hm = omega (arith, hs, hm)
unary_truth_fits unary.Minus s m sj mj ca hs hm = omega (arith, hs, hm)
unary_truth_fits unary.Plus s m sj mj ca hs hm = omega (arith, hs, hm)
unary_truth_fits unary.Invert s m sj mj ca hs hm = omega (arith, hs, hm)

known_at_most : (b : Bool) → (if b then 0 else 1) ≤ 1
known_at_most true = omega arith
known_at_most false = omega arith

mutual
  pub value_fits : (e : CExpr) → expr_ops e + expr_jumps e + 3 ≤ cost_of e
  value_fits (Number at n u) = omega arith
  value_fits (Str at text) = omega arith
  value_fits (Null at) = omega arith
  value_fits (Var at name) = omega arith
  value_fits (Unary at op a) = omega (arith, value_fits a)
  value_fits (Step at op a) = omega (arith, value_fits a)
  value_fits (Binary at op a b) = binary_fits op (truth_ops a) (truth_ops b) (expr_ops a) (expr_ops b) (truth_jumps a) (truth_jumps b) (expr_jumps a) (expr_jumps b) (cost_of a) (cost_of b) (truth_fits a) (truth_fits b) (value_fits a) (value_fits b)
  value_fits (Assign at op a b) = omega (arith, value_fits a, value_fits b)
  value_fits (Cond at a b c) = omega (arith, truth_fits a, value_fits b, value_fits c)
  value_fits (Comma at a b) = omega (arith, value_fits a, value_fits b)
  value_fits (Cast at t a) = value_fits a
  value_fits (SizeTy at t) = omega arith
  value_fits (SizeOf at a) = omega arith
  value_fits (Index at a b) = omega (arith, value_fits a, value_fits b)
  value_fits (Call at f es) = omega (arith, value_fits f, values_fit es, known_at_most (names_known f))
  value_fits (Member at a m) = omega (arith, value_fits a)
  value_fits (Arrow at a m) = omega (arith, value_fits a)

  pub truth_fits : (e : CExpr) → truth_ops e + truth_jumps e + 1 ≤ cost_of e
  truth_fits (Number at n u) = omega arith
  truth_fits (Str at text) = omega arith
  truth_fits (Null at) = omega arith
  truth_fits (Var at name) = omega arith
  truth_fits (Unary at op a) = unary_truth_fits op (truth_ops a) (expr_ops a) (truth_jumps a) (expr_jumps a) (cost_of a) (truth_fits a) (value_fits a)
  truth_fits (Step at op a) = omega (arith, value_fits a)
  truth_fits (Binary at op a b) = binary_truth_fits op (truth_ops a) (truth_ops b) (expr_ops a) (expr_ops b) (truth_jumps a) (truth_jumps b) (expr_jumps a) (expr_jumps b) (cost_of a) (cost_of b) (truth_fits a) (truth_fits b) (value_fits a) (value_fits b)
  truth_fits (Assign at op a b) = omega (arith, value_fits a, value_fits b)
  truth_fits (Cond at a b c) = omega (arith, truth_fits a, value_fits b, value_fits c)
  truth_fits (Comma at a b) = omega (arith, value_fits a, value_fits b)
  truth_fits (Cast at t a) = omega (arith, value_fits a)
  truth_fits (SizeTy at t) = omega arith
  truth_fits (SizeOf at a) = omega arith
  truth_fits (Index at a b) = omega (arith, value_fits a, value_fits b)
  truth_fits (Call at f es) = omega (arith, value_fits f, values_fit es, known_at_most (names_known f))
  truth_fits (Member at a m) = omega (arith, value_fits a)
  truth_fits (Arrow at a m) = omega (arith, value_fits a)

  values_fit : (es : CExprs) → exprs_ops es + exprs_jumps es ≤ costs_of es
  values_fit NoExpr = omega arith
  values_fit (MoreExpr e es) = omega (arith, value_fits e, values_fit es)
