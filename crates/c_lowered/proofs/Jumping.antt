-- The jumps of the code of expressions.
use Rattle.std.proofs.Common.{◌≡◌, ℕ, suc, ◌+◌, ◌⊎◌, inl, inr, Bool, true, false, List, Option, Some, None, refl, ap, arith, if◌then◌else◌}
use Rattle.eir_core.specs.declared.ops.Reg.TheVariants.{A}
use Rattle.eir_core.specs.declared.ops.Op.{Op}
use Rattle.std.specs.Option.{option_map, option_and_then}
use Rattle.c_syntax.specs.Plain.{CExpr, Number, Str, Null, Var, Unary, Step, Binary, Assign, Cond, Comma, Cast, SizeTy, SizeOf, Index, Call, Member, Arrow, CExprs, NoExpr, MoreExpr}
use Rattle.c_syntax.specs.declared.tree.UnOp.{UnOp}
use Rattle.c_syntax.specs.declared.tree.UnOp.TheVariants as unary
use Rattle.c_types.specs.Scope.{Scope}
use Rattle.c_types.specs.Expressions.{names_function}
use Rattle.c_eval.specs.Environment.{Environment, type_in, value_type_in, past, Callee, Through, callee_in}
use Rattle.c_eval.specs.Eval.{step_op}
use Rattle.c_lowered.specs.Locations.{Location, Linking, Direct, Exactly, is_quiet, known_place, named_direct, direct, unary_direct}
use Rattle.c_lowered.specs.Operations.{sum_code, loaded, fetched, operands, save, restore, update_by}
use Rattle.c_lowered.specs.Counts.{is_known_to_helpers, names_known, expr_jumps, truth_jumps, exprs_jumps}
use Rattle.c_lowered.specs.Expressions.{known_name, call_code, known_code, step_back, value_code, place_code, truth_code, argument_code, arguments_code}
use Rattle.c_lowered.proofs.Quiet.{HasJumps, exactly, the_same, load_jumps, fetched_jumps, moved_on_jumps, step_back_jumps, known_jumps, and_quiet, quiet_and, and_then, operands_jumps, sum_jumps, tested_jumps, binary_code_jumps, binary_truth_jumps_are, unary_code_jumps, unary_truth_jumps_are, direct_or_jumps, pointed_jumps, update_by_jumps, assignment_jumps, choice_jumps, callee_jumps, through_jumps}

-- what is made of something is made of some
mapped : {X Y : Type 0} (f : X → Y) (x : Option X) (y : Y) → option_map f x ≡ Some y → (z : X) × (x ≡ Some z)
mapped f None y h = absurd (cc h)
mapped f (Some z) y h = (z, refl)

chained : {X Y : Type 0} (f : X → Option Y) (x : Option X) (y : Y) → option_and_then f x ≡ Some y → (z : X) × (x ≡ Some z)
chained f None y h = absurd (cc h)
chained f (Some z) y h = (z, refl)

pub place_is_quiet : (e : CExpr) (w : Linking) (here : Environment) (l : Location) → known_place e w here ≡ Some l → expr_jumps e ≡ 0
place_is_quiet (Str at text) w here l h = refl
place_is_quiet (Var at name) w here l h = refl
place_is_quiet (Member at a m) w here l h = let x = mapped _ (known_place a w here) l h in place_is_quiet a w here x.0 x.1
place_is_quiet (Number at n u) w here l h = refl
place_is_quiet (Null at) w here l h = refl
place_is_quiet (SizeTy at t) w here l h = refl
place_is_quiet (SizeOf at a) w here l h = refl
place_is_quiet (Unary at op a) w here l h = absurd (cc h)
place_is_quiet (Step at op a) w here l h = absurd (cc h)
place_is_quiet (Binary at op a b) w here l h = absurd (cc h)
place_is_quiet (Assign at op a b) w here l h = absurd (cc h)
place_is_quiet (Cond at a b c) w here l h = absurd (cc h)
place_is_quiet (Comma at a b) w here l h = absurd (cc h)
place_is_quiet (Cast at t a) w here l h = absurd (cc h)
place_is_quiet (Index at a b) w here l h = absurd (cc h)
place_is_quiet (Call at f es) w here l h = absurd (cc h)
place_is_quiet (Arrow at a m) w here l h = absurd (cc h)

unary_is_quiet : (op : UnOp) (is_function : Bool) (v : Option Direct) (l : Option Location) (n : ℕ) (x : Direct)
    → ((u : Direct) → v ≡ Some u → n ≡ 0) → ((y : Location) → l ≡ Some y → n ≡ 0) → unary_direct op is_function v l ≡ Some x → n ≡ 0
unary_is_quiet unary.Address true v l n x hv hl h = hv x h
unary_is_quiet unary.Address false (v) None n x hv hl h = absurd (cc h)
unary_is_quiet unary.Address false (v) (Some y) n x hv hl h = hl y refl
unary_is_quiet unary.Minus b None l n x hv hl h = absurd (cc h)
unary_is_quiet unary.Minus b (Some u) l n x hv hl h = hv u refl
unary_is_quiet unary.Deref b v l n x hv hl h = absurd (cc h)
unary_is_quiet unary.Plus b v l n x hv hl h = absurd (cc h)
unary_is_quiet unary.Not b v l n x hv hl h = absurd (cc h)
unary_is_quiet unary.Invert b v l n x hv hl h = absurd (cc h)

pub direct_is_quiet : (e : CExpr) (w : Linking) (here : Environment) (v : Direct) → direct e w here ≡ Some v → expr_jumps e ≡ 0
direct_is_quiet (Unary at op a) w here v h =
    unary_is_quiet op (names_function here.scope a) (direct a w here) (known_place a w here) (expr_jumps a) v (λ u e. direct_is_quiet a w here u e) (λ y e. place_is_quiet a w here y e) h
direct_is_quiet (Cast at t a) w here v h = direct_is_quiet a w here v h
direct_is_quiet (Member at a m) w here v h = let x = chained _ (known_place a w here) v h in place_is_quiet a w here x.0 x.1
direct_is_quiet (Number at n u) w here v h = refl
direct_is_quiet (Str at text) w here v h = refl
direct_is_quiet (Null at) w here v h = refl
direct_is_quiet (Var at name) w here v h = refl
direct_is_quiet (SizeTy at t) w here v h = refl
direct_is_quiet (SizeOf at a) w here v h = refl
direct_is_quiet (Step at op a) w here v h = absurd (cc h)
direct_is_quiet (Binary at op a b) w here v h = absurd (cc h)
direct_is_quiet (Assign at op a b) w here v h = absurd (cc h)
direct_is_quiet (Cond at a b c) w here v h = absurd (cc h)
direct_is_quiet (Comma at a b) w here v h = absurd (cc h)
direct_is_quiet (Index at a b) w here v h = absurd (cc h)
direct_is_quiet (Call at f es) w here v h = absurd (cc h)
direct_is_quiet (Arrow at a m) w here v h = absurd (cc h)

loaded_jumps : (v : Option Direct) → HasJumps (loaded v) 0
loaded_jumps None = exactly refl
loaded_jumps (Some v) = load_jumps A v

-- what is called has a name, or is called through its value
callee_form : (s : Scope) (f : CExpr) → (expr_jumps f ≡ 0) ⊎ ((ts : _) × (callee_in s f ≡ Through ts))
callee_form s (Var at name) = inl refl
callee_form s (Number at n u) = inr (_, refl)
callee_form s (Str at text) = inr (_, refl)
callee_form s (Null at) = inr (_, refl)
callee_form s (SizeTy at t) = inr (_, refl)
callee_form s (SizeOf at a) = inr (_, refl)
callee_form s (Unary at op a) = inr (_, refl)
callee_form s (Step at op a) = inr (_, refl)
callee_form s (Binary at op a b) = inr (_, refl)
callee_form s (Assign at op a b) = inr (_, refl)
callee_form s (Cond at a b c) = inr (_, refl)
callee_form s (Comma at a b) = inr (_, refl)
callee_form s (Cast at t a) = inr (_, refl)
callee_form s (Index at a b) = inr (_, refl)
callee_form s (Call at f es) = inr (_, refl)
callee_form s (Member at a m) = inr (_, refl)
callee_form s (Arrow at a m) = inr (_, refl)

record IsKnown (f : CExpr) : Type 0 where
  name : List ℕ
  is : known_name f ≡ Some name
  known : names_known f ≡ true
  quiet : expr_jumps f ≡ 0

known_form : (f : CExpr) → IsKnown f ⊎ ((known_name f ≡ None) × (names_known f ≡ false))
known_form (Var at name) = by (is_known_to_helpers name) refl
  where
    by : (b : Bool) → is_known_to_helpers name ≡ b → IsKnown (Var at name) ⊎ ((known_name (Var at name) ≡ None) × (names_known (Var at name) ≡ false))
    by true e = inl (record { name = name; is = ap (λ t. if t then Some name else None) e; known = e; quiet = refl })
    by false e = inr (ap (λ t. if t then Some name else None) e, e)
known_form (Number at n u) = inr (refl, refl)
known_form (Str at text) = inr (refl, refl)
known_form (Null at) = inr (refl, refl)
known_form (SizeTy at t) = inr (refl, refl)
known_form (SizeOf at a) = inr (refl, refl)
known_form (Unary at op a) = inr (refl, refl)
known_form (Step at op a) = inr (refl, refl)
known_form (Binary at op a b) = inr (refl, refl)
known_form (Assign at op a b) = inr (refl, refl)
known_form (Cond at a b c) = inr (refl, refl)
known_form (Comma at a b) = inr (refl, refl)
known_form (Cast at t a) = inr (refl, refl)
known_form (Index at a b) = inr (refl, refl)
known_form (Call at f es) = inr (refl, refl)
known_form (Member at a m) = inr (refl, refl)
known_form (Arrow at a m) = inr (refl, refl)

call_jumps : (s : Scope) (f : CExpr) (d back : ℕ) (w : Linking) (pointer argument arguments : List Op) (n : ℕ) → HasJumps pointer (expr_jumps f) → HasJumps argument n → HasJumps arguments n
    → HasJumps (call_code d back w (known_name f) (callee_in s f) pointer argument arguments) (expr_jumps f + n + (if names_known f then 0 else 1))
call_jumps s f d back w pointer argument arguments n hp ha hs = by (known_form f) (callee_form s f)
  where
    named : (x : Option (List ℕ)) (c : Callee) (known : Bool) → known_name f ≡ x → callee_in s f ≡ c → names_known f ≡ known
        → HasJumps (call_code d back w x c pointer argument arguments) (expr_jumps f + n + (if known then 0 else 1))
        → HasJumps (call_code d back w (known_name f) (callee_in s f) pointer argument arguments) (expr_jumps f + n + (if names_known f then 0 else 1))
    named x c known hx hc hk h = rw (hx, hc, hk) h

    by : IsKnown f ⊎ ((known_name f ≡ None) × (names_known f ≡ false)) → (expr_jumps f ≡ 0) ⊎ ((ts : _) × (callee_in s f ≡ Through ts))
        → HasJumps (call_code d back w (known_name f) (callee_in s f) pointer argument arguments) (expr_jumps f + n + (if names_known f then 0 else 1))
    by (inl k) c = named (Some k.name) (callee_in s f) true k.is refl k.known (the_same (and_quiet {ys = known_code k.name} ha (known_jumps k.name)) (omega (arith, k.quiet)))
    by (inr (h, e)) (inl q) = named None (callee_in s f) false h refl e (the_same (callee_jumps (callee_in s f) d back w pointer argument arguments n (the_same hp q) ha hs) (omega (arith, q)))
    by (inr (h, e)) (inr (ts, t)) = named None (Through ts) false h t e (through_jumps ts d back w pointer argument arguments (expr_jumps f) n hp hs)

pair_jumps : (a b : CExpr) (w : Linking) (here : Environment) (k d : ℕ) → HasJumps (value_code a w here k d) (expr_jumps a) → ((i : ℕ) → HasJumps (value_code b w (past a here) (k + expr_jumps a) i) (expr_jumps b))
    → HasJumps (operands d (is_quiet b) (direct a w here) (direct b w (past a here)) (value_code a w here k d) (λ d. value_code b w (past a here) (k + expr_jumps a) d)).code (expr_jumps a + expr_jumps b)
pair_jumps a b w here k d ha hb =
    operands_jumps d (is_quiet b) (direct a w here) (direct b w (past a here)) (value_code a w here k d) (λ d. value_code b w (past a here) (k + expr_jumps a) d) (expr_jumps a) (expr_jumps b) ha hb
    (λ v e. direct_is_quiet a w here v e) (λ v e. direct_is_quiet b w (past a here) v e)

sum_pair_jumps : (a b : CExpr) (w : Linking) (here : Environment) (k d : ℕ) → HasJumps (value_code a w here k d) (expr_jumps a) → ((i : ℕ) → HasJumps (value_code b w (past a here) (k + expr_jumps a) i) (expr_jumps b))
    → HasJumps (sum_code (operands d (is_quiet b) (direct a w here) (direct b w (past a here)) (value_code a w here k d) (λ d. value_code b w (past a here) (k + expr_jumps a) d))) (expr_jumps a + expr_jumps b)
sum_pair_jumps a b w here k d ha hb =
    sum_jumps (operands d (is_quiet b) (direct a w here) (direct b w (past a here)) (value_code a w here k d) (λ d. value_code b w (past a here) (k + expr_jumps a) d)) (expr_jumps a + expr_jumps b) (pair_jumps a b w here k d ha hb)

mutual
  pub value_jumps : (e : CExpr) (w : Linking) (here : Environment) (k d : ℕ) → HasJumps (value_code e w here k d) (expr_jumps e)
  value_jumps (Number at n u) w here k d = exactly refl
  value_jumps (Str at text) w here k d = exactly refl
  value_jumps (Null at) w here k d = exactly refl
  value_jumps (Var at name) w here k d = loaded_jumps (named_direct w here name _)
  value_jumps (Unary at op a) w here k d =
      direct_or_jumps (direct (Unary at op a) w here) _ (expr_jumps a)
      (unary_code_jumps op (value_type_in here.scope a) (value_code a w here k d) _ (expr_jumps a) (value_jumps a w here k d) (place_jumps a w here k d (value_code a w here k d) (value_jumps a w here k d)))
      (λ u e. direct_is_quiet (Unary at op a) w here u e)
  value_jumps (Step at op a) w here k d =
      and_quiet
      (pointed_jumps (known_place a w here) _ (expr_jumps a) (place_jumps a w here k d (value_code a w here k d) (value_jumps a w here k d)) (λ l e. place_is_quiet a w here l e))
      (and_quiet {xs = update_by (step_op op) (Exactly 1)} {ys = step_back op} (update_by_jumps (step_op op) (Exactly 1)) (step_back_jumps op))
  value_jumps (Binary at op a b) w here k d =
      binary_code_jumps op _ k (truth_jumps a) (truth_jumps b) _ _ _ (expr_jumps a) (expr_jumps b)
      (λ h i. truth_jumps_are a w here k d (value_code a w here k d) (value_jumps a w here k d) h i)
      (λ h i. truth_jumps_are b w (past a here) (k + truth_jumps a) d (value_code b w (past a here) (k + truth_jumps a) d) (value_jumps b w (past a here) (k + truth_jumps a) d) h i)
      (pair_jumps a b w here k d (value_jumps a w here k d) (λ i. value_jumps b w (past a here) (k + expr_jumps a) i))
  value_jumps (Assign at op a b) w here k d =
      assignment_jumps op d (known_place a w here) (direct b w (past a here)) _ _ (expr_jumps a) (expr_jumps b)
      (place_jumps a w here k d (value_code a w here k d) (value_jumps a w here k d)) (λ i. value_jumps b w (past a here) (k + expr_jumps a) i)
      (λ l e. place_is_quiet a w here l e) (λ v e. direct_is_quiet b w (past a here) v e)
  value_jumps (Cond at a b c) w here k d =
      choice_jumps k (truth_jumps a) (expr_jumps b) (expr_jumps c) _ _ _
      (λ i. truth_jumps_are a w here k d (value_code a w here k d) (value_jumps a w here k d) false i)
      (value_jumps b w (past a here) (k + truth_jumps a) d) (value_jumps c w (past b (past a here)) (k + truth_jumps a + expr_jumps b + 1) d)
  value_jumps (Comma at a b) w here k d = and_then (value_jumps a w here k d) (value_jumps b w (past a here) (k + expr_jumps a) d)
  value_jumps (Cast at t a) w here k d = value_jumps a w here k d
  value_jumps (SizeTy at t) w here k d = exactly refl
  value_jumps (SizeOf at a) w here k d = exactly refl
  value_jumps (Index at a b) w here k d = and_quiet {ys = fetched (type_in here.scope (Index at a b))} (sum_pair_jumps a b w here k d (value_jumps a w here k d) (λ i. value_jumps b w (past a here) (k + expr_jumps a) i)) (fetched_jumps (type_in here.scope (Index at a b)))
  value_jumps (Call at f es) w here k d =
      call_jumps here.scope f d (k + expr_jumps f + exprs_jumps es + 1) w _ _ _ (exprs_jumps es) (value_jumps f w here k d)
      (argument_jumps es w (past f here) (k + expr_jumps f) d) (arguments_jumps es w (past f here) (k + expr_jumps f) (suc d))
  value_jumps (Member at a m) w here k d =
      direct_or_jumps (direct (Member at a m) w here) _ (expr_jumps a)
      (and_quiet (place_jumps a w here k d (value_code a w here k d) (value_jumps a w here k d)) (and_quiet (moved_on_jumps _) (fetched_jumps _)))
      (λ u e. direct_is_quiet (Member at a m) w here u e)
  value_jumps (Arrow at a m) w here k d = and_quiet (value_jumps a w here k d) (and_quiet (moved_on_jumps _) (fetched_jumps _))

  pub place_jumps : (e : CExpr) (w : Linking) (here : Environment) (k d : ℕ) (value : List Op) → HasJumps value (expr_jumps e) → HasJumps (place_code e w here k d value) (expr_jumps e)
  place_jumps (Var at name) w here k d value h = load_jumps A _
  place_jumps (Unary at op a) w here k d value h = value_jumps a w here k d
  place_jumps (Index at a b) w here k d value h = sum_pair_jumps a b w here k d (value_jumps a w here k d) (λ i. value_jumps b w (past a here) (k + expr_jumps a) i)
  place_jumps (Member at a m) w here k d value h = and_quiet (place_jumps a w here k d (value_code a w here k d) (value_jumps a w here k d)) (moved_on_jumps _)
  place_jumps (Arrow at a m) w here k d value h = and_quiet (value_jumps a w here k d) (moved_on_jumps _)
  place_jumps (Number at n u) w here k d value h = h
  place_jumps (Str at text) w here k d value h = h
  place_jumps (Null at) w here k d value h = h
  place_jumps (SizeTy at t) w here k d value h = h
  place_jumps (SizeOf at a) w here k d value h = h
  place_jumps (Step at op a) w here k d value h = h
  place_jumps (Binary at op a b) w here k d value h = h
  place_jumps (Assign at op a b) w here k d value h = h
  place_jumps (Cond at a b c) w here k d value h = h
  place_jumps (Comma at a b) w here k d value h = h
  place_jumps (Cast at t a) w here k d value h = h
  place_jumps (Call at f es) w here k d value h = h

  pub truth_jumps_are : (e : CExpr) (w : Linking) (here : Environment) (k d : ℕ) (value : List Op) → HasJumps value (expr_jumps e) → (holds : Bool) (target : ℕ) → HasJumps (truth_code e w here k d value holds target) (truth_jumps e)
  truth_jumps_are (Unary at op a) w here k d value h holds target =
      unary_truth_jumps_are op holds target _ value (truth_jumps a) (expr_jumps a) (λ g i. truth_jumps_are a w here k d (value_code a w here k d) (value_jumps a w here k d) g i) h
  truth_jumps_are (Binary at op a b) w here k d value h holds target =
      binary_truth_jumps_are op _ holds target (k + truth_jumps a + truth_jumps b) _ _ _ value (truth_jumps a) (truth_jumps b) (expr_jumps a) (expr_jumps b)
      (λ g i. truth_jumps_are a w here k d (value_code a w here k d) (value_jumps a w here k d) g i)
      (λ g i. truth_jumps_are b w (past a here) (k + truth_jumps a) d (value_code b w (past a here) (k + truth_jumps a) d) (value_jumps b w (past a here) (k + truth_jumps a) d) g i)
      (pair_jumps a b w here k d (value_jumps a w here k d) (λ i. value_jumps b w (past a here) (k + expr_jumps a) i)) h
  truth_jumps_are (Number at n u) w here k d value h holds target = the_same (tested_jumps holds target value (expr_jumps (Number at n u)) h) (omega arith)
  truth_jumps_are (Str at text) w here k d value h holds target = the_same (tested_jumps holds target value (expr_jumps (Str at text)) h) (omega arith)
  truth_jumps_are (Null at) w here k d value h holds target = the_same (tested_jumps holds target value (expr_jumps (Null at)) h) (omega arith)
  truth_jumps_are (Var at name) w here k d value h holds target = the_same (tested_jumps holds target value (expr_jumps (Var at name)) h) (omega arith)
  truth_jumps_are (SizeTy at t) w here k d value h holds target = the_same (tested_jumps holds target value (expr_jumps (SizeTy at t)) h) (omega arith)
  truth_jumps_are (SizeOf at a) w here k d value h holds target = the_same (tested_jumps holds target value (expr_jumps (SizeOf at a)) h) (omega arith)
  truth_jumps_are (Step at op a) w here k d value h holds target = the_same (tested_jumps holds target value (expr_jumps (Step at op a)) h) (omega arith)
  truth_jumps_are (Assign at op a b) w here k d value h holds target = the_same (tested_jumps holds target value (expr_jumps (Assign at op a b)) h) (omega arith)
  truth_jumps_are (Cond at a b c) w here k d value h holds target = the_same (tested_jumps holds target value (expr_jumps (Cond at a b c)) h) (omega arith)
  truth_jumps_are (Comma at a b) w here k d value h holds target = the_same (tested_jumps holds target value (expr_jumps (Comma at a b)) h) (omega arith)
  truth_jumps_are (Cast at t a) w here k d value h holds target = the_same (tested_jumps holds target value (expr_jumps (Cast at t a)) h) (omega arith)
  truth_jumps_are (Index at a b) w here k d value h holds target = the_same (tested_jumps holds target value (expr_jumps (Index at a b)) h) (omega arith)
  truth_jumps_are (Call at f es) w here k d value h holds target = the_same (tested_jumps holds target value (expr_jumps (Call at f es)) h) (omega arith)
  truth_jumps_are (Member at a m) w here k d value h holds target = the_same (tested_jumps holds target value (expr_jumps (Member at a m)) h) (omega arith)
  truth_jumps_are (Arrow at a m) w here k d value h holds target = the_same (tested_jumps holds target value (expr_jumps (Arrow at a m)) h) (omega arith)

  argument_jumps : (es : CExprs) (w : Linking) (here : Environment) (k d : ℕ) → HasJumps (argument_code es w here k d) (exprs_jumps es)
  argument_jumps NoExpr w here k d = exactly refl
  argument_jumps (MoreExpr e NoExpr) w here k d = the_same (value_jumps e w here k d) (omega arith)
  argument_jumps (MoreExpr e (MoreExpr f es)) w here k d =
      and_then (value_jumps e w here k d)
      (quiet_and {xs = save d} (exactly refl) (and_quiet {ys = restore A d} (arguments_jumps (MoreExpr f es) w (past e here) (k + expr_jumps e) (suc d)) (exactly refl)))

  arguments_jumps : (es : CExprs) (w : Linking) (here : Environment) (k d : ℕ) → HasJumps (arguments_code es w here k d) (exprs_jumps es)
  arguments_jumps NoExpr w here k d = exactly refl
  arguments_jumps (MoreExpr e es) w here k d =
      and_then (value_jumps e w here k d) (quiet_and {xs = save d} (exactly refl) (arguments_jumps es w (past e here) (k + expr_jumps e) (suc d)))
