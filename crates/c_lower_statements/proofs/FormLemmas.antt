-- Statements by their forms.
use Rattle.std.proofs.Common.{◌≡◌, ◌+◌, ℕ, List, [], ◌++◌, length, length-append, Option, Some, None, refl, sym, ap, subst, ◌∙◌, arith}
use Rattle.eir_core.specs.declared.ops.Op.{Op}
use Rattle.c_syntax.specs.Plain as plain
use Rattle.c_syntax.specs.Plain.{CExpr, CValue, CDecl, CStmt, CStmts, CPart, CParts}
use Rattle.c_types.specs.Scope.{Scope, entered}
use Rattle.c_types.specs.Census.{scope_behind_all, scope_behind_head}
use Rattle.c_eval.specs.Environment.{Environment, object_type_in, parts_objects, behind_literals, past, past_maybe, past_first, past_stmt, declaring, behind, behind_all, in_block}
use Rattle.c_eval.specs.LiteralsIn.{literals_in, maybe_literals, value_literals, first_literals, stmt_literals, stmts_literals, parts_literals}
use Rattle.c_cells.specs.declared.structs.StructKinds.{StructKinds}
use Rattle.c_cells.specs.Structs.{AreStructKinds}
use Rattle.c_cells.proofs.StructLemmas.{struct_kinds_kept}
use Rattle.c_fitting.specs.Blocks.{IsNoDeclaration}
use Rattle.c_lowered.specs.Locations.{Linking, with_block, located}
use Rattle.c_lowered.specs.Counts.{expr_jumps, truth_jumps, maybe_jumps, maybe_truth_jumps, first_jumps, maybe_first_jumps, stmt_jumps, stmts_jumps, case_jumps, parts_jumps}
use Rattle.c_lowered.specs.Expressions.{value_code, unless_code, where_code}
use Rattle.c_lowered.specs.Statements as definition
use Rattle.c_lowered.specs.Statements.{targets, jump_to, maybe_unless_code, maybe_effect_code, loop_code, for_code, first_code, declaration_code, offset_in_frame, words_in, cases_code, default_block, stmt_code, stmts_code, parts_code}
use Rattle.c_counted.specs.Numbers.{IsNumber}
use Rattle.c_addressing.specs.declared.here.Here.{Here}
use Rattle.c_addressing.specs.declared.here.Output.{Output}
use Rattle.c_addressing.specs.Here.{Emits}
use Rattle.c_addressing.proofs.HereLemmas.{both}
use Rattle.c_applied.specs.Leads.{Leads, Keeps}
use Rattle.c_applied.proofs.LeadsLemmas.{leads, as_count, then_piece, piece_then, told_block, piece_leads}
use Rattle.c_lower_blocks.specs.declared.blocks.Block.{Block}
use Rattle.c_lower_blocks.specs.declared.locals.Local.{Local}
use Rattle.c_lower_blocks.specs.Blocks.{IsSame}
use Rattle.c_lower_blocks.specs.Standing.{Stands, StandsIn, Goes, IsDeclared}
use Rattle.c_lower_blocks.proofs.StandingLemmas.{goes_then}
use Rattle.c_lower_statements.specs.declared.targets.Targets.{Targets}
use Rattle.c_lower_statements.specs.Lowered.{IsPlaced, Reaches, Lowers, LowersPart, Turns}
use Rattle.c_lower_statements.proofs.PlaceLemmas.{past_is, behind_both, maybe_place, three_behind, four_behind, length_three, length_four, behind_all_scope, no_block, other_code, other_scope, declared_tags}
use Rattle.c_lower_statements.proofs.ReachLemmas.{placed_still, placed_on, placed_same, placed_at, reach_as, reach_then, leads_reach, piece_reach, literals_reach, reach_piece, reached_by, reach_past}

-- ---- choices

if_ends : (m a b : ℕ) → m + a + b + 1 ≡ m + (a + b + 1)
if_ends m a b = omega arith

else_ends : (m a b c : ℕ) → m + a + b + 1 + c + 1 ≡ m + (a + b + c + 2)
else_ends m a b c = omega arith

pub if_reach : {a b c d : Output} {f : Here} {kinds : StructKinds} {l : Block} {w : Linking} {u v told x y : ℕ} (env : Environment) (n m : ℕ) (p : definition.Targets) (e : CExpr) (t : CStmt) → IsNoDeclaration t
    → Leads a b (unless_code e w env m n (m + truth_jumps e + stmt_jumps t + 1)) (length (literals_in env.scope e)) u x
    → Reaches b c f kinds l w (behind t (past e env)) n (stmt_code t w (past e env) (m + truth_jumps e) n p) (length (stmt_literals env.scope t)) v y → Emits c d (jump_to (m + truth_jumps e + stmt_jumps t + 1)) 0
    → IsNumber told (m + truth_jumps e + stmt_jumps t + 1) → Reaches a d f kinds l w (past_stmt (plain.If e t) env) n (stmt_code (plain.If e t) w env m n p) (length (stmt_literals env.scope (plain.If e t))) told (m + stmt_jumps (plain.If e t))
if_reach env n m p e t none first inner last told =
    let ls = literals_in env.scope e in
    let ms = stmt_literals env.scope t in
    reach_as (behind_both ls ms env) refl (sym (length-append ls ms)) (if_ends m (truth_jumps e) (stmt_jumps t)) (leads_reach first (reach_piece (reach_past (past e env) t none inner) last told))

pub else_reach : {a b c d g i : Output} {f j : Here} {kinds : StructKinds} {l o : Block} {w : Linking} {u v r told x y z : ℕ} (env : Environment) (n m : ℕ) (p : definition.Targets) (e : CExpr) (t s : CStmt) → IsNoDeclaration s
    → Leads a b (unless_code e w env m n (m + truth_jumps e + stmt_jumps t + 1)) (length (literals_in env.scope e)) u x
    → Reaches b c f kinds l w (behind t (past e env)) n (stmt_code t w (past e env) (m + truth_jumps e) n p) (length (stmt_literals env.scope t)) v y
    → Emits c d (jump_to (m + truth_jumps e + stmt_jumps t + 1 + stmt_jumps s + 1)) 0
    → Reaches d g j kinds o w (behind s (past_stmt t (past e env))) n (stmt_code s w (past_stmt t (past e env)) (m + truth_jumps e + stmt_jumps t + 1) n p) (length (stmt_literals env.scope s)) r z
    → Emits g i (jump_to (m + truth_jumps e + stmt_jumps t + 1 + stmt_jumps s + 1)) 0 → IsNumber told (m + truth_jumps e + stmt_jumps t + 1 + stmt_jumps s + 1)
    → Reaches a i j kinds o w (past_stmt (plain.IfElse e t s) env) n (stmt_code (plain.IfElse e t s) w env m n p) (length (stmt_literals env.scope (plain.IfElse e t s))) told (m + stmt_jumps (plain.IfElse e t s))
else_reach env n m p e t s none first inner over second last told =
    let ls = literals_in env.scope e in
    let ms = stmt_literals env.scope t in
    let ns = stmt_literals env.scope s in
    reach_as (three_behind ls ms ns env) refl (length_three ls ms ns) (else_ends m (truth_jumps e) (stmt_jumps t) (stmt_jumps s))
    (leads_reach first (reach_then inner (piece_reach over (reach_piece (reach_past (past_stmt t (past e env)) s none second) last told))))

-- ---- loops

while_ends : (m a b : ℕ) → m + 1 + a + b + 1 ≡ m + (a + b + 2)
while_ends m a b = omega arith

do_ends : (m a b : ℕ) → m + 1 + a + 1 + b ≡ m + (a + b + 2)
do_ends m a b = omega arith

for_ends : (m a b c : ℕ) → m + 1 + a + b + 1 + c + 1 ≡ m + (a + b + c + 3)
for_ends m a b c = omega arith

pub while_reach : {a b c d g : Output} {f : Here} {kinds : StructKinds} {l : Block} {w : Linking} {u v told x y : ℕ} (env : Environment) (n m : ℕ) (p : definition.Targets) (e : CExpr) (t : CStmt) → IsNoDeclaration t → Emits a b (jump_to (m + 1)) 0
    → Leads b c (unless_code e w env (m + 1) n (m + 1 + truth_jumps e + stmt_jumps t + 1)) (length (literals_in env.scope e)) u x
    → Reaches c d f kinds l w (behind t (past e env)) n (stmt_code t w (past e env) (m + 1 + truth_jumps e) n (targets (m + 1 + truth_jumps e + stmt_jumps t + 1) (m + 1))) (length (stmt_literals env.scope t)) v y
    → Emits d g (jump_to (m + 1)) 0 → IsNumber told (m + 1 + truth_jumps e + stmt_jumps t + 1)
    → Reaches a g f kinds l w (past_stmt (plain.While e t) env) n (stmt_code (plain.While e t) w env m n p) (length (stmt_literals env.scope (plain.While e t))) told (m + stmt_jumps (plain.While e t))
while_reach env n m p e t none start first inner last told =
    let ls = literals_in env.scope e in
    let ms = stmt_literals env.scope t in
    reach_as (behind_both ls ms env) refl (sym (length-append ls ms)) (while_ends m (truth_jumps e) (stmt_jumps t)) (piece_reach start (leads_reach first (reach_piece (reach_past (past e env) t none inner) last told)))

pub do_reach : {a b c d g : Output} {f : Here} {kinds : StructKinds} {l : Block} {w : Linking} {v told y : ℕ} (env : Environment) (n m : ℕ) (p : definition.Targets) (t : CStmt) (e : CExpr) → IsNoDeclaration t → Emits a b (jump_to (m + 1)) 0
    → Reaches b c f kinds l w (behind t env) n (stmt_code t w env (m + 1) n (targets (m + 1 + stmt_jumps t + 1 + truth_jumps e) (m + 1 + stmt_jumps t + 1))) (length (stmt_literals env.scope t)) v y → Emits c d (jump_to (m + 1 + stmt_jumps t + 1)) 0
    → Emits d g (where_code e w (past_stmt t env) (m + 1 + stmt_jumps t + 1) n (m + 1)) (length (literals_in env.scope e)) → IsNumber told (m + 1 + stmt_jumps t + 1 + truth_jumps e)
    → Reaches a g f kinds l w (past_stmt (plain.Do t e) env) n (stmt_code (plain.Do t e) w env m n p) (length (stmt_literals env.scope (plain.Do t e))) told (m + stmt_jumps (plain.Do t e))
do_reach env n m p t e none start inner over last told =
    let ls = literals_in env.scope e in
    let ms = stmt_literals env.scope t in
    let body = reach_past env t none inner in
    reach_as (behind_both ms ls env) refl (sym (length-append ms ls)) (do_ends m (stmt_jumps t) (truth_jumps e)) (piece_reach start (reach_then body (piece_reach over (reached_by last (placed_still over body.placed) told))))

pub turns_reach : {a b c d f g i j : Output} {e : Here} {kinds : StructKinds} {l : Block} {w : Linking} {u v told x y : ℕ} (env : Environment) (n m : ℕ) (test step : Option CExpr) (t : CStmt) → IsNoDeclaration t → Emits a b (jump_to (m + 1)) 0
    → Leads b c (maybe_unless_code test w env (m + 1) n (m + 1 + maybe_truth_jumps test + stmt_jumps t + 1 + maybe_jumps step + 1)) (length (maybe_literals env.scope test)) u x → Emits c d [] (length (maybe_literals env.scope step))
    → Reaches d f e kinds l w (behind t (behind_literals (maybe_literals env.scope step) (behind_literals (maybe_literals env.scope test) env))) n
    (stmt_code t w (behind_literals (maybe_literals env.scope step) (behind_literals (maybe_literals env.scope test) env)) (m + 1 + maybe_truth_jumps test) n
    (targets (m + 1 + maybe_truth_jumps test + stmt_jumps t + 1 + maybe_jumps step + 1) (m + 1 + maybe_truth_jumps test + stmt_jumps t + 1))) (length (stmt_literals env.scope t)) v y
    → Emits f g (jump_to (m + 1 + maybe_truth_jumps test + stmt_jumps t + 1)) 0 → Emits g i (maybe_effect_code step w (behind_literals (maybe_literals env.scope test) env) (m + 1 + maybe_truth_jumps test + stmt_jumps t + 1) n) 0 → Emits i j (jump_to (m + 1)) 0
    → IsNumber told (m + 1 + maybe_truth_jumps test + stmt_jumps t + 1 + maybe_jumps step + 1)
    → Reaches a j e kinds l w (past_stmt t (past_maybe step (past_maybe test env))) n (for_code m test step t w env n (λ inner at around. stmt_code t w inner at n around))
    (length (maybe_literals env.scope test) + (length (maybe_literals env.scope step) + length (stmt_literals env.scope t))) told (m + (maybe_truth_jumps test + stmt_jumps t + maybe_jumps step + 3))
turns_reach {a} {b} {c} {d} {f} {g} {i} {j} {e} {kinds} {l} {w} {u} {v} {told} env n m test step t none start first aside inner over steps last end =
    let ls = maybe_literals env.scope test in
    let ms = maybe_literals env.scope step in
    let one = behind_literals ls env in
    let two = behind_literals ms one in
    let P : Environment → Environment → Type 0 = λ p q.
    Reaches a j e kinds l w (past_stmt t q) n
    (loop_code m (maybe_truth_jumps test) (stmt_jumps t) (maybe_jumps step) (λ far. maybe_unless_code test w env (m + 1) n far) (λ around. stmt_code t w q (m + 1 + maybe_truth_jumps test) n around)
    (maybe_effect_code step w p (m + 1 + maybe_truth_jumps test + stmt_jumps t + 1) n)) (length ls + (length ms + length (stmt_literals env.scope t))) told (m + (maybe_truth_jumps test + stmt_jumps t + maybe_jumps step + 3)) in
    let made : P one two =
    reach_as refl refl refl (for_ends m (maybe_truth_jumps test) (stmt_jumps t) (maybe_jumps step))
    (piece_reach start (leads_reach first (literals_reach aside (reach_piece (reach_past two t none inner) (then_piece over (then_piece steps last)) end)))) in
    subst (λ (p : Environment). P p (past_maybe step p)) (maybe_place test env) (subst (λ (q : Environment). P one q) (maybe_place step one) made)

-- ---- blocks

-- objects of a block are in scope
pub placed_in : {h e : Here} {kinds : StructKinds} {a b : Output} {k inner : Block} {w : Linking} {env : Environment} {n : ℕ} (objects : List (List _)) → Keeps a b → StandsIn e b inner w env n objects → IsPlaced h kinds a k w env n
    → IsPlaced e kinds b inner (with_block objects n w) (in_block (length w.bases) env) (n + words_in objects)
placed_in {h} {e} {kinds} {a} {b} {k} {inner} {w} {env} objects keeps stands p = record { stands = stands; structs = struct_kinds_kept a.types b.types kinds env.scope.tags keeps.tags p.structs }

-- the code of a block, which has ended
pub block_reach : {a b c : Output} {h e f : Here} {kinds : StructKinds} {k l : Block} {w v : Linking} {place : Environment} {env : Environment} {n o x y : ℕ} {is : List Op} (ls : List (List ℕ)) → IsSame h f → Emits a b [] 0
    → Reaches b c e kinds l v place o is (length ls) x y → IsPlaced h kinds a k w env n → Reaches a c f kinds k w (behind_literals ls env) n is (length ls) x y
block_reach ls same still r p = let f = piece_leads still r.leads in record { leads = f; placed = placed_same same f.emits p }

four_sum : (m a b c d : ℕ) → m + a + (b + c + d + 3) ≡ m + (a + b + c + d + 3)
four_sum m a b c d = omega arith

-- the code of a `for` whose head is a block
pub for_reach : {a b c d : Output} {h i j f : Here} {kinds : StructKinds} {k l o : Block} {w v : Linking} {env : Environment} {n q x y z : ℕ} (m : ℕ) (p : definition.Targets) (all : CStmts) (test step : Option CExpr) (t : CStmt) → IsSame h f → Emits a b [] 0
    → Reaches b c i kinds l v (behind_all all (in_block (length w.bases) env)) q (stmts_code all v (in_block (length w.bases) env) m q p) (length (stmts_literals (entered env.scope) all)) x z
    → Reaches c d j kinds o v (past_stmt t (past_maybe step (past_maybe test (behind_all all (in_block (length w.bases) env))))) q
    (for_code (m + stmts_jumps all) test step t v (behind_all all (in_block (length w.bases) env)) q (λ inner at around. stmt_code t v inner at q around))
    (length (maybe_literals (behind_all all (in_block (length w.bases) env)).scope test) + (length (maybe_literals (behind_all all (in_block (length w.bases) env)).scope step) + length (stmt_literals (behind_all all (in_block (length w.bases) env)).scope t))) y
    (m + stmts_jumps all + (maybe_truth_jumps test + stmt_jumps t + maybe_jumps step + 3)) → IsPlaced h kinds a k w env n
    → Reaches a d f kinds k w (past_stmt (plain.For (plain.Block all) test step t) env) n
    (stmts_code all v (in_block (length w.bases) env) m q p ++ for_code (m + stmts_jumps all) test step t v (behind_all all (in_block (length w.bases) env)) q (λ inner at around. stmt_code t v inner at q around))
    (length (stmt_literals env.scope (plain.For (plain.Block all) test step t))) y (m + stmt_jumps (plain.For (plain.Block all) test step t))
for_reach {a} {b} {c} {d} {h} {i} {j} {f} {kinds} {k} {l} {o} {w} {v} {env} {n} {q} {x} {y} m p all test step t same still heads loops placed =
    let place = in_block (length w.bases) env in
    let there = behind_all all place in
    let s = entered env.scope in
    let ls = stmts_literals s all in
    let lits : Scope → List (List ℕ) = λ z. ls ++ (maybe_literals z test ++ (maybe_literals z step ++ stmt_literals z t)) in
    let scope : there.scope ≡ scope_behind_all s all = behind_all_scope all place in
    let count : length ls + (length (maybe_literals there.scope test) + (length (maybe_literals there.scope step) + length (stmt_literals there.scope t))) ≡ length (lits (scope_behind_all s all)) =
    length_four ls (maybe_literals there.scope test) (maybe_literals there.scope step) (stmt_literals there.scope t) ∙ ap (λ (z : Scope). length (lits z)) scope in
    let emits = as_count count (piece_then still (both heads.leads.emits loops.leads.emits)) in
    record { leads = leads emits (told_block (four_sum m (stmts_jumps all) (maybe_truth_jumps test) (stmt_jumps t) (maybe_jumps step)) loops.leads.block); placed = placed_same same emits placed }

-- a `for` whose head is no block
pub for_other : (a b c : Output) (h e f : Here) (kinds : StructKinds) (k l o : Block) (first : CStmt) (test step : Option CExpr) (t : CStmt) (to : Targets) (from mid told : ℕ) → no_block first → Lowers a b h e kinds k l first to from mid
    → Turns b c e f kinds l o test step t mid told → Lowers a c h f kinds k o (plain.For first test step t) to from told
for_other a b c h e f kinds k l o first test step t to from mid told other one loops = record {
  goes = goes_then one.goes loops.goes;
  code = λ w env n m p placed hm ht fit.
      let s = env.scope in
      let none = fit.0.1 in
      let past = past_stmt first env in
      let head = one.code w env n m p placed hm ht fit.0.0 in
      let rest = loops.code w past n (m + stmt_jumps first) (placed_at (past_is first env none) head.placed) head.leads.block fit.1.0 fit.1.1 in
      let ls = stmt_literals s first in
      let lits : Scope → List (List ℕ) = λ z. ls ++ (maybe_literals z test ++ (maybe_literals z step ++ stmt_literals z t)) in
      let same : scope_behind_head s first ≡ s = other_scope s first other none in
      let place : past_stmt t (past_maybe step (past_maybe test past)) ≡ behind_literals (lits (scope_behind_head s first)) env =
      ap (λ (x : Environment). past_stmt t (past_maybe step x)) (sym (maybe_place test past))
      ∙ (ap (λ (x : Environment). past_stmt t x) (sym (maybe_place step (behind_literals (maybe_literals s test) past)))
      ∙ (four_behind ls (maybe_literals s test) (maybe_literals s step) (stmt_literals s t) env ∙ ap (λ (x : Scope). behind_literals (lits x) env) (sym same))) in
      reach_as place
      (ap (λ (x : Environment). stmt_code first w env m n p ++ for_code (m + stmt_jumps first) test step t w x n (λ inner at around. stmt_code t w inner at n around)) (sym (past_is first env none)) ∙ sym (other_code first test step t w env m n p other))
      (length_four ls (maybe_literals s test) (maybe_literals s step) (stmt_literals s t) ∙ ap (λ (x : Scope). length (lits x)) (sym same))
      (four_sum m (stmt_jumps first) (maybe_truth_jumps test) (stmt_jumps t) (maybe_jumps step)) (reach_then head rest);
}

-- ---- switch

switch_ends : (m a b c : ℕ) → m + a + b + 1 + c + 1 ≡ m + (a + b + c + 2)
switch_ends m a b c = omega arith

pub switch_reach : {a b c d g z : Output} {h i f : Here} {kinds : StructKinds} {k l : Block} {w : Linking} {v x y told u : ℕ} {place : Environment} (env : Environment) (n m : ℕ) (p : definition.Targets) (e : CExpr) (all : CParts) → IsSame h f
    → Leads a b (value_code e w env m n) (length (literals_in env.scope e)) v x → Emits b c (cases_code all (in_block (length w.bases) (past e env)) (m + expr_jumps e + case_jumps all + 1)) 0
    → Emits c d (jump_to (default_block all (m + expr_jumps e + case_jumps all + 1) (m + expr_jumps e + case_jumps all + 1 + parts_jumps all + 1))) 0
    → Reaches d g i kinds l (with_block (parts_objects (entered env.scope) all) n w) place (n + words_in (parts_objects (entered env.scope) all))
    (parts_code all (with_block (parts_objects (entered env.scope) all) n w) (in_block (length w.bases) (past e env)) (m + expr_jumps e + case_jumps all + 1) (n + words_in (parts_objects (entered env.scope) all))
    (targets (m + expr_jumps e + case_jumps all + 1 + parts_jumps all + 1) p.continued)) (length (parts_literals (entered env.scope) all)) y u
    → Emits g z (jump_to (m + expr_jumps e + case_jumps all + 1 + parts_jumps all + 1)) 0 → IsNumber told (m + expr_jumps e + case_jumps all + 1 + parts_jumps all + 1) → IsPlaced h kinds a k w env n
    → Reaches a z f kinds k w (past_stmt (plain.Switch e all) env) n (stmt_code (plain.Switch e all) w env m n p) (length (stmt_literals env.scope (plain.Switch e all))) told (m + stmt_jumps (plain.Switch e all))
switch_reach env n m p e all same tests cases over parts last told placed =
    let ls = literals_in env.scope e in
    let ms = parts_literals (entered env.scope) all in
    let emits = as_count (sym (length-append ls ms)) (both tests.emits (piece_then cases (piece_then over (then_piece parts.leads.emits last)))) in
    record { leads = leads emits (told_block (switch_ends m (expr_jumps e) (case_jumps all) (parts_jumps all)) told); placed = placed_same same emits placed }

-- ---- declarations

-- an object's declaration got its code
pub local_some : {a b c : Output} {h e : Here} {kinds : StructKinds} {k l : Block} (d : CDecl) (v : CValue) (local : Local) (to : Targets) (first told : ℕ) → d.first ≡ Some v → Goes a b h e k l → Keeps b c → Emits a b [] 0
    → ((w : Linking) (env : Environment) (n : ℕ) → Stands h a k w env n → IsDeclared e b l w env n d local)
    → ((w : Linking) (env : Environment) (m n : ℕ) → IsDeclared e b l w env n d local → AreStructKinds b.types kinds (declaring d env).scope.tags → IsNumber first m
    → Leads b c (first_code v (object_type_in env.scope d) (offset_in_frame (located w (Some (Some env.next)))) w (declaring d env) m n) (length (value_literals (declaring d env).scope v)) told (m + first_jumps v))
    → Goes a c h e k l → Lowers a c h e kinds k l (plain.Local d) to first told
local_some {a} {b} {c} {h} {e} {kinds} {k} {l} d v local to first told is goes keeps still declares code all = record {
  goes = all;
  code = λ w env n m p placed hm ht fit.
      let dec = declares w env n placed.stands in
      let inner = declaring d env in
      let tags : inner.scope.tags ≡ env.scope.tags = declared_tags env.scope d in
      let structs : AreStructKinds b.types kinds inner.scope.tags = subst (λ (x : _). AreStructKinds b.types kinds x) (sym tags) (struct_kinds_kept a.types b.types kinds env.scope.tags still.tags placed.structs) in
      let f = code w env m n dec structs hm in
      let there : IsPlaced e kinds b l w inner n = record { stands = dec.stands; structs = structs } in
      reach_as (sym (ap (λ (o : Option CValue). past_first o inner) is)) (sym (ap (λ (o : Option CValue). declaration_code d o w env m n) is)) (sym (ap (λ (o : Option CValue). length (first_literals inner.scope o)) is))
      (sym (ap (λ (o : Option CValue). m + maybe_first_jumps o) is)) (piece_reach still (record { leads = f; placed = placed_on f.emits there }));
}

none_more : (m : ℕ) → m ≡ m + 0
none_more m = omega arith

pub local_none : {a b : Output} {h e : Here} {kinds : StructKinds} {k l : Block} (d : CDecl) (local : Local) (to : Targets) (first : ℕ) → d.first ≡ None → Goes a b h e k l → Emits a b [] 0
    → ((w : Linking) (env : Environment) (n : ℕ) → Stands h a k w env n → IsDeclared e b l w env n d local) → Lowers a b h e kinds k l (plain.Local d) to first first
local_none {a} {b} {h} {e} {kinds} {k} {l} d local to first is goes still declares = record {
  goes = goes;
  code = λ w env n m p placed hm ht fit.
      let dec = declares w env n placed.stands in
      let inner = declaring d env in
      let tags : inner.scope.tags ≡ env.scope.tags = declared_tags env.scope d in
      let structs : AreStructKinds b.types kinds inner.scope.tags = subst (λ (x : _). AreStructKinds b.types kinds x) (sym tags) (struct_kinds_kept a.types b.types kinds env.scope.tags still.tags placed.structs) in
      let there : IsPlaced e kinds b l w inner n = record { stands = dec.stands; structs = structs } in
      reach_as (sym (ap (λ (o : Option CValue). past_first o inner) is)) (sym (ap (λ (o : Option CValue). declaration_code d o w env m n) is)) (sym (ap (λ (o : Option CValue). length (first_literals inner.scope o)) is))
      (none_more m ∙ sym (ap (λ (o : Option CValue). m + maybe_first_jumps o) is)) (record { leads = leads still hm; placed = there });
}

-- ---- parts of a `switch`

pub label_lowers : (a b : Output) (h : Here) (kinds : StructKinds) (k : Block) (at : ℕ) (e : Option CExpr) (to : Targets) (first told : ℕ) → Goes a b h h k k
    → ((w : Linking) (env : Environment) (n m : ℕ) → IsPlaced h kinds a k w env n → IsNumber first m → Leads a b (jump_to (m + 1)) 0 told (m + 1)) → LowersPart a b h h kinds k k (plain.Label at e) to first told
label_lowers a b h kinds k at e to first told goes code = record {
  goes = goes;
  code = λ w env n m p placed hm ht fit. let f = code w env n m placed hm in record { leads = f; placed = placed_still f.emits placed };
}

pub item_lowers : (a b : Output) (h e : Here) (kinds : StructKinds) (k l : Block) (t : CStmt) (to : Targets) (first told : ℕ) → Lowers a b h e kinds k l t to first told → LowersPart a b h e kinds k l (plain.Item t) to first told
item_lowers a b h e kinds k l t to first told x = record { goes = x.goes; code = x.code }
