-- Statements that get their code, form by form.
use Rattle.std.proofs.Common.{◌≡◌, ◌+◌, ◌<◌, ℕ, suc, List, [], ◌∷◌, ◌++◌, length, Option, Some, None, refl, sym, ap, subst, ◌∙◌, append-nil, arith}
use Rattle.std.specs.Prelude.{Result, Ok, Err, OnOk}
use Rattle.std.specs.declared.alloc.AllocError.{AllocError}
use Rattle.c_syntax.specs.Plain as plain
use Rattle.c_syntax.specs.Plain.{CExpr, CStmt, CStmts, CPart, CParts}
use Rattle.c_types.specs.Scope.{Scope, entered}
use Rattle.c_types.specs.Census.{scope_behind_all, scope_behind_head}
use Rattle.c_eval.specs.State.{Cell}
use Rattle.c_eval.specs.Environment.{Environment, behind_literals, past, past_maybe, past_stmt, behind, behind_all, in_block, objects_in, block_objects, parts_objects}
use Rattle.c_eval.specs.LiteralsIn.{literals_in, maybe_literals, stmt_literals, stmts_literals, parts_literals}
use Rattle.c_code.specs.Code as code
use Rattle.c_code.specs.Code.{Instruction, Site, value_code, stmt_code, stmts_code, parts_code, label_of, labels_in, loop_code, maybe_test_code, maybe_effect_code, slots_for, slots_for_all, slots_for_parts}
use Rattle.c_types.specs.Known.{Grows}
use Rattle.c_types.specs.Table.{Table, known}
use Rattle.c_declared.specs.Held.{HoldsSome}
use Rattle.c_emitted.specs.declared.emitter.Emitter.{Emitter}
use Rattle.c_emitted.specs.Emits.{Emits, Reserves}
use Rattle.c_emitted.proofs.EmitLemmas.{both, later, nothing}
use Rattle.c_jumps.specs.Jumps.{EndsLoop}
use Rattle.c_operands.specs.Scoped.{Fits}
use Rattle.c_here.specs.declared.here.Here.{Here}
use Rattle.c_here.specs.Here.{IsHere}
use Rattle.c_fitting.specs.Whole.{MaybeIsFit, TakesNoSlot, StmtIsFit}
use Rattle.c_cells.specs.declared.structs.StructKinds.{StructKinds}
use Rattle.c_aside.specs.declared.cases.Label as rust
use Rattle.c_aside.specs.Cases.{labels_of}
use Rattle.c_blocks.specs.declared.objects.Block.{Block}
use Rattle.c_blocks.specs.Blocks.{IsSame}
use Rattle.c_blocks.specs.Objects.{unset_objects, EndsBlock}
use Rattle.c_blocks.proofs.BlockLemmas.{block_emitted}
use Rattle.c_flat.specs.Compiled.{IsPlaced, Reaches, Goes, Compiles, CompilesPart, Loops}
use Rattle.c_flat.specs.Switches.{switch_code}
use Rattle.c_flat.proofs.PlaceLemmas.{behind_all_scope, past_is, no_objects, behind_both, maybe_place, no_block, other_code, other_scope}
use Rattle.c_flat.proofs.CountLemmas.{objects_counted}
use Rattle.c_flat.proofs.PlacedLemmas.{placed_kept, placed_behind, placed_quiet, placed_same, body_placed, nothing_more, goes_on, goes_then}
use Rattle.c_flat.proofs.GoingLemmas.{three_as, reach_both}

pub compiled_as : (r : Result (Unit {0}) AllocError) (old new : Table) (h e : Here) (kinds : StructKinds) (a b : Emitter) (k l : Block) (x y : CStmt) → x ≡ y → OnOk r (Compiles old new h e kinds a b k l x) → OnOk r (Compiles old new h e kinds a b k l y)
compiled_as r old new h e kinds a b k l x y is c = subst (λ (t : CStmt). OnOk r (Compiles old new h e kinds a b k l t)) is c

-- ---- statements of expressions alone

pub simple_now : (old new : Table) (h : Here) (kinds : StructKinds) (a b : Emitter) (k : Block) (t : CStmt) → Grows (known old) (known new) → new.tags ≡ old.tags → HoldsSome old h.declared → TakesNoSlot t
    → ((site : Site) (env : Environment) → IsHere old h a site env → StmtIsFit env.scope t → Emits a b (stmt_code t k.free site env) (stmt_literals env.scope t)) → Compiles old new h h kinds a b k k t
simple_now old new h kinds a b k t grows tags some none emits = record {
  goes = goes_on old new h k grows tags some;
  code = λ site env p fit.
      let is = stmt_code t k.free site env in
      let ls = stmt_literals env.scope t in
      let e : Emits a b is ls = emits site env p.stands.here fit in
      let r : Reaches new h kinds a b k k site (past_stmt t env) is ls [] = record { emits = e; placed = placed_behind old new h kinds a b k site env grows tags e p; more = nothing_more k } in
      three_as new h kinds a b k k site (past_stmt t env) (behind t env) is is ls ls [] (objects_in env.scope t) (sym (past_is t env none)) refl refl (sym (no_objects env.scope t none)) r;
}

pub simple_on : (r : Result (Unit {0}) AllocError) (old new : Table) (h : Here) (kinds : StructKinds) (a b : Emitter) (k : Block) (t : CStmt) → OnOk r (Grows (known old) (known new)) → OnOk r (new.tags ≡ old.tags) → HoldsSome old h.declared → TakesNoSlot t
    → ((site : Site) (env : Environment) → IsHere old h a site env → StmtIsFit env.scope t → OnOk r (Emits a b (stmt_code t k.free site env) (stmt_literals env.scope t))) → OnOk r (Compiles old new h h kinds a b k k t)
simple_on (Ok x) old new h kinds a b k t grows tags some none emits = simple_now old new h kinds a b k t grows tags some none emits
simple_on (Err x) old new h kinds a b k t grows tags some none emits = tt

-- ---- loops

pub while_compiles : (old new : Table) (h e : Here) (kinds : StructKinds) (a b : Emitter) (k l : Block) (test : CExpr) (t : CStmt) → Loops old new h e kinds a b k l (Some test) None t → Compiles old new h e kinds a b k l (plain.While test t)
while_compiles old new h e kinds a b k l test t loops = record {
  goes = loops.goes;
  code = λ site env p fit.
      let is = stmt_code (plain.While test t) k.free site env in
      let first = literals_in env.scope test in
      let body = stmt_literals env.scope t in
      three_as new e kinds a b k l site (behind_literals body (behind_literals first env)) (behind_literals (first ++ body) env) is is (first ++ body) (first ++ body) [] [] (behind_both first body env) refl refl refl (loops.code site env p fit.0 tt fit.1 fit.2);
}

pub while_on : (r : Result (Unit {0}) AllocError) (old new : Table) (h e : Here) (kinds : StructKinds) (a b : Emitter) (k l : Block) (test : CExpr) (t : CStmt) → OnOk r (Loops old new h e kinds a b k l (Some test) None t)
    → OnOk r (Compiles old new h e kinds a b k l (plain.While test t))
while_on (Ok x) old new h e kinds a b k l test t loops = while_compiles old new h e kinds a b k l test t loops
while_on (Err x) old new h e kinds a b k l test t loops = tt

-- a loop at its places
pub loop_places : (new : Table) (e : Here) (kinds : StructKinds) (a b : Emitter) (k l : Block) (site : Site) (env : Environment) (free : ℕ) (test step : Option CExpr) (t : CStmt) (ls : List (List ℕ)) →
    let one = behind_literals (maybe_literals env.scope test) env in
    let two = behind_literals (maybe_literals env.scope step) one in
    Reaches new e kinds a b k l site (past_stmt t two) (loop_code (maybe_test_code test site env) (maybe_effect_code step site one) (stmt_code t free site two)) ls []
    → Reaches new e kinds a b k l site (past_stmt t (past_maybe step (past_maybe test env))) (loop_code (maybe_test_code test site env) (maybe_effect_code step site (past_maybe test env)) (stmt_code t free site (past_maybe step (past_maybe test env)))) ls []
loop_places new e kinds a b k l site env free test step t ls r =
    let one = behind_literals (maybe_literals env.scope test) env in
    let P : Environment → Environment → Type 0 = λ x y. Reaches new e kinds a b k l site (past_stmt t y) (loop_code (maybe_test_code test site env) (maybe_effect_code step site x) (stmt_code t free site y)) ls [] in
    subst (λ (x : Environment). P x (past_maybe step x)) (maybe_place test env) (subst (λ (y : Environment). P one y) (maybe_place step one) r)

-- the place behind a loop, by its literals
pub for_places : (env : Environment) (ls : List (List ℕ)) (test step : Option CExpr) (t : CStmt)
    → past_stmt t (past_maybe step (past_maybe test (behind_literals ls env))) ≡ behind_literals (ls ++ (maybe_literals env.scope test ++ (maybe_literals env.scope step ++ stmt_literals env.scope t))) env
for_places env ls test step t =
    let ms = maybe_literals env.scope test in
    let ns = maybe_literals env.scope step in
    let os = stmt_literals env.scope t in
    let one = behind_literals ls env in
    let two = behind_literals ms one in
    ap (λ (x : Environment). past_stmt t (past_maybe step x)) (sym (maybe_place test one))
    ∙ (ap (λ (x : Environment). past_stmt t x) (sym (maybe_place step two)) ∙ (behind_both ns os two ∙ (behind_both ms (ns ++ os) one ∙ behind_both ls (ms ++ (ns ++ os)) env)))

-- behind a head that is no block
pub for_other : (old mid new : Table) (h e f : Here) (kinds : StructKinds) (a b c : Emitter) (k l m : Block) (first : CStmt) (test step : Option CExpr) (t : CStmt) → no_block first → Compiles old mid h e kinds a b k l first → Loops mid new e f kinds b c l m test step t
    → Compiles old new h f kinds a c k m (plain.For first test step t)
for_other old mid new h e f kinds a b c k l m first test step t other one loops = record {
  goes = goes_then old mid new h e f k l m one.goes loops.goes;
  code = λ site env p fit.
      let s = env.scope in
      let none : TakesNoSlot first = fit.0.1 in
      let ls = stmt_literals s first in
      let inner = behind first env in
      let past = past_stmt first env in
      let same : scope_behind_head s first ≡ s = other_scope s first other none in
      let head = one.code site env p fit.0.0 in
      let at : IsPlaced mid e kinds b l site past = body_placed mid e kinds b l site first env none head.placed in
      let fit_test : MaybeIsFit s test = subst (λ (x : Scope). MaybeIsFit x test) same fit.1 in
      let fit_step : MaybeIsFit s step = subst (λ (x : Scope). MaybeIsFit x step) same fit.2 in
      let fit_body : StmtIsFit s t = subst (λ (x : Scope). StmtIsFit x t) same fit.3.0 in
      let rest = loops.code site past at fit_test fit_step fit_body fit.3.1 in
      let q = past_stmt t (past_maybe step (past_maybe test past)) in
      let tail : Environment → List Instruction = λ x. loop_code (maybe_test_code test site x) (maybe_effect_code step site (past_maybe test x)) (stmt_code t k.free site (past_maybe step (past_maybe test x))) in
      let lits : Scope → List (List ℕ) = λ x. maybe_literals x test ++ (maybe_literals x step ++ stmt_literals x t) in
      let loop : Reaches new f kinds b c l m site q (tail past) (lits s) [] =
      subst (λ (n : ℕ). Reaches new f kinds b c l m site q (loop_code (maybe_test_code test site past) (maybe_effect_code step site (past_maybe test past)) (stmt_code t n site (past_maybe step (past_maybe test past)))) (lits s) []) one.goes.free rest in
      let whole : Reaches new f kinds a c k m site q (stmt_code first k.free site env ++ tail past) (ls ++ lits s) (objects_in s first ++ []) =
      reach_both mid new e f kinds a b c k l m site inner q (stmt_code first k.free site env) (tail past) ls (lits s) (objects_in s first) [] head loop in
      three_as new f kinds a c k m site q (behind_literals (ls ++ lits (scope_behind_head s first)) env) (stmt_code first k.free site env ++ tail past) (stmt_code (plain.For first test step t) k.free site env) (ls ++ lits s) (ls ++ lits (scope_behind_head s first)) (objects_in s first ++ []) []
      (for_places env ls test step t ∙ ap (λ (x : Scope). behind_literals (ls ++ lits x) env) (sym same))
      (ap (λ (x : Environment). stmt_code first k.free site env ++ tail x) (sym (past_is first env none)) ∙ sym (other_code first test step t k.free site env other))
      (ap (λ (x : Scope). ls ++ lits x) (sym same))
      (append-nil (objects_in s first) ∙ no_objects s first none) whole;
}

-- ---- blocks

-- the objects of a block are those that were declared in it
pub only_these : (k l : Block) (objects : List (List Cell)) → k.lengths.items ≡ [] → unset_objects l.lengths.items ≡ unset_objects k.lengths.items ++ objects → unset_objects l.lengths.items ≡ objects
only_these k l objects none more = more ∙ ap (λ (x : List ℕ). unset_objects x ++ objects) none

-- the code of a block around the code of its statements
pub block_reach : (old new : Table) (h within e : Here) (kinds : StructKinds) (a r m z : Emitter) (start : ℕ) (k inner last : Block) (site : Site) (env place : Environment) (objects : List (List Cell)) (count : ℕ) {is : List Instruction} {ls : List (List ℕ)}
    → Reserves a r start → Reaches new within kinds r m inner last site place is ls objects → EndsBlock m z start last.lengths.items → inner.lengths.items ≡ [] → length objects ≡ count → IsSame h e → Grows (known old) (known new) → new.tags ≡ old.tags
    → IsPlaced old h kinds a k site env → Reaches new e kinds a z k k site (behind_literals ls env) (code.Enter objects count ∷ (is ++ code.Leave ∷ [])) ls []
block_reach old new h within e kinds a r m z start k inner last site env place objects count {is} {ls} opens reach ends none many same grows tags p =
    let emits : Emits a z (code.Enter objects count ∷ (is ++ code.Leave ∷ [])) ls = block_emitted a r m z start last.lengths.items objects count opens reach.emits ends (only_these inner last objects none reach.more) many in
    record { emits = emits; placed = placed_same old new h e kinds a z k site env same grows tags emits p; more = nothing_more k }

-- a loop's code behind its body
pub loop_reach : (new : Table) (e : Here) (kinds : StructKinds) (a f g q z : Emitter) (k l : Block) (site : Site) (body : CStmt) (inner : Environment) (start turn again : ℕ) {is ss : List Instruction} {ls : List (List ℕ)} → TakesNoSlot body
    → Reaches new e kinds f g k l site (behind body inner) (stmt_code body k.free site inner) (stmt_literals inner.scope body) (objects_in inner.scope body) → Emits g q ss [] → EndsLoop q z start turn again → Emits a z is ls
    → Reaches new e kinds a z k l site (past_stmt body inner) is ls []
loop_reach new e kinds a f g q z k l site body inner start turn again none reach more ends emits =
    let place = past_stmt body inner in
    let same : Grows (known new) (known new) = λ n x y. y in
    let at_g = body_placed new e kinds g l site body inner none reach.placed in
    let at_q = placed_quiet new new e kinds g q l site place same refl more at_g in
    let at_end = placed_quiet new new e kinds q ends.ended l site place same refl ends.ends at_q in
    let at_turn = placed_kept new e kinds ends.ended ends.turned l site place ends.turns.keeps at_end in
    record {
      emits = emits;
      placed = placed_kept new e kinds ends.turned z l site place ends.loops.keeps at_turn;
      more = reach.more ∙ ap (λ (x : List (List Cell)). unset_objects k.lengths.items ++ x) (no_objects inner.scope body none);
    }

-- a `for` whose head is a block
pub for_reach : (old mid new : Table) (h then last e : Here) (kinds : StructKinds) (a r m n z : Emitter) (start : ℕ) (k inner within final : Block) (site : Site) (env : Environment) (all : CStmts) (test step : Option CExpr) (body : CStmt)
    → IsPlaced old h kinds a k site env
    → Reaches mid then kinds r m inner within site (behind_all all (in_block k.free env)) (stmts_code all inner.free site (in_block k.free env)) (stmts_literals (entered env.scope) all) (block_objects (entered env.scope) all)
    → Loops mid new then last kinds m n within final test step body → StmtIsFit env.scope (plain.For (plain.Block all) test step body) → inner.free ≡ k.free + slots_for_all all → within.free ≡ inner.free → Reserves a r start → EndsBlock n z start final.lengths.items
    → inner.lengths.items ≡ [] → IsSame h e → Grows (known old) (known new) → new.tags ≡ old.tags
    → Reaches new e kinds a z k k site (behind (plain.For (plain.Block all) test step body) env) (stmt_code (plain.For (plain.Block all) test step body) k.free site env) (stmt_literals env.scope (plain.For (plain.Block all) test step body)) []
for_reach old mid new h then last e kinds a r m n z start k inner within final site env all test step body p heads loops fit slots free opens ends none same grows tags =
    let s = entered env.scope in
    let place = in_block k.free env in
    let there = behind_all all place in
    let count = slots_for_all all + slots_for body in
    let more = k.free + count in
    let scope : there.scope ≡ scope_behind_all s all = behind_all_scope all place in
    let fit_test : MaybeIsFit there.scope test = subst (λ (x : Scope). MaybeIsFit x test) (sym scope) fit.1 in
    let fit_step : MaybeIsFit there.scope step = subst (λ (x : Scope). MaybeIsFit x step) (sym scope) fit.2 in
    let fit_body : StmtIsFit there.scope body = subst (λ (x : Scope). StmtIsFit x body) (sym scope) fit.3.0 in
    let no_slot : slots_for body ≡ 0 = fit.3.1 in
    let in_inner : inner.free ≡ more = omega (arith, slots, no_slot) in
    let in_within : within.free ≡ more = free ∙ in_inner in
    let q = past_stmt body (past_maybe step (past_maybe test there)) in
    let tail : ℕ → List Instruction = λ f. loop_code (maybe_test_code test site there) (maybe_effect_code step site (past_maybe test there)) (stmt_code body f site (past_maybe step (past_maybe test there))) in
    let lits : Scope → List (List ℕ) = λ x. maybe_literals x test ++ (maybe_literals x step ++ stmt_literals x body) in
    let ls = stmts_literals s all in
    let objects = block_objects s all in
    let loop : Reaches new last kinds m n within final site q (tail more) (lits there.scope) [] =
    subst (λ (f : ℕ). Reaches new last kinds m n within final site q (tail f) (lits there.scope) []) in_within (loops.code site there heads.placed fit_test fit_step fit_body no_slot) in
    let head : Reaches mid then kinds r m inner within site there (stmts_code all more site place) ls objects =
    subst (λ (f : ℕ). Reaches mid then kinds r m inner within site there (stmts_code all f site place) ls objects) in_inner heads in
    let both_of = reach_both mid new then last kinds r m n inner within final site there q (stmts_code all more site place) (tail more) ls (lits there.scope) objects [] head loop in
    let whole : Reaches new last kinds r n inner final site q (stmts_code all more site place ++ tail more) (ls ++ lits (scope_behind_all s all)) objects =
    three_as new last kinds r n inner final site q q (stmts_code all more site place ++ tail more) (stmts_code all more site place ++ tail more) (ls ++ lits there.scope) (ls ++ lits (scope_behind_all s all)) (objects ++ []) objects refl refl
    (ap (λ (x : Scope). ls ++ lits x) scope) (append-nil objects) both_of in
    let long = objects_counted s all fit.0.0 in
    let many : length objects ≡ count = omega (arith, long, no_slot) in
    block_reach old new h last e kinds a r n z start k inner final site env q objects count opens whole ends none many same grows tags p

-- a `switch` whose parts were emitted apart
pub switch_reach : (old new : Table) (h e : Here) (kinds : StructKinds) (a b d f z : Emitter) (k : Block) (site : Site) (env : Environment) (test : CExpr) (all : CParts) (free : ℕ) → free ≡ k.free + slots_for_parts all
    → Emits a b (value_code test site env ++ code.Use ∷ []) (literals_in env.scope test) → Emits b d (code.CheckWord ∷ []) [] → Emits d f [] (parts_literals (entered env.scope) all) → (labels : List code.Label) → labels ≡ labels_in all free site (in_block k.free (past test env)) 0
    → Emits f z (switch_code labels (parts_code all free site (in_block k.free (past test env))) (parts_objects (entered env.scope) all) (slots_for_parts all)) [] → IsSame h e → Grows (known old) (known new) → new.tags ≡ old.tags → IsPlaced old h kinds a k site env
    → Reaches new e kinds a z k k site (behind (plain.Switch test all) env) (stmt_code (plain.Switch test all) k.free site env) (stmt_literals env.scope (plain.Switch test all)) []
switch_reach old new h e kinds a b d f z k site env test all free slots tests checks quiet labels told parts same grows tags p =
    let inside = in_block k.free (past test env) in
    let first = value_code test site env ++ code.Use ∷ [] in
    let objects = parts_objects (entered env.scope) all in
    let ls = literals_in env.scope test ++ parts_literals (entered env.scope) all in
    let Made : List code.Label → ℕ → Type 0 = λ x n. Emits a z (first ++ (code.CheckWord ∷ switch_code x (parts_code all n site inside) objects (slots_for_parts all))) ls in
    let made : Made labels free = both tests (both checks (later quiet parts)) in
    let emits : Made (labels_in all (k.free + slots_for_parts all) site inside 0) (k.free + slots_for_parts all) = subst (λ (n : ℕ). Made (labels_in all n site inside 0) n) slots (subst (λ (x : List code.Label). Made x free) told made) in
    record { emits = emits; placed = placed_same old new h e kinds a z k site env same grows tags emits p; more = nothing_more k }

-- ---- parts of a `switch`

label_now : (old new : Table) (h : Here) (kinds : StructKinds) (out : Emitter) (k : Block) (before after : List rust.Label) (pos : ℕ) (o : Option CExpr) (at : ℕ) → at ≡ length out.code → Grows (known old) (known new) → new.tags ≡ old.tags → HoldsSome old h.declared
    → ((env : Environment) → Fits old h.declared env.scope → labels_of after ≡ labels_of before ++ label_of (plain.Label pos o) env at) → CompilesPart old new h h kinds out out k k before after (plain.Label pos o)
label_now old new h kinds out k before after pos o at is grows tags some labels = record {
  goes = goes_on old new h k grows tags some;
  code = λ site env p fit. record { emits = nothing out; placed = placed_quiet old new h kinds out out k site env grows tags (nothing out) p; more = nothing_more k };
  told = λ site env p fit. subst (λ (n : ℕ). labels_of after ≡ labels_of before ++ label_of (plain.Label pos o) env n) is (labels env p.stands.here.holds.fits);
}

pub label_on : (r : Result (Unit {0}) AllocError) (old new : Table) (h : Here) (kinds : StructKinds) (out : Emitter) (k : Block) (before after : List rust.Label) (pos : ℕ) (o : Option CExpr) (x : CPart) (at : ℕ) → x ≡ plain.Label pos o → at ≡ length out.code
    → OnOk r (Grows (known old) (known new)) → OnOk r (new.tags ≡ old.tags) → HoldsSome old h.declared → ((env : Environment) → Fits old h.declared env.scope → OnOk r (labels_of after ≡ labels_of before ++ label_of (plain.Label pos o) env at))
    → OnOk r (CompilesPart old new h h kinds out out k k before after x)
label_on (Ok u) old new h kinds out k before after pos o x at is there grows tags some labels =
    subst (λ (y : CPart). CompilesPart old new h h kinds out out k k before after y) (sym is) (label_now old new h kinds out k before after pos o at there grows tags some labels)
label_on (Err u) old new h kinds out k before after pos o x at is there grows tags some labels = tt

pub item_compiles : (old new : Table) (h e : Here) (kinds : StructKinds) (a b : Emitter) (k l : Block) (labels : List rust.Label) (t : CStmt) → Compiles old new h e kinds a b k l t → CompilesPart old new h e kinds a b k l labels labels (plain.Item t)
item_compiles old new h e kinds a b k l labels t c = record { goes = c.goes; code = c.code; told = λ site env p fit. sym (append-nil (labels_of labels)) }
