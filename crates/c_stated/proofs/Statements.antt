-- All statements are followed by their code.
use Rattle.std.proofs.Common.{◌≡◌, ℕ, suc, ◌+◌, ◌^◌, ◌<◌, ◌≤◌, Bool, true, false, List, [], ◌∷◌, ◌++◌, length, Option, Some, None, refl, sym, ap, ◌∙◌, subst, arith}
use Rattle.std.specs.Prelude.{max}
use Rattle.c_syntax.specs.Plain.{CExpr, CDecl, CStmt, Block, Local, Do_expr, Empty, If, IfElse, While, Do, For, Return, Break, Continue, Switch, CStmts, NoStmt, MoreStmt, Label, Item, CParts, NoPart, MorePart}
use Rattle.c_types.specs.Scope.{entered}
use Rattle.c_eval.specs.State.{Missing, Run}
use Rattle.c_eval.specs.Run.{◌>>=◌, give}
use Rattle.c_eval.specs.Environment.{Environment, unset_cells, objects_in, block_objects, parts_objects, past, past_maybe, declaring, past_stmt, behind, behind_all, in_block}
use Rattle.c_eval.specs.Eval.{World, Flow, Next, Broke, Continued, Returned, go_on, condition, maybe_condition, maybe_effect, returned, used_value, value_of, loop, does, all_do}
use Rattle.c_eval.specs.Operators.{used}
use Rattle.c_place.specs.Code.{jumps}
use Rattle.c_place.specs.Place.{front, Stands, behind_all as place_behind}
use Rattle.c_place.proofs.Running.{stands_first, stands_rest}
use Rattle.c_lowered.specs.Counts.{expr_jumps, truth_jumps, maybe_jumps, maybe_truth_jumps, stmt_jumps, stmts_jumps}
use Rattle.c_lowered.specs.Locations.{Location, Linking, framed}
use Rattle.c_lowered.specs.Operations.{return_code}
use Rattle.c_lowered.specs.Expressions.{value_code, truth_code, unused, effect_code, unless_code, where_code}
use Rattle.c_lowered.specs.Statements.{Targets, targets, maybe_unless_code, maybe_effect_code, for_code, words_in, stmt_code, stmts_code}
use Rattle.c_lowered.proofs.Jumping.{value_jumps, truth_jumps_are}
use Rattle.c_lowered.proofs.Flowing.{stmt_jumps_are}
use Rattle.c_memory.specs.Follows.{fuel_of, here}
use Rattle.c_memory.proofs.Following.{then_follows, give_follows, wider}
use Rattle.c_landing.specs.Landing.{Names, placed, Setting, Reached}
use Rattle.c_landing.specs.Few.{Agrees}
use Rattle.c_landing.proofs.Landing.{F, left_here}
use Rattle.c_helpers.specs.Frames.{waiting}
use Rattle.c_valued.specs.Steps.{steps, truth_steps}
use Rattle.c_valued.proofs.Parts.{max_left, max_right, used_in_a}
use Rattle.c_valued.specs.Calls.{UnitPays, with_names}
use Rattle.c_stated.specs.Flows.{FlowReached, AreFramed, Performs}
use Rattle.c_stated.specs.Statements.{ExprValued, MaybeValued, EffectValued, DeclaresNothing, StmtValued, StmtsValued, maybe_need, stmt_need, stmts_need, maybe_steps, maybe_truth_steps, stmt_steps, stmts_steps, PartsValued, parts_steps}
use Rattle.c_stated.specs.Laws.{Stated, AllStated, PartsStated}
use Rattle.c_stated.proofs.Loops.{TestReached}
use Rattle.c_stated.proofs.Blocks.{AreUnset, framed_behind, block_performs}
use Rattle.c_stated.proofs.Parts.{performs_within, effect_performs, unless_follows, where_follows, unused_same, as_good, past_placed, agrees_named, ready_declared, behind_declared, nothing_framed, first_scope}
use Rattle.c_stated.proofs.Heads.{names_behind_all, number_behind_all, behind_all_is, ready_behind_all}
use Rattle.c_stated.proofs.Switches.{no_parts, label_stated, item_stated, TailsStated, switch_stated}
use Rattle.c_stated.proofs.Forms.{TestAt, BodyAt, StepAt, go_on_follows, if_follows, branches_follow, while_follows, for_follows, do_follows}

-- ---- places of the text

-- behind a statement that declares nothing, and what is declared behind it
record Passes (t : CStmt) (ts : CStmts) (site : Environment) : Type 0 where
  place : (names : Names) (next : ℕ) → behind t (placed names next site) ≡ placed names next (behind t site)
  rest : block_objects site.scope (MoreStmt t ts) ≡ block_objects (behind t site).scope ts

passes : (t : CStmt) → DeclaresNothing t → (ts : CStmts) (site : Environment) → Passes t ts site
passes (Local d) h ts site = absurd h
passes (Block ss) h ts site = record { place = λ names next. refl; rest = refl }
passes (Do_expr e) h ts site = record { place = λ names next. refl; rest = refl }
passes Empty h ts site = record { place = λ names next. refl; rest = refl }
passes (If e t) h ts site = record { place = λ names next. refl; rest = refl }
passes (IfElse e t u) h ts site = record { place = λ names next. refl; rest = refl }
passes (While e t) h ts site = record { place = λ names next. refl; rest = refl }
passes (Do t e) h ts site = record { place = λ names next. refl; rest = refl }
passes (For a b c t) h ts site = record { place = λ names next. refl; rest = refl }
passes (Return at e) h ts site = record { place = λ names next. refl; rest = refl }
passes (Break at) h ts site = record { place = λ names next. refl; rest = refl }
passes (Continue at) h ts site = record { place = λ names next. refl; rest = refl }
passes (Switch e ps) h ts site = record { place = λ names next. refl; rest = refl }

module _ (S : Setting) (w : World) (agrees : Agrees S w) (u : ℕ) where
  abbrev Z : List Location → Names → Names → Setting
  Z bases coded named = with_names S bases coded named

  abbrev L : List Location → Linking
  L bases = record S.linking { bases = bases }

  -- ---- objects of a block are unset

  unset_behind : (t : CStmt) → DeclaresNothing t → (ts : CStmts) (site : Environment) → AreUnset (block_objects (behind t site).scope ts) → AreUnset (block_objects site.scope (MoreStmt t ts))
  unset_behind t bare ts site h = subst (λ z. AreUnset z) (sym (passes t bare ts site).rest) h

  unset : (ss : CStmts) (site : Environment) → StmtsValued S w u ss site → AreUnset (block_objects site.scope ss)
  unset NoStmt site v = tt
  unset (MoreStmt (Local d) ts) site v = (_, v.0.0, refl, subst (λ z. AreUnset (block_objects z ts)) (first_scope d.first (declaring d site)) (unset ts (behind (Local d) site) v.1))
  unset (MoreStmt (Block ss) ts) site v = unset_behind (Block ss) tt ts site (unset ts (behind (Block ss) site) v.1)
  unset (MoreStmt (Do_expr e) ts) site v = unset_behind (Do_expr e) tt ts site (unset ts (behind (Do_expr e) site) v.1)
  unset (MoreStmt Empty ts) site v = unset_behind Empty tt ts site (unset ts (behind Empty site) v.1)
  unset (MoreStmt (If e t) ts) site v = unset_behind (If e t) tt ts site (unset ts (behind (If e t) site) v.1)
  unset (MoreStmt (IfElse e t x) ts) site v = unset_behind (IfElse e t x) tt ts site (unset ts (behind (IfElse e t x) site) v.1)
  unset (MoreStmt (While e t) ts) site v = unset_behind (While e t) tt ts site (unset ts (behind (While e t) site) v.1)
  unset (MoreStmt (Do t e) ts) site v = unset_behind (Do t e) tt ts site (unset ts (behind (Do t e) site) v.1)
  unset (MoreStmt (For a b c t) ts) site v = unset_behind (For a b c t) tt ts site (unset ts (behind (For a b c t) site) v.1)
  unset (MoreStmt (Return at e) ts) site v = unset_behind (Return at e) tt ts site (unset ts (behind (Return at e) site) v.1)
  unset (MoreStmt (Break at) ts) site v = unset_behind (Break at) tt ts site (unset ts (behind (Break at) site) v.1)
  unset (MoreStmt (Continue at) ts) site v = unset_behind (Continue at) tt ts site (unset ts (behind (Continue at) site) v.1)
  unset (MoreStmt (Switch e ps) ts) site v = unset_behind (Switch e ps) tt ts site (unset ts (behind (Switch e ps) site) v.1)

  parts_unset : (ps : CParts) (site : Environment) → PartsValued S w u ps site → AreUnset (parts_objects site.scope ps)
  parts_unset NoPart site v = tt
  parts_unset (MorePart (Label at e) ps) site v = parts_unset ps site v
  parts_unset (MorePart (Item (Local d)) ps) site v = (_, v.0.0, refl, subst (λ z. AreUnset (parts_objects z ps)) (first_scope d.first (declaring d site)) (parts_unset ps (behind (Local d) site) v.1))
  parts_unset (MorePart (Item (Block ss)) ps) site v = parts_unset ps (behind (Block ss) site) v.1
  parts_unset (MorePart (Item (Do_expr e)) ps) site v = parts_unset ps (behind (Do_expr e) site) v.1
  parts_unset (MorePart (Item Empty) ps) site v = parts_unset ps (behind Empty site) v.1
  parts_unset (MorePart (Item (If e a)) ps) site v = parts_unset ps (behind (If e a) site) v.1
  parts_unset (MorePart (Item (IfElse e a b)) ps) site v = parts_unset ps (behind (IfElse e a b) site) v.1
  parts_unset (MorePart (Item (While e a)) ps) site v = parts_unset ps (behind (While e a) site) v.1
  parts_unset (MorePart (Item (Do a e)) ps) site v = parts_unset ps (behind (Do a e) site) v.1
  parts_unset (MorePart (Item (For x y z a)) ps) site v = parts_unset ps (behind (For x y z a) site) v.1
  parts_unset (MorePart (Item (Return at e)) ps) site v = parts_unset ps (behind (Return at e) site) v.1
  parts_unset (MorePart (Item (Break at)) ps) site v = parts_unset ps (behind (Break at) site) v.1
  parts_unset (MorePart (Item (Continue at)) ps) site v = parts_unset ps (behind (Continue at) site) v.1
  parts_unset (MorePart (Item (Switch e qs)) ps) site v = parts_unset ps (behind (Switch e qs) site) v.1

  -- ---- parts

  test_count : (e : CExpr) (bases : List Location) (place : Environment) (k d : ℕ) (holds : Bool) (target : ℕ) → jumps (truth_code e (L bases) place k d (value_code e (L bases) place k d) holds target) ≡ truth_jumps e
  test_count e bases place k d holds target = (truth_jumps_are e (L bases) place k d (value_code e (L bases) place k d) (value_jumps e (L bases) place k d) holds target).count

  body_count : (t : CStmt) (bases : List Location) (place : Environment) (k d : ℕ) (to : Targets) → jumps (stmt_code t (L bases) place k d to) ≡ stmt_jumps t
  body_count t bases place k d to = (stmt_jumps_are t (L bases) place k d to).count

  -- a condition of a place of the text
  test_at : (e : CExpr) (site : Environment) → ExprValued S w u e site → (bases : List Location) (coded named : Names) (k d n i o target : ℕ) → waiting e ≤ n → k + truth_jumps e < 2 ^ 24 → target < 2 ^ 24
      → TestAt (Z bases coded named) d n (unless_code e (L bases) (placed coded i site) k d target) k (truth_steps u e) target (condition e w (placed named o site))
  test_at e site x bases coded named k d n i o target le lt lt2 s bs st m eq stands r =
      unless_follows (Z bases coded named) e w (placed named o site) _ k d n (truth_steps u e) target ((x bases coded named).truth k d n i o false target le lt lt2) s bs st m eq stands r

  -- a statement that declares nothing
  body_at : (t : CStmt) (site : Environment) → DeclaresNothing t → Stated S w u t site → (bases : List Location) (coded named : Names) (k d n i o : ℕ) (to : Targets) → 1 ≤ d → stmt_need t site ≤ n → k + stmt_jumps t < 2 ^ 24 → to.broke < 2 ^ 24 → to.continued < 2 ^ 24
      → BodyAt (Z bases coded named) d n (stmt_code t (L bases) (placed coded i site) k d to) k (stmt_steps u t site) (does t S.deep w (placed named o site)) to
  body_at t site bare h bases coded named k d n i o to some le lt lb lc s bs st m eq stands r =
      (h bases coded named k d n i o to some le lt lb lc).at s bs st m eq stands r (nothing_framed t bare site.scope bs m.regs.bp bases i o)

  -- an expression that is run for what it does
  effect_at : (e : CExpr) (site : Environment) → ExprValued S w u (unused e) site → (bases : List Location) (coded named : Names) (k d n i o : ℕ) → waiting (unused e) ≤ n → k + expr_jumps (unused e) < 2 ^ 24
      → StepAt (Z bases coded named) d n (effect_code e (L bases) (placed coded i site) k d) k (steps u (unused e)) (value_of e w (placed named o site) >>= λ _. give tt)
  effect_at e site x bases coded named k d n i o le lt s bs st m eq stands r =
      let T = Z bases coded named in
      let l = (x bases coded named).value k d n i o le lt in
      let R = Reached T bs st m.memory m.regs.bp d (place_behind s (effect_code e (L bases) (placed coded i site) k d)) (λ (v : Unit {0}) bs m. Unit {0}) in
      subst (λ z. F T (here s m st) (fuel_of st) (steps u (unused e)) z R) (unused_same e w (placed named o site) tt st)
      (then_follows T.program T.input T.mode (here s m st) (fuel_of st) (steps u (unused e)) 0 (steps u (unused e)) (value_of (unused e) w (placed named o site)) st (λ _. give tt) _ R (l.at s bs st m eq stands r)
      (λ v st1 s1 m1 le1 q. give_follows T.program T.input T.mode tt s1 m1 st1 0 R (record { place = q.place; bases = q.bases; left = q.left; means = tt })) (omega arith))

  pub do_stated : (e : CExpr) (site : Environment) → ExprValued S w u (unused e) site → Stated S w u (Do_expr e) site
  do_stated e site x bases coded named k d n i o to some le lt lb lc = record {
    at = λ s bs st m eq stands r pending.
        (let T = Z bases coded named in
        let R = FlowReached T bs st m.memory m.regs.bp d to (place_behind s (effect_code e (L bases) (placed coded i site) k d)) in
        let g = as_good u e in
        let l = (x bases coded named).value k d n i o (omega (arith, le, g.waits)) (omega (arith, lt, g.count)) in
        let done = subst (λ z. F T (here s m st) (fuel_of st) (steps u (unused e)) z R) (unused_same e w (placed named o site) Next st) ((effect_performs {to = to} {i = i} {o = o} {objects = []} l).at s bs st m eq stands r tt) in
        wider T.program T.input T.mode (here s m st) (fuel_of st) (steps u (unused e)) (steps u e) (does (Do_expr e) S.deep w (placed named o site) st) R R done (λ flow st1 s1 m1 q. q) (omega (arith, g.cost)));
  }

  -- ---- one behind the other

  pub more_stated : (t : CStmt) (ts : CStmts) (site : Environment) → DeclaresNothing t → Stated S w u t site → AllStated S w u ts (behind t site) → AllStated S w u (MoreStmt t ts) site
  more_stated t ts site bare h hs bases coded named k d n i o to some le lt lb lc = record {
    at = λ s bs st m eq stands r pending.
        (let T = Z bases coded named in
        let pass = passes t bare ts site in
        let one = stmt_code t (L bases) (placed coded i site) k d to in
        let two = stmts_code ts (L bases) (behind t (placed coded i site)) (k + stmt_jumps t) d to in
        let rest = subst (λ z. AreFramed bs m.regs.bp bases i o z) pass.rest pending in
        let counted = body_count t bases (placed coded i site) k d to in
        go_on_follows T d n one two k (stmt_steps u t site) (stmts_steps u ts (behind t site)) (does t S.deep w (placed named o site)) (all_do ts S.deep w (behind t (placed named o site))) to s bs st m eq stands r
        (body_at t site bare h bases coded named k d n i o to some (max_left (stmt_need t site) (stmts_need ts (behind t site)) n le) (omega (arith, lt)) lb lc s bs st m eq (stands_first T.program s one two stands) r)
        (λ s1 bs1 st1 m1 e1 k1 r1 l1.
        let p = hs bases coded named (k + stmt_jumps t) d n i o to some (max_right (stmt_need t site) (stmts_need ts (behind t site)) n le) (omega (arith, lt)) lb lc in
        let p1 = subst (λ z. Performs T (stmts_code ts (L bases) z (k + stmt_jumps t) d to) (k + stmt_jumps t) d n (stmts_steps u ts (behind t site)) (all_do ts S.deep w (placed named o (behind t site))) to i o (block_objects (behind t site).scope ts)) (sym (pass.place coded i)) p in
        let p2 = subst (λ z. Performs T two (k + stmt_jumps t) d n (stmts_steps u ts (behind t site)) (all_do ts S.deep w z) to i o (block_objects (behind t site).scope ts)) (sym (pass.place named o)) p1 in
        p2.at s1 bs1 st1 m1 (e1 ∙ ap (λ z. k + z) counted) k1 r1 (framed_behind T bs bs1 st st1 m m1 d bases i o _ l1 rest)));
  }

  declared_stated : (decl : CDecl) (ts : CStmts) (site : Environment) → Stated S w u (Local decl) site → AllStated S w u ts (behind (Local decl) site) → AllStated S w u (MoreStmt (Local decl) ts) site
  declared_stated decl ts site h hs bases coded named k d n i o to some le lt lb lc = record {
    at = λ s bs st m eq stands r pending.
        (let T = Z bases coded named in
        let coded1 : Names = (decl.name, Some i) ∷ coded in
        let named1 : Names = (decl.name, Some o) ∷ named in
        let T1 = Z bases coded1 named1 in
        let t = Local decl in
        let next = behind t site in
        let one = stmt_code t (L bases) (placed coded i site) k d to in
        let two = stmts_code ts (L bases) (behind t (placed coded i site)) (k + stmt_jumps t) d to in
        let counted = body_count t bases (placed coded i site) k d to in
        let rest = subst (λ z. AreFramed bs m.regs.bp bases (suc i) (suc o) (block_objects z ts)) (sym (first_scope decl.first (declaring decl site))) pending.1 in
        go_on_follows T d n one two k (stmt_steps u t site) (stmts_steps u ts next) (does t S.deep w (placed named o site)) (all_do ts S.deep w (behind t (placed named o site))) to s bs st m eq stands r
        ((h bases coded named k d n i o to some (max_left (stmt_need t site) (stmts_need ts next) n le) (omega (arith, lt)) lb lc).at s bs st m eq (stands_first T.program s one two stands) r (pending.0, tt))
        (λ s1 bs1 st1 m1 e1 k1 r1 l1.
        let p = hs bases coded1 named1 (k + stmt_jumps t) d n (suc i) (suc o) to some (max_right (stmt_need t site) (stmts_need ts next) n le) (omega (arith, lt)) lb lc in
        let p1 = subst (λ z. Performs T1 (stmts_code ts (L bases) z (k + stmt_jumps t) d to) (k + stmt_jumps t) d n (stmts_steps u ts next) (all_do ts S.deep w (placed named1 (suc o) next)) to (suc i) (suc o) (block_objects next.scope ts)) (sym (behind_declared decl coded i site)) p in
        let p2 = subst (λ z. Performs T1 two (k + stmt_jumps t) d n (stmts_steps u ts next) (all_do ts S.deep w z) to (suc i) (suc o) (block_objects next.scope ts)) (sym (behind_declared decl named o site)) p1 in
        let x1 = framed_behind T bs bs1 st st1 m m1 d bases i o (unset_cells site.scope decl ∷ []) l1 (pending.0, tt) in
        let r2 = ready_declared S bases coded named decl.name i o bs1 st1 m1 d n x1.0 r1 in
        wider T.program T.input T.mode (here s1 m1 st1) (fuel_of st1) (stmts_steps u ts next) (stmts_steps u ts next) (all_do ts S.deep w (behind t (placed named o site)) st1) (FlowReached T1 bs1 st1 m1.memory m1.regs.bp d to (place_behind s1 two)) (FlowReached T bs1 st1 m1.memory m1.regs.bp d to (place_behind s1 two))
        (p2.at s1 bs1 st1 m1 (e1 ∙ ap (λ z. k + z) counted) k1 r2 (framed_behind T bs bs1 st st1 m m1 d bases (suc i) (suc o) _ l1 rest))
        (λ flow st2 s2 m2 q. record { goes = q.goes; bases = q.bases; left = record { framed = q.left.framed; lies = q.left.lies; post = q.left.post; charge = q.left.charge; words = q.left.words }; means = q.means }) (omega arith)));
  }

  -- ---- the forms

  pub block_stated : (ss : CStmts) (site : Environment) → AreUnset (block_objects (entered site.scope) ss) → AllStated S w u ss (in_block 0 site) → Stated S w u (Block ss) site
  block_stated ss site free h bases coded named k d n i o to some le lt lb lc =
      let objects = block_objects (entered site.scope) ss in
      let need = stmts_need ss (in_block 0 site) in
      performs_within (words_in objects + need) (stmts_steps u ss (in_block 0 site)) le (omega arith)
      (block_performs (Z bases coded named) objects free d need some (stmts_code ss (L (bases ++ framed objects d)) (placed coded (length bases) (in_block 0 site)) k (d + words_in objects) to) k (stmts_steps u ss (in_block 0 site)) to (λ o. all_do ss S.deep w (placed named o (in_block 0 site))) i o (objects_in site.scope (Block ss))
      (λ o. h (bases ++ framed objects d) coded named k (d + words_in objects) need (length bases) o to (omega (arith, some)) (omega arith) lt lb lc))

  if_stated : (e : CExpr) (t : CStmt) (site : Environment) → ExprValued S w u e site → DeclaresNothing t → Stated S w u t (past e site) → Stated S w u (If e t) site
  unfolding condition
  if_stated e t site x bare h bases coded named k d n i o to some le lt lb lc = record {
    at = λ s bs st m eq stands r pending.
        (let T = Z bases coded named in
        let place = placed coded i site in
        let end = k + truth_jumps e + stmt_jumps t + 1 in
        let ct = test_count e bases place k d false end in
        let cb = body_count t bases (past e place) (k + truth_jumps e) d to in
        if_follows T d n (unless_code e (L bases) place k d end) (stmt_code t (L bases) (past e place) (k + truth_jumps e) d to) k (truth_steps u e) (stmt_steps u t (past e site)) end (condition e w (placed named o site)) (does t S.deep w (past e (placed named o site))) to
        (omega (arith, ct, cb)) (omega (arith, lt)) (test_at e site x bases coded named k d n i o end (max_left (waiting e) (stmt_need t (past e site)) n le) (omega (arith, lt)) (omega (arith, lt)))
        (λ s1 bs1 st1 m1 e1 k1 r1. body_at t (past e site) bare h bases coded named (k + truth_jumps e) d n i o to some (max_right (waiting e) (stmt_need t (past e site)) n le) (omega (arith, lt)) lb lc s1 bs1 st1 m1 (e1 ∙ ap (λ z. k + z) ct) k1 r1)
        s bs st m eq stands r);
  }

  branches_stated : (e : CExpr) (t v : CStmt) (site : Environment) → ExprValued S w u e site → DeclaresNothing t → DeclaresNothing v → Stated S w u t (past e site) → Stated S w u v (past_stmt t (past e site)) → Stated S w u (IfElse e t v) site
  branches_stated e t v site x bare1 bare2 h1 h2 bases coded named k d n i o to some le lt lb lc = record {
    at = λ s bs st m eq stands r pending.
        (let T = Z bases coded named in
        let place = placed coded i site in
        let next = k + truth_jumps e + stmt_jumps t + 1 in
        let end = next + stmt_jumps v + 1 in
        let ct = test_count e bases place k d false next in
        let ca = body_count t bases (past e place) (k + truth_jumps e) d to in
        let cb = body_count v bases (past_stmt t (past e place)) next d to in
        let more = max_right (waiting e) (max (stmt_need t (past e site)) (stmt_need v (past_stmt t (past e site)))) n le in
        branches_follow T d n (unless_code e (L bases) place k d next) (stmt_code t (L bases) (past e place) (k + truth_jumps e) d to) (stmt_code v (L bases) (past_stmt t (past e place)) next d to) k (truth_steps u e) (stmt_steps u t (past e site)) (stmt_steps u v (past_stmt t (past e site))) next end
        (condition e w (placed named o site)) (does t S.deep w (past e (placed named o site))) (does v S.deep w (past_stmt t (past e (placed named o site)))) to (omega (arith, ct, ca)) (omega (arith, cb)) (omega (arith, lt))
        (test_at e site x bases coded named k d n i o next (max_left (waiting e) _ n le) (omega (arith, lt)) (omega (arith, lt)))
        (λ s1 bs1 st1 m1 e1 k1 r1. body_at t (past e site) bare1 h1 bases coded named (k + truth_jumps e) d n i o to some (max_left (stmt_need t (past e site)) _ n more) (omega (arith, lt)) lb lc s1 bs1 st1 m1 (e1 ∙ ap (λ z. k + z) ct) k1 r1)
        (λ s1 bs1 st1 m1 e1 k1 r1. body_at v (past_stmt t (past e site)) bare2 h2 bases coded named next d n i o to some (max_right (stmt_need t (past e site)) _ n more) (omega (arith, lt)) lb lc s1 bs1 st1 m1 e1 k1 r1)
        s bs st m eq stands r);
  }

  pub return_stated : (at : ℕ) (e : Option CExpr) (site : Environment) → MaybeValued S w u e site → Stated S w u (Return at e) site
  unfolding returned used_value
  return_stated at None site x bases coded named k d n i o to some le lt lb lc = record {
    at = λ s bs st m eq stands r pending. give_follows S.program S.input S.mode (Returned Missing) s m st 0 _ (record { goes = stands; bases = bs; left = left_here (Z bases coded named) bs st m d n r; means = tt });
  }
  return_stated at (Some e) site x bases coded named k d n i o to some le lt lb lc = record {
    at = λ s bs st m eq stands r pending.
        (let T = Z bases coded named in
        let code = value_code e (L bases) (placed coded i site) k d in
        let l = used_in_a T w (agrees_named S w bases coded named agrees) ((x bases coded named).value k d n i o le (omega (arith, lt))) in
        let R = FlowReached T bs st m.memory m.regs.bp d to (place_behind s (code ++ return_code)) in
        then_follows T.program T.input T.mode (here s m st) (fuel_of st) (steps u e) 0 (steps u e) (value_of e w (placed named o site) >>= used) st (λ v. give (Returned v)) _ R (l.at s bs st m eq (stands_first T.program s code return_code stands) r)
        (λ v st1 s1 m1 le1 q. give_follows T.program T.input T.mode (Returned v) s1 m1 st1 0 R (record { goes = subst (λ z. Stands T.program z return_code) (sym q.place) (stands_rest T.program s code return_code stands); bases = q.bases; left = q.left; means = q.means })) (omega arith));
  }

  -- ---- loops, where a unit pays for a turn

  module _ (worth : ℕ) (unit : UnitPays S.mode w.inner worth) where
    while_stated : (e : CExpr) (t : CStmt) (site : Environment) → ExprValued S w u e site → DeclaresNothing t → Stated S w u t (past e site) → stmt_steps u (While e t) site ≤ worth → Stated S w u (While e t) site
    while_stated e t site x bare h pays bases coded named k d n i o to some le lt lb lc = record {
      at = λ s bs st m eq stands r pending.
          (let T = Z bases coded named in
          let place = placed coded i site in
          let again = k + 1 in
          let end = again + truth_jumps e + stmt_jumps t + 1 in
          let ct = test_count e bases place again d false end in
          let cb = body_count t bases (past e place) (again + truth_jumps e) d (targets end again) in
          let code = unless_code e (L bases) place again d end in
          let body = stmt_code t (L bases) (past e place) (again + truth_jumps e) d (targets end again) in
          let R = FlowReached T bs st m.memory m.regs.bp d to (place_behind s (stmt_code (While e t) (L bases) place k d to)) in
          wider T.program T.input T.mode (here s m st) (fuel_of st) (1 + truth_steps u e) (stmt_steps u (While e t) site) (does (While e t) S.deep w (placed named o site) st) R R
          (while_follows T d n w.inner worth unit code body k (truth_steps u e) (stmt_steps u t (past e site)) again end (condition e w (placed named o site)) (does t S.deep w (past e (placed named o site))) to refl (omega (arith, ct, cb)) (omega (arith, lt)) (omega (arith, pays))
          (test_at e site x bases coded named again d n i o end (max_left (waiting e) (stmt_need t (past e site)) n le) (omega (arith, lt)) (omega (arith, lt)))
          (λ s1 bs1 st1 m1 e1 k1 r1. body_at t (past e site) bare h bases coded named (again + truth_jumps e) d n i o (targets end again) some (max_right (waiting e) (stmt_need t (past e site)) n le) (omega (arith, lt)) (omega (arith, lt)) (omega (arith, lt)) s1 bs1 st1 m1 (e1 ∙ ap (λ z. again + z) ct) k1 r1)
          s bs st m eq stands r)
          (λ flow st1 s1 m1 q. q) (omega arith));
    }

    do_while_stated : (t : CStmt) (e : CExpr) (site : Environment) → DeclaresNothing t → Stated S w u t site → ExprValued S w u e (past_stmt t site) → stmt_steps u (Do t e) site ≤ worth → Stated S w u (Do t e) site
    do_while_stated t e site bare h x pays bases coded named k d n i o to some le lt lb lc = record {
      at = λ s bs st m eq stands r pending.
          (let T = Z bases coded named in
          let place = placed coded i site in
          let first = k + 1 in
          let again = first + stmt_jumps t + 1 in
          let end = again + truth_jumps e in
          let body = stmt_code t (L bases) place first d (targets end again) in
          let code = where_code e (L bases) (past_stmt t place) again d first in
          let ct = test_count e bases (past_stmt t place) again d true first in
          let cb = body_count t bases place first d (targets end again) in
          let decides = (x bases coded named).truth again d n i o true first (max_right (stmt_need t site) (waiting e) n le) (omega (arith, lt)) (omega (arith, lt)) in
          let R = FlowReached T bs st m.memory m.regs.bp d to (place_behind s (stmt_code (Do t e) (L bases) place k d to)) in
          wider T.program T.input T.mode (here s m st) (fuel_of st) 1 (stmt_steps u (Do t e) site) (does (Do t e) S.deep w (placed named o site) st) R R
          (do_follows T d n w.inner worth unit body code k (truth_steps u e) (stmt_steps u t site) first again end (condition e w (past_stmt t (placed named o site))) (does t S.deep w (placed named o site)) to refl (omega (arith, cb)) (omega (arith, ct)) (omega (arith, lt)) (omega (arith, pays))
          decides.ends
          (λ s1 bs1 st1 m1 e1 k1 r1. body_at t site bare h bases coded named first d n i o (targets end again) some (max_left (stmt_need t site) (waiting e) n le) (omega (arith, lt)) (omega (arith, lt)) (omega (arith, lt)) s1 bs1 st1 m1 e1 k1 r1)
          (λ s1 bs1 st1 m1 e1 k1 r1. where_follows T e w (past_stmt t (placed named o site)) code again d n (truth_steps u e) first decides s1 bs1 st1 m1 e1 k1 r1)
          s bs st m eq stands r)
          (λ flow st1 s1 m1 q. q) (omega arith));
    }

    -- ---- `for`

    maybe_test_at : (e : Option CExpr) (site : Environment) → MaybeValued S w u e site → (bases : List Location) (coded named : Names) (k d n i o target : ℕ) → maybe_need e ≤ n → k + maybe_truth_jumps e < 2 ^ 24 → target < 2 ^ 24
        → TestAt (Z bases coded named) d n (maybe_unless_code e (L bases) (placed coded i site) k d target) k (maybe_truth_steps u e) target (maybe_condition e w (placed named o site))
    unfolding maybe_condition
    maybe_test_at None site x bases coded named k d n i o target le lt lt2 s bs st m eq stands r =
        give_follows S.program S.input S.mode true s m st 0 (TestReached (Z bases coded named) bs st m.memory m.regs.bp d s (front target)) (record { place = refl; bases = bs; left = left_here (Z bases coded named) bs st m d n r; means = tt })
    maybe_test_at (Some e) site x bases coded named k d n i o target le lt lt2 s bs st m eq stands r = test_at e site x bases coded named k d n i o target le lt lt2 s bs st m eq stands r

    maybe_step_at : (e : Option CExpr) (site : Environment) → EffectValued S w u e site → (bases : List Location) (coded named : Names) (k d n i o : ℕ) → maybe_need e ≤ n → k + maybe_jumps e < 2 ^ 24
        → StepAt (Z bases coded named) d n (maybe_effect_code e (L bases) (placed coded i site) k d) k (maybe_steps u e) (maybe_effect e w (placed named o site))
    unfolding maybe_effect
    maybe_step_at None site x bases coded named k d n i o le lt s bs st m eq stands r =
        give_follows S.program S.input S.mode tt s m st 0 (Reached (Z bases coded named) bs st m.memory m.regs.bp d s (λ (v : Unit {0}) bs m. Unit {0})) (record { place = refl; bases = bs; left = left_here (Z bases coded named) bs st m d n r; means = tt })
    maybe_step_at (Some e) site x bases coded named k d n i o le lt s bs st m eq stands r =
        let T = Z bases coded named in
        let g = as_good u e in
        let R = Reached T bs st m.memory m.regs.bp d (place_behind s (effect_code e (L bases) (placed coded i site) k d)) (λ (v : Unit {0}) bs m. Unit {0}) in
        wider T.program T.input T.mode (here s m st) (fuel_of st) (steps u (unused e)) (steps u e) ((value_of e w (placed named o site) >>= λ _. give tt) st) R R
        (effect_at e site x bases coded named k d n i o (omega (arith, le, g.waits)) (omega (arith, lt, g.count)) s bs st m eq stands r) (λ v st1 s1 m1 q. q) (omega (arith, g.cost))

    maybe_test_count : (e : Option CExpr) (bases : List Location) (place : Environment) (k d target : ℕ) → jumps (maybe_unless_code e (L bases) place k d target) ≡ maybe_truth_jumps e
    maybe_test_count None bases place k d target = refl
    maybe_test_count (Some e) bases place k d target = test_count e bases place k d false target

    maybe_step_count : (e : Option CExpr) (bases : List Location) (place : Environment) (k d : ℕ) → jumps (maybe_effect_code e (L bases) place k d) ≡ maybe_jumps e
    maybe_step_count None bases place k d = refl
    maybe_step_count (Some e) bases place k d = (value_jumps (unused e) (L bases) place k d).count ∙ (as_good u e).count

    -- the loop, behind its head
    for_at : (test step : Option CExpr) (t : CStmt) (site : Environment) → MaybeValued S w u test site → EffectValued S w u step (past_maybe test site) → DeclaresNothing t → Stated S w u t (past_maybe step (past_maybe test site))
        → maybe_truth_steps u test + maybe_steps u step + stmt_steps u t (past_maybe step (past_maybe test site)) + 2 ≤ worth → (bases : List Location) (coded named : Names) (k d n i o : ℕ) (to : Targets) → 1 ≤ d
        → max (maybe_need test) (max (maybe_need step) (stmt_need t (past_maybe step (past_maybe test site)))) ≤ n → k + (maybe_truth_jumps test + stmt_jumps t + maybe_jumps step + 3) < 2 ^ 24
        → BodyAt (Z bases coded named) d n (for_code k test step t (L bases) (placed coded i site) d (λ place first around. stmt_code t (L bases) place first d around)) k (1 + maybe_truth_steps u test)
        (loop w.inner S.deep (maybe_condition test w (placed named o site)) (maybe_effect step w (past_maybe test (placed named o site))) (does t S.deep w (past_maybe step (past_maybe test (placed named o site))))) to
    for_at test step t site x y bare h pays bases coded named k d n i o to some le lt =
        let T = Z bases coded named in
        let place = placed coded i site in
        let run = placed named o site in
        let mid = past_maybe test site in
        let last = past_maybe step mid in
        let again = k + 1 in
        let stepping = again + maybe_truth_jumps test + stmt_jumps t + 1 in
        let end = stepping + maybe_jumps step + 1 in
        let code_mid : past_maybe test place ≡ placed coded i mid = past_placed test coded i site in
        let run_mid : past_maybe test run ≡ placed named o mid = past_placed test named o site in
        let code_last : past_maybe step (past_maybe test place) ≡ placed coded i last = ap (past_maybe step) code_mid ∙ past_placed step coded i mid in
        let run_last : past_maybe step (past_maybe test run) ≡ placed named o last = ap (past_maybe step) run_mid ∙ past_placed step named o mid in
        let rest = max_right (maybe_need test) (max (maybe_need step) (stmt_need t last)) n le in
        let ct = maybe_test_count test bases place again d end in
        let cb = body_count t bases (past_maybe step (past_maybe test place)) (again + maybe_truth_jumps test) d (targets end stepping) in
        let cs = maybe_step_count step bases (past_maybe test place) stepping d in
        let first = again + maybe_truth_jumps test in
        let b0 = body_at t last bare h bases coded named first d n i o (targets end stepping) some (max_right (maybe_need step) (stmt_need t last) n rest) (omega (arith, lt)) (omega (arith, lt)) (omega (arith, lt)) in
        let b1 = subst (λ z. BodyAt T d n (stmt_code t (L bases) z first d (targets end stepping)) first (stmt_steps u t last) (does t S.deep w (placed named o last)) (targets end stepping)) (sym code_last) b0 in
        let b2 = subst (λ z. BodyAt T d n (stmt_code t (L bases) (past_maybe step (past_maybe test place)) first d (targets end stepping)) first (stmt_steps u t last) (does t S.deep w z) (targets end stepping)) (sym run_last) b1 in
        let s0 = maybe_step_at step mid y bases coded named stepping d n i o (max_left (maybe_need step) (stmt_need t last) n rest) (omega (arith, lt)) in
        let s1 = subst (λ z. StepAt T d n (maybe_effect_code step (L bases) z stepping d) stepping (maybe_steps u step) (maybe_effect step w (placed named o mid))) (sym code_mid) s0 in
        let s2 = subst (λ z. StepAt T d n (maybe_effect_code step (L bases) (past_maybe test place) stepping d) stepping (maybe_steps u step) (maybe_effect step w z)) (sym run_mid) s1 in
        let there : first ≡ again + jumps (maybe_unless_code test (L bases) place again d end) = ap (λ z. again + z) (sym ct) in
        let b3 = subst (λ z. BodyAt T d n (stmt_code t (L bases) (past_maybe step (past_maybe test place)) first d (targets end stepping)) z (stmt_steps u t last) (does t S.deep w (past_maybe step (past_maybe test run))) (targets end stepping)) there b2 in
        for_follows T d n w.inner worth unit (maybe_unless_code test (L bases) place again d end) (stmt_code t (L bases) (past_maybe step (past_maybe test place)) first d (targets end stepping)) (maybe_effect_code step (L bases) (past_maybe test place) stepping d)
        k (maybe_truth_steps u test) (stmt_steps u t last) (maybe_steps u step) again stepping end (maybe_condition test w run) (does t S.deep w (past_maybe step (past_maybe test run))) (maybe_effect step w (past_maybe test run)) to refl (omega (arith, ct, cb)) (omega (arith, cs)) (omega (arith, lt)) (omega (arith, pays))
        (maybe_test_at test site x bases coded named again d n i o end (max_left (maybe_need test) (max (maybe_need step) (stmt_need t last)) n le) (omega (arith, lt)) (omega (arith, lt))) b3 s2

    -- a head that declares nothing, and the loop
    for_head : (start : CStmt) (test step : Option CExpr) (t : CStmt) (site : Environment) → DeclaresNothing start → Stated S w u start site → MaybeValued S w u test (behind start site) → EffectValued S w u step (past_maybe test (behind start site)) → DeclaresNothing t
        → Stated S w u t (past_maybe step (past_maybe test (behind start site))) → stmt_steps u start site + (maybe_truth_steps u test + maybe_steps u step + stmt_steps u t (past_maybe step (past_maybe test (behind start site))) + 2) ≤ worth
        → (bases : List Location) (coded named : Names) (k d n i o : ℕ) (to : Targets) → 1 ≤ d → max (stmt_need start site) (max (maybe_need test) (max (maybe_need step) (stmt_need t (past_maybe step (past_maybe test (behind start site)))))) ≤ n
        → k + (stmt_jumps start + maybe_truth_jumps test + stmt_jumps t + maybe_jumps step + 3) < 2 ^ 24 → to.broke < 2 ^ 24 → to.continued < 2 ^ 24
        → Performs (Z bases coded named) (stmt_code start (L bases) (placed coded i site) k d to ++ for_code (k + stmt_jumps start) test step t (L bases) (behind start (placed coded i site)) d (λ place first around. stmt_code t (L bases) place first d around)) k d n
        (stmt_steps u start site + (maybe_truth_steps u test + maybe_steps u step + stmt_steps u t (past_maybe step (past_maybe test (behind start site))) + 2))
        (does start S.deep w (placed named o site) >>= λ flow. go_on flow (loop w.inner S.deep (maybe_condition test w (behind start (placed named o site))) (maybe_effect step w (past_maybe test (behind start (placed named o site)))) (does t S.deep w (past_maybe step (past_maybe test (behind start (placed named o site)))))))
        to i o []
    for_head start test step t site bare0 h0 x y bare h pays bases coded named k d n i o to some le lt lb lc = record {
      at = λ s bs st m eq stands r pending.
          (let T = Z bases coded named in
          let inner = behind start site in
          let pass = passes start bare0 NoStmt site in
          let one = stmt_code start (L bases) (placed coded i site) k d to in
          let two = for_code (k + stmt_jumps start) test step t (L bases) (behind start (placed coded i site)) d (λ place first around. stmt_code t (L bases) place first d around) in
          let k1 = k + stmt_jumps start in
          let counted = body_count start bases (placed coded i site) k d to in
          let turn = maybe_truth_steps u test + maybe_steps u step + stmt_steps u t (past_maybe step (past_maybe test inner)) + 2 in
          let second : Run Flow = loop w.inner S.deep (maybe_condition test w (behind start (placed named o site))) (maybe_effect step w (past_maybe test (behind start (placed named o site)))) (does t S.deep w (past_maybe step (past_maybe test (behind start (placed named o site))))) in
          let f0 = for_at test step t inner x y bare h (omega (arith, pays)) bases coded named k1 d n i o to some (max_right (stmt_need start site) _ n le) (omega (arith, lt)) in
          let f1 = subst (λ z. BodyAt T d n (for_code k1 test step t (L bases) z d (λ place first around. stmt_code t (L bases) place first d around)) k1 (1 + maybe_truth_steps u test) (loop w.inner S.deep (maybe_condition test w (placed named o inner)) (maybe_effect step w (past_maybe test (placed named o inner))) (does t S.deep w (past_maybe step (past_maybe test (placed named o inner))))) to) (sym (pass.place coded i)) f0 in
          let f2 = subst (λ z. BodyAt T d n two k1 (1 + maybe_truth_steps u test) (loop w.inner S.deep (maybe_condition test w z) (maybe_effect step w (past_maybe test z)) (does t S.deep w (past_maybe step (past_maybe test z)))) to) (sym (pass.place named o)) f1 in
          go_on_follows T d n one two k (stmt_steps u start site) turn (does start S.deep w (placed named o site)) second to s bs st m eq stands r
          (body_at start site bare0 h0 bases coded named k d n i o to some (max_left (stmt_need start site) _ n le) (omega (arith, lt)) lb lc s bs st m eq (stands_first T.program s one two stands) r)
          (λ s1 bs1 st1 m1 e1 q1 r1 l1. wider T.program T.input T.mode (here s1 m1 st1) (fuel_of st1) (1 + maybe_truth_steps u test) turn (second st1) _ _ (f2 s1 bs1 st1 m1 (e1 ∙ ap (λ z. k + z) counted) q1 r1) (λ flow st2 s2 m2 q. q) (omega arith)));
    }

    -- a head with declarations, and the loop
    head_stated : (ss : CStmts) (test step : Option CExpr) (t : CStmt) (site : Environment) → AreUnset (block_objects (entered site.scope) ss) → AllStated S w u ss (in_block 0 site) → MaybeValued S w u test (behind_all ss (in_block 0 site)) → EffectValued S w u step (past_maybe test (behind_all ss (in_block 0 site))) → DeclaresNothing t
        → Stated S w u t (past_maybe step (past_maybe test (behind_all ss (in_block 0 site)))) → stmt_steps u (For (Block ss) test step t) site ≤ worth → Stated S w u (For (Block ss) test step t) site
    head_stated ss test step t site free hs x y bare h pays bases coded named k d n i o to some le lt lb lc =
        let objects = block_objects (entered site.scope) ss in
        let begin = in_block 0 site in
        let inner = behind_all ss begin in
        let last = past_maybe step (past_maybe test inner) in
        let loop_need = max (maybe_need test) (max (maybe_need step) (stmt_need t last)) in
        let need = max (stmts_need ss begin) loop_need in
        let bases1 = bases ++ framed objects d in
        let T = Z bases1 coded named in
        let at0 = length bases in
        let d1 = d + words_in objects in
        let c1 = stmts_steps u ss begin in
        let turn = maybe_truth_steps u test + maybe_steps u step + stmt_steps u t last + 2 in
        let k1 = k + stmts_jumps ss in
        let one = stmts_code ss (L bases1) (placed coded at0 begin) k d1 to in
        let two = for_code k1 test step t (L bases1) (behind_all ss (placed coded at0 begin)) d1 (λ place first around. stmt_code t (L bases1) place first d1 around) in
        let looping : Environment → Run Flow = λ z. loop w.inner S.deep (maybe_condition test w z) (maybe_effect step w (past_maybe test z)) (does t S.deep w (past_maybe step (past_maybe test z))) in
        let counted : jumps one ≡ stmts_jumps ss = (stmt_jumps_are (Block ss) (L bases) (placed coded i site) k d to).count in
        performs_within (words_in objects + need) (c1 + turn) le (omega arith)
        (block_performs (Z bases coded named) objects free d need some (one ++ two) k (c1 + turn) to (λ o. all_do ss S.deep w (placed named o begin) >>= λ flow. go_on flow (looping (behind_all ss (placed named o begin)))) i o (objects_in site.scope (For (Block ss) test step t))
        (λ o1. record {
          at = λ s bs st m eq stands r pending.
              (let coded1 = names_behind_all ss at0 coded in
              let named1 = names_behind_all ss o1 named in
              let T1 = Z bases1 coded1 named1 in
              let f0 = for_at test step t inner x y bare h (omega (arith, pays)) bases1 coded1 named1 k1 d1 need (number_behind_all ss at0) (number_behind_all ss o1) to (omega (arith, some)) (max_right (stmts_need ss begin) loop_need need (omega arith)) (omega (arith, lt)) in
              let f1 = subst (λ z. BodyAt T1 d1 need (for_code k1 test step t (L bases1) z d1 (λ place first around. stmt_code t (L bases1) place first d1 around)) k1 (1 + maybe_truth_steps u test) (looping (placed named1 (number_behind_all ss o1) inner)) to) (sym (behind_all_is ss coded at0 begin)) f0 in
              let f2 = subst (λ z. BodyAt T1 d1 need two k1 (1 + maybe_truth_steps u test) (looping z) to) (sym (behind_all_is ss named o1 begin)) f1 in
              let second = looping (behind_all ss (placed named o1 begin)) in
              go_on_follows T d1 need one two k c1 turn (all_do ss S.deep w (placed named o1 begin)) second to s bs st m eq stands r
              ((hs bases1 coded named k d1 need at0 o1 to (omega (arith, some)) (max_left (stmts_need ss begin) loop_need need (omega arith)) (omega (arith, lt)) lb lc).at s bs st m eq (stands_first T.program s one two stands) r pending)
              (λ s1 bs1 st1 m1 e1 q1 r1 l1.
              let pending1 = framed_behind T bs bs1 st st1 m m1 d1 bases1 at0 o1 objects l1 pending in
              let r2 = ready_behind_all S bases1 bs1 st1 m1 d1 need ss (entered site.scope) coded named at0 o1 pending1 r1 in
              wider T.program T.input T.mode (here s1 m1 st1) (fuel_of st1) (1 + maybe_truth_steps u test) turn (second st1) (FlowReached T1 bs1 st1 m1.memory m1.regs.bp d1 to (place_behind s1 two)) (FlowReached T bs1 st1 m1.memory m1.regs.bp d1 to (place_behind s1 two)) (f2 s1 bs1 st1 m1 (e1 ∙ ap (λ z. k + z) counted) q1 r2)
              (λ flow st2 s2 m2 q. record { goes = q.goes; bases = q.bases; left = record { framed = q.left.framed; lies = q.left.lies; post = q.left.post; charge = q.left.charge; words = q.left.words }; means = q.means }) (omega arith)));
        }))

    -- ---- all statements

    mutual
      pub stated : (t : CStmt) (site : Environment) → StmtValued S w u t site → stmt_steps u t site ≤ worth → Stated S w u t site
      stated (Block ss) site v le = block_stated ss site (unset ss (in_block 0 site) v) (all_stated ss (in_block 0 site) v le)
      stated (Local decl) site v le = λ bases coded named k d n i o to some room lt lb lc. v.1 bases coded named k d n i o to room lt
      stated (Do_expr e) site v le = do_stated e site v
      stated Empty site v le = λ bases coded named k d n i o to some room lt lb lc. record { at = λ s bs st m eq stands r pending. give_follows S.program S.input S.mode Next s m st 0 _ (record { goes = refl; bases = bs; left = left_here (Z bases coded named) bs st m d n r; means = tt }) }
      stated (If e t) site v le = if_stated e t site v.0 v.1 (stated t (past e site) v.2 (omega (arith, le)))
      stated (IfElse e t x) site v le = branches_stated e t x site v.0 v.1 v.2 (stated t (past e site) v.3 (omega (arith, le))) (stated x (past_stmt t (past e site)) v.4 (omega (arith, le)))
      stated (While e t) site v le = while_stated e t site v.0 v.1 (stated t (past e site) v.2 (omega (arith, le))) le
      stated (Do t e) site v le = do_while_stated t e site v.0 (stated t site v.1 (omega (arith, le))) v.2 le
      stated (For (Block ss) test step t) site v le = head_stated ss test step t site (unset ss (in_block 0 site) v.0) (all_stated ss (in_block 0 site) v.0 (omega (arith, le))) v.1 v.2 v.3 (stated t _ v.4 (omega (arith, le))) le
      stated (For (Local decl) test step t) site v le = absurd v.0
      stated (For (Do_expr e) test step t) site v le = for_head (Do_expr e) test step t site v.0 (stated (Do_expr e) site v.1 (omega (arith, le))) v.2 v.3 v.4 (stated t _ v.5 (omega (arith, le))) le
      stated (For Empty test step t) site v le = for_head Empty test step t site v.0 (stated Empty site v.1 (omega arith)) v.2 v.3 v.4 (stated t _ v.5 (omega (arith, le))) le
      stated (For (If e a) test step t) site v le = for_head (If e a) test step t site v.0 (stated (If e a) site v.1 (omega (arith, le))) v.2 v.3 v.4 (stated t _ v.5 (omega (arith, le))) le
      stated (For (IfElse e a b) test step t) site v le = for_head (IfElse e a b) test step t site v.0 (stated (IfElse e a b) site v.1 (omega (arith, le))) v.2 v.3 v.4 (stated t _ v.5 (omega (arith, le))) le
      stated (For (While e a) test step t) site v le = for_head (While e a) test step t site v.0 (stated (While e a) site v.1 (omega (arith, le))) v.2 v.3 v.4 (stated t _ v.5 (omega (arith, le))) le
      stated (For (Do a e) test step t) site v le = for_head (Do a e) test step t site v.0 (stated (Do a e) site v.1 (omega (arith, le))) v.2 v.3 v.4 (stated t _ v.5 (omega (arith, le))) le
      stated (For (For x y z a) test step t) site v le = for_head (For x y z a) test step t site v.0 (stated (For x y z a) site v.1 (omega (arith, le))) v.2 v.3 v.4 (stated t _ v.5 (omega (arith, le))) le
      stated (For (Return at e) test step t) site v le = for_head (Return at e) test step t site v.0 (stated (Return at e) site v.1 (omega (arith, le))) v.2 v.3 v.4 (stated t _ v.5 (omega (arith, le))) le
      stated (For (Break at) test step t) site v le = for_head (Break at) test step t site v.0 (stated (Break at) site v.1 (omega arith)) v.2 v.3 v.4 (stated t _ v.5 (omega (arith, le))) le
      stated (For (Continue at) test step t) site v le = for_head (Continue at) test step t site v.0 (stated (Continue at) site v.1 (omega arith)) v.2 v.3 v.4 (stated t _ v.5 (omega (arith, le))) le
      stated (For (Switch e ps) test step t) site v le = for_head (Switch e ps) test step t site v.0 (stated (Switch e ps) site v.1 (omega (arith, le))) v.2 v.3 v.4 (stated t _ v.5 (omega (arith, le))) le
      stated (Return at e) site v le = return_stated at e site v
      stated (Break at) site v le = λ bases coded named k d n i o to some room lt lb lc. record { at = λ s bs st m eq stands r pending. give_follows S.program S.input S.mode Broke s m st 0 _ (record { goes = stands.0; bases = bs; left = left_here (Z bases coded named) bs st m d n r; means = tt }) }
      stated (Continue at) site v le = λ bases coded named k d n i o to some room lt lb lc. record { at = λ s bs st m eq stands r pending. give_follows S.program S.input S.mode Continued s m st 0 _ (record { goes = stands.0; bases = bs; left = left_here (Z bases coded named) bs st m d n r; means = tt }) }
      stated (Switch e ps) site v le = switch_stated S w agrees u e ps site v.0 v.1 (parts_unset ps (in_block 0 (past e site)) v.2) (all_tails ps (in_block 0 (past e site)) v.2 (omega (arith, le)))

      pub all_stated : (ts : CStmts) (site : Environment) → StmtsValued S w u ts site → stmts_steps u ts site ≤ worth → AllStated S w u ts site
      all_stated NoStmt site v le = λ bases coded named k d n i o to some room lt lb lc. record { at = λ s bs st m eq stands r pending. give_follows S.program S.input S.mode Next s m st 0 _ (record { goes = refl; bases = bs; left = left_here (Z bases coded named) bs st m d n r; means = tt }) }
      all_stated (MoreStmt (Local decl) ts) site v le = declared_stated decl ts site (stated (Local decl) site v.0 (omega (arith, le))) (all_stated ts (behind (Local decl) site) v.1 (omega (arith, le)))
      all_stated (MoreStmt (Block ss) ts) site v le = more_stated (Block ss) ts site tt (stated (Block ss) site v.0 (omega (arith, le))) (all_stated ts (behind (Block ss) site) v.1 (omega (arith, le)))
      all_stated (MoreStmt (Do_expr e) ts) site v le = more_stated (Do_expr e) ts site tt (stated (Do_expr e) site v.0 (omega (arith, le))) (all_stated ts (behind (Do_expr e) site) v.1 (omega (arith, le)))
      all_stated (MoreStmt Empty ts) site v le = more_stated Empty ts site tt (stated Empty site v.0 (omega (arith, le))) (all_stated ts (behind Empty site) v.1 (omega (arith, le)))
      all_stated (MoreStmt (If e a) ts) site v le = more_stated (If e a) ts site tt (stated (If e a) site v.0 (omega (arith, le))) (all_stated ts (behind (If e a) site) v.1 (omega (arith, le)))
      all_stated (MoreStmt (IfElse e a b) ts) site v le = more_stated (IfElse e a b) ts site tt (stated (IfElse e a b) site v.0 (omega (arith, le))) (all_stated ts (behind (IfElse e a b) site) v.1 (omega (arith, le)))
      all_stated (MoreStmt (While e a) ts) site v le = more_stated (While e a) ts site tt (stated (While e a) site v.0 (omega (arith, le))) (all_stated ts (behind (While e a) site) v.1 (omega (arith, le)))
      all_stated (MoreStmt (Do a e) ts) site v le = more_stated (Do a e) ts site tt (stated (Do a e) site v.0 (omega (arith, le))) (all_stated ts (behind (Do a e) site) v.1 (omega (arith, le)))
      all_stated (MoreStmt (For x y z a) ts) site v le = more_stated (For x y z a) ts site tt (stated (For x y z a) site v.0 (omega (arith, le))) (all_stated ts (behind (For x y z a) site) v.1 (omega (arith, le)))
      all_stated (MoreStmt (Return at e) ts) site v le = more_stated (Return at e) ts site tt (stated (Return at e) site v.0 (omega (arith, le))) (all_stated ts (behind (Return at e) site) v.1 (omega (arith, le)))
      all_stated (MoreStmt (Break at) ts) site v le = more_stated (Break at) ts site tt (stated (Break at) site v.0 (omega (arith, le))) (all_stated ts (behind (Break at) site) v.1 (omega (arith, le)))
      all_stated (MoreStmt (Continue at) ts) site v le = more_stated (Continue at) ts site tt (stated (Continue at) site v.0 (omega (arith, le))) (all_stated ts (behind (Continue at) site) v.1 (omega (arith, le)))
      all_stated (MoreStmt (Switch e ps) ts) site v le = more_stated (Switch e ps) ts site tt (stated (Switch e ps) site v.0 (omega (arith, le))) (all_stated ts (behind (Switch e ps) site) v.1 (omega (arith, le)))

      all_parts : (ps : CParts) (site : Environment) → PartsValued S w u ps site → parts_steps u ps site ≤ worth → PartsStated S w u ps site
      all_parts NoPart site v le = no_parts S w agrees u site
      all_parts (MorePart (Label at e) ps) site v le = label_stated S w agrees u at e ps site (all_parts ps site v (omega (arith, le)))
      all_parts (MorePart (Item t) ps) site v le = item_stated S w agrees u t ps site (stated t site v.0 (omega (arith, le))) (all_parts ps (behind t site) v.1 (omega (arith, le)))

      all_tails : (ps : CParts) (site : Environment) → PartsValued S w u ps site → parts_steps u ps site ≤ worth → TailsStated S w u ps site
      all_tails NoPart site v le = tt
      all_tails (MorePart (Label at e) ps) site v le = (all_parts ps site v (omega (arith, le)), all_tails ps site v (omega (arith, le)))
      all_tails (MorePart (Item t) ps) site v le = (all_parts ps (behind t site) v.1 (omega (arith, le)), all_tails ps (behind t site) v.1 (omega (arith, le)))
