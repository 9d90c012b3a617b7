-- A statement with fewer operators does what the statement does.
use Rattle.std.proofs.Common.{◌≡◌, ℕ, ◌%◌, ◌^◌, ◌<◌, List, Option, Some, None, Bool, true, false, refl, sym, ap, ap₂, ◌∙◌, subst, arith}
use Rattle.std.specs.Prelude.{◌||◌, ◌==◌, Ok, if◌then◌else◌}
use Rattle.std.specs.Option.{option_map}
use Rattle.c_syntax.specs.Plain as plain
use Rattle.c_syntax.specs.Plain.{CExpr, CDecl, CStmt, CStmts, CParts}
use Rattle.c_types.specs.Refusals.{Judged, both, all_three, keeping}
use Rattle.c_types.specs.Scope.{Scope, entered}
use Rattle.c_types.specs.Operands.{Operand}
use Rattle.c_types.specs.Expressions.{judged}
use Rattle.c_types.specs.Declarations.{scope_or}
use Rattle.c_types.specs.Statements.{Around, in_loop, in_switch, condition_rules, test_rules, return_rules, switch_rules, maybe_judged, stated, all_stated, all_parts}
use Rattle.c_types.specs.Census.{scope_behind, scope_behind_all}
use Rattle.c_eval.specs.State.{Run}
use Rattle.c_eval.specs.Run.{◌>>=◌, give, choose}
use Rattle.c_eval.specs.Memory.{within}
use Rattle.c_eval.specs.Operators.{of_word}
use Rattle.c_eval.specs.Environment.{constant_in, block_objects, parts_objects, Environment, past, past_maybe, past_stmt, behind, behind_all, in_block, Target, Case, Default, is_target, has_target, target_of}
use Rattle.c_eval.specs.Eval.{World, value_of, used_value, condition, first_value, Flow, Next, Broke, Continued, Returned, go_on, behind_switch, loop, maybe_condition, maybe_effect, does, all_do, parts_do, parts_from}
use Rattle.c_valid.specs.Valid.{IsValid}
use Rattle.c_valid.specs.Limited.{MaybeIsLimited, StmtIsLimited, StmtsAreLimited}
use Rattle.c_valid.proofs.Constants.{constant_in_below}
use Rattle.c_valid.proofs.Keeping.{Keeps, Any, bind_keeps, give_keeps}
use Rattle.c_valid.proofs.Meanings.{FlowIsValid, used_value_keeps, condition_keeps, scope_is, all_scope_is, does_keeps}
use Rattle.c_alike.specs.Alike.{EachName}
use Rattle.c_fewer_types.specs.Written.{StringsAreShort}
use Rattle.c_helpers.specs.Fewer.{fewer, constant_tree, maybe_fewer, with_values, fewer_in, fewer_in_all, fewer_in_parts, fewer_in_declaration}
use Rattle.c_fewer_types.specs.Standing.{ScopesStand, MaybeHas, StmtHas, IsDeclaration, AnyDeclaration}
use Rattle.c_fewer_types.proofs.Scopes.{entered_stand}
use Rattle.c_fewer_types.proofs.FewerTypedRules.{after_is, both_is, three_is}
use Rattle.c_fewer_types.proofs.FewerLiteralsProofs.{all_behind}
use Rattle.c_fewer_values.specs.Helping.{Helps}
use Rattle.c_fewer_values.proofs.Runs.{first_is}
use Rattle.c_fewer_meaning.specs.Ordinary.{StaysValid}
use Rattle.c_fewer_meaning.specs.Laws.{elsewhere}
use Rattle.c_fewer_meaning.proofs.Same.{Agree, bind_agree, chosen_agree}
use Rattle.c_fewer_meaning.specs.FewerStatementsOrdinary.{MaybeIsOrdinary, StmtIsOrdinary}
use Rattle.c_fewer_meaning.specs.FewerStatementsLaws.{StatementsAreKept}
use Rattle.c_fewer_meaning.proofs.Runs.{itself, if_agree, go_on_agree, loop_agree, do_loop_agree, within_agree, of_word_agree}
use Rattle.c_fewer_meaning.proofs.Fits.{ExprFits, MaybeFits, StmtFits, StmtsFit, PartsFit, first_fits, rest_fits, label_rest, item_first, item_rest}
use Rattle.c_fewer_meaning.proofs.Objects.{block_valid, parts_valid, block_same, parts_same}
use Rattle.c_fewer_meaning.proofs.Places.{maybe_scope, past_same, maybe_past, stmt_past, behind_same, all_behind_same}
use Rattle.c_fewer_meaning.proofs.Firsts as firsts

-- ---- labels

label_same : (s s' : Scope) (at : ℕ) (x : Option CExpr) (target : Target) → is_target target s' (plain.Label at (option_map (constant_tree s) x)) ≡ is_target target s (plain.Label at x)
label_same s s' at (Some e) (Case word) =
    let few : constant_in s e < 2 ^ 24 = constant_in_below s e in
    let whole : constant_in s e % 2 ^ 24 ≡ constant_in s e = omega (arith, few) in
    ap (λ n. n == word) whole
label_same s s' at None (Case word) = refl
label_same s s' at (Some e) Default = refl
label_same s s' at None Default = refl

item_target : (target : Target) (s : Scope) (t : CStmt) → is_target target s (plain.Item t) ≡ false
item_target (Case word) s t = refl
item_target Default s t = refl

module _ (test : List ℕ → Bool) (w : World) (o' : Scope) (helps : (name : List ℕ) → test name ≡ true → Helps w o' name) (outer : w.inner ≡ false) (stays : StaysValid w) where
  abbrev P : List ℕ → Type 0
  P name = test name ≡ true

  -- ---- what a statement does in the text and in the other

  abbrev Does : CStmt → Environment → Scope → ℕ → Type 0
  Does t here s' deep = Agree (does (fewer_in here.scope t) deep w (elsewhere s' here)) (does t deep w here)

  abbrev DoesSo : CStmt → Type 0
  DoesSo t = (here : Environment) (s' : Scope) (deep : ℕ) → StmtFits P here.scope s' t → Does t here s' deep

  abbrev AllDoSo : CStmts → Type 0
  AllDoSo ss = (here : Environment) (s' : Scope) (deep : ℕ) → StmtsFit P here.scope s' ss → Agree (all_do (fewer_in_all here.scope ss) deep w (elsewhere s' here)) (all_do ss deep w here)

  -- the same where the scope is known by another name
  moved : (t : CStmt) → DoesSo t → (here : Environment) (z : Scope) → here.scope ≡ z → (s' : Scope) (deep : ℕ) → StmtFits P z s' t → Agree (does (fewer_in z t) deep w (elsewhere s' here)) (does t deep w here)
  moved t f here z e s' deep = subst (λ z. StmtFits P z s' t → Agree (does (fewer_in z t) deep w (elsewhere s' here)) (does t deep w here)) e (λ a. f here s' deep a)

  -- at a place that is another's
  at_place : {A : Type 0} (m : Environment → Run A) (n : Run A) (h k : Environment) → h ≡ k → Agree (m k) n → Agree (m h) n
  at_place m n h k e = subst (λ z. Agree (m z) n) (sym e)

  go_on_keeps : (flow : Flow) {m : Run Flow} → FlowIsValid flow → Keeps FlowIsValid m → Keeps FlowIsValid (go_on flow m)
  unfolding go_on
  go_on_keeps Next a t = t
  go_on_keeps Broke a t = give_keeps Broke tt
  go_on_keeps Continued a t = give_keeps Continued tt
  go_on_keeps (Returned v) a t = give_keeps (Returned v) a

  all_keep : (ss : CStmts) (deep : ℕ) (here : Environment) → StmtsAreLimited here.scope ss → Keeps FlowIsValid (all_do ss deep w here)
  all_keep plain.NoStmt deep here l = give_keeps Next tt
  all_keep (plain.MoreStmt t ts) deep here l =
      bind_keeps (does_keeps t deep w here l.0 (firsts.world test w o' helps outer stays)) (λ flow a. go_on_keeps flow a (all_keep ts deep (behind t here) (subst (λ x. StmtsAreLimited x ts) (sym (scope_is t here)) l.1)))

  -- ---- one statement behind another

  more_do : (t : CStmt) (ts : CStmts) → DoesSo t → AllDoSo ts → AllDoSo (plain.MoreStmt t ts)
  more_do t ts one all here s' deep a =
      let s : Scope = here.scope in
      let r' : Scope = scope_behind s' (fewer_in s t) in
      let fits : StmtFits P s s' t = first_fits test s s' t ts a in
      let t' : CStmt = fewer_in s t in
      let ts' : CStmts = fewer_in_all (scope_behind s t) ts in
      let there : Environment = elsewhere s' here in
      let rest : Agree (all_do ts' deep w (elsewhere r' (behind t here))) (all_do ts deep w (behind t here)) =
      subst (λ z. StmtsFit P z r' ts → Agree (all_do (fewer_in_all z ts) deep w (elsewhere r' (behind t here))) (all_do ts deep w (behind t here))) (scope_is t here) (λ b. all (behind t here) r' deep b) (rest_fits test s s' t ts a) in
      bind_agree FlowIsValid (does t' deep w there) (does t deep w here) (λ flow. go_on flow (all_do ts' deep w (behind t' there))) (λ flow. go_on flow (all_do ts deep w (behind t here)))
      (one here s' deep fits) (does_keeps t deep w here fits.limited (firsts.world test w o' helps outer stays))
      (λ flow _. go_on_agree flow (all_do ts' deep w (behind t' there)) (all_do ts deep w (behind t here))
      (at_place (λ h. all_do ts' deep w h) (all_do ts deep w (behind t here)) (behind t' there) (elsewhere r' (behind t here)) (behind_same test t here s' fits) rest))

  block_do : (ss : CStmts) → AllDoSo ss → DoesSo (plain.Block ss)
  block_do ss all here s' deep a =
      let s : Scope = here.scope in
      let l = after_is (all_stated (entered s) a.around ss) (λ _. Ok s) a.scope a.is in
      let fits : StmtsFit P (entered s) (entered s') ss = record { stand = entered_stand P s s' a.stand; short = a.short; limited = a.limited; ordinary = a.ordinary; names = a.names; around = a.around; scope = l.0; is = l.1 } in
      within_agree (block_objects (entered s') (fewer_in_all (entered s) ss)) (block_objects (entered s) ss) (λ n. all_do (fewer_in_all (entered s) ss) deep w (in_block n (elsewhere s' here))) (λ n. all_do ss deep w (in_block n here))
      (block_same test ss (entered s) (entered s') fits) (block_valid (entered s) ss a.limited) (λ n. all (in_block n here) (entered s') deep fits)

  -- ---- choices and loops

  -- a statement behind a condition
  behind_test : (e : CExpr) (t : CStmt) → DoesSo t → (here : Environment) (s' : Scope) (deep : ℕ) → ExprFits P here.scope s' e → StmtFits P here.scope s' t → Agree (does (fewer_in here.scope t) deep w (past (fewer here.scope e) (elsewhere s' here))) (does t deep w (past e here))
  behind_test e t one here s' deep a b =
      at_place (λ h. does (fewer_in here.scope t) deep w h) (does t deep w (past e here)) (past (fewer here.scope e) (elsewhere s' here)) (elsewhere s' (past e here)) (past_same test e here s' a) (one (past e here) s' deep b)

  if_do : (e : CExpr) (t : CStmt) → DoesSo t → DoesSo (plain.If e t)
  if_do e t one here s' deep a =
      let s : Scope = here.scope in
      let l = both_is (judged s e) (stated s a.around t) (λ x _. keeping (condition_rules x) s) a.scope a.is in
      let fe : ExprFits P s s' e = record { stand = a.stand; short = a.short.0; limited = a.limited.0; ordinary = a.ordinary.0; names = a.names.0; operand = l.0; is = l.1.1 } in
      let ft : StmtFits P s s' t = record { stand = a.stand; short = a.short.1; limited = a.limited.1; ordinary = a.ordinary.1; names = a.names.1; around = a.around; scope = l.1.0; is = l.1.2 } in
      let e' : CExpr = fewer s e in
      let there : Environment = elsewhere s' here in
      let first' : Run Flow = does (fewer_in s t) deep w (past e' there) in
      let first : Run Flow = does t deep w (past e here) in
      bind_agree Any (condition e' w there) (condition e w here) (λ b. choose b first' (give Next)) (λ b. choose b first (give Next)) (firsts.condition_same test w o' helps outer stays e here s' fe) (condition_keeps e w here fe.limited (firsts.world test w o' helps outer stays))
      (λ b _. chosen_agree b first' (give Next) first (give Next) (behind_test e t one here s' deep fe ft) (itself (give Next)))

  choice_do : (e : CExpr) (t u : CStmt) → DoesSo t → DoesSo u → DoesSo (plain.IfElse e t u)
  choice_do e t u one other here s' deep a =
      let s : Scope = here.scope in
      let l = three_is (judged s e) (stated s a.around t) (stated s a.around u) (λ x _ _. keeping (condition_rules x) s) a.scope a.is in
      let fe : ExprFits P s s' e = record { stand = a.stand; short = a.short.0; limited = a.limited.0; ordinary = a.ordinary.0; names = a.names.0; operand = l.0; is = l.1.1.1 } in
      let ft : StmtFits P s s' t = record { stand = a.stand; short = a.short.1; limited = a.limited.1; ordinary = a.ordinary.1; names = a.names.1; around = a.around; scope = l.1.0; is = l.1.1.2 } in
      let fu : StmtFits P s s' u = record { stand = a.stand; short = a.short.2; limited = a.limited.2; ordinary = a.ordinary.2; names = a.names.2; around = a.around; scope = l.1.1.0; is = l.1.1.3 } in
      let e' : CExpr = fewer s e in
      let t' : CStmt = fewer_in s t in
      let u' : CStmt = fewer_in s u in
      let there : Environment = elsewhere s' here in
      let place : past_stmt t' (past e' there) ≡ elsewhere s' (past_stmt t (past e here)) = ap (past_stmt t') (past_same test e here s' fe) ∙ stmt_past test t (past e here) s' ft in
      let second : Agree (does u' deep w (past_stmt t' (past e' there))) (does u deep w (past_stmt t (past e here))) =
      at_place (λ h. does u' deep w h) (does u deep w (past_stmt t (past e here))) (past_stmt t' (past e' there)) (elsewhere s' (past_stmt t (past e here))) place (other (past_stmt t (past e here)) s' deep fu) in
      bind_agree Any (condition e' w there) (condition e w here) (λ b. choose b (does t' deep w (past e' there)) (does u' deep w (past_stmt t' (past e' there)))) (λ b. choose b (does t deep w (past e here)) (does u deep w (past_stmt t (past e here))))
      (firsts.condition_same test w o' helps outer stays e here s' fe) (condition_keeps e w here fe.limited (firsts.world test w o' helps outer stays))
      (λ b _. chosen_agree b (does t' deep w (past e' there)) (does u' deep w (past_stmt t' (past e' there))) (does t deep w (past e here)) (does u deep w (past_stmt t (past e here))) (behind_test e t one here s' deep fe ft) second)

  while_do : (e : CExpr) (t : CStmt) → DoesSo t → DoesSo (plain.While e t)
  while_do e t one here s' deep a =
      let s : Scope = here.scope in
      let l = both_is (judged s e) (stated s (in_loop a.around) t) (λ x _. keeping (condition_rules x) s) a.scope a.is in
      let fe : ExprFits P s s' e = record { stand = a.stand; short = a.short.0; limited = a.limited.0; ordinary = a.ordinary.0; names = a.names.0; operand = l.0; is = l.1.1 } in
      let ft : StmtFits P s s' t = record { stand = a.stand; short = a.short.1; limited = a.limited.1; ordinary = a.ordinary.1; names = a.names.1; around = in_loop a.around; scope = l.1.0; is = l.1.2 } in
      let there : Environment = elsewhere s' here in
      loop_agree deep w.inner (condition (fewer s e) w there) (condition e w here) (give tt) (give tt) (does (fewer_in s t) deep w (past (fewer s e) there)) (does t deep w (past e here))
      (firsts.condition_same test w o' helps outer stays e here s' fe) (condition_keeps e w here fe.limited (firsts.world test w o' helps outer stays)) (itself (give tt)) (give_keeps tt tt)
      (behind_test e t one here s' deep fe ft) (does_keeps t deep w (past e here) ft.limited (firsts.world test w o' helps outer stays))

  repeat_do : (e : CExpr) (t : CStmt) → DoesSo t → DoesSo (plain.Do t e)
  repeat_do e t one here s' deep a =
      let s : Scope = here.scope in
      let l = both_is (judged s e) (stated s (in_loop a.around) t) (λ x _. keeping (condition_rules x) s) a.scope a.is in
      let fe : ExprFits P s s' e = record { stand = a.stand; short = a.short.0; limited = a.limited.1; ordinary = a.ordinary.1; names = a.names.0; operand = l.0; is = l.1.1 } in
      let ft : StmtFits P s s' t = record { stand = a.stand; short = a.short.1; limited = a.limited.0; ordinary = a.ordinary.0; names = a.names.1; around = in_loop a.around; scope = l.1.0; is = l.1.2 } in
      let there : Environment = elsewhere s' here in
      let t' : CStmt = fewer_in s t in
      let test' : Agree (condition (fewer s e) w (past_stmt t' there)) (condition e w (past_stmt t here)) =
      at_place (λ h. condition (fewer s e) w h) (condition e w (past_stmt t here)) (past_stmt t' there) (elsewhere s' (past_stmt t here)) (stmt_past test t here s' ft) (firsts.condition_same test w o' helps outer stays e (past_stmt t here) s' fe) in
      do_loop_agree deep w.inner (condition (fewer s e) w (past_stmt t' there)) (condition e w (past_stmt t here)) (does t' deep w there) (does t deep w here)
      test' (condition_keeps e w (past_stmt t here) fe.limited (firsts.world test w o' helps outer stays)) (one here s' deep ft) (does_keeps t deep w here ft.limited (firsts.world test w o' helps outer stays))

  -- ---- a `for`

  -- what stands behind its head
  record ForFits (z s' : Scope) (check step : Option CExpr) (t : CStmt) : Type 0 where
    first : MaybeFits P z s' check
    second : MaybeFits P z s' step
    body : StmtFits P z s' t

  -- the loop at a place behind the head
  abbrev looped : Option CExpr → Option CExpr → CStmt → ℕ → Environment → Run Flow
  looped check step t deep h = loop w.inner deep (maybe_condition check w h) (maybe_effect step w (past_maybe check h)) (does t deep w (past_maybe step (past_maybe check h)))

  loop_do : (check step : Option CExpr) (t : CStmt) → DoesSo t → (h : Environment) (s' : Scope) (deep : ℕ) → ForFits h.scope s' check step t → Agree (looped (maybe_fewer h.scope check) (maybe_fewer h.scope step) (fewer_in h.scope t) deep (elsewhere s' h)) (looped check step t deep h)
  loop_do check step t one h s' deep a =
      let s : Scope = h.scope in
      let k : Environment = past_maybe check h in
      let m : Environment = past_maybe step k in
      let check' : Option CExpr = maybe_fewer s check in
      let step' : Option CExpr = maybe_fewer s step in
      let t' : CStmt = fewer_in s t in
      let there : Environment = elsewhere s' h in
      let to_step : past_maybe check' there ≡ elsewhere s' k = maybe_past test check h s' a.first in
      let same_scope : k.scope ≡ s = maybe_scope check h in
      let at_body : m.scope ≡ s = maybe_scope step k ∙ same_scope in
      let steps : Agree (maybe_effect step' w (elsewhere s' k)) (maybe_effect step w k) =
      subst (λ z. MaybeFits P z s' step → Agree (maybe_effect (maybe_fewer z step) w (elsewhere s' k)) (maybe_effect step w k)) same_scope (λ b. firsts.effect_same test w o' helps outer stays step k s' b) a.second in
      let past_step : past_maybe step' (elsewhere s' k) ≡ elsewhere s' m =
      subst (λ z. MaybeFits P z s' step → past_maybe (maybe_fewer z step) (elsewhere s' k) ≡ elsewhere s' m) same_scope (λ b. maybe_past test step k s' b) a.second in
      let body : Agree (does t' deep w (elsewhere s' m)) (does t deep w m) = moved t one m s at_body s' deep a.body in
      loop_agree deep w.inner (maybe_condition check' w there) (maybe_condition check w h) (maybe_effect step' w (past_maybe check' there)) (maybe_effect step w k) (does t' deep w (past_maybe step' (past_maybe check' there))) (does t deep w m)
      (firsts.test_same test w o' helps outer stays check h s' a.first) (firsts.test_keeps test w o' helps outer stays check h a.first.limited)
      (at_place (λ z. maybe_effect step' w z) (maybe_effect step w k) (past_maybe check' there) (elsewhere s' k) to_step steps) (firsts.effect_keeps test w o' helps outer stays step k a.second.limited)
      (at_place (λ z. does t' deep w z) (does t deep w m) (past_maybe step' (past_maybe check' there)) (elsewhere s' m) (ap (past_maybe step') to_step ∙ past_step) body)
      (does_keeps t deep w m (subst (λ z. StmtIsLimited z t) (sym at_body) a.body.limited) (firsts.world test w o' helps outer stays))

  -- a head and the loop behind it
  headed : (m' m : Run Flow) (h' h : Environment) (z s' : Scope) (check step : Option CExpr) (t : CStmt) (deep : ℕ) → DoesSo t → Agree m' m → Keeps FlowIsValid m → h' ≡ elsewhere s' h → h.scope ≡ z → ForFits z s' check step t
      → Agree (m' >>= λ flow. go_on flow (looped (maybe_fewer z check) (maybe_fewer z step) (fewer_in z t) deep h')) (m >>= λ flow. go_on flow (looped check step t deep h))
  headed m' m h' h z s' check step t deep one a k e f fits =
      let whole : Agree (looped (maybe_fewer z check) (maybe_fewer z step) (fewer_in z t) deep (elsewhere s' h)) (looped check step t deep h) =
      subst (λ z. ForFits z s' check step t → Agree (looped (maybe_fewer z check) (maybe_fewer z step) (fewer_in z t) deep (elsewhere s' h)) (looped check step t deep h)) f (λ b. loop_do check step t one h s' deep b) fits in
      bind_agree FlowIsValid m' m (λ flow. go_on flow (looped (maybe_fewer z check) (maybe_fewer z step) (fewer_in z t) deep h')) (λ flow. go_on flow (looped check step t deep h)) a k
      (λ flow _. go_on_agree flow (looped (maybe_fewer z check) (maybe_fewer z step) (fewer_in z t) deep h') (looped check step t deep h)
      (at_place (λ x. looped (maybe_fewer z check) (maybe_fewer z step) (fewer_in z t) deep x) (looped check step t deep h) h' (elsewhere s' h) e whole))

  abbrev tests : Scope → Option CExpr → Option CExpr → Judged (Option Operand)
  tests s check step = both (maybe_judged s check) (maybe_judged s step) (λ a _. Ok a)

  for_fits : (z s' : Scope) (around : Around) (check step : Option CExpr) (t : CStmt) (o : Option Operand) (q : Scope) → ScopesStand P z s' → MaybeHas StringsAreShort check × MaybeHas StringsAreShort step × StmtHas StringsAreShort IsDeclaration t → MaybeIsLimited check × MaybeIsLimited step × StmtIsLimited z t
      → MaybeIsOrdinary z check × MaybeIsOrdinary z step × StmtIsOrdinary z t → MaybeHas (EachName P) (maybe_fewer z check) × MaybeHas (EachName P) (maybe_fewer z step) × StmtHas (EachName P) AnyDeclaration (fewer_in z t)
      → tests z check step ≡ Ok o → stated z around t ≡ Ok q → ForFits z s' check step t
  for_fits z s' around check step t o q a h l ord n e k =
      let m = both_is (maybe_judged z check) (maybe_judged z step) (λ a _. Ok a) o e in
      record {
        first = record { stand = a; short = h.0; limited = l.0; ordinary = ord.0; names = n.0; operand = m.0; is = m.1.1 };
        second = record { stand = a; short = h.1; limited = l.1; ordinary = ord.1; names = n.1; operand = m.1.0; is = m.1.2 };
        body = record { stand = a; short = h.2; limited = l.2; ordinary = ord.2; names = n.2; around = around; scope = q; is = k };
      }

  block_for : (ss : CStmts) (check step : Option CExpr) (t : CStmt) → AllDoSo ss → DoesSo t → DoesSo (plain.For (plain.Block ss) check step t)
  block_for ss check step t all one here s' deep a =
      let s : Scope = here.scope in
      let head : Judged Scope = all_stated (entered s) a.around ss in
      let inner : Scope = scope_or s head in
      let l = three_is head (tests inner check step) (stated inner (in_loop a.around) t) (λ _ x _. keeping (test_rules x) s) a.scope a.is in
      let ss' : CStmts = fewer_in_all (entered s) ss in
      let z : Scope = scope_behind_all (entered s) ss in
      let z' : Scope = scope_behind_all (entered s') ss' in
      let fits : StmtsFit P (entered s) (entered s') ss = record { stand = entered_stand P s s' a.stand; short = a.short.1; limited = a.limited.0; ordinary = a.ordinary.0; names = a.names.1; around = a.around; scope = l.0; is = l.1.1.1 } in
      let m = all_behind test ss (entered s) (entered s') a.around l.0 fits.stand fits.short fits.names fits.is in
      let place : inner ≡ z = ap (λ j. scope_or s j) l.1.1.1 ∙ sym m.1 in
      let tested : tests z check step ≡ Ok l.1.0 = subst (λ x. tests x check step ≡ Ok l.1.0) place l.1.1.2 in
      let typed : stated z (in_loop a.around) t ≡ Ok l.1.1.0 = subst (λ x. stated x (in_loop a.around) t ≡ Ok l.1.1.0) place l.1.1.3 in
      let rest : ForFits z z' check step t = for_fits z z' (in_loop a.around) check step t l.1.0 l.1.1.0 m.0 (a.short.2, a.short.3, a.short.4) (a.limited.1, a.limited.2, a.limited.3) (a.ordinary.1, a.ordinary.2, a.ordinary.3) (a.names.2, a.names.3, a.names.4) tested typed in
      within_agree (block_objects (entered s') ss') (block_objects (entered s) ss)
      (λ n. all_do ss' deep w (in_block n (elsewhere s' here)) >>= λ flow. go_on flow (looped (maybe_fewer z check) (maybe_fewer z step) (fewer_in z t) deep (behind_all ss' (in_block n (elsewhere s' here)))))
      (λ n. all_do ss deep w (in_block n here) >>= λ flow. go_on flow (looped check step t deep (behind_all ss (in_block n here))))
      (block_same test ss (entered s) (entered s') fits) (block_valid (entered s) ss a.limited.0)
      (λ n. headed (all_do ss' deep w (in_block n (elsewhere s' here))) (all_do ss deep w (in_block n here)) (behind_all ss' (in_block n (elsewhere s' here))) (behind_all ss (in_block n here)) z z' check step t deep one
      (all (in_block n here) (entered s') deep fits) (all_keep ss deep (in_block n here) a.limited.0) (all_behind_same test ss (in_block n here) (entered s') fits) (all_scope_is ss (in_block n here)) rest)

  -- one whose head declares nothing
  other_for : (first : CStmt) (check step : Option CExpr) (t : CStmt) (here : Environment) (s' : Scope) (deep : ℕ) (around : Around) (r : Scope) → DoesSo first → DoesSo t → ScopesStand P here.scope s' → (behind first here).scope ≡ here.scope → scope_behind s' (fewer_in here.scope first) ≡ s'
      → StmtHas StringsAreShort IsDeclaration first → StmtIsLimited here.scope first → StmtIsOrdinary here.scope first → StmtHas (EachName P) AnyDeclaration (fewer_in here.scope first)
      → MaybeHas StringsAreShort check × MaybeHas StringsAreShort step × StmtHas StringsAreShort IsDeclaration t → MaybeIsLimited check × MaybeIsLimited step × StmtIsLimited here.scope t
      → MaybeIsOrdinary here.scope check × MaybeIsOrdinary here.scope step × StmtIsOrdinary here.scope t → MaybeHas (EachName P) (maybe_fewer here.scope check) × MaybeHas (EachName P) (maybe_fewer here.scope step) × StmtHas (EachName P) AnyDeclaration (fewer_in here.scope t)
      → all_three (stated here.scope around first) (tests here.scope check step) (stated here.scope (in_loop around) t) (λ _ x _. keeping (test_rules x) here.scope) ≡ Ok r
      → Agree (does (fewer_in here.scope first) deep w (elsewhere s' here) >>= λ flow. go_on flow (looped (maybe_fewer here.scope check) (maybe_fewer here.scope step) (fewer_in here.scope t) deep (behind (fewer_in here.scope first) (elsewhere s' here))))
      (does first deep w here >>= λ flow. go_on flow (looped check step t deep (behind first here)))
  other_for first check step t here s' deep around r head one stand scope scope' hf lf oh nf h l ord n e =
      let s : Scope = here.scope in
      let k = three_is (stated s around first) (tests s check step) (stated s (in_loop around) t) (λ _ x _. keeping (test_rules x) s) r e in
      let fits : StmtFits P s s' first = record { stand = stand; short = hf; limited = lf; ordinary = oh; names = nf; around = around; scope = k.0; is = k.1.1.1 } in
      let place : behind (fewer_in s first) (elsewhere s' here) ≡ elsewhere s' (behind first here) = behind_same test first here s' fits ∙ ap (λ x. elsewhere x (behind first here)) scope' in
      headed (does (fewer_in s first) deep w (elsewhere s' here)) (does first deep w here) (behind (fewer_in s first) (elsewhere s' here)) (behind first here) s s' check step t deep one (head here s' deep fits) (does_keeps first deep w here lf (firsts.world test w o' helps outer stays)) place scope
      (for_fits s s' (in_loop around) check step t k.1.0 k.1.1.0 stand h l ord n k.1.1.2 k.1.1.3)

  -- ---- a `switch`

  abbrev PartsDoSo : CParts → Type 0
  PartsDoSo ps = (here : Environment) (s' : Scope) (deep : ℕ) → PartsFit P here.scope s' ps → Agree (parts_do (fewer_in_parts here.scope ps) deep w (elsewhere s' here)) (parts_do ps deep w here)

  abbrev FromSo : CParts → Type 0
  FromSo ps = (target : Target) (here : Environment) (s' : Scope) (deep : ℕ) → PartsFit P here.scope s' ps → Agree (parts_from target (fewer_in_parts here.scope ps) deep w (elsewhere s' here)) (parts_from target ps deep w here)

  -- the parts behind a statement
  behind_item : (t : CStmt) (qs : CParts) (m : CParts → Environment → Run Flow) → (here : Environment) (s' : Scope) → PartsFit P here.scope s' (plain.MorePart (plain.Item t) qs)
      → ((k : Environment) (r' : Scope) → PartsFit P k.scope r' qs → Agree (m (fewer_in_parts k.scope qs) (elsewhere r' k)) (m qs k)) → Agree (m (fewer_in_parts (scope_behind here.scope t) qs) (behind (fewer_in here.scope t) (elsewhere s' here))) (m qs (behind t here))
  behind_item t qs m here s' a all =
      let s : Scope = here.scope in
      let r' : Scope = scope_behind s' (fewer_in s t) in
      let qs' : CParts = fewer_in_parts (scope_behind s t) qs in
      let rest : Agree (m qs' (elsewhere r' (behind t here))) (m qs (behind t here)) =
      subst (λ z. PartsFit P z r' qs → Agree (m (fewer_in_parts z qs) (elsewhere r' (behind t here))) (m qs (behind t here))) (scope_is t here) (λ b. all (behind t here) r' b) (item_rest test s s' t qs a) in
      at_place (λ h. m qs' h) (m qs (behind t here)) (behind (fewer_in s t) (elsewhere s' here)) (elsewhere r' (behind t here)) (behind_same test t here s' (item_first test s s' t qs a)) rest

  label_do : (at : ℕ) (x : Option CExpr) (qs : CParts) → PartsDoSo qs → PartsDoSo (plain.MorePart (plain.Label at x) qs)
  label_do at x qs all here s' deep a =
      let qs' : CParts = fewer_in_parts here.scope qs in
      bind_agree FlowIsValid (give Next) (give Next) (λ flow. go_on flow (parts_do qs' deep w (elsewhere s' here))) (λ flow. go_on flow (parts_do qs deep w here)) (itself (give Next)) (give_keeps Next tt)
      (λ flow _. go_on_agree flow (parts_do qs' deep w (elsewhere s' here)) (parts_do qs deep w here) (all here s' deep (label_rest test here.scope s' at x qs a)))

  item_do : (t : CStmt) (qs : CParts) → DoesSo t → PartsDoSo qs → PartsDoSo (plain.MorePart (plain.Item t) qs)
  item_do t qs one all here s' deep a =
      let s : Scope = here.scope in
      let t' : CStmt = fewer_in s t in
      let qs' : CParts = fewer_in_parts (scope_behind s t) qs in
      let there : Environment = elsewhere s' here in
      let fits : StmtFits P s s' t = item_first test s s' t qs a in
      bind_agree FlowIsValid (does t' deep w there) (does t deep w here) (λ flow. go_on flow (parts_do qs' deep w (behind t' there))) (λ flow. go_on flow (parts_do qs deep w (behind t here))) (one here s' deep fits) (does_keeps t deep w here fits.limited (firsts.world test w o' helps outer stays))
      (λ flow _. go_on_agree flow (parts_do qs' deep w (behind t' there)) (parts_do qs deep w (behind t here)) (behind_item t qs (λ ps h. parts_do ps deep w h) here s' a (λ k r' b. all k r' deep b)))

  label_from : (at : ℕ) (x : Option CExpr) (qs : CParts) → PartsDoSo qs → FromSo qs → FromSo (plain.MorePart (plain.Label at x) qs)
  label_from at x qs all from target here s' deep a st v =
      let s : Scope = here.scope in
      let qs' : CParts = fewer_in_parts s qs in
      let there : Environment = elsewhere s' here in
      let fits : PartsFit P s s' qs = label_rest test s s' at x qs a in
      ap (λ b. (if b then parts_do qs' deep w there else parts_from target qs' deep w there) st) (label_same s s' at x target)
      ∙ if_agree (is_target target s (plain.Label at x)) (parts_do qs' deep w there) (parts_from target qs' deep w there) (parts_do qs deep w here) (parts_from target qs deep w here) (all here s' deep fits) (from target here s' deep fits) st v

  item_from : (t : CStmt) (qs : CParts) → FromSo qs → FromSo (plain.MorePart (plain.Item t) qs)
  item_from t qs from target here s' deep a st v =
      let s : Scope = here.scope in
      let t' : CStmt = fewer_in s t in
      let qs' : CParts = fewer_in_parts (scope_behind s t) qs in
      let there : Environment = elsewhere s' here in
      ap (λ b. (if b then parts_do qs' deep w (behind t' there) else parts_from target qs' deep w (behind t' there)) st) (item_target target s' t')
      ∙ (behind_item t qs (λ ps h. parts_from target ps deep w h) here s' a (λ k r' b. from target k r' deep b) st v
      ∙ ap (λ b. (if b then parts_do qs deep w (behind t here) else parts_from target qs deep w (behind t here)) st) (sym (item_target target s t)))

  has_same : (ps : CParts) (s s' : Scope) (word : ℕ) → PartsFit P s s' ps → has_target (Case word) s' (fewer_in_parts s ps) ≡ has_target (Case word) s ps
  has_same plain.NoPart s s' word a = refl
  has_same (plain.MorePart (plain.Label at x) qs) s s' word a = ap₂ (λ b c. b || c) (label_same s s' at x (Case word)) (has_same qs s s' word (label_rest test s s' at x qs a))
  has_same (plain.MorePart (plain.Item t) qs) s s' word a = has_same qs (scope_behind s t) (scope_behind s' (fewer_in s t)) word (item_rest test s s' t qs a)

  switch_do : (e : CExpr) (ps : CParts) → FromSo ps → DoesSo (plain.Switch e ps)
  switch_do e ps from here s' deep a =
      let s : Scope = here.scope in
      let l = both_is (judged s e) (all_parts (entered s) (in_switch a.around) ps) (λ x labels. keeping (switch_rules x labels) s) a.scope a.is in
      let fe : ExprFits P s s' e = record { stand = a.stand; short = a.short.0; limited = a.limited.0; ordinary = a.ordinary.0; names = a.names.0; operand = l.0; is = l.1.1 } in
      let fits : PartsFit P (entered s) (entered s') ps = record { stand = entered_stand P s s' a.stand; short = a.short.1; limited = a.limited.1; ordinary = a.ordinary.1; names = a.names.1; around = in_switch a.around; labels = l.1.0; is = l.1.2 } in
      let e' : CExpr = fewer s e in
      let ps' : CParts = fewer_in_parts (entered s) ps in
      let there : Environment = elsewhere s' here in
      let inside' : ℕ → ℕ → Run Flow = λ x n. parts_from (target_of x (entered s') ps') ps' deep w (in_block n (past e' there)) in
      let inside : ℕ → ℕ → Run Flow = λ x n. parts_from (target_of x (entered s) ps) ps deep w (in_block n (past e here)) in
      let same : (x n : ℕ) → Agree (inside' x n) (inside x n) =
      λ x n st v.
      (λ i. parts_from (if has_same ps (entered s) (entered s') x fits i then Case x else Default) ps' deep w (in_block n (past_same test e here s' fe i)) st) ∙ from (target_of x (entered s) ps) (in_block n (past e here)) (entered s') deep fits st v in
      let rest' : ℕ → Run Flow = λ x. within (parts_objects (entered s') ps') (inside' x) >>= λ flow. give (behind_switch flow) in
      let rest : ℕ → Run Flow = λ x. within (parts_objects (entered s) ps) (inside x) >>= λ flow. give (behind_switch flow) in
      bind_agree IsValid (used_value e' w there) (used_value e w here) (λ v. of_word v rest') (λ v. of_word v rest) (firsts.used_same test w o' helps outer stays e here s' fe) (used_value_keeps e w here fe.limited (firsts.world test w o' helps outer stays))
      (λ v _. of_word_agree v rest' rest
      (λ x st u. first_is (within (parts_objects (entered s') ps') (inside' x)) (within (parts_objects (entered s) ps) (inside x)) (λ flow. give (behind_switch flow)) st
      (within_agree (parts_objects (entered s') ps') (parts_objects (entered s) ps) (inside' x) (inside x) (parts_same test ps (entered s) (entered s') fits) (parts_valid (entered s) ps fits.limited) (same x) st u)))

  -- ---- all forms

  maybe_fits : (s s' : Scope) (at : ℕ) (e : Option CExpr) → StmtFits P s s' (plain.Return at e) → MaybeFits P s s' e
  maybe_fits s s' at e a =
      let k = after_is (maybe_judged s e) (λ o. keeping (return_rules at a.around.result o) s) a.scope a.is in
      record { stand = a.stand; short = a.short; limited = a.limited; ordinary = a.ordinary; names = a.names; operand = k.0; is = k.1 }

  effect_do : (e : CExpr) → DoesSo (plain.Do_expr e)
  effect_do e here s' deep a st v =
      let k = after_is (judged here.scope e) (λ _. Ok here.scope) a.scope a.is in
      first_is (value_of (fewer here.scope e) w (elsewhere s' here)) (value_of e w here) (λ _. give Next) st
      (firsts.value_same test w o' helps outer stays e here s' (record { stand = a.stand; short = a.short; limited = a.limited; ordinary = a.ordinary; names = a.names; operand = k.0; is = k.1 }) st v)

  local_do : (d : CDecl) → DoesSo (plain.Local d)
  local_do d here s' deep a st v =
      first_is (first_value (fewer_in_declaration here.scope (fewer (scope_behind here.scope (plain.Local d))) d) w (elsewhere s' here) (option_map (with_values (fewer (scope_behind here.scope (plain.Local d)))) d.first)) (first_value d w here d.first) (λ _. give Next) st
      (firsts.local_same test w o' helps outer stays d here s' a st v)

  mutual
    so : (t : CStmt) → DoesSo t
    so (plain.Block ss) here s' deep a = block_do ss (λ h z d b. all_so ss h z d b) here s' deep a
    so (plain.Local d) here s' deep a = local_do d here s' deep a
    so (plain.Do_expr e) here s' deep a = effect_do e here s' deep a
    so plain.Empty here s' deep a = itself (give Next)
    so (plain.If e t) here s' deep a = if_do e t (λ h z d b. so t h z d b) here s' deep a
    so (plain.IfElse e t u) here s' deep a = choice_do e t u (λ h z d b. so t h z d b) (λ h z d b. so u h z d b) here s' deep a
    so (plain.While e t) here s' deep a = while_do e t (λ h z d b. so t h z d b) here s' deep a
    so (plain.Do t e) here s' deep a = repeat_do e t (λ h z d b. so t h z d b) here s' deep a
    so (plain.For (plain.Block ss) check step t) here s' deep a = block_for ss check step t (λ h z d b. all_so ss h z d b) (λ h z d b. so t h z d b) here s' deep a
    so (plain.For (plain.Local d) check step t) here s' deep a = absurd (cc a.short.0)
    so (plain.For first check step t) here s' deep a =
        other_for first check step t here s' deep a.around a.scope (λ h z d b. so first h z d b) (λ h z d b. so t h z d b) a.stand refl refl a.short.1 a.limited.0 a.ordinary.0 a.names.1
        (a.short.2, a.short.3, a.short.4) (a.limited.1, a.limited.2, a.limited.3) (a.ordinary.1, a.ordinary.2, a.ordinary.3) (a.names.2, a.names.3, a.names.4) a.is
    so (plain.Return at e) here s' deep a = firsts.returned_same test w o' helps outer stays e here s' (maybe_fits here.scope s' at e a)
    so (plain.Break at) here s' deep a = itself (give Broke)
    so (plain.Continue at) here s' deep a = itself (give Continued)
    so (plain.Switch e ps) here s' deep a = switch_do e ps (λ target h z d b. from_so ps target h z d b) here s' deep a

    all_so : (ss : CStmts) → AllDoSo ss
    all_so plain.NoStmt here s' deep a = itself (give Next)
    all_so (plain.MoreStmt t ts) here s' deep a = more_do t ts (λ h z d b. so t h z d b) (λ h z d b. all_so ts h z d b) here s' deep a

    parts_so : (ps : CParts) → PartsDoSo ps
    parts_so plain.NoPart here s' deep a = itself (give Next)
    parts_so (plain.MorePart (plain.Label at x) qs) here s' deep a = label_do at x qs (λ h z d b. parts_so qs h z d b) here s' deep a
    parts_so (plain.MorePart (plain.Item t) qs) here s' deep a = item_do t qs (λ h z d b. so t h z d b) (λ h z d b. parts_so qs h z d b) here s' deep a

    from_so : (ps : CParts) → FromSo ps
    from_so plain.NoPart target here s' deep a = itself (give Next)
    from_so (plain.MorePart (plain.Label at x) qs) target here s' deep a = label_from at x qs (λ h z d b. parts_so qs h z d b) (λ g h z d b. from_so qs g h z d b) target here s' deep a
    from_so (plain.MorePart (plain.Item t) qs) target here s' deep a = item_from t qs (λ g h z d b. from_so qs g h z d b) target here s' deep a

pub statements_are_kept : StatementsAreKept
statements_are_kept test w here s' around t r deep st stand helps outer stays short limited ordinary names is v =
    so test w s' helps outer stays t here s' deep (record { stand = stand; short = short; limited = limited; ordinary = ordinary; names = names; around = around; scope = r; is = is }) st v
