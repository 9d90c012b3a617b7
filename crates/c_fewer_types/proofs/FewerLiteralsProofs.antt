-- Statements with fewer operators have the string literals that they had.
use Rattle.std.proofs.Common.{◌≡◌, ℕ, List, [], ◌∷◌, ◌++◌, Option, Some, None, Bool, true, refl, sym, ap, ap₂, ◌∙◌, subst}
use Rattle.std.specs.Prelude.{Ok}
use Rattle.std.specs.Option.{option_map}
use Rattle.c_syntax.specs.Plain as plain
use Rattle.c_syntax.specs.Plain.{CExpr, CValue, CValues, CDecl, CStmt, CStmts, CPart, CParts}
use Rattle.c_types.specs.Refusals.{Judged, both, all_three, keeping}
use Rattle.c_types.specs.Scope.{Scope, entered}
use Rattle.c_types.specs.Expressions.{judged}
use Rattle.c_types.specs.Declarations.{scope_or}
use Rattle.c_types.specs.Statements.{Around, in_loop, in_switch, condition_rules, test_rules, switch_rules, maybe_judged, CaseLabel, PartJudged, part_scope_or, stated, all_stated, part_judged, all_parts}
use Rattle.c_types.specs.Census.{scope_behind, scope_behind_all}
use Rattle.c_eval.specs.LiteralsIn.{literals_in, value_literals, values_literals, maybe_literals, first_literals, stmt_literals, stmts_literals, parts_literals}
use Rattle.c_alike.specs.Alike.{EachName}
use Rattle.c_alike.proofs.Scopes.{each}
use Rattle.c_fewer_types.specs.Written.{StringsAreShort}
use Rattle.c_helpers.specs.Fewer.{fewer, maybe_fewer, with_values, with_all_values, fewer_in, fewer_in_all, fewer_in_parts}
use Rattle.c_fewer_types.specs.Stands.{NameStands}
use Rattle.c_fewer_types.proofs.FewerKept.{literals_are_kept}
use Rattle.c_fewer_types.specs.Standing.{ScopesStand, ValueHas, ValuesHave, FirstHas, MaybeHas, StmtHas, StmtsHave, PartsHave, IsDeclaration, AnyDeclaration}
use Rattle.c_fewer_types.proofs.Scopes.{entered_stand}
use Rattle.c_fewer_types.proofs.FewerTypedRules.{after_is, both_is, three_is}
use Rattle.c_fewer_types.proofs.Statements.{statements_stay_typed}
use Rattle.c_fewer_types.specs.FewerLiteralsLaws.{StatementsKeepLiterals}
use Rattle.c_fewer_types.proofs.Behind.{stated_behind}

module _ (test : List ℕ → Bool) where
  abbrev P : List ℕ → Type 0
  P name = test name ≡ true

  abbrev Short : CStmt → Type 0
  Short t = StmtHas StringsAreShort IsDeclaration t

  abbrev Named : CStmt → Type 0
  Named t = StmtHas (EachName P) AnyDeclaration t

  pub expr_kept : (s s' : Scope) (e : CExpr) → ScopesStand P s s' → EachName P (fewer s e) → literals_in s' (fewer s e) ≡ literals_in s e
  expr_kept s s' e a p = literals_are_kept s s' e (each P (NameStands s s') a.names (fewer s e) p)

  maybe_kept : (s s' : Scope) (e : Option CExpr) → ScopesStand P s s' → MaybeHas (EachName P) (maybe_fewer s e) → maybe_literals s' (maybe_fewer s e) ≡ maybe_literals s e
  maybe_kept s s' None a p = refl
  maybe_kept s s' (Some e) a p = expr_kept s s' e a p

  mutual
    pub value_kept : (s s' : Scope) (v : CValue) → ScopesStand P s s' → ValueHas (EachName P) (with_values (fewer s) v) → value_literals s' (with_values (fewer s) v) ≡ value_literals s v
    value_kept s s' (plain.One e) a p = expr_kept s s' e a p
    value_kept s s' (plain.Many vs) a p = values_kept s s' vs a p

    values_kept : (s s' : Scope) (vs : CValues) → ScopesStand P s s' → ValuesHave (EachName P) (with_all_values (fewer s) vs) → values_literals s' (with_all_values (fewer s) vs) ≡ values_literals s vs
    values_kept s s' plain.NoValue a p = refl
    values_kept s s' (plain.MoreValue v vs) a p = ap₂ (λ x y. x ++ y) (value_kept s s' v a p.0) (values_kept s s' vs a p.1)

  first_kept : (s s' : Scope) (v : Option CValue) → ScopesStand P s s' → FirstHas (EachName P) (option_map (with_values (fewer s)) v) → first_literals s' (option_map (with_values (fewer s)) v) ≡ first_literals s v
  first_kept s s' None a p = refl
  first_kept s s' (Some v) a p = value_kept s s' v a p

  -- the scopes behind a statement stand for each other
  pub stand_behind : (s s' : Scope) (w : Around) (t : CStmt) (r : Scope) → ScopesStand P s s' → Short t → Named (fewer_in s t) → stated s w t ≡ Ok r → ScopesStand P (scope_behind s t) (scope_behind s' (fewer_in s t))
  stand_behind s s' w t r a h p e =
      let k = statements_stay_typed test s s' w t r a h p e in
      subst (λ z. ScopesStand P z (scope_behind s' (fewer_in s t))) (sym (stated_behind s w t r e)) (subst (λ z. ScopesStand P r z) (sym (stated_behind s' w (fewer_in s t) k.0 k.1)) k.2)

  local_kept : (s s' : Scope) (w : Around) (d : CDecl) (r : Scope) → ScopesStand P s s' → Short (plain.Local d) → Named (fewer_in s (plain.Local d)) → stated s w (plain.Local d) ≡ Ok r → stmt_literals s' (fewer_in s (plain.Local d)) ≡ stmt_literals s (plain.Local d)
  local_kept s s' w d r a h p e = first_kept (scope_behind s (plain.Local d)) (scope_behind s' (fewer_in s (plain.Local d))) d.first (stand_behind s s' w (plain.Local d) r a h p e) p.1

  -- those behind all of a block
  pub all_behind : (ss : CStmts) (s s' : Scope) (w : Around) (r : Scope) → ScopesStand P s s' → StmtsHave StringsAreShort IsDeclaration ss → StmtsHave (EachName P) AnyDeclaration (fewer_in_all s ss) → all_stated s w ss ≡ Ok r
      → ScopesStand P (scope_behind_all s ss) (scope_behind_all s' (fewer_in_all s ss)) × (scope_behind_all s ss ≡ r)
  all_behind plain.NoStmt s s' w r a h p e = (a, cc e)
  all_behind (plain.MoreStmt t ts) s s' w r a h p e =
      let l = both_is (stated s w t) (all_stated (scope_or s (stated s w t)) w ts) (λ _ inner. Ok inner) r e in
      let inner : all_stated (scope_behind s t) w ts ≡ Ok l.1.0 = subst (λ z. all_stated z w ts ≡ Ok l.1.0) (ap (λ q. scope_or s q) l.1.1 ∙ sym (stated_behind s w t l.0 l.1.1)) l.1.2 in
      let m = all_behind ts (scope_behind s t) (scope_behind s' (fewer_in s t)) w l.1.0 (stand_behind s s' w t l.0 a h.0 p.0 l.1.1) h.1 p.1 inner in
      let same : l.1.0 ≡ r = cc l.1.3 in
      (m.0, m.1 ∙ same)

  abbrev Kept : CStmt → Type 0
  Kept t = (s s' : Scope) (w : Around) (r : Scope) → ScopesStand P s s' → Short t → Named (fewer_in s t) → stated s w t ≡ Ok r → stmt_literals s' (fewer_in s t) ≡ stmt_literals s t

  abbrev AllKept : CStmts → Type 0
  AllKept ss = (s s' : Scope) (w : Around) (r : Scope) → ScopesStand P s s' → StmtsHave StringsAreShort IsDeclaration ss → StmtsHave (EachName P) AnyDeclaration (fewer_in_all s ss) → all_stated s w ss ≡ Ok r → stmts_literals s' (fewer_in_all s ss) ≡ stmts_literals s ss

  abbrev Within : CStmt → Type 0
  Within (plain.Block ss) = AllKept ss
  Within t = Unit {0}

  -- a `for`, in the scopes behind its head
  for_parts : (s s' inner inner' : Scope) (first : CStmt) (test step : Option CExpr) (t : CStmt) → ScopesStand P inner inner' → stmt_literals s' (fewer_in s first) ≡ stmt_literals s first → MaybeHas (EachName P) (maybe_fewer inner test) → MaybeHas (EachName P) (maybe_fewer inner step) → stmt_literals inner' (fewer_in inner t) ≡ stmt_literals inner t
      → stmt_literals s' (fewer_in s first) ++ (maybe_literals inner' (maybe_fewer inner test) ++ (maybe_literals inner' (maybe_fewer inner step) ++ stmt_literals inner' (fewer_in inner t))) ≡ stmt_literals s first ++ (maybe_literals inner test ++ (maybe_literals inner step ++ stmt_literals inner t))
  for_parts s s' inner inner' first test step t a e p q f = ap₂ (λ x y. x ++ y) e (ap₂ (λ x y. x ++ y) (maybe_kept inner inner' test a p) (ap₂ (λ x y. x ++ y) (maybe_kept inner inner' step a q) f))

  block_for : (ss : CStmts) (test step : Option CExpr) (t : CStmt) → AllKept ss → Kept t → Kept (plain.For (plain.Block ss) test step t)
  block_for ss test step t all body s s' w r a h p e =
      let head : Judged Scope = all_stated (entered s) w ss in
      let inner : Scope = scope_or s head in
      let l = three_is head (both (maybe_judged inner test) (maybe_judged inner step) (λ a _. Ok a)) (stated inner (in_loop w) t) (λ _ a _. keeping (test_rules a) s) r e in
      let m = all_behind ss (entered s) (entered s') w l.0 (entered_stand P s s' a) h.1 p.1 l.1.1.1 in
      let there : inner ≡ scope_behind_all (entered s) ss = ap (λ j. scope_or s j) l.1.1.1 ∙ sym m.1 in
      let typed : stated (scope_behind_all (entered s) ss) (in_loop w) t ≡ Ok l.1.1.0 = subst (λ z. stated z (in_loop w) t ≡ Ok l.1.1.0) there l.1.1.3 in
      for_parts s s' (scope_behind_all (entered s) ss) (scope_behind_all (entered s') (fewer_in_all (entered s) ss)) (plain.Block ss) test step t m.0 (all (entered s) (entered s') w l.0 (entered_stand P s s' a) h.1 p.1 l.1.1.1) p.2 p.3
      (body (scope_behind_all (entered s) ss) (scope_behind_all (entered s') (fewer_in_all (entered s) ss)) (in_loop w) l.1.1.0 m.0 h.4 p.4 typed)

  other_for : (first : CStmt) (test step : Option CExpr) (t : CStmt) (s s' : Scope) (w : Around) (r : Scope) → Kept first → Kept t → ScopesStand P s s' → Short first → Short t → Named (fewer_in s first) → MaybeHas (EachName P) (maybe_fewer s test) → MaybeHas (EachName P) (maybe_fewer s step) → Named (fewer_in s t)
      → all_three (stated s w first) (both (maybe_judged s test) (maybe_judged s step) (λ a _. Ok a)) (stated s (in_loop w) t) (λ _ a _. keeping (test_rules a) s) ≡ Ok r
      → stmt_literals s' (fewer_in s first) ++ (maybe_literals s' (maybe_fewer s test) ++ (maybe_literals s' (maybe_fewer s step) ++ stmt_literals s' (fewer_in s t))) ≡ stmt_literals s first ++ (maybe_literals s test ++ (maybe_literals s step ++ stmt_literals s t))
  other_for first test step t s s' w r head body a hf hb pf pt ps pb e =
      let l = three_is (stated s w first) (both (maybe_judged s test) (maybe_judged s step) (λ a _. Ok a)) (stated s (in_loop w) t) (λ _ a _. keeping (test_rules a) s) r e in
      for_parts s s' s s' first test step t a (head s s' w l.0 a hf pf l.1.1.1) pt ps (body s s' (in_loop w) l.1.1.0 a hb pb l.1.1.3)

  for_kept : (first : CStmt) (test step : Option CExpr) (t : CStmt) → Kept first → Within first → Kept t → Kept (plain.For first test step t)
  for_kept (plain.Block ss) test step t head all body s s' w r a h p e = block_for ss test step t all body s s' w r a h p e
  for_kept (plain.Local d) test step t head all body s s' w r a h p e = absurd (cc h.0)
  for_kept first test step t head all body s s' w r a h p e = other_for first test step t s s' w r head body a h.1 h.4 p.1 p.2 p.3 p.4 e

  mutual
    kept : (t : CStmt) → Kept t
    kept (plain.Block ss) s s' w r a h p e = let l = after_is (all_stated (entered s) w ss) (λ _. Ok s) r e in all_kept ss (entered s) (entered s') w l.0 (entered_stand P s s' a) h p l.1
    kept (plain.Local d) s s' w r a h p e = local_kept s s' w d r a h p e
    kept (plain.Do_expr x) s s' w r a h p e = expr_kept s s' x a p
    kept plain.Empty s s' w r a h p e = refl
    kept (plain.If x t) s s' w r a h p e = let l = both_is (judged s x) (stated s w t) (λ a _. keeping (condition_rules a) s) r e in ap₂ (λ x y. x ++ y) (expr_kept s s' x a p.0) (kept t s s' w l.1.0 a h.1 p.1 l.1.2)
    kept (plain.IfElse x t u) s s' w r a h p e =
        let l = three_is (judged s x) (stated s w t) (stated s w u) (λ a _ _. keeping (condition_rules a) s) r e in
        ap₂ (λ x y. x ++ y) (expr_kept s s' x a p.0) (ap₂ (λ x y. x ++ y) (kept t s s' w l.1.0 a h.1 p.1 l.1.1.2) (kept u s s' w l.1.1.0 a h.2 p.2 l.1.1.3))
    kept (plain.While x t) s s' w r a h p e = let l = both_is (judged s x) (stated s (in_loop w) t) (λ a _. keeping (condition_rules a) s) r e in ap₂ (λ x y. x ++ y) (expr_kept s s' x a p.0) (kept t s s' (in_loop w) l.1.0 a h.1 p.1 l.1.2)
    kept (plain.Do t x) s s' w r a h p e = let l = both_is (judged s x) (stated s (in_loop w) t) (λ a _. keeping (condition_rules a) s) r e in ap₂ (λ x y. x ++ y) (kept t s s' (in_loop w) l.1.0 a h.1 p.1 l.1.2) (expr_kept s s' x a p.0)
    kept (plain.For first test step t) s s' w r a h p e = for_kept first test step t (λ s s' w r a h p e. kept first s s' w r a h p e) (within first) (λ s s' w r a h p e. kept t s s' w r a h p e) s s' w r a h p e
    kept (plain.Return at x) s s' w r a h p e = maybe_kept s s' x a p
    kept (plain.Break at) s s' w r a h p e = refl
    kept (plain.Continue at) s s' w r a h p e = refl
    kept (plain.Switch x ps) s s' w r a h p e =
        let l = both_is (judged s x) (all_parts (entered s) (in_switch w) ps) (λ a labels. keeping (switch_rules a labels) s) r e in
        ap₂ (λ x y. x ++ y) (expr_kept s s' x a p.0) (parts_kept ps (entered s) (entered s') (in_switch w) l.1.0 (entered_stand P s s' a) h.1 p.1 l.1.2)

    within : (t : CStmt) → Within t
    within (plain.Block ss) = λ s s' w r a h p e. all_kept ss s s' w r a h p e
    within t = tt

    all_kept : (ss : CStmts) → AllKept ss
    all_kept plain.NoStmt s s' w r a h p e = refl
    all_kept (plain.MoreStmt t ts) s s' w r a h p e =
        let l = both_is (stated s w t) (all_stated (scope_or s (stated s w t)) w ts) (λ _ inner. Ok inner) r e in
        let inner : all_stated (scope_behind s t) w ts ≡ Ok l.1.0 = subst (λ z. all_stated z w ts ≡ Ok l.1.0) (ap (λ q. scope_or s q) l.1.1 ∙ sym (stated_behind s w t l.0 l.1.1)) l.1.2 in
        ap₂ (λ x y. x ++ y) (kept t s s' w l.0 a h.0 p.0 l.1.1) (all_kept ts (scope_behind s t) (scope_behind s' (fewer_in s t)) w l.1.0 (stand_behind s s' w t l.0 a h.0 p.0 l.1.1) h.1 p.1 inner)

    parts_kept : (ps : CParts) (s s' : Scope) (w : Around) (r : List CaseLabel) → ScopesStand P s s' → PartsHave StringsAreShort IsDeclaration ps → PartsHave (EachName P) AnyDeclaration (fewer_in_parts s ps) → all_parts s w ps ≡ Ok r → parts_literals s' (fewer_in_parts s ps) ≡ parts_literals s ps
    parts_kept plain.NoPart s s' w r a h p e = refl
    parts_kept (plain.MorePart (plain.Label at x) qs) s s' w r a h p e =
        let l = both_is (part_judged s w (plain.Label at x)) (all_parts (part_scope_or s (part_judged s w (plain.Label at x))) w qs) (λ part labels. Ok (part.labels ++ labels)) r e in
        let k = after_is (maybe_judged s x) (λ a. Ok (record { scope = s; labels = record { pos = at; value = a } ∷ [] })) l.0 l.1.1 in
        let part : PartJudged = l.0 in
        let same : record { scope = s; labels = record { pos = at; value = k.0 } ∷ [] } ≡ part = cc k.2 in
        let scope : part_scope_or s (part_judged s w (plain.Label at x)) ≡ s = ap (λ q. part_scope_or s q) l.1.1 ∙ sym (ap (λ (z : PartJudged). z.scope) same) in
        parts_kept qs s s' w l.1.0 a h.1 p.1 (subst (λ z. all_parts z w qs ≡ Ok l.1.0) scope l.1.2)
    parts_kept (plain.MorePart (plain.Item t) qs) s s' w r a h p e =
        let l = both_is (part_judged s w (plain.Item t)) (all_parts (part_scope_or s (part_judged s w (plain.Item t))) w qs) (λ part labels. Ok (part.labels ++ labels)) r e in
        let k = after_is (stated s w t) (λ inner. Ok (record { scope = inner; labels = [] })) l.0 l.1.1 in
        let part : PartJudged = l.0 in
        let same : record { scope = k.0; labels = [] } ≡ part = cc k.2 in
        let scope : part_scope_or s (part_judged s w (plain.Item t)) ≡ scope_behind s t = ap (λ q. part_scope_or s q) l.1.1 ∙ (sym (ap (λ (z : PartJudged). z.scope) same) ∙ sym (stated_behind s w t k.0 k.1)) in
        ap₂ (λ x y. x ++ y) (kept t s s' w k.0 a h.0 p.0 k.1) (parts_kept qs (scope_behind s t) (scope_behind s' (fewer_in s t)) w l.1.0 (stand_behind s s' w t k.0 a h.0 p.0 k.1) h.1 p.1 (subst (λ z. all_parts z w qs ≡ Ok l.1.0) scope l.1.2))

pub statements_keep_literals : StatementsKeepLiterals
statements_keep_literals test s s' w t r a h p e = kept test t s s' w r a h p e
