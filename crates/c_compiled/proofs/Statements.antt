-- Statements where operators became calls, expression by expression.
use Rattle.std.proofs.Common.{◌≡◌, ℕ, ◌^◌, ◌<◌, ◌≤◌, List, [], ◌∷◌, ◌++◌, Option, Some, None, Bool, true, false, refl, sym, ap, ◌∙◌, subst, arith}
use Rattle.std.specs.Prelude.{Ok}
use Rattle.std.specs.Option.{option_map}
use Rattle.c_syntax.specs.Plain as plain
use Rattle.c_syntax.specs.Plain.{CExpr, CValue, CValues, CDecl, CStmt, CStmts, CParts}
use Rattle.c_syntax.specs.declared.tree.StepOp.TheVariants as step
use Rattle.c_types.specs.Types as type
use Rattle.c_types.specs.Types.{CType, CTypes, words_of}
use Rattle.c_types.specs.Refusals.{Judged, after, both, all_three, keeping}
use Rattle.c_types.specs.Scope as entity
use Rattle.c_types.specs.Scope.{Scope, entered, with_name}
use Rattle.c_types.specs.Operands.{Operand}
use Rattle.c_types.specs.Expressions.{judged, written}
use Rattle.c_types.specs.Declarations.{Site, Slots, first_slot, next_slots, slots_of, takes_string, site_rules, object_rules, braces_rules, fitting, all_fitting, first_fitting, completed, object_type, scope_or}
use Rattle.c_types.specs.Statements.{Around, in_loop, in_switch, condition_rules, test_rules, return_rules, switch_rules, maybe_judged, CaseLabel, PartJudged, part_scope_or, stated, all_stated, part_judged, all_parts}
use Rattle.c_types.specs.Census.{scope_behind, scope_behind_all}
use Rattle.c_types.specs.Units.{body_judged}
use Rattle.c_eval.specs.Environment.{type_or_void, object_type_in, type_or_nothing, Environment, past, past_maybe, past_value, declaring, past_stmt, behind, behind_all, in_block, Callee, Through}
use Rattle.c_eval.specs.Eval.{array_text}
use Rattle.c_valid.specs.Valid.{AreBytes}
use Rattle.c_valid.specs.Limited.{ExprIsLimited, ValueIsLimited, ValuesAreLimited, FirstIsLimited, StmtIsLimited, StmtsAreLimited, PartsAreLimited}
use Rattle.c_valid.proofs.Constants.{constant_in_below}
use Rattle.c_valid.proofs.Meanings.{array_bytes, scope_is}
use Rattle.c_alike.specs.Alike.{EachName}
use Rattle.c_alike.proofs.Scopes.{each}
use Rattle.c_fewer_types.specs.Written.{StringsAreShort}
use Rattle.c_helpers.specs.Fewer.{fewer, constant_tree, maybe_fewer, with_values, with_all_values, fewer_in_declaration, fewer_in, fewer_in_all, fewer_in_parts, fewer_in_body}
use Rattle.c_fewer_types.specs.Stands.{NameStands}
use Rattle.c_fewer_types.specs.Standing.{ScopesStand, MaybeHas, ValueHas, ValuesHave, FirstHas, StmtHas, StmtsHave, PartsHave, IsDeclaration, AnyDeclaration}
use Rattle.c_fewer_types.proofs.FewerTypedRules.{after_is, both_is, three_is}
use Rattle.c_fewer_types.proofs.Declared.{of_type}
use Rattle.c_fewer_types.proofs.Texts.{is_text, not_text, given_too}
use Rattle.c_fewer_types.proofs.Statements.{statements_stay_typed}
use Rattle.c_fewer_types.proofs.Behind.{stated_behind}
use Rattle.c_fewer_types.proofs.FewerLiteralsProofs.{stand_behind}
use Rattle.c_fewer_meaning.proofs.Expressions.{sees_entered}
use Rattle.c_fewer_meaning.proofs.Trees.{block_tree}
use Rattle.c_fitting.specs.Blocks.{IsNoDeclaration, DeclaresInBlocks, AllDeclareInBlocks, PartsDeclareInBlocks}
use Rattle.c_lowered.specs.Expressions.{unused}
use Rattle.c_stated.specs.Statements as lowering
use Rattle.c_stated.specs.Statements.{AreWords, WhereTaken, EffectHas, DeclaresNothing, LabelsAreWords, MaybeFirstHas, FirstsHas}
use Rattle.c_compiled.specs.Lettered.{OperatorsAre, FirstsAre}
use Rattle.c_fewer_reached.specs.Updates.{UpdatesAre}
use Rattle.c_compiled.specs.Few.{NameServes}
use Rattle.c_compiled.proofs.Few.{operators_are_few}
use Rattle.c_compiled.specs.Calls.{NameCalls}
use Rattle.c_compiled.proofs.Calls.{calls_may_be_called}
use Rattle.c_compiled.specs.Statements.{ScopesServe, HasFew, StatementsAreFew, BodiesAreFew}
use Rattle.c_compiled.proofs.Scopes.{site_of, IsDeclared, is_declared, Serve, object_serves, entered_serve}

-- ---- strings and labels

bytes_are_words : (cs : List ℕ) → AreBytes cs → AreWords cs
bytes_are_words [] h = tt
bytes_are_words (c ∷ cs) h = (below c h.0, bytes_are_words cs h.1)
  where
    below : (c : ℕ) → c < 2 ^ 8 → c < 2 ^ 24
    below c h = omega (arith, h)

-- only a string literal is one that an array takes
no_string : (t : CType) (e : CExpr) → is_text e ≡ false → takes_string t e ≡ false
no_string (type.Array t n) (plain.Str at text) h = absurd (cc h)
no_string (type.Array t n) e h = refl
no_string t e h = refl

where_taken : (b : Bool) (T V : Type 0) → T → V → WhereTaken b T V
where_taken true T V x y = x
where_taken false T V x y = y

labels_are_words : (ps : CParts) (s : Scope) (site : Environment) → LabelsAreWords (fewer_in_parts s ps) site
labels_are_words plain.NoPart s site = tt
labels_are_words (plain.MorePart (plain.Label at None) ps) s site = (tt, labels_are_words ps s site)
labels_are_words (plain.MorePart (plain.Label at (Some e)) ps) s site = (constant_in_below site.scope (constant_tree s e), labels_are_words ps s site)
labels_are_words (plain.MorePart (plain.Item t) ps) s site = (tt, labels_are_words ps (scope_behind s t) (behind (fewer_in s t) site))

declares_nothing : (t : CStmt) (s : Scope) → IsNoDeclaration t → DeclaresNothing (fewer_in s t)
declares_nothing (plain.Local d) s h = absurd (cc h)
declares_nothing t s h = tt

module _ (valued : List ℕ → Bool) (may : Callee → Bool) (any : (params : CTypes) → may (Through params) ≡ true) (test : List ℕ → Bool) where
  abbrev P : List ℕ → Type 0
  P name = test name ≡ true

  abbrev At : Scope → Scope → Type 0
  At s s' = Serve valued may P s s'

  abbrev E : CExpr → Environment → Type 0
  E e site = OperatorsAre valued may e site

  abbrev D : CDecl → Environment → Type 0
  D d site = FirstsAre valued may d site

  abbrev Short : CStmt → Type 0
  Short t = StmtHas StringsAreShort IsDeclaration t

  abbrev Updates : CStmt → Type 0
  Updates t = StmtHas UpdatesAre AnyDeclaration t

  abbrev Named : CStmt → Type 0
  Named t = StmtHas (EachName P) AnyDeclaration t

  -- ---- expressions

  expr_few : (s : Scope) (e : CExpr) (x : Operand) (site : Environment) → At s site.scope → StringsAreShort e → UpdatesAre e → EachName P (fewer s e) → judged s e ≡ Ok x → E (fewer s e) site
  expr_few s e x site a h q p k =
      let s' : Scope = site.scope in
      let stands = each P (NameStands s s') a.stand.names (fewer s e) p in
      let serves = each P (NameServes valued s) a.serve.points (fewer s e) p in
      let calls = each P (NameCalls may s s') a.serve.calls (fewer s e) p in (
        operators_are_few valued s s' e x a.stand.tags a.stand.written a.stand.built_in a.serve.tags h q stands serves k,
        calls_may_be_called valued may s s' e x any a.stand.tags a.stand.written a.stand.built_in a.serve.tags h q stands serves calls k,
      )

  -- a step whose value isn't used is the other one
  unused_few : (e : CExpr) (site : Environment) → E e site → E (unused e) site
  unused_few (plain.Step at step.PostInc a) site h = h
  unused_few (plain.Step at step.PostDec a) site h = h
  unused_few e site h = h

  maybe_few : (s : Scope) (e : Option CExpr) (o : Option Operand) (site : Environment) → At s site.scope → MaybeHas StringsAreShort e → MaybeHas UpdatesAre e → MaybeHas (EachName P) (maybe_fewer s e) → maybe_judged s e ≡ Ok o → lowering.MaybeHas E (maybe_fewer s e) site
  maybe_few s None o site a h q p k = tt
  maybe_few s (Some e) o site a h q p k = let l = after_is (judged s e) (λ x. Ok (Some x)) o k in expr_few s e l.0 site a h q p l.1

  effect_few : (s : Scope) (e : Option CExpr) (o : Option Operand) (site : Environment) → At s site.scope → MaybeHas StringsAreShort e → MaybeHas UpdatesAre e → MaybeHas (EachName P) (maybe_fewer s e) → maybe_judged s e ≡ Ok o → EffectHas E (maybe_fewer s e) site
  effect_few s None o site a h q p k = tt
  effect_few s (Some e) o site a h q p k = let l = after_is (judged s e) (λ x. Ok (Some x)) o k in unused_few (fewer s e) site (expr_few s e l.0 site a h q p l.1)

  maybe_at : (e : Option CExpr) (s : Scope) (site : Environment) → At s site.scope → At s (past_maybe e site).scope
  maybe_at None s site a = a
  maybe_at (Some e) s site a = a

  -- ---- first values

  one_few : (e : CExpr) (t : CType) (s : Scope) (site : Environment) → ExprIsLimited e → E (fewer s e) site → WhereTaken (takes_string t (fewer s e)) (AreWords (array_text t (fewer s e))) (E (fewer s e) site)
  one_few (plain.Str at text) t s site l h = where_taken (takes_string t (plain.Str at text)) (AreWords (array_text t (plain.Str at text))) (E (plain.Str at text) site) (bytes_are_words (array_text t (plain.Str at text)) (array_bytes t (plain.Str at text) l)) h
  one_few e t s site l h = subst (λ b. WhereTaken b (AreWords (array_text t (fewer s e))) (E (fewer s e) site)) (sym (no_string t (fewer s e) (not_text s e refl))) h

  mutual
    value_few : (v : CValue) (t : CType) (o : Option CType) (place : Site) (u : Unit {0}) (s : Scope) (site : Environment) → At s site.scope → ValueHas StringsAreShort v → ValueHas UpdatesAre v → ValueIsLimited v → ValueHas (EachName P) (with_values (fewer s) v) → fitting s place o v ≡ Ok u
        → lowering.FirstHas E t (with_values (fewer s) v) site
    value_few (plain.One e) t o place u s site a h q l p k =
        let m = after_is (judged s e) (λ x. keeping (object_rules o e x ++ site_rules place.file e x) tt) u k in
        one_few e t s site l (expr_few s e m.0 site a h q p m.1)
    value_few (plain.Many vs) t o place u s site a h q l p k =
        let m = after_is (all_fitting s place (slots_of s.tags o) vs) (λ _. keeping (braces_rules place.pos (slots_of s.tags o) vs) tt) u k in
        values_few vs (slots_of site.scope.tags (Some t)) (slots_of s.tags o) place m.0 s site a h q l p m.1

    values_few : (vs : CValues) (slots fits : Slots) (place : Site) (u : Unit {0}) (s : Scope) (site : Environment) → At s site.scope → ValuesHave StringsAreShort vs → ValuesHave UpdatesAre vs → ValuesAreLimited vs → ValuesHave (EachName P) (with_all_values (fewer s) vs)
        → all_fitting s place fits vs ≡ Ok u → FirstsHas E slots (with_all_values (fewer s) vs) site
    values_few plain.NoValue slots fits place u s site a h q l p k = tt
    values_few (plain.MoreValue v vs) slots fits place u s site a h q l p k =
        let m = both_is (fitting s place (first_slot fits) v) (all_fitting s place (next_slots fits) vs) (λ _ _. Ok tt) u k in (
          value_few v (type_or_nothing (first_slot slots)) (first_slot fits) place m.0 s site a h.0 q.0 l.0 p.0 m.1.1,
          values_few vs (next_slots slots) (next_slots fits) place m.1.0 s (past_value (with_values (fewer s) v) site) a h.1 q.1 l.1 p.1 m.1.2,
        )

  first_few : (v : Option CValue) (t u : CType) (place : Site) (x : Unit {0}) (s : Scope) (site : Environment) → At s site.scope → FirstHas StringsAreShort v → FirstHas UpdatesAre v → FirstIsLimited v → FirstHas (EachName P) (option_map (with_values (fewer s)) v) → first_fitting s place u v ≡ Ok x
      → MaybeFirstHas E t (option_map (with_values (fewer s)) v) site
  first_few None t u place x s site a h q l p k = tt
  first_few (Some v) t u place x s site a h q l p k = value_few v t (Some u) place x s site a h q l p k

  -- ---- scopes behind statements

  serve_behind : (s s' : Scope) (w : Around) (t : CStmt) (r r' : Scope) → At s s' → Short t → stated s w t ≡ Ok r → stated s' w (fewer_in s t) ≡ Ok r' → ScopesStand P (scope_behind s t) (scope_behind s' (fewer_in s t)) → At (scope_behind s t) (scope_behind s' (fewer_in s t))
  serve_behind s s' w (plain.Local d) r r' a h e f stand =
      let d' : CDecl = fewer_in_declaration s (fewer (scope_behind s (plain.Local d))) d in
      let one : IsDeclared s d r = is_declared s d r e in
      let two : IsDeclared s' d' r' = is_declared s' d' r' f in
      let first : with_name s d.name (entity.Object one.type) ≡ scope_behind s (plain.Local d) = sym one.behind ∙ sym (ap (λ z. scope_or s z) e) in
      let second : with_name s' d.name (entity.Object two.type) ≡ scope_behind s' (plain.Local d') = sym two.behind ∙ sym (ap (λ z. scope_or s' z) f) in
      record {
        stand = stand;
        serve = subst (λ z. ScopesServe valued may P z (scope_behind s' (plain.Local d'))) first (subst (λ z. ScopesServe valued may P (with_name s d.name (entity.Object one.type)) z) second (object_serves valued may any P s s' d.name one.type two.type h.0.0 a.serve));
      }
  serve_behind s s' w t r r' a h e f stand = record { stand = stand; serve = a.serve }

  behind_at : (s : Scope) (w : Around) (t : CStmt) (r : Scope) (site : Environment) → At s site.scope → Short t → Named (fewer_in s t) → stated s w t ≡ Ok r → At (scope_behind s t) (behind (fewer_in s t) site).scope
  behind_at s w t r site a h p e =
      let s' : Scope = site.scope in
      let k = statements_stay_typed test s s' w t r a.stand h p e in
      subst (λ z. At (scope_behind s t) z) (sym (scope_is (fewer_in s t) site)) (serve_behind s s' w t r k.0 a h e k.1 (stand_behind test s s' w t r a.stand h p e))

  -- behind the first of some statements the others are typed
  rest_is : (s : Scope) (w : Around) (t : CStmt) (ts : CStmts) (q r : Scope) → stated s w t ≡ Ok q → all_stated (scope_or s (stated s w t)) w ts ≡ Ok r → all_stated (scope_behind s t) w ts ≡ Ok r
  rest_is s w t ts q r e f = subst (λ z. all_stated z w ts ≡ Ok r) (ap (λ x. scope_or s x) e ∙ sym (stated_behind s w t q e)) f

  all_at : (ss : CStmts) (s : Scope) (w : Around) (r : Scope) (site : Environment) → At s site.scope → StmtsHave StringsAreShort IsDeclaration ss → StmtsHave (EachName P) AnyDeclaration (fewer_in_all s ss) → all_stated s w ss ≡ Ok r
      → At (scope_behind_all s ss) (behind_all (fewer_in_all s ss) site).scope × (scope_behind_all s ss ≡ r)
  all_at plain.NoStmt s w r site a h p e = (a, cc e)
  all_at (plain.MoreStmt t ts) s w r site a h p e =
      let l = both_is (stated s w t) (all_stated (scope_or s (stated s w t)) w ts) (λ _ inner. Ok inner) r e in
      let m = all_at ts (scope_behind s t) w l.1.0 (behind (fewer_in s t) site) (behind_at s w t l.0 site a h.0 p.0 l.1.1) h.1 p.1 (rest_is s w t ts l.0 l.1.0 l.1.1 l.1.2) in
      let same : l.1.0 ≡ r = cc l.1.3 in
      (m.0, m.1 ∙ same)

  -- ---- declarations

  local_few : (s : Scope) (w : Around) (d : CDecl) (r : Scope) (site : Environment) → At s site.scope → Short (plain.Local d) → Updates (plain.Local d) → StmtIsLimited s (plain.Local d) → Named (fewer_in s (plain.Local d)) → stated s w (plain.Local d) ≡ Ok r → HasFew valued may (fewer_in s (plain.Local d)) site
  local_few s w d r site a h q l p e =
      let s' : Scope = site.scope in
      let inner : Scope = scope_behind s (plain.Local d) in
      let d' : CDecl = fewer_in_declaration s (fewer inner) d in
      let k : IsDeclared s d r = is_declared s d r e in
      let there : r ≡ inner = sym (ap (λ z. scope_or s z) e) in
      let w' = after_is (written s d.pos d.ty) (λ t. object_type s d.pos (completed t d.first)) k.type k.is in
      let same : object_type_in s' d' ≡ k.type = ap type_or_void (of_type P s s' a.stand false d (fewer inner) w'.0 k.type (λ e t. given_too inner e t) w'.1 w'.2) in
      let some : 1 ≤ words_of s.tags k.type = a.serve.tags.words k.type k.object in
      let stay = statements_stay_typed test s s' w (plain.Local d) r a.stand h p e in
      let here : At inner (scope_behind s' (plain.Local d')) = serve_behind s s' w (plain.Local d) r stay.0 a h e stay.1 (stand_behind test s s' w (plain.Local d) r a.stand h p e) in (
        subst (λ t. 1 ≤ words_of s'.tags t) (sym same) (subst (λ z. 1 ≤ words_of z k.type) a.stand.tags some),
        first_few d.first (object_type_in s' d') k.type (site_of d) k.fits.0 inner (declaring d' site) here h.1 q.1 l.1 p.1 (subst (λ z. first_fitting z (site_of d) k.type d.first ≡ Ok k.fits.0) there k.fits.1),
      )

  -- ---- loops

  abbrev Few : CStmt → Type 0
  Few t = (s : Scope) (w : Around) (r : Scope) (site : Environment) → At s site.scope → Short t → Updates t → StmtIsLimited s t → DeclaresInBlocks t → Named (fewer_in s t) → stated s w t ≡ Ok r → HasFew valued may (fewer_in s t) site

  abbrev AllFew : CStmts → Type 0
  AllFew ss = (s : Scope) (w : Around) (r : Scope) (site : Environment) → At s site.scope → StmtsHave StringsAreShort IsDeclaration ss → StmtsHave UpdatesAre AnyDeclaration ss → StmtsAreLimited s ss → AllDeclareInBlocks ss → StmtsHave (EachName P) AnyDeclaration (fewer_in_all s ss)
      → all_stated s w ss ≡ Ok r → lowering.StmtsHas E D (fewer_in_all s ss) site

  abbrev Within : CStmt → Type 0
  Within (plain.Block ss) = AllFew ss
  Within t = Unit {0}

  -- what is behind the head of a `for`
  abbrev Turns : (test step : Option CExpr) → CStmt → Environment → Type 0
  Turns test step t inner = lowering.MaybeHas E test inner × EffectHas E step (past_maybe test inner) × DeclaresNothing t × HasFew valued may t (past_maybe step (past_maybe test inner))

  abbrev tests : Scope → Option CExpr → Option CExpr → Judged (Option Operand)
  tests s test step = both (maybe_judged s test) (maybe_judged s step) (λ a _. Ok a)

  turns_few : (s : Scope) (w : Around) (test step : Option CExpr) (t : CStmt) (o : Option Operand) (r : Scope) (site : Environment) → Few t → At s site.scope → MaybeHas StringsAreShort test → MaybeHas StringsAreShort step → Short t → MaybeHas UpdatesAre test → MaybeHas UpdatesAre step → Updates t
      → StmtIsLimited s t → DeclaresInBlocks t → IsNoDeclaration t → MaybeHas (EachName P) (maybe_fewer s test) → MaybeHas (EachName P) (maybe_fewer s step) → Named (fewer_in s t) → tests s test step ≡ Ok o → stated s w t ≡ Ok r
      → Turns (maybe_fewer s test) (maybe_fewer s step) (fewer_in s t) site
  turns_few s w test step t o r site body a ht hs h qt qs q l b n pt ps p k e =
      let m = both_is (maybe_judged s test) (maybe_judged s step) (λ a _. Ok a) o k in
      let one : Environment = past_maybe (maybe_fewer s test) site in
      let two : Environment = past_maybe (maybe_fewer s step) one in
      let there : At s one.scope = maybe_at (maybe_fewer s test) s site a in (
        maybe_few s test m.0 site a ht qt pt m.1.1,
        effect_few s step m.1.0 one there hs qs ps m.1.2,
        declares_nothing t s n,
        body s w r two (maybe_at (maybe_fewer s step) s one there) h q l b p e,
      )

  -- declarations in a head count in the whole `for`
  block_head : (ss : CStmts) (test step : Option CExpr) (t : CStmt) → AllFew ss → Few t → Few (plain.For (plain.Block ss) test step t)
  block_head ss test step t all body s w r site a h q l b p e =
      let head : Judged Scope = all_stated (entered s) w ss in
      let k = three_is head (tests (scope_or s head) test step) (stated (scope_or s head) (in_loop w) t) (λ _ a _. keeping (test_rules a) s) r e in
      let inner : Scope = scope_behind_all (entered s) ss in
      let start : Environment = in_block 0 site in
      let a' : At (entered s) start.scope = entered_serve valued may P s site.scope a in
      let m = all_at ss (entered s) w k.0 start a' h.1 p.1 k.1.1.1 in
      let same : scope_or s head ≡ inner = ap (λ z. scope_or s z) k.1.1.1 ∙ sym m.1 in
      let judged : tests inner test step ≡ Ok k.1.0 = subst (λ z. tests z test step ≡ Ok k.1.0) same k.1.1.2 in
      let typed : stated inner (in_loop w) t ≡ Ok k.1.1.0 = subst (λ z. stated z (in_loop w) t ≡ Ok k.1.1.0) same k.1.1.3 in
      let turns = turns_few inner (in_loop w) test step t k.1.0 k.1.1.0 (behind_all (fewer_in_all (entered s) ss) start) body m.0 h.2 h.3 h.4 q.2 q.3 q.4 l.3 b.1.0 b.1.1 p.2 p.3 p.4 judged typed in
      (all (entered s) w k.0 start a' h.1 q.1 l.0 b.0.0 p.1 k.1.1.1, turns.0, turns.1, turns.2, turns.3)

  -- what stands in a `for` whose head declares nothing
  abbrev Looped : CStmt → (test step : Option CExpr) → CStmt → Environment → Type 0
  Looped first test step t site = HasFew valued may first site × Turns test step t (behind first site)

  other_head : (first : CStmt) (test step : Option CExpr) (t : CStmt) (s : Scope) (w : Around) (r : Scope) (site : Environment) → Few first → Few t → At s site.scope → At s (behind (fewer_in s first) site).scope
      → Short first × MaybeHas StringsAreShort test × MaybeHas StringsAreShort step × Short t → Updates first × MaybeHas UpdatesAre test × MaybeHas UpdatesAre step × Updates t → StmtIsLimited s first → StmtIsLimited s t → DeclaresInBlocks first → DeclaresInBlocks t → IsNoDeclaration t
      → Named (fewer_in s first) × MaybeHas (EachName P) (maybe_fewer s test) × MaybeHas (EachName P) (maybe_fewer s step) × Named (fewer_in s t)
      → all_three (stated s w first) (tests s test step) (stated s (in_loop w) t) (λ _ a _. keeping (test_rules a) s) ≡ Ok r → Looped (fewer_in s first) (maybe_fewer s test) (maybe_fewer s step) (fewer_in s t) site
  other_head first test step t s w r site head body a a' h q lf lt bf bt n p e =
      let k = three_is (stated s w first) (tests s test step) (stated s (in_loop w) t) (λ _ a _. keeping (test_rules a) s) r e in (
        head s w k.0 site a h.0 q.0 lf bf p.0 k.1.1.1,
        turns_few s (in_loop w) test step t k.1.0 k.1.1.0 (behind (fewer_in s first) site) body a' h.1 h.2 h.3 q.1 q.2 q.3 lt bt n p.1 p.2 p.3 k.1.1.2 k.1.1.3,
      )

  for_head : (first : CStmt) (test step : Option CExpr) (t : CStmt) → Few first → Within first → Few t → Few (plain.For first test step t)
  for_head (plain.Block ss) test step t head all body s w r site a h q l b p e = block_head ss test step t all body s w r site a h q l b p e
  for_head (plain.Local d) test step t head all body s w r site a h q l b p e = absurd (cc h.0)
  for_head first test step t head all body s w r site a h q l b p e =
      let m = other_head first test step t s w r site head body a a (h.1, h.2, h.3, h.4) (q.1, q.2, q.3, q.4) l.0 l.3 b.0.0 b.1.0 b.1.1 (p.1, p.2, p.3, p.4) e in
      (tt, m.0, m.1.0, m.1.1, m.1.2, m.1.3)

  -- ---- statements

  mutual
    few : (t : CStmt) → Few t
    few (plain.Block ss) s w r site a h q l b p e =
        let k = after_is (all_stated (entered s) w ss) (λ _. Ok s) r e in
        all_few ss (entered s) w k.0 (in_block 0 site) (entered_serve valued may P s site.scope a) h q l b p k.1
    few (plain.Local d) s w r site a h q l b p e = local_few s w d r site a h q l p e
    few (plain.Do_expr x) s w r site a h q l b p e =
        let k = after_is (judged s x) (λ _. Ok s) r e in
        unused_few (fewer s x) site (expr_few s x k.0 site a h q p k.1)
    few plain.Empty s w r site a h q l b p e = tt
    few (plain.If x t) s w r site a h q l b p e =
        let k = both_is (judged s x) (stated s w t) (λ a _. keeping (condition_rules a) s) r e in
        (expr_few s x k.0 site a h.0 q.0 p.0 k.1.1, declares_nothing t s b.1, few t s w k.1.0 (past (fewer s x) site) a h.1 q.1 l.1 b.0 p.1 k.1.2)
    few (plain.IfElse x t u) s w r site a h q l b p e =
        let k = three_is (judged s x) (stated s w t) (stated s w u) (λ a _ _. keeping (condition_rules a) s) r e in
        let inner : Environment = past (fewer s x) site in (
          expr_few s x k.0 site a h.0 q.0 p.0 k.1.1.1,
          declares_nothing t s b.0.1,
          declares_nothing u s b.1.1,
          few t s w k.1.0 inner a h.1 q.1 l.1 b.0.0 p.1 k.1.1.2,
          few u s w k.1.1.0 (past_stmt (fewer_in s t) inner) a h.2 q.2 l.2 b.1.0 p.2 k.1.1.3,
        )
    few (plain.While x t) s w r site a h q l b p e =
        let k = both_is (judged s x) (stated s (in_loop w) t) (λ a _. keeping (condition_rules a) s) r e in
        (expr_few s x k.0 site a h.0 q.0 p.0 k.1.1, declares_nothing t s b.1, few t s (in_loop w) k.1.0 (past (fewer s x) site) a h.1 q.1 l.1 b.0 p.1 k.1.2)
    few (plain.Do t x) s w r site a h q l b p e =
        let k = both_is (judged s x) (stated s (in_loop w) t) (λ a _. keeping (condition_rules a) s) r e in
        (declares_nothing t s b.1, few t s (in_loop w) k.1.0 site a h.1 q.1 l.0 b.0 p.1 k.1.2, expr_few s x k.0 (past_stmt (fewer_in s t) site) a h.0 q.0 p.0 k.1.1)
    few (plain.For first test step t) s w r site a h q l b p e =
        for_head first test step t (λ s w r site a h q l b p e. few first s w r site a h q l b p e) (within first) (λ s w r site a h q l b p e. few t s w r site a h q l b p e) s w r site a h q l b p e
    few (plain.Return at x) s w r site a h q l b p e =
        let k = after_is (maybe_judged s x) (λ o. keeping (return_rules at w.result o) s) r e in
        maybe_few s x k.0 site a h q p k.1
    few (plain.Break at) s w r site a h q l b p e = tt
    few (plain.Continue at) s w r site a h q l b p e = tt
    few (plain.Switch x ps) s w r site a h q l b p e =
        let k = both_is (judged s x) (all_parts (entered s) (in_switch w) ps) (λ a labels. keeping (switch_rules a labels) s) r e in
        let inner : Environment = in_block 0 (past (fewer s x) site) in (
          expr_few s x k.0 site a h.0 q.0 p.0 k.1.1,
          labels_are_words ps (entered s) inner,
          parts_few ps (entered s) (in_switch w) k.1.0 inner (entered_serve valued may P s site.scope a) h.1 q.1 l.1 b p.1 k.1.2,
        )

    within : (t : CStmt) → Within t
    within (plain.Block ss) = λ s w r site a h q l b p e. all_few ss s w r site a h q l b p e
    within t = tt

    all_few : (ss : CStmts) → AllFew ss
    all_few plain.NoStmt s w r site a h q l b p e = tt
    all_few (plain.MoreStmt t ts) s w r site a h q l b p e =
        let k = both_is (stated s w t) (all_stated (scope_or s (stated s w t)) w ts) (λ _ inner. Ok inner) r e in (
          few t s w k.0 site a h.0 q.0 l.0 b.0 p.0 k.1.1,
          all_few ts (scope_behind s t) w k.1.0 (behind (fewer_in s t) site) (behind_at s w t k.0 site a h.0 p.0 k.1.1) h.1 q.1 l.1 b.1 p.1 (rest_is s w t ts k.0 k.1.0 k.1.1 k.1.2),
        )

    parts_few : (ps : CParts) (s : Scope) (w : Around) (r : List CaseLabel) (site : Environment) → At s site.scope → PartsHave StringsAreShort IsDeclaration ps → PartsHave UpdatesAre AnyDeclaration ps → PartsAreLimited s ps → PartsDeclareInBlocks ps → PartsHave (EachName P) AnyDeclaration (fewer_in_parts s ps)
        → all_parts s w ps ≡ Ok r → lowering.PartsHas E D (fewer_in_parts s ps) site
    parts_few plain.NoPart s w r site a h q l b p e = tt
    parts_few (plain.MorePart (plain.Label at x) qs) s w r site a h q l b p e =
        let k = both_is (part_judged s w (plain.Label at x)) (all_parts (part_scope_or s (part_judged s w (plain.Label at x))) w qs) (λ part labels. Ok (part.labels ++ labels)) r e in
        let m = after_is (maybe_judged s x) (λ a. Ok (record { scope = s; labels = record { pos = at; value = a } ∷ [] })) k.0 k.1.1 in
        let part : PartJudged = k.0 in
        let same : record { scope = s; labels = record { pos = at; value = m.0 } ∷ [] } ≡ part = cc m.2 in
        let scope : part_scope_or s (part_judged s w (plain.Label at x)) ≡ s = ap (λ q. part_scope_or s q) k.1.1 ∙ sym (ap (λ (z : PartJudged). z.scope) same) in
        parts_few qs s w k.1.0 site a h.1 q.1 l.1 b.1 p.1 (subst (λ z. all_parts z w qs ≡ Ok k.1.0) scope k.1.2)
    parts_few (plain.MorePart (plain.Item t) qs) s w r site a h q l b p e =
        let k = both_is (part_judged s w (plain.Item t)) (all_parts (part_scope_or s (part_judged s w (plain.Item t))) w qs) (λ part labels. Ok (part.labels ++ labels)) r e in
        let m = after_is (stated s w t) (λ inner. Ok (record { scope = inner; labels = [] })) k.0 k.1.1 in
        let part : PartJudged = k.0 in
        let same : record { scope = m.0; labels = [] } ≡ part = cc m.2 in
        let scope : part_scope_or s (part_judged s w (plain.Item t)) ≡ scope_behind s t = ap (λ q. part_scope_or s q) k.1.1 ∙ (sym (ap (λ (z : PartJudged). z.scope) same) ∙ sym (stated_behind s w t m.0 m.1)) in (
          few t s w m.0 site a h.0 q.0 l.0 b.0 p.0 m.1,
          parts_few qs (scope_behind s t) w k.1.0 (behind (fewer_in s t) site) (behind_at s w t m.0 site a h.0 p.0 m.1) h.1 q.1 l.1 b.1 p.1 (subst (λ z. all_parts z w qs ≡ Ok k.1.0) scope k.1.2),
        )

pub statements_are_few : StatementsAreFew
statements_are_few valued may test s w t r site any stand serve is p e =
    few valued may any test t s w r site (record { stand = stand; serve = serve }) is.short is.updates is.limited is.blocks p e

-- ---- a body is a statement

-- as a statement it is typed too, and has the same tree
pub body_is : (s : Scope) (w : Around) (t : CStmt) (r : Scope) → StmtHas StringsAreShort IsDeclaration t → body_judged s w (Some t) ≡ Ok r → (other : Scope) × (stated s w t ≡ Ok other) × (fewer_in_body s t ≡ fewer_in s t)
body_is s w (plain.Block ss) r h e =
    let k = block_tree s (entered s) w ss r (sees_entered s) h e in
    (s, ap (λ q. after {A = Scope} {B = Scope} q (λ _. Ok s)) k.1, ap plain.Block (sym k.2))
body_is s w (plain.Local d) r h e = (r, e, refl)
body_is s w t r h e = (r, e, refl)

pub bodies_are_few : BodiesAreFew
bodies_are_few valued may test s w t r site any stand serve is p e =
    let k = body_is s w t r is.short e in
    let P : List ℕ → Type 0 = λ name. test name ≡ true in
    let named : StmtHas (EachName P) AnyDeclaration (fewer_in s t) = subst (λ z. StmtHas (EachName P) AnyDeclaration z) k.2 p in
    subst (λ z. HasFew valued may z site) (sym k.2) (statements_are_few valued may test s w t k.0 site any stand serve is named k.1)
