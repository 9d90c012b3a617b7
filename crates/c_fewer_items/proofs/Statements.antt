-- Statements with fewer operators are within the limits where the statements are.
use Rattle.std.proofs.Common.{◌≡◌, ℕ, ◌<◌, List, [], ◌∷◌, ◌++◌, Option, Some, Bool, true, false, refl, sym, ap, ◌∙◌, subst}
use Rattle.std.specs.Prelude.{Ok, Err}
use Rattle.c_syntax.specs.Plain as plain
use Rattle.c_syntax.specs.Plain.{CExpr, CDecl, CStmt, CStmts, CParts}
use Rattle.c_types.specs.Types.{words_of}
use Rattle.c_types.specs.Refusals.{Judged, after, both, all_three, keeping}
use Rattle.c_types.specs.Scope.{Scope, entered}
use Rattle.c_types.specs.Operands.{Operand}
use Rattle.c_types.specs.Expressions.{judged, written}
use Rattle.c_types.specs.Declarations.{completed, object_type, declared_type, declared_object, scope_or}
use Rattle.c_types.specs.Statements.{Around, in_loop, in_switch, condition_rules, test_rules, switch_rules, maybe_judged, CaseLabel, PartJudged, part_scope_or, stated, all_stated, part_judged, all_parts}
use Rattle.c_types.specs.Units.{body_judged}
use Rattle.c_types.specs.Census.{scope_behind, scope_behind_all}
use Rattle.c_eval.specs.Environment.{type_or_void, object_type_in}
use Rattle.c_eval.specs.Text.{Definition}
use Rattle.c_valid.specs.Valid.{most_cells}
use Rattle.c_valid.specs.Limited.{MaybeIsLimited, StmtIsLimited, StmtsAreLimited, PartsAreLimited}
use Rattle.c_alike.specs.Alike.{EachName}
use Rattle.c_fewer_types.specs.Written.{StringsAreShort}
use Rattle.c_helpers.specs.Fewer.{fewer, maybe_fewer, fewer_in, fewer_in_all, fewer_in_parts, fewer_in_declaration, fewer_in_body}
use Rattle.c_fewer_types.specs.Standing.{ScopesStand, StmtHas, StmtsHave, PartsHave, IsDeclaration, AnyDeclaration}
use Rattle.c_fewer_types.proofs.Scopes.{entered_stand}
use Rattle.c_fewer_types.proofs.FewerTypedRules.{after_is, both_is, three_is}
use Rattle.c_fewer_types.proofs.Declared.{of_type}
use Rattle.c_fewer_types.proofs.Texts.{given_too}
use Rattle.c_fewer_types.proofs.Behind.{stated_behind}
use Rattle.c_fewer_types.proofs.FewerLiteralsProofs.{stand_behind, all_behind}
use Rattle.c_fewer_meaning.proofs.Expressions.{sees_entered}
use Rattle.c_fewer_meaning.proofs.Trees.{block_tree}
use Rattle.c_fewer_items.specs.FewerLimitedLaws.{DefinitionsStayLimited}
use Rattle.c_fewer_items.proofs.Expressions.{expr_limited, maybe_limited, first_limited}

label_same : (s : Scope) (at : ℕ) (r : Judged (Option Operand)) → part_scope_or s (after r (λ a. Ok (record { scope = s; labels = record { pos = at; value = a } ∷ [] }))) ≡ s
label_same s at (Ok o) = refl
label_same s at (Err e) = refl

item_same : (s : Scope) (r : Judged Scope) (inner : Scope) → r ≡ Ok inner → part_scope_or s (after r (λ inner. Ok (record { scope = inner; labels = [] }))) ≡ inner
item_same s r inner e = ap (λ q. part_scope_or s (after q (λ inner. Ok (record { scope = inner; labels = [] })))) e

module _ (passes : List ℕ → Bool) where
  abbrev P : List ℕ → Type 0
  P name = passes name ≡ true

  abbrev Short : CStmt → Type 0
  Short t = StmtHas StringsAreShort IsDeclaration t

  abbrev Named : CStmt → Type 0
  Named t = StmtHas (EachName P) AnyDeclaration t

  abbrev Stays : CStmt → Type 0
  Stays t = (s s' : Scope) (w : Around) (r : Scope) → ScopesStand P s s' → Short t → Named (fewer_in s t) → stated s w t ≡ Ok r → StmtIsLimited s t → StmtIsLimited s' (fewer_in s t)

  abbrev AllStay : CStmts → Type 0
  AllStay ss = (s s' : Scope) (w : Around) (r : Scope) → ScopesStand P s s' → StmtsHave StringsAreShort IsDeclaration ss → StmtsHave (EachName P) AnyDeclaration (fewer_in_all s ss) → all_stated s w ss ≡ Ok r → StmtsAreLimited s ss → StmtsAreLimited s' (fewer_in_all s ss)

  -- an object has the type that it had
  local_stays : (d : CDecl) → Stays (plain.Local d)
  local_stays d s s' w r a h p e l =
      let z : Scope = scope_behind s (plain.Local d) in
      let k = after_is (declared_type s d) (λ t. declared_object s false d t) r e in
      let v = after_is (written s d.pos d.ty) (λ t. object_type s d.pos (completed t d.first)) k.0 k.1 in
      let same : object_type_in s' (fewer_in_declaration s (fewer z) d) ≡ object_type_in s d = ap type_or_void (of_type P s s' a false d (fewer z) v.0 k.0 (λ e t. given_too z e t) v.1 v.2 ∙ sym k.1) in
      (subst (λ n. n < most_cells) (λ i. words_of (a.tags i) (sym same i)) l.0, first_limited z d.first l.1)

  -- a `for`, with the scopes behind its head
  for_parts : (s s' inner inner' : Scope) (first : CStmt) (test step : Option CExpr) (t : CStmt) → StmtIsLimited s' (fewer_in s first) → MaybeIsLimited test → MaybeIsLimited step → StmtIsLimited inner' (fewer_in inner t)
      → StmtIsLimited s' (fewer_in s first) × MaybeIsLimited (maybe_fewer inner test) × MaybeIsLimited (maybe_fewer inner step) × StmtIsLimited inner' (fewer_in inner t)
  for_parts s s' inner inner' first test step t h j k l = (h, maybe_limited inner test j, maybe_limited inner step k, l)

  block_for : (ss : CStmts) (test step : Option CExpr) (t : CStmt) → AllStay ss → Stays t → Stays (plain.For (plain.Block ss) test step t)
  block_for ss test step t all body s s' w r a h p e l =
      let head : Judged Scope = all_stated (entered s) w ss in
      let inner : Scope = scope_or s head in
      let k = three_is head (both (maybe_judged inner test) (maybe_judged inner step) (λ a _. Ok a)) (stated inner (in_loop w) t) (λ _ a _. keeping (test_rules a) s) r e in
      let m = all_behind passes ss (entered s) (entered s') w k.0 (entered_stand P s s' a) h.1 p.1 k.1.1.1 in
      let there : inner ≡ scope_behind_all (entered s) ss = ap (λ j. scope_or s j) k.1.1.1 ∙ sym m.1 in
      let typed : stated (scope_behind_all (entered s) ss) (in_loop w) t ≡ Ok k.1.1.0 = subst (λ z. stated z (in_loop w) t ≡ Ok k.1.1.0) there k.1.1.3 in
      for_parts s s' (scope_behind_all (entered s) ss) (scope_behind_all (entered s') (fewer_in_all (entered s) ss)) (plain.Block ss) test step t (all (entered s) (entered s') w k.0 (entered_stand P s s' a) h.1 p.1 k.1.1.1 l.0) l.1 l.2
      (body (scope_behind_all (entered s) ss) (scope_behind_all (entered s') (fewer_in_all (entered s) ss)) (in_loop w) k.1.1.0 m.0 h.4 p.4 typed l.3)

  other_for : (first : CStmt) (test step : Option CExpr) (t : CStmt) (s s' : Scope) (w : Around) (r : Scope) → Stays first → Stays t → ScopesStand P s s' → Short first → Short t → Named (fewer_in s first) → Named (fewer_in s t)
      → all_three (stated s w first) (both (maybe_judged s test) (maybe_judged s step) (λ a _. Ok a)) (stated s (in_loop w) t) (λ _ a _. keeping (test_rules a) s) ≡ Ok r → StmtIsLimited s first → MaybeIsLimited test → MaybeIsLimited step → StmtIsLimited s t
      → StmtIsLimited s' (fewer_in s first) × MaybeIsLimited (maybe_fewer s test) × MaybeIsLimited (maybe_fewer s step) × StmtIsLimited s' (fewer_in s t)
  other_for first test step t s s' w r head body a hf ht pf pt e i j k l =
      let m = three_is (stated s w first) (both (maybe_judged s test) (maybe_judged s step) (λ a _. Ok a)) (stated s (in_loop w) t) (λ _ a _. keeping (test_rules a) s) r e in
      for_parts s s' s s' first test step t (head s s' w m.0 a hf pf m.1.1.1 i) j k (body s s' (in_loop w) m.1.1.0 a ht pt m.1.1.3 l)

  abbrev Within : CStmt → Type 0
  Within (plain.Block ss) = AllStay ss
  Within t = Unit {0}

  for_stays : (first : CStmt) (test step : Option CExpr) (t : CStmt) → Stays first → Within first → Stays t → Stays (plain.For first test step t)
  for_stays (plain.Block ss) test step t head all body s s' w r a h p e l = block_for ss test step t all body s s' w r a h p e l
  for_stays (plain.Local d) test step t head all body s s' w r a h p e l = absurd (cc h.0)
  for_stays first test step t head all body s s' w r a h p e l = other_for first test step t s s' w r head body a h.1 h.4 p.1 p.4 e l.0 l.1 l.2 l.3

  abbrev PartsAreJudged : Scope → Around → CParts → Type 0
  PartsAreJudged s w ps = (labels : List CaseLabel) × (all_parts s w ps ≡ Ok labels)

  mutual
    stays : (t : CStmt) → Stays t
    stays (plain.Block ss) s s' w r a h p e l = let k = after_is (all_stated (entered s) w ss) (λ _. Ok s) r e in all_stay ss (entered s) (entered s') w k.0 (entered_stand P s s' a) h p k.1 l
    stays (plain.Local d) s s' w r a h p e l = local_stays d s s' w r a h p e l
    stays (plain.Do_expr x) s s' w r a h p e l = expr_limited s x l
    stays plain.Empty s s' w r a h p e l = tt
    stays (plain.If x t) s s' w r a h p e l = let k = both_is (judged s x) (stated s w t) (λ a _. keeping (condition_rules a) s) r e in (expr_limited s x l.0, stays t s s' w k.1.0 a h.1 p.1 k.1.2 l.1)
    stays (plain.IfElse x t u) s s' w r a h p e l =
        let k = three_is (judged s x) (stated s w t) (stated s w u) (λ a _ _. keeping (condition_rules a) s) r e in
        (expr_limited s x l.0, stays t s s' w k.1.0 a h.1 p.1 k.1.1.2 l.1, stays u s s' w k.1.1.0 a h.2 p.2 k.1.1.3 l.2)
    stays (plain.While x t) s s' w r a h p e l = let k = both_is (judged s x) (stated s (in_loop w) t) (λ a _. keeping (condition_rules a) s) r e in (expr_limited s x l.0, stays t s s' (in_loop w) k.1.0 a h.1 p.1 k.1.2 l.1)
    stays (plain.Do t x) s s' w r a h p e l = let k = both_is (judged s x) (stated s (in_loop w) t) (λ a _. keeping (condition_rules a) s) r e in (stays t s s' (in_loop w) k.1.0 a h.1 p.1 k.1.2 l.0, expr_limited s x l.1)
    stays (plain.For first test step t) s s' w r a h p e l = for_stays first test step t (λ s s' w r a h p e l. stays first s s' w r a h p e l) (within first) (λ s s' w r a h p e l. stays t s s' w r a h p e l) s s' w r a h p e l
    stays (plain.Return at x) s s' w r a h p e l = maybe_limited s x l
    stays (plain.Break at) s s' w r a h p e l = tt
    stays (plain.Continue at) s s' w r a h p e l = tt
    stays (plain.Switch x ps) s s' w r a h p e l =
        let k = both_is (judged s x) (all_parts (entered s) (in_switch w) ps) (λ a labels. keeping (switch_rules a labels) s) r e in
        (expr_limited s x l.0, parts_stay ps (entered s) (entered s') (in_switch w) (entered_stand P s s' a) h.1 p.1 (k.1.0, k.1.2) l.1)

    within : (t : CStmt) → Within t
    within (plain.Block ss) = λ s s' w r a h p e l. all_stay ss s s' w r a h p e l
    within t = tt

    all_stay : (ss : CStmts) → AllStay ss
    all_stay plain.NoStmt s s' w r a h p e l = tt
    all_stay (plain.MoreStmt t ts) s s' w r a h p e l =
        let k = both_is (stated s w t) (all_stated (scope_or s (stated s w t)) w ts) (λ _ inner. Ok inner) r e in
        let inner : all_stated (scope_behind s t) w ts ≡ Ok k.1.0 = subst (λ z. all_stated z w ts ≡ Ok k.1.0) (ap (λ q. scope_or s q) k.1.1 ∙ sym (stated_behind s w t k.0 k.1.1)) k.1.2 in
        (stays t s s' w k.0 a h.0 p.0 k.1.1 l.0, all_stay ts (scope_behind s t) (scope_behind s' (fewer_in s t)) w k.1.0 (stand_behind passes s s' w t k.0 a h.0 p.0 k.1.1) h.1 p.1 inner l.1)

    parts_stay : (ps : CParts) (s s' : Scope) (w : Around) → ScopesStand P s s' → PartsHave StringsAreShort IsDeclaration ps → PartsHave (EachName P) AnyDeclaration (fewer_in_parts s ps) → PartsAreJudged s w ps → PartsAreLimited s ps → PartsAreLimited s' (fewer_in_parts s ps)
    parts_stay plain.NoPart s s' w a h p e l = tt
    parts_stay (plain.MorePart (plain.Label at x) ps) s s' w a h p e l =
        let k = both_is (part_judged s w (plain.Label at x)) (all_parts (part_scope_or s (part_judged s w (plain.Label at x))) w ps) (λ (part : PartJudged) labels. Ok (part.labels ++ labels)) e.0 e.1 in
        (tt, parts_stay ps s s' w a h.1 p.1 (k.1.0, subst (λ y. all_parts y w ps ≡ Ok k.1.0) (label_same s at (maybe_judged s x)) k.1.2) l.1)
    parts_stay (plain.MorePart (plain.Item t) ps) s s' w a h p e l =
        let k = both_is (part_judged s w (plain.Item t)) (all_parts (part_scope_or s (part_judged s w (plain.Item t))) w ps) (λ (part : PartJudged) labels. Ok (part.labels ++ labels)) e.0 e.1 in
        let m = after_is (stated s w t) (λ inner. Ok (record { scope = inner; labels = [] })) k.0 k.1.1 in
        let goes : part_scope_or s (part_judged s w (plain.Item t)) ≡ scope_behind s t = item_same s (stated s w t) m.0 m.1 ∙ sym (stated_behind s w t m.0 m.1) in
        (stays t s s' w m.0 a h.0 p.0 m.1 l.0, parts_stay ps (scope_behind s t) (scope_behind s' (fewer_in s t)) w (stand_behind passes s s' w t m.0 a h.0 p.0 m.1) h.1 p.1 (k.1.0, subst (λ y. all_parts y w ps ≡ Ok k.1.0) goes k.1.2) l.1)

-- ---- a body is a statement

body_is : (s : Scope) (w : Around) (t : CStmt) (r : Scope) → StmtHas StringsAreShort IsDeclaration t → body_judged s w (Some t) ≡ Ok r → (other : Scope) × (stated s w t ≡ Ok other) × (fewer_in_body s t ≡ fewer_in s t)
body_is s w (plain.Block ss) r h e =
    let k = block_tree s (entered s) w ss r (sees_entered s) h e in
    (s, ap (λ q. after {A = Scope} {B = Scope} q (λ _. Ok s)) k.1, ap plain.Block (sym k.2))
body_is s w t r h e = (r, e, refl)

pub definitions_stay_limited : DefinitionsStayLimited
definitions_stay_limited test f g k l =
    let b = body_is f.scope k.around f.body k.behind k.short k.typed in
    let named : StmtHas (EachName (λ name. test name ≡ true)) AnyDeclaration (fewer_in f.scope f.body) = subst (λ t. StmtHas (EachName (λ name. test name ≡ true)) AnyDeclaration t) b.2 k.passes in
    let m = stays test f.body f.scope k.scope k.around b.0 k.stand k.short named b.1 l in
    subst (λ (z : Definition). StmtIsLimited z.scope z.body) (sym k.is) (subst (λ t. StmtIsLimited k.scope t) (sym b.2) m)
