-- Names of typed bodies with fewer operators, by the kinds that occur in these.
use Rattle.std.proofs.Common.{◌≡◌, ℕ, ◌+◌, ◌<◌, List, [], ◌∷◌, ◌++◌, Option, Some, None, Bool, true, false, refl, sym, ap, ◌∙◌, subst, cond}
use Rattle.std.specs.Prelude.{not, Ok, Err}
use Rattle.std.specs.Option.{option_map, option_map_or}
use Rattle.std.specs.List.{list_any}
use Rattle.std.specs.Str.{bytes_eq}
use Rattle.std.proofs.lemmas.Slice.Eq.{bytes_eq-Decides}
use Rattle.c_syntax.specs.Plain as plain
use Rattle.c_syntax.specs.Plain.{CExpr, CValue, CValues, CDecl, CStmt, CStmts, CParts}
use Rattle.c_types.specs.declared.fault.TypeFault.{TypeFault}
use Rattle.c_types.specs.declared.fault.TypeFault.TheVariants as fault
use Rattle.c_types.specs.Types.{CType}
use Rattle.c_types.specs.Refusals.{Judged, Rule, after, both, all_three, broken, keeping}
use Rattle.c_types.specs.Scope.{Scope, Object, entity_of, entered, with_name, is_declared_here}
use Rattle.c_types.specs.Operands.{Operand}
use Rattle.c_types.specs.Expressions.{judged}
use Rattle.c_types.specs.Declarations.{Site, Slots, first_slot, next_slots, slots_of, object_rules, site_rules, braces_rules, fitting, all_fitting, first_fitting, declared_type, declared_object, declared, scope_or}
use Rattle.c_types.specs.Statements.{Around, in_loop, in_switch, condition_rules, test_rules, return_rules, switch_rules, maybe_judged, CaseLabel, PartJudged, part_scope_or, stated, all_stated, part_judged, all_parts}
use Rattle.c_types.specs.Units.{body_judged}
use Rattle.c_types.specs.Census.{value_sum, values_sum, first_sum, scope_behind, scope_behind_all, stmt_sum, stmts_sum, parts_sum, body_sum, maybe_sum}
use Rattle.c_types.specs.Room.{Kind}
use Rattle.c_fewer_types.specs.Written.{StringsAreShort}
use Rattle.c_helpers.specs.Laws.{is_strange}
use Rattle.c_helpers.specs.Names.{names_in, maybe_names, value_names, values_names, first_names, stmt_names, stmts_names, parts_names}
use Rattle.c_helpers.specs.Fewer.{fewer, maybe_fewer, with_values, with_all_values, fewer_in, fewer_in_all, fewer_in_parts, fewer_in_body}
use Rattle.c_fewer_types.proofs.Judged.{keeping_is}
use Rattle.c_fewer_types.specs.Standing.{IsTextName, ValueHas, ValuesHave, FirstHas, MaybeHas, StmtHas, StmtsHave, PartsHave, IsDeclaration}
use Rattle.c_fewer_types.proofs.FewerTypedRules.{after_is, both_is, three_is}
use Rattle.c_fewer_types.proofs.Behind.{stated_behind}
use Rattle.c_worlds.specs.Named.{Each}
use Rattle.c_fewer_names.proofs.Expressions.{each_both}
use Rattle.c_fewer_names.specs.FewerKnownLaws.{NamesAreOfText}
use Rattle.c_compiled.specs.HelperCostsLaws.{uses, is_called, BodiesCallByKinds}
use Rattle.c_compiled.proofs.HelperCostsExpressions.{MaybeJudged, front, last, MaybeTells, expr_called, maybe_called}

abbrev Short : CStmt → Type 0
Short t = StmtHas StringsAreShort IsDeclaration t

-- ---- scopes

in_block : (s : Scope) → NamesAreOfText s → NamesAreOfText (entered s)
in_block s a name x e = a name x e

pub behind_name : (s : Scope) (n : List ℕ) (t : CType) → IsTextName n → NamesAreOfText s → NamesAreOfText (with_name s n (Object t))
behind_name s n t text a name x e = go (bytes_eq name n) refl e
  where
    go : (b : Bool) → bytes_eq name n ≡ b → cond b (Some (Object t)) (entity_of s name) ≡ Some x → IsTextName name
    go true k e = ap (λ z. list_any is_strange z) ((bytes_eq-Decides name n).0 k) ∙ text
    go false k e = a name x e

behind_local : (s : Scope) (d : CDecl) → IsTextName d.name → NamesAreOfText s → NamesAreOfText (scope_behind s (plain.Local d))
behind_local s d text a = of_type (declared_type s d)
  where
    of_rule : (o : Option TypeFault) (t : CType) → NamesAreOfText (scope_or s (option_map_or (λ e. Err e) o (Ok (with_name s d.name (Object t)))))
    of_rule None t = behind_name s d.name t text a
    of_rule (Some f) t = a

    of_first : (r : Judged (Unit {0})) (rules : List Rule) (t : CType) → NamesAreOfText (scope_or s (after r (λ _. keeping rules (with_name s d.name (Object t)))))
    of_first (Ok u) rules t = of_rule (broken rules) t
    of_first (Err f) rules t = a

    of_type : (r : Judged CType) → NamesAreOfText (scope_or s (after r (λ t. declared_object s false d t)))
    of_type (Ok t) = of_first (first_fitting (with_name s d.name (Object t)) (record { file = false; pos = d.pos }) t d.first) ((not (is_declared_here s d.name), fault.Twice d.pos) ∷ []) t
    of_type (Err f) = a

behind_stmt : (s : Scope) (t : CStmt) → Short t → NamesAreOfText s → NamesAreOfText (scope_behind s t)
behind_stmt s (plain.Local d) h a = behind_local s d h.0.0 a
behind_stmt s t h a = a

behind_all : (s : Scope) (ss : CStmts) → StmtsHave StringsAreShort IsDeclaration ss → NamesAreOfText s → NamesAreOfText (scope_behind_all s ss)
behind_all s plain.NoStmt h a = a
behind_all s (plain.MoreStmt t ts) h a = behind_all (scope_behind s t) ts h.1 (behind_stmt s t h.0 a)

all_stated_behind : (ss : CStmts) (s : Scope) (w : Around) (r : Scope) → all_stated s w ss ≡ Ok r → scope_behind_all s ss ≡ r
all_stated_behind plain.NoStmt s w r e = cc e
all_stated_behind (plain.MoreStmt t ts) s w r e =
    let l = both_is (stated s w t) (all_stated (scope_or s (stated s w t)) w ts) (λ _ inner. Ok inner) r e in
    let inner : all_stated (scope_behind s t) w ts ≡ Ok l.1.0 = subst (λ z. all_stated z w ts ≡ Ok l.1.0) (ap (λ q. scope_or s q) l.1.1 ∙ sym (stated_behind s w t l.0 l.1.1)) l.1.2 in
    let same : l.1.0 ≡ r = cc l.1.3 in
    all_stated_behind ts (scope_behind s t) w l.1.0 inner ∙ same

maybe_is : (s : Scope) (o : Option CExpr) (q : Option Operand) → maybe_judged s o ≡ Ok q → MaybeJudged s o
maybe_is s None q e = tt
maybe_is s (Some x) q e = let l = after_is (judged s x) (λ y. Ok (Some y)) q e in (l.0, l.1)

label_same : (s : Scope) (at : ℕ) (r : Judged (Option Operand)) → part_scope_or s (after r (λ a. Ok (record { scope = s; labels = record { pos = at; value = a } ∷ [] }))) ≡ s
label_same s at (Ok o) = refl
label_same s at (Err e) = refl

item_same : (s : Scope) (r : Judged Scope) (inner : Scope) → r ≡ Ok inner → part_scope_or s (after r (λ inner. Ok (record { scope = inner; labels = [] }))) ≡ inner
item_same s r inner e = ap (λ q. part_scope_or s (after q (λ inner. Ok (record { scope = inner; labels = [] })))) e

abbrev PartsAreJudged : Scope → Around → CParts → Type 0
PartsAreJudged s w ps = (labels : List CaseLabel) × (all_parts s w ps ≡ Ok labels)

module _ (occurs : Kind → Bool) where
  abbrev C : List ℕ → Type 0
  C name = is_called occurs name ≡ true

  -- where a sum counts something, the kind occurs
  abbrev Tell : (Kind → ℕ) → Type 0
  Tell count = (k : Kind) → 0 < count k → occurs k ≡ true

  -- ---- first values

  module _ (s : Scope) (a : NamesAreOfText s) (site : Site) where
    mutual
      value_called : (t : Option CType) (v : CValue) → ValueHas StringsAreShort v → (u : Unit {0}) → fitting s site t v ≡ Ok u → Tell (λ k. value_sum (uses k) s v) → Each C (value_names (with_values (fewer s) v))
      value_called t (plain.One e) h u k g = let l = after_is (judged s e) (λ x. keeping (object_rules t e x ++ site_rules site.file e x) tt) u k in expr_called occurs s a e h l.0 l.1 (λ i m. g i (last _ _ m))
      value_called t (plain.Many vs) h u k g = let l = after_is (all_fitting s site (slots_of s.tags t) vs) (λ _. keeping (braces_rules site.pos (slots_of s.tags t) vs) tt) u k in values_called (slots_of s.tags t) vs h l.0 l.1 (λ i m. g i (last _ _ m))

      values_called : (slots : Slots) (vs : CValues) → ValuesHave StringsAreShort vs → (u : Unit {0}) → all_fitting s site slots vs ≡ Ok u → Tell (λ k. values_sum (uses k) s vs) → Each C (values_names (with_all_values (fewer s) vs))
      values_called slots plain.NoValue h u k g = tt
      values_called slots (plain.MoreValue v vs) h u k g =
          let l = both_is (fitting s site (first_slot slots) v) (all_fitting s site (next_slots slots) vs) (λ _ _. Ok tt) u k in
          each_both C (value_names (with_values (fewer s) v)) (values_names (with_all_values (fewer s) vs)) (value_called (first_slot slots) v h.0 l.0 l.1.1 (λ i m. g i (front _ _ m))) (values_called (next_slots slots) vs h.1 l.1.0 l.1.2 (λ i m. g i (last _ _ m)))

    first_called : (t : CType) (o : Option CValue) → FirstHas StringsAreShort o → (u : Unit {0}) → first_fitting s site t o ≡ Ok u → Tell (λ k. first_sum (uses k) s o) → Each C (first_names (option_map (with_values (fewer s)) o))
    first_called t None h u k g = tt
    first_called t (Some v) h u k g = value_called (Some t) v h u k g

  local_called : (s : Scope) (d : CDecl) (r : Scope) → NamesAreOfText s → IsTextName d.name → FirstHas StringsAreShort d.first → declared s false d ≡ Ok r → Tell (λ k. first_sum (uses k) (scope_or s (declared s false d)) d.first)
      → Each C (first_names (option_map (with_values (fewer (scope_or s (declared s false d)))) d.first))
  local_called s d r a text h e g =
      let k = after_is (declared_type s d) (λ t. declared_object s false d t) r e in
      let inner : Scope = with_name s d.name (Object k.0) in
      let site : Site = record { file = false; pos = d.pos } in
      let l = after_is (first_fitting inner site k.0 d.first) (λ _. keeping ((not (is_declared_here s d.name), fault.Twice d.pos) ∷ []) inner) r k.2 in
      let m = keeping_is {A = Scope} ((not (is_declared_here s d.name), fault.Twice d.pos) ∷ []) inner r l.2 in
      let there : scope_or s (declared s false d) ≡ inner = ap (λ q. scope_or s q) e ∙ sym m.1 in
      let f : Tell (λ k. first_sum (uses k) inner d.first) = subst (λ z. Tell (λ k. first_sum (uses k) z d.first)) there g in
      subst (λ z. Each C (first_names (option_map (with_values (fewer z)) d.first))) (sym there) (first_called inner (behind_name s d.name k.0 text a) site k.0 d.first h l.0 l.1 f)

  -- ---- statements

  abbrev AreCalledIn : CStmt → Type 0
  AreCalledIn t = (s : Scope) (w : Around) (r : Scope) → NamesAreOfText s → Short t → stated s w t ≡ Ok r → Tell (λ k. stmt_sum (uses k) s t) → Each C (stmt_names (fewer_in s t))

  abbrev AllCalledIn : CStmts → Type 0
  AllCalledIn ss = (s : Scope) (w : Around) (r : Scope) → NamesAreOfText s → StmtsHave StringsAreShort IsDeclaration ss → all_stated s w ss ≡ Ok r → Tell (λ k. stmts_sum (uses k) s ss) → Each C (stmts_names (fewer_in_all s ss))

  -- a `for`, in the scope behind its head
  for_parts : (s inner : Scope) (first : CStmt) (test step : Option CExpr) (t : CStmt) (q : Option Operand) → NamesAreOfText inner → MaybeHas StringsAreShort test → MaybeHas StringsAreShort step → both {C = Option Operand} (maybe_judged inner test) (maybe_judged inner step) (λ a _. Ok a) ≡ Ok q → MaybeTells occurs inner test → MaybeTells occurs inner step → Each C (stmt_names (fewer_in s first)) → Each C (stmt_names (fewer_in inner t))
      → Each C (stmt_names (fewer_in s first) ++ (maybe_names (maybe_fewer inner test) ++ (maybe_names (maybe_fewer inner step) ++ stmt_names (fewer_in inner t))))
  for_parts s inner first test step t q a ht hs e gt gs h k =
      let l = both_is {C = Option Operand} (maybe_judged inner test) (maybe_judged inner step) (λ a _. Ok a) q e in
      each_both C (stmt_names (fewer_in s first)) (maybe_names (maybe_fewer inner test) ++ (maybe_names (maybe_fewer inner step) ++ stmt_names (fewer_in inner t))) h
      (each_both C (maybe_names (maybe_fewer inner test)) (maybe_names (maybe_fewer inner step) ++ stmt_names (fewer_in inner t)) (maybe_called occurs inner a test ht (maybe_is inner test l.0 l.1.1) gt)
      (each_both C (maybe_names (maybe_fewer inner step)) (stmt_names (fewer_in inner t)) (maybe_called occurs inner a step hs (maybe_is inner step l.1.0 l.1.2) gs) k))

  block_for : (ss : CStmts) (test step : Option CExpr) (t : CStmt) → AllCalledIn ss → AreCalledIn t → AreCalledIn (plain.For (plain.Block ss) test step t)
  block_for ss test step t all body s w r a h e g =
      let head : Judged Scope = all_stated (entered s) w ss in
      let inner : Scope = scope_or s head in
      let k = three_is head (both (maybe_judged inner test) (maybe_judged inner step) (λ a _. Ok a)) (stated inner (in_loop w) t) (λ _ a _. keeping (test_rules a) s) r e in
      let behind : Scope = scope_behind_all (entered s) ss in
      let there : inner ≡ behind = ap (λ j. scope_or s j) k.1.1.1 ∙ sym (all_stated_behind ss (entered s) w k.0 k.1.1.1) in
      let b : NamesAreOfText behind = behind_all (entered s) ss h.1 (in_block s a) in
      for_parts s behind (plain.Block ss) test step t k.1.0 b h.2 h.3 (subst (λ z. both {C = Option Operand} (maybe_judged z test) (maybe_judged z step) (λ a _. Ok a) ≡ Ok k.1.0) there k.1.1.2)
      (λ i m. g i (front _ _ (front _ _ (last _ _ m)))) (λ i m. g i (front _ _ (last _ _ m))) (all (entered s) w k.0 (in_block s a) h.1 k.1.1.1 (λ i m. g i (front _ _ (front _ _ (front _ _ (last _ _ (last _ _ m)))))))
      (body behind (in_loop w) k.1.1.0 b h.4 (subst (λ z. stated z (in_loop w) t ≡ Ok k.1.1.0) there k.1.1.3) (λ i m. g i (last _ _ m)))

  other_for : (first : CStmt) (test step : Option CExpr) (t : CStmt) (s : Scope) (w : Around) (r : Scope) → AreCalledIn first → AreCalledIn t → NamesAreOfText s → Short first → MaybeHas StringsAreShort test → MaybeHas StringsAreShort step → Short t → all_three (stated s w first) (both (maybe_judged s test) (maybe_judged s step) (λ a _. Ok a)) (stated s (in_loop w) t) (λ _ a _. keeping (test_rules a) s) ≡ Ok r
      → Tell (λ k. 0 + stmt_sum (uses k) s first + maybe_sum (uses k) s test + maybe_sum (uses k) s step + stmt_sum (uses k) s t)
      → Each C (stmt_names (fewer_in s first) ++ (maybe_names (maybe_fewer s test) ++ (maybe_names (maybe_fewer s step) ++ stmt_names (fewer_in s t))))
  other_for first test step t s w r head body a hf hx hy ht e g =
      let k = three_is (stated s w first) (both (maybe_judged s test) (maybe_judged s step) (λ a _. Ok a)) (stated s (in_loop w) t) (λ _ a _. keeping (test_rules a) s) r e in
      for_parts s s first test step t k.1.0 a hx hy k.1.1.2 (λ i m. g i (front _ _ (front _ _ (last _ _ m)))) (λ i m. g i (front _ _ (last _ _ m)))
      (head s w k.0 a hf k.1.1.1 (λ i m. g i (front _ _ (front _ _ (front _ _ (last _ _ m)))))) (body s (in_loop w) k.1.1.0 a ht k.1.1.3 (λ i m. g i (last _ _ m)))

  abbrev Within : CStmt → Type 0
  Within (plain.Block ss) = AllCalledIn ss
  Within t = Unit {0}

  for_called : (first : CStmt) (test step : Option CExpr) (t : CStmt) → AreCalledIn first → Within first → AreCalledIn t → AreCalledIn (plain.For first test step t)
  for_called (plain.Block ss) test step t head all body s w r a h e g = block_for ss test step t all body s w r a h e g
  for_called (plain.Local d) test step t head all body s w r a h e g = absurd (cc h.0)
  for_called first test step t head all body s w r a h e g = other_for first test step t s w r head body a h.1 h.2 h.3 h.4 e g

  mutual
    stmt_called : (t : CStmt) → AreCalledIn t
    stmt_called (plain.Block ss) s w r a h e g = let k = after_is (all_stated (entered s) w ss) (λ _. Ok s) r e in all_called ss (entered s) w k.0 (in_block s a) h k.1 (λ i m. g i (last _ _ m))
    stmt_called (plain.Local d) s w r a h e g = local_called s d r a h.0.0 h.1 e (λ i m. g i (last _ _ (front _ _ (last _ _ m))))
    stmt_called (plain.Do_expr x) s w r a h e g = let k = after_is (judged s x) (λ _. Ok s) r e in expr_called occurs s a x h k.0 k.1 (λ i m. g i (last _ _ m))
    stmt_called plain.Empty s w r a h e g = tt
    stmt_called (plain.If x t) s w r a h e g =
        let k = both_is (judged s x) (stated s w t) (λ a _. keeping (condition_rules a) s) r e in
        each_both C (names_in (fewer s x)) (stmt_names (fewer_in s t)) (expr_called occurs s a x h.0 k.0 k.1.1 (λ i m. g i (front _ _ (last _ _ m)))) (stmt_called t s w k.1.0 a h.1 k.1.2 (λ i m. g i (last _ _ m)))
    stmt_called (plain.IfElse x t u) s w r a h e g =
        let k = three_is (judged s x) (stated s w t) (stated s w u) (λ a _ _. keeping (condition_rules a) s) r e in
        each_both C (names_in (fewer s x)) (stmt_names (fewer_in s t) ++ stmt_names (fewer_in s u)) (expr_called occurs s a x h.0 k.0 k.1.1.1 (λ i m. g i (front _ _ (front _ _ (last _ _ m)))))
        (each_both C (stmt_names (fewer_in s t)) (stmt_names (fewer_in s u)) (stmt_called t s w k.1.0 a h.1 k.1.1.2 (λ i m. g i (front _ _ (last _ _ m)))) (stmt_called u s w k.1.1.0 a h.2 k.1.1.3 (λ i m. g i (last _ _ m))))
    stmt_called (plain.While x t) s w r a h e g =
        let k = both_is (judged s x) (stated s (in_loop w) t) (λ a _. keeping (condition_rules a) s) r e in
        each_both C (names_in (fewer s x)) (stmt_names (fewer_in s t)) (expr_called occurs s a x h.0 k.0 k.1.1 (λ i m. g i (front _ _ (last _ _ m)))) (stmt_called t s (in_loop w) k.1.0 a h.1 k.1.2 (λ i m. g i (last _ _ m)))
    stmt_called (plain.Do t x) s w r a h e g =
        let k = both_is (judged s x) (stated s (in_loop w) t) (λ a _. keeping (condition_rules a) s) r e in
        each_both C (stmt_names (fewer_in s t)) (names_in (fewer s x)) (stmt_called t s (in_loop w) k.1.0 a h.1 k.1.2 (λ i m. g i (front _ _ (last _ _ m)))) (expr_called occurs s a x h.0 k.0 k.1.1 (λ i m. g i (last _ _ m)))
    stmt_called (plain.For first test step t) s w r a h e g = for_called first test step t (λ s w r a h e g. stmt_called first s w r a h e g) (within first) (λ s w r a h e g. stmt_called t s w r a h e g) s w r a h e g
    stmt_called (plain.Return at x) s w r a h e g = let k = after_is (maybe_judged s x) (λ o. keeping (return_rules at w.result o) s) r e in maybe_called occurs s a x h (maybe_is s x k.0 k.1) (λ i m. g i (last _ _ m))
    stmt_called (plain.Break at) s w r a h e g = tt
    stmt_called (plain.Continue at) s w r a h e g = tt
    stmt_called (plain.Switch x ps) s w r a h e g =
        let k = both_is (judged s x) (all_parts (entered s) (in_switch w) ps) (λ a labels. keeping (switch_rules a labels) s) r e in
        each_both C (names_in (fewer s x)) (parts_names (fewer_in_parts (entered s) ps)) (expr_called occurs s a x h.0 k.0 k.1.1 (λ i m. g i (front _ _ (last _ _ m)))) (parts_called ps (entered s) (in_switch w) (in_block s a) h.1 (k.1.0, k.1.2) (λ i m. g i (last _ _ m)))

    within : (t : CStmt) → Within t
    within (plain.Block ss) = λ s w r a h e g. all_called ss s w r a h e g
    within t = tt

    all_called : (ss : CStmts) → AllCalledIn ss
    all_called plain.NoStmt s w r a h e g = tt
    all_called (plain.MoreStmt t ts) s w r a h e g =
        let k = both_is (stated s w t) (all_stated (scope_or s (stated s w t)) w ts) (λ _ inner. Ok inner) r e in
        let inner : all_stated (scope_behind s t) w ts ≡ Ok k.1.0 = subst (λ z. all_stated z w ts ≡ Ok k.1.0) (ap (λ q. scope_or s q) k.1.1 ∙ sym (stated_behind s w t k.0 k.1.1)) k.1.2 in
        each_both C (stmt_names (fewer_in s t)) (stmts_names (fewer_in_all (scope_behind s t) ts)) (stmt_called t s w k.0 a h.0 k.1.1 (λ i m. g i (front _ _ m))) (all_called ts (scope_behind s t) w k.1.0 (behind_stmt s t h.0 a) h.1 inner (λ i m. g i (last _ _ m)))

    parts_called : (ps : CParts) (s : Scope) (w : Around) → NamesAreOfText s → PartsHave StringsAreShort IsDeclaration ps → PartsAreJudged s w ps → Tell (λ k. parts_sum (uses k) s ps) → Each C (parts_names (fewer_in_parts s ps))
    parts_called plain.NoPart s w a h e g = tt
    parts_called (plain.MorePart (plain.Label at x) ps) s w a h e g =
        let k = both_is (part_judged s w (plain.Label at x)) (all_parts (part_scope_or s (part_judged s w (plain.Label at x))) w ps) (λ (part : PartJudged) labels. Ok (part.labels ++ labels)) e.0 e.1 in
        parts_called ps s w a h.1 (k.1.0, subst (λ y. all_parts y w ps ≡ Ok k.1.0) (label_same s at (maybe_judged s x)) k.1.2) (λ i m. g i (last _ _ m))
    parts_called (plain.MorePart (plain.Item t) ps) s w a h e g =
        let k = both_is (part_judged s w (plain.Item t)) (all_parts (part_scope_or s (part_judged s w (plain.Item t))) w ps) (λ (part : PartJudged) labels. Ok (part.labels ++ labels)) e.0 e.1 in
        let m = after_is (stated s w t) (λ inner. Ok (record { scope = inner; labels = [] })) k.0 k.1.1 in
        let goes : part_scope_or s (part_judged s w (plain.Item t)) ≡ scope_behind s t = item_same s (stated s w t) m.0 m.1 ∙ sym (stated_behind s w t m.0 m.1) in
        each_both C (stmt_names (fewer_in s t)) (parts_names (fewer_in_parts (scope_behind s t) ps)) (stmt_called t s w m.0 a h.0 m.1 (λ i n. g i (front _ _ (last _ _ n))))
        (parts_called ps (scope_behind s t) w (behind_stmt s t h.0 a) h.1 (k.1.0, subst (λ y. all_parts y w ps ≡ Ok k.1.0) goes k.1.2) (λ i n. g i (last _ _ n)))

  body_called : (body : CStmt) (s : Scope) (w : Around) (r : Scope) → NamesAreOfText s → Short body → body_judged s w (Some body) ≡ Ok r → Tell (λ k. body_sum (uses k) s body) → Each C (stmt_names (fewer_in_body s body))
  body_called (plain.Block ss) s w r a h e g = all_called ss s w r a h e (λ i m. g i (last _ _ m))
  body_called t s w r a h e g = stmt_called t s w r a h e g

pub bodies_call_by_kinds : BodiesCallByKinds
bodies_call_by_kinds occurs s w body r a h e g = body_called occurs body s w r a h e g
