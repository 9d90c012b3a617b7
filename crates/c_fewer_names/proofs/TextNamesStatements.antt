-- The names in typed bodies are names of a text.
use Rattle.std.proofs.Common.{◌≡◌, ℕ, List, [], ◌∷◌, ◌++◌, Option, Some, None, Bool, true, false, nat_le, length, drop, take, take-append-drop, ◌≤◌, ◌<◌, ◌^◌, refl, sym, ap, ◌∙◌, subst, cond, arith}
use Rattle.std.specs.Prelude.{◌==◌, not, is_some, Ok, Err, codes, if◌then◌else◌}
use Rattle.std.specs.Option.{option_map, option_map_or}
use Rattle.std.specs.List.{list_any}
use Rattle.std.specs.Str.{bytes_eq}
use Rattle.std.proofs.lemmas.Bool.{and_parts, leb-true}
use Rattle.std.proofs.lemmas.Slice.Eq.{bytes_eq-Decides}
use Rattle.c_syntax.specs.Plain as plain
use Rattle.c_syntax.specs.Plain.{CExpr, CValue, CValues, CDecl, CStmt, CStmts, CParts}
use Rattle.c_types.specs.declared.fault.TypeFault.{TypeFault}
use Rattle.c_types.specs.declared.fault.TypeFault.TheVariants as fault
use Rattle.c_types.specs.Types.{CType}
use Rattle.c_types.specs.Refusals.{Judged, Rule, after, both, all_three, broken, keeping}
use Rattle.c_types.specs.Scope.{Scope, Object, entity_of, entered, with_name, is_declared_here}
use Rattle.c_types.specs.Operands.{Operand, conversions_behind, conversions_of}
use Rattle.c_types.specs.Expressions.{judged}
use Rattle.c_types.specs.Declarations.{Site, Slots, first_slot, next_slots, slots_of, object_rules, site_rules, braces_rules, fitting, all_fitting, first_fitting, declared_type, declared_object, declared, scope_or}
use Rattle.c_types.specs.Statements.{Around, in_loop, in_switch, condition_rules, test_rules, return_rules, switch_rules, maybe_judged, CaseLabel, PartJudged, part_scope_or, stated, all_stated, part_judged, all_parts}
use Rattle.c_types.specs.Units.{body_judged}
use Rattle.c_types.specs.Census.{scope_behind, scope_behind_all}
use Rattle.c_fewer_types.specs.Written.{StringsAreShort}
use Rattle.c_helpers.specs.Laws.{is_strange}
use Rattle.c_helpers.specs.Names.{names_in, maybe_names, value_names, values_names, first_names, stmt_names, stmts_names, parts_names}
use Rattle.c_fewer_types.proofs.Judged.{keeping_is}
use Rattle.c_fewer_types.specs.Standing.{IsTextName, ValueHas, ValuesHave, FirstHas, MaybeHas, StmtHas, StmtsHave, PartsHave, IsDeclaration}
use Rattle.c_fewer_types.proofs.FewerTypedRules.{after_is, both_is, three_is}
use Rattle.c_fewer_types.proofs.Behind.{stated_behind}
use Rattle.c_worlds.specs.Named.{Each}
use Rattle.c_fewer_names.proofs.Expressions.{each_both}
use Rattle.c_fewer_names.specs.FewerKnownLaws.{NamesAreOfText}
use Rattle.c_fewer_names.specs.TextNamesLaws.{TypedBodiesNameText}
use Rattle.c_fewer_names.proofs.TextNamesExpressions.{T, MaybeJudged, expr_text, maybe_text}

abbrev Short : CStmt → Type 0
Short t = StmtHas StringsAreShort IsDeclaration t

-- ---- scopes

in_block : (s : Scope) → NamesAreOfText s → NamesAreOfText (entered s)
in_block s a name x e = a name x e

behind_name : (s : Scope) (n : List ℕ) (t : CType) → IsTextName n → NamesAreOfText s → NamesAreOfText (with_name s n (Object t))
behind_name s n t text a name x e = go (bytes_eq name n) refl e
  where
    go : (b : Bool) → bytes_eq name n ≡ b → cond b (Some (Object t)) (entity_of s name) ≡ Some x → IsTextName name
    go true k e = ap (λ z. list_any is_strange z) ((bytes_eq-Decides name n).0 k) ∙ text
    go false k e = a name x e

behind_local : (s : Scope) (d : CDecl) → IsTextName d.name → NamesAreOfText s → NamesAreOfText (scope_behind s (plain.Local d))
behind_local s d text a = of_type (declared_type s d)
  where
    of_rule : (o : Option TypeFault) (t : CType) → NamesAreOfText (scope_or s (option_map_or (λ e. Err e) o (Ok (with_name s d.name (Object t)))))
    of_rule None t = behind_name s d.name t text a
    of_rule (Some f) t = a

    of_first : (r : Judged (Unit {0})) (rules : List Rule) (t : CType) → NamesAreOfText (scope_or s (after r (λ _. keeping rules (with_name s d.name (Object t)))))
    of_first (Ok u) rules t = of_rule (broken rules) t
    of_first (Err f) rules t = a

    of_type : (r : Judged CType) → NamesAreOfText (scope_or s (after r (λ t. declared_object s false d t)))
    of_type (Ok t) = of_first (first_fitting (with_name s d.name (Object t)) (record { file = false; pos = d.pos }) t d.first) ((not (is_declared_here s d.name), fault.Twice d.pos) ∷ []) t
    of_type (Err f) = a

behind_stmt : (s : Scope) (t : CStmt) → Short t → NamesAreOfText s → NamesAreOfText (scope_behind s t)
behind_stmt s (plain.Local d) h a = behind_local s d h.0.0 a
behind_stmt s t h a = a

behind_all : (s : Scope) (ss : CStmts) → StmtsHave StringsAreShort IsDeclaration ss → NamesAreOfText s → NamesAreOfText (scope_behind_all s ss)
behind_all s plain.NoStmt h a = a
behind_all s (plain.MoreStmt t ts) h a = behind_all (scope_behind s t) ts h.1 (behind_stmt s t h.0 a)

all_stated_behind : (ss : CStmts) (s : Scope) (w : Around) (r : Scope) → all_stated s w ss ≡ Ok r → scope_behind_all s ss ≡ r
all_stated_behind plain.NoStmt s w r e = cc e
all_stated_behind (plain.MoreStmt t ts) s w r e =
    let l = both_is (stated s w t) (all_stated (scope_or s (stated s w t)) w ts) (λ _ inner. Ok inner) r e in
    let inner : all_stated (scope_behind s t) w ts ≡ Ok l.1.0 = subst (λ z. all_stated z w ts ≡ Ok l.1.0) (ap (λ q. scope_or s q) l.1.1 ∙ sym (stated_behind s w t l.0 l.1.1)) l.1.2 in
    let same : l.1.0 ≡ r = cc l.1.3 in
    all_stated_behind ts (scope_behind s t) w l.1.0 inner ∙ same

-- ---- first values

module _ (s : Scope) (a : NamesAreOfText s) (site : Site) where
  mutual
    value_text : (t : Option CType) (v : CValue) → ValueHas StringsAreShort v → (u : Unit {0}) → fitting s site t v ≡ Ok u → Each T (value_names v)
    value_text t (plain.One e) h u k = let l = after_is (judged s e) (λ x. keeping (object_rules t e x ++ site_rules site.file e x) tt) u k in expr_text s a e h l.0 l.1
    value_text t (plain.Many vs) h u k = let l = after_is (all_fitting s site (slots_of s.tags t) vs) (λ _. keeping (braces_rules site.pos (slots_of s.tags t) vs) tt) u k in values_text (slots_of s.tags t) vs h l.0 l.1

    values_text : (slots : Slots) (vs : CValues) → ValuesHave StringsAreShort vs → (u : Unit {0}) → all_fitting s site slots vs ≡ Ok u → Each T (values_names vs)
    values_text slots plain.NoValue h u k = tt
    values_text slots (plain.MoreValue v vs) h u k =
        let l = both_is (fitting s site (first_slot slots) v) (all_fitting s site (next_slots slots) vs) (λ _ _. Ok tt) u k in
        each_both T (value_names v) (values_names vs) (value_text (first_slot slots) v h.0 l.0 l.1.1) (values_text (next_slots slots) vs h.1 l.1.0 l.1.2)

  first_text : (t : CType) (o : Option CValue) → FirstHas StringsAreShort o → (u : Unit {0}) → first_fitting s site t o ≡ Ok u → Each T (first_names o)
  first_text t None h u k = tt
  first_text t (Some v) h u k = value_text (Some t) v h u k

local_text : (s : Scope) (d : CDecl) (r : Scope) → NamesAreOfText s → IsTextName d.name → FirstHas StringsAreShort d.first → declared s false d ≡ Ok r → Each T (first_names d.first)
local_text s d r a text h e =
    let k = after_is (declared_type s d) (λ t. declared_object s false d t) r e in
    let inner : Scope = with_name s d.name (Object k.0) in
    let site : Site = record { file = false; pos = d.pos } in
    let l = after_is (first_fitting inner site k.0 d.first) (λ _. keeping ((not (is_declared_here s d.name), fault.Twice d.pos) ∷ []) inner) r k.2 in
    first_text inner (behind_name s d.name k.0 text a) site k.0 d.first h l.0 l.1

-- ---- statements

maybe_is : (s : Scope) (o : Option CExpr) (q : Option Operand) → maybe_judged s o ≡ Ok q → MaybeJudged s o
maybe_is s None q e = tt
maybe_is s (Some x) q e = let l = after_is (judged s x) (λ y. Ok (Some y)) q e in (l.0, l.1)

abbrev AreOfTextIn : CStmt → Type 0
AreOfTextIn t = (s : Scope) (w : Around) (r : Scope) → NamesAreOfText s → Short t → stated s w t ≡ Ok r → Each T (stmt_names t)

abbrev AllOfTextIn : CStmts → Type 0
AllOfTextIn ss = (s : Scope) (w : Around) (r : Scope) → NamesAreOfText s → StmtsHave StringsAreShort IsDeclaration ss → all_stated s w ss ≡ Ok r → Each T (stmts_names ss)

-- a `for`, in the scope behind its head
for_parts : (s inner : Scope) (first : CStmt) (test step : Option CExpr) (t : CStmt) (q : Option Operand) → NamesAreOfText inner → MaybeHas StringsAreShort test → MaybeHas StringsAreShort step → both {C = Option Operand} (maybe_judged inner test) (maybe_judged inner step) (λ a _. Ok a) ≡ Ok q → Each T (stmt_names first) → Each T (stmt_names t)
    → Each T (stmt_names first ++ (maybe_names test ++ (maybe_names step ++ stmt_names t)))
for_parts s inner first test step t q a ht hs e h k =
    let l = both_is {C = Option Operand} (maybe_judged inner test) (maybe_judged inner step) (λ a _. Ok a) q e in
    each_both T (stmt_names first) (maybe_names test ++ (maybe_names step ++ stmt_names t)) h
    (each_both T (maybe_names test) (maybe_names step ++ stmt_names t) (maybe_text inner a test ht (maybe_is inner test l.0 l.1.1))
    (each_both T (maybe_names step) (stmt_names t) (maybe_text inner a step hs (maybe_is inner step l.1.0 l.1.2)) k))

block_for : (ss : CStmts) (test step : Option CExpr) (t : CStmt) → AllOfTextIn ss → AreOfTextIn t → AreOfTextIn (plain.For (plain.Block ss) test step t)
block_for ss test step t all body s w r a h e =
    let head : Judged Scope = all_stated (entered s) w ss in
    let inner : Scope = scope_or s head in
    let k = three_is head (both (maybe_judged inner test) (maybe_judged inner step) (λ a _. Ok a)) (stated inner (in_loop w) t) (λ _ a _. keeping (test_rules a) s) r e in
    let behind : Scope = scope_behind_all (entered s) ss in
    let there : inner ≡ behind = ap (λ j. scope_or s j) k.1.1.1 ∙ sym (all_stated_behind ss (entered s) w k.0 k.1.1.1) in
    let b : NamesAreOfText behind = behind_all (entered s) ss h.1 (in_block s a) in
    for_parts s behind (plain.Block ss) test step t k.1.0 b h.2 h.3 (subst (λ z. both {C = Option Operand} (maybe_judged z test) (maybe_judged z step) (λ a _. Ok a) ≡ Ok k.1.0) there k.1.1.2) (all (entered s) w k.0 (in_block s a) h.1 k.1.1.1)
    (body behind (in_loop w) k.1.1.0 b h.4 (subst (λ z. stated z (in_loop w) t ≡ Ok k.1.1.0) there k.1.1.3))

other_for : (first : CStmt) (test step : Option CExpr) (t : CStmt) (s : Scope) (w : Around) (r : Scope) → AreOfTextIn first → AreOfTextIn t → NamesAreOfText s → Short first → MaybeHas StringsAreShort test → MaybeHas StringsAreShort step → Short t → all_three (stated s w first) (both (maybe_judged s test) (maybe_judged s step) (λ a _. Ok a)) (stated s (in_loop w) t) (λ _ a _. keeping (test_rules a) s) ≡ Ok r
    → Each T (stmt_names first ++ (maybe_names test ++ (maybe_names step ++ stmt_names t)))
other_for first test step t s w r head body a hf hx hy ht e =
    let k = three_is (stated s w first) (both (maybe_judged s test) (maybe_judged s step) (λ a _. Ok a)) (stated s (in_loop w) t) (λ _ a _. keeping (test_rules a) s) r e in
    for_parts s s first test step t k.1.0 a hx hy k.1.1.2 (head s w k.0 a hf k.1.1.1) (body s (in_loop w) k.1.1.0 a ht k.1.1.3)

abbrev Within : CStmt → Type 0
Within (plain.Block ss) = AllOfTextIn ss
Within t = Unit {0}

for_text : (first : CStmt) (test step : Option CExpr) (t : CStmt) → AreOfTextIn first → Within first → AreOfTextIn t → AreOfTextIn (plain.For first test step t)
for_text (plain.Block ss) test step t head all body s w r a h e = block_for ss test step t all body s w r a h e
for_text (plain.Local d) test step t head all body s w r a h e = absurd (cc h.0)
for_text first test step t head all body s w r a h e = other_for first test step t s w r head body a h.1 h.2 h.3 h.4 e

label_same : (s : Scope) (at : ℕ) (r : Judged (Option Operand)) → part_scope_or s (after r (λ a. Ok (record { scope = s; labels = record { pos = at; value = a } ∷ [] }))) ≡ s
label_same s at (Ok o) = refl
label_same s at (Err e) = refl

item_same : (s : Scope) (r : Judged Scope) (inner : Scope) → r ≡ Ok inner → part_scope_or s (after r (λ inner. Ok (record { scope = inner; labels = [] }))) ≡ inner
item_same s r inner e = ap (λ q. part_scope_or s (after q (λ inner. Ok (record { scope = inner; labels = [] })))) e

abbrev PartsAreJudged : Scope → Around → CParts → Type 0
PartsAreJudged s w ps = (labels : List CaseLabel) × (all_parts s w ps ≡ Ok labels)

mutual
  stmt_text : (t : CStmt) → AreOfTextIn t
  stmt_text (plain.Block ss) s w r a h e = let k = after_is (all_stated (entered s) w ss) (λ _. Ok s) r e in all_text ss (entered s) w k.0 (in_block s a) h k.1
  stmt_text (plain.Local d) s w r a h e = local_text s d r a h.0.0 h.1 e
  stmt_text (plain.Do_expr x) s w r a h e = let k = after_is (judged s x) (λ _. Ok s) r e in expr_text s a x h k.0 k.1
  stmt_text plain.Empty s w r a h e = tt
  stmt_text (plain.If x t) s w r a h e =
      let k = both_is (judged s x) (stated s w t) (λ a _. keeping (condition_rules a) s) r e in
      each_both T (names_in x) (stmt_names t) (expr_text s a x h.0 k.0 k.1.1) (stmt_text t s w k.1.0 a h.1 k.1.2)
  stmt_text (plain.IfElse x t u) s w r a h e =
      let k = three_is (judged s x) (stated s w t) (stated s w u) (λ a _ _. keeping (condition_rules a) s) r e in
      each_both T (names_in x) (stmt_names t ++ stmt_names u) (expr_text s a x h.0 k.0 k.1.1.1)
      (each_both T (stmt_names t) (stmt_names u) (stmt_text t s w k.1.0 a h.1 k.1.1.2) (stmt_text u s w k.1.1.0 a h.2 k.1.1.3))
  stmt_text (plain.While x t) s w r a h e =
      let k = both_is (judged s x) (stated s (in_loop w) t) (λ a _. keeping (condition_rules a) s) r e in
      each_both T (names_in x) (stmt_names t) (expr_text s a x h.0 k.0 k.1.1) (stmt_text t s (in_loop w) k.1.0 a h.1 k.1.2)
  stmt_text (plain.Do t x) s w r a h e =
      let k = both_is (judged s x) (stated s (in_loop w) t) (λ a _. keeping (condition_rules a) s) r e in
      each_both T (stmt_names t) (names_in x) (stmt_text t s (in_loop w) k.1.0 a h.1 k.1.2) (expr_text s a x h.0 k.0 k.1.1)
  stmt_text (plain.For first test step t) s w r a h e = for_text first test step t (λ s w r a h e. stmt_text first s w r a h e) (within first) (λ s w r a h e. stmt_text t s w r a h e) s w r a h e
  stmt_text (plain.Return at x) s w r a h e = let k = after_is (maybe_judged s x) (λ o. keeping (return_rules at w.result o) s) r e in maybe_text s a x h (maybe_is s x k.0 k.1)
  stmt_text (plain.Break at) s w r a h e = tt
  stmt_text (plain.Continue at) s w r a h e = tt
  stmt_text (plain.Switch x ps) s w r a h e =
      let k = both_is (judged s x) (all_parts (entered s) (in_switch w) ps) (λ a labels. keeping (switch_rules a labels) s) r e in
      each_both T (names_in x) (parts_names ps) (expr_text s a x h.0 k.0 k.1.1) (parts_text ps (entered s) (in_switch w) (in_block s a) h.1 (k.1.0, k.1.2))

  within : (t : CStmt) → Within t
  within (plain.Block ss) = λ s w r a h e. all_text ss s w r a h e
  within t = tt

  all_text : (ss : CStmts) → AllOfTextIn ss
  all_text plain.NoStmt s w r a h e = tt
  all_text (plain.MoreStmt t ts) s w r a h e =
      let k = both_is (stated s w t) (all_stated (scope_or s (stated s w t)) w ts) (λ _ inner. Ok inner) r e in
      let inner : all_stated (scope_behind s t) w ts ≡ Ok k.1.0 = subst (λ z. all_stated z w ts ≡ Ok k.1.0) (ap (λ q. scope_or s q) k.1.1 ∙ sym (stated_behind s w t k.0 k.1.1)) k.1.2 in
      each_both T (stmt_names t) (stmts_names ts) (stmt_text t s w k.0 a h.0 k.1.1) (all_text ts (scope_behind s t) w k.1.0 (behind_stmt s t h.0 a) h.1 inner)

  parts_text : (ps : CParts) (s : Scope) (w : Around) → NamesAreOfText s → PartsHave StringsAreShort IsDeclaration ps → PartsAreJudged s w ps → Each T (parts_names ps)
  parts_text plain.NoPart s w a h e = tt
  parts_text (plain.MorePart (plain.Label at x) ps) s w a h e =
      let k = both_is (part_judged s w (plain.Label at x)) (all_parts (part_scope_or s (part_judged s w (plain.Label at x))) w ps) (λ (part : PartJudged) labels. Ok (part.labels ++ labels)) e.0 e.1 in
      parts_text ps s w a h.1 (k.1.0, subst (λ y. all_parts y w ps ≡ Ok k.1.0) (label_same s at (maybe_judged s x)) k.1.2)
  parts_text (plain.MorePart (plain.Item t) ps) s w a h e =
      let k = both_is (part_judged s w (plain.Item t)) (all_parts (part_scope_or s (part_judged s w (plain.Item t))) w ps) (λ (part : PartJudged) labels. Ok (part.labels ++ labels)) e.0 e.1 in
      let m = after_is (stated s w t) (λ inner. Ok (record { scope = inner; labels = [] })) k.0 k.1.1 in
      let goes : part_scope_or s (part_judged s w (plain.Item t)) ≡ scope_behind s t = item_same s (stated s w t) m.0 m.1 ∙ sym (stated_behind s w t m.0 m.1) in
      each_both T (stmt_names t) (parts_names ps) (stmt_text t s w m.0 a h.0 m.1)
      (parts_text ps (scope_behind s t) w (behind_stmt s t h.0 a) h.1 (k.1.0, subst (λ y. all_parts y w ps ≡ Ok k.1.0) goes k.1.2))

body_text : (body : CStmt) (s : Scope) (w : Around) (r : Scope) → NamesAreOfText s → Short body → body_judged s w (Some body) ≡ Ok r → Each T (stmt_names body)
body_text (plain.Block ss) s w r a h e = all_text ss s w r a h e
body_text t s w r a h e = stmt_text t s w r a h e

pub typed_bodies_name_text : TypedBodiesNameText
typed_bodies_name_text s w body r a h e = body_text body s w r a h e
