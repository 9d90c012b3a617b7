-- Words of typed statements with fewer operators.
use Rattle.std.proofs.Common.{◌≡◌, ℕ, ◌+◌, ◌≤◌, false, List, [], ◌∷◌, ◌++◌, Option, Some, None, refl, sym, ap, ◌∙◌, subst, arith}
use Rattle.std.specs.Prelude.{Ok, not}
use Rattle.std.specs.Option.{option_map}
use Rattle.c_syntax.specs.Plain as plain
use Rattle.c_syntax.specs.Plain.{CExpr, CValue, CValues, CDecl, CStmt, CStmts, CParts}
use Rattle.c_types.specs.declared.fault.TypeFault.TheVariants as fault
use Rattle.c_types.specs.Types.{CType, words_of}
use Rattle.c_types.specs.Refusals.{Judged, both, all_three, keeping}
use Rattle.c_types.specs.Scope.{Scope, Object, entered, with_name, is_declared_here}
use Rattle.c_types.specs.Operands.{Operand}
use Rattle.c_types.specs.Expressions.{judged}
use Rattle.c_types.specs.Declarations.{Site, Slots, first_slot, next_slots, slots_of, object_rules, site_rules, braces_rules, fitting, all_fitting, first_fitting, declared_type, declared_object, declared, scope_or}
use Rattle.c_types.specs.Statements.{Around, in_loop, in_switch, condition_rules, test_rules, return_rules, switch_rules, maybe_judged, CaseLabel, PartJudged, part_scope_or, stated, all_stated, part_judged, all_parts}
use Rattle.c_types.specs.Census.{maybe_sum, value_sum, values_sum, first_sum, of_type, scope_behind, scope_behind_all, stmt_sum, stmts_sum, parts_sum}
use Rattle.c_types.specs.Limits.{initialised_words}
use Rattle.c_fewer_types.specs.Written.{StringsAreShort}
use Rattle.c_helpers.specs.Names.{names_in, maybe_names, value_names, values_names, first_names, stmt_names, stmts_names, parts_names}
use Rattle.c_helpers.specs.Fewer.{fewer, maybe_fewer, with_values, with_all_values, constant_tree, fewer_in_declaration, fewer_in, fewer_in_all, fewer_in_parts}
use Rattle.c_fewer_types.proofs.Judged.{keeping_is}
use Rattle.c_fewer_types.specs.Standing.{IsTextName, StmtHas, StmtsHave, PartsHave, IsDeclaration}
use Rattle.c_fewer_types.proofs.FewerTypedRules.{after_is, both_is, three_is}
use Rattle.c_fewer_types.proofs.Texts.{given_too}
use Rattle.c_fewer_types.proofs.Behind.{stated_behind}
use Rattle.c_fewer_names.specs.FewerKnownLaws.{NamesAreOfText}
use Rattle.c_fewer_names.proofs.FewerKnownExpressions.{MaybeJudged}
use Rattle.c_rates.proofs.Scopes.{in_text, behind_name, behind_stmt, behind_all_stmts, all_stated_behind, tags_behind, tags_behind_all, label_same, item_same, typed_there}
use Rattle.c_compiled.specs.Words.{words, format_words, WordsStayFew}
use Rattle.c_compiled.proofs.RoomTrees.{both_words, fewer_type_words}
use Rattle.c_compiled.proofs.Expressions.{expr_few, maybe_few}

-- ---- what is shown

-- of a statement: its words, and those of formats that it names, where it has fewer operators
abbrev Few : Scope → CStmt → CStmt → Type 0
Few s t t' = (z : Scope) → z.tags ≡ s.tags → stmt_sum words z t' + format_words (stmt_names t') ≤ stmt_sum words s t

abbrev AllFew : Scope → CStmts → CStmts → Type 0
AllFew s ts ts' = (z : Scope) → z.tags ≡ s.tags → stmts_sum words z ts' + format_words (stmts_names ts') ≤ stmts_sum words s ts

abbrev PartsFew : Scope → CParts → CParts → Type 0
PartsFew s ps ps' = (z : Scope) → z.tags ≡ s.tags → parts_sum words z ps' + format_words (parts_names ps') ≤ parts_sum words s ps

-- ---- first values

module _ (s : Scope) (text : NamesAreOfText s) (z q : Scope) (site : Site) where
  mutual
    value_few : (t : Option CType) (v : CValue) (u : Unit {0}) → fitting s site t v ≡ Ok u → value_sum words z (with_values (fewer s) v) + format_words (value_names (with_values (fewer s) v)) ≤ value_sum words q v
    value_few t (plain.One e) u k =
        let l = after_is (judged s e) (λ x. keeping (object_rules t e x ++ site_rules site.file e x) tt) u k in let f = expr_few s text z q e l.0 l.1 in omega (arith, f)
    value_few t (plain.Many vs) u k =
        let l = after_is (all_fitting s site (slots_of s.tags t) vs) (λ _. keeping (braces_rules site.pos (slots_of s.tags t) vs) tt) u k in let f = values_few (slots_of s.tags t) vs l.0 l.1 in omega (arith, f)

    values_few : (slots : Slots) (vs : CValues) (u : Unit {0}) → all_fitting s site slots vs ≡ Ok u → values_sum words z (with_all_values (fewer s) vs) + format_words (values_names (with_all_values (fewer s) vs)) ≤ values_sum words q vs
    values_few slots plain.NoValue u k = omega arith
    values_few slots (plain.MoreValue v vs) u k =
        let l = both_is (fitting s site (first_slot slots) v) (all_fitting s site (next_slots slots) vs) (λ _ _. Ok tt) u k in
        let f = value_few (first_slot slots) v l.0 l.1.1 in let g = values_few (next_slots slots) vs l.1.0 l.1.2 in
        let b = both_words (value_names (with_values (fewer s) v)) (values_names (with_all_values (fewer s) vs)) in
        omega (arith, f, g, b)

  first_few : (t : CType) (o : Option CValue) (u : Unit {0}) → first_fitting s site t o ≡ Ok u → first_sum words z (option_map (with_values (fewer s)) o) + format_words (first_names (option_map (with_values (fewer s)) o)) ≤ first_sum words q o
  first_few t None u k = omega arith
  first_few t (Some v) u k = value_few (Some t) v u k

-- ---- declarations

-- an object has the words that it had
pub object_words : (s z : Scope) (f : CExpr → CExpr) (t : CType) (o : Option CValue) → z.tags ≡ s.tags → initialised_words z.tags t (option_map (with_values f) o) ≡ initialised_words s.tags t o
object_words s z f t None tags = refl
object_words s z f t (Some v) tags = ap (λ y. words_of y t) tags

local_few : (s : Scope) (d : CDecl) (r : Scope) → NamesAreOfText s → IsTextName d.name → declared s false d ≡ Ok r → Few s (plain.Local d) (fewer_in s (plain.Local d))
local_few s d r a text e z tags =
    let k = after_is (declared_type s d) (λ t. declared_object s false d t) r e in
    let inner : Scope = with_name s d.name (Object k.0) in
    let site : Site = record { file = false; pos = d.pos } in
    let l = after_is (first_fitting inner site k.0 d.first) (λ _. keeping ((not (is_declared_here s d.name), fault.Twice d.pos) ∷ []) inner) r k.2 in
    let m = keeping_is {A = Scope} ((not (is_declared_here s d.name), fault.Twice d.pos) ∷ []) inner r l.2 in
    let there : scope_or s (declared s false d) ≡ inner = ap (λ q. scope_or s q) e ∙ sym m.1 in
    let f = subst (λ y. first_sum words (scope_or z (declared z false changed)) (option_map (with_values (fewer y)) d.first) + format_words (first_names (option_map (with_values (fewer y)) d.first)) ≤ first_sum words (scope_or s (declared s false d)) d.first)
    (sym there) (first_few inner (behind_name s d.name k.0 text a) (scope_or z (declared z false changed)) (scope_or s (declared s false d)) site k.0 d.first l.0 l.1) in
    let g = fewer_type_words z s d.ty in
    let h = counted k.0 k.1 in
    omega (arith, f, g, h)
  where
    change : CExpr → CExpr
    change = fewer (scope_behind s (plain.Local d))

    changed : CDecl
    changed = fewer_in_declaration s change d

    counted : (t : CType) → declared_type s d ≡ Ok t → of_type (λ t. 0 + initialised_words z.tags t changed.first) (declared_type z changed) ≡ of_type (λ t. 0 + initialised_words s.tags t d.first) (declared_type s d)
    counted t k =
        ap (λ q. of_type (λ t. 0 + initialised_words z.tags t changed.first) q) (typed_there s z d change t (λ e u. given_too (scope_behind s (plain.Local d)) e u) (sym tags) k)
        ∙ (ap (λ n. 0 + n) (object_words s z change t d.first tags) ∙ sym (ap (λ q. of_type (λ t. 0 + initialised_words s.tags t d.first) q) k))

-- ---- statements

abbrev IsFew : CStmt → Type 0
IsFew t = (s : Scope) (w : Around) (r : Scope) → NamesAreOfText s → StmtHas StringsAreShort IsDeclaration t → stated s w t ≡ Ok r → Few s t (fewer_in s t)

abbrev AreFew : CStmts → Type 0
AreFew ts = (s : Scope) (w : Around) (r : Scope) → NamesAreOfText s → StmtsHave StringsAreShort IsDeclaration ts → all_stated s w ts ≡ Ok r → AllFew s ts (fewer_in_all s ts)

maybe_is : (s : Scope) (o : Option CExpr) (q : Option Operand) → maybe_judged s o ≡ Ok q → MaybeJudged s o
maybe_is s None q e = tt
maybe_is s (Some x) q e = let l = after_is (judged s x) (λ y. Ok (Some y)) q e in (l.0, l.1)

abbrev HeadFew : Scope → Scope → Option CExpr → Type 0
HeadFew s z o = maybe_sum words z (maybe_fewer s o) + format_words (maybe_names (maybe_fewer s o)) ≤ maybe_sum words s o

-- the test and the step of a `for`
heads_few : (s z : Scope) (test step : Option CExpr) (q : Option Operand) → NamesAreOfText s → both {C = Option Operand} (maybe_judged s test) (maybe_judged s step) (λ a _. Ok a) ≡ Ok q → HeadFew s z test × HeadFew s z step
heads_few s z test step q a e =
    let l = both_is {C = Option Operand} (maybe_judged s test) (maybe_judged s step) (λ a _. Ok a) q e in
    (maybe_few s a z s test (maybe_is s test l.0 l.1.1), maybe_few s a z s step (maybe_is s step l.1.0 l.1.2))

-- the names of a `for`
abbrev for_names : (f test step t : List (List ℕ)) → List (List ℕ)
for_names f test step t = f ++ (test ++ (step ++ t))

for_words : (f test step t : List (List ℕ)) → format_words (for_names f test step t) ≡ format_words f + format_words test + format_words step + format_words t
for_words f test step t = let i = both_words f (test ++ (step ++ t)) in let j = both_words test (step ++ t) in let k = both_words step t in omega (arith, i, j, k)

block_for : (ss : CStmts) (test step : Option CExpr) (t : CStmt) → AreFew ss → IsFew t → IsFew (plain.For (plain.Block ss) test step t)
block_for ss test step t all body s w r a h e z tags =
    let head : Judged Scope = all_stated (entered s) w ss in
    let inner : Scope = scope_or s head in
    let k = three_is head (both (maybe_judged inner test) (maybe_judged inner step) (λ a _. Ok a)) (stated inner (in_loop w) t) (λ _ a _. keeping (test_rules a) s) r e in
    let behind : Scope = scope_behind_all (entered s) ss in
    let there : inner ≡ behind = ap (λ j. scope_or s j) k.1.1.1 ∙ sym (all_stated_behind ss (entered s) w k.0 k.1.1.1) in
    let b : NamesAreOfText behind = behind_all_stmts (entered s) ss h.1 (in_text s a) in
    let same : behind.tags ≡ s.tags = tags_behind_all (entered s) ss in
    let ss' : CStmts = fewer_in_all (entered s) ss in
    let place : Scope = scope_behind_all (entered z) ss' in
    let f = all (entered s) w k.0 (in_text s a) h.1 k.1.1.1 (entered z) tags in
    let g = heads_few behind place test step k.1.0 b (subst (λ z. both {C = Option Operand} (maybe_judged z test) (maybe_judged z step) (λ a _. Ok a) ≡ Ok k.1.0) there k.1.1.2) in
    let i = body behind (in_loop w) k.1.1.0 b h.4 (subst (λ z. stated z (in_loop w) t ≡ Ok k.1.1.0) there k.1.1.3) place (tags_behind_all (entered z) ss' ∙ (tags ∙ sym same)) in
    let g0 = g.0 in let g1 = g.1 in
    let n = for_words (stmts_names ss') (maybe_names (maybe_fewer behind test)) (maybe_names (maybe_fewer behind step)) (stmt_names (fewer_in behind t)) in
    omega (arith, f, g0, g1, i, n)

-- one whose head declares nothing
other_for : (first : CStmt) (test step : Option CExpr) (t : CStmt) (s : Scope) (w : Around) (r : Scope) → IsFew first → IsFew t → NamesAreOfText s → StmtHas StringsAreShort IsDeclaration first → StmtHas StringsAreShort IsDeclaration t
    → all_three (stated s w first) (both (maybe_judged s test) (maybe_judged s step) (λ a _. Ok a)) (stated s (in_loop w) t) (λ _ a _. keeping (test_rules a) s) ≡ Ok r
    → (z : Scope) → z.tags ≡ s.tags
    → 0 + stmt_sum words z (fewer_in s first) + maybe_sum words z (maybe_fewer s test) + maybe_sum words z (maybe_fewer s step) + stmt_sum words z (fewer_in s t)
    + format_words (for_names (stmt_names (fewer_in s first)) (maybe_names (maybe_fewer s test)) (maybe_names (maybe_fewer s step)) (stmt_names (fewer_in s t)))
    ≤ 0 + stmt_sum words s first + maybe_sum words s test + maybe_sum words s step + stmt_sum words s t
other_for first test step t s w r head body a hf ht e z tags =
    let k = three_is (stated s w first) (both (maybe_judged s test) (maybe_judged s step) (λ a _. Ok a)) (stated s (in_loop w) t) (λ _ a _. keeping (test_rules a) s) r e in
    let f = head s w k.0 a hf k.1.1.1 z tags in
    let g = heads_few s z test step k.1.0 a k.1.1.2 in
    let i = body s (in_loop w) k.1.1.0 a ht k.1.1.3 z tags in
    let g0 = g.0 in let g1 = g.1 in
    let n = for_words (stmt_names (fewer_in s first)) (maybe_names (maybe_fewer s test)) (maybe_names (maybe_fewer s step)) (stmt_names (fewer_in s t)) in
    omega (arith, f, g0, g1, i, n)

abbrev Within : CStmt → Type 0
Within (plain.Block ss) = AreFew ss
Within t = Unit {0}

for_few : (first : CStmt) (test step : Option CExpr) (t : CStmt) → IsFew first → Within first → IsFew t → IsFew (plain.For first test step t)
for_few (plain.Block ss) test step t head all body s w r a h e z tags = block_for ss test step t all body s w r a h e z tags
for_few (plain.Local d) test step t head all body s w r a h e z tags = absurd (cc h.0)
for_few first test step t head all body s w r a h e z tags = other_for first test step t s w r head body a h.1 h.4 e z tags

abbrev PartsAreJudged : Scope → Around → CParts → Type 0
PartsAreJudged s w ps = (labels : List CaseLabel) × (all_parts s w ps ≡ Ok labels)

-- what a label has is a number
label_words : (z s : Scope) (o : Option CExpr) → maybe_sum words z (option_map (constant_tree s) o) ≡ 0
label_words z s None = refl
label_words z s (Some e) = refl

mutual
  stmt_few : (t : CStmt) → IsFew t
  stmt_few (plain.Block ss) s w r a h e z tags =
      let k = after_is (all_stated (entered s) w ss) (λ _. Ok s) r e in let f = all_few ss (entered s) w k.0 (in_text s a) h k.1 (entered z) tags in omega (arith, f)
  stmt_few (plain.Local d) s w r a h e z tags = local_few s d r a h.0.0 e z tags
  stmt_few (plain.Do_expr x) s w r a h e z tags = let k = after_is (judged s x) (λ _. Ok s) r e in let f = expr_few s a z s x k.0 k.1 in omega (arith, f)
  stmt_few plain.Empty s w r a h e z tags = omega arith
  stmt_few (plain.If x t) s w r a h e z tags =
      let k = both_is (judged s x) (stated s w t) (λ a _. keeping (condition_rules a) s) r e in
      let f = expr_few s a z s x k.0 k.1.1 in let g = stmt_few t s w k.1.0 a h.1 k.1.2 z tags in
      let b = both_words (names_in (fewer s x)) (stmt_names (fewer_in s t)) in omega (arith, f, g, b)
  stmt_few (plain.IfElse x t v) s w r a h e z tags =
      let k = three_is (judged s x) (stated s w t) (stated s w v) (λ a _ _. keeping (condition_rules a) s) r e in
      let f = expr_few s a z s x k.0 k.1.1.1 in let g = stmt_few t s w k.1.0 a h.1 k.1.1.2 z tags in let i = stmt_few v s w k.1.1.0 a h.2 k.1.1.3 z tags in
      let b = both_words (names_in (fewer s x)) (stmt_names (fewer_in s t) ++ stmt_names (fewer_in s v)) in let d = both_words (stmt_names (fewer_in s t)) (stmt_names (fewer_in s v)) in omega (arith, f, g, i, b, d)
  stmt_few (plain.While x t) s w r a h e z tags =
      let k = both_is (judged s x) (stated s (in_loop w) t) (λ a _. keeping (condition_rules a) s) r e in
      let f = expr_few s a z s x k.0 k.1.1 in let g = stmt_few t s (in_loop w) k.1.0 a h.1 k.1.2 z tags in
      let b = both_words (names_in (fewer s x)) (stmt_names (fewer_in s t)) in omega (arith, f, g, b)
  stmt_few (plain.Do t x) s w r a h e z tags =
      let k = both_is (judged s x) (stated s (in_loop w) t) (λ a _. keeping (condition_rules a) s) r e in
      let f = expr_few s a z s x k.0 k.1.1 in let g = stmt_few t s (in_loop w) k.1.0 a h.1 k.1.2 z tags in
      let b = both_words (stmt_names (fewer_in s t)) (names_in (fewer s x)) in omega (arith, f, g, b)
  stmt_few (plain.For first test step t) s w r a h e z tags = for_few first test step t (λ s w r a h e z tags. stmt_few first s w r a h e z tags) (within first) (λ s w r a h e z tags. stmt_few t s w r a h e z tags) s w r a h e z tags
  stmt_few (plain.Return at x) s w r a h e z tags =
      let k = after_is (maybe_judged s x) (λ o. keeping (return_rules at w.result o) s) r e in let f = maybe_few s a z s x (maybe_is s x k.0 k.1) in omega (arith, f)
  stmt_few (plain.Break at) s w r a h e z tags = omega arith
  stmt_few (plain.Continue at) s w r a h e z tags = omega arith
  stmt_few (plain.Switch x ps) s w r a h e z tags =
      let k = both_is (judged s x) (all_parts (entered s) (in_switch w) ps) (λ a labels. keeping (switch_rules a labels) s) r e in
      let f = expr_few s a z s x k.0 k.1.1 in let g = parts_few ps (entered s) (in_switch w) (in_text s a) h.1 (k.1.0, k.1.2) (entered z) tags in
      let b = both_words (names_in (fewer s x)) (parts_names (fewer_in_parts (entered s) ps)) in omega (arith, f, g, b)

  within : (t : CStmt) → Within t
  within (plain.Block ss) = λ s w r a h e z tags. all_few ss s w r a h e z tags
  within t = tt

  all_few : (ss : CStmts) → AreFew ss
  all_few plain.NoStmt s w r a h e z tags = omega arith
  all_few (plain.MoreStmt t ts) s w r a h e z tags =
      let k = both_is (stated s w t) (all_stated (scope_or s (stated s w t)) w ts) (λ _ inner. Ok inner) r e in
      let inner : all_stated (scope_behind s t) w ts ≡ Ok k.1.0 = subst (λ z. all_stated z w ts ≡ Ok k.1.0) (ap (λ q. scope_or s q) k.1.1 ∙ sym (stated_behind s w t k.0 k.1.1)) k.1.2 in
      let f = stmt_few t s w k.0 a h.0 k.1.1 z tags in
      let g = all_few ts (scope_behind s t) w k.1.0 (behind_stmt s t h.0 a) h.1 inner (scope_behind z (fewer_in s t)) (tags_behind z (fewer_in s t) ∙ (tags ∙ sym (tags_behind s t))) in
      let b = both_words (stmt_names (fewer_in s t)) (stmts_names (fewer_in_all (scope_behind s t) ts)) in
      omega (arith, f, g, b)

  parts_few : (ps : CParts) (s : Scope) (w : Around) → NamesAreOfText s → PartsHave StringsAreShort IsDeclaration ps → PartsAreJudged s w ps → PartsFew s ps (fewer_in_parts s ps)
  parts_few plain.NoPart s w a h e z tags = omega arith
  parts_few (plain.MorePart (plain.Label at x) ps) s w a h e z tags =
      let k = both_is (part_judged s w (plain.Label at x)) (all_parts (part_scope_or s (part_judged s w (plain.Label at x))) w ps) (λ (part : PartJudged) labels. Ok (part.labels ++ labels)) e.0 e.1 in
      let f = parts_few ps s w a h.1 (k.1.0, subst (λ y. all_parts y w ps ≡ Ok k.1.0) (label_same s at (maybe_judged s x)) k.1.2) z tags in
      let g = label_words z s x in omega (arith, f, g)
  parts_few (plain.MorePart (plain.Item t) ps) s w a h e z tags =
      let k = both_is (part_judged s w (plain.Item t)) (all_parts (part_scope_or s (part_judged s w (plain.Item t))) w ps) (λ (part : PartJudged) labels. Ok (part.labels ++ labels)) e.0 e.1 in
      let m = after_is (stated s w t) (λ inner. Ok (record { scope = inner; labels = [] })) k.0 k.1.1 in
      let goes : part_scope_or s (part_judged s w (plain.Item t)) ≡ scope_behind s t = item_same s (stated s w t) m.0 m.1 ∙ sym (stated_behind s w t m.0 m.1) in
      let f = stmt_few t s w m.0 a h.0 m.1 z tags in
      let g = parts_few ps (scope_behind s t) w (behind_stmt s t h.0 a) h.1 (k.1.0, subst (λ y. all_parts y w ps ≡ Ok k.1.0) goes k.1.2) (scope_behind z (fewer_in s t)) (tags_behind z (fewer_in s t) ∙ (tags ∙ sym (tags_behind s t))) in
      let b = both_words (stmt_names (fewer_in s t)) (parts_names (fewer_in_parts (scope_behind s t) ps)) in
      omega (arith, f, g, b)

-- a body shares its scope with the parameters
pub words_stay_few : WordsStayFew
words_stay_few s z w (plain.Block ss) r tags a h e = let f = all_few ss s w r a h e z tags in omega (arith, f)
words_stay_few s z w t r tags a h e = stmt_few t s w r a h e z tags
