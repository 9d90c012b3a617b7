-- The words that are spelled in a typed statement are at most those of its objects with first values.
use Rattle.std.proofs.Common.{◌≡◌, ◌+◌, ◌≤◌, inl, Bool, true, false, List, [], ◌∷◌, ◌++◌, length, Option, Some, None, refl, sym, ap, ◌∙◌, subst, arith}
use Rattle.std.specs.Prelude.{Ok, if◌then◌else◌}
use Rattle.std.specs.Option.{option_map}
use Rattle.c_syntax.specs.Plain as plain
use Rattle.c_syntax.specs.Plain.{CExpr, CValue, CValues, CDecl, CStmt, CStmts, CParts}
use Rattle.c_types.specs.declared.fault.TypeFault.TheVariants as fault
use Rattle.c_types.specs.Types.{CType, words_of, is_object_type}
use Rattle.c_types.specs.Refusals.{Judged, both, all_three, keeping}
use Rattle.c_types.specs.Scope.{Scope, entered}
use Rattle.c_types.specs.Expressions.{judged, written}
use Rattle.c_types.specs.Declarations.{Slots, first_slot, next_slots, slots_of, takes_string, completed, object_type, declared_type, declared_object, declared, scope_or}
use Rattle.c_types.specs.Statements.{Around, in_loop, in_switch, condition_rules, test_rules, switch_rules, maybe_judged, CaseLabel, PartJudged, part_scope_or, stated, all_stated, part_judged, all_parts}
use Rattle.c_types.specs.Units.{body_judged}
use Rattle.c_types.specs.Census.{maybe_sum, first_sum, ty_sum, of_type, scope_behind, scope_behind_all, stmt_sum, stmts_sum, parts_sum, body_sum}
use Rattle.c_types.specs.Limits.{initialised_words}
use Rattle.c_eval.specs.Environment.{type_or_void, object_type_in, type_or_nothing}
use Rattle.c_eval.specs.Eval.{array_text}
use Rattle.c_eval.proofs.Cells.{LaidOut}
use Rattle.c_limited.proofs.Sums.{weight}
use Rattle.c_limited.proofs.Objects.{slot_words, SlotsAreObjects, IsSlot, first_is_slot, next_are_objects, slots_split, slots_fit, slots_length, string_length}
use Rattle.c_fewer_types.specs.Written.{StringsAreShort}
use Rattle.c_helpers.specs.Fewer.{fewer, with_values, fewer_in_declaration, fewer_in, fewer_in_all, fewer_in_parts, fewer_in_body}
use Rattle.c_stated.specs.Counts.{first_words, firsts_words, declared_words, stmt_words, stmts_words, parts_words}
use Rattle.c_fewer_types.proofs.Judged.{keeping_is, first_kept}
use Rattle.c_fewer_types.specs.Standing.{StmtHas, StmtsHave, PartsHave, IsDeclaration}
use Rattle.c_fewer_types.proofs.FewerTypedRules.{after_is, both_is, three_is}
use Rattle.c_fewer_types.proofs.Texts.{given_too}
use Rattle.c_fewer_types.proofs.Behind.{stated_behind}
use Rattle.c_rates.proofs.Scopes.{all_stated_behind, tags_behind, tags_behind_all, label_same, item_same, typed_there}

-- ---- first values

module _ (s : Scope) (laid : LaidOut s.tags) where
  mutual
    value_spelled : (v : CValue) (t : CType) → IsSlot s.tags t → first_words s t v ≤ words_of s.tags t
    value_spelled (plain.One e) t o = go (takes_string t e) refl
      where
        go : (b : Bool) → takes_string t e ≡ b → (if b then length (array_text t e) else 0) ≤ words_of s.tags t
        go true h = string_length s.tags t e h
        go false h = omega arith
    value_spelled (plain.Many vs) t o =
        let f = slots_fit s.tags laid t o in
        let le : firsts_words s (slots_of s.tags (Some t)) vs ≤ slot_words s.tags (slots_of s.tags (Some t)) = values_spelled vs (slots_of s.tags (Some t)) f.0 in
        omega (arith, le, f.1)

    values_spelled : (vs : CValues) (slots : Slots) → SlotsAreObjects s.tags slots → firsts_words s slots vs ≤ slot_words s.tags slots
    values_spelled plain.NoValue slots o = omega (arith, slots_length s.tags laid slots o)
    values_spelled (plain.MoreValue v vs) slots o =
        let a : first_words s (type_or_nothing (first_slot slots)) v ≤ words_of s.tags (type_or_nothing (first_slot slots)) = value_spelled v (type_or_nothing (first_slot slots)) (first_is_slot s.tags slots o) in
        let b : firsts_words s (next_slots slots) vs ≤ slot_words s.tags (next_slots slots) = values_spelled vs (next_slots slots) (next_are_objects s.tags slots o) in
        omega (arith, a, b, slots_split s.tags slots)

-- the type of a declared object is one of objects
declared_object_type : (s : Scope) (d : CDecl) (t : CType) → declared_type s d ≡ Ok t → is_object_type s.tags t ≡ true
declared_object_type s d t e =
    let w = after_is (written s d.pos d.ty) (λ t. object_type s d.pos (completed t d.first)) t e in
    let k = keeping_is {A = CType} ((is_object_type s.tags (completed w.0 d.first), fault.Mismatch d.pos) ∷ []) (completed w.0 d.first) t w.2 in
    let o = first_kept (is_object_type s.tags (completed w.0 d.first)) (fault.Mismatch d.pos) [] k.0 in
    subst (λ z. is_object_type s.tags z ≡ true) k.1 o.0

-- ---- statements

abbrev Spelled : Scope → CStmt → CStmt → Type 0
Spelled s t t' = (z : Scope) → z.tags ≡ s.tags → stmt_words z t' ≤ stmt_sum weight s t

abbrev AllSpelled : Scope → CStmts → CStmts → Type 0
AllSpelled s ts ts' = (z : Scope) → z.tags ≡ s.tags → stmts_words z ts' ≤ stmts_sum weight s ts

abbrev PartsSpelled : Scope → CParts → CParts → Type 0
PartsSpelled s ps ps' = (z : Scope) → z.tags ≡ s.tags → parts_words z ps' ≤ parts_sum weight s ps

local_spelled : (s : Scope) (d : CDecl) (r : Scope) → LaidOut s.tags → declared s false d ≡ Ok r → Spelled s (plain.Local d) (fewer_in s (plain.Local d))
local_spelled s d r laid e z tags =
    let k = after_is (declared_type s d) (λ t. declared_object s false d t) r e in
    let f : CExpr → CExpr = fewer (scope_behind s (plain.Local d)) in
    let there : object_type_in z (fewer_in_declaration s f d) ≡ k.0 = ap type_or_void (typed_there s z d f k.0 (λ e u. given_too (scope_behind s (plain.Local d)) e u) (sym tags) k.1) in
    by_first d.first k.0 (declared_object_type s d k.0 k.1) k.1 there
  where
    changed : CDecl
    changed = fewer_in_declaration s (fewer (scope_behind s (plain.Local d))) d

    by_first : (o : Option CValue) (t : CType) → is_object_type s.tags t ≡ true → declared_type s d ≡ Ok t → object_type_in z changed ≡ t → declared_words z changed (option_map (with_values (fewer (scope_behind s (plain.Local d)))) o)
        ≤ weight.node + (weight.node + ty_sum weight s d.ty + first_sum weight (scope_or s (declared s false d)) o + of_type (λ t. 0 + initialised_words s.tags t o) (declared_type s d))
    by_first None t o k there = omega arith
    by_first (Some v) t o k there =
        let inner : Scope = scope_behind z (plain.Local changed) in
        let same : inner.tags ≡ s.tags = tags_behind z (plain.Local changed) ∙ tags in
        let object : is_object_type inner.tags (object_type_in z changed) ≡ true = (λ i. is_object_type (same i) (there i)) ∙ o in
        let le : first_words inner (object_type_in z changed) (with_values (fewer (scope_behind s (plain.Local d))) v) ≤ words_of inner.tags (object_type_in z changed) =
        value_spelled inner (subst LaidOut (sym same) laid) (with_values (fewer (scope_behind s (plain.Local d))) v) (object_type_in z changed) (inl object) in
        let words : words_of inner.tags (object_type_in z changed) ≡ words_of s.tags t = λ i. words_of (same i) (there i) in
        let counted : of_type (λ t. 0 + initialised_words s.tags t (Some v)) (declared_type s d) ≡ 0 + words_of s.tags t = ap (λ q. of_type (λ t. 0 + initialised_words s.tags t (Some v)) q) k in
        omega (arith, le, words, counted)

abbrev Short : CStmt → Type 0
Short t = StmtHas StringsAreShort IsDeclaration t

abbrev IsSpelled : CStmt → Type 0
IsSpelled t = (s : Scope) (w : Around) (r : Scope) → LaidOut s.tags → Short t → stated s w t ≡ Ok r → Spelled s t (fewer_in s t)

abbrev AreSpelled : CStmts → Type 0
AreSpelled ts = (s : Scope) (w : Around) (r : Scope) → LaidOut s.tags → StmtsHave StringsAreShort IsDeclaration ts → all_stated s w ts ≡ Ok r → AllSpelled s ts (fewer_in_all s ts)

block_for : (ss : CStmts) (test step : Option CExpr) (t : CStmt) → AreSpelled ss → IsSpelled t → IsSpelled (plain.For (plain.Block ss) test step t)
block_for ss test step t all body s w r laid h e z tags =
    let head : Judged Scope = all_stated (entered s) w ss in
    let inner : Scope = scope_or s head in
    let k = three_is head (both (maybe_judged inner test) (maybe_judged inner step) (λ a _. Ok a)) (stated inner (in_loop w) t) (λ _ a _. keeping (test_rules a) s) r e in
    let behind : Scope = scope_behind_all (entered s) ss in
    let there : inner ≡ behind = ap (λ j. scope_or s j) k.1.1.1 ∙ sym (all_stated_behind ss (entered s) w k.0 k.1.1.1) in
    let same : behind.tags ≡ s.tags = tags_behind_all (entered s) ss in
    let ss' : CStmts = fewer_in_all (entered s) ss in
    let f = all (entered s) w k.0 laid h.1 k.1.1.1 (entered z) tags in
    let g = body behind (in_loop w) k.1.1.0 (subst LaidOut (sym same) laid) h.4 (subst (λ z. stated z (in_loop w) t ≡ Ok k.1.1.0) there k.1.1.3) (scope_behind_all (entered z) ss') (tags_behind_all (entered z) ss' ∙ (tags ∙ sym same)) in
    omega (arith, f, g)

-- one whose head declares nothing
other_for : (first : CStmt) (test step : Option CExpr) (t : CStmt) (s : Scope) (w : Around) (r : Scope) → IsSpelled first → IsSpelled t → LaidOut s.tags → Short first → Short t
    → all_three (stated s w first) (both (maybe_judged s test) (maybe_judged s step) (λ a _. Ok a)) (stated s (in_loop w) t) (λ _ a _. keeping (test_rules a) s) ≡ Ok r
    → (z : Scope) → z.tags ≡ s.tags → stmt_words z (fewer_in s first) + stmt_words z (fewer_in s t) ≤ weight.node + stmt_sum weight s first + maybe_sum weight s test + maybe_sum weight s step + stmt_sum weight s t
other_for first test step t s w r head body laid hf ht e z tags =
    let k = three_is (stated s w first) (both (maybe_judged s test) (maybe_judged s step) (λ a _. Ok a)) (stated s (in_loop w) t) (λ _ a _. keeping (test_rules a) s) r e in
    let f = head s w k.0 laid hf k.1.1.1 z tags in let g = body s (in_loop w) k.1.1.0 laid ht k.1.1.3 z tags in
    omega (arith, f, g)

abbrev Within : CStmt → Type 0
Within (plain.Block ss) = AreSpelled ss
Within t = Unit {0}

for_spelled : (first : CStmt) (test step : Option CExpr) (t : CStmt) → IsSpelled first → Within first → IsSpelled t → IsSpelled (plain.For first test step t)
for_spelled (plain.Block ss) test step t head all body s w r laid h e z tags = block_for ss test step t all body s w r laid h e z tags
for_spelled (plain.Local d) test step t head all body s w r laid h e z tags = absurd (cc h.0)
for_spelled first test step t head all body s w r laid h e z tags = other_for first test step t s w r head body laid h.1 h.4 e z tags

abbrev PartsAreJudged : Scope → Around → CParts → Type 0
PartsAreJudged s w ps = (labels : List CaseLabel) × (all_parts s w ps ≡ Ok labels)

mutual
  stmt_spelled : (t : CStmt) → IsSpelled t
  stmt_spelled (plain.Block ss) s w r laid h e z tags = let k = after_is (all_stated (entered s) w ss) (λ _. Ok s) r e in let f = all_spelled ss (entered s) w k.0 laid h k.1 (entered z) tags in omega (arith, f)
  stmt_spelled (plain.Local d) s w r laid h e z tags = local_spelled s d r laid e z tags
  stmt_spelled (plain.Do_expr x) s w r laid h e z tags = omega arith
  stmt_spelled plain.Empty s w r laid h e z tags = omega arith
  stmt_spelled (plain.If x t) s w r laid h e z tags =
      let k = both_is (judged s x) (stated s w t) (λ a _. keeping (condition_rules a) s) r e in let f = stmt_spelled t s w k.1.0 laid h.1 k.1.2 z tags in omega (arith, f)
  stmt_spelled (plain.IfElse x t u) s w r laid h e z tags =
      let k = three_is (judged s x) (stated s w t) (stated s w u) (λ a _ _. keeping (condition_rules a) s) r e in
      let f = stmt_spelled t s w k.1.0 laid h.1 k.1.1.2 z tags in let g = stmt_spelled u s w k.1.1.0 laid h.2 k.1.1.3 z tags in omega (arith, f, g)
  stmt_spelled (plain.While x t) s w r laid h e z tags =
      let k = both_is (judged s x) (stated s (in_loop w) t) (λ a _. keeping (condition_rules a) s) r e in let f = stmt_spelled t s (in_loop w) k.1.0 laid h.1 k.1.2 z tags in omega (arith, f)
  stmt_spelled (plain.Do t x) s w r laid h e z tags =
      let k = both_is (judged s x) (stated s (in_loop w) t) (λ a _. keeping (condition_rules a) s) r e in let f = stmt_spelled t s (in_loop w) k.1.0 laid h.1 k.1.2 z tags in omega (arith, f)
  stmt_spelled (plain.For first test step t) s w r laid h e z tags = for_spelled first test step t (λ s w r laid h e z tags. stmt_spelled first s w r laid h e z tags) (within first) (λ s w r laid h e z tags. stmt_spelled t s w r laid h e z tags) s w r laid h e z tags
  stmt_spelled (plain.Return at x) s w r laid h e z tags = omega arith
  stmt_spelled (plain.Break at) s w r laid h e z tags = omega arith
  stmt_spelled (plain.Continue at) s w r laid h e z tags = omega arith
  stmt_spelled (plain.Switch x ps) s w r laid h e z tags =
      let k = both_is (judged s x) (all_parts (entered s) (in_switch w) ps) (λ a labels. keeping (switch_rules a labels) s) r e in
      let f = parts_spelled ps (entered s) (in_switch w) laid h.1 (k.1.0, k.1.2) (entered z) tags in omega (arith, f)

  within : (t : CStmt) → Within t
  within (plain.Block ss) = λ s w r laid h e z tags. all_spelled ss s w r laid h e z tags
  within t = tt

  all_spelled : (ss : CStmts) → AreSpelled ss
  all_spelled plain.NoStmt s w r laid h e z tags = omega arith
  all_spelled (plain.MoreStmt t ts) s w r laid h e z tags =
      let k = both_is (stated s w t) (all_stated (scope_or s (stated s w t)) w ts) (λ _ inner. Ok inner) r e in
      let inner : all_stated (scope_behind s t) w ts ≡ Ok k.1.0 = subst (λ z. all_stated z w ts ≡ Ok k.1.0) (ap (λ q. scope_or s q) k.1.1 ∙ sym (stated_behind s w t k.0 k.1.1)) k.1.2 in
      let f = stmt_spelled t s w k.0 laid h.0 k.1.1 z tags in
      let g = all_spelled ts (scope_behind s t) w k.1.0 (subst LaidOut (sym (tags_behind s t)) laid) h.1 inner (scope_behind z (fewer_in s t)) (tags_behind z (fewer_in s t) ∙ (tags ∙ sym (tags_behind s t))) in
      omega (arith, f, g)

  parts_spelled : (ps : CParts) (s : Scope) (w : Around) → LaidOut s.tags → PartsHave StringsAreShort IsDeclaration ps → PartsAreJudged s w ps → PartsSpelled s ps (fewer_in_parts s ps)
  parts_spelled plain.NoPart s w laid h e z tags = omega arith
  parts_spelled (plain.MorePart (plain.Label at x) ps) s w laid h e z tags =
      let k = both_is (part_judged s w (plain.Label at x)) (all_parts (part_scope_or s (part_judged s w (plain.Label at x))) w ps) (λ (part : PartJudged) labels. Ok (part.labels ++ labels)) e.0 e.1 in
      let f = parts_spelled ps s w laid h.1 (k.1.0, subst (λ y. all_parts y w ps ≡ Ok k.1.0) (label_same s at (maybe_judged s x)) k.1.2) z tags in omega (arith, f)
  parts_spelled (plain.MorePart (plain.Item t) ps) s w laid h e z tags =
      let k = both_is (part_judged s w (plain.Item t)) (all_parts (part_scope_or s (part_judged s w (plain.Item t))) w ps) (λ (part : PartJudged) labels. Ok (part.labels ++ labels)) e.0 e.1 in
      let m = after_is (stated s w t) (λ inner. Ok (record { scope = inner; labels = [] })) k.0 k.1.1 in
      let goes : part_scope_or s (part_judged s w (plain.Item t)) ≡ scope_behind s t = item_same s (stated s w t) m.0 m.1 ∙ sym (stated_behind s w t m.0 m.1) in
      let f = stmt_spelled t s w m.0 laid h.0 m.1 z tags in
      let g = parts_spelled ps (scope_behind s t) w (subst LaidOut (sym (tags_behind s t)) laid) h.1 (k.1.0, subst (λ y. all_parts y w ps ≡ Ok k.1.0) goes k.1.2) (scope_behind z (fewer_in s t)) (tags_behind z (fewer_in s t) ∙ (tags ∙ sym (tags_behind s t))) in
      omega (arith, f, g)

-- a body shares its scope with the parameters
pub body_spelled : (body : CStmt) (s : Scope) (w : Around) (r : Scope) → LaidOut s.tags → Short body → body_judged s w (Some body) ≡ Ok r → (z : Scope) → z.tags ≡ s.tags → stmt_words z (fewer_in_body s body) ≤ body_sum weight s body
body_spelled (plain.Block ss) s w r laid h e z tags = let f = all_spelled ss s w r laid h e (entered z) tags in omega (arith, f)
body_spelled t s w r laid h e z tags = stmt_spelled t s w r laid h e z tags
