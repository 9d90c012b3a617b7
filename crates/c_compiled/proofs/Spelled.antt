-- The words that are spelled one by one in a typed statement are at most those of its objects with first values.
use Rattle.std.proofs.Common.{◌≡◌, ℕ, ◌+◌, ◌≤◌, inl, Bool, true, false, List, [], ◌∷◌, ◌++◌, length, Option, Some, None, refl, sym, ap, ◌∙◌, subst, cond, arith}
use Rattle.std.specs.Prelude.{Ok, Err, not, if◌then◌else◌}
use Rattle.std.proofs.lemmas.Slice.Eq.{bytes_eq-Decides}
use Rattle.c_syntax.specs.Plain as plain
use Rattle.c_syntax.specs.Plain.{CExpr, CValue, CValues, CDecl, CStmt, CStmts, CParts}
use Rattle.c_types.specs.declared.fault.TypeFault.TheVariants as fault
use Rattle.c_types.specs.Types.{CType, words_of, is_object_type}
use Rattle.c_types.specs.Refusals.{Judged, after, both, all_three, keeping}
use Rattle.c_types.specs.Scope.{Scope, Entity, Object, entity_of, entered, with_name, is_declared_here}
use Rattle.c_types.specs.Operands.{Operand}
use Rattle.c_types.specs.Expressions.{judged, written}
use Rattle.c_types.specs.Declarations.{Slots, first_slot, next_slots, slots_of, takes_string, completed, object_type, first_fitting, declared_type, declared_object, declared, scope_or}
use Rattle.c_types.specs.Statements.{Around, in_loop, in_switch, condition_rules, test_rules, switch_rules, maybe_judged, CaseLabel, PartJudged, part_scope_or, stated, all_stated, part_judged, all_parts}
use Rattle.c_types.specs.Units.{body_judged}
use Rattle.c_types.specs.Census.{maybe_sum, first_sum, ty_sum, of_type, scope_behind, scope_behind_all, stmt_sum, stmts_sum, parts_sum, body_sum}
use Rattle.c_types.specs.Limits.{initialised_words}
use Rattle.c_eval.specs.Environment.{type_or_void, object_type_in, type_or_nothing}
use Rattle.c_eval.specs.Eval.{array_text}
use Rattle.c_eval.proofs.Cells.{LaidOut}
use Rattle.c_limited.proofs.Objects.{slot_words, SlotsAreObjects, IsSlot, first_is_slot, next_are_objects, slots_split, slots_fit, slots_length, string_length}
use Rattle.c_fitting.specs.Blocks.{DeclaresInBlocks, AllDeclareInBlocks, PartsDeclareInBlocks}
use Rattle.c_stated.specs.Counts.{first_words, firsts_words, declared_words, stmt_words, stmts_words, parts_words}
use Rattle.c_fewer_types.proofs.Judged.{keeping_is, first_kept}
use Rattle.c_fewer_types.proofs.FewerTypedRules.{after_is, both_is, three_is}
use Rattle.c_fewer_types.proofs.Behind.{stated_behind}
use Rattle.c_fewer_meaning.specs.Seeing.{SeesAll}
use Rattle.c_fewer_meaning.proofs.Expressions.{entered_sees, sees_entered, local_declares}
use Rattle.c_compiled.proofs.Letters.{words}

-- ---- first values

module _ (s : Scope) (laid : LaidOut s.tags) where
  mutual
    value_spelled : (v : CValue) (t : CType) → IsSlot s.tags t → first_words s t v ≤ words_of s.tags t
    value_spelled (plain.One e) t o = go (takes_string t e) refl
      where
        go : (b : Bool) → takes_string t e ≡ b → (if b then length (array_text t e) else 0) ≤ words_of s.tags t
        go true h = string_length s.tags t e h
        go false h = omega arith
    value_spelled (plain.Many vs) t o =
        let f = slots_fit s.tags laid t o in
        let le : firsts_words s (slots_of s.tags (Some t)) vs ≤ slot_words s.tags (slots_of s.tags (Some t)) = values_spelled vs (slots_of s.tags (Some t)) f.0 in
        omega (arith, le, f.1)

    values_spelled : (vs : CValues) (slots : Slots) → SlotsAreObjects s.tags slots → firsts_words s slots vs ≤ slot_words s.tags slots
    values_spelled plain.NoValue slots o = omega (arith, slots_length s.tags laid slots o)
    values_spelled (plain.MoreValue v vs) slots o =
        let a : first_words s (type_or_nothing (first_slot slots)) v ≤ words_of s.tags (type_or_nothing (first_slot slots)) = value_spelled v (type_or_nothing (first_slot slots)) (first_is_slot s.tags slots o) in
        let b : firsts_words s (next_slots slots) vs ≤ slot_words s.tags (next_slots slots) = values_spelled vs (next_slots slots) (next_are_objects s.tags slots o) in
        omega (arith, a, b, slots_split s.tags slots)

-- ---- declarations

-- the type of a declared object is one of objects
pub declared_object_type : (s : Scope) (d : CDecl) (t : CType) → declared_type s d ≡ Ok t → is_object_type s.tags t ≡ true
declared_object_type s d t e =
    let w = after_is (written s d.pos d.ty) (λ t. object_type s d.pos (completed t d.first)) t e in
    let k = keeping_is {A = CType} ((is_object_type s.tags (completed w.0 d.first), fault.Mismatch d.pos) ∷ []) (completed w.0 d.first) t w.2 in
    let o = first_kept (is_object_type s.tags (completed w.0 d.first)) (fault.Mismatch d.pos) [] k.0 in
    subst (λ z. is_object_type s.tags z ≡ true) k.1 o.0

-- what is declared is an object of its type
record Declared (s : Scope) (d : CDecl) (r : Scope) : Type 0 where
  type : CType
  is : declared_type s d ≡ Ok type
  behind : r ≡ with_name s d.name (Object type)

declared_tells : (s : Scope) (d : CDecl) (r : Scope) → declared s false d ≡ Ok r → Declared s d r
declared_tells s d r e =
    let k = after_is (declared_type s d) (λ t. declared_object s false d t) r e in
    let inner : Scope = with_name s d.name (Object k.0) in
    let l = after_is (first_fitting inner (record { file = false; pos = d.pos }) k.0 d.first) (λ _. keeping ((not (is_declared_here s d.name), fault.Twice d.pos) ∷ []) inner) r k.2 in
    let m = keeping_is {A = Scope} ((not (is_declared_here s d.name), fault.Twice d.pos) ∷ []) inner r l.2 in
    record { type = k.0; is = k.1; behind = sym m.1 }

-- its name stands for it
named : (s : Scope) (n : List ℕ) (t : CType) → entity_of (with_name s n (Object t)) n ≡ Some (Object t)
named s n t = ap (λ b. cond b (Some (Object t)) (entity_of s n)) ((bytes_eq-Decides n n).1 refl)

of_object : (t u : CType) → ◌≡◌ {A = Option Entity} (Some (Object t)) (Some (Object u)) → t ≡ u
of_object t u e = cc e

-- in a scope that sees the same names it has the same type, and the scopes behind it see the same names
record Meets (s z : Scope) (d : CDecl) : Type 0 where
  type : CType
  is : declared_type s d ≡ Ok type
  there : declared_type z d ≡ Ok type
  tags : (scope_behind s (plain.Local d)).tags ≡ s.tags
  sees : SeesAll (scope_behind s (plain.Local d)) (scope_behind z (plain.Local d))

meets : (s z : Scope) (d : CDecl) (r : Scope) → SeesAll s z → declared s false d ≡ Ok r → Meets s z d
meets s z d r a e =
    let l = local_declares s z d r a e in
    let k = declared_tells s d r e in
    let m = declared_tells z d l.other l.is in
    let same : k.type ≡ m.type = of_object k.type m.type (sym (named s d.name k.type) ∙ (ap (λ y. entity_of y d.name) (sym k.behind) ∙ ((l.sees.names d.name).entity ∙ (ap (λ y. entity_of y d.name) m.behind ∙ named z d.name m.type)))) in
    let here : scope_behind s (plain.Local d) ≡ r = ap (λ q. scope_or s q) e in
    let there : scope_behind z (plain.Local d) ≡ l.other = ap (λ q. scope_or z q) l.is in
    record {
      type = k.type;
      is = k.is;
      tags = ap (λ (y : Scope). y.tags) (here ∙ k.behind);
      there = m.is ∙ ap (λ t. Ok t) (sym same);
      sees = subst (λ y. SeesAll y (scope_behind z (plain.Local d))) (sym here) (subst (λ y. SeesAll r y) (sym there) l.sees);
    }

-- ---- statements

-- the words in one scope are at most the sum in another, and the scopes behind see the same names
record Spelled (s z : Scope) (t : CStmt) : Type 0 where
  few : stmt_words z t ≤ stmt_sum words s t
  tags : (scope_behind s t).tags ≡ s.tags
  sees : SeesAll (scope_behind s t) (scope_behind z t)

record AllSpelled (s z : Scope) (ts : CStmts) (r : Scope) : Type 0 where
  few : stmts_words z ts ≤ stmts_sum words s ts
  tags : (scope_behind_all s ts).tags ≡ s.tags
  sees : SeesAll (scope_behind_all s ts) (scope_behind_all z ts)
  behind : scope_behind_all s ts ≡ r

local_spelled : (s z : Scope) (d : CDecl) (r : Scope) → LaidOut s.tags → SeesAll s z → declared s false d ≡ Ok r → Spelled s z (plain.Local d)
local_spelled s z d r laid a e =
    let k = meets s z d r a e in
    let there : object_type_in z d ≡ k.type = ap type_or_void k.there in
    record { few = by_first d.first k.type (sym k.sees.tags ∙ k.tags) (declared_object_type s d k.type k.is) k.is there; tags = k.tags; sees = k.sees }
  where
    inner : Scope
    inner = scope_behind z (plain.Local d)

    by_first : (o : Option CValue) (t : CType) → inner.tags ≡ s.tags → is_object_type s.tags t ≡ true → declared_type s d ≡ Ok t → object_type_in z d ≡ t
        → declared_words z d o ≤ 0 + (0 + ty_sum words s d.ty + first_sum words (scope_or s (declared s false d)) o + of_type (λ t. 0 + initialised_words s.tags t o) (declared_type s d))
    by_first None t same o k there = omega arith
    by_first (Some v) t same o k there =
        let object : is_object_type inner.tags (object_type_in z d) ≡ true = (λ i. is_object_type (same i) (there i)) ∙ o in
        let le : first_words inner (object_type_in z d) v ≤ words_of inner.tags (object_type_in z d) = value_spelled inner (subst LaidOut (sym same) laid) v (object_type_in z d) (inl object) in
        let size : words_of inner.tags (object_type_in z d) ≡ words_of s.tags t = λ i. words_of (same i) (there i) in
        let counted : of_type (λ t. 0 + initialised_words s.tags t (Some v)) (declared_type s d) ≡ 0 + words_of s.tags t = ap (λ q. of_type (λ t. 0 + initialised_words s.tags t (Some v)) q) k in
        omega (arith, le, size, counted)

abbrev IsSpelled : CStmt → Type 0
IsSpelled t = (s z : Scope) (w : Around) (r : Scope) → LaidOut s.tags → SeesAll s z → DeclaresInBlocks t → stated s w t ≡ Ok r → Spelled s z t

abbrev AreSpelled : CStmts → Type 0
AreSpelled ts = (s z : Scope) (w : Around) (r : Scope) → LaidOut s.tags → SeesAll s z → AllDeclareInBlocks ts → all_stated s w ts ≡ Ok r → AllSpelled s z ts r

block_for : (ss : CStmts) (test step : Option CExpr) (t : CStmt) → AreSpelled ss → IsSpelled t → IsSpelled (plain.For (plain.Block ss) test step t)
block_for ss test step t all body s z w r laid a h e =
    let head : Judged Scope = all_stated (entered s) w ss in
    let inner : Scope = scope_or s head in
    let k = three_is head (both (maybe_judged inner test) (maybe_judged inner step) (λ a _. Ok a)) (stated inner (in_loop w) t) (λ _ a _. keeping (test_rules a) s) r e in
    let behind : Scope = scope_behind_all (entered s) ss in
    let f = all (entered s) (entered z) w k.0 laid (entered_sees s z a) h.0.0 k.1.1.1 in
    let there : inner ≡ behind = ap (λ j. scope_or s j) k.1.1.1 ∙ sym f.behind in
    let g = body behind (scope_behind_all (entered z) ss) (in_loop w) k.1.1.0 (subst LaidOut (sym f.tags) laid) f.sees h.1.0 (subst (λ y. stated y (in_loop w) t ≡ Ok k.1.1.0) there k.1.1.3) in
    let fl = f.few in let gl = g.few in
    record { few = omega (arith, fl, gl); tags = refl; sees = a }

-- one whose head declares nothing
other_for : (first : CStmt) (test step : Option CExpr) (t : CStmt) (s z : Scope) (w : Around) (r : Scope) → IsSpelled first → IsSpelled t → LaidOut s.tags → SeesAll s z → DeclaresInBlocks first → DeclaresInBlocks t
    → all_three (stated s w first) (both (maybe_judged s test) (maybe_judged s step) (λ a _. Ok a)) (stated s (in_loop w) t) (λ _ a _. keeping (test_rules a) s) ≡ Ok r
    → stmt_words z first + stmt_words z t ≤ 0 + stmt_sum words s first + maybe_sum words s test + maybe_sum words s step + stmt_sum words s t
other_for first test step t s z w r head body laid a hf ht e =
    let k = three_is (stated s w first) (both (maybe_judged s test) (maybe_judged s step) (λ a _. Ok a)) (stated s (in_loop w) t) (λ _ a _. keeping (test_rules a) s) r e in
    let f = (head s z w k.0 laid a hf k.1.1.1).few in let g = (body s z (in_loop w) k.1.1.0 laid a ht k.1.1.3).few in
    omega (arith, f, g)

abbrev Within : CStmt → Type 0
Within (plain.Block ss) = AreSpelled ss
Within t = Unit {0}

for_spelled : (first : CStmt) (test step : Option CExpr) (t : CStmt) → IsSpelled first → Within first → IsSpelled t → IsSpelled (plain.For first test step t)
for_spelled (plain.Block ss) test step t head all body s z w r laid a h e = block_for ss test step t all body s z w r laid a h e
for_spelled (plain.Local d) test step t head all body s z w r laid a h e = absurd (cc h.0.1)
for_spelled first test step t head all body s z w r laid a h e = record { few = other_for first test step t s z w r head body laid a h.0.0 h.1.0 e; tags = refl; sees = a }

told_is : (x y : Scope) → ◌≡◌ {A = Judged Scope} (Ok x) (Ok y) → x ≡ y
told_is x y e = cc e

-- the scope behind a part of a `switch`
label_same : (s : Scope) (at : ℕ) (r : Judged (Option Operand)) → part_scope_or s (after r (λ a. Ok (record { scope = s; labels = record { pos = at; value = a } ∷ [] }))) ≡ s
label_same s at (Ok o) = refl
label_same s at (Err e) = refl

item_same : (s : Scope) (r : Judged Scope) (inner : Scope) → r ≡ Ok inner → part_scope_or s (after r (λ inner. Ok (record { scope = inner; labels = [] }))) ≡ inner
item_same s r inner e = ap (λ q. part_scope_or s (after q (λ inner. Ok (record { scope = inner; labels = [] })))) e

abbrev PartsAreJudged : Scope → Around → CParts → Type 0
PartsAreJudged s w ps = (labels : List CaseLabel) × (all_parts s w ps ≡ Ok labels)

mutual
  stmt_spelled : (t : CStmt) → IsSpelled t
  stmt_spelled (plain.Block ss) s z w r laid a h e = let k = after_is (all_stated (entered s) w ss) (λ _. Ok s) r e in let f = (all_spelled ss (entered s) (entered z) w k.0 laid (entered_sees s z a) h k.1).few in record { few = omega (arith, f); tags = refl; sees = a }
  stmt_spelled (plain.Local d) s z w r laid a h e = local_spelled s z d r laid a e
  stmt_spelled (plain.Do_expr x) s z w r laid a h e = record { few = omega arith; tags = refl; sees = a }
  stmt_spelled plain.Empty s z w r laid a h e = record { few = omega arith; tags = refl; sees = a }
  stmt_spelled (plain.If x t) s z w r laid a h e =
      let k = both_is (judged s x) (stated s w t) (λ a _. keeping (condition_rules a) s) r e in let f = (stmt_spelled t s z w k.1.0 laid a h.0 k.1.2).few in record { few = omega (arith, f); tags = refl; sees = a }
  stmt_spelled (plain.IfElse x t u) s z w r laid a h e =
      let k = three_is (judged s x) (stated s w t) (stated s w u) (λ a _ _. keeping (condition_rules a) s) r e in
      let f = (stmt_spelled t s z w k.1.0 laid a h.0.0 k.1.1.2).few in let g = (stmt_spelled u s z w k.1.1.0 laid a h.1.0 k.1.1.3).few in record { few = omega (arith, f, g); tags = refl; sees = a }
  stmt_spelled (plain.While x t) s z w r laid a h e =
      let k = both_is (judged s x) (stated s (in_loop w) t) (λ a _. keeping (condition_rules a) s) r e in let f = (stmt_spelled t s z (in_loop w) k.1.0 laid a h.0 k.1.2).few in record { few = omega (arith, f); tags = refl; sees = a }
  stmt_spelled (plain.Do t x) s z w r laid a h e =
      let k = both_is (judged s x) (stated s (in_loop w) t) (λ a _. keeping (condition_rules a) s) r e in let f = (stmt_spelled t s z (in_loop w) k.1.0 laid a h.0 k.1.2).few in record { few = omega (arith, f); tags = refl; sees = a }
  stmt_spelled (plain.For first test step t) s z w r laid a h e = for_spelled first test step t (λ s z w r laid a h e. stmt_spelled first s z w r laid a h e) (within first) (λ s z w r laid a h e. stmt_spelled t s z w r laid a h e) s z w r laid a h e
  stmt_spelled (plain.Return at x) s z w r laid a h e = record { few = omega arith; tags = refl; sees = a }
  stmt_spelled (plain.Break at) s z w r laid a h e = record { few = omega arith; tags = refl; sees = a }
  stmt_spelled (plain.Continue at) s z w r laid a h e = record { few = omega arith; tags = refl; sees = a }
  stmt_spelled (plain.Switch x ps) s z w r laid a h e =
      let k = both_is (judged s x) (all_parts (entered s) (in_switch w) ps) (λ a labels. keeping (switch_rules a labels) s) r e in
      let f = parts_spelled ps (entered s) (entered z) (in_switch w) laid (entered_sees s z a) h (k.1.0, k.1.2) in record { few = omega (arith, f); tags = refl; sees = a }

  within : (t : CStmt) → Within t
  within (plain.Block ss) = λ s z w r laid a h e. all_spelled ss s z w r laid a h e
  within t = tt

  all_spelled : (ss : CStmts) → AreSpelled ss
  all_spelled plain.NoStmt s z w r laid a h e = record { few = omega arith; tags = refl; sees = a; behind = told_is s r e }
  all_spelled (plain.MoreStmt t ts) s z w r laid a h e =
      let k = both_is (stated s w t) (all_stated (scope_or s (stated s w t)) w ts) (λ _ inner. Ok inner) r e in
      let inner : all_stated (scope_behind s t) w ts ≡ Ok k.1.0 = subst (λ y. all_stated y w ts ≡ Ok k.1.0) (ap (λ q. scope_or s q) k.1.1 ∙ sym (stated_behind s w t k.0 k.1.1)) k.1.2 in
      let f = stmt_spelled t s z w k.0 laid a h.0 k.1.1 in
      let g = all_spelled ts (scope_behind s t) (scope_behind z t) w k.1.0 (subst LaidOut (sym f.tags) laid) f.sees h.1 inner in
      let fl = f.few in let gl = g.few in
      record { few = omega (arith, fl, gl); tags = g.tags ∙ f.tags; sees = g.sees; behind = g.behind ∙ told_is k.1.0 r k.1.3 }

  parts_spelled : (ps : CParts) (s z : Scope) (w : Around) → LaidOut s.tags → SeesAll s z → PartsDeclareInBlocks ps → PartsAreJudged s w ps → parts_words z ps ≤ parts_sum words s ps
  parts_spelled plain.NoPart s z w laid a h e = omega arith
  parts_spelled (plain.MorePart (plain.Label at x) ps) s z w laid a h e =
      let k = both_is (part_judged s w (plain.Label at x)) (all_parts (part_scope_or s (part_judged s w (plain.Label at x))) w ps) (λ (part : PartJudged) labels. Ok (part.labels ++ labels)) e.0 e.1 in
      let f = parts_spelled ps s z w laid a h.1 (k.1.0, subst (λ y. all_parts y w ps ≡ Ok k.1.0) (label_same s at (maybe_judged s x)) k.1.2) in omega (arith, f)
  parts_spelled (plain.MorePart (plain.Item t) ps) s z w laid a h e =
      let k = both_is (part_judged s w (plain.Item t)) (all_parts (part_scope_or s (part_judged s w (plain.Item t))) w ps) (λ (part : PartJudged) labels. Ok (part.labels ++ labels)) e.0 e.1 in
      let m = after_is (stated s w t) (λ inner. Ok (record { scope = inner; labels = [] })) k.0 k.1.1 in
      let goes : part_scope_or s (part_judged s w (plain.Item t)) ≡ scope_behind s t = item_same s (stated s w t) m.0 m.1 ∙ sym (stated_behind s w t m.0 m.1) in
      let f = stmt_spelled t s z w m.0 laid a h.0 m.1 in
      let g = parts_spelled ps (scope_behind s t) (scope_behind z t) w (subst LaidOut (sym f.tags) laid) f.sees h.1 (k.1.0, subst (λ y. all_parts y w ps ≡ Ok k.1.0) goes k.1.2) in
      let fl = f.few in omega (arith, fl, g)

sees_self : (s : Scope) → SeesAll s s
sees_self s = record { tags = refl; names = λ name. record { entity = refl; defined = refl }; here = λ name e. e }

-- a body shares its scope with the parameters
pub body_spelled : (body : CStmt) (s : Scope) (w : Around) (r : Scope) → LaidOut s.tags → DeclaresInBlocks body → body_judged s w (Some body) ≡ Ok r → stmt_words s body ≤ body_sum words s body
body_spelled (plain.Block ss) s w r laid h e = let f = (all_spelled ss s (entered s) w r laid (sees_entered s) h e).few in omega (arith, f)
body_spelled t s w r laid h e = (stmt_spelled t s s w r laid (sees_self s) h e).few
