-- Typed statements in scopes that see the same names are the same with fewer operators.
use Rattle.std.proofs.Common.{◌≡◌, ℕ, List, [], ◌∷◌, ◌++◌, Option, Some, None, refl, sym, ap, ap₂, ◌∙◌, subst}
use Rattle.std.specs.Prelude.{Ok}
use Rattle.std.specs.Option.{option_map}
use Rattle.c_syntax.specs.Plain as plain
use Rattle.c_syntax.specs.Plain.{CExpr, CDecl, CStmt, CStmts, CParts}
use Rattle.c_types.specs.declared.fault.TypeFault.TheVariants as fault
use Rattle.c_types.specs.Refusals.{Judged, Rule, after, both, all_three, keeping}
use Rattle.c_types.specs.Scope.{Scope, entered}
use Rattle.c_types.specs.Operands.{Operand}
use Rattle.c_types.specs.Expressions.{judged}
use Rattle.c_types.specs.Declarations.{scope_or}
use Rattle.c_types.specs.Statements.{Around, in_loop, in_switch, condition_rules, test_rules, return_rules, switch_rules, maybe_judged, CaseLabel, PartJudged, part_scope_or, stated, all_stated, part_judged, all_parts}
use Rattle.c_types.specs.Census.{scope_behind, scope_behind_all}
use Rattle.c_fewer_types.specs.Written.{StringsAreShort}
use Rattle.c_helpers.specs.Fewer.{constant_tree, fewer, maybe_fewer, fewer_in, fewer_in_all, fewer_in_parts, fewer_in_declaration}
use Rattle.c_fewer_types.proofs.Judged.{keeping_is}
use Rattle.c_fewer_types.specs.Standing.{StmtHas, StmtsHave, PartsHave, IsDeclaration}
use Rattle.c_fewer_types.proofs.FewerTypedRules.{after_is, both_is, three_is, kept_is}
use Rattle.c_fewer_types.proofs.Behind.{stated_behind}
use Rattle.c_fewer_meaning.specs.Seeing.{SeesAll}
use Rattle.c_fewer_meaning.specs.FewerBodiesLaws.{TreesAreTheSame}
use Rattle.c_fewer_meaning.proofs.Expressions.{judged_same, maybe_judged_same, constant_same, fewer_same, maybe_fewer_same, entered_sees, local_declares, declaration_same}

abbrev Short : CStmt → Type 0
Short t = StmtHas StringsAreShort IsDeclaration t

-- what a statement's judgement, and its tree, are in another scope
record Same (s z : Scope) (t : CStmt) (q : Judged Scope) (r : Scope) : Type 0 where
  other : Scope
  is : q ≡ Ok other
  sees : SeesAll r other
  tree : fewer_in z t ≡ fewer_in s t

-- those of a block, with the scopes behind it
record AllSame (s z : Scope) (ss : CStmts) (q : Judged Scope) (r : Scope) : Type 0 where
  other : Scope
  is : q ≡ Ok other
  sees : SeesAll r other
  tree : fewer_in_all z ss ≡ fewer_in_all s ss
  behind : scope_behind_all s ss ≡ r
  far : scope_behind_all z ss ≡ other

-- labels have the same words
record PartsSame (s z : Scope) (w : Around) (ps : CParts) (labels : List CaseLabel) : Type 0 where
  is : all_parts z w ps ≡ Ok labels
  tree : fewer_in_parts z ps ≡ fewer_in_parts s ps

abbrev told : Scope → Judged Scope
told s = Ok s

told_is : (x y : Scope) → told x ≡ told y → x ≡ y
told_is x y e = cc e

-- a statement that declares nothing, with the rules of its own
ruled : (s z : Scope) (t : CStmt) (q : Judged Scope) (rules : List Rule) (r : Scope) → SeesAll s z → keeping rules s ≡ Ok r → q ≡ keeping rules z → fewer_in z t ≡ fewer_in s t → Same s z t q r
ruled s z t q rules r a e g tree =
    let k = keeping_is {A = Scope} rules s r e in
    record { other = z; is = g ∙ kept_is {A = Scope} rules z k.0; sees = subst (λ x. SeesAll x z) k.1 a; tree = tree }

-- or without any
plainly : (s z : Scope) (t : CStmt) (q : Judged Scope) (r : Scope) → SeesAll s z → told s ≡ Ok r → q ≡ told z → fewer_in z t ≡ fewer_in s t → Same s z t q r
plainly s z t q r a e g tree = record { other = z; is = g; sees = subst (λ x. SeesAll x z) (told_is s r e) a; tree = tree }

abbrev Stays : CStmt → Type 0
Stays t = (s z : Scope) (w : Around) (r : Scope) → SeesAll s z → Short t → stated s w t ≡ Ok r → Same s z t (stated z w t) r

abbrev AllStay : CStmts → Type 0
AllStay ss = (s z : Scope) (w : Around) (r : Scope) → SeesAll s z → StmtsHave StringsAreShort IsDeclaration ss → all_stated s w ss ≡ Ok r → AllSame s z ss (all_stated z w ss) r

abbrev PartsStay : CParts → Type 0
PartsStay ps = (s z : Scope) (w : Around) (labels : List CaseLabel) → SeesAll s z → PartsHave StringsAreShort IsDeclaration ps → all_parts s w ps ≡ Ok labels → PartsSame s z w ps labels

local_stays : (d : CDecl) → Stays (plain.Local d)
local_stays d s z w r a h e =
    let m = local_declares s z d r a e in
    let here : scope_behind s (plain.Local d) ≡ r = ap (λ q. scope_or s q) e in
    let there : scope_behind z (plain.Local d) ≡ m.other = ap (λ q. scope_or z q) m.is in
    record {
      other = m.other;
      is = m.is;
      sees = m.sees;
      tree =
          ap (λ x. plain.Local (fewer_in_declaration z (fewer x) d)) there
          ∙ (ap plain.Local (declaration_same s z r m.other d a m.sees) ∙ ap (λ x. plain.Local (fewer_in_declaration s (fewer x) d)) (sym here));
    }

-- a condition and a body
tested : (s z : Scope) (w : Around) (x : CExpr) (t whole : CStmt) (r : Scope) (m : CExpr → CStmt → CStmt) → fewer_in z whole ≡ m (fewer z x) (fewer_in z t) → m (fewer s x) (fewer_in s t) ≡ fewer_in s whole → SeesAll s z → ((q : Scope) → stated s w t ≡ Ok q → Same s z t (stated z w t) q)
    → both (judged s x) (stated s w t) (λ a _. keeping (condition_rules a) s) ≡ Ok r → Same s z whole (both (judged z x) (stated z w t) (λ a _. keeping (condition_rules a) z)) r
tested s z w x t whole r m first last a body e =
    let l = both_is (judged s x) (stated s w t) (λ a _. keeping (condition_rules a) s) r e in
    let k = body l.1.0 l.1.2 in
    let f = fewer_same s z a x in
    ruled s z whole (both (judged z x) (stated z w t) (λ a _. keeping (condition_rules a) z)) (condition_rules l.0) r a l.1.3
    (ap₂ (λ q u. both {A = Operand} {B = Scope} q u (λ a _. keeping (condition_rules a) z)) (sym (judged_same s z a x) ∙ l.1.1) k.is)
    (first ∙ (ap₂ m (sym f) k.tree ∙ last))

-- two branches
chosen : (x : CExpr) (t u : CStmt) → Stays t → Stays u → Stays (plain.IfElse x t u)
chosen x t u one two s z w r a h e =
    let l = three_is (judged s x) (stated s w t) (stated s w u) (λ a _ _. keeping (condition_rules a) s) r e in
    let j = sym (judged_same s z a x) ∙ l.1.1.1 in
    let k = one s z w l.1.0 a h.1 l.1.1.2 in
    let m = two s z w l.1.1.0 a h.2 l.1.1.3 in
    let f = sym (fewer_same s z a x) in
    let kt = k.tree in
    let mt = m.tree in
    let ki = k.is in
    let mi = m.is in
    ruled s z (plain.IfElse x t u) (stated z w (plain.IfElse x t u)) (condition_rules l.0) r a l.1.1.4
    (λ i. all_three {A = Operand} {B = Scope} {C = Scope} (j i) (ki i) (mi i) (λ a _ _. keeping (condition_rules a) z))
    (λ i. plain.IfElse (f i) (kt i) (mt i))

-- ---- a `for`

abbrev tests : Scope → Option CExpr → Option CExpr → Judged (Option Operand)
tests s check step = both (maybe_judged s check) (maybe_judged s step) (λ a _. Ok a)

abbrev looped : Scope → Judged Scope → Judged (Option Operand) → Judged Scope → Judged Scope
looped s head test body = all_three head test body (λ _ a _. keeping (test_rules a) s)

tests_same : (s z : Scope) (check step : Option CExpr) → SeesAll s z → tests z check step ≡ tests s check step
tests_same s z check step a = ap₂ (λ q u. both {A = Option Operand} {B = Option Operand} q u (λ a _. Ok a)) (sym (maybe_judged_same s z a check)) (sym (maybe_judged_same s z a step))

block_for : (ss : CStmts) (check step : Option CExpr) (t : CStmt) → AllStay ss → Stays t → Stays (plain.For (plain.Block ss) check step t)
block_for ss check step t all body s z w r a h e =
    let head : Judged Scope = all_stated (entered s) w ss in
    let head' : Judged Scope = all_stated (entered z) w ss in
    let whole : CStmt = plain.For (plain.Block ss) check step t in
    let l = three_is head (tests (scope_or s head) check step) (stated (scope_or s head) (in_loop w) t) (λ _ a _. keeping (test_rules a) s) r e in
    let q : Scope = l.0 in
    let m = all (entered s) (entered z) w q (entered_sees s z a) h.1 l.1.1.1 in
    let q' : Scope = m.other in
    let inside : looped s head (tests q check step) (stated q (in_loop w) t) ≡ Ok r = subst (λ x. looped s head (tests x check step) (stated x (in_loop w) t) ≡ Ok r) (ap (λ j. scope_or s j) l.1.1.1) e in
    let n = three_is head (tests q check step) (stated q (in_loop w) t) (λ _ a _. keeping (test_rules a) s) r inside in
    let k = body q q' (in_loop w) n.1.1.0 m.sees h.4 n.1.1.3 in
    let ki = k.is in
    let mi = m.is in
    let ti : tests q' check step ≡ Ok n.1.0 = tests_same q q' check step m.sees ∙ n.1.1.2 in
    let there : looped z head' (tests q' check step) (stated q' (in_loop w) t) ≡ keeping (test_rules n.1.0) z = λ i. looped z (mi i) (ti i) (ki i) in
    let is : looped z head' (tests (scope_or z head') check step) (stated (scope_or z head') (in_loop w) t) ≡ keeping (test_rules n.1.0) z =
    subst (λ x. looped z head' (tests x check step) (stated x (in_loop w) t) ≡ keeping (test_rules n.1.0) z) (sym (ap (λ j. scope_or z j) m.is)) there in
    let c = sym (maybe_fewer_same q q' m.sees check) in
    let d = sym (maybe_fewer_same q q' m.sees step) in
    let mt = m.tree in
    let kt = k.tree in
    let middle : plain.For (plain.Block (fewer_in_all (entered z) ss)) (maybe_fewer q' check) (maybe_fewer q' step) (fewer_in q' t) ≡ plain.For (plain.Block (fewer_in_all (entered s) ss)) (maybe_fewer q check) (maybe_fewer q step) (fewer_in q t) =
    λ i. plain.For (plain.Block (mt i)) (c i) (d i) (kt i) in
    ruled s z whole (stated z w whole) (test_rules n.1.0) r a n.1.1.4 is
    (ap (λ x. plain.For (plain.Block (fewer_in_all (entered z) ss)) (maybe_fewer x check) (maybe_fewer x step) (fewer_in x t)) m.far
    ∙ (middle ∙ ap (λ x. plain.For (plain.Block (fewer_in_all (entered s) ss)) (maybe_fewer x check) (maybe_fewer x step) (fewer_in x t)) (sym m.behind)))

other_for : (first : CStmt) (check step : Option CExpr) (t whole : CStmt) (s z : Scope) (w : Around) (r : Scope) → Stays first → Stays t → SeesAll s z → Short first → Short t
    → fewer_in z whole ≡ plain.For (fewer_in z first) (maybe_fewer z check) (maybe_fewer z step) (fewer_in z t) → plain.For (fewer_in s first) (maybe_fewer s check) (maybe_fewer s step) (fewer_in s t) ≡ fewer_in s whole
    → looped s (stated s w first) (tests s check step) (stated s (in_loop w) t) ≡ Ok r → Same s z whole (looped z (stated z w first) (tests z check step) (stated z (in_loop w) t)) r
other_for first check step t whole s z w r one body a hf ht begin last e =
    let l = three_is (stated s w first) (tests s check step) (stated s (in_loop w) t) (λ _ a _. keeping (test_rules a) s) r e in
    let m = one s z w l.0 a hf l.1.1.1 in
    let k = body s z (in_loop w) l.1.1.0 a ht l.1.1.3 in
    let mi = m.is in
    let ki = k.is in
    let ti : tests z check step ≡ Ok l.1.0 = tests_same s z check step a ∙ l.1.1.2 in
    let c = sym (maybe_fewer_same s z a check) in
    let d = sym (maybe_fewer_same s z a step) in
    let mt = m.tree in
    let kt = k.tree in
    let middle : plain.For (fewer_in z first) (maybe_fewer z check) (maybe_fewer z step) (fewer_in z t) ≡ plain.For (fewer_in s first) (maybe_fewer s check) (maybe_fewer s step) (fewer_in s t) = λ i. plain.For (mt i) (c i) (d i) (kt i) in
    ruled s z whole (looped z (stated z w first) (tests z check step) (stated z (in_loop w) t)) (test_rules l.1.0) r a l.1.1.4 (λ i. looped z (mi i) (ti i) (ki i)) (begin ∙ (middle ∙ last))

-- ---- parts of a `switch`

label_stays : (at : ℕ) (x : Option CExpr) (qs : CParts) → PartsStay qs → PartsStay (plain.MorePart (plain.Label at x) qs)
label_stays at x qs all s z w labels a h e =
    let l = both_is (part_judged s w (plain.Label at x)) (all_parts (part_scope_or s (part_judged s w (plain.Label at x))) w qs) (λ part labels. Ok (part.labels ++ labels)) labels e in
    let k = after_is (maybe_judged s x) (λ v. Ok (record { scope = s; labels = record { pos = at; value = v } ∷ [] })) l.0 l.1.1 in
    let part : PartJudged = l.0 in
    let same : record { scope = s; labels = record { pos = at; value = k.0 } ∷ [] } ≡ part = cc k.2 in
    let scope : part_scope_or s (part_judged s w (plain.Label at x)) ≡ s = ap (λ q. part_scope_or s q) l.1.1 ∙ sym (ap (λ (z : PartJudged). z.scope) same) in
    let rest = all s z w l.1.0 a h.1 (subst (λ y. all_parts y w qs ≡ Ok l.1.0) scope l.1.2) in
    let other : PartJudged = record { scope = z; labels = record { pos = at; value = k.0 } ∷ [] } in
    let first : part_judged z w (plain.Label at x) ≡ Ok other = ap (λ q. after {A = Option Operand} {B = PartJudged} q (λ v. Ok (record { scope = z; labels = record { pos = at; value = v } ∷ [] }))) (sym (maybe_judged_same s z a x) ∙ k.1) in
    let words : part.labels ≡ other.labels = sym (ap (λ (z : PartJudged). z.labels) same) in
    let label : option_map (constant_tree z) x ≡ option_map (constant_tree s) x = label_tree x in
    let tree = rest.tree in
    record {
      is =
          ap (λ u. both {A = PartJudged} {B = List CaseLabel} u (all_parts (part_scope_or z u) w qs) (λ part labels. Ok (part.labels ++ labels))) first
          ∙ (ap (λ u. both {A = PartJudged} {B = List CaseLabel} (Ok other) u (λ part labels. Ok (part.labels ++ labels))) rest.is ∙ (ap (λ ls. Ok (ls ++ l.1.0)) (sym words) ∙ l.1.3));
      tree = λ i. plain.MorePart (plain.Label at (label i)) (tree i);
    }
  where
    label_tree : (x : Option CExpr) → option_map (constant_tree z) x ≡ option_map (constant_tree s) x
    label_tree None = refl
    label_tree (Some y) = ap Some (sym (constant_same s z a y))

item_stays : (t : CStmt) (qs : CParts) → Stays t → PartsStay qs → PartsStay (plain.MorePart (plain.Item t) qs)
item_stays t qs one all s z w labels a h e =
    let l = both_is (part_judged s w (plain.Item t)) (all_parts (part_scope_or s (part_judged s w (plain.Item t))) w qs) (λ part labels. Ok (part.labels ++ labels)) labels e in
    let k = after_is (stated s w t) (λ inner. Ok (record { scope = inner; labels = [] })) l.0 l.1.1 in
    let part : PartJudged = l.0 in
    let same : record { scope = k.0; labels = [] } ≡ part = cc k.2 in
    let m = one s z w k.0 a h.0 k.1 in
    let scope : part_scope_or s (part_judged s w (plain.Item t)) ≡ k.0 = ap (λ q. part_scope_or s q) l.1.1 ∙ sym (ap (λ (z : PartJudged). z.scope) same) in
    let rest = all k.0 m.other w l.1.0 m.sees h.1 (subst (λ y. all_parts y w qs ≡ Ok l.1.0) scope l.1.2) in
    let other : PartJudged = record { scope = m.other; labels = [] } in
    let first : part_judged z w (plain.Item t) ≡ Ok other = ap (λ q. after {A = Scope} {B = PartJudged} q (λ inner. Ok (record { scope = inner; labels = [] }))) m.is in
    let words : part.labels ≡ [] = sym (ap (λ (z : PartJudged). z.labels) same) in
    let mt = m.tree in
    let tree : fewer_in_parts (scope_behind z t) qs ≡ fewer_in_parts (scope_behind s t) qs =
    ap (λ x. fewer_in_parts x qs) (stated_behind z w t m.other m.is) ∙ (rest.tree ∙ ap (λ x. fewer_in_parts x qs) (sym (stated_behind s w t k.0 k.1))) in
    record {
      is =
          ap (λ u. both {A = PartJudged} {B = List CaseLabel} u (all_parts (part_scope_or z u) w qs) (λ part labels. Ok (part.labels ++ labels))) first
          ∙ (ap (λ u. both {A = PartJudged} {B = List CaseLabel} (Ok other) u (λ part labels. Ok (part.labels ++ labels))) rest.is ∙ (ap (λ ls. Ok (ls ++ l.1.0)) (sym words) ∙ l.1.3));
      tree = λ i. plain.MorePart (plain.Item (mt i)) (tree i);
    }

-- ---- all forms

more_stay : (t : CStmt) (ts : CStmts) → Stays t → AllStay ts → AllStay (plain.MoreStmt t ts)
more_stay t ts one all s z w r a h e =
    let l = both_is (stated s w t) (all_stated (scope_or s (stated s w t)) w ts) (λ _ inner. told inner) r e in
    let m = one s z w l.0 a h.0 l.1.1 in
    let before : scope_or s (stated s w t) ≡ l.0 = ap (λ q. scope_or s q) l.1.1 in
    let n = all l.0 m.other w l.1.0 m.sees h.1 (subst (λ x. all_stated x w ts ≡ Ok l.1.0) before l.1.2) in
    let same : l.1.0 ≡ r = told_is l.1.0 r l.1.3 in
    let here : scope_behind s t ≡ l.0 = stated_behind s w t l.0 l.1.1 in
    let there : scope_behind z t ≡ m.other = stated_behind z w t m.other m.is in
    let mt = m.tree in
    let nt : fewer_in_all (scope_behind z t) ts ≡ fewer_in_all (scope_behind s t) ts = ap (λ x. fewer_in_all x ts) there ∙ (n.tree ∙ ap (λ x. fewer_in_all x ts) (sym here)) in
    record {
      other = n.other;
      is = ap (λ q. both {A = Scope} {B = Scope} q (all_stated (scope_or z q) w ts) (λ _ inner. told inner)) m.is ∙ ap (λ q. both {A = Scope} {B = Scope} (told m.other) q (λ _ inner. told inner)) n.is;
      sees = subst (λ x. SeesAll x n.other) same n.sees;
      tree = λ i. plain.MoreStmt (mt i) (nt i);
      behind = ap (λ x. scope_behind_all x ts) here ∙ (n.behind ∙ same);
      far = ap (λ x. scope_behind_all x ts) there ∙ n.far;
    }

block_stays : (ss : CStmts) → AllStay ss → Stays (plain.Block ss)
block_stays ss all s z w r a h e =
    let l = after_is (all_stated (entered s) w ss) (λ _. told s) r e in
    let m = all (entered s) (entered z) w l.0 (entered_sees s z a) h l.1 in
    plainly s z (plain.Block ss) (stated z w (plain.Block ss)) r a l.2 (ap (λ q. after {A = Scope} q (λ _. told z)) m.is) (ap plain.Block m.tree)

effect_stays : (x : CExpr) → Stays (plain.Do_expr x)
effect_stays x s z w r a h e =
    let l = after_is (judged s x) (λ _. told s) r e in
    plainly s z (plain.Do_expr x) (stated z w (plain.Do_expr x)) r a l.2 (ap (λ q. after {A = Operand} q (λ _. told z)) (sym (judged_same s z a x) ∙ l.1)) (ap plain.Do_expr (sym (fewer_same s z a x)))

return_stays : (at : ℕ) (x : Option CExpr) → Stays (plain.Return at x)
return_stays at x s z w r a h e =
    let l = after_is (maybe_judged s x) (λ o. keeping (return_rules at w.result o) s) r e in
    ruled s z (plain.Return at x) (stated z w (plain.Return at x)) (return_rules at w.result l.0) r a l.2
    (ap (λ q. after {A = Option Operand} q (λ o. keeping (return_rules at w.result o) z)) (sym (maybe_judged_same s z a x) ∙ l.1)) (ap (plain.Return at) (sym (maybe_fewer_same s z a x)))

switch_stays : (x : CExpr) (ps : CParts) → PartsStay ps → Stays (plain.Switch x ps)
switch_stays x ps all s z w r a h e =
    let l = both_is (judged s x) (all_parts (entered s) (in_switch w) ps) (λ a labels. keeping (switch_rules a labels) s) r e in
    let m = all (entered s) (entered z) (in_switch w) l.1.0 (entered_sees s z a) h.1 l.1.2 in
    let f = sym (fewer_same s z a x) in
    let tree = m.tree in
    ruled s z (plain.Switch x ps) (stated z w (plain.Switch x ps)) (switch_rules l.0 l.1.0) r a l.1.3
    (ap₂ (λ q u. both {A = Operand} {B = List CaseLabel} q u (λ a labels. keeping (switch_rules a labels) z)) (sym (judged_same s z a x) ∙ l.1.1) m.is) (λ i. plain.Switch (f i) (tree i))

mutual
  so : (t : CStmt) → Stays t
  so (plain.Block ss) s z w r a h e = block_stays ss (λ s z w r a h e. all_so ss s z w r a h e) s z w r a h e
  so (plain.Local d) s z w r a h e = local_stays d s z w r a h e
  so (plain.Do_expr x) s z w r a h e = effect_stays x s z w r a h e
  so plain.Empty s z w r a h e = plainly s z plain.Empty (told z) r a e refl refl
  so (plain.If x t) s z w r a h e = tested s z w x t (plain.If x t) r (λ y u. plain.If y u) refl refl a (λ q k. so t s z w q a h.1 k) e
  so (plain.IfElse x t u) s z w r a h e = chosen x t u (λ s z w r a h e. so t s z w r a h e) (λ s z w r a h e. so u s z w r a h e) s z w r a h e
  so (plain.While x t) s z w r a h e = tested s z (in_loop w) x t (plain.While x t) r (λ y u. plain.While y u) refl refl a (λ q k. so t s z (in_loop w) q a h.1 k) e
  so (plain.Do t x) s z w r a h e = tested s z (in_loop w) x t (plain.Do t x) r (λ y u. plain.Do u y) refl refl a (λ q k. so t s z (in_loop w) q a h.1 k) e
  so (plain.For (plain.Block ss) check step t) s z w r a h e = block_for ss check step t (λ s z w r a h e. all_so ss s z w r a h e) (λ s z w r a h e. so t s z w r a h e) s z w r a h e
  so (plain.For (plain.Local d) check step t) s z w r a h e = absurd (cc h.0)
  so (plain.For first check step t) s z w r a h e = other_for first check step t (plain.For first check step t) s z w r (λ s z w r a h e. so first s z w r a h e) (λ s z w r a h e. so t s z w r a h e) a h.1 h.4 refl refl e
  so (plain.Return at x) s z w r a h e = return_stays at x s z w r a h e
  so (plain.Break at) s z w r a h e = ruled s z (plain.Break at) (stated z w (plain.Break at)) ((w.breaks, fault.Mismatch at) ∷ []) r a e refl refl
  so (plain.Continue at) s z w r a h e = ruled s z (plain.Continue at) (stated z w (plain.Continue at)) ((w.continues, fault.Mismatch at) ∷ []) r a e refl refl
  so (plain.Switch x ps) s z w r a h e = switch_stays x ps (λ s z w r a h e. parts_so ps s z w r a h e) s z w r a h e

  all_so : (ss : CStmts) → AllStay ss
  all_so plain.NoStmt s z w r a h e = let same : s ≡ r = told_is s r e in record { other = z; is = refl; sees = subst (λ x. SeesAll x z) same a; tree = refl; behind = same; far = refl }
  all_so (plain.MoreStmt t ts) s z w r a h e = more_stay t ts (λ s z w r a h e. so t s z w r a h e) (λ s z w r a h e. all_so ts s z w r a h e) s z w r a h e

  parts_so : (ps : CParts) → PartsStay ps
  parts_so plain.NoPart s z w labels a h e = record { is = e; tree = refl }
  parts_so (plain.MorePart (plain.Label at x) qs) s z w labels a h e = label_stays at x qs (λ s z w r a h e. parts_so qs s z w r a h e) s z w labels a h e
  parts_so (plain.MorePart (plain.Item t) qs) s z w labels a h e = item_stays t qs (λ s z w r a h e. so t s z w r a h e) (λ s z w r a h e. parts_so qs s z w r a h e) s z w labels a h e

-- those of a block, in scopes that see the same
pub block_tree : (s z : Scope) (w : Around) (ss : CStmts) (r : Scope) → SeesAll s z → StmtsHave StringsAreShort IsDeclaration ss → all_stated s w ss ≡ Ok r → (other : Scope) × (all_stated z w ss ≡ Ok other) × (fewer_in_all z ss ≡ fewer_in_all s ss)
block_tree s z w ss r a h e = let k = all_so ss s z w r a h e in (k.other, k.is, k.tree)

pub trees_are_the_same : TreesAreTheSame
trees_are_the_same s z w t r a h e = let k = so t s z w r a h e in (k.other, k.is, k.sees, k.tree)
