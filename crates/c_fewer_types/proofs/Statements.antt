-- Statements stay typed, and the scopes behind them stand for each other.
use Rattle.std.proofs.Common.{◌≡◌, ℕ, List, [], ◌∷◌, ◌++◌, Option, Some, None, true, false, refl, sym, ap, ap₂, ◌∙◌, subst}
use Rattle.std.specs.Prelude.{Ok}
use Rattle.std.specs.Option.{option_map}
use Rattle.c_syntax.specs.Plain as plain
use Rattle.c_syntax.specs.Plain.{CExpr, CDecl, CStmt, CStmts, CPart, CParts}
use Rattle.c_types.specs.declared.fault.TypeFault.TheVariants as fault
use Rattle.c_types.specs.Refusals.{Judged, Rule, after, both, all_three, broken, keeping}
use Rattle.c_types.specs.Scope.{Scope, entered}
use Rattle.c_types.specs.Operands.{Operand}
use Rattle.c_types.specs.Expressions.{judged}
use Rattle.c_types.specs.Declarations.{declared, scope_or}
use Rattle.c_types.specs.Statements.{Around, in_loop, in_switch, condition_rules, test_rules, return_rules, switch_rules, maybe_judged, CaseLabel, PartJudged, part_scope_or, stated, all_stated, part_judged, all_parts}
use Rattle.c_types.specs.Census.{scope_behind, scope_behind_all, scope_behind_part}
use Rattle.c_fewer_types.specs.AsGood.{IsAsGood}
use Rattle.c_alike.specs.Alike.{EachName}
use Rattle.c_alike.proofs.Scopes.{each}
use Rattle.c_fewer_types.specs.Written.{StringsAreShort}
use Rattle.c_helpers.specs.Fewer.{fewer, constant_tree, maybe_fewer, with_values, fewer_in, fewer_in_all, fewer_in_part, fewer_in_parts, fewer_in_declaration}
use Rattle.c_fewer_types.specs.Stands.{NameStands}
use Rattle.c_fewer_types.proofs.Judged.{keeping_is}
use Rattle.c_fewer_types.proofs.Kept.{types_are_kept}
use Rattle.c_fewer_types.specs.Standing.{ScopesStand, MaybeHas, FirstHas, StmtHas, StmtsHave, PartHas, PartsHave, IsDeclaration, AnyDeclaration}
use Rattle.c_fewer_types.specs.FewerTypedLaws.{StatementsStayTyped}
use Rattle.c_fewer_types.proofs.Scopes.{entered_stand}
use Rattle.c_fewer_types.proofs.FewerTypedRules.{after_is, both_is, three_is, kept_is, conditions_too, MaybeGood, tests_too, returns_too}
use Rattle.c_fewer_types.proofs.Declared.{Declares, local_too}
use Rattle.c_fewer_types.proofs.Labels.{LabelsStand, labels_together, maybe_label, switch_too}

abbrev Short : CStmt → Type 0
Short t = StmtHas StringsAreShort IsDeclaration t

-- ---- what a statement's judgement becomes

-- a statement that was Ok with a scope behind it, which is the one that a sum over its nodes takes; in the other text it is Ok too
pub record Goes (P : List ℕ → Type 0) (s : Scope) (t : CStmt) (q : Judged Scope) (r : Scope) : Type 0 where
  pub other : Scope
  pub is : q ≡ Ok other
  pub stand : ScopesStand P r other
  pub behind : scope_behind s t ≡ r

pub record GoesOn (P : List ℕ → Type 0) (s : Scope) (ss : CStmts) (q : Judged Scope) (r : Scope) : Type 0 where
  pub other : Scope
  pub is : q ≡ Ok other
  pub stand : ScopesStand P r other
  pub behind : scope_behind_all s ss ≡ r

pub record PartGoes (P : List ℕ → Type 0) (s : Scope) (p : CPart) (q : Judged PartJudged) (r : PartJudged) : Type 0 where
  pub other : PartJudged
  pub is : q ≡ Ok other
  pub stand : ScopesStand P r.scope other.scope
  pub labels : LabelsStand r.labels other.labels
  pub behind : scope_behind_part s p ≡ r.scope

pub record PartsGo (q : Judged (List CaseLabel)) (r : List CaseLabel) : Type 0 where
  pub other : List CaseLabel
  pub is : q ≡ Ok other
  pub labels : LabelsStand r other

-- with the rules of its own
kept : (P : List ℕ → Type 0) (s s' : Scope) (t : CStmt) (q : Judged Scope) (rules rules' : List Rule) (r : Scope) → ScopesStand P s s' → scope_behind s t ≡ s → keeping rules s ≡ Ok r → (broken rules ≡ None → broken rules' ≡ None) → q ≡ keeping rules' s' → Goes P s t q r
kept P s s' t q rules rules' r a b e f g =
    let k = keeping_is {A = Scope} rules s r e in
    record { other = s'; is = g ∙ kept_is {A = Scope} rules' s' (f k.0); stand = subst (λ z. ScopesStand P z s') k.1 a; behind = b ∙ k.1 }

-- without any
same_goes : (P : List ℕ → Type 0) (s s' : Scope) (t : CStmt) (q : Judged Scope) (r : Scope) → ScopesStand P s s' → scope_behind s t ≡ s → s ≡ r → q ≡ Ok s' → Goes P s t q r
same_goes P s s' t q r a b e g = record { other = s'; is = g; stand = subst (λ z. ScopesStand P z s') e a; behind = b ∙ e }

abbrev told : Scope → Judged Scope
told s = Ok s

ok_is : (x y : Scope) → told x ≡ told y → x ≡ y
ok_is x y e = cc e

-- ---- expressions

module _ (P : List ℕ → Type 0) where
  expr_too : (s s' : Scope) (e : CExpr) (x : Operand) → ScopesStand P s s' → StringsAreShort e → EachName P (fewer s e) → judged s e ≡ Ok x → (y : Operand) × (judged s' (fewer s e) ≡ Ok y) × IsAsGood x y
  expr_too s s' e x a h p k = types_are_kept s s' e a.tags a.written a.built_in h (each P (NameStands s s') a.names (fewer s e) p) x k

  maybe_too : (s s' : Scope) (e : Option CExpr) (o : Option Operand) → ScopesStand P s s' → MaybeHas StringsAreShort e → MaybeHas (EachName P) (maybe_fewer s e) → maybe_judged s e ≡ Ok o → (p : Option Operand) × (maybe_judged s' (maybe_fewer s e) ≡ Ok p) × MaybeGood o p
  maybe_too s s' None o a h p k = let same : None ≡ o = cc k in (None, refl, subst (λ z. MaybeGood z None) same tt)
  maybe_too s s' (Some e) o a h p k =
      let l = after_is (judged s e) (λ x. Ok (Some x)) o k in
      let same : Some l.0 ≡ o = cc l.2 in
      let m = expr_too s s' e l.0 a h p l.1 in
      (Some m.0, ap (λ r. after {A = Operand} r (λ x. Ok (Some x))) m.1, subst (λ z. MaybeGood z (Some m.0)) same m.2)

  -- the two of a `for`, which is judged in another scope where its head declares
  abbrev tests : Scope → Option CExpr → Option CExpr → Judged (Option Operand)
  tests s test step = both (maybe_judged s test) (maybe_judged s step) (λ a _. Ok a)

  tests_judged : (s s' : Scope) (test step : Option CExpr) (o : Option Operand) → ScopesStand P s s' → MaybeHas StringsAreShort test → MaybeHas StringsAreShort step → MaybeHas (EachName P) (maybe_fewer s test) → MaybeHas (EachName P) (maybe_fewer s step) → tests s test step ≡ Ok o
      → (p : Option Operand) × (tests s' (maybe_fewer s test) (maybe_fewer s step) ≡ Ok p) × MaybeGood o p
  tests_judged s s' test step o a h i p q k =
      let l = both_is (maybe_judged s test) (maybe_judged s step) (λ a _. Ok a) o k in
      let same : l.0 ≡ o = cc l.1.3 in
      let m = maybe_too s s' test l.0 a h p l.1.1 in
      let n = maybe_too s s' step l.1.0 a i q l.1.2 in
      (m.0, ap₂ (λ r q. both {A = Option Operand} {B = Option Operand} r q (λ a _. Ok a)) m.1 n.1, subst (λ z. MaybeGood z m.0) same m.2)

  abbrev Stated : CStmt → Type 0
  Stated t = (s s' : Scope) (w : Around) (r : Scope) → ScopesStand P s s' → Short t → StmtHas (EachName P) AnyDeclaration (fewer_in s t) → stated s w t ≡ Ok r → Goes P s t (stated s' w (fewer_in s t)) r

  abbrev AllStated : CStmts → Type 0
  AllStated ss = (s s' : Scope) (w : Around) (r : Scope) → ScopesStand P s s' → StmtsHave StringsAreShort IsDeclaration ss → StmtsHave (EachName P) AnyDeclaration (fewer_in_all s ss) → all_stated s w ss ≡ Ok r → GoesOn P s ss (all_stated s' w (fewer_in_all s ss)) r

  local_goes : (d : CDecl) → Stated (plain.Local d)
  local_goes d s s' w r a h p e =
      let k : scope_behind s (plain.Local d) ≡ r = ap (λ q. scope_or s q) e in
      let l : Declares P s s' false d (fewer_in_declaration s (fewer r) d) r = local_too P s s' d r a h.0 h.1 (subst (λ z. FirstHas (EachName P) (option_map (with_values (fewer z)) d.first)) k p.1) e in
      record { other = l.other; is = subst (λ z. declared s' false (fewer_in_declaration s (fewer z) d) ≡ Ok l.other) (sym k) l.is; stand = l.stand; behind = k }

  -- a condition and a body
  loop_goes : (s s' : Scope) (w : Around) (e : CExpr) (t whole : CStmt) (r : Scope) → ScopesStand P s s' → scope_behind s whole ≡ s → StringsAreShort e → EachName P (fewer s e)
      → ((q : Scope) → stated s w t ≡ Ok q → Goes P s t (stated s' w (fewer_in s t)) q) → both (judged s e) (stated s w t) (λ a _. keeping (condition_rules a) s) ≡ Ok r → Goes P s whole (both (judged s' (fewer s e)) (stated s' w (fewer_in s t)) (λ a _. keeping (condition_rules a) s')) r
  loop_goes s s' w e t whole r a b h p body k =
      let l = both_is (judged s e) (stated s w t) (λ a _. keeping (condition_rules a) s) r k in
      let x = expr_too s s' e l.0 a h p l.1.1 in
      let y = body l.1.0 l.1.2 in
      kept P s s' whole (both (judged s' (fewer s e)) (stated s' w (fewer_in s t)) (λ a _. keeping (condition_rules a) s')) (condition_rules l.0) (condition_rules x.0) r a b l.1.3 (conditions_too l.0 x.0 x.2)
      (ap₂ (λ r q. both {A = Operand} {B = Scope} r q (λ a _. keeping (condition_rules a) s')) x.1 y.is)

  choice_goes : (s s' : Scope) (w : Around) (e : CExpr) (t u : CStmt) (r : Scope) → ScopesStand P s s' → StringsAreShort e → EachName P (fewer s e)
      → ((q : Scope) → stated s w t ≡ Ok q → Goes P s t (stated s' w (fewer_in s t)) q) → ((q : Scope) → stated s w u ≡ Ok q → Goes P s u (stated s' w (fewer_in s u)) q)
      → stated s w (plain.IfElse e t u) ≡ Ok r → Goes P s (plain.IfElse e t u) (stated s' w (plain.IfElse (fewer s e) (fewer_in s t) (fewer_in s u))) r
  choice_goes s s' w e t u r a h p first second k =
      let l = three_is (judged s e) (stated s w t) (stated s w u) (λ a _ _. keeping (condition_rules a) s) r k in
      let x = expr_too s s' e l.0 a h p l.1.1.1 in
      let y = first l.1.0 l.1.1.2 in
      let z = second l.1.1.0 l.1.1.3 in
      kept P s s' (plain.IfElse e t u) (stated s' w (plain.IfElse (fewer s e) (fewer_in s t) (fewer_in s u))) (condition_rules l.0) (condition_rules x.0) r a refl l.1.1.4 (conditions_too l.0 x.0 x.2)
      (λ i. all_three {A = Operand} {B = Scope} {C = Scope} (x.1 i) (y.is i) (z.is i) (λ a _ _. keeping (condition_rules a) s'))

  -- the judgement of a `for`: its head, its test and step, and its body
  abbrev looped : Scope → Judged Scope → Judged (Option Operand) → Judged Scope → Judged Scope
  looped s head test body = all_three head test body (λ _ a _. keeping (test_rules a) s)

  -- all in the scope of its head
  for_goes : (s s' inner inner' : Scope) (w : Around) (head head' : Judged Scope) (test step : Option CExpr) (t whole : CStmt) (q r : Scope) → ScopesStand P s s' → ScopesStand P inner inner' → scope_behind s whole ≡ s → head ≡ Ok q → (q' : Scope) → head' ≡ Ok q'
      → MaybeHas StringsAreShort test → MaybeHas StringsAreShort step → MaybeHas (EachName P) (maybe_fewer inner test) → MaybeHas (EachName P) (maybe_fewer inner step) → ((q : Scope) → stated inner (in_loop w) t ≡ Ok q → Goes P inner t (stated inner' (in_loop w) (fewer_in inner t)) q)
      → looped s head (tests inner test step) (stated inner (in_loop w) t) ≡ Ok r → Goes P s whole (looped s' head' (tests inner' (maybe_fewer inner test) (maybe_fewer inner step)) (stated inner' (in_loop w) (fewer_in inner t))) r
  for_goes s s' inner inner' w head head' test step t whole q r a b behind e q' e' h i p j body k =
      let l = three_is head (tests inner test step) (stated inner (in_loop w) t) (λ _ a _. keeping (test_rules a) s) r k in
      let x = tests_judged inner inner' test step l.1.0 b h i p j l.1.1.2 in
      let y = body l.1.1.0 l.1.1.3 in
      kept P s s' whole (looped s' head' (tests inner' (maybe_fewer inner test) (maybe_fewer inner step)) (stated inner' (in_loop w) (fewer_in inner t))) (test_rules l.1.0) (test_rules x.0) r a behind l.1.1.4 (tests_too l.1.0 x.0 x.2)
      (λ i. looped s' (e' i) (x.1 i) (y.is i))

  -- a statement's own block
  abbrev Within : CStmt → Type 0
  Within (plain.Block ss) = AllStated ss
  Within t = Unit {0}

  -- declarations in a head count in the whole `for`
  block_head : (ss : CStmts) (test step : Option CExpr) (t : CStmt) → AllStated ss → Stated t → Stated (plain.For (plain.Block ss) test step t)
  block_head ss test step t all body s s' w r a h p e =
      let head : Judged Scope = all_stated (entered s) w ss in
      let head' : Judged Scope = all_stated (entered s') w (fewer_in_all (entered s) ss) in
      let whole : CStmt = plain.For (plain.Block ss) test step t in
      let l = three_is head (tests (scope_or s head) test step) (stated (scope_or s head) (in_loop w) t) (λ _ a _. keeping (test_rules a) s) r e in
      let q : Scope = l.0 in
      let m = all (entered s) (entered s') w q (entered_stand P s s' a) h.1 p.1 l.1.1.1 in
      let inside : looped s head (tests q test step) (stated q (in_loop w) t) ≡ Ok r = subst (λ z. looped s head (tests z test step) (stated z (in_loop w) t) ≡ Ok r) (ap (λ j. scope_or s j) l.1.1.1) e in
      let names : (MaybeHas (EachName P) (maybe_fewer q test)) × (MaybeHas (EachName P) (maybe_fewer q step)) × StmtHas (EachName P) AnyDeclaration (fewer_in q t) =
      subst (λ z. (MaybeHas (EachName P) (maybe_fewer z test)) × (MaybeHas (EachName P) (maybe_fewer z step)) × StmtHas (EachName P) AnyDeclaration (fewer_in z t)) m.behind (p.2, p.3, p.4) in
      let g : Goes P s whole (looped s' head' (tests m.other (maybe_fewer q test) (maybe_fewer q step)) (stated m.other (in_loop w) (fewer_in q t))) r =
      for_goes s s' q m.other w head head' test step t whole q r a m.stand refl l.1.1.1 m.other m.is h.2 h.3 names.0 names.1 (λ u k. body q m.other (in_loop w) u m.stand h.4 names.2 k) inside in
      let there : Goes P s whole (looped s' head' (tests (scope_or s' head') (maybe_fewer q test) (maybe_fewer q step)) (stated (scope_or s' head') (in_loop w) (fewer_in q t))) r =
      subst (λ y. Goes P s whole (looped s' head' (tests y (maybe_fewer q test) (maybe_fewer q step)) (stated y (in_loop w) (fewer_in q t))) r) (sym (ap (λ j. scope_or s' j) m.is)) g in
      subst (λ z. Goes P s whole (looped s' head' (tests (scope_or s' head') (maybe_fewer z test) (maybe_fewer z step)) (stated (scope_or s' head') (in_loop w) (fewer_in z t))) r) (sym m.behind) there

  -- one that declares nothing
  other_head : (first : CStmt) (test step : Option CExpr) (t whole : CStmt) (s s' : Scope) (w : Around) (r : Scope) → Stated first → Stated t → ScopesStand P s s' → scope_behind s whole ≡ s → Short first → MaybeHas StringsAreShort test → MaybeHas StringsAreShort step → Short t
      → StmtHas (EachName P) AnyDeclaration (fewer_in s first) → MaybeHas (EachName P) (maybe_fewer s test) → MaybeHas (EachName P) (maybe_fewer s step) → StmtHas (EachName P) AnyDeclaration (fewer_in s t) → looped s (stated s w first) (tests s test step) (stated s (in_loop w) t) ≡ Ok r
      → Goes P s whole (looped s' (stated s' w (fewer_in s first)) (tests s' (maybe_fewer s test) (maybe_fewer s step)) (stated s' (in_loop w) (fewer_in s t))) r
  other_head first test step t whole s s' w r head body a b hf ht hs hb pf pt ps pb e =
      let l = three_is (stated s w first) (tests s test step) (stated s (in_loop w) t) (λ _ a _. keeping (test_rules a) s) r e in
      let m = head s s' w l.0 a hf pf l.1.1.1 in
      for_goes s s' s s' w (stated s w first) (stated s' w (fewer_in s first)) test step t whole l.0 r a a b l.1.1.1 m.other m.is ht hs pt ps (λ u k. body s s' (in_loop w) u a hb pb k) e

  for_head : (first : CStmt) (test step : Option CExpr) (t : CStmt) → Stated first → Within first → Stated t → Stated (plain.For first test step t)
  for_head (plain.Block ss) test step t head all body s s' w r a h p e = block_head ss test step t all body s s' w r a h p e
  for_head (plain.Local d) test step t head all body s s' w r a h p e = absurd (cc h.0)
  for_head first test step t head all body s s' w r a h p e = other_head first test step t (plain.For first test step t) s s' w r head body a refl h.1 h.2 h.3 h.4 p.1 p.2 p.3 p.4 e

  part_label : (at : ℕ) (e : Option CExpr) (s s' : Scope) (w : Around) (r : PartJudged) → ScopesStand P s s' → part_judged s w (plain.Label at e) ≡ Ok r → PartGoes P s (plain.Label at e) (part_judged s' w (plain.Label at (option_map (constant_tree s) e))) r
  part_label at e s s' w r a k =
      let l = after_is (maybe_judged s e) (λ a. Ok (record { scope = s; labels = record { pos = at; value = a } ∷ [] })) r k in
      let same : record { scope = s; labels = record { pos = at; value = l.0 } ∷ [] } ≡ r = cc l.2 in
      let m = maybe_label s s' e l.0 l.1 in
      record {
        other = record { scope = s'; labels = record { pos = at; value = m.0 } ∷ [] };
        is = ap (λ q. after {A = Option Operand} q (λ a. Ok (record { scope = s'; labels = record { pos = at; value = a } ∷ [] }))) m.1;
        stand = subst (λ (z : PartJudged). ScopesStand P z.scope s') same a;
        labels = subst (λ (z : PartJudged). LabelsStand z.labels (record { pos = at; value = m.0 } ∷ [])) same (m.2, tt);
        behind = ap (λ (z : PartJudged). z.scope) same;
      }

  mutual
    goes : (t : CStmt) → Stated t
    goes (plain.Block ss) s s' w r a h p e =
        let l = after_is (all_stated (entered s) w ss) (λ _. Ok s) r e in
        let m = all_go ss (entered s) (entered s') w l.0 (entered_stand P s s' a) h p l.1 in
        same_goes P s s' (plain.Block ss) (stated s' w (fewer_in s (plain.Block ss))) r a refl (ok_is s r l.2) (ap (λ q. after {A = Scope} q (λ _. told s')) m.is)
    goes (plain.Local d) s s' w r a h p e = local_goes d s s' w r a h p e
    goes (plain.Do_expr x) s s' w r a h p e =
        let l = after_is (judged s x) (λ _. Ok s) r e in
        let m = expr_too s s' x l.0 a h p l.1 in
        same_goes P s s' (plain.Do_expr x) (stated s' w (fewer_in s (plain.Do_expr x))) r a refl (ok_is s r l.2) (ap (λ q. after {A = Operand} q (λ _. told s')) m.1)
    goes plain.Empty s s' w r a h p e = same_goes P s s' plain.Empty (told s') r a refl (ok_is s r e) refl
    goes (plain.If x t) s s' w r a h p e = loop_goes s s' w x t (plain.If x t) r a refl h.0 p.0 (λ q k. goes t s s' w q a h.1 p.1 k) e
    goes (plain.IfElse x t u) s s' w r a h p e = choice_goes s s' w x t u r a h.0 p.0 (λ q k. goes t s s' w q a h.1 p.1 k) (λ q k. goes u s s' w q a h.2 p.2 k) e
    goes (plain.While x t) s s' w r a h p e = loop_goes s s' (in_loop w) x t (plain.While x t) r a refl h.0 p.0 (λ q k. goes t s s' (in_loop w) q a h.1 p.1 k) e
    goes (plain.Do t x) s s' w r a h p e = loop_goes s s' (in_loop w) x t (plain.Do t x) r a refl h.0 p.0 (λ q k. goes t s s' (in_loop w) q a h.1 p.1 k) e
    goes (plain.For first test step t) s s' w r a h p e = for_head first test step t (λ s s' w r a h p e. goes first s s' w r a h p e) (within first) (λ s s' w r a h p e. goes t s s' w r a h p e) s s' w r a h p e
    goes (plain.Return at x) s s' w r a h p e =
        let l = after_is (maybe_judged s x) (λ o. keeping (return_rules at w.result o) s) r e in
        let m = maybe_too s s' x l.0 a h p l.1 in
        kept P s s' (plain.Return at x) (stated s' w (fewer_in s (plain.Return at x))) (return_rules at w.result l.0) (return_rules at w.result m.0) r a refl l.2 (returns_too at w.result l.0 m.0 m.2)
        (ap (λ q. after {A = Option Operand} q (λ o. keeping (return_rules at w.result o) s')) m.1)
    goes (plain.Break at) s s' w r a h p e = kept P s s' (plain.Break at) (stated s' w (plain.Break at)) ((w.breaks, fault.Mismatch at) ∷ []) ((w.breaks, fault.Mismatch at) ∷ []) r a refl e (λ k. k) refl
    goes (plain.Continue at) s s' w r a h p e = kept P s s' (plain.Continue at) (stated s' w (plain.Continue at)) ((w.continues, fault.Mismatch at) ∷ []) ((w.continues, fault.Mismatch at) ∷ []) r a refl e (λ k. k) refl
    goes (plain.Switch x ps) s s' w r a h p e =
        let l = both_is (judged s x) (all_parts (entered s) (in_switch w) ps) (λ a labels. keeping (switch_rules a labels) s) r e in
        let m = expr_too s s' x l.0 a h.0 p.0 l.1.1 in
        let n = parts_go ps (entered s) (entered s') (in_switch w) l.1.0 (entered_stand P s s' a) h.1 p.1 l.1.2 in
        kept P s s' (plain.Switch x ps) (stated s' w (fewer_in s (plain.Switch x ps))) (switch_rules l.0 l.1.0) (switch_rules m.0 n.other) r a refl l.1.3 (switch_too l.0 m.0 l.1.0 n.other m.2 n.labels)
        (ap₂ (λ q u. both {A = Operand} {B = List CaseLabel} q u (λ a labels. keeping (switch_rules a labels) s')) m.1 n.is)

    within : (t : CStmt) → Within t
    within (plain.Block ss) = λ s s' w r a h p e. all_go ss s s' w r a h p e
    within t = tt

    all_go : (ss : CStmts) → AllStated ss
    all_go plain.NoStmt s s' w r a h p e = let same : s ≡ r = ok_is s r e in record { other = s'; is = refl; stand = subst (λ z. ScopesStand P z s') same a; behind = same }
    all_go (plain.MoreStmt t ts) s s' w r a h p e =
        let l = both_is (stated s w t) (all_stated (scope_or s (stated s w t)) w ts) (λ _ inner. Ok inner) r e in
        let m = goes t s s' w l.0 a h.0 p.0 l.1.1 in
        let before : scope_or s (stated s w t) ≡ l.0 = ap (λ q. scope_or s q) l.1.1 in
        let inner : all_stated l.0 w ts ≡ Ok l.1.0 = subst (λ z. all_stated z w ts ≡ Ok l.1.0) before l.1.2 in
        let n = all_go ts l.0 m.other w l.1.0 m.stand h.1 (subst (λ z. StmtsHave (EachName P) AnyDeclaration (fewer_in_all z ts)) m.behind p.1) inner in
        let same : l.1.0 ≡ r = ok_is l.1.0 r l.1.3 in
        record {
          other = n.other;
          is =
              ap (λ z. both (stated s' w (fewer_in s t)) (all_stated (scope_or s' (stated s' w (fewer_in s t))) w (fewer_in_all z ts)) (λ _ inner. told inner)) m.behind
              ∙ (ap (λ q. both q (all_stated (scope_or s' q) w (fewer_in_all l.0 ts)) (λ _ inner. told inner)) m.is ∙ ap (λ q. both {A = Scope} {B = Scope} (told m.other) q (λ _ inner. told inner)) n.is);
          stand = subst (λ z. ScopesStand P z n.other) same n.stand;
          behind = ap (λ z. scope_behind_all z ts) m.behind ∙ (n.behind ∙ same);
        }

    part_goes : (q : CPart) (s s' : Scope) (w : Around) (r : PartJudged) → ScopesStand P s s' → PartHas StringsAreShort IsDeclaration q → PartHas (EachName P) AnyDeclaration (fewer_in_part s q) → part_judged s w q ≡ Ok r → PartGoes P s q (part_judged s' w (fewer_in_part s q)) r
    part_goes (plain.Label at e) s s' w r a h p k = part_label at e s s' w r a k
    part_goes (plain.Item t) s s' w r a h p k =
        let l = after_is (stated s w t) (λ inner. Ok (record { scope = inner; labels = [] })) r k in
        let same : record { scope = l.0; labels = [] } ≡ r = cc l.2 in
        let m = goes t s s' w l.0 a h p l.1 in
        record {
          other = record { scope = m.other; labels = [] };
          is = ap (λ q. after {A = Scope} q (λ inner. Ok (record { scope = inner; labels = [] }))) m.is;
          stand = subst (λ (z : PartJudged). ScopesStand P z.scope m.other) same m.stand;
          labels = subst (λ (z : PartJudged). LabelsStand z.labels []) same tt;
          behind = m.behind ∙ ap (λ (z : PartJudged). z.scope) same;
        }

    parts_go : (ps : CParts) (s s' : Scope) (w : Around) (r : List CaseLabel) → ScopesStand P s s' → PartsHave StringsAreShort IsDeclaration ps → PartsHave (EachName P) AnyDeclaration (fewer_in_parts s ps) → all_parts s w ps ≡ Ok r → PartsGo (all_parts s' w (fewer_in_parts s ps)) r
    parts_go plain.NoPart s s' w r a h p e = let same : [] ≡ r = cc e in record { other = []; is = refl; labels = subst (λ z. LabelsStand z []) same tt }
    parts_go (plain.MorePart q qs) s s' w r a h p e =
        let l = both_is (part_judged s w q) (all_parts (part_scope_or s (part_judged s w q)) w qs) (λ part labels. Ok (part.labels ++ labels)) r e in
        let part : PartJudged = l.0 in
        let m = part_goes q s s' w part a h.0 p.0 l.1.1 in
        let before : part_scope_or s (part_judged s w q) ≡ part.scope = ap (λ q. part_scope_or s q) l.1.1 in
        let n = parts_go qs part.scope m.other.scope w l.1.0 m.stand h.1 (subst (λ z. PartsHave (EachName P) AnyDeclaration (fewer_in_parts z qs)) m.behind p.1) (subst (λ z. all_parts z w qs ≡ Ok l.1.0) before l.1.2) in
        let same : part.labels ++ l.1.0 ≡ r = cc l.1.3 in
        record {
          other = m.other.labels ++ n.other;
          is =
              ap (λ z. both (part_judged s' w (fewer_in_part s q)) (all_parts (part_scope_or s' (part_judged s' w (fewer_in_part s q))) w (fewer_in_parts z qs)) (λ part labels. Ok (part.labels ++ labels))) m.behind
              ∙ (ap (λ u. both u (all_parts (part_scope_or s' u) w (fewer_in_parts part.scope qs)) (λ part labels. Ok (part.labels ++ labels))) m.is ∙ ap (λ u. both {A = PartJudged} {B = List CaseLabel} (Ok m.other) u (λ part labels. Ok (part.labels ++ labels))) n.is);
          labels = subst (λ z. LabelsStand z (m.other.labels ++ n.other)) same (labels_together part.labels m.other.labels l.1.0 n.other m.labels n.labels);
        }

pub statements_stay_typed : StatementsStayTyped
statements_stay_typed test s s' w t r a h p e = let k = goes (λ name. test name ≡ true) t s s' w r a h p e in (k.other, k.is, k.stand)
