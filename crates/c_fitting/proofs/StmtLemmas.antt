-- Statements within the limits, in the scope of the check and in that of the code.
use Rattle.std.proofs.Common.{◌≡◌, ℕ, Bool, true, false, List, [], ◌∷◌, ◌++◌, Option, Some, None, refl, sym, ap, subst, ◌∙◌, cond, arith}
use Rattle.std.specs.Prelude.{Ok, Err, IsOk}
use Rattle.std.specs.Option.{option_map_or}
use Rattle.std.specs.Str.{bytes_eq}
use Rattle.c_syntax.specs.Plain as plain
use Rattle.c_syntax.specs.Plain.{CExpr, CDecl, CStmt, CStmts, CPart, CParts}
use Rattle.c_syntax.specs.Words.{meaning}
use Rattle.c_types.specs.declared.fault.TypeFault.{TypeFault}
use Rattle.c_types.specs.declared.fault.TypeFault.TheVariants as fault
use Rattle.c_types.specs.Refusals.{Judged, both, all_three, keeping}
use Rattle.c_types.specs.Scope.{Scope, Entity, Object, with_name, is_declared_here, entered}
use Rattle.c_types.specs.Operands.{is_condition}
use Rattle.c_types.specs.Expressions.{judged}
use Rattle.c_types.specs.Declarations.{Site, first_fitting, declared_type, declared, scope_or}
use Rattle.c_types.specs.Statements.{Around, in_loop, in_switch, condition_rules, maybe_judged, test_rules, return_rules, switch_rules, PartJudged, part_scope_or, stated, all_stated, part_judged, all_parts}
use Rattle.c_types.specs.Census.{maybe_sum, first_sum, object_sum, scope_behind, scope_behind_all, scope_behind_part, stmt_sum, stmts_sum, part_sum, parts_sum}
use Rattle.c_eval.specs.Environment.{type_or_void, object_type_in}
use Rattle.c_code.specs.Code.{slots_for}
use Rattle.c_fitting.specs.Fit.{IsFit}
use Rattle.c_fitting.specs.Whole.{IsShort, MaybeIsFit, FirstIsFit, ObjectIsFit, TakesNoSlot, StmtIsFit, StmtsAreFit, PartIsFit, PartsAreFit}
use Rattle.c_fitting.specs.Blocks.{IsNoDeclaration, DeclaresInBlocks, AllDeclareInBlocks, PartDeclaresInBlocks, PartsDeclareInBlocks}
use Rattle.c_fitting.specs.Good.{IsGood, ScopeIsGood}
use Rattle.c_fitting.proofs.Judgement.{IfOk, Any, any_ok, after_ok, both_ok, three_ok, keeping_ok, keeping_one}
use Rattle.c_fitting.proofs.Sums.{weighing, widening, IsLight, first, last}
use Rattle.c_fitting.proofs.ExprLemmas.{IsKnown}
use Rattle.c_fitting.proofs.KnownLemmas.{ExprLight, expr_known}
use Rattle.c_fitting.proofs.AlikeLemmas.{SameNames, fit_same, short_same, first_same, first_fitting_same, type_same, named_same}
use Rattle.c_fitting.proofs.ValueLemmas.{Declares, declares, is_declared, declared_good, name_good, object_known}

-- ---- scopes of the check and of the code

-- names stand for the same, and what isn't declared in the block of the one isn't in that of the other
pub record Follows (s s' : Scope) : Type 0 where
  pub names : SameNames s s'
  pub fewer : (name : List ℕ) → is_declared_here s name ≡ false → is_declared_here s' name ≡ false

pub entered_follows : (s s' : Scope) → SameNames s s' → Follows (entered s) (entered s')
entered_follows s s' a = record { names = record { same = ap entered a.same }; fewer = λ name h. refl }

named_fewer : (b : Bool) (x : Entity) (o o' : Option Entity) → (option_map_or (λ _. true) o false ≡ false → option_map_or (λ _. true) o' false ≡ false)
    → option_map_or (λ _. true) (cond b (Some x) o) false ≡ false → option_map_or (λ _. true) (cond b (Some x) o') false ≡ false
named_fewer true x o o' f h = h
named_fewer false x o o' f h = f h

named_follows : (s s' : Scope) (name : List ℕ) (x : Entity) → Follows s s' → Follows (with_name s name x) (with_name s' name x)
named_follows s s' name x a = record {
  names = named_same s s' a.names name x;
  fewer = λ other h. named_fewer (bytes_eq other name) x (meaning s.block other) (meaning s'.block other) (a.fewer other) h;
}

-- a scope is that behind a tree
pub record IsBehind (s s' inner : Scope) : Type 0 where
  pub is : inner ≡ s
  pub follows : Follows s s'
  pub good : ScopeIsGood s

pub same_scope : (s s' : Scope) → ScopeIsGood s → Follows s s' → IsBehind s s' s
same_scope s s' h a = record { is = refl; follows = a; good = h }

-- ---- judgements one after the other

pub err_both : {A B C : Type 0} (K : C → Type 0) (e : TypeFault) (q : Judged B) (f : A → B → Judged C) → IfOk K (both (Err e) q f)
err_both K e (Ok b) f = tt
err_both K e (Err d) f = tt

pub finish : {A B : Type 0} (H K : B → Type 0) (k : A → B → B) (a : A) (q : Judged B) → IfOk H q → ((b : B) → H b → K (k a b)) → IfOk K (both (Ok a) q (λ x b. Ok (k x b)))
finish H K k a (Ok b) h make = make b h
finish H K k a (Err e) h make = tt

-- what follows is judged in the scope behind
sequence : {A B : Type 0} (G : A → Type 0) (H K : B → Type 0) (scope_in : A → Scope) (or : Judged A → Scope) (k : A → B → B) (s : Scope) (f : Scope → Judged B) (r : Judged A) → ((a : A) → or (Ok a) ≡ scope_in a) → IfOk G r
    → ((a : A) → G a → (scope_in a ≡ s) × IfOk H (f s)) → ((a : A) (b : B) → G a → H b → K (k a b)) → IfOk K (both r (f (or r)) (λ a b. Ok (k a b)))
sequence G H K scope_in or k s f (Ok a) ors g rest make =
    let t = rest a g in finish H K k a (f (or (Ok a))) (subst (λ x. IfOk H (f x)) (sym (ors a ∙ t.0)) t.1) (λ b h. make a b g h)
sequence G H K scope_in or k s f (Err e) ors g rest make = err_both K e (f (or (Err e))) (λ a b. Ok (k a b))

pub with_answer : {A : Type 0} (G H : A → Type 0) (r : Judged A) → IfOk G r → ((a : A) → r ≡ Ok a → G a → H a) → IfOk H r
with_answer G H (Ok a) g f = f a refl g
with_answer G H (Err e) g f = tt

-- ---- slots

pub no_slot : (t : CStmt) → DeclaresInBlocks t → IsNoDeclaration t → slots_for t ≡ 0
no_slot (plain.Block ss) d n = refl
no_slot (plain.Local x) d n = absurd cc
no_slot (plain.Do_expr e) d n = refl
no_slot plain.Empty d n = refl
no_slot (plain.If e t) d n = no_slot t d.0 d.1
no_slot (plain.IfElse e t u) d n = let a = no_slot t d.0.0 d.0.1 in let b = no_slot u d.1.0 d.1.1 in omega (arith, a, b)
no_slot (plain.While e t) d n = no_slot t d.0 d.1
no_slot (plain.Do t e) d n = no_slot t d.0 d.1
no_slot (plain.For (plain.Block ss) test step t) d n = refl
no_slot (plain.For (plain.Local x) test step t) d n = absurd (cc d.0.1)
no_slot (plain.For (plain.Do_expr e) test step t) d n = let a = no_slot (plain.Do_expr e) d.0.0 d.0.1 in let b = no_slot t d.1.0 d.1.1 in omega (arith, a, b)
no_slot (plain.For (plain.Empty) test step t) d n = let a = no_slot (plain.Empty) d.0.0 d.0.1 in let b = no_slot t d.1.0 d.1.1 in omega (arith, a, b)
no_slot (plain.For (plain.If e u) test step t) d n = let a = no_slot (plain.If e u) d.0.0 d.0.1 in let b = no_slot t d.1.0 d.1.1 in omega (arith, a, b)
no_slot (plain.For (plain.IfElse e u v) test step t) d n = let a = no_slot (plain.IfElse e u v) d.0.0 d.0.1 in let b = no_slot t d.1.0 d.1.1 in omega (arith, a, b)
no_slot (plain.For (plain.While e u) test step t) d n = let a = no_slot (plain.While e u) d.0.0 d.0.1 in let b = no_slot t d.1.0 d.1.1 in omega (arith, a, b)
no_slot (plain.For (plain.Do u e) test step t) d n = let a = no_slot (plain.Do u e) d.0.0 d.0.1 in let b = no_slot t d.1.0 d.1.1 in omega (arith, a, b)
no_slot (plain.For (plain.For u e f v) test step t) d n = let a = no_slot (plain.For u e f v) d.0.0 d.0.1 in let b = no_slot t d.1.0 d.1.1 in omega (arith, a, b)
no_slot (plain.For (plain.Return at e) test step t) d n = let a = no_slot (plain.Return at e) d.0.0 d.0.1 in let b = no_slot t d.1.0 d.1.1 in omega (arith, a, b)
no_slot (plain.For (plain.Break at) test step t) d n = let a = no_slot (plain.Break at) d.0.0 d.0.1 in let b = no_slot t d.1.0 d.1.1 in omega (arith, a, b)
no_slot (plain.For (plain.Continue at) test step t) d n = let a = no_slot (plain.Continue at) d.0.0 d.0.1 in let b = no_slot t d.1.0 d.1.1 in omega (arith, a, b)
no_slot (plain.For (plain.Switch e ps) test step t) d n = let a = no_slot (plain.Switch e ps) d.0.0 d.0.1 in let b = no_slot t d.1.0 d.1.1 in omega (arith, a, b)
no_slot (plain.Return at e) d n = refl
no_slot (plain.Break at) d n = refl
no_slot (plain.Continue at) d n = refl
no_slot (plain.Switch e ps) d n = refl

-- ---- parts of statements

abbrev pub Said : Scope → Scope → CStmt → Scope → Type 0
Said s s' t inner = StmtIsFit s' t × IsBehind (scope_behind s t) (scope_behind s' t) inner

abbrev pub SaidAll : Scope → Scope → CStmts → Scope → Type 0
SaidAll s s' ts inner = StmtsAreFit s' ts × IsBehind (scope_behind_all s ts) (scope_behind_all s' ts) inner

abbrev SaidPart : Scope → Scope → CPart → PartJudged → Type 0
SaidPart s s' p part = PartIsFit s' p × IsBehind (scope_behind_part s p) (scope_behind_part s' p) part.scope

fits : (s s' : Scope) → ScopeIsGood s → SameNames s s' → (e : CExpr) → ExprLight s e → IfOk (λ _. IsFit s' e) (judged s e)
fits s s' h a e l = with_answer (IsKnown s e) (λ _. IsFit s' e) (judged s e) (expr_known s h e l) (λ x _ k. fit_same s s' a e k.fit)

maybe_known : (s s' : Scope) → ScopeIsGood s → SameNames s s' → (e : Option CExpr) → IsLight (maybe_sum weighing s e) (maybe_sum widening s e) → IfOk (λ _. MaybeIsFit s' e) (maybe_judged s e)
maybe_known s s' h a None l = tt
maybe_known s s' h a (Some e) l = after_ok (λ _. IsFit s' e) (λ _. MaybeIsFit s' (Some e)) (judged s e) (λ x. Ok (Some x)) (fits s s' h a e l) (λ x _ f. f)

object_same : (s s' : Scope) (a : SameNames s s') (name : List ℕ) (x : Entity) (d : CDecl) → ObjectIsFit s (with_name s name x) d → ObjectIsFit s' (with_name s' name x) d
object_same s s' a name x d f =
    let e : object_type_in s d ≡ object_type_in s' d = ap type_or_void (type_same s s' a d) in (
      subst (λ t. IsShort s' t) e (short_same s s' a (object_type_in s d) f.0),
      subst (λ t. FirstIsFit (with_name s' name x) t d.first) e (first_same (with_name s name x) (with_name s' name x) (named_same s s' a name x) (object_type_in s d) d.first f.1),
    )

local_known : (s s' : Scope) → ScopeIsGood s → Follows s s' → (d : CDecl) → IsLight (object_sum weighing s d) (object_sum widening s d) → IfOk (Said s s' (plain.Local d)) (declared s false d)
local_known s s' h a d l =
    with_answer (Declares s false d) (Said s s' (plain.Local d)) (declared s false d) (declares s false d) (λ inner j k.
    let site : Site = record { file = false; pos = d.pos } in
    let x : Entity = Object k.ty in
    let behind : scope_behind s (plain.Local d) ≡ with_name s d.name x = ap (λ r. scope_or s r) j ∙ k.inner_is in
    let type' : declared_type s' d ≡ Ok k.ty = sym (type_same s s' a.names d) ∙ k.type_is in
    let first' : first_fitting (with_name s' d.name x) site k.ty d.first ≡ Ok (tt {0}) =
    sym (first_fitting_same (with_name s d.name x) (with_name s' d.name x) (named_same s s' a.names d.name x) site k.ty d.first) ∙ k.first_is in
    let j' : declared s' false d ≡ Ok (with_name s' d.name x) = is_declared s' false d k.ty type' first' (a.fewer d.name k.fresh) in
    let behind' : scope_behind s' (plain.Local d) ≡ with_name s' d.name x = ap (λ r. scope_or s' r) j' in
    let good : IsGood s.tags k.ty = declared_good s d k.ty k.type_is l in
    let light : IsLight (first_sum weighing (with_name s d.name x) d.first) (first_sum widening (with_name s d.name x) d.first) =
    subst (λ z. IsLight (first_sum weighing z d.first) (first_sum widening z d.first)) behind (last _ _ _ _ (first _ _ _ _ l)) in
    let object : ObjectIsFit s' (with_name s' d.name x) d = object_same s s' a.names d.name x d (object_known s h site d k.ty k.type_is good light k.first_is) in
    let follows : Follows (with_name s d.name x) (with_name s' d.name x) = named_follows s s' d.name x a in (
      (subst (λ r. IsOk r) (sym j') refl, subst (λ z. ObjectIsFit s' z d) (sym behind') object),
      record {
        is = k.inner_is ∙ sym behind;
        follows = subst (λ z. Follows z (scope_behind s' (plain.Local d))) (sym behind) (subst (λ z. Follows (with_name s d.name x) z) (sym behind') follows);
        good = subst (λ z. ScopeIsGood z) (sym behind) (name_good s h d.name x good);
      },
    ))

-- the parts of a `for` behind its head
abbrev LoopIsFit : Scope → Option CExpr → Option CExpr → CStmt → Type 0
LoopIsFit s test step t = MaybeIsFit s test × MaybeIsFit s step × (StmtIsFit s t × TakesNoSlot t)

loop_known : {A : Type 0} (G : A → Type 0) (K : Scope → Type 0) (head : Judged A) (s inner inner' : Scope) (w : Around) (test step : Option CExpr) (t : CStmt) → IfOk G head → IfOk (λ _. MaybeIsFit inner' test) (maybe_judged inner test)
    → IfOk (λ _. MaybeIsFit inner' step) (maybe_judged inner step) → IfOk (λ _. StmtIsFit inner' t) (stated inner (in_loop w) t) → TakesNoSlot t → ((a : A) → G a → LoopIsFit inner' test step t → K s)
    → IfOk K (all_three head (both (maybe_judged inner test) (maybe_judged inner step) (λ a _. Ok a)) (stated inner (in_loop w) t) (λ _ a _. keeping (test_rules a) s))
loop_known G K head s inner inner' w test step t g e f b n make =
    three_ok G (λ _. MaybeIsFit inner' test × MaybeIsFit inner' step) (λ _. StmtIsFit inner' t) K head (both (maybe_judged inner test) (maybe_judged inner step) (λ a _. Ok a)) (stated inner (in_loop w) t) (λ _ a _. keeping (test_rules a) s)
    g (both_ok (λ _. MaybeIsFit inner' test) (λ _. MaybeIsFit inner' step) (λ _. MaybeIsFit inner' test × MaybeIsFit inner' step) (maybe_judged inner test) (maybe_judged inner step) (λ a _. Ok a) e f (λ _ _ _ _ x y. (x, y))) b
    (λ a o _ k m c. keeping_ok K (test_rules o) s (λ _. make a k (m.0, m.1, (c, n))))

-- with a block as its head
abbrev RestIsFit : Scope → Scope → Around → Option CExpr → Option CExpr → CStmt → Type 0
RestIsFit inner inner' w test step t =
    IfOk (λ _. MaybeIsFit inner' test) (maybe_judged inner test) × IfOk (λ _. MaybeIsFit inner' step) (maybe_judged inner step) × IfOk (λ _. StmtIsFit inner' t) (stated inner (in_loop w) t)

blocked_known : (G : Scope → Type 0) (K : Scope → Type 0) (head : Judged Scope) (s s1 s1' : Scope) (w : Around) (test step : Option CExpr) (t : CStmt) → IfOk G head → ((a : Scope) → G a → (a ≡ s1) × RestIsFit s1 s1' w test step t) → TakesNoSlot t
    → ((a : Scope) → G a → LoopIsFit s1' test step t → K s)
    → IfOk K (all_three head (both (maybe_judged (scope_or s head) test) (maybe_judged (scope_or s head) step) (λ a _. Ok a)) (stated (scope_or s head) (in_loop w) t) (λ _ a _. keeping (test_rules a) s))
blocked_known G K (Ok a) s s1 s1' w test step t g rest n make =
    let r = rest a g in let f : RestIsFit a s1' w test step t = subst (λ x. RestIsFit x s1' w test step t) (sym r.0) r.1 in
    loop_known G K (Ok a) s a s1' w test step t g f.0 f.1 f.2 n make
blocked_known G K (Err e) s s1 s1' w test step t g rest n make = err_both K e _ _

body_of : (s s' : Scope) (t : CStmt) (r : Judged Scope) → IfOk (Said s s' t) r → IfOk (λ _. StmtIsFit s' t) r
body_of s s' t r g = with_answer (Said s s' t) (λ _. StmtIsFit s' t) r g (λ a _ k. k.0)

-- ---- statements

mutual
  pub stmt_known : (s s' : Scope) → ScopeIsGood s → Follows s s' → (w : Around) (t : CStmt) → IsLight (stmt_sum weighing s t) (stmt_sum widening s t) → DeclaresInBlocks t → IfOk (Said s s' t) (stated s w t)
  stmt_known s s' h a w (plain.Block ss) l d =
      after_ok (SaidAll (entered s) (entered s') ss) (Said s s' (plain.Block ss)) (all_stated (entered s) w ss) (λ _. Ok s) (stmts_known (entered s) (entered s') (record { tags = h.tags; names = h.names }) (entered_follows s s' a.names) w ss (last _ _ _ _ l) d)
      (λ inner _ k. (k.0, same_scope s s' h a))
  stmt_known s s' h a w (plain.Local x) l d = local_known s s' h a x (last _ _ _ _ l)
  stmt_known s s' h a w (plain.Do_expr e) l d = after_ok (λ _. IsFit s' e) (Said s s' (plain.Do_expr e)) (judged s e) (λ _. Ok s) (fits s s' h a.names e (last _ _ _ _ l)) (λ _ _ f. (f, same_scope s s' h a))
  stmt_known s s' h a w plain.Empty l d = (tt, same_scope s s' h a)
  stmt_known s s' h a w (plain.If e t) l d =
      both_ok (λ _. IsFit s' e) (Said s s' t) (Said s s' (plain.If e t)) (judged s e) (stated s w t) (λ x _. keeping (condition_rules x) s)
      (fits s s' h a.names e (last _ _ _ _ (first _ _ _ _ l))) (stmt_known s s' h a w t (last _ _ _ _ l) d.0)
      (λ x _ _ _ f k. keeping_one (Said s s' (plain.If e t)) (is_condition x) (fault.Mismatch x.pos) s (λ _. ((f, k.0, no_slot t d.0 d.1), same_scope s s' h a)))
  stmt_known s s' h a w (plain.IfElse e t u) l d =
      three_ok (λ _. IsFit s' e) (Said s s' t) (Said s s' u) (Said s s' (plain.IfElse e t u)) (judged s e) (stated s w t) (stated s w u) (λ x _ _. keeping (condition_rules x) s)
      (fits s s' h a.names e (last _ _ _ _ (first _ _ _ _ (first _ _ _ _ l)))) (stmt_known s s' h a w t (last _ _ _ _ (first _ _ _ _ l)) d.0.0) (stmt_known s s' h a w u (last _ _ _ _ l) d.1.0)
      (λ x _ _ f k m. keeping_one (Said s s' (plain.IfElse e t u)) (is_condition x) (fault.Mismatch x.pos) s (λ _. ((f, (k.0, no_slot t d.0.0 d.0.1), (m.0, no_slot u d.1.0 d.1.1)), same_scope s s' h a)))
  stmt_known s s' h a w (plain.While e t) l d =
      both_ok (λ _. IsFit s' e) (Said s s' t) (Said s s' (plain.While e t)) (judged s e) (stated s (in_loop w) t) (λ x _. keeping (condition_rules x) s)
      (fits s s' h a.names e (last _ _ _ _ (first _ _ _ _ l))) (stmt_known s s' h a (in_loop w) t (last _ _ _ _ l) d.0)
      (λ x _ _ _ f k. keeping_one (Said s s' (plain.While e t)) (is_condition x) (fault.Mismatch x.pos) s (λ _. ((f, k.0, no_slot t d.0 d.1), same_scope s s' h a)))
  stmt_known s s' h a w (plain.Do t e) l d =
      both_ok (λ _. IsFit s' e) (Said s s' t) (Said s s' (plain.Do t e)) (judged s e) (stated s (in_loop w) t) (λ x _. keeping (condition_rules x) s)
      (fits s s' h a.names e (last _ _ _ _ l)) (stmt_known s s' h a (in_loop w) t (last _ _ _ _ (first _ _ _ _ l)) d.0)
      (λ x _ _ _ f k. keeping_one (Said s s' (plain.Do t e)) (is_condition x) (fault.Mismatch x.pos) s (λ _. (((k.0, no_slot t d.0 d.1), f), same_scope s s' h a)))
  stmt_known s s' h a w (plain.For (plain.Block ss) test step t) l d =
      let s1 = scope_behind_all (entered s) ss in let s1' = scope_behind_all (entered s') ss in
      blocked_known (SaidAll (entered s) (entered s') ss) (Said s s' (plain.For (plain.Block ss) test step t)) (all_stated (entered s) w ss) s s1 s1' w test step t
      (stmts_known (entered s) (entered s') (record { tags = h.tags; names = h.names }) (entered_follows s s' a.names) w ss (last _ _ _ _ (last _ _ _ _ (first _ _ _ _ (first _ _ _ _ (first _ _ _ _ l))))) d.0.0)
      (λ inner k. (
        k.1.is,
        (
          maybe_known s1 s1' k.1.good k.1.follows.names test (last _ _ _ _ (first _ _ _ _ (first _ _ _ _ l))),
          maybe_known s1 s1' k.1.good k.1.follows.names step (last _ _ _ _ (first _ _ _ _ l)),
          body_of s1 s1' t (stated s1 (in_loop w) t) (stmt_known s1 s1' k.1.good k.1.follows (in_loop w) t (last _ _ _ _ l) d.1.0),
        ),
      ))
      (no_slot t d.1.0 d.1.1) (λ inner k f. (((k.0, refl), f.0, f.1, f.2), same_scope s s' h a))
  stmt_known s s' h a w (plain.For (plain.Local x) test step t) l d = absurd (cc d.0.1)
  stmt_known s s' h a w (plain.For (plain.Do_expr e) test step t) l d =
      loop_known (Said s s' (plain.Do_expr e)) (Said s s' (plain.For (plain.Do_expr e) test step t)) (stated s w (plain.Do_expr e)) s s s' w test step t
      (stmt_known s s' h a w (plain.Do_expr e) (last weighing.node _ widening.node _ (first _ _ _ _ (first _ _ _ _ (first _ _ _ _ l)))) d.0.0)
      (maybe_known s s' h a.names test (last _ _ _ _ (first _ _ _ _ (first _ _ _ _ l)))) (maybe_known s s' h a.names step (last _ _ _ _ (first _ _ _ _ l)))
      (body_of s s' t (stated s (in_loop w) t) (stmt_known s s' h a (in_loop w) t (last _ _ _ _ l) d.1.0)) (no_slot t d.1.0 d.1.1)
      (λ inner k fit. (((k.0, no_slot (plain.Do_expr e) d.0.0 d.0.1), fit.0, fit.1, fit.2), same_scope s s' h a))
  stmt_known s s' h a w (plain.For (plain.Empty) test step t) l d =
      loop_known (Said s s' (plain.Empty)) (Said s s' (plain.For (plain.Empty) test step t)) (stated s w (plain.Empty)) s s s' w test step t
      (stmt_known s s' h a w (plain.Empty) (last weighing.node _ widening.node _ (first _ _ _ _ (first _ _ _ _ (first _ _ _ _ l)))) d.0.0)
      (maybe_known s s' h a.names test (last _ _ _ _ (first _ _ _ _ (first _ _ _ _ l)))) (maybe_known s s' h a.names step (last _ _ _ _ (first _ _ _ _ l)))
      (body_of s s' t (stated s (in_loop w) t) (stmt_known s s' h a (in_loop w) t (last _ _ _ _ l) d.1.0)) (no_slot t d.1.0 d.1.1)
      (λ inner k fit. (((k.0, no_slot (plain.Empty) d.0.0 d.0.1), fit.0, fit.1, fit.2), same_scope s s' h a))
  stmt_known s s' h a w (plain.For (plain.If e u) test step t) l d =
      loop_known (Said s s' (plain.If e u)) (Said s s' (plain.For (plain.If e u) test step t)) (stated s w (plain.If e u)) s s s' w test step t
      (stmt_known s s' h a w (plain.If e u) (last weighing.node _ widening.node _ (first _ _ _ _ (first _ _ _ _ (first _ _ _ _ l)))) d.0.0)
      (maybe_known s s' h a.names test (last _ _ _ _ (first _ _ _ _ (first _ _ _ _ l)))) (maybe_known s s' h a.names step (last _ _ _ _ (first _ _ _ _ l)))
      (body_of s s' t (stated s (in_loop w) t) (stmt_known s s' h a (in_loop w) t (last _ _ _ _ l) d.1.0)) (no_slot t d.1.0 d.1.1)
      (λ inner k fit. (((k.0, no_slot (plain.If e u) d.0.0 d.0.1), fit.0, fit.1, fit.2), same_scope s s' h a))
  stmt_known s s' h a w (plain.For (plain.IfElse e u v) test step t) l d =
      loop_known (Said s s' (plain.IfElse e u v)) (Said s s' (plain.For (plain.IfElse e u v) test step t)) (stated s w (plain.IfElse e u v)) s s s' w test step t
      (stmt_known s s' h a w (plain.IfElse e u v) (last weighing.node _ widening.node _ (first _ _ _ _ (first _ _ _ _ (first _ _ _ _ l)))) d.0.0)
      (maybe_known s s' h a.names test (last _ _ _ _ (first _ _ _ _ (first _ _ _ _ l)))) (maybe_known s s' h a.names step (last _ _ _ _ (first _ _ _ _ l)))
      (body_of s s' t (stated s (in_loop w) t) (stmt_known s s' h a (in_loop w) t (last _ _ _ _ l) d.1.0)) (no_slot t d.1.0 d.1.1)
      (λ inner k fit. (((k.0, no_slot (plain.IfElse e u v) d.0.0 d.0.1), fit.0, fit.1, fit.2), same_scope s s' h a))
  stmt_known s s' h a w (plain.For (plain.While e u) test step t) l d =
      loop_known (Said s s' (plain.While e u)) (Said s s' (plain.For (plain.While e u) test step t)) (stated s w (plain.While e u)) s s s' w test step t
      (stmt_known s s' h a w (plain.While e u) (last weighing.node _ widening.node _ (first _ _ _ _ (first _ _ _ _ (first _ _ _ _ l)))) d.0.0)
      (maybe_known s s' h a.names test (last _ _ _ _ (first _ _ _ _ (first _ _ _ _ l)))) (maybe_known s s' h a.names step (last _ _ _ _ (first _ _ _ _ l)))
      (body_of s s' t (stated s (in_loop w) t) (stmt_known s s' h a (in_loop w) t (last _ _ _ _ l) d.1.0)) (no_slot t d.1.0 d.1.1)
      (λ inner k fit. (((k.0, no_slot (plain.While e u) d.0.0 d.0.1), fit.0, fit.1, fit.2), same_scope s s' h a))
  stmt_known s s' h a w (plain.For (plain.Do u e) test step t) l d =
      loop_known (Said s s' (plain.Do u e)) (Said s s' (plain.For (plain.Do u e) test step t)) (stated s w (plain.Do u e)) s s s' w test step t
      (stmt_known s s' h a w (plain.Do u e) (last weighing.node _ widening.node _ (first _ _ _ _ (first _ _ _ _ (first _ _ _ _ l)))) d.0.0)
      (maybe_known s s' h a.names test (last _ _ _ _ (first _ _ _ _ (first _ _ _ _ l)))) (maybe_known s s' h a.names step (last _ _ _ _ (first _ _ _ _ l)))
      (body_of s s' t (stated s (in_loop w) t) (stmt_known s s' h a (in_loop w) t (last _ _ _ _ l) d.1.0)) (no_slot t d.1.0 d.1.1)
      (λ inner k fit. (((k.0, no_slot (plain.Do u e) d.0.0 d.0.1), fit.0, fit.1, fit.2), same_scope s s' h a))
  stmt_known s s' h a w (plain.For (plain.For u e f v) test step t) l d =
      loop_known (Said s s' (plain.For u e f v)) (Said s s' (plain.For (plain.For u e f v) test step t)) (stated s w (plain.For u e f v)) s s s' w test step t
      (stmt_known s s' h a w (plain.For u e f v) (last weighing.node _ widening.node _ (first _ _ _ _ (first _ _ _ _ (first _ _ _ _ l)))) d.0.0)
      (maybe_known s s' h a.names test (last _ _ _ _ (first _ _ _ _ (first _ _ _ _ l)))) (maybe_known s s' h a.names step (last _ _ _ _ (first _ _ _ _ l)))
      (body_of s s' t (stated s (in_loop w) t) (stmt_known s s' h a (in_loop w) t (last _ _ _ _ l) d.1.0)) (no_slot t d.1.0 d.1.1)
      (λ inner k fit. (((k.0, no_slot (plain.For u e f v) d.0.0 d.0.1), fit.0, fit.1, fit.2), same_scope s s' h a))
  stmt_known s s' h a w (plain.For (plain.Return at e) test step t) l d =
      loop_known (Said s s' (plain.Return at e)) (Said s s' (plain.For (plain.Return at e) test step t)) (stated s w (plain.Return at e)) s s s' w test step t
      (stmt_known s s' h a w (plain.Return at e) (last weighing.node _ widening.node _ (first _ _ _ _ (first _ _ _ _ (first _ _ _ _ l)))) d.0.0)
      (maybe_known s s' h a.names test (last _ _ _ _ (first _ _ _ _ (first _ _ _ _ l)))) (maybe_known s s' h a.names step (last _ _ _ _ (first _ _ _ _ l)))
      (body_of s s' t (stated s (in_loop w) t) (stmt_known s s' h a (in_loop w) t (last _ _ _ _ l) d.1.0)) (no_slot t d.1.0 d.1.1)
      (λ inner k fit. (((k.0, no_slot (plain.Return at e) d.0.0 d.0.1), fit.0, fit.1, fit.2), same_scope s s' h a))
  stmt_known s s' h a w (plain.For (plain.Break at) test step t) l d =
      loop_known (Said s s' (plain.Break at)) (Said s s' (plain.For (plain.Break at) test step t)) (stated s w (plain.Break at)) s s s' w test step t
      (stmt_known s s' h a w (plain.Break at) (last weighing.node _ widening.node _ (first _ _ _ _ (first _ _ _ _ (first _ _ _ _ l)))) d.0.0)
      (maybe_known s s' h a.names test (last _ _ _ _ (first _ _ _ _ (first _ _ _ _ l)))) (maybe_known s s' h a.names step (last _ _ _ _ (first _ _ _ _ l)))
      (body_of s s' t (stated s (in_loop w) t) (stmt_known s s' h a (in_loop w) t (last _ _ _ _ l) d.1.0)) (no_slot t d.1.0 d.1.1)
      (λ inner k fit. (((k.0, no_slot (plain.Break at) d.0.0 d.0.1), fit.0, fit.1, fit.2), same_scope s s' h a))
  stmt_known s s' h a w (plain.For (plain.Continue at) test step t) l d =
      loop_known (Said s s' (plain.Continue at)) (Said s s' (plain.For (plain.Continue at) test step t)) (stated s w (plain.Continue at)) s s s' w test step t
      (stmt_known s s' h a w (plain.Continue at) (last weighing.node _ widening.node _ (first _ _ _ _ (first _ _ _ _ (first _ _ _ _ l)))) d.0.0)
      (maybe_known s s' h a.names test (last _ _ _ _ (first _ _ _ _ (first _ _ _ _ l)))) (maybe_known s s' h a.names step (last _ _ _ _ (first _ _ _ _ l)))
      (body_of s s' t (stated s (in_loop w) t) (stmt_known s s' h a (in_loop w) t (last _ _ _ _ l) d.1.0)) (no_slot t d.1.0 d.1.1)
      (λ inner k fit. (((k.0, no_slot (plain.Continue at) d.0.0 d.0.1), fit.0, fit.1, fit.2), same_scope s s' h a))
  stmt_known s s' h a w (plain.For (plain.Switch e ps) test step t) l d =
      loop_known (Said s s' (plain.Switch e ps)) (Said s s' (plain.For (plain.Switch e ps) test step t)) (stated s w (plain.Switch e ps)) s s s' w test step t
      (stmt_known s s' h a w (plain.Switch e ps) (last weighing.node _ widening.node _ (first _ _ _ _ (first _ _ _ _ (first _ _ _ _ l)))) d.0.0)
      (maybe_known s s' h a.names test (last _ _ _ _ (first _ _ _ _ (first _ _ _ _ l)))) (maybe_known s s' h a.names step (last _ _ _ _ (first _ _ _ _ l)))
      (body_of s s' t (stated s (in_loop w) t) (stmt_known s s' h a (in_loop w) t (last _ _ _ _ l) d.1.0)) (no_slot t d.1.0 d.1.1)
      (λ inner k fit. (((k.0, no_slot (plain.Switch e ps) d.0.0 d.0.1), fit.0, fit.1, fit.2), same_scope s s' h a))
  stmt_known s s' h a w (plain.Return at e) l d =
      after_ok (λ _. MaybeIsFit s' e) (Said s s' (plain.Return at e)) (maybe_judged s e) (λ x. keeping (return_rules at w.result x) s) (maybe_known s s' h a.names e (last _ _ _ _ l))
      (λ x _ f. keeping_ok (Said s s' (plain.Return at e)) (return_rules at w.result x) s (λ _. (f, same_scope s s' h a)))
  stmt_known s s' h a w (plain.Break at) l d = keeping_one (Said s s' (plain.Break at)) w.breaks (fault.Mismatch at) s (λ _. (tt, same_scope s s' h a))
  stmt_known s s' h a w (plain.Continue at) l d = keeping_one (Said s s' (plain.Continue at)) w.continues (fault.Mismatch at) s (λ _. (tt, same_scope s s' h a))
  stmt_known s s' h a w (plain.Switch e ps) l d =
      both_ok (λ _. IsFit s' e) (λ _. PartsAreFit (entered s') ps) (Said s s' (plain.Switch e ps)) (judged s e) (all_parts (entered s) (in_switch w) ps) (λ x labels. keeping (switch_rules x labels) s)
      (fits s s' h a.names e (last _ _ _ _ (first _ _ _ _ l))) (parts_known (entered s) (entered s') (record { tags = h.tags; names = h.names }) (entered_follows s s' a.names) (in_switch w) ps (last _ _ _ _ l) d)
      (λ x labels _ _ f k. keeping_ok (Said s s' (plain.Switch e ps)) (switch_rules x labels) s (λ _. ((f, k), same_scope s s' h a)))

  pub stmts_known : (s s' : Scope) → ScopeIsGood s → Follows s s' → (w : Around) (ts : CStmts) → IsLight (stmts_sum weighing s ts) (stmts_sum widening s ts) → AllDeclareInBlocks ts → IfOk (SaidAll s s' ts) (all_stated s w ts)
  stmts_known s s' h a w plain.NoStmt l d = (tt, same_scope s s' h a)
  stmts_known s s' h a w (plain.MoreStmt t ts) l d =
      sequence (Said s s' t) (SaidAll (scope_behind s t) (scope_behind s' t) ts) (SaidAll s s' (plain.MoreStmt t ts)) (λ x. x) (λ r. scope_or s r) (λ _ inner. inner) (scope_behind s t) (λ x. all_stated x w ts) (stated s w t)
      (λ x. refl) (stmt_known s s' h a w t (first _ _ _ _ l) d.0) (λ x k. (k.1.is, stmts_known (scope_behind s t) (scope_behind s' t) k.1.good k.1.follows w ts (last _ _ _ _ l) d.1))
      (λ x inner k m. ((k.0, m.0), m.1))

  pub part_known : (s s' : Scope) → ScopeIsGood s → Follows s s' → (w : Around) (p : CPart) → IsLight (part_sum weighing s p) (part_sum widening s p) → PartDeclaresInBlocks p → IfOk (SaidPart s s' p) (part_judged s w p)
  part_known s s' h a w (plain.Label at e) l d =
      after_ok Any (SaidPart s s' (plain.Label at e)) (maybe_judged s e) (λ x. Ok (record { scope = s; labels = record { pos = at; value = x } ∷ [] })) (any_ok (maybe_judged s e)) (λ x _ _. (tt, same_scope s s' h a))
  part_known s s' h a w (plain.Item t) l d =
      after_ok (Said s s' t) (SaidPart s s' (plain.Item t)) (stated s w t) (λ inner. Ok (record { scope = inner; labels = [] })) (stmt_known s s' h a w t (last _ _ _ _ l) d) (λ x _ k. k)

  pub parts_known : (s s' : Scope) → ScopeIsGood s → Follows s s' → (w : Around) (ps : CParts) → IsLight (parts_sum weighing s ps) (parts_sum widening s ps) → PartsDeclareInBlocks ps → IfOk (λ _. PartsAreFit s' ps) (all_parts s w ps)
  parts_known s s' h a w plain.NoPart l d = tt
  parts_known s s' h a w (plain.MorePart p ps) l d =
      sequence (SaidPart s s' p) (λ _. PartsAreFit (scope_behind_part s' p) ps) (λ _. PartsAreFit s' (plain.MorePart p ps)) (λ part. part.scope) (λ r. part_scope_or s r) (λ part labels. part.labels ++ labels) (scope_behind_part s p) (λ x. all_parts x w ps)
      (part_judged s w p) (λ x. refl) (part_known s s' h a w p (first _ _ _ _ l) d.0) (λ x k. (k.1.is, parts_known (scope_behind_part s p) (scope_behind_part s' p) k.1.good k.1.follows w ps (last _ _ _ _ l) d.1))
      (λ x labels k m. (k.0, m))
