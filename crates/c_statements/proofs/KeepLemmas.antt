-- The scope behind a statement that declares nothing, by its form.
use Rattle.std.proofs.Common.{◌≡◌, [], ◌∷◌, List, Option, Some, None, refl, sym, ap, subst, ◌∙◌}
use Rattle.std.specs.Prelude.{Result, Ok, Err, OnOk}
use Rattle.std.specs.Result.{result_err}
use Rattle.c_syntax.specs.Plain as plain
use Rattle.c_syntax.specs.Plain.{CExpr, CStmt}
use Rattle.c_syntax.specs.View.{stmt_of}
use Rattle.c_syntax.specs.declared.tree.Decl.{Decl}
use Rattle.c_syntax.specs.declared.tree.Stmt.{Stmt, Local, If', None', Some'}
use Rattle.c_syntax.specs.declared.tree.Stmt.TheVariants as stmt
use Rattle.c_types.specs.declared.fault.TypeFault.{TypeFault}
use Rattle.c_types.specs.declared.fault.TypeFault.TheVariants as fault
use Rattle.c_types.specs.Refusals.{Judged, Rule, after, both, keeping, broken}
use Rattle.c_types.specs.Scope.{Scope, entered}
use Rattle.c_types.specs.Operands.{Operand}
use Rattle.c_types.specs.Declarations.{scope_or}
use Rattle.c_types.specs.Expressions.{judged}
use Rattle.c_types.specs.Statements.{Around, in_loop, in_switch, condition_rules, test_rules, return_rules, switch_rules, maybe_judged, stated, all_stated, all_parts}
use Rattle.c_types.specs.Table.{Table}
use Rattle.c_operands.specs.declared.declarations.Declarations.{Declarations}
use Rattle.c_declared.specs.Held.{Holds}
use Rattle.c_conditions.specs.Told.{Tested, IsTested, settled, behind}
use Rattle.c_conditions.proofs.VerdictLemmas.{behind_is}
use Rattle.c_statements.proofs.ScopeLemmas.{rules_keep, after_keeps, done_keeps, both_keep}

-- a statement that is no declaration
abbrev pub no_local : CStmt → Type 0
no_local (plain.Local d) = ⊥
no_local _ = Unit {0}

-- a statement that is no block
abbrev pub no_block : CStmt → Type 0
no_block (plain.Block ss) = ⊥
no_block _ = Unit {0}

-- what stands behind the head of a `for`
abbrev pub rest_judged : Scope → Around → Option CExpr → Option CExpr → CStmt → Judged (Option Operand × Scope)
rest_judged s w test step t = both {C = Option Operand × Scope} (both {C = Option Operand} (maybe_judged s test) (maybe_judged s step) (λ a _. Ok a)) (stated s (in_loop w) t) (λ a b. Ok (a, b))

abbrev pub rest_rules : Option Operand × Scope → List Rule
rest_rules parts = test_rules parts.0

abbrev pub for_other : Scope → Around → CStmt → Option CExpr → Option CExpr → CStmt → Judged Scope
for_other s w first test step t = both (stated s w first) (rest_judged s w test step t) (λ _ parts. keeping (rest_rules parts) s)

abbrev pub for_block : Scope → Judged Scope → Around → Option CExpr → Option CExpr → CStmt → Judged Scope
for_block s head w test step t = both head (rest_judged (scope_or s head) w test step t) (λ _ parts. keeping (rest_rules parts) s)

pub by_other : (s : Scope) (w : Around) (first : CStmt) (test step : Option CExpr) (t : CStmt) → no_block first → stated s w (plain.For first test step t) ≡ for_other s w first test step t
by_other s w (plain.Block ss) test step t h = absurd h
by_other s w plain.Empty test step t h = refl
by_other s w _ test step t h = refl

for_keeps : (s : Scope) (w : Around) (first : CStmt) (test step : Option CExpr) (t : CStmt) → scope_or s (stated s w (plain.For first test step t)) ≡ s
for_keeps s w (plain.Block ss) test step t =
    let head = all_stated (entered s) w ss in
    both_keep head (rest_judged (scope_or s head) w test step t) (λ _ parts. rest_rules parts) s
for_keeps s w plain.Empty test step t = both_keep (stated s w plain.Empty) (rest_judged s w test step t) (λ _ parts. rest_rules parts) s
for_keeps s w first test step t = both_keep (stated s w first) (rest_judged s w test step t) (λ _ parts. rest_rules parts) s

keeps : (s : Scope) (w : Around) (t : CStmt) → no_local t → scope_or s (stated s w t) ≡ s
keeps s w (plain.Block ss) h = done_keeps (all_stated (entered s) w ss) s
keeps s w (plain.Local d) h = absurd h
keeps s w (plain.Do_expr e) h = done_keeps (judged s e) s
keeps s w plain.Empty h = refl
keeps s w (plain.If e t) h = both_keep (judged s e) (stated s w t) (λ a _. condition_rules a) s
keeps s w (plain.IfElse e t u) h = both_keep (judged s e) (both {C = Scope × Scope} (stated s w t) (stated s w u) (λ y z. Ok (y, z))) (λ a _. condition_rules a) s
keeps s w (plain.While e t) h = both_keep (judged s e) (stated s (in_loop w) t) (λ a _. condition_rules a) s
keeps s w (plain.Do t e) h = both_keep (judged s e) (stated s (in_loop w) t) (λ a _. condition_rules a) s
keeps s w (plain.For first test step t) h = for_keeps s w first test step t
keeps s w (plain.Return at e) h = after_keeps (maybe_judged s e) (λ a. return_rules at w.result a) s
keeps s w (plain.Break at) h = rules_keep (broken ((w.breaks, fault.Mismatch at) ∷ [])) s
keeps s w (plain.Continue at) h = rules_keep (broken ((w.continues, fault.Mismatch at) ∷ [])) s
keeps s w (plain.Switch e ps) h = both_keep (judged s e) (all_parts (entered s) (in_switch w) ps) (λ a labels. switch_rules a labels) s

-- the scope behind a statement of a form
pub stays_at : (table : Table) (d : Declarations) (s : Scope) (w : Around) (x y : Stmt) → x ≡ y → no_local (stmt_of y) → Holds table d s → Holds table d (scope_or s (stated s w (stmt_of x)))
stays_at table d s w x y is other h = subst (λ (z : Scope). Holds table d z) (sym (ap (λ (z : Stmt). scope_or s (stated s w (stmt_of z))) is ∙ keeps s w (stmt_of y) other)) h

pub stays : {T E : Type 0} (r : Result T E) (table : Table) (d : Declarations) (s : Scope) (w : Around) (x y : Stmt) → x ≡ y → no_local (stmt_of y) → OnOk r (Holds table d s) → OnOk r (Holds table d (scope_or s (stated s w (stmt_of x))))
stays (Ok a) table d s w x y is other h = stays_at table d s w x y is other h
stays (Err e) table d s w x y is other h = tt

-- the scope before a statement that declares nothing
pub stayed : {T E : Type 0} (r : Result T E) (table : Table) (d : Declarations) (s : Scope) (w : Around) (x : Stmt) → no_local (stmt_of x) → OnOk r (Holds table d (scope_or s (stated s w (stmt_of x)))) → OnOk r (Holds table d s)
stayed r table d s w x other h = subst (λ (z : Scope). OnOk r (Holds table d z)) (keeps s w (stmt_of x) other) h

pub other_local : (x : Stmt) → ((d : Decl) → x ≡ stmt.Local d → ⊥) → no_local (stmt_of x)
other_local (Local d) h = absurd (h d refl)
other_local (If' e p t None') h = tt
other_local (If' e p t (Some' q u)) h = tt
other_local _ h = tt

-- ---- refusals

pub done_told : {A B : Type 0} (p : Judged A) (b : B) → result_err (after p (λ _. Ok b)) ≡ result_err p
done_told (Ok a) b = refl
done_told (Err e) b = refl

-- a tree that isn't refused gives something
pub given : {A : Type 0} (p : Judged A) (told : Option TypeFault) → told ≡ result_err p → told ≡ None → (a : A) × (p ≡ Ok a)
given (Ok a) told h k = (a, refl)
given (Err e) told h k = absurd cc

pub refused : {A : Type 0} (p : Judged A) (told : Option TypeFault) (e : TypeFault) → told ≡ result_err p → told ≡ Some e → p ≡ Err e
refused (Ok a) told e h k = absurd cc
refused (Err d) told e h k = ap (λ (x : TypeFault). Err x) (some_is d e (sym h ∙ k)) where
  some_is : (d e : TypeFault) → Some d ≡ Some e → d ≡ e
  some_is d e h = cc

-- ---- the head of a `for` that is a block

pub block_rest : (s inner : Scope) (head : Judged Scope) (w : Around) (test step : Option CExpr) (t : CStmt) (j : Tested) → head ≡ Ok inner → IsTested rest_rules j (rest_judged inner w test step t)
    → settled j ≡ result_err (for_block s head w test step t)
block_rest s inner head w test step t j is tested =
    behind_is rest_rules s None head j (rest_judged (scope_or s head) w test step t) (sym (ap result_err is))
    (subst (λ (r : Scope). IsTested rest_rules j (rest_judged r w test step t)) (sym (ap (scope_or s) is)) tested)

pub block_refused : (s : Scope) (e : TypeFault) (head : Judged Scope) (w : Around) (test step : Option CExpr) (t : CStmt) (j : Tested) → head ≡ Err e → IsTested rest_rules j (rest_judged s w test step t)
    → behind (Some e) j ≡ result_err (for_block s head w test step t)
block_refused s e head w test step t j is tested =
    behind_is rest_rules s (Some e) head j (rest_judged (scope_or s head) w test step t) (sym (ap result_err is))
    (subst (λ (r : Scope). IsTested rest_rules j (rest_judged r w test step t)) (sym (ap (scope_or s) is)) tested)
