-- The place behind a statement with fewer operators is the place behind the statement, in another scope.
use Rattle.std.proofs.Common.{◌≡◌, ℕ, ◌+◌, List, length, Option, Some, None, Bool, true, refl, ap, ◌∙◌, subst}
use Rattle.std.specs.Option.{option_map}
use Rattle.c_syntax.specs.Plain as plain
use Rattle.c_syntax.specs.Plain.{CExpr, CValue, CStmt, CStmts}
use Rattle.c_types.specs.Scope.{Scope}
use Rattle.c_types.specs.Census.{scope_behind, scope_behind_all}
use Rattle.c_eval.specs.LiteralsIn.{first_literals, stmt_literals}
use Rattle.c_eval.specs.Environment.{Environment, past, past_maybe, past_value, declaring, past_first, past_stmt, behind, behind_all}
use Rattle.c_valid.proofs.Meanings.{scope_is}
use Rattle.c_alike.specs.Alike.{EachName}
use Rattle.c_helpers.specs.Fewer.{fewer, maybe_fewer, with_values, fewer_in, fewer_in_all}
use Rattle.c_fewer_types.specs.Standing.{ScopesStand, ValueHas}
use Rattle.c_fewer_types.proofs.FewerLiteralsProofs.{expr_kept, value_kept, statements_keep_literals}
use Rattle.c_fewer_meaning.specs.Laws.{elsewhere}
use Rattle.c_fewer_meaning.proofs.Fits.{ExprFits, MaybeFits, StmtFits, StmtsFit, some_fits, first_fits, rest_fits}

-- so many literals further on, in another scope
abbrev further : Environment → Scope → List (List ℕ) → Environment
further here s' these = record here { scope = s'; literals_before = here.literals_before + length these }

pub maybe_scope : (e : Option CExpr) (here : Environment) → (past_maybe e here).scope ≡ here.scope
maybe_scope None here = refl
maybe_scope (Some e) here = refl

module _ (test : List ℕ → Bool) where
  abbrev P : List ℕ → Type 0
  P name = test name ≡ true

  pub past_same : (e : CExpr) (here : Environment) (s' : Scope) → ExprFits P here.scope s' e → past (fewer here.scope e) (elsewhere s' here) ≡ elsewhere s' (past e here)
  past_same e here s' a = ap (further here s') (expr_kept test here.scope s' e a.stand a.names)

  pub maybe_past : (e : Option CExpr) (here : Environment) (s' : Scope) → MaybeFits P here.scope s' e → past_maybe (maybe_fewer here.scope e) (elsewhere s' here) ≡ elsewhere s' (past_maybe e here)
  maybe_past None here s' a = refl
  maybe_past (Some e) here s' a = past_same e here s' (some_fits P here.scope s' e a)

  pub value_past : (v : CValue) (here : Environment) (s' : Scope) → ScopesStand P here.scope s' → ValueHas (EachName P) (with_values (fewer here.scope) v) → past_value (with_values (fewer here.scope) v) (elsewhere s' here) ≡ elsewhere s' (past_value v here)
  value_past v here s' a names = ap (further here s') (value_kept test here.scope s' v a names)

  literals : (s s' : Scope) (t : CStmt) → StmtFits P s s' t → stmt_literals s' (fewer_in s t) ≡ stmt_literals s t
  literals s s' t a = statements_keep_literals test s s' a.around t a.scope a.stand a.short a.names a.is

  -- behind a statement that declares nothing
  pub stmt_past : (t : CStmt) (here : Environment) (s' : Scope) → StmtFits P here.scope s' t → past_stmt (fewer_in here.scope t) (elsewhere s' here) ≡ elsewhere s' (past_stmt t here)
  stmt_past t here s' a = ap (further here s') (literals here.scope s' t a)

  first_past : (o : Option CValue) (f : CExpr → CExpr) (here : Environment) (s' : Scope) → first_literals s' (option_map (with_values f) o) ≡ first_literals here.scope o → past_first (option_map (with_values f) o) (elsewhere s' here) ≡ elsewhere s' (past_first o here)
  first_past None f here s' e = refl
  first_past (Some v) f here s' e = ap (further here s') e

  pub behind_same : (t : CStmt) (here : Environment) (s' : Scope) → StmtFits P here.scope s' t → behind (fewer_in here.scope t) (elsewhere s' here) ≡ elsewhere (scope_behind s' (fewer_in here.scope t)) (behind t here)
  behind_same (plain.Local d) here s' a = first_past d.first (fewer (scope_behind here.scope (plain.Local d))) (declaring d here) (scope_behind s' (fewer_in here.scope (plain.Local d))) (literals here.scope s' (plain.Local d) a)
  behind_same t here s' a = stmt_past t here s' a

  pub all_behind_same : (ss : CStmts) (here : Environment) (s' : Scope) → StmtsFit P here.scope s' ss → behind_all (fewer_in_all here.scope ss) (elsewhere s' here) ≡ elsewhere (scope_behind_all s' (fewer_in_all here.scope ss)) (behind_all ss here)
  all_behind_same plain.NoStmt here s' a = refl
  all_behind_same (plain.MoreStmt t ts) here s' a =
      let s : Scope = here.scope in
      let r' : Scope = scope_behind s' (fewer_in s t) in
      let rest : behind_all (fewer_in_all (scope_behind s t) ts) (elsewhere r' (behind t here)) ≡ elsewhere (scope_behind_all r' (fewer_in_all (scope_behind s t) ts)) (behind_all ts (behind t here)) =
      subst (λ z. StmtsFit P z r' ts → behind_all (fewer_in_all z ts) (elsewhere r' (behind t here)) ≡ elsewhere (scope_behind_all r' (fewer_in_all z ts)) (behind_all ts (behind t here))) (scope_is t here) (λ b. all_behind_same ts (behind t here) r' b) (rest_fits test s s' t ts a) in
      ap (λ h. behind_all (fewer_in_all (scope_behind s t) ts) h) (behind_same t here s' (first_fits test s s' t ts a)) ∙ rest
