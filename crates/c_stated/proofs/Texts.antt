-- Statements as desugaring leaves them land.
use Rattle.std.proofs.Common.{ℕ, ◌≤◌, Bool, true, false, List, Option, Some, None}
use Rattle.c_syntax.specs.Plain.{CExpr, CValue, One, Many, CValues, NoValue, MoreValue, CDecl, CStmt, Block, Local, Do_expr, Empty, If, IfElse, While, Do, For, Return, Break, Continue, Switch, CStmts, NoStmt, MoreStmt, Label, Item, CParts, NoPart, MorePart}
use Rattle.c_types.specs.Types.{CType}
use Rattle.c_types.specs.Declarations.{Slots, first_slot, next_slots, slots_of, takes_string}
use Rattle.c_eval.specs.Environment.{Environment, object_type_in, type_or_nothing, past, past_value, declaring, past_stmt, behind, in_block, Callee}
use Rattle.c_eval.specs.Eval.{World, array_text}
use Rattle.c_lowered.specs.Locations.{Location}
use Rattle.c_lowered.specs.Expressions.{unused}
use Rattle.c_landing.specs.Landing.{Names, Setting}
use Rattle.c_landing.specs.Few.{Agrees}
use Rattle.c_valued.specs.Calls.{UnitPays, with_names, CallsLand}
use Rattle.c_valued.proofs.Values.{values}
use Rattle.c_stated.specs.Statements.{ExprValued, DeclarationValued, MaybeHas, EffectHas, AreWords, WhereTaken, FirstHas, FirstsHas, MaybeFirstHas, StmtHas, StmtsHas, PartsHas, stmt_steps}
use Rattle.c_stated.specs.Texts.{ExprIs, DeclarationIs, StatementIs}
use Rattle.c_stated.specs.Laws.{Stated}
use Rattle.c_stated.proofs.Parts.{agrees_named}
use Rattle.c_stated.proofs.Statements.{stated}
use Rattle.c_stated.proofs.Firsts.{declared}

-- ---- where other objects are in scope

calls_named : (S : Setting) (w : World) (u : ℕ) (may : Callee → Bool) (bases : List Location) (coded named : Names) → CallsLand S w u may → CallsLand (with_names S bases coded named) w u may
calls_named S w u may bases coded named h = record { direct = h.direct; known = h.known; through = h.through; built_in = h.built_in; format = h.format; bytes = h.bytes }

-- ---- what follows of each expression follows of statements

module _ (E R : CExpr → Environment → Type 0) (f : (e : CExpr) (site : Environment) → E e site → R e site) where
  taken : (b : Bool) (T : Type 0) (e : CExpr) (site : Environment) → WhereTaken b T (E e site) → WhereTaken b T (R e site)
  taken true T e site h = h
  taken false T e site h = f e site h

  mutual
    first_follows : (v : CValue) (t : CType) (site : Environment) → FirstHas E t v site → FirstHas R t v site
    first_follows (One e) t site h = taken (takes_string t e) (AreWords (array_text t e)) e site h
    first_follows (Many vs) t site h = firsts_follow vs (slots_of site.scope.tags (Some t)) site h

    firsts_follow : (vs : CValues) (slots : Slots) (site : Environment) → FirstsHas E slots vs site → FirstsHas R slots vs site
    firsts_follow NoValue slots site h = tt
    firsts_follow (MoreValue v vs) slots site h = (first_follows v (type_or_nothing (first_slot slots)) site h.0, firsts_follow vs (next_slots slots) (past_value v site) h.1)

  maybe_first_follows : (v : Option CValue) (t : CType) (site : Environment) → MaybeFirstHas E t v site → MaybeFirstHas R t v site
  maybe_first_follows None t site h = tt
  maybe_first_follows (Some v) t site h = first_follows v t site h

  maybe_follows : (e : Option CExpr) (site : Environment) → MaybeHas E e site → MaybeHas R e site
  maybe_follows None site h = tt
  maybe_follows (Some e) site h = f e site h

  effect_follows : (e : Option CExpr) (site : Environment) → EffectHas E e site → EffectHas R e site
  effect_follows None site h = tt
  effect_follows (Some e) site h = f (unused e) site h

  module _ (D C : CDecl → Environment → Type 0) (g : (d : CDecl) (site : Environment) → D d site → C d site) where
    mutual
      stmt_follows : (t : CStmt) (site : Environment) → StmtHas E D t site → StmtHas R C t site
      stmt_follows (Block ss) site h = stmts_follow ss (in_block 0 site) h
      stmt_follows (Local d) site h = (h.0, g d site h.1)
      stmt_follows (Do_expr e) site h = f (unused e) site h
      stmt_follows Empty site h = tt
      stmt_follows (If e t) site h = (f e site h.0, h.1, stmt_follows t (past e site) h.2)
      stmt_follows (IfElse e t v) site h = (f e site h.0, h.1, h.2, stmt_follows t (past e site) h.3, stmt_follows v (past_stmt t (past e site)) h.4)
      stmt_follows (While e t) site h = (f e site h.0, h.1, stmt_follows t (past e site) h.2)
      stmt_follows (Do t e) site h = (h.0, stmt_follows t site h.1, f e (past_stmt t site) h.2)
      stmt_follows (For (Block ss) test step t) site h = (stmts_follow ss (in_block 0 site) h.0, maybe_follows test _ h.1, effect_follows step _ h.2, h.3, stmt_follows t _ h.4)
      stmt_follows (For (Local d) test step t) site h = absurd h.0
      stmt_follows (For (Do_expr e) test step t) site h = (h.0, stmt_follows (Do_expr e) site h.1, maybe_follows test _ h.2, effect_follows step _ h.3, h.4, stmt_follows t _ h.5)
      stmt_follows (For Empty test step t) site h = (h.0, stmt_follows Empty site h.1, maybe_follows test _ h.2, effect_follows step _ h.3, h.4, stmt_follows t _ h.5)
      stmt_follows (For (If e a) test step t) site h = (h.0, stmt_follows (If e a) site h.1, maybe_follows test _ h.2, effect_follows step _ h.3, h.4, stmt_follows t _ h.5)
      stmt_follows (For (IfElse e a b) test step t) site h = (h.0, stmt_follows (IfElse e a b) site h.1, maybe_follows test _ h.2, effect_follows step _ h.3, h.4, stmt_follows t _ h.5)
      stmt_follows (For (While e a) test step t) site h = (h.0, stmt_follows (While e a) site h.1, maybe_follows test _ h.2, effect_follows step _ h.3, h.4, stmt_follows t _ h.5)
      stmt_follows (For (Do a e) test step t) site h = (h.0, stmt_follows (Do a e) site h.1, maybe_follows test _ h.2, effect_follows step _ h.3, h.4, stmt_follows t _ h.5)
      stmt_follows (For (For x y z a) test step t) site h = (h.0, stmt_follows (For x y z a) site h.1, maybe_follows test _ h.2, effect_follows step _ h.3, h.4, stmt_follows t _ h.5)
      stmt_follows (For (Return at e) test step t) site h = (h.0, stmt_follows (Return at e) site h.1, maybe_follows test _ h.2, effect_follows step _ h.3, h.4, stmt_follows t _ h.5)
      stmt_follows (For (Break at) test step t) site h = (h.0, stmt_follows (Break at) site h.1, maybe_follows test _ h.2, effect_follows step _ h.3, h.4, stmt_follows t _ h.5)
      stmt_follows (For (Continue at) test step t) site h = (h.0, stmt_follows (Continue at) site h.1, maybe_follows test _ h.2, effect_follows step _ h.3, h.4, stmt_follows t _ h.5)
      stmt_follows (For (Switch e ps) test step t) site h = (h.0, stmt_follows (Switch e ps) site h.1, maybe_follows test _ h.2, effect_follows step _ h.3, h.4, stmt_follows t _ h.5)
      stmt_follows (Return at e) site h = maybe_follows e site h
      stmt_follows (Break at) site h = tt
      stmt_follows (Continue at) site h = tt
      stmt_follows (Switch e ps) site h = (f e site h.0, h.1, parts_follow ps (in_block 0 (past e site)) h.2)

      stmts_follow : (ts : CStmts) (site : Environment) → StmtsHas E D ts site → StmtsHas R C ts site
      stmts_follow NoStmt site h = tt
      stmts_follow (MoreStmt t ts) site h = (stmt_follows t site h.0, stmts_follow ts (behind t site) h.1)

      parts_follow : (ps : CParts) (site : Environment) → PartsHas E D ps site → PartsHas R C ps site
      parts_follow NoPart site h = tt
      parts_follow (MorePart (Label at e) ps) site h = parts_follow ps site h
      parts_follow (MorePart (Item t) ps) site h = (stmt_follows t site h.0, parts_follow ps (behind t site) h.1)

-- ---- texts

module _ (S : Setting) (w : World) (agrees : Agrees S w) (u : ℕ) (may : Callee → Bool) (land : CallsLand S w u may) where
  pub expr_valued : (e : CExpr) (site : Environment) → ExprIs S w may e site → ExprValued S w u e site
  expr_valued e site h bases coded named =
      values (with_names S bases coded named) w (agrees_named S w bases coded named agrees) u may (calls_named S w u may bases coded named land) e site h.1 h.0 h.2

  declaration_valued : (d : CDecl) (site : Environment) → DeclarationIs S w may d site → DeclarationValued S w u d site
  declaration_valued d site h =
      declared S w agrees u d site (maybe_first_follows (λ e site. ExprIs S w may e site) (λ e site. ExprValued S w u e site) expr_valued d.first (object_type_in site.scope d) (declaring d site) h)

  pub text_stated : (worth : ℕ) → UnitPays S.mode w.inner worth → (t : CStmt) (site : Environment) → StatementIs S w may t site → stmt_steps u t site ≤ worth → Stated S w u t site
  text_stated worth unit t site h le =
      stated S w agrees u worth unit t site
      (stmt_follows (λ e site. ExprIs S w may e site) (λ e site. ExprValued S w u e site) expr_valued (λ d site. DeclarationIs S w may d site) (λ d site. DeclarationValued S w u d site) declaration_valued t site h) le
