-- What is asked of the parts of a statement, the words that it wants in the frame, and the operations that are run at most.
use Rattle.std.specs.Prelude.{ℕ, ◌+◌, ◌*◌, ◌^◌, ◌<◌, ◌≤◌, max, Bool, true, false, List, [], ◌∷◌, length, Option, Some, None, if◌then◌else◌}
use Rattle.c_syntax.specs.Plain as plain
use Rattle.c_syntax.specs.Plain.{CExpr, CValue, CValues, CDecl, CStmt, CStmts, CPart, CParts}
use Rattle.c_types.specs.Types.{CType, words_of}
use Rattle.c_types.specs.Scope.{Scope, entered}
use Rattle.c_types.specs.Declarations.{Slots, first_slot, next_slots, slots_of, takes_string}
use Rattle.c_eval.specs.Environment.{constant_in, object_type_in, slot_kinds, type_or_nothing, objects_in, block_objects, parts_objects, Environment, past, past_maybe, past_value, declaring, past_stmt, behind, behind_all, behind_part, in_block}
use Rattle.c_eval.specs.Run.{◌>>=◌, give}
use Rattle.c_eval.specs.Eval.{World, array_text, Next, first_value}
use Rattle.c_helpers.specs.Frames.{waiting, first_waiting}
use Rattle.c_lowered.specs.Locations.{Location}
use Rattle.c_lowered.specs.Expressions.{unused}
use Rattle.c_lowered.specs.Counts.{maybe_first_jumps, case_jumps}
use Rattle.c_lowered.specs.Statements.{declaration_code, Targets, words_in}
use Rattle.c_landing.specs.Landing.{Names, placed, Setting}
use Rattle.c_valued.specs.Steps.{steps, truth_steps}
use Rattle.c_valued.specs.Laws.{Valued}
use Rattle.c_valued.specs.Calls.{with_names}
use Rattle.c_stated.specs.Flows.{Performs}

-- ---- first values

abbrev mutual
  -- of a first value: four for each word that is spelled
  pub first_steps : ℕ → Scope → CType → CValue → ℕ
  first_steps u s t (plain.One e) = if takes_string t e then 4 * length (array_text t e) else steps u e + 3
  first_steps u s t (plain.Many vs) = firsts_steps u s (slots_of s.tags (Some t)) vs

  pub firsts_steps : ℕ → Scope → Slots → CValues → ℕ
  firsts_steps u s slots plain.NoValue = 4 * length (slot_kinds s.tags slots)
  firsts_steps u s slots (plain.MoreValue v vs) = first_steps u s (type_or_nothing (first_slot slots)) v + firsts_steps u s (next_slots slots) vs

abbrev pub declared_steps : ℕ → Scope → CType → Option CValue → ℕ
declared_steps u s t None = 0
declared_steps u s t (Some v) = first_steps u s t v

-- ---- what is asked

-- an expression lands, whatever names are in scope
abbrev pub ExprValued : Setting → World → ℕ → CExpr → Environment → Type 0
ExprValued S w u e site = (bases : List Location) (coded named : Names) → Valued (with_names S bases coded named) w u e site

-- what holds of expressions, of one that may be missing
abbrev pub MaybeHas : (CExpr → Environment → Type 0) → Option CExpr → Environment → Type 0
MaybeHas E None site = Unit {0}
MaybeHas E (Some e) site = E e site

-- and of one that is run for what it does
abbrev pub EffectHas : (CExpr → Environment → Type 0) → Option CExpr → Environment → Type 0
EffectHas E None site = Unit {0}
EffectHas E (Some e) site = E (unused e) site

abbrev pub MaybeValued : Setting → World → ℕ → Option CExpr → Environment → Type 0
MaybeValued S w u e site = MaybeHas (λ e site. ExprValued S w u e site) e site

abbrev pub EffectValued : Setting → World → ℕ → Option CExpr → Environment → Type 0
EffectValued S w u e site = EffectHas (λ e site. ExprValued S w u e site) e site

abbrev pub AreWords : List ℕ → Type 0
AreWords [] = Unit {0}
AreWords (c ∷ cs) = (c < 2 ^ 24) × AreWords cs

-- the one is asked where a string is taken, and else the other
abbrev pub WhereTaken : Bool → Type 0 → Type 0 → Type 0
WhereTaken true text value = text
WhereTaken false text value = value

abbrev mutual
  -- it holds of the expressions of a first value, and a string in an array has words
  pub FirstHas : (CExpr → Environment → Type 0) → CType → CValue → Environment → Type 0
  FirstHas E t (plain.One e) site = WhereTaken (takes_string t e) (AreWords (array_text t e)) (E e site)
  FirstHas E t (plain.Many vs) site = FirstsHas E (slots_of site.scope.tags (Some t)) vs site

  pub FirstsHas : (CExpr → Environment → Type 0) → Slots → CValues → Environment → Type 0
  FirstsHas E slots plain.NoValue site = Unit {0}
  FirstsHas E slots (plain.MoreValue v vs) site = FirstHas E (type_or_nothing (first_slot slots)) v site × FirstsHas E (next_slots slots) vs (past_value v site)

abbrev pub MaybeFirstHas : (CExpr → Environment → Type 0) → CType → Option CValue → Environment → Type 0
MaybeFirstHas E t None site = Unit {0}
MaybeFirstHas E t (Some v) site = FirstHas E t v site

abbrev pub FirstValued : Setting → World → ℕ → CType → CValue → Environment → Type 0
FirstValued S w u t v site = FirstHas (λ e site. ExprValued S w u e site) t v site

abbrev pub FirstsValued : Setting → World → ℕ → Slots → CValues → Environment → Type 0
FirstsValued S w u slots vs site = FirstsHas (λ e site. ExprValued S w u e site) slots vs site

abbrev pub MaybeFirstValued : Setting → World → ℕ → CType → Option CValue → Environment → Type 0
MaybeFirstValued S w u t v site = MaybeFirstHas (λ e site. ExprValued S w u e site) t v site

-- the code of a declaration follows its first value, where its object lies in the frame
abbrev pub DeclarationValued : Setting → World → ℕ → CDecl → Environment → Type 0
DeclarationValued S w u d site =
    (bases : List Location) (coded named : Names) (k free n i o : ℕ) (to : Targets) → first_waiting d.first ≤ n → k + maybe_first_jumps d.first < 2 ^ 24
    → Performs (with_names S bases coded named) (declaration_code d d.first (record S.linking { bases = bases }) (placed coded i site) k free) k free n (declared_steps u (declaring d site).scope (object_type_in site.scope d) d.first)
    (first_value d w (placed named o site) d.first >>= λ _. give Next) to i o (objects_in site.scope (plain.Local d))

-- what a label compares with is a word
abbrev pub LabelIsWord : CPart → Environment → Type 0
LabelIsWord (plain.Label at (Some e)) site = constant_in site.scope e < 2 ^ 24
LabelIsWord p site = Unit {0}

-- so is that of each
abbrev pub LabelsAreWords : CParts → Environment → Type 0
LabelsAreWords plain.NoPart site = Unit {0}
LabelsAreWords (plain.MorePart p ps) site = LabelIsWord p site × LabelsAreWords ps (behind_part p site)

-- a statement that declares nothing
abbrev pub DeclaresNothing : CStmt → Type 0
DeclaresNothing (plain.Local d) = ⊥
DeclaresNothing t = Unit {0}

abbrev mutual
  -- the one holds of the expressions of a statement, the other of its declarations, and each object has a word
  pub StmtHas : (CExpr → Environment → Type 0) → (CDecl → Environment → Type 0) → CStmt → Environment → Type 0
  StmtHas E D (plain.Block ss) site = StmtsHas E D ss (in_block 0 site)
  StmtHas E D (plain.Local d) site = (1 ≤ words_of site.scope.tags (object_type_in site.scope d)) × D d site
  StmtHas E D (plain.Do_expr e) site = E (unused e) site
  StmtHas E D plain.Empty site = Unit {0}
  StmtHas E D (plain.If e t) site = E e site × DeclaresNothing t × StmtHas E D t (past e site)
  StmtHas E D (plain.IfElse e t v) site = E e site × DeclaresNothing t × DeclaresNothing v × StmtHas E D t (past e site) × StmtHas E D v (past_stmt t (past e site))
  StmtHas E D (plain.While e t) site = E e site × DeclaresNothing t × StmtHas E D t (past e site)
  StmtHas E D (plain.Do t e) site = DeclaresNothing t × StmtHas E D t site × E e (past_stmt t site)
  StmtHas E D (plain.For (plain.Block ss) test step t) site =
      let inner = behind_all ss (in_block 0 site) in
      StmtsHas E D ss (in_block 0 site) × MaybeHas E test inner × EffectHas E step (past_maybe test inner) × DeclaresNothing t × StmtHas E D t (past_maybe step (past_maybe test inner))
  StmtHas E D (plain.For start test step t) site =
      let inner = behind start site in
      DeclaresNothing start × StmtHas E D start site × MaybeHas E test inner × EffectHas E step (past_maybe test inner) × DeclaresNothing t × StmtHas E D t (past_maybe step (past_maybe test inner))
  StmtHas E D (plain.Return at e) site = MaybeHas E e site
  StmtHas E D (plain.Break at) site = Unit {0}
  StmtHas E D (plain.Continue at) site = Unit {0}
  StmtHas E D (plain.Switch e ps) site = E e site × LabelsAreWords ps (in_block 0 (past e site)) × PartsHas E D ps (in_block 0 (past e site))

  pub StmtsHas : (CExpr → Environment → Type 0) → (CDecl → Environment → Type 0) → CStmts → Environment → Type 0
  StmtsHas E D plain.NoStmt site = Unit {0}
  StmtsHas E D (plain.MoreStmt t ts) site = StmtHas E D t site × StmtsHas E D ts (behind t site)

  pub PartsHas : (CExpr → Environment → Type 0) → (CDecl → Environment → Type 0) → CParts → Environment → Type 0
  PartsHas E D plain.NoPart site = Unit {0}
  PartsHas E D (plain.MorePart (plain.Label at e) ps) site = PartsHas E D ps site
  PartsHas E D (plain.MorePart (plain.Item t) ps) site = StmtHas E D t site × PartsHas E D ps (behind t site)

abbrev pub StmtValued : Setting → World → ℕ → CStmt → Environment → Type 0
StmtValued S w u t site = StmtHas (λ e site. ExprValued S w u e site) (λ d site. DeclarationValued S w u d site) t site

abbrev pub StmtsValued : Setting → World → ℕ → CStmts → Environment → Type 0
StmtsValued S w u ts site = StmtsHas (λ e site. ExprValued S w u e site) (λ d site. DeclarationValued S w u d site) ts site

abbrev pub PartsValued : Setting → World → ℕ → CParts → Environment → Type 0
PartsValued S w u ps site = PartsHas (λ e site. ExprValued S w u e site) (λ d site. DeclarationValued S w u d site) ps site

-- ---- words of the frame

abbrev pub maybe_need : Option CExpr → ℕ
maybe_need None = 0
maybe_need (Some e) = waiting e

abbrev mutual
  -- those that wait at once, and those of the objects of inner blocks
  pub stmt_need : CStmt → Environment → ℕ
  stmt_need (plain.Block ss) site = words_in (block_objects (entered site.scope) ss) + stmts_need ss (in_block 0 site)
  stmt_need (plain.Local d) site = first_waiting d.first
  stmt_need (plain.Do_expr e) site = waiting e
  stmt_need plain.Empty site = 0
  stmt_need (plain.If e t) site = max (waiting e) (stmt_need t (past e site))
  stmt_need (plain.IfElse e t v) site = max (waiting e) (max (stmt_need t (past e site)) (stmt_need v (past_stmt t (past e site))))
  stmt_need (plain.While e t) site = max (waiting e) (stmt_need t (past e site))
  stmt_need (plain.Do t e) site = max (stmt_need t site) (waiting e)
  stmt_need (plain.For (plain.Block ss) test step t) site =
      let inner = behind_all ss (in_block 0 site) in
      words_in (block_objects (entered site.scope) ss) + max (stmts_need ss (in_block 0 site)) (max (maybe_need test) (max (maybe_need step) (stmt_need t (past_maybe step (past_maybe test inner)))))
  stmt_need (plain.For start test step t) site =
      let inner = behind start site in
      max (stmt_need start site) (max (maybe_need test) (max (maybe_need step) (stmt_need t (past_maybe step (past_maybe test inner)))))
  stmt_need (plain.Return at e) site = maybe_need e
  stmt_need (plain.Break at) site = 0
  stmt_need (plain.Continue at) site = 0
  stmt_need (plain.Switch e ps) site = max (waiting e) (words_in (parts_objects (entered site.scope) ps) + parts_need ps (in_block 0 (past e site)))

  pub stmts_need : CStmts → Environment → ℕ
  stmts_need plain.NoStmt site = 0
  stmts_need (plain.MoreStmt t ts) site = max (stmt_need t site) (stmts_need ts (behind t site))

  pub parts_need : CParts → Environment → ℕ
  parts_need plain.NoPart site = 0
  parts_need (plain.MorePart (plain.Label at e) ps) site = parts_need ps site
  parts_need (plain.MorePart (plain.Item t) ps) site = max (stmt_need t site) (parts_need ps (behind t site))

-- ---- operations of statements

abbrev pub maybe_steps : ℕ → Option CExpr → ℕ
maybe_steps u None = 0
maybe_steps u (Some e) = steps u e

abbrev pub maybe_truth_steps : ℕ → Option CExpr → ℕ
maybe_truth_steps u None = 0
maybe_truth_steps u (Some e) = truth_steps u e

abbrev mutual
  -- of a statement, and of a turn of each loop in it
  pub stmt_steps : ℕ → CStmt → Environment → ℕ
  stmt_steps u (plain.Block ss) site = stmts_steps u ss (in_block 0 site)
  stmt_steps u (plain.Local d) site = declared_steps u (declaring d site).scope (object_type_in site.scope d) d.first
  stmt_steps u (plain.Do_expr e) site = steps u e
  stmt_steps u plain.Empty site = 0
  stmt_steps u (plain.If e t) site = truth_steps u e + (stmt_steps u t (past e site) + 1)
  stmt_steps u (plain.IfElse e t v) site = truth_steps u e + (stmt_steps u t (past e site) + stmt_steps u v (past_stmt t (past e site)) + 1)
  stmt_steps u (plain.While e t) site = truth_steps u e + stmt_steps u t (past e site) + 1
  stmt_steps u (plain.Do t e) site = stmt_steps u t site + truth_steps u e + 1
  stmt_steps u (plain.For (plain.Block ss) test step t) site =
      let inner = behind_all ss (in_block 0 site) in
      stmts_steps u ss (in_block 0 site) + (maybe_truth_steps u test + maybe_steps u step + stmt_steps u t (past_maybe step (past_maybe test inner)) + 2)
  stmt_steps u (plain.For start test step t) site =
      let inner = behind start site in
      stmt_steps u start site + (maybe_truth_steps u test + maybe_steps u step + stmt_steps u t (past_maybe step (past_maybe test inner)) + 2)
  stmt_steps u (plain.Return at e) site = maybe_steps u e
  stmt_steps u (plain.Break at) site = 0
  stmt_steps u (plain.Continue at) site = 0
  stmt_steps u (plain.Switch e ps) site = steps u e + (case_jumps ps + 1 + (parts_steps u ps (in_block 0 (past e site)) + 1 + 1))

  pub stmts_steps : ℕ → CStmts → Environment → ℕ
  stmts_steps u plain.NoStmt site = 0
  stmts_steps u (plain.MoreStmt t ts) site = stmt_steps u t site + stmts_steps u ts (behind t site)

  -- a label is jumped to
  pub parts_steps : ℕ → CParts → Environment → ℕ
  parts_steps u plain.NoPart site = 0
  parts_steps u (plain.MorePart (plain.Label at e) ps) site = 1 + parts_steps u ps site
  parts_steps u (plain.MorePart (plain.Item t) ps) site = stmt_steps u t site + parts_steps u ps (behind t site)
