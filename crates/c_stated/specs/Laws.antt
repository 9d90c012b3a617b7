-- What holds of the code of statements.
use Rattle.std.specs.Prelude.{ℕ, ◌+◌, ◌*◌, ◌^◌, ◌<◌, ◌≤◌, Bool, List}
use Rattle.c_syntax.specs.Plain.{CDecl, CStmt, CStmts, CParts}
use Rattle.c_eval.specs.Environment.{object_type_in, objects_in, block_objects, parts_objects, Environment, declaring, Callee}
use Rattle.c_eval.specs.Eval.{World, does, all_do, parts_do}
use Rattle.c_helpers.specs.Cost.{stmt_cost}
use Rattle.c_stated.specs.Counts.{stmt_words}
use Rattle.c_lowered.specs.Locations.{Location}
use Rattle.c_lowered.specs.Counts.{stmt_jumps, stmts_jumps, parts_jumps}
use Rattle.c_lowered.specs.Statements.{Targets, stmt_code, stmts_code, parts_code}
use Rattle.c_landing.specs.Landing.{Names, placed, Setting}
use Rattle.c_landing.specs.Few.{Agrees}
use Rattle.c_valued.specs.Calls.{UnitPays, with_names, CallsLand}
use Rattle.c_stated.specs.Flows.{Performs}
use Rattle.c_stated.specs.Texts.{StatementIs}
use Rattle.c_stated.specs.Statements.{MaybeFirstValued, DeclarationValued, StmtValued, stmt_need, stmts_need, parts_need, stmt_steps, stmts_steps, parts_steps}

-- a statement is followed by its code, whatever names are in scope, in any block and at any word of the frame behind which its words have room
abbrev pub Stated : Setting → World → ℕ → CStmt → Environment → Type 0
Stated S w u t site =
    (bases : List Location) (coded named : Names) (k d n i o : ℕ) (to : Targets) → 1 ≤ d → stmt_need t site ≤ n → k + stmt_jumps t < 2 ^ 24 → to.broke < 2 ^ 24 → to.continued < 2 ^ 24
    → Performs (with_names S bases coded named) (stmt_code t (record S.linking { bases = bases }) (placed coded i site) k d to) k d n (stmt_steps u t site) (does t S.deep w (placed named o site)) to i o (objects_in site.scope t)

abbrev pub AllStated : Setting → World → ℕ → CStmts → Environment → Type 0
AllStated S w u ts site =
    (bases : List Location) (coded named : Names) (k d n i o : ℕ) (to : Targets) → 1 ≤ d → stmts_need ts site ≤ n → k + stmts_jumps ts < 2 ^ 24 → to.broke < 2 ^ 24 → to.continued < 2 ^ 24
    → Performs (with_names S bases coded named) (stmts_code ts (record S.linking { bases = bases }) (placed coded i site) k d to) k d n (stmts_steps u ts site) (all_do ts S.deep w (placed named o site)) to i o (block_objects site.scope ts)

abbrev pub PartsStated : Setting → World → ℕ → CParts → Environment → Type 0
PartsStated S w u ps site =
    (bases : List Location) (coded named : Names) (k d n i o : ℕ) (to : Targets) → 1 ≤ d → parts_need ps site ≤ n → k + parts_jumps ps < 2 ^ 24 → to.broke < 2 ^ 24 → to.continued < 2 ^ 24
    → Performs (with_names S bases coded named) (parts_code ps (record S.linking { bases = bases }) (placed coded i site) k d to) k d n (parts_steps u ps site) (parts_do ps S.deep w (placed named o site)) to i o (parts_objects site.scope ps)

-- where a unit pays for the operations of a statement, it pays for those of each turn in it
abbrev pub StatementsLand : Type 0
StatementsLand = (S : Setting) (w : World) (u worth_one : ℕ) (t : CStmt) (site : Environment) → Agrees S w → UnitPays S.mode w.inner worth_one → StmtValued S w u t site → stmt_steps u t site ≤ worth_one → Stated S w u t site

-- a declaration's first value comes into its object's cells, word by word
abbrev pub DeclarationsLand : Type 0
DeclarationsLand = (S : Setting) (w : World) (u : ℕ) (d : CDecl) (site : Environment) → Agrees S w → MaybeFirstValued S w u (object_type_in site.scope d) d.first (declaring d site) → DeclarationValued S w u d site

-- where calls land, statements as desugaring leaves them do
abbrev pub TextsLand : Type 0
TextsLand =
    (S : Setting) (w : World) (u worth_one : ℕ) (may : Callee → Bool) (t : CStmt) (site : Environment) → Agrees S w → UnitPays S.mode w.inner worth_one → CallsLand S w u may → StatementIs S w may t site → stmt_steps u t site ≤ worth_one → Stated S w u t site

-- without uses of helper functions a statement runs at most as many operations as its tree costs, and four for each word that is spelled in a first value
abbrev pub StatementStepsFit : Type 0
StatementStepsFit = (t : CStmt) (site : Environment) → stmt_steps 0 t site ≤ stmt_cost t + 4 * stmt_words site.scope t
