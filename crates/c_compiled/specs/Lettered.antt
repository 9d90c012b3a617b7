-- String literals of a function stand where their numbers say.
use Rattle.std.specs.Prelude.{ℕ, Bool, List}
use Rattle.c_syntax.specs.Plain.{CExpr, CDecl, CStmt}
use Rattle.c_eval.specs.Environment.{object_type_in, Environment, declaring, Callee}
use Rattle.c_eval.specs.LiteralsIn.{stmt_literals}
use Rattle.c_eval.specs.Eval.{World}
use Rattle.c_landing.specs.Landing.{Setting}
use Rattle.c_landing.specs.Few.{LiteralsAre, IsFew}
use Rattle.c_valued.specs.Calls.{CallsAre}
use Rattle.c_stated.specs.Statements.{MaybeFirstHas, StmtHas}
use Rattle.c_stated.specs.Texts.{StatementIs}

-- the operators of an expression are few, and its calls are of what may be called
abbrev pub OperatorsAre : (valued : List ℕ → Bool) → (may : Callee → Bool) → CExpr → Environment → Type 0
OperatorsAre valued may e site = IsFew e valued site.scope × CallsAre may valued e site.scope

-- so it is in a declaration's first value
abbrev pub FirstsAre : (valued : List ℕ → Bool) → (may : Callee → Bool) → CDecl → Environment → Type 0
FirstsAre valued may d site = MaybeFirstHas (λ e site. OperatorsAre valued may e site) (object_type_in site.scope d) d.first (declaring d site)

-- where a statement's literals are those of its function from their number on, so are those of each of its expressions: with few operators and such calls it is as lowering asks
abbrev pub StatementsAreLettered : Type 0
StatementsAreLettered =
    (S : Setting) (w : World) (may : Callee → Bool) (t : CStmt) (site : Environment) → StmtHas (λ e site. OperatorsAre S.ground.valued may e site) (λ d site. FirstsAre S.ground.valued may d site) t site
    → LiteralsAre S.ground w.owner (stmt_literals site.scope t) site.literals_before → StatementIs S w may t site
