-- Statements as desugaring leaves them.
use Rattle.std.specs.Prelude.{Bool}
use Rattle.c_syntax.specs.Plain.{CExpr, CDecl, CStmt}
use Rattle.c_eval.specs.Environment.{object_type_in, Environment, declaring, Callee}
use Rattle.c_eval.specs.LiteralsIn.{literals_in}
use Rattle.c_eval.specs.Eval.{World}
use Rattle.c_landing.specs.Landing.{Setting}
use Rattle.c_landing.specs.Few.{LiteralsAre, IsFew}
use Rattle.c_valued.specs.Calls.{CallsAre}
use Rattle.c_stated.specs.Statements.{MaybeFirstHas, StmtHas}

-- the operators of an expression are few, its calls are of what may be called, and its literals stand where their numbers say
abbrev pub ExprIs : Setting → World → (Callee → Bool) → CExpr → Environment → Type 0
ExprIs S w may e site = IsFew e S.ground.valued site.scope × CallsAre may S.ground.valued e site.scope × LiteralsAre S.ground w.owner (literals_in site.scope e) site.literals_before

abbrev pub DeclarationIs : Setting → World → (Callee → Bool) → CDecl → Environment → Type 0
DeclarationIs S w may d site = MaybeFirstHas (λ e site. ExprIs S w may e site) (object_type_in site.scope d) d.first (declaring d site)

-- so it is with each expression of a statement
abbrev pub StatementIs : Setting → World → (Callee → Bool) → CStmt → Environment → Type 0
StatementIs S w may t site = StmtHas (λ e site. ExprIs S w may e site) (λ d site. DeclarationIs S w may d site) t site
