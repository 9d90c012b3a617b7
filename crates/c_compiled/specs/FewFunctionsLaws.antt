-- Functions whose operators became calls, as lowering asks of them.
use Rattle.std.specs.Prelude.{ℕ, Bool, false, List}
use Rattle.c_eval.specs.Environment.{Callee}
use Rattle.c_eval.specs.Eval.{World}
use Rattle.c_eval.specs.LiteralsIn.{stmt_literals}
use Rattle.c_eval.specs.Text.{Definition}
use Rattle.c_valid.specs.Limited.{StmtIsLimited}
use Rattle.c_fewer_types.specs.Standing.{StmtHas, AnyDeclaration}
use Rattle.c_fewer_items.specs.Kept.{DefinitionStands}
use Rattle.c_fitting.specs.Blocks.{IsNoDeclaration, DeclaresInBlocks}
use Rattle.c_landing.specs.Landing.{Setting}
use Rattle.c_landing.specs.Few.{LiteralsAre}
use Rattle.c_stated.specs.Statements.{DeclaresNothing}
use Rattle.c_stated.specs.Texts.{StatementIs}
use Rattle.c_followed.specs.Breaks.{BreaksAreIn}
use Rattle.c_followed.specs.Bodies.{inside, beginning}
use Rattle.c_fewer_reached.specs.Updates.{UpdatesAre}
use Rattle.c_compiled.specs.Functions.{IsTextFunction, NamesServe}

-- a function's body is as lowering asks, but for its words and its steps
pub record BodyIs (S : Setting) (w : World) (may : Callee → Bool) (f : Definition) : Type 0 where
  pub body : StatementIs (inside S f) w may f.body (beginning S f)
  pub declares : DeclaresNothing f.body
  pub breaks : BreaksAreIn false false f.body

-- of a function of a text: its body is within the limits, assigns with the operators that C has for it, and declares in blocks
pub record IsOrdinaryFunction (defined : List (List ℕ)) (f : Definition) : Type 0 where
  pub text : IsTextFunction defined f
  pub updates : StmtHas UpdatesAre AnyDeclaration f.body
  pub limited : StmtIsLimited f.scope f.body
  pub blocks : DeclaresInBlocks f.body
  pub block : IsNoDeclaration f.body

-- where operators became calls, the body of a function is so, if its names serve and its literals stand
abbrev pub FunctionsAreFew : Type 0
FunctionsAreFew =
    (S : Setting) (w : World) (may : Callee → Bool) (test : List ℕ → Bool) (defined : List (List ℕ)) (f g : Definition) → NamesServe S.ground.valued may test defined → IsOrdinaryFunction defined f → DefinitionStands test f g
    → LiteralsAre S.ground w.owner (stmt_literals g.scope g.body) 0 → BodyIs S w may g
