-- A function's body is a statement as lowering asks.
use Rattle.std.proofs.Common.{◌≡◌, ℕ, List, Bool, true, false, sym, subst}
use Rattle.c_syntax.specs.Plain as plain
use Rattle.c_syntax.specs.Plain.{CStmt}
use Rattle.c_types.specs.Scope.{Scope}
use Rattle.c_types.specs.Statements.{Around}
use Rattle.c_eval.specs.Environment.{Callee}
use Rattle.c_eval.specs.Eval.{World}
use Rattle.c_eval.specs.LiteralsIn.{stmt_literals}
use Rattle.c_eval.specs.Text.{Definition}
use Rattle.c_alike.specs.Alike.{EachName}
use Rattle.c_helpers.specs.Fewer.{fewer_in, fewer_in_body}
use Rattle.c_fewer_types.specs.Standing.{StmtHas, AnyDeclaration}
use Rattle.c_fewer_types.proofs.Statements.{statements_stay_typed}
use Rattle.c_fewer_meaning.specs.FewerBodiesLaws.{fewer_in_definition}
use Rattle.c_fewer_items.specs.Kept.{DefinitionStands}
use Rattle.c_fitting.specs.Blocks.{IsNoDeclaration}
use Rattle.c_landing.specs.Landing.{Setting}
use Rattle.c_landing.specs.Few.{LiteralsAre}
use Rattle.c_stated.specs.Statements.{DeclaresNothing}
use Rattle.c_followed.specs.Breaks.{BreaksAreIn}
use Rattle.c_followed.proofs.Breaking.{typed_texts_break_inside}
use Rattle.c_followed.specs.Bodies.{inside, beginning}
use Rattle.c_compiled.proofs.Lettering.{statements_are_lettered}
use Rattle.c_compiled.specs.Statements.{HasFew}
use Rattle.c_compiled.proofs.Statements.{bodies_are_few, body_is}
use Rattle.c_compiled.specs.Functions.{NamesServe}
use Rattle.c_compiled.proofs.Serving.{text_scopes_serve}
use Rattle.c_compiled.specs.FewFunctionsLaws.{BodyIs, IsOrdinaryFunction, FunctionsAreFew}

declares_nothing : (t : CStmt) (s : Scope) → IsNoDeclaration t → DeclaresNothing (fewer_in_body s t)
declares_nothing (plain.Block ss) s h = tt
declares_nothing (plain.Local d) s h = absurd (cc h)
declares_nothing t s h = tt

module _ (S : Setting) (w : World) (may : Callee → Bool) (test : List ℕ → Bool) (defined : List (List ℕ)) (f g : Definition) (serve : NamesServe S.ground.valued may test defined) (is : IsOrdinaryFunction defined f) (stands : DefinitionStands test f g) where
  abbrev P : List ℕ → Type 0
  P name = test name ≡ true

  abbrev around : Around
  around = record { result = f.result; continues = false; breaks = false }

  abbrev made : Definition
  made = fewer_in_definition f stands.scope

  few : HasFew S.ground.valued may (fewer_in_body f.scope f.body) (beginning S made)
  few =
      bodies_are_few S.ground.valued may test f.scope around f.body is.text.behind (beginning S made) serve.through stands.stand
      (text_scopes_serve S.ground.valued may test defined f.scope stands.scope serve is.text.scope) (record { short = stands.short; updates = is.updates; limited = is.limited; blocks = is.blocks }) stands.passes is.text.typed

  breaks : BreaksAreIn false false (fewer_in_body f.scope f.body)
  breaks =
      let k = body_is f.scope around f.body is.text.behind stands.short is.text.typed in
      let named : StmtHas (EachName P) AnyDeclaration (fewer_in f.scope f.body) = subst (λ z. StmtHas (EachName P) AnyDeclaration z) k.2 stands.passes in
      let m = statements_stay_typed test f.scope stands.scope around f.body k.0 stands.stand stands.short named k.1 in
      subst (λ z. BreaksAreIn false false z) (sym k.2) (typed_texts_break_inside stands.scope around (fewer_in f.scope f.body) m.0 m.1)

  body_of : LiteralsAre S.ground w.owner (stmt_literals stands.scope (fewer_in_body f.scope f.body)) 0 → BodyIs S w may made
  body_of l = record {
    body = statements_are_lettered (inside S made) w may (fewer_in_body f.scope f.body) (beginning S made) few l;
    declares = declares_nothing f.body f.scope is.block;
    breaks = breaks;
  }

pub functions_are_few : FunctionsAreFew
functions_are_few S w may test defined f g serve is stands l =
    let k : LiteralsAre S.ground w.owner (stmt_literals stands.scope (fewer_in_body f.scope f.body)) 0 = subst (λ (z : Definition). LiteralsAre S.ground w.owner (stmt_literals z.scope z.body) 0) stands.is l in
    subst (λ z. BodyIs S w may z) (sym stands.is) (body_of S w may test defined f g serve is stands k)
