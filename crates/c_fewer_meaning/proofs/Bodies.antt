-- A run of a function with fewer operators does what a run of the function does.
use Rattle.std.proofs.Common.{◌≡◌, ℕ, ◌<◌, List, [], ◌∷◌, Some, true, refl, sym, ap, ◌∙◌, subst, arith}
use Rattle.std.specs.Prelude.{Ok}
use Rattle.c_syntax.specs.Plain as plain
use Rattle.c_syntax.specs.Plain.{CStmt}
use Rattle.c_types.specs.Refusals.{after}
use Rattle.c_types.specs.Scope.{Scope, entered}
use Rattle.c_types.specs.Statements.{Around, stated}
use Rattle.c_types.specs.Units.{body_judged}
use Rattle.c_eval.specs.State.{Value}
use Rattle.c_eval.specs.Memory.{within}
use Rattle.c_eval.specs.Environment.{Environment}
use Rattle.c_eval.specs.Eval.{does}
use Rattle.c_eval.specs.Meaning.{argument_objects, body_environment, result_of, runs}
use Rattle.c_valid.specs.Valid.{most_cells, AreValid}
use Rattle.c_valid.proofs.Objects.{NewAreValid}
use Rattle.c_alike.specs.Alike.{EachName}
use Rattle.c_fewer_types.specs.Written.{StringsAreShort}
use Rattle.c_helpers.specs.Fewer.{fewer_in, fewer_in_body}
use Rattle.c_fewer_types.specs.Standing.{StmtHas, IsDeclaration, AnyDeclaration}
use Rattle.c_fewer_values.proofs.Runs.{first_is}
use Rattle.c_fewer_meaning.specs.Laws.{elsewhere}
use Rattle.c_fewer_meaning.proofs.Same.{Agree}
use Rattle.c_fewer_meaning.proofs.Runs.{within_agree}
use Rattle.c_fewer_meaning.proofs.FewerStatementsKept.{statements_are_kept}
use Rattle.c_fewer_meaning.specs.FewerBodiesLaws.{BodiesAreKept}
use Rattle.c_fewer_meaning.proofs.Expressions.{sees_entered}
use Rattle.c_fewer_meaning.proofs.Trees.{block_tree}

-- ---- a body is a statement

-- as a statement it is typed too, and has the same tree
body_is : (s : Scope) (w : Around) (t : CStmt) (r : Scope) → StmtHas StringsAreShort IsDeclaration t → body_judged s w (Some t) ≡ Ok r → (other : Scope) × (stated s w t ≡ Ok other) × (fewer_in_body s t ≡ fewer_in s t)
body_is s w (plain.Block ss) r h e =
    let k = block_tree s (entered s) w ss r (sees_entered s) h e in
    (s, ap (λ q. after {A = Scope} {B = Scope} q (λ _. Ok s)) k.1, ap plain.Block (sym k.2))
body_is s w (plain.Local d) r h e = (r, e, refl)
body_is s w (plain.Do_expr x) r h e = (r, e, refl)
body_is s w plain.Empty r h e = (r, e, refl)
body_is s w (plain.If x t) r h e = (r, e, refl)
body_is s w (plain.IfElse x t u) r h e = (r, e, refl)
body_is s w (plain.While x t) r h e = (r, e, refl)
body_is s w (plain.Do t x) r h e = (r, e, refl)
body_is s w (plain.For first check step t) r h e = (r, e, refl)
body_is s w (plain.Return at x) r h e = (r, e, refl)
body_is s w (plain.Break at) r h e = (r, e, refl)
body_is s w (plain.Continue at) r h e = (r, e, refl)
body_is s w (plain.Switch x ps) r h e = (r, e, refl)

-- ---- arguments

new_arguments : (params : List (List ℕ)) (vs : List Value) → AreValid vs → NewAreValid (argument_objects params vs)
new_arguments [] vs a = tt
new_arguments (name ∷ params) [] a = tt
new_arguments (name ∷ params) (v ∷ vs) a = (((a.0, tt), one), new_arguments params vs a.1)
  where
    one : 1 < most_cells
    one = omega arith

pub bodies_are_kept : BodiesAreKept
unfolding runs
bodies_are_kept test w f s' names around r deep vs st stand helps outer stays short limited ordinary named is a v =
    let k = body_is f.scope around f.body r short is in
    let P : List ℕ → Type 0 = λ name. test name ≡ true in
    let there : StmtHas (EachName P) AnyDeclaration (fewer_in f.scope f.body) = subst (λ t. StmtHas (EachName P) AnyDeclaration t) k.2 named in
    let place : ℕ → Environment = λ n. body_environment f names vs n in
    let body : (n : ℕ) → Agree (does (fewer_in_body f.scope f.body) deep w (elsewhere s' (place n))) (does f.body deep w (place n)) =
    λ n st v. ap (λ t. does t deep w (elsewhere s' (place n)) st) k.2 ∙ statements_are_kept test w (place n) s' around f.body k.0 deep st stand helps outer stays short limited ordinary there k.1 v in
    first_is (within (argument_objects f.params vs) (λ n. does (fewer_in_body f.scope f.body) deep w (elsewhere s' (place n)))) (within (argument_objects f.params vs) (λ n. does f.body deep w (place n))) (result_of f.result) st
    (within_agree (argument_objects f.params vs) (argument_objects f.params vs) (λ n. does (fewer_in_body f.scope f.body) deep w (elsewhere s' (place n))) (λ n. does f.body deep w (place n)) refl (new_arguments f.params vs a) body st v)
