-- Arguments of a call, one after the other.
use Rattle.std.proofs.Common.{◌≡◌, ◌≤◌, ℕ, Bool, true, false, List, [], ◌++◌, length, map, drop, refl, sym, ap, subst, ◌∙◌, append-nil, append_assoc}
use Rattle.std.proofs.lemmas.List.{drop_all}
use Rattle.c_syntax.specs.Plain as tree
use Rattle.c_syntax.specs.Plain.{CExpr, CExprs, exprs}
use Rattle.c_syntax.specs.View.{expr_of}
use Rattle.c_syntax.specs.declared.tree.Expr.{Expr}
use Rattle.c_types.specs.Scope.{Scope}
use Rattle.c_eval.specs.Environment.{Environment, behind_literals}
use Rattle.c_code.specs.Code.{Instruction, Site}
use Rattle.c_types.specs.Table.{Table}
use Rattle.c_emitted.specs.declared.emitter.Emitter.{Emitter}
use Rattle.c_emitted.specs.Emits.{Emits}
use Rattle.c_emitted.proofs.EmitLemmas.{both, nothing}
use Rattle.c_here.specs.declared.here.Here as rust
use Rattle.c_here.specs.Here.{IsHere}
use Rattle.c_fitting.specs.Fit.{IsFit, AreFit}
use Rattle.c_flat_expressions.specs.Parts.{given_code, given_literals, argument_code, argument_literals}
use Rattle.c_flat_expressions.proofs.OnwardLemmas.{Onward, behind_nothing, here_on, here_grown}

-- the first arguments have code, and what is left stands behind it
pub record IsGiven (t : Table) (h : rust.Here) (a b : Emitter) (printed skips : Bool) (all left : CExprs) (site : Site) (env : Environment) : Type 0 where
  pub is : List Instruction
  pub ls : List (List ℕ)
  pub place : Environment
  pub emits : Emits a b is ls
  pub here : IsHere t h b site place
  pub fit : AreFit place.scope left
  pub code : given_code printed all site env ≡ is ++ given_code skips left site place
  pub literals : given_literals printed env.scope all ≡ ls ++ given_literals skips place.scope left

pub record Giving (old now : Table) (h : rust.Here) (a b : Emitter) (printed skips : Bool) (all left : CExprs) : Type 0 where
  pub so_far : (site : Site) (env : Environment) → IsHere old h a site env → AreFit env.scope all → IsGiven now h a b printed skips all left site env

pub none_given : (t : Table) (h : rust.Here) (a : Emitter) (printed : Bool) (all left : CExprs) → all ≡ left → Giving t t h a a printed printed all left
none_given t h a printed all left same = record {
  so_far = λ site env is fit. record {
    is = [];
    ls = [];
    place = env;
    emits = nothing a;
    here = is;
    fit = subst (AreFit env.scope) same fit;
    code = ap (λ (es : CExprs). given_code printed es site env) same;
    literals = ap (given_literals printed env.scope) same;
  };
}

one_code : (skips : Bool) (e : CExpr) (es : CExprs) (site : Site) (env : Environment) → given_code skips (tree.MoreExpr e es) site env ≡ argument_code skips e site env ++ given_code false es site (behind_literals (argument_literals skips env.scope e) env)
one_code true e es site env = ap (λ (here : Environment). given_code false es site here) (sym (behind_nothing env))
one_code false e es site env = refl

one_literals : (skips : Bool) (s : Scope) (e : CExpr) (es : CExprs) → given_literals skips s (tree.MoreExpr e es) ≡ argument_literals skips s e ++ given_literals false s es
one_literals true s e es = refl
one_literals false s e es = refl

pub one_given : (t0 t1 t2 t3 : Table) (h : rust.Here) (a b d : Emitter) (printed skips : Bool) (all left : CExprs) (e : CExpr) (rest : CExprs) → Giving t0 t1 h a b printed skips all left → left ≡ tree.MoreExpr e rest
    → ((site : Site) (env : Environment) → IsHere t1 h b site env → IsFit env.scope e → Emits b d (argument_code skips e site env) (argument_literals skips env.scope e)) → Onward t1 t2 → Onward t2 t3
    → Giving t0 t3 h a d printed false all rest
one_given t0 t1 t2 t3 h a b d printed skips all left e rest g next emit more most = record {
  so_far = λ site env is fit.
      let k = g.so_far site env is fit in
      let s = k.place.scope in
      let fits : AreFit s (tree.MoreExpr e rest) = subst (AreFit s) next k.fit in
      let one = emit site k.place k.here fits.0 in
      let xs = argument_code skips e site k.place in
      let ms = argument_literals skips s e in
      let past = behind_literals ms k.place in
      record {
        is = k.is ++ xs;
        ls = k.ls ++ ms;
        place = past;
        emits = both k.emits one;
        here = here_grown most (here_on more one k.here);
        fit = fits.1;
        code = k.code ∙ (ap (λ (es : CExprs). k.is ++ given_code skips es site k.place) next ∙ (ap (λ (l : List Instruction). k.is ++ l) (one_code skips e rest site k.place) ∙ sym (append_assoc k.is xs (given_code false rest site past))));
        literals = k.literals ∙ (ap (λ (es : CExprs). k.ls ++ given_literals skips s es) next ∙ (ap (λ (l : List (List ℕ)). k.ls ++ l) (one_literals skips s e rest) ∙ sym (append_assoc k.ls ms (given_literals false s rest))));
      };
}

no_code : (skips : Bool) (site : Site) (env : Environment) → given_code skips tree.NoExpr site env ≡ []
no_code true site env = refl
no_code false site env = refl

no_literals : (skips : Bool) (s : Scope) → given_literals skips s tree.NoExpr ≡ []
no_literals true s = refl
no_literals false s = refl

pub all_given : (t0 t1 : Table) (h : rust.Here) (a b : Emitter) (printed skips : Bool) (all left : CExprs) → Giving t0 t1 h a b printed skips all left → left ≡ tree.NoExpr
    → (site : Site) (env : Environment) → IsHere t0 h a site env → AreFit env.scope all → Emits a b (given_code printed all site env) (given_literals printed env.scope all)
all_given t0 t1 h a b printed skips all left g end site env is fit =
    let k = g.so_far site env is fit in
    let s = k.place.scope in
    let code : given_code printed all site env ≡ k.is = k.code ∙ (ap (λ (es : CExprs). k.is ++ given_code skips es site k.place) end ∙ (ap (λ (l : List Instruction). k.is ++ l) (no_code skips site k.place) ∙ append-nil k.is)) in
    let literals : given_literals printed env.scope all ≡ k.ls = k.literals ∙ (ap (λ (es : CExprs). k.ls ++ given_literals skips s es) end ∙ (ap (λ (l : List (List ℕ)). k.ls ++ l) (no_literals skips s) ∙ append-nil k.ls)) in
    subst (λ (l : List (List ℕ)). Emits a b (given_code printed all site env) l) (sym literals)
    (subst (λ (l : List Instruction). Emits a b l k.ls) (sym code) k.emits)

-- what is left of a list behind its last one
pub none_left : (items : List Expr) (i : ℕ) → length items ≤ i → exprs (map expr_of (drop i items)) ≡ tree.NoExpr
none_left items i past = ap (λ (l : List Expr). exprs (map expr_of l)) (drop_all i items past)
