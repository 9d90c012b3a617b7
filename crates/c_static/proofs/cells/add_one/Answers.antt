use Rattle.std.proofs.Common.{◌≡◌, ℕ, List, [], ◌∷◌, map, sym, ap, subst, ◌∙◌, if◌then◌else◌}
use Rattle.std.specs.Option.{option_map}
use Rattle.c_syntax.specs.Plain as tree
use Rattle.c_syntax.specs.View.{expr_of}
use Rattle.c_eval.specs.State as run
use Rattle.c_eval.specs.Operators.{converted}
use Rattle.c_eval.specs.Eval.{array_text}
use Rattle.c_eval.specs.LiteralsIn.{literals_in}
use Rattle.c_eval.specs.Text.{static_value, static_cells}
use Rattle.c_emitted.proofs.EmitLemmas.{on_ok}
use Rattle.c_static.specs.Cells.{AddsShown, AddsCells}
use Rattle.c_static.proofs.CellLemmas.{with_literals, one_worth}
use Rattle.c_static.proofs.StringLemmas.{taken_by, not_taken_by, taken_literal}
use Rattle.c_static.proofs.cells.add_one.Goals as goal

pub returns-in_ok-add_bytes-in-Some-clause-cells : goal.returns-in_ok-add_bytes-in-Some-clause-cells
returns-in_ok-add_bytes-in-Some-clause-cells c = λ t env has at quiet.
    let e = expr_of c.args.e.now in
    let bytes = c.in-Some.bytes.items in
    let p = taken_by t e bytes (sym (ap (option_map (λ v. v.items)) c.in-Some.is) ∙ c.in_ok-text.ensures t has) in
    let l = taken_literal t e p.taken in
    let old = c.args.cells.now.items in
    let new = c.add_bytes.new.cells.items in
    let f : ℕ → run.Cell = λ n. run.Holds (run.Word n) in
    let cells : map f c.as_slice.result.now ≡ static_cells (tree.One e) t env =
    ap (map f) (c.as_slice.ensures.value ∙ p.bytes_are) ∙ sym (ap (λ b. if b then map f (array_text t e) else run.Holds (converted t (static_value env e)) ∷ []) p.taken) in
    on_ok c.pass_literal.result (λ emits.
    subst (λ (ls : List (List ℕ)). AddsCells c.args.out.now c.pass_literal.new.out old new (static_cells (tree.One e) t env) ls) (sym (l.literals env.scope))
    (with_literals (subst (AddsShown old new) cells c.in_ok-add_bytes-in-Some.ensures) emits)) (c.pass_literal.ensures l.text)

pub returns-in_ok-push-in-None-clause-cells : goal.returns-in_ok-push-in-None-clause-cells
returns-in_ok-push-in-None-clause-cells c = λ t env has at quiet.
    let e = expr_of c.args.e.now in
    let none = not_taken_by t e (sym (ap (option_map (λ v. v.items)) c.in-None.is) ∙ c.in_ok-text.ensures t has) in
    let f : ℕ → run.Cell = λ n. run.Holds (run.Word n) in
    subst (λ (cs : List run.Cell). AddsCells c.args.out.now c.first_worth.new.out c.args.cells.now.items c.push.new.self.items cs (literals_in env.scope e))
    (sym (ap (λ b. if b then map f (array_text t e) else run.Holds (converted t (static_value env e)) ∷ []) none))
    (one_worth c.in_ok-push-in-None.ensures.items (c.in_ok-v-in-None.ensures.worth t env has at) (c.in_ok-v-in-None.ensures.emits env at quiet))
