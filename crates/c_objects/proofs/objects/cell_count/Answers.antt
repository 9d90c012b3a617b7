use Rattle.std.proofs.Common.{◌≡◌, ℕ, [], length, ap, subst, ◌∙◌, arith}
use Rattle.std.specs.Prelude.{IfOk}
use Rattle.c_syntax.specs.View.{maybe_value}
use Rattle.c_eval.specs.Text.{first_cells}
use Rattle.c_objects.proofs.ObjectLemmas.{at_place, first_length, nothing_known}
use Rattle.c_objects.proofs.objects.cell_count.Goals as goal

pub returns-clause-count : goal.returns-clause-count
returns-clause-count c = λ t env has holds structs quiet.
    let s = env.scope in
    let first = maybe_value c.args.first.now in
    let cells = c.in_ok-cells.cells.items in
    let scratch = c.new-scratch.result in
    let at = nothing_known c.args.types.now c.args.declared.now scratch s env.next holds c.new-scratch.ensures.owner c.new-scratch.ensures.before c.new-scratch.ensures.files in
    let gives = c.in_ok-cells.ensures.cells t (at_place s [] env.next 0) has at structs quiet in
    let whole : length cells ≡ length (first_cells t first env) = ap length gives.behind ∙ (gives.shown.count ∙ first_length first t s [] env.objects env.next env.next 0 env.literals_before) in
    let count : c.len.result ≡ length (first_cells t first env) = omega (arith, c.len.ensures, whole) in
    subst (λ (k : ℕ). IfOk c.number_of.result (λ n. n ≡ k)) count c.number_of.ensures
