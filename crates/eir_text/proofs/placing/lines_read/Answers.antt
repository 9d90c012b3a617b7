use Rattle.std.proofs.Common.{◌≡◌, ◌+◌, ◌^◌, ◌≤◌, length, vec_len, sym, ap, ◌∙◌, arith}
use Rattle.std.proofs.lemmas.List.{length-map}
use Rattle.std.proofs.lemmas.Result.{IfOk-weaker}
use Rattle.eir_text.specs.Sections.{lines_of}
use Rattle.eir_text.proofs.ReadLemmas.{few_lines}
use Rattle.eir_text.proofs.placing.lines_read.Goals as goal

pub placed_lines-requires : goal.placed_lines-requires
placed_lines-requires c =
    let few : length (lines_of c.args.text.now) ≤ length c.args.text.now + 1 = few_lines c.args.text.now in
    let many : length c.in_ok-slices.slices.items ≡ length (lines_of c.args.text.now) = sym (length-map c.in_ok-slices.slices.items (λ x. x.now)) ∙ ap length c.in_ok-slices.ensures in
    let same : length c.deref.result.now ≡ length c.in_ok-slices.slices.items = ap length c.deref.ensures.value in
    omega arith

pub returns-clause-count : goal.returns-clause-count
returns-clause-count c =
    let few : length (lines_of c.args.text.now) ≤ length c.args.text.now + 1 = few_lines c.args.text.now in
    let many : length c.in_ok-slices.slices.items ≡ length (lines_of c.args.text.now) = sym (length-map c.in_ok-slices.slices.items (λ x. x.now)) ∙ ap length c.in_ok-slices.ensures in
    let same : length c.deref.result.now ≡ length c.in_ok-slices.slices.items = ap length c.deref.ensures.value in
    IfOk-weaker c.placed_lines.result (λ v. vec_len v ≡ length c.deref.result.now) (λ v. vec_len v ≤ 2 ^ 30) (λ v e. omega arith) c.placed_lines.ensures.count
