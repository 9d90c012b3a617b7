use Rattle.std.proofs.Common.{◌≡◌, ◌+◌, ◌<◌, length, map, ap, ◌∙◌, arith}
use Rattle.eir_line.specs.Reading.{statement_of}
use Rattle.eir_text.specs.Names.{defined_after}
use Rattle.eir_text.specs.Layout.{word_count}
use Rattle.eir_text.specs.Reading.{texts, number_at}
use Rattle.eir_text.proofs.Steps.{drop_at}
use Rattle.eir_text.proofs.StepLemmas.{data_defined, data_ends}
use Rattle.eir_text.proofs.data.define_data.Goals as goal

pub loop-line-preserved : goal.loop-line-preserved
loop-line-preserved c =
    let inside : c.loop-line.line-index < length c.args.pieces.now = omega arith in
    let left = drop_at c.args.pieces.now c.loop-line.line-index c.loop-line-item.result inside c.loop-line-item.is in
    let behind : c.in-Some.behind ≡ c.loop-line.address + word_count (statement_of c.loop-line-item.result.1.now.line.statement) = omega (arith, c.in-Some.ensures) in
    record {
      small = omega (arith, c.in-Some.ensures);
      end = omega (arith, data_ends c.args.pieces.now c.loop-line.line-index c.loop-line-item.result left);
      defined = λ name.
          data_defined c.args.pieces.now c.loop-line.line-index c.loop-line-item.result c.loop-line.address c.in-Some.behind name (number_at c.loop-line.numbers name) (number_at c.define.new.numbers name) _
          left behind
          (c.in_ok-define.ensures.defined name ∙ ap (λ ls. defined_after (number_at c.loop-line.numbers name) (map (λ label. (label, c.loop-line.address)) (texts ls)) name) c.deref.ensures.value)
          (c.loop-line.invariant.defined name);
    }
