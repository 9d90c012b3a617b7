use Rattle.std.proofs.Common.{map, ap, ◌∙◌}
use Rattle.eir_text.specs.Names.{defined_after}
use Rattle.eir_text.specs.Blocks.{behind_labels}
use Rattle.eir_text.specs.Reading.{texts, number_at, current_of}
use Rattle.eir_text.proofs.StepLemmas.{line_defined}
use Rattle.eir_text.proofs.blocks.define_line.Goals as goal

pub returns-in_ok-define-in-Text-clause-defined : goal.returns-in_ok-define-in-Text-clause-defined
returns-in_ok-define-in-Text-clause-defined c = λ rest name.
    line_defined c.args.line.now rest name (current_of c.args.block) (current_of c.behind_labels-here.result) (current_of c.behind_statement.result) (number_at c.args.numbers.now name) (number_at c.define.new.numbers name)
    c.in-Text.is
    (c.behind_labels-here.ensures.block ∙ ap (λ ls. behind_labels (current_of c.args.block) (texts ls)) c.deref.ensures.value)
    c.behind_statement.ensures.block
    (c.in_ok-define-in-Text.ensures.defined name ∙ ap (λ ls. defined_after (number_at c.args.numbers.now name) (map (λ label. (label, c.behind_labels-here.result.number)) (texts ls)) name) c.deref-in-Text.ensures.value)
