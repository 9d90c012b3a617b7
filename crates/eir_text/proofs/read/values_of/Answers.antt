use Rattle.std.proofs.Common.{ap, ◌∙◌}
use Rattle.eir_text.specs.Names.{defined_after}
use Rattle.eir_text.specs.Sections.{text_lines}
use Rattle.eir_text.specs.Blocks.{first_block, block_labels}
use Rattle.eir_text.specs.Reading.{places, piece_lines, number_at}
use Rattle.eir_text.proofs.NameLemmas.{found}
use Rattle.eir_text.proofs.ReadLemmas.{piece_lines_laid, value_read}
use Rattle.eir_text.proofs.read.values_of.Goals as goal

pub returns-clause-values : goal.returns-clause-values
returns-clause-values c = λ name.
    value_read (places c.args.lines.now) (piece_lines c.args.pieces.now) name (number_at c.define_blocks.new.numbers name) (number_at c.define_data.new.numbers name) c.in_ok-other.other
    (piece_lines_laid c.args.pieces.now (places c.args.lines.now) c.requires.pieces)
    (c.in_ok-define_blocks.ensures.defined name
    ∙ ap (λ o. defined_after o (block_labels first_block (text_lines (places c.args.lines.now))) name) (ap (found name) c.new-numbers.ensures.empty))
    (c.in_ok-other.ensures.defined name)
    c.in_ok-other.ensures.end
