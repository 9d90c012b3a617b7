use Rattle.std.proofs.Common.{◌≡◌, ◌*◌, ◌≤◌, ℕ, List, drop}
use Rattle.eir_text.specs.Names.{defined_after}
use Rattle.eir_text.specs.Sections.{text_lines}
use Rattle.eir_text.specs.Blocks.{first_block, block_labels}
use Rattle.eir_text.specs.Reading.{places, number_at, current_of}
use Rattle.eir_text.proofs.blocks.define_blocks.Given as goal

abbrev pub invariant-loop-line : goal.invariant-loop-line
invariant-loop-line l = record {
  small : l.block.number ≤ 2 * l.line-index;
  defined : (name : List ℕ)
      → defined_after (number_at l.numbers name) (block_labels (current_of l.block) (text_lines (places (drop l.line-index l.lines)))) name
      ≡ defined_after (number_at l.fn.numbers name) (block_labels first_block (text_lines (places l.lines))) name;
}
