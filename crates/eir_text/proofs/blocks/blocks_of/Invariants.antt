use Rattle.std.proofs.Common.{◌≡◌, [], ◌++◌, map, drop}
use Rattle.eir_text.specs.Sections.{text_lines}
use Rattle.eir_text.specs.Spells.{op_for}
use Rattle.eir_text.specs.Blocks.{blocks_from}
use Rattle.eir_text.specs.Reading.{places, value_in}
use Rattle.eir_text.proofs.blocks.blocks_of.Given as goal

abbrev pub invariant-loop-line : goal.invariant-loop-line
invariant-loop-line l =
    map (λ b. b.items) l.blocks.items ++ blocks_from (op_for (value_in l.values)) l.ops.items (text_lines (places (drop l.line-index l.lines)))
    ≡ blocks_from (op_for (value_in l.values)) [] (text_lines (places l.lines))
