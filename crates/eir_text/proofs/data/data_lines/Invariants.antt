use Rattle.std.proofs.Common.{◌≡◌, ◌++◌, map, drop}
use Rattle.eir_text.specs.Sections.{data_lines}
use Rattle.eir_text.specs.Reading.{places, piece_of}
use Rattle.eir_text.proofs.data.data_lines.Given as goal

abbrev pub invariant-loop-line : goal.invariant-loop-line
invariant-loop-line l = map piece_of l.data.items ++ data_lines (places (drop l.line-index l.lines)) ≡ data_lines (places l.lines)
