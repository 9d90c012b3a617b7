use Rattle.std.proofs.Common.{◌≡◌, ◌+◌, ◌^◌, ◌≤◌, ℕ, List, drop}
use Rattle.eir_text.specs.Names.{defined_after}
use Rattle.eir_text.specs.Layout.{data_end, data_labels}
use Rattle.eir_text.specs.Reading.{piece_lines, number_at}
use Rattle.eir_text.proofs.data.define_data.Given as goal

abbrev pub invariant-loop-line : goal.invariant-loop-line
invariant-loop-line l = record {
  small : l.address ≤ 2 ^ 21;
  end : l.address + data_end (piece_lines (drop l.line-index l.pieces)) ≡ data_end (piece_lines l.pieces);
  defined : (name : List ℕ)
      → defined_after (number_at l.numbers name) (data_labels l.address (piece_lines (drop l.line-index l.pieces))) name
      ≡ defined_after (number_at l.fn.numbers name) (data_labels 0 (piece_lines l.pieces)) name;
}
