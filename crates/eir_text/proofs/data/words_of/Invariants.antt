use Rattle.std.proofs.Common.{◌≡◌, ◌++◌, drop}
use Rattle.std.specs.List.{flat_map}
use Rattle.eir_text.specs.Spells.{words_for}
use Rattle.eir_text.specs.Reading.{piece_lines, value_in}
use Rattle.eir_text.proofs.data.words_of.Given as goal

abbrev pub invariant-loop-line : goal.invariant-loop-line
invariant-loop-line l =
    l.words.items ++ flat_map (λ line. words_for (value_in l.values) line.statement) (piece_lines (drop l.line-index l.pieces))
    ≡ flat_map (λ line. words_for (value_in l.values) line.statement) (piece_lines l.pieces)
