use Rattle.std.proofs.Common.{◌≡◌, ◌*◌, ◌^◌, take}
use Rattle.bf_tape.specs.Piece.{joined, Adds, any}
use Rattle.bf_memory.specs.Walk.{framed}
use Rattle.bf_back.specs.Data.{laid}
use Rattle.bf_back.specs.Code.{words_code}
use Rattle.bf_back.proofs.Loaded.{numbers_to}
use Rattle.bf_back.proofs.data.set_words.Given as goal

abbrev pub invariant-loop-word : goal.invariant-loop-word
invariant-loop-word l = record {
  code : l.initial.f.cell ≡ 0 → l.f ≡ joined l.initial.f (words_code (take l.word-index l.words)) 0;
  effect : Adds l.initial.f l.f any (λ input s. framed (laid 16 (numbers_to l.words l.word-index) s) (22 * l.word-index)) (l.word-index * 2 ^ 14) (l.word-index * 5120);
}
