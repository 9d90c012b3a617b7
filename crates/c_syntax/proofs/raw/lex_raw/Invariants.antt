use Rattle.std.proofs.Common.{◌≡◌}
use Rattle.std.specs.VecDeque.{deque_len}
use Rattle.c_syntax.specs.Scan.{raws_in, pieces}
use Rattle.c_syntax.proofs.Loops.{with_raws}
use Rattle.c_syntax.proofs.raw.lex_raw.Given as goal

-- the tokens so far and those that are left are all
abbrev pub invariant-loop-piece : goal.invariant-loop-piece
invariant-loop-piece l = with_raws l.raws.items (raws_in l.pieces.items) ≡ raws_in (pieces l.text)

abbrev pub decreases-loop-piece : goal.decreases-loop-piece
decreases-loop-piece l = deque_len l.pieces
