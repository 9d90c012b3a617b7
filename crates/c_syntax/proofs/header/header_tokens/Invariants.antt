use Rattle.std.proofs.Common.{◌≡◌, ◌++◌}
use Rattle.std.specs.VecDeque.{deque_len}
use Rattle.c_syntax.specs.Scan.{pieces}
use Rattle.c_syntax.specs.Header.{tokens_at, text_of}
use Rattle.c_syntax.proofs.header.header_tokens.Given as goal

-- the tokens so far and those that are left are all
abbrev pub invariant-loop-piece : goal.invariant-loop-piece
invariant-loop-piece l = l.tokens.items ++ tokens_at l.pos l.pieces.items ≡ tokens_at l.pos (pieces (text_of l.fn.header))

abbrev pub decreases-loop-piece : goal.decreases-loop-piece
decreases-loop-piece l = deque_len l.pieces
