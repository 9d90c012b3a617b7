use Rattle.std.proofs.Common.{◌≡◌, fold}
use Rattle.std.specs.VecDeque.{deque_len}
use Rattle.c_syntax.specs.Lex.{put}
use Rattle.c_syntax.specs.Header.{header_tokens}
use Rattle.c_syntax.proofs.lexer.put_header.Given as goal

-- the tokens so far and those that are left are all
abbrev pub invariant-loop-token : goal.invariant-loop-token
invariant-loop-token l = fold put l.tokens.items l.more.items ≡ fold put l.fn.tokens.items (header_tokens l.fn.header l.fn.pos)

abbrev pub decreases-loop-token : goal.decreases-loop-token
decreases-loop-token l = deque_len l.more
