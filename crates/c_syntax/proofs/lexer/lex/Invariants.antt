use Rattle.std.proofs.Common.{◌≡◌, [], false}
use Rattle.std.specs.VecDeque.{deque_len}
use Rattle.c_syntax.specs.Scan.{pieces}
use Rattle.c_syntax.specs.Lex.{finish, tokens_in, none_included}
use Rattle.c_syntax.proofs.lexer.lex.Given as goal

-- the tokens so far and those of the pieces that are left are all
abbrev pub invariant-loop-piece : goal.invariant-loop-piece
invariant-loop-piece l = finish l.tokens.items (tokens_in l.included l.inside l.pieces.items) ≡ finish [] (tokens_in none_included false (pieces l.text))

abbrev pub decreases-loop-piece : goal.decreases-loop-piece
decreases-loop-piece l = deque_len l.pieces
