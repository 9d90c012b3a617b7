use Rattle.c_syntax.specs.Header.{header_tokens}
use Rattle.c_syntax.proofs.Loops.{none_left}
use Rattle.c_syntax.proofs.Lexing.{next_token, all_tokens}
use Rattle.c_syntax.proofs.header.header_tokens.Goals as goal

pub loop-piece-preserved : goal.loop-piece-preserved
loop-piece-preserved c =
    next_token c.loop-piece.tokens.items c.add_found.new.tokens.items c.args.pos c.in-Some.piece c.pop_front.new.self.items c.loop-piece.pieces.items _ c.in-Some.ensures.items c.in_ok-add_found.ensures c.loop-piece.invariant

pub returns : goal.returns
unfolding header_tokens
returns c = all_tokens c.loop-piece.tokens.items c.args.pos c.loop-piece.pieces.items _ (none_left c.loop-piece.pieces.items c.pop_front.new.self.items c.in_default.ensures.items c.in_default.ensures.rest) c.loop-piece.invariant
