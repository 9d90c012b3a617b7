use Rattle.c_syntax.proofs.Loops.{none_left}
use Rattle.c_syntax.proofs.Lexing.{next_put, all_put}
use Rattle.c_syntax.proofs.lexer.put_header.Goals as goal

pub loop-token-preserved : goal.loop-token-preserved
loop-token-preserved c =
    next_put c.loop-token.tokens.items c.put.new.tokens.items c.pop_front.new.self.items c.loop-token.more.items _ c.in-Some.token c.in-Some.ensures.items c.in_ok-put.ensures c.loop-token.invariant

pub returns : goal.returns
returns c = all_put c.loop-token.tokens.items c.loop-token.more.items _ (none_left c.loop-token.more.items c.pop_front.new.self.items c.in_default.ensures.items c.in_default.ensures.rest) c.loop-token.invariant
