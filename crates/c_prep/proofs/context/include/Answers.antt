use Rattle.std.proofs.Common.{ap}
use Rattle.c_prep.specs.Lines.{given}
use Rattle.c_prep.proofs.Reading.{none_left, given_all, token_none, token_more}
use Rattle.c_prep.proofs.context.include.Goals as goal

pub loop-token-init : goal.loop-token-init
loop-token-init c = token_none _ _ _ c.in_ok-tokens.ensures

pub loop-token-preserved : goal.loop-token-preserved
loop-token-preserved c = token_more _ _ _ _ _ _ c.in-Some.token c.in-Some.ensures.items c.loop-token.invariant c.in_ok-put_token.ensures

pub returns : goal.returns
returns c = given_all _ _ _ _ (ap given (none_left c.loop-token.tokens.items c.pop_front.new.self.items c.in_default.ensures.items c.in_default.ensures.rest)) c.loop-token.invariant
