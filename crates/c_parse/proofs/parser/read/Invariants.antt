use Rattle.c_parse.specs.Answer.{IsRead}
use Rattle.c_parse.proofs.parser.read.Given as goal

abbrev pub invariant-loop-token : goal.invariant-loop-token
invariant-loop-token l = IsRead l.tokens l.token-index l.stack.items
