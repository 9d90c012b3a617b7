use Rattle.std.proofs.Common.{arith}
use Rattle.c_parse.proofs.Answered.{right_there, only_there, only_large}
use Rattle.c_parse.proofs.parser.parse.Goals as goal

pub returns-clause-right : goal.returns-clause-right
returns-clause-right c = right_there c.args.tokens.now c.parse_all.result (omega arith) c.parse_all.ensures

pub returns-clause-only : goal.returns-clause-only
returns-clause-only c = only_there c.args.tokens.now c.parse_all.result (omega arith) c.parse_all.ensures

pub returns-then-tokens-gt-MOST-clause-only : goal.returns-then-tokens-gt-MOST-clause-only
returns-then-tokens-gt-MOST-clause-only c = only_large c.args.tokens.now (omega arith)
