use Rattle.std.proofs.Common.{refl, arith}
use Rattle.c_parse.proofs.Readings.{read_on, too_deep, no_token}
use Rattle.c_parse.proofs.parser.read_token.Goals as goal

pub returns-then-depth-gt-DEEPEST : goal.returns-then-depth-gt-DEEPEST
returns-then-depth-gt-DEEPEST c = too_deep c.in_ok-read.read c.in-Some.depth c.args.token.now.pos c.args.token.now c.args.stack.now.items c.step.new.stack.items c.in-Some.is c.in_ok-read.ensures (omega (arith, c.if-depth-gt-DEEPEST.true)) refl

pub returns-else-depth-gt-DEEPEST : goal.returns-else-depth-gt-DEEPEST
returns-else-depth-gt-DEEPEST c = read_on c.in_ok-read.read c.in-Some.depth c.args.token.now c.args.stack.now.items c.step.new.stack.items c.in-Some.is c.in_ok-read.ensures (omega (arith, c.if-depth-gt-DEEPEST.false))

pub returns-in-None : goal.returns-in-None
returns-in-None c = no_token c.in_ok-read.read c.args.token.now.pos c.args.token.now c.args.stack.now.items c.step.new.stack.items c.in-None.is c.in_ok-read.ensures refl
