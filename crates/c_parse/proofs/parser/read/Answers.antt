use Rattle.std.proofs.Common.{◌≡◌, length, subst, sym, add-one, arith}
use Rattle.c_parse.specs.Answer.{IsRead}
use Rattle.c_parse.proofs.Readings.{nothing_read, read_more, fails_there, token_there}
use Rattle.c_parse.proofs.parser.read.Goals as goal

pub loop-token-init : goal.loop-token-init
loop-token-init c = nothing_read c.args.tokens.now c.args.stack.now.items c.requires.start c.requires.sound

pub read_token-requires : goal.read_token-requires
read_token-requires c = c.loop-token.invariant.sound

pub loop-token-preserved : goal.loop-token-preserved
loop-token-preserved c =
    let there = token_there c.args.tokens.now c.loop-token.token-index c.token-item.result c.loop-token-test.true c.token-item.is in
    subst (λ n. IsRead c.args.tokens.now n c.read_token.new.stack.items) (sym (add-one c.loop-token.token-index))
    (read_more c.args.tokens.now c.loop-token.token-index c.token-item.result c.loop-token.stack.items c.read_token.new.stack.items there c.loop-token.invariant c.in-Ok.ensures)

pub returns-in-Err : goal.returns-in-Err
returns-in-Err c =
    let there = token_there c.args.tokens.now c.loop-token.token-index c.token-item.result c.loop-token-test.true c.token-item.is in
    fails_there c.in-Err.fault c.args.tokens.now c.loop-token.token-index c.token-item.result c.loop-token.stack.items c.read_token.new.stack.items there c.loop-token.invariant c.in-Err.ensures

pub returns : goal.returns
returns c =
    let all : c.loop-token.token-index ≡ length c.args.tokens.now = omega arith in
    subst (λ n. IsRead c.args.tokens.now n c.loop-token.stack.items) all c.loop-token.invariant
