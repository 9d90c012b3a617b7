use Rattle.std.proofs.Common.{[]}
use Rattle.c_frames.specs.Stack.{opens}
use Rattle.c_progress.proofs.Begins.{entered, entered_next, not_entered, reads_as}
use Rattle.c_progress.proofs.begin.enter.Goals as goal

pub read_token-requires-clause-next : goal.read_token-requires-clause-next
read_token-requires-clause-next c = entered_next c.args.production c.in_ok-frame-in-Some.frame c.in-Some.terminal c.in-Some.ensures c.in_ok-frame-in-Some.ensures.production c.in_ok-frame-in-Some.ensures.done

pub returns-in_ok-read-in-Some : goal.returns-in_ok-read-in-Some
returns-in_ok-read-in-Some c =
    reads_as c.in_ok-read-in-Some.read c.read_token.new.stack.items _ _
    (entered c.args.production c.in_ok-frame-in-Some.frame c.in-Some.terminal c.args.token.now (opens c.args.stack.now.items []) c.in-Some.ensures c.in_ok-frame-in-Some.ensures.production c.in_ok-frame-in-Some.ensures.done)
    c.in_ok-read-in-Some.ensures

pub returns-in-None : goal.returns-in-None
returns-in-None c = not_entered c.args.production c.args.token.now (opens c.args.stack.now.items []) c.in-None.ensures
