use Rattle.std.proofs.Common.{[], ◌∷◌}
use Rattle.c_grammar.specs.declared.names.Symbol.TheVariants.{Tok, One, Many, Maybe}
use Rattle.c_frames.specs.Stack.{opens}
use Rattle.c_progress.proofs.Begins.{next_as, comes_as, turn_as, begin_token, begin_one, begin_many, begin_maybe}
use Rattle.c_progress.proofs.begin.begin_here.Goals as goal

pub read_token-requires-clause-next : goal.read_token-requires-clause-next
read_token-requires-clause-next c = next_as c.args.frame c.args.symbol (Tok c.in-Tok.terminal) c.in-Tok.is c.requires.next

pub returns-in_ok-read-in-Tok : goal.returns-in_ok-read-in-Tok
returns-in_ok-read-in-Tok c =
    comes_as c.progress_of.result c.args.frame.production c.args.stack.now.items _ _ _
    (begin_token c.args.frame c.in-Tok.terminal c.args.token.now (opens c.args.stack.now.items []) (next_as c.args.frame c.args.symbol (Tok c.in-Tok.terminal) c.in-Tok.is c.requires.next))
    (c.progress_of.ensures c.args.frame.production c.args.stack.now.items _ _ c.in_ok-read-in-Tok.ensures)

pub returns-in_ok-progress-in-One : goal.returns-in_ok-progress-in-One
returns-in_ok-progress-in-One c =
    comes_as c.in_ok-progress-in-One.progress c.args.frame.production c.args.stack.now.items _ _ _
    (begin_one c.args.frame c.in-One.part c.args.token.now (opens c.args.stack.now.items []) (next_as c.args.frame c.args.symbol (One c.in-One.part) c.in-One.is c.requires.next) c.requires.row)
    (c.in_ok-progress-in-One.ensures c.args.frame.production c.args.stack.now.items)

pub returns-in_ok-turn-in-Many : goal.returns-in_ok-turn-in-Many
returns-in_ok-turn-in-Many c =
    turn_as c.in_ok-turn-in-Many.turn c.args.frame c.args.token.now c.args.stack.now.items _ _ _
    (begin_many c.args.frame c.in-Many.part c.args.token.now (opens c.args.stack.now.items []) (next_as c.args.frame c.args.symbol (Many c.in-Many.part) c.in-Many.is c.requires.next) c.requires.row)
    c.in_ok-turn-in-Many.ensures

pub returns-in_ok-turn-in-Maybe : goal.returns-in_ok-turn-in-Maybe
returns-in_ok-turn-in-Maybe c =
    turn_as c.in_ok-turn-in-Maybe.turn c.args.frame c.args.token.now c.args.stack.now.items _ _ _
    (begin_maybe c.args.frame c.in-Maybe.part c.args.token.now (opens c.args.stack.now.items []) (next_as c.args.frame c.args.symbol (Maybe c.in-Maybe.part) c.in-Maybe.is c.requires.next) c.requires.row)
    c.in_ok-turn-in-Maybe.ensures
