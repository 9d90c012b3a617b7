use Rattle.std.proofs.Common.{◌≡◌, true, false, [], subst}
use Rattle.c_grammar.specs.Class.{class_of}
use Rattle.c_grammar.specs.Machine.{takes}
use Rattle.c_grammar.specs.declared.names.Symbol.TheVariants.{Tok}
use Rattle.c_held.specs.declared.value.Value.TheVariants.{Token}
use Rattle.c_frames.specs.Stack.{opens, Grows}
use Rattle.c_progress.proofs.Begins.{token_refused, token_read}
use Rattle.c_progress.proofs.begin.read_token.Goals as goal

pub returns-then-not-takes : goal.returns-then-not-takes
returns-then-not-takes c =
    let refused : takes c.args.terminal (class_of c.args.token.now) ≡ false = cc (c.takes.ensures, c.requires.class, c.if-not-takes.true) in
    token_refused c.args.frame c.args.terminal c.args.token.now (opens c.args.stack.now.items []) refused

pub push-requires : goal.push-requires
push-requires c = c.in_ok-grown.ensures.sound c.args.stack.now.items (Tok c.args.terminal) c.requires.stands c.requires.next tt

pub returns : goal.returns
returns c =
    let taken : takes c.args.terminal (class_of c.args.token.now) ≡ true = cc (c.takes.ensures, c.requires.class, c.if-not-takes.false) in
    token_read c.args.frame c.in_ok-grown.grown c.args.terminal c.args.token.now c.args.stack.now.items c.push.new.stack.items c.in_ok-depth.depth taken c.requires.stands
    (subst (λ t. Grows c.args.frame c.in_ok-grown.grown (Token t)) c.in_ok-copy.ensures c.in_ok-grown.ensures)
    c.in_ok-push.ensures c.in_ok-depth.ensures
