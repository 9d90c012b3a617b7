use Rattle.std.proofs.Common.{map, string_bytes, Global}
use Rattle.elvm_words.specs.Invocation.{invocation_in}
use Rattle.elvm_cli.proofs.Near.{exact_complete, shows_exact}
use Rattle.elvm_cli.proofs.top.elvm.Goals as goal

pub returns-clause-exact : goal.returns-clause-exact
returns-clause-exact g c =
    rw c.status.ensures (shows_exact _ (invocation_in (map (string_bytes {Z = Global}) c.args.words.now)) c.answer_words-answer.result.outcome c.answer_words-answer.ensures.shows)

pub returns-clause-complete : goal.returns-clause-complete
returns-clause-complete g c =
    rw c.status.ensures (exact_complete _ (invocation_in (map (string_bytes {Z = Global}) c.args.words.now)) _
    (shows_exact _ (invocation_in (map (string_bytes {Z = Global}) c.args.words.now)) c.answer_words-answer.result.outcome c.answer_words-answer.ensures.shows))
