use Rattle.std.proofs.Common.{refl}
use Rattle.elvm_cli.proofs.Shows.{memory_shows, same_is_quiet}
use Rattle.elvm_cli.proofs.answer.answer_words.Goals as goal

pub returns-in-Err-Memory-clause-shows : goal.returns-in-Err-Memory-clause-shows
returns-in-Err-Memory-clause-shows g c = memory_shows _ _ _ _ refl refl (same_is_quiet (g.O.Sink.got c.args.out.now), refl, refl)
