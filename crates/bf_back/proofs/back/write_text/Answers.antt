use Rattle.std.proofs.Common.{◌++◌, subst}
use Rattle.mach_core.specs.Put.{Passes}
use Rattle.mach_core.proofs.Ahead.{flushed_prefix}
use Rattle.bf_lang.specs.Laws.{text_of}
use Rattle.bf_back.proofs.back.write_text.Goals as goal

pub returns-clause-prefix : goal.returns-clause-prefix
returns-clause-prefix g c =
    flushed_prefix (g.O.Sink.got c.args.out.now) (g.O.Sink.got c.send.new.out) (g.O.Sink.got c.flush.new.out) (text_of c.args.code.now.commands) c.send.new.put c.flush.result
    (subst (λ h. Passes (g.O.Sink.got c.args.out.now) (g.O.Sink.got c.send.new.out) (h ++ text_of c.args.code.now.commands) c.send.new.put) c.new-put.ensures c.in_ok-send.ensures.ok) c.flush.ensures.err
