use Rattle.std.proofs.Common.{◌++◌, subst}
use Rattle.mach_core.specs.Put.{Passes}
use Rattle.sq_back.specs.Text.{text_of}
use Rattle.mach_core.proofs.Ahead.{flushed_prefix}
use Rattle.sq_back.proofs.back.write_text.Goals as goal

pub returns-clause-prefix : goal.returns-clause-prefix
returns-clause-prefix g c = flushed_prefix (g.O.Sink.got c.args.out.now) (g.O.Sink.got c.put_image.new.out) (g.O.Sink.got c.flush.new.out) (text_of c.args.p.now) c.put_image.new.put c.flush.result (subst (λ h. Passes (g.O.Sink.got c.args.out.now) (g.O.Sink.got c.put_image.new.out) (h ++ text_of c.args.p.now) c.put_image.new.put) c.new-put.ensures c.in_ok-put_image.ensures.ok) c.flush.ensures.err
