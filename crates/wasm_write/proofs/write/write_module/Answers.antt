use Rattle.std.proofs.Common.{◌++◌, subst}
use Rattle.mach_core.specs.Put.{Passes}
use Rattle.mach_core.proofs.Ahead.{flushed_prefix}
use Rattle.wasm_write.specs.Written.{module_bytes}
use Rattle.wasm_write.proofs.write.write_module.Goals as goal

pub returns-clause-prefix : goal.returns-clause-prefix
returns-clause-prefix g c = flushed_prefix (g.O.Sink.got c.args.out.now) (g.O.Sink.got c.put_module.new.out) (g.O.Sink.got c.flush.new.out) (module_bytes c.args.m.now) c.put_module.new.put c.flush.result (subst (λ h. Passes (g.O.Sink.got c.args.out.now) (g.O.Sink.got c.put_module.new.out) (h ++ module_bytes c.args.m.now) c.put_module.new.put) c.new-put.ensures c.in_ok-put_module.ensures.ok) c.flush.ensures.err
