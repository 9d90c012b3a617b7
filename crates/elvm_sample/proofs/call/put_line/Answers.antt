use Rattle.std.proofs.lemmas.Result.{on_err_weaker}
use Rattle.mach_core.proofs.Sent.{GotPrefix-flush}
use Rattle.elvm_sample.proofs.call.put_line.Goals as goal

pub returns-clause-err : goal.returns-clause-err
returns-clause-err g c =
    let passed = rw c.new-put.ensures at c.in_ok-bytes.ensures.ok in
    on_err_weaker c.flush.result (λ front. GotPrefix-flush _ (g.O.Sink.got c.bytes.new.out) _ _ _ passed front) c.flush.ensures.err
