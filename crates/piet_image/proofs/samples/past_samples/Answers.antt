use Rattle.std.proofs.Common.{◌+◌, arith}
use Rattle.std.proofs.lemmas.Result.{err_from_is_err_and}
use Rattle.piet_image.proofs.ReadLemmas.{has_none, has_more, has_all, breaks_at}
use Rattle.piet_image.proofs.samples.past_samples.Goals as goal

pub loop-i-init : goal.loop-i-init
loop-i-init c = λ text k e at. has_none text k c.args.left.now at

pub loop-i-preserved : goal.loop-i-preserved
loop-i-preserved c = λ text k e at.
    let has = c.loop-i.invariant text k e at in
    has_more text k c.loop-i._i c.in_ok-_byte._byte c.loop-i.rest.now c.in_ok-_byte.behind.now has (c.in_ok-_byte.ensures text (k + c.loop-i._i) e has.behind)

pub returns-in_err-_byte : goal.returns-in_err-_byte
returns-in_err-_byte c =
    let p = err_from_is_err_and c.from_residual.result c.from_residual.ensures.1 in
    rw (p.1, p.2) (λ text k e at.
    let has = c.loop-i.invariant text k e at in
    breaks_at text k c.loop-i._i c.args.count c.loop-i.rest.now c.in_err-_byte.field-0.0 has c.loop-i-test.true (c.in_err-_byte.ensures text (k + c.loop-i._i) e has.behind))

pub returns : goal.returns
returns c = λ text k e at. has_all text k c.loop-i._i c.args.count c.loop-i.rest.now (omega arith) (c.loop-i.invariant text k e at)
