use Rattle.std.proofs.Common.{◌-◌, arith}
use Rattle.std.proofs.lemmas.Result.{err_from_is_err_and}
use Rattle.wasm_bytes.specs.Piece.{piece}
use Rattle.wasm_bytes.specs.Number.{leb_at}
use Rattle.wasm_bytes.proofs.Leb.{leb_more, leb_done, leb_ends, leb_long}
use Rattle.wasm_bytes.proofs.number.leb.Goals as goal

pub loop-preserved : goal.loop-preserved
loop-preserved c = record {
  read = rw c.push.ensures.items (leb_more c.loop.bytes.items c.in_ok-next.next c.loop.counter (piece c.loop.rest) (piece c.in_ok-next.after) (leb_at 4 (piece c.args.c)) c.loop-test.true c.in_ok-next.ensures c.if-next-lt128.false c.loop.invariant.read);
  count = omega (arith, c.push.ensures.len);
}

pub returns-in_err-next : goal.returns-in_err-next
returns-in_err-next c =
    let p = err_from_is_err_and c.from_residual.result c.from_residual.ensures.1 in
    rw (p.1, p.2) (leb_ends c.in_err-next.field-0.0 c.loop.bytes.items (4 - c.loop.counter) (piece c.loop.rest) (leb_at 4 (piece c.args.c)) c.in_err-next.ensures c.loop.invariant.read)

pub returns-in_err-last : goal.returns-in_err-last
returns-in_err-last c =
    let p = err_from_is_err_and c.from_residual-in_err-last.result c.from_residual-in_err-last.ensures.1 in
    rw (p.1, p.2) (leb_ends c.in_err-last.field-0.0 c.loop.bytes.items (4 - c.loop.counter) (piece c.loop.rest) (leb_at 4 (piece c.args.c)) c.in_err-last.ensures c.loop.invariant.read)

pub returns-then-next-lt128 : goal.returns-then-next-lt128
returns-then-next-lt128 c = rw c.push.ensures.items (leb_done c.loop.bytes.items c.in_ok-next.next c.loop.counter (piece c.loop.rest) (piece c.in_ok-next.after) (leb_at 4 (piece c.args.c)) c.in_ok-next.ensures c.if-next-lt128.true c.loop.invariant.read)

pub returns-then-last-ge128 : goal.returns-then-last-ge128
returns-then-last-ge128 c = rw c.offset.ensures (leb_long c.loop.bytes.items c.in_ok-last.last c.loop.counter (piece c.loop.rest) (piece c.in_ok-last.after) (leb_at 4 (piece c.args.c)) c.loop-test.false c.in_ok-last.ensures c.if-last-ge128.true c.loop.invariant.read)

pub returns : goal.returns
returns c = rw c.push-2.ensures.items (leb_done c.loop.bytes.items c.in_ok-last.last c.loop.counter (piece c.loop.rest) (piece c.in_ok-last.after) (leb_at 4 (piece c.args.c)) c.in_ok-last.ensures (omega (arith, c.if-last-ge128.false)) c.loop.invariant.read)
