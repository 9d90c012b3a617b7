use Rattle.std.specs.Prelude.{map}
use Rattle.std.proofs.lemmas.List.{map_push}
use Rattle.std.proofs.lemmas.Result.{err_from_is_err_and}
use Rattle.wasm_bytes.specs.Piece.{piece}
use Rattle.wasm_bin.specs.Entry.{items_at}
use Rattle.wasm_bin.proofs.Loop.{items_start, items_more, items_end, items_done}
use Rattle.wasm_bin.proofs.decode.list.Goals as goal

pub loop-init : goal.loop-init
loop-init g c = rw c.new-list.ensures.items (items_start g.T.Decode.reading c.in_ok-count.count (piece c.in_ok-count.start))

pub loop-preserved : goal.loop-preserved
loop-preserved g c = rw (c.in_ok-push.ensures.items, map_push g.T.Decode.seen c.loop.list.items c.in_ok-entry.entry) (items_more g.T.Decode.reading (map g.T.Decode.seen c.loop.list.items) c.in_ok-count.count c.loop.counter (piece c.loop.rest) (g.T.Decode.seen c.in_ok-entry.entry) (piece c.in_ok-entry.after) (items_at g.T.Decode.reading c.in_ok-count.count (piece c.in_ok-count.start)) c.loop-test.true c.in_ok-entry.ensures c.loop.invariant)

pub returns-in_err-entry : goal.returns-in_err-entry
returns-in_err-entry g c =
    let p = err_from_is_err_and c.from_residual-in_err-entry.result c.from_residual-in_err-entry.ensures.1 in
    rw (p.1, p.2, c.in_ok-count.ensures.answer) (items_end g.T.Decode.reading c.in_err-entry.field-0.0 (map g.T.Decode.seen c.loop.list.items) c.in_ok-count.count c.loop.counter (piece c.loop.rest) (items_at g.T.Decode.reading c.in_ok-count.count (piece c.in_ok-count.start)) c.loop-test.true c.in_err-entry.ensures c.loop.invariant)

pub returns : goal.returns
returns g c = rw c.in_ok-count.ensures.answer (items_done g.T.Decode.reading (map g.T.Decode.seen c.loop.list.items) c.in_ok-count.count c.loop.counter (piece c.loop.rest) (items_at g.T.Decode.reading c.in_ok-count.count (piece c.in_ok-count.start)) c.loop-test.false c.loop.invariant)
