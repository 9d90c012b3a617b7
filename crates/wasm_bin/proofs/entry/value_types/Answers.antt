use Rattle.std.proofs.lemmas.Result.{err_from_is_err_and}
use Rattle.wasm_bytes.specs.Piece.{piece}
use Rattle.wasm_bin.specs.Entry.{value_types_at}
use Rattle.wasm_bin.proofs.Loop.{types_more, types_end, types_done}
use Rattle.wasm_bin.proofs.entry.value_types.Goals as goal

pub returns-in_err-rest : goal.returns-in_err-rest
returns-in_err-rest c =
    let p = err_from_is_err_and c.from_residual.result c.from_residual.ensures.1 in
    rw (p.1, p.2) (types_end c.in_err-rest.field-0.0 c.args.count c.loop.counter (piece c.loop.rest) (value_types_at c.args.count (piece c.args.c)) c.loop-test.true c.in_err-rest.ensures c.loop.invariant)

pub loop-preserved : goal.loop-preserved
loop-preserved c = types_more c.args.count c.loop.counter (piece c.loop.rest) (piece c.in_ok-rest.rest) (value_types_at c.args.count (piece c.args.c)) c.loop-test.true c.in_ok-rest.ensures c.loop.invariant

pub returns : goal.returns
returns c = types_done c.args.count c.loop.counter (piece c.loop.rest) (value_types_at c.args.count (piece c.args.c)) c.loop-test.false c.loop.invariant
