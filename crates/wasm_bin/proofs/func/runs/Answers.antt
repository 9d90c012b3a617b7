use Rattle.std.proofs.Common.{arith}
use Rattle.std.proofs.lemmas.Result.{err_from_is_err_and}
use Rattle.wasm_bytes.specs.Piece.{piece}
use Rattle.wasm_bin.specs.Body.{runs_at}
use Rattle.wasm_bin.proofs.Runs.{runs_start, runs_more, runs_end, runs_untyped, runs_done}
use Rattle.wasm_bin.proofs.func.runs.Goals as goal

pub loop-init : goal.loop-init
loop-init c = record { read = runs_start c.args.count c.args.room (piece c.args.c); within = omega arith }

pub loop-preserved : goal.loop-preserved
loop-preserved c = record {
  read = runs_more c.args.count c.loop.counter c.args.room c.loop.locals c.in_ok-more.more (piece c.loop.rest) (piece c.in_ok-more.behind) (piece c.in_ok-rest.rest) (runs_at c.args.count c.args.room (piece c.args.c)) c.loop-test.true c.in_ok-more.ensures.answer c.in_ok-rest.ensures c.loop.invariant.read;
  within = omega (arith, c.in_ok-more.ensures.bound);
}

pub returns-in_err-more : goal.returns-in_err-more
returns-in_err-more c =
    let p = err_from_is_err_and c.from_residual.result c.from_residual.ensures.1 in
    rw (p.1, p.2) (runs_end c.in_err-more.field-0.0 c.args.count c.loop.counter c.args.room c.loop.locals (piece c.loop.rest) (runs_at c.args.count c.args.room (piece c.args.c)) c.loop-test.true c.in_err-more.ensures.answer c.loop.invariant.read)

pub returns-in_err-rest : goal.returns-in_err-rest
returns-in_err-rest c =
    let p = err_from_is_err_and c.from_residual-in_err-rest.result c.from_residual-in_err-rest.ensures.1 in
    rw (p.1, p.2) (runs_untyped c.in_err-rest.field-0.0 c.args.count c.loop.counter c.args.room c.loop.locals c.in_ok-more.more (piece c.loop.rest) (piece c.in_ok-more.behind) (runs_at c.args.count c.args.room (piece c.args.c)) c.loop-test.true c.in_ok-more.ensures.answer c.in_err-rest.ensures c.loop.invariant.read)

pub returns : goal.returns
returns c = runs_done c.args.count c.loop.counter c.args.room c.loop.locals (piece c.loop.rest) (runs_at c.args.count c.args.room (piece c.args.c)) c.loop-test.false c.loop.invariant.read
