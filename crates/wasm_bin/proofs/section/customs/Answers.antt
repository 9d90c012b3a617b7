use Rattle.std.proofs.Common.{◌∙◌, sym, length, ◌-◌}
use Rattle.std.proofs.lemmas.Result.{err_from_is_err_and}
use Rattle.wasm_bytes.specs.Piece.{piece}
use Rattle.wasm_bin.specs.Section.{past_customs}
use Rattle.wasm_bin.proofs.SectionLoop.{customs_more, customs_stop, customs_end, customs_done}
use Rattle.wasm_bin.proofs.section.customs.Goals as goal

pub loop-preserved : goal.loop-preserved
loop-preserved c = customs_more (length c.args.c.left.now) c.loop.counter (piece c.loop.rest) (piece c.in_ok-rest.rest) (past_customs (piece c.args.c)) c.loop-test.true (sym c.starts.ensures ∙ c.if-not-starts.false) c.in_ok-rest.ensures c.loop.invariant

pub returns-then-not-starts : goal.returns-then-not-starts
returns-then-not-starts c = customs_stop (length c.args.c.left.now - c.loop.counter) (piece c.loop.rest) (past_customs (piece c.args.c)) (sym c.starts.ensures ∙ c.if-not-starts.true) c.loop.invariant

pub returns-in_err-rest : goal.returns-in_err-rest
returns-in_err-rest c =
    let p = err_from_is_err_and c.from_residual.result c.from_residual.ensures.1 in
    rw (p.1, p.2) (customs_end c.in_err-rest.field-0.0 (length c.args.c.left.now) c.loop.counter (piece c.loop.rest) (past_customs (piece c.args.c)) c.loop-test.true (sym c.starts.ensures ∙ c.if-not-starts.false) c.in_err-rest.ensures c.loop.invariant)

pub returns : goal.returns
returns c = customs_done (length c.args.c.left.now) c.loop.counter (piece c.loop.rest) (past_customs (piece c.args.c)) c.loop-test.false c.loop.invariant
