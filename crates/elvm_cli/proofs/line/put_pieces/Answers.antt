use Rattle.std.proofs.Common.{ap, ◌∙◌, sym, ◌++◌, take, drop, ◌+◌, List, ℕ}
use Rattle.std.proofs.lemmas.Result.{err_from_is_err_and, on_err_weaker}
use Rattle.mach_core.proofs.Sent.{GotPrefix-after, GotPrefix-flush, GotPrefix-longer, Passes-more}
use Rattle.elvm_cli.proofs.Pieces.{texts, texts-next, texts-split}
use Rattle.elvm_cli.proofs.line.put_pieces.Goals as goal

pub returns-in_err-bytes-clause-err : goal.returns-in_err-bytes-clause-err
returns-in_err-bytes-clause-err g c =
    let p = err_from_is_err_and c.from_residual.result c.from_residual.ensures.1 in
    let i = c.loop-piece.piece-index in
    let pieces = c.args.pieces.now in
    let next = texts-next pieces i _ c.as_bytes.result.now c.loop-piece-test.true c.as_bytes.ensures.value in
    let split = ap (λ (t : List ℕ). t ++ texts (drop (i + 1) pieces)) (sym next) ∙ texts-split pieces (i + 1) in
    rw p.1 (GotPrefix-longer _ (g.E.Sink.got c.bytes.new.out) _ _ _ split
    (GotPrefix-after _ (g.E.Sink.got c.loop-piece.errs) _ (texts (take i pieces)) c.as_bytes.result.now c.loop-piece.put c.loop-piece.invariant.passed c.in_err-bytes.ensures.err))

pub loop-piece-preserved : goal.loop-piece-preserved
loop-piece-preserved g c =
    let i = c.loop-piece.piece-index in
    let pieces = c.args.pieces.now in
    let next = texts-next pieces i _ c.as_bytes.result.now c.loop-piece-test.true c.as_bytes.ensures.value in
    record {
      passed = rw next (Passes-more _ (g.E.Sink.got c.loop-piece.errs) _ (texts (take i pieces)) c.as_bytes.result.now c.loop-piece.put _ c.loop-piece.invariant.passed c.in_ok-bytes.ensures.ok);
      same = c.in_ok-bytes.ensures.cause.quiet ∙ c.loop-piece.invariant.same;
    }

pub returns-clause-err : goal.returns-clause-err
returns-clause-err g c =
    let i = c.loop-piece.piece-index in
    let pieces = c.args.pieces.now in
    on_err_weaker c.flush.result (λ front. GotPrefix-longer _ (g.E.Sink.got c.flush.new.out) _ _ _ (texts-split pieces i)
    (GotPrefix-flush _ (g.E.Sink.got c.loop-piece.errs) _ (texts (take i pieces)) c.loop-piece.put c.loop-piece.invariant.passed front)) c.flush.ensures.err
