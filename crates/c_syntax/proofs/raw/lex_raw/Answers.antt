use Rattle.std.proofs.Common.{ap, sym, ◌∙◌}
use Rattle.c_syntax.specs.Scan.{raw_tokens}
use Rattle.c_syntax.proofs.Loops.{with_raws, next_raw, no_raw, all_raws, none_left, fails_as}
use Rattle.c_syntax.specs.Scan.{raws_in}
use Rattle.c_syntax.proofs.raw.lex_raw.Goals as goal

pub returns-in-Err : goal.returns-in-Err
unfolding raw_tokens
returns-in-Err c = fails_as c.in-Err.fault _ (sym (no_raw c.loop-piece.raws.items c.in-Some.piece c.pop_front.new.self.items c.loop-piece.pieces.items c.in-Err.fault _ c.in-Some.ensures.items c.in-Err.ensures c.loop-piece.invariant))

pub loop-piece-preserved : goal.loop-piece-preserved
loop-piece-preserved c =
    ap (λ z. with_raws z (raws_in c.pop_front.new.self.items)) c.in_ok-push-in-Ok.ensures.items
    ∙ next_raw c.loop-piece.raws.items c.in-Some.piece c.pop_front.new.self.items c.loop-piece.pieces.items c.in-Ok.raw _ c.in-Some.ensures.items c.in-Ok.ensures c.loop-piece.invariant

pub returns : goal.returns
unfolding raw_tokens
returns c = sym (all_raws c.loop-piece.raws.items c.loop-piece.pieces.items _ (none_left c.loop-piece.pieces.items c.pop_front.new.self.items c.in_default.ensures.items c.in_default.ensures.rest) c.loop-piece.invariant)
