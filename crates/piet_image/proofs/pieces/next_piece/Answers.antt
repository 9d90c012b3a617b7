use Rattle.std.proofs.Common.{length, arith}
use Rattle.piet_image.proofs.PieceLemmas.{piece_read, none_read, some_of, none_of}
use Rattle.piet_image.proofs.pieces.next_piece.Goals as goal

pub returns-then-is_empty-clause-read : goal.returns-then-is_empty-clause-read
returns-then-is_empty-clause-read c = λ text k at. none_read text c.past_gap-front.result.now k (none_of (length c.past_gap-front.result.now) c.is_empty.result c.is_empty.ensures c.if-is_empty.true) (c.past_gap-front.ensures.at text k at)

pub returns-clause-read : goal.returns-clause-read
returns-clause-read c = λ text k at.
    piece_read text c.past_gap-front.result.now c.split_at.result.0.now c.split_at.result.1.now k c.piece_len.result c.piece_len.ensures.len c.split_at.ensures.front c.split_at.ensures.back c.past_gap-front.ensures.front
    (some_of (length c.past_gap-front.result.now) c.is_empty.result c.is_empty.ensures c.if-is_empty.false) (c.past_gap-front.ensures.at text k at)

pub returns-clause-sizes : goal.returns-clause-sizes
returns-clause-sizes c = omega (arith, c.split_at.ensures.front_len, c.split_at.ensures.back_len, c.past_gap-front.ensures.short)
