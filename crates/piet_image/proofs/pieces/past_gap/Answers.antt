use Rattle.std.proofs.Common.{◌≡◌, ◌+◌, ◌||◌, Bool, true, length, get_or, drop, refl, sym, subst, arith}
use Rattle.std.proofs.lemmas.List.{take_rest}
use Rattle.piet_image.specs.Pieces.{is_comment, is_separator}
use Rattle.piet_image.specs.Reading.{IsAt, IsFront}
use Rattle.piet_image.proofs.PieceLemmas.{IsGap, gap_none, gap_more, gap_all, front_none, by_comment, by_separator, none_left}
use Rattle.piet_image.proofs.pieces.past_gap.Goals as goal
use Rattle.piet_image.proofs.pieces.past_gap.Goals.{else-not-inside-via-then-not-inside+else-not-separates, else-not-inside-via-else-not-inside}

pub loop-i-init : goal.loop-i-init
loop-i-init c = gap_none c.args.bytes.now

pub loop-i-preserved : goal.loop-i-preserved
loop-i-preserved c =
    let byte = get_or c.args.bytes.now c.loop-i.i 0 in
    let goes : (is_comment c.loop-i.open byte || is_separator byte) ≡ true = elim c.else-not-inside.branch [
      | else-not-inside-via-then-not-inside+else-not-separates w ↦ by_separator w.separates.result (is_comment c.loop-i.open byte) (is_separator byte) w.separates.ensures w.if-not-separates.false
      | else-not-inside-via-else-not-inside w ↦ by_comment c.is_comment-inside.result (is_comment c.loop-i.open byte) (is_separator byte) c.is_comment-inside.ensures w.if-not-inside.false
    ] in
    subst (IsGap c.args.bytes.now (c.loop-i.i + 1)) (sym c.is_comment-inside.ensures) (gap_more c.args.bytes.now c.loop-i.i c.loop-i.open c.loop-i-test.true c.loop-i.invariant goes)

pub returns-clause-at : goal.returns-clause-at
returns-clause-at c = λ text k at.
    let bytes = c.args.bytes.now in
    let all : c.loop-i.i ≡ length bytes = omega arith in
    let gap = subst (λ n. IsGap bytes n c.loop-i.open) all c.loop-i.invariant in
    subst (IsAt text k) (sym (take_rest bytes (length bytes))) (gap_all text bytes k c.loop-i.open gap at)

pub returns-clause-front : goal.returns-clause-front
returns-clause-front c = subst IsFront (sym (take_rest c.args.bytes.now (length c.args.bytes.now))) (front_none c.args.bytes.now)
