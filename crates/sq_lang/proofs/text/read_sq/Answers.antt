use Rattle.std.proofs.Common.{◌≡◌, ◌<◌, ◌-◌, ◌++◌, ◌∷◌, [], length, ap, ◌∙◌, arith, rules, w64, FitsSigned}
use Rattle.std.proofs.lemmas.List.{length-append}
use Rattle.std.proofs.lemmas.Int.{to_z-of_z}
use Rattle.std.proofs.lemmas.Result.{err_from_is_err_and}
use Rattle.sq_lang.proofs.Digits.{some_of, none_of}
use Rattle.sq_lang.proofs.Pieces.{front_of, front_short, all_read, refused, refused_for, BeginsWithCells-push}
use Rattle.sq_lang.proofs.text.read_sq.Goals as goal

pub overflow_sub-text : goal.overflow_sub-text
overflow_sub-text c = front_short c.args.text.now c.loop-front.left.now c.past_gap-front.result.now c.loop-front.program c.loop-front.invariant.read c.past_gap-front.ensures

pub returns-then-is_empty : goal.returns-then-is_empty
returns-then-is_empty c =
    all_read c.args.text.now c.loop-front.left.now c.past_gap-front.result.now c.loop-front.program c.loop-front.invariant.read c.past_gap-front.ensures
    (none_of (length c.past_gap-front.result.now) c.is_empty.result c.is_empty.ensures c.if-is_empty.true)

pub returns-in_err-cell : goal.returns-in_err-cell
returns-in_err-cell c =
    let some : 0 < length c.past_gap-front.result.now = some_of (length c.past_gap-front.result.now) c.is_empty.result c.is_empty.ensures c.if-is_empty.false in
    let front = front_of c.args.text.now c.loop-front.left.now c.past_gap-front.result.now c.first_piece.result.0.now c.first_piece.result.1.now c.loop-front.program c.loop-front.invariant.read c.past_gap-front.ensures some c.first_piece.ensures.piece c.first_piece.ensures.rest in
    let p = err_from_is_err_and c.from_residual.result c.from_residual.ensures.1 in
    let at = length c.args.text.now - length c.past_gap-front.result.now in
    let r = refused c.args.text.now c.loop-front.program c.loop-front.left.now front.gap c.first_piece.result.0.now c.first_piece.result.1.now at c.in_err-cell.field-0.0 c.loop-front.invariant.read front.begins front.stands c.in_err-cell.ensures in
    rw (p.1, p.2) (refused_for c.args.text.now c.first_piece.result.0.now at c.in_err-cell.field-0.0 c.in_err-cell.ensures r)

pub loop-front-preserved : goal.loop-front-preserved
loop-front-preserved c =
    let some : 0 < length c.past_gap-front.result.now = some_of (length c.past_gap-front.result.now) c.is_empty.result c.is_empty.ensures c.if-is_empty.false in
    let front = front_of c.args.text.now c.loop-front.left.now c.past_gap-front.result.now c.first_piece.result.0.now c.first_piece.result.1.now c.loop-front.program c.loop-front.invariant.read c.past_gap-front.ensures some c.first_piece.ensures.piece c.first_piece.ensures.rest in
    let more = BeginsWithCells-push c.args.text.now c.loop-front.program c.loop-front.left.now front.gap c.first_piece.result.0.now c.first_piece.result.1.now c.in_ok-cell.cell c.loop-front.invariant.read front.begins c.in_ok-cell.ensures in
    let fits : FitsSigned w64 c.in_ok-cell.cell = search rules in
    let same : c.push.new.self ≡ c.loop-front.program ++ c.in_ok-cell.cell ∷ [] = c.in-Ok-push.ensures.ok ∙ ap (λ z. c.loop-front.program ++ z ∷ []) (to_z-of_z w64 c.in_ok-cell.cell fits) in
    let sizes = length-append c.loop-front.program (c.in_ok-cell.cell ∷ []) in
    let shorter = front.shorter in
    record { read = rw same more; few = rw same (omega (arith, sizes, shorter)) }
