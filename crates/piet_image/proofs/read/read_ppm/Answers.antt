use Rattle.std.proofs.Common.{◌≡◌, ◌+◌, ◌-◌, ◌*◌, ◌/◌, ◌≤◌, ◌^◌, length, refl, arith, rules}
use Rattle.std.proofs.lemmas.Result.{err_from_is_err_and}
use Rattle.piet_image.specs.Pieces.{uncommented}
use Rattle.piet_image.specs.Text.{HasCodels}
use Rattle.piet_image.proofs.Whole.{all_samples, refused_codes, extra_behind, spelled}
use Rattle.piet_image.proofs.read.read_ppm.Goals as goal

pub returns-in_err-codes : goal.returns-in_err-codes
returns-in_err-codes c =
    let p = err_from_is_err_and c.from_residual.result c.from_residual.ensures.1 in
    let text = c.args.text.now in
    let codel = c.args.codel in
    let w = c.in-Some.header.width in
    let h = c.in-Some.header.height in
    let opens : HasCodels (uncommented text) codel w h = record { header = c.in-Some.ensures.header; across = c.if-header-codel-ne0.false; down = c.if-header-codel-ne0-2.false; few = c.if-columns-rows-gt-MOST.false } in
    let br = c.in_err-codes.ensures.read text refl c.in-Some.ensures.behind in
    rw (p.1, p.2) (refused_codes text codel w h _ c.in_err-codes.field-0.0 opens (all_samples w h codel c.if-header-codel-ne0.false c.if-header-codel-ne0-2.false) br)

pub returns-in-Some-next_piece : goal.returns-in-Some-next_piece
returns-in-Some-next_piece c =
    let text = c.args.text.now in
    let codel = c.args.codel in
    let w = c.in-Some.header.width in
    let h = c.in-Some.header.height in
    let total = 3 * (((h / codel) * codel) * ((w / codel) * codel)) in
    let opens : HasCodels (uncommented text) codel w h = record { header = c.in-Some.ensures.header; across = c.if-header-codel-ne0.false; down = c.if-header-codel-ne0-2.false; few = c.if-columns-rows-gt-MOST.false } in
    let has = c.in_ok-codes.ensures.read text refl c.in-Some.ensures.behind in
    let read = c.in-Some-next_piece.ensures.read text (4 + total) has.behind in
    extra_behind text codel w h total c.saturating_sub-place.result c.in_ok-codes.rest.now c.in-Some-next_piece.piece.now c.in-Some-next_piece.behind.now opens (all_samples w h codel c.if-header-codel-ne0.false c.if-header-codel-ne0-2.false) has read c.saturating_sub-place.ensures

pub returns-in-None : goal.returns-in-None
returns-in-None c =
    let text = c.args.text.now in
    let codel = c.args.codel in
    let w = c.in-Some.header.width in
    let h = c.in-Some.header.height in
    let total = 3 * (((h / codel) * codel) * ((w / codel) * codel)) in
    let opens : HasCodels (uncommented text) codel w h = record { header = c.in-Some.ensures.header; across = c.if-header-codel-ne0.false; down = c.if-header-codel-ne0-2.false; few = c.if-columns-rows-gt-MOST.false } in
    let has = c.in_ok-codes.ensures.read text refl c.in-Some.ensures.behind in
    let rows = c.in_ok-codes.ensures.rows text refl c.in-Some.ensures.behind in
    rw c.of.ensures (spelled text codel w h total c.in_ok-codes.codes.items c.in_ok-codes.rest.now opens (all_samples w h codel c.if-header-codel-ne0.false c.if-header-codel-ne0-2.false) has rows (c.in-None.ensures.read text (4 + total) has.behind))
