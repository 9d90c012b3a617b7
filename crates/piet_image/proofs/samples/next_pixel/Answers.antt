use Rattle.std.proofs.Common.{suc}
use Rattle.std.proofs.lemmas.Result.{err_from_is_err_and}
use Rattle.piet_image.proofs.ReadLemmas.{pixel_read, pixel_breaks_first, pixel_breaks_second, pixel_breaks_third}
use Rattle.piet_image.proofs.samples.next_pixel.Goals as goal

pub returns-in_err-red-clause-read : goal.returns-in_err-red-clause-read
returns-in_err-red-clause-read c =
    let p = err_from_is_err_and c.from_residual.result c.from_residual.ensures.1 in
    rw (p.1, p.2) (λ text k e at. pixel_breaks_first text k c.in_err-red.field-0.0 (c.in_err-red.ensures text k e at))

pub returns-in_err-green-clause-read : goal.returns-in_err-green-clause-read
returns-in_err-green-clause-read c =
    let p = err_from_is_err_and c.from_residual-in_err-green.result c.from_residual-in_err-green.ensures.1 in
    rw (p.1, p.2) (λ text k e at.
    let r = c.in_ok-red.ensures text k e at in
    pixel_breaks_second text k c.in_ok-red.red c.in_ok-red.behind_red.now c.in_err-green.field-0.0 r (c.in_err-green.ensures text (suc k) e r.behind))

pub returns-in_err-blue-clause-read : goal.returns-in_err-blue-clause-read
returns-in_err-blue-clause-read c =
    let p = err_from_is_err_and c.from_residual-in_err-blue.result c.from_residual-in_err-blue.ensures.1 in
    rw (p.1, p.2) (λ text k e at.
    let r = c.in_ok-red.ensures text k e at in
    let g = c.in_ok-green.ensures text (suc k) e r.behind in
    pixel_breaks_third text k c.in_ok-red.red c.in_ok-green.green c.in_ok-red.behind_red.now c.in_ok-green.behind_green.now c.in_err-blue.field-0.0 r g (c.in_err-blue.ensures text (suc (suc k)) e g.behind))

pub returns-clause-read : goal.returns-clause-read
returns-clause-read c = λ text k e at.
    let r = c.in_ok-red.ensures text k e at in
    let g = c.in_ok-green.ensures text (suc k) e r.behind in
    let b = c.in_ok-blue.ensures text (suc (suc k)) e g.behind in
    pixel_read text k c.in_ok-red.red c.in_ok-green.green c.in_ok-blue.blue c.code_of.result c.in_ok-red.behind_red.now c.in_ok-green.behind_green.now c.in_ok-blue.behind_blue.now r g b c.code_of.ensures.colour
