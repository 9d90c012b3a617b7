use Rattle.std.proofs.Common.{◌≡◌, ◌+◌, ◌-◌, ◌*◌, ◌≤◌, ◌<◌, refl, arith}
use Rattle.std.proofs.lemmas.Result.{err_from_is_err_and}
use Rattle.piet_image.proofs.ReadLemmas.{has_none, has_all, has_join, has_pixel, breaks_join, no_memory, row_none, row_more, small_push, row_room}
use Rattle.piet_image.proofs.samples.read_row.Goals as goal

pub loop-x-init : goal.loop-x-init
loop-x-init c = record {
  read = λ text k e at. has_all text k 0 (3 * (0 * c.args.codel)) c.args.left.now (omega arith) (has_none text k c.args.left.now at);
  row = λ text k e at. row_none text k c.args.codel c.args.codes.now.items;
  small = c.requires.small;
}

pub returns-in_err-code-clause-read : goal.returns-in_err-code-clause-read
returns-in_err-code-clause-read c =
    let p = err_from_is_err_and c.from_residual.result c.from_residual.ensures.1 in
    let x = c.loop-x._x in
    let codel = c.args.codel in
    let room = row_room x c.args.columns codel c.loop-x-test.true in
    let some = c.requires.some in
    rw (p.1, p.2) (λ text k e at.
    let has = c.loop-x.invariant.read text k e at in
    breaks_join text k (3 * (x * codel)) 3 (3 * (c.args.columns * codel)) c.loop-x.rest.now c.in_err-code.field-0.0 (omega (arith, room, some)) has (c.in_err-code.ensures.read text (k + 3 * (x * codel)) e has.behind))

pub returns-in_default-clause-read : goal.returns-in_default-clause-read
returns-in_default-clause-read c = λ text k e at.
    let room = row_room c.loop-x._x c.args.columns c.args.codel c.loop-x-test.true in
    let some = c.requires.some in
    no_memory text k (3 * (c.args.columns * c.args.codel)) (omega (arith, room, some))

pub returns-in_err-rest-clause-read : goal.returns-in_err-rest-clause-read
returns-in_err-rest-clause-read c =
    let p = err_from_is_err_and c.from_residual-in_err-rest.result c.from_residual-in_err-rest.ensures.1 in
    let x = c.loop-x._x in
    let codel = c.args.codel in
    let n = 3 * (x * codel) in
    let room = row_room x c.args.columns codel c.loop-x-test.true in
    let some = c.requires.some in
    rw (p.1, p.2) (λ text k e at.
    let has = c.loop-x.invariant.read text k e at in
    let pixel = c.in_ok-code.ensures.read text (k + n) e has.behind in
    let more = has_join text k n 3 (n + 3) c.loop-x.rest.now c.in_ok-code.behind.now refl has (has_pixel text (k + n) c.in_ok-code.code c.in_ok-code.behind.now pixel) in
    breaks_join text k (n + 3) (3 * (codel - 1)) (3 * (c.args.columns * codel)) c.in_ok-code.behind.now c.in_err-rest.field-0.0 (omega (arith, room, some)) more (c.in_err-rest.ensures text (k + (n + 3)) e more.behind))

pub returns-in_err-rest-clause-small : goal.returns-in_err-rest-clause-small
returns-in_err-rest-clause-small c = rw c.in-Ok.ensures.items (small_push c.loop-x.codes.items c.in_ok-code.code c.loop-x.invariant.small c.in_ok-code.ensures.small)

pub loop-x-preserved : goal.loop-x-preserved
loop-x-preserved c =
    let x = c.loop-x._x in
    let codel = c.args.codel in
    let n = 3 * (x * codel) in
    let some = c.requires.some in
    record {
      read = λ text k e at.
          let has = c.loop-x.invariant.read text k e at in
          let pixel = c.in_ok-code.ensures.read text (k + n) e has.behind in
          let more = has_join text k n 3 (n + 3) c.loop-x.rest.now c.in_ok-code.behind.now refl has (has_pixel text (k + n) c.in_ok-code.code c.in_ok-code.behind.now pixel) in
          has_join text k (n + 3) (3 * (codel - 1)) (3 * ((x + 1) * codel)) c.in_ok-code.behind.now c.in_ok-rest.rest.now (omega (arith, some)) more (c.in_ok-rest.ensures text (k + (n + 3)) e more.behind);
      row = λ text k e at.
          let has = c.loop-x.invariant.read text k e at in
          let pixel = c.in_ok-code.ensures.read text (k + n) e has.behind in
          rw c.in-Ok.ensures.items (row_more text k codel c.args.codes.now.items c.loop-x.codes.items x c.in_ok-code.code c.in_ok-code.behind.now c.in_ok-code.behind.now (c.loop-x.invariant.row text k e at) pixel);
      small = rw c.in-Ok.ensures.items (small_push c.loop-x.codes.items c.in_ok-code.code c.loop-x.invariant.small c.in_ok-code.ensures.small);
    }
