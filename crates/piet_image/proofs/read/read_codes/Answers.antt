use Rattle.std.proofs.Common.{◌≡◌, ℕ, ◌+◌, ◌-◌, ◌*◌, ◌≤◌, ◌<◌, refl, subst, arith}
use Rattle.std.proofs.lemmas.Result.{err_from_is_err_and}
use Rattle.std.proofs.Math.Nat.{mul-le-mul_right}
use Rattle.piet_image.specs.Reading.{HasSamples, HasRows}
use Rattle.piet_image.proofs.ReadLemmas.{has_join, breaks_join, rows_more, rows_room, one_row}
use Rattle.piet_image.proofs.read.read_codes.Goals as goal

pub returns-in_err-behind-clause-read : goal.returns-in_err-behind-clause-read
returns-in_err-behind-clause-read c =
    let p = err_from_is_err_and c.from_residual.result c.from_residual.ensures.1 in
    let y = c.loop-y._y in
    let codel = c.args.codel in
    let w = c.args.columns * codel in
    let room = rows_room y c.args.rows codel w c.loop-y-test.true in
    let one = one_row codel w c.requires.some in
    rw (p.1, p.2) (λ text e at.
    let has = c.loop-y.invariant.read text e at in
    breaks_join text 4 (3 * ((y * codel) * w)) (3 * w) (3 * ((c.args.rows * codel) * w)) c.loop-y.rest.now c.in_err-behind.field-0.0 (omega (arith, room, one)) has (c.in_err-behind.ensures.read text (4 + 3 * ((y * codel) * w)) e has.behind))

pub returns-in_err-rest-clause-read : goal.returns-in_err-rest-clause-read
returns-in_err-rest-clause-read c =
    let p = err_from_is_err_and c.from_residual-in_err-rest.result c.from_residual-in_err-rest.ensures.1 in
    let y = c.loop-y._y in
    let codel = c.args.codel in
    let w = c.args.columns * codel in
    let n = 3 * ((y * codel) * w) in
    let room = rows_room y c.args.rows codel w c.loop-y-test.true in
    let one = one_row codel w c.requires.some in
    rw (p.1, p.2) (λ text e at.
    let has = c.loop-y.invariant.read text e at in
    let row = c.in_ok-behind.ensures.read text (4 + n) e has.behind in
    let more = has_join text 4 n (3 * w) (n + 3 * w) c.loop-y.rest.now c.in_ok-behind.behind.now refl has row in
    breaks_join text 4 (n + 3 * w) (3 * ((codel - 1) * w)) (3 * ((c.args.rows * codel) * w)) c.in_ok-behind.behind.now c.in_err-rest.field-0.0 (omega (arith, room, one)) more (c.in_err-rest.ensures text (4 + (n + 3 * w)) e more.behind))

pub loop-y-preserved : goal.loop-y-preserved
loop-y-preserved c =
    let y = c.loop-y._y in
    let codel = c.args.codel in
    let w = c.args.columns * codel in
    let n = 3 * ((y * codel) * w) in
    let one = one_row codel w c.requires.some in
    record {
      read = λ text e at.
          let has = c.loop-y.invariant.read text e at in
          let row = c.in_ok-behind.ensures.read text (4 + n) e has.behind in
          let more = has_join text 4 n (3 * w) (n + 3 * w) c.loop-y.rest.now c.in_ok-behind.behind.now refl has row in
          has_join text 4 (n + 3 * w) (3 * ((codel - 1) * w)) (3 * (((y + 1) * codel) * w)) c.in_ok-behind.behind.now c.in_ok-rest.rest.now (omega (arith, one)) more (c.in_ok-rest.ensures text (4 + (n + 3 * w)) e more.behind);
      rows = λ text e at.
          let has = c.loop-y.invariant.read text e at in
          rows_more text codel c.args.columns c.loop-y.codes.items c.read_row.new.codes.items y (c.loop-y.invariant.rows text e at) (c.in_ok-behind.ensures.row text (4 + n) e has.behind);
      small = c.read_row.ensures.small;
    }

pub returns-clause-read : goal.returns-clause-read
returns-clause-read c = λ text e at.
    let all : c.loop-y._y ≡ c.args.rows = omega arith in
    subst (λ n. HasSamples text 4 (3 * ((n * c.args.codel) * (c.args.columns * c.args.codel))) c.loop-y.rest.now) all (c.loop-y.invariant.read text e at)

pub returns-clause-rows : goal.returns-clause-rows
returns-clause-rows c = λ text e at.
    let all : c.loop-y._y ≡ c.args.rows = omega arith in
    subst (HasRows text c.args.codel c.args.columns c.loop-y.codes.items) all (c.loop-y.invariant.rows text e at)
