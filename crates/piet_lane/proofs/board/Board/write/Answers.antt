use Rattle.std.proofs.Common.{◌≡◌, ℕ, ◌+◌, ◌*◌, ◌++◌, List, length, sym, ap, subst, ◌∙◌}
use Rattle.std.specs.Io.KnownBytes.{Appends}
use Rattle.std.specs.List.{flat_map}
use Rattle.mach_core.specs.Put.{GotPrefix}
use Rattle.piet_image.specs.Printed.{header_text, row_text}
use Rattle.piet_lane.specs.Drawn.{Drawn, IsDrawn, rows_of, board_text}
use Rattle.piet_lane.specs.Lanes.{lanes_of}
use Rattle.piet_lane.proofs.Drawing.{text_is, count_lanes, rows_high}
use Rattle.piet_lane.proofs.Puts.{front_head, front_rows, front_flush, all_flush, on_err_any}
use Rattle.piet_lane.proofs.board.Board.write.Goals as goal

-- the header by the board
head_same : (d : Drawn) (reach count : ℕ) → reach ≡ d.reach → count ≡ length d.lanes → header_text (reach + 5) (5 * count + 6) ≡ header_text (d.reach + 5) (length (rows_of (lanes_of d.lanes) d.reach d.start))
head_same d reach count a b =
    ap (λ r. header_text (r + 5) (5 * count + 6)) a
    ∙ (ap (λ n. header_text (d.reach + 5) (5 * n + 6)) (b ∙ sym (count_lanes d.lanes))
    ∙ ap (header_text (d.reach + 5)) (sym (rows_high (lanes_of d.lanes) d.reach d.start)))

pub returns-in_default-clause-err : goal.returns-in_default-clause-err
returns-in_default-clause-err g c =
    let d = c.args.self.now in
    let head = header_text (c.self.inside.reach + 5) (5 * c.count.result + 6) in
    let rows = flat_map row_text (rows_of (lanes_of d.lanes) d.reach d.start) in
    let same = head_same d c.self.inside.reach c.count.result (ap (λ (z : Drawn). z.reach) c.self.view_is) c.count.ensures.count in (
      board_text d,
      subst (λ (hs : List ℕ). GotPrefix (g.O.Sink.got c.args.out.now) (g.O.Sink.got c.write_header.new.out) (hs ++ rows)) same
          (front_head (g.O.Sink.got c.args.out.now) (g.O.Sink.got c.write_header.new.out) c.new-put.result c.write_header.new.put head rows c.new-put.ensures c.in_default.ensures.err),
      text_is d (subst IsDrawn c.self.view_is c.self.invariant),
    )

pub returns-in_err-put_rows-clause-err : goal.returns-in_err-put_rows-clause-err
returns-in_err-put_rows-clause-err g c =
    let d = c.args.self.now in
    let head = header_text (c.self.inside.reach + 5) (5 * c.count.result + 6) in
    let rows = flat_map row_text (rows_of (lanes_of d.lanes) d.reach d.start) in
    let same = head_same d c.self.inside.reach c.count.result (ap (λ (z : Drawn). z.reach) c.self.view_is) c.count.ensures.count in
    on_err_any c.from_residual.result _ (
      board_text d,
      subst (λ (hs : List ℕ). GotPrefix (g.O.Sink.got c.args.out.now) (g.O.Sink.got c.put_rows.new.out) (hs ++ rows)) same
          (front_rows (g.O.Sink.got c.args.out.now) (g.O.Sink.got c.write_header.new.out) c.new-put.result c.write_header.new.put head rows c.new-put.ensures (g.O.Sink.got c.put_rows.new.out) c.in-Ok.ensures.ok c.in_err-put_rows.ensures.err),
      text_is d (subst IsDrawn c.self.view_is c.self.invariant),
    )

pub returns-in-Ok-flush-clause-ok : goal.returns-in-Ok-flush-clause-ok
returns-in-Ok-flush-clause-ok g c =
    let d = c.args.self.now in
    let head = header_text (c.self.inside.reach + 5) (5 * c.count.result + 6) in
    let rows = flat_map row_text (rows_of (lanes_of d.lanes) d.reach d.start) in
    let same = head_same d c.self.inside.reach c.count.result (ap (λ (z : Drawn). z.reach) c.self.view_is) c.count.ensures.count in (
      board_text d,
      subst (λ (hs : List ℕ). Appends (g.O.Sink.got c.args.out.now) (g.O.Sink.got c.flush.new.out) (hs ++ rows)) same
          (all_flush (g.O.Sink.got c.args.out.now) (g.O.Sink.got c.write_header.new.out) c.new-put.result c.write_header.new.put head rows c.new-put.ensures (g.O.Sink.got c.put_rows.new.out) (g.O.Sink.got c.flush.new.out) c.put_rows.new.put c.in-Ok.ensures.ok c.in_ok-put_rows.ensures.ok c.in-Ok-flush.ensures.ok),
      text_is d (subst IsDrawn c.self.view_is c.self.invariant),
    )

pub returns-in-Ok-flush-clause-exact : goal.returns-in-Ok-flush-clause-exact
returns-in-Ok-flush-clause-exact g c =
    let d = c.args.self.now in
    let head = header_text (c.self.inside.reach + 5) (5 * c.count.result + 6) in
    let rows = flat_map row_text (rows_of (lanes_of d.lanes) d.reach d.start) in
    let same = head_same d c.self.inside.reach c.count.result (ap (λ (z : Drawn). z.reach) c.self.view_is) c.count.ensures.count in
    subst (λ (hs : List ℕ). Appends (g.O.Sink.got c.args.out.now) (g.O.Sink.got c.flush.new.out) (hs ++ rows)) same
    (all_flush (g.O.Sink.got c.args.out.now) (g.O.Sink.got c.write_header.new.out) c.new-put.result c.write_header.new.put head rows c.new-put.ensures (g.O.Sink.got c.put_rows.new.out) (g.O.Sink.got c.flush.new.out) c.put_rows.new.put c.in-Ok.ensures.ok c.in_ok-put_rows.ensures.ok c.in-Ok-flush.ensures.ok)

pub returns-in-Err-clause-err : goal.returns-in-Err-clause-err
returns-in-Err-clause-err g c =
    let d = c.args.self.now in
    let head = header_text (c.self.inside.reach + 5) (5 * c.count.result + 6) in
    let rows = flat_map row_text (rows_of (lanes_of d.lanes) d.reach d.start) in
    let same = head_same d c.self.inside.reach c.count.result (ap (λ (z : Drawn). z.reach) c.self.view_is) c.count.ensures.count in (
      board_text d,
      subst (λ (hs : List ℕ). GotPrefix (g.O.Sink.got c.args.out.now) (g.O.Sink.got c.flush.new.out) (hs ++ rows)) same
          (front_flush (g.O.Sink.got c.args.out.now) (g.O.Sink.got c.write_header.new.out) c.new-put.result c.write_header.new.put head rows c.new-put.ensures (g.O.Sink.got c.put_rows.new.out) (g.O.Sink.got c.flush.new.out) c.put_rows.new.put c.in-Ok.ensures.ok c.in_ok-put_rows.ensures.ok c.in-Err.ensures.err),
      text_is d (subst IsDrawn c.self.view_is c.self.invariant),
    )
