use Rattle.std.proofs.Common.{◌++◌, length, subst}
use Rattle.std.proofs.lemmas.Result.{err_from_is_err_and}
use Rattle.sq_back.specs.Code.{first_lines, rows_lines, blocks_start, blocks_lines}
use Rattle.sq_back.specs.Text.{lines_text, words_text}
use Rattle.mach_core.specs.Puts.{Outlet, Puts}
use Rattle.mach_core.proofs.Ahead.{puts_both, puts_stopped}
use Rattle.sq_back.proofs.Texts.{program_text}
use Rattle.sq_back.proofs.image.put_image.Goals as goal

pub returns-in_err-put_first : goal.returns-in_err-put_first
returns-in_err-put_first g c =
    let old : Outlet = record { got = g.O.Sink.got c.args.out.now; faults = g.O.Sink.faults c.args.out.now; held = c.args.put.now } in
    let p = c.args.p.now in
    let first = lines_text (first_lines p) in
    let rows = lines_text (rows_lines (blocks_start p) p.blocks) in
    let blocks = lines_text (blocks_lines (length p.blocks) 0 (blocks_start p) p.blocks) in
    let words = words_text p.words in
    let way1 : Outlet = record { got = g.O.Sink.got c.put_first.new.out; faults = g.O.Sink.faults c.put_first.new.out; held = c.put_first.new.put } in
    subst (λ bytes. Puts old way1 bytes c.from_residual.result) (program_text p)
    (puts_stopped old way1 first (rows ++ (blocks ++ words)) c.in_err-put_first.field-0.0 c.from_residual.result (err_from_is_err_and c.from_residual.result c.from_residual.ensures.1) c.in_err-put_first.ensures)

pub returns-in_err-put_rows : goal.returns-in_err-put_rows
returns-in_err-put_rows g c =
    let old : Outlet = record { got = g.O.Sink.got c.args.out.now; faults = g.O.Sink.faults c.args.out.now; held = c.args.put.now } in
    let p = c.args.p.now in
    let first = lines_text (first_lines p) in
    let rows = lines_text (rows_lines (blocks_start p) p.blocks) in
    let blocks = lines_text (blocks_lines (length p.blocks) 0 (blocks_start p) p.blocks) in
    let words = words_text p.words in
    let way1 : Outlet = record { got = g.O.Sink.got c.put_first.new.out; faults = g.O.Sink.faults c.put_first.new.out; held = c.put_first.new.put } in
    let way2 : Outlet = record { got = g.O.Sink.got c.put_rows.new.out; faults = g.O.Sink.faults c.put_rows.new.out; held = c.put_rows.new.put } in
    let r = c.from_residual-in_err-put_rows.result in
    subst (λ bytes. Puts old way2 bytes r) (program_text p)
    (puts_both old way1 way2 first (rows ++ (blocks ++ words)) tt r c.in_ok-put_first.ensures
    (puts_stopped way1 way2 rows (blocks ++ words) c.in_err-put_rows.field-0.0 r (err_from_is_err_and r c.from_residual-in_err-put_rows.ensures.1) c.in_err-put_rows.ensures))

pub returns-in_err-put_blocks : goal.returns-in_err-put_blocks
returns-in_err-put_blocks g c =
    let old : Outlet = record { got = g.O.Sink.got c.args.out.now; faults = g.O.Sink.faults c.args.out.now; held = c.args.put.now } in
    let p = c.args.p.now in
    let first = lines_text (first_lines p) in
    let rows = lines_text (rows_lines (blocks_start p) p.blocks) in
    let blocks = lines_text (blocks_lines (length p.blocks) 0 (blocks_start p) p.blocks) in
    let words = words_text p.words in
    let way1 : Outlet = record { got = g.O.Sink.got c.put_first.new.out; faults = g.O.Sink.faults c.put_first.new.out; held = c.put_first.new.put } in
    let way2 : Outlet = record { got = g.O.Sink.got c.put_rows.new.out; faults = g.O.Sink.faults c.put_rows.new.out; held = c.put_rows.new.put } in
    let way3 : Outlet = record { got = g.O.Sink.got c.put_blocks.new.out; faults = g.O.Sink.faults c.put_blocks.new.out; held = c.put_blocks.new.put } in
    let r = c.from_residual-in_err-put_blocks.result in
    subst (λ bytes. Puts old way3 bytes r) (program_text p)
    (puts_both old way1 way3 first (rows ++ (blocks ++ words)) tt r c.in_ok-put_first.ensures
    (puts_both way1 way2 way3 rows (blocks ++ words) tt r c.in_ok-put_rows.ensures
    (puts_stopped way2 way3 blocks words c.in_err-put_blocks.field-0.0 r (err_from_is_err_and r c.from_residual-in_err-put_blocks.ensures.1) c.in_err-put_blocks.ensures)))

pub returns : goal.returns
returns g c =
    let old : Outlet = record { got = g.O.Sink.got c.args.out.now; faults = g.O.Sink.faults c.args.out.now; held = c.args.put.now } in
    let p = c.args.p.now in
    let first = lines_text (first_lines p) in
    let rows = lines_text (rows_lines (blocks_start p) p.blocks) in
    let blocks = lines_text (blocks_lines (length p.blocks) 0 (blocks_start p) p.blocks) in
    let words = words_text p.words in
    let way1 : Outlet = record { got = g.O.Sink.got c.put_first.new.out; faults = g.O.Sink.faults c.put_first.new.out; held = c.put_first.new.put } in
    let way2 : Outlet = record { got = g.O.Sink.got c.put_rows.new.out; faults = g.O.Sink.faults c.put_rows.new.out; held = c.put_rows.new.put } in
    let way3 : Outlet = record { got = g.O.Sink.got c.put_blocks.new.out; faults = g.O.Sink.faults c.put_blocks.new.out; held = c.put_blocks.new.put } in
    let way4 : Outlet = record { got = g.O.Sink.got c.put_words.new.out; faults = g.O.Sink.faults c.put_words.new.out; held = c.put_words.new.put } in
    let r = c.put_words.result in
    subst (λ bytes. Puts old way4 bytes r) (program_text p)
    (puts_both old way1 way4 first (rows ++ (blocks ++ words)) tt r c.in_ok-put_first.ensures
    (puts_both way1 way2 way4 rows (blocks ++ words) tt r c.in_ok-put_rows.ensures
    (puts_both way2 way3 way4 blocks words tt r c.in_ok-put_blocks.ensures
    (subst (λ ws. Puts way3 way4 (words_text ws) r) c.words.ensures.words c.put_words.ensures))))
