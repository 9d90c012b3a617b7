use Rattle.std.proofs.Common.{Ok, Err, ◌++◌, ◌∷◌, [], map, sym, subst}
use Rattle.std.proofs.lemmas.Result.{err_from_is_err_and}
use Rattle.std.specs.Prelude.{codes}
use Rattle.eir_print.specs.Printed.{text_of, word_line, blocks_lines, header_lines, printed}
use Rattle.eir_print.proofs.Texts.{program_text}
use Rattle.mach_core.specs.Puts.{Outlet, Puts}
use Rattle.mach_core.proofs.Ahead.{Ahead, ahead_start, ahead_more, ahead_stops, ahead_last}
use Rattle.eir_print.proofs.print.put_program.Goals as goal

pub returns-in_err-pieces : goal.returns-in_err-pieces
returns-in_err-pieces g c =
    let old : Outlet = record { got = g.O.Sink.got c.args.out.now; faults = g.O.Sink.faults c.args.out.now; held = c.args.put.now } in
    let new1 : Outlet = record { got = g.O.Sink.got c.pieces.new.out; faults = g.O.Sink.faults c.pieces.new.out; held = c.pieces.new.self } in
    let all = printed c.args.p.now in
    let ahead0 = subst (λ bs. Ahead old old all bs) (sym (program_text c.args.p.now)) (ahead_start old all) in
    ahead_stops old old new1 all (text_of (codes ".text" ∷ [])) (text_of (blocks_lines c.args.p.now.start 0 c.args.p.now.blocks) ++ (text_of (header_lines c.args.p.now.words) ++ (text_of (map word_line c.args.p.now.words)))) c.in_err-pieces.field-0.0 c.from_residual.result (err_from_is_err_and c.from_residual.result c.from_residual.ensures.1) ahead0 c.in_err-pieces.ensures

pub returns-in_err-put_blocks : goal.returns-in_err-put_blocks
returns-in_err-put_blocks g c =
    let old : Outlet = record { got = g.O.Sink.got c.args.out.now; faults = g.O.Sink.faults c.args.out.now; held = c.args.put.now } in
    let new1 : Outlet = record { got = g.O.Sink.got c.pieces.new.out; faults = g.O.Sink.faults c.pieces.new.out; held = c.pieces.new.self } in
    let new2 : Outlet = record { got = g.O.Sink.got c.put_blocks.new.out; faults = g.O.Sink.faults c.put_blocks.new.out; held = c.put_blocks.new.put } in
    let all = printed c.args.p.now in
    let ahead0 = subst (λ bs. Ahead old old all bs) (sym (program_text c.args.p.now)) (ahead_start old all) in
    let ahead1 = ahead_more old old new1 all (text_of (codes ".text" ∷ [])) (text_of (blocks_lines c.args.p.now.start 0 c.args.p.now.blocks) ++ (text_of (header_lines c.args.p.now.words) ++ (text_of (map word_line c.args.p.now.words)))) tt ahead0 c.in_ok-pieces.ensures in
    ahead_stops old new1 new2 all (text_of (blocks_lines c.args.p.now.start 0 c.args.p.now.blocks)) (text_of (header_lines c.args.p.now.words) ++ (text_of (map word_line c.args.p.now.words))) c.in_err-put_blocks.field-0.0 c.from_residual-in_err-put_blocks.result (err_from_is_err_and c.from_residual-in_err-put_blocks.result c.from_residual-in_err-put_blocks.ensures.1) ahead1 c.in_err-put_blocks.ensures

pub returns-in_err-put_header : goal.returns-in_err-put_header
returns-in_err-put_header g c =
    let old : Outlet = record { got = g.O.Sink.got c.args.out.now; faults = g.O.Sink.faults c.args.out.now; held = c.args.put.now } in
    let new1 : Outlet = record { got = g.O.Sink.got c.pieces.new.out; faults = g.O.Sink.faults c.pieces.new.out; held = c.pieces.new.self } in
    let new2 : Outlet = record { got = g.O.Sink.got c.put_blocks.new.out; faults = g.O.Sink.faults c.put_blocks.new.out; held = c.put_blocks.new.put } in
    let new3 : Outlet = record { got = g.O.Sink.got c.put_header.new.out; faults = g.O.Sink.faults c.put_header.new.out; held = c.put_header.new.put } in
    let all = printed c.args.p.now in
    let ahead0 = subst (λ bs. Ahead old old all bs) (sym (program_text c.args.p.now)) (ahead_start old all) in
    let ahead1 = ahead_more old old new1 all (text_of (codes ".text" ∷ [])) (text_of (blocks_lines c.args.p.now.start 0 c.args.p.now.blocks) ++ (text_of (header_lines c.args.p.now.words) ++ (text_of (map word_line c.args.p.now.words)))) tt ahead0 c.in_ok-pieces.ensures in
    let ahead2 = ahead_more old new1 new2 all (text_of (blocks_lines c.args.p.now.start 0 c.args.p.now.blocks)) (text_of (header_lines c.args.p.now.words) ++ (text_of (map word_line c.args.p.now.words))) tt ahead1 c.in_ok-put_blocks.ensures in
    ahead_stops old new2 new3 all (text_of (header_lines c.args.p.now.words)) (text_of (map word_line c.args.p.now.words)) c.in_err-put_header.field-0.0 c.from_residual-in_err-put_header.result (err_from_is_err_and c.from_residual-in_err-put_header.result c.from_residual-in_err-put_header.ensures.1) ahead2 (subst (λ ws. Puts new2 new3 (text_of (header_lines ws)) (Err c.in_err-put_header.field-0.0)) c.words.ensures.words c.in_err-put_header.ensures)

pub returns : goal.returns
returns g c =
    let old : Outlet = record { got = g.O.Sink.got c.args.out.now; faults = g.O.Sink.faults c.args.out.now; held = c.args.put.now } in
    let new1 : Outlet = record { got = g.O.Sink.got c.pieces.new.out; faults = g.O.Sink.faults c.pieces.new.out; held = c.pieces.new.self } in
    let new2 : Outlet = record { got = g.O.Sink.got c.put_blocks.new.out; faults = g.O.Sink.faults c.put_blocks.new.out; held = c.put_blocks.new.put } in
    let new3 : Outlet = record { got = g.O.Sink.got c.put_header.new.out; faults = g.O.Sink.faults c.put_header.new.out; held = c.put_header.new.put } in
    let new4 : Outlet = record { got = g.O.Sink.got c.put_words.new.out; faults = g.O.Sink.faults c.put_words.new.out; held = c.put_words.new.put } in
    let all = printed c.args.p.now in
    let ahead0 = subst (λ bs. Ahead old old all bs) (sym (program_text c.args.p.now)) (ahead_start old all) in
    let ahead1 = ahead_more old old new1 all (text_of (codes ".text" ∷ [])) (text_of (blocks_lines c.args.p.now.start 0 c.args.p.now.blocks) ++ (text_of (header_lines c.args.p.now.words) ++ (text_of (map word_line c.args.p.now.words)))) tt ahead0 c.in_ok-pieces.ensures in
    let ahead2 = ahead_more old new1 new2 all (text_of (blocks_lines c.args.p.now.start 0 c.args.p.now.blocks)) (text_of (header_lines c.args.p.now.words) ++ (text_of (map word_line c.args.p.now.words))) tt ahead1 c.in_ok-put_blocks.ensures in
    let ahead3 = ahead_more old new2 new3 all (text_of (header_lines c.args.p.now.words)) (text_of (map word_line c.args.p.now.words)) tt ahead2 (subst (λ ws. Puts new2 new3 (text_of (header_lines ws)) (Ok tt)) c.words.ensures.words c.in_ok-put_header.ensures) in
    ahead_last old new3 new4 all (text_of (map word_line c.args.p.now.words)) c.put_words.result ahead3 (subst (λ ws. Puts new3 new4 (text_of (map word_line ws)) c.put_words.result) c.words-2.ensures.words c.put_words.ensures)
