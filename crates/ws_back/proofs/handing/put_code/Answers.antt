use Rattle.std.proofs.Common.{◌++◌, ◌∷◌, [], length, arith, refl, ◌≤◌, subst}
use Rattle.std.proofs.lemmas.Result.{err_from_is_err_and}
use Rattle.mach_core.specs.Outside.{Rose}
use Rattle.ws_lang.specs.Instruction.{Jump}
use Rattle.ws_back.specs.Code.{goal_label, words_code, dispatch_code, blocks_code, end_code}
use Rattle.ws_back.specs.Commands.{label_of}
use Rattle.ws_back.specs.Text.{text_of}
use Rattle.ws_back.specs.Pieces.{IsHanded}
use Rattle.ws_back.proofs.Handed.{ahead_start, ahead_more, ahead_last, ahead_stops_with, rises_after, code_parts}
use Rattle.ws_back.proofs.handing.put_code.Goals as goal

pub returns-in_err-put_words-clause-handed : goal.returns-in_err-put_words-clause-handed
returns-in_err-put_words-clause-handed g c =
    let p = c.args.p.now in
    let n = c.block_count-count.result in
    let words = words_code 0 c.words.result.now in
    let jump = Jump (goal_label n p.start) in
    let dispatch = dispatch_code n in
    let blocks = blocks_code (length p.blocks) 0 p.blocks in
    let got0 = g.O.Sink.got c.args.out.now in
    let put0 = c.args.put.now in
    let got1 = g.O.Sink.got c.put_words.new.out in
    let put1 = c.put_words.new.put in
    let rose = Rose (g.O.Sink.faults c.args.out.now) (g.O.Sink.faults c.put_words.new.out) in
    let rose' = Rose (g.O.Sink.faults c.args.out.now) (g.O.Sink.faults c.put_words.new.out) in
    let all = words ++ (jump ∷ (dispatch ++ (blocks ++ end_code))) in
    let ahead0 = ahead_start got0 put0 all in
    let later : g.O.Sink.faults c.args.out.now ≤ g.O.Sink.faults c.args.out.now = omega arith in
    let answer = ahead_stops_with got0 got0 got1 put0 put0 put1 put1 all (words) (jump ∷ (dispatch ++ (blocks ++ end_code))) rose rose' c.in_err-put_words.field-0.0 c.from_residual.result (rises_after _ _ _ later) (err_from_is_err_and c.from_residual.result c.from_residual.ensures.1) ahead0 c.in_err-put_words.ensures.handed in
    subst (λ is. IsHanded got0 got1 rose' (put0 ++ text_of is) put1 c.from_residual.result) (code_parts p n p.start c.words.result.now (goal_label n p.start) c.words.ensures.words c.block_count-count.ensures.count refl refl) answer

pub returns-in_err-put_piece-clause-handed : goal.returns-in_err-put_piece-clause-handed
returns-in_err-put_piece-clause-handed g c =
    let p = c.args.p.now in
    let n = c.block_count-count.result in
    let words = words_code 0 c.words.result.now in
    let jump = Jump (label_of c.goal.result) in
    let dispatch = dispatch_code n in
    let blocks = blocks_code (length p.blocks) 0 p.blocks in
    let got0 = g.O.Sink.got c.args.out.now in
    let put0 = c.args.put.now in
    let got1 = g.O.Sink.got c.put_words.new.out in
    let put1 = c.put_words.new.put in
    let got2 = g.O.Sink.got c.put_piece.new.out in
    let put2 = c.put_piece.new.put in
    let rose = Rose (g.O.Sink.faults c.put_words.new.out) (g.O.Sink.faults c.put_piece.new.out) in
    let rose' = Rose (g.O.Sink.faults c.args.out.now) (g.O.Sink.faults c.put_piece.new.out) in
    let all = words ++ (jump ∷ (dispatch ++ (blocks ++ end_code))) in
    let ahead0 = ahead_start got0 put0 all in
    let ahead1 = ahead_more got0 got0 got1 put0 put0 put1 all (words) (jump ∷ (dispatch ++ (blocks ++ end_code))) ahead0 c.in_ok-put_words.ensures.handed in
    let later : g.O.Sink.faults c.args.out.now ≤ g.O.Sink.faults c.put_words.new.out = omega (arith, c.in_ok-put_words.ensures.later) in
    let answer = ahead_stops_with got0 got1 got2 put0 put1 put2 put2 all (jump ∷ []) (dispatch ++ (blocks ++ end_code)) rose rose' c.in_err-put_piece.field-0.0 c.from_residual-in_err-put_piece.result (rises_after _ _ _ later) (err_from_is_err_and c.from_residual-in_err-put_piece.result c.from_residual-in_err-put_piece.ensures.1) ahead1 c.in_err-put_piece.ensures.handed in
    subst (λ is. IsHanded got0 got2 rose' (put0 ++ text_of is) put2 c.from_residual-in_err-put_piece.result) (code_parts p n c.start.result c.words.result.now (label_of c.goal.result) c.words.ensures.words c.block_count-count.ensures.count c.start.ensures c.goal.ensures.label) answer

pub returns-in_err-put_dispatch-clause-handed : goal.returns-in_err-put_dispatch-clause-handed
returns-in_err-put_dispatch-clause-handed g c =
    let p = c.args.p.now in
    let n = c.block_count-count.result in
    let words = words_code 0 c.words.result.now in
    let jump = Jump (label_of c.goal.result) in
    let dispatch = dispatch_code n in
    let blocks = blocks_code (length p.blocks) 0 p.blocks in
    let got0 = g.O.Sink.got c.args.out.now in
    let put0 = c.args.put.now in
    let got1 = g.O.Sink.got c.put_words.new.out in
    let put1 = c.put_words.new.put in
    let got2 = g.O.Sink.got c.put_piece.new.out in
    let put2 = c.put_piece.new.put in
    let got3 = g.O.Sink.got c.put_dispatch.new.out in
    let put3 = c.put_dispatch.new.put in
    let rose = Rose (g.O.Sink.faults c.put_piece.new.out) (g.O.Sink.faults c.put_dispatch.new.out) in
    let rose' = Rose (g.O.Sink.faults c.args.out.now) (g.O.Sink.faults c.put_dispatch.new.out) in
    let all = words ++ (jump ∷ (dispatch ++ (blocks ++ end_code))) in
    let ahead0 = ahead_start got0 put0 all in
    let ahead1 = ahead_more got0 got0 got1 put0 put0 put1 all (words) (jump ∷ (dispatch ++ (blocks ++ end_code))) ahead0 c.in_ok-put_words.ensures.handed in
    let ahead2 = ahead_more got0 got1 got2 put0 put1 put2 all (jump ∷ []) (dispatch ++ (blocks ++ end_code)) ahead1 c.in_ok-put_piece.ensures.handed in
    let later : g.O.Sink.faults c.args.out.now ≤ g.O.Sink.faults c.put_piece.new.out = omega (arith, c.in_ok-put_words.ensures.later, c.in_ok-put_piece.ensures.later) in
    let answer = ahead_stops_with got0 got2 got3 put0 put2 put3 put3 all (dispatch) (blocks ++ end_code) rose rose' c.in_err-put_dispatch.field-0.0 c.from_residual-in_err-put_dispatch.result (rises_after _ _ _ later) (err_from_is_err_and c.from_residual-in_err-put_dispatch.result c.from_residual-in_err-put_dispatch.ensures.1) ahead2 c.in_err-put_dispatch.ensures.handed in
    subst (λ is. IsHanded got0 got3 rose' (put0 ++ text_of is) put3 c.from_residual-in_err-put_dispatch.result) (code_parts p n c.start.result c.words.result.now (label_of c.goal.result) c.words.ensures.words c.block_count-count.ensures.count c.start.ensures c.goal.ensures.label) answer

pub returns-in_err-put_blocks-clause-handed : goal.returns-in_err-put_blocks-clause-handed
returns-in_err-put_blocks-clause-handed g c =
    let p = c.args.p.now in
    let n = c.block_count-count.result in
    let words = words_code 0 c.words.result.now in
    let jump = Jump (label_of c.goal.result) in
    let dispatch = dispatch_code n in
    let blocks = blocks_code (length p.blocks) 0 p.blocks in
    let got0 = g.O.Sink.got c.args.out.now in
    let put0 = c.args.put.now in
    let got1 = g.O.Sink.got c.put_words.new.out in
    let put1 = c.put_words.new.put in
    let got2 = g.O.Sink.got c.put_piece.new.out in
    let put2 = c.put_piece.new.put in
    let got3 = g.O.Sink.got c.put_dispatch.new.out in
    let put3 = c.put_dispatch.new.put in
    let got4 = g.O.Sink.got c.put_blocks.new.out in
    let put4 = c.put_blocks.new.put in
    let rose = Rose (g.O.Sink.faults c.put_dispatch.new.out) (g.O.Sink.faults c.put_blocks.new.out) in
    let rose' = Rose (g.O.Sink.faults c.args.out.now) (g.O.Sink.faults c.put_blocks.new.out) in
    let all = words ++ (jump ∷ (dispatch ++ (blocks ++ end_code))) in
    let ahead0 = ahead_start got0 put0 all in
    let ahead1 = ahead_more got0 got0 got1 put0 put0 put1 all (words) (jump ∷ (dispatch ++ (blocks ++ end_code))) ahead0 c.in_ok-put_words.ensures.handed in
    let ahead2 = ahead_more got0 got1 got2 put0 put1 put2 all (jump ∷ []) (dispatch ++ (blocks ++ end_code)) ahead1 c.in_ok-put_piece.ensures.handed in
    let ahead3 = ahead_more got0 got2 got3 put0 put2 put3 all (dispatch) (blocks ++ end_code) ahead2 c.in_ok-put_dispatch.ensures.handed in
    let later : g.O.Sink.faults c.args.out.now ≤ g.O.Sink.faults c.put_dispatch.new.out = omega (arith, c.in_ok-put_words.ensures.later, c.in_ok-put_piece.ensures.later, c.in_ok-put_dispatch.ensures.later) in
    let answer = ahead_stops_with got0 got3 got4 put0 put3 put4 put4 all (blocks) (end_code) rose rose' c.in_err-put_blocks.field-0.0 c.from_residual-in_err-put_blocks.result (rises_after _ _ _ later) (err_from_is_err_and c.from_residual-in_err-put_blocks.result c.from_residual-in_err-put_blocks.ensures.1) ahead3 c.in_err-put_blocks.ensures.handed in
    subst (λ is. IsHanded got0 got4 rose' (put0 ++ text_of is) put4 c.from_residual-in_err-put_blocks.result) (code_parts p n c.start.result c.words.result.now (label_of c.goal.result) c.words.ensures.words c.block_count-count.ensures.count c.start.ensures c.goal.ensures.label) answer

pub returns-clause-handed : goal.returns-clause-handed
returns-clause-handed g c =
    let p = c.args.p.now in
    let n = c.block_count-count.result in
    let words = words_code 0 c.words.result.now in
    let jump = Jump (label_of c.goal.result) in
    let dispatch = dispatch_code n in
    let blocks = blocks_code (length p.blocks) 0 p.blocks in
    let got0 = g.O.Sink.got c.args.out.now in
    let put0 = c.args.put.now in
    let got1 = g.O.Sink.got c.put_words.new.out in
    let put1 = c.put_words.new.put in
    let got2 = g.O.Sink.got c.put_piece.new.out in
    let put2 = c.put_piece.new.put in
    let got3 = g.O.Sink.got c.put_dispatch.new.out in
    let put3 = c.put_dispatch.new.put in
    let got4 = g.O.Sink.got c.put_blocks.new.out in
    let put4 = c.put_blocks.new.put in
    let got5 = g.O.Sink.got c.put_end.new.out in
    let put5 = c.put_end.new.put in
    let rose = Rose (g.O.Sink.faults c.put_blocks.new.out) (g.O.Sink.faults c.put_end.new.out) in
    let rose' = Rose (g.O.Sink.faults c.args.out.now) (g.O.Sink.faults c.put_end.new.out) in
    let all = words ++ (jump ∷ (dispatch ++ (blocks ++ end_code))) in
    let ahead0 = ahead_start got0 put0 all in
    let ahead1 = ahead_more got0 got0 got1 put0 put0 put1 all (words) (jump ∷ (dispatch ++ (blocks ++ end_code))) ahead0 c.in_ok-put_words.ensures.handed in
    let ahead2 = ahead_more got0 got1 got2 put0 put1 put2 all (jump ∷ []) (dispatch ++ (blocks ++ end_code)) ahead1 c.in_ok-put_piece.ensures.handed in
    let ahead3 = ahead_more got0 got2 got3 put0 put2 put3 all (dispatch) (blocks ++ end_code) ahead2 c.in_ok-put_dispatch.ensures.handed in
    let ahead4 = ahead_more got0 got3 got4 put0 put3 put4 all (blocks) (end_code) ahead3 c.in_ok-put_blocks.ensures.handed in
    let later : g.O.Sink.faults c.args.out.now ≤ g.O.Sink.faults c.put_blocks.new.out = omega (arith, c.in_ok-put_words.ensures.later, c.in_ok-put_piece.ensures.later, c.in_ok-put_dispatch.ensures.later, c.in_ok-put_blocks.ensures.later) in
    let answer = ahead_last got0 got4 got5 put0 put4 put5 all (end_code) rose rose' c.put_end.result (rises_after _ _ _ later) ahead4 c.put_end.ensures.handed in
    subst (λ is. IsHanded got0 got5 rose' (put0 ++ text_of is) put5 c.put_end.result) (code_parts p n c.start.result c.words.result.now (label_of c.goal.result) c.words.ensures.words c.block_count-count.ensures.count c.start.ensures c.goal.ensures.label) answer
