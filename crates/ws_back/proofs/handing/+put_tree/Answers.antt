use Rattle.std.proofs.Common.{◌+◌, ◌-◌, ◌*◌, ◌%◌, ◌^◌, ◌<◌, ◌≤◌, ◌++◌, ◌∷◌, [], arith, sym, subst}
use Rattle.std.proofs.lemmas.Result.{err_from_is_err_and}
use Rattle.mach_core.specs.Outside.{Rose}
use Rattle.ws_lang.specs.Instruction.{Mark}
use Rattle.ws_back.specs.Code.{branch_label, branch_code, tree_code}
use Rattle.ws_back.specs.Pieces.{IsCodeHanded}
use Rattle.ws_back.proofs.Handed.{ahead_start, ahead_more, ahead_last, ahead_stops_with, rises_after, middle_is, tree_below, tree_parts}
use Rattle.ws_back.proofs.handing.+put_tree.Goals as goal

pub returns-then-middle-count-clause-handed : goal.returns-then-middle-count-clause-handed
returns-then-middle-count-clause-handed g t c =
    let n = c.args.count in
    let low = c.args.low in
    let d = c.args.depth in
    let middle = low + 1 * 2 ^ (d - 1) % 4294967296 in
    let some : 0 < d = omega (arith, c.if-depth-eq0.false) in
    let same = tree_below n d low middle some (middle_is d low c.requires.depth) c.if-middle-count.true in
    subst (λ is. IsCodeHanded g.O.Sink.got g.O.Sink.faults c.args.out.now c.put_tree.new.out c.args.put.now c.put_tree.new.put is c.put_tree.result) (sym same) c.put_tree.ensures.handed

pub returns-in_err-put_piece-clause-handed : goal.returns-in_err-put_piece-clause-handed
returns-in_err-put_piece-clause-handed g t c =
    let n = c.args.count in
    let low = c.args.low in
    let d = c.args.depth in
    let middle = low + 1 * 2 ^ (d - 1) % 4294967296 in
    let branch = branch_code middle in
    let upper = tree_code n (d - 1) middle in
    let mark = Mark (branch_label middle) in
    let lower = tree_code n (d - 1) low in
    let all = branch ++ (upper ++ mark ∷ lower) in
    let some : 0 < d = omega (arith, c.if-depth-eq0.false) in
    let within : middle ≤ n = omega (arith, c.if-middle-count.false) in
    let same = tree_parts n d low middle some (middle_is d low c.requires.depth) within in
    let got0 = g.O.Sink.got c.args.out.now in
    let put0 = c.args.put.now in
    let got1 = g.O.Sink.got c.put_piece-2.new.out in
    let put1 = c.put_piece-2.new.put in
    let ahead0 = ahead_start got0 put0 all in
    let rose = Rose (g.O.Sink.faults c.args.out.now) (g.O.Sink.faults c.put_piece-2.new.out) in
    let rose' = Rose (g.O.Sink.faults c.args.out.now) (g.O.Sink.faults c.put_piece-2.new.out) in
    let later : g.O.Sink.faults c.args.out.now ≤ g.O.Sink.faults c.args.out.now = omega arith in
    let answer = ahead_stops_with got0 got0 got1 put0 put0 put1 put1 all branch (upper ++ mark ∷ lower) rose rose' c.in_err-put_piece.field-0.0 c.from_residual.result (rises_after _ _ _ later) (err_from_is_err_and c.from_residual.result c.from_residual.ensures.1) ahead0 c.in_err-put_piece.ensures.handed in
    subst (λ is. IsCodeHanded g.O.Sink.got g.O.Sink.faults c.args.out.now c.put_piece-2.new.out put0 put1 is c.from_residual.result) (sym same) answer

pub returns-in_err-put_tree-clause-handed : goal.returns-in_err-put_tree-clause-handed
returns-in_err-put_tree-clause-handed g t c =
    let n = c.args.count in
    let low = c.args.low in
    let d = c.args.depth in
    let middle = low + 1 * 2 ^ (d - 1) % 4294967296 in
    let branch = branch_code middle in
    let upper = tree_code n (d - 1) middle in
    let mark = Mark (branch_label middle) in
    let lower = tree_code n (d - 1) low in
    let all = branch ++ (upper ++ mark ∷ lower) in
    let some : 0 < d = omega (arith, c.if-depth-eq0.false) in
    let within : middle ≤ n = omega (arith, c.if-middle-count.false) in
    let same = tree_parts n d low middle some (middle_is d low c.requires.depth) within in
    let got0 = g.O.Sink.got c.args.out.now in
    let put0 = c.args.put.now in
    let got1 = g.O.Sink.got c.put_piece-2.new.out in
    let put1 = c.put_piece-2.new.put in
    let got2 = g.O.Sink.got c.put_tree-2.new.out in
    let put2 = c.put_tree-2.new.put in
    let ahead0 = ahead_start got0 put0 all in
    let ahead1 = ahead_more got0 got0 got1 put0 put0 put1 all branch (upper ++ mark ∷ lower) ahead0 c.in_ok-put_piece.ensures.handed in
    let rose = Rose (g.O.Sink.faults c.put_piece-2.new.out) (g.O.Sink.faults c.put_tree-2.new.out) in
    let rose' = Rose (g.O.Sink.faults c.args.out.now) (g.O.Sink.faults c.put_tree-2.new.out) in
    let later : g.O.Sink.faults c.args.out.now ≤ g.O.Sink.faults c.put_piece-2.new.out = omega (arith, c.in_ok-put_piece.ensures.later) in
    let answer = ahead_stops_with got0 got1 got2 put0 put1 put2 put2 all upper (mark ∷ lower) rose rose' c.in_err-put_tree.field-0.0 c.from_residual-in_err-put_tree.result (rises_after _ _ _ later) (err_from_is_err_and c.from_residual-in_err-put_tree.result c.from_residual-in_err-put_tree.ensures.1) ahead1 c.in_err-put_tree.ensures.handed in
    subst (λ is. IsCodeHanded g.O.Sink.got g.O.Sink.faults c.args.out.now c.put_tree-2.new.out put0 put2 is c.from_residual-in_err-put_tree.result) (sym same) answer

pub returns-in_err-put_piece-2-clause-handed : goal.returns-in_err-put_piece-2-clause-handed
returns-in_err-put_piece-2-clause-handed g t c =
    let n = c.args.count in
    let low = c.args.low in
    let d = c.args.depth in
    let middle = low + 1 * 2 ^ (d - 1) % 4294967296 in
    let branch = branch_code middle in
    let upper = tree_code n (d - 1) middle in
    let mark = Mark (branch_label middle) in
    let lower = tree_code n (d - 1) low in
    let all = branch ++ (upper ++ mark ∷ lower) in
    let some : 0 < d = omega (arith, c.if-depth-eq0.false) in
    let within : middle ≤ n = omega (arith, c.if-middle-count.false) in
    let same = tree_parts n d low middle some (middle_is d low c.requires.depth) within in
    let got0 = g.O.Sink.got c.args.out.now in
    let put0 = c.args.put.now in
    let got1 = g.O.Sink.got c.put_piece-2.new.out in
    let put1 = c.put_piece-2.new.put in
    let got2 = g.O.Sink.got c.put_tree-2.new.out in
    let put2 = c.put_tree-2.new.put in
    let got3 = g.O.Sink.got c.put_piece-3.new.out in
    let put3 = c.put_piece-3.new.put in
    let ahead0 = ahead_start got0 put0 all in
    let ahead1 = ahead_more got0 got0 got1 put0 put0 put1 all branch (upper ++ mark ∷ lower) ahead0 c.in_ok-put_piece.ensures.handed in
    let ahead2 = ahead_more got0 got1 got2 put0 put1 put2 all upper (mark ∷ lower) ahead1 c.in_ok-put_tree.ensures.handed in
    let rose = Rose (g.O.Sink.faults c.put_tree-2.new.out) (g.O.Sink.faults c.put_piece-3.new.out) in
    let rose' = Rose (g.O.Sink.faults c.args.out.now) (g.O.Sink.faults c.put_piece-3.new.out) in
    let later : g.O.Sink.faults c.args.out.now ≤ g.O.Sink.faults c.put_tree-2.new.out = omega (arith, c.in_ok-put_piece.ensures.later, c.in_ok-put_tree.ensures.later) in
    let answer = ahead_stops_with got0 got2 got3 put0 put2 put3 put3 all (mark ∷ []) lower rose rose' c.in_err-put_piece-2.field-0.0 c.from_residual-in_err-put_piece-2.result (rises_after _ _ _ later) (err_from_is_err_and c.from_residual-in_err-put_piece-2.result c.from_residual-in_err-put_piece-2.ensures.1) ahead2 c.in_err-put_piece-2.ensures.handed in
    subst (λ is. IsCodeHanded g.O.Sink.got g.O.Sink.faults c.args.out.now c.put_piece-3.new.out put0 put3 is c.from_residual-in_err-put_piece-2.result) (sym same) answer

pub returns-clause-handed : goal.returns-clause-handed
returns-clause-handed g t c =
    let n = c.args.count in
    let low = c.args.low in
    let d = c.args.depth in
    let middle = low + 1 * 2 ^ (d - 1) % 4294967296 in
    let branch = branch_code middle in
    let upper = tree_code n (d - 1) middle in
    let mark = Mark (branch_label middle) in
    let lower = tree_code n (d - 1) low in
    let all = branch ++ (upper ++ mark ∷ lower) in
    let some : 0 < d = omega (arith, c.if-depth-eq0.false) in
    let within : middle ≤ n = omega (arith, c.if-middle-count.false) in
    let same = tree_parts n d low middle some (middle_is d low c.requires.depth) within in
    let got0 = g.O.Sink.got c.args.out.now in
    let put0 = c.args.put.now in
    let got1 = g.O.Sink.got c.put_piece-2.new.out in
    let put1 = c.put_piece-2.new.put in
    let got2 = g.O.Sink.got c.put_tree-2.new.out in
    let put2 = c.put_tree-2.new.put in
    let got3 = g.O.Sink.got c.put_piece-3.new.out in
    let put3 = c.put_piece-3.new.put in
    let got4 = g.O.Sink.got c.put_tree-3.new.out in
    let put4 = c.put_tree-3.new.put in
    let ahead0 = ahead_start got0 put0 all in
    let ahead1 = ahead_more got0 got0 got1 put0 put0 put1 all branch (upper ++ mark ∷ lower) ahead0 c.in_ok-put_piece.ensures.handed in
    let ahead2 = ahead_more got0 got1 got2 put0 put1 put2 all upper (mark ∷ lower) ahead1 c.in_ok-put_tree.ensures.handed in
    let ahead3 = ahead_more got0 got2 got3 put0 put2 put3 all (mark ∷ []) lower ahead2 c.in_ok-put_piece-2.ensures.handed in
    let rose = Rose (g.O.Sink.faults c.put_piece-3.new.out) (g.O.Sink.faults c.put_tree-3.new.out) in
    let rose' = Rose (g.O.Sink.faults c.args.out.now) (g.O.Sink.faults c.put_tree-3.new.out) in
    let later : g.O.Sink.faults c.args.out.now ≤ g.O.Sink.faults c.put_piece-3.new.out = omega (arith, c.in_ok-put_piece.ensures.later, c.in_ok-put_tree.ensures.later, c.in_ok-put_piece-2.ensures.later) in
    let answer = ahead_last got0 got3 got4 put0 put3 put4 all lower rose rose' c.put_tree-3.result (rises_after _ _ _ later) ahead3 c.put_tree-3.ensures.handed in
    subst (λ is. IsCodeHanded g.O.Sink.got g.O.Sink.faults c.args.out.now c.put_tree-3.new.out put0 put4 is c.put_tree-3.result) (sym same) answer
