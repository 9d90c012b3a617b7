use Rattle.std.proofs.Common.{◌+◌, ◌++◌, inl, inr, ap, ◌∙◌, arith}
use Rattle.bf_tape.specs.Code.{goto_code, add_code, times_code}
use Rattle.bf_tape.specs.Piece.{joined}
use Rattle.bf_word.specs.WordCode.{dup_word_code}
use Rattle.bf_word.proofs.Codes.{first_code, next_code}
use Rattle.bf_jump.proofs.Decided.{takes_block}
use Rattle.bf_jump.proofs.deciding.take_block.Goals as goal

pub dup_word-requires-clause-distinct : goal.dup_word-requires-clause-distinct
dup_word-requires-clause-distinct c = inl (omega (arith, c.cell_of-cell.ensures.high))

pub dup_word-requires-clause-from_spare : goal.dup_word-requires-clause-from_spare
dup_word-requires-clause-from_spare c = inr (omega arith)

pub dup_word-requires-clause-to_spare : goal.dup_word-requires-clause-to_spare
dup_word-requires-clause-to_spare c = inl (omega (arith, c.cell_of-cell.ensures.high))

pub returns-clause-effect : goal.returns-clause-effect
returns-clause-effect c =
    takes_block c.args.reg c.cell_of-cell.result c.cell_of-cell.ensures.cell
    (record {
      from = c.begin-body.ensures;
      dup = c.in_ok-dup_word.ensures.effect;
      add = c.in_ok-add_const.ensures.effect;
      back = c.in_ok-goto.ensures.effect;
      home = ap (λ p. p.cell) c.in_ok-goto.ensures.code;
      times = c.in_ok-times.ensures.effect;
      ends = ap (λ p. p.cell) c.in_ok-times.ensures.code;
    })

pub returns-clause-code : goal.returns-clause-code
returns-clause-code c =
    let w = c.cell_of-cell.result in
    let body =
    next_code 44 (w + 3) (dup_word_code (w + 3) w 114 (w + 3) ++ add_code (w + 3) 44 1) (λ k. goto_code k (w + 3))
    (next_code (w + 3) 44 (dup_word_code (w + 3) w 114 (w + 3)) (λ k. add_code k 44 1) (first_code (w + 3) (w + 3) (λ k. dup_word_code k w 114 (w + 3)) c.begin-body.ensures c.in_ok-dup_word.ensures.code) c.in_ok-add_const.ensures.code) c.in_ok-goto.ensures.code in
    c.in_ok-times.ensures.code ∙ (ap (λ q. joined c.args.f.now (times_code c.args.f.now.cell (w + 3) q.commands) (w + 3)) body
    ∙ ap (λ v. joined c.args.f.now (times_code c.args.f.now.cell (v + 3) (dup_word_code (v + 3) v 114 (v + 3) ++ add_code (v + 3) 44 1 ++ goto_code 44 (v + 3))) (v + 3)) c.cell_of-cell.ensures.cell)
