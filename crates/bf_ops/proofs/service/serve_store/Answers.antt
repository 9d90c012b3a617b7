use Rattle.std.proofs.Common.{◌++◌, ap, ◌∙◌}
use Rattle.bf_tape.specs.Code.{goto_code, times_code}
use Rattle.bf_tape.specs.Piece.{joined}
use Rattle.bf_word.specs.WordCode.{clear_word_code}
use Rattle.bf_memory.specs.MemoryCode.{store_code}
use Rattle.bf_word.proofs.Codes.{first_code, next_code}
use Rattle.bf_ops.proofs.Serving.{serves_stores}
use Rattle.bf_ops.proofs.service.serve_store.Goals as goal

pub returns-clause-effect : goal.returns-clause-effect
returns-clause-effect c =
    serves_stores c.begin-body.ensures c.in_ok-store.ensures.effect c.in_ok-clear_word.ensures.effect c.in_ok-clear_word-2.ensures.effect c.in_ok-goto.ensures.effect (ap (λ p. p.cell) c.in_ok-goto.ensures.code) c.in_ok-times.ensures.effect (ap (λ p. p.cell) c.in_ok-times.ensures.code)

pub returns-clause-code : goal.returns-clause-code
returns-clause-code c =
    c.in_ok-times.ensures.code
    ∙ ap (λ q. joined c.args.f.now (times_code c.args.f.now.cell 47 q.commands) 47)
    (next_code 89 47 (store_code 47 107 87 ++ clear_word_code 151 107 ++ clear_word_code 109 87) (λ k. goto_code k 47)
    (next_code 109 89 (store_code 47 107 87 ++ clear_word_code 151 107) (λ k. clear_word_code k 87)
    (next_code 151 109 (store_code 47 107 87) (λ k. clear_word_code k 107) (first_code 47 151 (λ k. store_code k 107 87) c.begin-body.ensures c.in_ok-store.ensures.code) c.in_ok-clear_word.ensures.code) c.in_ok-clear_word-2.ensures.code) c.in_ok-goto.ensures.code)
