use Rattle.std.proofs.Common.{◌++◌, ap, ◌∙◌}
use Rattle.eir_core.specs.declared.ops.Reg.TheVariants.{BP}
use Rattle.bf_tape.specs.Code.{goto_code, times_code}
use Rattle.bf_tape.specs.Piece.{joined}
use Rattle.bf_memory.specs.MemoryCode.{load_code}
use Rattle.bf_word.proofs.Codes.{first_code, next_code}
use Rattle.bf_ops.specs.Ask.{flag_of, gives_code}
use Rattle.bf_ops.proofs.Serving.{serves_loads}
use Rattle.bf_ops.proofs.service.serve_load.Goals as goal

pub returns-clause-effect : goal.returns-clause-effect
returns-clause-effect c = serves_loads c.begin-body.ensures c.in_ok-load.ensures.effect c.in_ok-give_any.ensures.effect c.in_ok-goto.ensures.effect (ap (λ p. p.cell) c.in_ok-goto.ensures.code) c.in_ok-times.ensures.effect (ap (λ p. p.cell) c.in_ok-times.ensures.code)

pub returns-clause-code : goal.returns-clause-code
returns-clause-code c =
    c.in_ok-times.ensures.code
    ∙ ap (λ q. joined c.args.f.now (times_code c.args.f.now.cell 46 q.commands) 46)
    (next_code (flag_of BP) 46 (load_code 46 107 107 ++ gives_code 148) (λ k. goto_code k 46)
    (next_code 148 (flag_of BP) (load_code 46 107 107) (λ k. gives_code k) (first_code 46 148 (λ k. load_code k 107 107) c.begin-body.ensures c.in_ok-load.ensures.code) c.in_ok-give_any.ensures.code) c.in_ok-goto.ensures.code)
