use Rattle.bf_tape.specs.Piece.{Piece}
use Rattle.bf_memory.proofs.Loaded.{claim_aside}
use Rattle.bf_word.proofs.Codes.{first_code, next_code, aside_code}
use Rattle.bf_ops.specs.Ask.{serve_load_code, serve_store_code, serve_code, Serves}
use Rattle.bf_ops.proofs.Serving.{serves, serves_aside}
use Rattle.bf_ops.proofs.service.serve.Goals as goal

pub returns-clause-effect : goal.returns-clause-effect
returns-clause-effect c =
    claim_aside (λ (p q : Piece). Serves p q) c.append.result c.args.f.now c.append.new.f c.append.ensures.ok c.aside-piece.ensures.piece serves_aside (serves c.in_ok-serve_load.ensures.effect c.in_ok-serve_store.ensures.effect)

pub returns-clause-code : goal.returns-clause-code
returns-clause-code c =
    aside_code c.append.result c.args.f.now c.append.new.f (serve_code c.args.f.now.cell) 47 c.append.ensures.ok
    (next_code 46 47 (serve_load_code c.args.f.now.cell) (λ k. serve_store_code k) (first_code c.args.f.now.cell 46 (λ k. serve_load_code k) c.aside-piece.ensures.piece c.in_ok-serve_load.ensures.code) c.in_ok-serve_store.ensures.code)
