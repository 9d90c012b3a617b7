use Rattle.std.specs.Prelude.{map}
use Rattle.std.proofs.lemmas.List.{map_push}
use Rattle.std.proofs.lemmas.Result.{err_from_is_err_and}
use Rattle.wasm_bytes.specs.Piece.{piece}
use Rattle.wasm_bin.specs.Parts.{function_of}
use Rattle.wasm_bin.specs.Section.{params_of, each_body_at}
use Rattle.wasm_bin.proofs.SectionLoop.{bodies_start, bodies_more, bodies_end, bodies_done}
use Rattle.wasm_bin.proofs.section.each_body.Goals as goal

pub loop-kind-init : goal.loop-kind-init
loop-kind-init c = rw c.new-list.ensures.items (bodies_start (map (params_of c.args.types.now) c.args.funcs.now) (piece c.args.c))

pub loop-kind-preserved : goal.loop-kind-preserved
loop-kind-preserved c = rw (c.in_ok-push.ensures.items, map_push function_of c.loop-kind.list.items c.in_ok-entry.entry) (bodies_more (map function_of c.loop-kind.list.items) c.args.types.now c.args.funcs.now c.loop-kind.kind-index c.params.result (piece c.loop-kind.rest) (function_of c.in_ok-entry.entry) (piece c.in_ok-entry.after) (each_body_at (map (params_of c.args.types.now) c.args.funcs.now) (piece c.args.c)) c.loop-kind-test.true c.params.ensures c.in_ok-entry.ensures c.loop-kind.invariant)

pub returns-in_err-entry : goal.returns-in_err-entry
returns-in_err-entry c =
    let p = err_from_is_err_and c.from_residual.result c.from_residual.ensures.1 in
    rw (p.1, p.2) (bodies_end c.in_err-entry.field-0.0 (map function_of c.loop-kind.list.items) c.args.types.now c.args.funcs.now c.loop-kind.kind-index c.params.result (piece c.loop-kind.rest) (each_body_at (map (params_of c.args.types.now) c.args.funcs.now) (piece c.args.c)) c.loop-kind-test.true c.params.ensures c.in_err-entry.ensures c.loop-kind.invariant)

pub returns : goal.returns
returns c = bodies_done (map function_of c.loop-kind.list.items) c.args.types.now c.args.funcs.now c.loop-kind.kind-index (piece c.loop-kind.rest) (each_body_at (map (params_of c.args.types.now) c.args.funcs.now) (piece c.args.c)) c.loop-kind-test.false c.loop-kind.invariant
