use Rattle.std.proofs.Common.{◌≡◌, drop}
use Rattle.std.specs.Prelude.{map}
use Rattle.wasm_bytes.specs.Piece.{piece}
use Rattle.wasm_bin.specs.Parts.{function_of}
use Rattle.wasm_bin.specs.Section.{params_of, each_body_at}
use Rattle.wasm_bytes.proofs.Steps.{with_front}
use Rattle.wasm_bin.proofs.section.each_body.Given as goal

abbrev pub invariant-loop-kind : goal.invariant-loop-kind
invariant-loop-kind l = with_front (map function_of l.list.items) (each_body_at (map (params_of l.types) (drop l.kind-index l.funcs)) (piece l.rest)) ≡ each_body_at (map (params_of l.types) l.funcs) (piece l.c)
