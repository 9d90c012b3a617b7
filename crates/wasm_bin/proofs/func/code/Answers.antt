use Rattle.std.proofs.Common.{◌≡◌, ◌∙◌, sym, [], length, Ok, true, false}
use Rattle.std.specs.Prelude.{map}
use Rattle.std.proofs.lemmas.List.{map_push}
use Rattle.std.proofs.lemmas.Result.{err_from_is_err_and}
use Rattle.wasm_bytes.specs.Piece.{piece, place}
use Rattle.wasm_bin.specs.Opcode.{coded}
use Rattle.wasm_bin.specs.Body.{code_at, opcode_at, operands_at, is_last}
use Rattle.wasm_bin.proofs.CodeLoop.{code_start, code_more, code_last, code_end, code_cut, code_over}
use Rattle.wasm_bin.proofs.func.code.Goals as goal

pub loop-init : goal.loop-init
loop-init c = rw (c.new-around.ensures.items, c.new-code.ensures.items) (code_start (length c.args.c.left.now) (piece c.args.c))

pub loop-preserved : goal.loop-preserved
loop-preserved c =
    let h : opcode_at c.loop.around.items (piece c.loop.rest) ≡ Ok (c.in_ok-opcode.opcode, piece c.in_ok-opcode.behind) = rw c.deref.ensures.value at c.in_ok-opcode.ensures in
    let g : operands_at (place (piece c.loop.rest)) c.in_ok-opcode.opcode (piece c.in_ok-opcode.behind) ≡ Ok (coded c.in_ok-instr.instr, piece c.in_ok-instr.after) = rw c.offset.ensures at c.in_ok-instr.ensures in
    let on : is_last c.loop.around.items c.in_ok-opcode.opcode ≡ false = rw c.deref-in-loop.ensures.value at (sym c.ends_body-last.ensures ∙ c.if-last.false) in
    rw (c.in_ok-push.ensures.items, map_push coded c.loop.code.items c.in_ok-instr.instr, c.in_ok-nest.ensures)
    (code_more (map coded c.loop.code.items) (length c.args.c.left.now) c.loop.counter c.loop.around.items (piece c.loop.rest) c.in_ok-opcode.opcode (piece c.in_ok-opcode.behind) (coded c.in_ok-instr.instr) (piece c.in_ok-instr.after) (code_at (length c.args.c.left.now) [] (piece c.args.c)) c.loop-test.true h g on c.loop.invariant)

pub returns-in_err-opcode : goal.returns-in_err-opcode
returns-in_err-opcode c =
    let p = err_from_is_err_and c.from_residual.result c.from_residual.ensures.1 in
    rw (p.1, p.2) (code_end c.in_err-opcode.field-0.0 (map coded c.loop.code.items) (length c.args.c.left.now) c.loop.counter c.loop.around.items (piece c.loop.rest) (code_at (length c.args.c.left.now) [] (piece c.args.c)) c.loop-test.true (rw c.deref.ensures.value at c.in_err-opcode.ensures) c.loop.invariant)

pub returns-in_err-instr : goal.returns-in_err-instr
returns-in_err-instr c =
    let p = err_from_is_err_and c.from_residual-in_err-instr.result c.from_residual-in_err-instr.ensures.1 in
    let h : opcode_at c.loop.around.items (piece c.loop.rest) ≡ Ok (c.in_ok-opcode.opcode, piece c.in_ok-opcode.behind) = rw c.deref.ensures.value at c.in_ok-opcode.ensures in
    rw (p.1, p.2) (code_cut c.in_err-instr.field-0.0 (map coded c.loop.code.items) (length c.args.c.left.now) c.loop.counter c.loop.around.items (piece c.loop.rest) c.in_ok-opcode.opcode (piece c.in_ok-opcode.behind) (code_at (length c.args.c.left.now) [] (piece c.args.c)) c.loop-test.true h (rw c.offset.ensures at c.in_err-instr.ensures) c.loop.invariant)

pub returns-then-last : goal.returns-then-last
returns-then-last c =
    let h : opcode_at c.loop.around.items (piece c.loop.rest) ≡ Ok (c.in_ok-opcode.opcode, piece c.in_ok-opcode.behind) = rw c.deref.ensures.value at c.in_ok-opcode.ensures in
    let g : operands_at (place (piece c.loop.rest)) c.in_ok-opcode.opcode (piece c.in_ok-opcode.behind) ≡ Ok (coded c.in_ok-instr.instr, piece c.in_ok-instr.after) = rw c.offset.ensures at c.in_ok-instr.ensures in
    let on : is_last c.loop.around.items c.in_ok-opcode.opcode ≡ true = rw c.deref-in-loop.ensures.value at (sym c.ends_body-last.ensures ∙ c.if-last.true) in
    rw (c.in_ok-push.ensures.items, map_push coded c.loop.code.items c.in_ok-instr.instr)
    (code_last (map coded c.loop.code.items) (length c.args.c.left.now) c.loop.counter c.loop.around.items (piece c.loop.rest) c.in_ok-opcode.opcode (piece c.in_ok-opcode.behind) (coded c.in_ok-instr.instr) (piece c.in_ok-instr.after) (code_at (length c.args.c.left.now) [] (piece c.args.c)) c.loop-test.true h g on c.loop.invariant)

pub returns : goal.returns
returns c = rw c.offset-2.ensures (code_over (map coded c.loop.code.items) (length c.args.c.left.now) c.loop.counter c.loop.around.items (piece c.loop.rest) (code_at (length c.args.c.left.now) [] (piece c.args.c)) c.loop-test.false c.loop.invariant)
