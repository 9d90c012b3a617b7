use Rattle.std.proofs.Common.{◌++◌, ℕ, List, length, Ok, Err, subst, sym, append_assoc, arith}
use Rattle.std.proofs.lemmas.Result.{err_from_is_err_and}
use Rattle.std.specs.List.{flat_map}
use Rattle.mach_core.specs.Puts.{Outlet, Puts}
use Rattle.mach_core.proofs.Ahead.{puts_both, puts_stopped}
use Rattle.wasm_write.specs.Leb.{number_bytes}
use Rattle.wasm_write.proofs.Pieces.{one_is}
use Rattle.wasm_write.proofs.Items.{labels_few}
use Rattle.wasm_write.proofs.code.put_table.Goals as goal

pub returns-in_err-pieces : goal.returns-in_err-pieces
returns-in_err-pieces g c =
    let old : Outlet = record { got = g.O.Sink.got c.args.out.now; faults = g.O.Sink.faults c.args.out.now; held = c.args.put.now } in
    let labels = c.args.labels.now in
    let count = number_bytes (length labels) in
    let rows = flat_map number_bytes labels in
    let last = number_bytes c.args.label in
    let way1 : Outlet = record { got = g.O.Sink.got c.pieces.new.out; faults = g.O.Sink.faults c.pieces.new.out; held = c.pieces.new.self } in
    let r = c.from_residual.result in
    subst (λ (row : List ℕ). Puts old way1 row r) (sym (append_assoc count rows last)) (puts_stopped old way1 count (rows ++ last) c.in_err-pieces.field-0.0 r (err_from_is_err_and r c.from_residual.ensures.1) (subst (λ (row : List ℕ). Puts old way1 row (Err c.in_err-pieces.field-0.0)) (one_is c.as_slice.result.now c.number.result.items count c.as_slice.ensures.value c.number.ensures) c.in_err-pieces.ensures))

pub returns-in_err-put_items : goal.returns-in_err-put_items
returns-in_err-put_items g c =
    let old : Outlet = record { got = g.O.Sink.got c.args.out.now; faults = g.O.Sink.faults c.args.out.now; held = c.args.put.now } in
    let labels = c.args.labels.now in
    let count = number_bytes (length labels) in
    let rows = flat_map number_bytes labels in
    let last = number_bytes c.args.label in
    let way1 : Outlet = record { got = g.O.Sink.got c.pieces.new.out; faults = g.O.Sink.faults c.pieces.new.out; held = c.pieces.new.self } in
    let way2 : Outlet = record { got = g.O.Sink.got c.put_items.new.out; faults = g.O.Sink.faults c.put_items.new.out; held = c.put_items.new.put } in
    let r = c.from_residual-in_err-put_items.result in
    subst (λ (row : List ℕ). Puts old way2 row r) (sym (append_assoc count rows last)) (puts_both old way1 way2 count (rows ++ last) tt r (subst (λ (row : List ℕ). Puts old way1 row (Ok tt)) (one_is c.as_slice.result.now c.number.result.items count c.as_slice.ensures.value c.number.ensures) c.in_ok-pieces.ensures) (puts_stopped way1 way2 rows last c.in_err-put_items.field-0.0 r (err_from_is_err_and r c.from_residual-in_err-put_items.ensures.1) c.in_err-put_items.ensures))

pub returns : goal.returns
returns g c =
    let old : Outlet = record { got = g.O.Sink.got c.args.out.now; faults = g.O.Sink.faults c.args.out.now; held = c.args.put.now } in
    let labels = c.args.labels.now in
    let count = number_bytes (length labels) in
    let rows = flat_map number_bytes labels in
    let last = number_bytes c.args.label in
    let way1 : Outlet = record { got = g.O.Sink.got c.pieces.new.out; faults = g.O.Sink.faults c.pieces.new.out; held = c.pieces.new.self } in
    let way2 : Outlet = record { got = g.O.Sink.got c.put_items.new.out; faults = g.O.Sink.faults c.put_items.new.out; held = c.put_items.new.put } in
    let way3 : Outlet = record { got = g.O.Sink.got c.put.new.out; faults = g.O.Sink.faults c.put.new.out; held = c.put.new.put } in
    subst (λ (row : List ℕ). Puts old way3 row c.put.result) (sym (append_assoc count rows last)) (puts_both old way1 way3 count (rows ++ last) tt c.put.result (subst (λ (row : List ℕ). Puts old way1 row (Ok tt)) (one_is c.as_slice.result.now c.number.result.items count c.as_slice.ensures.value c.number.ensures) c.in_ok-pieces.ensures) (puts_both way1 way2 way3 rows last tt c.put.result c.in_ok-put_items.ensures c.put.ensures))

pub overflow_cast-count : goal.overflow_cast-count
overflow_cast-count g c = omega (arith, labels_few c.args.labels.now c.args.label, c.requires)
