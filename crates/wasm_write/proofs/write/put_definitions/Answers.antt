use Rattle.std.proofs.Common.{◌^◌, ◌++◌, ℕ, List, length, map, Ok, Err, subst, ap, arith}
use Rattle.std.proofs.lemmas.List.{length-map}
use Rattle.std.proofs.lemmas.Result.{err_from_is_err_and}
use Rattle.mach_core.specs.Puts.{Outlet, Puts}
use Rattle.mach_core.proofs.Ahead.{puts_both, puts_stopped}
use Rattle.wasm_bin.specs.Parts.{shown, function_of, stretch}
use Rattle.wasm_write.specs.Written.{global_bytes, export_bytes, body_bytes, segment_bytes, vector_section, start_section}
use Rattle.wasm_write.proofs.Items.{section_is, section_said, section_few}
use Rattle.wasm_write.proofs.Lengths.{five_below}
use Rattle.wasm_write.proofs.Present.{global_some, export_some, body_some, segment_some}
use Rattle.wasm_write.proofs.write.put_definitions.Goals as goal

pub returns-in_err-put_vector_section : goal.returns-in_err-put_vector_section
returns-in_err-put_vector_section g c =
    let old : Outlet = record { got = g.O.Sink.got c.args.out.now; faults = g.O.Sink.faults c.args.out.now; held = c.args.put.now } in
    let m = c.args.m.now in
    let globals = vector_section 6 global_bytes m.globals in
    let exports = vector_section 7 export_bytes (map shown m.exports) in
    let start = start_section m.start in
    let bodies = vector_section 10 body_bytes (map function_of m.bodies) in
    let segments = vector_section 11 segment_bytes (map stretch m.segments) in
    let way1 : Outlet = record { got = g.O.Sink.got c.put_vector_section.new.out; faults = g.O.Sink.faults c.put_vector_section.new.out; held = c.put_vector_section.new.put } in
    let r = c.from_residual.result in
    (puts_stopped old way1 globals (exports ++ (start ++ (bodies ++ segments))) c.in_err-put_vector_section.field-0.0 r (err_from_is_err_and r c.from_residual.ensures.1) (subst (λ (row : List ℕ). Puts old way1 row (Err c.in_err-put_vector_section.field-0.0)) (section_is 6 global_bytes c.as_slice.result.now m.globals c.as_slice.ensures) c.in_err-put_vector_section.ensures))

pub returns-in_err-put_vector_section-2 : goal.returns-in_err-put_vector_section-2
returns-in_err-put_vector_section-2 g c =
    let old : Outlet = record { got = g.O.Sink.got c.args.out.now; faults = g.O.Sink.faults c.args.out.now; held = c.args.put.now } in
    let m = c.args.m.now in
    let globals = vector_section 6 global_bytes m.globals in
    let exports = vector_section 7 export_bytes (map shown m.exports) in
    let start = start_section m.start in
    let bodies = vector_section 10 body_bytes (map function_of m.bodies) in
    let segments = vector_section 11 segment_bytes (map stretch m.segments) in
    let way1 : Outlet = record { got = g.O.Sink.got c.put_vector_section.new.out; faults = g.O.Sink.faults c.put_vector_section.new.out; held = c.put_vector_section.new.put } in
    let way2 : Outlet = record { got = g.O.Sink.got c.put_vector_section-2.new.out; faults = g.O.Sink.faults c.put_vector_section-2.new.out; held = c.put_vector_section-2.new.put } in
    let r = c.from_residual-in_err-put_vector_section-2.result in
    (puts_both old way1 way2 globals (exports ++ (start ++ (bodies ++ segments))) tt r (subst (λ (row : List ℕ). Puts old way1 row (Ok tt)) (section_is 6 global_bytes c.as_slice.result.now m.globals c.as_slice.ensures) c.in_ok-put_vector_section.ensures) (puts_stopped way1 way2 exports (start ++ (bodies ++ segments)) c.in_err-put_vector_section-2.field-0.0 r (err_from_is_err_and r c.from_residual-in_err-put_vector_section-2.ensures.1) (subst (λ (row : List ℕ). Puts way1 way2 row (Err c.in_err-put_vector_section-2.field-0.0)) (section_said 7 export_bytes shown c.as_slice-2.result.now m.exports c.as_slice-2.ensures) c.in_err-put_vector_section-2.ensures)))

pub returns-in_err-put_start_section : goal.returns-in_err-put_start_section
returns-in_err-put_start_section g c =
    let old : Outlet = record { got = g.O.Sink.got c.args.out.now; faults = g.O.Sink.faults c.args.out.now; held = c.args.put.now } in
    let m = c.args.m.now in
    let globals = vector_section 6 global_bytes m.globals in
    let exports = vector_section 7 export_bytes (map shown m.exports) in
    let start = start_section m.start in
    let bodies = vector_section 10 body_bytes (map function_of m.bodies) in
    let segments = vector_section 11 segment_bytes (map stretch m.segments) in
    let way1 : Outlet = record { got = g.O.Sink.got c.put_vector_section.new.out; faults = g.O.Sink.faults c.put_vector_section.new.out; held = c.put_vector_section.new.put } in
    let way2 : Outlet = record { got = g.O.Sink.got c.put_vector_section-2.new.out; faults = g.O.Sink.faults c.put_vector_section-2.new.out; held = c.put_vector_section-2.new.put } in
    let way3 : Outlet = record { got = g.O.Sink.got c.put_start_section.new.out; faults = g.O.Sink.faults c.put_start_section.new.out; held = c.put_start_section.new.put } in
    let r = c.from_residual-in_err-put_start_section.result in
    (puts_both old way1 way3 globals (exports ++ (start ++ (bodies ++ segments))) tt r (subst (λ (row : List ℕ). Puts old way1 row (Ok tt)) (section_is 6 global_bytes c.as_slice.result.now m.globals c.as_slice.ensures) c.in_ok-put_vector_section.ensures) (puts_both way1 way2 way3 exports (start ++ (bodies ++ segments)) tt r (subst (λ (row : List ℕ). Puts way1 way2 row (Ok tt)) (section_said 7 export_bytes shown c.as_slice-2.result.now m.exports c.as_slice-2.ensures) c.in_ok-put_vector_section-2.ensures) (puts_stopped way2 way3 start (bodies ++ segments) c.in_err-put_start_section.field-0.0 r (err_from_is_err_and r c.from_residual-in_err-put_start_section.ensures.1) c.in_err-put_start_section.ensures)))

pub returns-in_err-put_vector_section-3 : goal.returns-in_err-put_vector_section-3
returns-in_err-put_vector_section-3 g c =
    let old : Outlet = record { got = g.O.Sink.got c.args.out.now; faults = g.O.Sink.faults c.args.out.now; held = c.args.put.now } in
    let m = c.args.m.now in
    let globals = vector_section 6 global_bytes m.globals in
    let exports = vector_section 7 export_bytes (map shown m.exports) in
    let start = start_section m.start in
    let bodies = vector_section 10 body_bytes (map function_of m.bodies) in
    let segments = vector_section 11 segment_bytes (map stretch m.segments) in
    let way1 : Outlet = record { got = g.O.Sink.got c.put_vector_section.new.out; faults = g.O.Sink.faults c.put_vector_section.new.out; held = c.put_vector_section.new.put } in
    let way2 : Outlet = record { got = g.O.Sink.got c.put_vector_section-2.new.out; faults = g.O.Sink.faults c.put_vector_section-2.new.out; held = c.put_vector_section-2.new.put } in
    let way3 : Outlet = record { got = g.O.Sink.got c.put_start_section.new.out; faults = g.O.Sink.faults c.put_start_section.new.out; held = c.put_start_section.new.put } in
    let way4 : Outlet = record { got = g.O.Sink.got c.put_vector_section-3.new.out; faults = g.O.Sink.faults c.put_vector_section-3.new.out; held = c.put_vector_section-3.new.put } in
    let r = c.from_residual-in_err-put_vector_section-3.result in
    (puts_both old way1 way4 globals (exports ++ (start ++ (bodies ++ segments))) tt r (subst (λ (row : List ℕ). Puts old way1 row (Ok tt)) (section_is 6 global_bytes c.as_slice.result.now m.globals c.as_slice.ensures) c.in_ok-put_vector_section.ensures) (puts_both way1 way2 way4 exports (start ++ (bodies ++ segments)) tt r (subst (λ (row : List ℕ). Puts way1 way2 row (Ok tt)) (section_said 7 export_bytes shown c.as_slice-2.result.now m.exports c.as_slice-2.ensures) c.in_ok-put_vector_section-2.ensures) (puts_both way2 way3 way4 start (bodies ++ segments) tt r c.in_ok-put_start_section.ensures (puts_stopped way3 way4 bodies segments c.in_err-put_vector_section-3.field-0.0 r (err_from_is_err_and r c.from_residual-in_err-put_vector_section-3.ensures.1) (subst (λ (row : List ℕ). Puts way3 way4 row (Err c.in_err-put_vector_section-3.field-0.0)) (section_said 10 body_bytes function_of c.as_slice-3.result.now m.bodies c.as_slice-3.ensures) c.in_err-put_vector_section-3.ensures)))))

pub returns : goal.returns
returns g c =
    let old : Outlet = record { got = g.O.Sink.got c.args.out.now; faults = g.O.Sink.faults c.args.out.now; held = c.args.put.now } in
    let m = c.args.m.now in
    let globals = vector_section 6 global_bytes m.globals in
    let exports = vector_section 7 export_bytes (map shown m.exports) in
    let start = start_section m.start in
    let bodies = vector_section 10 body_bytes (map function_of m.bodies) in
    let segments = vector_section 11 segment_bytes (map stretch m.segments) in
    let way1 : Outlet = record { got = g.O.Sink.got c.put_vector_section.new.out; faults = g.O.Sink.faults c.put_vector_section.new.out; held = c.put_vector_section.new.put } in
    let way2 : Outlet = record { got = g.O.Sink.got c.put_vector_section-2.new.out; faults = g.O.Sink.faults c.put_vector_section-2.new.out; held = c.put_vector_section-2.new.put } in
    let way3 : Outlet = record { got = g.O.Sink.got c.put_start_section.new.out; faults = g.O.Sink.faults c.put_start_section.new.out; held = c.put_start_section.new.put } in
    let way4 : Outlet = record { got = g.O.Sink.got c.put_vector_section-3.new.out; faults = g.O.Sink.faults c.put_vector_section-3.new.out; held = c.put_vector_section-3.new.put } in
    let way5 : Outlet = record { got = g.O.Sink.got c.put_vector_section-4.new.out; faults = g.O.Sink.faults c.put_vector_section-4.new.out; held = c.put_vector_section-4.new.put } in
    (puts_both old way1 way5 globals (exports ++ (start ++ (bodies ++ segments))) tt c.put_vector_section-4.result (subst (λ (row : List ℕ). Puts old way1 row (Ok tt)) (section_is 6 global_bytes c.as_slice.result.now m.globals c.as_slice.ensures) c.in_ok-put_vector_section.ensures) (puts_both way1 way2 way5 exports (start ++ (bodies ++ segments)) tt c.put_vector_section-4.result (subst (λ (row : List ℕ). Puts way1 way2 row (Ok tt)) (section_said 7 export_bytes shown c.as_slice-2.result.now m.exports c.as_slice-2.ensures) c.in_ok-put_vector_section-2.ensures) (puts_both way2 way3 way5 start (bodies ++ segments) tt c.put_vector_section-4.result c.in_ok-put_start_section.ensures (puts_both way3 way4 way5 bodies segments tt c.put_vector_section-4.result (subst (λ (row : List ℕ). Puts way3 way4 row (Ok tt)) (section_said 10 body_bytes function_of c.as_slice-3.result.now m.bodies c.as_slice-3.ensures) c.in_ok-put_vector_section-3.ensures) (subst (λ (row : List ℕ). Puts way4 way5 row c.put_vector_section-4.result) (section_said 11 segment_bytes stretch c.as_slice-4.result.now m.segments c.as_slice-4.ensures) c.put_vector_section-4.ensures)))))

pub put_vector_section-requires : goal.put_vector_section-requires
put_vector_section-requires g c =
    let m = c.args.m.now in
    let globals = vector_section 6 global_bytes m.globals in
    let exports = vector_section 7 export_bytes (map shown m.exports) in
    let start = start_section m.start in
    let bodies = vector_section 10 body_bytes (map function_of m.bodies) in
    let segments = vector_section 11 segment_bytes (map stretch m.segments) in
    let sizes = five_below globals exports start bodies segments (2 ^ 32) c.requires in
    let some = section_few 6 global_bytes global_some m.globals in
    record { count = omega (arith, some, sizes.0, ap length c.as_slice.ensures); size = omega (arith, sizes.0, ap length (section_is 6 global_bytes c.as_slice.result.now m.globals c.as_slice.ensures)) }

pub put_vector_section-requires-2 : goal.put_vector_section-requires-2
put_vector_section-requires-2 g c =
    let m = c.args.m.now in
    let globals = vector_section 6 global_bytes m.globals in
    let exports = vector_section 7 export_bytes (map shown m.exports) in
    let start = start_section m.start in
    let bodies = vector_section 10 body_bytes (map function_of m.bodies) in
    let segments = vector_section 11 segment_bytes (map stretch m.segments) in
    let sizes = five_below globals exports start bodies segments (2 ^ 32) c.requires in
    let some = section_few 7 export_bytes export_some (map shown m.exports) in
    record { count = omega (arith, some, sizes.1, ap length c.as_slice-2.ensures, length-map m.exports shown); size = omega (arith, sizes.1, ap length (section_said 7 export_bytes shown c.as_slice-2.result.now m.exports c.as_slice-2.ensures)) }

pub put_vector_section-requires-3 : goal.put_vector_section-requires-3
put_vector_section-requires-3 g c =
    let m = c.args.m.now in
    let globals = vector_section 6 global_bytes m.globals in
    let exports = vector_section 7 export_bytes (map shown m.exports) in
    let start = start_section m.start in
    let bodies = vector_section 10 body_bytes (map function_of m.bodies) in
    let segments = vector_section 11 segment_bytes (map stretch m.segments) in
    let sizes = five_below globals exports start bodies segments (2 ^ 32) c.requires in
    let some = section_few 10 body_bytes body_some (map function_of m.bodies) in
    record { count = omega (arith, some, sizes.3, ap length c.as_slice-3.ensures, length-map m.bodies function_of); size = omega (arith, sizes.3, ap length (section_said 10 body_bytes function_of c.as_slice-3.result.now m.bodies c.as_slice-3.ensures)) }

pub put_vector_section-requires-4 : goal.put_vector_section-requires-4
put_vector_section-requires-4 g c =
    let m = c.args.m.now in
    let globals = vector_section 6 global_bytes m.globals in
    let exports = vector_section 7 export_bytes (map shown m.exports) in
    let start = start_section m.start in
    let bodies = vector_section 10 body_bytes (map function_of m.bodies) in
    let segments = vector_section 11 segment_bytes (map stretch m.segments) in
    let sizes = five_below globals exports start bodies segments (2 ^ 32) c.requires in
    let some = section_few 11 segment_bytes segment_some (map stretch m.segments) in
    record { count = omega (arith, some, sizes.4, ap length c.as_slice-4.ensures, length-map m.segments stretch); size = omega (arith, sizes.4, ap length (section_said 11 segment_bytes stretch c.as_slice-4.result.now m.segments c.as_slice-4.ensures)) }
