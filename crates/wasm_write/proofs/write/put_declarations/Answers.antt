use Rattle.std.proofs.Common.{◌^◌, ◌++◌, ℕ, List, length, map, Ok, Err, subst, ap, arith}
use Rattle.std.proofs.lemmas.List.{length-map}
use Rattle.std.proofs.lemmas.Result.{err_from_is_err_and}
use Rattle.mach_core.specs.Puts.{Outlet, Puts}
use Rattle.mach_core.proofs.Ahead.{puts_both, puts_stopped}
use Rattle.wasm_bin.specs.Parts.{foreign}
use Rattle.wasm_write.specs.Leb.{number_bytes}
use Rattle.wasm_write.specs.Written.{func_type_bytes, import_bytes, vector_section, memory_section}
use Rattle.wasm_write.proofs.Items.{section_is, section_said, section_few}
use Rattle.wasm_write.proofs.Lengths.{four_below}
use Rattle.wasm_write.proofs.Present.{func_type_some, import_some}
use Rattle.wasm_write.proofs.Digits.{number_some}
use Rattle.wasm_write.proofs.write.put_declarations.Goals as goal

pub returns-in_err-put_vector_section : goal.returns-in_err-put_vector_section
returns-in_err-put_vector_section g c =
    let old : Outlet = record { got = g.O.Sink.got c.args.out.now; faults = g.O.Sink.faults c.args.out.now; held = c.args.put.now } in
    let m = c.args.m.now in
    let types = vector_section 1 func_type_bytes m.types in
    let imports = vector_section 2 import_bytes (map foreign m.imports) in
    let funcs = vector_section 3 number_bytes m.funcs in
    let memory = memory_section m.memory in
    let way1 : Outlet = record { got = g.O.Sink.got c.put_vector_section.new.out; faults = g.O.Sink.faults c.put_vector_section.new.out; held = c.put_vector_section.new.put } in
    let r = c.from_residual.result in
    (puts_stopped old way1 types (imports ++ (funcs ++ memory)) c.in_err-put_vector_section.field-0.0 r (err_from_is_err_and r c.from_residual.ensures.1) (subst (λ (row : List ℕ). Puts old way1 row (Err c.in_err-put_vector_section.field-0.0)) (section_is 1 func_type_bytes c.as_slice.result.now m.types c.as_slice.ensures) c.in_err-put_vector_section.ensures))

pub returns-in_err-put_vector_section-2 : goal.returns-in_err-put_vector_section-2
returns-in_err-put_vector_section-2 g c =
    let old : Outlet = record { got = g.O.Sink.got c.args.out.now; faults = g.O.Sink.faults c.args.out.now; held = c.args.put.now } in
    let m = c.args.m.now in
    let types = vector_section 1 func_type_bytes m.types in
    let imports = vector_section 2 import_bytes (map foreign m.imports) in
    let funcs = vector_section 3 number_bytes m.funcs in
    let memory = memory_section m.memory in
    let way1 : Outlet = record { got = g.O.Sink.got c.put_vector_section.new.out; faults = g.O.Sink.faults c.put_vector_section.new.out; held = c.put_vector_section.new.put } in
    let way2 : Outlet = record { got = g.O.Sink.got c.put_vector_section-2.new.out; faults = g.O.Sink.faults c.put_vector_section-2.new.out; held = c.put_vector_section-2.new.put } in
    let r = c.from_residual-in_err-put_vector_section-2.result in
    (puts_both old way1 way2 types (imports ++ (funcs ++ memory)) tt r (subst (λ (row : List ℕ). Puts old way1 row (Ok tt)) (section_is 1 func_type_bytes c.as_slice.result.now m.types c.as_slice.ensures) c.in_ok-put_vector_section.ensures) (puts_stopped way1 way2 imports (funcs ++ memory) c.in_err-put_vector_section-2.field-0.0 r (err_from_is_err_and r c.from_residual-in_err-put_vector_section-2.ensures.1) (subst (λ (row : List ℕ). Puts way1 way2 row (Err c.in_err-put_vector_section-2.field-0.0)) (section_said 2 import_bytes foreign c.as_slice-2.result.now m.imports c.as_slice-2.ensures) c.in_err-put_vector_section-2.ensures)))

pub returns-in_err-put_vector_section-3 : goal.returns-in_err-put_vector_section-3
returns-in_err-put_vector_section-3 g c =
    let old : Outlet = record { got = g.O.Sink.got c.args.out.now; faults = g.O.Sink.faults c.args.out.now; held = c.args.put.now } in
    let m = c.args.m.now in
    let types = vector_section 1 func_type_bytes m.types in
    let imports = vector_section 2 import_bytes (map foreign m.imports) in
    let funcs = vector_section 3 number_bytes m.funcs in
    let memory = memory_section m.memory in
    let way1 : Outlet = record { got = g.O.Sink.got c.put_vector_section.new.out; faults = g.O.Sink.faults c.put_vector_section.new.out; held = c.put_vector_section.new.put } in
    let way2 : Outlet = record { got = g.O.Sink.got c.put_vector_section-2.new.out; faults = g.O.Sink.faults c.put_vector_section-2.new.out; held = c.put_vector_section-2.new.put } in
    let way3 : Outlet = record { got = g.O.Sink.got c.put_vector_section-3.new.out; faults = g.O.Sink.faults c.put_vector_section-3.new.out; held = c.put_vector_section-3.new.put } in
    let r = c.from_residual-in_err-put_vector_section-3.result in
    (puts_both old way1 way3 types (imports ++ (funcs ++ memory)) tt r (subst (λ (row : List ℕ). Puts old way1 row (Ok tt)) (section_is 1 func_type_bytes c.as_slice.result.now m.types c.as_slice.ensures) c.in_ok-put_vector_section.ensures) (puts_both way1 way2 way3 imports (funcs ++ memory) tt r (subst (λ (row : List ℕ). Puts way1 way2 row (Ok tt)) (section_said 2 import_bytes foreign c.as_slice-2.result.now m.imports c.as_slice-2.ensures) c.in_ok-put_vector_section-2.ensures) (puts_stopped way2 way3 funcs memory c.in_err-put_vector_section-3.field-0.0 r (err_from_is_err_and r c.from_residual-in_err-put_vector_section-3.ensures.1) (subst (λ (row : List ℕ). Puts way2 way3 row (Err c.in_err-put_vector_section-3.field-0.0)) (section_is 3 number_bytes c.as_slice-3.result.now m.funcs c.as_slice-3.ensures) c.in_err-put_vector_section-3.ensures))))

pub returns : goal.returns
returns g c =
    let old : Outlet = record { got = g.O.Sink.got c.args.out.now; faults = g.O.Sink.faults c.args.out.now; held = c.args.put.now } in
    let m = c.args.m.now in
    let types = vector_section 1 func_type_bytes m.types in
    let imports = vector_section 2 import_bytes (map foreign m.imports) in
    let funcs = vector_section 3 number_bytes m.funcs in
    let memory = memory_section m.memory in
    let way1 : Outlet = record { got = g.O.Sink.got c.put_vector_section.new.out; faults = g.O.Sink.faults c.put_vector_section.new.out; held = c.put_vector_section.new.put } in
    let way2 : Outlet = record { got = g.O.Sink.got c.put_vector_section-2.new.out; faults = g.O.Sink.faults c.put_vector_section-2.new.out; held = c.put_vector_section-2.new.put } in
    let way3 : Outlet = record { got = g.O.Sink.got c.put_vector_section-3.new.out; faults = g.O.Sink.faults c.put_vector_section-3.new.out; held = c.put_vector_section-3.new.put } in
    let way4 : Outlet = record { got = g.O.Sink.got c.put_memory_section.new.out; faults = g.O.Sink.faults c.put_memory_section.new.out; held = c.put_memory_section.new.put } in
    (puts_both old way1 way4 types (imports ++ (funcs ++ memory)) tt c.put_memory_section.result (subst (λ (row : List ℕ). Puts old way1 row (Ok tt)) (section_is 1 func_type_bytes c.as_slice.result.now m.types c.as_slice.ensures) c.in_ok-put_vector_section.ensures) (puts_both way1 way2 way4 imports (funcs ++ memory) tt c.put_memory_section.result (subst (λ (row : List ℕ). Puts way1 way2 row (Ok tt)) (section_said 2 import_bytes foreign c.as_slice-2.result.now m.imports c.as_slice-2.ensures) c.in_ok-put_vector_section-2.ensures) (puts_both way2 way3 way4 funcs memory tt c.put_memory_section.result (subst (λ (row : List ℕ). Puts way2 way3 row (Ok tt)) (section_is 3 number_bytes c.as_slice-3.result.now m.funcs c.as_slice-3.ensures) c.in_ok-put_vector_section-3.ensures) c.put_memory_section.ensures)))

pub put_vector_section-requires : goal.put_vector_section-requires
put_vector_section-requires g c =
    let m = c.args.m.now in
    let types = vector_section 1 func_type_bytes m.types in
    let imports = vector_section 2 import_bytes (map foreign m.imports) in
    let funcs = vector_section 3 number_bytes m.funcs in
    let memory = memory_section m.memory in
    let sizes = four_below types imports funcs memory (2 ^ 32) c.requires in
    let some = section_few 1 func_type_bytes func_type_some m.types in
    record { count = omega (arith, some, sizes.0, ap length c.as_slice.ensures); size = omega (arith, sizes.0, ap length (section_is 1 func_type_bytes c.as_slice.result.now m.types c.as_slice.ensures)) }

pub put_vector_section-requires-2 : goal.put_vector_section-requires-2
put_vector_section-requires-2 g c =
    let m = c.args.m.now in
    let types = vector_section 1 func_type_bytes m.types in
    let imports = vector_section 2 import_bytes (map foreign m.imports) in
    let funcs = vector_section 3 number_bytes m.funcs in
    let memory = memory_section m.memory in
    let sizes = four_below types imports funcs memory (2 ^ 32) c.requires in
    let some = section_few 2 import_bytes import_some (map foreign m.imports) in
    record { count = omega (arith, some, sizes.1, ap length c.as_slice-2.ensures, length-map m.imports foreign); size = omega (arith, sizes.1, ap length (section_said 2 import_bytes foreign c.as_slice-2.result.now m.imports c.as_slice-2.ensures)) }

pub put_vector_section-requires-3 : goal.put_vector_section-requires-3
put_vector_section-requires-3 g c =
    let m = c.args.m.now in
    let types = vector_section 1 func_type_bytes m.types in
    let imports = vector_section 2 import_bytes (map foreign m.imports) in
    let funcs = vector_section 3 number_bytes m.funcs in
    let memory = memory_section m.memory in
    let sizes = four_below types imports funcs memory (2 ^ 32) c.requires in
    let some = section_few 3 number_bytes number_some m.funcs in
    record { count = omega (arith, some, sizes.2, ap length c.as_slice-3.ensures); size = omega (arith, sizes.2, ap length (section_is 3 number_bytes c.as_slice-3.result.now m.funcs c.as_slice-3.ensures)) }
