-- The ways of control, step by step.
use Rattle.std.proofs.Common.{◌≡◌, ◌≢◌, ℕ, suc, ◌%◌, ◌^◌, Bool, true, false, cond, nat_eq, List, [], ◌∷◌, length, drop, Some, refl, ap, ◌∙◌, arith}
use Rattle.std.specs.Prelude.{slice_get, slice_index, slice_index_or}
use Rattle.std.specs.Str.{bytes_eq}
use Rattle.std.proofs.lemmas.Bool.Decides.{nat_tests}
use Rattle.mach_core.specs.Rule.{input_at}
use Rattle.mach_core.specs.declared.machine.Status.TheVariants.{Ended}
use Rattle.mach_core.proofs.Lists.{drop_none}
use Rattle.wasm_bin.specs.declared.module.Import.{Import}
use Rattle.wasm_bin.specs.declared.module.Instr.{Instr}
use Rattle.wasm_bin.specs.declared.module.Instr.TheVariants.{Block, Loop, End, Br, BrIf, BrTable, Return, Call}
use Rattle.wasm_bin.specs.declared.module.Module.{Module}
use Rattle.wasm_rule.specs.declared.act.Act.{Act}
use Rattle.wasm_rule.specs.declared.act.Act.TheVariants as act
use Rattle.wasm_rule.specs.Code.{past_end}
use Rattle.wasm_rule.specs.Config.{Label}
use Rattle.wasm_rule.specs.Step.{getchar_name, act_of}
use Rattle.wasm_rule.specs.Rule.{after, takes_byte, bytes_written, wasm_rule}
use Rattle.wasm_build.specs.Straight.{Stage}
use Rattle.wasm_build.specs.Lead.{Around, spot, call_at, config_at, Leads, Ends, Takes, Writes}
use Rattle.wasm_build.specs.Control.{with_values, branched, BlocksOpenAndClose, BranchesGoOut, MainEnds, HostIsCalled}
use Rattle.wasm_build.proofs.Steps.{one, taking, writing}

-- what the machine does next
abbrev act_there : Module → Around → Stage → Instr → Act
act_there m around s i = act_of m (record { calls = suc (length around.callers); locals = s.locals; globals = s.globals; memory = s.memory; values = s.values }) i

-- values and code that are left of those there were
left_are : (around : Around) (s : Stage) (values : List ℕ) (labels : List Label) (code : List Instr) → config_at around (spot (with_values s (drop 0 values)) labels (drop 0 code)) ≡ config_at around (spot (with_values s values) labels code)
left_are around s values labels code =
    ap (λ vs. config_at around (spot (with_values s vs) labels (drop 0 code))) (drop_none values) ∙ ap (λ c. config_at around (spot (with_values s values) labels c)) (drop_none code)

block : (m : Module) (s : Stage) (labels : List Label) (gives : Bool) (code : List Instr) →
    Leads m (spot s labels (Block gives ∷ code)) 1 (spot s (record { takes = gives; beneath = length s.values; next = past_end 0 code } ∷ labels) code)
block m s labels gives code = record {
  silent = λ around.
      let begun = λ (values : List ℕ) (rest : List Instr). config_at around (spot (with_values s values) (record { takes = gives; beneath = length values; next = past_end 0 rest } ∷ labels) rest) in
      one (wasm_rule m) (config_at around (spot s labels (Block gives ∷ code))) (begun s.values code) refl refl refl
      (ap (λ values. begun values (drop 0 code)) (drop_none s.values) ∙ ap (λ rest. begun s.values rest) (drop_none code));
}

loop : (m : Module) (s : Stage) (labels : List Label) (gives : Bool) (code : List Instr) →
    Leads m (spot s labels (Loop gives ∷ code)) 1 (spot s (record { takes = false; beneath = length s.values; next = Loop gives ∷ code } ∷ labels) code)
loop m s labels gives code = record {
  silent = λ around.
      let begun = λ (rest : List Instr). config_at around (spot s (record { takes = false; beneath = length s.values; next = Loop gives ∷ code } ∷ labels) rest) in
      one (wasm_rule m) (config_at around (spot s labels (Loop gives ∷ code))) (begun code) refl refl refl (ap begun (drop_none code));
}

close : (m : Module) (s : Stage) (label : Label) (labels : List Label) (code : List Instr) → Leads m (spot s (label ∷ labels) (End ∷ code)) 1 (spot s labels code)
close m s label labels code = record {
  silent = λ around.
      one (wasm_rule m) (config_at around (spot s (label ∷ labels) (End ∷ code))) (config_at around (spot s labels code)) refl refl refl
      (ap (λ rest. config_at around (spot s labels rest)) (drop_none code));
}

pub blocks : (m : Module) → BlocksOpenAndClose m
blocks m = record { block = block m; loop = loop m; close = close m }

-- a branch with these values to the first of these labels
gone : (m : Module) (around : Around) (s : Stage) (values : List ℕ) (labels outer : List Label) (label : Label) (i : Instr) (code : List Instr) (count depth : ℕ) → drop count s.values ≡ values → drop depth labels ≡ label ∷ outer
    → after m (config_at around (spot s labels (i ∷ code))) (call_at around (spot s labels (i ∷ code))) around.callers (act.Branch count depth) 0 ≡ config_at around (spot (branched label (with_values s values)) outer label.next)
gone m around s values labels outer label i code count depth e f = rw (e, f) refl

always : (m : Module) (s : Stage) (labels outer : List Label) (label : Label) (depth : ℕ) (code : List Instr) → drop depth labels ≡ label ∷ outer →
    Leads m (spot s labels (Br depth ∷ code)) 1 (spot (branched label s) outer label.next)
always m s labels outer label depth code e = record {
  silent = λ around.
      one (wasm_rule m) (config_at around (spot s labels (Br depth ∷ code))) (config_at around (spot (branched label s) outer label.next)) refl refl refl
      (gone m around s s.values labels outer label (Br depth) code 0 depth (drop_none s.values) e);
}

not_taken : (m : Module) (s : Stage) (values : List ℕ) (labels : List Label) (depth : ℕ) (code : List Instr) →
    Leads m (spot (with_values s (0 ∷ values)) labels (BrIf depth ∷ code)) 1 (spot (with_values s values) labels code)
not_taken m s values labels depth code = record {
  silent = λ around.
      one (wasm_rule m) (config_at around (spot (with_values s (0 ∷ values)) labels (BrIf depth ∷ code))) (config_at around (spot (with_values s values) labels code)) refl refl refl
      (left_are around s values labels code);
}

not_zero : (value : ℕ) → value ≢ 0 → nat_eq value 0 ≡ false
not_zero value h = grind (arith, nat_tests)

taken : (m : Module) (s : Stage) (values : List ℕ) (value : ℕ) (labels outer : List Label) (label : Label) (depth : ℕ) (code : List Instr) → value ≢ 0 → drop depth labels ≡ label ∷ outer →
    Leads m (spot (with_values s (value ∷ values)) labels (BrIf depth ∷ code)) 1 (spot (branched label (with_values s values)) outer label.next)
taken m s values value labels outer label depth code some e = record {
  silent = λ around.
      let here = spot (with_values s (value ∷ values)) labels (BrIf depth ∷ code) in
      let is : cond (nat_eq value 0) (act.Take 1) (act.Branch 1 depth) ≡ act.Branch 1 depth = ap (λ b. cond b (act.Take 1) (act.Branch 1 depth)) (not_zero value some) in
      one (wasm_rule m) (config_at around here) (config_at around (spot (branched label (with_values s values)) outer label.next)) refl (ap takes_byte is) (ap bytes_written is)
      (ap (λ a. after m (config_at around here) (call_at around here) around.callers a 0) is ∙ gone m around (with_values s (value ∷ values)) values labels outer label (BrIf depth) code 1 depth (drop_none values) e);
}

table : (m : Module) (s : Stage) (values : List ℕ) (value : ℕ) (labels outer : List Label) (label : Label) (depths : List ℕ) (last : ℕ) (code : List Instr) → drop (slice_index_or depths value last) labels ≡ label ∷ outer →
    Leads m (spot (with_values s (value ∷ values)) labels (BrTable depths last ∷ code)) 1 (spot (branched label (with_values s values)) outer label.next)
table m s values value labels outer label depths last code e = record {
  silent = λ around.
      one (wasm_rule m) (config_at around (spot (with_values s (value ∷ values)) labels (BrTable depths last ∷ code))) (config_at around (spot (branched label (with_values s values)) outer label.next)) refl refl refl
      (gone m around (with_values s (value ∷ values)) values labels outer label (BrTable depths last) code 1 (slice_index_or depths value last) (drop_none values) e);
}

pub branches : (m : Module) → BranchesGoOut m
branches m = record { always = always m; not_taken = not_taken m; taken = taken m; table = table m }

abbrev alone : Bool → Around
alone gives = record { gives = gives; callers = []; later = [] }

by_end : (m : Module) (s : Stage) (code : List Instr) → Ends m (spot s [] (End ∷ code))
by_end m s code = record {
  silent = λ gives.
      one (wasm_rule m) (config_at (alone gives) (spot s [] (End ∷ code))) (record (config_at (alone gives) (spot s [] (End ∷ code))) { status = Ended }) refl refl refl refl;
}

by_return : (m : Module) (s : Stage) (labels : List Label) (code : List Instr) → Ends m (spot s labels (Return ∷ code))
by_return m s labels code = record {
  silent = λ gives.
      one (wasm_rule m) (config_at (alone gives) (spot s labels (Return ∷ code))) (record (config_at (alone gives) (spot s labels (Return ∷ code))) { status = Ended }) refl refl refl refl;
}

by_table : (m : Module) (s : Stage) (values : List ℕ) (value : ℕ) (labels : List Label) (depths : List ℕ) (last : ℕ) (code : List Instr) → drop (slice_index_or depths value last) labels ≡ [] →
    Ends m (spot (with_values s (value ∷ values)) labels (BrTable depths last ∷ code))
by_table m s values value labels depths last code e = record {
  silent = λ gives.
      let here = spot (with_values s (value ∷ values)) labels (BrTable depths last ∷ code) in
      one (wasm_rule m) (config_at (alone gives) here) (record (config_at (alone gives) here) { status = Ended }) refl refl refl (rw e refl);
}

pub ends : (m : Module) → MainEnds m
ends m = record { by_end = by_end m; by_return = by_return m; by_table = by_table m }

reads : (m : Module) (around : Around) (s : Stage) (func : ℕ) (import : Import) → slice_get m.imports func ≡ Some import → bytes_eq import.name getchar_name ≡ true → act_there m around s (Call func) ≡ act.Read
reads m around s func import e f = rw (e, f) refl

says : (m : Module) (around : Around) (s : Stage) (func : ℕ) (import : Import) → slice_get m.imports func ≡ Some import → bytes_eq import.name getchar_name ≡ false → act_there m around s (Call func) ≡ act.Write (slice_index s.values 0 % 2 ^ 8)
says m around s func import e f = rw (e, f) refl

getchar : (m : Module) (s : Stage) (labels : List Label) (func : ℕ) (import : Import) (code : List Instr) → slice_get m.imports func ≡ Some import → bytes_eq import.name getchar_name ≡ true →
    Takes m (spot s labels (Call func ∷ code)) (λ byte. spot (with_values s (byte ∷ s.values)) labels code)
getchar m s labels func import code e f = record {
  step = λ around input taken output.
      let here = spot s labels (Call func ∷ code) in
      let byte = input_at input taken in
      let is = reads m around s func import e f in
      taking (wasm_rule m) (config_at around here) (config_at around (spot (with_values s (byte ∷ s.values)) labels code)) input taken output refl (ap takes_byte is) (ap bytes_written is)
      (ap (λ a. after m (config_at around here) (call_at around here) around.callers a byte) is ∙ ap (λ rest. config_at around (spot (with_values s (byte ∷ s.values)) labels rest)) (drop_none code));
}

putchar : (m : Module) (s : Stage) (values : List ℕ) (value : ℕ) (labels : List Label) (func : ℕ) (import : Import) (code : List Instr) → slice_get m.imports func ≡ Some import → bytes_eq import.name getchar_name ≡ false →
    Writes m (spot (with_values s (value ∷ values)) labels (Call func ∷ code)) (value % 2 ^ 8) (spot (with_values s values) labels code)
putchar m s values value labels func import code e f = record {
  step = λ around input taken output.
      let s' = with_values s (value ∷ values) in
      let here = spot s' labels (Call func ∷ code) in
      let is = says m around s' func import e f in
      writing (wasm_rule m) (config_at around here) (config_at around (spot (with_values s values) labels code)) input taken output (value % 2 ^ 8) refl (ap takes_byte is) (ap bytes_written is)
      (ap (λ a. after m (config_at around here) (call_at around here) around.callers a 0) is ∙ left_are around s values labels code);
}

pub host : (m : Module) → HostIsCalled m
host m = record { getchar = getchar m; putchar = putchar m }
