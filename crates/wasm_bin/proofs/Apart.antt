-- A module is told apart by its parts.
use Rattle.std.proofs.Common.{◌≡◌, ℕ, Bool, cond, nat_eq, List, [], ◌∷◌, map, refl, sym, ap, ◌∙◌}
use Rattle.wasm_bin.specs.declared.module.MemArg.{MemArg}
use Rattle.wasm_bin.specs.declared.module.Instr.{Instr}
use Rattle.wasm_bin.specs.declared.module.Instr.TheVariants as instr
use Rattle.wasm_bin.specs.declared.module.Import.{Import}
use Rattle.wasm_bin.specs.declared.module.Export.{Export}
use Rattle.wasm_bin.specs.declared.module.Body.{Body}
use Rattle.wasm_bin.specs.declared.module.Segment.{Segment}
use Rattle.wasm_bin.specs.declared.module.Module.{Module}
use Rattle.wasm_bin.specs.Opcode.{Coded, Plain, Typed, Index, Table, Access, Reserved, Number, coded}
use Rattle.wasm_bin.specs.Parts.{Foreign, Shown, Function, Stretch, Parts, foreign, shown, function_of, stretch, parts_of}

abbrev pub plain_of : ℕ → Instr
plain_of op = cond (nat_eq op 0x00) instr.Unreachable (cond (nat_eq op 0x01) instr.Nop (cond (nat_eq op 0x05) instr.Else (cond (nat_eq op 0x0B) instr.End (cond (nat_eq op 0x0F) instr.Return (cond (nat_eq op 0x1A) instr.Drop (cond (nat_eq op 0x1B) instr.Select (cond (nat_eq op 0x45) instr.Eqz (cond (nat_eq op 0x46) instr.Eq (cond (nat_eq op 0x47) instr.Ne (cond (nat_eq op 0x48) instr.LtS (cond (nat_eq op 0x49) instr.LtU (cond (nat_eq op 0x4A) instr.GtS (cond (nat_eq op 0x4B) instr.GtU (cond (nat_eq op 0x4C) instr.LeS (cond (nat_eq op 0x4D) instr.LeU (cond (nat_eq op 0x4E) instr.GeS (cond (nat_eq op 0x4F) instr.GeU (cond (nat_eq op 0x67) instr.Clz (cond (nat_eq op 0x68) instr.Ctz (cond (nat_eq op 0x69) instr.Popcnt (cond (nat_eq op 0x6A) instr.Add (cond (nat_eq op 0x6B) instr.Sub (cond (nat_eq op 0x6C) instr.Mul (cond (nat_eq op 0x6D) instr.DivS (cond (nat_eq op 0x6E) instr.DivU (cond (nat_eq op 0x6F) instr.RemS (cond (nat_eq op 0x70) instr.RemU (cond (nat_eq op 0x71) instr.And (cond (nat_eq op 0x72) instr.Or (cond (nat_eq op 0x73) instr.Xor (cond (nat_eq op 0x74) instr.Shl (cond (nat_eq op 0x75) instr.ShrS (cond (nat_eq op 0x76) instr.ShrU (cond (nat_eq op 0x77) instr.Rotl (instr.Rotr)))))))))))))))))))))))))))))))))))

abbrev pub typed_of : Bool → ℕ → Instr
typed_of gives op = cond (nat_eq op 0x02) (instr.Block gives) (cond (nat_eq op 0x03) (instr.Loop gives) (instr.If gives))

abbrev pub indexed_of : ℕ → ℕ → Instr
indexed_of n op = cond (nat_eq op 0x0C) (instr.Br n) (cond (nat_eq op 0x0D) (instr.BrIf n) (cond (nat_eq op 0x10) (instr.Call n) (cond (nat_eq op 0x20) (instr.LocalGet n) (cond (nat_eq op 0x21) (instr.LocalSet n) (cond (nat_eq op 0x22) (instr.LocalTee n) (cond (nat_eq op 0x23) (instr.GlobalGet n) (instr.GlobalSet n)))))))

abbrev pub access_of : MemArg → ℕ → Instr
access_of m op = cond (nat_eq op 0x28) (instr.Load m) (cond (nat_eq op 0x2C) (instr.Load8S m) (cond (nat_eq op 0x2D) (instr.Load8U m) (cond (nat_eq op 0x2E) (instr.Load16S m) (cond (nat_eq op 0x2F) (instr.Load16U m) (cond (nat_eq op 0x36) (instr.Store m) (cond (nat_eq op 0x3A) (instr.Store8 m) (instr.Store16 m)))))))

abbrev pub sizing_of : ℕ → Instr
sizing_of op = cond (nat_eq op 0x3F) instr.MemorySize (instr.MemoryGrow)

-- back from an opcode and its operands
abbrev pub decoded : Coded → Instr
decoded (op, Plain) = plain_of op
decoded (op, Typed gives) = typed_of gives op
decoded (op, Index n) = indexed_of n op
decoded (op, Table labels label) = instr.BrTable labels label
decoded (op, Access m) = access_of m op
decoded (op, Reserved) = sizing_of op
decoded (op, Number z) = instr.Const z

decoded_coded : (i : Instr) → decoded (coded i) ≡ i
decoded_coded instr.Unreachable = refl
decoded_coded _ = refl

pub all_back : {A B : Type 0} (f : A → B) (g : B → A) → ((x : A) → g (f x) ≡ x) → (xs : List A) → map g (map f xs) ≡ xs
all_back f g h [] = refl
all_back f g h (x ∷ xs) = ap (λ y. y ∷ map g (map f xs)) (h x) ∙ ap (λ ys. x ∷ ys) (all_back f g h xs)

abbrev pub import_of : Foreign → Import
import_of i = record { «module» = i.origin; name = i.name; kind = i.kind }

abbrev pub export_of : Shown → Export
export_of e = record { name = e.name; sort = e.sort; index = e.index }

abbrev pub body_of : Function → Body
body_of c = record { locals = c.locals; code = map decoded c.instructions }

abbrev pub segment_of : Stretch → Segment
segment_of s = record { offset = s.offset; bytes = s.bytes }

abbrev pub module_of : Parts → Module
module_of p = record {
  types = p.types;
  imports = map import_of p.imports;
  funcs = p.funcs;
  memory = p.memory;
  globals = p.globals;
  exports = map export_of p.exports;
  start = p.start;
  bodies = map body_of p.bodies;
  segments = map segment_of p.segments;
}

body_back : (b : Body) → body_of (function_of b) ≡ b
body_back b = ap (λ (code : List Instr). record { locals = b.locals; code = code }) (all_back coded decoded decoded_coded b.code)

back : (m : Module) → module_of (parts_of m) ≡ m
back m =
    ap (λ (x : List Import). record (module_of (parts_of m)) { imports = x }) (all_back foreign import_of (λ i. refl) m.imports)
    ∙ (ap (λ (x : List Export). record (module_of (parts_of m)) { imports = m.imports; exports = x }) (all_back shown export_of (λ e. refl) m.exports)
    ∙ (ap (λ (x : List Body). record (module_of (parts_of m)) { imports = m.imports; exports = m.exports; bodies = x }) (all_back function_of body_of body_back m.bodies)
    ∙ ap (λ (x : List Segment). record m { segments = x }) (all_back stretch segment_of (λ s. refl) m.segments)))

pub told_apart : (a b : Module) → parts_of a ≡ parts_of b → a ≡ b
told_apart a b e = sym (back a) ∙ (ap module_of e ∙ back b)
