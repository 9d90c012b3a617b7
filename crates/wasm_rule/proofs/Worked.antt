-- Worked rows: what the definitions say of numbers, of single steps and of the runs of small modules.
use Rattle.std.proofs.Common.{◌≡◌, ℕ, true, false, List, [], ◌∷◌, map, Some, None, ℤ, pos, negsuc, refl}
use Rattle.mach_core.specs.declared.machine.Status.{Status}
use Rattle.mach_core.specs.declared.machine.Status.TheVariants.{Going, Ended, Fault}
use Rattle.mach_core.specs.Rule.{run}
use Rattle.wasm_bin.specs.declared.module.FuncType.{FuncType}
use Rattle.wasm_bin.specs.declared.module.Export.{Export}
use Rattle.wasm_bin.specs.declared.module.Import.{Import}
use Rattle.wasm_bin.specs.declared.module.Module.{Module}
use Rattle.wasm_bin.specs.declared.module.Instr.{Instr}
use Rattle.wasm_bin.specs.declared.module.Instr.TheVariants as instr
use Rattle.std.specs.Int.Count.{count_leading_zeros, count_trailing_zeros, ones}
use Rattle.wasm_bin.specs.Module.{module_spells}
use Rattle.wasm_bin.proofs.Worked.{greeting, row_spelled}
use Rattle.wasm_valid.specs.Rules.{IsValid}
use Rattle.wasm_valid.proofs.Worked.{with_main, row_valid}
use Rattle.wasm_rule.specs.declared.act.Act.{Act}
use Rattle.wasm_rule.specs.declared.act.Act.TheVariants as act
use Rattle.wasm_rule.specs.declared.fault.LinkFault.TheVariants.{WrongImport, NoMain, BadData}
use Rattle.wasm_rule.specs.Number.{number_act, extended, word_of}
use Rattle.wasm_rule.specs.Step.{call_act, getchar_name, putchar_name}
use Rattle.wasm_rule.specs.Config.{Call}
use Rattle.wasm_rule.specs.Rule.{wasm_rule}
use Rattle.wasm_rule.specs.Start.{wasm_start, env_name, main_name, are_known, main_of, are_placed, IsLinkable}
use Rattle.wasm_rule.specs.Refusals.{IsRefusedFor}
use Rattle.wasm_rule.proofs.Stored.{byte_at-with, byte_at-empty}

-- what each of these instructions on numbers does with two values, the top last
abbrev acts : List Instr → ℕ → ℕ → List Act
acts instrs x y = map (λ i. number_act i x y) instrs

-- what one does with each of these pairs
abbrev acts_on : Instr → List (ℕ × ℕ) → List Act
acts_on i pairs = map (λ (p : ℕ × ℕ). number_act i p.0 p.1) pairs

-- this value in the place of two
abbrev two : ℕ → Act
two value = act.Put 2 value

abbrev one : ℕ → Act
one value = act.Put 1 value

abbrev comparisons : List Instr
comparisons = instr.Eq ∷ instr.Ne ∷ instr.LtS ∷ instr.LtU ∷ instr.GtS ∷ instr.GtU ∷ instr.LeS ∷ instr.LeU ∷ instr.GeS ∷ instr.GeU ∷ []

-- -1 against 1, the least against the greatest, and a number against itself
pub row_comparisons : (acts comparisons 4294967295 1 ≡ map two (0 ∷ 1 ∷ 1 ∷ 0 ∷ 0 ∷ 1 ∷ 1 ∷ 0 ∷ 0 ∷ 1 ∷ []))
    × (acts comparisons 2147483648 2147483647 ≡ map two (0 ∷ 1 ∷ 1 ∷ 0 ∷ 0 ∷ 1 ∷ 1 ∷ 0 ∷ 0 ∷ 1 ∷ []))
    × (acts comparisons 5 5 ≡ map two (1 ∷ 0 ∷ 0 ∷ 0 ∷ 0 ∷ 0 ∷ 1 ∷ 1 ∷ 1 ∷ 1 ∷ []))
row_comparisons = (refl, refl, refl)

-- sums, differences and products wrap
pub row_wraps : (acts_on instr.Add ((4294967295, 2) ∷ (2147483647, 1) ∷ []) ≡ map two (1 ∷ 2147483648 ∷ []))
    × (acts_on instr.Sub ((1, 2) ∷ (5, 5) ∷ (0, 2147483648) ∷ []) ≡ map two (4294967295 ∷ 0 ∷ 2147483648 ∷ []))
    × (acts_on instr.Mul ((65537, 65537) ∷ (4294967295, 4294967295) ∷ []) ≡ map two (131073 ∷ 1 ∷ []))
row_wraps = (refl, refl, refl)

-- -7 by 2, 7 by -2, -7 by -2, a zero divisor, the one quotient out of range, and that dividend by 0
pub row_quotients : acts_on instr.DivS ((4294967289, 2) ∷ (7, 4294967294) ∷ (4294967289, 4294967294) ∷ (1, 0) ∷ (2147483648, 4294967295) ∷ (2147483648, 0) ∷ [])
    ≡ two 4294967293 ∷ two 4294967293 ∷ two 3 ∷ act.Stop 3 ∷ act.Stop 4 ∷ act.Stop 3 ∷ []
row_quotients = refl

-- the remainder has the dividend's sign; that of the least number by -1 is 0
pub row_remainders : acts_on instr.RemS ((4294967289, 2) ∷ (7, 4294967294) ∷ (2147483648, 4294967295) ∷ (1, 0) ∷ []) ≡ two 4294967295 ∷ two 1 ∷ two 0 ∷ act.Stop 3 ∷ []
row_remainders = refl

-- without signs: the largest by 2, the least signed by -1, and a zero divisor
pub row_unsigned : (acts_on instr.DivU ((4294967295, 2) ∷ (2147483648, 4294967295) ∷ (1, 0) ∷ []) ≡ two 2147483647 ∷ two 0 ∷ act.Stop 3 ∷ [])
    × (acts_on instr.RemU ((4294967295, 2) ∷ (2147483648, 4294967295) ∷ (1, 0) ∷ []) ≡ two 1 ∷ two 2147483648 ∷ act.Stop 3 ∷ [])
row_unsigned = (refl, refl)

-- shifts and rotations go by the number of bits modulo 32
pub row_shifts : (acts_on instr.Shl ((1, 33) ∷ (2147483649, 1) ∷ (7, 32) ∷ []) ≡ map two (2 ∷ 2 ∷ 7 ∷ []))
    × (acts_on instr.ShrS ((2147483648, 31) ∷ (4294967294, 1) ∷ (2147483648, 32) ∷ (2147483647, 30) ∷ []) ≡ map two (4294967295 ∷ 4294967295 ∷ 2147483648 ∷ 1 ∷ []))
    × (acts_on instr.ShrU ((2147483648, 31) ∷ (2147483648, 32) ∷ []) ≡ map two (1 ∷ 2147483648 ∷ []))
    × (acts_on instr.Rotl ((2147483649, 1) ∷ (305419896, 8) ∷ (5, 32) ∷ []) ≡ map two (3 ∷ 878082066 ∷ 5 ∷ []))
    × (acts_on instr.Rotr ((1, 1) ∷ (305419896, 8) ∷ (5, 33) ∷ []) ≡ map two (2147483648 ∷ 2014458966 ∷ 2147483650 ∷ []))
row_shifts = (refl, refl, refl, refl, refl)

-- bits: `0xF0F0F0F0` with `0xFF00FF00`, the zeros at either end of 0, 1 and the highest bit, and the ones of 255
pub row_bits : (acts (instr.And ∷ instr.Or ∷ instr.Xor ∷ []) 4042322160 4278255360 ≡ map two (4026593280 ∷ 4293984240 ∷ 267390960 ∷ []))
    × (acts_on instr.Clz ((9, 0) ∷ (9, 1) ∷ (9, 2147483648) ∷ []) ≡ map one (32 ∷ 31 ∷ 0 ∷ []))
    × (acts_on instr.Ctz ((9, 0) ∷ (9, 1) ∷ (9, 2147483648) ∷ []) ≡ map one (32 ∷ 0 ∷ 31 ∷ []))
    × (acts_on instr.Popcnt ((9, 0) ∷ (9, 255) ∷ (9, 170) ∷ []) ≡ map one (0 ∷ 8 ∷ 4 ∷ []))
    × (acts_on instr.Eqz ((9, 0) ∷ (0, 2147483648) ∷ []) ≡ map one (1 ∷ 0 ∷ []))
unfolding count_leading_zeros count_trailing_zeros ones
row_bits = (refl, refl, refl, refl, refl)

-- loaded bytes and pairs of bytes with their sign, and constants as words
pub row_extended : (map (extended 8) (127 ∷ 128 ∷ 255 ∷ []) ≡ 127 ∷ 4294967168 ∷ 4294967295 ∷ [])
    × (map (extended 16) (32767 ∷ 32768 ∷ 65535 ∷ []) ≡ 32767 ∷ 4294934528 ∷ 4294967295 ∷ [])
    × (map word_of (negsuc 0 ∷ negsuc 2147483647 ∷ pos 2147483647 ∷ []) ≡ 4294967295 ∷ 2147483648 ∷ 2147483647 ∷ [])
row_extended = (refl, refl, refl)

-- the types [] to [], [i32] to [], [] to [i32] and [i32 i32] to [i32]
abbrev types : List FuncType
types = record { params = 0; results = 0 } ∷ record { params = 1; results = 0 } ∷ record { params = 0; results = 1 } ∷ record { params = 2; results = 1 } ∷ []

abbrev host : List ℕ → ℕ → Import
host name kind = record { «module» = env_name; name = name; kind = kind }

abbrev own_main : ℕ → Export
own_main index = record { name = main_name; sort = 0; index = index }

-- the functions putchar (0) and getchar (1) of the host, and own functions of these types, with so many locals and this code; main is the first of them (2)
abbrev built : List ℕ → List (ℕ × List Instr) → Module
built kinds functions = record {
  types = types;
  imports = (host putchar_name 1 ∷ host getchar_name 2 ∷ []);
  funcs = kinds;
  memory = Some (record { min = 1; max = Some 2 });
  globals = [];
  exports = (own_main 2 ∷ []);
  start = None;
  bodies = (map (λ (f : ℕ × List Instr). record { locals = f.0; code = f.1 }) functions);
  segments = [];
}

-- main alone, with two locals
abbrev only : List Instr → Module
only code = built (0 ∷ []) ((2, code) ∷ [])

-- how a run stands after so many steps, how many bytes it has taken, and what it has written
pub record Seen : Type 0 where
  pub standing : Status
  pub taken : ℕ
  pub output : List ℕ

abbrev seen : Module → List ℕ → ℕ → Seen
seen m input steps = let moment = run (wasm_rule m) (wasm_start m) input steps in record { standing = moment.config.status; taken = moment.taken; output = moment.output }

abbrev stands : Status → ℕ → List ℕ → Seen
stands standing taken output = record { standing = standing; taken = taken; output = output }

abbrev constant : ℕ → Instr
constant n = instr.Const (pos n)

-- `H` is written in the second step, and the run ends in the third, which is the end
pub row_writes : map (seen (only (constant 72 ∷ instr.Call 0 ∷ instr.End ∷ [])) []) (1 ∷ 2 ∷ 3 ∷ 9 ∷ [])
    ≡ stands Going 0 [] ∷ stands Going 0 (72 ∷ []) ∷ stands Ended 0 (72 ∷ []) ∷ stands Ended 0 (72 ∷ []) ∷ []
row_writes = refl

-- a copy loop of four steps, with `ab` as its input: behind its end comes 0
pub row_copies : map (seen (only (instr.Loop false ∷ instr.Call 1 ∷ instr.Call 0 ∷ instr.Br 0 ∷ instr.End ∷ instr.End ∷ [])) (97 ∷ 98 ∷ [])) (1 ∷ 2 ∷ 3 ∷ 8 ∷ 12 ∷ [])
    ≡ stands Going 0 [] ∷ stands Going 1 [] ∷ stands Going 1 (97 ∷ []) ∷ stands Going 2 (97 ∷ 98 ∷ []) ∷ stands Going 3 (97 ∷ 98 ∷ 0 ∷ []) ∷ []
row_copies = refl

-- writes modulo 256
pub row_modulo : seen (only (constant 321 ∷ instr.Call 0 ∷ instr.End ∷ [])) [] 2 ≡ stands Going 0 (65 ∷ [])
row_modulo = refl

-- a true if leaves by its else, whose end is no step; a false one goes on behind the else, and comes to the end
pub row_if : (map (seen (only (constant 1 ∷ instr.If false ∷ instr.Else ∷ instr.Nop ∷ instr.End ∷ instr.End ∷ [])) []) (3 ∷ 4 ∷ []) ≡ stands Going 0 [] ∷ stands Ended 0 [] ∷ [])
    × (map (seen (only (constant 0 ∷ instr.If false ∷ instr.Else ∷ instr.Nop ∷ instr.End ∷ instr.End ∷ [])) []) (4 ∷ 5 ∷ []) ≡ stands Going 0 [] ∷ stands Ended 0 [] ∷ [])
row_if = (refl, refl)

-- a false if without an else goes to its end, which is a step; one nested in it is passed over
pub row_no_else : map (seen (only (constant 0 ∷ instr.If false ∷ constant 1 ∷ instr.If false ∷ instr.Else ∷ instr.End ∷ instr.End ∷ instr.End ∷ [])) []) (3 ∷ 4 ∷ []) ≡ stands Going 0 [] ∷ stands Ended 0 [] ∷ []
row_no_else = refl

-- a branch out of a block goes past its end, and one out of two past both
pub row_out : (map (seen (only (instr.Block false ∷ instr.Br 0 ∷ instr.End ∷ instr.End ∷ [])) []) (2 ∷ 3 ∷ []) ≡ stands Going 0 [] ∷ stands Ended 0 [] ∷ [])
    × (map (seen (only (instr.Block false ∷ instr.Block false ∷ instr.Br 1 ∷ instr.End ∷ instr.Unreachable ∷ instr.End ∷ instr.End ∷ [])) []) (3 ∷ 4 ∷ []) ≡ stands Going 0 [] ∷ stands Ended 0 [] ∷ [])
    × (map (seen (only (instr.Br 0 ∷ instr.End ∷ [])) []) (0 ∷ 1 ∷ []) ≡ stands Going 0 [] ∷ stands Ended 0 [] ∷ [])
row_out = (refl, refl, refl)

-- a branch to a loop comes to the loop, which is a step again: three rounds of eight steps, and two ends
pub row_loop : map (seen (only (instr.Loop false ∷ instr.LocalGet 0 ∷ constant 1 ∷ instr.Add ∷ instr.LocalTee 0 ∷ constant 3 ∷ instr.LtU ∷ instr.BrIf 0 ∷ instr.End ∷ instr.End ∷ [])) []) (25 ∷ 26 ∷ []) ≡ stands Going 0 [] ∷ stands Ended 0 [] ∷ []
row_loop = refl

-- a table: its second target for 1, and its last one for 2 and for -1
pub row_table : map (λ n. seen (only (instr.Block false ∷ instr.Block false ∷ instr.Const n ∷ instr.BrTable ((2 ∷ 0 ∷ [])) 1 ∷ instr.End ∷ constant 65 ∷ instr.Call 0 ∷ instr.End ∷ constant 66 ∷ instr.Call 0 ∷ instr.End ∷ [])) [] 12)
    (pos 0 ∷ pos 1 ∷ pos 2 ∷ negsuc 0 ∷ []) ≡ stands Ended 0 [] ∷ stands Ended 0 (65 ∷ 66 ∷ []) ∷ stands Ended 0 (66 ∷ []) ∷ stands Ended 0 (66 ∷ []) ∷ []
row_table = refl

-- a call takes its arguments in their order, and a return keeps the top value alone: 57 - 8 is the digit `1`
pub row_call : seen (built (0 ∷ 3 ∷ []) ((0, constant 9 ∷ constant 57 ∷ constant 8 ∷ instr.Call 3 ∷ instr.Call 0 ∷ instr.Drop ∷ instr.End ∷ []) ∷ (1, constant 7 ∷ instr.LocalGet 0 ∷ instr.LocalGet 1 ∷ instr.Sub ∷ instr.LocalGet 2 ∷ instr.Add ∷ instr.Return ∷ instr.End ∷ []) ∷ [])) [] 14
    ≡ stands Ended 0 (49 ∷ [])
row_call = refl

-- the start function runs first, and no step lies between it and main
pub row_start : map (seen (record (built (0 ∷ 0 ∷ []) ((0, constant 66 ∷ instr.Call 0 ∷ instr.End ∷ []) ∷ (0, constant 65 ∷ instr.Call 0 ∷ instr.End ∷ []) ∷ [])) { start = Some 3 }) []) (3 ∷ 5 ∷ 6 ∷ [])
    ≡ stands Going 0 (65 ∷ []) ∷ stands Going 0 (65 ∷ 66 ∷ []) ∷ stands Ended 0 (65 ∷ 66 ∷ []) ∷ []
row_start = refl

-- a choice takes the first value where the condition is not 0, and the second where it is
pub row_select : map (λ n. seen (only (constant 65 ∷ constant 66 ∷ constant n ∷ instr.Select ∷ instr.Call 0 ∷ instr.End ∷ [])) [] 6) (0 ∷ 7 ∷ []) ≡ stands Ended 0 (66 ∷ []) ∷ stands Ended 0 (65 ∷ []) ∷ []
row_select = refl

-- faults: 1 unreachable, 3 a zero divisor, 4 a quotient out of range, and 2 a load and a store of which one byte lies outside the page; what was written and taken stays
pub row_faults : map (λ code. seen (only (instr.Call 1 ∷ instr.Call 0 ∷ code)) (65 ∷ 66 ∷ []) 9) (
    (instr.Unreachable ∷ [])
    ∷ (constant 1 ∷ constant 0 ∷ instr.RemU ∷ [])
    ∷ (instr.Const (negsuc 2147483647) ∷ instr.Const (negsuc 0) ∷ instr.DivS ∷ [])
    ∷ (constant 65533 ∷ instr.Load (record { align = 2; offset = 0 }) ∷ [])
    ∷ (constant 65535 ∷ constant 0 ∷ instr.Store16 (record { align = 0; offset = 0 }) ∷ [])
    ∷ (instr.Const (negsuc 0) ∷ instr.Load8U (record { align = 0; offset = 1 }) ∷ [])
    ∷ []) ≡ stands (Fault 1) 1 (65 ∷ []) ∷ stands (Fault 3) 1 (65 ∷ []) ∷ stands (Fault 4) 1 (65 ∷ []) ∷ stands (Fault 2) 1 (65 ∷ []) ∷ stands (Fault 2) 1 (65 ∷ []) ∷ stands (Fault 2) 1 (65 ∷ []) ∷ []
row_faults = refl

-- the 4096th call may begin, and one more is fault 5
pub row_depth : (call_act None 7 4095 0 ≡ act.Call 7) × (call_act None 7 4096 0 ≡ act.Stop 5)
row_depth = (refl, refl)

-- the values of the last call
abbrev values_in : List Call → List ℕ
values_in [] = []
values_in (call ∷ callers) = call.values

abbrev values_after : Module → ℕ → List ℕ
values_after m steps = values_in (run (wasm_rule m) (wasm_start m) [] steps).config.calls

abbrev grow_twice : List Instr
grow_twice = constant 1 ∷ instr.MemoryGrow ∷ constant 1 ∷ instr.MemoryGrow ∷ instr.MemorySize ∷ []

-- one page of at most two grows once; with a larger maximum, or none, 1024 pages are the most
pub row_grows : (values_after (only grow_twice) 5 ≡ 2 ∷ 4294967295 ∷ 1 ∷ [])
    × (values_after (record (only grow_twice) { memory = Some (record { min = 1023; max = Some 65536 }) }) 5 ≡ 1024 ∷ 4294967295 ∷ 1023 ∷ [])
    × (values_after (record (only grow_twice) { memory = Some (record { min = 1022; max = None }) }) 5 ≡ 1024 ∷ 1023 ∷ 1022 ∷ [])
    × (values_after (only (instr.Const (negsuc 0) ∷ instr.MemoryGrow ∷ [])) 2 ≡ 4294967295 ∷ [])
row_grows = (refl, refl, refl, refl)

-- with these segments at their offsets, over one page
abbrev filled : List (ℤ × List ℕ) → List Instr → Module
filled segments code = record (only code) { segments = (map (λ (s : ℤ × List ℕ). record { offset = s.0; bytes = s.1 }) segments) }

-- segments: the last byte of the page, none behind it, one byte past it, and an offset that is unsigned
pub row_placed : map (λ segments. are_placed (filled segments [])) (
    ((pos 65535, 1 ∷ []) ∷ [])
    ∷ ((pos 65536, []) ∷ [])
    ∷ ((pos 65535, 1 ∷ 2 ∷ []) ∷ [])
    ∷ ((pos 0, 1 ∷ []) ∷ (negsuc 0, []) ∷ [])
    ∷ []) ≡ true ∷ true ∷ false ∷ false ∷ []
row_placed = refl

-- the host's functions: one of another type, one of another module, one that it doesn't have, one twice, and none
pub row_known : map (λ imports. are_known (record (only []) { imports = imports })) (
    (host putchar_name 2 ∷ [])
    ∷ (record { «module» = main_name; name = putchar_name; kind = 1 } ∷ [])
    ∷ (host main_name 0 ∷ [])
    ∷ (host getchar_name 2 ∷ host getchar_name 2 ∷ [])
    ∷ []
    ∷ []) ≡ false ∷ false ∷ false ∷ true ∷ true ∷ []
row_known = refl

-- main: a function of the host, an own one of type [] to [i32], one of type [] to [], and something else of that name
pub row_main : map (λ e. main_of (record (built (2 ∷ 0 ∷ []) ((0, []) ∷ (0, []) ∷ [])) { exports = (e ∷ []) })) (
    own_main 0
    ∷ own_main 2
    ∷ own_main 3
    ∷ record { name = main_name; sort = 3; index = 3 }
    ∷ record { name = env_name; sort = 0; index = 3 }
    ∷ []) ≡ None ∷ None ∷ Some 3 ∷ None ∷ None ∷ []
row_main = refl

-- several faults at once: the import comes first, then main, and then the segment
pub row_order : IsRefusedFor (record (filled ((negsuc 0, []) ∷ []) []) { imports = (host main_name 0 ∷ []); exports = [] }) WrongImport
    × IsRefusedFor (record (filled ((negsuc 0, []) ∷ []) []) { exports = [] }) NoMain
    × IsRefusedFor (filled ((negsuc 0, []) ∷ []) []) BadData
row_order = (refl, (refl, refl), (refl, refl, refl))

-- a later segment lies over an earlier one
pub row_segments : seen (filled ((pos 0, 65 ∷ 66 ∷ []) ∷ (pos 1, 67 ∷ []) ∷ []) (constant 0 ∷ instr.Load8U (record { align = 0; offset = 0 }) ∷ instr.Call 0 ∷ constant 0 ∷ instr.Load8U (record { align = 0; offset = 1 }) ∷ instr.Call 0 ∷ instr.End ∷ [])) [] 7 ≡ stands Ended 0 (65 ∷ 67 ∷ [])
row_segments = simp byte_at-with

-- a word is stored with its lowest byte first
pub row_stored : values_after (only (constant 8 ∷ constant 67305985 ∷ instr.Store (record { align = 0; offset = 1 }) ∷ constant 9 ∷ instr.Load8U (record { align = 0; offset = 0 }) ∷ constant 10 ∷ instr.Load16U (record { align = 0; offset = 0 }) ∷ [])) 7 ≡ 770 ∷ 1 ∷ []
row_stored = simp byte_at-with

-- a branch keeps the value that its label takes, and what lies beneath the block; one to a loop keeps what lies beneath alone
pub row_beneath : (values_after (only (constant 9 ∷ instr.Block true ∷ constant 1 ∷ constant 2 ∷ instr.Br 0 ∷ instr.End ∷ instr.End ∷ [])) 5 ≡ 2 ∷ 9 ∷ [])
    × (values_after (only (constant 9 ∷ instr.Block false ∷ constant 1 ∷ constant 2 ∷ instr.Br 0 ∷ instr.End ∷ instr.End ∷ [])) 5 ≡ 9 ∷ [])
    × (values_after (only (constant 9 ∷ instr.Loop false ∷ constant 1 ∷ instr.Br 0 ∷ instr.End ∷ instr.End ∷ [])) 4 ≡ 9 ∷ [])
row_beneath = (refl, refl, refl)

-- the last word of the page is there, and 0 at the start
pub row_last_word : values_after (only (constant 65532 ∷ instr.Load (record { align = 2; offset = 0 }) ∷ [])) 2 ≡ 0 ∷ []
row_last_word = simp byte_at-empty

-- bytes, module and run together: the bytes spell a valid module that can be run here, and its run writes `H` and ends in the third step
pub record Greets (m : Module) : Type 0 where
  pub spelled : module_spells greeting m
  pub valid : IsValid m
  pub linkable : IsLinkable m
  pub ended : seen m [] 3 ≡ stands Ended 0 (72 ∷ [])

pub row_greets : Greets (with_main (constant 72 ∷ instr.Call 0 ∷ instr.End ∷ []))
row_greets = record { spelled = row_spelled; valid = row_valid; linkable = record { imports = refl; entry = refl; segments = refl }; ended = refl }
