-- Whether a module can be run here, and where its run starts.
use Rattle.std.specs.Prelude.{◌≡◌, ℕ, ◌+◌, ◌-◌, ◌*◌, Bool, true, false, ◌&&◌, ◌||◌, cond, nat_eq, nat_lt, nat_le, List, [], ◌∷◌, ◌++◌, length, map, slice_get, Option, None, Some, IsSome}
use Rattle.std.specs.List.{list_all}
use Rattle.std.specs.FinMap as fin
use Rattle.std.specs.Str.{bytes_eq}
use Rattle.mach_core.specs.declared.machine.Status.TheVariants.{Going}
use Rattle.wasm_bin.specs.declared.module.Export.{Export}
use Rattle.wasm_bin.specs.declared.module.FuncType.{FuncType}
use Rattle.wasm_bin.specs.declared.module.GlobalVar.{GlobalVar}
use Rattle.wasm_bin.specs.declared.module.Import.{Import}
use Rattle.wasm_bin.specs.declared.module.Limits.{Limits}
use Rattle.wasm_bin.specs.declared.module.Module.{Module}
use Rattle.wasm_bin.specs.declared.module.Segment.{Segment}
use Rattle.wasm_valid.specs.Context.{function_type}
use Rattle.wasm_rule.specs.Number.{word_of}
use Rattle.wasm_rule.specs.Memory.{ByteMap, with_bytes}
use Rattle.wasm_rule.specs.Config.{Call, Config}
use Rattle.wasm_rule.specs.Step.{getchar_name, putchar_name}
use Rattle.wasm_rule.specs.Rule.{new_call, ended}

-- `env`
abbrev pub env_name : List ℕ
env_name = 101 ∷ 110 ∷ 118 ∷ []

-- `main`
abbrev pub main_name : List ℕ
main_name = 109 ∷ 97 ∷ 105 ∷ 110 ∷ []

-- the type takes and gives so many values
abbrev pub is_type : ℕ → ℕ → Option FuncType → Bool
is_type params results None = false
is_type params results (Some kind) = nat_eq kind.params params && nat_eq kind.results results

-- one of the two functions of the host, with its type
abbrev pub is_known : Module → Import → Bool
is_known m import =
    bytes_eq import.module env_name
    && ((bytes_eq import.name getchar_name && is_type 0 1 (slice_get m.types import.kind))
    || (bytes_eq import.name putchar_name && is_type 1 0 (slice_get m.types import.kind)))

abbrev pub are_known : Module → Bool
are_known m = list_all (is_known m) m.imports

-- a function of the name `main`, without parameters and results
abbrev pub is_main : Module → Export → Bool
is_main m export = bytes_eq export.name main_name && (nat_eq export.sort 0 && is_type 0 0 (function_type m export.index))

-- the index of the first of these exports that is one
abbrev pub main_in : Module → List Export → Option ℕ
main_in m [] = None
main_in m (export ∷ exports) = cond (is_main m export) (Some export.index) (main_in m exports)

abbrev pub main_of : Module → Option ℕ
main_of m = main_in m m.exports

abbrev pub least_in : Option Limits → ℕ
least_in None = 0
least_in (Some limits) = limits.min

-- the segment lies in the memory as it is at the start; its offset is unsigned
abbrev pub is_placed : Module → Segment → Bool
is_placed m segment = nat_le (word_of segment.offset + length segment.bytes) (65536 * least_in m.memory)

abbrev pub are_placed : Module → Bool
are_placed m = list_all (is_placed m) m.segments

-- with the bytes of these segments, a later one over the earlier ones
abbrev pub with_segments : ByteMap → List Segment → ByteMap
with_segments bytes [] = bytes
with_segments bytes (segment ∷ segments) = with_segments (with_bytes bytes (word_of segment.offset) segment.bytes) segments

abbrev pub first_value : GlobalVar → ℕ
first_value variable = word_of variable.first

-- the call of a function without arguments; an import is passed over
abbrev pub first_call : Module → Option ℕ → List Call
first_call m None = []
first_call m (Some index) = cond (nat_lt index (length m.imports)) [] (new_call m (index - length m.imports) [] ∷ [])

-- where a module starts: with its start function, if there is one, and then `main`
abbrev pub wasm_start : Module → Config
wasm_start m =
    ended (record {
      globals = map first_value m.globals;
      memory = record { pages = least_in m.memory; bytes = with_segments fin.empty m.segments };
      calls = [];
      later = [];
      status = Going;
    }) (first_call m m.start ++ first_call m (main_of m))

-- a module that can be run here
pub record IsLinkable (m : Module) : Type 0 where
  pub imports : are_known m ≡ true
  pub entry : IsSome (main_of m)
  pub segments : are_placed m ≡ true
