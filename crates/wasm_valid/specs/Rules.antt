-- The rules of a module, and which modules are valid.
use Rattle.std.specs.Prelude.{◌≡◌, ◌≢◌, ◌⊎◌, ℕ, ◌<◌, Bool, true, false, ◌&&◌, ◌||◌, List, length, Option, Some, None, unwrap_or, slice_get, nat_eq, nat_lt, nat_le, is_some, IsTrue, AllPairs}
use Rattle.std.specs.List.{list_all}
use Rattle.std.specs.Option.{option_and_then}
use Rattle.wasm_bin.specs.declared.module.Module.{Module}
use Rattle.wasm_bin.specs.declared.module.Body.{Body}
use Rattle.wasm_bin.specs.declared.module.FuncType.{FuncType}
use Rattle.wasm_bin.specs.declared.module.Limits.{Limits}
use Rattle.wasm_bin.specs.declared.module.Export.{Export}
use Rattle.wasm_valid.specs.declared.fault.ValidFault.{ValidFault}
use Rattle.wasm_valid.specs.declared.fault.ValidFault.TheVariants.{Invalid, Memory}
use Rattle.wasm_valid.specs.Context.{type_indices, function_type}
use Rattle.wasm_valid.specs.Typing.{IsBodyOf}

-- each function type gives one value at most
abbrev pub have_few_results : Module → Bool
have_few_results m = list_all (λ t. nat_le t.results 1) m.types

-- the type of each function is there, imported or not
abbrev pub have_types : Module → Bool
have_types m = list_all (λ index. nat_lt index (length m.types)) (type_indices m)

-- a memory has 65,536 pages at most, and no more at the start than in the end
abbrev pub are_limits : Limits → Bool
are_limits l = nat_le l.min (unwrap_or l.max 65536) && nat_le (unwrap_or l.max 65536) 65536

abbrev pub is_memory : Option Limits → Bool
is_memory None = true
is_memory (Some l) = are_limits l

-- what is shown is there: a function, the memory or a global
abbrev pub is_there : Module → ℕ → ℕ → Bool
is_there m sort index =
    (nat_eq sort 0 && nat_lt index (length (type_indices m)))
    || ((nat_eq sort 2 && (nat_eq index 0 && is_some m.memory))
    || (nat_eq sort 3 && nat_lt index (length m.globals)))

abbrev pub are_there : Module → Bool
are_there m = list_all (λ e. is_there m e.sort e.index) m.exports

-- the function takes nothing and gives nothing
abbrev pub is_start_type : Option FuncType → Bool
is_start_type None = false
is_start_type (Some t) = nat_eq t.params 0 && nat_eq t.results 0

abbrev pub is_start : Module → Option ℕ → Bool
is_start m None = true
is_start m (Some index) = is_start_type (function_type m index)

-- no two exports have one name
abbrev pub HaveDistinctNames : List Export → Type 0
HaveDistinctNames exports = AllPairs (λ a b. a.name ≢ b.name) exports

-- a module's rules apart from its code
pub record FollowsRules (m : Module) : Type 0 where
  pub results : IsTrue (have_few_results m)
  pub types : IsTrue (have_types m)
  -- each function that is not imported has a body
  pub bodies : length m.bodies ≡ length m.funcs
  pub memory : IsTrue (is_memory m.memory)
  pub exports : IsTrue (are_there m)
  pub names : HaveDistinctNames m.exports
  pub start : IsTrue (is_start m m.start)
  -- bytes at the start need a memory
  pub segments : IsTrue (nat_eq (length m.segments) 0 || is_some m.memory)

-- the type of a function that is not imported, by its number among these
abbrev pub own_type : Module → ℕ → Option FuncType
own_type m k = option_and_then (slice_get m.types) (slice_get m.funcs k)

-- a body is typed where the type of its function is there
abbrev pub IsTypedBody : Module → Option FuncType → Body → Type 0
IsTypedBody m None body = ⊥
IsTypedBody m (Some t) body = IsBodyOf m t body

-- the body of this number
abbrev pub IsTypedAs : Module → ℕ → Option Body → Type 0
IsTypedAs m k None = ⊥
IsTypedAs m k (Some body) = IsTypedBody m (own_type m k) body

abbrev pub IsTypedAt : Module → ℕ → Type 0
IsTypedAt m k = IsTypedAs m k (slice_get m.bodies k)

-- the module follows the rules, and each body is typed
pub record IsValid (m : Module) : Type 0 where
  pub rules : FollowsRules m
  pub typed : (k : ℕ) → k < length m.bodies → IsTypedAt m k

-- the first body that is not typed has this number
pub record IsUntypedFirst (m : Module) (k : ℕ) : Type 0 where
  pub there : k < length m.bodies
  pub typed : (j : ℕ) → j < k → IsTypedAt m j
  pub untyped : IsTypedAt m k → ⊥

-- the rules are broken, which has the number of the bodies, or a body is not typed
abbrev pub IsRefused : Module → ValidFault → Type 0
IsRefused m (Invalid k) = ((FollowsRules m → ⊥) × (k ≡ length m.bodies)) ⊎ (FollowsRules m × IsUntypedFirst m k)
IsRefused m Memory = Unit {0}
