-- Codes of what a module is at.
use Rattle.std.specs.Prelude.{ℕ, refl}
use Rattle.std.specs.Coded.{Coded, code_by, coded×, coded_ℕ}
use Rattle.std.specs.FinMap as map
use Rattle.wasm_rule.specs.Memory.{ByteMap, Memory}

abbrev pub byte_map_code : Coded ByteMap
byte_map_code = map.code coded_ℕ coded_ℕ

abbrev pub memory_code : Coded Memory
memory_code =
    code_by (ℕ × ByteMap) (coded× coded_ℕ byte_map_code) (λ m. (m.pages, m.bytes)) (λ t. record { pages = t.0; bytes = t.1 }) (λ _. refl)
