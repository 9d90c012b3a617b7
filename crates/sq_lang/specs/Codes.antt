-- For proofs only: the code of a configuration.
use Rattle.std.specs.Prelude.{ℕ, ℤ, Option, refl}
use Rattle.std.specs.Coded.{Coded, code_by, coded×, coded_ℕ, coded_ℤ, coded_option}
use Rattle.std.specs.FinMap as map
use Rattle.sq_lang.specs.Step.{CellMap, Config}

-- a configuration is stored as the tuple of its fields
abbrev pub config_code : Coded Config
config_code =
    code_by (ℤ × (CellMap × Option ℕ)) (coded× coded_ℤ (coded× (map.code coded_ℕ coded_ℤ) (coded_option coded_ℕ)))
    (λ c. (c.address, (c.cells, c.fault)))
    (λ t. record { address = t.0; cells = t.1.0; fault = t.1.1 })
    (λ _. refl)
