-- The code of a configuration.
use Rattle.std.specs.Prelude.{ℕ, Bool, refl}
use Rattle.std.specs.Coded.{Coded, code_by, coded×, coded_ℕ, coded_bool}
use Rattle.std.specs.FinMap as map
use Rattle.bf_lang.specs.Cells.{Cells}
use Rattle.bf_lang.specs.Step.{Config}

-- a configuration is stored as the tuple of its fields
abbrev pub config_code : Coded Config
config_code =
    code_by (ℕ × (ℕ × (Cells × Bool))) (coded× coded_ℕ (coded× coded_ℕ (coded× (map.code coded_ℕ coded_ℕ) coded_bool)))
    (λ c. (c.place, (c.head, (c.cells, c.fell))))
    (λ t. record { place = t.0; head = t.1.0; cells = t.1.1.0; fell = t.1.1.1 })
    (λ _. refl)
