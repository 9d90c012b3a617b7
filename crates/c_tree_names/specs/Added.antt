-- Names of the code as bytes, and names that come behind others.
use Rattle.std.specs.Prelude.{◌≡◌, ◌++◌, ℕ, List, map}
use denote.Ref.{Bor}

abbrev pub texts : List (Bor (List ℕ)) → List (List ℕ)
texts names = map (λ n. n.now) names

-- new names are the old ones, and these behind them
abbrev pub Added : (old new : List (Bor (List ℕ))) → List (List ℕ) → Type 0
Added old new names = texts new ≡ texts old ++ names
