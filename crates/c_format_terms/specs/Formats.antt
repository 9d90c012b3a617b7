-- The names of formats' functions, each once.
use Rattle.std.specs.Prelude.{ℕ, List, if◌then◌else◌}
use Rattle.c_helpers.specs.Meanings.{is_format}
use Rattle.c_tree_names.specs.Sets.{with_name}

-- a name more, if it is that of a format's function
abbrev pub with_format : List (List ℕ) → List ℕ → List (List ℕ)
with_format names name = if is_format name then with_name names name else names
