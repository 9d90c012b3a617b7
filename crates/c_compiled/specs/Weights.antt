-- The formats of a program, which are in its weight.
use Rattle.std.specs.Prelude.{◌≡◌, ℕ, ◌≤◌, true, List, length}
use Rattle.c_syntax.specs.Plain.{CUnit}
use Rattle.c_types.specs.Limits.{weight_of}
use Rattle.c_types.specs.Scope.{contains}
use Rattle.c_types.specs.Units.{start_scope}
use Rattle.c_helpers.specs.Fewer.{fewer_in_items, formats_in}
use Rattle.c_programs.specs.Programs.{IsProgram}

-- a format that has a function has no more bytes than its program weighs
abbrev pub FormatsAreInWeight : Type 0
FormatsAreInWeight = (u : CUnit) → IsProgram u → (format : List ℕ) → contains (formats_in (fewer_in_items (start_scope u) u.items)) format ≡ true → length format ≤ weight_of u
