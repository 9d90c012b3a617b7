-- Helper functions in front of a text are within the limits.
use Rattle.std.specs.Prelude.{ℕ, List, ◌++◌, map}
use Rattle.c_types.specs.Scope.{file_scope}
use Rattle.c_eval.specs.Text.{definitions}
use Rattle.c_valid.specs.Laws.{FunctionsAreLimited}
use Rattle.c_helpers.specs.Functions.{print_format}
use Rattle.c_fewer_items.specs.FewerHeadsLaws.{firsts, helper_items}

-- those of any formats too, whichever are kept
abbrev pub FrontsAreLimited : Type 0
FrontsAreLimited = (names defined formats : List (List ℕ)) → FunctionsAreLimited (definitions (file_scope defined) (helper_items names (firsts ++ map print_format formats)))
