use Rattle.std.proofs.Common.{◌≡◌, ◌++◌, map, drop}
use Rattle.c_syntax.specs.View.{item_of}
use Rattle.c_helpers.specs.Functions.{print_format}
use Rattle.c_helpers.specs.Fewer.{function_of}
use Rattle.c_format_terms.proofs.formats.add_formats.Given as goal

-- what is made, and what the names that are left come to
abbrev pub invariant-loop-name : goal.invariant-loop-name
invariant-loop-name l = map item_of l.items.items ++ map (λ name. function_of (print_format (drop 7 name.now))) (drop l.name-index l.names) ≡ map item_of l.fn.items.items ++ map (λ name. function_of (print_format (drop 7 name.now))) l.names
