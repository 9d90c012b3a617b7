use Rattle.std.proofs.Common.{drop}
use Rattle.std.specs.List.{filter}
use Rattle.c_helpers.specs.Meanings.{is_format}
use Rattle.c_helpers.specs.Fewer.{distinct}
use Rattle.c_tree_names.specs.Added.{texts}
use Rattle.c_format_terms.proofs.FormatLemmas.{Together}
use Rattle.c_format_terms.proofs.formats.formats_among.Given as goal

abbrev pub invariant-loop-name : goal.invariant-loop-name
invariant-loop-name l = Together (texts l.formats.keys) (texts (drop l.name-index l.names)) (distinct (filter is_format (texts l.names)))
