use Rattle.std.proofs.Common.{[], ◌∷◌, false, ℕ, List, ap, ◌∙◌}
use Rattle.std.specs.Option.{option_map_or}
use Rattle.c_syntax.specs.View.{decls_of, stmt_of}
use Rattle.c_types.specs.Operands.{conversions_of}
use Rattle.c_helpers.specs.Terms.{block}
use Rattle.c_helpers.specs.Functions.{arguments_from, format_name, pieces, spend_unit}
use Rattle.c_format_terms.proofs.FormatLemmas.{function_made}
use Rattle.c_format_terms.proofs.formats.print_format.Goals as goal

pub returns : goal.returns
returns c =
    let format = c.args.format.now in
    function_made c.in_ok-name.name (format_name format) (decls_of c.in_ok-items.items.items) (arguments_from 0 (option_map_or (λ letters. letters) (conversions_of format) [])) (stmt_of c.in_ok-whole.whole) (block (spend_unit ∷ pieces false format 0))
    c.in_ok-name.ensures (c.in_ok-items.ensures ∙ ap (arguments_from 0) (c.as_slice.ensures.value ∙ c.in_ok-letters.ensures)) c.in_ok-whole.ensures
