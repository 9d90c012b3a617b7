use Rattle.std.proofs.Common.{◌≡◌, ◌++◌, ℕ, map, length, subst, ◌∙◌}
use Rattle.c_syntax.specs.View.{stmt_of}
use Rattle.c_helpers.specs.Functions.{conversion}
use Rattle.c_format_terms.proofs.PieceLemmas.{conversion_kept}
use Rattle.c_format_terms.proofs.pieces.add_kept.Goals as goal

pub returns : goal.returns
returns c = λ format.
    conversion_kept (map stmt_of c.args.row.now.items) (map stmt_of c.add_conversion.new.row.items) c.args.letters.now.items c.push.new.self.items c.args.letter format
    (subst (λ (n : ℕ). map stmt_of c.add_conversion.new.row.items ≡ map stmt_of c.args.row.now.items ++ conversion c.args.letter n) (c.len-index.ensures ∙ c.args.letters.now.ok.0) c.in_ok-add_conversion.ensures)
    c.in_ok-push.ensures.items
