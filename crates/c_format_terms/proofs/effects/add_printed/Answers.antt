use Rattle.std.proofs.Common.{◌++◌, ◌∷◌, [], map, codes}
use Rattle.c_syntax.specs.View.{expr_of, stmt_of}
use Rattle.c_helpers.specs.Functions.{call_of, refill}
use Rattle.c_format_terms.proofs.RowLemmas.{more_put}
use Rattle.c_format_terms.proofs.effects.add_printed.Goals as goal

pub returns : goal.returns
returns c =
    more_put c.add_effect_of.result (map stmt_of c.args.row.now.items) (map stmt_of c.add_refill.new.row.items) (map stmt_of c.add_effect_of.new.row.items) (refill ∷ []) (call_of (codes "%" ++ c.args.letter ∷ []) (expr_of c.args.e ∷ []) ∷ [])
    c.in_ok-add_refill.ensures c.add_effect_of.ensures
