use Rattle.std.proofs.Common.{map, refl}
use Rattle.c_syntax.specs.View.{item_of}
use Rattle.c_helper_steps.proofs.Rows.{all_five}
use Rattle.c_helper_terms.proofs.externals.add_fixed.Goals as goal

pub returns : goal.returns
returns c =
    all_five c.add_helpers-4.result (map item_of c.args.items.now.items) _ _ _ _ (map item_of c.add_helpers-4.new.items.items) _ _ _ _ _ _
    c.in_ok-add_helpers.ensures c.in_ok-add_helpers-2.ensures c.in_ok-add_compounds.ensures c.in_ok-add_helpers-3.ensures c.add_helpers-4.ensures refl
