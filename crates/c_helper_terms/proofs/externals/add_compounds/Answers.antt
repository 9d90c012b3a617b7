use Rattle.std.proofs.Common.{◌++◌, map}
use Rattle.c_syntax.specs.View.{item_of}
use Rattle.c_helper_terms.specs.Helpers.{compound_of}
use Rattle.c_helper_steps.proofs.Rows.{goes_on, all_made}
use Rattle.c_helper_terms.proofs.externals.add_compounds.Goals as goal

pub loop-row-preserved : goal.loop-row-preserved
loop-row-preserved c =
    let rows = c.args.signs.now in
    let i = c.loop-row.row-index in
    goes_on item_of compound_of c.loop-row.items.items c.push.new.self.items c.in_ok-item.item rows i _ (map item_of c.args.items.now.items ++ map compound_of c.args.signs.now)
    c.in_ok-push.ensures.items c.in_ok-item.ensures c.loop-row-test.true c.loop-row.invariant

pub returns : goal.returns
returns c = all_made item_of compound_of c.loop-row.items.items c.args.signs.now c.loop-row.row-index (map item_of c.args.items.now.items ++ map compound_of c.args.signs.now) c.loop-row-test.false c.loop-row.invariant
