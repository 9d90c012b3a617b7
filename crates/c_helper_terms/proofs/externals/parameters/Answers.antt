use Rattle.std.proofs.Common.{map}
use Rattle.c_syntax.specs.View.{decl_of}
use Rattle.c_helper_terms.specs.Helpers.{parameter_of}
use Rattle.c_helper_steps.proofs.Rows.{goes_on, all_made}
use Rattle.c_helper_terms.proofs.externals.parameters.Goals as goal

pub loop-row-preserved : goal.loop-row-preserved
loop-row-preserved c =
    let rows = c.args.all.now in
    let i = c.loop-row.row-index in
    goes_on decl_of parameter_of c.loop-row.items.items c.push.new.self.items c.in_ok-item.item rows i _ (map parameter_of c.args.all.now)
    c.in_ok-push.ensures.items c.in_ok-item.ensures c.loop-row-test.true c.loop-row.invariant

pub returns : goal.returns
returns c = all_made decl_of parameter_of c.loop-row.items.items c.args.all.now c.loop-row.row-index (map parameter_of c.args.all.now) c.loop-row-test.false c.loop-row.invariant
