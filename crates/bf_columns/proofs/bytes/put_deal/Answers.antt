use Rattle.std.proofs.lemmas.Result.{on_ok_weaker}
use Rattle.bf_columns.proofs.NotedSteps.{deal_steps}
use Rattle.bf_columns.proofs.bytes.put_deal.Goals as goal

pub returns : goal.returns
returns c =
    on_ok_weaker c.put_units.result (deal_steps c.args.register c.args.code.now.items c.put_part.new.code.items c.put_part-2.new.code.items c.put_part-3.new.code.items c.put_units.new.code.items c.requires
    c.in_ok-put_part.ensures c.in_ok-put_part-2.ensures c.in_ok-put_part-3.ensures) c.put_units.ensures
