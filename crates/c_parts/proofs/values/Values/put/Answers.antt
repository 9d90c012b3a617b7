use Rattle.std.proofs.Common.{◌-◌, arith}
use Rattle.c_parts.proofs.Piles.{put_over, put_more}
use Rattle.c_parts.proofs.values.Values.put.Goals as goal

pub returns-then-count-eq0-clause-ok : goal.returns-then-count-eq0-clause-ok
returns-then-count-eq0-clause-ok c = put_more c.self.inside.base c.args.count c.self.inside.items.items c.push.new.self.items c.args.v c.args.self.now c.self.view_is (omega (arith, c.self.inside.items.ok.0)) (omega (arith, c.self.inside.items.ok.0)) c.in_ok-push.ensures.items

pub returns-clause-ok : goal.returns-clause-ok
returns-clause-ok c = put_over c.self.inside.base c.args.count (c.len-2.result - c.min-count.result) c.self.inside.items.items c.truncate.new.self.items c.args.v c.args.self.now c.self.view_is (omega (arith, c.self.inside.items.ok.0)) (omega (arith, c.self.inside.items.ok.0)) (omega (arith, c.self.inside.items.ok.0)) c.truncate.ensures.items
