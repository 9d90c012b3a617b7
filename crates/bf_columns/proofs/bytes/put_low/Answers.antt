use Rattle.std.proofs.lemmas.Result.{on_ok_weaker}
use Rattle.bf_columns.proofs.NotedSteps.{low_noted}
use Rattle.bf_columns.proofs.bytes.put_low.Goals as goal

pub returns : goal.returns
returns c = on_ok_weaker c.put_text.result (low_noted c.args.register c.args.code.now.items c.put_text.new.code.items) c.put_text.ensures
