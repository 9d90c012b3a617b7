use Rattle.c_desugar.proofs.WholeLemmas.{in_front}
use Rattle.c_desugar.proofs.whole.with_helpers.Goals as goal

pub returns : goal.returns
returns c =
    in_front c.new-all.result.items c.add_helpers_for.new.items.items c.append.new.self.items c.as_slice.result.now c.args.items.items c.new-all.ensures.items c.in_ok-add_helpers_for.ensures c.as_slice.ensures.value c.in_ok-append.ensures.items
