use Rattle.std.proofs.Common.{ap, ◌∙◌, sym}
use Rattle.c_store.specs.declared.kind.Kind.{Kind}
use Rattle.c_store.specs.Shown.{value_of}
use Rattle.c_plain.specs.Operators.{converted}
use Rattle.c_parts.proofs.Piles.{gathered, converted_none}
use Rattle.c_parts.proofs.calls.gather.Goals as goal

pub loop-index-init : goal.loop-index-init
loop-index-init c = rw c.clear.ensures.items (sym (converted_none c.args.kinds.now))

pub loop-index-preserved : goal.loop-index-preserved
loop-index-preserved c =
    gathered c.args.kinds.now c.args.values.now c.loop-index.out.items c.push.new.self.items c.index-values-index.result c.converted.result c.loop-index.index c.loop-index.invariant c.loop-index-test.true c.index-values-index.is
    (c.converted.ensures ∙ ap (λ (k : Kind). converted k (value_of c.index-values-index.result)) c.kind_at.ensures) c.in_ok-push.ensures.items
