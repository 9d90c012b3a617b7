use Rattle.std.proofs.Common.{ap, arith}
use Rattle.c_store.specs.Values as values
use Rattle.c_store.specs.declared.value.Value.TheVariants as value
use Rattle.c_static.proofs.CellLemmas.{none_added, byte_added}
use Rattle.c_static.proofs.cells.add_bytes.Goals as goal

pub loop-byte-init : goal.loop-byte-init
loop-byte-init c = none_added c.args.cells.now.items

pub loop-byte-preserved : goal.loop-byte-preserved
loop-byte-preserved c =
    let small = c.type_inv.bytes c.loop-byte.byte-index in
    byte_added c.args.cells.now.items c.loop-byte.cells.items c.push.new.self.items c.args.bytes.now c.loop-byte.byte-index 0 (value.Word c.wrap.result) c.loop-byte.invariant c.loop-byte-test.true c.in_ok-push.ensures.items
    (ap (λ n. values.Word n) (grind (arith, c.wrap.ensures, c.from.ensures, small)))
