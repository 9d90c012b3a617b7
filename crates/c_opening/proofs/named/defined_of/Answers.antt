use Rattle.std.proofs.Common.{◌<◌, ◌≤◌, length, refl}
use Rattle.std.specs.Option.{option_map}
use Rattle.c_types.specs.Units.{defined_in}
use Rattle.c_opening.specs.Named.{definition_in}
use Rattle.c_opening.proofs.NamedLemmas.{so_far, all_named, drop_at, defined_first}
use Rattle.c_opening.proofs.named.defined_of.Goals as goal

pub loop-item-preserved : goal.loop-item-preserved
loop-item-preserved c =
    let items = c.args.items.now in
    let i = c.loop-item.item-index in
    so_far defined_in definition_in c.loop-item.names.keys c.put_some.new.names.keys items i c.item-item.result (option_map (λ n. n.now) c.definition_in.result) defined_first (drop_at items i c.item-item.result c.loop-item-test.true c.item-item.is) c.definition_in.ensures
    c.in_ok-put_some.ensures c.loop-item.invariant

pub returns : goal.returns
returns c = λ name. all_named defined_in c.loop-item.names.keys c.args.items.now c.loop-item.item-index refl c.loop-item-test.false c.loop-item.invariant name
