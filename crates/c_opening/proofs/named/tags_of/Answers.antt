use Rattle.std.proofs.Common.{◌<◌, ◌≤◌, length, refl}
use Rattle.std.specs.Option.{option_map}
use Rattle.c_opening.specs.Named.{tag_in, tags_in}
use Rattle.c_opening.proofs.NamedLemmas.{so_far, all_named, drop_at}
use Rattle.c_opening.proofs.named.tags_of.Goals as goal

pub loop-item-preserved : goal.loop-item-preserved
loop-item-preserved c =
    let items = c.args.items.now in
    let i = c.loop-item.item-index in
    so_far tags_in tag_in c.loop-item.tags.keys c.put_some.new.names.keys items i c.item-item.result (option_map (λ n. n.now) c.tag_in.result) (λ item rest. refl) (drop_at items i c.item-item.result c.loop-item-test.true c.item-item.is) c.tag_in.ensures
    c.in_ok-put_some.ensures c.loop-item.invariant

pub returns : goal.returns
returns c = λ name. all_named tags_in c.loop-item.tags.keys c.args.items.now c.loop-item.item-index refl c.loop-item-test.false c.loop-item.invariant name
