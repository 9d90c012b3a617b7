use Rattle.std.proofs.Common.{sym, ◌∙◌}
use Rattle.c_opening.proofs.NamedLemmas.{drop_at, main_here, main_later, no_main}
use Rattle.c_opening.proofs.named.has_main.Goals as goal

pub returns-then-is_main : goal.returns-then-is_main
returns-then-is_main c =
    let items = c.args.items.now in
    let i = c.loop-item.item-index in
    main_here items i c.item-item.result (drop_at items i c.item-item.result c.loop-item-test.true c.item-item.is) (sym c.is_main.ensures ∙ c.if-is_main.true) ∙ sym c.loop-item.invariant

pub loop-item-preserved : goal.loop-item-preserved
loop-item-preserved c =
    let items = c.args.items.now in
    let i = c.loop-item.item-index in
    c.loop-item.invariant ∙ main_later items i c.item-item.result (drop_at items i c.item-item.result c.loop-item-test.true c.item-item.is) (sym c.is_main.ensures ∙ c.if-is_main.false)

pub returns : goal.returns
returns c = no_main c.args.items.now c.loop-item.item-index c.loop-item-test.false ∙ sym c.loop-item.invariant
