use Rattle.std.proofs.Common.{◌≡◌, ◌+◌, ◌++◌, ◌∷◌, [], List, Bool, map, sym, ap, ◌∙◌, append-nil}
use Rattle.std.proofs.lemmas.List.{drop_all}
use Rattle.c_syntax.specs.View.{item_of}
use Rattle.c_syntax.specs.declared.tree.Item.{Item}
use Rattle.c_tree_names.specs.Added.{texts}
use Rattle.c_kept.specs.Kept.{stays}
use Rattle.c_kept.proofs.KeptLemmas.{flag_more, drop_at}
use Rattle.c_kept.proofs.keep.flags.Goals as goal

pub loop-item-init : goal.loop-item-init
loop-item-init c = ap (λ (l : List Bool). l ++ map (λ i. stays (texts c.args.known.now.keys) (item_of i)) c.args.items.now) c.new-all.ensures.items

pub loop-item-preserved : goal.loop-item-preserved
loop-item-preserved c =
    let items = c.args.items.now in
    let i = c.loop-item.item-index in
    let x = c.item-item.result in
    flag_more (λ (y : Item). stays (texts c.args.known.now.keys) (item_of y)) c.loop-item.all.items c.push.new.self.items c.stays-flag.result items i x (map (λ y. stays (texts c.args.known.now.keys) (item_of y)) items)
    c.in_ok-push.ensures.items c.stays-flag.ensures (drop_at items i x c.loop-item-test.true c.item-item.is) c.loop-item.invariant

pub returns : goal.returns
returns c =
    let told = λ (y : Item). stays (texts c.args.known.now.keys) (item_of y) in
    sym (append-nil c.loop-item.all.items)
    ∙ (ap (λ (l : List Item). c.loop-item.all.items ++ map told l) (sym (drop_all c.loop-item.item-index c.args.items.now c.loop-item-test.false)) ∙ c.loop-item.invariant)
