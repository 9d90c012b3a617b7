use Rattle.std.proofs.Common.{ℕ, false, List, map, take, get_or, sym, ap, ◌∙◌, add-one}
use Rattle.c_syntax.specs.Plain.{CItem}
use Rattle.c_syntax.specs.View.{item_of}
use Rattle.c_kept.specs.Kept.{kept_at, all_kept}
use Rattle.c_kept.proofs.KeptLemmas.{one_kept}
use Rattle.c_kept.proofs.keep.keep_all.Goals as goal

pub loop-index-preserved : goal.loop-index-preserved
loop-index-preserved c =
    let all = c.args.all.now in
    let items = map item_of c.args.items.now.items in
    let i = c.loop-index.index in (
      c.keep_at.ensures.kept
          ∙ (ap (λ (l : List CItem). kept_at i (get_or all i false) l) c.loop-index.invariant.0
          ∙ (one_kept all items i false c.loop-index-test.true ∙ ap (λ (n : ℕ). all_kept (take n all) items) (sym (add-one i)))),
      c.keep_at.ensures.many ∙ c.loop-index.invariant.1,
    )
