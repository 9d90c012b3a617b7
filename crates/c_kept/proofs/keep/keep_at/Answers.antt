use Rattle.std.proofs.Common.{Bool, map, sym, ap, ◌∙◌}
use Rattle.c_syntax.specs.View.{item_of}
use Rattle.c_kept.specs.Kept.{kept_at}
use Rattle.c_kept.proofs.KeptLemmas.{still, set_kept}
use Rattle.c_kept.proofs.keep.keep_at.Goals as goal

pub returns-then-not-flag-clause-kept : goal.returns-then-not-flag-clause-kept
returns-then-not-flag-clause-kept c =
    let items = c.args.items.now.items in
    set_kept item_of items c.args.index c.drop_body.new.item c.index_mut.result.now c.index_mut.ensures.value c.drop_body.ensures
    ∙ ap (λ (b : Bool). kept_at c.args.index b (map item_of items)) (sym c.if-not-flag.true)

pub returns-else-not-flag-clause-kept : goal.returns-else-not-flag-clause-kept
returns-else-not-flag-clause-kept c =
    let items = map item_of c.args.items.now.items in
    sym (still c.args.index items) ∙ ap (λ (b : Bool). kept_at c.args.index b items) (sym c.if-not-flag.false)
