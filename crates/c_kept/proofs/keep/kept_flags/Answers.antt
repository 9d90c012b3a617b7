use Rattle.std.proofs.Common.{◌≡◌, List, Bool, map, length, ap, ◌∙◌}
use Rattle.std.proofs.lemmas.List.{length-map}
use Rattle.c_syntax.specs.View.{item_of}
use Rattle.c_tree_names.specs.Added.{texts}
use Rattle.c_helpers.specs.Simple.{reached}
use Rattle.c_kept.specs.Kept.{stays, all_kept}
use Rattle.c_kept.proofs.KeptLemmas.{flags_keep, ok_map}
use Rattle.c_kept.proofs.keep.kept_flags.Goals as goal

pub returns-clause-many : goal.returns-clause-many
returns-clause-many c = ok_map c.flags.result (λ all e. ap length e ∙ length-map c.args.items.now (λ i. stays (texts c.in_ok-known.known.keys) (item_of i))) c.flags.ensures

pub returns-clause-kept : goal.returns-clause-kept
returns-clause-kept c =
    let items = c.args.items.now in
    ok_map c.flags.result (λ all e. ap (λ (l : List Bool). all_kept l (map item_of items)) e ∙ flags_keep item_of (texts c.in_ok-known.known.keys) (reached (map item_of items)) c.in_ok-known.ensures items) c.flags.ensures
