use Rattle.std.proofs.Common.{◌≡◌, ◌++◌, ◌∷◌, [], ℕ, List, map, drop, ap, subst, ◌∙◌}
use Rattle.std.specs.Prelude.{OnOk}
use Rattle.std.specs.List.{filter}
use Rattle.c_syntax.specs.View.{item_of}
use Rattle.c_syntax.specs.Plain.{CItem}
use Rattle.c_helpers.specs.Functions.{Helper, print_format}
use Rattle.c_helpers.specs.Meanings.{is_format}
use Rattle.c_helpers.specs.Fewer.{distinct, function_of, names_in_bodies}
use Rattle.c_helper_terms.specs.Helpers.{fixed}
use Rattle.c_tree_names.specs.Added.{texts}
use Rattle.c_format_terms.proofs.RowLemmas.{more_put}
use Rattle.c_format_terms.proofs.FormatLemmas.{whole, only_added}
use Rattle.c_format_terms.proofs.formats.add_helpers_for.Goals as goal

pub returns : goal.returns
returns c =
    let old = map item_of c.args.items.now.items in
    let mid = map item_of c.add_fixed.new.items.items in
    let new = map item_of c.add_formats.new.items.items in
    let formats = distinct (filter is_format (names_in_bodies (map item_of c.args.text.now))) in
    let named = only_added c.in_ok-formats.formats.keys c.as_slice.result.now c.new-names.result.items (names_in_bodies (map item_of c.args.text.now)) c.new-names.ensures.items (ap texts c.as_slice.ensures.value ∙ c.in_ok-add_bodies.ensures) c.in_ok-formats.ensures in
    let added : OnOk c.add_formats.result (new ≡ mid ++ map (λ name. function_of (print_format (drop 7 name))) formats) =
    subst (λ (l : List (List ℕ)). OnOk c.add_formats.result (new ≡ mid ++ map (λ name. function_of (print_format (drop 7 name))) l)) (ap texts c.as_slice-2.ensures.keys ∙ named) c.add_formats.ensures in
    subst (λ (l : List CItem). OnOk c.add_formats.result (new ≡ old ++ l)) (whole function_of print_format fixed formats)
    (more_put c.add_formats.result old mid new (map function_of fixed) (map (λ name. function_of (print_format (drop 7 name))) formats) c.in_ok-add_fixed.ensures added)
