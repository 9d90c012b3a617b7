use Rattle.std.proofs.Common.{◌≡◌, ◌++◌, ℕ, List, map, drop, sym, ap, ◌∙◌}
use denote.Ref.{Bor}
use Rattle.c_syntax.specs.View.{item_of}
use Rattle.c_syntax.specs.Plain.{CItem}
use Rattle.c_helpers.specs.Functions.{print_format}
use Rattle.c_helpers.specs.Fewer.{function_of}
use Rattle.c_format_terms.proofs.RowLemmas.{goes_on, all_made}
use Rattle.c_format_terms.proofs.FormatLemmas.{map_twice}
use Rattle.c_format_terms.proofs.formats.add_formats.Goals as goal

abbrev made_of : Bor (List ℕ) → CItem
made_of name = function_of (print_format (drop 7 name.now))

pub loop-name-preserved : goal.loop-name-preserved
loop-name-preserved c =
    let names = c.args.names.now in
    let i = c.loop-name.name-index in
    goes_on item_of made_of c.loop-name.items.items c.push.new.self.items c.in_ok-item.item names i _ (map item_of c.args.items.now.items ++ map made_of names)
    c.in_ok-push.ensures.items (c.in_ok-item.ensures ∙ ap (λ (f : List ℕ). function_of (print_format f)) c.format_of-format.ensures) c.loop-name-test.true c.loop-name.invariant

pub returns : goal.returns
returns c =
    let names = c.args.names.now in
    all_made item_of made_of c.loop-name.items.items names c.loop-name.name-index (map item_of c.args.items.now.items ++ map made_of names) c.loop-name-test.false c.loop-name.invariant
    ∙ sym (ap (λ (l : List CItem). map item_of c.args.items.now.items ++ l) (map_twice (λ (n : Bor (List ℕ)). n.now) (λ (n : List ℕ). function_of (print_format (drop 7 n))) names))
