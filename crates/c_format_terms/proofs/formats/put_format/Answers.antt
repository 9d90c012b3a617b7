use Rattle.std.proofs.Common.{◌≡◌, ℕ, List, true, false, sym, subst, ◌∙◌}
use Rattle.std.specs.Prelude.{OnOk}
use Rattle.c_tree_names.specs.Added.{texts}
use Rattle.c_format_terms.proofs.FormatLemmas.{format_by}
use Rattle.c_format_terms.proofs.formats.put_format.Goals as goal

pub returns-then-is_format : goal.returns-then-is_format
returns-then-is_format c =
    subst (λ (l : List (List ℕ)). OnOk c.put_name.result (texts c.put_name.new.names.keys ≡ l))
    (format_by (texts c.args.formats.now.keys) c.args.name.now true (sym c.is_format.ensures ∙ c.if-is_format.true)) c.put_name.ensures

pub returns-else-is_format : goal.returns-else-is_format
returns-else-is_format c = format_by (texts c.args.formats.now.keys) c.args.name.now false (sym c.is_format.ensures ∙ c.if-is_format.false)
