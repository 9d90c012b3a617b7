use Rattle.std.proofs.Common.{sym, ◌∙◌}
use Rattle.ws_lang.specs.Labels.{found_at}
use Rattle.ws_lang.proofs.LabelLemmas.{note_new, note_kept}
use Rattle.ws_lang.proofs.labels.note.Goals as goal

pub returns-in_ok-insert : goal.returns-in_ok-insert
returns-in_ok-insert c = λ other. note_new c.args.table.now.entries c.in_ok-from_slice.field-0 c.args.label.now other (found_at other c.insert.new.self.entries) c.args.place (c.in_ok-from_slice.ensures.items ∙ c.deref.ensures.value) (sym c.if-not-contains_key.ensures) (c.in_ok-insert.ensures.updates.0 other)

pub returns-else-not-contains_key : goal.returns-else-not-contains_key
returns-else-not-contains_key c = λ other. note_kept c.args.table.now.entries c.args.label.now other c.args.place (sym c.if-not-contains_key.ensures)
