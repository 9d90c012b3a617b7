use Rattle.ws_lang.proofs.LabelLemmas.{table_mark, table_same}
use Rattle.ws_lang.proofs.labels.table_of.Goals as goal
use Rattle.ws_lang.proofs.labels.table_of.Goals.{in-Some+in_ok-note, in_default}

pub loop-place-preserved : goal.loop-place-preserved
loop-place-preserved c =
    elim c.match-mark.branch [
      | in-Some+in_ok-note w ↦ rw w.table-is (table_mark c.args.ops.now c.loop-place.place c.index-ops-place.result w.in-Some.label.now c.loop-place.table.entries w.note.new.table.entries c.loop-place-test.true c.index-ops-place.is w.in-Some.ensures c.loop-place.invariant w.in_ok-note.ensures)
      | in_default w ↦ rw w.table-is (table_same c.args.ops.now c.loop-place.place c.index-ops-place.result c.loop-place.table.entries c.loop-place-test.true c.index-ops-place.is w.in_default.ensures c.loop-place.invariant)
    ]
