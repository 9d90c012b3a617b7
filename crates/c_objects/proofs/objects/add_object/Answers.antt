use Rattle.c_syntax.specs.View.{maybe_value}
use Rattle.c_types.specs.Known.{OneType}
use Rattle.c_declared.proofs.HeldLemmas.{holds_kept, held_kept}
use Rattle.c_cells.proofs.StructLemmas.{struct_kinds_kept}
use Rattle.c_eval.specs.LiteralsIn.{first_literals}
use Rattle.c_eval.specs.Text.{first_cells}
use Rattle.c_emitted.proofs.EmitLemmas.{on_ok}
use Rattle.c_objects.proofs.ObjectLemmas.{file_known, object_made}
use Rattle.c_objects.proofs.objects.add_object.Goals as goal

pub returns-clause-object : goal.returns-clause-object
returns-clause-object c = λ t here inner has behind holds stands structs quiet.
    let old = c.args.types.now in
    let mid = c.cell_count.new.types in
    let d = c.args.declared.now in
    let a = c.args.out.now in
    let b = c.add_file.new.out in
    let e = c.first_cells.new.out in
    let name = c.args.name in
    let count = c.in_ok-count.count in
    let first = maybe_value c.args.first.now in
    let adds = c.in_ok-add_file.ensures in
    let grows = c.in_ok-count.ensures.grows in
    let same = c.in_ok-count.ensures.tags in
    let at = file_known mid d a b here inner name count (holds_kept old mid d inner.scope grows same holds) adds stands behind in
    let gives = c.in_ok-cells.ensures.cells t inner (grows c.args.ty (OneType t) has) at (struct_kinds_kept old mid c.args.structs.now inner.scope.tags same structs) quiet in
    on_ok c.set_last.result (λ sets.
    object_made mid d a b e c.set_last.new.out here inner name count c.in_ok-cells.cells.items (first_cells t first inner) (first_literals inner.scope first) adds stands behind gives (c.in_ok-count.ensures.count t inner has holds structs quiet) sets) c.set_last.ensures

pub first_cells-requires-clause-holds : goal.first_cells-requires-clause-holds
first_cells-requires-clause-holds c = held_kept c.args.types.now c.cell_count.new.types c.args.declared.now c.in_ok-count.ensures.grows c.in_ok-count.ensures.tags c.requires.holds
