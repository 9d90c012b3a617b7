use Rattle.std.proofs.Common.{◌≡◌, ◌+◌, ◌-◌, length, replicate, vec_len, arith}
use Rattle.c_store.specs.declared.value.Cell.TheVariants as cell
use Rattle.c_store.specs.Values.{Unset}
use Rattle.c_store.proofs.Steps.{held_more, shown_more, grown_unset, map_unset, length_unset}
use Rattle.c_store.proofs.store.Store.add_unset.Goals as goal

pub invariant_of-self-2 : goal.invariant_of-self-2
invariant_of-self-2 c =
    let cells = c.self.inside.cells.items in
    let size : vec_len c.self.inside.cells ≡ length cells = omega arith in
    let end : c.in-Some.end ≡ length cells + c.args.length = omega arith in
    let first : vec_len c.resize.new.self - c.args.length ≡ length cells = omega (arith, c.in_ok-resize.ensures.len) in
    held_more c.self.inside.objects.items c.add_object.new.objects.items cells (replicate c.args.length cell.Unset) c.resize.new.self.items c.add_object.new.cells.items c.self.inside.next c.add_object.new.next
    (vec_len c.resize.new.self - c.args.length) c.args.length c.self.invariant
    (grown_unset cells c.resize.new.self.items c.in-Some.end c.args.length (vec_len c.self.inside.cells) c.in_ok-resize.ensures.items end size) (length_unset c.args.length) first
    c.add_object.result c.add_object.ensures.objects c.add_object.ensures.next c.add_object.ensures.cells c.add_object.ensures.err_objects c.add_object.ensures.err_next c.add_object.ensures.err_cells

pub returns-clause-ok : goal.returns-clause-ok
returns-clause-ok c =
    let cells = c.self.inside.cells.items in
    let size : vec_len c.self.inside.cells ≡ length cells = omega arith in
    let end : c.in-Some.end ≡ length cells + c.args.length = omega arith in
    let first : vec_len c.resize.new.self - c.args.length ≡ length cells = omega (arith, c.in_ok-resize.ensures.len) in
    shown_more c.self.inside.objects.items c.add_object.new.objects.items cells (replicate c.args.length cell.Unset) c.resize.new.self.items c.add_object.new.cells.items c.self.inside.next c.add_object.new.next
    (vec_len c.resize.new.self - c.args.length) c.args.length c.self.invariant
    (grown_unset cells c.resize.new.self.items c.in-Some.end c.args.length (vec_len c.self.inside.cells) c.in_ok-resize.ensures.items end size) (length_unset c.args.length) first
    (replicate c.args.length Unset) c.args.self.now (map_unset c.args.length) c.self.view_is
    c.add_object.result c.add_object.ensures.objects c.add_object.ensures.next c.add_object.ensures.cells
