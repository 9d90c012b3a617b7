use Rattle.std.proofs.Common.{◌≡◌, ◌-◌, length, map, vec_len, refl, arith}
use Rattle.c_store.specs.Shown.{cell_of}
use Rattle.c_store.proofs.Steps.{held_more, shown_more}
use Rattle.c_store.proofs.store.Store.enter_cells.Goals as goal

pub invariant_of-self-2 : goal.invariant_of-self-2
invariant_of-self-2 c =
    let cells = c.self.inside.cells.items in
    let first : vec_len c.extend_from_slice.new.self - length c.args.cells.now ≡ length cells = omega (arith, c.in_ok-extend_from_slice.ensures.len) in
    held_more c.self.inside.objects.items c.add_object.new.objects.items cells c.args.cells.now c.extend_from_slice.new.self.items c.add_object.new.cells.items c.self.inside.next c.add_object.new.next
    (vec_len c.extend_from_slice.new.self - length c.args.cells.now) (length c.args.cells.now) c.self.invariant c.in_ok-extend_from_slice.ensures.items refl first
    c.add_object.result c.add_object.ensures.objects c.add_object.ensures.next c.add_object.ensures.cells c.add_object.ensures.err_objects c.add_object.ensures.err_next c.add_object.ensures.err_cells

pub returns-clause-ok : goal.returns-clause-ok
returns-clause-ok c =
    let cells = c.self.inside.cells.items in
    let first : vec_len c.extend_from_slice.new.self - length c.args.cells.now ≡ length cells = omega (arith, c.in_ok-extend_from_slice.ensures.len) in
    shown_more c.self.inside.objects.items c.add_object.new.objects.items cells c.args.cells.now c.extend_from_slice.new.self.items c.add_object.new.cells.items c.self.inside.next c.add_object.new.next
    (vec_len c.extend_from_slice.new.self - length c.args.cells.now) (length c.args.cells.now) c.self.invariant c.in_ok-extend_from_slice.ensures.items refl first
    (map cell_of c.args.cells.now) c.args.self.now refl c.self.view_is
    c.add_object.result c.add_object.ensures.objects c.add_object.ensures.next c.add_object.ensures.cells
