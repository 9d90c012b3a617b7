use Rattle.std.proofs.Common.{◌≡◌, length, map, sym, ap, ◌∙◌, arith}
use Rattle.c_store.specs.Shown.{cell_of}
use Rattle.c_store.proofs.Rows.{length_objects}
use Rattle.c_store.proofs.store.Store.count.Goals as goal

pub returns : goal.returns
returns c =
    let count : c.len.result ≡ length c.self.inside.objects.items = omega arith in
    count ∙ (sym (length_objects c.self.inside.objects.items (map cell_of c.self.inside.cells.items)) ∙ ap (λ s. length s.live) c.self.view_is)
