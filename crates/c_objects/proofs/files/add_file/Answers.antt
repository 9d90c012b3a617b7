use Rattle.std.proofs.Common.{◌≡◌, ℕ, length, refl, ap, ◌∙◌, arith}
use Rattle.std.specs.Str.{bytes_eq}
use Rattle.ordered.specs.Order.{insert_entry}
use Rattle.c_objects.proofs.files.add_file.Goals as goal

pub returns : goal.returns
returns c =
    let a = c.args.out.now in
    let number : c.in_ok-object.object ≡ length a.objects.items = omega (arith, c.in_ok-object.ensures, c.len.ensures) in
    record {
      cells = c.in_ok-cells.cells;
      unset = c.in_ok-cells.ensures;
      objects = c.in_ok-push.ensures.items;
      files = c.in_ok-insert.ensures.entries ∙ ap (λ (n : ℕ). insert_entry (λ x y. bytes_eq x.now y.now) a.files.entries c.args.name (record { object = n; length = c.args.count })) number;
      rest = refl;
    }
