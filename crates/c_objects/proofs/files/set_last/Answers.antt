use Rattle.std.proofs.Common.{List, ◌++◌, [], ◌∷◌, refl, ap, ◌∙◌}
use Rattle.std.specs.Prelude.{Vec}
use Rattle.std.proofs.Common.{vec_len}
use Rattle.std.specs.declared.alloc.Global.{Global}
use Rattle.c_store.specs.declared.value.Cell as rust
use Rattle.c_objects.proofs.ObjectLemmas.{all_but_last}
use Rattle.c_objects.proofs.files.set_last.Goals as goal

pub returns : goal.returns
returns c =
    let os = c.args.out.now.objects in
    record {
      object = c.args.cells;
      is = refl;
      objects = λ others last e.
          c.in_ok-push.ensures.items ∙ ap (λ (l : List (Vec rust.Cell Global)). l ++ c.args.cells ∷ []) (c.pop.ensures.rest ∙ all_but_last os.items others last (vec_len os) e os.ok.0);
      rest = refl;
    }
