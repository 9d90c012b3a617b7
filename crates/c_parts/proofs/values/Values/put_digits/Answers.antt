use Rattle.std.proofs.Common.{◌-◌, ◌<◌, ◌++◌, ◌∙◌, ap, length, arith, List}
use Rattle.std.specs.Prelude.{slice_set}
use Rattle.c_store.specs.declared.value.Value as rust
use Rattle.c_store.specs.declared.value.Value.TheVariants.{Missing}
use Rattle.c_parts.proofs.Piles.{spread, some_mine}
use Rattle.c_parts.proofs.values.Values.put_digits.Goals as goal

pub returns-clause-ok : goal.returns-clause-ok
returns-clause-ok c =
    let some : c.self.inside.base < length c.self.inside.items.items = some_mine c.self.inside.base c.self.inside.items.items c.args.self.now c.self.view_is c.requires in
    spread c.self.inside.base (c.len-index.result - 1) c.self.inside.items.items c.args.digits.now _ Missing c.args.self.now c.self.view_is (omega (arith, c.self.inside.items.ok.0)) (omega (arith, c.self.inside.items.ok.0))
    (ap (λ (us : List rust.Value). slice_set us (c.len-index.result - 1) Missing) c.in_ok-extend_from_slice.ensures.items)
