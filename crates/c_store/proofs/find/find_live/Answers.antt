use Rattle.std.proofs.Common.{◌≡◌, ◌<◌, true, Some, length, sym, ap, ◌∙◌, arith}
use Rattle.std.specs.Prelude.{slice_get, ◌==◌}
use Rattle.std.proofs.lemmas.Bool.Decides.{nat_tests}
use Rattle.std.proofs.lemmas.Option.{slice_get-get_or}
use Rattle.c_store.specs.declared.live.Live.{Live}
use Rattle.c_store.proofs.Rows.{at_place}
use Rattle.c_store.proofs.find.find_live.Goals as goal

pub returns-then-objects-place : goal.returns-then-objects-place
returns-then-objects-place c =
    let xs = c.args.objects.now in
    let x : Live = c.index-objects-place.result in
    let y : Live = c.index-objects-place-then-objects-place.result in
    let within : c.args.place < length xs = omega arith in
    let first : slice_get xs c.args.place ≡ Some x = slice_get-get_or xs c.args.place x within ∙ ap Some (sym c.index-objects-place.is) in
    let there : slice_get xs c.args.place ≡ Some y = slice_get-get_or xs c.args.place y within ∙ ap Some (sym c.index-objects-place-then-objects-place.is) in
    let same : x ≡ y = cc (first, there) in
    let number : y.number ≡ c.args.number = sym (ap (λ (z : Live). z.number) same) ∙ (ap (λ (z : Live). z.number) c.index-objects-place.is ∙ c.if-objects-place.true) in
    let test : (y.number == c.args.number) ≡ true = grind (arith, nat_tests) in sym (at_place xs 0 c.args.number c.args.place y c.requires there test)
