use Rattle.std.proofs.Common.{ℕ, List, ◌++◌, sym, subst, ap, ◌∙◌}
use Rattle.c_syntax.specs.Words.{meaning}
use Rattle.c_emission.specs.declared.location.Location.{Location}
use Rattle.c_lowered.specs.Locations as plain
use Rattle.c_addressing.specs.Names.{number_in, located_in}
use Rattle.c_addressing.specs.Places.{IsLocation}
use Rattle.c_addressing.proofs.PlaceLemmas.{located_is}
use Rattle.c_addressing.proofs.names.located.Goals as goal

pub returns : goal.returns
returns c = λ out w env is.
    let h = c.args.here.now in
    let name = c.args.name.now in
    let o = meaning (h.slots.block ++ h.slots.outer) name in
    let found = c.located_in.ensures ∙ (ap (λ (b : List Location). located_in b c.number_in.result) c.as_slice.ensures.value ∙ ap (located_in h.bases.items) (c.number_in.ensures ∙ ap number_in c.get.ensures)) in
    subst (λ (l : Location). IsLocation l (plain.located w (meaning env.objects name))) (sym found) (located_is h.bases.items w o (meaning env.objects name) is.bases (is.slots name))
