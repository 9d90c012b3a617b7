-- What is met where nothing stands.
use Rattle.std.proofs.Common.{◌≡◌, Option, None, Some, refl, sym, ap}
use Rattle.piet_image.specs.declared.place.Place.{Place}
use Rattle.piet_image.specs.declared.place.Pointer.{Pointer}
use Rattle.piet_image.specs.declared.met.Met.{Met}
use Rattle.piet_image.specs.declared.met.Met.TheVariants.{Blocked}
use Rattle.piet_image.specs.Picture.{Picture, beside, met_by, met_at, ahead}

pub nothing_ahead : (f : Picture) (d : Pointer) (p : Place) → ((q : Place) → beside d p ≡ Some q → f q ≡ None) → Blocked ≡ ahead f d p
nothing_ahead f d p none = go (beside d p) none
  where
    go : (o : Option Place) → ((q : Place) → o ≡ Some q → f q ≡ None) → Blocked ≡ met_at f o
    go None h = refl
    go (Some q) h = sym (ap (met_by q) (h q refl))
