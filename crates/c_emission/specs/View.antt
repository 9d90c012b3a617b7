-- What locations and values in code stand for.
use Rattle.c_lowered.specs.Locations as plain
use Rattle.c_emission.specs.declared.location.Location.{Location}
use Rattle.c_emission.specs.declared.location.Location.TheVariants.{Fixed, Framed}
use Rattle.c_emission.specs.declared.location.Direct.{Direct}
use Rattle.c_emission.specs.declared.location.Direct.TheVariants.{Exactly, Address, Stored}

abbrev pub location_of : Location → plain.Location
location_of (Fixed a) = plain.Fixed a
location_of (Framed k) = plain.Framed k

abbrev pub direct_of : Direct → plain.Direct
direct_of (Exactly n) = plain.Exactly n
direct_of (Address k) = plain.Address k
direct_of (Stored l) = plain.Stored (location_of l)
