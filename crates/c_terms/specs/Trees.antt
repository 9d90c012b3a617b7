-- The types of a list, as they are written.
use Rattle.std.specs.Prelude.{List, [], ◌∷◌}
use Rattle.c_syntax.specs.Plain.{CTy}
use Rattle.c_types.specs.Types.{CTypes, NoType, MoreType}
use Rattle.c_helpers.specs.Fewer.{type_tree}

abbrev pub trees_of : CTypes → List CTy
trees_of NoType = []
trees_of (MoreType t ts) = type_tree t ∷ trees_of ts
