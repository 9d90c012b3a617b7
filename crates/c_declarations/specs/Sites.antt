-- First values where they stand.
use Rattle.std.specs.Prelude.{List, map}
use Rattle.c_syntax.specs.Plain.{CValues, values}
use Rattle.c_syntax.specs.View.{value_of}
use Rattle.c_syntax.specs.declared.tree.Values.{Values}
use Rattle.c_types.specs.Declarations as plain
use Rattle.c_types.specs.Table.{Table}
use Rattle.c_layouts.specs.declared.layout.Layout.{Layout}
use Rattle.c_declared.specs.declared.slots.Slots.{Slots}
use Rattle.c_declared.specs.Slots.{AreSlots}
use Rattle.c_declarations.specs.declared.values.Site.{Site}

abbrev pub site_of : Site → plain.Site
site_of site = record { file = site.file; pos = site.at }

-- the values of a list of the code
abbrev pub values_of : Values → CValues
values_of all = values (map value_of all.items.items)

-- the slots of the code are some of the definitions
abbrev pub AreSomeSlots : Table → List Layout → Slots → Type 0
AreSomeSlots table layouts slots = (s : plain.Slots) × AreSlots table layouts slots s
