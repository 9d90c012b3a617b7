-- Lists of the code as lists of the definitions.
use Rattle.std.specs.Prelude.{map}
use Rattle.c_syntax.specs.Plain.{CValues, values}
use Rattle.c_syntax.specs.View.{value_of}
use Rattle.c_syntax.specs.declared.tree.Values.{Values}

abbrev pub values_of : Values → CValues
values_of all = values (map value_of all.items.items)
