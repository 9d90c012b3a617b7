-- Lists of the code as the plain trees have them.
use Rattle.std.specs.Prelude.{map}
use Rattle.c_syntax.specs.Plain.{CValues, CStmts, CParts, values, stmts, parts}
use Rattle.c_syntax.specs.View.{value_of, stmt_of, part_of}
use Rattle.c_syntax.specs.declared.tree.Values.{Values}
use Rattle.c_syntax.specs.declared.tree.Stmts.{Stmts}
use Rattle.c_syntax.specs.declared.tree.Parts.{Parts}

abbrev pub values_of : Values → CValues
values_of all = values (map value_of all.items.items)

abbrev pub stmts_of : Stmts → CStmts
stmts_of all = stmts (map stmt_of all.items.items)

abbrev pub parts_of : Parts → CParts
parts_of all = parts (map part_of all.items.items)
