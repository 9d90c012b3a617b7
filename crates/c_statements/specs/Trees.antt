-- Lists of statements and of parts of a `switch`, as the definitions have them.
use Rattle.std.specs.Prelude.{map}
use Rattle.c_syntax.specs.Plain.{CStmts, CParts, stmts, parts}
use Rattle.c_syntax.specs.View.{stmt_of, part_of}
use Rattle.c_syntax.specs.declared.tree.Stmts.{Stmts}
use Rattle.c_syntax.specs.declared.tree.Parts.{Parts}

abbrev pub stmts_of : Stmts → CStmts
stmts_of all = stmts (map stmt_of all.items.items)

abbrev pub parts_of : Parts → CParts
parts_of all = parts (map part_of all.items.items)
