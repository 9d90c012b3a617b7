-- Lists of trees of the code as the definitions have them.
use Rattle.std.specs.Prelude.{ℕ, map, Some}
use Rattle.c_syntax.specs.Plain as plain
use Rattle.c_syntax.specs.Plain.{CValues, CStmts, CPart, CParts, values, stmts, parts}
use Rattle.c_syntax.specs.View.{value_of, stmt_of, part_of}
use Rattle.c_syntax.specs.declared.tree.Values.{Values}
use Rattle.c_syntax.specs.declared.tree.Stmts.{Stmts}
use Rattle.c_syntax.specs.declared.tree.Parts.{Parts}

abbrev pub values_of : Values → CValues
values_of all = values (map value_of all.items.items)

abbrev pub stmts_of : Stmts → CStmts
stmts_of all = stmts (map stmt_of all.items.items)

abbrev pub parts_of : Parts → CParts
parts_of all = parts (map part_of all.items.items)

-- a `case` is compared with
abbrev pub label_jumps : CPart → ℕ
label_jumps (plain.Label at (Some e)) = 1
label_jumps p = 0
