-- Commands as acts.
use Rattle.std.specs.Prelude.{List, map as map_list}
use Rattle.piet_lane.specs.declared.command.Command.{Command}
use Rattle.piet_lane.specs.declared.command.Command.TheVariants.{Push, Pop, Add, Subtract, Multiply, Divide, Modulo, Not, Greater, Duplicate, Roll, InChar, OutChar}
use Rattle.piet_lang.specs.declared.act.Act.{Act}
use Rattle.piet_lang.specs.declared.act.Act.TheVariants.{Push as act_Push, Pop as act_Pop, Add as act_Add, Subtract as act_Subtract, Multiply as act_Multiply, Divide as act_Divide, Modulo as act_Modulo, Not as act_Not, Greater as act_Greater, Duplicate as act_Duplicate, Roll as act_Roll, InChar as act_InChar, OutChar as act_OutChar}

-- the act of a command
abbrev pub act_of_command : Command → Act
act_of_command Push = act_Push
act_of_command Pop = act_Pop
act_of_command Add = act_Add
act_of_command Subtract = act_Subtract
act_of_command Multiply = act_Multiply
act_of_command Divide = act_Divide
act_of_command Modulo = act_Modulo
act_of_command Not = act_Not
act_of_command Greater = act_Greater
act_of_command Duplicate = act_Duplicate
act_of_command Roll = act_Roll
act_of_command InChar = act_InChar
act_of_command OutChar = act_OutChar

abbrev pub acts_of : List Command → List Act
acts_of commands = map_list act_of_command commands

abbrev pub lanes_of : List (List Command) → List (List Act)
lanes_of lanes = map_list acts_of lanes
