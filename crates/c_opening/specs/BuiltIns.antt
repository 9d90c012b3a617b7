-- The types of the functions that are always known.
use Rattle.std.specs.Prelude.{List, [], ◌∷◌}
use Rattle.c_types.specs.Types.{CType, Void, Int, Char, Pointer}
use Rattle.c_opening.specs.declared.built_ins.Gives.{Gives}
use Rattle.c_opening.specs.declared.built_ins.Gives.TheVariants as gives
use Rattle.c_opening.specs.declared.built_ins.Takes.{Takes}
use Rattle.c_opening.specs.declared.built_ins.Takes.TheVariants as takes

abbrev pub result_of : Gives → CType
result_of gives.Nothing = Void
result_of gives.Number = Int

abbrev pub parameters_of : Takes → List CType
parameters_of takes.Nothing = []
parameters_of takes.Number = Int ∷ []
parameters_of takes.Text = Pointer Char ∷ []
