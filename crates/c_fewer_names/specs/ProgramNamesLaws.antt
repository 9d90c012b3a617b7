-- The names that a program has with fewer operators.
use Rattle.std.specs.Prelude.{◌≡◌, true, codes}
use Rattle.c_syntax.specs.Plain.{CUnit}
use Rattle.c_types.specs.Scope.{contains}
use Rattle.c_types.specs.Units.{defined_in, start_scope}
use Rattle.c_eval.specs.Text.{text_of}
use Rattle.c_fewer_items.specs.Kept.{ItemsFit}
use Rattle.c_fewer_items.specs.FewerHeadsLaws.{CallsAreDefined}
use Rattle.c_fewer_items.specs.FewerFrontsLaws.{FormatsCallDefined}
use Rattle.c_fewer_items.specs.FewerStartsLaws.{Passes}
use Rattle.c_fewer_names.specs.NamedObjectsLaws.{FirstsStartAt}
use Rattle.c_programs.specs.Programs.{IsProgram}
use Rattle.c_fewer_names.specs.Names.{kept_in, formats_of, defined_of, is_reached, passes, BodiesReach}

-- `main` is reached
abbrev pub MainIsReached : Type 0
MainIsReached = (u : CUnit) → IsProgram u → is_reached (kept_in u) (defined_in u.items) (codes "main") ≡ true

-- the names in the bodies that are kept, and in first values of objects, pass
abbrev pub ItemsAreFit : Type 0
ItemsAreFit = (u : CUnit) → IsProgram u → ItemsFit (passes (kept_in u) (defined_in u.items)) (kept_in u) (start_scope u) u.items

-- first values of objects point at functions that are reached
abbrev pub FirstsStart : Type 0
FirstsStart = (u : CUnit) → IsProgram u → FirstsStartAt (λ name. is_reached (kept_in u) (defined_in u.items) name ≡ true) u.items

-- the names in the bodies of functions that are kept are reached
abbrev pub BodiesAreReached : Type 0
BodiesAreReached = (u : CUnit) → IsProgram u → BodiesReach (kept_in u) (λ name. is_reached (kept_in u) (defined_in u.items) name ≡ true) (text_of u).functions

-- the helper functions that are kept call only such as are defined, and so do the functions of formats
abbrev pub HelpersCallDefined : Type 0
HelpersCallDefined = (u : CUnit) → IsProgram u → CallsAreDefined (kept_in u) (defined_of u) × FormatsCallDefined (kept_in u) (defined_of u)

-- names that pass are those of the text, of operators and of formats, and all functions among them are defined
abbrev pub NamesPass : Type 0
NamesPass = (u : CUnit) → IsProgram u → Passes (passes (kept_in u) (defined_in u.items)) (formats_of u) (defined_of u) u
