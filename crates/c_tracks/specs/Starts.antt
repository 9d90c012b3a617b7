-- A plain program is that of a text, and starts as it does.
use Rattle.std.specs.Prelude.{◌≡◌, ℕ, List, map, Some, slice_get, codes}
use Rattle.mach_core.specs.Rule.{at_start}
use Rattle.c_syntax.specs.Plain.{CUnit}
use Rattle.c_eval.specs.State as run
use Rattle.c_eval.specs.Memory.{live_object}
use Rattle.c_eval.specs.Text.{text_of}
use Rattle.c_rule.specs.Laws.{text_code, text_start}
use Rattle.c_plain.specs.Program.{Program}
use Rattle.c_plain.specs.Rule.{nothing_yet, opening_call}
use Rattle.c_resolved.specs.Same.{SameBlock}
use Rattle.c_resolved.specs.Means.{tables_of, file_lengths}
use Rattle.c_tracks.specs.Tracks.{IsCode}
use Rattle.c_tracks.specs.Laws.{SameMoment}

-- a plain program has the code of a text, in which the functions have these names by number, and its objects of file scope
pub record IsOfText (names : List (List ℕ)) (p : Program) (u : CUnit) : Type 0 where
  pub code : IsCode names p (text_code u)
  pub main : slice_get names p.main ≡ Some (codes "main")
  pub new : List (List run.Cell)
  pub objects : (text_of u).objects ≡ map live_object new
  pub cells : SameBlock (tables_of names p) (file_lengths p) new p.objects

-- the opening calls go along with one another
abbrev pub PlainStartsAsText : Type 0
PlainStartsAsText =
    (names : List (List ℕ)) (p : Program) (u : CUnit) (fuel : ℕ) → IsOfText names p u → SameMoment names p (at_start (text_start u fuel)) (at_start (opening_call p (nothing_yet p fuel)).config)
