-- Programs that follow texts.
use Rattle.std.specs.Prelude.{◌≡◌, ℕ, ◌+◌, ◌*◌, ◌≤◌, Bool, List, None, codes}
use Rattle.eir_core.specs.Eir.{Eir}
use Rattle.eir_core.specs.Memory.{Memory}
use Rattle.eir_core.specs.Step.{eir_start}
use Rattle.c_eval.specs.Environment.{Callee}
use Rattle.c_eval.specs.Text.{Text}
use Rattle.c_eval.specs.Meaning.{Rules, eval, meaning_in}
use Rattle.c_place.specs.Place.{front, Stands}
use Rattle.c_lowered.specs.Whole.{opening_code}
use Rattle.c_memory.specs.Lies.{Extent, Lies}
use Rattle.c_landing.specs.Landing.{NamesLie, Setting, LettersLie}
use Rattle.c_followed.specs.Faithful.{IsFaithful}
use Rattle.c_followed.specs.Framed.{outside, MayCall, FramesFit, TextStands, UsesLand}

abbrev pub first_memory : Eir → Memory
first_memory p = (eir_start p).memory

-- a program begins with the opening call of `main`; the objects of file scope lie in its first memory below the first frame, with the literals of the text
pub record Opens (S : Setting) (t : Text) (rules : Rules) (first : ℕ) : Type 0 where
  pub start : S.program.start ≡ 0
  pub code : Stands S.program (front 0) (opening_code first (S.ground.entry (codes "main")))
  pub some : 1 ≤ first
  pub main : rules.helps (codes "main") ≡ None
  pub bases : List Extent
  pub lies : Lies S.ground bases t.objects (first_memory S.program) first
  pub letters : LettersLie S.ground bases t.objects (first_memory S.program) first
  pub file : (bp : ℕ) → NamesLie bases bp S.file_bases S.file_coded S.file_named

-- where the functions of a text stand, and uses of helper functions land, its program is faithful to it at each fuel: a unit takes so many steps at most, and so does what is before the first
abbrev pub TextsAreFollowed : Type 0
TextsAreFollowed =
    (S : Setting) (t : Text) (rules : Rules) (first u rate fuel : ℕ) (may : Callee → Bool) → 1 ≤ rate → FramesFit S first → MayCall S may → TextStands S t rules u rate may → UsesLand (outside S rate) rules u may → Opens S t rules first
    → IsFaithful S.program S.input fuel ((rate + 5) * (fuel + 1)) (meaning_in (eval rules t S.input fuel))
