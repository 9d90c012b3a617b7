-- For proofs only: numbers that are read stay within signed 64 bits.
use Rattle.std.specs.Prelude.{◌≡◌, true, Option, None, Some}
use Rattle.mach_core.specs.Integer.{is_in_range}
use Rattle.piet_lang.specs.declared.number.Seen.{Seen}
use Rattle.piet_lang.specs.declared.number.Seen.TheVariants.{Blanks, Digits, Outside}
use Rattle.piet_lang.specs.declared.number.Progress.{Progress}
use Rattle.piet_lang.specs.declared.number.Progress.TheVariants.{On, Closed}
use Rattle.piet_lang.specs.Number.{signed}

-- the number of the digits is in range
abbrev pub SeenFits : Seen → Type 0
SeenFits Blanks = Unit {0}
SeenFits (Digits negative n) = is_in_range (signed negative n) ≡ true
SeenFits Outside = Unit {0}

abbrev pub ReadingFits : Option Seen → Type 0
ReadingFits None = Unit {0}
ReadingFits (Some seen) = SeenFits seen

abbrev pub ProgressFits : Progress → Type 0
ProgressFits (On seen) = SeenFits seen
ProgressFits (Closed value) = Unit {0}
