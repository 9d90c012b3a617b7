-- A step that meets a fault takes nothing and writes nothing.
use Rattle.std.proofs.Common.{◌≡◌, ℕ, Bool, true, false, List, [], ℤ, Option, None, Some, refl, subst, ◌∙◌, cond}
use Rattle.mach_core.specs.declared.machine.Status.TheVariants.{Going}
use Rattle.mach_core.specs.Rule.{IsFault, FaultsAreSilent}
use Rattle.piet_image.specs.declared.place.Stand.{Stand}
use Rattle.piet_image.specs.Picture.{Picture}
use Rattle.piet_image.specs.Block.{Atlas}
use Rattle.piet_lang.specs.declared.act.Act.{Act}
use Rattle.piet_lang.specs.declared.act.Act.TheVariants.{Push, Pop, Add, Subtract, Multiply, Divide, Modulo, Not, Greater, Point, Switch, Duplicate, Roll, InNumber, InChar, OutNumber, OutChar}
use Rattle.piet_lang.specs.declared.act.Departure.{Departure}
use Rattle.piet_lang.specs.declared.number.Seen.{Seen}
use Rattle.piet_lang.specs.declared.number.Seen.TheVariants.{Blanks, Digits, Outside}
use Rattle.piet_lang.specs.declared.number.Progress.{Progress}
use Rattle.piet_lang.specs.declared.number.Progress.TheVariants.{On, Closed}
use Rattle.piet_lang.specs.Act.{act_fits}
use Rattle.piet_lang.specs.Number.{after_blanks, after_digits}
use Rattle.piet_lang.specs.Step.{Config, takes, bytes_of, act_taken, acted, at_fault, read_to, departure, departed, departed_by, next_of, wants_of, written_of, piet_rule}

-- a command without bytes
record IsSilent (act : Option Act) (stack : List ℤ) : Type 0 where
  takes : takes act ≡ false
  writes : bytes_of act stack ≡ []

never : (A : Type 0) → true ≡ false → A
never A e = absurd (let z : true ≡ false = e in cc)

unfit : (act : Act) (stack : List ℤ) → act_fits act stack ≡ false → IsSilent (Some act) stack
unfit Push stack e = record { takes = refl; writes = refl }
unfit Pop stack e = record { takes = refl; writes = refl }
unfit Add stack e = record { takes = refl; writes = refl }
unfit Subtract stack e = record { takes = refl; writes = refl }
unfit Multiply stack e = record { takes = refl; writes = refl }
unfit Divide stack e = record { takes = refl; writes = refl }
unfit Modulo stack e = record { takes = refl; writes = refl }
unfit Not stack e = record { takes = refl; writes = refl }
unfit Greater stack e = record { takes = refl; writes = refl }
unfit Point stack e = record { takes = refl; writes = refl }
unfit Switch stack e = record { takes = refl; writes = refl }
unfit Duplicate stack e = record { takes = refl; writes = refl }
unfit Roll stack e = record { takes = refl; writes = refl }
unfit InNumber stack e = record { takes = refl; writes = refl }
unfit InChar stack e = never (IsSilent (Some InChar) stack) e
unfit OutNumber stack e = never (IsSilent (Some OutNumber) stack) e
unfit OutChar stack e = never (IsSilent (Some OutChar) stack) e

by_fit : (size : ℕ) (c done : Config) (b : Bool) → c.standing ≡ Going → done.standing ≡ c.standing → IsFault (cond b done (at_fault c)).standing → b ≡ false
by_fit size c done true going same fault = absurd (subst IsFault (same ∙ going) fault)
by_fit size c done false going same fault = refl

acted_silent : (size : ℕ) (c : Config) (act : Act) (to : Stand) (byte : ℕ) → c.standing ≡ Going → IsFault (acted size c act to byte).standing → IsSilent (Some act) c.stack
acted_silent size c act to byte going fault = unfit act c.stack (by_fit size c _ (act_fits act c.stack) going refl fault)

read_going : (c : Config) (p : Progress) → c.standing ≡ Going → IsFault (read_to c p).standing → ⊥
read_going c (On seen) going fault = subst IsFault going fault
read_going c (Closed value) going fault = subst IsFault going fault

module _ (f : Picture) (atlas : Atlas f) where
  by_act : (c : Config) (to : Stand) (a : Option Act) (byte : ℕ) → c.standing ≡ Going → IsFault (departed_by f atlas c to a byte).standing → IsSilent a c.stack
  by_act c to None byte going fault = record { takes = refl; writes = refl }
  by_act c to (Some act) byte going fault = acted_silent (atlas.size c.at.place) c act to byte going fault

  by_departure : (c : Config) (d : Option Departure) (byte : ℕ) → c.standing ≡ Going → IsFault (departed f atlas c d byte).standing → IsSilent (act_taken d) c.stack
  by_departure c None byte going fault = record { takes = refl; writes = refl }
  by_departure c (Some d) byte going fault = by_act c d.to d.act byte going fault

  wants_none : (c : Config) (r : Option Seen) (byte : ℕ) → c.standing ≡ Going → IsFault (next_of f atlas c r byte).standing → wants_of f atlas c r ≡ false
  wants_none c None byte going fault = (by_departure c (departure f atlas c.at) byte going fault).takes
  wants_none c (Some Blanks) byte going fault = absurd (read_going c (after_blanks byte) going fault)
  wants_none c (Some (Digits negative n)) byte going fault = absurd (read_going c (after_digits negative n byte) going fault)
  wants_none c (Some Outside) byte going fault = refl

  writes_none : (c : Config) (r : Option Seen) (byte : ℕ) → c.standing ≡ Going → IsFault (next_of f atlas c r byte).standing → written_of f atlas c r ≡ []
  writes_none c None byte going fault = (by_departure c (departure f atlas c.at) byte going fault).writes
  writes_none c (Some seen) byte going fault = refl

  pub silent : FaultsAreSilent (piet_rule f atlas)
  silent = record {
    takes = λ c byte going fault. wants_none c c.reading byte going fault;
    writes = λ c byte going fault. writes_none c c.reading byte going fault;
  }
