-- Cells and the address are signed numbers of 64 bits all along a run.
use Rattle.std.proofs.Common.{◌≡◌, ℕ, zero, suc, ◌+◌, ◌-◌, ◌^◌, ◌<◌, Bool, true, false, cond, if◌then◌else◌, List, [], ◌∷◌, Option, None, Some, unwrap_or, ℤ, pos, negsuc, nat_eq, nat_lt, nat_cmp, refl, ap, ◌∙◌, arith}
use Rattle.std.specs.Prelude.{int_le, ◌+ℤ◌, ◌-ℤ◌, unsigned_abs}
use Rattle.std.specs.List.{AllByRecursion}
use Rattle.std.specs.FinMap as map
use Rattle.std.proofs.lemmas.Bool.Decides.{nat_tests}
use Rattle.mach_core.specs.declared.machine.Status.{Status}
use Rattle.mach_core.specs.declared.machine.Status.TheVariants.{Going, Ended, Fault}
use Rattle.mach_core.specs.Integer.{is_in_range}
use Rattle.mach_core.proofs.Inputs.{fed_byte}
use Rattle.mach_core.specs.Rule.{Moment, IsInput, fed_at, if_going, stepped, applied, run_from, run, at_start}
use Rattle.sq_lang.specs.declared.act.Act.TheVariants.{Stop}
use Rattle.sq_lang.specs.Step.{CellMap, Config, cell_at, with_cell, cells_from, act_of, act_from, act_at, at_fault, after, subtracted, standing_of, takes, sq_rule, sq_start}
use Rattle.sq_lang.specs.Laws.{AreCells, IsInRange}
use Rattle.sq_lang.proofs.CellsAtStart.{cell_at-with_cell}

cond_range : (b : Bool) (x y : ℤ) → is_in_range x ≡ true → is_in_range y ≡ true → is_in_range (cond b x y) ≡ true
cond_range true x y p q = p
cond_range false x y p q = q

stored : (cells : CellMap) (a : ℕ) (v : ℤ) → AreCells cells → is_in_range v ≡ true → AreCells (with_cell cells a v)
stored cells a v all fits q = ap is_in_range (cell_at-with_cell cells a v q) ∙ cond_range (nat_eq q a) v (cell_at cells q) fits (all q)

-- the numbers of a program are
begins : (values : List ℤ) (k : ℕ) → AllByRecursion (λ z. is_in_range z ≡ true) values → AreCells (cells_from k values)
begins [] k all q = ap (λ o. is_in_range (unwrap_or o (pos 0))) (map.get-empty nat_cmp q)
begins (v ∷ values) k all q = stored (cells_from (k + 1) values) k v (begins values (k + 1) all.1) all.0 q

byte_fits : (n : ℕ) → n < 2 ^ 8 → is_in_range (pos n) ≡ true
byte_fits n small = grind (arith, nat_tests)

-- three words on from an address that has three words
next_fits : (p : ℕ) → nat_lt (2 ^ 63 - 4) p ≡ false → is_in_range (pos p +ℤ pos 3) ≡ true
next_fits p e = grind (arith, nat_tests)

module _ (p : ℕ) (cells : CellMap) (fault : Option ℕ) (byte : ℕ) (all : AreCells cells) (here : is_in_range (pos p) ≡ true) (small : byte < 2 ^ 8) where
  abbrev start : Config
  start = record { address = pos p; cells = cells; fault = fault }

  subtracted_fits : (b : ℕ) (difference target : ℤ) → is_in_range target ≡ true → is_in_range (pos p +ℤ pos 3) ≡ true → IsInRange (subtracted start b difference target)
  subtracted_fits b difference target goal next = by (is_in_range difference) refl where
    by : (t : Bool) → is_in_range difference ≡ t → IsInRange (if t then record { address = if int_le difference (pos 0) then target else pos p +ℤ pos 3; cells = with_cell cells b difference; fault = fault } else at_fault start 2)
    by true e = record { cells = stored cells b difference all e; address = cond_range (int_le difference (pos 0)) target (pos p +ℤ pos 3) goal next }
    by false e = record { cells = all; address = here }

  act_fits : (a b c : ℤ) → is_in_range c ≡ true → is_in_range (pos p +ℤ pos 3) ≡ true → IsInRange (after start (act_of a b c) byte)
  act_fits (negsuc zero) (pos b) c goal next = record { cells = stored cells b (pos byte) all (byte_fits byte small); address = next }
  act_fits (negsuc zero) (negsuc b) c goal next = record { cells = all; address = here }
  act_fits (negsuc (suc a)) b c goal next = record { cells = all; address = here }
  act_fits (pos a) (negsuc zero) c goal next = record { cells = all; address = next }
  act_fits (pos a) (negsuc (suc b)) c goal next = record { cells = all; address = here }
  act_fits (pos a) (pos b) c goal next = subtracted_fits b (cell_at cells b -ℤ cell_at cells a) c goal next

  step_fits : IsInRange (after start (act_from cells p) byte)
  step_fits = by (nat_lt (2 ^ 63 - 4) p) refl where
    by : (t : Bool) → nat_lt (2 ^ 63 - 4) p ≡ t → IsInRange (after start (if t then Stop 2 else act_of (cell_at cells p) (cell_at cells (p + 1)) (cell_at cells (p + 2))) byte)
    by true e = record { cells = all; address = here }
    by false e = act_fits (cell_at cells p) (cell_at cells (p + 1)) (cell_at cells (p + 2)) (all (p + 2)) (next_fits p e)

going_fits : (fault : Option ℕ) (address : ℤ) (cells : CellMap) (byte : ℕ) → AreCells cells → is_in_range address ≡ true → byte < 2 ^ 8 → standing_of fault address ≡ Going
    → IsInRange (after (record { address = address; cells = cells; fault = fault }) (act_from cells (unsigned_abs address)) byte)
going_fits (Some code) address cells byte all here small e = cc
going_fits None (pos p) cells byte all here small e = step_fits p cells None byte all here small
going_fits None (negsuc p) cells byte all here small e = cc

applied_fits : (program : List ℤ) (input : List ℕ) (m : Moment Config) → IsInput input → IsInRange m.config → IsInRange (applied (sq_rule program) input m).config
applied_fits program input m is h = by (standing_of m.config.fault m.config.address) refl where
  by : (s : Status) → standing_of m.config.fault m.config.address ≡ s → IsInRange (if_going s (stepped (sq_rule program) input m) m).config
  by Going e =
      going_fits m.config.fault m.config.address m.config.cells (fed_at (sq_rule program) input m) h.cells h.address
      (fed_byte (takes (act_at m.config)) input m.taken is) e
  by Ended e = h
  by (Fault code) e = h

run_fits : (program : List ℤ) (input : List ℕ) (m : Moment Config) (n : ℕ) → IsInput input → IsInRange m.config → IsInRange (run_from (sq_rule program) input m n).config
run_fits program input m zero is h = h
run_fits program input m (suc n) is h = applied_fits program input (run_from (sq_rule program) input m n) is (run_fits program input m n is h)

-- from numbers of 64 bits on
pub cells_stay_in_range : (program : List ℤ) (input : List ℕ) (n : ℕ) → AllByRecursion (λ z. is_in_range z ≡ true) program → IsInput input → IsInRange (run (sq_rule program) (sq_start program) input n).config
cells_stay_in_range program input n all is = run_fits program input (at_start (sq_start program)) n is (record { cells = begins program 0 all; address = refl })
