-- Steps that only subtract and stay in range, and steps with what is held.
use Rattle.std.proofs.Common.{◌≡◌, ℕ, ◌+◌, ◌-◌, ◌^◌, Bool, true, false, nat_lt, if◌then◌else◌, List, [], ◌++◌, ℤ, pos, negsuc, FitsSigned, w64, Option, refl, sym, ap, subst, ◌∙◌, arith, append-nil}
use Rattle.std.specs.Prelude.{int_le, int_lt, ◌+ℤ◌, ◌-ℤ◌, unsigned_abs, None}
use Rattle.std.proofs.lemmas.Bool.Decides.{nat_tests}
use Rattle.mach_core.specs.Integer.{is_in_range}
use Rattle.mach_core.specs.Held.{Buffers, TakesHeld, StepHeld, StepsHeld}
use Rattle.sq_lang.specs.declared.act.Act.TheVariants.{Subtract, Stop}
use Rattle.sq_lang.specs.Step.{CellMap, Config, cell_at, with_cell, act_of, act_from, act_at, after, subtracted, at_fault, takes, bytes_of, sq_rule}
use Rattle.sq_lang.specs.Quiet.{placed, IsQuietStep}

pub in_range : (z : ℤ) → FitsSigned w64 z → is_in_range z ≡ true
in_range (pos n) fits =
    let low = fits.sfits in
    grind (arith, nat_tests)
in_range (negsuc n) fits =
    let low = fits.sfits in
    grind (arith, nat_tests)

-- the act of three words that subtract
act_is : (cells : CellMap) (p x y : ℕ) (target : ℤ) → nat_lt (2 ^ 63 - 4) p ≡ false → pos x ≡ cell_at cells p → pos y ≡ cell_at cells (p + 1) → target ≡ cell_at cells (p + 2) → act_from cells p ≡ Subtract x y target
act_is cells p x y target low first second third =
    ap (λ t. if t then Stop 2 else act_of (cell_at cells p) (cell_at cells (p + 1)) (cell_at cells (p + 2))) low
    ∙ (ap (λ v. act_of v (cell_at cells (p + 1)) (cell_at cells (p + 2))) (sym first)
    ∙ (ap (λ v. act_of (pos x) v (cell_at cells (p + 2))) (sym second)
    ∙ ap (λ v. Subtract x y v) (sym third)))

-- what it leads to
leads_to : (p b : ℕ) (cells : CellMap) (difference target : ℤ) → is_in_range difference ≡ true → subtracted (placed (pos p) cells) b difference target ≡ placed (if int_le difference (pos 0) then target else pos p +ℤ pos 3) (with_cell cells b difference)
leads_to p b cells difference target fits =
    ap (λ (t : Bool). if t then placed (if int_le difference (pos 0) then target else pos p +ℤ pos 3) (with_cell cells b difference) else at_fault (placed (pos p) cells) 2) fits

subtracts : (cells cells' : CellMap) (p x y : ℕ) (target difference next : ℤ) → nat_lt (2 ^ 63 - 4) p ≡ false → pos x ≡ cell_at cells p → pos y ≡ cell_at cells (p + 1) → target ≡ cell_at cells (p + 2)
    → difference ≡ cell_at cells y -ℤ cell_at cells x → is_in_range difference ≡ true → cells' ≡ with_cell cells y difference → next ≡ (if int_le difference (pos 0) then target else pos p +ℤ pos 3)
    → IsQuietStep (placed (pos p) cells) (placed next cells')
subtracts cells cells' p x y target difference next low first second third is fits put goes =
    let act = act_is cells p x y target low first second third in
    record {
      going = refl;
      takes_none = ap takes act;
      writes_none = ap (bytes_of cells) act;
      leads =
          ap (λ a. after (placed (pos p) cells) a 0) act
          ∙ (ap (λ z. subtracted (placed (pos p) cells) y z target) (sym is)
          ∙ (leads_to p y cells difference target fits
          ∙ (ap (λ z. placed z (with_cell cells y difference)) (sym goes) ∙ ap (placed next) (sym put))));
    }

not_past : (p : ℕ) → int_lt (pos (2 ^ 63 - 4)) (pos p) ≡ false → nat_lt (2 ^ 63 - 4) p ≡ false
not_past p e = e

pub quiet_step : (cells cells' : CellMap) (at a b target difference next : ℤ) → int_lt at (pos 0) ≡ false → int_lt (pos (2 ^ 63 - 4)) at ≡ false
    → a ≡ cell_at cells (unsigned_abs at) → b ≡ cell_at cells (unsigned_abs at + 1) → target ≡ cell_at cells (unsigned_abs at + 2) → int_lt a (pos 0) ≡ false → int_lt b (pos 0) ≡ false
    → difference ≡ cell_at cells (unsigned_abs b) -ℤ cell_at cells (unsigned_abs a) → FitsSigned w64 difference → cells' ≡ with_cell cells (unsigned_abs b) difference
    → next ≡ (if int_le difference (pos 0) then target else at +ℤ pos 3) → IsQuietStep (placed at cells) (placed next cells')
quiet_step cells cells' (negsuc p) a b target difference next at_least at_most first second third a_least b_least is fits put goes = cc
quiet_step cells cells' (pos p) (negsuc x) b target difference next at_least at_most first second third a_least b_least is fits put goes = cc
quiet_step cells cells' (pos p) (pos x) (negsuc y) target difference next at_least at_most first second third a_least b_least is fits put goes = cc
quiet_step cells cells' (pos p) (pos x) (pos y) target difference next at_least at_most first second third a_least b_least is fits put goes =
    subtracts cells cells' p x y target difference next (not_past p at_most) first second third is (in_range difference fits) put goes

-- where there is no fault
pub unfaulted : (program : List ℤ) (old : Config) (at at' : ℤ) (cells cells' : CellMap) (fault : Option ℕ) (made : ℕ) (before after' : Buffers) → record { address = at; cells = cells; fault = fault } ≡ old → fault ≡ None
    → StepsHeld (sq_rule program) (placed at cells) before made (placed at' cells') after' → StepsHeld (sq_rule program) old before made (record { address = at'; cells = cells'; fault = fault }) after'
unfaulted program old at at' cells cells' fault made before after' is none held =
    let P : Option ℕ → Type 0 = λ f. StepsHeld (sq_rule program) (record { address = at; cells = cells; fault = f }) before made (record { address = at'; cells = cells'; fault = f }) after' in
    let Q : Config → Type 0 = λ o. StepsHeld (sq_rule program) o before made (record { address = at'; cells = cells'; fault = fault }) after' in
    subst Q is (subst P (sym none) held)
