-- Laws of texts and of runs.
use Rattle.std.specs.Prelude.{◌≡◌, ◌⊎◌, ℕ, ℤ, pos, true, List, slice_get, unwrap_or}
use Rattle.std.specs.List.{AllByRecursion}
use Rattle.mach_core.specs.Integer.{is_in_range}
use Rattle.mach_core.specs.Rule.{IsInput, run}
use Rattle.sq_lang.specs.declared.text.SqFault.{SqFault}
use Rattle.sq_lang.specs.Answers.{IsRefused}
use Rattle.sq_lang.specs.Text.{sq_spells}
use Rattle.sq_lang.specs.Step.{CellMap, Config, cell_at, sq_rule, sq_start}

-- every text spells cells or is refused, never both, and each in one way only
pub record TextsAreDecided : Type 0 where
  pub some : (text : List ℕ) → ((cells : List ℤ) × sq_spells text cells) ⊎ ((fault : SqFault) × IsRefused text fault)
  pub never_both : (text : List ℕ) (cells : List ℤ) (fault : SqFault) → sq_spells text cells → IsRefused text fault → ⊥
  pub spelled_once : (text : List ℕ) (cells others : List ℤ) → sq_spells text cells → sq_spells text others → cells ≡ others
  pub refused_once : (text : List ℕ) (fault other : SqFault) → IsRefused text fault → IsRefused text other → fault ≡ other

-- at each address a program begins with its number of that place, and with 0 where it has none
abbrev pub CellsStandFromZero : Type 0
CellsStandFromZero = (program : List ℤ) (address : ℕ) → cell_at (sq_start program).cells address ≡ unwrap_or (slice_get program address) (pos 0)

-- each cell is a signed number of 64 bits
abbrev pub AreCells : CellMap → Type 0
AreCells cells = (a : ℕ) → is_in_range (cell_at cells a) ≡ true

-- and the address is one
pub record IsInRange (c : Config) : Type 0 where
  pub cells : AreCells c.cells
  pub address : is_in_range c.address ≡ true

-- cells and the address are signed numbers of 64 bits all along a run of such numbers
abbrev pub CellsStayInRange : Type 0
CellsStayInRange =
    (program : List ℤ) (input : List ℕ) (n : ℕ) → AllByRecursion (λ z. is_in_range z ≡ true) program → IsInput input
    → IsInRange (run (sq_rule program) (sq_start program) input n).config
