-- Which typed tree a text spells, and why it spells none.
use Rattle.std.specs.Prelude.{◌≡◌, ◌⊎◌, ℕ, List, Ok, Err}
use Rattle.c_syntax.specs.declared.token.Token.{Token}
use Rattle.c_syntax.specs.Plain.{CUnit}
use Rattle.c_prep.specs.declared.fault.PrepFault.TheVariants as prep
use Rattle.c_prep.specs.Prepared.{prepared}
use Rattle.c_parse.specs.declared.fault.ParseFault.{ParseFault}
use Rattle.c_parse.specs.declared.fault.ParseFault.TheVariants as parse
use Rattle.c_parse.specs.Answer.{Parses}
use Rattle.c_types.specs.declared.fault.TypeFault.{TypeFault}
use Rattle.c_types.specs.declared.fault.TypeFault.TheVariants as type
use Rattle.c_types.specs.Limits.{answer_to}
use Rattle.c_source.specs.declared.fault.SourceFault.{SourceFault}
use Rattle.c_source.specs.declared.fault.SourceFault.TheVariants.{Prepare, Parse, Check}

-- the text is prepared to tokens, which spell this unit
pub record Parsed (text : List ℕ) (u : CUnit) : Type 0 where
  pub tokens : List Token
  pub prepares : prepared text ≡ Ok tokens
  pub parses : Parses tokens (Ok u)

-- and the unit is typed, all within the limits
pub record Spells (text : List ℕ) (u : CUnit) : Type 0 where
  pub parsed : Parsed text u
  pub weight : ℕ
  pub types : answer_to u ≡ Ok weight

-- the tokens of the text are refused so
pub record IsNoUnit (text : List ℕ) (e : ParseFault) : Type 0 where
  pub tokens : List Token
  pub prepares : prepared text ≡ Ok tokens
  pub refused : Parses tokens (Err e)

-- the unit of the text is refused so
pub record IsUntyped (text : List ℕ) (e : TypeFault) : Type 0 where
  pub unit : CUnit
  pub parsed : Parsed text unit
  pub refused : answer_to unit ≡ Err e

-- why a text is refused; want of memory says nothing of it
abbrev pub IsRefusedFor : List ℕ → SourceFault → Type 0
IsRefusedFor text (Prepare prep.Memory) = Unit {0}
IsRefusedFor text (Prepare e) = prepared text ≡ Err e
IsRefusedFor text (Parse parse.Memory) = Unit {0}
IsRefusedFor text (Parse e) = IsNoUnit text e
IsRefusedFor text (Check type.Memory) = Unit {0}
IsRefusedFor text (Check e) = IsUntyped text e

-- the reason lies in the text
abbrev pub LiesInText : SourceFault → Type 0
LiesInText (Prepare prep.Memory) = ⊥
LiesInText (Parse parse.Memory) = ⊥
LiesInText (Check type.Memory) = ⊥
LiesInText _ = Unit {0}

-- each text spells one typed tree, or is refused for one reason that lies in it, and never both
pub record IsDecided (text : List ℕ) : Type 0 where
  pub some : ((u : CUnit) × Spells text u) ⊎ ((e : SourceFault) × LiesInText e × IsRefusedFor text e)
  pub once : (u v : CUnit) → Spells text u → Spells text v → u ≡ v
  pub apart : (u : CUnit) (e : SourceFault) → LiesInText e → Spells text u → IsRefusedFor text e → ⊥
  pub one_reason : (d e : SourceFault) → LiesInText d → LiesInText e → IsRefusedFor text d → IsRefusedFor text e → d ≡ e
