-- For proofs only: what the fields of a state stand for.
use Rattle.piet_lang.specs.declared.state.PietState.TheInside.{Inside}
use Rattle.piet_lang.specs.Step.{Config}
use Rattle.piet_lang.specs.Seen.{ReadingFits}

abbrev pub config_of : Inside → Config
config_of s = record { at = s.at; stack = s.stack; reading = s.reading; standing = s.status }

abbrev pub IsInside : Inside → Type 0
IsInside s = ReadingFits s.reading
