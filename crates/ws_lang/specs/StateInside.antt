-- For proofs only: what the fields of a state stand for.
use Rattle.std.specs.Prelude.{reverse}
use Rattle.ws_lang.specs.declared.state.WsState.TheInside.{Inside}
use Rattle.ws_lang.specs.Step.{Config}
use Rattle.ws_lang.specs.Laws.{ReadingFits}

abbrev pub config_of : Inside → Config
config_of s = record { place = s.place; stack = s.stack; heap = s.heap; returns = reverse s.returns.items; reading = s.reading; status = s.status }

abbrev pub IsInside : Inside → Type 0
IsInside s = ReadingFits s.reading
