use Rattle.bf_columns.proofs.Dealt.{bytes_dealt}
use Rattle.bf_columns.proofs.laws.bytes_are_dealt.Goals as goal

pub returns : goal.returns
returns c = bytes_dealt
