-- Code in pieces.
use Rattle.std.proofs.Common.{append_assoc, append-nil}

-- what code in pieces is joined by
pub ruleset codes = (append_assoc, append-nil)
