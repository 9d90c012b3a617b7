-- Lists in pieces.
use Rattle.std.proofs.Common.{append_assoc, append-nil}

-- what lists in pieces are joined by
pub ruleset lists = (append_assoc, append-nil)
