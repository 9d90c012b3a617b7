use Rattle.std.proofs.Common.{length, ◌-◌}
use Rattle.ws_lang.proofs.ListingLemmas.{Reads}
use Rattle.ws_lang.proofs.listing.read_listing.Given as goal

abbrev pub invariant-loop-cursor : goal.invariant-loop-cursor
invariant-loop-cursor l = Reads l.fn.text l.cursor l.ops.items l.starts.items

abbrev pub decreases-loop-cursor : goal.decreases-loop-cursor
decreases-loop-cursor l = length l.fn.text - l.cursor.at
