use Rattle.std.proofs.Common.{◌≡◌, map, take}
use Rattle.ws_lang.specs.OpInstruction.{instruction_of}
use Rattle.ws_lang.specs.Resolved.{resolved_in}
use Rattle.ws_lang.specs.Listing.{AllRight}
use Rattle.ws_lang.proofs.labels.resolve.Given as goal

abbrev pub invariant-loop-place : goal.invariant-loop-place
invariant-loop-place l = record {
  right : AllRight (map instruction_of l.ops) l.place;
  done : l.steps.items ≡ map (resolved_in (map instruction_of l.ops)) (take l.place (map instruction_of l.ops));
}
