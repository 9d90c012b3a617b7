use Rattle.std.proofs.Common.{◌≡◌, ℕ, ◌+◌, ◌<◌, ◌≤◌, length, drop, slice_index_or}
use Rattle.wasm_parts.specs.declared.jumps.Jump.{Jump}
use Rattle.wasm_parts.specs.Jumps.{Leads, AreOpen}
use Rattle.wasm_parts.proofs.jumps.jumps_of.Given as goal

abbrev pub invariant-loop-place : goal.invariant-loop-place
invariant-loop-place l = record {
  blocks : AreOpen l.code (drop l.place l.code) l.last l.blocks;
  filled : (place : ℕ) (jump : Jump) → l.place ≤ place → place < length l.code → Leads l.code 0 (drop (place + 1) l.code) (slice_index_or l.jumps.items place jump);
  len : length l.jumps.items ≡ length l.code;
}
