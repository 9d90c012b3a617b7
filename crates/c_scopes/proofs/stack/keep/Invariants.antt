use Rattle.std.proofs.Common.{◌≡◌, ◌≤◌, take, length}
use Rattle.c_scopes.specs.Stack.{Stands}
use Rattle.c_scopes.proofs.stack.keep.Given as goal

abbrev pub invariant-loop-declared : goal.invariant-loop-declared
invariant-loop-declared l = record {
  least : l.count ≤ length l.declared.items;
  front : take l.count l.declared.items ≡ take l.count l.fn.declared.items;
  stands : Stands l.fn.declared.items l.fn.latest.entries → Stands l.declared.items l.latest.entries;
}

abbrev pub decreases-loop-declared : goal.decreases-loop-declared
decreases-loop-declared l = length l.declared.items
