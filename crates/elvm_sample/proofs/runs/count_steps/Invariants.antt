use Rattle.std.proofs.Common.{◌≡◌, ◌<◌, ℕ, []}
use Rattle.mach_core.specs.declared.machine.Status.TheVariants.{Going}
use Rattle.mach_core.specs.Rule.{run}
use Rattle.elvm_sample.proofs.runs.count_steps.Given as goal

abbrev pub invariant-loop-count : goal.invariant-loop-count
invariant-loop-count g l = record {
  code : g.M.Machine.code l.m ≡ g.M.Machine.code l.initial.m;
  here : g.M.Machine.config l.m ≡ (run (g.M.Machine.rule (g.M.Machine.code l.initial.m)) (g.M.Machine.config l.initial.m) [] l.count).config;
  before : (k : ℕ) → k < l.count → (g.M.Machine.rule (g.M.Machine.code l.initial.m)).standing (run (g.M.Machine.rule (g.M.Machine.code l.initial.m)) (g.M.Machine.config l.initial.m) [] k).config ≡ Going;
}
