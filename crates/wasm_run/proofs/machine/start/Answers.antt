use Rattle.std.proofs.Common.{◌≡◌, ◌-◌, [], length, map, rules}
use Rattle.std.specs.FinMap as fin
use Rattle.wasm_rule.specs.Rule.{new_call}
use Rattle.wasm_rule.specs.Start.{least_in, with_segments, first_value, first_call}
use Rattle.wasm_parts.specs.Frames.{call_of}
use Rattle.wasm_run.specs.States.{later_of}
use Rattle.wasm_run.proofs.StartLemmas.{started_at}
use Rattle.wasm_run.proofs.machine.start.Goals as goal

pub returns-clause-config : goal.returns-clause-config
returns-clause-config c =
    let m = c.args.m in
    let l = c.in_ok-linked.linked in
    let own = c.args.main - c.len.result in
    let same : l ≡ m = search rules in
    let globals : c.in_ok-globals.globals.items ≡ map first_value m.globals = search rules in
    let memory : c.in_ok-memory.memory ≡ record { pages = least_in m.memory; bytes = with_segments fin.empty m.segments } = search rules in
    let callers : c.new-2.result.items ≡ [] = search rules in
    let first : later_of l c.in_ok-first.first ≡ first_call l m.start = search rules in
    let entry : call_of l c.in_ok-entry.entry ≡ new_call l own [] = search rules in
    let index : own ≡ c.args.main - length m.imports = search rules in
    started_at l m c.in_turn-frame.result.0 c.in_ok-entry.entry c.in_turn-frame.result.1 c.in_ok-first.first c.args.main own c.in_ok-globals.globals.items c.in_ok-memory.memory c.new-2.result.items
    same globals memory callers (c.in_turn-frame.ensures l) first entry index c.requires.entry c.requires.own
