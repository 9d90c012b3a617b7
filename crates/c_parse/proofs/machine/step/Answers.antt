use Rattle.std.proofs.Common.{◌≡◌, ◌<◌, ◌≤◌, length, [], arith}
use Rattle.c_frames.specs.Stack.{opens}
use Rattle.c_progress.proofs.Begins.{reads_as}
use Rattle.c_parse.proofs.Parts.{step_of_none, step_in_row, empty_row, step_gives, still_going}
use Rattle.c_parse.proofs.machine.step.Goals as goal

pub returns-in_default : goal.returns-in_default
returns-in_default c = step_of_none (opens c.args.stack.now.items []) c.args.token.now c.in_default.ensures.top

pub returns-then-len-gt0 : goal.returns-then-len-gt0
returns-then-len-gt0 c =
    let some : 0 < length c.in-Some.frame.row.items = omega (arith, c.len.ensures, c.if-len-gt0.true) in
    step_in_row c.in-Some.frame (opens c.pop.new.stack.items []) (opens c.args.stack.now.items []) c.args.token.now c.in-Some.ensures.top some

pub begin-requires-clause-row : goal.begin-requires-clause-row
begin-requires-clause-row c =
    let none : length c.in-Some.frame.row.items ≤ 0 = omega (arith, c.len.ensures, c.if-len-gt0.false) in
    empty_row c.in-Some.frame.row.items none

pub begin-requires-clause-stands : goal.begin-requires-clause-stands
begin-requires-clause-stands c = c.in-Some.ensures.stands

pub give-requires-clause-going : goal.give-requires-clause-going
give-requires-clause-going c = still_going c.in_ok-progress.progress c.in-Some.frame.production c.pop.new.stack.items _ _ c.in_ok-progress.ensures c.in-Some.ensures.stands.below

pub returns : goal.returns
returns c =
    let none : length c.in-Some.frame.row.items ≤ 0 = omega (arith, c.len.ensures, c.if-len-gt0.false) in
    reads_as c.in_ok-read.read c.give.new.stack.items _ _
    (step_gives c.in_ok-progress.progress c.in-Some.frame (opens c.args.stack.now.items []) c.args.token.now c.pop.new.stack.items c.begin.new.stack.items c.in-Some.ensures.top (empty_row c.in-Some.frame.row.items none) c.in_ok-progress.ensures)
    c.in_ok-read.ensures
