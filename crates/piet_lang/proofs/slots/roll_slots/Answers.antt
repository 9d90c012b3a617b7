use Rattle.std.proofs.Common.{◌≡◌, ◌+◌, ◌-◌, ℤ, List, ◌++◌, take, drop, ap, ◌∙◌, arith}
use Rattle.std.proofs.lemmas.List.{drop-drop}
use Rattle.piet_lang.specs.Stack.{values_of}
use Rattle.piet_lang.proofs.RollLemmas.{rolled_slots}
use Rattle.piet_lang.proofs.slots.roll_slots.Goals as goal

pub returns-clause-rolled : goal.returns-clause-rolled
returns-clause-rolled c =
    let slots = c.args.slots.now in
    let len = c.args.len in
    let depth = c.args.depth in
    let width : len - (len - depth) ≡ depth = (let deep = c.requires.deep in omega arith) in
    let back : (len - depth) + (len - (len - depth)) ≡ len = (let deep = c.requires.deep in omega arith) in
    ap (λ (post : List ℤ). values_of (take (len - depth) slots ++ (c.rotate_right.new.self ++ post)) len) (drop-drop (len - (len - depth)) (len - depth) slots ∙ ap (λ n. drop n slots) back)
    ∙ rolled_slots slots (take (len - (len - depth)) (drop (len - depth) slots)) c.rotate_right.new.self len depth c.args.times c.requires.size c.requires.deep c.requires.few (ap (λ n. take n (drop (len - depth) slots)) width) c.rotate_right.ensures.after
