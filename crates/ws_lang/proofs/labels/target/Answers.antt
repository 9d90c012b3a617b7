use Rattle.std.proofs.Common.{◌≡◌, ℕ, Option, Some, None, sym, ap, ◌∙◌}
use Rattle.ws_lang.specs.OpInstruction.{instruction_of}
use Rattle.ws_lang.proofs.LabelLemmas.{right_mark, wrong_mark, right_goal, wrong_goal}
use Rattle.ws_lang.proofs.labels.target.Goals as goal

-- what a table has is one thing
apart : (o : Option ℕ) (k n : ℕ) → o ≡ Some k → (k ≡ n → ⊥) → o ≡ Some n → ⊥
apart o k n e h f = let same : k ≡ n = cc in h same

missing : (o : Option ℕ) (n : ℕ) → o ≡ None → o ≡ Some n → ⊥
missing o n e f = cc

pub returns-then-first-place : goal.returns-then-first-place
returns-then-first-place c = λ code h. right_mark c.args.table.now.entries c.in-Some.label.now (instruction_of c.args.op.now) c.args.place code h c.in-Some.ensures (sym c.in-Some-get.ensures.value ∙ ap (λ k. Some k) c.if-first-place.true)

pub returns-else-first-place : goal.returns-else-first-place
returns-else-first-place c = λ code h. wrong_mark c.args.table.now.entries c.in-Some.label.now (instruction_of c.args.op.now) c.args.place c.args.start code h c.in-Some.ensures (apart _ c.in-Some-get.first.now c.args.place (sym c.in-Some-get.ensures.value) c.if-first-place.false)

pub returns-in-None : goal.returns-in-None
returns-in-None c = λ code h. wrong_mark c.args.table.now.entries c.in-Some.label.now (instruction_of c.args.op.now) c.args.place c.args.start code h c.in-Some.ensures (missing _ c.args.place (sym c.in-None.ensures.value))

pub returns-in-Some-get-2 : goal.returns-in-Some-get-2
returns-in-Some-get-2 c = λ code h. right_goal c.args.table.now.entries c.in-Some-goal.label.now (instruction_of c.args.op.now) c.args.place c.in-Some-get-2.to.now code h c.in_default.ensures c.in-Some-goal.ensures (sym c.in-Some-get-2.ensures.value)

pub returns-in-None-get : goal.returns-in-None-get
returns-in-None-get c = λ code h. wrong_goal c.args.table.now.entries c.in-Some-goal.label.now (instruction_of c.args.op.now) c.args.place c.args.start code h c.in-Some-goal.ensures (sym c.in-None-get.ensures.value)
