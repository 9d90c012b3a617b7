use Rattle.std.proofs.Common.{◌≤◌, ℕ, false, suc, length, drop, refl, sym, ap, ◌∙◌, arith, add-one}
use Rattle.std.proofs.lemmas.Option.{slice_get_read}
use Rattle.c_operands.specs.Arguments.{printed}
use Rattle.c_operands.proofs.ArgumentLemmas.{next_at, as_many, none_left}
use Rattle.c_operands.proofs.FormatLemmas.{nothing_left, taken, not_taken}
use Rattle.c_operands.proofs.formats.converted.Goals as goal

pub returns-in-None : goal.returns-in-None
returns-in-None c = λ xs e h a. λ format.
    let many = as_many c.args.types.now c.args.arguments.now xs a in
    let over : length c.args.arguments.now ≤ c.args.used = c.in-None.ensures.lookup.3 in
    let past : length xs ≤ c.args.used = omega arith in
    nothing_left c.args.letter format (drop c.args.used xs) e (none_left xs c.args.used past)

pub returns-then-is_taken : goal.returns-then-is_taken
returns-then-is_taken c = λ xs e h a. λ format.
    let arguments = c.args.arguments.now in
    let used = c.args.used in
    let there = slice_get_read arguments (length arguments) used c.in-Some.argument.now refl c.in-Some.ensures.lookup.3.0 c.in-Some.ensures.lookup.1 in
    let n = next_at c.args.types.now arguments xs used c.in-Some.argument.now a there in
    taken c.args.letter format n.x (drop used xs) (drop (suc used) xs) e n.rest (sym (c.is_taken.ensures n.x n.is h) ∙ c.if-is_taken.true)
    ∙ ap (λ (k : ℕ). printed false format (drop k xs)) (sym (add-one used))

pub returns-else-is_taken : goal.returns-else-is_taken
returns-else-is_taken c = λ xs e h a. λ format.
    let arguments = c.args.arguments.now in
    let used = c.args.used in
    let there = slice_get_read arguments (length arguments) used c.in-Some.argument.now refl c.in-Some.ensures.lookup.3.0 c.in-Some.ensures.lookup.1 in
    let n = next_at c.args.types.now arguments xs used c.in-Some.argument.now a there in
    not_taken c.args.letter format n.x (drop used xs) (drop (suc used) xs) e n.rest (sym (c.is_taken.ensures n.x n.is h) ∙ c.if-is_taken.false)
