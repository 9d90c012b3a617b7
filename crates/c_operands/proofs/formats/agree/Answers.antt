use Rattle.std.proofs.Common.{◌+◌, ◌≤◌, ◌&&◌, ℕ, List, drop, length, not, refl, sym, ap, ◌∙◌, arith}
use Rattle.std.specs.Prelude.{nat_le}
use Rattle.std.proofs.lemmas.List.{drop_all}
use Rattle.c_operands.specs.Arguments.{printed}
use Rattle.c_operands.proofs.ArgumentLemmas.{as_many}
use Rattle.c_operands.proofs.FormatLemmas.{drop_byte, at_end}
use Rattle.c_operands.proofs.formats.agree.Goals as goal

pub loop-byte-init : goal.loop-byte-init
loop-byte-init c = λ xs h a. refl

pub loop-byte-preserved : goal.loop-byte-preserved
loop-byte-preserved c = λ xs h a.
    let format = c.args.format.now in
    let i = c.loop-byte.byte-index in
    c.loop-byte.invariant xs h a
    ∙ (ap (λ (f : List ℕ). printed c.loop-byte.place.behind f (drop c.loop-byte.place.used xs)) (drop_byte format i c.loop-byte-test.true)
    ∙ c.in-Some.ensures xs h a (drop (i + 1) format))

pub returns-in-None : goal.returns-in-None
returns-in-None c = λ xs h a.
    let format = c.args.format.now in
    let i = c.loop-byte.byte-index in
    sym (c.loop-byte.invariant xs h a
    ∙ (ap (λ (f : List ℕ). printed c.loop-byte.place.behind f (drop c.loop-byte.place.used xs)) (drop_byte format i c.loop-byte-test.true)
    ∙ c.in-None.ensures xs h a (drop (i + 1) format)))

pub returns : goal.returns
returns c = λ xs h a.
    let format = c.args.format.now in
    let i = c.loop-byte.byte-index in
    let behind = c.loop-byte.place.behind in
    let used = c.loop-byte.place.used in
    let past : length format ≤ i = omega arith in
    c.both.ensures
    ∙ (ap (λ (n : ℕ). not behind && nat_le n used) (as_many c.args.types.now c.args.arguments.now xs a)
    ∙ sym (c.loop-byte.invariant xs h a
    ∙ (ap (λ (f : List ℕ). printed behind f (drop used xs)) (drop_all i format past) ∙ at_end behind xs used)))
