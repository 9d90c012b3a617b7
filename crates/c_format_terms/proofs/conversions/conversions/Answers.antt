use Rattle.std.proofs.Common.{◌≡◌, ◌+◌, ◌++◌, ℕ, List, [], Option, None, drop, sym, ap, ◌∙◌}
use Rattle.std.specs.Prelude.{option_map}
use Rattle.c_types.specs.Operands.{conversions_of}
use Rattle.c_format_terms.specs.Conversions.{conversions_from}
use Rattle.c_format_terms.specs.declared.conversions.State.{State}
use Rattle.c_format_terms.proofs.ConversionLemmas.{drop_byte, begun, ended, all_letters, no_letters}
use Rattle.c_format_terms.proofs.conversions.conversions.Goals as goal

pub loop-byte-init : goal.loop-byte-init
loop-byte-init c = begun c.new-letters.result.items c.args.format.now c.new-letters.ensures.items

pub loop-byte-preserved : goal.loop-byte-preserved
loop-byte-preserved c =
    let format = c.args.format.now in
    let i = c.loop-byte.byte-index in
    c.in_ok-next.ensures (drop (i + 1) format)
    ∙ (sym (ap (λ (l : List ℕ). option_map (λ ls. c.loop-byte.letters.items ++ ls) (conversions_from c.loop-byte.place l)) (drop_byte format i c.loop-byte-test.true)) ∙ c.loop-byte.invariant)

pub returns-in-Text : goal.returns-in-Text
returns-in-Text c =
    let l = c.loop-byte in
    all_letters l.letters.items l.place (conversions_of c.args.format.now) (ended l.letters.items l.place c.args.format.now l.byte-index c.loop-byte-test.false l.invariant) c.in-Text.is

pub returns-in-Percent : goal.returns-in-Percent
returns-in-Percent c =
    let l = c.loop-byte in
    c.new.ensures.items
    ∙ no_letters l.letters.items l.place (conversions_of c.args.format.now) (ended l.letters.items l.place c.args.format.now l.byte-index c.loop-byte-test.false l.invariant)
    (ap (λ (p : State). conversions_from p []) c.in-Percent.is)

pub returns-in-Fault : goal.returns-in-Fault
returns-in-Fault c =
    let l = c.loop-byte in
    c.new-in-Fault.ensures.items
    ∙ no_letters l.letters.items l.place (conversions_of c.args.format.now) (ended l.letters.items l.place c.args.format.now l.byte-index c.loop-byte-test.false l.invariant)
    (ap (λ (p : State). conversions_from p []) c.in-Fault.is)
