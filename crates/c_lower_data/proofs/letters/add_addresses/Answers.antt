use Rattle.std.proofs.Common.{ℕ, ◌+◌, List, [], get_or, drop, ap}
use Rattle.std.proofs.lemmas.List.{drop_all}
use denote.Ref.{Bor}
use Rattle.c_types.specs.Table.{texts}
use Rattle.c_lower_data.proofs.LetterLemmas.{drop_text, none_addressed, one_addressed, all_addressed}
use Rattle.c_lower_data.proofs.letters.add_addresses.Goals as goal

pub loop-text-init : goal.loop-text-init
loop-text-init c = none_addressed c.args.addresses.now.items c.args.from (texts c.args.literals.now)

pub loop-text-preserved : goal.loop-text-preserved
loop-text-preserved c =
    let all = c.args.literals.now in
    let i = c.loop-text.text-index in
    let none : Bor (List ℕ) = record { ref_ptr = (0, 0); now = [] } in
    let x = get_or all i none in
    one_addressed c.args.addresses.now.items c.loop-text.addresses.items c.push.new.self.items c.args.from c.loop-text.address c.address_behind-address.result (texts all) (texts (drop i all)) x.now (texts (drop (i + 1) all)) c.loop-text.invariant
    (ap texts (drop_text all i none c.loop-text-test.true)) c.in_ok-push.ensures.items (λ k h. c.address_behind-address.ensures k h)

pub returns : goal.returns
returns c = λ a h.
    let all = c.args.literals.now in
    let i = c.loop-text.text-index in
    all_addressed c.args.addresses.now.items c.loop-text.addresses.items c.args.from c.loop-text.address (texts all) (texts (drop i all)) c.loop-text.invariant (ap texts (drop_all i all c.loop-text-test.false)) a h
