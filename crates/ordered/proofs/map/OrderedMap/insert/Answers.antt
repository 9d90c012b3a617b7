use Rattle.std.proofs.Common.{◌≡◌, ℕ, Some, None, position, length, slice_set, sym, ap, ◌∙◌, subst}
use Rattle.std.proofs.lemmas.List.{length-map}
use Rattle.std.specs.HashMap.{Updates}
use Rattle.std.specs.Map.{lookup, keys_of}
use Rattle.ordered.specs.Order.{AreNumbered, insert_entry}
use Rattle.ordered.proofs.PlaceLemmas.{numbered_push}
use Rattle.ordered.proofs.EntryLemmas.{value_at, no_value, keys_set, keys_push, entry_set, entry_last}
use Rattle.ordered.proofs.map.OrderedMap.insert.Goals as goal

pub invariant_of-self : goal.invariant_of-self
invariant_of-self g c =
    let e = c.index_mut.result.now in
    subst (λ ks. AreNumbered g.K.PartialEq.eq ks c.self.inside.numbers)
    (sym (keys_set c.self.inside.entries.items c.in-Some.number e c.replace.new.dest c.index_mut.ensures.value)) c.self.invariant

pub returns-in-Some-clause-old : goal.returns-in-Some-clause-old
returns-in-Some-clause-old g c =
    let there : position (g.K.PartialEq.eq c.args.key) (keys_of c.self.inside.entries.items) ≡ Some c.in-Some.number =
    sym (c.self.invariant.finds c.args.key) ∙ (sym c.get.ensures.value ∙ (sym c.copied.ensures ∙ c.in-Some.is)) in
    let passes = g.K.PartialEq.eq c.args.key in
    ap Some c.replace.ensures.value ∙ (sym (value_at passes c.self.inside.entries.items c.in-Some.number c.index_mut.result.now there c.index_mut.ensures.value) ∙ ap (λ m. lookup passes m.entries) c.self.view_is)

pub returns-in-Some-clause-entries : goal.returns-in-Some-clause-entries
returns-in-Some-clause-entries g c =
    let there : position (g.K.PartialEq.eq c.args.key) (keys_of c.self.inside.entries.items) ≡ Some c.in-Some.number =
    sym (c.self.invariant.finds c.args.key) ∙ (sym c.get.ensures.value ∙ (sym c.copied.ensures ∙ c.in-Some.is)) in
    let eq = g.K.PartialEq.eq in
    let es = c.self.inside.entries.items in
    let e = c.index_mut.result.now in
    ap (λ v. slice_set es c.in-Some.number (e.0, v)) c.replace.ensures.after
    ∙ (entry_set eq c.args.key c.args.value es c.in-Some.number e there c.index_mut.ensures.value ∙ ap (λ m. insert_entry eq m.entries c.args.key c.args.value) c.self.view_is)

new : (g : _) (c : goal.In-Ok g) → position (g.K.PartialEq.eq c.args.key) (keys_of c.self.inside.entries.items) ≡ None
new g c = sym (c.self.invariant.finds c.args.key) ∙ (sym c.get.ensures.value ∙ (sym c.copied.ensures ∙ c.in_default.is))

many : (g : _) (c : goal.In-Ok g) → c.len-number.result ≡ length (keys_of c.self.inside.entries.items)
many g c = c.len-number.ensures ∙ (c.self.inside.entries.ok.0 ∙ sym (length-map c.self.inside.entries.items (λ e. e.0)))

pub invariant_of-self-in-Ok : goal.invariant_of-self-in-Ok
invariant_of-self-in-Ok g c =
    let eq = g.K.PartialEq.eq in
    let es = c.self.inside.entries.items in
    subst (λ ks. AreNumbered eq ks c.insert.new.self)
    (sym (ap keys_of c.in_ok-push.ensures.items ∙ keys_push es c.args.key c.args.value))
    (numbered_push eq g.met.K.Eq.laws (keys_of es) c.args.key c.self.inside.numbers c.insert.new.self c.self.invariant (new g c)
    (subst (λ (n : ℕ). Updates eq c.self.inside.numbers c.insert.new.self c.args.key (Some n)) (many g c) c.in-Ok.ensures.updates))

pub returns-in-Ok-clause-old : goal.returns-in-Ok-clause-old
returns-in-Ok-clause-old g c =
    let passes = g.K.PartialEq.eq c.args.key in
    sym (no_value passes c.self.inside.entries.items (new g c)) ∙ ap (λ m. lookup passes m.entries) c.self.view_is

pub returns-in-Ok-clause-entries : goal.returns-in-Ok-clause-entries
returns-in-Ok-clause-entries g c =
    let eq = g.K.PartialEq.eq in
    c.in_ok-push.ensures.items ∙ (entry_last eq c.args.key c.args.value c.self.inside.entries.items (new g c) ∙ ap (λ m. insert_entry eq m.entries c.args.key c.args.value) c.self.view_is)
