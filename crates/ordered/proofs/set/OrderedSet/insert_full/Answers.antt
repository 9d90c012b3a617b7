use Rattle.std.proofs.Common.{◌≡◌, ℕ, [], Some, None, not, length, position, slice_get, ◌∷◌, ◌++◌, sym, ap, ◌∙◌, subst}
use Rattle.std.specs.List.{list_any, position_or_len}
use Rattle.std.specs.HashMap.{Updates}
use Rattle.ordered.specs.Order.{Keys, AreNumbered, insert_key}
use Rattle.ordered.proofs.PlaceLemmas.{some_any, none_any, no_place, place_stored, numbered_push, key_kept, key_last, get_last}
use Rattle.ordered.proofs.set.OrderedSet.insert_full.Goals as goal

there : (g : _) (c : goal.In-Some g) → position (g.T.PartialEq.eq c.args.value) c.self.inside.keys.items ≡ Some c.in-Some.number
there g c = sym (c.self.invariant.finds c.args.value) ∙ (sym c.get.ensures.value ∙ (sym c.copied.ensures ∙ c.in-Some.is))

pub returns-in-Some-clause-added : goal.returns-in-Some-clause-added
returns-in-Some-clause-added g c =
    let passes = g.T.PartialEq.eq c.args.value in
    sym (ap not (some_any passes c.self.inside.keys.items c.in-Some.number (there g c))) ∙ ap (λ s. not (list_any passes s.keys)) c.self.view_is

pub returns-in-Some-clause-keys : goal.returns-in-Some-clause-keys
returns-in-Some-clause-keys g c =
    let eq = g.T.PartialEq.eq in
    subst (λ (s : Keys _). s.keys ≡ insert_key eq s.keys c.args.value) c.self.view_is (key_kept eq c.self.inside.keys.items c.args.value c.in-Some.number (there g c))

pub returns-in-Some-clause-stored : goal.returns-in-Some-clause-stored
returns-in-Some-clause-stored g c =
    let passes = g.T.PartialEq.eq c.args.value in
    let is = place_stored passes c.self.inside.keys.items c.in-Some.number (there g c) in
    (is.0, sym (ap (λ s. slice_get s.keys c.in-Some.number) c.self.view_is) ∙ is.1, is.2)

new : (g : _) (c : goal.In-Ok g) → position (g.T.PartialEq.eq c.args.value) c.self.inside.keys.items ≡ None
new g c = sym (c.self.invariant.finds c.args.value) ∙ (sym c.get.ensures.value ∙ (sym c.copied.ensures ∙ c.in_default.is))

many : (g : _) (c : goal.In-Ok g) → c.len-number.result ≡ length c.self.inside.keys.items
many g c = c.len-number.ensures ∙ c.self.inside.keys.ok.0

pub invariant_of-self-in-Ok : goal.invariant_of-self-in-Ok
invariant_of-self-in-Ok g c =
    let eq = g.T.PartialEq.eq in
    let keys = c.self.inside.keys.items in
    subst (λ ks. AreNumbered eq ks c.insert.new.self) (sym c.in_ok-push.ensures.items)
    (numbered_push eq g.met.T.Eq.laws keys c.args.value c.self.inside.numbers c.insert.new.self c.self.invariant (new g c)
    (subst (λ (n : ℕ). Updates eq c.self.inside.numbers c.insert.new.self c.args.value (Some n)) (many g c) c.in-Ok.ensures.updates))

pub returns-in-Ok-clause-added : goal.returns-in-Ok-clause-added
returns-in-Ok-clause-added g c =
    let passes = g.T.PartialEq.eq c.args.value in
    sym (ap not (none_any passes c.self.inside.keys.items (new g c))) ∙ ap (λ s. not (list_any passes s.keys)) c.self.view_is

pub returns-in-Ok-clause-keys : goal.returns-in-Ok-clause-keys
returns-in-Ok-clause-keys g c =
    let eq = g.T.PartialEq.eq in
    c.in_ok-push.ensures.items ∙ (key_last eq c.self.inside.keys.items c.args.value (new g c) ∙ ap (λ s. insert_key eq s.keys c.args.value) c.self.view_is)

pub returns-in-Ok-clause-index : goal.returns-in-Ok-clause-index
returns-in-Ok-clause-index g c =
    let passes = g.T.PartialEq.eq c.args.value in
    many g c ∙ (sym (no_place passes c.self.inside.keys.items (new g c)) ∙ ap (λ s. position_or_len passes s.keys) c.self.view_is)

pub returns-in-Ok-clause-stored : goal.returns-in-Ok-clause-stored
returns-in-Ok-clause-stored g c =
    let keys = c.self.inside.keys.items in
    (c.args.value, ap (λ ks. slice_get ks c.len-number.result) c.in_ok-push.ensures.items ∙ (ap (slice_get (keys ++ c.args.value ∷ [])) (many g c) ∙ get_last keys c.args.value), g.met.T.Eq.laws.refl c.args.value)
