use Rattle.std.proofs.Common.{◌≡◌, ℕ, List, [], ◌∷◌, ◌++◌, ap, subst, ◌∙◌}
use Rattle.std.specs.Prelude.{slice_get}
use Rattle.c_store.specs.Values.{Literal}
use Rattle.c_emitted.specs.Emits.{Emits}
use Rattle.c_emitted.proofs.TableLemmas.{begins_same, begins_last}
use Rattle.c_emitted.proofs.EmitLemmas.{literal_grown, literal_is}
use Rattle.c_emitted.proofs.emitter.Emitter.literal.Goals as goal

pub returns-clause-emits : goal.returns-clause-emits
returns-clause-emits c =
    let a = c.args.self.now in
    let l = c.in_ok-literal.literal in
    let text : l.text ≡ c.args.text.now = c.in_ok-literal.ensures.text ∙ c.in_ok-bytes.ensures.items in
    subst (λ (t : List ℕ). Emits a (record a { literals = c.push.new.self; before = c.in_ok-next.next }) [] (t ∷ [])) text (literal_grown a c.push.new.self l c.in_ok-next.next c.in_ok-push.ensures.items c.in_ok-next.ensures)

pub returns-clause-literal : goal.returns-clause-literal
returns-clause-literal c =
    let a = c.args.self.now in
    let l = c.in_ok-literal.literal in
    let same : l ≡ record { owner = a.owner; number = a.before; text = c.args.text.now } = literal_is l a.owner a.before c.args.text.now c.in_ok-literal.ensures.owner c.in_ok-literal.ensures.number (c.in_ok-literal.ensures.text ∙ c.in_ok-bytes.ensures.items) in
    ap (λ (ls : List Literal). slice_get ls c.in_ok-number.number) (c.in_ok-push.ensures.items ∙ ap (λ (x : Literal). a.literals.items ++ x ∷ []) same)
    ∙ (ap (λ (n : ℕ). slice_get (a.literals.items ++ record { owner = a.owner; number = a.before; text = c.args.text.now } ∷ []) n) (c.in_ok-number.ensures ∙ (c.len.ensures ∙ a.literals.ok.0))
    ∙ begins_last a.literals.items (record { owner = a.owner; number = a.before; text = c.args.text.now }) (begins_same (a.literals.items ++ record { owner = a.owner; number = a.before; text = c.args.text.now } ∷ [])))
