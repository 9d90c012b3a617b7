use Rattle.std.proofs.Common.{◌≡◌, ℕ, ◌-◌, Bool, true, false, List, [], ◌∷◌, ◌++◌, refl, sym, ap, ◌∙◌, if◌then◌else◌}
use Rattle.std.specs.Prelude.{is_ok}
use Rattle.c_store.specs.declared.live.Live.{Live}
use Rattle.c_store.specs.Live.{IsAdded}
use Rattle.c_store.proofs.grow.add_object.Goals as goal

added : (xs ys : List Live) (x : Live) (b : Bool) (number first length : ℕ) → ys ≡ (if b then xs ++ x ∷ [] else xs) → b ≡ true → x.number ≡ number → x.first ≡ first → x.length ≡ length → IsAdded xs ys number first length
added xs ys x true number first length e t n f l = record { last = x; behind = e; number_is = n; first_is = f; length_is = l }
added xs ys x false number first length e t n f l = absurd (let no : ⊥ = cc in no)

pub returns-then-is_ok-clause-objects : goal.returns-then-is_ok-clause-objects
returns-then-is_ok-clause-objects c =
    added _ _ _ (is_ok c.push.result) _ _ _ c.push.ensures.items (sym c.is_ok.ensures.value ∙ c.if-is_ok.true) refl (ap (λ (n : ℕ). n - c.args.length) c.len.ensures) refl
