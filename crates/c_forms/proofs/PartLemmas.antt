-- Judgements of parts, and what they make together.
use Rattle.std.proofs.Common.{◌≡◌, Option, Some, refl, sym, ap, subst, ◌∙◌}
use Rattle.std.specs.Prelude.{Result, Ok, Err}
use Rattle.std.specs.Result.{result_err}
use Rattle.c_types.specs.declared.fault.TypeFault.{TypeFault}
use Rattle.c_types.specs.Refusals.{Judged, both, least_of}
use Rattle.c_operands.specs.Seen.{IsJudged}

-- what is judged to be something is that
pub ok_is : {A B : Type 0} (Is : A → B → Type 0) (a : A) (p : Judged B) → IsJudged Is (Ok a) p → (b : B) × (p ≡ Ok b) × Is a b
ok_is Is a (Ok b) h = (b, refl, h)
ok_is Is a (Err e) h = absurd h

-- what is refused is refused for that
pub err_is : {A B : Type 0} (Is : A → B → Type 0) (d : TypeFault) (p : Judged B) → IsJudged {A = A} Is (Err d) p → p ≡ Err d
err_is Is d (Err e) h = ap Err (sym h)
err_is Is d (Ok b) h = absurd h

-- a first part that is refused, beside another
pub first_refused : {B C D : Type 0} (d : TypeFault) (q : Judged C) (f : B → C → Judged D) → both {A = B} (Err d) q f ≡ Err (least_of d (result_err q))
first_refused d (Ok b) f = refl
first_refused d (Err e) f = refl

-- the other's refusal is the same in the code
pub same_refusal : {A B : Type 0} (Is : A → B → Type 0) (r : Result A TypeFault) (p : Judged B) → IsJudged Is r p → result_err r ≡ result_err p
same_refusal Is (Ok a) (Ok b) h = refl
same_refusal Is (Err d) (Err e) h = ap Some h
same_refusal Is (Ok a) (Err e) h = absurd h
same_refusal Is (Err d) (Ok b) h = absurd h

-- a judgement of two parts of which the first one is refused
pub told_first : {A B C D X : Type 0} (Is : A → C → Type 0) (To : X → D → Type 0) (d told : TypeFault) (other : Option TypeFault) (r : Result A TypeFault) (p : Judged B) (q : Judged C) (f : B → C → Judged D)
    → p ≡ Err d → IsJudged Is r q → other ≡ result_err r → told ≡ least_of d other → IsJudged {A = X} To (Err told) (both p q f)
told_first Is To d told other r p q f e h o t =
    let same : told ≡ least_of d (result_err q) = t ∙ ap (least_of d) (o ∙ same_refusal Is r q h) in
    subst (IsJudged To (Err told)) (sym (ap (λ (k : Judged _). both k q f) e ∙ first_refused d q f)) same

-- one of which the second one is
pub told_second : {B C D X : Type 0} (To : X → D → Type 0) (d : TypeFault) (b : B) (p : Judged B) (q : Judged C) (f : B → C → Judged D)
    → p ≡ Ok b → q ≡ Err d → IsJudged {A = X} To (Err d) (both p q f)
told_second To d b p q f e h = subst (IsJudged To (Err d)) (sym (ap (λ (k : Judged _). both k q f) e ∙ ap (λ (k : Judged _). both (Ok b) k f) h)) refl

pub both_ok : {B C D : Type 0} (b : B) (c : C) (p : Judged B) (q : Judged C) (f : B → C → Judged D) → p ≡ Ok b → q ≡ Ok c → both p q f ≡ f b c
both_ok b c p q f e h = ap (λ (k : Judged _). both k q f) e ∙ ap (λ (k : Judged _). both (Ok b) k f) h
