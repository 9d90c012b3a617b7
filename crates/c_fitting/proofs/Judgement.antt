-- What holds of a judgement that isn't refused.
use Rattle.std.proofs.Common.{◌≡◌, Bool, true, false, List, [], ◌∷◌, Option, Some, None, refl, subst, if◌then◌else◌}
use Rattle.std.specs.Prelude.{Ok, Err}
use Rattle.std.specs.Option.{option_map_or}
use Rattle.c_types.specs.declared.fault.TypeFault.{TypeFault}
use Rattle.c_types.specs.Refusals.{Judged, Rule, after, both, all_three, keeping, broken, least_of}

-- of what isn't refused
abbrev pub IfOk : {A : Type 0} → (A → Type 0) → Judged A → Type 0
IfOk G (Ok a) = G a
IfOk G (Err e) = Unit {0}

abbrev pub Any : {A : Type 0} → A → Type 0
Any a = Unit {0}

pub any_ok : {A : Type 0} (r : Judged A) → IfOk Any r
any_ok (Ok a) = tt
any_ok (Err e) = tt

pub after_ok : {A B : Type 0} (G : A → Type 0) (H : B → Type 0) (r : Judged A) (f : A → Judged B) → IfOk G r → ((a : A) → r ≡ Ok a → G a → IfOk H (f a)) → IfOk H (after r f)
after_ok G H (Ok a) f g t = t a refl g
after_ok G H (Err e) f g t = tt

pub both_ok : {A B C : Type 0} (G : A → Type 0) (H : B → Type 0) (K : C → Type 0) (r : Judged A) (q : Judged B) (f : A → B → Judged C) → IfOk G r → IfOk H q →
    ((a : A) (b : B) → r ≡ Ok a → q ≡ Ok b → G a → H b → IfOk K (f a b)) → IfOk K (both r q f)
both_ok G H K (Ok a) (Ok b) f g h t = t a b refl refl g h
both_ok G H K (Ok a) (Err e) f g h t = tt
both_ok G H K (Err d) (Ok b) f g h t = tt
both_ok G H K (Err d) (Err e) f g h t = tt

pub three_ok : {A B C D : Type 0} (G : A → Type 0) (H : B → Type 0) (K : C → Type 0) (L : D → Type 0) (r : Judged A) (q : Judged B) (p : Judged C) (f : A → B → C → Judged D) → IfOk G r → IfOk H q → IfOk K p →
    ((a : A) (b : B) (c : C) → G a → H b → K c → IfOk L (f a b c)) → IfOk L (all_three r q p f)
three_ok G H K L (Ok a) (Ok b) (Ok c) f g h k t = t a b c g h k
three_ok G H K L (Ok a) (Ok b) (Err e) f g h k t = tt
three_ok G H K L (Ok a) (Err e) (Ok c) f g h k t = tt
three_ok G H K L (Ok a) (Err d) (Err e) f g h k t = tt
three_ok G H K L (Err d) (Ok b) (Ok c) f g h k t = tt
three_ok G H K L (Err d) (Ok b) (Err e) f g h k t = tt
three_ok G H K L (Err d) (Err e) (Ok c) f g h k t = tt
three_ok G H K L (Err d) (Err e) (Err b) f g h k t = tt

by_broken : {A : Type 0} (G : A → Type 0) (a : A) (o : Option TypeFault) → (o ≡ None → G a) → IfOk G (option_map_or (λ e. Err e) o (Ok a))
by_broken G a None g = g refl
by_broken G a (Some e) g = tt

pub keeping_ok : {A : Type 0} (G : A → Type 0) (rules : List Rule) (a : A) → (broken rules ≡ None → G a) → IfOk G (keeping rules a)
keeping_ok G rules a g = by_broken G a (broken rules) g

pub rule_kept : (t : Bool) (e : TypeFault) (o : Option TypeFault) → (if t then o else Some (least_of e o)) ≡ None → (t ≡ true) × (o ≡ None)
rule_kept true e o h = (refl, h)
rule_kept false e o h = absurd cc

-- a tree of one rule, and of two
pub keeping_one : {A : Type 0} (G : A → Type 0) (t : Bool) (e : TypeFault) (a : A) → (t ≡ true → G a) → IfOk G (keeping ((t, e) ∷ []) a)
keeping_one G t e a g = keeping_ok G ((t, e) ∷ []) a (λ h. g (rule_kept t e None h).0)

pub keeping_two : {A : Type 0} (G : A → Type 0) (t : Bool) (e : TypeFault) (u : Bool) (f : TypeFault) (a : A) → (t ≡ true → u ≡ true → G a) → IfOk G (keeping ((t, e) ∷ (u, f) ∷ []) a)
keeping_two G t e u f a g = keeping_ok G ((t, e) ∷ (u, f) ∷ []) a (λ h. let k = rule_kept t e (broken ((u, f) ∷ [])) h in g k.0 (rule_kept u f None k.1).0)

-- and what is so of a judgement that is told
pub told : {A : Type 0} (G : A → Type 0) (r : Judged A) (a : A) → r ≡ Ok a → IfOk G r → G a
told G r a e g = subst (λ x. IfOk G x) e g
