-- The refusal that is told of a tree, by those of its parts and its own rules.
use Rattle.std.proofs.Common.{◌≡◌, ℕ, List, [], ◌∷◌, ◌++◌, Option, Some, None, refl, sym, ap, ◌∙◌}
use Rattle.std.specs.Prelude.{Ok, Err}
use Rattle.std.specs.Option.{option_map_or}
use Rattle.std.specs.Result.{result_err}
use Rattle.c_types.specs.declared.fault.TypeFault.{TypeFault}
use Rattle.c_types.specs.Refusals.{Judged, Rule, after, both, keeping, broken, least_of}
use Rattle.c_types.specs.Types.{CType}
use Rattle.c_types.specs.Scope.{Scope}
use Rattle.c_types.specs.Operands.{Operand}
use Rattle.c_types.specs.Statements.{return_rules}
use Rattle.c_operands.specs.Arguments.{merged}
use Rattle.c_operands.proofs.LeastLemmas.{broken_first, merged_together}
use Rattle.c_conditions.specs.Told.{Tested, IsTested, beside, settled, behind, together}

abbrev chosen : {C : Type 0} → C → Option TypeFault → Judged C
chosen c o = option_map_or (λ e. Err e) o (Ok c)

refused_by : {C : Type 0} (o : Option TypeFault) (c : C) → result_err (chosen c o) ≡ o
refused_by None c = refl
refused_by (Some e) c = refl

pub keeping_refused : {C : Type 0} (rules : List Rule) (c : C) → result_err (keeping rules c) ≡ broken rules
keeping_refused rules c = refused_by (broken rules) c

-- the rules of two together
pub broken_both : (xs ys : List Rule) → broken (xs ++ ys) ≡ merged (broken xs) (broken ys)
broken_both [] ys = refl
broken_both (x ∷ xs) ys =
    broken_first x.0 x.1 (xs ++ ys)
    ∙ (ap (λ (o : Option TypeFault). merged (broken ((x.0, x.1) ∷ [])) o) (broken_both xs ys)
    ∙ (merged_together (broken ((x.0, x.1) ∷ [])) (broken xs) (broken ys) ∙ ap (λ (o : Option TypeFault). merged o (broken ys)) (sym (broken_first x.0 x.1 xs))))

some_fault : (d e : TypeFault) → Some d ≡ Some e → d ≡ e
some_fault d e h = cc

-- two parts
pub beside_is : {A B C : Type 0} (rules : A → List Rule) (f : A → B → C) (own : C → List Rule) (j : Tested) (p : Judged A) (o : Option TypeFault) (q : Judged B)
    → ((a : A) (b : B) → own (f a b) ≡ rules a) → IsTested rules j p → o ≡ result_err q → IsTested own (beside j o) (both p q (λ a b. Ok (f a b)))
beside_is rules f own (Ok r) (Ok a) None (Ok b) same h k = h ∙ ap broken (sym (same a b))
beside_is rules f own (Ok r) (Ok a) (Some d) (Err e) same h k = some_fault d e k
beside_is rules f own (Err d) (Err e) None (Ok b) same h k = h
beside_is rules f own (Err d) (Err e) (Some g) (Err i) same h k = ap (λ (x : TypeFault). least_of x (Some g)) h ∙ ap (λ (o : Option TypeFault). least_of e o) k
beside_is rules f own (Ok r) (Ok a) (Some d) (Ok b) same h k = absurd cc
beside_is rules f own (Ok r) (Ok a) None (Err e) same h k = absurd cc
beside_is rules f own (Err d) (Err e) (Some g) (Ok b) same h k = absurd cc
beside_is rules f own (Err d) (Err e) None (Err i) same h k = absurd cc
beside_is rules f own (Ok r) (Err e) o q same h k = absurd h
beside_is rules f own (Err d) (Ok a) o q same h k = absurd h

-- two parts, of which the first one's value keeps rules
pub both_is : {A B C : Type 0} (rules : A → List Rule) (c : C) (j : Tested) (p : Judged A) (o : Option TypeFault) (q : Judged B) → IsTested rules j p → o ≡ result_err q
    → settled (beside j o) ≡ result_err (both p q (λ a _. keeping (rules a) c))
both_is rules c (Ok r) (Ok a) None (Ok b) h k = h ∙ sym (keeping_refused (rules a) c)
both_is rules c (Ok r) (Ok a) (Some d) (Err e) h k = k
both_is rules c (Err d) (Err e) None (Ok b) h k = ap Some h
both_is rules c (Err d) (Err e) (Some g) (Err i) h k = ap Some (ap (λ (x : TypeFault). least_of x (Some g)) h ∙ ap (λ (o : Option TypeFault). least_of e o) k)
both_is rules c (Ok r) (Ok a) (Some d) (Ok b) h k = absurd cc
both_is rules c (Ok r) (Ok a) None (Err e) h k = absurd cc
both_is rules c (Err d) (Err e) (Some g) (Ok b) h k = absurd cc
both_is rules c (Err d) (Err e) None (Err i) h k = absurd cc
both_is rules c (Ok r) (Err e) o q h k = absurd h
both_is rules c (Err d) (Ok a) o q h k = absurd h

-- of which the second one's does
pub behind_is : {A B C : Type 0} (rules : B → List Rule) (c : C) (o : Option TypeFault) (p : Judged A) (j : Tested) (q : Judged B) → o ≡ result_err p → IsTested rules j q
    → behind o j ≡ result_err (both p q (λ _ b. keeping (rules b) c))
behind_is rules c None (Ok a) (Ok r) (Ok b) k h = h ∙ sym (keeping_refused (rules b) c)
behind_is rules c None (Ok a) (Err d) (Err e) k h = ap Some h
behind_is rules c (Some g) (Err i) (Ok r) (Ok b) k h = k
behind_is rules c (Some g) (Err i) (Err d) (Err e) k h = ap Some (ap (λ (x : TypeFault). least_of g (Some x)) h ∙ ap (λ (x : TypeFault). least_of x (Some e)) (some_fault g i k))
behind_is rules c None (Err i) j q k h = absurd cc
behind_is rules c (Some g) (Ok a) j q k h = absurd cc
behind_is rules c None (Ok a) (Ok r) (Err e) k h = absurd h
behind_is rules c None (Ok a) (Err d) (Ok b) k h = absurd h
behind_is rules c (Some g) (Err i) (Ok r) (Err e) k h = absurd h
behind_is rules c (Some g) (Err i) (Err d) (Ok b) k h = absurd h

-- two parts that have no rules
pub merged_is : {A B C : Type 0} (f : A → B → C) (d e : Option TypeFault) (p : Judged A) (q : Judged B) → d ≡ result_err p → e ≡ result_err q → merged d e ≡ result_err (both p q (λ a b. Ok (f a b)))
merged_is f d e (Ok a) (Ok b) h k = ap (λ (o : Option TypeFault). merged o e) h ∙ k
merged_is f d e (Ok a) (Err i) h k = ap (λ (o : Option TypeFault). merged o e) h ∙ k
merged_is f d e (Err g) (Ok b) h k = ap (λ (o : Option TypeFault). merged o e) h ∙ ap (λ (o : Option TypeFault). Some (least_of g o)) k
merged_is f d e (Err g) (Err i) h k = ap (λ (o : Option TypeFault). merged o e) h ∙ ap (λ (o : Option TypeFault). Some (least_of g o)) k

-- two parts that have rules
pub together_is : {A B C : Type 0} (rules : A → List Rule) (others : B → List Rule) (all : A → B → List Rule) (c : C) (j : Tested) (p : Judged A) (k : Tested) (q : Judged B)
    → ((a : A) (b : B) → broken (all a b) ≡ merged (broken (rules a)) (broken (others b))) → IsTested rules j p → IsTested others k q
    → together j k ≡ result_err (both p q (λ a b. keeping (all a b) c))
together_is rules others all c (Ok r) (Ok a) (Ok o) (Ok b) same h k =
    ap (λ (x : Option TypeFault). merged x o) h ∙ (ap (λ (x : Option TypeFault). merged (broken (rules a)) x) k ∙ (sym (same a b) ∙ sym (keeping_refused (all a b) c)))
together_is rules others all c (Ok r) (Ok a) (Err d) (Err e) same h k = ap Some k
together_is rules others all c (Err d) (Err e) (Ok o) (Ok b) same h k = ap Some h
together_is rules others all c (Err d) (Err e) (Err f) (Err g) same h k = ap Some (ap (λ (x : TypeFault). least_of x (Some f)) h ∙ ap (λ (x : TypeFault). least_of e (Some x)) k)
together_is rules others all c (Ok r) (Err e) k q same h g = absurd h
together_is rules others all c (Err d) (Ok a) k q same h g = absurd h
together_is rules others all c (Ok r) (Ok a) (Ok o) (Err e) same h k = absurd k
together_is rules others all c (Ok r) (Ok a) (Err d) (Ok b) same h k = absurd k
together_is rules others all c (Err d) (Err e) (Ok o) (Err g) same h k = absurd k
together_is rules others all c (Err d) (Err e) (Err f) (Ok b) same h k = absurd k

-- what a `return` of a value is, by the value
abbrev pub returned : Scope → ℕ → CType → Judged Operand → Judged Scope
returned s at t q = after (after {B = Option Operand} q (λ a. Ok (Some a))) (λ a. keeping (return_rules at t a) s)
