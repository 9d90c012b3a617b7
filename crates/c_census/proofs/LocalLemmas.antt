-- Declarations within functions: the scope behind them, and their sums.
use Rattle.std.proofs.Common.{◌≡◌, ℕ, ◌+◌, Bool, true, false, List, [], ◌∷◌, Option, Some, None, refl, sym, ap, subst, ◌∙◌, arith}
use Rattle.std.specs.Prelude.{Result, Ok, Err, min, nat_lt, not}
use Rattle.std.specs.Option.{option_map_or}
use Rattle.std.specs.Result.{result_err}
use Rattle.c_syntax.specs.Plain.{CDecl, CValue}
use Rattle.c_types.specs.declared.fault.TypeFault.{TypeFault}
use Rattle.c_types.specs.declared.fault.TypeFault.TheVariants as fault
use Rattle.c_types.specs.Types.{CType, Tags, words_of}
use Rattle.c_types.specs.Refusals.{Judged, Rule, after, keeping, broken}
use Rattle.c_types.specs.Scope.{Scope, Object, with_name, is_declared_here}
use Rattle.c_types.specs.Declarations.{scope_or, declared, declared_type, declared_object, first_fitting}
use Rattle.c_types.specs.Census.{Tally, of_type, ty_sum, first_sum, object_sum}
use Rattle.c_types.specs.Limits.{initialised_words, wide_types}
use Rattle.c_types.specs.Seen.{Counts}
use Rattle.c_types.specs.Known.{Grows}
use Rattle.c_types.specs.Table.{Table, known}
use Rattle.c_operands.proofs.OperandLemmas.{grows_then}
use Rattle.c_operands.specs.declared.declarations.Declarations.{Declarations}
use Rattle.c_declared.specs.Held.{Holds, IsAround}
use Rattle.c_declared.proofs.HeldLemmas.{holds_kept}
use Rattle.c_weights.specs.declared.sum.Sum.{Sum}
use Rattle.c_weights.specs.Sums.{most_told, Sums, AreCounted}
use Rattle.c_weights.proofs.SumLemmas.{none_told}
use Rattle.c_census.specs.Sums.{AreMoved}

abbrev chosen : Option TypeFault → Scope → Judged Scope
chosen o s = option_map_or (λ e. Err e) o (Ok s)

-- what is refused declares nothing
pub refused_keeps : (s : Scope) (p : Judged Scope) (e : TypeFault) → Some e ≡ result_err p → scope_or s p ≡ s
refused_keeps s (Err d) e h = refl
refused_keeps s (Ok r) e h = absurd cc

-- a declaration that is no refusal has declared its name
abbrev named_or : Scope → CDecl → Judged Scope → Type 0
named_or s d p = result_err p ≡ None → (t : CType) × (scope_or s p ≡ with_name s d.name (Object t))

by_rules : (o : Option TypeFault) (s : Scope) (d : CDecl) (t : CType) → named_or s d (chosen o (with_name s d.name (Object t)))
by_rules None s d t = λ h. (t, refl)
by_rules (Some e) s d t = λ h. absurd cc

by_value : {A : Type 0} (p : Judged A) (rules : List Rule) (s : Scope) (d : CDecl) (t : CType) → named_or s d (after p (λ _. keeping rules (with_name s d.name (Object t))))
by_value (Ok a) rules s d t = by_rules (broken rules) s d t
by_value (Err e) rules s d t = λ h. absurd cc

by_type : (p : Judged CType) (s : Scope) (file : Bool) (d : CDecl) → ((t : CType) → named_or s d (declared_object s file d t)) → named_or s d (after p (λ t. declared_object s file d t))
by_type (Ok t) s file d each = each t
by_type (Err e) s file d each = λ h. absurd cc

pub declares : (s : Scope) (file : Bool) (d : CDecl) → named_or s d (declared s file d)
declares s file d =
    by_type (declared_type s d) s file d (λ t.
    by_value {A = Unit {0}} (first_fitting (with_name s d.name (Object t)) (record { file = file; pos = d.pos }) t d.first) ((not (is_declared_here s d.name), fault.Twice d.pos) ∷ []) s d t)

-- ---- the sum of an object's type

type_alone : (f : CType → ℕ) (p : Judged CType) → of_type f p ≡ of_type (λ t. f t + 0) p
type_alone f (Ok t) = omega arith
type_alone f (Err e) = refl

object_alone : (f : CType → ℕ) (p : Judged CType) → of_type f p ≡ of_type (λ t. 0 + f t) p
object_alone f (Ok t) = omega arith
object_alone f (Err e) = refl

none_of : (p : Judged CType) → 0 ≡ of_type (λ t. 0 + 0) p
none_of (Ok t) = refl
none_of (Err e) = refl

pub type_sums : (r : Sum) (tags : Tags) (v : Option CValue) (p : Judged CType) → Counts r.weight (of_type (λ t. initialised_words tags t v) p) → r.is_wide ≡ nat_lt 0 (of_type (λ t. wide_types tags t) p)
    → r.nodes ≡ 0 → r.words ≡ min (of_type (words_of tags) p) most_told → Sums r (λ k. of_type (λ t. k.ty tags t + k.object tags t v) p)
type_sums r tags v p weight wide nodes words = record {
  weight = subst (Counts r.weight) (object_alone (λ t. initialised_words tags t v) p) weight;
  wide = wide ∙ ap (nat_lt 0) (type_alone (λ t. wide_types tags t) p);
  nodes = nodes ∙ (sym none_told ∙ ap (λ k. min k most_told) (none_of p));
  words = words ∙ ap (λ k. min k most_told) (object_alone (words_of tags) p);
}

-- an object's declaration
pub local_moved : (t0 t1 t2 t3 t4 : Table) (d e : Declarations) (node written first own a b r : Sum) (x : CDecl) → Sums node (λ k. k.node)
    → ((s : Scope) → Holds t0 d s → Sums own (λ k. of_type (λ t. k.ty s.tags t + k.object s.tags t x.first) (declared_type s x))) → Grows (known t0) (known t1) → t1.tags ≡ t0.tags
    → AreCounted t1 t2 d written (λ s k. ty_sum k s x.ty)
    → ((s : Scope) → Holds t2 d s → Holds t3 e (scope_or s (declared s false x))) → Grows (known t2) (known t3) → t3.tags ≡ t2.tags → IsAround d e
    → AreCounted t3 t4 e first (λ s k. first_sum k s x.first)
    → ((m n : Tally → ℕ) → Sums node m → Sums written n → Sums a (λ k. m k + n k)) → ((m n : Tally → ℕ) → Sums a m → Sums first n → Sums b (λ k. m k + n k)) → ((m n : Tally → ℕ) → Sums b m → Sums own n → Sums r (λ k. m k + n k))
    → AreMoved t0 t4 d e r (λ s k. object_sum k s x) (λ s. scope_or s (declared s false x))
local_moved t0 t1 t2 t3 t4 d e node written first own a b r x one type_is grows1 tags1 write move grows3 tags3 around value plus_a plus_b plus_r =
    let grows2 = grows_then (known t0) (known t1) (known t2) grows1 write.grows in
    let tags2 = write.tags ∙ tags1 in
    let at1 : (s : Scope) → Holds t0 d s → Holds t1 d s = λ s holds. holds_kept t0 t1 d s grows1 tags1 holds in
    let at2 : (s : Scope) → Holds t0 d s → Holds t2 d s = λ s holds. holds_kept t0 t2 d s grows2 tags2 holds in
    record {
      counted = record {
        sums = λ s holds.
            let behind = scope_or s (declared s false x) in
            let types : Tally → ℕ = λ k. ty_sum k s x.ty in
            let firsts : Tally → ℕ = λ k. first_sum k behind x.first in
            let owns : Tally → ℕ = λ k. of_type (λ t. k.ty s.tags t + k.object s.tags t x.first) (declared_type s x) in
            plus_r (λ k. k.node + types k + firsts k) owns
            (plus_b (λ k. k.node + types k) firsts (plus_a (λ k. k.node) types one (write.sums s (at1 s holds))) (value.sums behind (move s (at2 s holds))))
            (type_is s holds);
        grows = grows_then (known t0) (known t3) (known t4) (grows_then (known t0) (known t2) (known t3) grows2 grows3) value.grows;
        tags = value.tags ∙ (tags3 ∙ tags2);
      };
      holds = λ s holds. holds_kept t3 t4 e (scope_or s (declared s false x)) value.grows value.tags (move s (at2 s holds));
      around = around;
    }
