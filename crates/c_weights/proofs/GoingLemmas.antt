-- Sums over several trees, one after the other.
use Rattle.std.proofs.Common.{◌≡◌, ℕ, ◌+◌, ◌<◌, List, [], ◌∷◌, length, map, drop, refl, sym, ap, subst, ◌∙◌, arith}
use Rattle.c_types.specs.Scope.{Scope}
use Rattle.c_types.specs.Census.{Tally}
use Rattle.c_types.specs.Known.{Grows}
use Rattle.c_types.specs.Table.{Table, known}
use Rattle.c_operands.specs.declared.declarations.Declarations.{Declarations}
use Rattle.c_weights.specs.declared.sum.Sum.{Sum}
use Rattle.c_weights.specs.Sums.{Sums, AreCounted}
use Rattle.c_weights.proofs.SumLemmas.{alike, counted_both, counted_same, counted_here}

-- the sum over all is that so far and the sum over those that are left
pub record Going (old now : Table) (d : Declarations) (sum : Sum) (left all : Scope → Tally → ℕ) : Type 0 where
  pub taken : Scope → Tally → ℕ
  pub are : AreCounted old now d sum taken
  pub is : (s : Scope) (c : Tally) → all s c ≡ taken s c + left s c

none_first : (a b : ℕ) → a ≡ b → a ≡ 0 + b
none_first a b e = omega (arith, e)

pub begun : (table : Table) (d : Declarations) (sum : Sum) (left all : Scope → Tally → ℕ) → Sums sum (λ c. 0) → ((s : Scope) (c : Tally) → all s c ≡ left s c) → Going table table d sum left all
begun table d sum left all none same = record { taken = λ s c. 0; are = counted_here table d sum (λ s c. 0) (λ s. none); is = λ s c. none_first (all s c) (left s c) (same s c) }

three : (a x b y z : ℕ) → a ≡ x + b → b ≡ y + z → a ≡ x + y + z
three a x b y z e f = omega (arith, e, f)

pub goes_on : (t0 t1 t2 : Table) (d : Declarations) (sum one new : Sum) (left rest all next : Scope → Tally → ℕ) → Going t0 t1 d sum left all → AreCounted t1 t2 d one next
    → ((a b : Tally → ℕ) → Sums sum a → Sums one b → Sums new (λ c. a c + b c)) → ((s : Scope) (c : Tally) → left s c ≡ next s c + rest s c) → Going t0 t2 d new rest all
goes_on t0 t1 t2 d sum one new left rest all next g k plus parts = record {
  taken = λ s c. g.taken s c + next s c;
  are = counted_both t0 t1 t2 d sum one new g.taken next g.are k plus;
  is = λ s c. three (all s c) (g.taken s c) (left s c) (next s c) (rest s c) (g.is s c) (parts s c);
}

nothing_left : (a x b : ℕ) → a ≡ x + b → b ≡ 0 → x ≡ a
nothing_left a x b e f = omega (arith, e, f)

pub done : (t0 t1 : Table) (d : Declarations) (sum : Sum) (left all : Scope → Tally → ℕ) → Going t0 t1 d sum left all → ((s : Scope) (c : Tally) → left s c ≡ 0) → AreCounted t0 t1 d sum all
done t0 t1 d sum left all g none =
    counted_same t0 t1 d sum g.taken all
    (λ s. alike (g.taken s) (all s) (λ k. nothing_left (all s k) (g.taken s k) (left s k) (g.is s k) (none s k)))
    g.are

-- a sum over a list whose first element is known
pub first_of : {X : Type 0} (total : List X → Scope → Tally → ℕ) (xs : List X) (x : X) (ys : List X) (s : Scope) (c : Tally) → xs ≡ x ∷ ys → total xs s c ≡ total (x ∷ ys) s c
first_of total xs x ys s c e = ap (λ (l : List _). total l s c) e
