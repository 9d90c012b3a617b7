-- Sums over several trees that declare names, one behind the other.
use Rattle.std.proofs.Common.{◌≡◌, ℕ, ◌+◌, refl, sym, ap, subst, ◌∙◌, arith}
use Rattle.c_types.specs.Scope.{Scope}
use Rattle.c_types.specs.Census.{Tally}
use Rattle.c_types.specs.Table.{Table}
use Rattle.c_operands.specs.declared.declarations.Declarations.{Declarations}
use Rattle.c_weights.specs.declared.sum.Sum.{Sum}
use Rattle.c_weights.specs.Sums.{Sums}
use Rattle.c_weights.proofs.SumLemmas.{counted_here}
use Rattle.c_census.specs.Sums.{AreMoved}
use Rattle.c_census.proofs.MovedLemmas.{moved_still, moved_same, moved_then}

-- the sum over all is that so far and the sum over those that are left, in the scope behind the first ones
pub record Going (old now : Table) (d e : Declarations) (sum : Sum) (left all : Scope → Tally → ℕ) (rest behind : Scope → Scope) : Type 0 where
  pub taken : Scope → Tally → ℕ
  pub here : Scope → Scope
  pub are : AreMoved old now d e sum taken here
  pub is : (s : Scope) (k : Tally) → all s k ≡ taken s k + left (here s) k
  pub scope : (s : Scope) → behind s ≡ rest (here s)

none_first : (a : ℕ) → a ≡ 0 + a
none_first a = omega arith

pub begun : (table : Table) (d : Declarations) (sum : Sum) (all : Scope → Tally → ℕ) (behind : Scope → Scope) → Sums sum (λ k. 0) → Going table table d d sum all all behind behind
begun table d sum all behind none = record {
  taken = λ s k. 0;
  here = λ s. s;
  are = moved_still table table d sum (λ s k. 0) (counted_here table d sum (λ s k. 0) (λ s. none));
  is = λ s k. none_first (all s k);
  scope = λ s. refl;
}

three : (a x b y z : ℕ) → a ≡ x + b → b ≡ y + z → a ≡ x + y + z
three a x b y z e f = omega (arith, e, f)

pub goes_on : (t0 t1 t2 : Table) (d e g : Declarations) (sum one new : Sum) (left more all next : Scope → Tally → ℕ) (rest others behind move : Scope → Scope) → Going t0 t1 d e sum left all rest behind → AreMoved t1 t2 e g one next move
    → ((a b : Tally → ℕ) → Sums sum a → Sums one b → Sums new (λ k. a k + b k)) → ((s : Scope) (k : Tally) → left s k ≡ next s k + more (move s) k) → ((s : Scope) → rest s ≡ others (move s)) → Going t0 t2 d g new more all others behind
goes_on t0 t1 t2 d e g sum one new left more all next rest others behind move h k plus parts scopes = record {
  taken = λ s c. h.taken s c + next (h.here s) c;
  here = λ s. move (h.here s);
  are = moved_then t0 t1 t2 d e g sum one new h.taken next h.here move h.are k plus;
  is = λ s c. three (all s c) (h.taken s c) (left (h.here s) c) (next (h.here s) c) (more (move (h.here s)) c) (h.is s c) (parts (h.here s) c);
  scope = λ s. h.scope s ∙ scopes (h.here s);
}

nothing_left : (a x b : ℕ) → a ≡ x + b → b ≡ 0 → x ≡ a
nothing_left a x b e f = omega (arith, e, f)

pub done : (t0 t1 : Table) (d e : Declarations) (sum : Sum) (left all : Scope → Tally → ℕ) (rest behind : Scope → Scope) → Going t0 t1 d e sum left all rest behind → ((s : Scope) (k : Tally) → left s k ≡ 0) → ((s : Scope) → rest s ≡ s)
    → AreMoved t0 t1 d e sum all behind
done t0 t1 d e sum left all rest behind g none same =
    moved_same t0 t1 d e sum g.taken all g.here behind
    (λ s k. nothing_left (all s k) (g.taken s k) (left (g.here s) k) (g.is s k) (none (g.here s) k))
    (λ s. sym (g.scope s ∙ same (g.here s)))
    g.are
