-- Counts over several trees, one after the other.
use Rattle.std.proofs.Common.{◌≡◌, ℕ, ◌+◌, refl, subst, arith}
use Rattle.c_counted.specs.Numbers.{IsNumber}

-- the count of all is that so far and that of those which are left
pub record Going (sum left all : ℕ) : Type 0 where
  pub taken : ℕ
  pub are : IsNumber sum taken
  pub is : all ≡ taken + left

pub begun : (left all : ℕ) → all ≡ left → Going 0 left all
begun left all same = record { taken = 0; are = record { same = refl }; is = omega (arith, same) }

pub goes_on : (sum one new left next rest all : ℕ) → Going sum left all → IsNumber one next → ((m n : ℕ) → IsNumber sum m → IsNumber one n → IsNumber new (m + n)) → left ≡ next + rest → Going new rest all
goes_on sum one new left next rest all g is plus parts = record {
  taken = g.taken + next;
  are = plus g.taken next g.are is;
  is = let e = g.is in omega (arith, e, parts);
}

pub done : (sum left all : ℕ) → Going sum left all → left ≡ 0 → IsNumber sum all
done sum left all g none = let e = g.is in subst (λ n. IsNumber sum n) (omega (arith, e, none)) g.are
