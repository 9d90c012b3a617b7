-- Jumps of code, and the sizes of its programs.
use Rattle.std.proofs.Common.{◌≡◌, ℕ, suc, ◌+◌, ◌≤◌, ◌<◌, Bool, true, false, List, ◌∷◌, length, drop, get_or, add-one, drop-cons, sym, ap, if◌then◌else◌, arith}
use Rattle.eir_core.specs.declared.ops.Op.{Op}
use Rattle.eir_core.specs.Eir.{is_jump}
use Rattle.c_place.specs.Code.{jumps}

pub jumps_first : (op : Op) (ops : List Op) → jumps (op ∷ ops) ≡ (if is_jump op then 1 else 0) + jumps ops
jumps_first op ops = by (is_jump op) where
  by : (b : Bool) → (if b then suc (jumps ops) else jumps ops) ≡ (if b then 1 else 0) + jumps ops
  by true = omega arith
  by false = omega arith

pub one_most : (op : Op) (n : ℕ) → n ≡ (if is_jump op then 1 else 0) → n ≤ 1
one_most op n e = by (is_jump op) e where
  by : (b : Bool) → n ≡ (if b then 1 else 0) → n ≤ 1
  by true e = omega (arith, e)
  by false e = omega (arith, e)

pub drop_at : {X : Type 0} (xs : List X) (i : ℕ) (x : X) → i < length xs → x ≡ get_or xs i x → drop i xs ≡ x ∷ drop (i + 1) xs
drop_at xs i x h e = rw (add-one, drop-cons xs i x) (ap (λ y. y ∷ drop (suc i) xs) (sym e))
