-- Heaps and memories after a store.
use Rattle.std.proofs.Common.{zero, suc, ◌≡◌, ℕ, Bool, true, false, cond, nat_eq, Option, Some, None, unwrap_or, refl, sym, ap, ◌∙◌, arith}
use Rattle.std.specs.Prelude.{ℤ, pos, negsuc}
use Rattle.std.specs.declared.cmp.Ordering.{Ordering}
use Rattle.std.specs.Ordering.{eq_by_cmp, nat_cmp, int_cmp}
use Rattle.std.specs.Cmp.{IsTotalOrder, nat_cmp_total, int_cmp_total}
use Rattle.std.specs.FinMap as fin
use Rattle.std.proofs.lemmas.Bool.{eqb-true}
use Rattle.std.proofs.lemmas.Bool.Decides.{nat_tests}
use Rattle.mach_core.specs.Sparse.{value_at, with_value}
use Rattle.eir_core.specs.declared.ops.Reg.{Reg}
use Rattle.eir_core.specs.declared.ops.Reg.TheVariants.{A, B, C, D, SP, BP}
use Rattle.eir_core.specs.Memory.{Memory, word_at, with_word}
use Rattle.eir_core.specs.Step.{Regs, reg_of, with_reg}
use Rattle.mach_core.specs.Integer.{is_zero}
use Rattle.ws_lang.specs.Step.{Heap}
use Rattle.ws_back.specs.Code.{address, wanted}
use Rattle.ws_back.specs.Related.{Holds}

-- what stands at a place after a store at another one or the same
pub value-with : {K V : Type 0} {R : K → K → Ordering} (total : IsTotalOrder R) (none : V) (is_none : V → Bool) (m : fin.FinMap R V) (k : K) (v : V) (q : K) → (is_none v ≡ true → none ≡ v)
    → value_at none (with_value is_none m k v) q ≡ cond (eq_by_cmp R q k) v (value_at none m q)
value-with {V = V} {R = R} total none is_none m k v q e =
    elim (is_none v) as (λ b. (b ≡ true → none ≡ v) → value_at none (cond b (fin.remove m k) (fin.insert m k v)) q ≡ cond (eq_by_cmp R q k) v (value_at none m q)) [
      | true ↦ λ e'. ap (λ o. unwrap_or o none) (fin.get-remove total m k q) ∙ taken (eq_by_cmp R q k) (fin.get m q) (e' refl)
      | false ↦ λ e'. ap (λ o. unwrap_or o none) (fin.get-insert total m k v q) ∙ given (eq_by_cmp R q k) (fin.get m q)
    ] e
  where
    taken : (b : Bool) (o : Option V) → none ≡ v → unwrap_or (cond b None o) none ≡ cond b v (unwrap_or o none)
    taken true o same = same
    taken false o same = refl

    given : (b : Bool) (o : Option V) → unwrap_or (cond b (Some v) o) none ≡ cond b v (unwrap_or o none)
    given true o = refl
    given false o = refl

pub heap-with : (h : Heap) (a v q : ℤ) → value_at (pos 0) (with_value is_zero h a v) q ≡ cond (eq_by_cmp int_cmp q a) v (value_at (pos 0) h q)
heap-with h a v q = value-with int_cmp_total (pos 0) is_zero h a v q (zero_is v)
  where
    zero_is : (v : ℤ) → is_zero v ≡ true → pos 0 ≡ v
    zero_is (pos zero) e = refl
    zero_is (pos (suc n)) e = cc
    zero_is (negsuc n) e = cc

pub word-with : (m : Memory) (a w q : ℕ) → word_at (with_word m a w) q ≡ cond (eq_by_cmp nat_cmp q a) w (word_at m q)
word-with m a w q = value-with nat_cmp_total 0 (nat_eq 0) m a w q (λ e. eqb-true 0 w e)

-- the two orders tell the same apart
pub same_test : (a q : ℕ) → eq_by_cmp int_cmp (pos q) (pos a) ≡ eq_by_cmp nat_cmp q a
same_test a q = grind (arith, nat_tests)

-- a word stored at its address
pub holds-word : (h : Heap) (r : Regs) (m : Memory) (a w : ℕ) → Holds h r m → Holds (with_value is_zero h (pos a) (pos w)) r (with_word m a w)
holds-word h r m a w held = record {
  registers = λ x. registers x;
  words = λ q. heap-with h (pos a) (pos w) (pos q)
      ∙ (ap (λ b. cond b (pos w) (value_at (pos 0) h (pos q))) (same_test a q)
      ∙ (ap (λ v. cond (eq_by_cmp nat_cmp q a) (pos w) v) (held.words q)
      ∙ (pulled (eq_by_cmp nat_cmp q a) w (word_at m q) ∙ ap pos (sym (word-with m a w q)))));
}
  where
    pulled : (b : Bool) (x y : ℕ) → cond b (pos x) (pos y) ≡ pos (cond b x y)
    pulled true x y = refl
    pulled false x y = refl

    registers : (x : Reg) → value_at (pos 0) (with_value is_zero h (pos a) (pos w)) (address x) ≡ pos (reg_of r x)
    registers A = heap-with h (pos a) (pos w) (address A) ∙ held.registers A
    registers B = heap-with h (pos a) (pos w) (address B) ∙ held.registers B
    registers C = heap-with h (pos a) (pos w) (address C) ∙ held.registers C
    registers D = heap-with h (pos a) (pos w) (address D) ∙ held.registers D
    registers SP = heap-with h (pos a) (pos w) (address SP) ∙ held.registers SP
    registers BP = heap-with h (pos a) (pos w) (address BP) ∙ held.registers BP

pub reg-with : (r : Regs) (x y : Reg) (v : ℕ) → reg_of (with_reg r x v) y ≡ cond (eq_by_cmp int_cmp (address y) (address x)) v (reg_of r y)
reg-with r A A v = refl
reg-with r A B v = refl
reg-with r A C v = refl
reg-with r A D v = refl
reg-with r A SP v = refl
reg-with r A BP v = refl
reg-with r B A v = refl
reg-with r B B v = refl
reg-with r B C v = refl
reg-with r B D v = refl
reg-with r B SP v = refl
reg-with r B BP v = refl
reg-with r C A v = refl
reg-with r C B v = refl
reg-with r C C v = refl
reg-with r C D v = refl
reg-with r C SP v = refl
reg-with r C BP v = refl
reg-with r D A v = refl
reg-with r D B v = refl
reg-with r D C v = refl
reg-with r D D v = refl
reg-with r D SP v = refl
reg-with r D BP v = refl
reg-with r SP A v = refl
reg-with r SP B v = refl
reg-with r SP C v = refl
reg-with r SP D v = refl
reg-with r SP SP v = refl
reg-with r SP BP v = refl
reg-with r BP A v = refl
reg-with r BP B v = refl
reg-with r BP C v = refl
reg-with r BP D v = refl
reg-with r BP SP v = refl
reg-with r BP BP v = refl

-- a word stored at a register's address
pub holds-register : (h : Heap) (r : Regs) (m : Memory) (x : Reg) (v : ℕ) → Holds h r m → Holds (with_value is_zero h (address x) (pos v)) (with_reg r x v) m
holds-register h r m x v held = record {
  registers = λ y. heap-with h (address x) (pos v) (address y)
      ∙ (ap (λ w. cond (eq_by_cmp int_cmp (address y) (address x)) (pos v) w) (held.registers y)
      ∙ (pulled (eq_by_cmp int_cmp (address y) (address x)) v (reg_of r y) ∙ ap pos (sym (reg-with r x y v))));
  words = λ q. heap-with h (address x) (pos v) (pos q) ∙ (ap (λ b. cond b (pos v) (value_at (pos 0) h (pos q))) (apart x q) ∙ held.words q);
}
  where
    pulled : (b : Bool) (x y : ℕ) → cond b (pos x) (pos y) ≡ pos (cond b x y)
    pulled true x y = refl
    pulled false x y = refl

    apart : (x : Reg) (q : ℕ) → eq_by_cmp int_cmp (pos q) (address x) ≡ false
    apart A q = refl
    apart B q = refl
    apart C q = refl
    apart D q = refl
    apart SP q = refl
    apart BP q = refl

-- the number of a wanted block, stored at its address
pub holds-wanted : (h : Heap) (r : Regs) (m : Memory) (v : ℤ) → Holds h r m → Holds (with_value is_zero h wanted v) r m
holds-wanted h r m v held = record {
  registers = λ x. heap-with h wanted v (address x) ∙ (ap (λ b. cond b v (value_at (pos 0) h (address x))) (apart x) ∙ held.registers x);
  words = λ q. heap-with h wanted v (pos q) ∙ held.words q;
}
  where
    apart : (x : Reg) → eq_by_cmp int_cmp (address x) wanted ≡ false
    apart A = refl
    apart B = refl
    apart C = refl
    apart D = refl
    apart SP = refl
    apart BP = refl

pub at-wanted : (h : Heap) (v : ℤ) → value_at (pos 0) (with_value is_zero h wanted v) wanted ≡ v
at-wanted h v = heap-with h wanted v wanted
