-- The shift to the left.
use Rattle.std.proofs.Common.{◌≡◌, ℕ, zero, suc, ◌+◌, ◌-◌, ◌*◌, ◌%◌, ◌^◌, ◌<◌, ◌≤◌, Bool, true, false, cond, nat_lt, nat_le, List, append-nil, refl, sym, ap, ◌∙◌, subst, arith, mod-eq_of_lt}
use Rattle.std.proofs.lemmas.Bool.{leb-true, leb-false}
use Rattle.std.proofs.Math.Nat.{pow-suc}
use Rattle.mach_core.proofs.Reaching.{one_step}
use Rattle.word24.specs.Word.{sum_word}
use Rattle.eir_core.specs.declared.ops.Reg.TheVariants.{A, B, C, SP}
use Rattle.eir_core.specs.declared.ops.Operand.TheVariants.{Reg as register}
use Rattle.eir_core.specs.declared.ops.Op.{Op}
use Rattle.eir_core.specs.declared.ops.Op.TheVariants.{Mov, Add, Sub}
use Rattle.eir_core.specs.Eir.{Eir}
use Rattle.eir_core.specs.Step.{Config, eir_rule, length_at}
use Rattle.c_place.specs.Place.{Place, Machine, front, moment, made}
use Rattle.c_routines.specs.Items.{Leads, Stands, constant}
use Rattle.c_routines.specs.Lands.{Lands}
use Rattle.c_routines.specs.Laws.{LeftLands}
use Rattle.c_routines.specs.Left.{left_over, doublings, left}
use Rattle.c_routines.proofs.Steps.{difference_is, one_quiet, one_jump, unmoved, kept_all, ahead}
use Rattle.c_routines.proofs.Bits.{carried, sum_carried}

-- a block of one operation is followed by the next one
followed : (p : Eir) (m : Machine) (b b1 : ℕ) (op : Op) (t : Place) → Leads p (front b) op t → t ≡ front b1 → b1 ≡ suc b
followed p m b b1 op t h e = go (nat_lt (0 + 1) (length_at p b)) (h.goes m.regs m.memory)
  where
    config : ℕ → ℕ → Config
    config k i = record { block = k; index = i; regs = m.regs; memory = m.memory }

    go : (x : Bool) → cond x (config b 1) (config (b + 1) 0) ≡ config t.block t.index → b1 ≡ suc b
    go true is = absurd (omega (arith, ap (λ (z : Config). z.index) is, ap (λ (z : Place). z.index) e))
    go false is = omega (arith, ap (λ (z : Config). z.block) is, ap (λ (z : Place). z.block) e)

-- a doubling and those after it
doubled : (a k : ℕ) → sum_word a a * 2 ^ k % 2 ^ 24 ≡ a * 2 ^ suc k % 2 ^ 24
doubled a k =
    let whole : (a + a) * 2 ^ k ≡ sum_word a a * 2 ^ k + 2 ^ 24 * (carried a a * 2 ^ k) = ap (λ z. z * 2 ^ k) (sum_carried a a) ∙ omega arith in
    let weight : a * 2 ^ suc k ≡ (a + a) * 2 ^ k = omega (arith, ap (λ z. a * z) (pow-suc 2 k)) in
    omega (arith, whole, weight)

module _ (p : Eir) (input : List ℕ) (at : ℕ → ℕ) (base first : ℕ) (taken : ℕ) (output : List ℕ) where
  -- what stands at label i
  pub record Row (i : ℕ) : Type 0 where
    pub label : at (left_over base i) < 2 ^ 24
    pub stands : Stands p at (front (at (left_over base i))) (doublings base i)
    pub count : at (left_over base i) + i ≡ at (left_over base 0)

  -- the blocks have numbers one after the other
  counted : (m : Machine) (k : ℕ) → Stands p at (front (at (left_over base k))) (doublings base k) → at (left_over base k) + k ≡ at (left_over base 0)
  unfolding doublings
  counted m zero h = omega arith
  counted m (suc k) h =
      let next : at (left_over base k) ≡ suc (at (left_over base (suc k))) = followed p m (at (left_over base (suc k))) (at (left_over base k)) (Add A (register A)) h.0 h.1 h.2.0 in
      let more : at (left_over base k) + k ≡ at (left_over base 0) = counted m k (subst (λ z. Stands p at z (doublings base k)) h.2.0 h.2.2) in
      omega (arith, next, more)

  pub rows : (m : Machine) (k : ℕ) → at (left_over base k) < 2 ^ 24 → Stands p at (front (at (left_over base k))) (doublings base k) → (i : ℕ) → i ≤ k → Row i
  unfolding doublings
  rows m zero lt h i le =
      let same : 0 ≡ i = omega (arith, le) in
      subst Row same (record { label = lt; stands = h; count = omega arith })
  rows m (suc k) lt h i le = go (nat_le i k) refl (λ below. rows m k h.2.1 (subst (λ z. Stands p at z (doublings base k)) h.2.0 h.2.2) i below)
    where
      go : (x : Bool) → nat_le i k ≡ x → (i ≤ k → Row i) → Row i
      go true e below = below (leb-true i k e)
      go false e below =
          let gt : k < i = leb-false i k e in
          let same : suc k ≡ i = omega (arith, gt, le) in
          subst Row same (record { label = lt; stands = h; count = counted m (suc k) h })

  pub doublings_land : (k : ℕ) (s : Place) (m : Machine) → Stands p at s (doublings base k) → m.regs.a < 2 ^ 24 → Lands p input first 0 s m taken output output (k + 1) (λ a c. a ≡ m.regs.a * 2 ^ k % 2 ^ 24)
  unfolding doublings
  doublings_land zero s m h word = record {
    regs = m.regs;
    memory = m.memory;
    comes = one_step (eir_rule p) input (moment s m taken output) (moment (front m.regs.sp) m taken output) (one_jump p input s h.0 m taken output (register SP) h.1);
    d = refl;
    sp = refl;
    bp = refl;
    kept = kept_all first 0 m.memory;
    result = omega (arith, word);
  }
  doublings_land (suc k) s m h word =
      let m1 : Machine = made (Add A (register A)) m in
      subst (λ z. Lands p input first 0 s m taken output output (suc k + 1) (λ a c. a ≡ z)) (doubled m.regs.a k)
      (ahead (suc k + 1) (one_quiet p input s h.0 m taken output (Add A (register A)) tt h.1)
      (unmoved first 0 m m1 refl refl refl refl)
      (doublings_land k h.0 m1 h.2.2 (omega arith))
      (omega arith))

  pub left_lands : (s : Place) (m : Machine) → Stands p at s (left base) → m.regs.a < 2 ^ 24 → m.regs.b ≤ 24 → Lands p input first 0 s m taken output output 28 (λ a c. a ≡ m.regs.a * 2 ^ m.regs.b % 2 ^ 24)
  left_lands s m h word few =
      let m1 : Machine = made (Mov C (constant (at (left_over base 0)))) m in
      let m2 : Machine = made (Sub C (register B)) m1 in
      let all = rows m 24 h.2.2.2.1 (subst (λ z. Stands p at z (doublings base 24)) h.2.2.2.0 h.2.2.2.2) in
      let row : Row m.regs.b = all m.regs.b few in
      let none : Row 0 = all 0 (omega arith) in
      let c_now : m2.regs.c ≡ at (left_over base m.regs.b) = ap (λ z. (z + (2 ^ 24 - m.regs.b)) % 2 ^ 24) (mod-eq_of_lt none.label) ∙ (difference_is (at (left_over base 0)) m.regs.b (omega (arith, row.count)) none.label ∙ omega (arith, row.count)) in
      ahead 28 (one_quiet p input s h.0 m taken output (Mov C (constant (at (left_over base 0)))) tt h.1)
      (unmoved first 0 m m1 refl refl refl refl)
      (ahead 27 (one_quiet p input h.0 h.2.0 m1 taken output (Sub C (register B)) tt h.2.1)
      (unmoved first 0 m1 m2 refl refl refl refl)
      (ahead 26 (one_jump p input h.2.0 h.2.2.0 m2 taken output (register C) h.2.2.1 ∙ ap (λ z. moment (front z) m2 taken output) c_now)
      (unmoved first 0 m2 m2 refl refl refl refl)
      (doublings_land m.regs.b (front (at (left_over base m.regs.b))) m2 row.stands word)
      (omega (arith, few)))
      (omega arith))
      (omega arith)

pub lefts : LeftLands
lefts p at base first s room h = record { lands = λ input m taken output word_a word_b few. subst (λ z. Lands p input first 0 s m taken output z 28 (λ a c. a ≡ m.regs.a * 2 ^ m.regs.b % 2 ^ 24)) (sym (append-nil output)) (left_lands p input at base first taken output s m h word_a few) }
