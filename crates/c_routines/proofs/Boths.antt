-- The bits of both, level by level.
use Rattle.std.proofs.Common.{◌≡◌, ℕ, zero, suc, ◌+◌, ◌-◌, ◌*◌, ◌%◌, ◌^◌, ◌<◌, ◌≤◌, Bool, true, false, nat_lt, nat_le, List, [], ◌∷◌, ◌++◌, append-nil, refl, sym, ap, ◌∙◌, subst, arith, mod-eq_of_lt}
use Rattle.std.proofs.lemmas.Bool.{ltb-true, ltb-false, leb-false}
use Rattle.std.proofs.lemmas.Nat.{pow_below, and_le_l, and_block}
use Rattle.std.proofs.Math.Nat.{pow-suc, pow-le-pow_right}
use Rattle.std.specs.Int.Bits.{bit_and, and_zero_l}
use Rattle.mach_core.proofs.Reaching.{one_step}
use Rattle.eir_core.specs.declared.ops.Reg.TheVariants.{A, B, C, SP}
use Rattle.eir_core.specs.declared.ops.Operand.TheVariants.{Reg as register}
use Rattle.eir_core.specs.declared.ops.Cond.TheVariants.{Lt, Ge}
use Rattle.eir_core.specs.declared.ops.Op.TheVariants.{Mov, Add, Sub}
use Rattle.eir_core.specs.Eir.{Eir}
use Rattle.eir_core.specs.Step.{eir_rule}
use Rattle.c_place.specs.Place.{Place, Machine, front, moment, made}
use Rattle.c_routines.specs.declared.item.Item.{Item}
use Rattle.c_routines.specs.declared.item.Item.TheVariants.{Label, JumpIf as JumpWhere}
use Rattle.c_routines.specs.Items.{Stands, constant, label_of}
use Rattle.c_routines.specs.Lands.{Lands}
use Rattle.c_routines.specs.Laws.{BothLands}
use Rattle.c_routines.specs.Both.{below, lacking, mask, masks, both}
use Rattle.c_routines.proofs.Steps.{sum_is, difference_is, one_quiet, one_jump, one_jump_if, unmoved, kept_all, ahead, no_more}

-- ---- bits

top_both : (k r s : ℕ) → r < 2 ^ k → s < 2 ^ k → bit_and (2 ^ k + r) (2 ^ k + s) ≡ 2 ^ k + bit_and r s
top_both k r s lr ls =
    let e : 1 * 2 ^ k + r ≡ 2 ^ k + r = omega arith in
    let f : 1 * 2 ^ k + s ≡ 2 ^ k + s = omega arith in
    ap (λ z. bit_and z (2 ^ k + s)) (sym e) ∙ (ap (bit_and (1 * 2 ^ k + r)) (sym f) ∙ (and_block k 1 1 r s lr ls ∙ omega arith))

top_one : (k r s : ℕ) → r < 2 ^ k → s < 2 ^ k → bit_and (2 ^ k + r) s ≡ bit_and r s
top_one k r s lr ls =
    let e : 1 * 2 ^ k + r ≡ 2 ^ k + r = omega arith in
    let f : 0 * 2 ^ k + s ≡ s = omega arith in
    ap (λ z. bit_and z s) (sym e) ∙ (ap (bit_and (1 * 2 ^ k + r)) (sym f) ∙ (and_block k 1 0 r s lr ls ∙ omega arith))

top_other : (k r s : ℕ) → r < 2 ^ k → s < 2 ^ k → bit_and r (2 ^ k + s) ≡ bit_and r s
top_other k r s lr ls =
    let e : 0 * 2 ^ k + r ≡ r = omega arith in
    let f : 1 * 2 ^ k + s ≡ 2 ^ k + s = omega arith in
    ap (λ z. bit_and z (2 ^ k + s)) (sym e) ∙ (ap (bit_and (0 * 2 ^ k + r)) (sym f) ∙ (and_block k 0 1 r s lr ls ∙ omega arith))

-- before the bits below level k
pub record Masks (n k : ℕ) (m : Machine) : Type 0 where
  pub whole : m.regs.c + bit_and m.regs.a m.regs.b ≡ n
  pub small_a : m.regs.a < 2 ^ k
  pub small_b : m.regs.b < 2 ^ k

module _ (p : Eir) (input : List ℕ) (at : ℕ → ℕ) (base first : ℕ) (taken : ℕ) (output : List ℕ) (n : ℕ) (word : n < 2 ^ 24) where
  abbrev pub Masked : Place → Machine → ℕ → Type 0
  Masked s m most = Lands p input first 0 s m taken output output most (λ a c. a ≡ n)

  abbrev less_b : ℕ → Machine → Machine
  less_b k m = made (Sub B (constant (2 ^ k))) m

  mask_lands : (k : ℕ) → k < 24 → (s : Place) (m : Machine) (rest : List Item) (most : ℕ) → Stands p at s (mask base k rest) → Masks n (suc k) m → ((t : Place) → Stands p at t rest → (m : Machine) → Masks n k m → Masked t m most) → Masked s m (most + 6)
  mask_lands k lt s m rest most h f on = tests (nat_lt m.regs.b (2 ^ k)) refl
    where
      power : 2 ^ k < 2 ^ 24
      power = pow_below k 24 lt

      number : 2 ^ k % 2 ^ 24 ≡ 2 ^ k
      number = mod-eq_of_lt power

      double : 2 ^ suc k ≡ 2 ^ k + 2 ^ k
      double = omega (arith, pow-suc 2 k)

      full : 2 ^ suc k ≤ 2 ^ 24
      full = pow-le-pow_right {n = 2} (omega arith) {i = suc k} {j = 24} lt

      -- the label after
      to : (m : Machine) → moment (front (at (below base k) % 2 ^ 24)) m taken output ≡ moment h.2.2.2.2.2.2.2.2.0 m taken output
      to m = ap (λ z. moment z m taken output) (ap front (mod-eq_of_lt h.2.2.2.2.2.2.2.2.2.1) ∙ sym h.2.2.2.2.2.2.2.2.2.0)

      next : (m : Machine) → Masks n k m → Masked h.2.2.2.2.2.2.2.2.0 m most
      next m f = on h.2.2.2.2.2.2.2.2.0 h.2.2.2.2.2.2.2.2.2.2 m f

      -- a bit less
      less : (x : ℕ) → x < 2 ^ suc k → 2 ^ k ≤ x → (x + (2 ^ 24 - 2 ^ k % 2 ^ 24)) % 2 ^ 24 ≡ x - 2 ^ k
      less x small ge = ap (λ z. (x + (2 ^ 24 - z)) % 2 ^ 24) number ∙ difference_is x (2 ^ k) ge (omega (arith, small, full))

      -- B lacks it
      lacks : (x : Bool) → nat_lt m.regs.a (2 ^ k) ≡ x → m.regs.b < 2 ^ k → Masked h.2.2.2.2.2.0 m (most + 2)
      lacks true e small =
          ahead (most + 2) (one_jump_if p input h.2.2.2.2.2.0 h.2.2.2.2.2.2.2.0 m taken output Lt (constant (at (below base k))) A (constant (2 ^ k)) true (ap (nat_lt m.regs.a) number ∙ e) h.2.2.2.2.2.2.2.1 ∙ to m)
          (unmoved first 0 m m refl refl refl refl)
          (next m (record { whole = f.whole; small_a = ltb-true m.regs.a (2 ^ k) e; small_b = small }))
          (omega arith)
      lacks false e small =
          let m1 : Machine = made (Sub A (constant (2 ^ k))) m in
          let ge : 2 ^ k ≤ m.regs.a = ltb-false m.regs.a (2 ^ k) e in
          let a_now : m1.regs.a ≡ m.regs.a - 2 ^ k = less m.regs.a f.small_a ge in
          let lower : m.regs.a - 2 ^ k < 2 ^ k = omega (arith, f.small_a, double, ge) in
          let parts : 2 ^ k + (m.regs.a - 2 ^ k) ≡ m.regs.a = omega (arith, ge) in
          let same : bit_and m1.regs.a m.regs.b ≡ bit_and m.regs.a m.regs.b = ap (λ z. bit_and z m.regs.b) a_now ∙ (sym (top_one k (m.regs.a - 2 ^ k) m.regs.b lower small) ∙ ap (λ z. bit_and z m.regs.b) parts) in
          ahead (most + 2) (one_jump_if p input h.2.2.2.2.2.0 h.2.2.2.2.2.2.2.0 m taken output Lt (constant (at (below base k))) A (constant (2 ^ k)) false (ap (nat_lt m.regs.a) number ∙ e) h.2.2.2.2.2.2.2.1)
          (unmoved first 0 m m refl refl refl refl)
          (ahead (most + 1) (one_quiet p input h.2.2.2.2.2.2.2.0 h.2.2.2.2.2.2.2.2.0 m taken output (Sub A (constant (2 ^ k))) tt h.2.2.2.2.2.2.2.2.1)
          (unmoved first 0 m m1 refl refl refl refl)
          (next m1 (record { whole = ap (λ z. m.regs.c + z) same ∙ f.whole; small_a = omega (arith, a_now, lower); small_b = small }))
          (omega arith))
          (omega arith)

      -- B has it
      has : (x : Bool) → nat_lt m.regs.a (2 ^ k) ≡ x → 2 ^ k ≤ m.regs.b → Masked h.2.0 (less_b k m) (most + 4)
      has true e ge =
          let b_now : (less_b k m).regs.b ≡ m.regs.b - 2 ^ k = less m.regs.b f.small_b ge in
          let lower : m.regs.b - 2 ^ k < 2 ^ k = omega (arith, f.small_b, double, ge) in
          let parts : 2 ^ k + (m.regs.b - 2 ^ k) ≡ m.regs.b = omega (arith, ge) in
          let small : m.regs.a < 2 ^ k = ltb-true m.regs.a (2 ^ k) e in
          let same : bit_and m.regs.a (less_b k m).regs.b ≡ bit_and m.regs.a m.regs.b = ap (bit_and m.regs.a) b_now ∙ (sym (top_other k m.regs.a (m.regs.b - 2 ^ k) small lower) ∙ ap (bit_and m.regs.a) parts) in
          ahead (most + 4) (one_jump_if p input h.2.0 h.2.2.0 (less_b k m) taken output Lt (constant (at (below base k))) A (constant (2 ^ k)) true (ap (nat_lt m.regs.a) number ∙ e) h.2.2.1 ∙ to (less_b k m))
          (unmoved first 0 (less_b k m) (less_b k m) refl refl refl refl)
          (next (less_b k m) (record { whole = ap (λ z. m.regs.c + z) same ∙ f.whole; small_a = small; small_b = omega (arith, b_now, lower) }))
          (omega arith)
      has false e ge =
          let m1 : Machine = made (Sub A (constant (2 ^ k))) (less_b k m) in
          let m2 : Machine = made (Add C (constant (2 ^ k))) m1 in
          let ge_a : 2 ^ k ≤ m.regs.a = ltb-false m.regs.a (2 ^ k) e in
          let a_now : m2.regs.a ≡ m.regs.a - 2 ^ k = less m.regs.a f.small_a ge_a in
          let b_now : m2.regs.b ≡ m.regs.b - 2 ^ k = less m.regs.b f.small_b ge in
          let lower_a : m.regs.a - 2 ^ k < 2 ^ k = omega (arith, f.small_a, double, ge_a) in
          let lower_b : m.regs.b - 2 ^ k < 2 ^ k = omega (arith, f.small_b, double, ge) in
          let parts_a : m.regs.a ≡ 2 ^ k + (m.regs.a - 2 ^ k) = omega (arith, ge_a) in
          let parts_b : m.regs.b ≡ 2 ^ k + (m.regs.b - 2 ^ k) = omega (arith, ge) in
          let split : bit_and m.regs.a m.regs.b ≡ 2 ^ k + bit_and (m.regs.a - 2 ^ k) (m.regs.b - 2 ^ k) = ap (λ z. bit_and z m.regs.b) parts_a ∙ (ap (bit_and (2 ^ k + (m.regs.a - 2 ^ k))) parts_b ∙ top_both k (m.regs.a - 2 ^ k) (m.regs.b - 2 ^ k) lower_a lower_b) in
          let same : bit_and m2.regs.a m2.regs.b ≡ bit_and (m.regs.a - 2 ^ k) (m.regs.b - 2 ^ k) = ap (λ z. bit_and z m2.regs.b) a_now ∙ ap (bit_and (m.regs.a - 2 ^ k)) b_now in
          let c_now : m2.regs.c ≡ m.regs.c + 2 ^ k = ap (λ z. (m.regs.c + z) % 2 ^ 24) number ∙ sum_is m.regs.c (2 ^ k) (omega (arith, f.whole, split, word)) in
          ahead (most + 4) (one_jump_if p input h.2.0 h.2.2.0 (less_b k m) taken output Lt (constant (at (below base k))) A (constant (2 ^ k)) false (ap (nat_lt m.regs.a) number ∙ e) h.2.2.1)
          (unmoved first 0 (less_b k m) (less_b k m) refl refl refl refl)
          (ahead (most + 3) (one_quiet p input h.2.2.0 h.2.2.2.0 (less_b k m) taken output (Sub A (constant (2 ^ k))) tt h.2.2.2.1)
          (unmoved first 0 (less_b k m) m1 refl refl refl refl)
          (ahead (most + 2) (one_quiet p input h.2.2.2.0 h.2.2.2.2.0 m1 taken output (Add C (constant (2 ^ k))) tt h.2.2.2.2.1)
          (unmoved first 0 m1 m2 refl refl refl refl)
          (ahead (most + 1) (one_jump p input h.2.2.2.2.0 h.2.2.2.2.2.0 m2 taken output (constant (at (below base k))) h.2.2.2.2.2.1 ∙ to m2)
          (unmoved first 0 m2 m2 refl refl refl refl)
          (next m2 (record { whole = omega (arith, c_now, same, split, f.whole); small_a = omega (arith, a_now, lower_a); small_b = omega (arith, b_now, lower_b) }))
          (omega arith))
          (omega arith))
          (omega arith))
          (omega arith)

      tests : (x : Bool) → nat_lt m.regs.b (2 ^ k) ≡ x → Masked s m (most + 6)
      tests true e =
          ahead (most + 6) (one_jump_if p input s h.0 m taken output Lt (constant (at (lacking base k))) B (constant (2 ^ k)) true (ap (nat_lt m.regs.b) number ∙ e) h.1 ∙ ap (λ z. moment z m taken output) (ap front (mod-eq_of_lt h.2.2.2.2.2.2.1) ∙ sym h.2.2.2.2.2.2.0))
          (unmoved first 0 m m refl refl refl refl)
          (lacks (nat_lt m.regs.a (2 ^ k)) refl (ltb-true m.regs.b (2 ^ k) e))
          (omega arith)
      tests false e =
          ahead (most + 6) (one_jump_if p input s h.0 m taken output Lt (constant (at (lacking base k))) B (constant (2 ^ k)) false (ap (nat_lt m.regs.b) number ∙ e) h.1)
          (unmoved first 0 m m refl refl refl refl)
          (ahead (most + 5) (one_quiet p input h.0 h.2.0 m taken output (Sub B (constant (2 ^ k))) tt h.2.1)
          (unmoved first 0 m (less_b k m) refl refl refl refl)
          (has (nat_lt m.regs.a (2 ^ k)) refl (ltb-false m.regs.b (2 ^ k) e))
          (omega arith))
          (omega arith)

  pub masks_land : (k : ℕ) → k ≤ 24 → (s : Place) (m : Machine) → Stands p at s (masks base k) → Masks n k m → Masked s m (6 * k + 2)
  unfolding masks
  masks_land zero le s m h f =
      let m1 : Machine = made (Mov A (register C)) m in
      let none : m.regs.a ≡ 0 = omega (arith, f.small_a) in
      let gone : bit_and m.regs.a m.regs.b ≡ 0 = ap (λ z. bit_and z m.regs.b) none ∙ and_zero_l m.regs.b in
      ahead 2 (one_quiet p input s h.0 m taken output (Mov A (register C)) tt h.1)
      (unmoved first 0 m m1 refl refl refl refl)
      (record {
        regs = m1.regs;
        memory = m1.memory;
        comes = one_step (eir_rule p) input (moment h.0 m1 taken output) (moment (front m1.regs.sp) m1 taken output) (one_jump p input h.0 h.2.0 m1 taken output (register SP) h.2.1);
        d = refl;
        sp = refl;
        bp = refl;
        kept = kept_all first 0 m1.memory;
        result = omega (arith, f.whole, gone);
      })
      (omega arith)
  masks_land (suc k) le s m h f = no_more (6 * suc k + 2) (mask_lands k (omega (arith, le)) s m (masks base k) (6 * k + 2) h f (λ t h1 m1 f1. masks_land k (omega (arith, le)) t m1 h1 f1)) (omega arith)

  -- what stands at the label below level i
  pub record Row (i : ℕ) : Type 0 where
    pub label : at (below base i) < 2 ^ 24
    pub stands : Stands p at (front (at (below base i))) (masks base i)

  pub rows : (k : ℕ) (s : Place) → Stands p at s (masks base k) → (i : ℕ) → i < k → Row i
  unfolding masks
  rows zero s h i lt = absurd (omega (arith, lt))
  rows (suc k) s h i lt = go (nat_lt i k) refl (λ less. rows k h.2.2.2.2.2.2.2.2.0 h.2.2.2.2.2.2.2.2.2.2 i less)
    where
      go : (x : Bool) → nat_lt i k ≡ x → (i < k → Row i) → Row i
      go true e less = less (ltb-true i k e)
      go false e less =
          let ge : k ≤ i = ltb-false i k e in
          let same : k ≡ i = omega (arith, ge, lt) in
          subst Row same (record { label = h.2.2.2.2.2.2.2.2.2.1; stands = subst (λ z. Stands p at z (masks base k)) h.2.2.2.2.2.2.2.2.2.0 h.2.2.2.2.2.2.2.2.2.2 })

  -- two operands that are both below 2^16, or 2^8, begin there
  from_all : (s : Place) (m : Machine) → Stands p at s (masks base 24) → m.regs.a < 2 ^ 24 → m.regs.b < 2 ^ 24 → m.regs.c + bit_and m.regs.a m.regs.b ≡ n → Masked s m 146
  from_all s m h word_a word_b whole = masks_land 24 (omega arith) s m h (record { whole = whole; small_a = word_a; small_b = word_b })

  from_half : (s : Place) (m : Machine) → Stands p at s (JumpWhere Ge (label_of base 1) A (constant (2 ^ 16)) ∷ JumpWhere Lt (below base 16) B (constant (2 ^ 16)) ∷ Label (label_of base 1) ∷ masks base 24)
      → m.regs.a < 2 ^ 24 → m.regs.b < 2 ^ 24 → m.regs.c + bit_and m.regs.a m.regs.b ≡ n → Masked s m 148
  from_half s m h word_a word_b whole = go (nat_le (2 ^ 16) m.regs.a) refl
    where
      second : (x : Bool) → nat_lt m.regs.b (2 ^ 16) ≡ x → m.regs.a < 2 ^ 16 → Masked h.0 m 147
      second true e low =
          let row : Row 16 = rows 24 h.2.0 h.2.2.2 16 (omega arith) in
          ahead 147 (one_jump_if p input h.0 h.2.0 m taken output Lt (constant (at (below base 16))) B (constant (2 ^ 16)) true e h.2.1 ∙ ap (λ z. moment (front z) m taken output) (mod-eq_of_lt row.label))
          (unmoved first 0 m m refl refl refl refl)
          (masks_land 16 (omega arith) (front (at (below base 16))) m row.stands (record { whole = whole; small_a = low; small_b = ltb-true m.regs.b (2 ^ 16) e }))
          (omega arith)
      second false e low =
          ahead 147 (one_jump_if p input h.0 h.2.0 m taken output Lt (constant (at (below base 16))) B (constant (2 ^ 16)) false e h.2.1)
          (unmoved first 0 m m refl refl refl refl)
          (from_all h.2.0 m h.2.2.2 word_a word_b whole)
          (omega arith)

      go : (x : Bool) → nat_le (2 ^ 16) m.regs.a ≡ x → Masked s m 148
      go true e =
          ahead 148 (one_jump_if p input s h.0 m taken output Ge (constant (at (label_of base 1))) A (constant (2 ^ 16)) true e h.1 ∙ ap (λ z. moment z m taken output) (ap front (mod-eq_of_lt h.2.2.1) ∙ sym h.2.2.0))
          (unmoved first 0 m m refl refl refl refl)
          (from_all h.2.0 m h.2.2.2 word_a word_b whole)
          (omega arith)
      go false e =
          ahead 148 (one_jump_if p input s h.0 m taken output Ge (constant (at (label_of base 1))) A (constant (2 ^ 16)) false e h.1)
          (unmoved first 0 m m refl refl refl refl)
          (second (nat_lt m.regs.b (2 ^ 16)) refl (leb-false (2 ^ 16) m.regs.a e))
          (omega arith)

whole_lands : (p : Eir) (at : ℕ → ℕ) (base first : ℕ) (s : Place) → Stands p at s (both base) → (input : List ℕ) (m : Machine) (taken : ℕ) (output : List ℕ) → m.regs.a < 2 ^ 24 → m.regs.b < 2 ^ 24
    → Lands p input first 0 s m taken output (output ++ []) 151 (λ a c. a ≡ bit_and m.regs.a m.regs.b)
whole_lands p at base first s h input m taken output word_a word_b =
    let m1 : Machine = made (Mov C (constant 0)) m in
    subst (λ z. Lands p input first 0 s m taken output z 151 (λ a c. a ≡ bit_and m.regs.a m.regs.b)) (sym (append-nil output))
    (ahead 151 (one_quiet p input s h.0 m taken output (Mov C (constant 0)) tt h.1)
    (unmoved first 0 m m1 refl refl refl refl)
    (begin (nat_le (2 ^ 8) m.regs.a) refl)
    (omega arith))
  where
    small : bit_and m.regs.a m.regs.b < 2 ^ 24
    small = omega (arith, and_le_l m.regs.a m.regs.b, word_a)

    second : (x : Bool) → nat_lt m.regs.b (2 ^ 8) ≡ x → m.regs.a < 2 ^ 8 → Lands p input first 0 h.2.0 (made (Mov C (constant 0)) m) taken output output 149 (λ a c. a ≡ bit_and m.regs.a m.regs.b)
    second true e low =
        let row : Row p input at base first taken output (bit_and m.regs.a m.regs.b) small 8 = rows p input at base first taken output (bit_and m.regs.a m.regs.b) small 24 h.2.2.2.2.2.0 h.2.2.2.2.2.2.2 8 (omega arith) in
        ahead 149 (one_jump_if p input h.2.0 h.2.2.0 (made (Mov C (constant 0)) m) taken output Lt (constant (at (below base 8))) B (constant (2 ^ 8)) true e h.2.2.1 ∙ ap (λ z. moment (front z) (made (Mov C (constant 0)) m) taken output) (mod-eq_of_lt row.label))
        (unmoved first 0 (made (Mov C (constant 0)) m) (made (Mov C (constant 0)) m) refl refl refl refl)
        (masks_land p input at base first taken output (bit_and m.regs.a m.regs.b) small 8 (omega arith) (front (at (below base 8))) (made (Mov C (constant 0)) m) row.stands (record { whole = omega arith; small_a = low; small_b = ltb-true m.regs.b (2 ^ 8) e }))
        (omega arith)
    second false e low =
        ahead 149 (one_jump_if p input h.2.0 h.2.2.0 (made (Mov C (constant 0)) m) taken output Lt (constant (at (below base 8))) B (constant (2 ^ 8)) false e h.2.2.1)
        (unmoved first 0 (made (Mov C (constant 0)) m) (made (Mov C (constant 0)) m) refl refl refl refl)
        (from_half p input at base first taken output (bit_and m.regs.a m.regs.b) small h.2.2.0 (made (Mov C (constant 0)) m) h.2.2.2.2 word_a word_b (omega arith))
        (omega arith)

    begin : (x : Bool) → nat_le (2 ^ 8) m.regs.a ≡ x → Lands p input first 0 h.0 (made (Mov C (constant 0)) m) taken output output 150 (λ a c. a ≡ bit_and m.regs.a m.regs.b)
    begin true e =
        ahead 150 (one_jump_if p input h.0 h.2.0 (made (Mov C (constant 0)) m) taken output Ge (constant (at (label_of base 0))) A (constant (2 ^ 8)) true e h.2.1 ∙ ap (λ z. moment z (made (Mov C (constant 0)) m) taken output) (ap front (mod-eq_of_lt h.2.2.2.1) ∙ sym h.2.2.2.0))
        (unmoved first 0 (made (Mov C (constant 0)) m) (made (Mov C (constant 0)) m) refl refl refl refl)
        (from_half p input at base first taken output (bit_and m.regs.a m.regs.b) small h.2.2.0 (made (Mov C (constant 0)) m) h.2.2.2.2 word_a word_b (omega arith))
        (omega arith)
    begin false e =
        ahead 150 (one_jump_if p input h.0 h.2.0 (made (Mov C (constant 0)) m) taken output Ge (constant (at (label_of base 0))) A (constant (2 ^ 8)) false e h.2.1)
        (unmoved first 0 (made (Mov C (constant 0)) m) (made (Mov C (constant 0)) m) refl refl refl refl)
        (second (nat_lt m.regs.b (2 ^ 8)) refl (leb-false (2 ^ 8) m.regs.a e))
        (omega arith)

pub boths : BothLands
boths p at base first s room h = record { lands = λ input m taken output word_a word_b needs. whole_lands p at base first s h input m taken output word_a word_b }
