-- The shift to the right.
use Rattle.std.proofs.Common.{◌≡◌, ℕ, zero, suc, ◌+◌, ◌-◌, ◌*◌, ◌/◌, ◌%◌, ◌^◌, ◌<◌, ◌≤◌, Bool, true, false, nat_lt, nat_le, List, ◌∷◌, append-nil, refl, sym, ap, ◌∙◌, subst, arith, mod-eq_of_lt}
use Rattle.std.proofs.lemmas.Bool.{ltb-true, ltb-false, leb-true, leb-false}
use Rattle.std.proofs.lemmas.Nat.{div-add-mod', pow-add}
use Rattle.std.proofs.Math.Nat.{pow-suc, pow-le-pow_right, mul-le-mul_right, one-le-pow, mod-lt}
use Rattle.mach_core.proofs.Reaching.{one_step}
use Rattle.word24.specs.Word.{sum_word}
use Rattle.eir_core.specs.declared.ops.Reg.TheVariants.{A, B, C, SP}
use Rattle.eir_core.specs.declared.ops.Operand.TheVariants.{Reg as register}
use Rattle.eir_core.specs.declared.ops.Cond.TheVariants.{Lt}
use Rattle.eir_core.specs.declared.ops.Op.TheVariants.{Mov, Add, Jump}
use Rattle.eir_core.specs.Eir.{Eir}
use Rattle.eir_core.specs.Step.{eir_rule}
use Rattle.c_place.specs.Place.{Place, Machine, front, moment, made}
use Rattle.c_routines.specs.declared.item.Item.{Item}
use Rattle.c_routines.specs.declared.item.Item.TheVariants.{Does, Label, JumpIf as JumpWhere}
use Rattle.c_routines.specs.Items.{Stands, constant, label_of}
use Rattle.c_routines.specs.Lands.{Lands}
use Rattle.c_routines.specs.Laws.{RightLands}
use Rattle.c_routines.specs.Right.{bits_left, pieces, right, HasTwoBlocks}
use Rattle.c_routines.proofs.Steps.{sum_is, one_quiet, one_jump, one_jump_if, unmoved, kept_all, ahead}
use Rattle.c_routines.proofs.Multiples.{division}

-- after t bits, C has them, and A has the next ones after its highest
pub record Taken (x t : ℕ) (m : Machine) : Type 0 where
  pub whole : m.regs.c * 2 ^ 24 + sum_word m.regs.a m.regs.a ≡ x * 2 ^ t
  pub word : m.regs.a < 2 ^ 24

-- C is below 2^t
few_bits : (x t c w : ℕ) → x < 2 ^ 24 → c * 2 ^ 24 + w ≡ x * 2 ^ t → c < 2 ^ t
few_bits x t c w lt whole = omega (arith, mul-le-mul_right {m = suc x} {n = 2 ^ 24} (2 ^ t) lt, whole, one-le-pow t 2 (omega arith))

quotient_is : (x n t c w : ℕ) → n + t ≡ 24 → c * 2 ^ 24 + w ≡ x * 2 ^ t → w < 2 ^ 24 → c ≡ x / 2 ^ n
quotient_is x n t c w e whole lt =
    let q : ℕ = x / 2 ^ n in
    let r : ℕ = x % 2 ^ n in
    let weight : 2 ^ n * 2 ^ t ≡ 2 ^ 24 = sym (pow-add 2 n t) ∙ ap (λ z. 2 ^ z) e in
    let parts : q * 2 ^ n + r ≡ x = div-add-mod' x (2 ^ n) in
    let small : r < 2 ^ n = mod-lt x (one-le-pow n 2 (omega arith)) in
    let below : suc r * 2 ^ t ≤ 2 ^ n * 2 ^ t = mul-le-mul_right {m = suc r} {n = 2 ^ n} (2 ^ t) small in
    let some : 1 ≤ 2 ^ t = one-le-pow t 2 (omega arith) in
    let spread : q * 2 ^ n * 2 ^ t ≡ q * 2 ^ 24 = omega (arith, ap (λ z. q * z) weight) in
    let split : q * 2 ^ 24 + r * 2 ^ t ≡ x * 2 ^ t = omega (arith, spread, ap (λ z. z * 2 ^ t) parts) in
    let rest : r * 2 ^ t < 2 ^ 24 = omega (arith, below, weight, some) in
    (division c (2 ^ 24) w (x * 2 ^ t) whole lt).1 ∙ sym (division q (2 ^ 24) (r * 2 ^ t) (x * 2 ^ t) split rest).1

module _ (p : Eir) (input : List ℕ) (at : ℕ → ℕ) (base first : ℕ) (taken : ℕ) (output : List ℕ) (x n : ℕ) (word : x < 2 ^ 24) where
  abbrev pub Shifted : Place → Machine → ℕ → Type 0
  Shifted s m most = Lands p input first 0 s m taken output output most (λ a c. a ≡ x / 2 ^ n)

  pub pieces_land : (k t : ℕ) → n + t + k ≡ 24 → 1 ≤ t → (s : Place) (m : Machine) → Stands p at s (pieces base k) → Taken x t m → Shifted s m (4 * k + 2)
  unfolding pieces
  pieces_land zero t e some s m h f =
      let m1 : Machine = made (Mov A (register C)) m in
      ahead 2 (one_quiet p input s h.0 m taken output (Mov A (register C)) tt h.1)
      (unmoved first 0 m m1 refl refl refl refl)
      (record {
        regs = m1.regs;
        memory = m1.memory;
        comes = one_step (eir_rule p) input (moment h.0 m1 taken output) (moment (front m1.regs.sp) m1 taken output) (one_jump p input h.0 h.2.0 m1 taken output (register SP) h.2.1);
        d = refl;
        sp = refl;
        bp = refl;
        kept = kept_all first 0 m1.memory;
        result = quotient_is x n t m.regs.c (sum_word m.regs.a m.regs.a) (omega (arith, e)) f.whole (omega arith);
      })
      (omega arith)
  pieces_land (suc k) t e some s m h f = tests (nat_lt (sum_word m.regs.a m.regs.a) (2 ^ 23)) refl (λ t1 h1 m4 f1. pieces_land k (suc t) (omega (arith, e)) (omega arith) t1 m4 h1 f1)
    where
      double : 2 ^ suc t ≡ 2 ^ t + 2 ^ t
      double = omega (arith, pow-suc 2 t)

      few : m.regs.c < 2 ^ t
      few = few_bits x t m.regs.c (sum_word m.regs.a m.regs.a) word f.whole

      limit : 2 ^ t ≤ 2 ^ 23
      limit = pow-le-pow_right {n = 2} (omega arith) {i = t} {j = 23} (omega (arith, e))

      twice : x * 2 ^ suc t ≡ x * 2 ^ t + x * 2 ^ t
      twice = omega (arith, ap (λ z. x * z) double)

      c_now : sum_word m.regs.c m.regs.c ≡ m.regs.c + m.regs.c
      c_now = sum_is m.regs.c m.regs.c (omega (arith, few, limit))

      tests : (b : Bool) → nat_lt (sum_word m.regs.a m.regs.a) (2 ^ 23) ≡ b → ((t1 : Place) → Stands p at t1 (pieces base k) → (m4 : Machine) → Taken x (suc t) m4 → Shifted t1 m4 (4 * k + 2)) → Shifted s m (4 * suc k + 2)
      tests b y on =
          let m1 : Machine = made (Add A (register A)) m in
          let m2 : Machine = made (Add C (register C)) m1 in
          ahead (4 * suc k + 2) (one_quiet p input s h.0 m taken output (Add A (register A)) tt h.1)
          (unmoved first 0 m m1 refl refl refl refl)
          (ahead (4 * k + 5) (one_quiet p input h.0 h.2.0 m1 taken output (Add C (register C)) tt h.2.1)
          (unmoved first 0 m1 m2 refl refl refl refl)
          (go b y on)
          (omega arith))
          (omega arith)
        where
          go : (b : Bool) → nat_lt (sum_word m.regs.a m.regs.a) (2 ^ 23) ≡ b → ((t1 : Place) → Stands p at t1 (pieces base k) → (m4 : Machine) → Taken x (suc t) m4 → Shifted t1 m4 (4 * k + 2)) → Shifted h.2.0 (made (Add C (register C)) (made (Add A (register A)) m)) (4 * k + 4)
          go true y on =
              let m2 : Machine = made (Add C (register C)) (made (Add A (register A)) m) in
              let low : sum_word m.regs.a m.regs.a < 2 ^ 23 = ltb-true (sum_word m.regs.a m.regs.a) (2 ^ 23) y in
              ahead (4 * k + 4) (one_jump_if p input h.2.0 h.2.2.0 m2 taken output Lt (constant (at (bits_left base k))) A (constant (2 ^ 23)) true y h.2.2.1 ∙ ap (λ z. moment z m2 taken output) (ap front (mod-eq_of_lt h.2.2.2.2.1) ∙ sym h.2.2.2.2.0))
              (unmoved first 0 m2 m2 refl refl refl refl)
              (on h.2.2.2.0 h.2.2.2.2.2 m2 (record { whole = omega (arith, c_now, low, f.whole, twice, sum_is (sum_word m.regs.a m.regs.a) (sum_word m.regs.a m.regs.a) (omega (arith, low))); word = omega arith }))
              (omega arith)
          go false y on =
              let m2 : Machine = made (Add C (register C)) (made (Add A (register A)) m) in
              let m3 : Machine = made (Add C (constant 1)) m2 in
              let high : 2 ^ 23 ≤ sum_word m.regs.a m.regs.a = ltb-false (sum_word m.regs.a m.regs.a) (2 ^ 23) y in
              let c_more : m3.regs.c ≡ m.regs.c + m.regs.c + 1 = ap (λ z. (z + 1) % 2 ^ 24) c_now ∙ sum_is (m.regs.c + m.regs.c) 1 (omega (arith, few, limit)) in
              let a_more : sum_word (sum_word m.regs.a m.regs.a) (sum_word m.regs.a m.regs.a) + 2 ^ 24 ≡ sum_word m.regs.a m.regs.a + sum_word m.regs.a m.regs.a = omega (arith, high) in
              ahead (4 * k + 4) (one_jump_if p input h.2.0 h.2.2.0 m2 taken output Lt (constant (at (bits_left base k))) A (constant (2 ^ 23)) false y h.2.2.1)
              (unmoved first 0 m2 m2 refl refl refl refl)
              (ahead (4 * k + 3) (one_quiet p input h.2.2.0 h.2.2.2.0 m2 taken output (Add C (constant 1)) tt h.2.2.2.1)
              (unmoved first 0 m2 m3 refl refl refl refl)
              (on h.2.2.2.0 h.2.2.2.2.2 m3 (record { whole = omega (arith, c_more, a_more, f.whole, twice); word = omega arith }))
              (omega arith))
              (omega arith)

  -- what stands at label i
  pub record Row (i : ℕ) : Type 0 where
    pub label : at (bits_left base i) < 2 ^ 24
    pub stands : Stands p at (front (at (bits_left base i))) (pieces base i)

  pub rows : (k : ℕ) → at (bits_left base k) < 2 ^ 24 → Stands p at (front (at (bits_left base k))) (pieces base k) → (i : ℕ) → i ≤ k → Row i
  unfolding pieces
  rows zero lt h i le =
      let same : 0 ≡ i = omega (arith, le) in
      subst Row same (record { label = lt; stands = h })
  rows (suc k) lt h i le = go (nat_le i k) refl (λ below. rows k h.2.2.2.2.1 (subst (λ z. Stands p at z (pieces base k)) h.2.2.2.2.0 h.2.2.2.2.2) i below)
    where
      go : (x : Bool) → nat_le i k ≡ x → (i ≤ k → Row i) → Row i
      go true e below = below (leb-true i k e)
      go false e below =
          let gt : k < i = leb-false i k e in
          let same : suc k ≡ i = omega (arith, gt, le) in
          subst Row same (record { label = lt; stands = h })

  -- the highest bit is taken, and the jump made
  jump_lands : HasTwoBlocks at base → n ≤ 23 → (s : Place) (m : Machine) → Stands p at s (Does (Jump (register B)) ∷ Label (bits_left base 23) ∷ pieces base 23) → m.regs.b ≡ at (bits_left base 23) + 2 * n → Taken x 1 m → Shifted s m 95
  jump_lands spaced few s m h b_is f =
      let i : ℕ = 23 - n in
      let row : Row i = rows 23 h.2.1 (subst (λ z. Stands p at z (pieces base 23)) h.2.0 h.2.2) i (omega arith) in
      let there : m.regs.b ≡ at (bits_left base i) = omega (arith, b_is, spaced i (omega arith), few) in
      ahead 95 (one_jump p input s h.0 m taken output (register B) h.1 ∙ ap (λ z. moment (front z) m taken output) there)
      (unmoved first 0 m m refl refl refl refl)
      (pieces_land i 1 (omega (arith, few)) (omega arith) (front (at (bits_left base i))) m row.stands f)
      (omega arith)

-- after the moves, the highest bit is tested
abbrev from_test : ℕ → List Item
from_test base =
    JumpWhere Lt (label_of base 0) A (constant (2 ^ 23))
    ∷ Does (Mov C (constant 1))
    ∷ Label (label_of base 0)
    ∷ Does (Jump (register B))
    ∷ Label (bits_left base 23)
    ∷ pieces base 23

whole_lands : (p : Eir) (at : ℕ → ℕ) (base first : ℕ) (s : Place) → HasTwoBlocks at base → Stands p at s (right base) → (input : List ℕ) (m : Machine) (taken : ℕ) (output : List ℕ) → m.regs.a < 2 ^ 24 → m.regs.b ≤ 23
    → Lands p input first 0 s m taken output output 101 (λ a c. a ≡ m.regs.a / 2 ^ m.regs.b)
whole_lands p at base first s spaced h input m taken output word few =
    let m1 : Machine = made (Add B (register B)) m in
    let m2 : Machine = made (Mov C (constant (at (bits_left base 23)))) m1 in
    let m3 : Machine = made (Add B (register C)) m2 in
    ahead 101 (one_quiet p input s h.0 m taken output (Add B (register B)) tt h.1)
    (unmoved first 0 m m1 refl refl refl refl)
    (ahead 100 (one_quiet p input h.0 h.2.0 m1 taken output (Mov C (constant (at (bits_left base 23)))) tt h.2.1)
    (unmoved first 0 m1 m2 refl refl refl refl)
    (ahead 99 (one_quiet p input h.2.0 h.2.2.0 m2 taken output (Add B (register C)) tt h.2.2.1)
    (unmoved first 0 m2 m3 refl refl refl refl)
    (ahead 98 (one_quiet p input h.2.2.0 h.2.2.2.0 m3 taken output (Mov C (constant 0)) tt h.2.2.2.1)
    (unmoved first 0 m3 (made (Mov C (constant 0)) m3) refl refl refl refl)
    (go h.2.2.2.0 h.2.2.2.2 (nat_lt m.regs.a (2 ^ 23)) refl)
    (omega arith))
    (omega arith))
    (omega arith))
    (omega arith)
  where
    m3 : Machine
    m3 = made (Mov C (constant 0)) (made (Add B (register C)) (made (Mov C (constant (at (bits_left base 23)))) (made (Add B (register B)) m)))

    b_now : sum_word (sum_word m.regs.b m.regs.b) (at (bits_left base 23) % 2 ^ 24) ≡ at (bits_left base 23) + 2 * m.regs.b
    b_now =
        let at_row = h.2.2.2.2.2.2.2 in
        let row : Row p input at base first taken output m.regs.a m.regs.b word 0 = rows p input at base first taken output m.regs.a m.regs.b word 23 at_row.2.1 (subst (λ z. Stands p at z (pieces base 23)) at_row.2.0 at_row.2.2) 0 (omega arith) in
        let last : at (bits_left base 0) + 2 * 0 ≡ at (bits_left base 23) + 46 = spaced 0 (omega arith) in
        let twice : sum_word m.regs.b m.regs.b ≡ m.regs.b + m.regs.b = sum_is m.regs.b m.regs.b (omega (arith, few)) in
        let fits : m.regs.b + m.regs.b + at (bits_left base 23) < 2 ^ 24 = omega (arith, row.label, last, few) in
        ap (λ z. sum_word (sum_word m.regs.b m.regs.b) z) (mod-eq_of_lt at_row.2.1) ∙ (ap (λ z. sum_word z (at (bits_left base 23))) twice ∙ (sum_is (m.regs.b + m.regs.b) (at (bits_left base 23)) fits ∙ omega arith))

    go : (s1 : Place) → Stands p at s1 (from_test base) → (b : Bool) → nat_lt m.regs.a (2 ^ 23) ≡ b → Lands p input first 0 s1 m3 taken output output 97 (λ a c. a ≡ m.regs.a / 2 ^ m.regs.b)
    go s1 j true y =
        let low : m.regs.a < 2 ^ 23 = ltb-true m.regs.a (2 ^ 23) y in
        ahead 97 (one_jump_if p input s1 j.0 m3 taken output Lt (constant (at (label_of base 0))) A (constant (2 ^ 23)) true y j.1 ∙ ap (λ z. moment z m3 taken output) (ap front (mod-eq_of_lt j.2.2.1) ∙ sym j.2.2.0))
        (unmoved first 0 m3 m3 refl refl refl refl)
        (jump_lands p input at base first taken output m.regs.a m.regs.b word spaced few j.2.0 m3 j.2.2.2 b_now (record { whole = omega (arith, low, sum_is m.regs.a m.regs.a (omega (arith, low))); word = word }))
        (omega arith)
    go s1 j false y =
        let m4 : Machine = made (Mov C (constant 1)) m3 in
        let high : 2 ^ 23 ≤ m.regs.a = ltb-false m.regs.a (2 ^ 23) y in
        let a_more : sum_word m.regs.a m.regs.a + 2 ^ 24 ≡ m.regs.a + m.regs.a = omega (arith, high, word) in
        ahead 97 (one_jump_if p input s1 j.0 m3 taken output Lt (constant (at (label_of base 0))) A (constant (2 ^ 23)) false y j.1)
        (unmoved first 0 m3 m3 refl refl refl refl)
        (ahead 96 (one_quiet p input j.0 j.2.0 m3 taken output (Mov C (constant 1)) tt j.2.1)
        (unmoved first 0 m3 m4 refl refl refl refl)
        (jump_lands p input at base first taken output m.regs.a m.regs.b word spaced few j.2.0 m4 j.2.2.2 b_now (record { whole = omega (arith, a_more); word = word }))
        (omega arith))
        (omega arith)

pub rights : RightLands
rights p at base first s spaced h = record { lands = λ input m taken output word_a word_b few. subst (λ z. Lands p input first 0 s m taken output z 101 (λ a c. a ≡ m.regs.a / 2 ^ m.regs.b)) (sym (append-nil output)) (whole_lands p at base first s spaced h input m taken output word_a few) }
