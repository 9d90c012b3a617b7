-- The product, bit by bit.
use Rattle.std.proofs.Common.{◌≡◌, ℕ, zero, suc, ◌+◌, ◌-◌, ◌*◌, ◌%◌, ◌^◌, ◌<◌, ◌≤◌, Bool, true, false, nat_lt, nat_le, List, [], ◌∷◌, ◌++◌, append-nil, refl, sym, ap, ◌∙◌, subst, arith, mod-eq_of_lt}
use Rattle.std.proofs.lemmas.Bool.{ltb-true, ltb-false, leb-true, leb-false}
use Rattle.std.proofs.lemmas.Nat.{pow_below}
use Rattle.std.proofs.Math.Nat.{pow-suc, pow-le-pow_right}
use Rattle.mach_core.proofs.Reaching.{one_step}
use Rattle.eir_core.specs.declared.ops.Reg.TheVariants.{A, B, C, SP}
use Rattle.eir_core.specs.declared.ops.Operand.TheVariants.{Reg as register}
use Rattle.eir_core.specs.declared.ops.Cond.TheVariants.{Lt, Le}
use Rattle.eir_core.specs.declared.ops.Op.TheVariants.{Mov, Add, Sub}
use Rattle.eir_core.specs.Eir.{Eir}
use Rattle.eir_core.specs.Step.{eir_rule}
use Rattle.word24.specs.Word.{sum_word}
use Rattle.c_place.specs.Place.{Place, Machine, front, moment, made}
use Rattle.c_routines.specs.declared.item.Item.{Item}
use Rattle.c_routines.specs.declared.item.Item.TheVariants.{Does, JumpIf as JumpWhere}
use Rattle.c_routines.specs.Items.{Stands, constant, label_of}
use Rattle.c_routines.specs.Lands.{Lands}
use Rattle.c_routines.specs.Laws.{ProductLands}
use Rattle.c_routines.specs.Product.{skip, turn, bits, product}
use Rattle.c_routines.proofs.Steps.{difference_is, one_quiet, one_jump, one_jump_if, unmoved, kept_all, ahead}
use Rattle.c_routines.proofs.Bits.{carried, sum_carried, sum_word_small, doubled_whole, added_whole}

-- before the bits below level k: what is left of the one operand is in A where there are any
pub record Before (n k : ℕ) (m : Machine) : Type 0 where
  pub left : ℕ
  pub over : ℕ
  pub whole : m.regs.c * 2 ^ k + left * m.regs.b + over * 2 ^ 24 ≡ n
  pub small : left < 2 ^ k
  pub here : 0 < k → m.regs.a ≡ left
  pub word : m.regs.c < 2 ^ 24

-- before the bit of level k
pub record Turns (n k : ℕ) (m : Machine) : Type 0 where
  pub over : ℕ
  pub whole : m.regs.c * 2 ^ k + m.regs.a * m.regs.b + over * 2 ^ 24 ≡ n
  pub small : m.regs.a < 2 ^ suc k
  pub word : m.regs.c < 2 ^ 24

module _ (p : Eir) (input : List ℕ) (at : ℕ → ℕ) (base first : ℕ) (taken : ℕ) (output : List ℕ) (n : ℕ) where
  abbrev pub Multiplied : Place → Machine → ℕ → Type 0
  Multiplied s m most = Lands p input first 0 s m taken output output most (λ a c. a ≡ n % 2 ^ 24)

  -- the bit isn't there
  without : (k : ℕ) (m : Machine) → Turns n k m → m.regs.a < 2 ^ k → Before n k m
  without k m f lt = record { left = m.regs.a; over = f.over; whole = f.whole; small = lt; here = λ z. refl; word = f.word }

  -- the bit is there
  with_bit : (k : ℕ) (m m2 : Machine) → Turns n k m → 2 ^ k ≤ m.regs.a → m2.regs.b ≡ m.regs.b → m2.regs.c ≡ sum_word m.regs.c m.regs.b → (0 < k → m2.regs.a ≡ m.regs.a - 2 ^ k) → Before n k m2
  with_bit k m m2 f ge b_is c_is a_is =
      let whole : sum_word m.regs.c m.regs.b * 2 ^ k + (m.regs.a - 2 ^ k) * m.regs.b + (f.over + carried m.regs.c m.regs.b * 2 ^ k) * 2 ^ 24 ≡ n =
      added_whole m.regs.c (sum_word m.regs.c m.regs.b) (carried m.regs.c m.regs.b) (2 ^ k) m.regs.a (m.regs.a - 2 ^ k) m.regs.b f.over n (sum_carried m.regs.c m.regs.b) (omega (arith, ge)) f.whole in
      record {
        left = m.regs.a - 2 ^ k;
        over = f.over + carried m.regs.c m.regs.b * 2 ^ k;
        whole = ap (λ z. z * 2 ^ k + (m.regs.a - 2 ^ k) * m2.regs.b + (f.over + carried m.regs.c m.regs.b * 2 ^ k) * 2 ^ 24) c_is
            ∙ (ap (λ z. sum_word m.regs.c m.regs.b * 2 ^ k + (m.regs.a - 2 ^ k) * z + (f.over + carried m.regs.c m.regs.b * 2 ^ k) * 2 ^ 24) b_is ∙ whole);
        small = omega (arith, pow-suc 2 k, f.small, ge);
        here = a_is;
        word = omega (arith, c_is, sum_word_small m.regs.c m.regs.b);
      }

  pub turn_lands : (k : ℕ) → k < 24 → (s : Place) (m : Machine) (rest : List Item) (most : ℕ) → Stands p at s (turn base k rest) → m.regs.a < 2 ^ 24 → Turns n k m → ((t : Place) → Stands p at t rest → (m : Machine) → Before n k m → Multiplied t m most) → Multiplied s m (most + 3)
  turn_lands zero lt s m rest most h word f on = go (nat_lt m.regs.a 1) refl
    where
      go : (x : Bool) → nat_lt m.regs.a 1 ≡ x → Multiplied s m (most + 3)
      go true e =
          ahead _ (one_jump_if p input s h.0 m taken output Lt (constant (at (skip base 0))) A (constant 1) true e h.1 ∙ ap (λ z. moment z m taken output) (ap front (mod-eq_of_lt h.2.2.1) ∙ sym h.2.2.0))
          (unmoved first 0 m m refl refl refl refl)
          (on h.2.0 h.2.2.2 m (without 0 m f (ltb-true m.regs.a 1 e)))
          (omega arith)
      go false e =
          let m1 : Machine = made (Add C (register B)) m in
          let ge : 1 ≤ m.regs.a = ltb-false m.regs.a 1 e in
          ahead _ (one_jump_if p input s h.0 m taken output Lt (constant (at (skip base 0))) A (constant 1) false e h.1)
          (unmoved first 0 m m refl refl refl refl)
          (ahead (most + 1) (one_quiet p input h.0 h.2.0 m taken output (Add C (register B)) tt h.2.1)
          (unmoved first 0 m m1 refl refl refl refl)
          (on h.2.0 h.2.2.2 m1 (with_bit 0 m m1 f ge refl refl (λ z. absurd (omega (arith, z)))))
          (omega arith))
          (omega arith)
  turn_lands (suc k) lt s m rest most h word f on = go (nat_lt m.regs.a (2 ^ suc k)) refl
    where
      power : 2 ^ suc k < 2 ^ 24
      power = pow_below (suc k) 24 lt

      number : 2 ^ suc k % 2 ^ 24 ≡ 2 ^ suc k
      number = mod-eq_of_lt power

      go : (x : Bool) → nat_lt m.regs.a (2 ^ suc k) ≡ x → Multiplied s m (most + 3)
      go true e =
          ahead _ (one_jump_if p input s h.0 m taken output Lt (constant (at (skip base (suc k)))) A (constant (2 ^ suc k)) true (ap (nat_lt m.regs.a) number ∙ e) h.1 ∙ ap (λ z. moment z m taken output) (ap front (mod-eq_of_lt h.2.2.2.1) ∙ sym h.2.2.2.0))
          (unmoved first 0 m m refl refl refl refl)
          (on h.2.2.0 h.2.2.2.2 m (without (suc k) m f (ltb-true m.regs.a (2 ^ suc k) e)))
          (omega arith)
      go false e =
          let m1 : Machine = made (Sub A (constant (2 ^ suc k))) m in
          let m2 : Machine = made (Add C (register B)) m1 in
          let ge : 2 ^ suc k ≤ m.regs.a = ltb-false m.regs.a (2 ^ suc k) e in
          let a_now : m2.regs.a ≡ m.regs.a - 2 ^ suc k = ap (λ z. (m.regs.a + (2 ^ 24 - z)) % 2 ^ 24) number ∙ difference_is m.regs.a (2 ^ suc k) ge word in
          ahead _ (one_jump_if p input s h.0 m taken output Lt (constant (at (skip base (suc k)))) A (constant (2 ^ suc k)) false (ap (nat_lt m.regs.a) number ∙ e) h.1)
          (unmoved first 0 m m refl refl refl refl)
          (ahead (most + 2) (one_quiet p input h.0 h.2.0 m taken output (Sub A (constant (2 ^ suc k))) tt h.2.1)
          (unmoved first 0 m m1 refl refl refl refl)
          (ahead (most + 1) (one_quiet p input h.2.0 h.2.2.0 m1 taken output (Add C (register B)) tt h.2.2.1)
          (unmoved first 0 m1 m2 refl refl refl refl)
          (on h.2.2.0 h.2.2.2.2 m2 (with_bit (suc k) m m2 f ge refl refl (λ z. a_now)))
          (omega arith))
          (omega arith))
          (omega arith)

  pub bits_land : (k : ℕ) → k ≤ 24 → (s : Place) (m : Machine) → Stands p at s (bits base k) → Before n k m → Multiplied s m (4 * k + 2)
  unfolding bits
  bits_land zero le s m h f =
      let m1 : Machine = made (Mov A (register C)) m in
      let low : m.regs.c * 2 ^ 0 ≡ m.regs.c = omega arith in
      let none : f.left ≡ 0 = omega (arith, f.small) in
      let gone : f.left * m.regs.b ≡ 0 = ap (λ z. z * m.regs.b) none ∙ omega arith in
      ahead 2 (one_quiet p input s h.0 m taken output (Mov A (register C)) tt h.1)
      (unmoved first 0 m m1 refl refl refl refl)
      (record {
        regs = m1.regs;
        memory = m1.memory;
        comes = one_step (eir_rule p) input (moment h.0 m1 taken output) (moment (front m1.regs.sp) m1 taken output) (one_jump p input h.0 h.2.0 m1 taken output (register SP) h.2.1);
        d = refl;
        sp = refl;
        bp = refl;
        kept = kept_all first 0 m1.memory;
        result = omega (arith, f.whole, low, gone, f.word);
      })
      (omega arith)
  bits_land (suc k) le s m h f =
      let m1 : Machine = made (Add C (register C)) m in
      let here : m.regs.a ≡ f.left = f.here (omega arith) in
      let word : m.regs.a < 2 ^ 24 = omega (arith, here, f.small, pow-le-pow_right {n = 2} (omega arith) {i = suc k} {j = 24} le) in
      let whole : m1.regs.c * 2 ^ k + (f.left * m.regs.b + f.over * 2 ^ 24 + carried m.regs.c m.regs.c * 2 ^ k * 2 ^ 24) ≡ n =
      doubled_whole m.regs.c (sum_word m.regs.c m.regs.c) (carried m.regs.c m.regs.c) (2 ^ k) k (f.left * m.regs.b + f.over * 2 ^ 24) n (sum_carried m.regs.c m.regs.c) refl (omega (arith, f.whole)) in
      ahead (4 * suc k + 2) (one_quiet p input s h.0 m taken output (Add C (register C)) tt h.1)
      (unmoved first 0 m m1 refl refl refl refl)
      (turn_lands k (omega (arith, le)) h.0 m1 (bits base k) (4 * k + 2) h.2 word (record {
        over = f.over + carried m.regs.c m.regs.c * 2 ^ k;
        whole = ap (λ z. m1.regs.c * 2 ^ k + z * m.regs.b + (f.over + carried m.regs.c m.regs.c * 2 ^ k) * 2 ^ 24) here ∙ omega (arith, whole);
        small = omega (arith, here, f.small);
        word = sum_word_small m.regs.c m.regs.c;
      }) (λ t h1 m2 f1. bits_land k (omega (arith, le)) t m2 h1 f1))
      (omega arith)

  -- what stands at the label of level i
  pub record Row (i : ℕ) : Type 0 where
    pub label : at (skip base i) < 2 ^ 24
    pub stands : Stands p at (front (at (skip base i))) (bits base i)

  row_of : (k : ℕ) (s : Place) → Stands p at s (turn base k (bits base k)) → Row k
  row_of zero s h = record { label = h.2.2.1; stands = subst (λ z. Stands p at z (bits base 0)) h.2.2.0 h.2.2.2 }
  row_of (suc k) s h = record { label = h.2.2.2.1; stands = subst (λ z. Stands p at z (bits base (suc k))) h.2.2.2.0 h.2.2.2.2 }

  pub rows : (k : ℕ) (s : Place) → Stands p at s (turn base k (bits base k)) → (i : ℕ) → i ≤ k → Row i
  unfolding bits
  rows zero s h i le =
      let same : 0 ≡ i = omega (arith, le) in
      subst Row same (row_of 0 s h)
  rows (suc k) s h i le = go (nat_le i k) refl (λ below. rows k h.2.2.2.2.0 h.2.2.2.2.2 i below)
    where
      go : (x : Bool) → nat_le i k ≡ x → (i ≤ k → Row i) → Row i
      go true e below = below (leb-true i k e)
      go false e below =
          let lt : k < i = leb-false i k e in
          let same : suc k ≡ i = omega (arith, lt, le) in
          subst Row same (row_of (suc k) s h)

  -- with nothing in C yet
  begun : (k : ℕ) (m : Machine) → m.regs.c ≡ 0 → m.regs.a * m.regs.b ≡ n → m.regs.a < 2 ^ k → Before n k m
  begun k m none is small = record { left = m.regs.a; over = 0; whole = ap (λ z. z * 2 ^ k + m.regs.a * m.regs.b + 0 * 2 ^ 24) none ∙ omega (arith, is); small = small; here = λ z. refl; word = omega (arith, none) }

  -- a small operand begins at a lower level
  pub start_lands : (s : Place) (m : Machine) → Stands p at s (Does (Mov C (constant 0)) ∷ JumpWhere Lt (skip base 6) A (constant (2 ^ 6)) ∷ JumpWhere Lt (skip base 12) A (constant (2 ^ 12)) ∷ turn base 23 (bits base 23))
      → m.regs.a < 2 ^ 24 → m.regs.a * m.regs.b ≡ n → Multiplied s m 100
  start_lands s m h word is =
      ahead 100 (one_quiet p input s h.0 m taken output (Mov C (constant 0)) tt h.1)
      (unmoved first 0 m m1 refl refl refl refl)
      (six (nat_lt m.regs.a (2 ^ 6)) refl)
      (omega arith)
    where
      m1 : Machine
      m1 = record { regs = record { a = m.regs.a; b = m.regs.b; c = 0; d = m.regs.d; sp = m.regs.sp; bp = m.regs.bp }; memory = m.memory }

      all : (i : ℕ) → i ≤ 23 → Row i
      all = rows 23 h.2.2.0 h.2.2.2

      twelve : (x : Bool) → nat_lt m.regs.a (2 ^ 12) ≡ x → Multiplied h.2.0 m1 98
      twelve true e =
          let row : Row 12 = all 12 (omega arith) in
          ahead 98 (one_jump_if p input h.2.0 h.2.2.0 m1 taken output Lt (constant (at (skip base 12))) A (constant (2 ^ 12)) true e h.2.2.1 ∙ ap (λ z. moment (front z) m1 taken output) (mod-eq_of_lt row.label))
          (unmoved first 0 m1 m1 refl refl refl refl)
          (bits_land 12 (omega arith) (front (at (skip base 12))) m1 row.stands (begun 12 m1 refl is (ltb-true m.regs.a (2 ^ 12) e)))
          (omega arith)
      twelve false e =
          ahead 98 (one_jump_if p input h.2.0 h.2.2.0 m1 taken output Lt (constant (at (skip base 12))) A (constant (2 ^ 12)) false e h.2.2.1)
          (unmoved first 0 m1 m1 refl refl refl refl)
          (turn_lands 23 (omega arith) h.2.2.0 m1 (bits base 23) 94 h.2.2.2 word (record { over = 0; whole = omega (arith, is); small = word; word = omega arith }) (λ t h1 m2 f1. bits_land 23 (omega arith) t m2 h1 f1))
          (omega arith)

      six : (x : Bool) → nat_lt m.regs.a (2 ^ 6) ≡ x → Multiplied h.0 m1 99
      six true e =
          let row : Row 6 = all 6 (omega arith) in
          ahead 99 (one_jump_if p input h.0 h.2.0 m1 taken output Lt (constant (at (skip base 6))) A (constant (2 ^ 6)) true e h.2.1 ∙ ap (λ z. moment (front z) m1 taken output) (mod-eq_of_lt row.label))
          (unmoved first 0 m1 m1 refl refl refl refl)
          (bits_land 6 (omega arith) (front (at (skip base 6))) m1 row.stands (begun 6 m1 refl is (ltb-true m.regs.a (2 ^ 6) e)))
          (omega arith)
      six false e =
          ahead 99 (one_jump_if p input h.0 h.2.0 m1 taken output Lt (constant (at (skip base 6))) A (constant (2 ^ 6)) false e h.2.1)
          (unmoved first 0 m1 m1 refl refl refl refl)
          (twelve (nat_lt m.regs.a (2 ^ 12)) refl)
          (omega arith)

whole : (p : Eir) (at : ℕ → ℕ) (base first : ℕ) (s : Place) → Stands p at s (product base) → (input : List ℕ) (m : Machine) (taken : ℕ) (output : List ℕ) → m.regs.a < 2 ^ 24 → m.regs.b < 2 ^ 24
    → Lands p input first 0 s m taken output (output ++ []) 104 (λ a c. a ≡ m.regs.a * m.regs.b % 2 ^ 24)
whole p at base first s h input m taken output word_a word_b =
    subst (λ z. Lands p input first 0 s m taken output z 104 (λ a c. a ≡ m.regs.a * m.regs.b % 2 ^ 24)) (sym (append-nil output)) (go (nat_le m.regs.a m.regs.b) refl)
  where
    go : (x : Bool) → nat_le m.regs.a m.regs.b ≡ x → Lands p input first 0 s m taken output output 104 (λ a c. a ≡ m.regs.a * m.regs.b % 2 ^ 24)
    go true e =
        ahead 104 (one_jump_if p input s h.0 m taken output Le (constant (at (label_of base 0))) A (register B) true e h.1 ∙ ap (λ z. moment z m taken output) (ap front (mod-eq_of_lt h.2.2.2.2.1) ∙ sym h.2.2.2.2.0))
        (unmoved first 0 m m refl refl refl refl)
        (start_lands p input at base first taken output (m.regs.a * m.regs.b) h.2.2.2.0 m h.2.2.2.2.2 word_a refl)
        (omega arith)
    go false e =
        let m1 : Machine = made (Mov C (register A)) m in
        let m2 : Machine = made (Mov A (register B)) m1 in
        let m3 : Machine = made (Mov B (register C)) m2 in
        ahead 104 (one_jump_if p input s h.0 m taken output Le (constant (at (label_of base 0))) A (register B) false e h.1)
        (unmoved first 0 m m refl refl refl refl)
        (ahead 103 (one_quiet p input h.0 h.2.0 m taken output (Mov C (register A)) tt h.2.1)
        (unmoved first 0 m m1 refl refl refl refl)
        (ahead 102 (one_quiet p input h.2.0 h.2.2.0 m1 taken output (Mov A (register B)) tt h.2.2.1)
        (unmoved first 0 m1 m2 refl refl refl refl)
        (ahead 101 (one_quiet p input h.2.2.0 h.2.2.2.0 m2 taken output (Mov B (register C)) tt h.2.2.2.1)
        (unmoved first 0 m2 m3 refl refl refl refl)
        (start_lands p input at base first taken output (m.regs.a * m.regs.b) h.2.2.2.0 m3 h.2.2.2.2.2 word_b (omega arith))
        (omega arith))
        (omega arith))
        (omega arith))
        (omega arith)

pub multiplies : ProductLands
multiplies p at base first s room h = record { lands = λ input m taken output word_a word_b needs. whole p at base first s h input m taken output word_a word_b }
