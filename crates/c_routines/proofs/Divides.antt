-- Unsigned division, level by level.
use Rattle.std.proofs.Common.{◌≡◌, ℕ, zero, suc, ◌+◌, ◌-◌, ◌*◌, ◌/◌, ◌%◌, ◌^◌, ◌<◌, ◌≤◌, Bool, true, false, nat_lt, nat_le, List, [], ◌++◌, append-nil, refl, sym, ap, ◌∙◌, subst, arith, mod-eq_of_lt}
use Rattle.std.proofs.lemmas.Bool.{ltb-true, ltb-false, leb-true, leb-false}
use Rattle.std.proofs.lemmas.Nat.{pow_below}
use Rattle.mach_core.proofs.Reaching.{one_step}
use Rattle.eir_core.specs.declared.ops.Reg.TheVariants.{A, B, C, SP}
use Rattle.eir_core.specs.declared.ops.Operand.TheVariants.{Reg as register}
use Rattle.eir_core.specs.declared.ops.Cond.TheVariants.{Lt, Gt, Ge}
use Rattle.eir_core.specs.declared.ops.Op.TheVariants.{Mov, Add, Sub, Load, Store, JumpIf}
use Rattle.eir_core.specs.Eir.{Eir}
use Rattle.eir_core.specs.Memory.{Memory, word_at, with_word}
use Rattle.eir_core.specs.Step.{eir_rule}
use Rattle.eir_core.proofs.WordAt.{word_at-with_word_same, word_at-with_word_other}
use Rattle.c_place.specs.Place.{Place, Machine, front, moment, made}
use Rattle.c_routines.specs.declared.item.Item.{Item}
use Rattle.c_routines.specs.Items.{Leads, Stands, constant}
use Rattle.c_routines.specs.Lands.{Lands}
use Rattle.c_routines.specs.Laws.{DivideLands}
use Rattle.c_routines.specs.Divide.{down, tested, level, falls, rises, divide}
use Rattle.c_routines.proofs.Steps.{sum_is, difference_is, one_quiet, one_jump, one_jump_if, Holds, unmoved, kept_all, kept_store, ahead, no_more}
use Rattle.c_routines.proofs.Multiples.{twice, once, taken_away, quotient_small, division}

-- the words of the routines have the multiples of the levels below k
pub record IsTable (first b k : ℕ) (mem : Memory) : Type 0 where
  pub multiple : (j : ℕ) → j < k → word_at mem (first + j) ≡ b * 2 ^ j

table_none : (first b : ℕ) (mem : Memory) → IsTable first b 0 mem
table_none first b mem = record { multiple = λ j lt. absurd (omega (arith, lt)) }

table_more : (first b k w v : ℕ) (mem : Memory) → w ≡ first + k → v ≡ b * 2 ^ k → IsTable first b k mem → IsTable first b (suc k) (with_word mem w v)
table_more first b k w v mem is value h = record { multiple = λ j lt. go j lt (nat_lt j k) refl }
  where
    go : (j : ℕ) → j < suc k → (x : Bool) → nat_lt j k ≡ x → word_at (with_word mem w v) (first + j) ≡ b * 2 ^ j
    go j lt true e =
        let below : j < k = ltb-true j k e in
        word_at-with_word_other mem w v (first + j) (λ (z : first + j ≡ w). absurd (omega (arith, z, is, below))) ∙ h.multiple j below
    go j lt false e =
        let le : k ≤ j = ltb-false j k e in
        let same : j ≡ k = omega (arith, le, lt) in
        let there : first + j ≡ w = omega (arith, same, is) in
        ap (word_at (with_word mem w v)) there ∙ (word_at-with_word_same mem w v ∙ (value ∙ ap (λ z. b * 2 ^ z) (sym same)))

-- before level k upwards
pub record Rises (first n b k : ℕ) (m : Machine) : Type 0 where
  pub same : m.regs.a ≡ n
  pub multiple : m.regs.b ≡ b * 2 ^ k
  pub none : m.regs.c ≡ 0
  pub below : b * 2 ^ k < 2 ^ 24
  pub table : IsTable first b k m.memory

-- before the levels below k downwards
pub record Falls (first n b k : ℕ) (m : Machine) : Type 0 where
  pub whole : m.regs.c * b + m.regs.a ≡ n
  pub small : m.regs.a < b * 2 ^ k
  pub table : IsTable first b k m.memory

-- before level k downwards, where its multiple is in B
pub record Tests (first n b k : ℕ) (m : Machine) : Type 0 where
  pub whole : m.regs.c * b + m.regs.a ≡ n
  pub small : m.regs.a < b * 2 ^ suc k
  pub multiple : m.regs.b ≡ b * 2 ^ k
  pub table : IsTable first b k m.memory

module _ (p : Eir) (input : List ℕ) (at : ℕ → ℕ) (base first : ℕ) (room : first + 24 ≤ 2 ^ 24) (taken : ℕ) (output : List ℕ) (n b : ℕ) (word : n < 2 ^ 24) (positive : 0 < b) where
  abbrev pub Divided : Place → Machine → ℕ → Type 0
  Divided s m most = Lands p input first 24 s m taken output output most (λ a c. (a ≡ n % b) × (c ≡ n / b))

  address : (k : ℕ) → k < 24 → (first + k) % 2 ^ 24 ≡ first + k
  address k lt = mod-eq_of_lt (omega (arith, room, lt))

  level_lands : (k : ℕ) → k < 24 → (s : Place) (m : Machine) (rest : List Item) → Stands p at s (level base k rest) → Tests first n b k m → ((t : Place) → Stands p at t rest → (m : Machine) → Falls first n b k m → Divided t m (4 * k + 1)) → Divided s m (4 * k + 4)
  level_lands k lt s m rest h f on = go (nat_lt m.regs.a m.regs.b) refl
    where
      t3 : Place
      t3 = h.2.2.2.0

      go : (x : Bool) → nat_lt m.regs.a m.regs.b ≡ x → Divided s m (4 * k + 4)
      go true e =
          let less : m.regs.a < m.regs.b = ltb-true m.regs.a m.regs.b e in
          ahead _ (one_jump_if p input s h.2.0 m taken output Lt (constant (at (down base k))) A (register B) true e h.2.1 ∙ ap (λ z. moment z m taken output) (ap front (mod-eq_of_lt h.2.2.2.2.1) ∙ sym h.2.2.2.2.0))
          (unmoved first 24 m m refl refl refl refl)
          (on h.2.2.2.0 h.2.2.2.2.2 m (record { whole = f.whole; small = omega (arith, less, f.multiple); table = f.table }))
          (omega arith)
      go false e =
          let m1 : Machine = made (Sub A (register B)) m in
          let m2 : Machine = made (Add C (constant (2 ^ k))) m1 in
          let ge : m.regs.b ≤ m.regs.a = ltb-false m.regs.a m.regs.b e in
          let power : 2 ^ k < 2 ^ 24 = pow_below k 24 lt in
          let word_a : m.regs.a < 2 ^ 24 = omega (arith, f.whole, word) in
          let a_is : m2.regs.a ≡ m.regs.a - m.regs.b = difference_is m.regs.a m.regs.b ge word_a in
          let a_now : m2.regs.a ≡ m.regs.a - b * 2 ^ k = a_is ∙ ap (λ z. m.regs.a - z) f.multiple in
          let ge_now : b * 2 ^ k ≤ m.regs.a = omega (arith, ge, f.multiple) in
          let whole : (m.regs.c + 2 ^ k) * b + (m.regs.a - b * 2 ^ k) ≡ n = taken_away b (2 ^ k) m.regs.c m.regs.a n f.whole ge_now in
          let fits : m.regs.c + 2 ^ k ≤ n = quotient_small (m.regs.c + 2 ^ k) b (m.regs.a - b * 2 ^ k) n whole positive in
          let c_now : m2.regs.c ≡ m.regs.c + 2 ^ k = ap (λ z. (m.regs.c + z) % 2 ^ 24) (mod-eq_of_lt power) ∙ sum_is m.regs.c (2 ^ k) (omega (arith, fits, word)) in
          ahead _ (one_jump_if p input s h.2.0 m taken output Lt (constant (at (down base k))) A (register B) false e h.2.1)
          (unmoved first 24 m m refl refl refl refl)
          (ahead (4 * k + 3) (one_quiet p input h.2.0 h.2.2.0 m taken output (Sub A (register B)) tt h.2.2.1)
          (unmoved first 24 m m1 refl refl refl refl)
          (ahead (4 * k + 2) (one_quiet p input h.2.2.0 h.2.2.2.0 m1 taken output (Add C (constant (2 ^ k))) tt h.2.2.2.1)
          (unmoved first 24 m1 m2 refl refl refl refl)
          (on h.2.2.2.0 h.2.2.2.2.2 m2 (record { whole = ap (λ z. z * b + m2.regs.a) c_now ∙ (ap (λ z. (m.regs.c + 2 ^ k) * b + z) a_now ∙ whole); small = omega (arith, a_now, twice b k, f.small, ge_now); table = f.table }))
          (omega arith))
          (omega arith))
          (omega arith)

  pub falls_lands : (k : ℕ) → k ≤ 24 → (s : Place) (m : Machine) → Stands p at s (falls base first k) → Falls first n b k m → Divided s m (4 * k + 1)
  unfolding falls
  falls_lands zero le s m h f = record {
    regs = m.regs;
    memory = m.memory;
    comes = one_step (eir_rule p) input (moment s m taken output) (moment (front m.regs.sp) m taken output) (one_jump p input s h.0 m taken output (register SP) h.1);
    d = refl;
    sp = refl;
    bp = refl;
    kept = kept_all first 24 m.memory;
    result = division m.regs.c b m.regs.a n f.whole (omega (arith, once b, f.small));
  }
  falls_lands (suc k) le s m h f =
      let m1 : Machine = made (Load B (constant (first + k))) m in
      let b_now : m1.regs.b ≡ b * 2 ^ k = ap (word_at m.memory) (address k (omega (arith, le))) ∙ f.table.multiple k (omega arith) in
      ahead _ (one_quiet p input s h.0 m taken output (Load B (constant (first + k))) tt h.1)
      (unmoved first 24 m m1 refl refl refl refl)
      (level_lands k (omega (arith, le)) h.0 m1 (falls base first k) h.2 (record { whole = f.whole; small = f.small; multiple = b_now; table = record { multiple = λ j lt. f.table.multiple j (omega (arith, lt)) } }) (λ t h1 m2 f1. falls_lands k (omega (arith, le)) t m2 h1 f1))
      (omega arith)

  -- what stands at the labels of level i, and below it
  pub record Row (i : ℕ) : Type 0 where
    pub tested_at : at (tested base i) < 2 ^ 24
    pub tests : Stands p at (front (at (tested base i))) (level base i (falls base first i))
    pub down_at : at (down base i) < 2 ^ 24
    pub fall : Stands p at (front (at (down base i))) (falls base first i)

  row_of : (k : ℕ) (s : Place) → Stands p at s (level base k (falls base first k)) → Row k
  row_of k s h = record {
    tested_at = h.1;
    tests = subst (λ z. Stands p at z (level base k (falls base first k))) h.0 h;
    down_at = h.2.2.2.2.1;
    fall = subst (λ z. Stands p at z (falls base first k)) h.2.2.2.2.0 h.2.2.2.2.2;
  }

  pub rows : (k : ℕ) (s : Place) → Stands p at s (level base k (falls base first k)) → (i : ℕ) → i ≤ k → Row i
  unfolding falls
  rows zero s h i le =
      let same : 0 ≡ i = omega (arith, le) in
      subst Row same (row_of 0 s h)
  rows (suc k) s h i le = go (nat_le i k) refl (λ below. rows k h.2.2.2.2.2.0 h.2.2.2.2.2.2 i below)
    where
      go : (x : Bool) → nat_le i k ≡ x → (i ≤ k → Row i) → Row i
      go true e below = below (leb-true i k e)
      go false e below =
          let lt : k < i = leb-false i k e in
          let same : suc k ≡ i = omega (arith, lt, le) in
          subst Row same (row_of (suc k) s h)

  pub top_of : (above k top : ℕ) → above + k ≡ top → (s : Place) → Stands p at s (rises base first above k) → (t : Place) × Stands p at t (level base top (falls base first top))
  unfolding rises
  top_of zero k top e s h =
      let same : k ≡ top = omega (arith, e) in
      (h.2.2.0, subst (λ z. Stands p at h.2.2.0 (level base z (falls base first z))) same h.2.2.2)
  top_of (suc above) k top e s h = top_of above (suc k) top (omega (arith, e)) h.2.2.2.0 h.2.2.2.2

  -- the multiple is above the dividend: all those below it are taken away
  overtaken : (k : ℕ) → k ≤ 23 → Row k → (s t : Place) (m : Machine) → Leads p s (JumpIf Gt (constant (at (down base k))) B (register A)) t → Rises first n b k m → nat_lt m.regs.a m.regs.b ≡ true → Divided s m (4 * k + 2)
  overtaken k le row s t m h f e =
      let less : m.regs.a < m.regs.b = ltb-true m.regs.a m.regs.b e in
      ahead _ (one_jump_if p input s t m taken output Gt (constant (at (down base k))) B (register A) true e h ∙ ap (λ z. moment (front z) m taken output) (mod-eq_of_lt row.down_at))
      (unmoved first 24 m m refl refl refl refl)
      (falls_lands k (omega (arith, le)) (front (at (down base k))) m row.fall (record { whole = ap (λ z. z * b + m.regs.a) f.none ∙ omega (arith, f.same); small = omega (arith, less, f.multiple); table = f.table }))
      (omega arith)

  -- the multiple is stored
  abbrev stored : ℕ → Machine → Machine
  stored k m = made (Store B (constant (first + k))) m

  stored_holds : (k : ℕ) (m : Machine) → k ≤ 23 → Holds first 24 m (stored k m)
  stored_holds k m le = record { d = refl; sp = refl; bp = refl; kept = kept_store first 24 k ((first + k) % 2 ^ 24) m.regs.b m.memory (omega (arith, le)) (address k (omega (arith, le))) }

  stored_table : (k : ℕ) (m : Machine) → k ≤ 23 → Rises first n b k m → IsTable first b (suc k) (stored k m).memory
  stored_table k m le f = table_more first b k ((first + k) % 2 ^ 24) m.regs.b m.memory (address k (omega (arith, le))) f.multiple f.table

  -- and is the last one that is a word: it is tested first
  last : (k : ℕ) → k ≤ 23 → Row k → (m : Machine) → Rises first n b k m → 2 ^ 23 ≤ b * 2 ^ k → Divided (front (at (tested base k))) (stored k m) (4 * k + 4)
  last k le row m f half = level_lands k (omega (arith, le)) (front (at (tested base k))) (stored k m) (falls base first k) row.tests (record {
    whole = ap (λ z. z * b + m.regs.a) f.none ∙ omega (arith, f.same);
    small = omega (arith, half, twice b k, f.same, word);
    multiple = f.multiple;
    table = record { multiple = λ j lt. (stored_table k m le f).multiple j (omega (arith, lt)) };
  }) (λ t h1 m2 f1. falls_lands k (omega (arith, le)) t m2 h1 f1)

  -- from level k upwards
  pub rises_lands : ((i : ℕ) → i ≤ 23 → Row i) → (above k : ℕ) → above + k ≡ 23 → (s : Place) (m : Machine) → Stands p at s (rises base first above k) → Rises first n b k m → Divided s m (4 * above + 99)
  unfolding rises
  rises_lands all zero k e s m h f = go (nat_lt m.regs.a m.regs.b) refl
    where
      k_is : k ≡ 23
      k_is = omega (arith, e)

      row : Row k
      row = all k (omega (arith, e))

      on : nat_lt m.regs.a m.regs.b ≡ false → Divided s m 99
      on t =
          let big : b * 2 ^ k ≡ b * 2 ^ 23 = ap (λ z. b * 2 ^ z) k_is in
          let half : 2 ^ 23 ≤ b * 2 ^ k = omega (arith, big, positive) in
          ahead _ (one_jump_if p input s h.0 m taken output Gt (constant (at (down base k))) B (register A) false t h.1)
          (unmoved first 24 m m refl refl refl refl)
          (ahead 98 (one_quiet p input h.0 h.2.0 m taken output (Store B (constant (first + k))) tt h.2.1)
          (stored_holds k m (omega (arith, k_is)))
          (ahead 97 (one_jump p input h.2.0 h.2.2.0 (stored k m) taken output (constant (at (tested base k))) h.2.2.1 ∙ ap (λ z. moment (front z) (stored k m) taken output) (mod-eq_of_lt row.tested_at))
          (unmoved first 24 (stored k m) (stored k m) refl refl refl refl)
          (last k (omega (arith, k_is)) row m f half)
          (omega (arith, k_is)))
          (omega arith))
          (omega arith)

      go : (x : Bool) → nat_lt m.regs.a m.regs.b ≡ x → Divided s m 99
      go true t = no_more _ (overtaken k (omega (arith, k_is)) row s h.0 m h.1 f t) (omega (arith, k_is))
      go false t = on t
  rises_lands all (suc above) k e s m h f = go (nat_lt m.regs.a m.regs.b) refl (λ m1 f1. rises_lands all above (suc k) (omega (arith, e)) h.2.2.2.0 m1 h.2.2.2.2 f1)
    where
      row : Row k
      row = all k (omega (arith, e))

      doubled : b * 2 ^ k < 2 ^ 23 → ((m1 : Machine) → Rises first n b (suc k) m1 → Divided h.2.2.2.0 m1 (4 * above + 99)) → Divided h.2.2.0 (stored k m) (4 * above + 100)
      doubled small more =
          let m2 : Machine = made (Add B (register B)) (stored k m) in
          let two : b * 2 ^ suc k ≡ b * 2 ^ k + b * 2 ^ k = twice b k in
          let b_now : m2.regs.b ≡ m.regs.b + m.regs.b = sum_is m.regs.b m.regs.b (omega (arith, f.multiple, small)) in
          ahead _ (one_quiet p input h.2.2.0 h.2.2.2.0 (stored k m) taken output (Add B (register B)) tt h.2.2.2.1)
          (unmoved first 24 (stored k m) m2 refl refl refl refl)
          (more m2 (record { same = f.same; multiple = omega (arith, b_now, two, f.multiple); none = f.none; below = omega (arith, two, small); table = stored_table k m (omega (arith, e)) f }))
          (omega arith)

      tests_next : (x : Bool) → nat_le (2 ^ 23) m.regs.b ≡ x → ((m1 : Machine) → Rises first n b (suc k) m1 → Divided h.2.2.2.0 m1 (4 * above + 99)) → Divided h.2.0 (stored k m) (4 * above + 101)
      tests_next true t more =
          let half : 2 ^ 23 ≤ m.regs.b = leb-true (2 ^ 23) m.regs.b t in
          ahead _ (one_jump_if p input h.2.0 h.2.2.0 (stored k m) taken output Ge (constant (at (tested base k))) B (constant (2 ^ 23)) true t h.2.2.1 ∙ ap (λ z. moment (front z) (stored k m) taken output) (mod-eq_of_lt row.tested_at))
          (unmoved first 24 (stored k m) (stored k m) refl refl refl refl)
          (last k (omega (arith, e)) row m f (omega (arith, half, f.multiple)))
          (omega (arith, e))
      tests_next false t more =
          let low : m.regs.b < 2 ^ 23 = leb-false (2 ^ 23) m.regs.b t in
          ahead _ (one_jump_if p input h.2.0 h.2.2.0 (stored k m) taken output Ge (constant (at (tested base k))) B (constant (2 ^ 23)) false t h.2.2.1)
          (unmoved first 24 (stored k m) (stored k m) refl refl refl refl)
          (doubled (omega (arith, low, f.multiple)) more)
          (omega arith)

      go : (x : Bool) → nat_lt m.regs.a m.regs.b ≡ x → ((m1 : Machine) → Rises first n b (suc k) m1 → Divided h.2.2.2.0 m1 (4 * above + 99)) → Divided s m (4 * suc above + 99)
      go true t more = no_more _ (overtaken k (omega (arith, e)) row s h.0 m h.1 f t) (omega (arith, e))
      go false t more =
          ahead _ (one_jump_if p input s h.0 m taken output Gt (constant (at (down base k))) B (register A) false t h.1)
          (unmoved first 24 m m refl refl refl refl)
          (ahead (4 * above + 102) (one_quiet p input h.0 h.2.0 m taken output (Store B (constant (first + k))) tt h.2.1)
          (stored_holds k m (omega (arith, e)))
          (tests_next (nat_le (2 ^ 23) m.regs.b) refl more)
          (omega arith))
          (omega arith)

whole : (p : Eir) (at : ℕ → ℕ) (base first : ℕ) (s : Place) → first + 24 ≤ 2 ^ 24 → Stands p at s (divide base first) → (input : List ℕ) (m : Machine) (taken : ℕ) (output : List ℕ) → m.regs.a < 2 ^ 24 → m.regs.b < 2 ^ 24 → 0 < m.regs.b
    → Lands p input first 24 s m taken output (output ++ []) 192 (λ a c. (a ≡ m.regs.a % m.regs.b) × (c ≡ m.regs.a / m.regs.b))
whole p at base first s room h input m taken output word_a word_b positive =
    let m1 : Machine = made (Mov C (constant 0)) m in
    let top = top_of p input at base first room taken output m.regs.a m.regs.b word_a positive 23 0 23 refl h.0 h.2 in
    let all = rows p input at base first room taken output m.regs.a m.regs.b word_a positive 23 top.0 top.1 in
    subst (λ z. Lands p input first 24 s m taken output z 192 (λ a c. (a ≡ m.regs.a % m.regs.b) × (c ≡ m.regs.a / m.regs.b))) (sym (append-nil output))
    (ahead 192 (one_quiet p input s h.0 m taken output (Mov C (constant 0)) tt h.1)
    (unmoved first 24 m m1 refl refl refl refl)
    (rises_lands p input at base first room taken output m.regs.a m.regs.b word_a positive all 23 0 refl h.0 m1 h.2 (record { same = refl; multiple = sym (once m.regs.b); none = refl; below = omega (arith, once m.regs.b, word_b); table = table_none first m.regs.b m.memory }))
    (omega arith))

pub divides : DivideLands
divides p at base first s room h = record { lands = whole p at base first s room h }
