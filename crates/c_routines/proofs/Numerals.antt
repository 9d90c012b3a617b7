-- A number is written, place by place.
use Rattle.std.proofs.Common.{◌≡◌, ℕ, zero, suc, ◌+◌, ◌-◌, ◌*◌, ◌/◌, ◌%◌, ◌^◌, ◌<◌, ◌≤◌, Bool, true, false, nat_lt, nat_le, List, [], ◌∷◌, ◌++◌, append_assoc, refl, sym, ap, ◌∙◌, subst, arith, mod-eq_of_lt, if◌then◌else◌, lit≤}
use Rattle.std.specs.Fmt.{digit_glyph, digits}
use Rattle.std.proofs.lemmas.Bool.{ltb-true, ltb-false, leb-true, leb-false, lt-ltb, le-ltb}
use Rattle.std.proofs.lemmas.Nat.{div-add-mod'}
use Rattle.std.proofs.Math.Nat.{pow-suc, pow-zero, pow-le-pow_right, mod-lt, one-le-pow, mul-le-mul_right}
use Rattle.mach_core.proofs.Reaching.{one_step}
use Rattle.word24.specs.Word.{sum_word}
use Rattle.eir_core.specs.declared.ops.Reg.{Reg}
use Rattle.eir_core.specs.declared.ops.Reg.TheVariants.{A, B, SP}
use Rattle.eir_core.specs.declared.ops.Operand.TheVariants.{Reg as register}
use Rattle.eir_core.specs.declared.ops.Cond.TheVariants.{Lt}
use Rattle.eir_core.specs.declared.ops.Op.TheVariants.{Mov, Add, Sub, Putc, Jump as Go}
use Rattle.eir_core.specs.Eir.{Eir}
use Rattle.eir_core.specs.Step.{reg_of, with_reg, eir_rule}
use Rattle.c_place.specs.Place.{Place, Machine, front, moment, made}
use Rattle.c_routines.specs.declared.item.Item.{Item}
use Rattle.c_routines.specs.declared.item.Item.TheVariants.{Does, Label, Jump, JumpIf}
use Rattle.c_routines.specs.declared.radix.Radix.{Radix}
use Rattle.c_routines.specs.declared.radix.Radix.TheVariants.{Ten, Sixteen}
use Rattle.c_routines.specs.Items.{Stands, constant}
use Rattle.c_routines.specs.Lands.{Lands}
use Rattle.c_routines.specs.Laws.{most_of, NumeralLands}
use Rattle.c_routines.specs.Numeral.{radix_number, highest, begins, again, known, writes_it, lettered, places, finds, numeral}
use Rattle.c_routines.proofs.Steps.{sum_is, difference_is, one_quiet, one_put, one_jump, one_jump_if, Holds, unmoved, kept_all, ahead, no_more}
use Rattle.c_routines.proofs.Numbers.{text_at, written_from}

-- ---- the two ways

-- steps of a letter, and of a place
abbrev pub letter_steps : Radix → ℕ
letter_steps Ten = 0
letter_steps Sixteen = 2

abbrev pub place_steps : Radix → ℕ
place_steps Ten = 39
place_steps Sixteen = 65

some_number : (radix : Radix) → 0 < radix_number radix
some_number Ten = omega arith
some_number Sixteen = omega arith

place_fits : (radix : Radix) (d : ℕ) → d < radix_number radix → 4 * d + 3 + letter_steps radix ≤ place_steps radix
place_fits Ten d lt = omega arith
place_fits Sixteen d lt = omega arith

code_small : (radix : Radix) (d : ℕ) → d < radix_number radix → 48 + d < 2 ^ 8
code_small Ten d lt = omega arith
code_small Sixteen d lt = omega arith

glyph_small : (radix : Radix) (d : ℕ) → d < radix_number radix → digit_glyph false d < 2 ^ 8
glyph_small radix d lt = go (nat_lt d 10) refl (code_small radix d lt) (letter_small radix d lt)
  where
    letter_small : (radix : Radix) (d : ℕ) → d < radix_number radix → 87 + d < 2 ^ 8
    letter_small Ten d lt = omega arith
    letter_small Sixteen d lt = omega arith

    go : (t : Bool) → nat_lt d 10 ≡ t → 48 + d < 2 ^ 8 → 87 + d < 2 ^ 8 → (if t then 48 + d else (if false then 55 + d else 87 + d)) < 2 ^ 8
    go true e a b = a
    go false e a b = b

power_word : (radix : Radix) (k : ℕ) → k ≤ highest radix → radix_number radix ^ k < 2 ^ 24
power_word Ten k le = omega (arith, pow-le-pow_right {n = 10} (omega arith) {i = k} {j = 7} le)
power_word Sixteen k le = omega (arith, pow-le-pow_right {n = 16} (omega arith) {i = k} {j = 5} le)

all_words : (radix : Radix) → 2 ^ 24 ≤ radix_number radix ^ suc (highest radix)
all_words Ten = lit≤ tt
all_words Sixteen = lit≤ tt

few_places : (radix : Radix) (k : ℕ) → k ≤ highest radix → k < 64
few_places Ten k le = omega (arith, le)
few_places Sixteen k le = omega (arith, le)

small_digit : (a q b : ℕ) → a < q * b → a / q < b
small_digit a q b lt = go (nat_lt (a / q) b) refl
  where
    go : (x : Bool) → nat_lt (a / q) b ≡ x → a / q < b
    go true e = ltb-true (a / q) b e
    go false e = absurd (omega (arith, mul-le-mul_right {m = b} {n = a / q} q (ltb-false (a / q) b e), div-add-mod' a q, lt))

glyph_low : (d : ℕ) → d < 10 → 48 + d ≡ digit_glyph false d
glyph_low d lt = sym (ap (λ t. if t then 48 + d else (if false then 55 + d else 87 + d)) (lt-ltb d 10 lt))

glyph_high : (d : ℕ) → 10 ≤ d → 87 + d ≡ digit_glyph false d
glyph_high d le = sym (ap (λ t. if t then 48 + d else (if false then 55 + d else 87 + d)) (le-ltb d 10 le))

-- another word in a register
abbrev pub setting : Machine → Reg → ℕ → Machine
setting m r v = record { regs = with_reg m.regs r v; memory = m.memory }

module _ (p : Eir) (input : List ℕ) (at : ℕ → ℕ) (base first : ℕ) (taken : ℕ) where
  abbrev pub Writes : Place → Machine → List ℕ → List ℕ → ℕ → Type 0
  Writes s m before after most = Lands p input first 0 s m taken before after most (λ a c. Unit {0})

  -- a code from that of 0 on becomes that of the digit
  lettered_lands : (radix : Radix) (small : ℕ) (r : Reg) (rest : List Item) (s : Place) (m : Machine) (before after : List ℕ) (most d : ℕ) → Stands p at s (lettered radix small r rest) → reg_of m.regs r ≡ 48 + d → d < radix_number radix
      → ((v : ℕ) → Holds first 0 m (setting m r v)) → setting m r (reg_of m.regs r) ≡ m → ((t : Place) → Stands p at t rest → (v : ℕ) → v ≡ digit_glyph false d → Writes t (setting m r v) before after most) → Writes s m before after (most + letter_steps radix)
  lettered_lands Ten small r rest s m before after most d h is lt holds same on = no_more _ (subst (λ z. Writes s z before after most) same (on s h (reg_of m.regs r) (is ∙ glyph_low d lt))) (omega arith)
  lettered_lands Sixteen small r rest s m before after most d h is lt holds same on = go (nat_lt (reg_of m.regs r) 58) refl
    where
      go : (x : Bool) → nat_lt (reg_of m.regs r) 58 ≡ x → Writes s m before after (most + 2)
      go true e =
          let low : reg_of m.regs r < 58 = ltb-true (reg_of m.regs r) 58 e in
          ahead (most + 2) (one_jump_if p input s h.0 m taken before Lt (constant (at small)) r (constant 58) true e h.1 ∙ ap (λ z. moment z m taken before) (ap front (mod-eq_of_lt h.2.2.1) ∙ sym h.2.2.0))
          (unmoved first 0 m m refl refl refl refl)
          (subst (λ z. Writes h.2.0 z before after most) same (on h.2.0 h.2.2.2 (reg_of m.regs r) (is ∙ glyph_low d (omega (arith, low, is)))))
          (omega arith)
      go false e =
          let high : 58 ≤ reg_of m.regs r = ltb-false (reg_of m.regs r) 58 e in
          let code : sum_word (reg_of m.regs r) 39 ≡ 87 + d = sum_is (reg_of m.regs r) 39 (omega (arith, is, lt)) ∙ omega (arith, is) in
          ahead (most + 2) (one_jump_if p input s h.0 m taken before Lt (constant (at small)) r (constant 58) false e h.1)
          (unmoved first 0 m m refl refl refl refl)
          (ahead (most + 1) (one_quiet p input h.0 h.2.0 m taken before (Add r (constant 39)) tt h.2.1)
          (holds (sum_word (reg_of m.regs r) 39))
          (on h.2.0 h.2.2.2 (sum_word (reg_of m.regs r) 39) (code ∙ glyph_high d (omega (arith, high, is))))
          (omega arith))
          (omega arith)

  -- the turns of a digit: d times q is taken away
  turns : (counts done q r : ℕ) → r < q → q < 2 ^ 24 → (rest : List Item) (s : Place) → s ≡ front (at counts) → at counts < 2 ^ 24
      → (h : Stands p at s (JumpIf Lt done A (constant q) ∷ Does (Sub A (constant q)) ∷ Does (Add B (constant 1)) ∷ Jump counts ∷ Label done ∷ rest))
      → (before after : List ℕ) (most code : ℕ) → code < 2 ^ 8 → ((t : Place) → Stands p at t rest → (m : Machine) → m.regs.a ≡ r → m.regs.b ≡ code → Writes t m before after most)
      → (d : ℕ) (m : Machine) → m.regs.a ≡ d * q + r → m.regs.a < 2 ^ 24 → m.regs.b + d ≡ code → Writes s m before after (most + (4 * d + 1))
  turns counts done q r lt word rest s is label h before after most code low on zero m a_is small b_is =
      let number : q % 2 ^ 24 ≡ q = mod-eq_of_lt word in
      let a_now : m.regs.a ≡ r = omega (arith, a_is) in
      let less : nat_lt m.regs.a q ≡ true = lt-ltb m.regs.a q (omega (arith, a_now, lt)) in
      ahead (most + (4 * 0 + 1)) (one_jump_if p input s h.0 m taken before Lt (constant (at done)) A (constant q) true (ap (nat_lt m.regs.a) number ∙ less) h.1 ∙ ap (λ z. moment z m taken before) (ap front (mod-eq_of_lt h.2.2.2.2.1) ∙ sym h.2.2.2.2.0))
      (unmoved first 0 m m refl refl refl refl)
      (on h.2.2.2.0 h.2.2.2.2.2 m a_now (omega (arith, b_is)))
      (omega arith)
  turns counts done q r lt word rest s is label h before after most code low on (suc d) m a_is small b_is =
      let m1 : Machine = made (Sub A (constant q)) m in
      let m2 : Machine = made (Add B (constant 1)) m1 in
      let number : q % 2 ^ 24 ≡ q = mod-eq_of_lt word in
      let more : suc d * q ≡ d * q + q = omega arith in
      let ge : q ≤ m.regs.a = omega (arith, a_is, more) in
      let a_now : m2.regs.a ≡ m.regs.a - q = ap (λ z. (m.regs.a + (2 ^ 24 - z)) % 2 ^ 24) number ∙ difference_is m.regs.a q ge small in
      let b_now : m2.regs.b ≡ m.regs.b + 1 = sum_is m.regs.b 1 (omega (arith, b_is, low)) in
      let not_less : nat_lt m.regs.a q ≡ false = le-ltb m.regs.a q ge in
      ahead (most + (4 * suc d + 1)) (one_jump_if p input s h.0 m taken before Lt (constant (at done)) A (constant q) false (ap (nat_lt m.regs.a) number ∙ not_less) h.1)
      (unmoved first 0 m m refl refl refl refl)
      (ahead (most + (4 * d + 4)) (one_quiet p input h.0 h.2.0 m taken before (Sub A (constant q)) tt h.2.1)
      (unmoved first 0 m m1 refl refl refl refl)
      (ahead (most + (4 * d + 3)) (one_quiet p input h.2.0 h.2.2.0 m1 taken before (Add B (constant 1)) tt h.2.2.1)
      (unmoved first 0 m1 m2 refl refl refl refl)
      (ahead (most + (4 * d + 2)) (one_jump p input h.2.2.0 h.2.2.2.0 m2 taken before (constant (at counts)) h.2.2.2.1 ∙ ap (λ z. moment z m2 taken before) (ap front (mod-eq_of_lt label) ∙ sym is))
      (unmoved first 0 m2 m2 refl refl refl refl)
      (turns counts done q r lt word rest s is label h before after most code low on d m2 (omega (arith, a_now, a_is, more)) (omega (arith, a_now, small)) (omega (arith, b_now, b_is)))
      (omega arith))
      (omega arith))
      (omega arith))
      (omega arith)

  -- the last digit
  last_lands : (radix : Radix) (s : Place) (m : Machine) (before : List ℕ) → Stands p at s (places radix base 0) → m.regs.a < radix_number radix → Writes s m before (before ++ digit_glyph false m.regs.a ∷ []) (3 + letter_steps radix)
  unfolding places
  last_lands radix s m before h small =
      let m1 : Machine = made (Add A (constant 48)) m in
      let d : ℕ = m.regs.a in
      let low : 48 + d < 2 ^ 8 = code_small radix d small in
      let a_now : m1.regs.a ≡ 48 + d = sum_is m.regs.a 48 (omega (arith, low)) ∙ omega arith in
      ahead (3 + letter_steps radix) (one_quiet p input s h.2.0 m taken before (Add A (constant 48)) tt h.2.1)
      (unmoved first 0 m m1 refl refl refl refl)
      (lettered_lands radix (writes_it radix base 0) A (Does (Putc (register A)) ∷ Does (Go (register SP)) ∷ []) h.2.0 m1 before (before ++ digit_glyph false d ∷ []) 2 d h.2.2 a_now small (λ v. unmoved first 0 m1 (setting m1 A v) refl refl refl refl) refl
      (λ t ht v is. ahead 2 (one_put p input t ht.0 (setting m1 A v) taken before (register A) ht.1 ∙ ap (λ z. moment ht.0 (setting m1 A v) taken (before ++ z ∷ [])) (ap (λ z. z % 2 ^ 8) is ∙ mod-eq_of_lt (glyph_small radix d small)))
      (unmoved first 0 (setting m1 A v) (setting m1 A v) refl refl refl refl)
      (record {
        regs = (setting m1 A v).regs;
        memory = m1.memory;
        comes = one_step (eir_rule p) input (moment ht.0 (setting m1 A v) taken (before ++ digit_glyph false d ∷ [])) (moment (front m1.regs.sp) (setting m1 A v) taken (before ++ digit_glyph false d ∷ []))
            (one_jump p input ht.0 ht.2.0 (setting m1 A v) taken (before ++ digit_glyph false d ∷ []) (register SP) ht.2.1);
        d = refl;
        sp = refl;
        bp = refl;
        kept = kept_all first 0 m1.memory;
        result = tt;
      })
      (omega arith)))
      (omega arith)

  pub places_land : (radix : Radix) (k : ℕ) → k ≤ highest radix → (s : Place) (m : Machine) (before : List ℕ) → Stands p at s (places radix base k) → m.regs.a < 2 ^ 24 → m.regs.a < radix_number radix ^ suc k
      → Writes s m before (before ++ text_at (radix_number radix) k m.regs.a) (place_steps radix * k + (3 + letter_steps radix))
  unfolding places
  places_land radix zero le s m before h word small =
      no_more _ (last_lands radix s m before h (omega (arith, small, pow-suc (radix_number radix) 0, ap (λ z. z * radix_number radix) (pow-zero (radix_number radix))))) (omega arith)
  places_land radix (suc k) le s m before h word small =
      let b : ℕ = radix_number radix in
      let q : ℕ = radix_number radix ^ suc k in
      let d : ℕ = m.regs.a / q in
      let r : ℕ = m.regs.a % q in
      let m1 : Machine = made (Mov B (constant 48)) m in
      let q_word : q < 2 ^ 24 = power_word radix (suc k) le in
      let q_some : 1 ≤ q = one-le-pow (suc k) (radix_number radix) (some_number radix) in
      let r_small : r < q = mod-lt m.regs.a q_some in
      let d_small : d < radix_number radix = small_digit m.regs.a q (radix_number radix) (omega (arith, small, pow-suc (radix_number radix) (suc k))) in
      let whole : m.regs.a ≡ d * q + r = sym (div-add-mod' m.regs.a q) in
      let low : 48 + d < 2 ^ 8 = code_small radix d d_small in
      let cost : 4 * d + 3 + letter_steps radix ≤ place_steps radix = place_fits radix d d_small in
      let sum : place_steps radix * suc k ≡ place_steps radix * k + place_steps radix = omega arith in
      let glyph : ℕ = digit_glyph false d in
      let below : ℕ = place_steps radix * k + (3 + letter_steps radix) in
      ahead (place_steps radix * suc k + (3 + letter_steps radix)) (one_quiet p input s h.2.0 m taken before (Mov B (constant 48)) tt h.2.1)
      (unmoved first 0 m m1 refl refl refl refl)
      (turns (again radix base (suc k)) (known radix base (suc k)) q r r_small q_word (lettered radix (writes_it radix base (suc k)) B (Does (Putc (register B)) ∷ places radix base k)) h.2.0 h.2.2.0 h.2.2.1 h.2.2.2 before (before ++ text_at (radix_number radix) (suc k) m.regs.a) (below + 1 + letter_steps radix) (48 + d) low
      (λ t ht m2 a_is b_is. lettered_lands radix (writes_it radix base (suc k)) B (Does (Putc (register B)) ∷ places radix base k) t m2 before (before ++ text_at (radix_number radix) (suc k) m.regs.a) (below + 1) d ht b_is d_small (λ v. unmoved first 0 m2 (setting m2 B v) refl refl refl refl) refl
      (λ t3 h3 v is. ahead (below + 1) (one_put p input t3 h3.0 (setting m2 B v) taken before (register B) h3.1 ∙ ap (λ z. moment h3.0 (setting m2 B v) taken (before ++ z ∷ [])) (ap (λ z. z % 2 ^ 8) is ∙ mod-eq_of_lt (glyph_small radix d d_small)))
      (unmoved first 0 (setting m2 B v) (setting m2 B v) refl refl refl refl)
      (subst (λ z. Writes h3.0 (setting m2 B v) (before ++ glyph ∷ []) z below) (ap (λ z. (before ++ glyph ∷ []) ++ text_at (radix_number radix) k z) a_is ∙ append_assoc before (glyph ∷ []) (text_at (radix_number radix) k r))
      (places_land radix k (omega (arith, le)) h3.0 (setting m2 B v) (before ++ glyph ∷ []) h3.2 (omega (arith, a_is, r_small, q_word)) (omega (arith, a_is, r_small))))
      (omega arith)))
      d m1 whole word refl)
      (omega (arith, cost, sum))

  -- what stands at a place
  pub record Row (radix : Radix) (i : ℕ) : Type 0 where
    pub label : at (begins radix base i) < 2 ^ 24
    pub stands : Stands p at (front (at (begins radix base i))) (places radix base i)

  row_of : (radix : Radix) (k : ℕ) (s : Place) → Stands p at s (places radix base k) → Row radix k
  unfolding places
  row_of radix zero s h = record { label = h.1; stands = subst (λ z. Stands p at z (places radix base 0)) h.0 h }
  row_of radix (suc k) s h = record { label = h.1; stands = subst (λ z. Stands p at z (places radix base (suc k))) h.0 h }

  past_letter : (radix : Radix) (small : ℕ) (r : Reg) (rest : List Item) (s : Place) → Stands p at s (lettered radix small r rest) → (t : Place) × Stands p at t rest
  past_letter Ten small r rest s h = (s, h)
  past_letter Sixteen small r rest s h = (h.2.0, h.2.2.2)

  next_place : (radix : Radix) (k : ℕ) (s : Place) → Stands p at s (places radix base (suc k)) → (t : Place) × Stands p at t (places radix base k)
  unfolding places
  next_place radix k s h =
      let x = past_letter radix (writes_it radix base (suc k)) B (Does (Putc (register B)) ∷ places radix base k) h.2.2.2.2.2.2.0 h.2.2.2.2.2.2.2.2 in
      (x.1.0, x.1.2)

  rows : (radix : Radix) (k : ℕ) (s : Place) → Stands p at s (places radix base k) → (i : ℕ) → i ≤ k → Row radix i
  rows radix zero s h i le =
      let same : 0 ≡ i = omega (arith, le) in
      subst (Row radix) same (row_of radix 0 s h)
  rows radix (suc k) s h i le =
      let x = next_place radix k s h in
      go (nat_le i k) refl (λ below. rows radix k x.0 x.1 i below)
    where
      go : (x : Bool) → nat_le i k ≡ x → (i ≤ k → Row radix i) → Row radix i
      go true e below = below (leb-true i k e)
      go false e below =
          let lt : k < i = leb-false i k e in
          let same : suc k ≡ i = omega (arith, lt, le) in
          subst (Row radix) same (row_of radix (suc k) s h)

  all_places : (radix : Radix) (above k top : ℕ) → above + k ≡ top → (s : Place) → Stands p at s (finds radix base above k) → (t : Place) × Stands p at t (places radix base top)
  unfolding finds
  all_places radix zero k top e s h =
      let same : k ≡ top = omega (arith, e) in
      (s, subst (λ z. Stands p at s (places radix base z)) same h)
  all_places radix (suc above) k top e s h = all_places radix above (suc k) top (omega (arith, e)) h.0 h.2

  abbrev pub steps : Radix → ℕ
  steps radix = place_steps radix * highest radix + (3 + letter_steps radix)

  steps_below : (radix : Radix) (k : ℕ) → k ≤ highest radix → place_steps radix * k + (3 + letter_steps radix) ≤ steps radix
  steps_below Ten k le = omega (arith, le)
  steps_below Sixteen k le = omega (arith, le)

  -- from a place on at which something is left
  here_lands : (radix : Radix) (k : ℕ) → k ≤ highest radix → (s : Place) (m : Machine) (before : List ℕ) → Stands p at s (places radix base k) → m.regs.a < 2 ^ 24 → m.regs.a < radix_number radix ^ suc k → (0 < k → radix_number radix ^ k ≤ m.regs.a)
      → Writes s m before (before ++ digits (radix_number radix) false m.regs.a) (steps radix)
  here_lands radix k le s m before h word small high =
      subst (λ z. Writes s m before (before ++ z) (steps radix)) (written_from (radix_number radix) k m.regs.a (some_number radix) (few_places radix k le) high small)
      (no_more _ (places_land radix k le s m before h word small) (steps_below radix k le))

  finds_land : (radix : Radix) → ((i : ℕ) → i ≤ highest radix → Row radix i) → (above k : ℕ) → above + k ≡ highest radix → (s : Place) (m : Machine) (before : List ℕ) → Stands p at s (finds radix base above k) → m.regs.a < 2 ^ 24 → (0 < k → radix_number radix ^ k ≤ m.regs.a)
      → Writes s m before (before ++ digits (radix_number radix) false m.regs.a) (above + steps radix)
  unfolding finds
  finds_land radix all zero k e s m before h word high =
      let k_is : highest radix ≡ k = omega (arith, e) in
      let large : 2 ^ 24 ≤ radix_number radix ^ suc k = subst (λ z. 2 ^ 24 ≤ radix_number radix ^ suc z) k_is (all_words radix) in
      no_more _ (here_lands radix k (omega (arith, k_is)) s m before h word (omega (arith, large, word)) high) (omega arith)
  finds_land radix all (suc above) k e s m before h word high = go (nat_lt m.regs.a (radix_number radix ^ suc k)) refl (λ le. finds_land radix all above (suc k) (omega (arith, e)) h.0 m before h.2 word (λ z. le))
    where
      row : Row radix k
      row = all k (omega (arith, e))

      number : radix_number radix ^ suc k % 2 ^ 24 ≡ radix_number radix ^ suc k
      number = mod-eq_of_lt (power_word radix (suc k) (omega (arith, e)))

      go : (x : Bool) → nat_lt m.regs.a (radix_number radix ^ suc k) ≡ x → (radix_number radix ^ suc k ≤ m.regs.a → Writes h.0 m before (before ++ digits (radix_number radix) false m.regs.a) (above + steps radix))
          → Writes s m before (before ++ digits (radix_number radix) false m.regs.a) (suc above + steps radix)
      go true t more =
          ahead (suc above + steps radix) (one_jump_if p input s h.0 m taken before Lt (constant (at (begins radix base k))) A (constant (radix_number radix ^ suc k)) true (ap (nat_lt m.regs.a) number ∙ t) h.1 ∙ ap (λ z. moment (front z) m taken before) (mod-eq_of_lt row.label))
          (unmoved first 0 m m refl refl refl refl)
          (here_lands radix k (omega (arith, e)) (front (at (begins radix base k))) m before row.stands word (ltb-true m.regs.a (radix_number radix ^ suc k) t) high)
          (omega arith)
      go false t more =
          ahead (suc above + steps radix) (one_jump_if p input s h.0 m taken before Lt (constant (at (begins radix base k))) A (constant (radix_number radix ^ suc k)) false (ap (nat_lt m.regs.a) number ∙ t) h.1)
          (unmoved first 0 m m refl refl refl refl)
          (more (ltb-false m.regs.a (radix_number radix ^ suc k) t))
          (omega arith)

  sum_of : (radix : Radix) → highest radix + 0 ≡ highest radix
  sum_of Ten = refl
  sum_of Sixteen = refl

  enough : (radix : Radix) → highest radix + steps radix ≤ most_of radix
  enough Ten = lit≤ tt
  enough Sixteen = lit≤ tt

  pub numeral_lands : (radix : Radix) (s : Place) (m : Machine) (before : List ℕ) → Stands p at s (numeral radix base) → m.regs.a < 2 ^ 24 → Writes s m before (before ++ digits (radix_number radix) false m.regs.a) (most_of radix)
  numeral_lands radix s m before h word =
      let top = all_places radix (highest radix) 0 (highest radix) (sum_of radix) s h in
      no_more _ (finds_land radix (rows radix (highest radix) top.0 top.1) (highest radix) 0 (sum_of radix) s m before h word (λ z. absurd (omega (arith, z)))) (enough radix)

pub numerals : NumeralLands
numerals radix p at base first s room h = record { lands = λ input m taken output word_a word_b needs. numeral_lands p input at base first taken radix s m output h word_a }
