-- Signed division.
use Rattle.std.proofs.Common.{◌≡◌, ℕ, ◌+◌, ◌/◌, ◌%◌, ◌^◌, ◌<◌, ◌≤◌, Bool, true, false, List, [], ◌∷◌, ◌++◌, append-nil, refl, sym, ap, ◌∙◌, subst, arith, mod-eq_of_lt}
use Rattle.word24.specs.Word.{is_high}
use Rattle.eir_core.specs.declared.ops.Reg.TheVariants.{A, B, C}
use Rattle.eir_core.specs.declared.ops.Cond.TheVariants.{Ge}
use Rattle.eir_core.specs.declared.ops.Op.TheVariants.{Mov, Sub, Jump, JumpIf}
use Rattle.eir_core.specs.declared.ops.Operand.TheVariants.{Reg as register}
use Rattle.eir_core.specs.Eir.{Eir}
use Rattle.c_place.specs.Place.{Place, Machine, front, moment, made}
use Rattle.c_routines.specs.declared.item.Item.{Item}
use Rattle.c_routines.specs.declared.item.Item.TheVariants.{Label, Jump as Goes, JumpIf as JumpWhere}
use Rattle.c_routines.specs.Items.{Leads, Stands, constant, label_of, does}
use Rattle.c_routines.specs.Lands.{Lands, Serves}
use Rattle.c_routines.specs.Laws.{IsQuotient, SignedDivideLands}
use Rattle.c_routines.specs.SignedDivide.{signed_divide, with_sign, differ, IsSignedQuotient}
use Rattle.c_routines.specs.Using.{negate, using}
use Rattle.c_routines.proofs.Steps.{kept_all, one_quiet, one_jump, one_jump_if, unmoved, ahead}
use Rattle.c_routines.proofs.Using.{kept_more, past_using, used}

size_small : (x : ℕ) → x < 2 ^ 24 → (t : Bool) → is_high x ≡ t → with_sign t x < 2 ^ 24
size_small x lt true e = omega arith
size_small x lt false e = lt

size_positive : (y : ℕ) → y < 2 ^ 24 → 0 < y → (t : Bool) → is_high y ≡ t → 0 < with_sign t y
size_positive y lt pos true e = omega (arith, lt, pos)
size_positive y lt pos false e = pos

-- what is said of two signs that are known
signed : (x y a c : ℕ) (t u : Bool) → is_high x ≡ t → is_high y ≡ u → a ≡ with_sign t (with_sign t x % with_sign u y) → c ≡ with_sign (differ t u) (with_sign t x / with_sign u y) → IsSignedQuotient x y a c
signed x y a c t u e f is_a is_c = (
  is_a ∙ sym (ap (λ z. with_sign z (with_sign z x % with_sign (is_high y) y)) e ∙ ap (λ z. with_sign t (with_sign t x % with_sign z y)) f),
  is_c ∙ sym (ap (λ z. with_sign (differ z (is_high y)) (with_sign z x / with_sign (is_high y) y)) e ∙ ap (λ z. with_sign (differ t z) (with_sign t x / with_sign z y)) f),
)

module _ (p : Eir) (at : ℕ → ℕ) (entry base first : ℕ) (room : first + 26 ≤ 2 ^ 24) (small : at entry < 2 ^ 24) (serves : Serves p first 24 (front (at entry)) (λ x y. 0 < y) (λ x y. []) IsQuotient 192) (input : List ℕ) (m : Machine) (taken : ℕ) (output : List ℕ) (word_a : m.regs.a < 2 ^ 24) (word_b : m.regs.b < 2 ^ 24) (positive : 0 < m.regs.b) where
  abbrev pub Signed : Place → Machine → ℕ → Type 0
  Signed s1 m1 most = Lands p input first 26 s1 m1 taken output output most (IsSignedQuotient m.regs.a m.regs.b)

  -- neither is negative
  plain : (s t : Place) → Leads p s (Jump (constant (at entry))) t → is_high m.regs.a ≡ false → is_high m.regs.b ≡ false → Signed s m 193
  plain s t h e f =
      let l = serves.lands input m taken output word_a word_b positive in
      ahead 193 (one_jump p input s t m taken output (constant (at entry)) h ∙ ap (λ z. moment (front z) m taken output) (mod-eq_of_lt small))
      (unmoved first 26 m m refl refl refl refl)
      (subst (λ z. Lands p input first 26 (front (at entry)) m taken output z 192 (IsSignedQuotient m.regs.a m.regs.b)) (append-nil output) (record {
        regs = l.regs;
        memory = l.memory;
        comes = l.comes;
        d = l.d;
        sp = l.sp;
        bp = l.bp;
        kept = kept_more {first = first} {words = 24} {more = 26} (omega arith) l.kept;
        result = signed m.regs.a m.regs.b l.regs.a l.regs.c false false e f l.result.0 l.result.1;
      }))
      (omega arith)

  -- the divisor alone
  pub other : (s : Place) (rest : List Item) → Stands p at s (using entry (label_of base 1) first (negate B C) (negate C B) rest) → is_high m.regs.a ≡ false → is_high m.regs.b ≡ true → Signed s m 203
  other s rest h e f =
      used p at input taken output first 24 entry (label_of base 1) 192 (λ x y. 0 < y) IsQuotient (IsSignedQuotient m.regs.a m.regs.b) (negate B C) (negate C B) rest s m room small (omega arith) serves (tt, (tt, (tt, tt))) (tt, (tt, (tt, tt))) h
      word_a (size_small m.regs.b word_b true f) (size_positive m.regs.b word_b positive true f)
      (record {
        d = refl;
        sp = refl;
        bp = refl;
        memory = kept_all first 26 m.memory;
        d_after = λ n. refl;
        bp_after = λ n. refl;
        memory_after = λ n. refl;
        result = λ n w q. signed m.regs.a m.regs.b n.regs.a (with_sign true n.regs.c) false true e f q.0 (ap (with_sign true) q.1);
      })

  -- the dividend is made positive
  abbrev pub turned : Machine
  turned = record { regs = record { a = with_sign true m.regs.a; b = m.regs.b; c = m.regs.a; d = m.regs.d; sp = m.regs.sp; bp = m.regs.bp }; memory = m.memory }

  -- the dividend alone
  negative : (s : Place) (rest : List Item) → Stands p at s (using entry (label_of base 3) first [] (negate C B ++ negate A B) rest) → is_high m.regs.a ≡ true → is_high m.regs.b ≡ false → Signed s turned 203
  negative s rest h e f =
      used p at input taken output first 24 entry (label_of base 3) 192 (λ x y. 0 < y) IsQuotient (IsSignedQuotient m.regs.a m.regs.b) [] (negate C B ++ negate A B) rest s turned room small (omega arith) serves tt (tt, (tt, (tt, (tt, (tt, (tt, tt)))))) h
      (size_small m.regs.a word_a true e) word_b positive
      (record {
        d = refl;
        sp = refl;
        bp = refl;
        memory = kept_all first 26 m.memory;
        d_after = λ n. refl;
        bp_after = λ n. refl;
        memory_after = λ n. refl;
        result = λ n w q. signed m.regs.a m.regs.b (with_sign true n.regs.a) (with_sign true n.regs.c) true false e f (ap (with_sign true) q.0) (ap (with_sign true) q.1);
      })

  -- both
  both : (s : Place) (rest : List Item) → Stands p at s (using entry (label_of base 5) first (negate B C) (negate A B) rest) → is_high m.regs.a ≡ true → is_high m.regs.b ≡ true → Signed s turned 203
  both s rest h e f =
      used p at input taken output first 24 entry (label_of base 5) 192 (λ x y. 0 < y) IsQuotient (IsSignedQuotient m.regs.a m.regs.b) (negate B C) (negate A B) rest s turned room small (omega arith) serves (tt, (tt, (tt, tt))) (tt, (tt, (tt, tt))) h
      (size_small m.regs.a word_a true e) (size_small m.regs.b word_b true f) (size_positive m.regs.b word_b positive true f)
      (record {
        d = refl;
        sp = refl;
        bp = refl;
        memory = kept_all first 26 m.memory;
        d_after = λ n. refl;
        bp_after = λ n. refl;
        memory_after = λ n. refl;
        result = λ n w q. signed m.regs.a m.regs.b (with_sign true n.regs.a) n.regs.c true true e f (ap (with_sign true) q.0) q.1;
      })

  abbrev after_negative : List Item
  after_negative = Label (label_of base 4) ∷ using entry (label_of base 5) first (negate B C) (negate A B) []

  abbrev after_other : List Item
  after_other = Label (label_of base 2) ∷ does (negate A C) (JumpWhere Ge (label_of base 4) B (constant (2 ^ 23)) ∷ using entry (label_of base 3) first [] (negate C B ++ negate A B) after_negative)

  -- a dividend that isn't negative
  from_positive : (s t : Place) → Leads p s (JumpIf Ge (constant (at (label_of base 0))) B (constant (2 ^ 23))) t → Stands p at t (Goes entry ∷ Label (label_of base 0) ∷ using entry (label_of base 1) first (negate B C) (negate C B) after_other)
      → is_high m.regs.a ≡ false → (x : Bool) → is_high m.regs.b ≡ x → Signed s m 204
  from_positive s t j h e true f =
      ahead 204 (one_jump_if p input s t m taken output Ge (constant (at (label_of base 0))) B (constant (2 ^ 23)) true f j ∙ ap (λ z. moment z m taken output) (ap front (mod-eq_of_lt h.2.1) ∙ sym h.2.0))
      (unmoved first 26 m m refl refl refl refl)
      (other h.0 after_other h.2.2 e f)
      (omega arith)
  from_positive s t j h e false f =
      ahead 204 (one_jump_if p input s t m taken output Ge (constant (at (label_of base 0))) B (constant (2 ^ 23)) false f j)
      (unmoved first 26 m m refl refl refl refl)
      (plain t h.0 h.1 e f)
      (omega arith)

  -- a negative one
  from_turned : (s t : Place) → Leads p s (JumpIf Ge (constant (at (label_of base 4))) B (constant (2 ^ 23))) t → Stands p at t (using entry (label_of base 3) first [] (negate C B ++ negate A B) after_negative) → is_high m.regs.a ≡ true → (x : Bool) → is_high m.regs.b ≡ x → Signed s turned 204
  from_turned s t j h e true f =
      let z = past_using p at entry (label_of base 3) first [] (negate C B ++ negate A B) after_negative t h in
      ahead 204 (one_jump_if p input s t turned taken output Ge (constant (at (label_of base 4))) B (constant (2 ^ 23)) true f j ∙ ap (λ z. moment z turned taken output) (ap front (mod-eq_of_lt z.1.1) ∙ sym z.1.0))
      (unmoved first 26 turned turned refl refl refl refl)
      (both z.0 [] z.1.2 e f)
      (omega arith)
  from_turned s t j h e false f =
      ahead 204 (one_jump_if p input s t turned taken output Ge (constant (at (label_of base 4))) B (constant (2 ^ 23)) false f j)
      (unmoved first 26 turned turned refl refl refl refl)
      (negative t after_negative h e f)
      (omega arith)

  from_negative : (s : Place) → Stands p at s (does (negate A C) (JumpWhere Ge (label_of base 4) B (constant (2 ^ 23)) ∷ using entry (label_of base 3) first [] (negate C B ++ negate A B) after_negative)) → is_high m.regs.a ≡ true → Signed s m 207
  from_negative s h e =
      let m1 : Machine = made (Mov C (register A)) m in
      let m2 : Machine = made (Mov A (constant 0)) m1 in
      ahead 207 (one_quiet p input s h.0 m taken output (Mov C (register A)) tt h.1)
      (unmoved first 26 m m1 refl refl refl refl)
      (ahead 206 (one_quiet p input h.0 h.2.0 m1 taken output (Mov A (constant 0)) tt h.2.1)
      (unmoved first 26 m1 m2 refl refl refl refl)
      (ahead 205 (one_quiet p input h.2.0 h.2.2.0 m2 taken output (Sub A (register C)) tt h.2.2.1)
      (unmoved first 26 m2 turned refl refl refl refl)
      (from_turned h.2.2.0 h.2.2.2.0 h.2.2.2.1 h.2.2.2.2 e (is_high m.regs.b) refl)
      (omega arith))
      (omega arith))
      (omega arith)

  pub signed_lands : (s : Place) → Stands p at s (signed_divide entry base first) → (x : Bool) → is_high m.regs.a ≡ x → Signed s m 208
  signed_lands s h true e =
      let z = past_using p at entry (label_of base 1) first (negate B C) (negate C B) after_other h.2.2.0 h.2.2.2.2 in
      ahead 208 (one_jump_if p input s h.0 m taken output Ge (constant (at (label_of base 2))) A (constant (2 ^ 23)) true e h.1 ∙ ap (λ z. moment z m taken output) (ap front (mod-eq_of_lt z.1.1) ∙ sym z.1.0))
      (unmoved first 26 m m refl refl refl refl)
      (from_negative z.0 z.1.2 e)
      (omega arith)
  signed_lands s h false e =
      ahead 208 (one_jump_if p input s h.0 m taken output Ge (constant (at (label_of base 2))) A (constant (2 ^ 23)) false e h.1)
      (unmoved first 26 m m refl refl refl refl)
      (from_positive h.0 h.2.0 h.2.1 h.2.2 e (is_high m.regs.b) refl)
      (omega arith)

pub signed_divides : SignedDivideLands
signed_divides p at entry base first s room small serves h = record {
  lands = λ input m taken output word_a word_b positive. subst (λ z. Lands p input first 26 s m taken output z 208 (IsSignedQuotient m.regs.a m.regs.b)) (sym (append-nil output)) (signed_lands p at entry base first room small serves input m taken output word_a word_b positive s h (is_high m.regs.a) refl);
}
