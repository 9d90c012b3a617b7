-- A signed number is written.
use Rattle.std.proofs.Common.{◌≡◌, ℕ, zero, suc, ◌-◌, ◌^◌, ◌<◌, ◌≤◌, Bool, true, false, nat_lt, List, [], ◌∷◌, ◌++◌, append_assoc, refl, sym, ap, ◌∙◌, subst, arith, mod-eq_of_lt}
use Rattle.std.specs.Prelude.{pos, neg_ℤ}
use Rattle.std.specs.Fmt.{digits, signed_decimal}
use Rattle.std.proofs.lemmas.Bool.{ltb-true, ltb-false}
use Rattle.word24.specs.Word.{signed_of}
use Rattle.eir_core.specs.declared.ops.Reg.TheVariants.{A, B}
use Rattle.eir_core.specs.declared.ops.Operand.TheVariants.{Reg as register}
use Rattle.eir_core.specs.declared.ops.Cond.TheVariants.{Lt}
use Rattle.eir_core.specs.declared.ops.Op.TheVariants.{Mov, Sub, Jump as Go}
use Rattle.eir_core.specs.Eir.{Eir}
use Rattle.c_place.specs.Place.{Place, Machine, front, moment, made}
use Rattle.c_routines.specs.Items.{Leads, Stands, constant, label_of}
use Rattle.c_routines.specs.Lands.{Lands, Serves}
use Rattle.c_routines.specs.Laws.{Any, DecimalLands}
use Rattle.c_routines.specs.Decimal.{decimal}
use Rattle.c_routines.proofs.Steps.{one_quiet, one_put, one_jump, one_jump_if, unmoved, ahead}

-- ---- the text of a signed number

pub low_is : (x : ℕ) → x < 2 ^ 23 → signed_of x ≡ pos x
low_is x a = grind (arith, a)

pub high_is : (x : ℕ) → 2 ^ 23 ≤ x → x < 2 ^ 24 → signed_of x ≡ neg_ℤ (pos (2 ^ 24 - x))
high_is x a b = grind (arith, a, b)

decimal_low : (n : ℕ) → n < 2 ^ 23 → signed_decimal (signed_of n) ≡ digits 10 false n
decimal_low n lt = ap signed_decimal (low_is n lt)

decimal_high : (n : ℕ) → 2 ^ 23 ≤ n → n < 2 ^ 24 → signed_decimal (signed_of n) ≡ 45 ∷ digits 10 false (2 ^ 24 - n)
decimal_high n le lt = ap signed_decimal (high_is n le lt) ∙ of_some (2 ^ 24 - n) (omega (arith, lt))
  where
    of_some : (m : ℕ) → 0 < m → signed_decimal (neg_ℤ (pos m)) ≡ 45 ∷ digits 10 false m
    of_some zero some = absurd (omega (arith, some))
    of_some (suc m) some = refl

module _ (p : Eir) (at : ℕ → ℕ) (entry base first : ℕ) (small : at entry < 2 ^ 24) (serves : Serves p first 0 (front (at entry)) Any (λ x y. digits 10 false x) (λ x y a c. Unit {0}) 283) (input : List ℕ) (taken : ℕ) where
  abbrev Writes : Place → Machine → List ℕ → List ℕ → ℕ → Type 0
  Writes s m before after most = Lands p input first 0 s m taken before after most (λ a c. Unit {0})

  -- on to the other routine
  goes_on : (s t : Place) (m : Machine) (before : List ℕ) → Leads p s (Go (constant (at entry))) t → m.regs.a < 2 ^ 24 → m.regs.b < 2 ^ 24 → Writes s m before (before ++ digits 10 false m.regs.a) 284
  goes_on s t m before h word_a word_b =
      ahead 284 (one_jump p input s t m taken before (constant (at entry)) h ∙ ap (λ z. moment (front z) m taken before) (mod-eq_of_lt small))
      (unmoved first 0 m m refl refl refl refl)
      (serves.lands input m taken before word_a word_b tt)
      (omega arith)

  pub decimal_lands : (s : Place) (m : Machine) (output : List ℕ) → Stands p at s (decimal entry base) → m.regs.a < 2 ^ 24 → m.regs.b < 2 ^ 24 → Writes s m output (output ++ signed_decimal (signed_of m.regs.a)) 289
  decimal_lands s m output h word_a word_b = go (nat_lt m.regs.a (2 ^ 23)) refl
    where
      go : (x : Bool) → nat_lt m.regs.a (2 ^ 23) ≡ x → Writes s m output (output ++ signed_decimal (signed_of m.regs.a)) 289
      go true e =
          subst (λ z. Writes s m output (output ++ z) 289) (sym (decimal_low m.regs.a (ltb-true m.regs.a (2 ^ 23) e)))
          (ahead 289 (one_jump_if p input s h.0 m taken output Lt (constant (at (label_of base 0))) A (constant (2 ^ 23)) true e h.1 ∙ ap (λ z. moment z m taken output) (ap front (mod-eq_of_lt h.2.2.2.2.2.1) ∙ sym h.2.2.2.2.2.0))
          (unmoved first 0 m m refl refl refl refl)
          (goes_on h.2.2.2.2.0 h.2.2.2.2.2.2.0 m output h.2.2.2.2.2.2.1 word_a word_b)
          (omega arith))
      go false e =
          let high : 2 ^ 23 ≤ m.regs.a = ltb-false m.regs.a (2 ^ 23) e in
          let m1 : Machine = made (Mov B (register A)) m in
          let m2 : Machine = made (Mov A (constant 0)) m1 in
          let m3 : Machine = made (Sub A (register B)) m2 in
          let minus : List ℕ = output ++ 45 ∷ [] in
          let a_now : m3.regs.a ≡ 2 ^ 24 - m.regs.a = omega (arith, high, word_a) in
          subst (λ z. Writes s m output (output ++ z) 289) (sym (decimal_high m.regs.a high word_a))
          (ahead 289 (one_jump_if p input s h.0 m taken output Lt (constant (at (label_of base 0))) A (constant (2 ^ 23)) false e h.1)
          (unmoved first 0 m m refl refl refl refl)
          (ahead 288 (one_put p input h.0 h.2.0 m taken output (constant 45) h.2.1)
          (unmoved first 0 m m refl refl refl refl)
          (ahead 287 (one_quiet p input h.2.0 h.2.2.0 m taken minus (Mov B (register A)) tt h.2.2.1)
          (unmoved first 0 m m1 refl refl refl refl)
          (ahead 286 (one_quiet p input h.2.2.0 h.2.2.2.0 m1 taken minus (Mov A (constant 0)) tt h.2.2.2.1)
          (unmoved first 0 m1 m2 refl refl refl refl)
          (ahead 285 (one_quiet p input h.2.2.2.0 h.2.2.2.2.0 m2 taken minus (Sub A (register B)) tt h.2.2.2.2.1)
          (unmoved first 0 m2 m3 refl refl refl refl)
          (subst (λ z. Writes h.2.2.2.2.0 m3 minus z 284) (ap (λ z. minus ++ digits 10 false z) a_now ∙ append_assoc output (45 ∷ []) (digits 10 false (2 ^ 24 - m.regs.a)))
          (goes_on h.2.2.2.2.0 h.2.2.2.2.2.2.0 m3 minus h.2.2.2.2.2.2.1 (omega (arith, a_now, high)) word_a))
          (omega arith))
          (omega arith))
          (omega arith))
          (omega arith))
          (omega arith))

pub decimals : DecimalLands
decimals p at entry base first s small serves h = record { lands = λ input m taken output word_a word_b needs. decimal_lands p at entry base first small serves input taken s m output h word_a word_b }
