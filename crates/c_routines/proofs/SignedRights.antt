-- The shift to the right with sign.
use Rattle.std.proofs.Common.{◌≡◌, ℕ, ◌+◌, ◌-◌, ◌/◌, ◌^◌, ◌<◌, ◌≤◌, Bool, true, false, List, [], append-nil, refl, sym, ap, ◌∙◌, subst, arith, mod-eq_of_lt}
use Rattle.std.proofs.Math.Nat.{div-le_self}
use Rattle.word24.specs.Word.{is_high, difference_word}
use Rattle.eir_core.specs.declared.ops.Reg.TheVariants.{A}
use Rattle.eir_core.specs.declared.ops.Cond.TheVariants.{Ge}
use Rattle.eir_core.specs.Eir.{Eir}
use Rattle.c_place.specs.Place.{Place, Machine, front, moment}
use Rattle.c_routines.specs.Items.{Stands, constant, label_of}
use Rattle.c_routines.specs.Lands.{Lands, Serves}
use Rattle.c_routines.specs.Laws.{nothing, Gives, SignedRightLands}
use Rattle.c_routines.specs.SignedRight.{turned, signed_right, shifted_with_sign, signed_shift}
use Rattle.c_routines.proofs.Steps.{kept_all, one_jump, one_jump_if, unmoved, ahead}
use Rattle.c_routines.proofs.Using.{kept_more, used}

-- what a word lacks to 2^24 - 1
lack : (x : ℕ) → x < 2 ^ 24 → difference_word 16777215 x ≡ 2 ^ 24 - 1 - x
lack x lt = omega (arith, lt)

lack_small : (x : ℕ) → x < 2 ^ 24 → difference_word 16777215 x < 2 ^ 24
lack_small x lt = omega (arith, lt)

turned_back : (x y : ℕ) → x < 2 ^ 24 → difference_word 16777215 (difference_word 16777215 x / 2 ^ y) ≡ 2 ^ 24 - 1 - (2 ^ 24 - 1 - x) / 2 ^ y
turned_back x y lt =
    ap (λ z. difference_word 16777215 (z / 2 ^ y)) (lack x lt)
    ∙ lack ((2 ^ 24 - 1 - x) / 2 ^ y) (omega (arith, div-le_self (2 ^ 24 - 1 - x) (2 ^ y), lt))

module _ (p : Eir) (at : ℕ → ℕ) (entry base first : ℕ) (room : first + 26 ≤ 2 ^ 24) (small : at entry < 2 ^ 24) (serves : Serves p first 0 (front (at entry)) (λ x y. y ≤ 23) nothing (Gives (λ x y. x / 2 ^ y)) 101) (input : List ℕ) (m : Machine) (taken : ℕ) (output : List ℕ) (word_a : m.regs.a < 2 ^ 24) (word_b : m.regs.b < 2 ^ 24) (few : m.regs.b ≤ 23) where
  abbrev Shifted : Place → ℕ → Type 0
  Shifted s most = Lands p input first 26 s m taken output output most (λ a c. a ≡ signed_shift m.regs.a m.regs.b)

  said : (a : ℕ) (t : Bool) → is_high m.regs.a ≡ t → a ≡ shifted_with_sign t m.regs.a m.regs.b → a ≡ signed_shift m.regs.a m.regs.b
  said a t e is = is ∙ sym (ap (λ z. shifted_with_sign z m.regs.a m.regs.b) e)

  pub signed_lands : (s : Place) → Stands p at s (signed_right entry base first) → (x : Bool) → is_high m.regs.a ≡ x → Shifted s 113
  signed_lands s h false e =
      let l = serves.lands input m taken output word_a word_b few in
      ahead 113 (one_jump_if p input s h.0 m taken output Ge (constant (at (label_of base 0))) A (constant (2 ^ 23)) false e h.1)
      (unmoved first 26 m m refl refl refl refl)
      (ahead 102 (one_jump p input h.0 h.2.0 m taken output (constant (at entry)) h.2.1 ∙ ap (λ z. moment (front z) m taken output) (mod-eq_of_lt small))
      (unmoved first 26 m m refl refl refl refl)
      (subst (λ z. Lands p input first 26 (front (at entry)) m taken output z 101 (λ a c. a ≡ signed_shift m.regs.a m.regs.b)) (append-nil output) (record {
        regs = l.regs;
        memory = l.memory;
        comes = l.comes;
        d = l.d;
        sp = l.sp;
        bp = l.bp;
        kept = kept_more {first = first} {words = 0} {more = 26} (omega arith) l.kept;
        result = said l.regs.a false e l.result;
      }))
      (omega arith))
      (omega arith)
  signed_lands s h true e =
      ahead 113 (one_jump_if p input s h.0 m taken output Ge (constant (at (label_of base 0))) A (constant (2 ^ 23)) true e h.1 ∙ ap (λ z. moment z m taken output) (ap front (mod-eq_of_lt h.2.2.1) ∙ sym h.2.2.0))
      (unmoved first 26 m m refl refl refl refl)
      (used p at input taken output first 0 entry (label_of base 1) 101 (λ x y. y ≤ 23) (Gives (λ x y. x / 2 ^ y)) (λ a c. a ≡ signed_shift m.regs.a m.regs.b) turned turned [] h.2.0 m room small (omega arith) serves (tt, (tt, (tt, tt))) (tt, (tt, (tt, tt))) h.2.2.2
      (lack_small m.regs.a word_a) word_b few
      (record {
        d = refl;
        sp = refl;
        bp = refl;
        memory = kept_all first 26 m.memory;
        d_after = λ n. refl;
        bp_after = λ n. refl;
        memory_after = λ n. refl;
        result = λ n w q. said (difference_word 16777215 n.regs.a) true e (ap (difference_word 16777215) q ∙ turned_back m.regs.a m.regs.b word_a);
      }))
      (omega arith)

pub signed_rights : SignedRightLands
signed_rights p at entry base first s room small serves h = record {
  lands = λ input m taken output word_a word_b few. subst (λ z. Lands p input first 26 s m taken output z 113 (λ a c. a ≡ signed_shift m.regs.a m.regs.b)) (sym (append-nil output)) (signed_lands p at entry base first room small serves input m taken output word_a word_b few s h (is_high m.regs.a) refl);
}
