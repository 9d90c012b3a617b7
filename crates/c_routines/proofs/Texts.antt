-- A text is written, character by character.
use Rattle.std.proofs.Common.{◌≡◌, ◌≢◌, ℕ, ◌+◌, ◌*◌, ◌%◌, ◌^◌, ◌<◌, true, false, List, [], ◌∷◌, ◌++◌, length, append-nil, append_assoc, refl, sym, ap, ◌∙◌, subst, arith, mod-eq_of_lt}
use Rattle.std.proofs.lemmas.Bool.{eq-eqb, ne_eqb}
use Rattle.mach_core.specs.Rule.{run_from}
use Rattle.mach_core.specs.Reaches.{Reaches}
use Rattle.mach_core.proofs.Reaching.{and_then, one_step}
use Rattle.eir_core.specs.declared.ops.Reg.TheVariants.{A, B, SP}
use Rattle.eir_core.specs.declared.ops.Operand.TheVariants.{Reg as register}
use Rattle.eir_core.specs.declared.ops.Cond.TheVariants.{Eq}
use Rattle.eir_core.specs.declared.ops.Op.TheVariants.{Load, Add}
use Rattle.eir_core.specs.Eir.{Eir}
use Rattle.eir_core.specs.Memory.{word_at}
use Rattle.eir_core.specs.Step.{eir_rule}
use Rattle.c_place.specs.Place.{Place, Machine, front, moment, made}
use Rattle.c_routines.specs.Items.{Stands, constant, label_of}
use Rattle.c_routines.specs.Lands.{Lands}
use Rattle.c_routines.specs.Laws.{TextLands}
use Rattle.c_routines.specs.Text.{text, HasText, bytes_of, past}
use Rattle.c_routines.proofs.Steps.{sum_is, one_quiet, one_put, one_jump, one_jump_if, unmoved, kept_all, ahead}

module _ (p : Eir) (at : ℕ → ℕ) (base : ℕ) (s : Place) (h : Stands p at s (text base)) (input : List ℕ) (taken : ℕ) where
  -- the word at the address in A is in B
  abbrev loaded : Machine → Machine
  loaded m = made (Load B (register A)) m

  here : (m : Machine) (output : List ℕ) → Reaches (eir_rule p) input (moment s m taken output) (moment h.2.0 (loaded m) taken output) 1 1
  here m output = one_step (eir_rule p) input (moment s m taken output) (moment h.2.0 (loaded m) taken output) (one_quiet p input s h.2.0 m taken output (Load B (register A)) tt h.2.1)

  five : (m : Machine) (output : List ℕ) → m.regs.a + 1 < 2 ^ 24 → word_at m.memory m.regs.a ≢ 0 → Reaches (eir_rule p) input (moment s m taken output) (moment s (past m) taken (output ++ word_at m.memory m.regs.a % 2 ^ 8 ∷ [])) 5 5
  five m output lt some =
      let w : ℕ = word_at m.memory m.regs.a in
      let m1 : Machine = loaded m in
      let m2 : Machine = made (Add A (constant 1)) m1 in
      let out : List ℕ = output ++ w % 2 ^ 8 ∷ [] in
      let a_now : m2.regs.a ≡ m.regs.a + 1 = sum_is m.regs.a 1 lt in
      let there : m2 ≡ past m = ap (λ z. record { regs = record { a = z; b = w; c = m.regs.c; d = m.regs.d; sp = m.regs.sp; bp = m.regs.bp }; memory = m.memory }) a_now in
      let x1 = here m output in
      let x2 = and_then 2 2 x1 (one_step (eir_rule p) input (moment h.2.0 m1 taken output) (moment h.2.2.0 m1 taken output) (one_jump_if p input h.2.0 h.2.2.0 m1 taken output Eq (constant (at (label_of base 1))) B (constant 0) false (ne_eqb w 0 some) h.2.2.1)) (omega arith) (omega arith) in
      let x3 = and_then 3 3 x2 (one_step (eir_rule p) input (moment h.2.2.0 m1 taken output) (moment h.2.2.2.0 m1 taken out) (one_put p input h.2.2.0 h.2.2.2.0 m1 taken output (register B) h.2.2.2.1)) (omega arith) (omega arith) in
      let x4 = and_then 4 4 x3 (one_step (eir_rule p) input (moment h.2.2.2.0 m1 taken out) (moment h.2.2.2.2.0 m2 taken out) (one_quiet p input h.2.2.2.0 h.2.2.2.2.0 m1 taken out (Add A (constant 1)) tt h.2.2.2.2.1)) (omega arith) (omega arith) in
      and_then 5 5 x4 (one_step (eir_rule p) input (moment h.2.2.2.2.0 m2 taken out) (moment s (past m) taken out)
      (one_jump p input h.2.2.2.2.0 h.2.2.2.2.2.0 m2 taken out (constant (at (label_of base 0))) h.2.2.2.2.2.1 ∙ (ap (λ z. moment z m2 taken out) (ap front (mod-eq_of_lt h.1) ∙ sym h.0) ∙ ap (λ z. moment s z taken out) there))) (omega arith) (omega arith)

  turns : (m : Machine) (output : List ℕ) → m.regs.a + 1 < 2 ^ 24 → word_at m.memory m.regs.a ≢ 0 → run_from (eir_rule p) input (moment s m taken output) 5 ≡ moment s (past m) taken (output ++ word_at m.memory m.regs.a % 2 ^ 8 ∷ [])
  turns m output lt some =
      let r = five m output lt some in
      let count : r.count ≡ 5 = omega (arith, r.enough, r.few) in
      subst (λ n. run_from (eir_rule p) input (moment s m taken output) n ≡ moment s (past m) taken (output ++ word_at m.memory m.regs.a % 2 ^ 8 ∷ [])) count r.ends

  ends : (m : Machine) (output : List ℕ) → word_at m.memory m.regs.a ≡ 0 → Lands p input 0 0 s m taken output output 3 (λ a c. a ≡ m.regs.a)
  ends m output none =
      let m1 : Machine = loaded m in
      ahead 3 (one_quiet p input s h.2.0 m taken output (Load B (register A)) tt h.2.1)
      (unmoved 0 0 m m1 refl refl refl refl)
      (ahead 2 (one_jump_if p input h.2.0 h.2.2.0 m1 taken output Eq (constant (at (label_of base 1))) B (constant 0) true (eq-eqb (word_at m.memory m.regs.a) 0 none) h.2.2.1 ∙ ap (λ z. moment z m1 taken output) (ap front (mod-eq_of_lt h.2.2.2.2.2.2.1) ∙ sym h.2.2.2.2.2.2.0))
      (unmoved 0 0 m1 m1 refl refl refl refl)
      (record {
        regs = m1.regs;
        memory = m1.memory;
        comes = one_step (eir_rule p) input (moment h.2.2.2.2.2.0 m1 taken output) (moment (front m1.regs.sp) m1 taken output) (one_jump p input h.2.2.2.2.2.0 h.2.2.2.2.2.2.2.0 m1 taken output (register SP) h.2.2.2.2.2.2.2.1);
        d = refl;
        sp = refl;
        bp = refl;
        kept = kept_all 0 0 m1.memory;
        result = refl;
      })
      (omega arith))
      (omega arith)

  whole : (words : List ℕ) (m : Machine) (output : List ℕ) → HasText m.memory m.regs.a words → Lands p input 0 0 s m taken output (output ++ bytes_of words) (5 * length words + 3) (λ a c. a ≡ m.regs.a + length words)
  whole [] m output t =
      let l = ends m output t.1 in
      subst (λ z. Lands p input 0 0 s m taken output z 3 (λ a c. a ≡ m.regs.a + 0)) (sym (append-nil output)) (record { regs = l.regs; memory = l.memory; comes = l.comes; d = l.d; sp = l.sp; bp = l.bp; kept = l.kept; result = omega (arith, l.result) })
  whole (word ∷ words) m output t =
      let some : word_at m.memory m.regs.a ≢ 0 = λ e. t.2 (sym t.1 ∙ e) in
      let lt : m.regs.a + 1 < 2 ^ 24 = next words t.3 in
      let byte : word_at m.memory m.regs.a % 2 ^ 8 ≡ word % 2 ^ 8 = ap (λ z. z % 2 ^ 8) t.1 in
      let l = whole words (past m) (output ++ word_at m.memory m.regs.a % 2 ^ 8 ∷ []) t.3 in
      let out : (output ++ word_at m.memory m.regs.a % 2 ^ 8 ∷ []) ++ bytes_of words ≡ output ++ bytes_of (word ∷ words) = append_assoc output (word_at m.memory m.regs.a % 2 ^ 8 ∷ []) (bytes_of words) ∙ ap (λ z. output ++ z ∷ bytes_of words) byte in
      subst (λ z. Lands p input 0 0 s m taken output z (5 * length (word ∷ words) + 3) (λ a c. a ≡ m.regs.a + length (word ∷ words))) out
      (record {
        regs = l.regs;
        memory = l.memory;
        comes = and_then 1 (5 * length (word ∷ words) + 3) (five m output lt some) l.comes (omega arith) (omega arith);
        d = l.d;
        sp = l.sp;
        bp = l.bp;
        kept = l.kept;
        result = omega (arith, l.result);
      })
    where
      next : (words : List ℕ) → HasText m.memory (m.regs.a + 1) words → m.regs.a + 1 < 2 ^ 24
      next [] t = t.0
      next (x ∷ xs) t = t.0

pub texts : TextLands
texts p at base s h = record {
  turn = λ input m taken output lt some. turns p at base s h input taken m output lt some;
  end = λ input m taken output none. ends p at base s h input taken m output none;
  whole = λ input m taken output words t. whole p at base s h input taken words m output t;
}
