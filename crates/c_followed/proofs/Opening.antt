-- The code of calls opens frames.
use Rattle.std.proofs.Common.{◌≡◌, ℕ, suc, ◌+◌, ◌%◌, ◌^◌, ◌<◌, List, [], ◌∷◌, refl, sym, ap, ◌∙◌, subst, arith}
use Rattle.mach_core.specs.Rule.{applied}
use Rattle.word24.specs.Word.{sum_word, difference_word}
use Rattle.eir_core.specs.Eir.{Eir}
use Rattle.eir_core.specs.Memory.{word_at, with_word}
use Rattle.eir_core.specs.Step.{eir_rule}
use Rattle.eir_core.specs.declared.ops.Reg.TheVariants.{A, B, BP}
use Rattle.eir_core.specs.declared.ops.Operand.TheVariants.{Reg as register}
use Rattle.eir_core.specs.declared.ops.Op.{Op}
use Rattle.eir_core.specs.declared.ops.Op.TheVariants.{Mov, Add, Sub, Load, Store}
use Rattle.c_eval.specs.State.{State}
use Rattle.c_place.specs.Place.{Place, front, behind, behind_all, Has, Stands, Machine, made_all}
use Rattle.c_place.proofs.Running.{one_quiet, one_jump}
use Rattle.c_lowered.specs.Operations.{constant, call_at, call_through_at}
use Rattle.c_memory.specs.Follows.{Fuel, Mode, here, Comes}
use Rattle.c_memory.proofs.Following.{comes_one, comes_quiet, comes_then}
use Rattle.c_followed.specs.Framed.{OpensFrame}

-- with another frame
abbrev based : Machine → ℕ → Machine
based m bp = record m { regs = record m.regs { bp = bp } }

-- with the block to return to in its first word
abbrev entered : Machine → (b bp back : ℕ) → Machine
entered m b bp back = record { regs = record m.regs { a = back; b = b; bp = bp }; memory = with_word m.memory bp back }

module _ (p : Eir) (input : List ℕ) (s : Place) (m : Machine) (d : ℕ) (small : m.regs.bp + d < 2 ^ 24) where
  moved_step : (st : State) → Has p s (Add BP (constant d)) → applied (eir_rule p) input (here s m st) ≡ here (behind s (Add BP (constant d))) (based m (m.regs.bp + d)) st
  moved_step st h =
      let moved : sum_word m.regs.bp (d % 2 ^ 24) ≡ m.regs.bp + d = omega (arith, small) in
      one_quiet p input s m st.taken st.output (Add BP (constant d)) tt h ∙ ap (λ z. here (behind s (Add BP (constant d))) (based m z) st) moved

  back_comes : (mode : Mode) (back : ℕ) (m1 : Machine) (st : State) (x : Fuel) → back ≡ suc s.block → Has p (front (suc s.block)) (Sub BP (constant d)) → m1.regs.bp ≡ m.regs.bp + d → Comes p input mode (here (front back) m1 st) x 1 (here (behind (front (suc s.block)) (Sub BP (constant d))) (based m1 m.regs.bp) st) x
  back_comes mode back m1 st x is h framed =
      let place = behind (front (suc s.block)) (Sub BP (constant d)) in
      let home : difference_word m1.regs.bp (d % 2 ^ 24) ≡ m.regs.bp = omega (arith, framed, small) in
      let step : applied (eir_rule p) input (here (front (suc s.block)) m1 st) ≡ here place (based m1 m.regs.bp) st = one_quiet p input (front (suc s.block)) m1 st.taken st.output (Sub BP (constant d)) tt h ∙ ap (λ z. here place (based m1 z) st) home in
      subst (λ z. Comes p input mode (here (front z) m1 st) x 1 (here place (based m1 m.regs.bp) st) x) (sym is) (comes_one p input mode x step)

  -- a call of a function by its first block
  pub direct_opens : (back e target : ℕ) → back ≡ suc s.block → back < 2 ^ 24 → e ≡ target → target < 2 ^ 24 → Stands p s (call_at d back e) → OpensFrame p input (call_at d back e) s m d target 3
  direct_opens back e target is lt same far h =
      let p1 = behind s (Add BP (constant d)) in
      let moved = based m (m.regs.bp + d) in
      let ops : List Op = Mov A (constant back) ∷ Store A (register BP) ∷ [] in
      let p3 = behind_all p1 ops in
      let opened = entered m m.regs.b (m.regs.bp + d) back in
      let whole : back % 2 ^ 24 ≡ back = omega (arith, lt) in
      let aim : e % 2 ^ 24 ≡ target = omega (arith, same, far) in
      let made : made_all ops moved ≡ opened = ap (entered m m.regs.b (m.regs.bp + d)) whole in
      record {
        back = back;
        next = p1;
        moved = moved;
        opened = opened;
        framed = refl;
        memory = refl;
        step = λ st. moved_step st h.0;
        rest = λ mode st x.
            (let P : Machine → Type 0 = λ z. Comes p input mode (here p1 moved st) x 2 (here p3 z st) x in
            comes_then p input mode 2 1 3 (subst P made (comes_quiet p input mode p1 moved st ops x (tt, (tt, tt)) (h.1.0, (h.1.1.0, tt))))
            (comes_one p input mode x (one_jump p input p3 opened st.taken st.output (constant e) h.1.1.1.0 ∙ ap (λ z. here (front z) opened st) aim)) (omega arith));
        closed = λ mode m1 st x framed. back_comes mode back m1 st x is h.1.1.1.1.0 framed;
      }

  -- and through a pointer that waits in the new frame's first word
  pub through_opens : (back target : ℕ) → back ≡ suc s.block → back < 2 ^ 24 → word_at m.memory (m.regs.bp + d) ≡ target → Stands p s (call_through_at d back) → OpensFrame p input (call_through_at d back) s m d target 4
  through_opens back target is lt aim h =
      let p1 = behind s (Add BP (constant d)) in
      let moved = based m (m.regs.bp + d) in
      let ops : List Op = Load B (register BP) ∷ Mov A (constant back) ∷ Store A (register BP) ∷ [] in
      let p4 = behind_all p1 ops in
      let word = word_at m.memory (m.regs.bp + d) in
      let opened = entered m word (m.regs.bp + d) back in
      let whole : back % 2 ^ 24 ≡ back = omega (arith, lt) in
      let made : made_all ops moved ≡ opened = ap (entered m word (m.regs.bp + d)) whole in
      record {
        back = back;
        next = p1;
        moved = moved;
        opened = opened;
        framed = refl;
        memory = refl;
        step = λ st. moved_step st h.0;
        rest = λ mode st x.
            (let P : Machine → Type 0 = λ z. Comes p input mode (here p1 moved st) x 3 (here p4 z st) x in
            comes_then p input mode 3 1 4 (subst P made (comes_quiet p input mode p1 moved st ops x (tt, (tt, (tt, tt))) (h.1.0, (h.1.1.0, (h.1.1.1.0, tt)))))
            (comes_one p input mode x (one_jump p input p4 opened st.taken st.output (register B) h.1.1.1.1.0 ∙ ap (λ z. here (front z) opened st) aim)) (omega arith));
        closed = λ mode m1 st x framed. back_comes mode back m1 st x is h.1.1.1.1.1.0 framed;
      }
