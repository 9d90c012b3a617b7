-- What stands in a frame that was opened, and what is left where it is closed.
use Rattle.std.proofs.Common.{◌≡◌, ℕ, suc, ◌+◌, ◌<◌, List, [], ◌∷◌, sym, ap, ◌∙◌, subst, arith}
use Rattle.eir_core.specs.Eir.{Eir}
use Rattle.eir_core.specs.Memory.{Memory, word_at, with_word}
use Rattle.eir_core.proofs.WordAt.{word_at-with_word_same, word_at-with_word_other}
use Rattle.eir_core.specs.declared.ops.Op.{Op}
use Rattle.c_eval.specs.State.{Value, Object}
use Rattle.c_place.specs.Place.{Place, Machine}
use Rattle.c_memory.specs.Lies.{Extent, Ground, Means, Lies, Post}
use Rattle.c_memory.proofs.Lying.{lies_over, post_over, post_then}
use Rattle.c_landing.specs.Landing.{LettersLie}
use Rattle.c_landing.proofs.Landing.{letters_later}
use Rattle.c_valued.specs.Calls.{WordsMean}
use Rattle.c_followed.specs.Framed.{OpensFrame}

-- words behind one that is written
words_over : (g : Ground) (bs : List Extent) (mem : Memory) (b v a : ℕ) (vs : List Value) → b < a → WordsMean g bs mem a vs → WordsMean g bs (with_word mem b v) a vs
words_over g bs mem b v a [] lt h = tt
words_over g bs mem b v a (x ∷ vs) lt h = (subst (λ z. Means g bs x z) (sym (word_at-with_word_other mem b v a (λ e. absurd (omega (arith, e, lt))))) h.0, words_over g bs mem b v (suc a) vs (omega (arith, lt)) h.1)

module _ (p : Eir) (input : List ℕ) (code : List Op) (s : Place) (m : Machine) (d e c : ℕ) (o : OpensFrame p input code s m d e c) where
  abbrev new : ℕ
  new = m.regs.bp + d

  pub word_back : word_at o.opened.memory o.opened.regs.bp ≡ o.back
  word_back = ap (word_at o.opened.memory) o.framed ∙ (ap (λ z. word_at z (m.regs.bp + d)) o.memory ∙ word_at-with_word_same m.memory (m.regs.bp + d) o.back)

  module _ (g : Ground) (bs : List Extent) (os : List Object) where
    pub lies_opened : Lies g bs os m.memory new → Lies g bs os o.opened.memory (o.opened.regs.bp + 0)
    lies_opened l = subst (λ z. Lies g bs os z (o.opened.regs.bp + 0)) (sym o.memory) (lies_over new o.back (o.opened.regs.bp + 0) l (omega arith) (omega (arith, o.framed)))

    pub letters_opened : LettersLie g bs os m.memory m.regs.bp → LettersLie g bs os o.opened.memory o.opened.regs.bp
    letters_opened h owner number text k x e f =
        let l = letters_later g bs bs os os m.memory (with_word m.memory new o.back) new m.regs.bp (omega arith) (post_over bs os m.memory new o.back (omega arith)) h owner number text k x e f in
        (ap (λ z. word_at z (g.literal owner number + k)) o.memory ∙ l.0, l.1, omega (arith, l.2, o.framed), l.3)

    pub arguments_opened : (vs : List Value) → WordsMean g bs m.memory (m.regs.bp + suc d) vs → WordsMean g bs o.opened.memory (o.opened.regs.bp + 1) vs
    arguments_opened vs h =
        let at : m.regs.bp + suc d ≡ o.opened.regs.bp + 1 = omega (arith, o.framed) in
        subst (λ z. WordsMean g bs z (o.opened.regs.bp + 1) vs) (sym o.memory) (subst (λ z. WordsMean g bs (with_word m.memory new o.back) z vs) at (words_over g bs m.memory new o.back (m.regs.bp + suc d) vs (omega arith) h))

    -- what lies below the frame is kept from before it was opened
    pub post_closed : (bs2 : List Extent) (os2 : List Object) (mem2 : Memory) → Post (o.opened.regs.bp + 0) bs os o.opened.memory bs2 os2 mem2 → Post new bs os m.memory bs2 os2 mem2
    post_closed bs2 os2 mem2 q =
        post_then {top0 = new} {top1 = o.opened.regs.bp + 0} (omega arith) (omega (arith, o.framed)) (post_over bs os m.memory new o.back (omega arith)) (subst (λ z. Post (o.opened.regs.bp + 0) bs os z bs2 os2 mem2) o.memory q)
