-- An arm for each digit.
use Rattle.std.proofs.Common.{◌≡◌, ◌≢◌, ℕ, zero, suc, ◌+◌, ◌-◌, ◌*◌, ◌<◌, ◌≤◌, List, [], ◌∷◌, ◌++◌, refl, sym, ap, ◌∙◌, arith}
use Rattle.bf_lang.specs.declared.command.Command.{Command}
use Rattle.bf_lang.specs.declared.command.Command.TheVariants.{Plus, Minus}
use Rattle.bf_lang.specs.Balance.{IsBalanced}
use Rattle.bf_lang.proofs.Partners.{balanced_append, balanced_loop}
use Rattle.bf_tape.specs.Tape.{Tape, get, put}
use Rattle.bf_tape.specs.Does.{Does, loop}
use Rattle.bf_tape.specs.Code.{goto_code}
use Rattle.bf_tape.specs.Slots.{holding, AreApart}
use Rattle.bf_tape.proofs.Slotted.{get_held, held}
use Rattle.bf_tape.proofs.Moves.{does_loop, does_within}
use Rattle.bf_tape.proofs.Pieces.{does_goto, counted, minus_at, plus_at, balanced_goto}
use Rattle.bf_columns.specs.Fork.{arm_code, arms_code, fork_code, AllBalanced, ArmDoes, Chosen, ForksChoose}
use Rattle.bf_columns.proofs.Tapes.{next, comes_to, goes_from, put_is}
use Rattle.bf_columns.proofs.Moved.{once, skipped}

module _ (input : List ℕ) (s t : Tape) (z f most : ℕ) (differ : z ≢ f) (near : (z - f) + (f - z) ≤ 10) (z_none : get s z ≡ 0) (f_none : get s f ≡ 0) where
  abbrev ns : List ℕ
  ns = z ∷ f ∷ []

  apart : AreApart ns
  apart = ((differ, tt), (tt, tt))

  -- the digit and the flag
  abbrev both : ℕ → ℕ → Tape
  both d g = holding s ns (d ∷ g ∷ [])

  none_is : both 0 0 ≡ s
  none_is = (λ i. both (sym z_none i) (sym f_none i)) ∙ held s ns

  z_is : (d g : ℕ) → get (both d g) z ≡ d
  z_is d g = get_held s ns (d ∷ g ∷ []) 0 apart (omega arith) refl

  f_is : (d g : ℕ) → get (both d g) f ≡ g
  f_is d g = get_held s ns (d ∷ g ∷ []) 1 apart (omega arith) refl

  to_f : (u : Tape) → Does input (goto_code z f) z u f u 10
  to_f u = does_goto input z f u 10 (omega arith)

  to_z : (u : Tape) → Does input (goto_code f z) f u z u 10
  to_z u = does_goto input f z u 10 (omega arith)

  down : (d g : ℕ) → Does input (Minus ∷ []) z (both (suc d) g) z (both d g) 1
  down d g = minus_at input s ns apart (suc d ∷ g ∷ []) 0 (omega arith) refl

  lower : (d : ℕ) → Does input (Minus ∷ []) f (both d 1) f (both d 0) 1
  lower d = minus_at input s ns apart (d ∷ 1 ∷ []) 1 (omega arith) refl

  balanced_arm : (arm : List Command) → IsBalanced arm → IsBalanced (Minus ∷ arm)
  balanced_arm arm b = balanced_append (Minus ∷ []) arm refl b

  balanced_tail : (arm : List Command) → IsBalanced arm → IsBalanced (goto_code z f ++ arm_code arm ++ goto_code f z)
  balanced_tail arm b = balanced_append (goto_code z f ++ arm_code arm) (goto_code f z) (balanced_append (goto_code z f) (arm_code arm) (balanced_goto z f) (balanced_loop (Minus ∷ arm) (balanced_arm arm b))) (balanced_goto f z)

  balanced_arms : (n : ℕ) (arms : List (List Command)) → AllBalanced arms → IsBalanced (arms_code z f n arms)
  balanced_arms n [] b =
      balanced_append (goto_code z f ++ (Minus ∷ []) ++ goto_code f z) (loop (Minus ∷ []))
      (balanced_append (goto_code z f ++ (Minus ∷ [])) (goto_code f z) (balanced_append (goto_code z f) (Minus ∷ []) (balanced_goto z f) refl) (balanced_goto f z)) refl
  balanced_arms zero (arm ∷ arms) b = balanced_tail arm b.0
  balanced_arms (suc n) (arm ∷ arms) b =
      balanced_append (loop (Minus ∷ arms_code z f n arms) ++ goto_code z f ++ arm_code arm) (goto_code f z)
      (balanced_append (loop (Minus ∷ arms_code z f n arms) ++ goto_code z f) (arm_code arm)
      (balanced_append (loop (Minus ∷ arms_code z f n arms)) (goto_code z f) (balanced_loop (Minus ∷ arms_code z f n arms) (balanced_append (Minus ∷ []) (arms_code z f n arms) refl (balanced_arms n arms b.1))) (balanced_goto z f))
      (balanced_loop (Minus ∷ arm) (balanced_arm arm b.0))) (balanced_goto f z)

  -- an arm that is meant, and one that isn't
  taken : (arm : List Command) → ArmDoes input arm z f s t most → Does input (arm_code arm) f (both 0 1) f t (most + 3)
  taken arm a =
      does_within (most + 3) (once (λ e. absurd (omega (arith, f_is 0 1, e))) (next (comes_to s (lower 0) none_is) a.does) a.flag) (omega arith)

  passed : (arm : List Command) → IsBalanced arm → get t f ≡ 0 → Does input (arm_code arm) f t f t 1
  passed arm b off = skipped (Minus ∷ arm) (balanced_arm arm b) off

  -- afterwards both are 0
  after : (d : ℕ) (arms : List (List Command)) → Chosen input arms d z f s t most → (get t z ≡ 0) × (get t f ≡ 0)
  after d [] same = (ap (λ u. get u z) same ∙ z_none, ap (λ u. get u f) same ∙ f_none)
  after zero (arm ∷ arms) a = (a.digit, a.flag)
  after (suc d) (arm ∷ arms) a = after d arms a

  chosen : (n d : ℕ) (arms : List (List Command)) → d ≤ n → n < 4 → AllBalanced arms → Chosen input arms d z f s t most → Does input (arms_code z f n arms) z (both d 1) z t (most + 40 + n * 30)
  chosen n d [] le ln b same =
      let clear : Does input (loop (Minus ∷ [])) z (both d 0) z (both 0 0) (d * 2 + 1) =
      does_within (d * 2 + 1) (does_loop refl (counted input (Minus ∷ []) z 1 d (λ k. both k 0) (λ k. z_is k 0) (λ k lt. down k 0) d (omega arith))) (omega arith) in
      does_within (most + 40 + n * 30) (comes_to t (next (next (next (to_f (both d 1)) (lower d)) (to_z (both d 0))) clear) (none_is ∙ sym same)) (omega arith)
  chosen zero zero (arm ∷ arms) le ln b a =
      does_within (most + 40 + 0 * 30) (next (next (to_f (both 0 1)) (taken arm a)) (to_z t)) (omega arith)
  chosen zero (suc d) (arm ∷ arms) le ln b a = absurd (omega arith)
  chosen (suc n) zero (arm ∷ arms) le ln b a =
      let skip : Does input (loop (Minus ∷ arms_code z f n arms)) z (both 0 1) z (both 0 1) 1 =
      skipped (Minus ∷ arms_code z f n arms) (balanced_append (Minus ∷ []) (arms_code z f n arms) refl (balanced_arms n arms b.1)) (z_is 0 1) in
      does_within (most + 40 + suc n * 30) (next (next (next skip (to_f (both 0 1))) (taken arm a)) (to_z t)) (omega arith)
  chosen (suc n) (suc d) (arm ∷ arms) le ln b a =
      let ends = after d arms a in
      let inner : Does input (loop (Minus ∷ arms_code z f n arms)) z (both (suc d) 1) z t (1 + (most + 40 + n * 30) + 2) =
      once (λ e. absurd (omega (arith, z_is (suc d) 1, e))) (next (down d 1) (chosen n d arms (omega arith) (omega arith) b.1 a)) ends.0 in
      does_within (most + 40 + suc n * 30) (next (next (next inner (to_f t)) (passed arm b.0 ends.1)) (to_z t)) (omega arith)

  pub fork_done : (d : ℕ) (arm : List Command) (arms : List (List Command)) → d < 4 → IsBalanced arm → AllBalanced arms → Chosen input (arm ∷ arms) d z f s t most → Does input (fork_code z f arm arms) f (put s z d) f t (most + 200)
  fork_done d arm arms ld b bs a =
      let start : both d 0 ≡ put s z d = ap (λ u. put u z d) (put_is s f 0 f_none) in
      let raise : Does input (Plus ∷ []) f (both d 0) f (both d 1) 1 = plus_at input s ns apart (d ∷ 0 ∷ []) 1 (omega arith) refl in
      goes_from (put s z d) (by_digit d ld a (next raise (to_z (both d 1)))) start
    where
      by_digit : (d : ℕ) → d < 4 → Chosen input (arm ∷ arms) d z f s t most → Does input ((Plus ∷ []) ++ goto_code f z) f (both d 0) z (both d 1) (1 + 10) → Does input (fork_code z f arm arms) f (both d 0) f t (most + 200)
      by_digit zero ld a first =
          let skip : Does input (loop (Minus ∷ arms_code z f 2 arms)) z (both 0 1) z (both 0 1) 1 =
          skipped (Minus ∷ arms_code z f 2 arms) (balanced_append (Minus ∷ []) (arms_code z f 2 arms) refl (balanced_arms 2 arms bs)) (z_is 0 1) in
          does_within (most + 200) (next (next (next first skip) (to_f (both 0 1))) (taken arm a)) (omega arith)
      by_digit (suc d) ld a first =
          let ends = after d arms a in
          let inner : Does input (loop (Minus ∷ arms_code z f 2 arms)) z (both (suc d) 1) z t (1 + (most + 40 + 2 * 30) + 2) =
          once (λ e. absurd (omega (arith, z_is (suc d) 1, e))) (next (down d 1) (chosen 2 d arms (omega arith) (omega arith) bs a)) ends.0 in
          does_within (most + 200) (next (next (next first inner) (to_f t)) (passed arm b ends.1)) (omega arith)

pub forks_choose : ForksChoose
forks_choose input s t z f d most arm arms differ near ld b bs z_none f_none a = fork_done input s t z f most differ near z_none f_none d arm arms ld b bs a
