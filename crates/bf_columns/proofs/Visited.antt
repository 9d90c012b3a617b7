-- Loops over columns.
use Rattle.std.proofs.Common.{◌≡◌, ◌≢◌, ℕ, zero, suc, ◌+◌, ◌*◌, ◌<◌, List, ◌++◌, refl, sym, ap, subst, ◌∙◌, arith}
use Rattle.std.proofs.Math.Nat.{suc-mul}
use Rattle.bf_lang.specs.declared.command.Command.{Command}
use Rattle.bf_lang.proofs.Partners.{balanced_append}
use Rattle.bf_tape.specs.Tape.{Tape, get}
use Rattle.bf_tape.specs.Does.{Does, Strides, loop}
use Rattle.bf_tape.specs.Does.Strides.{Stand, Stride}
use Rattle.bf_tape.proofs.Moves.{does_strides, does_within}
use Rattle.bf_tape.proofs.Pieces.{does_rights, does_lefts}
use Rattle.bf_columns.specs.Columns.{right10, left10, leftwards_code, guide, Columns, ColumnsAreDone, GuidesLeadHome}
use Rattle.bf_columns.proofs.Tapes.{next, between}

module _ (input : List ℕ) (body : List Command) (stop n most : ℕ) (at : ℕ → Tape) (columns : Columns input body stop n most at) where
  -- with so many columns to go
  strides : (k j : ℕ) → j + k ≡ n → Strides input (body ++ left10) (stop + 10 * k) (at j) stop (at n) (k * (most + 11))
  strides zero j e =
      let f : j ≡ n = omega arith in
      let g : stop ≡ stop + 10 * 0 = omega arith in
      let h : 0 ≡ 0 * (most + 11) = omega arith in
      subst (λ m. Strides input (body ++ left10) (stop + 10 * 0) (at j) stop (at n) m) h
      (subst (λ c. Strides input (body ++ left10) c (at j) stop (at n) 0) g
      (subst (λ i. Strides input (body ++ left10) stop (at i) stop (at n) 0) (sym f) (Stand stop (at n) columns.over)))
  strides (suc k) j e =
      let f : guide stop n j ≡ stop + 10 * suc k = omega arith in
      let g : stop + 10 * k + 10 ≡ stop + 10 * suc k = omega arith in
      let h : most + 10 + 1 + k * (most + 11) ≡ suc k * (most + 11) = omega (arith, suc-mul k (most + 11)) in
      let lt : j < n = omega arith in
      let on : get (at j) (stop + 10 * suc k) ≢ 0 = λ z. columns.on j lt (ap (get (at j)) f ∙ z) in
      let turn : Does input (body ++ left10) (stop + 10 * suc k) (at j) (stop + 10 * k) (at (suc j)) (most + 10) =
      next (between (stop + 10 * suc k) (stop + 10 * suc k) (columns.does j lt) f f) (between (stop + 10 * suc k) (stop + 10 * k) (does_lefts input 10 (stop + 10 * k) (at (suc j))) g refl) in
      subst (λ m. Strides input (body ++ left10) (stop + 10 * suc k) (at j) stop (at n) m) h
      (Stride (stop + 10 * suc k) (stop + 10 * k) stop (at j) (at (suc j)) (at n) (most + 10) (k * (most + 11)) on turn (strides k (suc j) (omega arith)))

  pub onwards : Does input (loop (body ++ left10)) (stop + 10 * n) (at 0) stop (at n) (n * (most + 11) + 1)
  onwards = does_strides (balanced_append body left10 columns.balanced refl) (strides n 0 (omega arith))

  pub visited : Does input (leftwards_code body) (stop + 10 * (n + 1)) (at 0) stop (at n) (n * (most + 11) + 11)
  visited =
      let e : stop + 10 * n + 10 ≡ stop + 10 * (n + 1) = omega arith in
      does_within (n * (most + 11) + 11) (next (between (stop + 10 * (n + 1)) (stop + 10 * n) (does_lefts input 10 (stop + 10 * n) (at 0)) e refl) onwards) (omega arith)

pub columns_done : ColumnsAreDone
columns_done input body stop n most at columns = visited input body stop n most at columns

pub strides_home : (input : List ℕ) (s : Tape) (n p : ℕ) → ((k : ℕ) → k < n → get s (p + 10 * k) ≢ 0) → get s (p + 10 * n) ≡ 0 → Strides input right10 p s (p + 10 * n) s (11 * n)
strides_home input s zero p on off =
    let e : p ≡ p + 10 * 0 = omega arith in
    subst (λ c. Strides input right10 p s c s (11 * 0)) e (Stand p s (ap (get s) e ∙ off))
strides_home input s (suc n) p on off =
    let e : p + 10 + 10 * n ≡ p + 10 * suc n = omega arith in
    let f : 10 + 1 + 11 * n ≡ 11 * suc n = omega arith in
    let g : p ≡ p + 10 * 0 = omega arith in
    subst (λ m. Strides input right10 p s (p + 10 * suc n) s m) f
    (Stride p (p + 10) (p + 10 * suc n) s s s 10 (11 * n) (λ z. on 0 (omega arith) (ap (get s) (sym g) ∙ z)) (does_rights input 10 p s)
    (subst (λ c. Strides input right10 (p + 10) s c s (11 * n)) e
    (strides_home input s n (p + 10) (λ k lt z. let i : p + 10 * suc k ≡ p + 10 + 10 * k = omega arith in on (suc k) (omega arith) (ap (get s) i ∙ z)) (ap (get s) e ∙ off))))

pub guides_home : GuidesLeadHome
guides_home input s stop n guides =
    let e : stop + 10 + 10 * n ≡ stop + 10 * (n + 1) = omega arith in
    let f : (k : ℕ) → stop + 10 * (k + 1) ≡ stop + 10 + 10 * k = λ k. omega arith in
    does_within (11 * (n + 1))
    (between stop (stop + 10 * (n + 1)) (next (does_rights input 10 stop s)
    (does_strides {body = right10} refl (strides_home input s n (stop + 10) (λ k lt z. guides.on k lt (ap (get s) (f k) ∙ z)) (ap (get s) e ∙ guides.home)))) refl e) (omega arith)
