-- Where brackets jump, by their partners.
use Rattle.std.proofs.Common.{◌≡◌, ℕ, suc, ◌+◌, ◌-◌, ◌<◌, ◌≤◌, true, cond, List, ◌∷◌, ◌++◌, length, take, drop, Some, slice_get, refl, sym, ap, ◌∙◌, arith, subst, add-one, length-drop, eq-eqb, ne_eqb}
use Rattle.std.specs.List.{count_by}
use Rattle.std.proofs.lemmas.List.{take-take, drop-drop, take-append-drop, length-take-le}
use Rattle.mach_core.proofs.Lists.{next_is}
use Rattle.bf_lang.specs.declared.command.Command.{Command}
use Rattle.bf_lang.specs.declared.command.Command.TheVariants.{Right, Left, Plus, Minus, Write, Read, Open, Close}
use Rattle.bf_lang.specs.Balance.{IsBalanced, is_open, is_close}
use Rattle.bf_lang.specs.Brackets.{Stands, IsCloseOf}
use Rattle.bf_lang.specs.Step.{here, after, close_in, open_before}
use Rattle.bf_lang.specs.Laws.{JumpsToPartners}
use Rattle.bf_lang.proofs.Counts.{before, between, item_of, at_open, at_close, even_counts, within}
use Rattle.bf_lang.proofs.Pairs.{above_before}
use Rattle.bf_lang.proofs.Depths.{Known, depth_of, commands_apart}
use Rattle.bf_lang.proofs.Partners.{close_of_loop, open_of_loop}

open_is : (x : Command) → is_open x ≡ true → x ≡ Open
open_is Right e = cc
open_is Left e = cc
open_is Plus e = cc
open_is Minus e = cc
open_is Write e = cc
open_is Read e = cc
open_is Open e = refl
open_is Close e = cc

close_is : (x : Command) → is_close x ≡ true → x ≡ Close
close_is Right e = cc
close_is Left e = cc
close_is Plus e = cc
close_is Minus e = cc
close_is Write e = cc
close_is Read e = cc
close_is Open e = cc
close_is Close e = refl

pub opens_at : (code : List Command) (i : ℕ) → Stands is_open code i → slice_get code i ≡ Some Open
opens_at code i s = let item = item_of is_open code i s in item.1 ∙ ap (λ c. Some c) (open_is item.0 item.2)

pub closes_at : (code : List Command) (i : ℕ) → Stands is_close code i → slice_get code i ≡ Some Close
closes_at code i s = let item = item_of is_close code i s in item.1 ∙ ap (λ c. Some c) (close_is item.0 item.2)

module _ (code : List Command) (i j : ℕ) (c : IsCloseOf is_open is_close code i j) where
  -- what stands between a bracket and its partner
  abbrev body : List Command
  body = take (j - (i + 1)) (drop (i + 1) code)

  there : j < length code
  there = within is_close code j c.closing

  room : j - (i + 1) ≤ length (drop (i + 1) code)
  room = omega (arith, length-drop (i + 1) code, there)

  body_length : length body ≡ j - (i + 1)
  body_length = length-take-le (j - (i + 1)) (drop (i + 1) code) room

  body_known : Known is_open is_close body 0 0
  body_known = record { level = level; whole = whole } where
    counts : (before is_open code (i + 1) ≡ before is_open code i + 1) × (before is_close code (i + 1) ≡ before is_close code i)
    counts = at_open is_open is_close code commands_apart i c.opening

    level : count_by is_open body + 0 ≡ count_by is_close body + 0
    level =
        let le : i ≤ j = omega (arith, c.later) in
        let e : i + 1 + (j - (i + 1)) ≡ j = omega (arith, c.later) in
        let o : before is_open code (i + 1) + count_by is_open body ≡ before is_open code j = between is_open code (i + 1) (j - (i + 1)) ∙ ap (before is_open code) e in
        let d : before is_close code (i + 1) + count_by is_close body ≡ before is_close code j = between is_close code (i + 1) (j - (i + 1)) ∙ ap (before is_close code) e in
        let last = at_close is_open is_close code commands_apart j c.closing in
        let even = even_counts is_open is_close code i j le c.even in
        omega (arith, o, d, counts.0, counts.1, last.0, last.1, even)

    whole : (q : ℕ) → q ≤ length body → count_by is_close (take q body) ≤ count_by is_open (take q body) + 0
    whole q le =
        let few : q ≤ j - (i + 1) = omega (arith, body_length) in
        let same : take q body ≡ take q (drop (i + 1) code) = take-take q (j - (i + 1)) (drop (i + 1) code) few in
        let o : before is_open code (i + 1) + count_by is_open (take q (drop (i + 1) code)) ≡ before is_open code (i + 1 + q) = between is_open code (i + 1) q in
        let d : before is_close code (i + 1) + count_by is_close (take q (drop (i + 1) code)) ≡ before is_close code (i + 1 + q) = between is_close code (i + 1) q in
        let later : i < i + 1 + q = omega arith in
        let upto : i + 1 + q ≤ j = omega (arith, c.later) in
        let high = above_before is_open is_close code commands_apart i j c (i + 1 + q) later upto in
        let part : count_by is_close (take q (drop (i + 1) code)) ≤ count_by is_open (take q (drop (i + 1) code)) + 0 = omega (arith, o, d, counts.0, counts.1, high) in
        subst (λ xs. count_by is_close xs ≤ count_by is_open xs + 0) (sym same) part

  pub body_balanced : IsBalanced body
  body_balanced = depth_of body 0 0 body_known

  pub code_at : drop i code ≡ Open ∷ (body ++ Close ∷ drop (suc j) code)
  code_at =
      let e : i + 1 + (j - (i + 1)) ≡ j = omega (arith, c.later) in
      let rest : drop (j - (i + 1)) (drop (i + 1) code) ≡ Close ∷ drop (suc j) code =
      drop-drop (j - (i + 1)) (i + 1) code ∙ (ap (λ k. drop k code) e ∙ next_is code j Close (closes_at code j c.closing)) in
      let whole : drop (i + 1) code ≡ body ++ Close ∷ drop (suc j) code = sym (take-append-drop (j - (i + 1)) (drop (i + 1) code)) ∙ ap (λ xs. body ++ xs) rest in
      next_is code i Open (opens_at code i c.opening) ∙ ap (λ xs. Open ∷ xs) (ap (λ k. drop k code) (sym (add-one i)) ∙ whole)

  pub past_is : i + 1 + close_in 0 (drop (i + 1) code) + 1 ≡ j + 1
  past_is = omega (arith, close_of_loop code body (drop (suc j) code) i body_balanced code_at, body_length, c.later)

  pub back_is : open_before code j 0 ≡ i + 1
  back_is =
      let e : j ≡ i + 1 + length body = omega (arith, body_length, c.later) in
      ap (λ k. open_before code k 0) e ∙ open_of_loop code body (drop (suc j) code) i body_balanced code_at

  pub jumps : JumpsToPartners code i j
  jumps = record {
    skips = λ s byte at z.
        ap (λ o. (after code s o byte).place) (ap (slice_get code) at ∙ opens_at code i c.opening)
        ∙ (ap (λ t. cond t (s.place + 1 + close_in 0 (drop (s.place + 1) code) + 1) (s.place + 1)) (eq-eqb (here s) 0 z)
        ∙ (ap (λ p. p + 1 + close_in 0 (drop (p + 1) code) + 1) at ∙ past_is));
    enters = λ s byte at z.
        ap (λ o. (after code s o byte).place) (ap (slice_get code) at ∙ opens_at code i c.opening)
        ∙ (ap (λ t. cond t (s.place + 1 + close_in 0 (drop (s.place + 1) code) + 1) (s.place + 1)) (ne_eqb (here s) 0 z)
        ∙ ap (λ p. p + 1) at);
    repeats = λ s byte at z.
        ap (λ o. (after code s o byte).place) (ap (slice_get code) at ∙ closes_at code j c.closing)
        ∙ (ap (λ t. cond t (s.place + 1) (open_before code s.place 0)) (ne_eqb (here s) 0 z)
        ∙ (ap (λ p. open_before code p 0) at ∙ back_is));
    leaves = λ s byte at z.
        ap (λ o. (after code s o byte).place) (ap (slice_get code) at ∙ closes_at code j c.closing)
        ∙ (ap (λ t. cond t (s.place + 1) (open_before code s.place 0)) (eq-eqb (here s) 0 z)
        ∙ ap (λ p. p + 1) at);
  }
