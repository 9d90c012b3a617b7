-- What a calculation tells holds of the commands.
use Rattle.std.proofs.Common.{◌≡◌, ◌≢◌, ℕ, zero, suc, ◌+◌, ◌-◌, ◌<◌, ◌≤◌, max, Bool, true, false, nat_eq, nat_lt, nat_le, cond, List, [], ◌∷◌, length, refl, sym, ap, subst, ◌∙◌, arith}
use Rattle.std.proofs.lemmas.Bool.{eqb-true, false≢true}
use Rattle.std.proofs.lemmas.Bool.Decides.{nat_tests}
use Rattle.bf_lang.specs.declared.command.Command.TheVariants.{Plus, Minus}
use Rattle.bf_lang.specs.Balance.{IsBalanced}
use Rattle.bf_lang.specs.Cells.{raised, lowered}
use Rattle.bf_lang.proofs.Partners.{balanced_append, balanced_loop}
use Rattle.bf_tape.specs.Tape.{Tape}
use Rattle.bf_tape.specs.Does.{Does, loop, Turns}
use Rattle.bf_tape.specs.Does.Turns.{Over, Turn}
use Rattle.bf_tape.specs.Code.{goto_code}
use Rattle.bf_tape.specs.Slots.{holding, AreApart, nth, with_nth}
use Rattle.bf_tape.proofs.Slotted.{get_held}
use Rattle.bf_tape.proofs.Moves.{does_loop, does_none, does_within}
use Rattle.bf_tape.proofs.Pieces.{does_goto, minus_at, plus_at, balanced_goto}
use Rattle.bf_columns.specs.Text.{AreWithin, CalculationsHold, Text, spelled, Outcome, costs, turned, looped, far, calculated, same, told, comes, each_below}
use Rattle.bf_columns.specs.Text.Text.{Done, Go, Up, Down, While}
use Rattle.bf_columns.specs.Text.Outcome.{Stuck, Came}
use Rattle.bf_columns.proofs.Tapes.{next}

pub both : (a b : Bool) → cond a b false ≡ true → (a ≡ true) × (b ≡ true)
both true b e = (refl, e)
both false b e = absurd (false≢true e)

pub below_each : (n k : ℕ) (p : ℕ → Bool) → each_below n p ≡ true → k < n → p k ≡ true
below_each zero k p e lt = absurd (omega arith)
below_each (suc n) k p e lt = elim (nat_eq n k) as (λ t. nat_eq n k ≡ t → p k ≡ true) [
  | true ↦ λ f. subst (λ m. p m ≡ true) (eqb-true n k f) (both (p n) (each_below n p) e).0
  | false ↦ λ f. let lt' : k < n = grind (arith, nat_tests) in below_each n k p (both (p n) (each_below n p) e).1 lt'
] refl

same_lists : (vs ws : List ℕ) → same vs ws ≡ true → vs ≡ ws
same_lists [] [] e = refl
same_lists [] (w ∷ ws) e = absurd (false≢true e)
same_lists (v ∷ vs) [] e = absurd (false≢true e)
same_lists (v ∷ vs) (w ∷ ws) e = let f = both (nat_eq v w) (same vs ws) e in (λ i. eqb-true v w f.0 i ∷ same_lists vs ws f.1 i)

pub spelled_balanced : (ns : List ℕ) (h : ℕ) (t : Text) → IsBalanced (spelled ns h t)
spelled_balanced ns h Done = refl
spelled_balanced ns h (Go i t) = balanced_append (goto_code (nth ns h) (nth ns i)) (spelled ns i t) (balanced_goto (nth ns h) (nth ns i)) (spelled_balanced ns i t)
spelled_balanced ns h (Up t) = balanced_append (Plus ∷ []) (spelled ns h t) refl (spelled_balanced ns h t)
spelled_balanced ns h (Down t) = balanced_append (Minus ∷ []) (spelled ns h t) refl (spelled_balanced ns h t)
spelled_balanced ns h (While b t) = balanced_append (loop (spelled ns h b)) (spelled ns h t) (balanced_loop (spelled ns h b) (spelled_balanced ns h b)) (spelled_balanced ns h t)

length_with : (vs : List ℕ) (i v : ℕ) → length (with_nth vs i v) ≡ length vs
length_with [] i v = refl
length_with (x ∷ xs) zero v = refl
length_with (x ∷ xs) (suc i) v = ap suc (length_with xs i v)

module _ (input : List ℕ) (s : Tape) (ns los his : List ℕ) (apart : AreApart ns) (around : AreWithin ns los his) where
  near : (h i : ℕ) → h < length ns → i < length ns → (nth ns i - nth ns h) + (nth ns h - nth ns i) ≤ far los his h i
  near h i lh li = reach (nth ns h) (nth ns i) (nth los h) (nth his h) (nth los i) (nth his i) (around.within h lh).0 (around.within h lh).1 (around.within i li).0 (around.within i li).1
    where
      reach : (p q lp hp lq hq : ℕ) → lp ≤ p → p ≤ hp → lq ≤ q → q ≤ hq → (q - p) + (p - q) ≤ max (hq - lp) (hp - lq)
      reach p q lp hp lq hq a b c e = omega arith

  abbrev row : List ℕ → Tape
  row vs = holding s ns vs

  -- what an outcome says
  abbrev Good : Bool → Text → ℕ → List ℕ → Outcome → Type 0
  Good turns t h vs Stuck = Unit {0}
  Good false t h vs (Came h' ws n) = Does input (spelled ns h t) (nth ns h) (row vs) (nth ns h') (row ws) n × (h' < length ns) × (length ws ≡ length ns)
  Good true t h vs (Came h' ws n) = Turns input (spelled ns h t) (nth ns h) (row vs) (row ws) n × (h' < length ns) × (length ws ≡ length ns)

  goes : (t : Text) (h i : ℕ) (vs : List ℕ) (o : Outcome) → h < length ns → i < length ns → Good false t i vs o → Good false (Go i t) h vs (costs (far los his h i) o)
  goes t h i vs Stuck lh li g = tt
  goes t h i vs (Came h' ws n) lh li g = (next (does_goto input (nth ns h) (nth ns i) (row vs) (far los his h i) (near h i lh li)) g.0, g.1, g.2)

  ups : (t : Text) (h : ℕ) (vs : List ℕ) (o : Outcome) → h < length ns → length vs ≡ length ns → Good false t h (with_nth vs h (raised (nth vs h))) o → Good false (Up t) h vs (costs 1 o)
  ups t h vs Stuck lh fits g = tt
  ups t h vs (Came h' ws n) lh fits g = (next (plus_at input s ns apart vs h lh fits) g.0, g.1, g.2)

  downs : (t : Text) (h : ℕ) (vs : List ℕ) (o : Outcome) → h < length ns → length vs ≡ length ns → Good false t h (with_nth vs h (lowered (nth vs h))) o → Good false (Down t) h vs (costs 1 o)
  downs t h vs Stuck lh fits g = tt
  downs t h vs (Came h' ws n) lh fits g = (next (minus_at input s ns apart vs h lh fits) g.0, g.1, g.2)

  whiles : (b t : Text) (h : ℕ) (vs : List ℕ) (o : Outcome) (more : List ℕ → Outcome) → Good true b h vs o → ((ws : List ℕ) → length ws ≡ length ns → Good false t h ws (more ws)) → Good false (While b t) h vs (looped o more)
  whiles b t h vs Stuck more g f = tt
  whiles b t h vs (Came h' ws n) more g f = after (more ws) (f ws g.2)
    where
      after : (o : Outcome) → Good false t h ws o → Good false (While b t) h vs (costs (n + 1) o)
      after Stuck k = tt
      after (Came h'' us m) k = (next (does_loop (spelled_balanced ns h b) g.0) k.0, k.1, k.2)

  turns_on : (t : Text) (h : ℕ) (vs : List ℕ) (o : Outcome) (more : List ℕ → Outcome) → nth vs h ≢ 0 → h < length ns → length vs ≡ length ns → Good false t h vs o → ((ws : List ℕ) → length ws ≡ length ns → Good true t h ws (more ws)) → Good true t h vs (turned h o more)
  turns_on t h vs Stuck more on lh fits g f = tt
  turns_on t h vs (Came h' ws n) more on lh fits g f = elim (nat_eq h' h) as (λ x. nat_eq h' h ≡ x → Good true t h vs (elim x as (λ b. Outcome) [ true ↦ costs (n + 1) (more ws) | false ↦ Stuck ])) [
    | true ↦ λ e. after (subst (λ k. Does input (spelled ns h t) (nth ns h) (row vs) (nth ns k) (row ws) n) (eqb-true h' h e) g.0) (more ws) (f ws g.2)
    | false ↦ λ e. tt
  ] refl
    where
      after : Does input (spelled ns h t) (nth ns h) (row vs) (nth ns h) (row ws) n → (o : Outcome) → Good true t h ws o → Good true t h vs (costs (n + 1) o)
      after d Stuck k = tt
      after d (Came h'' us m) k = (Turn (row vs) (row ws) (row us) n m (λ z. on (sym (get_held s ns vs h apart lh fits) ∙ z)) d k.0, k.1, k.2)

  stands : (once again : List ℕ → Outcome) (t : Text) (h : ℕ) (vs : List ℕ) → h < length ns → length vs ≡ length ns → Good false t h vs (once vs) → ((ws : List ℕ) → length ws ≡ length ns → Good true t h ws (again ws)) → (v : ℕ) → nth vs h ≡ v
      → Good true t h vs (elim v as (λ v. Outcome) [ zero ↦ Came h vs 0 | suc v ↦ turned h (once vs) again ])
  stands once again t h vs lh fits g f zero e = (Over (row vs) (get_held s ns vs h apart lh fits ∙ e), lh, fits)
  stands once again t h vs lh fits g f (suc v) e = turns_on t h vs (once vs) again (λ z. absurd (omega arith)) lh fits g f

  pub sound : (f : ℕ) (turns : Bool) (t : Text) (h : ℕ) (vs : List ℕ) → h < length ns → length vs ≡ length ns → Good turns t h vs (calculated los his f turns t h vs)
  sound zero turns t h vs lh fits = tt
  sound (suc f) true t h vs lh fits = stands (λ us. calculated los his f false t h us) (λ us. calculated los his f true t h us) t h vs lh fits (sound f false t h vs lh fits) (λ ws fits'. sound f true t h ws lh fits') (nth vs h) refl
  sound (suc f) false Done h vs lh fits = (does_none input (nth ns h) (row vs), lh, fits)
  sound (suc f) false (Go i t) h vs lh fits = elim (nat_lt i (length los)) as (λ x. nat_lt i (length los) ≡ x → Good false (Go i t) h vs (elim x as (λ b. Outcome) [
    | true ↦ costs (far los his h i) (calculated los his f false t i vs)
    | false ↦ Stuck
  ])) [
    | true ↦ λ e. let li : i < length ns = (let lt : i < length los = grind (arith, nat_tests) in omega (arith, around.lows, lt)) in goes t h i vs (calculated los his f false t i vs) lh li (sound f false t i vs li fits)
    | false ↦ λ e. tt
  ] refl
  sound (suc f) false (Up t) h vs lh fits = let v : ℕ = raised (nth vs h) in ups t h vs (calculated los his f false t h (with_nth vs h v)) lh fits (sound f false t h (with_nth vs h v) lh (length_with vs h v ∙ fits))
  sound (suc f) false (Down t) h vs lh fits = let v : ℕ = lowered (nth vs h) in downs t h vs (calculated los his f false t h (with_nth vs h v)) lh fits (sound f false t h (with_nth vs h v) lh (length_with vs h v ∙ fits))
  sound (suc f) false (While b t) h vs lh fits = whiles b t h vs (calculated los his f true b h vs) (λ ws. calculated los his f false t h ws) (sound f true b h vs lh fits) (λ ws fits'. sound f false t h ws lh fits')

  -- what a test told
  pub reckons : (t : Text) (h : ℕ) (vs ws : List ℕ) (most : ℕ) → h < length ns → length vs ≡ length ns → comes los his t h vs ws most ≡ true → Does input (spelled ns h t) (nth ns h) (row vs) (nth ns h) (row ws) most
  reckons t h vs ws most lh fits e = tells (calculated los his 2000 false t h vs) (sound 2000 false t h vs lh fits) e
    where
      tells : (o : Outcome) → Good false t h vs o → told o h ws most ≡ true → Does input (spelled ns h t) (nth ns h) (row vs) (nth ns h) (row ws) most
      tells Stuck g e = absurd (false≢true e)
      tells (Came h' us n) g e =
          let a = both (nat_eq h' h) (cond (same us ws) (nat_le n most) false) e in
          let b = both (same us ws) (nat_le n most) a.1 in
          let few : n ≤ most = (let c = b.1 in grind (arith, nat_tests)) in
          subst (λ k. Does input (spelled ns h t) (nth ns h) (row vs) (nth ns k) (row ws) most) (eqb-true h' h a.0)
          (subst (λ us. Does input (spelled ns h t) (nth ns h) (row vs) (nth ns h') (row us) most) (same_lists us ws b.0) (does_within most g.0 few))

pub calculations_hold : CalculationsHold
calculations_hold input s ns los his t h vs ws most apart around lh fits e = reckons input s ns los his apart around t h vs ws most lh fits e
