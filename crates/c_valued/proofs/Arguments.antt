-- Arguments come into the frame, or the first of them into A.
use Rattle.std.proofs.Common.{◌≡◌, ℕ, zero, suc, ◌+◌, ◌^◌, ◌<◌, ◌≤◌, Bool, true, false, List, [], ◌∷◌, ◌++◌, refl, sym, ap, subst, arith, append-nil, if◌then◌else◌}
use Rattle.std.specs.Prelude.{◌||◌}
use Rattle.eir_core.specs.Memory.{Memory, word_at}
use Rattle.eir_core.specs.declared.ops.Reg.TheVariants.{A}
use Rattle.eir_core.specs.declared.ops.Op.{Op}
use Rattle.c_syntax.specs.Plain.{CExpr, CExprs, NoExpr, MoreExpr}
use Rattle.c_types.specs.Types.{CType, CTypes, NoType, MoreType, is_pointer, is_null}
use Rattle.c_eval.specs.State.{Value, State, Run}
use Rattle.c_eval.specs.Run.{◌>>=◌, give}
use Rattle.c_eval.specs.Operators.{as_pointer, converted, all_converted}
use Rattle.c_eval.specs.Environment.{Environment, past}
use Rattle.c_eval.specs.Eval.{World, values_of}
use Rattle.c_helpers.specs.Frames.{waiting, waiting_all}
use Rattle.c_place.specs.Code.{jumps}
use Rattle.c_place.specs.Place.{Machine, made_all}
use Rattle.c_place.proofs.CutLemmas.{jumps_append}
use Rattle.c_lowered.specs.Counts.{expr_jumps, exprs_jumps}
use Rattle.c_lowered.specs.Locations.{Framed, Linking, Stored}
use Rattle.c_lowered.specs.Operations.{save, restore}
use Rattle.c_lowered.specs.Expressions.{value_code, argument_code, arguments_code}
use Rattle.c_lowered.proofs.Jumping.{value_jumps}
use Rattle.c_memory.specs.Lies.{Extent, Means}
use Rattle.c_landing.specs.Landing.{Setting, placed, Ready, Lands, Goes, InA}
use Rattle.c_landing.specs.Few.{Agrees}
use Rattle.c_landing.proofs.Landing.{lands_within, then_lands, then_still}
use Rattle.c_landing.proofs.Stilling.{still_then, give_still}
use Rattle.c_landing.proofs.Pieces.{KeepsFrame, quiet_goes, quiet_lands, load_a_keeps, load_a_made, word_address}
use Rattle.c_landing.proofs.Equal.{as_pointer_means}
use Rattle.c_valued.specs.Steps.{steps, all_steps}
use Rattle.c_valued.specs.Laws.{Valued}
use Rattle.c_valued.proofs.Parts.{max_left, max_right, at_block, used_in_a}
use Rattle.c_valued.specs.Calls.{WordsMean, InFrame, FirstInA, ArgumentsValued}
use Rattle.c_valued.proofs.Frames.{Waited, save_then_goes}

nothing_keeps : KeepsFrame []
nothing_keeps = record { quiet = tt; memory = λ m. refl; frame = λ m. refl }

-- those before are counted in what waits
pub waits_least : (b c : ℕ) (es : CExprs) → b ≤ waiting_all b c es
waits_least b c NoExpr = omega arith
waits_least b c (MoreExpr e es) = let h = waits_least (b + 1) c es in let r = max_right (waiting e + b) (waiting_all (b + 1) c es) (waiting_all b c (MoreExpr e es)) (omega arith) in omega (arith, h, r)

-- so an argument has a word
waits_more : (b c n : ℕ) (e : CExpr) (es : CExprs) → waiting_all b c (MoreExpr e es) ≤ n + b → (waiting e ≤ n) × (waiting_all (b + 1) c es ≤ n + b) × (1 ≤ n)
waits_more b c n e es le =
    let l = max_left (waiting e + b) (waiting_all (b + 1) c es) (n + b) le in
    let r = max_right (waiting e + b) (waiting_all (b + 1) c es) (n + b) le in
    let least = waits_least (b + 1) c es in
    (omega (arith, l), r, omega (arith, r, least))

-- ---- the jumps of their code

pub arguments_count : (es : CExprs) (w : Linking) (place : Environment) (k d : ℕ) → jumps (arguments_code es w place k d) ≡ exprs_jumps es
arguments_count NoExpr w place k d = refl
arguments_count (MoreExpr e es) w place k d =
    let more = arguments_code es w (past e place) (k + expr_jumps e) (suc d) in
    let one = (value_jumps e w place k d).count in
    let rest = arguments_count es w (past e place) (k + expr_jumps e) (suc d) in
    let both = jumps_append (value_code e w place k d) (save d ++ more) in
    omega (arith, both, one, rest)

pub argument_count : (es : CExprs) (w : Linking) (place : Environment) (k d : ℕ) → jumps (argument_code es w place k d) ≡ exprs_jumps es
argument_count NoExpr w place k d = refl
argument_count (MoreExpr e NoExpr) w place k d = let one = (value_jumps e w place k d).count in omega (arith, one)
argument_count (MoreExpr e (MoreExpr f es)) w place k d =
    let more = arguments_code (MoreExpr f es) w (past e place) (k + expr_jumps e) (suc d) in
    let one = (value_jumps e w place k d).count in
    let rest = arguments_count (MoreExpr f es) w (past e place) (k + expr_jumps e) (suc d) in
    let both = jumps_append (value_code e w place k d) (save d ++ (more ++ restore A d)) in
    let last = jumps_append more (restore A d) in
    omega (arith, both, one, rest, last)

module _ (S : Setting) (w : World) (agrees : Agrees S w) (u : ℕ) where
  abbrev L : Linking
  L = S.linking

  abbrev V : CExpr → Environment → Type 0
  V e site = Valued S w u e site

  count : (e : CExpr) (site : Environment) (i k d : ℕ) → jumps (value_code e L (placed S.coded i site) k d) ≡ expr_jumps e
  count e site i k d = (value_jumps e L (placed S.coded i site) k d).count

  -- behind the first argument
  more_goes : (es : CExprs) (site : Environment) (k d n i o c : ℕ) → Lands S (arguments_code es L (placed S.coded i site) k (suc d)) k (suc d) n c (values_of es w (placed S.named o site)) (InFrame S (suc d))
      → Goes S (save d ++ arguments_code es L (placed S.coded i site) k (suc d)) k d (suc n) (3 + (c + 0)) (λ x. values_of es w (placed S.named o site) >>= λ vs. give (x ∷ vs)) (InA S) (InFrame S d)
  more_goes es site k d n i o c l =
      let code = arguments_code es L (placed S.coded i site) k (suc d) in
      subst (λ z. Goes S (save d ++ z) k d (suc n) (3 + (c + 0)) (λ x. values_of es w (placed S.named o site) >>= λ vs. give (x ∷ vs)) (InA S) (InFrame S d)) (append-nil code)
      (save_then_goes (λ x vs. give (x ∷ vs)) l (λ x. quiet_goes nothing_keeps (λ ys bs st m r q. give_still st (λ z. InFrame S d z bs m) (x ∷ ys) (q.1, next bs m ys q.0))))
    where
      next : (bs : List Extent) (m : Machine) (ys : List Value) → InFrame S (suc d) ys bs m → WordsMean S.ground bs m.memory (suc (m.regs.bp + d)) ys
      next bs m ys h = let e : m.regs.bp + suc d ≡ suc (m.regs.bp + d) = omega arith in subst (λ z. WordsMean S.ground bs m.memory z ys) e h

  pub arguments_land : (es : CExprs) (site : Environment) → ArgumentsValued S w u es site → (b c k d n i o : ℕ) → waiting_all b c es ≤ n + b → k + exprs_jumps es < 2 ^ 24
      → Lands S (arguments_code es L (placed S.coded i site) k d) k d n (all_steps u es) (values_of es w (placed S.named o site)) (InFrame S d)
  arguments_land NoExpr site xs b c k d n i o le lt = quiet_lands nothing_keeps (λ bs st m r. give_still st (λ z. InFrame S d z bs m) [] tt)
  arguments_land (MoreExpr e es) site xs b c k d zero i o le lt = absurd (let h = waits_more b c 0 e es le in omega (arith, h.2))
  arguments_land (MoreExpr e es) site xs b c k d (suc n) i o le lt =
      let needs = waits_more b c (suc n) e es le in
      let more = arguments_land es (past e site) xs.1 (b + 1) c (k + expr_jumps e) (suc d) n i o (omega (arith, needs.1)) (omega (arith, lt)) in
      let first = used_in_a S w agrees (xs.0.value k d (suc n) i o needs.0 (omega (arith, lt))) in
      lands_within (suc n) (steps u e + (3 + (all_steps u es + 0))) (omega arith) (omega arith)
      (then_lands first (at_place (k + expr_jumps e) _ (ap (λ z. k + z) (sym (count e site i k d))) (more_goes es (past e site) (k + expr_jumps e) d n i o (all_steps u es) more)))
    where
      at_place : {code : List Op} {c : ℕ} {run : Value → Run (List Value)} (j1 j2 : ℕ) → j1 ≡ j2 → Goes S code j1 d (suc n) c run (InA S) (InFrame S d) → Goes S code j2 d (suc n) c run (InA S) (InFrame S d)
      at_place {code} {c} {run} j1 j2 e g = subst (λ z. Goes S code z d (suc n) c run (InA S) (InFrame S d)) e g

  -- ---- the first of them in A

  brought : (d n block : ℕ) (x : Value) → Goes S (restore A d) block d (suc n) 3 (λ ys. give (x ∷ ys)) (Waited S d (InFrame S (suc d)) x) (FirstInA S)
  brought d n block x = quiet_goes (load_a_keeps (Stored (Framed d))) (λ ys bs st m r q. give_still st (λ z. FirstInA S z bs (made_all (restore A d) m)) (x ∷ ys)
      (let is = ap (λ (z : Machine). z.regs.a) (load_a_made (Stored (Framed d)) m) in
      let there = ap (word_at m.memory) (word_address m d (omega (arith, r.room, r.fits))) in
      subst (λ z. Means S.ground bs x z) (sym is) (subst (λ z. Means S.ground bs x z) (sym there) q.1)))

  pub argument_lands : (es : CExprs) (site : Environment) → ArgumentsValued S w u es site → (b c k d n i o : ℕ) → waiting_all b c es ≤ n + b → k + exprs_jumps es < 2 ^ 24
      → Lands S (argument_code es L (placed S.coded i site) k d) k d n (all_steps u es + 3) (values_of es w (placed S.named o site)) (FirstInA S)
  argument_lands NoExpr site xs b c k d n i o le lt = lands_within n 0 (omega arith) (omega arith) (quiet_lands nothing_keeps (λ bs st m r. give_still st (λ z. FirstInA S z bs m) [] tt))
  argument_lands (MoreExpr e NoExpr) site xs b c k d n i o le lt =
      let needs = waits_more b c n e NoExpr le in
      lands_within n (steps u e) (omega arith) (omega arith) (then_still (used_in_a S w agrees (xs.0.value k d n i o needs.0 (omega (arith, lt))))
      (quiet_goes nothing_keeps (λ v bs st m r h. still_then st (λ vs. vs ≡ []) (λ z. FirstInA S z bs m) (give []) (λ vs. give (v ∷ vs)) (give_still st (λ vs. vs ≡ []) [] refl) (λ vs is. give_still st (λ z. FirstInA S z bs m) (v ∷ vs) h))))
  argument_lands (MoreExpr e (MoreExpr f es)) site xs b c k d zero i o le lt = absurd (let h = waits_more b c 0 e (MoreExpr f es) le in omega (arith, h.2))
  argument_lands (MoreExpr e (MoreExpr f es)) site xs b c k d (suc n) i o le lt =
      let rest = MoreExpr f es in
      let needs = waits_more b c (suc n) e rest le in
      let more = arguments_land rest (past e site) xs.1 (b + 1) c (k + expr_jumps e) (suc d) n i o (omega (arith, needs.1)) (omega (arith, lt)) in
      let first = used_in_a S w agrees (xs.0.value k d (suc n) i o needs.0 (omega (arith, lt))) in
      let here_is : k + expr_jumps e ≡ k + jumps (value_code e L (placed S.coded i site) k d) = ap (λ z. k + z) (sym (count e site i k d)) in
      lands_within (suc n) (steps u e + (3 + (all_steps u rest + 3))) (omega arith) (omega arith)
      (then_lands first (save_then_goes (λ x vs. give (x ∷ vs)) (at_block (k + expr_jumps e) _ here_is more) (λ x. brought d n _ x)))

  -- ---- conversions

  module _ (bs : List Extent) (st : State) (m : Machine) (d n : ℕ) (r : Ready S bs st m d n) where
    converted_means : (t : CType) (v : Value) (a : ℕ) → Means S.ground bs v a → Means S.ground bs (converted t v) a
    converted_means t v a h = by (is_pointer t || is_null t)
      where
        by : (b : Bool) → Means S.ground bs (if b then as_pointer v else v) a
        by true = as_pointer_means S w agrees bs st m d n r v a h
        by false = h

    pub words_converted : (ts : CTypes) (vs : List Value) (mem : Memory) (a : ℕ) → WordsMean S.ground bs mem a vs → WordsMean S.ground bs mem a (all_converted ts vs)
    words_converted NoType vs mem a h = h
    words_converted (MoreType t ts) [] mem a h = h
    words_converted (MoreType t ts) (v ∷ vs) mem a h = (converted_means t v (word_at mem a) h.0, words_converted ts vs mem (suc a) h.1)

    pub first_converted : (ts : CTypes) (vs : List Value) → FirstInA S vs bs m → FirstInA S (all_converted ts vs) bs m
    first_converted NoType vs h = h
    first_converted (MoreType t ts) [] h = h
    first_converted (MoreType t ts) (v ∷ vs) h = converted_means t v m.regs.a h
