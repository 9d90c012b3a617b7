-- Conditions come to one of two places, and branches meet again.
use Rattle.std.proofs.Common.{◌≡◌, ℕ, suc, ◌+◌, ◌%◌, ◌^◌, ◌<◌, ◌≤◌, Bool, true, false, List, [], ◌∷◌, ◌++◌, refl, sym, ap, ◌∙◌, subst, arith, nat_eq, if◌then◌else◌}
use Rattle.std.specs.Prelude.{not}
use Rattle.eir_core.specs.Eir.{is_jump}
use Rattle.eir_core.specs.Step.{reg_of, value_of, holds}
use Rattle.eir_core.specs.declared.ops.Reg.{Reg}
use Rattle.eir_core.specs.declared.ops.Reg.TheVariants.{A}
use Rattle.eir_core.specs.declared.ops.Operand.{Operand}
use Rattle.eir_core.specs.declared.ops.Cond.{Cond}
use Rattle.eir_core.specs.declared.ops.Cond.TheVariants.{Eq, Ne, Lt, Gt, Le, Ge}
use Rattle.eir_core.specs.declared.ops.Op.{Op}
use Rattle.eir_core.specs.declared.ops.Op.TheVariants.{Mov, Jump, JumpIf}
use Rattle.c_eval.specs.State.{Value, Word, State, Outcome, Gives, Ended, Going, Undefined, Run}
use Rattle.c_eval.specs.Run.{◌>>=◌, after, give, choose}
use Rattle.c_eval.specs.Operators.{is_true, truth_value}
use Rattle.c_eval.specs.Eval.{World}
use Rattle.c_place.specs.Code.{jumps}
use Rattle.c_place.specs.Place.{Place, Machine, front, Has, Stands, behind_all, made_all}
use Rattle.c_place.proofs.Running.{behind_append, behind_block, stands_first, stands_rest, one_jump, one_jump_if}
use Rattle.c_lowered.specs.Operations.{constant, opposite, truth_word}
use Rattle.c_lowered.specs.Expressions.{tested}
use Rattle.c_memory.specs.Follows.{fuel_of, here, Comes}
use Rattle.c_memory.specs.Lies.{Extent, Means}
use Rattle.c_memory.proofs.Following.{comes_one, then_follows, wider, more_behind, give_follows}
use Rattle.c_landing.specs.Landing.{Setting, Ready, Left, Reached, Lands, Goes, InA}
use Rattle.c_landing.specs.Few.{Agrees}
use Rattle.c_landing.proofs.Landing.{F, from_place, ready_later, left_then, then_still}
use Rattle.c_landing.proofs.Stilling.{give_still}
use Rattle.c_landing.proofs.Pieces.{quiet_goes, quiet_lands}
use Rattle.c_landing.specs.Tails.{GivenInA}
use Rattle.c_landing.proofs.Compared.{true_word}
use Rattle.c_valued.specs.Decides.{is_wanted, DecidedAt, Decides, Whatever, IsTruth, Tested}

-- ---- where code ends

front_of : (x : Place) (k n : ℕ) → x ≡ front k → x.block ≡ n → x ≡ front n
front_of x k n e f = e ∙ ap front (sym (ap (λ (z : Place). z.block) e) ∙ f)

jump_ends : (code : List Op) (op : Op) → is_jump op ≡ true → (s : Place) → behind_all s (code ++ op ∷ []) ≡ front (s.block + jumps (code ++ op ∷ []))
jump_ends code op j s =
    let mid = behind_all s code in
    let one : behind_all mid (op ∷ []) ≡ front (suc mid.block) = ap (λ (b : Bool). if b then front (suc mid.block) else record { block = mid.block; index = mid.index + 1 }) j in
    front_of (behind_all s (code ++ op ∷ [])) (suc mid.block) (s.block + jumps (code ++ op ∷ [])) (behind_append s code (op ∷ []) ∙ one) (behind_block s (code ++ op ∷ []))

more_ends : (a b : List Op) → ((s : Place) → behind_all s b ≡ front (s.block + jumps b)) → (s : Place) → behind_all s (a ++ b) ≡ front (s.block + jumps (a ++ b))
more_ends a b h s = front_of (behind_all s (a ++ b)) ((behind_all s a).block + jumps b) (s.block + jumps (a ++ b)) (behind_append s a b ∙ h (behind_all s a)) (behind_block s (a ++ b))

-- ---- jumps

not_not : (b : Bool) → not (not b) ≡ b
not_not true = refl
not_not false = refl

opposite_holds : (test : Cond) (x y : ℕ) → holds (opposite test) x y ≡ not (holds test x y)
opposite_holds Eq x y = refl
opposite_holds Ne x y = sym (not_not (nat_eq x y))
opposite_holds Lt x y = grind arith
opposite_holds Gt x y = grind arith
opposite_holds Le x y = grind arith
opposite_holds Ge x y = grind arith

wanted_holds : (wanted : Bool) (test : Cond) (x y : ℕ) (b : Bool) → b ≡ holds test x y → holds (if wanted then test else opposite test) x y ≡ is_wanted wanted b
wanted_holds true test x y b e = sym e
wanted_holds false test x y b e = opposite_holds test x y ∙ ap not (sym e)

small : (k : ℕ) → k < 2 ^ 24 → k % 2 ^ 24 ≡ k
small k lt = omega (arith, lt)

jumped : (b : Bool) (target k : ℕ) (end : Place) → target < 2 ^ 24 → end ≡ front (suc k) → front (if b then target % 2 ^ 24 else suc k) ≡ (if b then front target else end)
jumped true target k end lt e = ap front (small target lt)
jumped false target k end lt e = sym e

pub compared_decides : (S : Setting) (code : List Op) (block d n c : ℕ) (run : Run Value) (test : Cond) (first : Reg) (second : Operand) (wanted : Bool) (target : ℕ) → target < 2 ^ 24 → Lands S code block d n c run (Tested test first second)
    → Decides S (code ++ JumpIf (if wanted then test else opposite test) (constant target) first second ∷ []) block d n (c + 1) run Whatever wanted target
compared_decides S code block d n c run test first second wanted target lt l = record {
  at = λ s bs st m e stands r.
      (let mid = behind_all s code in
      let op : Op = JumpIf (if wanted then test else opposite test) (constant target) first second in
      let has : Has S.program mid op = (stands_rest S.program s code (op ∷ []) stands).0 in
      let end : behind_all s (code ++ op ∷ []) ≡ front (suc mid.block) = behind_append s code (op ∷ []) in
      more_behind S.program S.input S.mode (here s m st) (fuel_of st) c 1 (c + 1) (run st) (Reached S bs st m.memory m.regs.bp d mid (Tested test first second)) (DecidedAt S bs st m.memory m.regs.bp d (front target) (behind_all s (code ++ op ∷ [])) wanted Whatever)
      (l.at s bs st m e (stands_first S.program s code (op ∷ []) stands) r)
      (λ v st1 s1 m1 q.
      let b = is_wanted wanted (is_true v) in
      let to : Place = if b then front target else behind_all s (code ++ op ∷ []) in
      let step = one_jump_if S.program S.input mid m1 st1.taken st1.output (if wanted then test else opposite test) (constant target) first second b (wanted_holds wanted test (reg_of m1.regs first) (value_of m1.regs second) (is_true v) q.means) has in
      let comes : Comes S.program S.input S.mode (here mid m1 st1) (fuel_of st1) 1 (here to m1 st1) (fuel_of st1) =
      comes_one S.program S.input S.mode (fuel_of st1) (step ∙ ap (λ z. here z m1 st1) (jumped b target mid.block (behind_all s (code ++ op ∷ [])) lt end)) in
      (to, m1, subst (λ z. Comes S.program S.input S.mode (here z m1 st1) (fuel_of st1) 1 (here to m1 st1) (fuel_of st1)) (sym q.place) comes, record { place = refl; bases = q.bases; left = q.left; means = tt }))
      (omega arith));
  ends = jump_ends code (JumpIf (if wanted then test else opposite test) (constant target) first second) refl;
}

-- ---- giving on what was given

given_after : {A : Type 0} (o : Outcome A) → after o give ≡ o
unfolding after give
given_after (Gives v st) = refl
given_after (Ended st) = refl
given_after (Going st) = refl
given_after (Undefined act st) = refl

pub lands_given : {A : Type 0} {S : Setting} {code : List Op} {block d n c : ℕ} {run : Run A} {M : A → List Extent → Machine → Type 0} → Lands S code block d n c (run >>= give) M → Lands S code block d n c run M
unfolding ◌>>=◌
lands_given {S = S} {code = code} {d = d} {c = c} {run = run} {M = M} l = record {
  at = λ s bs st m e stands r. subst (λ o. F S (here s m st) (fuel_of st) c o (Reached S bs st m.memory m.regs.bp d (behind_all s code) M)) (given_after (run st)) (l.at s bs st m e stands r);
}

-- ---- a value is compared with 0

pub tested_decides : (S : Setting) (w : World) → Agrees S w → (code : List Op) (block d n c : ℕ) (run : Run Value) (wanted : Bool) (target : ℕ) → target < 2 ^ 24 → Lands S code block d n c run (GivenInA S)
    → Decides S (tested wanted target code) block d n (c + 1) run Whatever wanted target
tested_decides S w agrees code block d n c run wanted target lt l = shape wanted (compared_decides S code block d n c run Ne A (constant 0) wanted target lt (lands_given (then_still l truth_goes)))
  where
    truth_goes : Goes S [] (block + jumps code) d n 0 give (GivenInA S) (Tested Ne A (constant 0))
    truth_goes = quiet_goes (record { quiet = tt; memory = λ m. refl; frame = λ m. refl }) (λ v bs st m r q. give_still st (λ z. Tested Ne A (constant 0) z bs m) v (true_word S w agrees bs st m d n r v m.regs.a q.1 q.0))

    shape : (wanted : Bool) → Decides S (code ++ JumpIf (if wanted then Ne else opposite Ne) (constant target) A (constant 0) ∷ []) block d n (c + 1) run Whatever wanted target → Decides S (tested wanted target code) block d n (c + 1) run Whatever wanted target
    shape true h = h
    shape false h = h

-- ---- truths

true_again : (b : Bool) → is_true (truth_value b) ≡ b
true_again true = refl
true_again false = refl

is_truth : (b : Bool) → IsTruth (truth_value b)
is_truth true = refl
is_truth false = refl

denied_place : (wanted b : Bool) → is_wanted (not wanted) b ≡ is_wanted wanted (is_true (truth_value (not b)))
denied_place true true = refl
denied_place true false = refl
denied_place false true = refl
denied_place false false = refl

pub denied_decides : (S : Setting) (code : List Op) (block d n c : ℕ) (run : Run Value) (wanted : Bool) (target : ℕ) → Decides S code block d n c run Whatever (not wanted) target → Decides S code block d n c (run >>= λ v. give (truth_value (not (is_true v)))) IsTruth wanted target
denied_decides S code block d n c run wanted target h = record {
  at = λ s bs st m e stands r.
      (let end = behind_all s code in
      let R = DecidedAt S bs st m.memory m.regs.bp d (front target) end wanted IsTruth in
      then_follows S.program S.input S.mode (here s m st) (fuel_of st) c 0 c run st (λ v. give (truth_value (not (is_true v)))) (DecidedAt S bs st m.memory m.regs.bp d (front target) end (not wanted) Whatever) R (h.at s bs st m e stands r)
      (λ v st1 s1 m1 le q. give_follows S.program S.input S.mode (truth_value (not (is_true v))) s1 m1 st1 0 R
      (record { place = q.place ∙ ap (λ (b : Bool). if b then front target else end) (denied_place wanted (is_true v)); bases = q.bases; left = q.left; means = is_truth (not (is_true v)) }))
      (omega arith));
  ends = h.ends;
}

-- ---- two conditions

-- the right side, where the left one doesn't decide
rest_follows : (S : Setting) (b : List Op) (block d n c2 : ℕ) (rb : Run Value) (wanted : Bool) (target : ℕ) → Decides S b block d n c2 rb Whatever wanted target → (mid end : Place) (bs bs1 : List Extent) (st st1 : State) (m m1 : Machine) → mid.block ≡ block → Stands S.program mid b → Ready S bs1 st1 m1 d n
    → Left S bs st m.memory m.regs.bp d bs1 st1 m1 → behind_all mid b ≡ end → F S (here mid m1 st1) (fuel_of st1) c2 ((rb >>= λ y. give (truth_value (is_true y))) st1) (DecidedAt S bs st m.memory m.regs.bp d (front target) end wanted IsTruth)
rest_follows S b block d n c2 rb wanted target k mid end bs bs1 st st1 m m1 e stands r l is =
    let R = DecidedAt S bs st m.memory m.regs.bp d (front target) end wanted IsTruth in
    then_follows S.program S.input S.mode (here mid m1 st1) (fuel_of st1) c2 0 c2 rb st1 (λ y. give (truth_value (is_true y))) (DecidedAt S bs1 st1 m1.memory m1.regs.bp d (front target) (behind_all mid b) wanted Whatever) R (k.at mid bs1 st1 m1 e stands r)
    (λ y st2 s2 m2 le q. give_follows S.program S.input S.mode (truth_value (is_true y)) s2 m2 st2 0 R (record {
      place = q.place ∙ (ap (λ (t : Bool). if is_wanted wanted t then front target else behind_all mid b) (sym (true_again (is_true y))) ∙ ap (λ z. if is_wanted wanted (is_true (truth_value (is_true y))) then front target else z) is);
      bases = q.bases;
      left = left_then S bs bs1 q.bases st st1 st2 m.memory m1 m2 m.regs.bp d l q.left;
      means = is_truth (is_true y);
    }))
    (omega arith)

-- the left side decides
done_follows : (S : Setting) (wanted t : Bool) (target left k : ℕ) (end s1 : Place) (bs bs1 : List Extent) (st st1 : State) (m m1 : Machine) (d c : ℕ) → s1 ≡ front left → end ≡ front k → left ≡ (if is_wanted wanted t then target else k) → Left S bs st m.memory m.regs.bp d bs1 st1 m1
    → F S (here s1 m1 st1) (fuel_of st1) c (give (truth_value t) st1) (DecidedAt S bs st m.memory m.regs.bp d (front target) end wanted IsTruth)
done_follows S wanted t target left k end s1 bs bs1 st st1 m m1 d c e f is l =
    give_follows S.program S.input S.mode (truth_value t) s1 m1 st1 c (DecidedAt S bs st m.memory m.regs.bp d (front target) end wanted IsTruth)
    (record { place = e ∙ (ap front is ∙ (by (is_wanted wanted t) ∙ ap (λ (b : Bool). if is_wanted wanted b then front target else end) (sym (true_again t)))); bases = bs1; left = l; means = is_truth t })
  where
    by : (b : Bool) → front (if b then target else k) ≡ (if b then front target else end)
    by true = refl
    by false = sym f

chosen : (b : Bool) (t : Bool) (x y : Place) (s1 : Place) → t ≡ b → s1 ≡ (if t then x else y) → s1 ≡ (if b then x else y)
chosen b t x y s1 e f = f ∙ ap (λ (z : Bool). if z then x else y) e

pub both_decide : (S : Setting) (a b : List Op) (block d n c1 c2 : ℕ) (ra rb : Run Value) (wanted : Bool) (target left : ℕ) → left ≡ (if wanted then block + jumps a + jumps b else target) → Decides S a block d n c1 ra Whatever false left → Decides S b (block + jumps a) d n c2 rb Whatever wanted target
    → Decides S (a ++ b) block d n (c1 + c2) (ra >>= λ x. choose (is_true x) (rb >>= λ y. give (truth_value (is_true y))) (give (Word 0))) IsTruth wanted target
unfolding choose
both_decide S a b block d n c1 c2 ra rb wanted target left is ha hb = record {
  at = λ s bs st m e stands r.
      (let mid = behind_all s a in
      let end = behind_all s (a ++ b) in
      let R = DecidedAt S bs st m.memory m.regs.bp d (front target) end wanted IsTruth in
      let second : Value → Run Value = λ x. choose (is_true x) (rb >>= λ y. give (truth_value (is_true y))) (give (Word 0)) in
      let at_mid : mid.block ≡ block + jumps a = behind_block s a ∙ ap (λ z. z + jumps a) e in
      let ends : end ≡ front (block + jumps a + jumps b) = behind_append s a b ∙ (hb.ends mid ∙ ap (λ z. front (z + jumps b)) at_mid) in
      then_follows S.program S.input S.mode (here s m st) (fuel_of st) c1 c2 (c1 + c2) ra st second (DecidedAt S bs st m.memory m.regs.bp d (front left) mid false Whatever) R (ha.at s bs st m e (stands_first S.program s a b stands) r)
      (λ x st1 s1 m1 le q. go (is_true x) (by_left wanted is) s bs st m at_mid (stands_rest S.program s a b stands) r ends st1 s1 m1 le q.bases q.place q.left)
      (omega arith));
  ends = more_ends a b hb.ends;
}
  where
    by_left : (wanted : Bool) → left ≡ (if wanted then block + jumps a + jumps b else target) → left ≡ (if is_wanted wanted false then target else block + jumps a + jumps b)
    by_left true e = e
    by_left false e = e

    go : (t : Bool) → left ≡ (if is_wanted wanted false then target else block + jumps a + jumps b) → (s : Place) (bs : List Extent) (st : State) (m : Machine) → (behind_all s a).block ≡ block + jumps a → Stands S.program (behind_all s a) b → Ready S bs st m d n → behind_all s (a ++ b) ≡ front (block + jumps a + jumps b)
        → (st1 : State) (s1 : Place) (m1 : Machine) → S.mode.gauge (fuel_of st1) ≤ S.mode.gauge (fuel_of st) → (bs1 : List Extent) → s1 ≡ (if is_wanted false t then front left else behind_all s a) → Left S bs st m.memory m.regs.bp d bs1 st1 m1
        → F S (here s1 m1 st1) (fuel_of st1) c2 (choose t (rb >>= λ y. give (truth_value (is_true y))) (give (Word 0)) st1) (DecidedAt S bs st m.memory m.regs.bp d (front target) (behind_all s (a ++ b)) wanted IsTruth)
    go true i s bs st m at_mid stands r ends st1 s1 m1 le bs1 place l =
        from_place S m1 st1 c2 _ _ place (rest_follows S b (block + jumps a) d n c2 rb wanted target hb (behind_all s a) (behind_all s (a ++ b)) bs bs1 st st1 m m1 at_mid stands (ready_later S bs bs1 st st1 m m1 d n r l le) l (sym (behind_append s a b)))
    go false i s bs st m at_mid stands r ends st1 s1 m1 le bs1 place l = done_follows S wanted false target left (block + jumps a + jumps b) (behind_all s (a ++ b)) s1 bs bs1 st st1 m m1 d c2 place ends i l

pub either_decides : (S : Setting) (a b : List Op) (block d n c1 c2 : ℕ) (ra rb : Run Value) (wanted : Bool) (target left : ℕ) → left ≡ (if wanted then target else block + jumps a + jumps b) → Decides S a block d n c1 ra Whatever true left → Decides S b (block + jumps a) d n c2 rb Whatever wanted target
    → Decides S (a ++ b) block d n (c1 + c2) (ra >>= λ x. choose (is_true x) (give (Word 1)) (rb >>= λ y. give (truth_value (is_true y)))) IsTruth wanted target
unfolding choose
either_decides S a b block d n c1 c2 ra rb wanted target left is ha hb = record {
  at = λ s bs st m e stands r.
      (let mid = behind_all s a in
      let end = behind_all s (a ++ b) in
      let R = DecidedAt S bs st m.memory m.regs.bp d (front target) end wanted IsTruth in
      let second : Value → Run Value = λ x. choose (is_true x) (give (Word 1)) (rb >>= λ y. give (truth_value (is_true y))) in
      let at_mid : mid.block ≡ block + jumps a = behind_block s a ∙ ap (λ z. z + jumps a) e in
      let ends : end ≡ front (block + jumps a + jumps b) = behind_append s a b ∙ (hb.ends mid ∙ ap (λ z. front (z + jumps b)) at_mid) in
      then_follows S.program S.input S.mode (here s m st) (fuel_of st) c1 c2 (c1 + c2) ra st second (DecidedAt S bs st m.memory m.regs.bp d (front left) mid true Whatever) R (ha.at s bs st m e (stands_first S.program s a b stands) r)
      (λ x st1 s1 m1 le q. go (is_true x) (by_left wanted is) s bs st m at_mid (stands_rest S.program s a b stands) r ends st1 s1 m1 le q.bases q.place q.left)
      (omega arith));
  ends = more_ends a b hb.ends;
}
  where
    by_left : (wanted : Bool) → left ≡ (if wanted then target else block + jumps a + jumps b) → left ≡ (if is_wanted wanted true then target else block + jumps a + jumps b)
    by_left true e = e
    by_left false e = e

    go : (t : Bool) → left ≡ (if is_wanted wanted true then target else block + jumps a + jumps b) → (s : Place) (bs : List Extent) (st : State) (m : Machine) → (behind_all s a).block ≡ block + jumps a → Stands S.program (behind_all s a) b → Ready S bs st m d n → behind_all s (a ++ b) ≡ front (block + jumps a + jumps b)
        → (st1 : State) (s1 : Place) (m1 : Machine) → S.mode.gauge (fuel_of st1) ≤ S.mode.gauge (fuel_of st) → (bs1 : List Extent) → s1 ≡ (if t then front left else behind_all s a) → Left S bs st m.memory m.regs.bp d bs1 st1 m1
        → F S (here s1 m1 st1) (fuel_of st1) c2 (choose t (give (Word 1)) (rb >>= λ y. give (truth_value (is_true y))) st1) (DecidedAt S bs st m.memory m.regs.bp d (front target) (behind_all s (a ++ b)) wanted IsTruth)
    go true i s bs st m at_mid stands r ends st1 s1 m1 le bs1 place l = done_follows S wanted true target left (block + jumps a + jumps b) (behind_all s (a ++ b)) s1 bs bs1 st st1 m m1 d c2 place ends i l
    go false i s bs st m at_mid stands r ends st1 s1 m1 le bs1 place l =
        from_place S m1 st1 c2 _ _ place (rest_follows S b (block + jumps a) d n c2 rb wanted target hb (behind_all s a) (behind_all s (a ++ b)) bs bs1 st st1 m m1 at_mid stands (ready_later S bs bs1 st st1 m m1 d n r l le) l (sym (behind_append s a b)))

-- ---- two branches

jump_comes : (S : Setting) (p to : Place) (m : Machine) (st : State) (e : ℕ) → Has S.program p (Jump (constant e)) → e < 2 ^ 24 → to ≡ front e → Comes S.program S.input S.mode (here p m st) (fuel_of st) 1 (here to m st) (fuel_of st)
jump_comes S p to m st e has lt is = comes_one S.program S.input S.mode (fuel_of st) (one_jump S.program S.input p m st.taken st.output (constant e) has ∙ ap (λ z. here z m st) (ap front (small e lt) ∙ sym is))

-- a branch, and the jump behind it
branch_follows : {R : Type 0} {N : R → List Extent → Machine → Type 0} (S : Setting) (code : List Op) (block d n c e : ℕ) (run : Run R) → Lands S code block d n c run N → (p to : Place) (bs bs1 : List Extent) (st st1 : State) (m m1 : Machine) → p.block ≡ block → Stands S.program p code → Has S.program (behind_all p code) (Jump (constant e))
    → Ready S bs1 st1 m1 d n → Left S bs st m.memory m.regs.bp d bs1 st1 m1 → e < 2 ^ 24 → to ≡ front e → F S (here p m1 st1) (fuel_of st1) (c + 1) (run st1) (Reached S bs st m.memory m.regs.bp d to N)
branch_follows {R} {N} S code block d n c e run h p to bs bs1 st st1 m m1 at stands has r l lt is =
    more_behind S.program S.input S.mode (here p m1 st1) (fuel_of st1) c 1 (c + 1) (run st1) (Reached S bs1 st1 m1.memory m1.regs.bp d (behind_all p code) N) (Reached S bs st m.memory m.regs.bp d to N) (h.at p bs1 st1 m1 at stands r)
    (λ v st2 s2 m2 z. (
      to,
      m2,
      subst (λ x. Comes S.program S.input S.mode (here x m2 st2) (fuel_of st2) 1 (here to m2 st2) (fuel_of st2)) (sym z.place) (jump_comes S (behind_all p code) to m2 st2 e has lt is),
      record {
        place = refl;
        bases = z.bases;
        left = left_then S bs bs1 z.bases st st1 st2 m.memory m1 m2 m.regs.bp d l z.left;
        means = z.means;
      },
    ))
    (omega arith)

pub branches_land : {R : Type 0} {N : R → List Extent → Machine → Type 0} (S : Setting) (test one other : List Op) (block d n c0 c1 c2 t e : ℕ) (run : Run Value) (second : Value → Run R) (M : Value → Type 0) → t ≡ block + jumps test + jumps one + 1 → e ≡ t + jumps other + 1 → e < 2 ^ 24 → Decides S test block d n c0 run M false t
    → ((x : Value) → M x → is_true x ≡ true → Lands S one (block + jumps test) d n c1 (second x) N) → ((x : Value) → M x → is_true x ≡ false → Lands S other t d n c2 (second x) N)
    → Lands S (test ++ (one ++ (Jump (constant e) ∷ (other ++ Jump (constant e) ∷ [])))) block d n (c0 + (c1 + c2 + 1)) (run >>= second) N
branches_land {R} {N} S test one other block d n c0 c1 c2 t e run second M it ie lt h h1 h2 = record {
  at = λ s bs st m at stands r.
      (let j : Op = Jump (constant e) in
      let last : List Op = other ++ j ∷ [] in
      let rest : List Op = one ++ (j ∷ last) in
      let p1 = behind_all s test in
      let p2 = behind_all p1 one in
      let p3 = front (suc p2.block) in
      let p4 = behind_all p3 other in
      let end = behind_all s (test ++ rest) in
      let s1 = stands_rest S.program s test rest stands in
      let s2 = stands_rest S.program p1 one (j ∷ last) s1 in
      let s4 = stands_rest S.program p3 other (j ∷ []) s2.1 in
      let b1 : p1.block ≡ block + jumps test = behind_block s test ∙ ap (λ z. z + jumps test) at in
      let b2 : p2.block ≡ block + jumps test + jumps one = behind_block p1 one ∙ ap (λ z. z + jumps one) b1 in
      let b3 : suc p2.block ≡ t = omega (arith, b2, it) in
      let b4 : suc p4.block ≡ e = omega (arith, behind_block p3 other, b3, ie) in
      let shape : end ≡ front (suc p4.block) = behind_append s test rest ∙ (behind_append p1 one (j ∷ last) ∙ behind_append p3 other (j ∷ [])) in
      let is : end ≡ front e = shape ∙ ap front b4 in
      then_follows S.program S.input S.mode (here s m st) (fuel_of st) c0 (c1 + c2 + 1) (c0 + (c1 + c2 + 1)) run st second (DecidedAt S bs st m.memory m.regs.bp d (front t) p1 false M) (Reached S bs st m.memory m.regs.bp d end N) (h.at s bs st m at (stands_first S.program s test rest stands) r)
      (λ x st1 s0 m1 le q. go x (is_true x) refl bs q.bases st st1 m m1 s0 p1 p3 end q.means q.place (ready_later S bs q.bases st st1 m m1 d n r q.left le) q.left b1 (ap front b3) (stands_first S.program p1 one (j ∷ last) s1) s2.0 (stands_first S.program p3 other (j ∷ []) s2.1) s4.0 is)
      (omega arith));
}
  where
    go : (x : Value) (b : Bool) → is_true x ≡ b → (bs bs1 : List Extent) (st st1 : State) (m m1 : Machine) (s0 p1 p3 end : Place) → M x → s0 ≡ (if is_wanted false (is_true x) then front t else p1) → Ready S bs1 st1 m1 d n → Left S bs st m.memory m.regs.bp d bs1 st1 m1 → p1.block ≡ block + jumps test → p3 ≡ front t
        → Stands S.program p1 one → Has S.program (behind_all p1 one) (Jump (constant e)) → Stands S.program p3 other → Has S.program (behind_all p3 other) (Jump (constant e)) → end ≡ front e → F S (here s0 m1 st1) (fuel_of st1) (c1 + c2 + 1) (second x st1) (Reached S bs st m.memory m.regs.bp d end N)
    go x true is bs bs1 st st1 m m1 s0 p1 p3 end mx place r l b1 b3 k1 j1 k3 j3 ends =
        let here_is : s0 ≡ p1 = chosen false (is_wanted false (is_true x)) (front t) p1 s0 (ap not is) place in
        from_place S m1 st1 (c1 + c2 + 1) (second x st1) _ here_is
        (wider S.program S.input S.mode (here p1 m1 st1) (fuel_of st1) (c1 + 1) (c1 + c2 + 1) (second x st1) _ _ (branch_follows S one (block + jumps test) d n c1 e (second x) (h1 x mx is) p1 end bs bs1 st st1 m m1 b1 k1 j1 r l lt ends) (λ v st2 s2 m2 z. z) (omega arith))
    go x false is bs bs1 st st1 m m1 s0 p1 p3 end mx place r l b1 b3 k1 j1 k3 j3 ends =
        let to : s0 ≡ p3 = chosen true (is_wanted false (is_true x)) (front t) p1 s0 (ap not is) place ∙ sym b3 in
        from_place S m1 st1 (c1 + c2 + 1) (second x st1) _ to
        (wider S.program S.input S.mode (here p3 m1 st1) (fuel_of st1) (c2 + 1) (c1 + c2 + 1) (second x st1) _ _ (branch_follows S other t d n c2 e (second x) (h2 x mx is) p3 end bs bs1 st st1 m m1 (ap (λ (z : Place). z.block) b3) k3 j3 r l lt ends) (λ v st2 s2 m2 z. z) (omega arith))

pub choice_lands : (S : Setting) (test one other : List Op) (block d n c0 c1 c2 t e : ℕ) (ra rb rc : Run Value) → t ≡ block + jumps test + jumps one + 1 → e ≡ t + jumps other + 1 → e < 2 ^ 24 → Decides S test block d n c0 ra Whatever false t → Lands S one (block + jumps test) d n c1 rb (InA S) → Lands S other t d n c2 rc (InA S)
    → Lands S (test ++ (one ++ (Jump (constant e) ∷ (other ++ Jump (constant e) ∷ [])))) block d n (c0 + (c1 + c2 + 1)) (ra >>= λ x. choose (is_true x) rb rc) (InA S)
unfolding choose
choice_lands S test one other block d n c0 c1 c2 t e ra rb rc it ie lt h lb lc =
    branches_land S test one other block d n c0 c1 c2 t e ra (λ x. choose (is_true x) rb rc) Whatever it ie lt h (λ x mx is. subst (λ b. Lands S one (block + jumps test) d n c1 (choose b rb rc) (InA S)) (sym is) lb) (λ x mx is. subst (λ b. Lands S other t d n c2 (choose b rb rc) (InA S)) (sym is) lc)

-- a truth as a word
word_lands : (S : Setting) (k : ℕ) (x : Value) (block d n : ℕ) → k < 2 → x ≡ Word k → Lands S (Mov A (constant k) ∷ []) block d n 1 (give x) (InA S)
word_lands S k x block d n lt is = quiet_lands (record { quiet = (tt, tt); memory = λ m. refl; frame = λ m. refl }) (λ bs st m r. give_still st (λ z. InA S z bs (made_all (Mov A (constant k) ∷ []) m)) x (subst (λ z. Means S.ground bs z (k % 2 ^ 24)) (sym is) (omega (arith, lt), omega (arith, lt))))

pub truth_word_lands : (S : Setting) (test : ℕ → List Op) (block d n c k : ℕ) (run : Run Value) → jumps (test (block + k + 1)) ≡ k → block + k + 2 < 2 ^ 24 → Decides S (test (block + k + 1)) block d n c run IsTruth false (block + k + 1) → Lands S (truth_word block k test) block d n (c + 3) run (InA S)
truth_word_lands S test block d n c k run count lt h =
    lands_given (branches_land S (test (block + k + 1)) (Mov A (constant 1) ∷ []) (Mov A (constant 0) ∷ []) block d n c 1 1 (block + k + 1) (block + k + 2) run give IsTruth (omega (arith, count)) (omega arith) lt h
    (λ x mx is. word_lands S 1 x (block + jumps (test (block + k + 1))) d n (omega arith) (mx ∙ ap truth_value is)) (λ x mx is. word_lands S 0 x (block + k + 1) d n (omega arith) (mx ∙ ap truth_value is)))
