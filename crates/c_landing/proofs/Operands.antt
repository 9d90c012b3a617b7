-- Two operands: in order, the first behind the second, or the first waiting in the frame.
use Rattle.std.proofs.Common.{◌≡◌, ℕ, suc, ◌+◌, ◌%◌, ◌^◌, ◌<◌, ◌≤◌, Bool, true, false, List, ◌++◌, length, refl, sym, ap, ◌∙◌, subst, arith, append_assoc}
use Rattle.eir_core.specs.Memory.{word_at}
use Rattle.eir_core.proofs.WordAt.{word_at-with_word_same}
use Rattle.eir_core.specs.declared.ops.Reg.TheVariants.{A, B}
use Rattle.eir_core.specs.declared.ops.Operand.TheVariants.{Reg as register}
use Rattle.eir_core.specs.declared.ops.Op.{Op}
use Rattle.c_eval.specs.State.{Value, State, Outcome, Gives, Ended, Going, Undefined, Run}
use Rattle.c_eval.specs.Run.{◌>>=◌}
use Rattle.c_place.specs.Code.{jumps}
use Rattle.c_place.specs.Place.{Place, Machine, Stands, behind_all, made_all}
use Rattle.c_place.proofs.Running.{behind_append, behind_block, stands_first, stands_rest}
use Rattle.c_lowered.specs.Locations.{Direct, Exactly, Address, Stored, is_steady}
use Rattle.c_lowered.specs.Operations.{load_to, save, restore, ready, operand_of}
use Rattle.c_memory.specs.Follows.{fuel_of, here, Comes}
use Rattle.c_memory.specs.Lies.{Extent, IsFree, Means, Post}
use Rattle.c_memory.proofs.Following.{Claim, first_then, wider, comes_quiet}
use Rattle.c_memory.proofs.Lying.{lies_over, lies_down, post_over, post_then, means_later}
use Rattle.c_landing.specs.Landing.{Setting, Ready, Reached, Lands, Goes, InA, InOperands, on_both, GivesStill, direct_word, NumberIsSmall, IsDirect, MayTurn}
use Rattle.c_landing.proofs.Landing.{F, then_from, then_at, then_lands, letters_later, ready_later}
use Rattle.c_landing.proofs.Pieces.{after_still, quiet_then, ready_keeps, ready_value, ready_a, ready_length, load_length, load_b_keeps, load_b_made, saved, save_made, restore_made, restore_keeps}

-- ---- in order

ready_goes : {R : Type 0} {S : Setting} {tail : List Op} {block d n ct : ℕ} {v : Direct} {rb : Run Value} {N : R → List Extent → Machine → Type 0} (f : Value → Value → Run R) → IsDirect S v rb
    → Goes S tail (block + jumps (ready v)) d n ct (on_both f) (InOperands S A (operand_of v)) N → Goes S (ready v ++ tail) block d n (3 + ct) (λ x. rb >>= λ y. f x y) (InA S) N
unfolding ◌>>=◌
ready_goes {R} {S} {tail} {block} {d} {n} {ct} {v} {rb} {N} f h g = record {
  at = λ x s bs st m e stands r mx. after_still S s m st (3 + ct) (rb st) (λ y. f x y) (λ y. Means S.ground bs y (direct_word m v) × NumberIsSmall y v) (Reached S bs st m.memory m.regs.bp d (behind_all s (ready v ++ tail)) N) (h.at bs st m d n r)
      (λ y is q. wider S.program S.input S.mode (here s m st) (fuel_of st) (length (ready v) + ct) (3 + ct) (f x y st) _ _
      (quiet_then S s bs st m d n (ready v) tail ct (f x y st) N (ready_keeps v) stands r (λ r1 h1. g.at (x, y) (behind_all s (ready v)) bs st (made_all (ready v) m) (behind_block s (ready v) ∙ ap (λ z. z + jumps (ready v)) e) h1 r1
      (subst (λ z. Means S.ground bs x z) (sym (ready_a v m)) mx, subst (λ z. Means S.ground bs y z) (sym (ready_value v m)) q.0)))
      (λ w st1 s1 m1 z. z) (omega (arith, ready_length v)));
}

pub in_order_lands : {R : Type 0} {S : Setting} {a tail : List Op} {block d n ca ct : ℕ} {v : Direct} {ra rb : Run Value} {N : R → List Extent → Machine → Type 0} (f : Value → Value → Run R) → Lands S a block d n ca ra (InA S) → IsDirect S v rb
    → Goes S tail (block + jumps a + jumps (ready v)) d n ct (on_both f) (InOperands S A (operand_of v)) N → Lands S ((a ++ ready v) ++ tail) block d n (ca + (3 + ct)) (ra >>= λ x. rb >>= λ y. f x y) N
in_order_lands {S = S} {a = a} {tail = tail} {block = block} {d = d} {n = n} {ca = ca} {ct = ct} {v = v} {ra = ra} {rb = rb} {N = N} f la h g =
    subst (λ code. Lands S code block d n (ca + (3 + ct)) (ra >>= λ x. rb >>= λ y. f x y) N) (sym (append_assoc a (ready v) tail)) (then_lands la (ready_goes f h g))

-- ---- the first behind the second

and_still : {A : Type 0} (S : Setting) (s : Place) (m : Machine) (st : State) (c : ℕ) (o : Outcome A) (Q : Claim A) → F S (here s m st) (fuel_of st) c o Q → GivesStill st (λ z. Unit {0}) o → F S (here s m st) (fuel_of st) c o (λ v st1 s1 m1. Q v st1 s1 m1 × (st1 ≡ st))
and_still S s m st c (Gives v st1) Q (s1, m1, g, q) h = (s1, m1, g, (q, h.0))
and_still S s m st c (Ended st1) Q f h = f
and_still S s m st c (Going st1) Q f h = f
and_still S s m st c (Undefined act st1) Q f h = f

-- the second in A, and the first where the code that loads it finds it
abbrev Behind : Setting → Direct → Value → Value → List Extent → Machine → Type 0
Behind S v x y bs m = InA S y bs m × Means S.ground bs x (direct_word m v)

steady_word : (v : Direct) (m m1 : Machine) → is_steady v ≡ true → m1.regs.bp ≡ m.regs.bp → direct_word m1 v ≡ direct_word m v
steady_word (Exactly n) m m1 t e = refl
steady_word (Address k) m m1 t e = ap (λ z. (z + k % 2 ^ 24) % 2 ^ 24) e
steady_word (Stored l) m m1 t e = absurd (cc t)

still_there : (S : Setting) (v : Direct) (x : Value) (bs : List Extent) (st : State) (m : Machine) (d n : ℕ) (to : Place) → Ready S bs st m d n → is_steady v ≡ true → Means S.ground bs x (direct_word m v)
    → (y : Value) (st1 : State) (s1 : Place) (m1 : Machine) → Reached S bs st m.memory m.regs.bp d to (InA S) y st1 s1 m1 → Reached S bs st m.memory m.regs.bp d to (Behind S v x) y st1 s1 m1
still_there S v x bs st m d n to r t mx y st1 s1 m1 q = record {
  place = q.place;
  bases = q.bases;
  left = q.left;
  means = (q.means, subst (λ z. Means S.ground q.bases x z) (sym (steady_word v m m1 t q.left.framed)) (means_later S.ground x (direct_word m v) r.lies.seen q.left.post mx));
}

-- the value of a still part is the same again
same_again : (S : Setting) (v : Direct) (ra : Run Value) (x : Value) (bs : List Extent) (st : State) (m : Machine) (d n : ℕ) → IsDirect S v ra → ra st ≡ Gives x st → Ready S bs st m d n → Means S.ground bs x (direct_word m v)
same_again S v ra x bs st m d n h e r = let q = subst (λ o. GivesStill st (λ x. Means S.ground bs x (direct_word m v) × NumberIsSmall x v) o) e (h.at bs st m d n r) in q.1.0

read_behind : (S : Setting) (v : Direct) (ra : Run Value) (x : Value) (bs : List Extent) (st : State) (m : Machine) (d n : ℕ) (to : Place) → Ready S bs st m d n → IsDirect S v ra → ra st ≡ Gives x st
    → (y : Value) (st1 : State) (s1 : Place) (m1 : Machine) → Reached S bs st m.memory m.regs.bp d to (InA S) y st1 s1 m1 × (st1 ≡ st) → Reached S bs st m.memory m.regs.bp d to (Behind S v x) y st1 s1 m1
read_behind S v ra x bs st m d n to r h is y st1 s1 m1 q =
    let less : S.mode.gauge (fuel_of st1) ≤ S.mode.gauge (fuel_of st) = omega (arith, ap (λ z. S.mode.gauge (fuel_of z)) q.1) in
    let later = ready_later S bs q.0.bases st st1 m m1 d n r q.0.left less in
    let again : ra st1 ≡ Gives x st1 = subst (λ z. ra z ≡ Gives x z) (sym q.1) is in
    record { place = q.0.place; bases = q.0.bases; left = q.0.left; means = (q.0.means, same_again S v ra x q.0.bases st1 m1 d n h again later) }

load_goes : {R : Type 0} {S : Setting} {tail : List Op} {block d n ct : ℕ} {N : R → List Extent → Machine → Type 0} (v : Direct) (f : Value → Value → Run R) (x : Value)
    → Goes S tail (block + jumps (load_to B v)) d n ct (on_both f) (InOperands S B (register A)) N → Goes S (load_to B v ++ tail) block d n (3 + ct) (λ y. f x y) (Behind S v x) N
load_goes {R = R} {S = S} {tail = tail} {d = d} {n = n} {ct = ct} {N = N} v f x g = record {
  at = λ y s bs st m e stands r q.
      wider S.program S.input S.mode (here s m st) (fuel_of st) (length (load_to B v) + ct) (3 + ct) (f x y st) _ _
      (quiet_then S s bs st m d n (load_to B v) tail ct (f x y st) N (load_b_keeps v) stands r (λ r1 h1. g.at (x, y) (behind_all s (load_to B v)) bs st (made_all (load_to B v) m) (behind_block s (load_to B v) ∙ ap (λ z. z + jumps (load_to B v)) e) h1 r1
      (let P : Machine → Type 0 = λ z. Means S.ground bs x z.regs.b × Means S.ground bs y z.regs.a in subst P (sym (load_b_made v m)) (q.1, q.0))))
      (λ w st1 s1 m1 z. z) (omega (arith, load_length B v));
}

pub turned_lands : {R : Type 0} {S : Setting} {b tail : List Op} {block d n cb ct : ℕ} {v : Direct} {ra rb : Run Value} {N : R → List Extent → Machine → Type 0} (f : Value → Value → Run R) → IsDirect S v ra → MayTurn v rb → Lands S b block d n cb rb (InA S)
    → Goes S tail (block + jumps b + jumps (load_to B v)) d n ct (on_both f) (InOperands S B (register A)) N → Lands S ((b ++ load_to B v) ++ tail) block d n (cb + (3 + ct)) (ra >>= λ x. rb >>= λ y. f x y) N
unfolding ◌>>=◌
turned_lands {R = R} {S = S} {b = b} {tail = tail} {block = block} {d = d} {n = n} {cb = cb} {ct = ct} {v = v} {ra = ra} {rb = rb} {N = N} f h turn lb g =
    subst (λ code. Lands S code block d n (cb + (3 + ct)) (ra >>= λ x. rb >>= λ y. f x y) N) (sym (append_assoc b (load_to B v) tail)) (record {
      at = λ s bs st m e stands r. after_still S s m st (cb + (3 + ct)) (ra st) (λ x. rb >>= λ y. f x y) (λ x. Means S.ground bs x (direct_word m v) × NumberIsSmall x v) (Reached S bs st m.memory m.regs.bp d (behind_all s (b ++ (load_to B v ++ tail))) N) (h.at bs st m d n r)
          (λ x is q. then_at S b (load_to B v ++ tail) block d n cb (3 + ct) rb (λ y. f x y) (Behind S v x) N (load_goes v f x g) s bs st m e stands r
          (both s bs st m r x is q.0 (lb.at s bs st m e (stands_first S.program s b (load_to B v ++ tail) stands) r) turn.quiet refl));
    })
  where
    both : (s : Place) (bs : List Extent) (st : State) (m : Machine) → Ready S bs st m d n → (x : Value) → ra st ≡ Gives x st → Means S.ground bs x (direct_word m v) → F S (here s m st) (fuel_of st) cb (rb st) (Reached S bs st m.memory m.regs.bp d (behind_all s b) (InA S))
        → (t : Bool) → turn.quiet ≡ t → F S (here s m st) (fuel_of st) cb (rb st) (Reached S bs st m.memory m.regs.bp d (behind_all s b) (Behind S v x))
    both s bs st m r x is mx k false t = wider S.program S.input S.mode (here s m st) (fuel_of st) cb cb (rb st) _ _ k (still_there S v x bs st m d n (behind_all s b) r (turn.steady t) mx) (omega arith)
    both s bs st m r x is mx k true t = wider S.program S.input S.mode (here s m st) (fuel_of st) cb cb (rb st) _ _ (and_still S s m st cb (rb st) _ k ((turn.still t).at st)) (read_behind S v ra x bs st m d n (behind_all s b) r h is) (omega arith)

-- ---- the first waits

-- the second in A, and the first in the frame's word d
abbrev Waits : Setting → ℕ → Value → Value → List Extent → Machine → Type 0
Waits S d x y bs m = InA S y bs m × Means S.ground bs x (word_at m.memory (m.regs.bp + d))

-- behind the word that waits
pub ready_above : (S : Setting) (bs : List Extent) (st : State) (m : Machine) (d n : ℕ) → Ready S bs st m d (suc n) → Ready S bs st (saved m d) (suc d) n
ready_above S bs st m d n r = record {
  lies = lies_over (m.regs.bp + d) m.regs.a (m.regs.bp + suc d) r.lies (omega arith) (omega arith);
  letters = letters_later S.ground bs bs st.objects st.objects m.memory (saved m d).memory (m.regs.bp + d) m.regs.bp (omega arith) (post_over bs st.objects m.memory (m.regs.bp + d) m.regs.a (omega arith)) r.letters;
  names = r.names;
  file = r.file;
  room = omega (arith, r.room);
  under = r.under;
  fits = r.fits;
  fuelled = r.fuelled;
}

below_waiting : (S : Setting) (x : Value) (bs : List Extent) (st : State) (m : Machine) (d n : ℕ) (to : Place) → Ready S bs st m d (suc n) → Means S.ground bs x m.regs.a
    → (y : Value) (st1 : State) (s1 : Place) (m1 : Machine) → Reached S bs st (saved m d).memory m.regs.bp (suc d) to (InA S) y st1 s1 m1 → Reached S bs st m.memory m.regs.bp d to (Waits S d x) y st1 s1 m1
below_waiting S x bs st m d n to r mx y st1 s1 m1 q =
    let free : IsFree bs st.objects (m.regs.bp + d) = λ o j c z g. omega (arith, r.lies.below o j c z, g) in
    let word : word_at m1.memory (m1.regs.bp + d) ≡ m.regs.a =
    ap (λ z. word_at m1.memory (z + d)) q.left.framed ∙ (q.left.post.keeps (m.regs.bp + d) (omega arith) free ∙ word_at-with_word_same m.memory (m.regs.bp + d) m.regs.a) in
    let post : Post (m.regs.bp + d) bs st.objects m.memory q.bases st1.objects m1.memory = post_then {top0 = m.regs.bp + d} {top1 = m.regs.bp + suc d} (omega arith) (omega arith) (post_over bs st.objects m.memory (m.regs.bp + d) m.regs.a (omega arith)) q.left.post in
    record {
      place = q.place;
      bases = q.bases;
      left = record { framed = q.left.framed; lies = lies_down r.lies post q.left.lies; post = post; charge = q.left.charge; words = q.left.words };
      means = (q.means, subst (λ z. Means S.ground q.bases x z) (sym word) (means_later S.ground x m.regs.a r.lies.seen post mx));
    }

restore_goes : {R : Type 0} {S : Setting} {tail : List Op} {block d n ct : ℕ} {N : R → List Extent → Machine → Type 0} (f : Value → Value → Run R) (x : Value)
    → Goes S tail block d (suc n) ct (on_both f) (InOperands S B (register A)) N → Goes S (restore B d ++ tail) block d (suc n) (3 + ct) (λ y. f x y) (Waits S d x) N
restore_goes {R = R} {S = S} {tail = tail} {d = d} {n = n} {ct = ct} {N = N} f x g = record {
  at = λ y s bs st m e stands r q.
      (let small : m.regs.bp + d < 2 ^ 24 = omega (arith, r.room, r.fits) in
      quiet_then S s bs st m d (suc n) (restore B d) tail ct (f x y st) N (restore_keeps d) stands r (λ r1 h1. g.at (x, y) (behind_all s (restore B d)) bs st (made_all (restore B d) m) e h1 r1
      (let P : Machine → Type 0 = λ z. Means S.ground bs x z.regs.b × Means S.ground bs y z.regs.a in subst P (sym (restore_made m d small)) (q.1, q.0))));
}

pub save_comes : (S : Setting) (s : Place) (m : Machine) (st : State) (d : ℕ) → m.regs.bp + d < 2 ^ 24 → Stands S.program s (save d) → Comes S.program S.input S.mode (here s m st) (fuel_of st) 3 (here (behind_all s (save d)) (saved m d) st) (fuel_of st)
save_comes S s m st d lt h =
    let P : Machine → Type 0 = λ z. Comes S.program S.input S.mode (here s m st) (fuel_of st) 3 (here (behind_all s (save d)) z st) (fuel_of st) in
    subst P (save_made m d lt) (comes_quiet S.program S.input S.mode s m st (save d) (fuel_of st) (tt, (tt, (tt, tt))) h)

wait_goes : {R : Type 0} {S : Setting} {b tail : List Op} {block d n cb ct : ℕ} {rb : Run Value} {N : R → List Extent → Machine → Type 0} (f : Value → Value → Run R) → Lands S b block (suc d) n cb rb (InA S)
    → Goes S tail (block + jumps b) d (suc n) ct (on_both f) (InOperands S B (register A)) N → Goes S (save d ++ (b ++ (restore B d ++ tail))) block d (suc n) (3 + (cb + (3 + ct))) (λ x. rb >>= λ y. f x y) (InA S) N
wait_goes {R = R} {S = S} {b = b} {tail = tail} {block = block} {d = d} {n = n} {cb = cb} {ct = ct} {rb = rb} {N = N} f lb g = record {
  at = λ x s bs st m e stands r mx.
      (let rest = b ++ (restore B d ++ tail) in
      let ss = behind_all s (save d) in
      let ms = saved m d in
      let sb = behind_all ss b in
      let small : m.regs.bp + d < 2 ^ 24 = omega (arith, r.room, r.fits) in
      let h2 = stands_rest S.program s (save d) rest stands in
      let end : behind_all s (save d ++ rest) ≡ behind_all sb (restore B d ++ tail) = behind_append s (save d) rest ∙ behind_append ss b (restore B d ++ tail) in
      let G : Place → Type 0 = λ z. F S (here s m st) (fuel_of st) (3 + (cb + (3 + ct))) ((rb >>= λ y. f x y) st) (Reached S bs st m.memory m.regs.bp d z N) in
      subst G (sym end)
      (first_then S.program S.input S.mode 3 (cb + (3 + ct)) (3 + (cb + (3 + ct))) ((rb >>= λ y. f x y) st) _ (save_comes S s m st d small (stands_first S.program s (save d) rest stands))
      (then_from S (restore B d ++ tail) (block + jumps b) d (suc n) cb (3 + ct) rb (λ y. f x y) (Waits S d x) N (restore_goes f x g) (here ss ms st) sb bs st m (behind_block ss b ∙ ap (λ z. z + jumps b) e) (stands_rest S.program ss b (restore B d ++ tail) h2) r
      (wider S.program S.input S.mode (here ss ms st) (fuel_of st) cb cb (rb st) _ _ (lb.at ss bs st ms e (stands_first S.program ss b (restore B d ++ tail) h2) (ready_above S bs st m d n r)) (below_waiting S x bs st m d n sb r mx) (omega arith)))
      (omega arith)));
}

pub waiting_lands : {R : Type 0} {S : Setting} {a b tail : List Op} {block d n ca cb ct : ℕ} {ra rb : Run Value} {N : R → List Extent → Machine → Type 0} (f : Value → Value → Run R) → Lands S a block d (suc n) ca ra (InA S) → Lands S b (block + jumps a) (suc d) n cb rb (InA S)
    → Goes S tail (block + jumps a + jumps b) d (suc n) ct (on_both f) (InOperands S B (register A)) N → Lands S ((a ++ (save d ++ (b ++ restore B d))) ++ tail) block d (suc n) (ca + (3 + (cb + (3 + ct)))) (ra >>= λ x. rb >>= λ y. f x y) N
waiting_lands {R = R} {S = S} {a = a} {b = b} {tail = tail} {block = block} {d = d} {n = n} {ca = ca} {cb = cb} {ct = ct} {ra = ra} {rb = rb} {N = N} f la lb g =
    let shape : (a ++ (save d ++ (b ++ restore B d))) ++ tail ≡ a ++ (save d ++ (b ++ (restore B d ++ tail))) =
    append_assoc a (save d ++ (b ++ restore B d)) tail ∙ ap (λ z. a ++ z) (append_assoc (save d) (b ++ restore B d) tail ∙ ap (λ z. save d ++ z) (append_assoc b (restore B d) tail)) in
    subst (λ code. Lands S code block d (suc n) (ca + (3 + (cb + (3 + ct)))) (ra >>= λ x. rb >>= λ y. f x y) N) (sym shape) (then_lands la (wait_goes f lb g))
