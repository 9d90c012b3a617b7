-- Code that uses the frame from a word higher on, and values that wait while it runs.
use Rattle.std.proofs.Common.{◌≡◌, ℕ, suc, ◌+◌, ◌^◌, ◌<◌, List, ◌++◌, sym, ap, ◌∙◌, subst, arith}
use Rattle.eir_core.specs.Memory.{word_at}
use Rattle.eir_core.proofs.WordAt.{word_at-with_word_same}
use Rattle.eir_core.specs.declared.ops.Op.{Op}
use Rattle.c_eval.specs.State.{Value, State, Run}
use Rattle.c_eval.specs.Run.{◌>>=◌}
use Rattle.c_place.specs.Code.{jumps}
use Rattle.c_place.specs.Place.{Place, Machine, behind_all}
use Rattle.c_place.proofs.Running.{behind_append, behind_block, stands_first, stands_rest}
use Rattle.c_lowered.specs.Operations.{save}
use Rattle.c_memory.specs.Follows.{fuel_of, here}
use Rattle.c_memory.specs.Lies.{Extent, IsFree, Means, Post}
use Rattle.c_memory.proofs.Following.{first_then, wider}
use Rattle.c_memory.proofs.Lying.{lies_up, lies_down, post_over, post_lower, post_then, means_later}
use Rattle.c_landing.specs.Landing.{Setting, Ready, Reached, Lands, Goes, InA}
use Rattle.c_landing.proofs.Landing.{F, then_from}
use Rattle.c_landing.proofs.Operands.{ready_above, save_comes}
use Rattle.c_landing.proofs.Pieces.{saved}

-- ---- a word higher

pub ready_up : (S : Setting) (bs : List Extent) (st : State) (m : Machine) (d n : ℕ) → Ready S bs st m d (suc n) → Ready S bs st m (suc d) n
ready_up S bs st m d n r = record { lies = lies_up (m.regs.bp + suc d) r.lies (omega arith); letters = r.letters; names = r.names; file = r.file; room = omega (arith, r.room); under = r.under; fits = r.fits; fuelled = r.fuelled }

reached_lower : {A : Type 0} (S : Setting) (bs : List Extent) (st : State) (m : Machine) (d n : ℕ) (to : Place) (M : A → List Extent → Machine → Type 0) → Ready S bs st m d n
    → (v : A) (st1 : State) (s1 : Place) (m1 : Machine) → Reached S bs st m.memory m.regs.bp (suc d) to M v st1 s1 m1 → Reached S bs st m.memory m.regs.bp d to M v st1 s1 m1
reached_lower S bs st m d n to M r v st1 s1 m1 q = record {
  place = q.place;
  bases = q.bases;
  left = record {
    framed = q.left.framed;
    lies = lies_down r.lies q.left.post q.left.lies;
    post = post_lower (m.regs.bp + suc d) (m.regs.bp + d) (omega arith) q.left.post;
    charge = q.left.charge;
    words = q.left.words;
  };
  means = q.means;
}

pub lands_up : {A : Type 0} {S : Setting} {code : List Op} {block d n c : ℕ} {run : Run A} {M : A → List Extent → Machine → Type 0} → Lands S code block (suc d) n c run M → Lands S code block d (suc n) c run M
lands_up {S = S} {code = code} {d = d} {n = n} {c = c} {run = run} {M = M} l = record {
  at = λ s bs st m e stands r. wider S.program S.input S.mode (here s m st) (fuel_of st) c c (run st) (Reached S bs st m.memory m.regs.bp (suc d) (behind_all s code) M) (Reached S bs st m.memory m.regs.bp d (behind_all s code) M) (l.at s bs st m e stands (ready_up S bs st m d n r))
      (λ v st1 s1 m1 q. reached_lower S bs st m d (suc n) (behind_all s code) M r v st1 s1 m1 q) (omega arith);
}

-- ---- values that wait

-- a value waits in the frame's word d
abbrev pub Waited : {B : Type 0} → Setting → ℕ → (B → List Extent → Machine → Type 0) → Value → B → List Extent → Machine → Type 0
Waited S d M x y bs m = M y bs m × Means S.ground bs x (word_at m.memory (m.regs.bp + d))

below_waited : {B : Type 0} (S : Setting) (M : B → List Extent → Machine → Type 0) (x : Value) (bs : List Extent) (st : State) (m : Machine) (d n : ℕ) (to : Place) → Ready S bs st m d (suc n) → Means S.ground bs x m.regs.a
    → (y : B) (st1 : State) (s1 : Place) (m1 : Machine) → Reached S bs st (saved m d).memory m.regs.bp (suc d) to M y st1 s1 m1 → Reached S bs st m.memory m.regs.bp d to (Waited S d M x) y st1 s1 m1
below_waited S M x bs st m d n to r mx y st1 s1 m1 q =
    let free : IsFree bs st.objects (m.regs.bp + d) = λ o j c z g. omega (arith, r.lies.below o j c z, g) in
    let word : word_at m1.memory (m1.regs.bp + d) ≡ m.regs.a =
    ap (λ z. word_at m1.memory (z + d)) q.left.framed ∙ (q.left.post.keeps (m.regs.bp + d) (omega arith) free ∙ word_at-with_word_same m.memory (m.regs.bp + d) m.regs.a) in
    let post : Post (m.regs.bp + d) bs st.objects m.memory q.bases st1.objects m1.memory = post_then {top0 = m.regs.bp + d} {top1 = m.regs.bp + suc d} (omega arith) (omega arith) (post_over bs st.objects m.memory (m.regs.bp + d) m.regs.a (omega arith)) q.left.post in
    record {
      place = q.place;
      bases = q.bases;
      left = record { framed = q.left.framed; lies = lies_down r.lies post q.left.lies; post = post; charge = q.left.charge; words = q.left.words };
      means = (q.means, subst (λ z. Means S.ground q.bases x z) (sym word) (means_later S.ground x m.regs.a r.lies.seen post mx));
    }

-- a value is saved, then comes a part higher in the frame, and then what follows of both
pub save_then_goes : {B R : Type 0} {S : Setting} {b tail : List Op} {block d n cb ct : ℕ} {rb : Run B} {M : B → List Extent → Machine → Type 0} {N : R → List Extent → Machine → Type 0} (f : Value → B → Run R) → Lands S b block (suc d) n cb rb M
    → ((x : Value) → Goes S tail (block + jumps b) d (suc n) ct (λ y. f x y) (Waited S d M x) N) → Goes S (save d ++ (b ++ tail)) block d (suc n) (3 + (cb + ct)) (λ x. rb >>= λ y. f x y) (InA S) N
save_then_goes {B} {R} {S = S} {b = b} {tail = tail} {block = block} {d = d} {n = n} {cb = cb} {ct = ct} {rb = rb} {M = M} {N = N} f lb g = record {
  at = λ x s bs st m e stands r mx.
      (let rest = b ++ tail in
      let ss = behind_all s (save d) in
      let ms = saved m d in
      let sb = behind_all ss b in
      let small : m.regs.bp + d < 2 ^ 24 = omega (arith, r.room, r.fits) in
      let h2 = stands_rest S.program s (save d) rest stands in
      let end : behind_all s (save d ++ rest) ≡ behind_all sb tail = behind_append s (save d) rest ∙ behind_append ss b tail in
      let G : Place → Type 0 = λ z. F S (here s m st) (fuel_of st) (3 + (cb + ct)) ((rb >>= λ y. f x y) st) (Reached S bs st m.memory m.regs.bp d z N) in
      subst G (sym end)
      (first_then S.program S.input S.mode 3 (cb + ct) (3 + (cb + ct)) ((rb >>= λ y. f x y) st) _ (save_comes S s m st d small (stands_first S.program s (save d) rest stands))
      (then_from S tail (block + jumps b) d (suc n) cb ct rb (λ y. f x y) (Waited S d M x) N (g x) (here ss ms st) sb bs st m (behind_block ss b ∙ ap (λ z. z + jumps b) e) (stands_rest S.program ss b tail h2) r
      (wider S.program S.input S.mode (here ss ms st) (fuel_of st) cb cb (rb st) _ _ (lb.at ss bs st ms e (stands_first S.program ss b tail h2) (ready_above S bs st m d n r)) (below_waited S M x bs st m d n sb r mx) (omega arith)))
      (omega arith)));
}
