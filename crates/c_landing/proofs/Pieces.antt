-- Pieces of quiet code, and what they leave.
use Rattle.std.proofs.Common.{◌≡◌, ℕ, ◌+◌, ◌%◌, ◌^◌, ◌<◌, ◌≤◌, List, ◌++◌, length, refl, sym, ap, subst, arith}
use Rattle.word24.specs.Word.{sum_word}
use Rattle.eir_core.specs.Memory.{Memory, word_at, with_word}
use Rattle.eir_core.specs.Step.{with_reg, value_of}
use Rattle.eir_core.specs.declared.ops.Reg.{Reg}
use Rattle.eir_core.specs.declared.ops.Reg.TheVariants.{A, B}
use Rattle.eir_core.specs.declared.ops.Op.{Op}
use Rattle.c_eval.specs.State.{Value, State, Outcome, Gives, Ended, Going, Undefined, Run}
use Rattle.c_eval.specs.Run.{after}
use Rattle.c_place.specs.Place.{Place, Machine, Stands, behind_all, AreQuiet, made_all}
use Rattle.c_place.proofs.Running.{behind_append, stands_first, stands_rest}
use Rattle.c_lowered.specs.Locations.{Fixed, Framed, Direct, Exactly, Address, Stored}
use Rattle.c_lowered.specs.Operations.{load_to, save, restore, ready, operand_of}
use Rattle.c_memory.specs.Follows.{fuel_of, here}
use Rattle.c_memory.specs.Lies.{Extent, Lies}
use Rattle.c_memory.proofs.Following.{Claim, looser, comes_here, comes_quiet, first_then}
use Rattle.c_memory.proofs.Lying.{post_here}
use Rattle.c_landing.specs.Landing.{Setting, LettersLie, NamesLie, Ready, Left, Reached, Lands, Goes, InA, GivesStill, direct_word, IsDirect}
use Rattle.c_landing.proofs.Landing.{F}
use Rattle.c_landing.proofs.Stilling.{still_wider}

-- ---- code that keeps the memory and the frame

pub record KeepsFrame (ops : List Op) : Type 0 where
  pub quiet : AreQuiet ops
  pub memory : (m : Machine) → (made_all ops m).memory ≡ m.memory
  pub frame : (m : Machine) → (made_all ops m).regs.bp ≡ m.regs.bp

pub ready_same : (S : Setting) (bs : List Extent) (st : State) (m m1 : Machine) (d n : ℕ) → m1.memory ≡ m.memory → m1.regs.bp ≡ m.regs.bp → Ready S bs st m d n → Ready S bs st m1 d n
ready_same S bs st m m1 d n e f r = record {
  lies = subst (λ z. Lies S.ground bs st.objects z (m1.regs.bp + d)) (sym e) (subst (λ z. Lies S.ground bs st.objects m.memory (z + d)) (sym f) r.lies);
  letters = subst (λ z. LettersLie S.ground bs st.objects z m1.regs.bp) (sym e) (subst (λ z. LettersLie S.ground bs st.objects m.memory z) (sym f) r.letters);
  names = subst (λ z. NamesLie bs z S.linking.bases S.coded S.named) (sym f) r.names;
  file = r.file;
  room = omega (arith, r.room, f);
  under = r.under;
  fits = r.fits;
  fuelled = r.fuelled;
}

pub left_same : (S : Setting) (bs : List Extent) (st : State) (m m1 : Machine) (d n : ℕ) → m1.memory ≡ m.memory → m1.regs.bp ≡ m.regs.bp → Ready S bs st m d n → Left S bs st m.memory m.regs.bp d bs st m1
left_same S bs st m m1 d n e f r =
    subst (λ z. Left S bs st m.memory m.regs.bp d bs st (record m1 { memory = z })) (sym e)
    (record { framed = f; lies = r.lies; post = post_here (m.regs.bp + d) bs st.objects m.memory; charge = refl; words = refl })

-- an outcome with the state as it was, and then what follows
pub after_still : {A B : Type 0} (S : Setting) (s : Place) (m : Machine) (st : State) (c : ℕ) (o : Outcome A) (f : A → Run B) (Q : A → Type 0) (R : Claim B) → GivesStill st Q o
    → ((v : A) → o ≡ Gives v st → Q v → F S (here s m st) (fuel_of st) c (f v st) R) → F S (here s m st) (fuel_of st) c (after o f) R
unfolding after
after_still {A} {B} S s m st c (Gives v st1) f Q R h k = go st1 h.0
  where
    go : (st1 : State) → st1 ≡ st → F S (here s m st) (fuel_of st) c (f v st1) R
    go st1 e = subst (λ z. F S (here s m st) (fuel_of st) c (f v z) R) (sym e) (k v (ap (Gives v) h.0) h.1)
after_still S s m st c (Ended st1) f Q R h k = absurd h
after_still S s m st c (Going st1) f Q R h k = absurd h
after_still S s m st c (Undefined act st1) f Q R h k =
    subst (λ z. F S (here s m st) (fuel_of st) c (Undefined act z) R) (sym h) (s, m, fuel_of st, looser S.program S.input S.mode 0 c (comes_here S.program S.input S.mode (here s m st) (fuel_of st)) (omega arith))

-- quiet code makes what a still part gives
pub quiet_follows : {A : Type 0} (S : Setting) (s : Place) (bs : List Extent) (st : State) (m : Machine) (d n : ℕ) (ops : List Op) (o : Outcome A) (N : A → List Extent → Machine → Type 0)
    → KeepsFrame ops → Stands S.program s ops → Ready S bs st m d n → GivesStill st (λ z. N z bs (made_all ops m)) o → F S (here s m st) (fuel_of st) (length ops) o (Reached S bs st m.memory m.regs.bp d (behind_all s ops) N)
quiet_follows S s bs st m d n ops (Gives v st1) N k stands r h =
    subst (λ z. F S (here s m st) (fuel_of st) (length ops) (Gives v z) (Reached S bs st m.memory m.regs.bp d (behind_all s ops) N)) (sym h.0) (
      behind_all s ops,
      made_all ops m,
      comes_quiet S.program S.input S.mode s m st ops (fuel_of st) k.quiet stands,
      record { place = refl; bases = bs; left = left_same S bs st m (made_all ops m) d n (k.memory m) (k.frame m) r; means = h.1 },
    )
quiet_follows S s bs st m d n ops (Ended st1) N k stands r h = absurd h
quiet_follows S s bs st m d n ops (Going st1) N k stands r h = absurd h
quiet_follows S s bs st m d n ops (Undefined act st1) N k stands r h =
    subst (λ z. F S (here s m st) (fuel_of st) (length ops) (Undefined act z) (Reached S bs st m.memory m.regs.bp d (behind_all s ops) N)) (sym h)
    (s, m, fuel_of st, looser S.program S.input S.mode 0 (length ops) (comes_here S.program S.input S.mode (here s m st) (fuel_of st)) (omega arith))

pub quiet_goes : {A B : Type 0} {S : Setting} {ops : List Op} {block d n : ℕ} {run : A → Run B} {M : A → List Extent → Machine → Type 0} {N : B → List Extent → Machine → Type 0} → KeepsFrame ops
    → ((v : A) (bs : List Extent) (st : State) (m : Machine) → Ready S bs st m d n → M v bs m → GivesStill st (λ z. N z bs (made_all ops m)) (run v st)) → Goes S ops block d n (length ops) run M N
quiet_goes {S = S} {ops = ops} {d = d} {n = n} {run = run} {N = N} k h = record { at = λ v s bs st m e stands r means. quiet_follows S s bs st m d n ops (run v st) N k stands r (h v bs st m r means) }

pub quiet_lands : {B : Type 0} {S : Setting} {ops : List Op} {block d n : ℕ} {run : Run B} {N : B → List Extent → Machine → Type 0} → KeepsFrame ops
    → ((bs : List Extent) (st : State) (m : Machine) → Ready S bs st m d n → GivesStill st (λ z. N z bs (made_all ops m)) (run st)) → Lands S ops block d n (length ops) run N
quiet_lands {S = S} {ops = ops} {d = d} {n = n} {run = run} {N = N} k h = record { at = λ s bs st m e stands r. quiet_follows S s bs st m d n ops (run st) N k stands r (h bs st m r) }

-- quiet code, and then more
pub quiet_then : {B : Type 0} (S : Setting) (s : Place) (bs : List Extent) (st : State) (m : Machine) (d n : ℕ) (ops tail : List Op) (c : ℕ) (o : Outcome B) (N : B → List Extent → Machine → Type 0)
    → KeepsFrame ops → Stands S.program s (ops ++ tail) → Ready S bs st m d n
    → (Ready S bs st (made_all ops m) d n → Stands S.program (behind_all s ops) tail
    → F S (here (behind_all s ops) (made_all ops m) st) (fuel_of st) c o (Reached S bs st (made_all ops m).memory (made_all ops m).regs.bp d (behind_all (behind_all s ops) tail) N))
    → F S (here s m st) (fuel_of st) (length ops + c) o (Reached S bs st m.memory m.regs.bp d (behind_all s (ops ++ tail)) N)
quiet_then {B} S s bs st m d n ops tail c o N k stands r f =
    let m1 = made_all ops m in
    let mid = behind_all s ops in
    let go = f (ready_same S bs st m m1 d n (k.memory m) (k.frame m) r) (stands_rest S.program s ops tail stands) in
    let P : Memory → Type 0 = λ z. F S (here mid m1 st) (fuel_of st) c o (Reached S bs st z m1.regs.bp d (behind_all mid tail) N) in
    let G : ℕ → Type 0 = λ z. F S (here mid m1 st) (fuel_of st) c o (Reached S bs st m.memory z d (behind_all mid tail) N) in
    let E : Place → Type 0 = λ z. F S (here mid m1 st) (fuel_of st) c o (Reached S bs st m.memory m.regs.bp d z N) in
    first_then S.program S.input S.mode (length ops) c (length ops + c) o _ (comes_quiet S.program S.input S.mode s m st ops (fuel_of st) k.quiet (stands_first S.program s ops tail stands))
    (subst E (sym (behind_append s ops tail)) (subst G (k.frame m) (subst P (k.memory m) go))) (omega arith)

-- ---- loads

abbrev pub with_register : Machine → Reg → ℕ → Machine
with_register m r w = record m { regs = with_reg m.regs r w }

pub load_a_made : (v : Direct) (m : Machine) → made_all (load_to A v) m ≡ with_register m A (direct_word m v)
load_a_made (Exactly n) m = refl
load_a_made (Address k) m = refl
load_a_made (Stored (Fixed a)) m = refl
load_a_made (Stored (Framed k)) m = refl

pub load_b_made : (v : Direct) (m : Machine) → made_all (load_to B v) m ≡ with_register m B (direct_word m v)
load_b_made (Exactly n) m = refl
load_b_made (Address k) m = refl
load_b_made (Stored (Fixed a)) m = refl
load_b_made (Stored (Framed k)) m = refl

load_quiet : (r : Reg) (v : Direct) → AreQuiet (load_to r v)
load_quiet r (Exactly n) = (tt, tt)
load_quiet r (Address k) = (tt, (tt, tt))
load_quiet r (Stored (Fixed a)) = (tt, tt)
load_quiet r (Stored (Framed k)) = (tt, (tt, (tt, tt)))

pub load_length : (r : Reg) (v : Direct) → length (load_to r v) ≤ 3
load_length r (Exactly n) = omega arith
load_length r (Address k) = omega arith
load_length r (Stored (Fixed a)) = omega arith
load_length r (Stored (Framed k)) = omega arith

pub load_a_keeps : (v : Direct) → KeepsFrame (load_to A v)
load_a_keeps v = record { quiet = load_quiet A v; memory = λ m. ap (λ (z : Machine). z.memory) (load_a_made v m); frame = λ m. ap (λ (z : Machine). z.regs.bp) (load_a_made v m) }

pub load_b_keeps : (v : Direct) → KeepsFrame (load_to B v)
load_b_keeps v = record { quiet = load_quiet B v; memory = λ m. ap (λ (z : Machine). z.memory) (load_b_made v m); frame = λ m. ap (λ (z : Machine). z.regs.bp) (load_b_made v m) }

-- a second operand that is ready
pub ready_keeps : (v : Direct) → KeepsFrame (ready v)
ready_keeps (Exactly n) = record { quiet = tt; memory = λ m. refl; frame = λ m. refl }
ready_keeps (Address k) = load_b_keeps (Address k)
ready_keeps (Stored l) = load_b_keeps (Stored l)

pub ready_value : (v : Direct) (m : Machine) → value_of (made_all (ready v) m).regs (operand_of v) ≡ direct_word m v
ready_value (Exactly n) m = refl
ready_value (Address k) m = refl
ready_value (Stored l) m = ap (λ (z : Machine). z.regs.b) (load_b_made (Stored l) m)

pub ready_a : (v : Direct) (m : Machine) → (made_all (ready v) m).regs.a ≡ m.regs.a
ready_a (Exactly n) m = refl
ready_a (Address k) m = refl
ready_a (Stored l) m = ap (λ (z : Machine). z.regs.a) (load_b_made (Stored l) m)

pub ready_length : (v : Direct) → length (ready v) ≤ 3
ready_length (Exactly n) = omega arith
ready_length (Address k) = load_length B (Address k)
ready_length (Stored l) = load_length B (Stored l)

-- a value that needs no evaluation comes into A
pub direct_lands : (S : Setting) (v : Direct) (run : Run Value) (block d n : ℕ) → IsDirect S v run → Lands S (load_to A v) block d n (length (load_to A v)) run (InA S)
direct_lands S v run block d n h =
    quiet_lands (load_a_keeps v) (λ bs st m r. still_wider st _ _ (run st) (h.at bs st m d n r) (λ x q. subst (λ (z : Machine). InA S x bs z) (sym (load_a_made v m)) q.0))

-- ---- words that wait

-- the address of the frame's word d
pub word_address : (m : Machine) (d : ℕ) → m.regs.bp + d < 2 ^ 24 → sum_word m.regs.bp (d % 2 ^ 24) ≡ m.regs.bp + d
word_address m d lt = omega (arith, lt)

abbrev pub saved : Machine → ℕ → Machine
saved m d = record { regs = record m.regs { c = m.regs.bp + d }; memory = with_word m.memory (m.regs.bp + d) m.regs.a }

pub save_made : (m : Machine) (d : ℕ) → m.regs.bp + d < 2 ^ 24 → made_all (save d) m ≡ saved m d
save_made m d lt = ap (λ c. record { regs = record m.regs { c = c }; memory = with_word m.memory c m.regs.a }) (word_address m d lt)

pub restore_made : (m : Machine) (d : ℕ) → m.regs.bp + d < 2 ^ 24 → made_all (restore B d) m ≡ with_register m B (word_at m.memory (m.regs.bp + d))
restore_made m d lt = ap (λ c. with_register m B (word_at m.memory c)) (word_address m d lt)

pub restore_keeps : (d : ℕ) → KeepsFrame (restore B d)
restore_keeps d = load_b_keeps (Stored (Framed d))
