-- How pieces of code that land are put together.
use Rattle.std.proofs.Common.{◌≡◌, ℕ, ◌+◌, ◌<◌, ◌≤◌, List, [], ◌∷◌, ◌++◌, length, Option, Some, None, refl, sym, ap, ◌∙◌, subst, arith, append-nil}
use Rattle.mach_core.specs.Rule.{Moment}
use Rattle.eir_core.specs.Memory.{Memory}
use Rattle.eir_core.specs.Step.{Config}
use Rattle.eir_core.specs.declared.ops.Op.{Op}
use Rattle.c_eval.specs.State.{Object, State, Outcome, Run}
use Rattle.c_eval.specs.Run.{◌>>=◌}
use Rattle.c_place.specs.Code.{jumps}
use Rattle.c_place.specs.Place.{Place, Machine, Stands, behind_all, AreQuiet, made_all}
use Rattle.c_place.proofs.Running.{behind_append, behind_block, stands_first, stands_rest}
use Rattle.c_lowered.specs.Locations.{Location}
use Rattle.c_memory.specs.Follows.{Fuel, fuel_of, here, Comes, Follows}
use Rattle.c_memory.specs.Lies.{Extent, extent, Ground, Lies, Post}
use Rattle.c_memory.proofs.Following.{Claim, comes_quiet, first_then, then_follows, wider}
use Rattle.c_memory.proofs.Lying.{post_here, post_then, still_free}
use Rattle.c_landing.specs.Landing.{Names, ObjectLies, NamesLie, LettersLie, Setting, Ready, Left, Reached, Lands, Goes}

-- ---- names and literals, later

objects_later : (bs bs1 : List Extent) (bp : ℕ) (bases : List Location) (x y : Option ℕ) → length bs ≤ length bs1 → ((o : ℕ) → o < length bs → extent bs1 o ≡ extent bs o) → ObjectLies bs bp bases x y → ObjectLies bs1 bp bases x y
objects_later bs bs1 bp bases x None le g h = tt
objects_later bs bs1 bp bases None (Some o) le g h = h
objects_later bs bs1 bp bases (Some n) (Some o) le g h = (omega (arith, h.0, le), ap (λ (z : Extent). z.at) (g o h.0) ∙ h.1)

pub names_later : (bs bs1 : List Extent) (bp : ℕ) (bases : List Location) (xs ys : Names) → length bs ≤ length bs1 → ((o : ℕ) → o < length bs → extent bs1 o ≡ extent bs o) → NamesLie bs bp bases xs ys → NamesLie bs1 bp bases xs ys
names_later bs bs1 bp bases [] [] le g h = tt
names_later bs bs1 bp bases [] (y ∷ ys) le g h = h
names_later bs bs1 bp bases (x ∷ xs) [] le g h = h
names_later bs bs1 bp bases (x ∷ xs) (y ∷ ys) le g h = (h.0, objects_later bs bs1 bp bases x.1 y.1 le g h.1, names_later bs bs1 bp bases xs ys le g h.2)

pub letters_later : (g : Ground) (bs bs1 : List Extent) (os os1 : List Object) (mem mem1 : Memory) (top0 top : ℕ) → top ≤ top0 → Post top0 bs os mem bs1 os1 mem1 → LettersLie g bs os mem top → LettersLie g bs1 os1 mem1 top
letters_later g bs bs1 os os1 mem mem1 top0 top le p h owner number text k c e f =
    let l = h owner number text k c e f in
    (p.keeps (g.literal owner number + k) (omega (arith, l.2, le)) l.3 ∙ l.0, l.1, l.2, still_free top0 bs os mem bs1 os1 mem1 (g.literal owner number + k) p l.3)

-- ---- the state later

pub left_here : (S : Setting) (bs : List Extent) (st : State) (m : Machine) (d n : ℕ) → Ready S bs st m d n → Left S bs st m.memory m.regs.bp d bs st m
left_here S bs st m d n r = record { framed = refl; lies = r.lies; post = post_here (m.regs.bp + d) bs st.objects m.memory; charge = refl; words = refl }

pub left_then : (S : Setting) (bs bs1 bs2 : List Extent) (st st1 st2 : State) (mem : Memory) (m1 m2 : Machine) (bp d : ℕ) → Left S bs st mem bp d bs1 st1 m1 → Left S bs1 st1 m1.memory m1.regs.bp d bs2 st2 m2 → Left S bs st mem bp d bs2 st2 m2
left_then S bs bs1 bs2 st st1 st2 mem m1 m2 bp d p q = record {
  framed = q.framed ∙ p.framed;
  lies = subst (λ z. Lies S.ground bs2 st2.objects m2.memory (z + d)) p.framed q.lies;
  post = post_then (omega arith) (omega (arith, p.framed)) p.post q.post;
  charge = q.charge ∙ p.charge;
  words = q.words ∙ p.words;
}

-- what was asked holds of what is left
pub ready_later : (S : Setting) (bs bs1 : List Extent) (st st1 : State) (m m1 : Machine) (d n : ℕ) → Ready S bs st m d n → Left S bs st m.memory m.regs.bp d bs1 st1 m1 → S.mode.gauge (fuel_of st1) ≤ S.mode.gauge (fuel_of st) → Ready S bs1 st1 m1 d n
ready_later S bs bs1 st st1 m m1 d n r l le = record {
  lies = subst (λ z. Lies S.ground bs1 st1.objects m1.memory (z + d)) (sym l.framed) l.lies;
  letters = subst (λ z. LettersLie S.ground bs1 st1.objects m1.memory z) (sym l.framed) (letters_later S.ground bs bs1 st.objects st1.objects m.memory m1.memory (m.regs.bp + d) m.regs.bp (omega arith) l.post r.letters);
  names = subst (λ z. NamesLie bs1 z S.linking.bases S.coded S.named) (sym l.framed) (names_later bs bs1 m.regs.bp S.linking.bases S.coded S.named l.post.longer l.post.grown r.names);
  file = λ bp. names_later bs bs1 bp S.file_bases S.file_coded S.file_named l.post.longer l.post.grown (r.file bp);
  room = omega (arith, r.room, l.framed);
  under = subst (λ z. S.roof ≤ z) (ap (λ z. S.level z st.words) (sym l.charge) ∙ ap (λ z. S.level st1.charge z) (sym l.words)) r.under;
  fits = r.fits;
  fuelled = omega (arith, le, r.fuelled);
}

-- fewer words are wanted
pub ready_less : (S : Setting) (bs : List Extent) (st : State) (m : Machine) (d n n1 : ℕ) → n1 ≤ n → Ready S bs st m d n → Ready S bs st m d n1
ready_less S bs st m d n n1 le r = record { lies = r.lies; letters = r.letters; names = r.names; file = r.file; room = omega (arith, r.room, le); under = r.under; fits = r.fits; fuelled = r.fuelled }

-- ---- pieces

abbrev pub F : {A : Type 0} → (S : Setting) → Moment Config → Fuel → ℕ → Outcome A → Claim A → Type 0
F S a x c r Q = Follows S.program S.input S.mode a x c r Q

pub from_place : {A : Type 0} (S : Setting) {s1 s : Place} (m : Machine) (st : State) (c : ℕ) (r : Outcome A) (Q : Claim A) → s1 ≡ s → F S (here s m st) (fuel_of st) c r Q → F S (here s1 m st) (fuel_of st) c r Q
from_place S m st c r Q e f = subst (λ z. F S (here z m st) (fuel_of st) c r Q) (sym e) f

-- more words and more operations are allowed
pub lands_within : {A : Type 0} {S : Setting} {code : List Op} {block d n c : ℕ} {run : Run A} {M : A → List Extent → Machine → Type 0} (n1 c1 : ℕ) → n1 ≤ n → c1 ≤ c → Lands S code block d n1 c1 run M → Lands S code block d n c run M
lands_within {S = S} {code = code} {d = d} {n = n} {c = c} {run = run} {M = M} n1 c1 ln lc h = record {
  at = λ s bs st m e stands r. (let Q = Reached S bs st m.memory m.regs.bp d (behind_all s code) M in wider S.program S.input S.mode (here s m st) (fuel_of st) c1 c (run st) Q Q (h.at s bs st m e stands (ready_less S bs st m d n n1 ln r)) (λ v st1 s1 m1 q. q) lc);
}

pub goes_within : {A B : Type 0} {S : Setting} {code : List Op} {block d n c : ℕ} {run : A → Run B} {M : A → List Extent → Machine → Type 0} {N : B → List Extent → Machine → Type 0} (n1 c1 : ℕ) → n1 ≤ n → c1 ≤ c → Goes S code block d n1 c1 run M N → Goes S code block d n c run M N
goes_within {S = S} {code = code} {d = d} {n = n} {c = c} {run = run} {N = N} n1 c1 ln lc h = record {
  at = λ v s bs st m e stands r k. (let Q = Reached S bs st m.memory m.regs.bp d (behind_all s code) N in wider S.program S.input S.mode (here s m st) (fuel_of st) c1 c (run v st) Q Q (h.at v s bs st m e stands (ready_less S bs st m d n n1 ln r) k) (λ v st1 s1 m1 q. q) lc);
}

-- what is reached from what was reached
pub reached_then : {A : Type 0} (S : Setting) (bs bs1 : List Extent) (st st1 : State) (mem : Memory) (m1 : Machine) (bp d : ℕ) (to to1 : Place) (M : A → List Extent → Machine → Type 0) → to1 ≡ to → Left S bs st mem bp d bs1 st1 m1
    → (v : A) (st2 : State) (s2 : Place) (m2 : Machine) → Reached S bs1 st1 m1.memory m1.regs.bp d to1 M v st2 s2 m2 → Reached S bs st mem bp d to M v st2 s2 m2
reached_then S bs bs1 st st1 mem m1 bp d to to1 M e l v st2 s2 m2 q = record { place = q.place ∙ e; bases = q.bases; left = left_then S bs bs1 q.bases st st1 st2 mem m1 m2 bp d l q.left; means = q.means }

-- one part behind another, from wherever the first was begun
pub then_from : {A B : Type 0} (S : Setting) (two : List Op) (block d n c1 c2 : ℕ) (first : Run A) (second : A → Run B) (M : A → List Extent → Machine → Type 0) (N : B → List Extent → Machine → Type 0) → Goes S two block d n c2 second M N
    → (a : Moment Config) (mid : Place) (bs : List Extent) (st : State) (m : Machine) → mid.block ≡ block → Stands S.program mid two → Ready S bs st m d n → F S a (fuel_of st) c1 (first st) (Reached S bs st m.memory m.regs.bp d mid M)
    → F S a (fuel_of st) (c1 + c2) ((first >>= second) st) (Reached S bs st m.memory m.regs.bp d (behind_all mid two) N)
then_from S two block d n c1 c2 first second M N g a mid bs st m e stands r f =
    let end = behind_all mid two in
    let R = Reached S bs st m.memory m.regs.bp d end N in
    then_follows S.program S.input S.mode a (fuel_of st) c1 c2 (c1 + c2) first st second (Reached S bs st m.memory m.regs.bp d mid M) R f
    (λ v st1 s1 m1 le q.
    let back = from_place S m1 st1 c2 (second v st1) R q.place in
    let Q = Reached S q.bases st1 m1.memory m1.regs.bp d end N in
    back (wider S.program S.input S.mode (here mid m1 st1) (fuel_of st1) c2 c2 (second v st1) Q R
    (g.at v mid q.bases st1 m1 e stands (ready_later S bs q.bases st st1 m m1 d n r q.left le) q.means)
    (λ w st2 s2 m2 z. reached_then S bs q.bases st st1 m.memory m1 m.regs.bp d end end N refl q.left w st2 s2 m2 z) (omega arith)))
    (omega arith)

pub then_at : {A B : Type 0} (S : Setting) (one two : List Op) (block d n c1 c2 : ℕ) (first : Run A) (second : A → Run B) (M : A → List Extent → Machine → Type 0) (N : B → List Extent → Machine → Type 0)
    → Goes S two (block + jumps one) d n c2 second M N
    → (s : Place) (bs : List Extent) (st : State) (m : Machine) → s.block ≡ block → Stands S.program s (one ++ two) → Ready S bs st m d n
    → F S (here s m st) (fuel_of st) c1 (first st) (Reached S bs st m.memory m.regs.bp d (behind_all s one) M)
    → F S (here s m st) (fuel_of st) (c1 + c2) ((first >>= second) st) (Reached S bs st m.memory m.regs.bp d (behind_all s (one ++ two)) N)
then_at S one two block d n c1 c2 first second M N g s bs st m e stands r f =
    subst (λ z. F S (here s m st) (fuel_of st) (c1 + c2) ((first >>= second) st) (Reached S bs st m.memory m.regs.bp d z N)) (sym (behind_append s one two))
    (then_from S two (block + jumps one) d n c1 c2 first second M N g (here s m st) (behind_all s one) bs st m (behind_block s one ∙ ap (λ z. z + jumps one) e) (stands_rest S.program s one two stands) r f)

pub then_lands : {A B : Type 0} {S : Setting} {one two : List Op} {block d n c1 c2 : ℕ} {first : Run A} {second : A → Run B} {M : A → List Extent → Machine → Type 0} {N : B → List Extent → Machine → Type 0}
    → Lands S one block d n c1 first M → Goes S two (block + jumps one) d n c2 second M N → Lands S (one ++ two) block d n (c1 + c2) (first >>= second) N
then_lands {S = S} {one = one} {two = two} {block = block} {d = d} {n = n} {c1 = c1} {c2 = c2} {first = first} {second = second} {M = M} {N = N} l g = record {
  at = λ s bs st m e stands r. then_at S one two block d n c1 c2 first second M N g s bs st m e stands r (l.at s bs st m e (stands_first S.program s one two stands) r);
}

pub then_goes : {A B C : Type 0} {S : Setting} {one two : List Op} {block d n c1 c2 : ℕ} {first : A → Run B} {second : B → Run C} {M : A → List Extent → Machine → Type 0} {N : B → List Extent → Machine → Type 0} {O : C → List Extent → Machine → Type 0}
    → Goes S one block d n c1 first M N → Goes S two (block + jumps one) d n c2 second N O → Goes S (one ++ two) block d n (c1 + c2) (λ v. first v >>= second) M O
then_goes {S = S} {one = one} {two = two} {block = block} {d = d} {n = n} {c1 = c1} {c2 = c2} {first = first} {second = second} {N = N} {O = O} l g = record {
  at = λ v s bs st m e stands r k. then_at S one two block d n c1 c2 (first v) second N O g s bs st m e stands r (l.at v s bs st m e (stands_first S.program s one two stands) r k);
}

-- a part that has no code
pub then_still : {A B : Type 0} {S : Setting} {one : List Op} {block d n c : ℕ} {first : Run A} {second : A → Run B} {M : A → List Extent → Machine → Type 0} {N : B → List Extent → Machine → Type 0}
    → Lands S one block d n c first M → Goes S [] (block + jumps one) d n 0 second M N → Lands S one block d n c (first >>= second) N
then_still {S = S} {one = one} {block = block} {d = d} {n = n} {c = c} {first = first} {second = second} {N = N} l g =
    let h = then_lands l g in subst (λ code. Lands S code block d n c (first >>= second) N) (append-nil one) (lands_within n (c + 0) (omega arith) (omega arith) h)

-- some operations that change nothing of the run, and then what follows
pub quietly : {A : Type 0} (S : Setting) (s : Place) (m m1 : Machine) (st : State) (ops more : List Op) (c c1 : ℕ) (r : Outcome A) (Q : Claim A) → AreQuiet ops → made_all ops m ≡ m1 → length ops + c1 ≤ c → Stands S.program s (ops ++ more)
    → F S (here (behind_all s ops) m1 st) (fuel_of st) c1 r Q → F S (here s m st) (fuel_of st) c r Q
quietly S s m m1 st ops more c c1 r Q q e le stands f =
    let go = comes_quiet S.program S.input S.mode s m st ops (fuel_of st) q (stands_first S.program s ops more stands) in
    let P : Machine → Type 0 = λ z. Comes S.program S.input S.mode (here s m st) (fuel_of st) (length ops) (here (behind_all s ops) z st) (fuel_of st) in
    first_then S.program S.input S.mode (length ops) c1 c r Q (subst P e go) f le
