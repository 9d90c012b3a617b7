-- Values that are stored.
use Rattle.std.proofs.Common.{◌≡◌, ℕ, suc, ◌+◌, ◌%◌, ◌^◌, ◌<◌, ◌≤◌, Bool, true, false, ◌||◌, List, [], ◌∷◌, ◌++◌, length, Option, Some, None, refl, sym, ap, ◌∙◌, subst, arith, if◌then◌else◌}
use Rattle.word24.specs.Word.{sum_word}
use Rattle.eir_core.specs.Memory.{Memory, word_at, with_word}
use Rattle.eir_core.proofs.WordAt.{word_at-with_word_same}
use Rattle.eir_core.specs.declared.ops.Reg.TheVariants.{A, B}
use Rattle.eir_core.specs.declared.ops.Operand.TheVariants.{Reg as register}
use Rattle.eir_core.specs.declared.ops.Op.{Op}
use Rattle.eir_core.specs.declared.ops.Op.TheVariants.{Mov, Store}
use Rattle.c_types.specs.Types.{CType, is_pointer, is_null}
use Rattle.c_eval.specs.State.{Value, Word, Null, Point, Letter, Function, Missing, Cell, Object, State, Gives, Undefined, Run, Act, OtherKind, OutsideObject, LiteralWrite}
use Rattle.c_eval.specs.Run.{◌>>=◌, after, give, undefined, unless, objects_now, with_objects}
use Rattle.c_eval.specs.Memory.{Kind, kind_of, cell_at, holds_no_other, put_cell, write_cell, store}
use Rattle.c_eval.specs.Operators.{converted, as_pointer, assigned}
use Rattle.c_eval.specs.Eval.{World}
use Rattle.c_place.specs.Code.{jumps}
use Rattle.c_place.specs.Place.{Place, Machine, Stands, behind_all, AreQuiet, made_all}
use Rattle.c_place.proofs.Running.{behind_append, behind_block, stands_first, stands_rest}
use Rattle.c_lowered.specs.Locations.{Location, Fixed, Framed, Direct, Exactly, Address, Stored}
use Rattle.c_lowered.specs.Operations.{load_to, store_to, save, restore}
use Rattle.c_lowered.specs.Expressions.{assigned_code}
use Rattle.c_memory.specs.Follows.{fuel_of, here}
use Rattle.c_memory.specs.Lies.{Extent, base, Means, Lies, IsFree, Post, with_stored}
use Rattle.c_memory.proofs.Following.{Claim, looser, comes_here, comes_quiet, first_then, wider}
use Rattle.c_memory.proofs.Lying.{holder, store_lies, lies_down, post_over, post_then, means_more}
use Rattle.c_landing.specs.Landing.{Setting, Ready, Reached, Lands, Goes, InA, PlaceInA, everywhere, location_word, direct_word, NumberIsSmall, IsDirect, IsPointer, IsKnown}
use Rattle.c_landing.specs.Few.{Agrees}
use Rattle.c_landing.proofs.Landing.{F, then_from, then_at, then_lands, lands_within, goes_within}
use Rattle.c_landing.proofs.Pieces.{KeepsFrame, after_still, quiet_then, load_length, saved, restore_made, restore_keeps, with_register}
use Rattle.c_landing.proofs.Operands.{ready_above, save_comes}
use Rattle.c_landing.proofs.Equal.{as_pointer_means}

-- ---- a store

-- an act that is undefined where it is
stays : {A : Type 0} (S : Setting) (s : Place) (m : Machine) (st : State) (c : ℕ) (act : Act) (Q : Claim A) → F S (here s m st) (fuel_of st) c (Undefined act st) Q
stays S s m st c act Q = (s, m, fuel_of st, looser S.program S.input S.mode 0 c (comes_here S.program S.input S.mode (here s m st) (fuel_of st)) (omega arith))

-- code that stores A at an address
pub record StoresAt (ops : List Op) (m : Machine) (address : ℕ) : Type 0 where
  pub quiet : AreQuiet ops
  pub memory : (made_all ops m).memory ≡ with_word m.memory address m.regs.a
  pub frame : (made_all ops m).regs.bp ≡ m.regs.bp
  pub value : (made_all ops m).regs.a ≡ m.regs.a

pub store_follows : (S : Setting) (N : Value → List Extent → Machine → Type 0) (s : Place) (bs : List Extent) (st : State) (m : Machine) (d n : ℕ) (ops : List Op) (kind : Kind) (p v : Value) (a : ℕ) → StoresAt ops m a → Stands S.program s ops → Ready S bs st m d n → Means (everywhere S.ground) bs p a → Means S.ground bs v m.regs.a → N v bs (made_all ops m)
    → F S (here s m st) (fuel_of st) (length ops) (store kind p v st) (Reached S bs st m.memory m.regs.bp d (behind_all s ops) N)
unfolding store objects_now ◌>>=◌ after write_cell unless undefined put_cell with_objects give
store_follows S N s bs st m d n ops kind p v a k stands r mp mv nv = go (cell_at st.objects p) refl
  where
    point : (o j : ℕ) (c : Cell) → Means (everywhere S.ground) bs (Point o j) a → cell_at st.objects (Point o j) ≡ Some c → F S (here s m st) (fuel_of st) (length ops) (Gives v (record st { objects = with_stored st.objects o j v })) (Reached S bs st m.memory m.regs.bp d (behind_all s ops) N)
    point o j c mp e =
        let m1 = made_all ops m in
        let both = store_lies st.objects o j c v (holder st.objects o j c e) S.ground bs m.memory (m.regs.bp + d) m.regs.a r.lies mv in
        let mem : m1.memory ≡ with_word m.memory (base bs o + j) m.regs.a = k.memory ∙ ap (λ z. with_word m.memory z m.regs.a) mp.2 in (
          behind_all s ops,
          m1,
          comes_quiet S.program S.input S.mode s m st ops (fuel_of st) k.quiet stands,
          record {
            place = refl;
            bases = bs;
            left = record {
              framed = k.frame;
              lies = subst (λ z. Lies S.ground bs (with_stored st.objects o j v) z (m.regs.bp + d)) (sym mem) both.0;
              post = subst (λ z. Post (m.regs.bp + d) bs st.objects m.memory bs (with_stored st.objects o j v) z) (sym mem) both.1;
              charge = refl;
              words = refl;
            };
            means = nv;
          },
        )

    put : (p : Value) (c : Cell) → Means (everywhere S.ground) bs p a → cell_at st.objects p ≡ Some c → F S (here s m st) (fuel_of st) (length ops) (put_cell st.objects p v st) (Reached S bs st m.memory m.regs.bp d (behind_all s ops) N)
    put (Point o j) c mp e = point o j c mp e
    put (Letter f i text j) c mp e = stays S s m st (length ops) LiteralWrite (Reached S bs st m.memory m.regs.bp d (behind_all s ops) N)
    put (Word x) c mp e = stays S s m st (length ops) OutsideObject (Reached S bs st m.memory m.regs.bp d (behind_all s ops) N)
    put Null c mp e = stays S s m st (length ops) OutsideObject (Reached S bs st m.memory m.regs.bp d (behind_all s ops) N)
    put (Function name) c mp e = stays S s m st (length ops) OutsideObject (Reached S bs st m.memory m.regs.bp d (behind_all s ops) N)
    put Missing c mp e = stays S s m st (length ops) OutsideObject (Reached S bs st m.memory m.regs.bp d (behind_all s ops) N)

    kept : (c : Cell) → cell_at st.objects p ≡ Some c → (b : Bool) → F S (here s m st) (fuel_of st) (length ops) (unless b OtherKind (put_cell st.objects p v) st) (Reached S bs st m.memory m.regs.bp d (behind_all s ops) N)
    kept c e true = put p c mp e
    kept c e false = stays S s m st (length ops) OtherKind (Reached S bs st m.memory m.regs.bp d (behind_all s ops) N)

    go : (c : Option Cell) → cell_at st.objects p ≡ c → F S (here s m st) (fuel_of st) (length ops) (write_cell kind c st.objects p v st) (Reached S bs st m.memory m.regs.bp d (behind_all s ops) N)
    go None e = stays S s m st (length ops) OutsideObject (Reached S bs st m.memory m.regs.bp d (behind_all s ops) N)
    go (Some c) e = kept c e (holds_no_other kind c)

module _ (S : Setting) (w : World) (agrees : Agrees S w) where
  -- a value converts to the type of its place
  converted_means : (bs : List Extent) (st : State) (m : Machine) (d n : ℕ) → Ready S bs st m d n → (t : CType) (v : Value) (a : ℕ) → Means S.ground bs v a → Means S.ground bs (converted t v) a
  converted_means bs st m d n r t v a h = go (is_pointer t || is_null t)
    where
      go : (b : Bool) → Means S.ground bs (if b then as_pointer v else v) a
      go true = as_pointer_means S w agrees bs st m d n r v a h
      go false = h

  pub assigned_follows : (s : Place) (bs : List Extent) (st : State) (m : Machine) (d n : ℕ) (ops : List Op) (t : CType) (p v : Value) (a : ℕ) → StoresAt ops m a → Stands S.program s ops → Ready S bs st m d n → Means (everywhere S.ground) bs p a → Means S.ground bs v m.regs.a
      → F S (here s m st) (fuel_of st) (length ops) (assigned t p v st) (Reached S bs st m.memory m.regs.bp d (behind_all s ops) (InA S))
  unfolding assigned
  assigned_follows s bs st m d n ops t p v a k stands r mp mv =
      let means = converted_means bs st m d n r t v m.regs.a mv in
      store_follows S (InA S) s bs st m d n ops (kind_of t) p (converted t v) a k stands r mp means (subst (λ z. Means S.ground bs (converted t v) z) (sym k.value) means)

  -- A stays as it was
  pub assigned_keeps : (s : Place) (bs : List Extent) (st : State) (m : Machine) (d n : ℕ) (ops : List Op) (t : CType) (p v : Value) (a : ℕ) → StoresAt ops m a → Stands S.program s ops → Ready S bs st m d n → Means (everywhere S.ground) bs p a → Means S.ground bs v m.regs.a
      → F S (here s m st) (fuel_of st) (length ops) (assigned t p v st) (Reached S bs st m.memory m.regs.bp d (behind_all s ops) (λ z bs1 m1. m1.regs.a ≡ m.regs.a))
  unfolding assigned
  assigned_keeps s bs st m d n ops t p v a k stands r mp mv = store_follows S (λ z bs1 m1. m1.regs.a ≡ m.regs.a) s bs st m d n ops (kind_of t) p (converted t v) a k stands r mp (converted_means bs st m d n r t v m.regs.a mv) k.value

  -- ---- a place that is known

  pub store_to_stores : (l : Location) (m : Machine) → StoresAt (store_to l) m (location_word m l)
  store_to_stores (Fixed a) m = record { quiet = (tt, tt); memory = refl; frame = refl; value = refl }
  store_to_stores (Framed k) m = record { quiet = (tt, (tt, (tt, tt))); memory = refl; frame = refl; value = refl }

  store_to_length : (l : Location) → length (store_to l) ≤ 3
  store_to_length (Fixed a) = omega arith
  store_to_length (Framed k) = omega arith

  pub location_same : (m m1 : Machine) (l : Location) → m1.regs.bp ≡ m.regs.bp → location_word m1 l ≡ location_word m l
  location_same m m1 (Fixed a) e = refl
  location_same m m1 (Framed k) e = ap (λ z. sum_word z (k % 2 ^ 24)) e

  -- a value in A, to go to a known place
  abbrev pub At : Location → Value → Value → List Extent → Machine → Type 0
  At l p v bs m = InA S v bs m × Means (everywhere S.ground) bs p (location_word m l)

  store_goes : (l : Location) (t : CType) (p : Value) (block d n : ℕ) → Goes S (store_to l) block d n 3 (λ y. assigned t p y) (At l p) (InA S)
  store_goes l t p block d n = goes_within n (length (store_to l)) (omega arith) (store_to_length l) (record {
    at = λ y s bs st m e stands r q. assigned_follows s bs st m d n (store_to l) t p y (location_word m l) (store_to_stores l m) stands r q.1 q.0;
  })

  pub place_later : (bs bs1 : List Extent) (os os1 : List Object) (mem mem1 : Memory) (top : ℕ) (p : Value) (a : ℕ) → Post top bs os mem bs1 os1 mem1 → Means (everywhere S.ground) bs p a → Means (everywhere S.ground) bs1 p a
  place_later bs bs1 os os1 mem mem1 top p a post h = means_more (everywhere S.ground) bs bs1 p a (omega arith) post.longer post.grown h

  -- a known place, a value, and what is done with both
  pub known_then : {R : Type 0} {N : R → List Extent → Machine → Type 0} (l : Location) (value tail : List Op) (f : Value → Value → Run R) (block d n cv ct : ℕ) (rp rv : Run Value) → IsKnown S l rp → Lands S value block d n cv rv (InA S)
      → ((p : Value) → Goes S tail (block + jumps value) d n ct (λ y. f p y) (At l p) N) → Lands S (value ++ tail) block d n (cv + ct) (rp >>= λ p. rv >>= λ y. f p y) N
  unfolding ◌>>=◌
  known_then {R} {N} l value tail f block d n cv ct rp rv k h g = record {
    at = λ s bs st m e stands r. after_still S s m st (cv + ct) (rp st) (λ p. rv >>= λ y. f p y) (λ x. Means (everywhere S.ground) bs x (location_word m l) × IsPointer x) (Reached S bs st m.memory m.regs.bp d (behind_all s (value ++ tail)) N) (k.at bs st m d n r)
        (λ p is q. then_at S value tail block d n cv ct rv (λ y. f p y) (At l p) N (g p) s bs st m e stands r
        (wider S.program S.input S.mode (here s m st) (fuel_of st) cv cv (rv st) _ _ (h.at s bs st m e (stands_first S.program s value tail stands) r) (λ y st1 s1 m1 z. record {
          place = z.place;
          bases = z.bases;
          left = z.left;
          means = (z.means, subst (λ a. Means (everywhere S.ground) z.bases p a) (sym (location_same m m1 l z.left.framed)) (place_later bs z.bases st.objects st1.objects m.memory m1.memory (m.regs.bp + d) p (location_word m l) z.left.post q.0));
        }) (omega arith)));
  }

  -- ---- a value that needs no evaluation

  abbrev direct_tail : Direct → List Op
  direct_tail v = Mov B (register A) ∷ load_to A v

  direct_tail_made : (v : Direct) (m : Machine) → made_all (direct_tail v) m ≡ with_register (with_register m B m.regs.a) A (direct_word m v)
  direct_tail_made (Exactly k) m = refl
  direct_tail_made (Address k) m = refl
  direct_tail_made (Stored (Fixed a)) m = refl
  direct_tail_made (Stored (Framed k)) m = refl

  direct_tail_keeps : (v : Direct) → KeepsFrame (direct_tail v)
  direct_tail_keeps v = record { quiet = (tt, quiet v); memory = λ m. ap (λ (z : Machine). z.memory) (direct_tail_made v m); frame = λ m. ap (λ (z : Machine). z.regs.bp) (direct_tail_made v m) }
    where
      quiet : (v : Direct) → AreQuiet (load_to A v)
      quiet (Exactly k) = (tt, tt)
      quiet (Address k) = (tt, (tt, tt))
      quiet (Stored (Fixed a)) = (tt, tt)
      quiet (Stored (Framed k)) = (tt, (tt, (tt, tt)))

  store_b_stores : (m : Machine) → StoresAt (Store A (register B) ∷ []) m m.regs.b
  store_b_stores m = record { quiet = (tt, tt); memory = refl; frame = refl; value = refl }

  direct_goes : (v : Direct) (t : CType) (rv : Run Value) (block d n : ℕ) → IsDirect S v rv → Goes S (direct_tail v ++ Store A (register B) ∷ []) block d n 5 (λ p. rv >>= λ y. assigned t p y) (PlaceInA S) (InA S)
  unfolding ◌>>=◌
  direct_goes v t rv block d n h = record {
    at = λ p s bs st m e stands r mp. after_still S s m st 5 (rv st) (λ y. assigned t p y) (λ y. Means S.ground bs y (direct_word m v) × NumberIsSmall y v) (Reached S bs st m.memory m.regs.bp d (behind_all s (direct_tail v ++ Store A (register B) ∷ [])) (InA S)) (h.at bs st m d n r)
        (λ y is q. wider S.program S.input S.mode (here s m st) (fuel_of st) (length (direct_tail v) + 1) 5 (assigned t p y st) _ _
        (quiet_then S s bs st m d n (direct_tail v) (Store A (register B) ∷ []) 1 (assigned t p y st) (InA S) (direct_tail_keeps v) stands r (λ r1 h1.
        let m1 = made_all (direct_tail v) m in
        let a1 : m1.regs.b ≡ m.regs.a = ap (λ (z : Machine). z.regs.b) (direct_tail_made v m) in
        let a2 : m1.regs.a ≡ direct_word m v = ap (λ (z : Machine). z.regs.a) (direct_tail_made v m) in
        assigned_follows (behind_all s (direct_tail v)) bs st m1 d n (Store A (register B) ∷ []) t p y m1.regs.b (store_b_stores m1) h1 r1 (subst (λ z. Means (everywhere S.ground) bs p z) (sym a1) mp) (subst (λ z. Means S.ground bs y z) (sym a2) q.0)))
        (λ z st1 s1 m1 q. q) (omega (arith, load_length A v)));
  }

  -- ---- a place that waits

  abbrev pub PlaceWaits : ℕ → Value → Value → List Extent → Machine → Type 0
  PlaceWaits d p y bs m = InA S y bs m × Means (everywhere S.ground) bs p (word_at m.memory (m.regs.bp + d))

  below_place : (p : Value) (bs : List Extent) (st : State) (m : Machine) (d n : ℕ) (to : Place) → Ready S bs st m d (suc n) → Means (everywhere S.ground) bs p m.regs.a
      → (y : Value) (st1 : State) (s1 : Place) (m1 : Machine) → Reached S bs st (saved m d).memory m.regs.bp (suc d) to (InA S) y st1 s1 m1 → Reached S bs st m.memory m.regs.bp d to (PlaceWaits d p) y st1 s1 m1
  below_place p bs st m d n to r mp y st1 s1 m1 q =
      let free : IsFree bs st.objects (m.regs.bp + d) = λ o j c z g. omega (arith, r.lies.below o j c z, g) in
      let word : word_at m1.memory (m1.regs.bp + d) ≡ m.regs.a =
      ap (λ z. word_at m1.memory (z + d)) q.left.framed ∙ (q.left.post.keeps (m.regs.bp + d) (omega arith) free ∙ word_at-with_word_same m.memory (m.regs.bp + d) m.regs.a) in
      let post : Post (m.regs.bp + d) bs st.objects m.memory q.bases st1.objects m1.memory = post_then {top0 = m.regs.bp + d} {top1 = m.regs.bp + suc d} (omega arith) (omega arith) (post_over bs st.objects m.memory (m.regs.bp + d) m.regs.a (omega arith)) q.left.post in
      record {
        place = q.place;
        bases = q.bases;
        left = record { framed = q.left.framed; lies = lies_down r.lies post q.left.lies; post = post; charge = q.left.charge; words = q.left.words };
        means = (q.means, subst (λ z. Means (everywhere S.ground) q.bases p z) (sym word) (place_later bs q.bases st.objects st1.objects m.memory m1.memory (m.regs.bp + d) p m.regs.a post mp));
      }

  -- what waits comes back, and then more
  pub place_waits : {R : Type 0} {N : R → List Extent → Machine → Type 0} (value tail : List Op) (rv : Run Value) (f : Value → Value → Run R) (block d n cv ct : ℕ) → Lands S value block (suc d) n cv rv (InA S)
      → ((p : Value) → Goes S tail (block + jumps value) d (suc n) ct (λ y. f p y) (PlaceWaits d p) N) → Goes S (save d ++ (value ++ tail)) block d (suc n) (3 + (cv + ct)) (λ p. rv >>= λ y. f p y) (PlaceInA S) N
  place_waits {R} {N} value tail rv f block d n cv ct lv g = record {
    at = λ p s bs st m e stands r mp.
        (let rest = value ++ tail in
        let ss = behind_all s (save d) in
        let ms = saved m d in
        let sb = behind_all ss value in
        let small : m.regs.bp + d < 2 ^ 24 = omega (arith, r.room, r.fits) in
        let h2 = stands_rest S.program s (save d) rest stands in
        let end : behind_all s (save d ++ rest) ≡ behind_all sb tail = behind_append s (save d) rest ∙ behind_append ss value tail in
        let G : Place → Type 0 = λ z. F S (here s m st) (fuel_of st) (3 + (cv + ct)) ((rv >>= λ y. f p y) st) (Reached S bs st m.memory m.regs.bp d z N) in
        subst G (sym end)
        (first_then S.program S.input S.mode 3 (cv + ct) (3 + (cv + ct)) ((rv >>= λ y. f p y) st) _ (save_comes S s m st d small (stands_first S.program s (save d) rest stands))
        (then_from S tail (block + jumps value) d (suc n) cv ct rv (λ y. f p y) (PlaceWaits d p) N (g p) (here ss ms st) sb bs st m (behind_block ss value ∙ ap (λ z. z + jumps value) e) (stands_rest S.program ss value tail h2) r
        (wider S.program S.input S.mode (here ss ms st) (fuel_of st) cv cv (rv st) _ _ (lv.at ss bs st ms e (stands_first S.program ss value tail h2) (ready_above S bs st m d n r)) (below_place p bs st m d n sb r mp) (omega arith)))
        (omega arith)));
  }

  waited_goes : (t : CType) (p : Value) (block d n : ℕ) → Goes S (restore B d ++ Store A (register B) ∷ []) block d (suc n) 4 (λ y. assigned t p y) (PlaceWaits d p) (InA S)
  waited_goes t p block d n = record {
    at = λ y s bs st m e stands r q.
        (let small : m.regs.bp + d < 2 ^ 24 = omega (arith, r.room, r.fits) in
        quiet_then S s bs st m d (suc n) (restore B d) (Store A (register B) ∷ []) 1 (assigned t p y st) (InA S) (restore_keeps d) stands r (λ r1 h1.
        let m1 = made_all (restore B d) m in
        let made = restore_made m d small in
        assigned_follows (behind_all s (restore B d)) bs st m1 d (suc n) (Store A (register B) ∷ []) t p y m1.regs.b (store_b_stores m1) h1 r1
        (subst (λ (z : Machine). Means (everywhere S.ground) bs p z.regs.b) (sym made) q.1) (subst (λ (z : Machine). Means S.ground bs y z.regs.a) (sym made) q.0)));
  }

  -- ---- an assignment

  pub assigned_lands : (t : CType) (block d n cp cv : ℕ) (l : Option Location) (v : Option Direct) (place : List Op) (value : ℕ → List Op) (rp rv : Run Value) → Lands S place block d (suc n) cp rp (PlaceInA S) → ((x : Location) → l ≡ Some x → Lands S (value d) block d (suc n) cv rv (InA S))
      → Lands S (value (suc d)) (block + jumps place) (suc d) n cv rv (InA S) → ((x : Location) → l ≡ Some x → IsKnown S x rp) → ((x : Direct) → v ≡ Some x → IsDirect S x rv)
      → Lands S (assigned_code d l v place value) block d (suc n) (cp + (cv + 7)) (rp >>= λ p. rv >>= λ y. assigned t p y) (InA S)
  assigned_lands t block d n cp cv (Some x) v place value rp rv hp h1 h2 kl kv = lands_within (suc n) (cv + 3) (omega arith) (omega arith) (known_then x (value d) (store_to x) (λ p y. assigned t p y) block d (suc n) cv 3 rp rv (kl x refl) (h1 x refl) (λ p. store_goes x t p (block + jumps (value d)) d (suc n)))
  assigned_lands t block d n cp cv None (Some x) place value rp rv hp h1 h2 kl kv = lands_within (suc n) (cp + 5) (omega arith) (omega arith) (then_lands hp (direct_goes x t rv (block + jumps place) d (suc n) (kv x refl)))
  assigned_lands t block d n cp cv None None place value rp rv hp h1 h2 kl kv =
      lands_within (suc n) (cp + (3 + (cv + 4))) (omega arith) (omega arith) (then_lands hp (place_waits (value (suc d)) (restore B d ++ Store A (register B) ∷ []) rv (λ p y. assigned t p y) (block + jumps place) d n cv 4 h2 (λ p. waited_goes t p (block + jumps place + jumps (value (suc d))) d n)))
