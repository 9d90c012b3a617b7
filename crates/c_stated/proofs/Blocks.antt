-- Blocks: their objects lie in the frame from a word of it on, from their begin to their end.
use Rattle.std.proofs.Common.{◌≡◌, ℕ, zero, suc, ◌+◌, ◌^◌, ◌<◌, ◌≤◌, List, [], ◌∷◌, ◌++◌, length, Option, Some, None, refl, sym, ap, ◌∙◌, subst, arith, slice_get, length-append, append_assoc}
use Rattle.std.specs.Prelude.{replicate, unwrap_or}
use Rattle.std.specs.List.{fold}
use Rattle.eir_core.specs.Memory.{Memory, word_at}
use Rattle.eir_core.specs.declared.ops.Op.{Op}
use Rattle.c_eval.specs.State.{Cell, Unset, State, Run}
use Rattle.c_eval.specs.Run.{◌>>=◌, after, give, objects_now, with_objects}
use Rattle.c_eval.specs.Memory.{enter, leave, within}
use Rattle.c_eval.specs.Eval.{Flow}
use Rattle.c_place.specs.Place.{Place, Machine, behind_all}
use Rattle.c_lowered.specs.Locations.{Location, Fixed, Framed, framed}
use Rattle.c_lowered.specs.Statements.{Targets, words_in}
use Rattle.c_memory.specs.Follows.{fuel_of, here}
use Rattle.c_memory.specs.Lies.{Extent, base, extent, Ground, MeansCell, Lies, bases_from, words_of_all, with_new, left_from, NewMean}
use Rattle.c_memory.proofs.Following.{comes_here, after_follows}
use Rattle.c_memory.proofs.Entering.{base_old, enter_lies, free_there, leave_lies}
use Rattle.c_landing.specs.Landing.{address, at_number, ObjectLies, Names, NamesLie, Setting, Ready, Left}
use Rattle.c_landing.proofs.Landing.{F, names_later}
use Rattle.c_landing.proofs.Stilling.{object_room}
use Rattle.c_valued.specs.Calls.{with_names}
use Rattle.c_stated.specs.Flows.{FlowReached, AreFramed, Performs}

-- ---- objects that are unset

-- each has a word or more, all unset
abbrev pub AreUnset : List (List Cell) → Type 0
AreUnset [] = Unit {0}
AreUnset (cells ∷ more) = (n : ℕ) × (1 ≤ n) × (cells ≡ replicate n Unset) × AreUnset more

replicated : (n k : ℕ) (c : Cell) → slice_get (replicate n Unset) k ≡ Some c → c ≡ Unset
replicated zero k c e = absurd (cc e)
replicated (suc n) zero c e = cc (sym e)
replicated (suc n) (suc k) c e = replicated n k c e

replicated_length : (n : ℕ) → length (replicate n Unset) ≡ n
replicated_length zero = refl
replicated_length (suc n) = let e = replicated_length n in omega (arith, e)

unset_mean : (g : Ground) (bs : List Extent) (mem : Memory) (a : ℕ) (new : List (List Cell)) → AreUnset new → NewMean g bs mem a new
unset_mean g bs mem a [] h = tt
unset_mean g bs mem a (cells ∷ more) (n, some, is, rest) = (
  omega (arith, some, ap length is, replicated_length n),
  λ k c e. (let f = replicated n k c (subst (λ z. slice_get z k ≡ Some c) is e) in subst (λ z. MeansCell g bs z (word_at mem (a + k))) (sym f) tt),
  unset_mean g bs mem (a + length cells) more rest,
)

folded : (a : ℕ) (new : List (List Cell)) → fold (λ a x. a + length x) a new ≡ a + words_of_all new
folded a [] = omega arith
folded a (cells ∷ more) = let h = folded (a + length cells) more in omega (arith, h)

words_same : (new : List (List Cell)) → words_in new ≡ words_of_all new
words_same new = let h = folded 0 new in omega (arith, h)

-- ---- where they lie

pub at_end : (pre : List Location) (x : Location) (more : List Location) → at_number (pre ++ (x ∷ more)) (length pre) ≡ x
at_end [] x more = refl
at_end (y ∷ pre) x more = at_end pre x more

pub extent_at : (bs : List Extent) (t : Extent) (more : List Extent) → extent (bs ++ (t ∷ more)) (length bs) ≡ t
extent_at [] t more = refl
extent_at (b ∷ bs) t more = extent_at bs t more

new_framed : (new : List (List Cell)) (pre : List Location) (bs : List Extent) (bp d a : ℕ) → a ≡ bp + d → AreFramed (bs ++ bases_from a new) bp (pre ++ framed new d) (length pre) (length bs) new
new_framed [] pre bs bp d a is = tt
new_framed (cells ∷ more) pre bs bp d a is =
    let t : Extent = record { at = a; words = length cells } in
    let x = Framed d in
    let es = bases_from (a + length cells) more in
    let ls = framed more (d + length cells) in
    let rest = new_framed more (pre ++ x ∷ []) (bs ++ t ∷ []) bp (d + length cells) (a + length cells) (omega (arith, is)) in
    let r1 = subst (λ z. AreFramed z bp ((pre ++ x ∷ []) ++ ls) (length (pre ++ x ∷ [])) (length (bs ++ t ∷ [])) more) (append_assoc bs (t ∷ []) es) rest in
    let r2 = subst (λ z. AreFramed (bs ++ (t ∷ es)) bp z (length (pre ++ x ∷ [])) (length (bs ++ t ∷ [])) more) (append_assoc pre (x ∷ []) ls) r1 in
    let i : length (pre ++ x ∷ []) ≡ suc (length pre) = omega (arith, length-append pre (x ∷ [])) in
    let o : length (bs ++ t ∷ []) ≡ suc (length bs) = omega (arith, length-append bs (t ∷ [])) in
    let r3 = subst (λ z. AreFramed (bs ++ (t ∷ es)) bp (pre ++ (x ∷ ls)) z (length (bs ++ t ∷ [])) more) i r2 in
    let r4 = subst (λ z. AreFramed (bs ++ (t ∷ es)) bp (pre ++ (x ∷ ls)) (suc (length pre)) z more) o r3 in
    (record { offset = d; place = at_end pre x ls; there = omega (arith, length-append bs (t ∷ es)); lies = ap (λ (z : Extent). z.at) (extent_at bs t es) ∙ is }, r4)

framed_later : (bs bs1 : List Extent) (bp : ℕ) (bases : List Location) (i o : ℕ) (objects : List (List Cell)) → length bs ≤ length bs1 → ((o : ℕ) → o < length bs → extent bs1 o ≡ extent bs o) → AreFramed bs bp bases i o objects → AreFramed bs1 bp bases i o objects
framed_later bs bs1 bp bases i o [] le g h = tt
framed_later bs bs1 bp bases i o (cells ∷ more) le g h =
    (record { offset = h.0.offset; place = h.0.place; there = omega (arith, h.0.there, le); lies = ap (λ (z : Extent). z.at) (g o h.0.there) ∙ h.0.lies }, framed_later bs bs1 bp bases (suc i) (suc o) more le g h.1)

-- objects that are declared lie where they lay
pub framed_behind : (S : Setting) (bs bs1 : List Extent) (st st1 : State) (m m1 : Machine) (d : ℕ) (bases : List Location) (i o : ℕ) (objects : List (List Cell)) → Left S bs st m.memory m.regs.bp d bs1 st1 m1 → AreFramed bs m.regs.bp bases i o objects → AreFramed bs1 m1.regs.bp bases i o objects
framed_behind S bs bs1 st st1 m m1 d bases i o objects l h = subst (λ z. AreFramed bs1 z bases i o objects) (sym l.framed) (framed_later bs bs1 m.regs.bp bases i o objects l.post.longer l.post.grown h)

-- ---- names, where more objects are in scope

front_found : (xs ys : List Location) (n : ℕ) (x : Location) → slice_get xs n ≡ Some x → slice_get (xs ++ ys) n ≡ Some x
front_found [] ys n x e = absurd (cc e)
front_found (z ∷ xs) ys zero x e = e
front_found (z ∷ xs) ys (suc n) x e = front_found xs ys n x e

-- an object lies at an address, so its number for the code is one of those in scope
lies_more : (bs : List Extent) (bp : ℕ) (bases more : List Location) (n o : ℕ) → 1 ≤ base bs o → base bs o ≡ address bp (at_number bases n) → base bs o ≡ address bp (at_number (bases ++ more) n)
lies_more bs bp bases more n o pos e = by (slice_get bases n) refl
  where
    by : (x : Option Location) → slice_get bases n ≡ x → base bs o ≡ address bp (at_number (bases ++ more) n)
    by None f = absurd (let z : base bs o ≡ 0 = e ∙ ap (λ y. address bp (unwrap_or y (Fixed 0))) f in omega (arith, z, pos))
    by (Some x) f = e ∙ (ap (λ y. address bp (unwrap_or y (Fixed 0))) f ∙ sym (ap (λ y. address bp (unwrap_or y (Fixed 0))) (front_found bases more n x f)))

object_more : (bs : List Extent) (bp : ℕ) (bases more : List Location) (x y : Option ℕ) → ((o : ℕ) → o < length bs → 1 ≤ base bs o) → ObjectLies bs bp bases x y → ObjectLies bs bp (bases ++ more) x y
object_more bs bp bases more x None pos h = tt
object_more bs bp bases more None (Some o) pos h = h
object_more bs bp bases more (Some n) (Some o) pos h = (h.0, lies_more bs bp bases more n o (pos o h.0) h.1)

pub names_more : (bs : List Extent) (bp : ℕ) (bases more : List Location) (xs ys : Names) → ((o : ℕ) → o < length bs → 1 ≤ base bs o) → NamesLie bs bp bases xs ys → NamesLie bs bp (bases ++ more) xs ys
names_more bs bp bases more [] [] pos h = tt
names_more bs bp bases more [] (y ∷ ys) pos h = h
names_more bs bp bases more (x ∷ xs) [] pos h = h
names_more bs bp bases more (x ∷ xs) (y ∷ ys) pos h = (h.0, object_more bs bp bases more x.1 y.1 pos h.1, names_more bs bp bases more xs ys pos h.2)

-- ---- a block

-- what is left doesn't depend on the names in scope
pub left_named : (S : Setting) (bases : List Location) (coded named : Names) (bs bs1 : List Extent) (st st1 : State) (mem : Memory) (m1 : Machine) (bp d : ℕ) → Left (with_names S bases coded named) bs st mem bp d bs1 st1 m1 → Left S bs st mem bp d bs1 st1 m1
left_named S bases coded named bs bs1 st st1 mem m1 bp d l = record { framed = l.framed; lies = l.lies; post = l.post; charge = l.charge; words = l.words }

module _ (S : Setting) (objects : List (List Cell)) (unset : AreUnset objects) (d n : ℕ) (some : 1 ≤ d) where
  abbrev inner_setting : Setting
  inner_setting = with_names S (S.linking.bases ++ framed objects d) S.coded S.named

  abbrev entered_state : State → State
  entered_state st = record st { objects = with_new st.objects objects }

  abbrev entered_bases : List Extent → Machine → List Extent
  entered_bases bs m = bs ++ bases_from (m.regs.bp + d) objects

  ready_inside : (bs : List Extent) (st : State) (m : Machine) → Ready S bs st m d (words_in objects + n) → Ready inner_setting (entered_bases bs m) (entered_state st) m (d + words_in objects) n
  ready_inside bs st m r =
      let bp = m.regs.bp in
      let same = words_same objects in
      let bs1 = entered_bases bs m in
      let lt : bp + d + words_of_all objects < 2 ^ 24 = omega (arith, r.room, r.fits, same) in
      let lies1 = enter_lies S.ground bs st.objects m.memory (bp + d) objects r.lies (omega (arith, some)) lt (unset_mean S.ground bs m.memory (bp + d) objects unset) in
      let top : bp + d + words_of_all objects ≡ bp + (d + words_in objects) = omega (arith, same) in
      let longer : length bs ≤ length bs1 = omega (arith, length-append bs (bases_from (bp + d) objects)) in
      let grown : (o : ℕ) → o < length bs → extent bs1 o ≡ extent bs o = λ o lt. base_old bs (bases_from (bp + d) objects) o lt in
      let pos : (o : ℕ) → o < length bs1 → 1 ≤ base bs1 o = λ o lt. (object_room S.ground bs1 (with_new st.objects objects) m.memory (bp + d + words_of_all objects) o lies1 lt).0 in
      record {
        lies = subst (λ z. Lies S.ground bs1 (with_new st.objects objects) m.memory z) top lies1;
        letters = λ owner number text k c e f. (let l = r.letters owner number text k c e f in (l.0, l.1, l.2, free_there bs st.objects (bp + d) objects (S.ground.literal owner number + k) r.lies.count (omega (arith, l.2)) l.3));
        names = names_more bs1 bp S.linking.bases (framed objects d) S.coded S.named pos (names_later bs bs1 bp S.linking.bases S.coded S.named longer grown r.names);
        file = λ z. names_later bs bs1 z S.file_bases S.file_coded S.file_named longer grown (r.file z);
        room = omega (arith, r.room);
        under = r.under;
        fits = r.fits;
        fuelled = r.fuelled;
      }

  -- wherever in a block's code it is begun
  pub block_around : (p end : Place) (c : ℕ) (to : Targets) (body : ℕ → Run Flow) (bs : List Extent) (st : State) (m : Machine) → Ready S bs st m d (words_in objects + n)
      → ((bs1 : List Extent) (o : ℕ) → Ready inner_setting bs1 (entered_state st) m (d + words_in objects) n → AreFramed bs1 m.regs.bp (S.linking.bases ++ framed objects d) (length S.linking.bases) o objects
      → F S (here p m (entered_state st)) (fuel_of st) c (body o (entered_state st)) (FlowReached inner_setting bs1 (entered_state st) m.memory m.regs.bp (d + words_in objects) to end))
      → F S (here p m st) (fuel_of st) c (within objects body st) (FlowReached S bs st m.memory m.regs.bp d to end)
  unfolding within enter leave objects_now with_objects ◌>>=◌ after give
  block_around p end c to body bs st m r h =
      let bp = m.regs.bp in
      let d1 = d + words_in objects in
      let bs1 = entered_bases bs m in
      let st1 = entered_state st in
      let pending0 = new_framed objects S.linking.bases bs bp d (bp + d) refl in
      let pending = subst (λ z. AreFramed bs1 bp (S.linking.bases ++ framed objects d) (length S.linking.bases) z objects) r.lies.count pending0 in
      after_follows S.program S.input S.mode (here p m st) (fuel_of st) c 0 c (body (length st.objects) st1) (λ a. leave (length st.objects) >>= λ _. give a) (FlowReached inner_setting bs1 st1 m.memory bp d1 to end) (FlowReached S bs st m.memory bp d to end)
      (h bs1 (length st.objects) (ready_inside bs st m r) pending)
      (λ flow st2 s2 m2 le q.
      let both = leave_lies S.ground bs st.objects m.memory (bp + d) objects q.bases st2.objects m2.memory (bp + d1) (bp + d1) r.lies (omega arith) q.left.lies q.left.post in
      let st3 : State = record st2 { objects = left_from (length st.objects) st2.objects } in (
        s2,
        m2,
        comes_here S.program S.input S.mode (here s2 m2 st3) (fuel_of st3),
        record {
          goes = q.goes;
          bases = q.bases;
          left = record { framed = q.left.framed; lies = both.0; post = both.1; charge = q.left.charge; words = q.left.words };
          means = q.means;
        },
      ))
      (omega arith)

  -- code of a block's statements, in the frame behind its objects
  pub block_performs : (code : List Op) (block c : ℕ) (to : Targets) (body : ℕ → Run Flow) (i o : ℕ) (around : List (List Cell)) → ((o : ℕ) → Performs inner_setting code block (d + words_in objects) n c (body o) to (length S.linking.bases) o objects)
      → Performs S code block d (words_in objects + n) c (within objects body) to i o around
  block_performs code block c to body i o around h = record { at = λ s bs st m e stands r pending. block_around s (behind_all s code) c to body bs st m r (λ bs1 o1 r1 framed1. (h o1).at s bs1 (entered_state st) m e stands r1 framed1) }
