-- Parts of a run that leave the state as it is, and what they give.
use Rattle.std.proofs.Common.{◌≡◌, ℕ, ◌+◌, ◌%◌, ◌^◌, ◌<◌, ◌≤◌, Bool, true, false, List, [], ◌∷◌, ◌++◌, length, Option, Some, None, refl, sym, ap, ◌∙◌, subst, arith, nat_le, slice_get}
use Rattle.std.specs.Prelude.{ℤ, pos, ◌+ℤ◌, int_lt, unsigned_abs, not}
use Rattle.std.specs.Option.{option_map}
use Rattle.std.proofs.lemmas.Bool.{and_parts}
use Rattle.std.proofs.lemmas.Option.{slice_get-map, slice_get-get_or}
use Rattle.eir_core.specs.Memory.{Memory, word_at}
use Rattle.c_types.specs.Types as type
use Rattle.c_types.specs.Types.{CType, is_void}
use Rattle.c_eval.specs.State.{Value, Word, Null, Point, Letter, Function, Missing, Cell, Unset, Holds, Object, State, Outcome, Gives, Ended, Going, Undefined, Run, Act, OtherKind, OutsideObject}
use Rattle.c_eval.specs.Run.{◌>>=◌, after, give, undefined, unless, objects_now}
use Rattle.c_eval.specs.Memory.{Kind, is_of, cell_at, letters, read_cell, load, is_within, extent_of, offset_of, offset_by, at_offset, member_at}
use Rattle.c_eval.specs.Operators.{used, pointer_to, value_at}
use Rattle.c_memory.specs.Lies.{Extent, base, words_at, Whole, Reach, reached, Ground, Means, Lies}
use Rattle.c_landing.specs.Landing.{LettersLie, everywhere, GivesStill, IsPointer}

-- ---- the words from which runs are made

pub still_after : {A B : Type 0} (st : State) (Q : A → Type 0) (R : B → Type 0) (o : Outcome A) (f : A → Run B) → GivesStill st Q o → ((v : A) → Q v → GivesStill st R (f v st)) → GivesStill st R (after o f)
unfolding after
still_after st Q R (Gives v st1) f h k = subst (λ z. GivesStill st R (f v z)) (sym h.0) (k v h.1)
still_after st Q R (Ended st1) f h k = h
still_after st Q R (Going st1) f h k = h
still_after st Q R (Undefined act st1) f h k = h

pub still_then : {A B : Type 0} (st : State) (Q : A → Type 0) (R : B → Type 0) (run : Run A) (f : A → Run B) → GivesStill st Q (run st) → ((v : A) → Q v → GivesStill st R (f v st)) → GivesStill st R ((run >>= f) st)
unfolding ◌>>=◌
still_then st Q R run f h k = still_after st Q R (run st) f h k

pub still_wider : {A : Type 0} (st : State) (Q R : A → Type 0) (o : Outcome A) → GivesStill st Q o → ((v : A) → Q v → R v) → GivesStill st R o
still_wider st Q R (Gives v st1) h k = (h.0, k v h.1)
still_wider st Q R (Ended st1) h k = h
still_wider st Q R (Going st1) h k = h
still_wider st Q R (Undefined act st1) h k = h

pub give_still : {A : Type 0} (st : State) (Q : A → Type 0) (v : A) → Q v → GivesStill st Q (give v st)
unfolding give
give_still st Q v q = (refl, q)

pub undefined_still : {A : Type 0} (st : State) (Q : A → Type 0) (act : Act) → GivesStill st Q (undefined act st)
unfolding undefined
undefined_still st Q act = refl

pub unless_still : {A : Type 0} (st : State) (Q : A → Type 0) (b : Bool) (act : Act) (run : Run A) → (b ≡ true → GivesStill st Q (run st)) → GivesStill st Q (unless b act run st)
unfolding unless
unless_still st Q true act run h = h refl
unless_still st Q false act run h = undefined_still st Q act

pub objects_still : {B : Type 0} (st : State) (R : B → Type 0) (f : List Object → Run B) → GivesStill st R (f st.objects st) → GivesStill st R ((objects_now >>= f) st)
unfolding objects_now ◌>>=◌ after
objects_still st R f h = h

pub used_still : (st : State) (Q : Value → Type 0) (v : Value) → Q v → GivesStill st Q (used v st)
unfolding used
used_still st Q (Word n) q = give_still st Q (Word n) q
used_still st Q Null q = give_still st Q Null q
used_still st Q (Point o k) q = give_still st Q (Point o k) q
used_still st Q (Letter f i text k) q = give_still st Q (Letter f i text k) q
used_still st Q (Function name) q = give_still st Q (Function name) q
used_still st Q Missing q = undefined_still st Q _

-- ---- values and places

-- what a value means, it means as a place
pub means_everywhere : (g : Ground) (bs : List Extent) (v : Value) (w : ℕ) → reached g.reach bs ≤ length bs → Means g bs v w → Means (everywhere g) bs v w
means_everywhere g bs (Word n) w seen h = h
means_everywhere g bs Null w seen h = h
means_everywhere g bs (Point o k) w seen h = (omega (arith, h.0, seen), h.1, h.2)
means_everywhere g bs (Letter f i text k) w seen h = h
means_everywhere g bs (Function name) w seen h = h
means_everywhere g bs Missing w seen h = h

-- where pointers reach all objects a place is a value
pub means_whole : (g : Ground) (bs : List Extent) (v : Value) (w : ℕ) → g.reach ≡ Whole → Means (everywhere g) bs v w → Means g bs v w
means_whole g bs (Word n) w e h = h
means_whole g bs Null w e h = h
means_whole g bs (Point o k) w e h = (subst (λ (r : Reach). o < reached r bs) (sym e) h.0, h.1, h.2)
means_whole g bs (Letter f i text k) w e h = h
means_whole g bs (Function name) w e h = h
means_whole g bs Missing w e h = h

-- ---- loads

-- a cell that is read is what stands at its address
pub cell_means : (g : Ground) (bs : List Extent) (os : List Object) (mem : Memory) (top top1 : ℕ) (p : Value) (w : ℕ) (v : Value) → Lies g bs os mem top → LettersLie g bs os mem top1 → Means (everywhere g) bs p w → cell_at os p ≡ Some (Holds v) → Means g bs v (word_at mem w)
cell_means g bs os mem top top1 (Point o k) w v l ls h e = subst (λ z. Means g bs v (word_at mem z)) (sym h.2) (l.cells o k (Holds v) e)
cell_means g bs os mem top top1 (Letter f i text k) w v l ls h e = go (slice_get (text ++ 0 ∷ []) k) refl
  where
    is : slice_get (letters text) k ≡ option_map (λ c. Holds (Word c)) (slice_get (text ++ 0 ∷ []) k)
    is = slice_get-map (λ c. Holds (Word c)) (text ++ 0 ∷ []) k

    go : (x : Option ℕ) → slice_get (text ++ 0 ∷ []) k ≡ x → Means g bs v (word_at mem w)
    go None f0 = let bad : None ≡ Some (Holds v) = sym (is ∙ ap (λ z. option_map (λ c. Holds (Word c)) z) f0) ∙ e in absurd (cc bad)
    go (Some c) f0 =
        let same : Some (Holds (Word c)) ≡ Some (Holds v) = sym (is ∙ ap (λ z. option_map (λ c. Holds (Word c)) z) f0) ∙ e in
        let value : Word c ≡ v = cc same in
        let there = ls f i text k c h.0 f0 in
        let word : word_at mem w ≡ c = ap (word_at mem) h.2 ∙ there.0 in
        subst (λ z. Means g bs z (word_at mem w)) value (word, there.1)
cell_means g bs os mem top top1 (Word n) w v l ls h e = absurd (cc e)
cell_means g bs os mem top top1 Null w v l ls h e = absurd (cc e)
cell_means g bs os mem top top1 (Function name) w v l ls h e = absurd (cc e)
cell_means g bs os mem top top1 Missing w v l ls h e = absurd (cc e)

pub load_still : (g : Ground) (bs : List Extent) (st : State) (mem : Memory) (top top1 : ℕ) (kind : Kind) (p : Value) (w : ℕ) → Lies g bs st.objects mem top → LettersLie g bs st.objects mem top1 → Means (everywhere g) bs p w → GivesStill st (λ v. Means g bs v (word_at mem w)) (load kind p st)
unfolding load read_cell
load_still g bs st mem top top1 kind p w l ls h = objects_still st (λ v. Means g bs v (word_at mem w)) (λ os. read_cell kind (cell_at os p)) (go (cell_at st.objects p) refl)
  where
    go : (c : Option Cell) → cell_at st.objects p ≡ c → GivesStill st (λ v. Means g bs v (word_at mem w)) (read_cell kind c st)
    go None e = undefined_still st _ _
    go (Some Unset) e = undefined_still st _ _
    go (Some (Holds v)) e = unless_still st _ (is_of kind v) OtherKind (give v) (λ t. give_still st _ v (cell_means g bs st.objects mem top top1 p w v l ls h e))

-- what code that fetches comes to, by the type
abbrev pub fetched_word : Memory → CType → ℕ → ℕ
fetched_word mem (type.Array t n) w = w
fetched_word mem t w = word_at mem w

pub value_at_still : (g : Ground) (bs : List Extent) (st : State) (mem : Memory) (top top1 : ℕ) (inner : Bool) (t : CType) (p : Value) (w : ℕ) → (inner ≡ false → g.reach ≡ Whole) → Lies g bs st.objects mem top → LettersLie g bs st.objects mem top1 → Means (everywhere g) bs p w
    → GivesStill st (λ v. Means g bs v (fetched_word mem t w)) (value_at inner t p st)
unfolding value_at pointer_to
value_at_still g bs st mem top top1 true (type.Array t n) p w r l ls h = undefined_still st _ _
value_at_still g bs st mem top top1 false (type.Array t n) p w r l ls h = give_still st (λ v. Means g bs v w) p (means_whole g bs p w (r refl) h)
value_at_still g bs st mem top top1 inner (type.Struct tag) p w r l ls h = give_still st (λ v. Means g bs v (word_at mem w)) Missing tt
value_at_still g bs st mem top top1 inner type.Void p w r l ls h = load_still g bs st mem top top1 _ p w l ls h
value_at_still g bs st mem top top1 inner type.Int p w r l ls h = load_still g bs st mem top top1 _ p w l ls h
value_at_still g bs st mem top top1 inner type.Unsigned p w r l ls h = load_still g bs st mem top top1 _ p w l ls h
value_at_still g bs st mem top top1 inner type.Char p w r l ls h = load_still g bs st mem top top1 _ p w l ls h
value_at_still g bs st mem top top1 inner type.UChar p w r l ls h = load_still g bs st mem top top1 _ p w l ls h
value_at_still g bs st mem top top1 inner type.Null p w r l ls h = load_still g bs st mem top top1 _ p w l ls h
value_at_still g bs st mem top top1 inner (type.Pointer t) p w r l ls h = load_still g bs st mem top top1 _ p w l ls h
value_at_still g bs st mem top top1 inner (type.Function t ts) p w r l ls h = load_still g bs st mem top top1 _ p w l ls h

-- ---- pointers that move

pub within : (z : ℤ) (n : ℕ) → is_within z (Some n) ≡ true → (z ≡ pos (unsigned_abs z)) × (unsigned_abs z ≤ n)
within z n e =
    let b = and_parts (not (int_lt z (pos 0))) (nat_le (unsigned_abs z) n) e in
    (positive z b.0, small b.1)
  where
    positive : (z : ℤ) → not (int_lt z (pos 0)) ≡ true → z ≡ pos (unsigned_abs z)
    positive z e = grind (arith, e)

    small : nat_le (unsigned_abs z) n ≡ true → unsigned_abs z ≤ n
    small e = grind (arith, e)

-- an object that is there has its words, and they lie within the memory
pub object_room : (g : Ground) (bs : List Extent) (os : List Object) (mem : Memory) (top o : ℕ) → Lies g bs os mem top → o < length bs → (1 ≤ base bs o) × (base bs o + words_at bs o < 2 ^ 24) × (1 ≤ words_at bs o)
object_room g bs os mem top o l lt =
    let d : Object = record { live = true; cells = [] } in
    let is = slice_get-get_or os o d (omega (arith, lt, l.count)) in
    let b = l.each o _ is in
    let f = l.full o _ is in
    (b.0, omega (arith, b.1, f.1), omega (arith, f.0, f.1))

abbrev pub IsPlaceAt : Ground → List Extent → ℕ → Value → Type 0
IsPlaceAt g bs w q = Means (everywhere g) bs q w × IsPointer q

-- and its address is within the memory
abbrev pub IsMemberAt : Ground → List Extent → (address words : ℕ) → Value → Type 0
IsMemberAt g bs w k q = IsPlaceAt g bs ((w + k) % 2 ^ 24) q × (w + k < 2 ^ 24)

-- the place of a member
pub member_still : (g : Ground) (bs : List Extent) (st : State) (mem : Memory) (top k : ℕ) (p : Value) (w : ℕ)
    → ((owner : Option (List ℕ)) (number : ℕ) (text : List ℕ) → g.text owner number ≡ Some text → g.literal owner number + (length text + 1) < 2 ^ 24) → Lies g bs st.objects mem top → Means (everywhere g) bs p w
    → GivesStill st (IsMemberAt g bs w k) (member_at k p st)
unfolding member_at
member_still g bs st mem top k p w room l h = objects_still st _ (λ os. unless (is_within (offset_by p (pos k)) (extent_of os p)) OutsideObject (give (at_offset p (offset_of p + k)))) (by p h)
  where
    reach : (j n : ℕ) → is_within (pos j +ℤ pos k) (Some n) ≡ true → j + k ≤ n
    reach j n e = let b = within (pos j +ℤ pos k) n e in let s : unsigned_abs (pos j +ℤ pos k) ≡ j + k = grind arith in omega (arith, b.1, s)

    into : (o j : ℕ) → Means (everywhere g) bs (Point o j) w → (x : Option Object) → slice_get st.objects o ≡ x → is_within (pos j +ℤ pos k) (option_map (λ z. length z.cells) x) ≡ true → IsMemberAt g bs w k (Point o (j + k))
    into o j h None e f = absurd (cc f)
    into o j h (Some x) e f =
        let le = reach j (length x.cells) f in
        let b = l.each o x e in
        let full = l.full o x e in
        (((h.0, omega (arith, le, full.1), omega (arith, h.2, le, b.1)), tt), omega (arith, h.2, le, b.1))

    by : (p : Value) → Means (everywhere g) bs p w → GivesStill st (IsMemberAt g bs w k) (unless (is_within (offset_by p (pos k)) (extent_of st.objects p)) OutsideObject (give (at_offset p (offset_of p + k))) st)
    by (Point o j) h = unless_still st (IsMemberAt g bs w k) _ OutsideObject _ (λ f. give_still st (IsMemberAt g bs w k) (Point o (j + k)) (into o j h (slice_get st.objects o) refl f))
    by (Letter f i text j) h = unless_still st (IsMemberAt g bs w k) _ OutsideObject _ (λ e.
        let le = reach j (length text + 1) e in
        let r = room f i text h.0 in
        give_still st (IsMemberAt g bs w k) (Letter f i text (j + k)) (((h.0, le, omega (arith, h.2, le, r)), tt), omega (arith, h.2, le, r)))
    by (Word n) h = unless_still st (IsMemberAt g bs w k) _ OutsideObject _ (λ e. absurd (cc e))
    by Null h = unless_still st (IsMemberAt g bs w k) _ OutsideObject _ (λ e. absurd (cc e))
    by (Function name) h = unless_still st (IsMemberAt g bs w k) _ OutsideObject _ (λ e. absurd (cc e))
    by Missing h = unless_still st (IsMemberAt g bs w k) _ OutsideObject _ (λ e. absurd (cc e))
