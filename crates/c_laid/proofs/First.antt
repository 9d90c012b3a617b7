-- The first memory of a program.
use Rattle.std.proofs.Common.{◌≡◌, ◌⊎◌, ⊎_elim, ℕ, suc, ◌+◌, ◌%◌, ◌^◌, ◌<◌, ◌≤◌, Bool, List, [], ◌∷◌, ◌++◌, length, map, Option, Some, None, refl, sym, ap, ◌∙◌, subst, arith, slice_get, true, false, length-append}
use Rattle.std.specs.FinMap as finite
use Rattle.std.proofs.lemmas.List.{length-map}
use Rattle.word24.specs.Word.{number_of}
use Rattle.eir_core.specs.Memory.{Memory, word_at, with_words}
use Rattle.eir_core.proofs.WordAt.{word_at-with_words}
use Rattle.c_syntax.specs.Plain as plain
use Rattle.c_syntax.specs.Plain.{CValue, CItem, CUnit}
use Rattle.c_eval.specs.State.{Object}
use Rattle.c_eval.specs.Environment.{Environment, past_first}
use Rattle.c_eval.specs.Text.{behind_item, behind_items, file_objects, file_start, text_of}
use Rattle.c_lowered.specs.Locations.{Linking}
use Rattle.c_lowered.specs.Operations.{wrapped}
use Rattle.c_lowered.specs.Whole.{firsts_given, words_given, literals_of, all_letters, data_end, frames, linking_of, given_words, data_words, words_from, lowered}
use Rattle.c_memory.specs.Lies.{Extent, base, Ground, Lies}
use Rattle.c_memory.proofs.Lying.{holder}
use Rattle.c_landing.specs.Landing.{Names, ObjectLies, NamesLie, LettersLie}
use Rattle.c_laid.specs.Data.{file_extents, ground_of, memory_of, DataIs, DataLies}
use Rattle.c_laid.proofs.Slices.{get_front, get_behind, get_inside, get_mapped, index_of, index_past}
use Rattle.c_laid.proofs.DataObjects.{rows_count, rows_words, rows_within, rows_apart, rows_fixed, given_length, rows_mean, rows_full}
use Rattle.c_laid.proofs.Letters.{letter_there, letters_have, letters_apart}

-- ---- objects and names of file scope

pub flags_count : (items : List CItem) (here : Environment) → length (firsts_given items) ≡ length (file_objects items here)
flags_count [] here = refl
flags_count (plain.Object d ∷ items) here = let h = flags_count items (behind_item (plain.Object d) here) in omega (arith, h)
flags_count (plain.StructItem tag ∷ items) here = flags_count items (behind_item (plain.StructItem tag) here)
flags_count (plain.Function name pos result params body ∷ items) here = flags_count items (behind_item (plain.Function name pos result params body) here)

abbrev pub IsBelow : Option ℕ → ℕ → Type 0
IsBelow None n = Unit {0}
IsBelow (Some j) n = j < n

abbrev pub AreBelow : Names → ℕ → Type 0
AreBelow [] n = Unit {0}
AreBelow (x ∷ xs) n = IsBelow x.1 n × AreBelow xs n

pub below_more : (xs : Names) (n m : ℕ) → n ≤ m → AreBelow xs n → AreBelow xs m
below_more [] n m le h = tt
below_more (x ∷ xs) n m le h = (one x.1 h.0, below_more xs n m le h.1)
  where
    one : (j : Option ℕ) → IsBelow j n → IsBelow j m
    one None h = tt
    one (Some j) h = omega (arith, h, le)

pub past_keeps : (v : Option CValue) (here : Environment) → ((past_first v here).objects ≡ here.objects) × ((past_first v here).next ≡ here.next)
past_keeps None here = (refl, refl)
past_keeps (Some v) here = (refl, refl)

-- each name's object is one of those that were made
items_below : (items : List CItem) (here : Environment) → AreBelow here.objects here.next → AreBelow (behind_items items here).objects (here.next + length (file_objects items here))
items_below [] here h = below_more here.objects here.next (here.next + 0) (omega arith) h
items_below (plain.Object d ∷ items) here h =
    let next = behind_item (plain.Object d) here in
    let counted : next.next ≡ suc here.next = (past_keeps d.first _).1 in
    let named : next.objects ≡ (d.name, Some here.next) ∷ here.objects = (past_keeps d.first _).0 in
    let mine : AreBelow ((d.name, Some here.next) ∷ here.objects) (suc here.next) = (omega arith, below_more here.objects here.next (suc here.next) (omega arith) h) in
    let start : AreBelow next.objects next.next = subst (λ z. AreBelow z next.next) (sym named) (subst (λ z. AreBelow ((d.name, Some here.next) ∷ here.objects) z) (sym counted) mine) in
    below_more (behind_items items next).objects (next.next + length (file_objects items next)) (here.next + length (file_objects (plain.Object d ∷ items) here)) (omega (arith, counted)) (items_below items next start)
items_below (plain.StructItem tag ∷ items) here h = items_below items (behind_item (plain.StructItem tag) here) h
items_below (plain.Function name pos result params body ∷ items) here h = items_below items (behind_item (plain.Function name pos result params body) here) h

-- ---- the memory

module _ (u : CUnit) (is : DataIs u) where
  abbrev flags : List Bool
  flags = firsts_given u.items

  abbrev objects : List Object
  objects = (text_of u).objects

  abbrev w : Linking
  w = linking_of u

  abbrev g : Ground
  g = ground_of u

  abbrev bs : List Extent
  bs = file_extents u

  abbrev mem : Memory
  mem = memory_of u

  abbrev given : List ℕ
  given = given_words w flags objects

  abbrev letters : List ℕ
  letters = all_letters (literals_of u)

  abbrev count : ℕ
  count = words_given true flags objects

  abbrev others : ℕ
  others = words_given false flags objects

  same : length flags ≡ length objects
  same = flags_count u.items (file_start u)

  given_count : length given ≡ count
  given_count = given_length w flags objects same

  end_is : data_end u ≡ 1 + count + length letters
  end_is = refl

  frames_are : frames u ≡ data_end u + others
  frames_are = refl

  abbrev numbers : List ℕ
  numbers = map number_of (words_from (data_words u))

  laid_down : mem ≡ with_words finite.empty 0 numbers
  unfolding lowered
  laid_down = refl

  word_is : (a n : ℕ) → slice_get (data_words u) a ≡ Some n → word_at mem a ≡ n
  word_is a n e =
      let at : a ≡ 0 + a = omega arith in
      let small : n % 2 ^ 24 ≡ n = let lt = is.words a n e in omega (arith, lt) in
      let got : slice_get numbers a ≡ Some (n % 2 ^ 24) = get_mapped number_of (map wrapped (data_words u)) a (wrapped n) (get_mapped wrapped (data_words u) a n e) in
      ap (λ z. word_at z a) laid_down ∙ (ap (word_at (with_words finite.empty 0 numbers)) at ∙ (word_at-with_words numbers 0 a ∙ (index_of numbers a (n % 2 ^ 24) got ∙ small)))

  zero_behind : (a : ℕ) → data_end u ≤ a → word_at mem a ≡ 0
  zero_behind a le =
      let at : a ≡ 0 + a = omega arith in
      let n1 = length-map (words_from (data_words u)) number_of in
      let n2 = length-map (data_words u) wrapped in
      let n3 = length-append given letters in
      let past : length numbers ≤ a = omega (arith, n1, n2, n3, given_count, end_is, le) in
      ap (λ z. word_at z a) laid_down ∙ (ap (word_at (with_words finite.empty 0 numbers)) at ∙ (word_at-with_words numbers 0 a ∙ index_past numbers a past))

  given_there : (k n : ℕ) → slice_get given k ≡ Some n → word_at mem (1 + k) ≡ n
  given_there k n e = let at : 1 + k ≡ suc k = omega arith in ap (word_at mem) at ∙ word_is (suc k) n (get_front given letters k n e)

  -- what holds of each letter's word
  abbrev IsLetter : ℕ → ℕ → Type 0
  IsLetter q n = (word_at mem q ≡ n) × (n < 2 ^ 24) × (1 + count ≤ q) × (q < data_end u)

  letter_is : (j n : ℕ) → slice_get letters j ≡ Some n → IsLetter (1 + count + j) n
  letter_is j n e =
      let k = suc (length given + j) in
      let got : slice_get (data_words u) k ≡ Some n = get_behind given letters j ∙ e in
      let at : 1 + count + j ≡ k = omega (arith, given_count) in
      let lt = get_inside letters j n e in
      (ap (word_at mem) at ∙ word_is k n got, is.words k n got, omega arith, omega (arith, lt, end_is))

  literal_is : (owner : Option (List ℕ)) (number : ℕ) (text : List ℕ) (k c : ℕ) → g.text owner number ≡ Some text → slice_get (text ++ 0 ∷ []) k ≡ Some c → IsLetter (g.literal owner number + k) c
  literal_is owner number text k c e f = letters_have IsLetter (literals_of u) (1 + count) letter_is owner number k text c e f

  apart_rows : 1 + words_given true flags objects ≤ data_end u
  apart_rows = omega (arith, end_is)

  lies : Lies g bs objects mem (frames u)
  lies = record {
    count = rows_count flags objects 1 (data_end u) same;
    seen = omega arith;
    each = λ o x e. ⊎_elim (λ h. (h.0, omega (arith, h.1, is.small, end_is, frames_are))) (λ h. (omega (arith, h.0, end_is), omega (arith, h.1, is.small, frames_are))) (rows_within flags objects 1 (data_end u) same o x e);
    full = λ o x e. (rows_full g bs w mem flags objects same is.mean o x e, rows_words flags objects 1 (data_end u) same o x e);
    cells = λ o k c e. (let h = holder objects o k c e in rows_mean g bs w mem flags objects 1 (data_end u) same is.mean given_there zero_behind o k h.object c h.is h.cell);
    below = λ o k c e.
        (let h = holder objects o k c e in
        let lt = get_inside h.object.cells k c h.cell in
        ⊎_elim (λ r. omega (arith, r.1, lt, end_is, frames_are)) (λ r. omega (arith, r.1, lt, frames_are)) (rows_within flags objects 1 (data_end u) same o h.object h.is));
    apart = λ o k q j c d e f eq.
        (let x = holder objects o k c e in
        let y = holder objects q j d f in
        let one = rows_apart flags objects 1 (data_end u) same apart_rows o q k j x.object y.object x.is y.is (get_inside x.object.cells k c x.cell) (get_inside y.object.cells j d y.cell) eq in
        let at : base bs o ≡ base bs q = ap (base bs) one in
        (one, omega (arith, eq, at)));
  }

  letters_lie : LettersLie g bs objects mem (frames u)
  letters_lie owner number text k c e f =
      let p = literal_is owner number text k c e f in (
        p.0,
        p.1,
        omega (arith, p.3, frames_are),
        λ o j d e1 eq.
            (let h = holder objects o j d e1 in
            let lt = get_inside h.object.cells j d h.cell in
            ⊎_elim (λ r. omega (arith, r.1, lt, eq, p.2)) (λ r. omega (arith, r.0, eq, p.3)) (rows_within flags objects 1 (data_end u) same o h.object h.is)),
      )

  names_lie : (bp : ℕ) (names : Names) → AreBelow names (length objects) → NamesLie bs bp w.bases names names
  names_lie bp [] h = tt
  names_lie bp (x ∷ names) h = (refl, object_lies x.1 h.0, names_lie bp names h.1)
    where
      object_lies : (j : Option ℕ) → IsBelow j (length objects) → ObjectLies bs bp w.bases j j
      object_lies None lt = tt
      object_lies (Some j) lt = let n = rows_count flags objects 1 (data_end u) same in (omega (arith, lt, n), rows_fixed flags objects 1 (data_end u) bp same j lt)

  pub data_lies : DataLies u
  data_lies = record {
    lies = lies;
    letters = letters_lie;
    names = λ bp. names_lie bp (text_of u).names (below_more (text_of u).names (0 + length objects) (length objects) (omega arith) (items_below u.items (file_start u) tt));
    within = λ owner number text e.
        (let a = letter_there text 0 (omega arith) in
        let z = letter_there text (length text) (omega arith) in
        let p = literal_is owner number text 0 a.0 e a.1 in
        let q = literal_is owner number text (length text) z.0 e z.1 in
        (omega (arith, p.2), omega (arith, q.3, is.small, frames_are)));
    apart = λ owner other i j text more k l e f kl ll eq. letters_apart (literals_of u) (1 + count) owner other i j text more k l e f kl ll eq;
  }
