-- The first words of a program mean what the objects of its text hold.
use Rattle.std.proofs.Common.{◌≡◌, ⊎_elim, ℕ, zero, suc, ◌+◌, ◌^◌, ◌<◌, ◌≤◌, Bool, true, false, List, [], ◌∷◌, ◌++◌, length, map, Option, Some, None, slice_get, refl, sym, ap, ◌∙◌, subst, arith, length-append}
use Rattle.std.specs.Prelude.{is_some, unwrap_or, if◌then◌else◌}
use Rattle.std.specs.List.{flat_map}
use Rattle.c_syntax.specs.Plain as plain
use Rattle.c_syntax.specs.Plain.{CValue, CItem, CUnit}
use Rattle.c_types.specs.Types.{CType}
use Rattle.c_types.specs.Declarations.{scope_or}
use Rattle.c_types.specs.Units.{item_judged}
use Rattle.c_eval.specs.State as state
use Rattle.c_eval.specs.State.{Value, Word, Null, Point, Letter, Function, Missing, Cell, Unset, Holds}
use Rattle.c_eval.specs.Memory.{Kind, Number, ObjectPointer, FunctionPointer}
use Rattle.c_eval.specs.LiteralsIn.{first_literals}
use Rattle.c_eval.specs.Environment.{Environment, object_type_in, cell_kinds, past_first}
use Rattle.c_eval.specs.Text.{behind_item, zero_cells, first_cells, file_objects, file_start, text_of}
use Rattle.c_place.specs.Code.{jumps}
use Rattle.c_lowered.specs.Locations.{Fixed, Linking}
use Rattle.c_lowered.specs.Whole.{firsts_given, file_bases, file_literals, Literals, literals_of, letter_words, all_letters, letters_before, data_end, frames, linking_of, whole_code, address_in, word_of, cell_word, given_words, data_words}
use Rattle.c_memory.specs.Lies.{Extent, base, Ground, Means, MeansCell}
use Rattle.c_laid.specs.Data.{file_extents, is_valued, ground_of, FirstWordsMean, DataIs}
use Rattle.c_laid.proofs.DataObjects.{rows, rows_count, rows_within}
use Rattle.c_laid.proofs.First.{AreBelow, below_more, past_keeps, flags_count}
use Rattle.c_laid.proofs.Placed.{laid}
use Rattle.c_worlds.specs.Named.{IsNamed, CellIsNamed, CellsAreNamed, ObjectsAreNamed}
use Rattle.c_laid.specs.Fits.{AreWords, AllAreWords, LiteralsAreWords, HaveWords, DataFits}
use Rattle.c_laid.proofs.FirstMemoriesValues.{IsGood, CellIsGood, CellsAreGood, LiteralsAt, at_front, at_behind, cells_good}

-- ---- words

both_words : (xs ys : List ℕ) → AreWords xs → AreWords ys → AreWords (xs ++ ys)
both_words [] ys a b = b
both_words (x ∷ xs) ys a b = (a.0, both_words xs ys a.1 b)

word_at_number : (xs : List ℕ) (k n : ℕ) → AreWords xs → slice_get xs k ≡ Some n → n < 2 ^ 24
word_at_number [] k n a e = absurd (cc e)
word_at_number (x ∷ xs) zero n a e = let same : x ≡ n = cc e in subst (λ z. z < 2 ^ 24) same a.0
word_at_number (x ∷ xs) (suc k) n a e = word_at_number xs k n a.1 e

texts_are_words : (texts : List (List ℕ)) → AllAreWords texts → AreWords (flat_map letter_words texts)
texts_are_words [] a = tt
texts_are_words (t ∷ texts) a = both_words (letter_words t) (flat_map letter_words texts) (both_words t (0 ∷ []) a.0 (omega arith, tt)) (texts_are_words texts a.1)

letters_are_words : (l : Literals) → LiteralsAreWords l → AreWords (all_letters l)
letters_are_words [] a = tt
letters_are_words (entry ∷ more) a = both_words (flat_map letter_words entry.1) (all_letters more) (texts_are_words entry.1 a.0) (letters_are_words more a.1)

-- ---- places

got : {A : Type 0} (xs : List A) (o : ℕ) → o < length xs → (x : A) × (slice_get xs o ≡ Some x)
got [] o lt = absurd (omega (arith, lt))
got (x ∷ xs) zero lt = (x, refl)
got (x ∷ xs) (suc o) lt = got xs o (omega (arith, lt))

-- where an object lies
fixed_at : (flags : List Bool) (xs : List state.Object) (given other : ℕ) → length flags ≡ length xs → (o : ℕ) → o < length xs → address_in (unwrap_or (slice_get (file_bases flags xs given other) o) (Fixed 0)) ≡ base (rows flags xs given other) o
fixed_at flags [] given other same o lt = absurd (omega (arith, lt))
fixed_at [] (y ∷ xs) given other same o lt = absurd (omega (arith, same))
fixed_at (true ∷ flags) (y ∷ xs) given other same zero lt = refl
fixed_at (true ∷ flags) (y ∷ xs) given other same (suc o) lt = fixed_at flags xs (given + length y.cells) other (omega (arith, same)) o (omega (arith, lt))
fixed_at (false ∷ flags) (y ∷ xs) given other same zero lt = refl
fixed_at (false ∷ flags) (y ∷ xs) given other same (suc o) lt = fixed_at flags xs given (other + length y.cells) (omega (arith, same)) o (omega (arith, lt))

before_within : (texts : List (List ℕ)) (i : ℕ) (text : List ℕ) → slice_get texts i ≡ Some text → letters_before i texts ≤ length (flat_map letter_words texts)
before_within [] i text e = absurd (cc e)
before_within (t ∷ texts) zero text e = omega arith
before_within (t ∷ texts) (suc i) text e =
    let h = before_within texts i text e in let a = length-append (letter_words t) (flat_map letter_words texts) in let b = length-append t (0 ∷ []) in omega (arith, h, a, b)

past_literals : (o : Option CValue) (here : Environment) → (past_first o here).literals_before ≡ here.literals_before + length (first_literals here.scope o)
past_literals None here = omega arith
past_literals (Some v) here = refl

module _ (u : CUnit) (small : frames u < 2 ^ 24) (few : jumps (whole_code u) < 2 ^ 24) (letters : LiteralsAreWords (literals_of u)) where
  abbrev objects : List state.Object
  objects = (text_of u).objects

  abbrev flags : List Bool
  flags = firsts_given u.items

  abbrev texts : List (List ℕ)
  texts = file_literals u.items (file_start u)

  abbrev g : Ground
  g = ground_of u

  abbrev w : Linking
  w = linking_of u

  abbrev bs : List Extent
  bs = file_extents u

  -- functions to which pointers point have first blocks
  abbrev Valued : List ℕ → Type 0
  Valued name = is_valued u name ≡ true

  abbrev Good : Value → Type 0
  Good = IsGood texts letters.0 (length objects)

  abbrev CellsGood : List Cell → Type 0
  CellsGood = CellsAreGood texts letters.0 (length objects)

  abbrev At : ℕ → List (List ℕ) → Type 0
  At = LiteralsAt texts letters.0 (length objects)

  same : length flags ≡ length objects
  same = flags_count u.items (file_start u)

  -- ---- a value

  point_small : (o : ℕ) → o < length objects → base bs o < 2 ^ 24
  point_small o lt =
      let x = got objects o lt in
      ⊎_elim (λ h. omega (arith, h.0, h.1, small)) (λ h. omega (arith, h.0, h.1, small)) (rows_within flags objects 1 (data_end u) same o x.0 x.1)

  letter_small : (i : ℕ) (text : List ℕ) → slice_get texts i ≡ Some text → w.literal None i < 2 ^ 24
  letter_small i text e =
      let h = before_within texts i text e in let a = length-append (flat_map letter_words texts) (all_letters (drop_first (literals_of u))) in omega (arith, h, a, small)
    where
      drop_first : Literals → Literals
      drop_first [] = []
      drop_first (entry ∷ more) = more

  means : (v : Value) → Good v → IsNamed Valued v → Means g bs v (word_of w v) × (word_of w v < 2 ^ 24)
  means (Word n) h k = ((refl, h), h)
  means Null h k = (refl, omega arith)
  means (Point o k) h l =
      let lt = h.0 in let none = h.1 in
      let at = fixed_at flags objects 1 (data_end u) same o lt in
      let many = rows_count flags objects 1 (data_end u) same in
      let low = point_small o lt in
      ((omega (arith, lt, many), omega (arith, none), ap (λ z. z + k) at), omega (arith, at, low, none))
  means (Letter f i text k) h l =
      let none = h.2 in
      let low : w.literal f i < 2 ^ 24 = subst (λ z. w.literal z i < 2 ^ 24) (sym h.0) (letter_small i text h.1) in
      ((subst (λ z. g.text z i ≡ Some text) (sym h.0) h.1, omega (arith, none), refl), omega (arith, low, none))
  means (Function name) h k = let le = (laid u).entries name in ((k, refl), omega (arith, le, few))
  means Missing h k = (tt, omega arith)

  -- ---- cells

  cells_mean : (cells : List Cell) (k : ℕ) (c : Cell) → CellsGood cells → CellsAreNamed Valued cells → slice_get cells k ≡ Some c → MeansCell g bs c (cell_word w c)
  cells_mean [] k c h n e = absurd (cc e)
  cells_mean (x ∷ xs) zero c h n e = let is : x ≡ c = cc e in subst (λ z. MeansCell g bs z (cell_word w z)) is (one x h.0 n.0)
    where
      one : (x : Cell) → CellIsGood texts letters.0 (length objects) x → CellIsNamed Valued x → MeansCell g bs x (cell_word w x)
      one Unset h n = tt
      one (Holds v) h n = (means v h n).0
  cells_mean (x ∷ xs) (suc k) c h n e = cells_mean xs k c h.1 n.1 e

  cells_small : (cells : List Cell) → CellsGood cells → CellsAreNamed Valued cells → AreWords (map (cell_word w) cells)
  cells_small [] h n = tt
  cells_small (Unset ∷ xs) h n = (omega arith, cells_small xs h.1 n.1)
  cells_small (Holds v ∷ xs) h n = ((means v h.0 n.0).1, cells_small xs h.1 n.1)

  zeros_mean : (kinds : List Kind) (k : ℕ) (c : Cell) → slice_get (zero_cells kinds) k ≡ Some c → MeansCell g bs c 0
  zeros_mean [] k c e = absurd (cc e)
  zeros_mean (Number ∷ kinds) zero c e = let is : Holds (Word 0) ≡ c = cc e in subst (λ z. MeansCell g bs z 0) is (refl, omega arith)
  zeros_mean (ObjectPointer ∷ kinds) zero c e = let is : Holds Null ≡ c = cc e in subst (λ z. MeansCell g bs z 0) is refl
  zeros_mean (FunctionPointer ∷ kinds) zero c e = let is : Holds Null ≡ c = cc e in subst (λ z. MeansCell g bs z 0) is refl
  zeros_mean (kind ∷ kinds) (suc k) c e = zeros_mean kinds k c e

  -- ---- an object

  record HeadFits (given : Bool) (cells : List Cell) : Type 0 where
    mean : (k : ℕ) (c : Cell) → slice_get cells k ≡ Some c → MeansCell g bs c (if given then cell_word w c else 0)
    words : given ≡ true → AreWords (map (cell_word w) cells)

  head_fits : (o : Option CValue) (t : CType) (here : Environment) → AreBelow here.objects (length objects) → At here.literals_before (first_literals here.scope o) → CellsAreNamed Valued (first_cells t o (record (past_first o here) { literals_before = here.literals_before }))
      → HeadFits (is_some o) (first_cells t o (record (past_first o here) { literals_before = here.literals_before }))
  head_fits None t here a l n = record { mean = λ k c e. zeros_mean (cell_kinds here.scope.tags t) k c e; words = λ e. absurd (cc e) }
  head_fits (Some v) t here a l n =
      let env : Environment = record (past_first (Some v) here) { literals_before = here.literals_before } in
      let good = cells_good texts letters.0 (length objects) v t env a l in
      record { mean = λ k c e. cells_mean (first_cells t (Some v) env) k c good n e; words = λ e. cells_small (first_cells t (Some v) env) good n }

  joined : (given : Bool) (x : state.Object) (more : List Bool) (xs : List state.Object) → HeadFits given x.cells → AreWords (given_words w more xs) → AreWords (given_words w (given ∷ more) (x ∷ xs))
  joined true x more xs h a = both_words (map (cell_word w) x.cells) (given_words w more xs) (h.words refl) a
  joined false x more xs h a = a

  -- ---- all of them

  record AllFit (items : List CItem) (here : Environment) : Type 0 where
    mean : FirstWordsMean g bs w (firsts_given items) (file_objects items here)
    words : AreWords (given_words w (firsts_given items) (file_objects items here))

  items_fit : (items : List CItem) (here : Environment) → AreBelow here.objects here.next → here.next + length (file_objects items here) ≤ length objects → At here.literals_before (file_literals items here) → ObjectsAreNamed Valued (file_objects items here) → HaveWords (file_objects items here) → AllFit items here
  items_fit [] here a n l p h = record { mean = tt; words = tt }
  items_fit (plain.Object d ∷ items) here a n l p h =
      let own : Environment = record here { scope = scope_or here.scope (item_judged here.scope (plain.Object d)); objects = (d.name, Some here.next) ∷ here.objects; next = suc here.next } in
      let next : Environment = behind_item (plain.Object d) here in
      let counted : next.next ≡ suc here.next = (past_keeps d.first own).1 in
      let named : next.objects ≡ (d.name, Some here.next) ∷ here.objects = (past_keeps d.first own).0 in
      let mine : AreBelow ((d.name, Some here.next) ∷ here.objects) (suc here.next) = (omega arith, below_more here.objects here.next (suc here.next) (omega arith) a) in
      let all_mine : AreBelow ((d.name, Some here.next) ∷ here.objects) (length objects) = below_more ((d.name, Some here.next) ∷ here.objects) (suc here.next) (length objects) (omega (arith, n)) mine in
      let start : AreBelow next.objects next.next = subst (λ z. AreBelow z next.next) (sym named) (subst (λ z. AreBelow ((d.name, Some here.next) ∷ here.objects) z) (sym counted) mine) in
      let first : List (List ℕ) = first_literals own.scope d.first in
      let rest : List (List ℕ) = file_literals items next in
      let x = head_fits d.first (object_type_in here.scope d) own all_mine (at_front texts letters.0 (length objects) here.literals_before first rest l) p.0 in
      let later : At next.literals_before rest = subst (λ z. At z rest) (sym (past_literals d.first own)) (at_behind texts letters.0 (length objects) here.literals_before first rest l) in
      let k = items_fit items next start (omega (arith, n, counted)) later p.1 h.1 in
      record { mean = (h.0, x.mean, k.mean); words = joined (is_some d.first) _ (firsts_given items) (file_objects items next) x k.words }
  items_fit (plain.StructItem tag ∷ items) here a n l p h = let k = items_fit items (behind_item (plain.StructItem tag) here) a n l p h in record { mean = k.mean; words = k.words }
  items_fit (plain.Function name pos result params body ∷ items) here a n l p h = let k = items_fit items (behind_item (plain.Function name pos result params body) here) a n l p h in record { mean = k.mean; words = k.words }

  data_is : HaveWords objects → ObjectsAreNamed Valued objects → DataIs u
  data_is h p =
      let k = items_fit u.items (file_start u) tt (omega arith) (λ i text e. ap (λ z. slice_get texts z) (omega arith) ∙ e) p h in
      let all : AreWords (data_words u) = (omega arith, both_words (given_words w flags objects) (all_letters (literals_of u)) k.words (letters_are_words (literals_of u) letters)) in
      record { small = small; words = λ i n e. word_at_number (data_words u) i n all e; mean = k.mean }

pub data_fits : DataFits
data_fits u small few words letters named = data_is u small few letters words named
