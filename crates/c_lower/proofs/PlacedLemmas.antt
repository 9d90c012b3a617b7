-- Where the string literals of functions lie, one function behind the other.
use Rattle.std.proofs.Common.{◌≡◌, ℕ, zero, suc, ◌+◌, ◌<◌, ◌≤◌, Bool, true, false, List, [], ◌∷◌, ◌++◌, length, length-append, map, take, drop, Option, Some, None, refl, sym, ap, subst, ◌∙◌, add-zero, add-one, drop-cons, get_or, if◌then◌else◌, arith}
use Rattle.std.specs.Prelude.{nat_lt, unwrap_or}
use Rattle.std.specs.Str.{bytes_eq}
use Rattle.std.proofs.lemmas.Bool.Decides.{nat_tests}
use Rattle.std.specs.List.{flat_map}
use Rattle.std.specs.Cmp.Lexicographic.{bytes_decides}
use Rattle.std.proofs.lemmas.List.{drop-drop}
use Rattle.ordered.specs.Order.{insert_entry}
use denote.Ref.{Bor}
use Rattle.c_eval.specs.Text.{Definition}
use Rattle.c_cells.proofs.MapLemmas.{Decides, inserted}
use Rattle.c_lowered.specs.Whole.{letter_words, letters_before, literal_address}
use Rattle.c_counted.specs.Numbers.{IsNumber}
use Rattle.c_addressing.specs.declared.here.Literals.{Literals}
use Rattle.c_addressing.specs.Here.{first_or}
use Rattle.c_lower_data.specs.Letters.{AreAddresses}
use Rattle.c_lower.specs.declared.bodies.Body.{Body}
use Rattle.c_lower.specs.declared.placed.Placed.{Placed}
use Rattle.c_lower.specs.Bodies.{literals_in_function, functions_literals, AreEach}
use Rattle.c_lower.specs.Placed.{Entries, found_literals, literals_in, or_else, AddsLiterals, LieAt, owned_literals, PlacesLiterals}

-- ---- one name more

bytes : Decides bytes_eq
bytes = record { same = λ x y e. (bytes_decides x y).0 e; equal = λ x y e. (bytes_decides x y).1 e }

known_stays : (old : Entries) (name : List ℕ) (l m : Literals) (other : List ℕ) (same : Bool) → bytes_eq other name ≡ same → found_literals old name ≡ Some m → found_literals old other ≡ or_else (found_literals old other) (if same then Some l else None)
known_stays old name l m other true e h = by (found_literals old other) (ap (λ (x : List ℕ). found_literals old x) ((bytes_decides other name).0 e) ∙ h) where
  by : (o : Option Literals) → o ≡ Some m → o ≡ or_else o (Some l)
  by (Some k) g = refl
  by None g = absurd cc
known_stays old name l m other false e h = by (found_literals old other) where
  by : (o : Option Literals) → o ≡ or_else o None
  by (Some k) = refl
  by None = refl

-- a name of which literals are known
pub stays : (old : Entries) (name : List ℕ) (l m : Literals) → found_literals old name ≡ Some m → AddsLiterals old old name l
stays old name l m h = record { found = λ other. known_stays old name l m other (bytes_eq other name) refl h }

new_found : (old : Entries) (name : List ℕ) (l : Literals) (other : List ℕ) (same : Bool) → bytes_eq other name ≡ same → found_literals old name ≡ None
    → (if same then Some l else found_literals old other) ≡ or_else (found_literals old other) (if same then Some l else None)
new_found old name l other true e h = by (found_literals old other) (ap (λ (x : List ℕ). found_literals old x) ((bytes_decides other name).0 e) ∙ h) where
  by : (o : Option Literals) → o ≡ None → Some l ≡ or_else o (Some l)
  by None g = refl
  by (Some k) g = absurd cc
new_found old name l other false e h = by (found_literals old other) where
  by : (o : Option Literals) → o ≡ or_else o None
  by (Some k) = refl
  by None = refl

-- another name
pub enters : (old new : Entries) (name : Bor (List ℕ)) (l : Literals) → found_literals old name.now ≡ None → new ≡ insert_entry (λ x y. bytes_eq x.now y.now) old name l → AddsLiterals old new name.now l
enters old new name l none made = record {
  found = λ other.
      ap (λ (es : Entries). found_literals es other) made ∙ (inserted (λ (k : Bor (List ℕ)). k.now) bytes_eq bytes other old name l ∙ new_found old name.now l other (bytes_eq other name.now) refl none);
}

-- ---- the addresses of some literals among others

cut_within : (xs : List ℕ) (end count n : ℕ) → n < count → first_or (first_or end (drop count xs)) (drop n (take count xs)) ≡ first_or end (drop n xs)
cut_within xs end zero n h = absurd (omega (arith, h))
cut_within [] end (suc count) zero h = refl
cut_within (x ∷ xs) end (suc count) zero h = refl
cut_within [] end (suc count) (suc n) h = refl
cut_within (x ∷ xs) end (suc count) (suc n) h = let less : n < count = omega (arith, h) in cut_within xs end count n less

cut_beyond : (xs : List ℕ) (e count n : ℕ) → count ≤ n → first_or e (drop n (take count xs)) ≡ e
cut_beyond [] e zero zero h = refl
cut_beyond [] e zero (suc n) h = refl
cut_beyond (x ∷ xs) e zero zero h = refl
cut_beyond (x ∷ xs) e zero (suc n) h = refl
cut_beyond xs e (suc count) zero h = absurd (omega (arith, h))
cut_beyond [] e (suc count) (suc n) h = refl
cut_beyond (x ∷ xs) e (suc count) (suc n) h = let less : count ≤ n = omega (arith, h) in cut_beyond xs e count n less

before_within : (own rest : List (List ℕ)) (n : ℕ) → n ≤ length own → letters_before n (own ++ rest) ≡ letters_before n own
before_within own rest zero h = refl
before_within [] rest (suc n) h = absurd (omega (arith, h))
before_within (t ∷ own) rest (suc n) h = let less : n ≤ length own = omega (arith, h) in ap (λ (k : ℕ). length t + 1 + k) (before_within own rest n less)

before_beyond : (own : List (List ℕ)) (n : ℕ) → length own ≤ n → letters_before n own ≡ letters_before (length own) own
before_beyond [] zero h = refl
before_beyond [] (suc n) h = refl
before_beyond (t ∷ own) zero h = absurd (omega (arith, h))
before_beyond (t ∷ own) (suc n) h = let less : length own ≤ n = omega (arith, h) in ap (λ (k : ℕ). length t + 1 + k) (before_beyond own n less)

before_behind : (own rest : List (List ℕ)) (n : ℕ) → letters_before (length own + n) (own ++ rest) ≡ letters_before (length own) own + letters_before n rest
before_behind [] rest n =
    let none : 0 + n ≡ n = omega arith in
    let more : 0 + letters_before n rest ≡ letters_before n rest = omega arith in
    ap (λ (k : ℕ). letters_before k rest) none ∙ sym more
before_behind (t ∷ own) rest n =
    let next : suc (length own) + n ≡ suc (length own + n) = omega arith in
    let sum : length t + 1 + (letters_before (length own) own + letters_before n rest) ≡ length t + 1 + letters_before (length own) own + letters_before n rest = omega arith in
    ap (λ (k : ℕ). letters_before k (t ∷ (own ++ rest))) next ∙ (ap (λ (k : ℕ). length t + 1 + k) (before_behind own rest n) ∙ sum)

-- how many words literals have
many_words : (own : List (List ℕ)) → length (flat_map letter_words own) ≡ letters_before (length own) own
many_words [] = refl
many_words (t ∷ own) = length-append (letter_words t) (flat_map letter_words own) ∙ (ap (λ (k : ℕ). k + length (flat_map letter_words own)) (length-append t (0 ∷ [])) ∙ ap (λ (k : ℕ). length t + 1 + k) (many_words own))

-- the literals of a function lie where those that are left begin
own_lie : (l o : Literals) (count at : ℕ) (own rest : List (List ℕ)) → count ≡ length own → o.next.now ≡ take count l.next.now → o.end ≡ first_or l.end (drop count l.next.now) → AreAddresses l.next.now l.end at (own ++ rest)
    → LieAt o (λ n. at + letters_before n own)
own_lie l o count at own rest same next end are = record { told = λ n. by n (nat_lt n count) refl } where
  shown : (n : ℕ) → first_or o.end (drop n o.next.now) ≡ first_or (first_or l.end (drop count l.next.now)) (drop n (take count l.next.now))
  shown n = ap (λ (e : ℕ). first_or e (drop n o.next.now)) end ∙ ap (λ (x : List ℕ). first_or (first_or l.end (drop count l.next.now)) (drop n x)) next

  by : (n : ℕ) (less : Bool) → nat_lt n count ≡ less → IsNumber (first_or o.end (drop n o.next.now)) (at + letters_before n own)
  by n true e =
      let within : n < count = grind (arith, nat_tests, e) in
      let there : n ≤ length own = omega (arith, within, same) in
      subst (λ (k : ℕ). IsNumber k (at + letters_before n own)) (sym (shown n ∙ cut_within l.next.now l.end count n within))
      (subst (λ (k : ℕ). IsNumber (first_or l.end (drop n l.next.now)) (at + k)) (before_within own rest n there) (are.told n))
  by n false e =
      let beyond : count ≤ n = grind (arith, nat_tests, e) in
      let past : length own ≤ n = omega (arith, beyond, same) in
      let all : count ≤ length own = omega (arith, same) in
      let last : letters_before count own ≡ letters_before n own = ap (λ (k : ℕ). letters_before k own) same ∙ sym (before_beyond own n past) in
      subst (λ (k : ℕ). IsNumber k (at + letters_before n own)) (sym (shown n ∙ cut_beyond l.next.now (first_or l.end (drop count l.next.now)) count n beyond))
      (subst (λ (k : ℕ). IsNumber (first_or l.end (drop count l.next.now)) (at + k)) (before_within own rest count all ∙ last) (are.told count))

-- those of the others lie behind them
others_lie : (l m : Literals) (count at : ℕ) (own rest : List (List ℕ)) → count ≡ length own → m.next.now ≡ drop count l.next.now → m.end ≡ l.end → AreAddresses l.next.now l.end at (own ++ rest)
    → AreAddresses m.next.now m.end (at + length (flat_map letter_words own)) rest
others_lie l m count at own rest same next end are = record { told = by } where
  by : (n : ℕ) → IsNumber (first_or m.end (drop n m.next.now)) (at + length (flat_map letter_words own) + letters_before n rest)
  by n =
      let words = many_words own in
      let there : letters_before (count + n) (own ++ rest) ≡ letters_before (length own) own + letters_before n rest = ap (λ (k : ℕ). letters_before (k + n) (own ++ rest)) same ∙ before_behind own rest n in
      let sum : at + letters_before (count + n) (own ++ rest) ≡ at + length (flat_map letter_words own) + letters_before n rest = omega (arith, words, there) in
      let shown : first_or m.end (drop n m.next.now) ≡ first_or l.end (drop (count + n) l.next.now) =
      ap (λ (e : ℕ). first_or e (drop n m.next.now)) end ∙ (ap (λ (x : List ℕ). first_or l.end (drop n x)) next ∙ ap (λ (x : List ℕ). first_or l.end x) (drop-drop n count l.next.now)) in
      subst (λ (k : ℕ). IsNumber k (at + length (flat_map letter_words own) + letters_before n rest)) (sym shown) (subst (λ (k : ℕ). IsNumber (first_or l.end (drop (count + n) l.next.now)) k) sum (are.told (count + n)))

-- what is left of some bodies begins with the one that comes next
pub drop_next : (xs : List Body) (i : ℕ) (x : Body) → i < length xs → drop i xs ≡ get_or xs i x ∷ drop (i + 1) xs
drop_next xs i x h = rw (add-one, drop-cons xs i x) refl

-- ---- functions, one behind the other

-- literals that are known lie where they are meant; else those that are left are meant
abbrev pub LieOrLeft : Option Literals → (meant left : ℕ → ℕ) → Type 0
LieOrLeft (Some l) meant left = LieAt l meant
LieOrLeft None meant left = (n : ℕ) → meant n ≡ left n

-- where the literals of a name lie, if functions' literals begin at an address
abbrev pub address_of : List Definition → ℕ → List ℕ → ℕ → ℕ
address_of fs a name = literal_address (map owned_literals fs) a (Some name)

-- those of the first functions are placed
pub record ArePlaced (known : Entries) (other : Literals) (a : ℕ) (all left : List Definition) : Type 0 where
  pub at : ℕ
  pub are : AreAddresses other.next.now other.end at (functions_literals left)
  pub found : (name : List ℕ) → LieOrLeft (found_literals known name) (address_of all a name) (address_of left at name)

pub record LeftPlaced (known : Entries) (other : Literals) (a : ℕ) (all : List Definition) (left : List Body) : Type 0 where
  pub fs : List Definition
  pub each : AreEach left fs
  pub placed : ArePlaced known other a all fs

pub record Placing (addresses : List ℕ) (end : ℕ) (known : Entries) (other : Literals) (all left : List Body) : Type 0 where
  pub so_far : (a : ℕ) (fs : List Definition) → AreEach all fs → AreAddresses addresses end a (functions_literals fs) → LeftPlaced known other a fs left

pub placing_begun : (addresses : List ℕ) (end : ℕ) (known : Entries) (other : Literals) (all : List Body) → known ≡ [] → other.next.now ≡ addresses → other.end ≡ end → Placing addresses end known other all all
placing_begun addresses end known other all none next last = record {
  so_far = λ a fs each are. record {
    fs = fs;
    each = each;
    placed = record {
      at = a;
      are = subst (λ (e : ℕ). AreAddresses other.next.now e a (functions_literals fs)) (sym last) (subst (λ (x : List ℕ). AreAddresses x end a (functions_literals fs)) (sym next) are);
      found = λ name. subst (λ (es : Entries). LieOrLeft (found_literals es name) (address_of fs a name) (address_of fs a name)) (sym none) (λ n. refl);
    };
  };
}

same_either : (x y : List ℕ) → bytes_eq x y ≡ bytes_eq y x
same_either x y = by (bytes_eq x y) (bytes_eq y x) refl refl where
  by : (b c : Bool) → bytes_eq x y ≡ b → bytes_eq y x ≡ c → b ≡ c
  by true true e f = refl
  by false false e f = refl
  by true false e f = absurd (let g = sym f ∙ (bytes_decides y x).1 (sym ((bytes_decides x y).0 e)) in cc)
  by false true e f = absurd (let g = sym e ∙ (bytes_decides x y).1 (sym ((bytes_decides y x).0 f)) in cc)

-- a name that is found, once a function has its literals
one_found : (o : Option Literals) (same : Bool) (l : Literals) (meant at behind : ℕ → ℕ) → LieAt l at → LieOrLeft o meant (λ n. if same then at n else behind n) → LieOrLeft (or_else o (if same then Some l else None)) meant behind
one_found (Some m) same l meant at behind lie h = h
one_found None true l meant at behind lie h = record { told = λ n. subst (λ (k : ℕ). IsNumber (first_or l.end (drop n l.next.now)) k) (sym (h n)) (lie.told n) }
one_found None false l meant at behind lie h = h

one_placed : (known new : Entries) (other own next : Literals) (a : ℕ) (all : List Definition) (g : Definition) (gs : List Definition) (name : List ℕ) (count : ℕ) → name ≡ g.name → count ≡ length (literals_in_function g)
    → own.next.now ≡ take count other.next.now → own.end ≡ first_or other.end (drop count other.next.now) → next.next.now ≡ drop count other.next.now → next.end ≡ other.end → AddsLiterals known new name own
    → ArePlaced known other a all (g ∷ gs) → ArePlaced new next a all gs
one_placed known new other own next a all g gs name count is many own_next own_end rest_next rest_end adds p =
    let mine = literals_in_function g in
    let behind : ℕ = p.at + length (flat_map letter_words mine) in
    let lie = own_lie other own count p.at mine (functions_literals gs) many own_next own_end p.are in
    record {
      at = behind;
      are = others_lie other next count p.at mine (functions_literals gs) many rest_next rest_end p.are;
      found = λ x.
          let here : Bool = bytes_eq x name in
          let same : bytes_eq g.name x ≡ here = same_either g.name x ∙ ap (λ (y : List ℕ). bytes_eq x y) (sym is) in
          let left : LieOrLeft (found_literals known x) (address_of all a x) (λ n. if here then p.at + letters_before n mine else address_of gs behind x n) =
          subst (λ (b : Bool). LieOrLeft (found_literals known x) (address_of all a x) (λ n. if b then p.at + letters_before n mine else address_of gs behind x n)) same (p.found x) in
          subst (λ (o : Option Literals). LieOrLeft o (address_of all a x) (address_of gs behind x)) (sym (adds.found x))
          (one_found (found_literals known x) here own (address_of all a x) (λ n. p.at + letters_before n mine) (address_of gs behind x) lie left);
    }

pub placing_on : (addresses : List ℕ) (end : ℕ) (known new : Entries) (other own next : Literals) (all left : List Body) (b : Body) (rest : List Body) → Placing addresses end known other all left → left ≡ b ∷ rest
    → own.next.now ≡ take b.count other.next.now → own.end ≡ first_or other.end (drop b.count other.next.now) → next.next.now ≡ drop b.count other.next.now → next.end ≡ other.end → AddsLiterals known new b.name.now own
    → Placing addresses end new next all rest
placing_on addresses end known new other own next all left b rest k same own_next own_end rest_next rest_end adds = record {
  so_far = λ a fs each are.
      let p = k.so_far a fs each are in
      by a fs p.fs (subst (λ (l : List Body). AreEach l p.fs) same p.each) p.placed;
} where
  by : (a : ℕ) (fs gs : List Definition) → AreEach (b ∷ rest) gs → ArePlaced known other a fs gs → LeftPlaced new next a fs rest
  by a fs [] each placed = absurd each
  by a fs (g ∷ gs) each placed = record { fs = gs; each = each.2; placed = one_placed known new other own next a fs g gs b.name.now b.count each.0 each.1 own_next own_end rest_next rest_end adds placed }

no_literal : (n : ℕ) → letters_before n [] ≡ 0
no_literal zero = refl
no_literal (suc n) = refl

pub placing_done : (addresses : List ℕ) (end : ℕ) (p : Placed) (all left : List Body) (a : ℕ) (fs : List Definition) → Placing addresses end p.known.entries p.other all left → left ≡ [] → AreEach all fs
    → AreAddresses addresses end a (functions_literals fs) → PlacesLiterals p (literal_address (map owned_literals fs) a)
placing_done addresses end p all left a fs k none each are =
    let q = k.so_far a fs each are in
    by q.fs (subst (λ (l : List Body). AreEach l q.fs) none q.each) q.placed where
      by : (gs : List Definition) → AreEach [] gs → ArePlaced p.known.entries p.other a fs gs → PlacesLiterals p (literal_address (map owned_literals fs) a)
      by (g ∷ gs) h r = absurd h
      by [] h r = record { lie = λ name. of name (found_literals p.known.entries name) refl (r.found name) } where
        of : (name : List ℕ) (o : Option Literals) → found_literals p.known.entries name ≡ o → LieOrLeft o (address_of fs a name) (address_of [] r.at name) → LieAt (literals_in p name) (literal_address (map owned_literals fs) a (Some name))
        of name (Some l) e lie = subst (λ (x : Option Literals). LieAt (unwrap_or x p.other) (address_of fs a name)) (sym e) lie
        of name None e left = subst (λ (x : Option Literals). LieAt (unwrap_or x p.other) (address_of fs a name)) (sym e) (record {
          told = λ n.
              let end_is : r.at + letters_before n [] ≡ address_of fs a name n = ap (λ (m : ℕ). r.at + m) (no_literal n) ∙ (add-zero r.at ∙ sym (left n)) in
              subst (λ (m : ℕ). IsNumber (first_or p.other.end (drop n p.other.next.now)) m) end_is (r.are.told n);
        })
