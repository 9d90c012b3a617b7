-- Words of members, one after the other.
use Rattle.std.proofs.Common.{◌≡◌, ◌+◌, ◌<◌, ◌≤◌, ℕ, zero, suc, Bool, true, false, List, [], ◌∷◌, length, drop, refl, sym, ap, subst, ◌∙◌, arith}
use Rattle.std.specs.Prelude.{Option, Some, None, slice_get, if◌then◌else◌}
use Rattle.std.specs.Str.{bytes_eq}
use denote.Ref.{Bor}
use Rattle.std.specs.Option.{option_map}
use Rattle.c_types.specs.Types as types
use Rattle.c_types.specs.Types.{CType, Tags, words_of}
use Rattle.c_layouts.specs.declared.layout.Layout.TheVariants as layout
use Rattle.c_layouts.specs.Layouts.{LayoutIs}
use Rattle.c_eval.specs.Environment.{words_before}
use Rattle.c_types.specs.declared.words.Words.{Words}
use Rattle.c_types.specs.Seen.{Counts}
use Rattle.c_types.specs.Known.{Known, OneType}
use Rattle.c_declared.specs.Slots.{Entries, AreListed, IsListed}

-- the member of a number
pub record IsNext (all : List Known) (e : Bor (List ℕ) × ℕ) (members : List (List ℕ × CType)) (k : ℕ) : Type 0 where
  pub m : List ℕ × CType
  pub is : drop k members ≡ m ∷ drop (suc k) members
  pub name : e.0.now ≡ m.0
  pub ty : slice_get all e.1 ≡ Some (OneType m.1)

pub next : (all : List Known) (entries : Entries) (members : List (List ℕ × CType)) (k : ℕ) (e : Bor (List ℕ) × ℕ) → AreListed all entries members → slice_get entries k ≡ Some e → IsNext all e members k
next all [] [] k e h at = cc
next all (x ∷ entries) (m ∷ members) zero e h at =
    let same : x ≡ e = cc in
    record { m = m; is = refl; name = subst (λ (z : Bor (List ℕ) × ℕ). z.0.now ≡ m.0) same h.0; ty = subst (λ (z : Bor (List ℕ) × ℕ). slice_get all z.1 ≡ Some (OneType m.1)) same h.1 }
next all (x ∷ entries) (m ∷ members) (suc k) e h at = let n = next all entries members k e h.2 at in record { m = n.m; is = n.is; name = n.name; ty = n.ty }
next all [] (m ∷ members) k e h at = absurd h
next all (x ∷ entries) [] k e h at = absurd h

-- the words of the members so far, none of which has the name
pub record SoFar (tags : Tags) (members : List (List ℕ × CType)) (name : List ℕ) (sum : Words) (k : ℕ) : Type 0 where
  pub count : ℕ
  pub counts : Counts sum count
  pub whole : words_before tags members name ≡ count + words_before tags (drop k members) name

before_cons : (tags : Tags) (name : List ℕ) (m : List ℕ × CType) (rest : List (List ℕ × CType)) (b : Bool) → bytes_eq name m.0 ≡ b → words_before tags (m ∷ rest) name ≡ (if b then 0 else words_of tags m.1 + words_before tags rest name)
before_cons tags name m rest b e = ap (λ (t : Bool). if t then 0 else words_of tags m.1 + words_before tags rest name) e

pub none_more : (tags : Tags) (members : List (List ℕ × CType)) (name : List ℕ) (sum : Words) (k : ℕ) → SoFar tags members name sum k → words_before tags (drop k members) name ≡ 0 → Counts sum (words_before tags members name)
none_more tags members name sum k s e =
    let all : words_before tags members name ≡ s.count = omega (arith, s.whole, e) in
    subst (λ (n : ℕ). Counts sum n) (sym all) s.counts

-- before the first one
pub begun : (tags : Tags) (members : List (List ℕ × CType)) (name : List ℕ) (sum : Words) → Counts sum 0 → SoFar tags members name sum 0
begun tags members name sum h = record { count = 0; counts = h; whole = omega arith }

-- the member is found
pub found_here : (all : List Known) (tags : Tags) (members : List (List ℕ × CType)) (name : List ℕ) (sum : Words) (k : ℕ) (e : Bor (List ℕ) × ℕ) → SoFar tags members name sum k → IsNext all e members k → bytes_eq name e.0.now ≡ true
    → Counts sum (words_before tags members name)
found_here all tags members name sum k e s n same =
    none_more tags members name sum k s
    (ap (λ (l : List (List ℕ × CType)). words_before tags l name) n.is ∙ before_cons tags name n.m (drop (suc k) members) true (subst (λ (x : List ℕ). bytes_eq name x ≡ true) n.name same))

-- it is another one
pub goes_on : (all : List Known) (tags : Tags) (members : List (List ℕ × CType)) (name : List ℕ) (sum next : Words) (k : ℕ) (e : Bor (List ℕ) × ℕ) → (s : SoFar tags members name sum k) → (n : IsNext all e members k) → bytes_eq name e.0.now ≡ false
    → Counts next (s.count + words_of tags n.m.1) → SoFar tags members name next (suc k)
goes_on all tags members name sum next k e s n other counts =
    let here : words_before tags (drop k members) name ≡ words_of tags n.m.1 + words_before tags (drop (suc k) members) name =
    ap (λ (l : List (List ℕ × CType)). words_before tags l name) n.is ∙ before_cons tags name n.m (drop (suc k) members) false (subst (λ (x : List ℕ). bytes_eq name x ≡ false) n.name other) in
    record { count = s.count + words_of tags n.m.1; counts = counts; whole = omega (arith, s.whole, here) }

past_all : {A : Type 0} (xs : List A) (k : ℕ) → length xs ≤ k → drop k xs ≡ []
past_all [] zero h = refl
past_all [] (suc k) h = refl
past_all (x ∷ xs) zero h = absurd (omega arith)
past_all (x ∷ xs) (suc k) h = past_all xs k (omega arith)

as_many : (all : List Known) (entries : Entries) (members : List (List ℕ × CType)) → AreListed all entries members → length entries ≡ length members
as_many all [] [] h = refl
as_many all (x ∷ entries) (m ∷ members) h = ap suc (as_many all entries members h.2)
as_many all [] (m ∷ members) h = absurd h
as_many all (x ∷ entries) [] h = absurd h

pub at_end : (all : List Known) (tags : Tags) (entries : Entries) (members : List (List ℕ × CType)) (name : List ℕ) (sum : Words) (k : ℕ) → AreListed all entries members → SoFar tags members name sum k → length entries ≤ k
    → Counts sum (words_before tags members name)
at_end all tags entries members name sum k h s past =
    let many = as_many all entries members h in
    none_more tags members name sum k s (ap (λ (l : List (List ℕ × CType)). words_before tags l name) (past_all members k (omega (arith, many, past))))

some_pair : (p q : Bool × ℕ) → Some p ≡ Some q → p ≡ q
some_pair p q e = cc

-- what is found at a number
pub record IsEntry (o : Option (Bor (List ℕ) × ℕ)) (name : List ℕ) (found : Bool) (ty : ℕ) : Type 0 where
  pub e : Bor (List ℕ) × ℕ
  pub there : o ≡ Some e
  pub same : bytes_eq name e.0.now ≡ found
  pub number : e.1 ≡ ty

pub entry_is : (o : Option (Bor (List ℕ) × ℕ)) (name : List ℕ) (found : Bool) (ty : ℕ) → option_map {U = Bool × ℕ} (λ e. (bytes_eq name e.0.now, e.1)) o ≡ Some (found, ty) → IsEntry o name found ty
entry_is (Some e) name found ty h =
    let same = some_pair (bytes_eq name e.0.now, e.1) (found, ty) h in
    record { e = e; there = refl; same = ap (λ (p : Bool × ℕ). p.0) same; number = ap (λ (p : Bool × ℕ). p.1) same }
entry_is None name found ty h = absurd cc

pub no_entry : {B : Type 0} (f : Bor (List ℕ) × ℕ → B) (xs : Entries) (k : ℕ) → option_map f (slice_get xs k) ≡ None → length xs ≤ k
no_entry f [] k h = omega arith
no_entry f (x ∷ xs) zero h = absurd cc
no_entry f (x ∷ xs) (suc k) h = let rest = no_entry f xs k h in omega (arith, rest)

-- the members of a tag
pub record IsClosed (all : List Known) (entries : Entries) (o : Option types.Layout) : Type 0 where
  pub members : List (List ℕ × CType)
  pub count : ℕ
  pub is : o ≡ Some (types.Members members count)
  pub listed : AreListed all entries members
