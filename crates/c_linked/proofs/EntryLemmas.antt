-- The entries of functions by number.
use Rattle.std.proofs.Common.{◌≡◌, ℕ, zero, suc, ◌+◌, ◌-◌, ◌<◌, ◌≤◌, List, [], ◌∷◌, ◌++◌, length, drop, Option, Some, None, Bool, true, false, refl, sym, ap, subst, ◌∙◌, arith, if◌then◌else◌}
use Rattle.std.specs.Prelude.{slice_get, slice_set, slice_index_or, replicate, ◌==◌, cond}
use Rattle.std.specs.Str.{bytes_eq}
use Rattle.std.specs.List.{AllByRecursion, IsDistinct}
use Rattle.std.proofs.lemmas.Map.Keys.{IsDistinct-head, IsDistinct-tail}
use denote.Ref.{Bor}
use Rattle.c_rule.specs.Stepping.{FlatCode, is_single}
use Rattle.c_plain.specs.Program.{Program}
use Rattle.c_plain.specs.declared.instruction.Instruction.{Instruction}
use Rattle.c_plain.specs.Rule.{entry_of}
use Rattle.c_resolved.specs.Means.{MeansAll}
use Rattle.c_emitted.specs.Emits.{texts}
use Rattle.c_tracks.specs.Tracks.{IsCode}
use Rattle.std.proofs.lemmas.Slice.Eq.{bytes_eq-Decides}
use Rattle.c_syntax.specs.Words.{meaning}
use Rattle.c_code.specs.Machine as code
use Rattle.c_resolved.specs.Same.{AreApart}
use Rattle.c_tracks.specs.Tracks.{SameEntry, no_entry, an_entry}
use Rattle.std.proofs.lemmas.Bool.Decides.{nat_tests}
use Rattle.c_plain.specs.declared.code.Entry.{Entry}
use Rattle.c_linked.specs.declared.program.Compiled.{Compiled}
use Rattle.c_linked.specs.Linked.{entry_in, Tells, IsEntry, AreCompiled, no_function, more_functions}

get_replicate : {A : Type 0} (n : ℕ) (x : A) (f : ℕ) → f < n → slice_get (replicate n x) f ≡ Some x
get_replicate zero x f lt = absurd (omega (arith, lt))
get_replicate (suc n) x zero lt = refl
get_replicate (suc n) x (suc f) lt = get_replicate n x f (omega (arith, lt))

next_empty : {A : Type 0} (n : ℕ) (x : A) → replicate n x ++ x ∷ [] ≡ replicate (suc n) x
next_empty zero x = refl
next_empty (suc n) x = ap (λ l. x ∷ l) (next_empty n x)

-- one more without an entry
pub one_empty : {A : Type 0} (n : ℕ) (x : A) → replicate n x ++ x ∷ [] ≡ replicate (n + 1) x
one_empty n x = let e : suc n ≡ n + 1 = omega arith in next_empty n x ∙ ap (λ k. replicate k x) e

drop_whole : {A : Type 0} (xs : List A) → drop (length xs) xs ≡ []
drop_whole [] = refl
drop_whole (x ∷ xs) = drop_whole xs

-- at first there are none
pub none_yet : (count : ℕ) (cs : List Compiled) (n : ℕ) → n ≡ length cs → Tells (replicate count None) count (drop n cs)
none_yet count cs n e f lt = get_replicate count None f lt ∙ ap (λ (l : List Compiled). Some (entry_in l f)) (sym (ap (λ k. drop k cs) e ∙ drop_whole cs))

-- ---- one entry more, from behind

get_same : {A : Type 0} (xs : List A) (f : ℕ) (x : A) → f < length xs → slice_get (slice_set xs f x) f ≡ Some x
get_same [] f x lt = absurd (omega (arith, lt))
get_same (z ∷ xs) zero x lt = refl
get_same (z ∷ xs) (suc f) x lt = get_same xs f x (omega (arith, lt))

get_other : {A : Type 0} (xs : List A) (i f : ℕ) (x : A) → (i ≡ f → ⊥) → slice_get (slice_set xs i x) f ≡ slice_get xs f
get_other [] i f x n = refl
get_other (z ∷ xs) zero zero x n = absurd (n refl)
get_other (z ∷ xs) zero (suc f) x n = refl
get_other (z ∷ xs) (suc i) zero x n = refl
get_other (z ∷ xs) (suc i) (suc f) x n = get_other xs i f x (λ e. n (ap suc e))

-- an entry in its place
pub one_more : (table : List (Option Entry)) (count : ℕ) (c : Compiled) (cs : List Compiled) → length table ≡ count → Tells table count cs → Tells (slice_set table c.function (Some c.entry)) count (c ∷ cs)
one_more table count c cs n g f lt = by_test (c.function == f) refl
  where
    by_test : (b : Bool) → (c.function == f) ≡ b → slice_get (slice_set table c.function (Some c.entry)) f ≡ Some (if b then Some c.entry else entry_in cs f)
    by_test true t =
        let e : c.function ≡ f = grind (arith, nat_tests, t) in
        ap (slice_get (slice_set table c.function (Some c.entry))) (sym e) ∙ get_same table c.function (Some c.entry) (omega (arith, lt, n, e))
    by_test false t = get_other table c.function f (Some c.entry) (λ e. grind (arith, nat_tests, t, e)) ∙ g f lt

-- one that has no place
pub none_more : (table : List (Option Entry)) (count : ℕ) (c : Compiled) (cs : List Compiled) → count ≤ c.function → Tells table count cs → Tells table count (c ∷ cs)
none_more table count c cs past g f lt = by_test (c.function == f) refl
  where
    by_test : (b : Bool) → (c.function == f) ≡ b → slice_get table f ≡ Some (if b then Some c.entry else entry_in cs f)
    by_test true t = let e : c.function ≡ f = grind (arith, nat_tests, t) in absurd (omega (arith, lt, past, e))
    by_test false t = g f lt

at_place : {A : Type 0} (xs : List A) (k : ℕ) (z : A) → k < length xs → slice_index_or xs k z ∷ drop (suc k) xs ≡ drop k xs
at_place [] k z lt = absurd (omega (arith, lt))
at_place (x ∷ xs) zero z lt = refl
at_place (x ∷ xs) (suc k) z lt = at_place xs k z (omega (arith, lt))

-- from the last one on
pub goes_on : (table : List (Option Entry)) (count : ℕ) (cs : List Compiled) (step k : ℕ) (z : Compiled) → step < length cs → k ≡ length cs - 1 - step → Tells table count (slice_index_or cs k z ∷ drop (length cs - step) cs)
    → Tells table count (drop (length cs - (step + 1)) cs)
goes_on table count cs step k z lt e g =
    let next : length cs - step ≡ suc k = omega (arith, lt, e) in
    let here : k ≡ length cs - (step + 1) = omega (arith, lt, e) in
    let within : k < length cs = omega (arith, lt, e) in
    subst (λ n. Tells table count (drop n cs)) here (subst (λ l. Tells table count l) (at_place cs k z within) (subst (λ n. Tells table count (slice_index_or cs k z ∷ drop n cs)) next g))

pub all_seen : (table : List (Option Entry)) (count : ℕ) (cs : List Compiled) (step : ℕ) → length cs ≤ step → Tells table count (drop (length cs - step) cs) → Tells table count cs
all_seen table count cs step past g = let n : length cs - step ≡ zero = omega (arith, past) in subst (λ k. Tells table count (drop k cs)) n g

-- ---- the functions of C's code

test_same : (names : List (List ℕ)) → AreApart names → (g f : ℕ) (name other : List ℕ) → slice_get names g ≡ Some name → slice_get names f ≡ Some other → bytes_eq name other ≡ (f == g)
test_same names apart g f name other here there = by_tests (bytes_eq name other) (f == g) refl refl
  where
    by_tests : (a b : Bool) → bytes_eq name other ≡ a → (f == g) ≡ b → a ≡ b
    by_tests true true s t = refl
    by_tests false false s t = refl
    by_tests true false s t =
        let same : name ≡ other = (bytes_eq-Decides name other).0 s in
        let one : f ≡ g = apart f g name (there ∙ ap (λ (x : List ℕ). Some x) (sym same)) here in
        absurd (grind (arith, nat_tests, one, t))
    by_tests false true s t =
        let one : f ≡ g = grind (arith, nat_tests, t) in
        let again : Some other ≡ Some name = sym there ∙ (ap (slice_get names) one ∙ here) in
        let same : name ≡ other = cc in
        sym s ∙ (bytes_eq-Decides name other).1 same

entry_by : (b : Bool) (e : code.Entry) (c : Entry) (o : Option code.Entry) (p : Option Entry) → IsEntry e c → SameEntry o p → SameEntry (cond b (Some e) o) (if b then Some c else p)
entry_by true e c o p h s = an_entry e c h.at h.params h.result h.charge h.more
entry_by false e c o p h s = s

pub entries_same : (names : List (List ℕ)) → AreApart names → (es : List (List ℕ × code.Entry)) (cs : List Compiled) → AreCompiled names es cs → (name : List ℕ) (g : ℕ) → slice_get names g ≡ Some name → SameEntry (meaning es name) (entry_in cs g)
entries_same names apart [] [] no_function name g here = no_entry
entries_same names apart [] (c ∷ cs) none name g here = elim none [ ]
entries_same names apart (e ∷ es) [] none name g here = elim none [ ]
entries_same names apart (e ∷ es) (c ∷ cs) (more_functions there is rest) name g here =
    subst (λ b. SameEntry (cond b (Some e.1) (meaning es name)) (entry_in (c ∷ cs) g)) (sym (test_same names apart g c.function name e.0 here there))
    (entry_by (c.function == g) e.1 c.entry (meaning es name) (entry_in cs g) is (entries_same names apart es cs rest name g here))

-- ---- names

true_false : (b : Bool) → b ≡ true → b ≡ false → ⊥
true_false true y n = absurd cc
true_false false y n = absurd cc

within : (keys : List (Bor (List ℕ))) (g : ℕ) (name : List ℕ) → slice_get (texts keys) g ≡ Some name → g < length keys
within [] g name e = absurd cc
within (k ∷ keys) zero name e = omega arith
within (k ∷ keys) (suc g) name e = let r = within keys g name e in omega (arith, r)

module _ (eq : Bor (List ℕ) → Bor (List ℕ) → Bool) (same : (x y : Bor (List ℕ)) → x.now ≡ y.now → eq x y ≡ true) where
  later_apart : (k : Bor (List ℕ)) (keys : List (Bor (List ℕ))) (g : ℕ) → AllByRecursion (λ y. eq k y ≡ false) keys → slice_get (texts keys) g ≡ Some k.now → ⊥
  later_apart k [] g all e = cc
  later_apart k (x ∷ keys) zero all e = let own : k.now ≡ x.now = cc in true_false (eq k x) (same k x own) all.0
  later_apart k (x ∷ keys) (suc g) all e = later_apart k keys g all.1 e

  pub names_apart : (keys : List (Bor (List ℕ))) → IsDistinct eq keys → AreApart (texts keys)
  names_apart [] d f g name here there = absurd cc
  names_apart (k ∷ keys) d zero zero name here there = refl
  names_apart (k ∷ keys) d zero (suc g) name here there =
      let own : k.now ≡ name = cc in absurd (later_apart k keys g (IsDistinct-head eq k keys d) (there ∙ ap (λ (x : List ℕ). Some x) (sym own)))
  names_apart (k ∷ keys) d (suc f) zero name here there =
      let own : k.now ≡ name = cc in absurd (later_apart k keys f (IsDistinct-head eq k keys d) (here ∙ ap (λ (x : List ℕ). Some x) (sym own)))
  names_apart (k ∷ keys) d (suc f) (suc g) name here there = ap suc (names_apart keys (IsDistinct-tail eq k keys d) f g name here there)

-- ---- the whole

pub is_code : (p : Program) (keys : List (Bor (List ℕ))) (cs : List Compiled) (f : FlatCode) (js : List Instruction) → p.instructions ≡ js → AreApart (texts keys) → MeansAll (texts keys) p f.instructions js → AllByRecursion (λ i. is_single i ≡ true) f.instructions
    → AreCompiled (texts keys) f.entries cs → Tells p.functions (length keys) cs → IsCode (texts keys) p f
is_code p keys cs f js same apart means single compiled tells = record {
  instructions = subst (λ (l : List Instruction). MeansAll (texts keys) p f.instructions l) (sym same) means;
  single = single;
  apart = apart;
  entries = λ name g e. entry_is name g e;
}
  where
    told : (o : Option (Option Entry)) (e : Option Entry) → o ≡ Some e → e ≡ elim o [ None ↦ None | Some x ↦ x ]
    told None e h = absurd cc
    told (Some x) e h = cc

    entry_is : (name : List ℕ) (g : ℕ) → slice_get (texts keys) g ≡ Some name → SameEntry (meaning f.entries name) (entry_of p g)
    entry_is name g e =
        subst (λ x. SameEntry (meaning f.entries name) x) (told (slice_get p.functions g) (entry_in cs g) (tells g (within keys g name e))) (entries_same (texts keys) apart f.entries cs compiled name g e)
