-- Sets of names and maps from them.
use Rattle.std.proofs.Common.{◌≡◌, ℕ, ◌+◌, Bool, true, false, ◌||◌, if◌then◌else◌, List, [], ◌∷◌, ◌++◌, Option, Some, None, refl, sym, ap, ◌∙◌, subst, not, map, drop, append_assoc}
use Rattle.std.specs.List.{list_any}
use Rattle.std.specs.Map.{lookup}
use Rattle.std.specs.Str.{bytes_eq}
use Rattle.std.specs.Cmp.Lexicographic.{bytes_decides}
use Rattle.std.proofs.lemmas.List.Recursion.{or_push}
use Rattle.indexmap.specs.IndexMap.{insert_entry}
use denote.Ref.{Bor}
use Rattle.eir_line.specs.Reading.{statement_of}
use Rattle.eir_text.specs.declared.lines.PlacedLine.{PlacedLine}
use Rattle.eir_text.specs.Names.{defined_after, is_among, repeats, names_of, are_known}
use Rattle.eir_text.specs.Refusals.{first_repeat, first_unknown}
use Rattle.eir_text.specs.Reading.{texts, lines_in, first_of}

or_true : (b : Bool) → (b || true) ≡ true
or_true true = refl
or_true false = refl

or_false : (b : Bool) → (b || false) ≡ b
or_false true = refl
or_false false = refl

-- the keys of a set of names, after one more
abbrev pub keys_with : List (Bor (List ℕ)) → Bor (List ℕ) → List (Bor (List ℕ))
keys_with ks k = if list_any (λ x. bytes_eq k.now x.now) ks then ks else ks ++ k ∷ []

any_with : (name : List ℕ) (ks : List (Bor (List ℕ))) (k : Bor (List ℕ)) (there : Bool) → list_any (λ x. bytes_eq k.now x.now) ks ≡ there
    → list_any (λ x. bytes_eq name x.now) (if there then ks else ks ++ k ∷ []) ≡ (list_any (λ x. bytes_eq name x.now) ks || bytes_eq name k.now)
any_with name ks k false e = or_push (list_any (λ x. bytes_eq name x.now)) (λ x. bytes_eq name x.now) refl (λ _ _. refl) ks k
any_with name ks k true e = at (bytes_eq name k.now) refl where
  at : (same : Bool) → bytes_eq name k.now ≡ same → list_any (λ x. bytes_eq name x.now) ks ≡ (list_any (λ x. bytes_eq name x.now) ks || same)
  at false f = sym (or_false (list_any (λ x. bytes_eq name x.now) ks))
  at true f = subst (λ (n : List ℕ). list_any (λ x. bytes_eq n x.now) ks ≡ true) (sym ((bytes_decides name k.now).0 f)) e ∙ sym (or_true (list_any (λ x. bytes_eq name x.now) ks))

-- the set has a name more
pub held_more : (ks : List (Bor (List ℕ))) (k : Bor (List ℕ)) (before : List (List ℕ))
    → ((name : List ℕ) → list_any (λ x. bytes_eq name x.now) ks ≡ is_among before name)
    → (name : List ℕ) → list_any (λ x. bytes_eq name x.now) (keys_with ks k) ≡ is_among (before ++ k.now ∷ []) name
held_more ks k before h name =
    any_with name ks k (list_any (λ x. bytes_eq k.now x.now) ks) refl
    ∙ ap (λ b. b || bytes_eq name k.now) (h name)
    ∙ sym (or_push (λ names. is_among names name) (λ other. bytes_eq name other) refl (λ _ _. refl) before k.now)

abbrev pub found : List ℕ → List (Bor (List ℕ) × ℕ) → Option ℕ
found name es = lookup (λ k. bytes_eq name k.now) es

-- a look-up after a name's number was set
pub found_more : (name : List ℕ) (es : List (Bor (List ℕ) × ℕ)) (k : Bor (List ℕ)) (v : ℕ)
    → found name (insert_entry (λ x y. bytes_eq x.now y.now) es k v) ≡ (if bytes_eq name k.now then Some v else found name es)
found_more name [] k v = refl
found_more name (e ∷ es) k v = at (found_more name es k v) (bytes_eq k.now e.0.now) refl where
  there : (same : Bool) → (if same then Some v else found name es) ≡ (if same then Some v else (if same then Some e.1 else found name es))
  there true = refl
  there false = refl

  apart : (x y : Bool) → ((x ≡ true) → (y ≡ true) → ⊥) → (if x then Some e.1 else (if y then Some v else found name es)) ≡ (if y then Some v else (if x then Some e.1 else found name es))
  apart true true h = absurd (h refl refl)
  apart true false h = refl
  apart false y h = refl

  at : found name (insert_entry (λ x y. bytes_eq x.now y.now) es k v) ≡ (if bytes_eq name k.now then Some v else found name es)
      → (same : Bool) → bytes_eq k.now e.0.now ≡ same
      → found name (if same then (e.0, v) ∷ es else e ∷ insert_entry (λ x y. bytes_eq x.now y.now) es k v)
      ≡ (if bytes_eq name k.now then Some v else (if bytes_eq name e.0.now then Some e.1 else found name es))
  at step true f =
      subst (λ (n : List ℕ). (if bytes_eq name n then Some v else found name es) ≡ (if bytes_eq name k.now then Some v else (if bytes_eq name n then Some e.1 else found name es)))
      ((bytes_decides k.now e.0.now).0 f) (there (bytes_eq name k.now))
  at step false f =
      ap (λ r. if bytes_eq name e.0.now then Some e.1 else r) step
      ∙ apart (bytes_eq name e.0.now) (bytes_eq name k.now) (λ p q.
      let same : k.now ≡ e.0.now = sym ((bytes_decides name k.now).0 q) ∙ (bytes_decides name e.0.now).0 p in
      let yes : bytes_eq k.now e.0.now ≡ true = (bytes_decides k.now e.0.now).1 same in cc)

-- definitions, one list after the other
pub defined_after-append : (found : Option ℕ) (xs ys : List (List ℕ × ℕ)) (name : List ℕ) → defined_after found (xs ++ ys) name ≡ defined_after (defined_after found xs name) ys name
defined_after-append found [] ys name = refl
defined_after-append found (x ∷ xs) ys name = defined_after-append (if bytes_eq name x.0 then Some x.1 else found) xs ys name

-- a loop that gives labels a number
pub define_step : (labels : List (Bor (List ℕ))) (i : ℕ) (k : Bor (List ℕ)) (n : ℕ) (old new : List (Bor (List ℕ) × ℕ)) (name : List ℕ) (r : Option ℕ)
    → drop i labels ≡ k ∷ drop (i + 1) labels → new ≡ insert_entry (λ x y. bytes_eq x.now y.now) old k n
    → defined_after (found name old) (map (λ label. (label, n)) (texts (drop i labels))) name ≡ r
    → defined_after (found name new) (map (λ label. (label, n)) (texts (drop (i + 1) labels))) name ≡ r
define_step labels i k n old new name r left made h =
    ap (λ o. defined_after o (map (λ label. (label, n)) (texts (drop (i + 1) labels))) name) (ap (found name) made ∙ found_more name old k n)
    ∙ (ap (λ ls. defined_after (found name old) (map (λ label. (label, n)) (texts ls)) name) (sym left) ∙ h)

-- what a loop over a line's labels knows: the names so far, with those that are left, are all; and whether one is there again
abbrev pub LabelsSoFar : List (Bor (List ℕ)) → ℕ → List (Bor (List ℕ)) → Bool → List (List ℕ) → Bool → Type 0
LabelsSoFar labels i ks again all repeated =
    (now : List (List ℕ)) × ((name : List ℕ) → list_any (λ k. bytes_eq name k.now) ks ≡ is_among now name) × (now ++ texts (drop i labels) ≡ all) × ((again || repeats now (texts (drop i labels))) ≡ repeated)

or_assoc : (x y z : Bool) → ((x || y) || z) ≡ (x || (y || z))
or_assoc true y z = refl
or_assoc false y z = refl

not_not : (b : Bool) → not (not b) ≡ b
not_not true = refl
not_not false = refl

pub labels_step : (labels : List (Bor (List ℕ))) (i : ℕ) (k : Bor (List ℕ)) (old new : List (Bor (List ℕ))) (again fresh : Bool) (all : List (List ℕ)) (repeated : Bool)
    → drop i labels ≡ k ∷ drop (i + 1) labels → new ≡ keys_with old k → fresh ≡ not (list_any (λ x. bytes_eq k.now x.now) old)
    → LabelsSoFar labels i old again all repeated → LabelsSoFar labels (i + 1) new (again || not fresh) all repeated
labels_step labels i k old new again fresh all repeated left made is_fresh s =
    let was : not fresh ≡ is_among s.0 k.now = ap not is_fresh ∙ not_not (list_any (λ x. bytes_eq k.now x.now) old) ∙ s.1 k.now in (
      s.0 ++ k.now ∷ [],
      λ name. ap (λ ks. list_any (λ x. bytes_eq name x.now) ks) made ∙ held_more old k s.0 s.1 name,
      append_assoc s.0 (k.now ∷ []) (texts (drop (i + 1) labels)) ∙ (ap (λ ls. s.0 ++ texts ls) (sym left) ∙ s.2),
      or_assoc again (not fresh) (repeats (s.0 ++ k.now ∷ []) (texts (drop (i + 1) labels)))
          ∙ (ap (λ b. again || (b || repeats (s.0 ++ k.now ∷ []) (texts (drop (i + 1) labels)))) was
          ∙ (ap (λ ls. again || repeats s.0 (texts ls)) (sym left) ∙ s.3)),
    )

-- what a loop over lines knows: the names so far, with those that are left, are all; and the lowest line that defines one again
abbrev pub LinesSoFar : List PlacedLine → ℕ → List (Bor (List ℕ)) → Option ℕ → Type 0
LinesSoFar ls i ks again =
    (now : List (List ℕ)) × ((name : List ℕ) → list_any (λ k. bytes_eq name k.now) ks ≡ is_among now name) × (now ++ names_of (lines_in (drop i ls)) ≡ names_of (lines_in ls)) × (first_of again (first_repeat now (i + 1) (lines_in (drop i ls))) ≡ first_repeat [] 1 (lines_in ls))

found_first : (f : Option ℕ) (again : Bool) (k : ℕ) (rest : Option ℕ) → first_of (first_of f (if again then Some k else None)) rest ≡ first_of f (if again then Some k else rest)
found_first None true k rest = refl
found_first None false k rest = refl
found_first (Some j) true k rest = refl
found_first (Some j) false k rest = refl

pub lines_step : (ls : List PlacedLine) (i : ℕ) (x : PlacedLine) (old new : List (Bor (List ℕ))) (f : Option ℕ) (again : Bool)
    → drop i ls ≡ x ∷ drop (i + 1) ls
    → ((before : List (List ℕ)) → ((name : List ℕ) → list_any (λ k. bytes_eq name k.now) old ≡ is_among before name) → (name : List ℕ) → list_any (λ k. bytes_eq name k.now) new ≡ is_among (before ++ texts x.line.labels.items) name)
    → ((before : List (List ℕ)) → ((name : List ℕ) → list_any (λ k. bytes_eq name k.now) old ≡ is_among before name) → again ≡ repeats before (texts x.line.labels.items))
    → LinesSoFar ls i old f → LinesSoFar ls (i + 1) new (first_of f (if again then Some (i + 1) else None))
lines_step ls i x old new f again left held repeated s = (
  s.0 ++ texts x.line.labels.items,
  held s.0 s.1,
  append_assoc s.0 (texts x.line.labels.items) (names_of (lines_in (drop (i + 1) ls))) ∙ (ap (λ rest. s.0 ++ names_of (lines_in rest)) (sym left) ∙ s.2),
  found_first f again (i + 1) (first_repeat (s.0 ++ texts x.line.labels.items) (i + 1 + 1) (lines_in (drop (i + 1) ls)))
      ∙ (ap (λ b. first_of f (if b then Some (i + 1) else first_repeat (s.0 ++ texts x.line.labels.items) (i + 1 + 1) (lines_in (drop (i + 1) ls)))) (repeated s.0 s.1)
      ∙ (ap (λ rest. first_of f (first_repeat s.0 (i + 1) (lines_in rest))) (sym left) ∙ s.3)),
)

-- the line that uses a name that isn't known
pub unknown_here : (all : List (List ℕ)) (ls : List PlacedLine) (i : ℕ) (x : PlacedLine) (r : Option ℕ)
    → drop i ls ≡ x ∷ drop (i + 1) ls → are_known all (statement_of x.line.statement) ≡ false
    → first_unknown all (i + 1) (lines_in (drop i ls)) ≡ r → Some (i + 1) ≡ r
unknown_here all ls i x r left unknown h =
    ap (λ b. if b then first_unknown all (i + 1 + 1) (lines_in (drop (i + 1) ls)) else Some (i + 1)) (sym unknown)
    ∙ (ap (λ rest. first_unknown all (i + 1) (lines_in rest)) (sym left) ∙ h)
