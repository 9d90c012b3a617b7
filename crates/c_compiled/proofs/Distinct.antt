-- The formats of a text, each once, cost no more than what they weighed as literals, but for the empty one.
use Rattle.std.proofs.Common.{◌≡◌, ℕ, ◌+◌, ◌*◌, ◌≤◌, Bool, true, false, List, [], ◌∷◌, ◌++◌, map, length, take, drop, take-append-drop, refl, sym, ap, ◌∙◌, subst, cond, arith}
use Rattle.std.specs.Prelude.{not, codes, if◌then◌else◌}
use Rattle.std.specs.List.{filter}
use Rattle.std.specs.Str.{bytes_eq}
use Rattle.std.proofs.lemmas.Slice.Eq.{bytes_eq-Decides}
use Rattle.c_helpers.specs.Meanings.{is_format}
use Rattle.c_helpers.specs.Fewer.{distinct}
use Rattle.c_compiled.specs.Words.{format_words}
use Rattle.c_compiled.proofs.RoomFormats.{format_cost, formats_cost}

-- the name of the empty format
abbrev empty : List ℕ
empty = codes "printf "

abbrev is_empty : List ℕ → ℕ
is_empty name = if bytes_eq empty name then 1 else 0

abbrev count_empty : List (List ℕ) → ℕ
count_empty [] = 0
count_empty (name ∷ names) = is_empty name + count_empty names

-- each is a format
abbrev AreFormats : List (List ℕ) → Type 0
AreFormats [] = Unit {0}
AreFormats (name ∷ names) = (is_format name ≡ true) × AreFormats names

-- bytes of formats, and one for each
abbrev letters : List (List ℕ) → ℕ
letters [] = 0
letters (name ∷ names) = length (drop 7 name) + 1 + letters names

-- ---- lists that are filtered

module _ (test : List ℕ → Bool) where
  all_formats : (names : List (List ℕ)) → AreFormats names → AreFormats (filter test names)
  all_formats [] h = tt
  all_formats (name ∷ names) h = go (test name) (all_formats names h.1)
    where
      go : (b : Bool) → AreFormats (filter test names) → AreFormats (cond b (name ∷ filter test names) (filter test names))
      go true k = (h.0, k)
      go false k = k

  fewer_letters : (names : List (List ℕ)) → letters (filter test names) ≤ letters names
  fewer_letters [] = omega arith
  fewer_letters (name ∷ names) = go (test name) (fewer_letters names)
    where
      go : (b : Bool) → letters (filter test names) ≤ letters names → letters (cond b (name ∷ filter test names) (filter test names)) ≤ length (drop 7 name) + 1 + letters names
      go true k = omega (arith, k)
      go false k = omega (arith, k)

  fewer_empty : (names : List (List ℕ)) → count_empty (filter test names) ≤ count_empty names
  fewer_empty [] = omega arith
  fewer_empty (name ∷ names) = go (test name) (fewer_empty names)
    where
      go : (b : Bool) → count_empty (filter test names) ≤ count_empty names → count_empty (cond b (name ∷ filter test names) (filter test names)) ≤ is_empty name + count_empty names
      go true k = omega (arith, k)
      go false k = omega (arith, k)

-- without the empty one there is none
none_empty : (names : List (List ℕ)) → count_empty (filter (λ other. not (bytes_eq empty other)) names) ≡ 0
none_empty [] = refl
none_empty (name ∷ names) = go (bytes_eq empty name) refl (none_empty names)
  where
    rest : List (List ℕ)
    rest = filter (λ other. not (bytes_eq empty other)) names

    go : (b : Bool) → bytes_eq empty name ≡ b → count_empty rest ≡ 0 → count_empty (cond (not b) (name ∷ rest) rest) ≡ 0
    go true e k = k
    go false e k = let a : is_empty name ≡ 0 = ap (λ b. if b then 1 else 0) e in omega (arith, a, k)

-- ---- each once

once_formats : (names : List (List ℕ)) → AreFormats names → AreFormats (distinct names)
once_formats [] h = tt
once_formats (name ∷ names) h = (h.0, all_formats (λ other. not (bytes_eq name other)) (distinct names) (once_formats names h.1))

once_letters : (names : List (List ℕ)) → letters (distinct names) ≤ letters names
once_letters [] = omega arith
once_letters (name ∷ names) = let f = fewer_letters (λ other. not (bytes_eq name other)) (distinct names) in let g = once_letters names in omega (arith, f, g)

once_empty : (names : List (List ℕ)) → count_empty (distinct names) ≤ 1
once_empty [] = omega arith
once_empty (name ∷ names) = go (bytes_eq empty name) refl (once_empty names)
  where
    rest : List ℕ → List (List ℕ)
    rest first = filter (λ other. not (bytes_eq first other)) (distinct names)

    go : (b : Bool) → bytes_eq empty name ≡ b → count_empty (distinct names) ≤ 1 → (if b then 1 else 0) + count_empty (rest name) ≤ 1
    go true e k =
        let none : count_empty (rest name) ≡ 0 = subst (λ z. count_empty (rest z) ≡ 0) ((bytes_eq-Decides empty name).0 e) (none_empty (distinct names)) in
        omega (arith, none)
    go false e k = let f = fewer_empty (λ other. not (bytes_eq name other)) (distinct names) in omega (arith, f, k)

-- ---- cost

one_fits : (name : List ℕ) → is_format name ≡ true → format_cost (drop 7 name) ≤ 30 * (length (drop 7 name) + 1) + 3 * is_empty name
one_fits name e = go (drop 7 name) refl
  where
    first : take 7 name ≡ empty
    first = (bytes_eq-Decides (take 7 name) empty).0 e

    whole : empty ++ drop 7 name ≡ name
    whole = ap (λ z. z ++ drop 7 name) (sym first) ∙ take-append-drop 7 name

    go : (rest : List ℕ) → drop 7 name ≡ rest → format_cost rest ≤ 30 * (length rest + 1) + 3 * is_empty name
    go [] k =
        let same : empty ≡ name = ap (λ z. empty ++ z) (sym k) ∙ whole in
        let is : is_empty name ≡ 1 = ap (λ b. if b then 1 else 0) ((bytes_eq-Decides empty name).1 same) in
        omega (arith, is)
    go (c ∷ cs) k = omega arith

all_fit : (names : List (List ℕ)) → AreFormats names → formats_cost (map (drop 7) names) ≤ 30 * letters names + 3 * count_empty names
all_fit [] h = omega arith
all_fit (name ∷ names) h = let f = one_fits name h.0 in let g = all_fit names h.1 in omega (arith, f, g)

are_formats : (names : List (List ℕ)) → AreFormats (filter is_format names)
are_formats [] = tt
are_formats (name ∷ names) = go (is_format name) refl (are_formats names)
  where
    go : (b : Bool) → is_format name ≡ b → AreFormats (filter is_format names) → AreFormats (cond b (name ∷ filter is_format names) (filter is_format names))
    go true e k = (e, k)
    go false e k = k

have_letters : (names : List (List ℕ)) → letters (filter is_format names) ≡ format_words names
have_letters [] = refl
have_letters (name ∷ names) = go (is_format name) (have_letters names)
  where
    go : (b : Bool) → letters (filter is_format names) ≡ format_words names → letters (cond b (name ∷ filter is_format names) (filter is_format names)) ≡ (if b then length (drop 7 name) + 1 else 0) + format_words names
    go true k = omega (arith, k)
    go false k = omega (arith, k)

pub formats_fit_words : (names : List (List ℕ)) → formats_cost (map (drop 7) (distinct (filter is_format names))) ≤ 30 * format_words names + 3
formats_fit_words names =
    let found : List (List ℕ) = filter is_format names in
    let f = all_fit (distinct found) (once_formats found (are_formats names)) in
    let g = once_letters found in let h = once_empty found in let k = have_letters names in
    omega (arith, f, g, h, k)
