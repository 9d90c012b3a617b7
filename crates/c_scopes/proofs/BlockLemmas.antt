-- Blocks of names.
use Rattle.std.proofs.Common.{◌≡◌, ℕ, ◌+◌, ◌≤◌, Bool, true, false, List, [], ◌∷◌, ◌++◌, Option, Some, None, length, map, reverse, take, drop, refl, sym, ap, ◌∙◌, subst, if◌then◌else◌, arith}
use Rattle.std.proofs.Common.{zero, suc, ◌<◌}
use Rattle.std.proofs.lemmas.Bool.Decides.{nat_tests}
use Rattle.std.specs.Prelude.{is_some, nat_le}
use Rattle.std.specs.Option.{option_map, option_map_or}
use Rattle.std.specs.Str.{bytes_eq}
use Rattle.std.proofs.lemmas.List.{reverse-append, map-append, take-append-drop, take-append-le, drop-append-le, length-take-le}
use Rattle.std.proofs.Common.{length-append}
use Rattle.c_syntax.specs.Words.{meaning}
use Rattle.c_scopes.specs.declared.entity.Entity.{Entity}
use Rattle.c_scopes.specs.declared.stack.Place.{Place}
use Rattle.c_scopes.specs.declared.stack.Declared.{Declared}
use Rattle.c_scopes.specs.Stack.{pair_of, pairs, placed, looked, Stands, IsPushed}
use Rattle.c_scopes.proofs.StackLemmas.{Entries, length_pairs, pairs_push}

pub pairs_append : (ds es : List Declared) → pairs (ds ++ es) ≡ pairs es ++ pairs ds
pairs_append ds es = ap (map pair_of) (reverse-append ds es) ∙ map-append pair_of (reverse es) (reverse ds)

-- the names of the innermost block and of those around it are all
pub pairs_split : (ds : List Declared) (start : ℕ) → pairs (drop start ds) ++ pairs (take start ds) ≡ pairs ds
pairs_split ds start = sym (pairs_append (take start ds) (drop start ds)) ∙ ap pairs (take-append-drop start ds)

pub meaning_placed : (ps : List (List ℕ × Entity)) (name : List ℕ) → option_map (λ place. place.entity) (placed ps name) ≡ meaning ps name
meaning_placed [] name = refl
meaning_placed (p ∷ ps) name = by (bytes_eq name p.0) (meaning_placed ps name) where
  by : (b : Bool) → option_map (λ place. place.entity) (placed ps name) ≡ meaning ps name → option_map (λ place. place.entity) (if b then Some (record { entity = p.1; index = length ps }) else placed ps name) ≡ (if b then Some p.1 else meaning ps name)
  by true rest = refl
  by false rest = rest

abbrev pub is_from : ℕ → Option Place → Bool
is_from start None = false
is_from start (Some place) = nat_le start place.index

below : (ps : List (List ℕ × Entity)) (name : List ℕ) (start : ℕ) → length ps ≤ start → is_from start (placed ps name) ≡ false
below [] name start h = refl
below (p ∷ ps) name start h = by (bytes_eq name p.0) (short (length ps) (omega arith)) (below ps name start (omega arith)) where
  short : (n : ℕ) → n < start → nat_le start n ≡ false
  short n lt = grind (arith, nat_tests)

  by : (b : Bool) → nat_le start (length ps) ≡ false → is_from start (placed ps name) ≡ false → is_from start (if b then Some (record { entity = p.1; index = length ps }) else placed ps name) ≡ false
  by true own rest = own
  by false own rest = rest

-- a declaration that has at least so many before it stands in the front
pub here : (block outer : List (List ℕ × Entity)) (name : List ℕ) → is_from (length outer) (placed (block ++ outer) name) ≡ is_some (meaning block name)
here [] outer name = below outer name (length outer) (omega arith)
here (p ∷ block) outer name = by (bytes_eq name p.0) (more (length (block ++ outer)) (length block) (length-append block outer)) (here block outer name) where
  more : (n k : ℕ) → n ≡ k + length outer → nat_le (length outer) n ≡ true
  more n k e = grind (arith, nat_tests)

  by : (b : Bool) → nat_le (length outer) (length (block ++ outer)) ≡ true → is_from (length outer) (placed (block ++ outer) name) ≡ is_some (meaning block name)
      → is_from (length outer) (if b then Some (record { entity = p.1; index = length (block ++ outer) }) else placed (block ++ outer) name) ≡ is_some (if b then Some p.1 else meaning block name)
  by true own rest = own
  by false own rest = rest

pub length_outer : (ds : List Declared) (start : ℕ) → start ≤ length ds → length (pairs (take start ds)) ≡ start
length_outer ds start within = length_pairs (take start ds) ∙ length-take-le start ds within

pub take_all : (ds : List Declared) → take (length ds) ds ≡ ds
take_all [] = refl
take_all (d ∷ ds) = ap (λ rest. d ∷ rest) (take_all ds)

last_of : (ds : List Declared) (n : ℕ) → suc n ≡ length ds → (d : Declared) × (ds ≡ take n ds ++ d ∷ [])
last_of [] n e = absurd (omega arith)
last_of (x ∷ []) zero e = (x, refl)
last_of (x ∷ []) (suc n) e = absurd (omega arith)
last_of (x ∷ y ∷ ds) zero e = absurd (omega arith)
last_of (x ∷ y ∷ ds) (suc n) e = let p = last_of (y ∷ ds) n (omega arith) in (p.0, ap (λ rest. x ∷ rest) p.1)

-- the last declaration of the innermost block went
pub withdrawn : (ds new : List Declared) (m start : ℕ) → start < length ds → suc m ≡ length ds → new ≡ take m ds → pairs (drop start new) ≡ drop 1 (pairs (drop start ds))
withdrawn ds new m start within size cut =
    let p = last_of ds m size in
    let count : length (take m ds) ≡ m = length-take-le m ds (omega arith) in
    let room : start ≤ length (take m ds) = omega arith in
    ap (λ l. pairs (drop start l)) cut
    ∙ sym (ap (λ l. drop 1 (pairs (drop start l))) p.1 ∙ (ap (λ l. drop 1 (pairs l)) (drop-append-le start (take m ds) (p.0 ∷ []) room) ∙ ap (λ l. drop 1 l) (pairs_push (drop start (take m ds)) p.0)))

module _ (ds : List Declared) (es : Entries) (start : ℕ) (name : List ℕ) (place : Option Place) (finds : place ≡ looked es name) (s : Stands ds es) where
  -- what a name stands for
  pub is_meant : option_map (λ p. p.entity) place ≡ meaning (pairs (drop start ds) ++ pairs (take start ds)) name
  is_meant = ap (option_map (λ p. p.entity)) (finds ∙ s.finds name) ∙ (meaning_placed (pairs ds) name ∙ ap (λ ps. meaning ps name) (sym (pairs_split ds start)))

  -- whether it is declared in the innermost block
  pub is_here : start ≤ length ds → is_from start place ≡ is_some (meaning (pairs (drop start ds)) name)
  is_here within =
      ap (is_from start) (finds ∙ (s.finds name ∙ ap (λ ps. placed ps name) (sym (pairs_split ds start))))
      ∙ (ap (λ n. is_from n (placed (pairs (drop start ds) ++ pairs (take start ds)) name)) (sym (length_outer ds start within)) ∙ here (pairs (drop start ds)) (pairs (take start ds)) name)
