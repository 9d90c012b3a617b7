-- Rows that are written colour by colour.
use Rattle.std.proofs.Common.{◌≡◌, ℕ, zero, suc, ◌+◌, ◌<◌, ◌≤◌, Bool, true, false, cond, ◌==◌, List, [], ◌∷◌, ◌++◌, length, drop, get_or, refl, sym, ap, ◌∙◌, arith, append_assoc, append-nil}
use Rattle.std.specs.Fmt.{decimal}
use Rattle.std.specs.List.{flat_map, AllByRecursion}
use Rattle.std.proofs.lemmas.Bool.{eqb-true, eqb-false}
use Rattle.std.proofs.lemmas.List.{drop_more, drop_all, length-drop}
use Rattle.piet_image.specs.declared.colour.Colour.{Colour}
use Rattle.piet_image.specs.Colours.{Rgb, IsColour, rgb_of}
use Rattle.piet_image.specs.Printed.{header_text, rgb_text, row_text}

pub header_bytes : (width height : ℕ) (a b : List ℕ) → a ≡ decimal width → b ≡ decimal height
    → (80 ∷ 51 ∷ 10 ∷ []) ++ (a ++ ((32 ∷ []) ++ (b ++ ((10 ∷ 50 ∷ 53 ∷ 53 ∷ 10 ∷ []) ++ [])))) ≡ header_text width height
header_bytes width height a b x y =
    ap (λ (v : List ℕ). 80 ∷ 51 ∷ 10 ∷ (v ++ 32 ∷ (b ++ 10 ∷ 50 ∷ 53 ∷ 53 ∷ 10 ∷ []))) x
    ∙ ap (λ (v : List ℕ). 80 ∷ 51 ∷ 10 ∷ (decimal width ++ 32 ∷ (v ++ 10 ∷ 50 ∷ 53 ∷ 53 ∷ 10 ∷ []))) y

one_left : (c : Colour) (rest : List Colour) → length rest ≡ 0 → row_text (c ∷ rest) ≡ rgb_text (rgb_of c) 10 ++ row_text rest
one_left c [] e = sym (append-nil (rgb_text (rgb_of c) 10))
one_left c (d ∷ rest) e = absurd (omega arith)

more_left : (c : Colour) (rest : List Colour) → 0 < length rest → row_text (c ∷ rest) ≡ rgb_text (rgb_of c) 32 ++ row_text rest
more_left c [] h = absurd (omega arith)
more_left c (d ∷ rest) h = refl

-- the next colour, and the byte behind it
pub row_next : (row : List Colour) (i : ℕ) (d : Colour) → i < length row → row_text (drop i row) ≡ rgb_text (rgb_of (get_or row i d)) (cond (i + 1 == length row) 10 32) ++ row_text (drop (i + 1) row)
row_next row i d h = ap row_text (drop_more row i d h) ∙ go (i + 1 == length row) refl
  where
    go : (b : Bool) → (i + 1 == length row) ≡ b → row_text (get_or row i d ∷ drop (i + 1) row) ≡ rgb_text (rgb_of (get_or row i d)) (cond b 10 32) ++ row_text (drop (i + 1) row)
    go true e = let same : i + 1 ≡ length row = eqb-true (i + 1) (length row) e in one_left (get_or row i d) (drop (i + 1) row) (omega (arith, length-drop (i + 1) row, same))
    go false e = let other = eqb-false (i + 1) (length row) e in more_left (get_or row i d) (drop (i + 1) row) (omega (arith, length-drop (i + 1) row, other))

pub row_done : (row : List Colour) (i : ℕ) → length row ≤ i → row_text (drop i row) ≡ []
row_done row i h = ap row_text (drop_all i row h)

pub valid_next : (row : List Colour) (i : ℕ) (d : Colour) → AllByRecursion IsColour row → i < length row → IsColour (get_or row i d)
valid_next [] i d v h = absurd (omega arith)
valid_next (c ∷ row) zero d v h = v.0
valid_next (c ∷ row) (suc i) d v h = valid_next row i d v.1 (omega arith)
