-- Every text spells cells or is refused.
use Rattle.std.proofs.Common.{◌≡◌, ◌⊎◌, inl, inr, ℕ, zero, suc, ◌+◌, ◌-◌, ◌^◌, ◌<◌, ◌≤◌, Bool, true, false, List, [], ◌∷◌, ◌++◌, length, take, drop, ℤ, pos, negsuc, FitsSigned, w64, refl, arith}
use Rattle.std.specs.Bool.{MatchBool}
use Rattle.std.specs.Char.{is_ascii_digit}
use Rattle.std.specs.List.{list_all, prefix_len}
use Rattle.std.specs.Str.Parse.{IsNumeral}
use Rattle.sq_lang.specs.declared.text.SqFault.{SqFault}
use Rattle.sq_lang.specs.declared.text.SqFault.TheVariants.{BadNumber, NumberRange}
use Rattle.sq_lang.specs.Text.{is_separator, is_other, digits_in, IsNumber, number_in, SpellsCell, BeginsWithCells, sq_spells}
use Rattle.sq_lang.specs.Answers.{IsWrong, IsRefused}
use Rattle.sq_lang.specs.Laws.{TextsAreDecided}
use Rattle.sq_lang.proofs.Digits.{numeral_decides}
use Rattle.sq_lang.proofs.Pieces.{BeginsWithCells-push, refused, front_of, all_read}
use Rattle.sq_lang.proofs.Once.{spelled_once, never_both, refused_once}

abbrev Or : Type 0 → Type 0
Or A = A ⊎ (A → ⊥)

some_or_none : (n : ℕ) → (0 < n) ⊎ (n ≡ 0)
some_or_none n = grind arith

is_numeral : (bytes : List ℕ) → Or (IsNumeral 10 bytes)
is_numeral bytes = by (some_or_none (length bytes)) where
  decide : (b : Bool) → MatchBool b (IsNumeral 10 bytes) (IsNumeral 10 bytes → ⊥) → Or (IsNumeral 10 bytes)
  decide true yes_it_is = inl yes_it_is
  decide false not_it = inr not_it

  by : (0 < length bytes) ⊎ (length bytes ≡ 0) → Or (IsNumeral 10 bytes)
  by (inl some) = decide (list_all is_ascii_digit bytes) (numeral_decides bytes (list_all is_ascii_digit bytes) some refl)
  by (inr none) = inr (λ h. omega (arith, none, h.0))

low_or_not : (n m : ℕ) → (n < m) ⊎ (m ≤ n)
low_or_not n m = grind arith

fits : (z : ℤ) → Or (FitsSigned w64 z)
fits (pos n) = by (low_or_not n (2 ^ 63)) where
  by : (n < 2 ^ 63) ⊎ (2 ^ 63 ≤ n) → Or (FitsSigned w64 (pos n))
  by (inl l) = inl (record { sfits = omega arith })
  by (inr g) = inr (λ f. omega (arith, g, f.sfits))
fits (negsuc n) = by (low_or_not n (2 ^ 63)) where
  by : (n < 2 ^ 63) ⊎ (2 ^ 63 ≤ n) → Or (FitsSigned w64 (negsuc n))
  by (inl l) = inl (record { sfits = omega arith })
  by (inr g) = inr (λ f. omega (arith, g, f.sfits))

-- a piece spells a cell, or is wrong
piece_decided : (piece : List ℕ) (place : ℕ) → ((cell : ℤ) × SpellsCell piece cell) ⊎ ((fault : SqFault) × IsWrong piece place fault)
piece_decided piece place = by (is_numeral (digits_in piece)) (fits (number_in piece)) where
  by : Or (IsNumber piece) → Or (FitsSigned w64 (number_in piece)) → ((cell : ℤ) × SpellsCell piece cell) ⊎ ((fault : SqFault) × IsWrong piece place fault)
  by (inl number) (inl f) = inl (number_in piece, record { number = number; value = refl; fits = f })
  by (inl number) (inr f) = inr (NumberRange place, (refl, number, f))
  by (inr none) f = inr (BadNumber place, (refl, none))

abbrev IsDecided : List ℕ → Type 0
IsDecided text = ((cells : List ℤ) × sq_spells text cells) ⊎ ((fault : SqFault) × IsRefused text fault)

-- what stands behind the separators, and its first piece with the rest
abbrev front_in : List ℕ → List ℕ
front_in left = drop (prefix_len is_separator left) left

abbrev piece_in : List ℕ → List ℕ
piece_in front = take (prefix_len is_other front) front

abbrev rest_in : List ℕ → List ℕ
rest_in front = drop (prefix_len is_other front) front

-- from the cells of its first pieces on, where each shorter rest is decided
one_more : (text : List ℕ) (cells : List ℤ) (left : List ℕ) → BeginsWithCells text cells left
    → ((cells' : List ℤ) (left' : List ℕ) → BeginsWithCells text cells' left' → length left' < length left → IsDecided text) → IsDecided text
one_more text cells left p shorter = by (some_or_none (length (front_in left))) where
  by : (0 < length (front_in left)) ⊎ (length (front_in left) ≡ 0) → IsDecided text
  by (inr none) = inl (cells, all_read text left (front_in left) cells p refl none)
  by (inl some) =
      let front : List ℕ = front_in left in
      let piece : List ℕ = piece_in front in
      let rest : List ℕ = rest_in front in
      let f = front_of text left front piece rest cells p refl some refl refl in
      let place : ℕ = length text - length (piece ++ rest) in
      elim (piece_decided piece place) as (λ _. IsDecided text) [
        | inl spelled ↦ shorter (cells ++ spelled.0 ∷ []) rest (BeginsWithCells-push text cells left f.gap piece rest spelled.0 p f.begins spelled.1) f.shorter
        | inr wrong ↦ inr (wrong.0, refused text cells left f.gap piece rest place wrong.0 p f.begins refl wrong.1)
      ]

decided_from : (n : ℕ) (text : List ℕ) (cells : List ℤ) (left : List ℕ) → BeginsWithCells text cells left → length left < n → IsDecided text
decided_from zero text cells left p few = absurd (omega arith)
decided_from (suc n) text cells left p few = one_more text cells left p (λ cells' left' p' less. decided_from n text cells' left' p' (omega (arith, few, less)))

pub texts_are_decided : TextsAreDecided
texts_are_decided = record {
  some = λ text. decided_from (length text + 1) text [] text refl (omega arith);
  never_both = never_both;
  spelled_once = spelled_once;
  refused_once = refused_once;
}
