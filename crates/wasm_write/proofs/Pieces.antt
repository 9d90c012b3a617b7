-- What pieces make, one after the other.
use Rattle.std.proofs.Common.{◌≡◌, ℕ, List, [], ◌∷◌, ◌++◌, ap, ◌∙◌, append-nil}

pub one_is : (a b c : List ℕ) → a ≡ b → b ≡ c → a ++ [] ≡ c
one_is a b c p q = append-nil a ∙ (p ∙ q)

pub byte_is : (a b : ℕ) → a ≡ b → (a ∷ []) ≡ (b ∷ [])
byte_is a b e = ap (λ (n : ℕ). n ∷ []) e

-- a byte, and two rows
pub head_is : (byte : ℕ) (a b c d : List ℕ) → a ≡ c → b ≡ d → byte ∷ (a ++ (b ++ [])) ≡ byte ∷ (c ++ d)
head_is byte a b c d p q = ap (λ (row : List ℕ). byte ∷ (a ++ row)) (append-nil b ∙ q) ∙ ap (λ (row : List ℕ). byte ∷ (row ++ d)) p

-- a byte, a row, and a byte
pub frame_is : (byte last : ℕ) (a c : List ℕ) → a ≡ c → byte ∷ (a ++ last ∷ []) ≡ byte ∷ (c ++ last ∷ [])
frame_is byte last a c p = ap (λ (row : List ℕ). byte ∷ (row ++ last ∷ [])) p
