-- The test of UTF-8.
use Rattle.std.proofs.Common.{◌≡◌, List, ℕ, Bool, true, false, Result, Ok, Err, refl, sym}
use Rattle.std.specs.Prelude.{MatchResult, is_ok}
use Rattle.std.specs.Str.{IsUtf8, is_utf8}
use Rattle.std.proofs.lemmas.Str.{IsUtf8-from_is_utf8, is_utf8-from_IsUtf8}

no_text : (bytes : List ℕ) (b : Bool) → is_utf8 bytes ≡ b → ¬ (IsUtf8 bytes) → false ≡ b
no_text bytes true e differs = absurd (differs (IsUtf8-from_is_utf8 bytes e))
no_text bytes false e differs = refl

pub text_test : {T E : Type 0} (r : Result T E) (bytes : List ℕ) (P : T → Type 0) (Q : E → Type 0) → MatchResult r (λ s. P s × IsUtf8 bytes) (λ e. ¬ (IsUtf8 bytes) × Q e) → is_ok r ≡ is_utf8 bytes
text_test (Ok s) bytes P Q h = sym (is_utf8-from_IsUtf8 bytes h.1)
text_test (Err e) bytes P Q h = no_text bytes (is_utf8 bytes) refl h.0
