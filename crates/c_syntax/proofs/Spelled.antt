-- What looking a word up among some of the spellings says of looking it up among all.
use Rattle.std.proofs.Common.{◌≡◌, ℕ, Bool, true, false, List, ◌∷◌, [], Some, refl, sym, ap, ◌∙◌}
use Rattle.std.specs.Prelude.{cond}
use Rattle.std.specs.List.{filter}
use Rattle.std.specs.Map.{lookup}
use Rattle.std.specs.Str.{bytes_eq}
use Rattle.std.specs.Cmp.Lexicographic.{bytes_decides}
use Rattle.c_syntax.specs.Words.{keywords, key_of}

-- a word is none of those without what it has
unlike : (has : List ℕ → Bool) (word other : List ℕ) → has word ≡ true → has other ≡ false → bytes_eq word other ≡ false
unlike has word other h n = at (bytes_eq word other) refl where
  at : (t : Bool) → bytes_eq word other ≡ t → t ≡ false
  at true e = absurd (cc (sym h ∙ ap has ((bytes_decides word other).0 e) ∙ n))
  at false e = refl

-- a word is looked up among those with what it has
kept : {X : Type 0} (has : List ℕ → Bool) (word : List ℕ) → has word ≡ true → (table : List (List ℕ × X)) → lookup (λ w. bytes_eq word w) (filter (λ e. has e.0) table) ≡ lookup (λ w. bytes_eq word w) table
kept has word h [] = refl
kept has word h (e ∷ es) = at (has e.0) refl (kept has word h es) where
  at : (t : Bool) → has e.0 ≡ t → lookup (λ w. bytes_eq word w) (filter (λ d. has d.0) es) ≡ lookup (λ w. bytes_eq word w) es
      → lookup (λ w. bytes_eq word w) (cond t (e ∷ filter (λ d. has d.0) es) (filter (λ d. has d.0) es)) ≡ cond (bytes_eq word e.0) (Some e.1) (lookup (λ w. bytes_eq word w) es)
  at true n same = ap (λ o. cond (bytes_eq word e.0) (Some e.1) o) same
  at false n same = same ∙ sym (ap (λ t. cond t (Some e.1) (lookup (λ w. bytes_eq word w) es)) (unlike has word e.0 h n))

pub among_keys : (has : List ℕ → Bool) (word : List ℕ) → has word ≡ true → lookup (λ w. bytes_eq word w) (filter (λ e. has e.0) keywords) ≡ key_of word
unfolding key_of
among_keys has word h = kept has word h keywords
