-- A word is the one of its number.
use Rattle.std.proofs.Common.{◌≡◌, ℕ, ◌%◌, ◌^◌, ◌<◌, Option, Some, sym, ap, ◌∙◌, subst, arith}
use Rattle.std.proofs.Props.{props}
use Rattle.word24.specs.declared.word.Word.{Word}
use Rattle.word24.specs.Word.{number_of}
use Rattle.eir_opt.specs.Folding.{wrapped, made}

word : (n : ℕ) → n < 2 ^ 24 → Word
word n h = record { value = n; in_range = h }

small_once : (n : ℕ) → IsProp (n < 2 ^ 24)
small_once n = hlevel props

by_value : (n m : ℕ) → n ≡ m → (h : n < 2 ^ 24) (k : m < 2 ^ 24) → word n h ≡ word m k
by_value n m e h = subst (λ m. (k : m < 2 ^ 24) → word n h ≡ word m k) e (λ k. ap (word n) (small_once n h k))

pub wrapped_number : (w : Word) → wrapped (number_of w) ≡ w
unfolding word
wrapped_number w = let e : number_of w % 2 ^ 24 ≡ w.value = omega arith in by_value (number_of w % 2 ^ 24) w.value e (wrapped (number_of w)).in_range w.in_range

-- a word with the number that is made of two words that are there
pub made-Some : (f : ℕ → ℕ → ℕ) (x y : Option Word) (u w r : Word) → x ≡ Some u → y ≡ Some w → number_of r ≡ f (number_of u) (number_of w) → Some r ≡ made f x y
made-Some f x y u w r first second number =
    ap Some (sym (wrapped_number r) ∙ ap wrapped number) ∙ (ap (λ o. made f o (Some w)) (sym first) ∙ ap (made f x) (sym second))
