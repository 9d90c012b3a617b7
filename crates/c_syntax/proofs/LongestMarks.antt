-- The longest mark at the front of a text.
use Rattle.std.proofs.Common.{◌≡◌, ℕ, zero, suc, ◌<◌, ◌≤◌, Bool, true, false, List, [], ◌∷◌, length, take, Option, Some, None, ⊎_elim, refl, sym, ap, ◌∙◌, arith, length-take}
use Rattle.std.proofs.lemmas.Bool.{cases_lt}
use Rattle.std.proofs.lemmas.Bool.Decides.{nat_tests}
use Rattle.std.specs.Prelude.{nat_lt, ◌&&◌, if◌then◌else◌}
use Rattle.std.specs.Map.{lookup}
use Rattle.std.specs.Str.{bytes_eq}
use Rattle.std.specs.Option.{option_map_or, unwrap_or}
use Rattle.std.specs.Cmp.Lexicographic.{bytes_decides}
use Rattle.c_syntax.specs.declared.token.Kind.{Kind}
use Rattle.c_syntax.specs.declared.token.Kind.TheVariants as kind
use Rattle.c_syntax.specs.declared.token.Mark.{Mark}
use Rattle.c_syntax.specs.Words.{marks, mark_of}
use Rattle.c_syntax.specs.Front.{mark_at}
use Rattle.c_syntax.specs.Laws.{MarksAreLongest}

-- all spellings have at most three bytes
abbrev all_short : List (List ℕ × Mark) → Bool
all_short [] = true
all_short (e ∷ es) = nat_lt (length e.0) 4 && all_short es

both : (x y : Bool) → (x && y) ≡ true → (x ≡ true) × (y ≡ true)
both true true h = (refl, refl)
both true false h = absurd (cc (h))
both false y h = absurd (cc (h))

below_four : (n : ℕ) → nat_lt n 4 ≡ true → n ≤ 3
below_four n h = grind (arith, nat_tests)

long_none : (word : List ℕ) (table : List (List ℕ × Mark)) → 3 < length word → all_short table ≡ true → lookup (λ entry. bytes_eq word entry) table ≡ None
long_none word [] h s = refl
long_none word (e ∷ es) h s = at (both (nat_lt (length e.0) 4) (all_short es) s) (λ rest. long_none word es h rest) (bytes_eq word e.0) refl where
  at : (nat_lt (length e.0) 4 ≡ true) × (all_short es ≡ true) → (all_short es ≡ true → lookup (λ entry. bytes_eq word entry) es ≡ None)
      → (b : Bool) → bytes_eq word e.0 ≡ b → (if b then Some e.1 else lookup (λ entry. bytes_eq word entry) es) ≡ None
  at p step true t = absurd (omega (arith, ap (λ (z : List ℕ). length z) ((bytes_decides word e.0).0 t), below_four (length e.0) p.0, h))
  at p step false t = step p.1

long_mark : (word : List ℕ) → 3 < length word → mark_of word ≡ None
unfolding mark_of
long_mark word h = long_none word marks h refl

take_again : (j : ℕ) (xs : List ℕ) → take (length (take j xs)) xs ≡ take j xs
take_again zero xs = refl
take_again (suc j) [] = refl
take_again (suc j) (x ∷ xs) = ap (λ (z : List ℕ). x ∷ z) (take_again j xs)

abbrev mark_or : Mark → Kind → Mark
mark_or m (kind.Mark y) = y
mark_or m k = m

above : (bytes : List ℕ) (k : ℕ) → 3 < k → k ≤ length bytes → mark_of (take k bytes) ≡ None
above bytes k h within = long_mark (take k bytes) (omega (arith, length-take k bytes))

-- a mark of so many bytes
abbrev marked : ℕ → Mark → Option (Kind × ℕ)
marked n m = Some (kind.Mark m, n)

found : (bytes : List ℕ) (m x : Mark) (n j : ℕ) → mark_of (take j bytes) ≡ Some x → marked (length (take j bytes)) x ≡ marked n m
    → ((k : ℕ) → j < k → k ≤ length bytes → mark_of (take k bytes) ≡ None)
    → (mark_of (take n bytes) ≡ Some m) × ((k : ℕ) → n < k → k ≤ length bytes → mark_of (take k bytes) ≡ None)
found bytes m x n j h e none =
    let len : length (take j bytes) ≡ n = ap (λ (o : Option (Kind × ℕ)). (unwrap_or o (kind.End, 0)).1) e in
    let same : x ≡ m = ap (λ (o : Option (Kind × ℕ)). mark_or x (unwrap_or o (kind.End, 0)).0) e in (
      ap (λ k. mark_of (take k bytes)) (sym len) ∙ ap mark_of (take_again j bytes) ∙ h ∙ ap (λ (y : Mark). Some y) same,
      λ k longer within. none k (omega (arith, len, length-take j bytes, longer, within)) within,
    )

pub marks_are_longest : MarksAreLongest
unfolding mark_at
marks_are_longest = λ bytes m n e. at bytes m n (mark_of (take 3 bytes)) refl (mark_of (take 2 bytes)) refl (mark_of (take 1 bytes)) refl e where
  beyond_two : (bytes : List ℕ) → mark_of (take 3 bytes) ≡ None → (k : ℕ) → 2 < k → k ≤ length bytes → mark_of (take k bytes) ≡ None
  beyond_two bytes h3 k h within = ⊎_elim
      (λ (low : k < 4). let three : k ≡ 3 = omega arith in ap (λ z. mark_of (take z bytes)) three ∙ h3)
      (λ (high : 4 ≤ k). above bytes k (omega arith) within)
      (cases_lt k 4)

  beyond_one : (bytes : List ℕ) → mark_of (take 3 bytes) ≡ None → mark_of (take 2 bytes) ≡ None → (k : ℕ) → 1 < k → k ≤ length bytes → mark_of (take k bytes) ≡ None
  beyond_one bytes h3 h2 k h within = ⊎_elim
      (λ (low : k < 3). let two : k ≡ 2 = omega arith in ap (λ z. mark_of (take z bytes)) two ∙ h2)
      (λ (high : 3 ≤ k). beyond_two bytes h3 k (omega arith) within)
      (cases_lt k 3)

  at : (bytes : List ℕ) (m : Mark) (n : ℕ) (o3 : Option Mark) → mark_of (take 3 bytes) ≡ o3 → (o2 : Option Mark) → mark_of (take 2 bytes) ≡ o2 → (o1 : Option Mark) → mark_of (take 1 bytes) ≡ o1
      → option_map_or (marked (length (take 3 bytes))) o3 (option_map_or (marked (length (take 2 bytes))) o2 (option_map_or (marked (length (take 1 bytes))) o1 None)) ≡ marked n m
      → (mark_of (take n bytes) ≡ Some m) × ((k : ℕ) → n < k → k ≤ length bytes → mark_of (take k bytes) ≡ None)
  at bytes m n (Some x) h3 o2 h2 o1 h1 e = found bytes m x n 3 h3 e (above bytes)
  at bytes m n None h3 (Some x) h2 o1 h1 e = found bytes m x n 2 h2 e (beyond_two bytes h3)
  at bytes m n None h3 None h2 (Some x) h1 e = found bytes m x n 1 h1 e (beyond_one bytes h3 h2)
  at bytes m n None h3 None h2 None h1 e = absurd (cc (e))
