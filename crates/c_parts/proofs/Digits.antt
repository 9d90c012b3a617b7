-- Digits in hex, from the last one on.
use Rattle.std.proofs.Common.{◌≡◌, ℕ, ◌+◌, ◌-◌, ◌<◌, ◌/◌, ◌%◌, Bool, true, false, List, [], ◌∷◌, ◌++◌, map, refl, sym, ap, ◌∙◌, arith}
use Rattle.std.specs.Prelude.{zero, suc, reverse, ◌==◌, if◌then◌else◌}
use Rattle.std.specs.Fmt.{digit_glyph, digits_onto, digits}
use Rattle.std.proofs.lemmas.List.{reverse-append, map-append}
use Rattle.c_store.specs.Values.{Value, Word}
use Rattle.c_store.specs.declared.value.Value as rust
use Rattle.c_store.specs.Shown.{value_of}

unfoldable pub hex_onto : ℕ → ℕ → List Value → List Value
hex_onto zero n acc = acc
hex_onto (suc k) n acc = if n / 16 == 0 then Word (digit_glyph false (n % 16)) ∷ acc else hex_onto k (n / 16) (Word (digit_glyph false (n % 16)) ∷ acc)

chosen : (b : Bool) (x y : List ℕ) → map Word (if b then x else y) ≡ (if b then map Word x else map Word y)
chosen true x y = refl
chosen false x y = refl

onto_is : (k n : ℕ) (acc : List ℕ) → map Word (digits_onto k 16 false n acc) ≡ hex_onto k n (map Word acc)
unfolding hex_onto
onto_is zero n acc = refl
onto_is (suc k) n acc =
    chosen (n / 16 == 0) (digit_glyph false (n % 16) ∷ acc) (digits_onto k 16 false (n / 16) (digit_glyph false (n % 16) ∷ acc))
    ∙ ap (λ ys. if n / 16 == 0 then Word (digit_glyph false (n % 16)) ∷ map Word acc else ys) (onto_is k (n / 16) (digit_glyph false (n % 16) ∷ acc))

pub hex_is : (n : ℕ) → map Word (digits 16 false n) ≡ hex_onto 64 n []
unfolding digits
hex_is n = onto_is 64 n []

reversed_more : (outs news : List rust.Value) (g : rust.Value) (v : Value) → news ≡ outs ++ g ∷ [] → value_of g ≡ v → reverse (map value_of news) ≡ v ∷ reverse (map value_of outs)
reversed_more outs news g v e f =
    ap (λ us. reverse (map value_of us)) e ∙ (ap reverse (map-append value_of outs (g ∷ [])) ∙ (reverse-append (map value_of outs) (value_of g ∷ []) ∙ ap (λ y. y ∷ reverse (map value_of outs)) f))

-- one digit of several
pub hex_more : (i rest : ℕ) (outs news : List rust.Value) (g : rust.Value) (whole : List Value) → hex_onto (64 - i) rest (reverse (map value_of outs)) ≡ whole → i < 64 → news ≡ outs ++ g ∷ [] → value_of g ≡ Word (digit_glyph false (rest % 16)) →
    (rest / 16 == 0) ≡ false → hex_onto (64 - (i + 1)) (rest / 16) (reverse (map value_of news)) ≡ whole
unfolding hex_onto
hex_more i rest outs news g whole e lt f h t =
    let next : 64 - i ≡ suc (64 - (i + 1)) = omega arith in
    ap (hex_onto (64 - (i + 1)) (rest / 16)) (reversed_more outs news g _ f h)
    ∙ (sym (ap (λ (b : Bool). if b then Word (digit_glyph false (rest % 16)) ∷ reverse (map value_of outs) else hex_onto (64 - (i + 1)) (rest / 16) (Word (digit_glyph false (rest % 16)) ∷ reverse (map value_of outs))) t)
    ∙ (sym (ap (λ (k : ℕ). hex_onto k rest (reverse (map value_of outs))) next) ∙ e))

-- the last digit
pub hex_last : (i rest : ℕ) (outs news : List rust.Value) (g : rust.Value) (whole : List Value) → hex_onto (64 - i) rest (reverse (map value_of outs)) ≡ whole → i < 64 → news ≡ outs ++ g ∷ [] → value_of g ≡ Word (digit_glyph false (rest % 16)) →
    (rest / 16 == 0) ≡ true → reverse (map value_of news) ≡ whole
unfolding hex_onto
hex_last i rest outs news g whole e lt f h t =
    let next : 64 - i ≡ suc (64 - (i + 1)) = omega arith in
    reversed_more outs news g _ f h
    ∙ (sym (ap (λ (b : Bool). if b then Word (digit_glyph false (rest % 16)) ∷ reverse (map value_of outs) else hex_onto (64 - (i + 1)) (rest / 16) (Word (digit_glyph false (rest % 16)) ∷ reverse (map value_of outs))) t)
    ∙ (sym (ap (λ (k : ℕ). hex_onto k rest (reverse (map value_of outs))) next) ∙ e))

-- past the last digit there are no more
pub hex_ends : (rest : ℕ) (vs whole : List Value) → hex_onto (64 - 64) rest vs ≡ whole → vs ≡ whole
unfolding hex_onto
hex_ends rest vs whole e = e
