-- Numbers by their digits.
use Rattle.std.proofs.Common.{◌≡◌, ℕ, ◌+◌, ◌*◌, ◌<◌, ◌≤◌, ◌^◌, min, List, [], ◌∷◌, ◌++◌, length, get_or, take, ⊎_elim, refl, ap, ◌∙◌, sym, cond, arith}
use Rattle.std.proofs.Math.Nat.{mul-le-mul_left, mul-le-mul_right}
use Rattle.std.proofs.lemmas.Bool.{cases_lt}
use Rattle.std.proofs.lemmas.List.{take_more}
use Rattle.std.specs.Char.{digit_value, is_digit}
use Rattle.std.specs.Prelude.{Bool, true, false, nat_lt, drop}
use Rattle.std.specs.List.{prefix_len}
use Rattle.c_syntax.specs.Bytes.{is_suffix, begins, value_after, value_of}
use Rattle.c_syntax.specs.Front.{number_kind, number_behind}
use Rattle.c_syntax.specs.declared.token.RawKind.{RawKind}

value_after-push : (radix n : ℕ) (bytes : List ℕ) (b : ℕ) → value_after radix n (bytes ++ (b ∷ [])) ≡ value_after radix n bytes * radix + digit_value b
value_after-push radix n [] b = refl
value_after-push radix n (a ∷ bytes) b = value_after-push radix (n * radix + digit_value a) bytes b

-- one digit more
pub value_of-more : (radix : ℕ) (bytes : List ℕ) (i : ℕ) → i < length bytes → value_of radix (take (i + 1) bytes) ≡ value_of radix (take i bytes) * radix + digit_value (get_or bytes i 0)
value_of-more radix bytes i h = ap (value_of radix) (take_more bytes i 0 h) ∙ value_after-push radix 0 (take i bytes) (get_or bytes i 0)

-- a cap that is applied at each digit is a cap on the number
pub capped_step : (cap n radix d : ℕ) → 0 < radix → min (min n cap * radix + d) cap ≡ min (n * radix + d) cap
capped_step cap n radix d h = ⊎_elim
    (λ (low : n < cap). let e : min n cap ≡ n = omega arith in rw e refl)
    (λ (high : cap ≤ n).
    let e : min n cap ≡ cap = omega arith in
    let grown : cap * radix ≤ n * radix = mul-le-mul_right radix high in
    let kept : cap * 1 ≤ cap * radix = mul-le-mul_left cap (omega arith) in
    rw e (omega arith))
    (cases_lt n cap)

-- a number that is capped above 2^24 - 1 is as good
pub capped_kind : (value : ℕ) (suffix : Bool) → number_kind (min value (2 ^ 24)) suffix ≡ number_kind value suffix
unfolding number_kind
capped_kind value suffix = ⊎_elim
    (λ (low : value < 2 ^ 24). let e : min value (2 ^ 24) ≡ value = omega arith in rw e refl)
    (λ (high : 2 ^ 24 ≤ value).
    let e : min value (2 ^ 24) ≡ 2 ^ 24 = omega arith in
    let wide : nat_lt value (2 ^ 24) ≡ false = grind arith in
    rw (e, wide) refl)
    (cases_lt value (2 ^ 24))

-- a number by its parts, with its suffix or without
pub with_suffix : (radix prefix len value : ℕ) (bytes behind digits rest : List ℕ) (suffix : Bool) (k : RawKind) → behind ≡ drop prefix bytes → len ≡ prefix_len (λ b. is_digit b radix) behind
    → digits ≡ take len behind → rest ≡ drop len behind → value ≡ min (value_of radix digits) (2 ^ 24) → suffix ≡ begins is_suffix rest → k ≡ number_kind value true → suffix ≡ true
    → (k, prefix + len + 1) ≡ number_behind radix prefix bytes
unfolding number_behind
with_suffix radix prefix len value bytes behind digits rest suffix k hb hl hd hr hv hs hk test =
    let B = drop prefix bytes in
    let L = prefix_len (λ b. is_digit b radix) B in
    let lens : len ≡ L = hl ∙ ap (prefix_len (λ b. is_digit b radix)) hb in
    let tested : begins is_suffix (drop L B) ≡ true = sym (sym test ∙ hs ∙ ap (begins is_suffix) (hr ∙ ap (λ z. drop len z) hb ∙ ap (λ n. drop n B) lens)) in
    let kinds : k ≡ number_kind (value_of radix (take L B)) true =
    hk ∙ ap (λ v. number_kind v true) (hv ∙ ap (λ z. min (value_of radix z) (2 ^ 24)) (hd ∙ ap (λ z. take len z) hb ∙ ap (λ n. take n B) lens)) ∙ capped_kind (value_of radix (take L B)) true in
    ap (λ (x : RawKind). (x, prefix + len + 1)) kinds ∙ ap (λ (n : ℕ). (number_kind (value_of radix (take L B)) true, prefix + n + 1)) lens
    ∙ sym (ap (λ t. cond t (number_kind (value_of radix (take L B)) true, prefix + L + 1) (number_kind (value_of radix (take L B)) false, prefix + L)) tested)

pub without_suffix : (radix prefix len value : ℕ) (bytes behind digits rest : List ℕ) (suffix : Bool) (k : RawKind) → behind ≡ drop prefix bytes → len ≡ prefix_len (λ b. is_digit b radix) behind
    → digits ≡ take len behind → rest ≡ drop len behind → value ≡ min (value_of radix digits) (2 ^ 24) → suffix ≡ begins is_suffix rest → k ≡ number_kind value false → suffix ≡ false
    → (k, prefix + len) ≡ number_behind radix prefix bytes
unfolding number_behind
without_suffix radix prefix len value bytes behind digits rest suffix k hb hl hd hr hv hs hk test =
    let B = drop prefix bytes in
    let L = prefix_len (λ b. is_digit b radix) B in
    let lens : len ≡ L = hl ∙ ap (prefix_len (λ b. is_digit b radix)) hb in
    let tested : begins is_suffix (drop L B) ≡ false = sym (sym test ∙ hs ∙ ap (begins is_suffix) (hr ∙ ap (λ z. drop len z) hb ∙ ap (λ n. drop n B) lens)) in
    let kinds : k ≡ number_kind (value_of radix (take L B)) false =
    hk ∙ ap (λ v. number_kind v false) (hv ∙ ap (λ z. min (value_of radix z) (2 ^ 24)) (hd ∙ ap (λ z. take len z) hb ∙ ap (λ n. take n B) lens)) ∙ capped_kind (value_of radix (take L B)) false in
    ap (λ (x : RawKind). (x, prefix + len)) kinds ∙ ap (λ (n : ℕ). (number_kind (value_of radix (take L B)) false, prefix + n)) lens
    ∙ sym (ap (λ t. cond t (number_kind (value_of radix (take L B)) true, prefix + L + 1) (number_kind (value_of radix (take L B)) false, prefix + L)) tested)
