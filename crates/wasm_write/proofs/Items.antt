-- Rows of values, one after the other.
use Rattle.std.proofs.Common.{◌≡◌, ℕ, suc, ◌+◌, ◌-◌, ◌^◌, ◌<◌, ◌≤◌, List, [], ◌∷◌, ◌++◌, length, map, drop, replicate, get_or, refl, sym, ap, ◌∙◌, Some, Bool, false, arith, length-append, append_assoc}
use Rattle.std.specs.List.{flat_map}
use Rattle.std.specs.Prelude.{◌==◌}
use Rattle.std.proofs.lemmas.Bool.Decides.{nat_tests}
use Rattle.mach_core.proofs.Lists.{next_of}
use Rattle.wasm_bin.specs.declared.module.Limits.{Limits}
use Rattle.wasm_write.specs.Written.{vector_bytes, limits_bytes, section, vector_section, memory_section}
use Rattle.wasm_write.specs.Leb.{number_bytes}
use Rattle.wasm_write.proofs.Digits.{number_some}

-- the rows that are left, with the next in front
pub rows_next : {A : Type 0} (f : A → List ℕ) (xs : List A) (i : ℕ) (x : A) → i < length xs → x ≡ get_or xs i x → flat_map f (drop i xs) ≡ f x ++ flat_map f (drop (i + 1) xs)
rows_next f xs i x h is = ap (flat_map f) (next_of xs i x h is)

-- there are no more values than bytes, where each has one
pub rows_few : {A : Type 0} (f : A → List ℕ) → ((x : A) → 0 < length (f x)) → (xs : List A) → length xs ≤ length (flat_map f xs)
rows_few f some [] = omega arith
rows_few f some (x ∷ xs) = omega (arith, some x, rows_few f some xs, length-append (f x) (flat_map f xs))

-- the rows of what other values are
pub rows_of : {A B : Type 0} (f : B → List ℕ) (g : A → B) (xs : List A) → flat_map (λ x. f (g x)) xs ≡ flat_map f (map g xs)
rows_of f g [] = refl
rows_of f g (x ∷ xs) = ap (λ (bs : List ℕ). f (g x) ++ bs) (rows_of f g xs)

length_of : {A B : Type 0} (g : A → B) (xs : List A) → length xs ≡ length (map g xs)
length_of g [] = refl
length_of g (x ∷ xs) = ap suc (length_of g xs)

pub vector_of : {A B : Type 0} (f : B → List ℕ) (g : A → B) (xs : List A) → vector_bytes (λ x. f (g x)) xs ≡ vector_bytes f (map g xs)
vector_of f g xs = rw (length_of g xs, rows_of f g xs) refl

pub section_of : {A B : Type 0} (id : ℕ) (f : B → List ℕ) (g : A → B) (xs : List A) → vector_section id (λ x. f (g x)) xs ≡ vector_section id f (map g xs)
section_of id f g [] = refl
section_of id f g (x ∷ xs) = ap (section id) (vector_of f g (x ∷ xs))

-- the same byte some times more
pub times_next : (n i byte : ℕ) → i < n → replicate (n - i) byte ≡ byte ∷ replicate (n - (i + 1)) byte
times_next n i byte h = let k : n - i ≡ suc (n - (i + 1)) = omega arith in ap (λ (j : ℕ). replicate j byte) k

-- the section of some values is there
pub section_there : {A : Type 0} (id : ℕ) (f : A → List ℕ) (xs : List A) → 0 < length xs → vector_section id f xs ≡ section id (vector_bytes f xs)
section_there id f [] h = absurd (omega arith)
section_there id f (x ∷ xs) h = refl

pub rows_said : {A B : Type 0} (f : B → List ℕ) (g : A → B) (xs ys : List A) → xs ≡ ys → flat_map (λ x. f (g x)) xs ≡ flat_map f (map g ys)
rows_said f g xs ys e = rows_of f g xs ∙ ap (λ zs. flat_map f (map g zs)) e

pub section_is : {A : Type 0} (id : ℕ) (f : A → List ℕ) (xs ys : List A) → xs ≡ ys → vector_section id f xs ≡ vector_section id f ys
section_is id f xs ys e = ap (vector_section id f) e

pub section_said : {A B : Type 0} (id : ℕ) (f : B → List ℕ) (g : A → B) (xs ys : List A) → xs ≡ ys → vector_section id (λ x. f (g x)) xs ≡ vector_section id f (map g ys)
section_said id f g xs ys e = section_of id f g xs ∙ ap (λ zs. vector_section id f (map g zs)) e

-- the size of a vector's contents
pub vector_size : {A : Type 0} (f : A → List ℕ) (xs : List A) (count rows : ℕ) → count ≡ length (number_bytes (length xs)) → rows ≡ length (flat_map f xs) → count + rows ≡ length (vector_bytes f xs)
vector_size f xs count rows p q = omega (arith, p, q, length-append (number_bytes (length xs)) (flat_map f xs))

-- a section is longer than its contents
section_long : (id : ℕ) (contents : List ℕ) → length contents ≤ length (section id contents)
section_long id contents = omega (arith, length-append (number_bytes (length contents)) contents)

-- a section is as long as its values are many, where each has a byte
pub section_few : {A : Type 0} (id : ℕ) (f : A → List ℕ) → ((x : A) → 0 < length (f x)) → (xs : List A) → length xs ≤ length (vector_section id f xs)
section_few id f some [] = omega arith
section_few id f some (x ∷ xs) =
    let contents = vector_bytes f (x ∷ xs) in
    omega (arith, rows_few f some (x ∷ xs), length-append (number_bytes (length (x ∷ xs))) (flat_map f (x ∷ xs)), section_long id contents)

pub section_whole : {A : Type 0} (id : ℕ) (f : A → List ℕ) (xs : List A) → 0 < length xs → (id ∷ (number_bytes (length (vector_bytes f xs)) ++ number_bytes (length xs))) ++ flat_map f xs ≡ vector_section id f xs
section_whole id f xs h = ap (λ (row : List ℕ). id ∷ row) (append_assoc (number_bytes (length (vector_bytes f xs))) (number_bytes (length xs)) (flat_map f xs)) ∙ sym (section_there id f xs h)

pub memory_whole : (l : Limits) → (5 ∷ (number_bytes (1 + length (limits_bytes l)) ++ 1 ∷ [])) ++ limits_bytes l ≡ memory_section (Some l)
memory_whole l =
    let contents = limits_bytes l in
    let e : 1 + length contents ≡ suc (length contents) = omega arith in
    ap (λ (row : List ℕ). 5 ∷ row) (append_assoc (number_bytes (1 + length contents)) (1 ∷ []) contents ∙ ap (λ (n : ℕ). number_bytes n ++ 1 ∷ contents) e)

pub is_some : (n : ℕ) (r : Bool) → r ≡ (n == 0) → r ≡ false → 0 < n
is_some n r e f = grind (arith, nat_tests)

-- a table has no more labels than bytes
pub labels_few : (labels : List ℕ) (label : ℕ) → length labels ≤ length (vector_bytes number_bytes labels ++ number_bytes label)
labels_few labels label =
    omega (arith, rows_few number_bytes number_some labels, length-append (vector_bytes number_bytes labels) (number_bytes label), length-append (number_bytes (length labels)) (flat_map number_bytes labels))

-- rows behind others
pub behind_fits : (front rows code : List ℕ) → rows ≡ code → length (front ++ code) < 2 ^ 32 → length rows < 2 ^ 32
behind_fits front rows code e h = omega (arith, ap length e, length-append front code, h)

pub behind_size : (front rows code : List ℕ) (a b : ℕ) → rows ≡ code → a ≡ length front → b ≡ length rows → a + b ≡ length (front ++ code)
behind_size front rows code a b e p q = omega (arith, ap length e, length-append front code, p, q)
