-- Reading labels and a string's bytes one after the other, as a loop does.
use Rattle.std.proofs.Common.{◌≡◌, ℕ, suc, ◌-◌, ◌+◌, ◌≤◌, ◌<◌, List, [], ◌∷◌, ◌++◌, Option, Some, None, refl, sym, ap, ◌∙◌, append_assoc, arith}
use Rattle.std.proofs.lemmas.List.{append-nil}
use Rattle.std.specs.Option.{option_map_or}
use Rattle.eir_line.specs.Bytes.{◌>>=◌, quote, past, past_blanks}
use Rattle.eir_line.specs.Reading.{Finds}
use Rattle.eir_line.specs.Grammar.{label_at, labels_at, byte_at, string_at}

-- the labels that were read before, and what is still read
abbrev pub with_labels : List (List ℕ) → List (List ℕ) × List ℕ → List (List ℕ) × List ℕ
with_labels front read = (front ++ read.0, read.1)

pub next_label : (front : List (List ℕ)) (count i : ℕ) (bytes name after : List ℕ) (total : List (List ℕ) × List ℕ) → i < count → label_at (past_blanks bytes) ≡ Some (name, after)
    → with_labels front (labels_at (count - i) bytes) ≡ total → with_labels (front ++ name ∷ []) (labels_at (count - (i + 1)) after) ≡ total
unfolding labels_at
next_label front count i bytes name after total lt h so_far =
    let k : count - i ≡ suc (count - (i + 1)) = omega arith in
    let one : with_labels front (labels_at (count - i) bytes) ≡ with_labels (front ++ name ∷ []) (labels_at (count - (i + 1)) after) = rw (k, h) (ap (λ (ns : List (List ℕ)). (ns, (labels_at (count - (i + 1)) after).1)) (sym (simp append_assoc))) in
    sym one ∙ so_far

pub no_label : (front : List (List ℕ)) (count i : ℕ) (bytes : List ℕ) (total : List (List ℕ) × List ℕ) → i < count → label_at (past_blanks bytes) ≡ None
    → with_labels front (labels_at (count - i) bytes) ≡ total → total ≡ (front, bytes)
unfolding labels_at
no_label front count i bytes total lt h so_far =
    let k : count - i ≡ suc (count - (i + 1)) = omega arith in
    let one : with_labels front (labels_at (count - i) bytes) ≡ (front, bytes) = rw (k, h) (ap (λ (ns : List (List ℕ)). (ns, bytes)) (append-nil front)) in
    sym so_far ∙ one

pub all_labels : (front : List (List ℕ)) (count i : ℕ) (bytes : List ℕ) (total : List (List ℕ) × List ℕ) → count ≤ i
    → with_labels front (labels_at (count - i) bytes) ≡ total → total ≡ (front, bytes)
unfolding labels_at
all_labels front count i bytes total le so_far =
    let k : count - i ≡ 0 = omega arith in
    let one : with_labels front (labels_at (count - i) bytes) ≡ (front, bytes) = rw k (ap (λ (ns : List (List ℕ)). (ns, bytes)) (append-nil front)) in
    sym so_far ∙ one

-- the bytes that were read before, and what is still read
abbrev pub with_bytes : List ℕ → Option (List ℕ × List ℕ) → Option (List ℕ × List ℕ)
with_bytes front read = read >>= (λ x. Some (front ++ x.0, x.1))

-- a string that ends here, a byte before what follows it, and a string whose first byte this is
abbrev ended : List ℕ → Option (List ℕ × List ℕ)
ended rest = Some ([], rest)

abbrev put_before : ℕ → List ℕ × List ℕ → Option (List ℕ × List ℕ)
put_before b more = Some (b ∷ more.0, more.1)

abbrev begun_by : ℕ → Option (ℕ × List ℕ) → Option (List ℕ × List ℕ)
begun_by most o = o >>= (λ b. string_at most b.1 >>= put_before b.0)

regroup : (front : List ℕ) (b : ℕ) (read : Option (List ℕ × List ℕ)) → with_bytes front (read >>= put_before b) ≡ with_bytes (front ++ b ∷ []) read
regroup front b (Some x) = ap (λ (bs : List ℕ). Some (bs, x.1)) (sym (simp append_assoc))
regroup front b None = refl

one_more : (most : ℕ) (bytes : List ℕ) (o : Option (List ℕ)) → past quote bytes ≡ o → string_at (suc most) bytes ≡ option_map_or ended o (begun_by most (byte_at bytes))
unfolding string_at
one_more most bytes o h = ap (λ (q : Option (List ℕ)). option_map_or ended q (begun_by most (byte_at bytes))) h

-- what a byte that was found leaves to be read
after_byte : (most : ℕ) (bytes : List ℕ) (o : Option (ℕ × List ℕ)) → past quote bytes ≡ None → byte_at bytes ≡ o → string_at (suc most) bytes ≡ begun_by most o
after_byte most bytes o h e = one_more most bytes None h ∙ ap (begun_by most) e

-- where no other arm fits, nothing was found
pub none_found : {X Y : Type 0} (view : X → Y) (o : Option X) (form : Option Y) → ((x : X) → o ≡ Some x → ⊥) → Finds view o form → form ≡ None
none_found view (Some x) form absent found = absurd (absent x refl)
none_found view None form absent found = found

pub next_byte : (front : List ℕ) (count i : ℕ) (bytes after : List ℕ) (b : ℕ) (total : Option (List ℕ × List ℕ)) → i < count → past quote bytes ≡ None → byte_at bytes ≡ Some (b, after)
    → with_bytes front (string_at (count - i) bytes) ≡ total → with_bytes (front ++ b ∷ []) (string_at (count - (i + 1)) after) ≡ total
next_byte front count i bytes after b total lt inside h so_far =
    let k : count - i ≡ suc (count - (i + 1)) = omega arith in
    let one : string_at (count - i) bytes ≡ (string_at (count - (i + 1)) after >>= put_before b) = ap (λ n. string_at n bytes) k ∙ after_byte (count - (i + 1)) bytes (Some (b, after)) inside h in
    sym (ap (with_bytes front) one ∙ regroup front b (string_at (count - (i + 1)) after)) ∙ so_far

pub no_byte : (front : List ℕ) (count i : ℕ) (bytes : List ℕ) (total : Option (List ℕ × List ℕ)) → i < count → past quote bytes ≡ None → byte_at bytes ≡ None
    → with_bytes front (string_at (count - i) bytes) ≡ total → total ≡ None
no_byte front count i bytes total lt inside h so_far =
    let k : count - i ≡ suc (count - (i + 1)) = omega arith in
    sym so_far ∙ ap (with_bytes front) (ap (λ n. string_at n bytes) k ∙ after_byte (count - (i + 1)) bytes None inside h)

pub closing : (front : List ℕ) (count i : ℕ) (bytes after : List ℕ) (total : Option (List ℕ × List ℕ)) → i < count → past quote bytes ≡ Some after
    → with_bytes front (string_at (count - i) bytes) ≡ total → total ≡ Some (front, after)
closing front count i bytes after total lt h so_far =
    let k : count - i ≡ suc (count - (i + 1)) = omega arith in
    sym so_far ∙ ap (with_bytes front) (ap (λ n. string_at n bytes) k ∙ one_more (count - (i + 1)) bytes (Some after) h) ∙ ap (λ (bs : List ℕ). Some (bs, after)) (append-nil front)

pub unclosed : (front : List ℕ) (count i : ℕ) (bytes : List ℕ) (total : Option (List ℕ × List ℕ)) → count ≤ i
    → with_bytes front (string_at (count - i) bytes) ≡ total → total ≡ None
unfolding string_at
unclosed front count i bytes total le so_far =
    let k : count - i ≡ 0 = omega arith in
    sym so_far ∙ ap (λ n. with_bytes front (string_at n bytes)) k
