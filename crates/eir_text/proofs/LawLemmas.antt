-- Lines of a text, pieces in order and labels of data.
use Rattle.std.proofs.Common.{◌≡◌, ℕ, ◌+◌, Bool, true, false, ◌==◌, nat_le, cond, if◌then◌else◌, List, [], ◌∷◌, ◌++◌, map, length, drop, filter, refl, sym, ap, ◌∙◌, subst, append_assoc, arith}
use Rattle.std.specs.List.{AllByRecursion, list_any, onto_first}
use Rattle.std.proofs.lemmas.Bool.{or_from}
use Rattle.std.proofs.lemmas.List.Concat.{flat_map-append}
use Rattle.std.proofs.lemmas.List.Sums.{sum_by-cons}
use Rattle.eir_line.specs.Line.{Line}
use Rattle.eir_text.specs.Sections.{lines_of}
use Rattle.eir_text.specs.Layout.{put_in, by_number, word_count, data_end, data_labels}
use Rattle.eir_text.specs.Spells.{words_for}
use Rattle.eir_text.specs.Laws.{Rise, words_laid}
use Rattle.eir_text.proofs.Sorting.{put, sorted, Rises, rises_sorted, filter_sorted}
use Rattle.eir_text.proofs.Said.{words_end}

abbrev Apart : List (List ℕ) → Type 0
Apart lines = AllByRecursion (λ line. list_any (λ b. b == 10) line ≡ false) lines

onto_apart : (b : ℕ) (lines : List (List ℕ)) → (b == 10) ≡ false → Apart lines → Apart (onto_first b lines)
onto_apart b [] e h = (or_from (b == 10) false e refl, tt)
onto_apart b (line ∷ lines) e h = (or_from (b == 10) (list_any (λ c. c == 10) line) e h.0, h.1)

-- no line holds a line feed
pub parts_apart : (text : List ℕ) → Apart (lines_of text)
parts_apart [] = (refl, tt)
parts_apart (b ∷ text) = at (b == 10) refl (parts_apart text) where
  at : (t : Bool) → (b == 10) ≡ t → Apart (lines_of text) → Apart (cond t ([] ∷ lines_of text) (onto_first b (lines_of text)))
  at true e h = (refl, h)
  at false e h = onto_apart b (lines_of text) e h

put_same : (x : ℕ × Line) (ys : List (ℕ × Line)) → put ys x ≡ put_in x ys
put_same x [] = refl
put_same x (y ∷ ys) = at (put_same x ys) (nat_le x.0 y.0) where
  at : put ys x ≡ put_in x ys → (b : Bool) → (if b then x ∷ y ∷ ys else y ∷ put ys x) ≡ (if b then x ∷ y ∷ ys else y ∷ put_in x ys)
  at h true = refl
  at h false = ap (λ zs. y ∷ zs) h

sorted_same : (xs : List (ℕ × Line)) → sorted xs ≡ by_number xs
sorted_same [] = refl
sorted_same (x ∷ xs) = put_same x (sorted xs) ∙ ap (put_in x) (sorted_same xs)

rise_from : (xs : List (ℕ × Line)) → Rises xs → Rise xs
rise_from [] h = tt
rise_from (x ∷ xs) h = (h.0, rise_from xs h.1)

pub rise_by_number : (xs : List (ℕ × Line)) → Rise (by_number xs)
rise_by_number xs = subst (λ (ys : List (ℕ × Line)). Rise ys) (sorted_same xs) (rise_from (sorted xs) (rises_sorted xs))

pub order_by_number : (xs : List (ℕ × Line)) (piece : ℕ) → filter (λ x. piece == x.0) (by_number xs) ≡ filter (λ x. piece == x.0) xs
order_by_number xs piece = ap (filter (λ x. piece == x.0)) (sym (sorted_same xs)) ∙ filter_sorted piece xs

labels_from : (address : ℕ) (before rest : List Line) → data_labels address (before ++ rest) ≡ data_labels address before ++ data_labels (address + data_end before) rest
labels_from address [] rest = ap (λ a. data_labels a rest) (let e : address ≡ address + 0 = omega arith in e)
labels_from address (line ∷ before) rest =
    let names : List (List ℕ × ℕ) = map (λ name. (name, address)) line.labels in
    let next : ℕ = address + word_count line.statement in
    let here : data_end (line ∷ before) ≡ word_count line.statement + data_end before = sum_by-cons (λ l. word_count l.statement) line before in
    let sum : next + data_end before ≡ address + data_end (line ∷ before) = omega arith in
    ap (λ ds. names ++ ds) (labels_from next before rest)
    ∙ (sym (append_assoc names (data_labels next before) (data_labels (next + data_end before) rest))
    ∙ ap (λ a. (names ++ data_labels next before) ++ data_labels a rest) sum)

pub labels_laid : (before after : List Line) (line : Line)
    → data_labels 0 (before ++ line ∷ after) ≡ data_labels 0 before ++ (map (λ name. (name, data_end before)) line.labels ++ data_labels (data_end before + word_count line.statement) after)
labels_laid before after line =
    let e : 0 + data_end before ≡ data_end before = omega arith in
    labels_from 0 before (line ∷ after) ∙ ap (λ a. data_labels 0 before ++ data_labels a (line ∷ after)) e

drop_front : {A : Type 0} (xs ys : List A) → drop (length xs) (xs ++ ys) ≡ ys
drop_front [] ys = refl
drop_front (x ∷ xs) ys = drop_front xs ys

pub words_follow : (values : List ℕ → ℕ) (before after : List Line) (line : Line) → drop (data_end before) (words_laid values (before ++ line ∷ after)) ≡ words_laid values (line ∷ after)
words_follow values before after line =
    ap (drop (data_end before)) (flat_map-append (λ l. words_for values l.statement) before (line ∷ after))
    ∙ (ap (λ n. drop n (words_laid values before ++ words_laid values (line ∷ after))) (sym (words_end values before))
    ∙ drop_front (words_laid values before) (words_laid values (line ∷ after)))
