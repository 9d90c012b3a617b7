-- A label has one place.
use Rattle.std.proofs.Common.{◌≡◌, ⊎_elim, ℕ, zero, suc, true, cond, List, [], ◌∷◌, ◌++◌, Some, refl, sym, ap, subst, ◌∙◌}
use Rattle.std.specs.Prelude.{Contains, slice_get}
use Rattle.std.proofs.lemmas.List.Elements.{Contains-append_left, Contains-append_right, Contains-append_cases}
use Rattle.ws_lang.specs.Instruction.{Label, Instruction, Mark, marks, uses, marks_of, AreDistinct, IsWhitespace}
use Rattle.ws_lang.specs.Step.{is_mark_of, place_of}
use Rattle.ws_lang.specs.Places.{HasOnePlaceEach}
use Rattle.ws_lang.proofs.VerdictLemmas.{all_contains}
use Rattle.ws_lang.proofs.RuleLemmas.{contains_here, contains_nothing, contains_first_or_rest, any_contains, contains_any, opposite, by_bool, one_mark, mark_is}

distinct_tail : (xs ys : List Label) → AreDistinct (xs ++ ys) → AreDistinct ys
distinct_tail [] ys h = h
distinct_tail (x ∷ xs) ys h = distinct_tail xs ys h.1

-- a label of a list is in no list behind it, where all are distinct
distinct_apart : (xs ys : List Label) (label : Label) → AreDistinct (xs ++ ys) → Contains xs label → Contains ys label → ⊥
distinct_apart [] ys label h k m = contains_nothing label k
distinct_apart (x ∷ xs) ys label h k m =
    ⊎_elim (λ e. h.0 (subst (λ l. Contains (xs ++ ys) l) (sym e) (Contains-append_right xs ys label m)))
    (λ r. distinct_apart xs ys label h.1 r m)
    (contains_first_or_rest x label xs k)

marked_at : (code : List Instruction) (label : Label) (k : ℕ) → slice_get code k ≡ Some (Mark label) → Contains (marks code) label
marked_at [] label k e = cc
marked_at (i ∷ code) label zero e = let f : i ≡ Mark label = cc in Contains-append_left (marks_of i) (marks code) label (subst (λ j. Contains (marks_of j) label) (sym f) (contains_here label []))
marked_at (i ∷ code) label (suc k) e = Contains-append_right (marks_of i) (marks code) label (marked_at code label k e)

only_place : (code : List Instruction) (label : Label) (k : ℕ) → AreDistinct (marks code) → slice_get code k ≡ Some (Mark label) → k ≡ place_of label code
only_place [] label k h e = cc
only_place (i ∷ code) label zero h e =
    let f : i ≡ Mark label = cc in
    let mark : is_mark_of label i ≡ true = contains_any (marks_of i) label (subst (λ j. Contains (marks_of j) label) (sym f) (contains_here label [])) in
    sym (ap (λ b. cond b 0 (suc (place_of label code))) mark)
only_place (i ∷ code) label (suc k) h e =
    by_bool (is_mark_of label i) (λ b. is_mark_of label i ≡ b → suc k ≡ cond b 0 (suc (place_of label code)))
    (λ f. absurd (distinct_apart (marks_of i) (marks code) label h (any_contains (marks_of i) label f) (marked_at code label k e)))
    (λ f. ap suc (only_place code label k (distinct_tail (marks_of i) (marks code) h) e))
    refl

only_one : (x label : Label) → Contains (x ∷ []) label → x ≡ label
only_one x label h = ⊎_elim (λ e. e) (λ k. absurd (contains_nothing label k)) (contains_first_or_rest x label [] h)

is_mark : (i : Instruction) (label : Label) → Contains (marks_of i) label → i ≡ Mark label
is_mark i label h =
    ⊎_elim (λ e. absurd (contains_nothing label (subst (λ l. Contains l label) e h)))
    (λ e. mark_is i label (e.1 ∙ ap (λ l. l ∷ []) (only_one e.0 label (subst (λ l. Contains l label) e.1 h))))
    (one_mark i)

place_there : (code : List Instruction) (label : Label) → Contains (marks code) label → slice_get code (place_of label code) ≡ Some (Mark label)
place_there [] label h = absurd (contains_nothing label h)
place_there (i ∷ code) label h =
    by_bool (is_mark_of label i) (λ b. is_mark_of label i ≡ b → slice_get (i ∷ code) (cond b 0 (suc (place_of label code))) ≡ Some (Mark label))
    (λ f. ap (λ j. Some j) (is_mark i label (any_contains (marks_of i) label f)))
    (λ f. place_there code label (⊎_elim (λ k. absurd (opposite (is_mark_of label i) (contains_any (marks_of i) label k) f)) (λ k. k) (Contains-append_cases (marks_of i) (marks code) label h)))
    refl

-- in a program each label that is gone to has one place
pub one_place_each : (code : List Instruction) → IsWhitespace code → HasOnePlaceEach code
one_place_each code w = record {
  there = λ label h. place_there code label (all_contains (Contains (marks code)) (uses code) label w.marked h);
  only = λ label k e. only_place code label k w.marked_once e;
}
