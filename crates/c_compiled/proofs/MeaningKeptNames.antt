-- The names of a text are none of helper functions.
use Rattle.std.proofs.Common.{◌≡◌, ℕ, List, [], ◌∷◌, ◌++◌, Some, None, Bool, true, false, refl, sym, ap, ◌∙◌, subst, cond, take, drop, take-append-drop}
use Rattle.std.specs.Prelude.{◌&&◌, codes, if◌then◌else◌}
use Rattle.std.specs.List.{list_any}
use Rattle.std.specs.Option.{option_map_or, option_or}
use Rattle.std.specs.Str.{bytes_eq}
use Rattle.std.proofs.lemmas.Slice.Eq.{bytes_eq-Decides}
use Rattle.c_syntax.specs.Plain.{CUnit}
use Rattle.c_syntax.specs.Words.{meaning}
use Rattle.c_types.specs.Room.{charges_of}
use Rattle.c_eval.specs.Meaning.{own_rules}
use Rattle.c_helpers.specs.Laws.{each, is_strange}
use Rattle.c_helpers.specs.Meanings.{actions, format_put, is_format, stands_for}
use Rattle.c_helpers.specs.Simple.{helper_frames, charge_in}
use Rattle.c_fewer_types.specs.Standing.{IsTextName}

-- a name of a text isn't among names that have a strange byte
none_found : {A : Type 0} (xs : List (List ℕ × A)) (name : List ℕ) → each (λ x. list_any is_strange x.0) xs ≡ true → IsTextName name → meaning xs name ≡ None
none_found [] name e n = refl
none_found (x ∷ xs) name e n = go (bytes_eq name x.0) refl (list_any is_strange x.0) refl (λ k. none_found xs name k n) e
  where
    go : (b : Bool) → bytes_eq name x.0 ≡ b → (c : Bool) → list_any is_strange x.0 ≡ c → (each (λ x. list_any is_strange x.0) xs ≡ true → meaning xs name ≡ None) → (c && each (λ x. list_any is_strange x.0) xs) ≡ true → cond b (Some x.1) (meaning xs name) ≡ None
    go true k true l more e = absurd (cc (sym n ∙ (ap (λ z. list_any is_strange z) ((bytes_eq-Decides name x.0).0 k) ∙ l)))
    go false k true l more e = more e
    go b k false l more e = absurd (cc e)

-- nor does it begin as those of formats
no_format : (name : List ℕ) → IsTextName name → (b : Bool) → is_format name ≡ b → b ≡ false
no_format name n false e = refl
no_format name n true e =
    let first : take 7 name ≡ codes "printf " = (bytes_eq-Decides (take 7 name) (codes "printf ")).0 e in
    let whole : codes "printf " ++ drop 7 name ≡ name = ap (λ z. z ++ drop 7 name) (sym first) ∙ take-append-drop 7 name in
    let strange : list_any is_strange name ≡ true = subst (λ z. list_any is_strange z ≡ true) whole refl in
    absurd (cc (sym n ∙ strange))

pub none_stands : (name : List ℕ) → IsTextName name → stands_for name ≡ None
none_stands name n = ap (λ b. if b then Some (format_put (drop 7 name)) else meaning actions name) (no_format name n (is_format name) refl) ∙ none_found actions name refl n

pub charges_stay : (u : CUnit) (name : List ℕ) → IsTextName name → charge_in u name ≡ (own_rules u).charge name
charges_stay u name n =
    ap (λ b. if b then 0 else option_map_or (λ n. n) (option_or (meaning helper_frames name) (meaning (charges_of u) name)) 0) (no_format name n (is_format name) refl)
    ∙ ap (λ o. option_map_or (λ n. n) (option_or o (meaning (charges_of u) name)) 0) (none_found helper_frames name refl n)
