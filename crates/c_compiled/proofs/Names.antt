-- Names of helper functions, and what a text calls.
use Rattle.std.proofs.Common.{◌≡◌, ℕ, List, [], ◌∷◌, ◌++◌, Some, Bool, true, false, refl, sym, ap, ◌∙◌, subst, cond, map, take, drop, take-append-drop}
use Rattle.std.specs.Prelude.{◌||◌, if◌then◌else◌, codes}
use Rattle.std.specs.List.{list_any}
use Rattle.std.specs.Str.{bytes_eq}
use Rattle.std.proofs.lemmas.Bool.{and_parts}
use Rattle.std.proofs.lemmas.Slice.Eq.{bytes_eq-Decides}
use Rattle.c_syntax.specs.Words.{meaning}
use Rattle.c_types.specs.Types.{CTypes}
use Rattle.c_types.specs.Scope.{contains}
use Rattle.c_eval.specs.Environment.{Direct}
use Rattle.c_eval.specs.Text.{Text}
use Rattle.c_helpers.specs.Functions.{put_string, format_name, unit_name, refill_name, piece_name}
use Rattle.c_helpers.specs.Laws.{each, is_strange}
use Rattle.c_helpers.specs.Meanings.{Action, actions, is_format, format_put, stands_for}
use Rattle.c_worlds.specs.Silent.{prints}
use Rattle.c_lowered.specs.Counts.{is_known_to_helpers}
use Rattle.c_compiled.specs.Helped.{is_plain}
use Rattle.c_compiled.proofs.Programs.{may_call}

-- ---- names among others

each_has : (xs : List (List ℕ)) (test : List ℕ → Bool) (name : List ℕ) → each test xs ≡ true → contains xs name ≡ true → test name ≡ true
each_has [] test name e c = absurd (cc c)
each_has (x ∷ xs) test name e c = go (bytes_eq name x) refl (λ k. each_has xs test name (and_parts (test x) (each test xs) e).1 k) c
  where
    go : (b : Bool) → bytes_eq name x ≡ b → (contains xs name ≡ true → test name ≡ true) → (b || contains xs name) ≡ true → test name ≡ true
    go true k more c = subst (λ z. test z ≡ true) (sym ((bytes_eq-Decides name x).0 k)) (and_parts (test x) (each test xs) e).0
    go false k more c = more c

meaning_named : (xs : List (List ℕ × Action)) (name : List ℕ) (a : Action) → meaning xs name ≡ Some a → contains (map (λ x. x.0) xs) name ≡ true
meaning_named [] name a e = absurd (cc e)
meaning_named (x ∷ xs) name a e = go (bytes_eq name x.0) (λ k. meaning_named xs name a k) e
  where
    go : (b : Bool) → (meaning xs name ≡ Some a → contains (map (λ x. x.0) xs) name ≡ true) → cond b (Some x.1) (meaning xs name) ≡ Some a → (b || contains (map (λ x. x.0) xs) name) ≡ true
    go true more e = refl
    go false more e = more e

abbrev action_names : List (List ℕ)
action_names = map (λ x. x.0) actions

-- ---- what stands for something

-- the name of a format's function
pub format_is : (name : List ℕ) → is_format name ≡ true → format_name (drop 7 name) ≡ name
format_is name e =
    let first : take 7 name ≡ codes "printf " = (bytes_eq-Decides (take 7 name) (codes "printf ")).0 e in
    ap (λ z. z ++ drop 7 name) (sym first) ∙ take-append-drop 7 name

actions_are_strange : each (λ name. list_any is_strange name) action_names ≡ true
actions_are_strange = refl

actions_are_plain : each (λ name. is_plain name || bytes_eq name put_string.name) action_names ≡ true
actions_are_plain = refl

pub stands_strange : (name : List ℕ) (action : Action) → stands_for name ≡ Some action → list_any is_strange name ≡ true
stands_strange name action e = go (is_format name) refl e
  where
    go : (b : Bool) → is_format name ≡ b → (if b then Some (format_put (drop 7 name)) else meaning actions name) ≡ Some action → list_any is_strange name ≡ true
    go true k e = let whole : format_name (drop 7 name) ≡ name = format_is name k in subst (λ z. list_any is_strange z ≡ true) whole refl
    go false k e = each_has action_names (λ name. list_any is_strange name) name actions_are_strange (meaning_named actions name action e)

-- what doesn't print is plain
pub stands_plain : (name : List ℕ) (action : Action) → stands_for name ≡ Some action → prints name ≡ false → is_plain name ≡ true
stands_plain name action e silent = go (is_format name) refl (bytes_eq name put_string.name) refl e silent
  where
    go : (b : Bool) → is_format name ≡ b → (c : Bool) → bytes_eq name put_string.name ≡ c → (if b then Some (format_put (drop 7 name)) else meaning actions name) ≡ Some action → (b || c) ≡ false → is_plain name ≡ true
    go true k c l e p = absurd (cc p)
    go false k true l e p = absurd (cc p)
    go false k false l e p =
        let one : (is_plain name || bytes_eq name put_string.name) ≡ true = each_has action_names (λ name. is_plain name || bytes_eq name put_string.name) name actions_are_plain (meaning_named actions name action e) in
        last (is_plain name) (subst (λ c. (is_plain name || c) ≡ true) l one)
      where
        last : (b : Bool) → (b || false) ≡ true → b ≡ true
        last true h = refl
        last false h = h

-- ---- what helper functions alone know

module _ (name : List ℕ) (H : List ℕ → Type 0) (h : H name) (unit : H unit_name → ⊥) (refill : H refill_name → ⊥) (piece : H piece_name → ⊥) where
  unknown_by : (x : Bool) → bytes_eq name unit_name ≡ x → (y : Bool) → bytes_eq name refill_name ≡ y → (z : Bool) → bytes_eq name piece_name ≡ z → (x || y || z) ≡ false
  unknown_by true e y f z g = absurd (unit (subst (λ n. H n) ((bytes_eq-Decides name unit_name).0 e) h))
  unknown_by false e true f z g = absurd (refill (subst (λ n. H n) ((bytes_eq-Decides name refill_name).0 f) h))
  unknown_by false e false f true g = absurd (piece (subst (λ n. H n) ((bytes_eq-Decides name piece_name).0 g) h))
  unknown_by false e false f false g = refl

  pub unknown : is_known_to_helpers name ≡ false
  unknown = unknown_by (bytes_eq name unit_name) refl (bytes_eq name refill_name) refl (bytes_eq name piece_name) refl

pub never : false ≡ true → ⊥
never e = cc e

-- no name of a text is such
pub text_unknown : (name : List ℕ) → list_any is_strange name ≡ false → is_known_to_helpers name ≡ false
text_unknown name n = unknown name (λ z. list_any is_strange z ≡ false) n (λ e. never (sym e)) (λ e. never (sym e)) (λ e. never (sym e))

-- nor what a text calls
pub called_unknown : (t : Text) (name : List ℕ) (params : CTypes) → may_call t (Direct name params) ≡ true → is_known_to_helpers name ≡ false
called_unknown t name params c = unknown name (λ z. may_call t (Direct z params) ≡ true) c (λ e. never e) (λ e. never e) (λ e. never e)
