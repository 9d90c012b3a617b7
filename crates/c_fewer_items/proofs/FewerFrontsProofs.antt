-- Formats' functions behind the others.
use Rattle.std.proofs.Common.{◌≡◌, ℕ, List, [], ◌∷◌, ◌++◌, Some, None, Bool, true, false, refl, sym, ap, ap₂, ◌∙◌, cond, drop}
use Rattle.std.specs.Prelude.{◌||◌, not, map, Ok, codes, if◌then◌else◌}
use Rattle.std.specs.Str.{bytes_eq}
use Rattle.std.proofs.lemmas.Bool.{and_parts}
use Rattle.std.proofs.lemmas.Slice.Eq.{bytes_eq-Decides}
use Rattle.c_syntax.specs.Plain as plain
use Rattle.c_syntax.specs.Plain.{CItem}
use Rattle.c_syntax.specs.Words.{meaning}
use Rattle.c_types.specs.Types.{Int}
use Rattle.c_types.specs.Refusals.{Judged, both}
use Rattle.c_types.specs.Scope.{Names, Scope, Entity, Routine, contains, built_in, built_ins}
use Rattle.c_types.specs.Declarations.{scope_or}
use Rattle.c_types.specs.Units.{item_judged, all_items}
use Rattle.c_helpers.specs.Functions.{Helper, print_format, format_name}
use Rattle.c_helpers.specs.Laws.{are_distinct}
use Rattle.c_helpers.specs.Fewer.{function_of}
use Rattle.c_helpers.specs.Simple.{kept}
use Rattle.c_fewer_types.specs.Stands.{function_type}
use Rattle.c_fewer_types.proofs.FewerTypedRules.{both_is}
use Rattle.c_fewer_items.specs.FewerHeadsLaws.{all_functions, firsts, helper_items, file, names_behind}
use Rattle.c_fewer_items.proofs.Walk.{firsts_are_typed, firsts_are_known, others_stay}
use Rattle.c_fewer_items.proofs.Pieces.{formats_are_typed, formats_are_declared}
use Rattle.c_fewer_items.specs.FewerFrontsLaws.{AreFormats, FormatsCallDefined, FrontsAreTyped, FormatsAreKnown, OthersAreKept}

-- ---- one list behind another

abbrev told : Scope → Judged Scope
told s = Ok s

abbrev last : Scope → Scope → Judged Scope
last x y = Ok y

told_is : (x y : Scope) → told x ≡ told y → x ≡ y
told_is x y e = cc e

items_joined : (xs ys : List CItem) (s r q : Scope) → all_items s xs ≡ Ok r → all_items r ys ≡ Ok q → all_items s (xs ++ ys) ≡ Ok q
items_joined [] ys s r q e f = ap (λ z. all_items z ys) (told_is s r e) ∙ f
items_joined (x ∷ xs) ys s r q e f =
    let k = both_is (item_judged s x) (all_items (scope_or s (item_judged s x)) xs) last r e in
    let rest : all_items (scope_or s (item_judged s x)) xs ≡ Ok r = k.1.2 ∙ k.1.3 in
    ap₂ (λ u v. both {A = Scope} {B = Scope} u v last) k.1.1 (items_joined xs ys (scope_or s (item_judged s x)) r q rest f)

pub map_joined : {A B : Type 0} (f : A → B) (xs ys : List A) → map f (xs ++ ys) ≡ map f xs ++ map f ys
map_joined f [] ys = refl
map_joined f (x ∷ xs) ys = ap (λ zs. f x ∷ zs) (map_joined f xs ys)

pub helper_items_joined : (names : List (List ℕ)) (xs ys : List Helper) → helper_items names (xs ++ ys) ≡ helper_items names xs ++ helper_items names ys
helper_items_joined names xs ys = ap (λ zs. map (kept names) zs) (map_joined function_of xs ys) ∙ map_joined (kept names) (map function_of xs) (map function_of ys)

-- ---- names of formats

pub same_format : (f g : List ℕ) → bytes_eq (format_name g) (format_name f) ≡ true → bytes_eq f g ≡ true
same_format f g e = (bytes_eq-Decides f g).1 (sym (ap (λ z. drop 7 z) ((bytes_eq-Decides (format_name g) (format_name f)).0 e)))

other_format : (f g : List ℕ) → bytes_eq f g ≡ false → bytes_eq (format_name g) (format_name f) ≡ false
other_format f g e = go (bytes_eq (format_name g) (format_name f)) refl
  where
    go : (b : Bool) → bytes_eq (format_name g) (format_name f) ≡ b → b ≡ false
    go true k = absurd (cc (sym (same_format f g k) ∙ e))
    go false k = refl

pub no_or : (a b : Bool) → (a || b) ≡ false → (a ≡ false) × (b ≡ false)
no_or true b e = absurd (cc e)
no_or false b e = (refl, e)

pub not_true : (b : Bool) → not b ≡ true → b ≡ false
not_true true e = absurd (cc e)
not_true false e = refl

-- none of these is known yet
abbrev pub AreFresh : Names → List (List ℕ) → Type 0
AreFresh block [] = Unit {0}
AreFresh block (f ∷ fs) = (meaning block (format_name f) ≡ None) × AreFresh block fs

pub all_fresh : (fs : List (List ℕ)) (block : Names) → ((f : List ℕ) → meaning block (format_name f) ≡ None) → AreFresh block fs
all_fresh [] block h = tt
all_fresh (f ∷ fs) block h = (h f, all_fresh fs block h)

module _ (names defined : List (List ℕ)) (closed : FormatsCallDefined names defined) where
  abbrev pub begun : List ℕ → Bool
  begun name = contains names name

  abbrev pub entity : List ℕ → Entity
  entity f = Routine (function_type (print_format f)) (contains names (format_name f))

  pub record IsBehind (block : Names) : Type 0 where
    pub known : (name : List ℕ) (c : Helper) → meaning all_functions name ≡ Some c → meaning block name ≡ Some (Routine (function_type c) (contains names name))
    pub put : meaning block (codes "putchar") ≡ Some (built_in Int (Int ∷ []))

  -- what is known stays known behind a name that isn't
  stays : (block : Names) (f : List ℕ) (name : List ℕ) (x : Entity) → meaning block (format_name f) ≡ None → meaning block name ≡ Some x → meaning ((format_name f, entity f) ∷ block) name ≡ Some x
  stays block f name x fresh e = go (bytes_eq name (format_name f)) refl
    where
      go : (b : Bool) → bytes_eq name (format_name f) ≡ b → cond b (Some (entity f)) (meaning block name) ≡ Some x
      go true k = absurd (cc (sym fresh ∙ (ap (λ z. meaning block z) (sym ((bytes_eq-Decides name (format_name f)).0 k)) ∙ e)))
      go false k = e

  pub behind_next : (block : Names) (f : List ℕ) → IsBehind block → meaning block (format_name f) ≡ None → IsBehind ((format_name f, entity f) ∷ block)
  behind_next block f a fresh = record { known = λ name c e. stays block f name (Routine (function_type c) (contains names name)) fresh (a.known name c e); put = stays block f (codes "putchar") (built_in Int (Int ∷ [])) fresh a.put }

  pub fresh_next : (block : Names) (f : List ℕ) (fs : List (List ℕ)) → contains fs f ≡ false → AreFresh block fs → AreFresh ((format_name f, entity f) ∷ block) fs
  fresh_next block f [] c h = tt
  fresh_next block f (g ∷ gs) c h =
      let k = no_or (bytes_eq f g) (contains gs f) c in
      (ap (λ b. cond b (Some (entity f)) (meaning block (format_name g))) (other_format f g k.0) ∙ h.0, fresh_next block f gs k.1 h.1)

  pub step : (block : Names) (f : List ℕ) → IsBehind block → meaning block (format_name f) ≡ None → AreFormats (f ∷ []) → item_judged (file defined block) (kept names (function_of (print_format f))) ≡ Ok (file defined ((format_name f, entity f) ∷ block))
  step block f a fresh h = go (contains names (format_name f)) refl
    where
      go : (b : Bool) → contains names (format_name f) ≡ b → item_judged (file defined block) (plain.Function (format_name f) 0 (print_format f).result (print_format f).params (if b then Some (print_format f).body else None)) ≡ Ok (file defined ((format_name f, Routine (function_type (print_format f)) b) ∷ block))
      go true k = formats_are_typed f h.0.0 h.0.1 h.0.2 begun (file defined block) (record { outer = refl; fresh = fresh; calls = λ name c e m. (a.known name c e, closed f name c k e m); put = a.put })
      go false k = formats_are_declared f h.0.0 h.0.1 h.0.2 (file defined block) fresh

  walk : (fs : List (List ℕ)) (block : Names) → IsBehind block → AreFresh block fs → AreFormats fs → are_distinct fs ≡ true → all_items (file defined block) (helper_items names (map print_format fs)) ≡ Ok (file defined (names_behind names (map print_format fs) block))
  walk [] block a fresh h d = refl
  walk (f ∷ fs) block a fresh h d =
      let k = and_parts (not (contains fs f)) (are_distinct fs) d in
      let next : Names = (format_name f, entity f) ∷ block in
      let s = step block f a fresh.0 (h.0, tt) in
      let m = walk fs next (behind_next block f a fresh.0) (fresh_next block f fs (not_true (contains fs f) k.0) fresh.1) h.1 k.1 in
      ap (λ q. both q (all_items (scope_or (file defined block) q) (helper_items names (map print_format fs))) last) s ∙ ap (λ q. both {A = Scope} {B = Scope} (told (file defined next)) q last) m

pub fronts_are_typed : FrontsAreTyped
fronts_are_typed names defined formats closed more h d =
    let block : Names = names_behind names firsts built_ins in
    let a : IsBehind names defined more block = record { known = λ name c e. firsts_are_known names name c e; put = others_stay names (codes "putchar") refl } in
    ap (λ items. all_items (file defined built_ins) items) (helper_items_joined names firsts (map print_format formats))
    ∙ items_joined (helper_items names firsts) (helper_items names (map print_format formats)) (file defined built_ins) (file defined block) (file defined (names_behind names (map print_format formats) block)) (firsts_are_typed names defined closed)
    (walk names defined more formats block a (all_fresh formats block (λ f. others_stay names (format_name f) refl ∙ refl)) h d)

-- ---- what is known

known_first : (names formats : List (List ℕ)) (block : Names) (name : List ℕ) → ((format : List ℕ) → name ≡ format_name format → ⊥) → meaning (names_behind names (map print_format formats) block) name ≡ meaning block name
known_first names [] block name apart = refl
known_first names (f ∷ fs) block name apart = known_first names fs ((format_name f, Routine (function_type (print_format f)) (contains names (format_name f))) ∷ block) name apart ∙ go (bytes_eq name (format_name f)) refl
  where
    go : (b : Bool) → bytes_eq name (format_name f) ≡ b → cond b (Some (Routine (function_type (print_format f)) (contains names (format_name f)))) (meaning block name) ≡ meaning block name
    go true k = absurd (apart f ((bytes_eq-Decides name (format_name f)).0 k))
    go false k = refl

pub others_are_kept : OthersAreKept
others_are_kept names formats name apart = known_first names formats (names_behind names firsts built_ins) name apart

-- a format's function is known once it stands, and stays so
abbrev Says : List (List ℕ) → List ℕ → Names → Type 0
Says names f block = meaning block (format_name f) ≡ Some (Routine (function_type (print_format f)) (contains names (format_name f)))

says_next : (names : List (List ℕ)) (f g : List ℕ) (block : Names) (b : Bool) → bytes_eq (format_name f) (format_name g) ≡ b → (b ≡ false → Says names f block) → cond b (Some (Routine (function_type (print_format g)) (contains names (format_name g)))) (meaning block (format_name f)) ≡ Some (Routine (function_type (print_format f)) (contains names (format_name f)))
says_next names f g block true k h = let same : g ≡ f = sym (ap (λ z. drop 7 z) ((bytes_eq-Decides (format_name f) (format_name g)).0 k)) in ap (λ z. Some (Routine (function_type (print_format z)) (contains names (format_name z)))) same
says_next names f g block false k h = h refl

says_on : (names fs : List (List ℕ)) (f : List ℕ) (block : Names) → Says names f block → Says names f (names_behind names (map print_format fs) block)
says_on names [] f block h = h
says_on names (g ∷ gs) f block h = says_on names gs f ((format_name g, Routine (function_type (print_format g)) (contains names (format_name g))) ∷ block) (says_next names f g block (bytes_eq (format_name f) (format_name g)) refl (λ e. h))

says_known : (names fs : List (List ℕ)) (f : List ℕ) (block : Names) → contains fs f ≡ true → Says names f (names_behind names (map print_format fs) block)
says_known names [] f block c = absurd (cc c)
says_known names (g ∷ gs) f block c = go (bytes_eq f g) refl c (λ e. says_known names gs f ((format_name g, Routine (function_type (print_format g)) (contains names (format_name g))) ∷ block) e)
  where
    go : (b : Bool) → bytes_eq f g ≡ b → (b || contains gs f) ≡ true → (contains gs f ≡ true → Says names f (names_behind names (map print_format gs) ((format_name g, Routine (function_type (print_format g)) (contains names (format_name g))) ∷ block)))
        → Says names f (names_behind names (map print_format gs) ((format_name g, Routine (function_type (print_format g)) (contains names (format_name g))) ∷ block))
    go true k c more =
        let same : f ≡ g = (bytes_eq-Decides f g).0 k in
        let own : bytes_eq (format_name f) (format_name g) ≡ true = (bytes_eq-Decides (format_name f) (format_name g)).1 (ap (λ z. format_name z) same) in
        says_on names gs f ((format_name g, Routine (function_type (print_format g)) (contains names (format_name g))) ∷ block) (says_next names f g block (bytes_eq (format_name f) (format_name g)) refl (λ e. absurd (cc (sym own ∙ e))))
    go false k c more = more c

pub formats_are_known : FormatsAreKnown
formats_are_known names formats format c = says_known names formats format (names_behind names firsts built_ins) c
