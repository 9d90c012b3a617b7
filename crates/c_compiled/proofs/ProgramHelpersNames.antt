-- Names of helper functions, and those that the function of a format calls.
use Rattle.std.proofs.Common.{◌≡◌, ℕ, suc, ◌≤◌, List, [], ◌∷◌, ◌++◌, ◌⊎◌, inl, inr, map, Some, None, Bool, true, false, refl, sym, ap, ◌∙◌, subst, cond}
use Rattle.std.specs.Prelude.{◌||◌, ◌&&◌, not, ◌==◌, nat_le, codes, if◌then◌else◌}
use Rattle.std.specs.Option.{option_map, option_map_or, option_or}
use Rattle.std.specs.List.{list_any}
use Rattle.std.specs.Str.{bytes_eq}
use Rattle.std.specs.declared.option.Option.{Option}
use Rattle.std.proofs.lemmas.Bool.{and_parts, leb-true, eqb-true}
use Rattle.std.proofs.lemmas.Slice.Eq.{bytes_eq-Decides}
use Rattle.c_syntax.specs.Plain as plain
use Rattle.c_syntax.specs.Plain.{CStmt, CItem, CUnit, stmts}
use Rattle.c_syntax.specs.Words.{meaning}
use Rattle.c_types.specs.Scope.{Scope, contains}
use Rattle.c_types.specs.Declarations.{scope_or}
use Rattle.c_types.specs.Operands.{conversions_behind}
use Rattle.c_types.specs.Room.{charges_of}
use Rattle.c_types.specs.Units.{item_judged, defined_in}
use Rattle.c_formats.specs.Laws.{has_letter}
use Rattle.c_helpers.specs.Terms.{number, variable, declaration}
use Rattle.c_helpers.specs.Functions as arguments
use Rattle.c_helpers.specs.Functions.{Helper, functions, print_format, format_name, pieces, conversion, put_piece, refill, call_of, argument_name, unit_name, refill_name, piece_name}
use Rattle.c_helpers.specs.Laws.{is_strange}
use Rattle.c_helpers.specs.Meanings.{is_format, known_to_helpers}
use Rattle.c_helpers.specs.Names.{stmt_names, stmts_names}
use Rattle.c_helpers.specs.Fewer.{told, function_of, fewer_in_items}
use Rattle.c_helpers.specs.Simple.{helper_frames, charge_in}
use Rattle.c_fewer_types.specs.Standing.{IsTextName}
use Rattle.c_fewer_items.specs.FewerHeadsLaws.{all_functions, firsts}
use Rattle.c_fewer_items.proofs.FewerFrontsProofs.{same_format}
use Rattle.c_fewer_calls.specs.There.{by_name}
use Rattle.c_programs.specs.Programs.{ItemsHaveNames}

-- ---- lists of names

pub or_left : (a b : Bool) → a ≡ true → (a || b) ≡ true
or_left true b e = refl
or_left false b e = absurd (cc e)

pub or_right : (a b : Bool) → b ≡ true → (a || b) ≡ true
or_right true b e = refl
or_right false b e = e

pub or_either : (a b : Bool) → (a || b) ≡ true → (a ≡ true) ⊎ (b ≡ true)
or_either true b e = inl refl
or_either false b e = inr e

pub contains_left : (xs ys : List (List ℕ)) (name : List ℕ) → contains xs name ≡ true → contains (xs ++ ys) name ≡ true
contains_left [] ys name e = absurd (cc e)
contains_left (x ∷ xs) ys name e = go (bytes_eq name x) e (λ k. contains_left xs ys name k)
  where
    go : (b : Bool) → (b || contains xs name) ≡ true → (contains xs name ≡ true → contains (xs ++ ys) name ≡ true) → (b || contains (xs ++ ys) name) ≡ true
    go true e more = refl
    go false e more = more e

pub contains_right : (xs ys : List (List ℕ)) (name : List ℕ) → contains ys name ≡ true → contains (xs ++ ys) name ≡ true
contains_right [] ys name e = e
contains_right (x ∷ xs) ys name e = or_right (bytes_eq name x) (contains (xs ++ ys) name) (contains_right xs ys name e)

-- ---- helper functions by name

pub named_so : (gs : List Helper) (name : List ℕ) (g : Helper) → meaning (by_name gs) name ≡ Some g → name ≡ g.name
named_so [] name g e = absurd (cc e)
named_so (x ∷ gs) name g e = go (bytes_eq name x.name) refl e (λ k. named_so gs name g k)
  where
    go : (b : Bool) → bytes_eq name x.name ≡ b → cond b (Some x) (meaning (by_name gs) name) ≡ Some g → (meaning (by_name gs) name ≡ Some g → name ≡ g.name) → name ≡ g.name
    go true k e more = let same : x ≡ g = cc e in (bytes_eq-Decides name x.name).0 k ∙ ap (λ (z : Helper). z.name) same
    go false k e more = more e

abbrev all_pass : (Helper → Bool) → List Helper → Bool
all_pass test [] = true
all_pass test (g ∷ gs) = test g && all_pass test gs

found_passes : (test : Helper → Bool) (gs : List Helper) (name : List ℕ) (g : Helper) → all_pass test gs ≡ true → meaning (by_name gs) name ≡ Some g → test g ≡ true
found_passes test [] name g h e = absurd (cc e)
found_passes test (x ∷ gs) name g h e = let p = and_parts (test x) (all_pass test gs) h in go (bytes_eq name x.name) p.0 e (λ k. found_passes test gs name g p.1 k)
  where
    go : (b : Bool) → test x ≡ true → cond b (Some x) (meaning (by_name gs) name) ≡ Some g → (meaning (by_name gs) name ≡ Some g → test g ≡ true) → test g ≡ true
    go true t e more = let same : x ≡ g = cc e in subst (λ z. test z ≡ true) same t
    go false t e more = more e

-- the frame of a helper function has at most 16 words, and its name is that of no format
abbrev is_light : Option ℕ → Bool
is_light (Some n) = nat_le n 16
is_light None = false

abbrev is_small : Helper → Bool
is_small g = not (is_format g.name) && is_light (meaning helper_frames g.name)

no_format : (b : Bool) → not b ≡ true → b ≡ false
no_format true e = absurd (cc e)
no_format false e = refl

pub charge_is_small : (u : CUnit) (name : List ℕ) (g : Helper) → meaning (by_name functions) name ≡ Some g → charge_in u g.name ≤ 16
charge_is_small u name g e =
    let p = and_parts (not (is_format g.name)) (is_light (meaning helper_frames g.name)) (found_passes is_small functions name g refl e) in
    go (is_format g.name) (no_format (is_format g.name) p.0) (meaning helper_frames g.name) p.1
  where
    go : (b : Bool) → b ≡ false → (o : Option ℕ) → is_light o ≡ true → (if b then 0 else option_map_or (λ n. n) (option_or o (meaning (charges_of u) g.name)) 0) ≤ 16
    go true k o l = absurd (cc k)
    go false k (Some n) l = leb-true n 16 l
    go false k None l = absurd (cc l)

-- it isn't one of those that are told of alone
abbrev is_run : Helper → Bool
is_run g = not (bytes_eq g.name unit_name) && (not (bytes_eq g.name refill_name) && not (bytes_eq g.name piece_name))

pub is_unknown : (ration : ℕ) (name : List ℕ) (g : Helper) → meaning (by_name functions) name ≡ Some g → known_to_helpers ration g.name ≡ None
is_unknown ration name g e =
    let p = and_parts (not (bytes_eq g.name unit_name)) (not (bytes_eq g.name refill_name) && not (bytes_eq g.name piece_name)) (found_passes is_run functions name g refl e) in
    let q = and_parts (not (bytes_eq g.name refill_name)) (not (bytes_eq g.name piece_name)) p.1 in
    go _ _ _ (bytes_eq g.name unit_name) (bytes_eq g.name refill_name) (bytes_eq g.name piece_name) (no_format (bytes_eq g.name unit_name) p.0) (no_format (bytes_eq g.name refill_name) q.0) (no_format (bytes_eq g.name piece_name) q.1)
  where
    go : {X : Type 0} (x y z : X) (a b c : Bool) → a ≡ false → b ≡ false → c ≡ false → cond a (Some x) (cond b (Some y) (cond c (Some z) None)) ≡ None
    go x y z true b c h k l = absurd (cc h)
    go x y z false true c h k l = absurd (cc k)
    go x y z false false true h k l = absurd (cc l)
    go x y z false false false h k l = refl

-- and it is among all of them
pub is_listed : (name : List ℕ) (g : Helper) → meaning (by_name functions) name ≡ Some g → meaning all_functions name ≡ Some g
is_listed name g e = go (bytes_eq name unit_name) refl (bytes_eq name refill_name) refl (bytes_eq name piece_name) refl
  where
    none : (other : List ℕ) → bytes_eq name other ≡ true → meaning (by_name functions) other ≡ None → ⊥
    none other k n = let same : Some g ≡ None = sym e ∙ (ap (λ z. meaning (by_name functions) z) ((bytes_eq-Decides name other).0 k) ∙ n) in cc same

    go : (a : Bool) → bytes_eq name unit_name ≡ a → (b : Bool) → bytes_eq name refill_name ≡ b → (c : Bool) → bytes_eq name piece_name ≡ c
        → cond a (Some (told unit_name [])) (cond b (Some (told refill_name [])) (cond c (Some (told piece_name (declaration plain.Int arguments.a ∷ []))) (meaning (by_name functions) name))) ≡ Some g
    go true k b l c m = absurd (none unit_name k refl)
    go false k true l c m = absurd (none refill_name l refl)
    go false k false l true m = absurd (none piece_name m refl)
    go false k false l false m = e

-- ---- functions of a text

-- what stands behind helper functions defines no other names
pub defined_front : (gs : List Helper) (items : List CItem) (name : List ℕ) → contains (defined_in (map function_of gs ++ items)) name ≡ true
    → (contains (map (λ (g : Helper). g.name) gs) name ≡ true) ⊎ (contains (defined_in items) name ≡ true)
defined_front [] items name e = inr e
defined_front (g ∷ gs) items name e = go (bytes_eq name g.name) e (λ k. defined_front gs items name k)
  where
    go : (b : Bool) → (b || contains (defined_in (map function_of gs ++ items)) name) ≡ true
        → (contains (defined_in (map function_of gs ++ items)) name ≡ true → (contains (map (λ (g : Helper). g.name) gs) name ≡ true) ⊎ (contains (defined_in items) name ≡ true))
        → ((b || contains (map (λ (g : Helper). g.name) gs) name) ≡ true) ⊎ (contains (defined_in items) name ≡ true)
    go true e more = inl refl
    go false e more = more e

-- a program defines names of a text
pub defined_of_text : (items : List CItem) (s : Scope) (name : List ℕ) → ItemsHaveNames items → contains (defined_in (fewer_in_items s items)) name ≡ true → IsTextName name
defined_of_text [] s name h e = absurd (cc e)
defined_of_text (plain.StructItem tag ∷ items) s name h e = defined_of_text items (scope_or s (item_judged s (plain.StructItem tag))) name h e
defined_of_text (plain.Object d ∷ items) s name h e = defined_of_text items (scope_or s (item_judged s (plain.Object d))) name h.1 e
defined_of_text (plain.Function own at result params None ∷ items) s name h e = defined_of_text items (scope_or s (item_judged s (plain.Function own at result params None))) name h.2 e
defined_of_text (plain.Function own at result params (Some body) ∷ items) s name h e =
    let inner : Scope = scope_or s (item_judged s (plain.Function own at result params (Some body))) in
    go (contains (defined_in (fewer_in_items inner items)) name) (bytes_eq name own) refl e (λ k. defined_of_text items inner name h.2 k)
  where
    go : (c b : Bool) → bytes_eq name own ≡ b → (b || c) ≡ true → (c ≡ true → IsTextName name) → IsTextName name
    go c true k e more = ap (λ z. list_any is_strange z) ((bytes_eq-Decides name own).0 k) ∙ h.0
    go c false k e more = more e

format_among : (formats : List (List ℕ)) (format : List ℕ) → contains (map (λ (g : Helper). g.name) (map print_format formats)) (format_name format) ≡ true → contains formats format ≡ true
format_among [] format e = absurd (cc e)
format_among (f ∷ fs) format e = go (bytes_eq (format_name format) (format_name f)) refl e (λ k. format_among fs format k)
  where
    go : (b : Bool) → bytes_eq (format_name format) (format_name f) ≡ b → (b || contains (map (λ (g : Helper). g.name) (map print_format fs)) (format_name format)) ≡ true
        → (contains (map (λ (g : Helper). g.name) (map print_format fs)) (format_name format) ≡ true → contains fs format ≡ true) → (bytes_eq format f || contains fs format) ≡ true
    go true k e more = or_left (bytes_eq format f) (contains fs format) ((bytes_eq-Decides format f).1 (sym ((bytes_eq-Decides f format).0 (same_format f format k))))
    go false k e more = or_right (bytes_eq format f) (contains fs format) (more e)

-- a format's function that is defined is that of a format of the text
pub format_is_own : (formats : List (List ℕ)) (items : List CItem) (s : Scope) (format : List ℕ) → ItemsHaveNames items
    → contains (defined_in (map function_of (firsts ++ map print_format formats) ++ fewer_in_items s items)) (format_name format) ≡ true → contains formats format ≡ true
format_is_own formats items s format h e = go (defined_front (firsts ++ map print_format formats) (fewer_in_items s items) (format_name format) e)
  where
    go : (contains (map (λ (g : Helper). g.name) (firsts ++ map print_format formats)) (format_name format) ≡ true) ⊎ (contains (defined_in (fewer_in_items s items)) (format_name format) ≡ true) → contains formats format ≡ true
    go (inl k) = format_among formats format k
    go (inr k) = let strange : list_any is_strange (format_name format) ≡ true = refl in absurd (cc (sym strange ∙ defined_of_text items s (format_name format) h k))

-- ---- what a format's function calls

abbrev called : List CStmt → List (List ℕ)
called ts = stmts_names (stmts ts)

called_behind : (t : CStmt) (ts : List CStmt) (name : List ℕ) → contains (called ts) name ≡ true → contains (called (t ∷ ts)) name ≡ true
called_behind t ts name e = contains_right (stmt_names t) (called ts) name e

abbrev conversion_name : ℕ → List ℕ
conversion_name letter = codes "%" ++ letter ∷ []

-- behind a conversion
conversion_behind : (c i : ℕ) (ts : List CStmt) (name : List ℕ) → contains (called ts) name ≡ true → contains (called (conversion c i ++ ts)) name ≡ true
conversion_behind c i ts name e = go (c == 99)
  where
    go : (b : Bool) → contains (called ((if b then put_piece (variable (argument_name i)) ∷ [] else refill ∷ call_of (conversion_name c) (variable (argument_name i) ∷ []) ∷ []) ++ ts)) name ≡ true
    go true = called_behind (put_piece (variable (argument_name i))) ts name e
    go false = called_behind refill (call_of (conversion_name c) (variable (argument_name i) ∷ []) ∷ ts) name (called_behind (call_of (conversion_name c) (variable (argument_name i) ∷ [])) ts name e)

-- a conversion that is no `%c` calls its function
conversion_called : (c i : ℕ) (ts : List CStmt) → (c == 99) ≡ false → contains (called (conversion c i ++ ts)) (conversion_name c) ≡ true
conversion_called c i ts e =
    subst (λ b. contains (called ((if b then put_piece (variable (argument_name i)) ∷ [] else refill ∷ call_of (conversion_name c) (variable (argument_name i) ∷ []) ∷ []) ++ ts)) (conversion_name c) ≡ true) (sym e)
    (called_behind refill (call_of (conversion_name c) (variable (argument_name i) ∷ []) ∷ ts) (conversion_name c)
    (or_left (bytes_eq (conversion_name c) (conversion_name c)) (contains (argument_name i ∷ called ts) (conversion_name c)) ((bytes_eq-Decides (conversion_name c) (conversion_name c)).1 refl)))

abbrev next_letters : ℕ → Option (List ℕ) → Option (List ℕ)
next_letters c o = option_map (λ ls. c ∷ ls) o

-- so each letter of the format but `c` calls its function
pub letter_called : (percent : Bool) (format : List ℕ) (i : ℕ) (letters : List ℕ) (l : ℕ) → (l == 99) ≡ false → conversions_behind percent format ≡ Some letters → has_letter letters l ≡ true
    → contains (called (pieces percent format i)) (conversion_name l) ≡ true
letter_called false [] i letters l n e h = let none : [] ≡ letters = cc e in let is : has_letter [] l ≡ true = subst (λ z. has_letter z l ≡ true) (sym none) h in absurd (cc is)
letter_called true [] i letters l n e h = absurd (cc e)
letter_called false (c ∷ format) i letters l n e h = go (c == 37) e (λ k. letter_called true format i letters l n k h) (λ k. letter_called false format i letters l n k h)
  where
    go : (b : Bool) → conversions_behind b format ≡ Some letters → (conversions_behind true format ≡ Some letters → contains (called (pieces true format i)) (conversion_name l) ≡ true)
        → (conversions_behind false format ≡ Some letters → contains (called (pieces false format i)) (conversion_name l) ≡ true)
        → contains (called (if b then pieces true format i else put_piece (number c) ∷ pieces false format i)) (conversion_name l) ≡ true
    go true e percent plain = percent e
    go false e percent plain = called_behind (put_piece (number c)) (pieces false format i) (conversion_name l) (plain e)
letter_called true (c ∷ format) i letters l n e h =
    go (c == 37) (list_any (λ k. c == k) (codes "duxcs")) e (λ k. letter_called false format i letters l n k h) (λ ms k m. letter_called false format (suc i) ms l n k m)
  where
    with_letters : (o : Option (List ℕ)) → next_letters c o ≡ Some letters → ((ms : List ℕ) → o ≡ Some ms → has_letter ms l ≡ true → contains (called (pieces false format (suc i))) (conversion_name l) ≡ true)
        → contains (called (conversion c i ++ pieces false format (suc i))) (conversion_name l) ≡ true
    with_letters None e more = absurd (cc e)
    with_letters (Some ms) e more =
        let is : c ∷ ms ≡ letters = cc e in
        by_letter (c == l) refl (subst (λ z. has_letter z l ≡ true) (sym is) h)
      where
        by_letter : (b : Bool) → (c == l) ≡ b → (b || has_letter ms l) ≡ true → contains (called (conversion c i ++ pieces false format (suc i))) (conversion_name l) ≡ true
        by_letter true k m =
            let same : c ≡ l = eqb-true c l k in
            subst (λ z. contains (called (conversion c i ++ pieces false format (suc i))) (conversion_name z) ≡ true) same (conversion_called c i (pieces false format (suc i)) (ap (λ z. z == 99) same ∙ n))
        by_letter false k m = conversion_behind c i (pieces false format (suc i)) (conversion_name l) (more ms refl m)

    go : (b d : Bool) → (if b then conversions_behind false format else if d then next_letters c (conversions_behind false format) else None) ≡ Some letters
        → (conversions_behind false format ≡ Some letters → contains (called (pieces false format i)) (conversion_name l) ≡ true)
        → ((ms : List ℕ) → conversions_behind false format ≡ Some ms → has_letter ms l ≡ true → contains (called (pieces false format (suc i))) (conversion_name l) ≡ true)
        → contains (called (if b then put_piece (number c) ∷ pieces false format i else conversion c i ++ pieces false format (suc i))) (conversion_name l) ≡ true
    go true d e plain more = called_behind (put_piece (number c)) (pieces false format i) (conversion_name l) (plain e)
    go false true e plain more = with_letters (conversions_behind false format) e more
    go false false e plain more = absurd (cc e)
