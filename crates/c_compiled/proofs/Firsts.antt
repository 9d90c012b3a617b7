-- A first value that fits an object has no more cells than the object has words.
use Rattle.std.proofs.Common.{◌≡◌, ℕ, zero, suc, ◌+◌, ◌≤◌, inl, Bool, true, false, List, [], ◌∷◌, ◌++◌, length, map, Some, refl, sym, ap, ◌∙◌, subst, arith, length-append, nat_le}
use Rattle.std.specs.Prelude.{◌&&◌, ◌||◌, Ok, if◌then◌else◌}
use Rattle.std.proofs.lemmas.List.{length-map}
use Rattle.std.proofs.lemmas.Bool.{leb-true}
use Rattle.c_syntax.specs.Plain as plain
use Rattle.c_syntax.specs.Plain.{CExpr, CValue, CValues}
use Rattle.c_types.specs.declared.fault.TypeFault.TheVariants as fault
use Rattle.c_types.specs.Types as type
use Rattle.c_types.specs.Types.{CType, Tags, is_arithmetic, is_void_pointer, is_object_pointer, words_of, is_object_type}
use Rattle.c_types.specs.Refusals.{keeping}
use Rattle.c_types.specs.Scope.{Scope}
use Rattle.c_types.specs.Operands.{Operand, value_type, is_null_constant, converts}
use Rattle.c_types.specs.Expressions.{judged}
use Rattle.c_types.specs.Declarations.{Site, Slots, Elements, Fields, Nothing, capacity, first_slot, next_slots, slots_of, takes_string, object_rules, site_rules, count_values, braces_rules, fitting, all_fitting}
use Rattle.c_eval.specs.State.{Word, Holds}
use Rattle.c_eval.specs.Memory.{Kind, zero_of}
use Rattle.c_eval.specs.Operators.{converted}
use Rattle.c_eval.specs.Environment.{Environment, slot_kinds, type_or_nothing, past_value}
use Rattle.c_eval.specs.Eval.{array_text}
use Rattle.c_eval.specs.Text.{static_value, static_cells, all_static_cells}
use Rattle.c_eval.proofs.Cells.{LaidOut}
use Rattle.c_limited.proofs.Objects.{slot_words, SlotsAreObjects, next_are_objects, slots_split, slots_fit, slots_length, string_length}
use Rattle.c_fewer_types.proofs.Judged.{keeping_is, first_kept}
use Rattle.c_fewer_types.proofs.FewerTypedRules.{after_is, both_is}

-- ---- one value

none : (p q r t : Bool) → ((((p && false) || false) || (q && false)) || (r && false)) || (t && false) ≡ true → ⊥
none true true true true e = absurd (cc e)
none true true true false e = absurd (cc e)
none true true false true e = absurd (cc e)
none true true false false e = absurd (cc e)
none true false true true e = absurd (cc e)
none true false true false e = absurd (cc e)
none true false false true e = absurd (cc e)
none true false false false e = absurd (cc e)
none false true true true e = absurd (cc e)
none false true true false e = absurd (cc e)
none false true false true e = absurd (cc e)
none false true false false e = absurd (cc e)
none false false true true e = absurd (cc e)
none false false true false e = absurd (cc e)
none false false false true e = absurd (cc e)
none false false false false e = absurd (cc e)

-- a value converts to types of one word alone
converts_to_words : (tags : Tags) (a : Operand) (t : CType) → converts a t ≡ true → words_of tags t ≡ 1
converts_to_words tags a type.Void e = absurd (none (is_arithmetic (value_type a)) (is_void_pointer (value_type a)) (is_object_pointer (value_type a)) (is_null_constant a) e)
converts_to_words tags a (type.Function t ts) e = absurd (none (is_arithmetic (value_type a)) (is_void_pointer (value_type a)) (is_object_pointer (value_type a)) (is_null_constant a) e)
converts_to_words tags a (type.Struct tag) e = absurd (none (is_arithmetic (value_type a)) (is_void_pointer (value_type a)) (is_object_pointer (value_type a)) (is_null_constant a) e)
converts_to_words tags a (type.Array t n) e = absurd (none (is_arithmetic (value_type a)) (is_void_pointer (value_type a)) (is_object_pointer (value_type a)) (is_null_constant a) e)
converts_to_words tags a type.Null e = refl
converts_to_words tags a type.Int e = refl
converts_to_words tags a type.Unsigned e = refl
converts_to_words tags a type.Char e = refl
converts_to_words tags a type.UChar e = refl
converts_to_words tags a (type.Pointer t) e = refl

one_fits : (tags : Tags) (t : CType) (e : CExpr) (a : Operand) (here : Environment) → (takes_string t e || converts a t) ≡ true → length (static_cells (plain.One e) t here) ≤ words_of tags t
one_fits tags t e a here k = go (takes_string t e) refl k
  where
    go : (b : Bool) → takes_string t e ≡ b → (b || converts a t) ≡ true → length (if b then map (λ c. Holds (Word c)) (array_text t e) else Holds (converted t (static_value here e)) ∷ []) ≤ words_of tags t
    go true h k = omega (arith, length-map (array_text t e) (λ c. Holds (Word c)), string_length tags t e h)
    go false h k = let one = converts_to_words tags a t k in omega (arith, one)

-- ---- a braced list

-- the first object of those that it stands for, if there is one
first_of : (tags : Tags) (slots : Slots) → SlotsAreObjects tags slots → 1 ≤ capacity slots → (t : CType) × (first_slot slots ≡ Some t) × (is_object_type tags t ≡ true)
first_of tags (Elements t zero) o h = absurd (omega (arith, h))
first_of tags (Elements t (suc n)) o h = (t, refl, o)
first_of tags (Fields []) o h = absurd (omega (arith, h))
first_of tags (Fields (t ∷ ts)) o h = (t, refl, o.0)
first_of tags Nothing o h = absurd (omega (arith, h))

next_few : (slots : Slots) (n : ℕ) → 1 + n ≤ capacity slots → n ≤ capacity (next_slots slots)
next_few (Elements t zero) n h = absurd (omega (arith, h))
next_few (Elements t (suc m)) n h = omega (arith, h)
next_few (Fields []) n h = absurd (omega (arith, h))
next_few (Fields (t ∷ ts)) n h = omega (arith, h)
next_few Nothing n h = absurd (omega (arith, h))

-- it has no more values than there are objects for
braced : (at : ℕ) (slots : Slots) (vs : CValues) (u : Unit {0}) → keeping (braces_rules at slots vs) tt ≡ Ok u → count_values vs ≤ capacity slots
braced at Nothing vs u e = let k = keeping_is {A = Unit {0}} (braces_rules at Nothing vs) tt u e in absurd (let f = (first_kept false (fault.Mismatch at) [] k.0).0 in cc f)
braced at (Elements t n) vs u e =
    let k = keeping_is {A = Unit {0}} (braces_rules at (Elements t n) vs) tt u e in
    leb-true (count_values vs) n (first_kept (nat_le (count_values vs) n) (fault.Mismatch at) [] k.0).0
braced at (Fields ts) vs u e =
    let k = keeping_is {A = Unit {0}} (braces_rules at (Fields ts) vs) tt u e in
    leb-true (count_values vs) (length ts) (first_kept (nat_le (count_values vs) (length ts)) (fault.Mismatch at) [] k.0).0

module _ (s : Scope) (site : Site) (laid : LaidOut s.tags) where
  mutual
    pub cells_fit : (v : CValue) (t : CType) (here : Environment) (u : Unit {0}) → here.scope.tags ≡ s.tags → fitting s site (Some t) v ≡ Ok u → is_object_type s.tags t ≡ true → length (static_cells v t here) ≤ words_of s.tags t
    cells_fit (plain.One e) t here u same k object =
        let l = after_is (judged s e) (λ a. keeping (object_rules (Some t) e a ++ site_rules site.file e a) tt) u k in
        let m = keeping_is {A = Unit {0}} (object_rules (Some t) e l.0 ++ site_rules site.file e l.0) tt u l.2 in
        let f = first_kept (takes_string t e || converts l.0 t) (fault.Mismatch l.0.pos) (site_rules site.file e l.0) m.0 in
        one_fits s.tags t e l.0 here f.0
    cells_fit (plain.Many vs) t here u same k object =
        let slots : Slots = slots_of s.tags (Some t) in
        let l = after_is (all_fitting s site slots vs) (λ _. keeping (braces_rules site.pos slots vs) tt) u k in
        let f = slots_fit s.tags laid t (inl object) in
        let le : length (all_static_cells vs (slots_of here.scope.tags (Some t)) here) ≤ slot_words s.tags slots =
        subst (λ z. length (all_static_cells vs (slots_of z (Some t)) here) ≤ slot_words s.tags slots) (sym same) (all_fit vs slots here l.0 same l.1 f.0 (braced site.pos slots vs u l.2)) in
        let fits = f.1 in
        omega (arith, le, fits)

    all_fit : (vs : CValues) (slots : Slots) (here : Environment) (u : Unit {0}) → here.scope.tags ≡ s.tags → all_fitting s site slots vs ≡ Ok u → SlotsAreObjects s.tags slots → count_values vs ≤ capacity slots → length (all_static_cells vs slots here) ≤ slot_words s.tags slots
    all_fit plain.NoValue slots here u same k objects few =
        let kinds : List Kind = slot_kinds here.scope.tags slots in
        let a = length-map kinds (λ kind. Holds (zero_of kind)) in
        let b : length kinds ≡ slot_words s.tags slots = ap (λ z. length (slot_kinds z slots)) same ∙ slots_length s.tags laid slots objects in
        omega (arith, a, b)
    all_fit (plain.MoreValue v vs) slots here u same k objects few =
        let l = both_is (fitting s site (first_slot slots) v) (all_fitting s site (next_slots slots) vs) (λ _ _. Ok tt) u k in
        let x = first_of s.tags slots objects (omega (arith, few)) in
        let fits : fitting s site (Some x.0) v ≡ Ok l.0 = subst (λ o. fitting s site o v ≡ Ok l.0) x.1 l.1.1 in
        let own : length (static_cells v (type_or_nothing (first_slot slots)) here) ≤ words_of s.tags (type_or_nothing (first_slot slots)) =
        subst (λ o. length (static_cells v (type_or_nothing o) here) ≤ words_of s.tags (type_or_nothing o)) (sym x.1) (cells_fit v x.0 here l.0 same fits x.2) in
        let rest = all_fit vs (next_slots slots) (past_value v here) l.1.0 same l.1.2 (next_are_objects s.tags slots objects) (next_few slots (count_values vs) few) in
        let split = slots_split s.tags slots in
        let whole = length-append (static_cells v (type_or_nothing (first_slot slots)) here) (all_static_cells vs (next_slots slots) (past_value v here)) in
        omega (arith, own, rest, split, whole)
