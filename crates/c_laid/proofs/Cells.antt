-- First values have cells, and the types of objects have words.
use Rattle.std.proofs.Common.{◌≡◌, ℕ, zero, suc, ◌+◌, ◌≤◌, Bool, true, false, List, [], ◌∷◌, length, map, Option, Some, None, refl, sym, ap, ◌∙◌, subst, arith, replicate, length-append, inl}
use Rattle.std.specs.Prelude.{◌-◌, ◌*◌, nat_lt, Ok, if◌then◌else◌}
use Rattle.std.proofs.lemmas.List.{length-map, length-replicate}
use Rattle.std.proofs.lemmas.Bool.{and_parts, ltb-true}
use Rattle.c_syntax.specs.Plain as plain
use Rattle.c_syntax.specs.Plain.{CExpr, CValue, CValues}
use Rattle.c_syntax.specs.Words.{meaning}
use Rattle.c_types.specs.declared.fault.TypeFault.TheVariants as fault
use Rattle.c_types.specs.Types as type
use Rattle.c_types.specs.Types.{CType, Layout, Unfinished, Members, Tags, layout_words, is_finished, words_of, is_object_type}
use Rattle.c_types.specs.Refusals.{keeping}
use Rattle.c_types.specs.Scope.{Scope}
use Rattle.c_types.specs.Declarations.{Site, Slots, Elements, Fields, Nothing, first_slot, next_slots, slots_of_struct, slots_of, takes_string, braces_rules, fitting, all_fitting, types_of_members, words_of_members}
use Rattle.c_eval.specs.State.{Word, Holds}
use Rattle.c_eval.specs.Memory.{Kind, zero_of}
use Rattle.c_eval.specs.Operators.{converted}
use Rattle.c_eval.specs.Environment.{Environment, slot_kinds, type_or_nothing, past_value}
use Rattle.c_eval.specs.Eval.{array_text}
use Rattle.c_eval.specs.Text.{static_value, static_cells, all_static_cells}
use Rattle.c_eval.proofs.Cells.{LaidOut, FitsIn, fits_in}
use Rattle.c_limited.proofs.Objects.{words_in_all, slot_words, SlotsAreObjects, slots_fit, slots_length}
use Rattle.c_fewer_types.proofs.Judged.{keeping_is, first_kept}
use Rattle.c_fewer_types.proofs.FewerTypedRules.{after_is, both_is}

-- ---- words of types

-- a struct that is closed has a word
abbrev pub StructsHaveWords : Tags → Type 0
StructsHaveWords tags = (tag : List ℕ) → is_finished (meaning tags tag) ≡ true → 1 ≤ layout_words (meaning tags tag)

product_some : (n m : ℕ) → 1 ≤ n → 1 ≤ m → 1 ≤ n * m
product_some zero m a b = absurd (omega (arith, a))
product_some (suc n) m a b = omega (arith, b)

pub words_some : (tags : Tags) → StructsHaveWords tags → (t : CType) → is_object_type tags t ≡ true → 1 ≤ words_of tags t
words_some tags h type.Void o = absurd (cc o)
words_some tags h type.Null o = absurd (cc o)
words_some tags h (type.Function t ts) o = absurd (cc o)
words_some tags h (type.Struct tag) o = h tag o
words_some tags h (type.Array t n) o =
    let p = and_parts (is_object_type tags t) (nat_lt 0 n) o in
    let some : 1 ≤ n = let lt = ltb-true 0 n p.1 in omega (arith, lt) in
    product_some n (words_of tags t) some (words_some tags h t p.0)
words_some tags h type.Int o = omega arith
words_some tags h type.Unsigned o = omega arith
words_some tags h type.Char o = omega arith
words_some tags h type.UChar o = omega arith
words_some tags h (type.Pointer t) o = omega arith

members_words : (tags : Tags) (ms : List (List ℕ × CType)) → words_in_all tags (types_of_members ms) ≡ words_of_members tags ms
members_words tags [] = refl
members_words tags (m ∷ ms) = ap (λ n. words_of tags m.1 + n) (members_words tags ms)

-- ---- slots

abbrev NotNothing : Slots → Type 0
NotNothing Nothing = ⊥
NotNothing slots = Unit {0}

-- an object, or nothing
abbrev IsObject : Tags → Option CType → Type 0
IsObject tags None = Unit {0}
IsObject tags (Some t) = is_object_type tags t ≡ true

first_object : (tags : Tags) (slots : Slots) → SlotsAreObjects tags slots → IsObject tags (first_slot slots)
first_object tags (Elements t zero) o = tt
first_object tags (Elements t (suc n)) o = o
first_object tags (Fields []) o = tt
first_object tags (Fields (t ∷ ts)) o = o.0
first_object tags Nothing o = tt

-- slots of an object that has some have words
struct_some : (tags : Tags) (o : Option Layout) → FitsIn tags o → 1 ≤ layout_words o → NotNothing (slots_of_struct o) → 1 ≤ slot_words tags (slots_of_struct o)
struct_some tags None f h n = absurd n
struct_some tags (Some Unfinished) f h n = absurd n
struct_some tags (Some (Members ms words)) f h n = let e : words ≡ words_of_members tags ms = f.words ms words refl in let k = members_words tags ms in omega (arith, e, h, k)

slots_some : (tags : Tags) → LaidOut tags → StructsHaveWords tags → (t : CType) → is_object_type tags t ≡ true → NotNothing (slots_of tags (Some t)) → 1 ≤ slot_words tags (slots_of tags (Some t))
slots_some tags laid h (type.Array t n) o s = words_some tags h (type.Array t n) o
slots_some tags laid h (type.Struct tag) o s = struct_some tags (meaning tags tag) (fits_in tags laid tag) (h tag o) s
slots_some tags laid h type.Void o s = absurd s
slots_some tags laid h type.Null o s = absurd s
slots_some tags laid h type.Int o s = absurd s
slots_some tags laid h type.Unsigned o s = absurd s
slots_some tags laid h type.Char o s = absurd s
slots_some tags laid h type.UChar o s = absurd s
slots_some tags laid h (type.Pointer t) o s = absurd s
slots_some tags laid h (type.Function t ts) o s = absurd s

braced : (at : ℕ) (slots : Slots) (vs : CValues) (u : Unit {0}) → keeping (braces_rules at slots vs) tt ≡ Ok u → NotNothing slots
braced at Nothing vs u e = let k = keeping_is {A = Unit {0}} (braces_rules at Nothing vs) tt u e in absurd (let f = (first_kept false (fault.Mismatch at) [] k.0).0 in cc f)
braced at (Elements t n) vs u e = tt
braced at (Fields ts) vs u e = tt

-- ---- cells of first values that fit

string_some : (tags : Tags) (t : CType) (e : CExpr) → takes_string t e ≡ true → is_object_type tags t ≡ true → 1 ≤ length (array_text t e)
string_some tags (type.Array t n) (plain.Str at text) h o =
    let p = and_parts (is_object_type tags t) (nat_lt 0 n) o in
    let lt = ltb-true 0 n p.1 in
    let a = length-append text (replicate (n - length text) 0) in
    let b = length-replicate {A = ℕ} (n - length text) 0 in
    omega (arith, lt, a, b)
string_some tags (type.Array t n) e h o = absurd (cc h)
string_some tags t e h o = absurd (cc h)

module _ (s : Scope) (site : Site) (laid : LaidOut s.tags) (structs : StructsHaveWords s.tags) (here : Environment) (same : here.scope.tags ≡ s.tags) where
  abbrev Long : CValue → Option CType → Environment → Type 0
  Long v o place = 1 ≤ length (static_cells v (type_or_nothing o) place)

  one_some : (o : Option CType) (e : CExpr) → IsObject s.tags o → Long (plain.One e) o here
  one_some None e object = omega arith
  one_some (Some t) e object = go (takes_string t e) refl
    where
      go : (b : Bool) → takes_string t e ≡ b → 1 ≤ length (if b then map (λ c. Holds (Word c)) (array_text t e) else Holds (converted t (static_value here e)) ∷ [])
      go true h = let k = string_some s.tags t e h object in let l = length-map (array_text t e) (λ c. Holds (Word c)) in omega (arith, k, l)
      go false h = omega arith

  zeros_some : (slots : Slots) → SlotsAreObjects s.tags slots → 1 ≤ slot_words s.tags slots → 1 ≤ length (all_static_cells plain.NoValue slots here)
  zeros_some slots objects some =
      let kinds : List Kind = slot_kinds here.scope.tags slots in
      let a = length-map kinds (λ kind. Holds (zero_of kind)) in
      let b : length kinds ≡ slot_words s.tags slots = ap (λ z. length (slot_kinds z slots)) same ∙ slots_length s.tags laid slots objects in
      omega (arith, a, b, some)

  mutual
    pub cells_some : (v : CValue) (o : Option CType) (u : Unit {0}) → fitting s site o v ≡ Ok u → IsObject s.tags o → Long v o here
    cells_some (plain.One e) o u k object = one_some o e object
    cells_some (plain.Many vs) None u k object = let l = after_is (all_fitting s site (slots_of s.tags None) vs) (λ _. keeping (braces_rules site.pos (slots_of s.tags None) vs) tt) u k in absurd (braced site.pos Nothing vs u l.2)
    cells_some (plain.Many vs) (Some t) u k object =
        let slots : Slots = slots_of s.tags (Some t) in
        let l = after_is (all_fitting s site slots vs) (λ _. keeping (braces_rules site.pos slots vs) tt) u k in
        let some : 1 ≤ slot_words s.tags slots = slots_some s.tags laid structs t object (braced site.pos slots vs u l.2) in
        subst (λ z. 1 ≤ length (all_static_cells vs (slots_of z (Some t)) here)) (sym same) (all_some vs slots l.0 l.1 (slots_fit s.tags laid t (inl object)).0 some)

    all_some : (vs : CValues) (slots : Slots) (u : Unit {0}) → all_fitting s site slots vs ≡ Ok u → SlotsAreObjects s.tags slots → 1 ≤ slot_words s.tags slots → 1 ≤ length (all_static_cells vs slots here)
    all_some plain.NoValue slots u k objects some = zeros_some slots objects some
    all_some (plain.MoreValue v vs) slots u k objects some =
        let l = both_is (fitting s site (first_slot slots) v) (all_fitting s site (next_slots slots) vs) (λ _ _. Ok tt) u k in
        let first : Long v (first_slot slots) here = cells_some v (first_slot slots) l.0 l.1.1 (first_object s.tags slots objects) in
        let a = length-append (static_cells v (type_or_nothing (first_slot slots)) here) (all_static_cells vs (next_slots slots) (past_value v here)) in
        omega (arith, first, a)
