-- What is known of a text's file scope.
use Rattle.std.proofs.Common.{◌≡◌, ℕ, zero, suc, ◌+◌, ◌≤◌, Bool, List, [], ◌∷◌, ◌++◌, length, length-append, drop, map, refl, ap, subst, ◌∙◌, arith}
use Rattle.std.proofs.lemmas.List.{drop_all, length-map}
use Rattle.std.proofs.lemmas.List.Concat.{flat_map-append}
use Rattle.std.specs.Prelude.{Option, Some}
use Rattle.std.specs.List.{flat_map}
use Rattle.c_syntax.specs.Plain.{CUnit}
use Rattle.c_syntax.specs.Words.{meaning}
use Rattle.c_types.specs.Units.{start_scope}
use Rattle.c_eval.specs.State.{Object}
use Rattle.c_eval.specs.LiteralsIn.{stmt_literals}
use Rattle.c_eval.specs.Text.{Definition, file_start}
use Rattle.c_scopes.specs.declared.entity.Entity.{Entity}
use Rattle.c_emission.specs.declared.location.Location as rust
use Rattle.c_declared.specs.Held.{Holds}
use Rattle.c_cells.specs.declared.structs.StructKinds.{StructKinds}
use Rattle.c_cells.specs.Structs.{AreStructKinds}
use Rattle.c_resolved.specs.Same.{lengths_of}
use Rattle.c_lowered.specs.Locations.{Location}
use Rattle.c_lowered.specs.Operations.{wrapped}
use Rattle.c_lowered.specs.Whole.{file_bases, words_given, file_literals, letter_words, letters_before, all_letters, Literals, linking_of, words_from}
use Rattle.c_counted.specs.Numbers.{IsNumber}
use Rattle.c_addressing.specs.declared.here.Here.{Here}
use Rattle.c_addressing.specs.declared.here.Output.{Output}
use Rattle.c_addressing.specs.Here.{first_or}
use Rattle.c_addressing.specs.Names.{slot_of, entry_in}
use Rattle.c_addressing.specs.Places.{AreLocations}
use Rattle.c_lower_data.specs.Letters.{AreAddresses}
use Rattle.c_lower_bases.specs.Bases.{words_over, bases_over}
use Rattle.c_lower.specs.Scopes.{functions_literals, literal_start}
use Rattle.c_lower.specs.Words.{IsBefore}
use Rattle.c_lower_bases.proofs.BaseLemmas.{words_are, bases_are}

-- ---- literals

letters_all : (n : ℕ) (ls : List (List ℕ)) → length ls ≤ n → letters_before n ls ≡ length (flat_map letter_words ls)
letters_all zero [] h = refl
letters_all zero (l ∷ ls) h = absurd (omega (arith, h))
letters_all (suc n) [] h = refl
letters_all (suc n) (l ∷ ls) h =
    let inner : length ls ≤ n = omega (arith, h) in
    let rest = letters_all n ls inner in
    let own = length-append l (0 ∷ []) in
    let all = length-append (letter_words l) (flat_map letter_words ls) in
    omega (arith, rest, own, all)

-- the address behind literals
pub end_told : (next : List ℕ) (end a : ℕ) (ls : List (List ℕ)) → AreAddresses next end a ls → IsNumber end (a + length (flat_map letter_words ls))
end_told next end a ls are =
    let n = length next + length ls in
    let past : length next ≤ n = omega arith in
    let many : length ls ≤ n = omega arith in
    subst (λ (k : ℕ). IsNumber end (a + k)) (letters_all n ls many) (subst (λ (l : List ℕ). IsNumber (first_or end l) (a + letters_before n ls)) (drop_all n next past) (are.told n))

abbrev owned : List Definition → Literals
owned fs = map (λ f. (Some f.name, stmt_literals f.scope f.body)) fs

functions_letters : (fs : List Definition) → flat_map letter_words (functions_literals fs) ≡ all_letters (owned fs)
functions_letters [] = refl
functions_letters (f ∷ fs) =
    flat_map-append letter_words (stmt_literals f.scope f.body) (functions_literals fs)
    ∙ ap (λ (l : List ℕ). flat_map letter_words (stmt_literals f.scope f.body) ++ l) (functions_letters fs)

-- those of file scope, and those of functions behind them
pub letters_are : (file bodies own : List (List ℕ)) (fs : List Definition) → file ≡ own → bodies ≡ functions_literals fs → flat_map letter_words file ++ flat_map letter_words bodies ≡ flat_map letter_words own ++ all_letters (owned fs)
letters_are file bodies own fs e f =
    ap (λ (l : List (List ℕ)). flat_map letter_words l ++ flat_map letter_words bodies) e
    ∙ ap (λ (l : List ℕ). flat_map letter_words own ++ l) (ap (λ (l : List (List ℕ)). flat_map letter_words l) f ∙ functions_letters fs)

pub many_words : (ns : List ℕ) → length (words_from ns) ≡ length ns
many_words ns = length-map ns wrapped

-- ---- addresses

pub told_words : (told : ℕ) (wanted : Bool) (gs hs : List Bool) (ns : List ℕ) (os : List Object) → gs ≡ hs → ns ≡ lengths_of os → IsNumber told (words_over wanted gs ns) → IsNumber told (words_given wanted hs os)
told_words told wanted gs hs ns os e f h =
    subst (λ (n : ℕ). IsNumber told n) (words_are wanted hs os)
    (subst (λ (l : List ℕ). IsNumber told (words_over wanted hs l)) f (subst (λ (l : List Bool). IsNumber told (words_over wanted l ns)) e h))

pub told_bases : (bases : List rust.Location) (gs hs : List Bool) (ns : List ℕ) (os : List Object) (a b : ℕ) → gs ≡ hs → ns ≡ lengths_of os → AreLocations bases (bases_over gs ns a b) → AreLocations bases (file_bases hs os a b)
told_bases bases gs hs ns os a b e f h =
    subst (λ (l : List Location). AreLocations bases l) (bases_are hs os a b)
    (subst (λ (l : List ℕ). AreLocations bases (bases_over hs l a b)) f (subst (λ (l : List Bool). AreLocations bases (bases_over l ns a b)) e h))

pub one_before : (told n : ℕ) → IsNumber told (n + 1) → IsNumber told (1 + n)
one_before told n h = let e : n + 1 ≡ 1 + n = omega arith in subst (λ (k : ℕ). IsNumber told k) e h

-- ---- before the first external

abbrev no_numbers : List (List ℕ × Option ℕ)
no_numbers = []

no_name : (block outer : List (List ℕ × Entity)) (name : List ℕ) → block ≡ [] → outer ≡ [] → slot_of (meaning (block ++ outer) name) ≡ meaning no_numbers name
no_name block outer name e f = ap (λ (l : List (List ℕ × Entity)). slot_of (meaning (l ++ outer) name)) e ∙ ap (λ (l : List (List ℕ × Entity)). slot_of (meaning l name)) f

zero_plus : (n : ℕ) → n ≡ 0 + n
zero_plus n = omega arith

pub scope_starts : (h : Here) (a : Output) (kinds : StructKinds) (u : CUnit) → Holds a.types h.declared (start_scope u) → h.slots.block ≡ [] → h.slots.outer ≡ [] → AreLocations h.bases.items (linking_of u).bases
    → ((name : List ℕ) → IsNumber (entry_in h.entries.entries name) ((linking_of u).entry name)) → AreAddresses a.literals.next.now a.literals.end (literal_start u) (file_literals u.items (file_start u)) → AreStructKinds a.types kinds [] → IsBefore h kinds a 0 (linking_of u) (file_start u)
scope_starts h a kinds u holds block outer bases entries are structs = record {
  at = record {
    here = record {
      holds = holds;
      slots = λ name. no_name h.slots.block h.slots.outer name block outer;
      bases = bases;
      entries = entries;
      literals = record { address = λ n. subst (λ (k : ℕ). IsNumber (first_or a.literals.end (drop n a.literals.next.now)) (literal_start u + letters_before k (file_literals u.items (file_start u)))) (zero_plus n) (are.told n) };
    };
    owner = refl;
  };
  structs = structs;
  next = refl;
}
