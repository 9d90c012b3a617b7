-- Parameters, one behind the other.
use Rattle.std.proofs.Common.{◌≡◌, ℕ, zero, suc, ◌+◌, ◌-◌, ◌<◌, ◌≤◌, Bool, true, false, List, [], ◌∷◌, ◌++◌, length, length-append, map, drop, get_or, Option, Some, refl, sym, ap, subst, ◌∙◌, append-nil, append_assoc, add-zero, add-one, cond, arith}
use Rattle.std.specs.Str.{bytes_eq}
use Rattle.c_syntax.specs.Words.{meaning}
use Rattle.c_syntax.specs.View.{decls_of}
use Rattle.c_syntax.specs.declared.tree.Decl.{Decl}
use Rattle.c_scopes.specs.declared.entity.Entity.{Entity}
use Rattle.c_scopes.specs.declared.entity.Entity.TheVariants.{Object}
use Rattle.c_scopes.specs.Blocks.{Blocks}
use Rattle.c_emission.specs.declared.location.Location.{Location}
use Rattle.c_emission.specs.declared.location.Location.TheVariants.{Framed}
use Rattle.c_lowered.specs.Locations as plain
use Rattle.c_lowered.specs.Whole.{parameter_names, parameter_bases}
use Rattle.c_counted.specs.Numbers.{IsNumber}
use Rattle.c_addressing.specs.declared.here.Here.{Here}
use Rattle.c_addressing.specs.Names.{slot_of}
use Rattle.c_addressing.specs.Places.{AreLocations}
use Rattle.c_lower.specs.Parameters.{numbered, words_at, PlacesWords, KnowsParameters}

-- ---- places

-- locations behind locations
pub locations_then : (xs ys : List Location) (ps qs : List plain.Location) → AreLocations xs ps → AreLocations ys qs → AreLocations (xs ++ ys) (ps ++ qs)
locations_then [] ys [] qs h k = k
locations_then [] ys (p ∷ ps) qs h k = absurd h
locations_then (x ∷ xs) ys [] qs h k = absurd h
locations_then (x ∷ xs) ys (p ∷ ps) qs h k = (h.0, locations_then xs ys ps qs h.1 k)

one_word_more : (n d : ℕ) → words_at (suc n) d ≡ words_at n d ++ plain.Framed (d + n) ∷ []
one_word_more zero d = ap (λ (k : ℕ). plain.Framed k ∷ []) (sym (add-zero d))
one_word_more (suc n) d =
    let next : suc d + n ≡ d + suc n = omega arith in
    ap (λ (l : List plain.Location). plain.Framed d ∷ l) (one_word_more n (suc d) ∙ ap (λ (k : ℕ). words_at n (suc d) ++ plain.Framed k ∷ []) next)

pub record Placing (old now : List Location) (index place : ℕ) : Type 0 where
  pub places : PlacesWords old now index
  pub told : IsNumber place (1 + index)

pub none_placed : (old : List Location) → Placing old old 0 1
none_placed old = record { places = record { more = []; behind = sym (append-nil old); many = refl; are = tt }; told = record { same = refl } }

pub one_placed : (old now new : List Location) (index place on : ℕ) → Placing old now index place → new ≡ now ++ Framed place ∷ [] → ((n : ℕ) → IsNumber place n → IsNumber on (n + 1)) → Placing old new (index + 1) on
one_placed old now new index place on g push step =
    let p = g.places in
    let more = p.more ++ Framed place ∷ [] in
    let next : 1 + index + 1 ≡ 1 + (index + 1) = omega arith in
    let many : length more ≡ index + 1 = length-append p.more (Framed place ∷ []) ∙ ap (λ (n : ℕ). n + 1) p.many in
    let all : AreLocations more (words_at index 1 ++ plain.Framed (1 + index) ∷ []) = locations_then p.more (Framed place ∷ []) (words_at index 1) (plain.Framed (1 + index) ∷ []) p.are (g.told, tt) in
    record {
      places = record {
        more = more;
        behind = push ∙ (ap (λ (l : List Location). l ++ Framed place ∷ []) p.behind ∙ append_assoc old p.more (Framed place ∷ []));
        many = many;
        are = subst (λ (n : ℕ). AreLocations more (words_at n 1)) (sym (add-one index)) (subst (λ (l : List plain.Location). AreLocations more l) (sym (one_word_more index 1)) all);
      };
      told = subst (λ (n : ℕ). IsNumber on n) next (step (1 + index) g.told);
    }

pub all_placed : (old now : List Location) (count index place : ℕ) → count ≡ index → Placing old now index place → PlacesWords old now count
all_placed old now count index place same g = subst (λ (n : ℕ). PlacesWords old now n) (sym same) g.places

words_are : (names : List (List ℕ)) (d : ℕ) → words_at (length names) d ≡ parameter_bases names d
words_are [] d = refl
words_are (name ∷ names) d = ap (λ (l : List plain.Location). plain.Framed d ∷ l) (words_are names (suc d))

-- ---- numbers

drop_whole : {A : Type 0} (xs : List A) → drop (length xs) xs ≡ []
drop_whole [] = refl
drop_whole (x ∷ xs) = drop_whole xs

at_place : {A : Type 0} (xs : List A) (k : ℕ) (x : A) → k < length xs → drop k xs ≡ get_or xs k x ∷ drop (suc k) xs
at_place [] k x lt = absurd (omega (arith, lt))
at_place (y ∷ xs) zero x lt = refl
at_place (y ∷ xs) (suc k) x lt = at_place xs k x (omega (arith, lt))

-- the last ones have their numbers
pub record Numbering (ds : List Decl) (end step : ℕ) (old now : Blocks) : Type 0 where
  pub block : now.block ≡ numbered (drop (length ds - step) ds) (end - step) ++ old.block
  pub outer : now.outer ≡ old.outer

pub none_numbered : (ds : List Decl) (end : ℕ) (old : Blocks) → Numbering ds end 0 old old
none_numbered ds end old =
    let all : length ds - 0 ≡ length ds = omega arith in
    record { block = sym (ap (λ (l : List Decl). numbered l (end - 0) ++ old.block) (ap (λ (n : ℕ). drop n ds) all ∙ drop_whole ds)); outer = refl }

pub one_numbered : (ds : List Decl) (end step index number : ℕ) (old now new : Blocks) (d : Decl) → length ds ≤ end → step < length ds → index ≡ length ds - 1 - step → number ≡ end - 1 - step → d ≡ get_or ds index d
    → Numbering ds end step old now → new.block ≡ (d.name, Object number) ∷ now.block → new.outer ≡ now.outer → Numbering ds end (step + 1) old new
one_numbered ds end step index number old now new d most lt is told item g block outer =
    let here : length ds - (step + 1) ≡ index = omega (arith, lt, is) in
    let there : length ds - step ≡ suc index = omega (arith, lt, is) in
    let last : end - step ≡ suc number = omega (arith, most, lt, told) in
    let first : end - (step + 1) ≡ number = omega (arith, most, lt, told) in
    let within : index < length ds = omega (arith, lt, is) in
    let rest : now.block ≡ numbered (drop (suc index) ds) (suc number) ++ old.block =
    g.block ∙ (ap (λ (n : ℕ). numbered (drop n ds) (end - step) ++ old.block) there ∙ ap (λ (n : ℕ). numbered (drop (suc index) ds) n ++ old.block) last) in
    let all : drop index ds ≡ d ∷ drop (suc index) ds = at_place ds index d within ∙ ap (λ (x : Decl). x ∷ drop (suc index) ds) (sym item) in
    record {
      block =
          block ∙ (ap (λ (l : List (List ℕ × Entity)). (d.name, Object number) ∷ l) rest ∙ (sym (ap (λ (l : List Decl). numbered l number ++ old.block) all)
          ∙ (sym (ap (λ (n : ℕ). numbered (drop n ds) number ++ old.block) here) ∙ sym (ap (λ (n : ℕ). numbered (drop (length ds - (step + 1)) ds) n ++ old.block) first))));
      outer = outer ∙ g.outer;
    }

pub all_numbered : (ds : List Decl) (end step : ℕ) (old now : Blocks) → length ds ≡ step → Numbering ds end step old now → now.block ≡ numbered ds (end - length ds) ++ old.block
all_numbered ds end step old now same g =
    let none : length ds - step ≡ 0 = omega (arith, same) in
    g.block ∙ (ap (λ (n : ℕ). numbered (drop n ds) (end - step) ++ old.block) none ∙ ap (λ (n : ℕ). numbered ds (end - n) ++ old.block) (sym same))

-- ---- what is known

by_name : (b : Bool) (n : ℕ) (o : Option Entity) (p : Option (Option ℕ)) → slot_of o ≡ p → slot_of (cond b (Some (Object n)) o) ≡ cond b (Some (Some n)) p
by_name true n o p e = refl
by_name false n o p e = e

found : (ds : List Decl) (n : ℕ) (rest : List (List ℕ × Entity)) (objects : List (List ℕ × Option ℕ)) (name : List ℕ) → slot_of (meaning rest name) ≡ meaning objects name
    → slot_of (meaning (numbered ds n ++ rest) name) ≡ meaning (parameter_names (map (λ d. d.name) (decls_of ds)) n ++ objects) name
found [] n rest objects name h = h
found (d ∷ ds) n rest objects name h =
    by_name (bytes_eq name d.name) n (meaning (numbered ds (suc n) ++ rest) name) (meaning (parameter_names (map (λ x. x.name) (decls_of ds)) (suc n) ++ objects) name) (found ds (suc n) rest objects name h)

many_names : (ds : List Decl) → length (map (λ d. d.name) (decls_of ds)) ≡ length ds
many_names [] = refl
many_names (d ∷ ds) = ap suc (many_names ds)

pub knows : (h e : Here) (ds : List Decl) (count end : ℕ) (middle : Blocks) → count ≡ length ds → middle.block ≡ [] → middle.outer ≡ h.slots.block ++ h.slots.outer → PlacesWords h.bases.items e.bases.items count → end ≡ length e.bases.items
    → e.slots.block ≡ numbered ds (end - length ds) ++ middle.block → e.slots.outer ≡ middle.outer → e.declared ≡ h.declared → e.entries ≡ h.entries → KnowsParameters h e (map (λ d. d.name) (decls_of ds))
knows h e ds count end middle many empty around placed ends block outer declared entries =
    let params = map (λ (d : _). d.name) (decls_of ds) in
    let total : length e.bases.items ≡ length h.bases.items + length placed.more = ap (λ (l : List Location). length l) placed.behind ∙ length-append h.bases.items placed.more in
    let first : end - length ds ≡ length h.bases.items = omega (arith, ends, total, placed.many, many) in
    let words : words_at count 1 ≡ parameter_bases params 1 = ap (λ (n : ℕ). words_at n 1) (many ∙ sym (many_names ds)) ∙ words_are params 1 in
    let names : e.slots.block ++ e.slots.outer ≡ numbered ds (length h.bases.items) ++ (h.slots.block ++ h.slots.outer) =
    ap (λ (l : List (List ℕ × Entity)). l ++ e.slots.outer) (block ∙ (ap (λ (l : List (List ℕ × Entity)). numbered ds (end - length ds) ++ l) empty ∙ (append-nil (numbered ds (end - length ds)) ∙ ap (λ (n : ℕ). numbered ds n) first)))
    ∙ ap (λ (l : List (List ℕ × Entity)). numbered ds (length h.bases.items) ++ l) (outer ∙ around) in
    record {
      slots = λ objects have name. ap (λ (l : List (List ℕ × Entity)). slot_of (meaning l name)) names ∙ found ds (length h.bases.items) (h.slots.block ++ h.slots.outer) objects name (have name);
      bases = λ places are.
          subst (λ (l : List Location). AreLocations l (places ++ parameter_bases params 1)) (sym placed.behind)
          (locations_then h.bases.items placed.more places (parameter_bases params 1) are (subst (λ (l : List plain.Location). AreLocations placed.more l) words placed.are));
      more = placed.more;
      behind = placed.behind;
      declared = declared;
      entries = entries;
      outer = outer ∙ around;
    }
