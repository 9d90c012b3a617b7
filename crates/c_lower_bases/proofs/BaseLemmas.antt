-- Words and places of objects, one behind the other.
use Rattle.std.proofs.Common.{◌≡◌, ℕ, suc, ◌+◌, ◌<◌, ◌≤◌, Bool, true, false, List, [], ◌∷◌, ◌++◌, length, drop, add-one, drop-cons, refl, sym, ap, subst, ◌∙◌, append_assoc, append-nil, if◌then◌else◌, arith}
use Rattle.std.proofs.lemmas.List.{drop_all}
use Rattle.std.proofs.lemmas.Option.{slice_get-get_or}
use Rattle.std.proofs.lemmas.Bool.Decides.{nat_tests}
use Rattle.std.specs.Prelude.{Option, unwrap_or, slice_get, min, nat_lt}
use Rattle.c_eval.specs.State.{Object}
use Rattle.c_emission.specs.declared.location.Location as rust
use Rattle.c_resolved.specs.Same.{lengths_of}
use Rattle.c_lowered.specs.Locations.{Location, Fixed}
use Rattle.c_lowered.specs.Whole.{words_given, file_bases}
use Rattle.c_counted.specs.Numbers.{IsNumber}
use Rattle.c_addressing.specs.Places.{IsLocation, AreLocations}
use Rattle.c_applied.proofs.LeadsLemmas.{same_number}
use Rattle.c_lower_bases.specs.declared.bases.Ends.{Ends}
use Rattle.c_lower_bases.specs.Bases.{words_of_one, words_over, bases_over, AreEnds}

-- ---- the definitions, by how many cells each object has

pub words_are : (wanted : Bool) (gs : List Bool) (os : List Object) → words_over wanted gs (lengths_of os) ≡ words_given wanted gs os
words_are wanted [] os = refl
words_are wanted (g ∷ gs) [] = refl
words_are wanted (g ∷ gs) (o ∷ os) = ap (λ (n : ℕ). words_of_one wanted g (length o.cells) + n) (words_are wanted gs os)

pub bases_are : (gs : List Bool) (os : List Object) (a b : ℕ) → bases_over gs (lengths_of os) a b ≡ file_bases gs os a b
bases_are [] os a b = refl
bases_are (g ∷ gs) [] a b = by g where
  by : (g : Bool) → bases_over (g ∷ gs) [] a b ≡ file_bases (g ∷ gs) [] a b
  by true = refl
  by false = refl
bases_are (true ∷ gs) (o ∷ os) a b = ap (λ (l : List Location). Fixed a ∷ l) (bases_are gs os (a + length o.cells) b)
bases_are (false ∷ gs) (o ∷ os) a b = ap (λ (l : List Location). Fixed b ∷ l) (bases_are gs os a (b + length o.cells))

-- ---- what is left of two lists

pub drop_got : {X : Type 0} (xs : List X) (i : ℕ) (y d : X) → i < length xs → y ≡ unwrap_or (slice_get xs i) d → drop i xs ≡ y ∷ drop (i + 1) xs
drop_got {X} xs i y d h e = rw (add-one, drop-cons xs i d) (ap (λ (z : X). z ∷ drop (suc i) xs) (sym (e ∙ ap (λ (o : Option X). unwrap_or o d) (slice_get-get_or xs i d h))))

no_words : (wanted : Bool) (gs : List Bool) → words_over wanted gs [] ≡ 0
no_words wanted [] = refl
no_words wanted (g ∷ gs) = refl

no_bases : (gs : List Bool) (a b : ℕ) → bases_over gs [] a b ≡ []
no_bases [] a b = refl
no_bases (g ∷ gs) a b = refl

-- one of them has ended
pub ended : (P : List Bool → List ℕ → Type 0) (gs : List Bool) (ns : List ℕ) (i : ℕ) → min (length gs) (length ns) ≤ i → ((l : List ℕ) → P [] l) → ((l : List Bool) → P l []) → P (drop i gs) (drop i ns)
ended P gs ns i past none_given none_sized = by (nat_lt i (length gs)) refl where
  by : (b : Bool) → nat_lt i (length gs) ≡ b → P (drop i gs) (drop i ns)
  by true e =
      let inside : i < length gs = grind (arith, nat_tests) in
      let out : length ns ≤ i = omega (arith, inside, past) in
      subst (λ (l : List ℕ). P (drop i gs) l) (sym (drop_all i ns out)) (none_sized (drop i gs))
  by false e =
      let out : length gs ≤ i = grind (arith, nat_tests) in
      subst (λ (l : List Bool). P l (drop i ns)) (sym (drop_all i gs out)) (none_given (drop i ns))

-- ---- words

-- the words so far, and those that are left, are those of all
pub record Summing (words index : ℕ) (wanted : Bool) (gs : List Bool) (ns : List ℕ) : Type 0 where
  pub so_far : ℕ
  pub told : IsNumber words so_far
  pub whole : words_over wanted gs ns ≡ so_far + words_over wanted (drop index gs) (drop index ns)

zero_plus : (n : ℕ) → n ≡ 0 + n
zero_plus n = omega arith

plus_assoc : (a b c : ℕ) → a + (b + c) ≡ a + b + c
plus_assoc a b c = omega arith

pub none_summed : (wanted : Bool) (gs : List Bool) (ns : List ℕ) → Summing 0 0 wanted gs ns
none_summed wanted gs ns = record { so_far = 0; told = same_number 0; whole = zero_plus (words_over wanted gs ns) }

pub one_summed : (words next index : ℕ) (wanted : Bool) (gs : List Bool) (ns : List ℕ) (g : Bool) (n : ℕ) → Summing words index wanted gs ns → index < length gs → index < length ns → g ≡ unwrap_or (slice_get gs index) false → n ≡ unwrap_or (slice_get ns index) 0
    → ((k : ℕ) → IsNumber words k → IsNumber next (k + words_of_one wanted g n)) → Summing next (index + 1) wanted gs ns
one_summed words next index wanted gs ns g n s in_gs in_ns is_g is_n step = record {
  so_far = s.so_far + words_of_one wanted g n;
  told = step s.so_far s.told;
  whole = s.whole ∙ (ap (λ (l : List Bool). s.so_far + words_over wanted l (drop index ns)) (drop_got gs index g false in_gs is_g)
      ∙ (ap (λ (l : List ℕ). s.so_far + words_over wanted (g ∷ drop (index + 1) gs) l) (drop_got ns index n 0 in_ns is_n)
      ∙ plus_assoc s.so_far (words_of_one wanted g n) (words_over wanted (drop (index + 1) gs) (drop (index + 1) ns))));
}

plus_none : (a b c : ℕ) → a ≡ b + c → c ≡ 0 → b ≡ a
plus_none a b c e f = omega (arith, e, f)

pub all_summed : (words index : ℕ) (wanted : Bool) (gs : List Bool) (ns : List ℕ) → Summing words index wanted gs ns → min (length gs) (length ns) ≤ index → IsNumber words (words_over wanted gs ns)
all_summed words index wanted gs ns s past =
    let none = ended (λ (l : List Bool) (k : List ℕ). words_over wanted l k ≡ 0) gs ns index past (λ k. refl) (λ l. no_words wanted l) in
    subst (λ (n : ℕ). IsNumber words n) (plus_none (words_over wanted gs ns) s.so_far (words_over wanted (drop index gs) (drop index ns)) s.whole none) s.told

-- ---- places

-- the places so far, and those that are left, are those of all
pub record IsBased (bases : List rust.Location) (ends : Ends) (index : ℕ) (gs : List Bool) (ns : List ℕ) (a b : ℕ) : Type 0 where
  pub here : ℕ
  pub there : ℕ
  pub told : AreEnds ends here there
  pub done : List Location
  pub are : AreLocations bases done
  pub whole : bases_over gs ns a b ≡ done ++ bases_over (drop index gs) (drop index ns) here there

pub record Basing (bases : List rust.Location) (from ends : Ends) (index : ℕ) (gs : List Bool) (ns : List ℕ) : Type 0 where
  pub so_far : (a b : ℕ) → AreEnds from a b → IsBased bases ends index gs ns a b

pub none_based : (bases : List rust.Location) (from : Ends) (gs : List Bool) (ns : List ℕ) → bases ≡ [] → Basing bases from from 0 gs ns
none_based bases from gs ns none = record {
  so_far = λ a b h. record { here = a; there = b; told = h; done = []; are = subst (λ (l : List rust.Location). AreLocations l []) (sym none) tt; whole = refl };
}

joined : (ls ms : List rust.Location) (ps qs : List Location) → AreLocations ls ps → AreLocations ms qs → AreLocations (ls ++ ms) (ps ++ qs)
joined [] ms [] qs h g = g
joined (l ∷ ls) ms (p ∷ ps) qs h g = (h.0, joined ls ms ps qs h.1 g)
joined [] ms (p ∷ ps) qs h g = absurd h
joined (l ∷ ls) ms [] qs h g = absurd h

pub one_based : (bases new : List rust.Location) (from ends next : Ends) (index : ℕ) (gs : List Bool) (ns : List ℕ) (g : Bool) (n : ℕ) (base : rust.Location) → Basing bases from ends index gs ns → index < length gs → index < length ns
    → g ≡ unwrap_or (slice_get gs index) false → n ≡ unwrap_or (slice_get ns index) 0 → new ≡ bases ++ base ∷ [] → ((a b : ℕ) → AreEnds ends a b → IsLocation base (if g then Fixed a else Fixed b))
    → ((a b : ℕ) → AreEnds ends a b → AreEnds next (if g then a + n else a) (if g then b else b + n)) → Basing new from next (index + 1) gs ns
one_based bases new from ends next index gs ns g n base s in_gs in_ns is_g is_n push at behind = record {
  so_far = λ a b h.
      let k = s.so_far a b h in
      let own : Location = if g then Fixed k.here else Fixed k.there in
      let x = if g then k.here + n else k.here in
      let y = if g then k.there else k.there + n in
      record {
        here = x;
        there = y;
        told = behind k.here k.there k.told;
        done = k.done ++ own ∷ [];
        are = subst (λ (l : List rust.Location). AreLocations l (k.done ++ own ∷ [])) (sym push) (joined bases (base ∷ []) k.done (own ∷ []) k.are (at k.here k.there k.told, tt));
        whole = k.whole ∙ (ap (λ (l : List Bool). k.done ++ bases_over l (drop index ns) k.here k.there) (drop_got gs index g false in_gs is_g)
            ∙ (ap (λ (l : List ℕ). k.done ++ bases_over (g ∷ drop (index + 1) gs) l k.here k.there) (drop_got ns index n 0 in_ns is_n)
            ∙ sym (append_assoc k.done (own ∷ []) (bases_over (drop (index + 1) gs) (drop (index + 1) ns) x y))));
      };
}

pub all_based : (bases : List rust.Location) (from ends : Ends) (index : ℕ) (gs : List Bool) (ns : List ℕ) → Basing bases from ends index gs ns → min (length gs) (length ns) ≤ index → (a b : ℕ) → AreEnds from a b → AreLocations bases (bases_over gs ns a b)
all_based bases from ends index gs ns s past a b h =
    let k = s.so_far a b h in
    let none = ended (λ (l : List Bool) (m : List ℕ). bases_over l m k.here k.there ≡ []) gs ns index past (λ m. refl) (λ l. no_bases l k.here k.there) in
    subst (λ (l : List Location). AreLocations bases l) (sym (k.whole ∙ (ap (λ (l : List Location). k.done ++ l) none ∙ append-nil k.done))) k.are
