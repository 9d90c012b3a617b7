-- Words and addresses of literals, one behind the other.
use Rattle.std.proofs.Common.{◌≡◌, ℕ, zero, suc, ◌+◌, ◌-◌, ◌<◌, ◌≤◌, get_or, add-one, drop-cons, List, [], ◌∷◌, ◌++◌, length, drop, replicate, refl, sym, ap, subst, ◌∙◌, append_assoc, append-nil, add-zero, arith}
use Rattle.std.proofs.lemmas.List.{map-append}
use Rattle.std.specs.List.{flat_map}
use denote.Ref.{Bor}
use Rattle.word24.specs.declared.word.Word.{Word}
use Rattle.c_addressing.proofs.SameLemmas.{same_word}
use Rattle.c_types.specs.Table.{texts}
use Rattle.c_lowered.specs.Operations.{wrapped}
use Rattle.c_lowered.specs.Whole.{letter_words, letters_before, words_from}
use Rattle.c_counted.specs.Numbers.{IsNumber}
use Rattle.c_addressing.specs.Here.{first_or}
use Rattle.c_lower_data.specs.Letters.{AreAddresses, AddsAddresses}

pub drop_from : (xs : List ℕ) (i x : ℕ) → i < length xs → x ≡ get_or xs i 0 → drop i xs ≡ x ∷ drop (i + 1) xs
drop_from xs i x h e = rw (add-one, drop-cons xs i 0) (ap (λ (y : ℕ). y ∷ drop (suc i) xs) (sym e))

-- what is left of some texts begins with the one that comes next
pub drop_text : (xs : List (Bor (List ℕ))) (i : ℕ) (x : Bor (List ℕ)) → i < length xs → drop i xs ≡ get_or xs i x ∷ drop (i + 1) xs
drop_text xs i x h = rw (add-one, drop-cons xs i x) refl

-- ---- words

-- the words so far, and those of the numbers that are left, are those of all
pub record Wording (old now : List Word) (all left : List ℕ) : Type 0 where
  pub whole : old ++ words_from all ≡ now ++ words_from left

pub one_worded : (old now new : List Word) (all left : List ℕ) (x : ℕ) (rest : List ℕ) (w : Word) → Wording old now all left → left ≡ x ∷ rest → w ≡ wrapped x → new ≡ now ++ w ∷ [] → Wording old new all rest
one_worded old now new all left x rest w g same is push = record {
  whole = g.whole ∙ (ap (λ (l : List ℕ). now ++ words_from l) same ∙ (sym (append_assoc now (wrapped x ∷ []) (words_from rest))
      ∙ sym (ap (λ (l : List Word). l ++ words_from rest) (push ∙ ap (λ (v : Word). now ++ v ∷ []) is))));
}

pub all_worded : (old now : List Word) (all left : List ℕ) → Wording old now all left → left ≡ [] → now ≡ old ++ words_from all
all_worded old now all left g none = sym (g.whole ∙ (ap (λ (l : List ℕ). now ++ words_from l) none ∙ append-nil now))

-- words behind words
pub words_then : (old now new : List Word) (xs ys : List ℕ) → now ≡ old ++ words_from xs → new ≡ now ++ words_from ys → new ≡ old ++ words_from (xs ++ ys)
words_then old now new xs ys e f =
    f ∙ (ap (λ (l : List Word). l ++ words_from ys) e ∙ (append_assoc old (words_from xs) (words_from ys) ∙ ap (λ (l : List Word). old ++ l) (sym (map-append wrapped xs ys))))

-- a number is told modulo 2^24
pub told_word : (told n : ℕ) → IsNumber told n → wrapped told ≡ wrapped n
told_word told n h = same_word (wrapped told) (wrapped n) h.same

pub one_zero : (count i : ℕ) → i < count → replicate {A = ℕ} (count - i) 0 ≡ 0 ∷ replicate (count - (i + 1)) 0
one_zero count i h = let e : count - i ≡ suc (count - (i + 1)) = omega arith in ap (λ (n : ℕ). replicate {A = ℕ} n 0) e

pub no_zero : (count i : ℕ) → count ≤ i → replicate {A = ℕ} (count - i) 0 ≡ []
no_zero count i h = let e : count - i ≡ 0 = omega arith in ap (λ (n : ℕ). replicate {A = ℕ} n 0) e

-- of several literals
pub record Lettering (old now : List Word) (all left : List (Bor (List ℕ))) : Type 0 where
  pub whole : old ++ words_from (flat_map letter_words (texts all)) ≡ now ++ words_from (flat_map letter_words (texts left))

pub one_lettered : (old now new : List Word) (all left : List (Bor (List ℕ))) (x : Bor (List ℕ)) (rest : List (Bor (List ℕ))) → Lettering old now all left → left ≡ x ∷ rest → new ≡ now ++ words_from (letter_words x.now) → Lettering old new all rest
one_lettered old now new all left x rest g same push =
    let more = flat_map letter_words (texts rest) in
    record {
      whole = g.whole ∙ (ap (λ (l : List (Bor (List ℕ))). now ++ words_from (flat_map letter_words (texts l))) same ∙ (ap (λ (l : List Word). now ++ l) (map-append wrapped (letter_words x.now) more)
          ∙ (sym (append_assoc now (words_from (letter_words x.now)) (words_from more)) ∙ sym (ap (λ (l : List Word). l ++ words_from more) push))));
    }

pub all_lettered : (old now : List Word) (all left : List (Bor (List ℕ))) → Lettering old now all left → left ≡ [] → now ≡ old ++ words_from (flat_map letter_words (texts all))
all_lettered old now all left g none = sym (g.whole ∙ (ap (λ (l : List (Bor (List ℕ))). now ++ words_from (flat_map letter_words (texts l))) none ∙ append-nil now))

-- ---- addresses

-- addresses that are the right ones behind those so far are so of all
pub record IsAddressed (old now : List ℕ) (address a : ℕ) (all left : List (List ℕ)) : Type 0 where
  pub here : ℕ
  pub told : IsNumber address here
  pub more : List ℕ
  pub behind : now ≡ old ++ more
  pub rest_of : (next : List ℕ) (end : ℕ) → AreAddresses next end here left → AreAddresses (more ++ next) end a all

pub record Addressing (old now : List ℕ) (from address : ℕ) (all left : List (List ℕ)) : Type 0 where
  pub so_far : (a : ℕ) → IsNumber from a → IsAddressed old now address a all left

pub none_addressed : (old : List ℕ) (from : ℕ) (all : List (List ℕ)) → Addressing old old from from all all
none_addressed old from all = record { so_far = λ a h. record { here = a; told = h; more = []; behind = sym (append-nil old); rest_of = λ next end are. are } }

address_first : (address here end : ℕ) (t : List ℕ) (next : List ℕ) (ts : List (List ℕ)) → IsNumber address here → AreAddresses next end (here + length t + 1) ts → AreAddresses (address ∷ next) end here (t ∷ ts)
address_first address here end t next ts h are = record { told = by } where
  three : (i j l : ℕ) → i + j + 1 + l ≡ i + (j + 1 + l)
  three i j l = omega arith

  by : (n : ℕ) → IsNumber (first_or end (drop n (address ∷ next))) (here + letters_before n (t ∷ ts))
  by zero = subst (λ (k : ℕ). IsNumber address k) (sym (add-zero here)) h
  by (suc n) = subst (λ (k : ℕ). IsNumber (first_or end (drop n next)) k) (three here (length t) (letters_before n ts)) (are.told n)

pub one_addressed : (old now new : List ℕ) (from address on : ℕ) (all left : List (List ℕ)) (t : List ℕ) (rest : List (List ℕ)) → Addressing old now from address all left → left ≡ t ∷ rest → new ≡ now ++ address ∷ []
    → ((k : ℕ) → IsNumber address k → IsNumber on (k + length t + 1)) → Addressing old new from on all rest
one_addressed old now new from address on all left t rest g same push step = record {
  so_far = λ a h.
      let k = g.so_far a h in
      record {
        here = k.here + length t + 1;
        told = step k.here k.told;
        more = k.more ++ address ∷ [];
        behind = push ∙ (ap (λ (l : List ℕ). l ++ address ∷ []) k.behind ∙ append_assoc old k.more (address ∷ []));
        rest_of = λ next end are.
            subst (λ (l : List ℕ). AreAddresses l end a all) (sym (append_assoc k.more (address ∷ []) next))
            (k.rest_of (address ∷ next) end (subst (λ (l : List (List ℕ)). AreAddresses (address ∷ next) end k.here l) (sym same) (address_first address k.here end t next rest k.told are)));
      };
}

no_literal : (n : ℕ) → letters_before n [] ≡ 0
no_literal zero = refl
no_literal (suc n) = refl

none_next : (n : ℕ) → drop {A = ℕ} n [] ≡ []
none_next zero = refl
none_next (suc n) = refl

pub all_addressed : (old now : List ℕ) (from address : ℕ) (all left : List (List ℕ)) → Addressing old now from address all left → left ≡ [] → (a : ℕ) → IsNumber from a → AddsAddresses old now address a all
all_addressed old now from address all left g none a h =
    let k = g.so_far a h in
    let ends : AreAddresses [] address k.here [] = record {
      told = λ n.
          subst (λ (l : List ℕ). IsNumber (first_or address l) (k.here + letters_before n [])) (sym (none_next n))
          (subst (λ (j : ℕ). IsNumber address (k.here + j)) (sym (no_literal n)) (subst (λ (j : ℕ). IsNumber address j) (sym (add-zero k.here)) k.told));
    } in
    record {
      more = k.more;
      behind = k.behind;
      are = subst (λ (l : List ℕ). AreAddresses l address a all) (append-nil k.more) (k.rest_of [] address (subst (λ (l : List (List ℕ)). AreAddresses [] address k.here l) (sym none) ends));
    }
