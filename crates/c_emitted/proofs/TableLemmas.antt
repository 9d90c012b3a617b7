-- Tables that grow.
use Rattle.std.proofs.Common.{◌≡◌, ℕ, zero, suc, List, [], ◌∷◌, ◌++◌, length, take, drop, refl, sym, ap, subst, ◌∙◌, append_assoc}
use Rattle.std.specs.Prelude.{Bool, true, false, Some, slice_get, if◌then◌else◌}
use Rattle.std.specs.List.{list_any}
use Rattle.std.specs.Str.{bytes_eq}
use denote.Ref.{Bor}
use Rattle.std.proofs.lemmas.List.{append-nil, map-append}
use Rattle.c_emitted.specs.Emits.{texts}
use Rattle.c_emitted.specs.Tables.{Tables, Begins, Extends}

pub begins_same : {A : Type 0} (xs : List A) → Begins xs xs
begins_same xs = record { rest = []; whole = sym (append-nil xs) }

pub begins_more : {A : Type 0} (xs ys : List A) → Begins xs (xs ++ ys)
begins_more xs ys = record { rest = ys; whole = refl }

pub begins_then : {A : Type 0} {xs ys zs : List A} → Begins xs ys → Begins ys zs → Begins xs zs
begins_then {A} {xs} {ys} {zs} a b = record { rest = a.rest ++ b.rest; whole = b.whole ∙ ap (λ (l : List A). l ++ b.rest) a.whole ∙ append_assoc xs a.rest b.rest }

get_more : {A : Type 0} (xs ys : List A) (k : ℕ) (v : A) → slice_get xs k ≡ Some v → slice_get (xs ++ ys) k ≡ Some v
get_more [] ys k v e = cc
get_more (x ∷ xs) ys zero v e = e
get_more (x ∷ xs) ys (suc k) v e = get_more xs ys k v e

get_last : {A : Type 0} (xs ys : List A) (v : A) → slice_get (xs ++ v ∷ ys) (length xs) ≡ Some v
get_last [] ys v = refl
get_last (x ∷ xs) ys v = get_last xs ys v

-- what has a number keeps it
pub begins_get : {A : Type 0} {xs ys : List A} → Begins xs ys → (k : ℕ) (v : A) → slice_get xs k ≡ Some v → slice_get ys k ≡ Some v
begins_get {A} {xs} {ys} b k v e = subst (λ (l : List A). slice_get l k ≡ Some v) (sym b.whole) (get_more xs b.rest k v e)

-- the entry that came last
pub begins_last : {A : Type 0} (xs : List A) (v : A) {ys : List A} → Begins (xs ++ v ∷ []) ys → slice_get ys (length xs) ≡ Some v
begins_last {A} xs v {ys} b = begins_get b (length xs) v (get_last xs [] v)

within : {A : Type 0} (xs es ys : List A) → take (length es) (drop (length xs) ((xs ++ es) ++ ys)) ≡ es
within [] [] ys = refl
within [] (e ∷ es) ys = ap (λ l. e ∷ l) (within [] es ys)
within (x ∷ xs) es ys = within xs es ys

-- one table grows
pub names_grown : (keys others : List (Bor (List ℕ))) (k : Bor (List ℕ)) → others ≡ (if list_any (λ y. bytes_eq k.now y.now) keys then keys else keys ++ k ∷ []) → Begins (texts keys) (texts others)
names_grown keys others k = by (list_any (λ y. bytes_eq k.now y.now) keys) where
  by : (b : Bool) → others ≡ (if b then keys else keys ++ k ∷ []) → Begins (texts keys) (texts others)
  by true e = subst (λ (l : List (Bor (List ℕ))). Begins (texts keys) (texts l)) (sym e) (begins_same (texts keys))
  by false e = record { rest = k.now ∷ []; whole = ap texts e ∙ map-append (λ (x : Bor (List ℕ)). x.now) keys (k ∷ []) }

pub extends_same : (t : Tables) → Extends t t
extends_same t = record {
  constants = begins_same t.constants;
  kinds = begins_same t.kinds;
  lengths = begins_same t.lengths;
  bytes = begins_same t.bytes;
  literals = begins_same t.literals;
  names = begins_same t.names;
  files = begins_same t.files;
}

pub extends_then : {s t u : Tables} → Extends s t → Extends t u → Extends s u
extends_then a b = record {
  constants = begins_then a.constants b.constants;
  kinds = begins_then a.kinds b.kinds;
  lengths = begins_then a.lengths b.lengths;
  bytes = begins_then a.bytes b.bytes;
  literals = begins_then a.literals b.literals;
  names = begins_then a.names b.names;
  files = begins_then a.files b.files;
}
