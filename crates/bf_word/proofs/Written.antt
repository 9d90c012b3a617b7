-- Many named cells, read and written at once.
use Rattle.std.proofs.Common.{◌≡◌, ℕ, zero, suc, Bool, true, false, ◌&&◌, not, nat_eq, nat_lt, List, [], ◌∷◌, length, refl, ap, ◌∙◌, arith}
use Rattle.std.proofs.lemmas.Bool.{eqb-false, ltb-true}
use Rattle.bf_tape.specs.Tape.{Tape, put}
use Rattle.bf_tape.specs.Slots.{holding, IsNew, AreApart, nth, with_nth}
use Rattle.bf_tape.proofs.Slotted.{put_held}

-- lists of numerals are apart where a test says so
abbrev pub new_test : ℕ → List ℕ → Bool
new_test c [] = true
new_test c (n ∷ ns) = not (nat_eq c n) && new_test c ns

abbrev pub apart_test : List ℕ → Bool
apart_test [] = true
apart_test (n ∷ ns) = new_test n ns && apart_test ns

both_true : (a b : Bool) → (a && b) ≡ true → (a ≡ true) × (b ≡ true)
both_true true true e = (refl, refl)
both_true true false e = absurd (cc)
both_true false b e = absurd (cc)

not_true : (a : Bool) → not a ≡ true → a ≡ false
not_true true e = absurd (cc)
not_true false e = refl

pub new_of : (c : ℕ) (ns : List ℕ) → new_test c ns ≡ true → IsNew c ns
new_of c [] e = tt
new_of c (n ∷ ns) e =
    let both = both_true (not (nat_eq c n)) (new_test c ns) e in
    (eqb-false c n (not_true (nat_eq c n) both.0), new_of c ns both.1)

pub apart_of : (ns : List ℕ) → apart_test ns ≡ true → AreApart ns
apart_of [] e = tt
apart_of (n ∷ ns) e =
    let both = both_true (new_test n ns) (apart_test ns) e in
    (new_of n ns both.0, apart_of ns both.1)

-- values at places of the list, one after the other
abbrev pub put_all : Tape → List ℕ → List (ℕ × ℕ) → Tape
put_all s ns [] = s
put_all s ns (w ∷ ws) = put_all (put s (nth ns w.0) w.1) ns ws

abbrev pub with_all : List ℕ → List (ℕ × ℕ) → List ℕ
with_all vs [] = vs
with_all vs (w ∷ ws) = with_all (with_nth vs w.0 w.1) ws

abbrev pub all_in : ℕ → List (ℕ × ℕ) → Bool
all_in n [] = true
all_in n (w ∷ ws) = nat_lt w.0 n && all_in n ws

length_with : (vs : List ℕ) (i v : ℕ) → length (with_nth vs i v) ≡ length vs
length_with [] i v = refl
length_with (x ∷ vs) zero v = omega arith
length_with (x ∷ vs) (suc i) v = omega (arith, length_with vs i v)

pub put_all_held : (s : Tape) (ns vs : List ℕ) (ws : List (ℕ × ℕ)) → AreApart ns → all_in (length ns) ws ≡ true → length vs ≡ length ns → put_all (holding s ns vs) ns ws ≡ holding s ns (with_all vs ws)
put_all_held s ns vs [] apart e same = refl
put_all_held s ns vs (w ∷ ws) apart e same =
    let both = both_true (nat_lt w.0 (length ns)) (all_in (length ns) ws) e in
    ap (λ t. put_all t ns ws) (put_held s ns vs w.0 w.1 apart (ltb-true w.0 (length ns) both.0) same)
    ∙ put_all_held s ns (with_nth vs w.0 w.1) ws apart both.1 (length_with vs w.0 w.1 ∙ same)
