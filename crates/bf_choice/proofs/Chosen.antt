-- One of many pieces, by the bits of its number.
use Rattle.std.proofs.Common.{◌≡◌, ◌≢◌, ℕ, zero, suc, ◌+◌, ◌*◌, ◌^◌, ◌<◌, ◌≤◌, Bool, true, false, nat_eq, cond, List, [], ◌∷◌, ◌++◌, length, take, drop, Option, Some, None, Vec, refl, sym, ap, subst, ◌∙◌, arith, suc-mul, add-one, length-drop}
use Rattle.std.proofs.lemmas.List.{drop-append-le}
use Rattle.std.proofs.lemmas.Grind.{pow_more}
use Rattle.std.specs.declared.alloc.Global.{Global}
use Rattle.bf_lang.specs.declared.command.Command.{Command}
use Rattle.bf_lang.specs.Balance.{IsBalanced}
use Rattle.bf_lang.proofs.Partners.{balanced_append}
use Rattle.bf_tape.specs.Tape.{Tape, get, put}
use Rattle.bf_tape.specs.Does.{Does}
use Rattle.bf_tape.specs.Slots.{AreApart}
use Rattle.bf_tape.specs.Code.{goto_code, if_code}
use Rattle.bf_tape.proofs.Moves.{does_then, does_within}
use Rattle.bf_tape.proofs.Pieces.{does_goto, balanced_goto}
use Rattle.bf_tape.proofs.Turning.{does_this, does_other, balanced_if, get_put, get_other}
use Rattle.bf_tape.proofs.Slotted.{put_held}
use Rattle.bf_choice.specs.Choice.{bit_cell, spare_cell, first_of, tree_code, pick, number_of, chosen, none_chosen, Works, AreBalanced, codes, ChosenRuns, PickIsByNumber}

balanced_works : (input : List ℕ) (d : ℕ) (code : List Command) (s s' : Tape) (n : ℕ) → Works input d code s s' n → IsBalanced code
balanced_works input zero code s s' n w = w.balanced
balanced_works input (suc d) code s s' n w = balanced_works input d code (put (put s (bit_cell d) 0) (spare_cell d) 0) (put (put s' (bit_cell d) 0) (spare_cell d) 0) n (w 0 0)

-- puts of different cells
pub swapped : (s : Tape) (c e v w : ℕ) → c ≢ e → put (put s c v) e w ≡ put (put s e w) c v
swapped s c e v w differ =
    let apart : AreApart (e ∷ c ∷ []) = (((λ q. differ (sym q)), tt), (tt, tt)) in
    let first : put (put (put s c v) e w) c v ≡ put (put s c v) e w = put_held s (e ∷ c ∷ []) (w ∷ v ∷ []) 1 v apart (omega arith) refl in
    let apart' : AreApart (c ∷ e ∷ c ∷ []) → AreApart (c ∷ e ∷ []) = λ k. ((differ, tt), (tt, tt)) in
    sym first ∙ dropped s c e v w differ
  where
    dropped : (s : Tape) (c e v w : ℕ) → c ≢ e → put (put (put s c v) e w) c v ≡ put (put s e w) c v
    dropped s c e v w differ = λ i. record { base = s.base; cells = λ q. twice (nat_eq q (s.base + c)) (nat_eq q (s.base + e)) v w (s.cells q) i; taken = s.taken; output = s.output }
      where
        twice : (a b : Bool) (v w x : ℕ) → cond a v (cond b w (cond a v x)) ≡ cond a v (cond b w x)
        twice true b v w x = refl
        twice false b v w x = refl

-- cells beyond the bits
pub chosen_get : (d : ℕ) (bs : List Bool) (s : Tape) (c : ℕ) → 3 * d < c → get (chosen d bs s) c ≡ get s c
chosen_get zero bs s c h = refl
chosen_get (suc d) [] s c h = refl
chosen_get (suc d) (b ∷ bs) s c h =
    chosen_get d bs (put (put s (bit_cell d) (cond b 1 0)) (spare_cell d) 0) c (omega arith) ∙ (get_other (put s (bit_cell d) (cond b 1 0)) (spare_cell d) c 0 (omega arith) ∙ get_other s (bit_cell d) c (cond b 1 0) (omega arith))

pub chosen_put : (d : ℕ) (bs : List Bool) (s : Tape) (c v : ℕ) → 3 * d < c → put (chosen d bs s) c v ≡ chosen d bs (put s c v)
chosen_put zero bs s c v h = refl
chosen_put (suc d) [] s c v h = refl
chosen_put (suc d) (b ∷ bs) s c v h =
    chosen_put d bs (put (put s (bit_cell d) (cond b 1 0)) (spare_cell d) 0) c v (omega arith)
    ∙ ap (chosen d bs) (swapped (put s (bit_cell d) (cond b 1 0)) (spare_cell d) c 0 v (omega arith) ∙ ap (λ t. put t (spare_cell d) 0) (swapped s (bit_cell d) c (cond b 1 0) v (omega arith)))

pub none_get : (d : ℕ) (s : Tape) (c : ℕ) → 3 * d < c → get (none_chosen d s) c ≡ get s c
none_get zero s c h = refl
none_get (suc d) s c h = none_get d (put (put s (bit_cell d) 0) (spare_cell d) 0) c (omega arith) ∙ (get_other (put s (bit_cell d) 0) (spare_cell d) c 0 (omega arith) ∙ get_other s (bit_cell d) c 0 (omega arith))

pub none_put : (d : ℕ) (s : Tape) (c v : ℕ) → 3 * d < c → put (none_chosen d s) c v ≡ none_chosen d (put s c v)
none_put zero s c v h = refl
none_put (suc d) s c v h =
    none_put d (put (put s (bit_cell d) 0) (spare_cell d) 0) c v (omega arith)
    ∙ ap (none_chosen d) (swapped (put s (bit_cell d) 0) (spare_cell d) c 0 v (omega arith) ∙ ap (λ t. put t (spare_cell d) 0) (swapped s (bit_cell d) c 0 v (omega arith)))

balanced_first_of : (arms : List (List Command)) → AreBalanced arms → IsBalanced (first_of arms)
balanced_first_of [] b = refl
balanced_first_of (a ∷ arms) b = b.0

pub balanced_take : (n : ℕ) (arms : List (List Command)) → AreBalanced arms → AreBalanced (take n arms)
balanced_take zero arms b = tt
balanced_take (suc n) [] b = tt
balanced_take (suc n) (a ∷ arms) b = (b.0, balanced_take n arms b.1)

pub balanced_drop : (n : ℕ) (arms : List (List Command)) → AreBalanced arms → AreBalanced (drop n arms)
balanced_drop zero arms b = b
balanced_drop (suc n) [] b = tt
balanced_drop (suc n) (a ∷ arms) b = balanced_drop n arms b.1

pub balanced_tree : (d : ℕ) (arms : List (List Command)) → AreBalanced arms → IsBalanced (tree_code d arms)
balanced_tree zero arms b = balanced_first_of arms b
balanced_tree (suc d) [] b = refl
balanced_tree (suc d) (a ∷ rest) b =
    let arms : List (List Command) = a ∷ rest in
    let up : IsBalanced (tree_code d (drop (2 ^ d) arms)) = balanced_tree d (drop (2 ^ d) arms) (balanced_drop (2 ^ d) arms b) in
    let low : IsBalanced (tree_code d (take (2 ^ d) arms)) = balanced_tree d (take (2 ^ d) arms) (balanced_take (2 ^ d) arms b) in
    balanced_append (if_code 0 (bit_cell d) (spare_cell d) (tree_code d (drop (2 ^ d) arms)) (tree_code d (take (2 ^ d) arms))) (goto_code (spare_cell d) 0) (balanced_if 0 (bit_cell d) (spare_cell d) (tree_code d (drop (2 ^ d) arms)) (tree_code d (take (2 ^ d) arms)) up low) (balanced_goto (spare_cell d) 0)

abbrev no_arms : List (List Command)
no_arms = []

drop_none : (n : ℕ) → drop n no_arms ≡ no_arms
drop_none zero = refl
drop_none (suc n) = refl

take_none : (n : ℕ) → take n no_arms ≡ no_arms
take_none zero = refl
take_none (suc n) = refl

-- no piece is there
pub pick_none : (d : ℕ) (bs : List Bool) → pick d bs [] ≡ None
pick_none zero bs = refl
pick_none (suc d) [] = refl
pick_none (suc d) (true ∷ bs) = ap (pick d bs) (drop_none (2 ^ d)) ∙ pick_none d bs
pick_none (suc d) (false ∷ bs) = ap (pick d bs) (take_none (2 ^ d)) ∙ pick_none d bs

abbrev pub first_given : Option (List Command) → List Command
first_given None = []
first_given (Some a) = a

abbrev pub IsThere : Option (List Command) → Type 0
IsThere None = ⊥
IsThere (Some a) = Unit {0}

-- the piece of the number runs
pub does_tree : (input : List ℕ) (d : ℕ) (bs : List Bool) (arms : List (List Command)) (a : List Command) (s s' : Tape) (n : ℕ) → length bs ≡ d → 3 * d ≤ 250 → AreBalanced arms → pick d bs arms ≡ Some a → Works input d a s s' n
    → Does input (tree_code d arms) 0 (chosen d bs s) 0 (none_chosen d s') (n + d * 9000)
does_tree input zero bs [] a s s' n same small b is works = absurd (subst IsThere (sym is) tt)
does_tree input zero bs (x ∷ rest) a s s' n same small b is works = does_within (n + 0 * 9000) (subst (λ c. Does input c 0 s 0 s' n) (sym (ap first_given is)) works) (omega arith)
does_tree input (suc d) [] arms a s s' n same small b is works = absurd (omega (arith, same))
does_tree input (suc d) (x ∷ bs) [] a s s' n same small b is works = absurd (subst IsThere (sym is ∙ pick_none (suc d) (x ∷ bs)) tt)
does_tree input (suc d) (true ∷ bs) (x ∷ rest) a s s' n same small b is works =
    let arms : List (List Command) = x ∷ rest in
    let up : List Command = tree_code d (drop (2 ^ d) arms) in
    let low : List Command = tree_code d (take (2 ^ d) arms) in
    let differ : bit_cell d ≢ spare_cell d = omega arith in
    let apart : AreApart (spare_cell d ∷ bit_cell d ∷ []) = (((λ q. differ (sym q)), tt), (tt, tt)) in
    let s1 : Tape = put (put s (bit_cell d) 1) (spare_cell d) 1 in
    let s1' : Tape = put (put s' (bit_cell d) 1) (spare_cell d) 1 in
    let t : Tape = chosen d bs (put (put s (bit_cell d) 1) (spare_cell d) 0) in
    let u : Tape = none_chosen d s1' in
    let inner : Does input up 0 (chosen d bs s1) 0 u (n + d * 9000) = does_tree input d bs (drop (2 ^ d) arms) a s1 s1' n (omega (arith, same)) (omega arith) (balanced_drop (2 ^ d) arms b) is (works 1 1) in
    let ready : put t (spare_cell d) 1 ≡ chosen d bs s1 =
    chosen_put d bs (put (put s (bit_cell d) 1) (spare_cell d) 0) (spare_cell d) 1 (omega arith) ∙ ap (chosen d bs) (put_held s (spare_cell d ∷ bit_cell d ∷ []) (0 ∷ 1 ∷ []) 0 1 apart (omega arith) refl) in
    let one : get t (bit_cell d) ≡ 1 = chosen_get d bs (put (put s (bit_cell d) 1) (spare_cell d) 0) (bit_cell d) (omega arith) ∙ (get_other (put s (bit_cell d) 1) (spare_cell d) (bit_cell d) 0 (λ q. differ (sym q)) ∙ get_put s (bit_cell d) 1) in
    let kept : get u (spare_cell d) ≡ 1 = none_get d s1' (spare_cell d) (omega arith) ∙ get_put (put s' (bit_cell d) 1) (spare_cell d) 1 in
    let choice = does_this input 0 (bit_cell d) (spare_cell d) up low (omega arith) (omega arith) (omega arith) differ (balanced_tree d (drop (2 ^ d) arms) (balanced_drop (2 ^ d) arms b)) (balanced_tree d (take (2 ^ d) arms) (balanced_take (2 ^ d) arms b))
    t u (n + d * 9000) (λ e. absurd (omega (arith, one, e))) (subst (λ v. Does input up 0 v 0 u (n + d * 9000)) (sym ready) inner) kept in
    let last : put (put u (spare_cell d) 0) (bit_cell d) 0 ≡ none_chosen (suc d) s' =
    ap (λ v. put v (bit_cell d) 0) (none_put d s1' (spare_cell d) 0 (omega arith))
    ∙ (none_put d (put s1' (spare_cell d) 0) (bit_cell d) 0 (omega arith)
    ∙ ap (none_chosen d) (ap (λ v. put v (bit_cell d) 0) (put_held s' (spare_cell d ∷ bit_cell d ∷ []) (1 ∷ 1 ∷ []) 0 0 apart (omega arith) refl) ∙ put_held s' (spare_cell d ∷ bit_cell d ∷ []) (0 ∷ 1 ∷ []) 1 0 apart (omega arith) refl)) in
    does_then (n + suc d * 9000) (subst (λ v. Does input (if_code 0 (bit_cell d) (spare_cell d) up low) 0 t (spare_cell d) v (n + d * 9000 + 8192)) last choice) (does_goto input (spare_cell d) 0 (none_chosen (suc d) s') 255 (omega arith)) (omega (arith, suc-mul d 9000))
does_tree input (suc d) (false ∷ bs) (x ∷ rest) a s s' n same small b is works =
    let arms : List (List Command) = x ∷ rest in
    let up : List Command = tree_code d (drop (2 ^ d) arms) in
    let low : List Command = tree_code d (take (2 ^ d) arms) in
    let differ : bit_cell d ≢ spare_cell d = omega arith in
    let apart : AreApart (spare_cell d ∷ bit_cell d ∷ []) = (((λ q. differ (sym q)), tt), (tt, tt)) in
    let s1 : Tape = put (put s (bit_cell d) 0) (spare_cell d) 1 in
    let s1' : Tape = put (put s' (bit_cell d) 0) (spare_cell d) 1 in
    let t : Tape = chosen d bs (put (put s (bit_cell d) 0) (spare_cell d) 0) in
    let u : Tape = none_chosen d s1' in
    let inner : Does input low 0 (chosen d bs s1) 0 u (n + d * 9000) = does_tree input d bs (take (2 ^ d) arms) a s1 s1' n (omega (arith, same)) (omega arith) (balanced_take (2 ^ d) arms b) is (works 0 1) in
    let ready : put t (spare_cell d) 1 ≡ chosen d bs s1 =
    chosen_put d bs (put (put s (bit_cell d) 0) (spare_cell d) 0) (spare_cell d) 1 (omega arith) ∙ ap (chosen d bs) (put_held s (spare_cell d ∷ bit_cell d ∷ []) (0 ∷ 0 ∷ []) 0 1 apart (omega arith) refl) in
    let none : get t (bit_cell d) ≡ 0 = chosen_get d bs (put (put s (bit_cell d) 0) (spare_cell d) 0) (bit_cell d) (omega arith) ∙ (get_other (put s (bit_cell d) 0) (spare_cell d) (bit_cell d) 0 (λ q. differ (sym q)) ∙ get_put s (bit_cell d) 0) in
    let kept : get u (spare_cell d) ≡ 1 = none_get d s1' (spare_cell d) (omega arith) ∙ get_put (put s' (bit_cell d) 0) (spare_cell d) 1 in
    let choice = does_other input 0 (bit_cell d) (spare_cell d) up low (omega arith) (omega arith) (omega arith) differ (balanced_tree d (drop (2 ^ d) arms) (balanced_drop (2 ^ d) arms b)) (balanced_tree d (take (2 ^ d) arms) (balanced_take (2 ^ d) arms b))
    t u (n + d * 9000) none (subst (λ v. Does input low 0 v 0 u (n + d * 9000)) (sym ready) inner) kept in
    let last : put u (spare_cell d) 0 ≡ none_chosen (suc d) s' = none_put d s1' (spare_cell d) 0 (omega arith) ∙ ap (none_chosen d) (put_held s' (spare_cell d ∷ bit_cell d ∷ []) (1 ∷ 0 ∷ []) 0 0 apart (omega arith) refl) in
    does_then (n + suc d * 9000) (subst (λ v. Does input (if_code 0 (bit_cell d) (spare_cell d) up low) 0 t (spare_cell d) v (n + d * 9000 + 8192)) last choice) (does_goto input (spare_cell d) 0 (none_chosen (suc d) s') 255 (omega arith)) (omega (arith, suc-mul d 9000))

pub chosen_runs : ChosenRuns
chosen_runs = does_tree

-- numbers and digits
number_below : (bs : List Bool) → number_of bs < 2 ^ length bs
number_below [] = omega arith
number_below (b ∷ bs) =
    let k : ℕ = 2 ^ length bs in
    let e : 2 ^ suc (length bs) ≡ k * 2 = ap (λ n. 2 ^ n) (sym (add-one (length bs))) ∙ pow_more 2 (length bs) in
    let less : number_of bs < k = number_below bs in
    elim b as (λ b. cond b k 0 + number_of bs < 2 ^ suc (length bs)) [ true ↦ omega (arith, e, less) | false ↦ omega (arith, e, less) ]

take_past : (n : ℕ) (front rest : List (List Command)) (a : List Command) → length front < n → (r : List (List Command)) × (take n (front ++ a ∷ rest) ≡ front ++ a ∷ r)
take_past zero front rest a lt = absurd (omega arith)
take_past (suc n) [] rest a lt = (take n rest, refl)
take_past (suc n) (x ∷ front) rest a lt = let more = take_past n front rest a (omega arith) in (more.0, ap (λ l. x ∷ l) more.1)

pub pick_is : PickIsByNumber
pick_is zero [] [] rest a same at = refl
pick_is zero [] (x ∷ front) rest a same at = absurd (omega (arith, at))
pick_is zero (b ∷ bs) front rest a same at = absurd (omega (arith, same))
pick_is (suc d) [] front rest a same at = absurd (omega (arith, same))
pick_is (suc d) (true ∷ bs) front rest a same at =
    let l : length bs ≡ d = omega (arith, same) in
    let n : length front ≡ 2 ^ d + number_of bs = at ∙ ap (λ k. 2 ^ k + number_of bs) l in
    let le : 2 ^ d ≤ length front = omega (arith, n) in
    ap (pick d bs) (drop-append-le (2 ^ d) front (a ∷ rest) le)
    ∙ pick_is d bs (drop (2 ^ d) front) rest a l (length-drop (2 ^ d) front ∙ omega (arith, n))
pick_is (suc d) (false ∷ bs) front rest a same at =
    let l : length bs ≡ d = omega (arith, same) in
    let n : length front ≡ number_of bs = at ∙ omega arith in
    let below : number_of bs < 2 ^ d = subst (λ k. number_of bs < 2 ^ k) l (number_below bs) in
    let past = take_past (2 ^ d) front rest a (omega (arith, n, below)) in
    ap (pick d bs) past.1 ∙ pick_is d bs front past.0 a l n

-- the codes of a part of the pieces
pub codes_take : (n : ℕ) (arms : List (Vec Command Global)) → codes (take n arms) ≡ take n (codes arms)
codes_take zero arms = refl
codes_take (suc n) [] = refl
codes_take (suc n) (x ∷ arms) = ap (λ l. x.items ∷ l) (codes_take n arms)

pub codes_drop : (n : ℕ) (arms : List (Vec Command Global)) → codes (drop n arms) ≡ drop n (codes arms)
codes_drop zero arms = refl
codes_drop (suc n) [] = refl
codes_drop (suc n) (x ∷ arms) = codes_drop n arms

pub balanced_front : (n : ℕ) (arms : List (Vec Command Global)) → AreBalanced (codes arms) → AreBalanced (codes (take n arms))
balanced_front n arms b = subst AreBalanced (sym (codes_take n arms)) (balanced_take n (codes arms) b)

pub balanced_rest : (n : ℕ) (arms : List (Vec Command Global)) → AreBalanced (codes arms) → AreBalanced (codes (drop n arms))
balanced_rest n arms b = subst AreBalanced (sym (codes_drop n arms)) (balanced_drop n (codes arms) b)

-- a branch is a tree
pub tree_is : (d : ℕ) (x : Vec Command Global) (arms : List (Vec Command Global)) → let all = x ∷ arms in
    if_code 0 (bit_cell d) (spare_cell d) (tree_code d (codes (drop (2 ^ d) all))) (tree_code d (codes (take (2 ^ d) all))) ++ goto_code (spare_cell d) 0 ≡ tree_code (suc d) (codes all)
tree_is d x arms = λ i. if_code 0 (bit_cell d) (spare_cell d) (tree_code d (codes_drop (2 ^ d) (x ∷ arms) i)) (tree_code d (codes_take (2 ^ d) (x ∷ arms) i)) ++ goto_code (spare_cell d) 0

pub tree_of : (d k half : ℕ) (arms high low : List (Vec Command Global)) → d ≡ suc k → 0 < length arms → half ≡ 2 ^ k → high ≡ drop half arms → low ≡ take half arms
    → if_code 0 (bit_cell k) (spare_cell k) (tree_code k (codes high)) (tree_code k (codes low)) ++ goto_code (spare_cell k) 0 ≡ tree_code d (codes arms)
tree_of d k half [] high low e some h h' l = absurd (omega arith)
tree_of d k half (x ∷ arms) high low e some h h' l =
    let all : List (Vec Command Global) = x ∷ arms in
    (λ i. if_code 0 (bit_cell k) (spare_cell k) (tree_code k (codes ((h' ∙ ap (λ n. drop n all) h) i))) (tree_code k (codes ((l ∙ ap (λ n. take n all) h) i))) ++ goto_code (spare_cell k) 0)
    ∙ (tree_is k x arms ∙ ap (λ n. tree_code n (codes all)) (sym e))

-- one more piece
pub codes_more : (arms : List (Vec Command Global)) (arm : Vec Command Global) → codes (arms ++ arm ∷ []) ≡ codes arms ++ arm.items ∷ []
codes_more [] arm = refl
codes_more (x ∷ arms) arm = ap (λ l. x.items ∷ l) (codes_more arms arm)

pub balanced_more : (codes : List (List Command)) (c : List Command) → AreBalanced codes → IsBalanced c → AreBalanced (codes ++ c ∷ [])
balanced_more [] c b b' = (b', tt)
balanced_more (x ∷ codes) c b b' = (b.0, balanced_more codes c b.1 b')
