-- Partners, where brackets balance.
use Rattle.std.proofs.Common.{◌≡◌, ℕ, zero, suc, ◌+◌, ◌<◌, List, [], ◌∷◌, ◌++◌, length, drop, Some, slice_get, sym, ap, ◌∙◌, arith, add-zero, add-suc, add-one, suc-add}
use Rattle.bf_lang.specs.declared.command.Command.{Command}
use Rattle.bf_lang.specs.declared.command.Command.TheVariants.{Right, Left, Plus, Minus, Write, Read, Open, Close}
use Rattle.bf_lang.specs.Step.{close_in, open_by, open_before}
use Rattle.bf_lang.specs.Balance.{depth_after, IsBalanced}

-- what stands at a place of the code
pub at_head : (code : List Command) (k : ℕ) (x : Command) (xs : List Command) → drop k code ≡ x ∷ xs → slice_get code k ≡ Some x
at_head [] zero x xs e = cc
at_head [] (suc k) x xs e = cc
at_head (y ∷ ys) zero x xs e = cc
at_head (y ∷ ys) (suc k) x xs e = at_head ys k x xs e

pub after_head : (code : List Command) (k : ℕ) (x : Command) (xs : List Command) → drop k code ≡ x ∷ xs → drop (suc k) code ≡ xs
after_head [] zero x xs e = cc
after_head [] (suc k) x xs e = cc
after_head (y ∷ ys) zero x xs e = cc
after_head (y ∷ ys) (suc k) x xs e = after_head ys k x xs e

pub inside : (code : List Command) (k : ℕ) (x : Command) (xs : List Command) → drop k code ≡ x ∷ xs → k < length code
inside [] zero x xs e = cc
inside [] (suc k) x xs e = cc
inside (y ∷ ys) zero x xs e = omega arith
inside (y ∷ ys) (suc k) x xs e = omega (arith, inside ys k x xs e)

pub skipped : (code : List Command) (k : ℕ) (xs ys : List Command) → drop k code ≡ xs ++ ys → drop (k + length xs) code ≡ ys
skipped code k [] ys e = ap (λ j. drop j code) (add-zero k) ∙ e
skipped code k (x ∷ xs) ys e =
    let j : k + length (x ∷ xs) ≡ suc k + length xs = omega arith in
    ap (λ i. drop i code) j ∙ skipped code (suc k) xs ys (after_head code k x (xs ++ ys) e)

-- looking on over commands of which the depth is known
pub close_over : (cs js : List Command) (e f d : ℕ) → depth_after e cs ≡ Some f → close_in (e + d) (cs ++ js) ≡ length cs + close_in (f + d) js
close_over [] js e f d h = let same : e ≡ f = cc in ap (λ x. close_in (x + d) js) same ∙ omega arith
close_over (Right ∷ cs) js e f d h = omega (arith, close_over cs js e f d h)
close_over (Left ∷ cs) js e f d h = omega (arith, close_over cs js e f d h)
close_over (Plus ∷ cs) js e f d h = omega (arith, close_over cs js e f d h)
close_over (Minus ∷ cs) js e f d h = omega (arith, close_over cs js e f d h)
close_over (Write ∷ cs) js e f d h = omega (arith, close_over cs js e f d h)
close_over (Read ∷ cs) js e f d h = omega (arith, close_over cs js e f d h)
close_over (Open ∷ cs) js e f d h =
    let s : suc (e + d) ≡ suc e + d = omega arith in
    ap (λ x. suc (close_in x (cs ++ js))) s ∙ omega (arith, close_over cs js (suc e) f d h)
close_over (Close ∷ cs) js zero f d h = cc
close_over (Close ∷ cs) js (suc e) f d h =
    let s : suc e + d ≡ suc (e + d) = omega arith in
    ap (λ x. close_in x (Close ∷ (cs ++ js))) s ∙ omega (arith, close_over cs js e f d h)

-- looking back over one command
pub back_one : (code : List Command) (k : ℕ) (c : Command) (xs : List Command) → drop k code ≡ c ∷ xs → (g : ℕ) → open_before code (suc k) g ≡ open_by (Some c) (suc k) (open_before code k) g
back_one code k c xs at g = ap (λ o. open_by o (suc k) (open_before code k) g) (at_head code k c xs at)

-- looking back over commands of which the depth is known
pub open_over : (code cs rest : List Command) (k e f d : ℕ) → drop k code ≡ cs ++ rest → depth_after e cs ≡ Some f → open_before code (k + length cs) (f + d) ≡ open_before code k (e + d)
open_over code [] rest k e f d at h =
    let same : f ≡ e = cc in
    ap (λ x. open_before code x (f + d)) (add-zero k) ∙ ap (λ x. open_before code k (x + d)) same
open_over code (Right ∷ cs) rest k e f d at h =
    let after : drop (suc k) code ≡ cs ++ rest = after_head code k Right (cs ++ rest) at in
    ap (λ x. open_before code x (f + d)) (add-suc k (length cs) ∙ sym (suc-add k (length cs))) ∙ (open_over code cs rest (suc k) e f d after h ∙ back_one code k Right (cs ++ rest) at (e + d))
open_over code (Left ∷ cs) rest k e f d at h =
    let after : drop (suc k) code ≡ cs ++ rest = after_head code k Left (cs ++ rest) at in
    ap (λ x. open_before code x (f + d)) (add-suc k (length cs) ∙ sym (suc-add k (length cs))) ∙ (open_over code cs rest (suc k) e f d after h ∙ back_one code k Left (cs ++ rest) at (e + d))
open_over code (Plus ∷ cs) rest k e f d at h =
    let after : drop (suc k) code ≡ cs ++ rest = after_head code k Plus (cs ++ rest) at in
    ap (λ x. open_before code x (f + d)) (add-suc k (length cs) ∙ sym (suc-add k (length cs))) ∙ (open_over code cs rest (suc k) e f d after h ∙ back_one code k Plus (cs ++ rest) at (e + d))
open_over code (Minus ∷ cs) rest k e f d at h =
    let after : drop (suc k) code ≡ cs ++ rest = after_head code k Minus (cs ++ rest) at in
    ap (λ x. open_before code x (f + d)) (add-suc k (length cs) ∙ sym (suc-add k (length cs))) ∙ (open_over code cs rest (suc k) e f d after h ∙ back_one code k Minus (cs ++ rest) at (e + d))
open_over code (Write ∷ cs) rest k e f d at h =
    let after : drop (suc k) code ≡ cs ++ rest = after_head code k Write (cs ++ rest) at in
    ap (λ x. open_before code x (f + d)) (add-suc k (length cs) ∙ sym (suc-add k (length cs))) ∙ (open_over code cs rest (suc k) e f d after h ∙ back_one code k Write (cs ++ rest) at (e + d))
open_over code (Read ∷ cs) rest k e f d at h =
    let after : drop (suc k) code ≡ cs ++ rest = after_head code k Read (cs ++ rest) at in
    ap (λ x. open_before code x (f + d)) (add-suc k (length cs) ∙ sym (suc-add k (length cs))) ∙ (open_over code cs rest (suc k) e f d after h ∙ back_one code k Read (cs ++ rest) at (e + d))
open_over code (Open ∷ cs) rest k e f d at h =
    let after : drop (suc k) code ≡ cs ++ rest = after_head code k Open (cs ++ rest) at in
    let s : suc e + d ≡ suc (e + d) = omega arith in
    ap (λ x. open_before code x (f + d)) (add-suc k (length cs) ∙ sym (suc-add k (length cs)))
    ∙ (open_over code cs rest (suc k) (suc e) f d after h ∙ (ap (open_before code (suc k)) s ∙ back_one code k Open (cs ++ rest) at (suc (e + d))))
open_over code (Close ∷ cs) rest k zero f d at h = cc
open_over code (Close ∷ cs) rest k (suc e) f d at h =
    let after : drop (suc k) code ≡ cs ++ rest = after_head code k Close (cs ++ rest) at in
    let s : suc (e + d) ≡ suc e + d = omega arith in
    ap (λ x. open_before code x (f + d)) (add-suc k (length cs) ∙ sym (suc-add k (length cs)))
    ∙ (open_over code cs rest (suc k) e f d after h ∙ (back_one code k Close (cs ++ rest) at (e + d) ∙ ap (open_before code k) s))

-- balanced commands, one list after the other
pub depth_append : (xs ys : List Command) (e f : ℕ) → depth_after e xs ≡ Some f → depth_after e (xs ++ ys) ≡ depth_after f ys
depth_append [] ys e f h = let same : e ≡ f = cc in ap (λ x. depth_after x ys) same
depth_append (Right ∷ xs) ys e f h = depth_append xs ys e f h
depth_append (Left ∷ xs) ys e f h = depth_append xs ys e f h
depth_append (Plus ∷ xs) ys e f h = depth_append xs ys e f h
depth_append (Minus ∷ xs) ys e f h = depth_append xs ys e f h
depth_append (Write ∷ xs) ys e f h = depth_append xs ys e f h
depth_append (Read ∷ xs) ys e f h = depth_append xs ys e f h
depth_append (Open ∷ xs) ys e f h = depth_append xs ys (suc e) f h
depth_append (Close ∷ xs) ys zero f h = cc
depth_append (Close ∷ xs) ys (suc e) f h = depth_append xs ys e f h

pub depth_more : (xs : List Command) (e f d : ℕ) → depth_after e xs ≡ Some f → depth_after (e + d) xs ≡ Some (f + d)
depth_more [] e f d h = let same : e ≡ f = cc in ap (λ x. Some (x + d)) same
depth_more (Right ∷ xs) e f d h = depth_more xs e f d h
depth_more (Left ∷ xs) e f d h = depth_more xs e f d h
depth_more (Plus ∷ xs) e f d h = depth_more xs e f d h
depth_more (Minus ∷ xs) e f d h = depth_more xs e f d h
depth_more (Write ∷ xs) e f d h = depth_more xs e f d h
depth_more (Read ∷ xs) e f d h = depth_more xs e f d h
depth_more (Open ∷ xs) e f d h = let s : suc (e + d) ≡ suc e + d = omega arith in ap (λ x. depth_after x xs) s ∙ depth_more xs (suc e) f d h
depth_more (Close ∷ xs) zero f d h = cc
depth_more (Close ∷ xs) (suc e) f d h = let s : suc e + d ≡ suc (e + d) = omega arith in ap (λ x. depth_after x (Close ∷ xs)) s ∙ depth_more xs e f d h

pub balanced_append : (xs ys : List Command) → IsBalanced xs → IsBalanced ys → IsBalanced (xs ++ ys)
balanced_append xs ys a b = depth_append xs ys 0 0 a ∙ b

pub balanced_loop : (body : List Command) → IsBalanced body → IsBalanced (Open ∷ (body ++ Close ∷ []))
balanced_loop body b = depth_append body (Close ∷ []) 1 1 (depth_more body 0 0 1 b)

-- the partners of a loop's brackets
pub close_of_loop : (code body rest : List Command) (k : ℕ) → IsBalanced body → drop k code ≡ Open ∷ (body ++ Close ∷ rest) → close_in 0 (drop (k + 1) code) ≡ length body
close_of_loop code body rest k b at =
    ap (λ j. close_in 0 (drop j code)) (add-one k)
    ∙ (ap (close_in 0) (after_head code k Open (body ++ Close ∷ rest) at)
    ∙ (close_over body (Close ∷ rest) 0 0 0 b ∙ add-zero (length body)))

pub open_of_loop : (code body rest : List Command) (k : ℕ) → IsBalanced body → drop k code ≡ Open ∷ (body ++ Close ∷ rest) → open_before code (k + 1 + length body) 0 ≡ k + 1
open_of_loop code body rest k b at =
    ap (λ j. open_before code (j + length body) 0) (add-one k)
    ∙ (open_over code body (Close ∷ rest) (suc k) 0 0 0 (after_head code k Open (body ++ Close ∷ rest) at) b
    ∙ (back_one code k Open (body ++ Close ∷ rest) at 0 ∙ sym (add-one k)))
