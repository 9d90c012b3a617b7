-- The changes are what the commands do.
use Rattle.std.proofs.Common.{◌≡◌, ℕ, suc, ◌+◌, ◌<◌, ◌≤◌, nat_le, Bool, true, false, cond, ◌||◌, ℤ, pos, negsuc, ◌+ℤ◌, ◌-ℤ◌, ◌*ℤ◌, List, [], ◌∷◌, ◌++◌, length, take, drop, Option, Some, refl, sym, ap, subst, ◌∙◌, arith}
use Rattle.std.proofs.lemmas.Bool.{leb-true, leb-false}
use Rattle.std.proofs.lemmas.Bool.Decides.{nat_tests}
use Rattle.std.proofs.lemmas.Int.{ints}
use Rattle.mach_core.specs.declared.machine.Status.{Status}
use Rattle.piet_image.specs.declared.place.Stand.{Stand}
use Rattle.piet_lang.specs.declared.number.Seen.{Seen}
use Rattle.piet_lang.specs.Stack.{pair_of}
use Rattle.piet_lang.specs.Step.{Config, acted, at_fault, takes, reading_of}
use Rattle.piet_lang.specs.Acts.{led}
use Rattle.mach_core.specs.Integer.{is_zero, is_in_range, floor_quotient, floor_remainder}
use Rattle.piet_lang.specs.declared.act.Act.{Act}
use Rattle.piet_lang.specs.declared.act.Act.TheVariants.{Push, Pop, Add, Subtract, Multiply, Divide, Modulo, Not, Greater, Point, Switch, Duplicate, Roll, InNumber, InChar, OutNumber, OutChar}
use Rattle.piet_lang.specs.declared.change.Change.{Change}
use Rattle.piet_lang.specs.declared.change.Change.TheVariants as change
use Rattle.piet_lang.specs.Act.{after_act, act_fits, roll, rest_of}
use Rattle.piet_lang.specs.Change.{ranged, rolling, combined, on_two, change_of, changed, is_done, ChangeFits}

-- a change stands for a command
pub record StandsFor (act : Act) (size byte : ℕ) (stack : List ℤ) (made : Change) : Type 0 where
  pub fits : is_done made ≡ act_fits act stack
  pub stack_is : is_done made ≡ true → changed made stack ≡ after_act act size byte stack

ranged_is : (z : ℤ) (all rest : List ℤ) → rest ≡ drop 2 all → (is_done (ranged z) ≡ is_in_range z) × (is_done (ranged z) ≡ true → changed (ranged z) all ≡ z ∷ rest)
ranged_is z all rest e =
    elim (is_in_range z) as (λ b. (is_done (cond b (change.Put 2 z) change.Fail) ≡ b) × (is_done (cond b (change.Put 2 z) change.Fail) ≡ true → changed (cond b (change.Put 2 z) change.Fail) all ≡ z ∷ rest)) [
      | true ↦ (refl, λ h. ap (λ (xs : List ℤ). z ∷ xs) (sym e))
      | false ↦ (refl, λ h. cc)
    ]

divide_is : (v w : ℤ) (rest : List ℤ) (b : Bool) (q : ℤ)
    → (is_done (cond b change.Keep (ranged q)) ≡ (b || is_in_range q)) × (is_done (cond b change.Keep (ranged q)) ≡ true → changed (cond b change.Keep (ranged q)) (v ∷ w ∷ rest) ≡ cond b (v ∷ w ∷ rest) (q ∷ rest))
divide_is v w rest true q = (refl, λ h. refl)
divide_is v w rest false q = ranged_is q (v ∷ w ∷ rest) rest refl

modulo_is : (v w : ℤ) (rest : List ℤ) (b : Bool) (q : ℤ)
    → (is_done (cond b change.Keep (change.Put 2 q)) ≡ true) × (changed (cond b change.Keep (change.Put 2 q)) (v ∷ w ∷ rest) ≡ cond b (v ∷ w ∷ rest) (q ∷ rest))
modulo_is v w rest true q = (refl, refl)
modulo_is v w rest false q = (refl, refl)

two_more : (depth n : ℕ) → nat_le (depth + 2) (suc (suc n)) ≡ nat_le depth n
two_more depth n = grind (arith, nat_tests)

roll_is : (times depth : ℤ) (rest : List ℤ) → (is_done (rolling (length (times ∷ depth ∷ rest)) depth times) ≡ true) × (changed (rolling (length (times ∷ depth ∷ rest)) depth times) (times ∷ depth ∷ rest) ≡ roll (times ∷ depth ∷ rest) rest times depth)
roll_is times (negsuc d) rest = (refl, refl)
roll_is times (pos d) rest = rw (two_more d (length rest)) (go (nat_le d (length rest)) (nat_le d 1))
  where
    go : (a b : Bool) → (is_done (cond a (cond b (change.Discard 2) (change.Roll d (rest_of times d))) change.Keep) ≡ true)
        × (changed (cond a (cond b (change.Discard 2) (change.Roll d (rest_of times d))) change.Keep) (times ∷ pos d ∷ rest)
        ≡ cond a (cond b rest (drop (rest_of times d) (take d rest) ++ (take (rest_of times d) rest ++ drop d rest))) (times ∷ pos d ∷ rest))
    go true true = (refl, refl)
    go true false = (refl, refl)
    go false b = (refl, refl)

pub stands_for : (act : Act) (size byte : ℕ) (stack : List ℤ) → StandsFor act size byte stack (change_of stack act size byte)
stands_for Push size byte stack = record { fits = refl; stack_is = λ h. refl }
stands_for InChar size byte stack = record { fits = refl; stack_is = λ h. refl }
stands_for InNumber size byte stack = record { fits = refl; stack_is = λ h. refl }
stands_for Pop size byte [] = record { fits = refl; stack_is = λ h. refl }
stands_for Pop size byte (v ∷ stack) = record { fits = refl; stack_is = λ h. refl }
stands_for Point size byte [] = record { fits = refl; stack_is = λ h. refl }
stands_for Point size byte (v ∷ stack) = record { fits = refl; stack_is = λ h. refl }
stands_for Switch size byte [] = record { fits = refl; stack_is = λ h. refl }
stands_for Switch size byte (v ∷ stack) = record { fits = refl; stack_is = λ h. refl }
stands_for OutNumber size byte [] = record { fits = refl; stack_is = λ h. refl }
stands_for OutNumber size byte (v ∷ stack) = record { fits = refl; stack_is = λ h. refl }
stands_for OutChar size byte [] = record { fits = refl; stack_is = λ h. refl }
stands_for OutChar size byte (v ∷ stack) = record { fits = refl; stack_is = λ h. refl }
stands_for Not size byte [] = record { fits = refl; stack_is = λ h. refl }
stands_for Not size byte (v ∷ stack) = record { fits = refl; stack_is = λ h. refl }
stands_for Duplicate size byte [] = record { fits = refl; stack_is = λ h. refl }
stands_for Duplicate size byte (v ∷ stack) = record { fits = refl; stack_is = λ h. refl }
stands_for Add size byte [] = record { fits = refl; stack_is = λ h. refl }
stands_for Add size byte (v ∷ []) = record { fits = refl; stack_is = λ h. refl }
stands_for Add size byte (v ∷ w ∷ stack) = let r = ranged_is (w +ℤ v) (v ∷ w ∷ stack) stack refl in record { fits = r.0; stack_is = r.1 }
stands_for Subtract size byte [] = record { fits = refl; stack_is = λ h. refl }
stands_for Subtract size byte (v ∷ []) = record { fits = refl; stack_is = λ h. refl }
stands_for Subtract size byte (v ∷ w ∷ stack) = let r = ranged_is (w -ℤ v) (v ∷ w ∷ stack) stack refl in record { fits = r.0; stack_is = r.1 }
stands_for Multiply size byte [] = record { fits = refl; stack_is = λ h. refl }
stands_for Multiply size byte (v ∷ []) = record { fits = refl; stack_is = λ h. refl }
stands_for Multiply size byte (v ∷ w ∷ stack) = let r = ranged_is (w *ℤ v) (v ∷ w ∷ stack) stack refl in record { fits = r.0; stack_is = r.1 }
stands_for Divide size byte [] = record { fits = refl; stack_is = λ h. refl }
stands_for Divide size byte (v ∷ []) = record { fits = refl; stack_is = λ h. refl }
stands_for Divide size byte (v ∷ w ∷ stack) = let r = divide_is v w stack (is_zero v) (floor_quotient w v) in record { fits = r.0; stack_is = r.1 }
stands_for Modulo size byte [] = record { fits = refl; stack_is = λ h. refl }
stands_for Modulo size byte (v ∷ []) = record { fits = refl; stack_is = λ h. refl }
stands_for Modulo size byte (v ∷ w ∷ stack) = let r = modulo_is v w stack (is_zero v) (floor_remainder w v) in record { fits = r.0; stack_is = λ h. r.1 }
stands_for Greater size byte [] = record { fits = refl; stack_is = λ h. refl }
stands_for Greater size byte (v ∷ []) = record { fits = refl; stack_is = λ h. refl }
stands_for Greater size byte (v ∷ w ∷ stack) = record { fits = refl; stack_is = λ h. refl }
stands_for Roll size byte [] = record { fits = refl; stack_is = λ h. refl }
stands_for Roll size byte (v ∷ []) = record { fits = refl; stack_is = λ h. refl }
stands_for Roll size byte (v ∷ w ∷ stack) = let r = roll_is v w stack in record { fits = r.0; stack_is = λ h. r.1 }

-- only one command looks at the byte
pub byte_free : (act : Act) (stack : List ℤ) (size byte : ℕ) → change_of stack act size byte ≡ change_of stack act size (cond (takes (Some act)) byte 0)
byte_free Push stack size byte = refl
byte_free _ stack size byte = refl

-- a command on two values
pub two_is : (act : Act) (stack : List ℤ) (size byte len : ℕ) (second top : ℤ) → Some (second, top) ≡ pair_of stack → length stack ≡ len
    → (act ≡ Push → ⊥) → (act ≡ Pop → ⊥) → (act ≡ Not → ⊥) → (act ≡ Point → ⊥) → (act ≡ Switch → ⊥) → (act ≡ Duplicate → ⊥) → (act ≡ InNumber → ⊥) → (act ≡ InChar → ⊥) → (act ≡ OutNumber → ⊥) → (act ≡ OutChar → ⊥)
    → combined act len second top ≡ change_of stack act size byte
two_is Push stack size byte len second top e l a b d f g h i j k m = absurd (a refl)
two_is Pop stack size byte len second top e l a b d f g h i j k m = absurd (b refl)
two_is Not stack size byte len second top e l a b d f g h i j k m = absurd (d refl)
two_is Point stack size byte len second top e l a b d f g h i j k m = absurd (f refl)
two_is Switch stack size byte len second top e l a b d f g h i j k m = absurd (g refl)
two_is Duplicate stack size byte len second top e l a b d f g h i j k m = absurd (h refl)
two_is InNumber stack size byte len second top e l a b d f g h i j k m = absurd (i refl)
two_is InChar stack size byte len second top e l a b d f g h i j k m = absurd (j refl)
two_is OutNumber stack size byte len second top e l a b d f g h i j k m = absurd (k refl)
two_is OutChar stack size byte len second top e l a b d f g h i j k m = absurd (m refl)
two_is Add stack size byte len second top e l a b d f g h i j k m = ap (λ n. combined Add n second top) (sym l) ∙ ap (λ o. on_two o (combined Add (length stack))) e
two_is Subtract stack size byte len second top e l a b d f g h i j k m = ap (λ n. combined Subtract n second top) (sym l) ∙ ap (λ o. on_two o (combined Subtract (length stack))) e
two_is Multiply stack size byte len second top e l a b d f g h i j k m = ap (λ n. combined Multiply n second top) (sym l) ∙ ap (λ o. on_two o (combined Multiply (length stack))) e
two_is Divide stack size byte len second top e l a b d f g h i j k m = ap (λ n. combined Divide n second top) (sym l) ∙ ap (λ o. on_two o (combined Divide (length stack))) e
two_is Modulo stack size byte len second top e l a b d f g h i j k m = ap (λ n. combined Modulo n second top) (sym l) ∙ ap (λ o. on_two o (combined Modulo (length stack))) e
two_is Greater stack size byte len second top e l a b d f g h i j k m = ap (λ n. combined Greater n second top) (sym l) ∙ ap (λ o. on_two o (combined Greater (length stack))) e
two_is Roll stack size byte len second top e l a b d f g h i j k m = ap (λ n. combined Roll n second top) (sym l) ∙ ap (λ o. on_two o (combined Roll (length stack))) e

rest_small : (times : ℤ) (d : ℕ) → 1 < d → rest_of times d ≤ d
rest_small (pos n) d h = omega arith
rest_small (negsuc n) d h = omega (arith, ints)

ranged_fits : (stack : List ℤ) (z : ℤ) → ChangeFits stack (ranged z)
ranged_fits stack z = elim (is_in_range z) as (λ b. ChangeFits stack (cond b (change.Put 2 z) change.Fail)) [ true ↦ tt | false ↦ tt ]

rolling_fits : (stack : List ℤ) (depth times : ℤ) → ChangeFits stack (rolling (length stack) depth times)
rolling_fits stack (negsuc d) times = tt
rolling_fits stack (pos d) times = go (nat_le (d + 2) (length stack)) refl (nat_le d 1) refl
  where
    go : (a : Bool) → nat_le (d + 2) (length stack) ≡ a → (b : Bool) → nat_le d 1 ≡ b → ChangeFits stack (cond a (cond b (change.Discard 2) (change.Roll d (rest_of times d))) change.Keep)
    go false e b f = tt
    go true e true f = tt
    go true e false f =
        let deep : d + 2 ≤ length stack = leb-true (d + 2) (length stack) e in
        let more : 1 < d = leb-false d 1 f in
        (deep, rest_small times d more)

pub combined_fits : (act : Act) (stack : List ℤ) (len : ℕ) (second top : ℤ) → length stack ≡ len → ChangeFits stack (combined act len second top)
combined_fits Add stack len second top l = ranged_fits stack (second +ℤ top)
combined_fits Subtract stack len second top l = ranged_fits stack (second -ℤ top)
combined_fits Multiply stack len second top l = ranged_fits stack (second *ℤ top)
combined_fits Divide stack len second top l = elim (is_zero top) as (λ b. ChangeFits stack (cond b change.Keep (ranged (floor_quotient second top)))) [ true ↦ tt | false ↦ ranged_fits stack (floor_quotient second top) ]
combined_fits Modulo stack len second top l = elim (is_zero top) as (λ b. ChangeFits stack (cond b change.Keep (change.Put 2 (floor_remainder second top)))) [ true ↦ tt | false ↦ tt ]
combined_fits Greater stack len second top l = tt
combined_fits Roll stack len second top l = subst (λ n. ChangeFits stack (rolling n second top)) l (rolling_fits stack second top)
combined_fits _ stack len second top l = tt

abbrev pub config : Stand → List ℤ → Option Seen → Status → Config
config at stack reading status = record { at = at; stack = stack; reading = reading; standing = status }

-- a command that could be done
pub performed : (size fed : ℕ) (at to : Stand) (stack stack' : List ℤ) (reading : Option Seen) (status : Status) (from : Stand) (was : Option Seen) (act : Act) (made : Change)
    → made ≡ change_of stack act size fed → is_done made ≡ true → stack' ≡ changed made stack → at ≡ led act to stack → reading ≡ reading_of act
    → config at stack' reading status ≡ acted size (config from stack was status) act to (cond (takes (Some act)) fed 0)
performed size fed at to stack stack' reading status from was act made e done s a r =
    let byte = cond (takes (Some act)) fed 0 in
    let same : made ≡ change_of stack act size byte = e ∙ byte_free act stack size fed in
    let stands = stands_for act size byte stack in
    let done' : is_done (change_of stack act size byte) ≡ true = sym (ap is_done same) ∙ done in
    let fits : act_fits act stack ≡ true = sym stands.fits ∙ done' in
    let after : stack' ≡ after_act act size byte stack = s ∙ (ap (λ m. changed m stack) same ∙ stands.stack_is done') in
    ap (λ z. config z stack' reading status) a
    ∙ (ap (λ (z : List ℤ). config (led act to stack) z reading status) after
    ∙ (ap (λ z. config (led act to stack) (after_act act size byte stack) z status) r
    ∙ ap (λ b. cond b (config (led act to stack) (after_act act size byte stack) (reading_of act) status) (at_fault (config from stack was status))) (sym fits)))
