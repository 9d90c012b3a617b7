-- Two operands in whichever order, and small parts.
use Rattle.std.proofs.Common.{◌≡◌, ℕ, zero, suc, ◌+◌, ◌^◌, ◌<◌, ◌≤◌, Bool, true, false, ◌||◌, List, [], ◌∷◌, ◌++◌, length, Option, Some, None, refl, sym, ap, subst, arith, slice_get, if◌then◌else◌}
use Rattle.std.specs.Prelude.{max}
use Rattle.eir_core.specs.declared.ops.Reg.{Reg}
use Rattle.eir_core.specs.declared.ops.Reg.TheVariants.{A, B}
use Rattle.eir_core.specs.declared.ops.Operand.{Operand}
use Rattle.eir_core.specs.declared.ops.Operand.TheVariants.{Reg as register}
use Rattle.eir_core.specs.declared.ops.Op.{Op}
use Rattle.c_syntax.specs.Plain.{CExpr}
use Rattle.c_types.specs.Types.{CType, is_pointer, is_null}
use Rattle.c_eval.specs.State.{Value, Word, Null, Point, Letter, Function, Missing, State, Outcome, Gives, Ended, Going, Undefined, Run, Act, NoResult}
use Rattle.c_eval.specs.Run.{◌>>=◌, give, undefined}
use Rattle.c_eval.specs.Operators.{used, as_pointer, converted}
use Rattle.c_eval.specs.Environment.{Environment}
use Rattle.c_eval.specs.Eval.{World, value_of}
use Rattle.c_place.specs.Code.{jumps}
use Rattle.c_place.specs.Place.{Place, Machine, behind_all, front}
use Rattle.c_lowered.specs.Locations.{Location, Fixed, Framed, Direct, is_steady, is_quiet, address_of}
use Rattle.c_lowered.specs.Operations.{load_to, turned, waiting, operands, operand_of}
use Rattle.c_lowered.specs.Expressions.{tested}
use Rattle.c_memory.specs.Follows.{fuel_of, here}
use Rattle.c_memory.specs.Lies.{Extent, Ground, Means}
use Rattle.c_memory.proofs.Following.{wider, then_follows, give_follows, undefined_follows}
use Rattle.c_valued.specs.QuietLaws.{IsStill}
use Rattle.c_valued.proofs.Words.{then_still as quiet_then_still, used_still as quiet_used_still}
use Rattle.c_valued.proofs.Still.{value_still}
use Rattle.c_landing.specs.Landing.{Setting, Ready, Reached, Lands, Goes, InA, PlaceInA, InOperands, on_both, GivesStill, everywhere, location_word, direct_word, IsDirect, IsKnown, IsQuiet, MayTurn}
use Rattle.c_landing.specs.Few.{Agrees, LiteralsAre}
use Rattle.c_landing.proofs.Landing.{F, lands_within, then_still}
use Rattle.c_landing.proofs.Stilling.{still_wider, give_still, means_everywhere}
use Rattle.c_landing.proofs.Pieces.{quiet_goes, quiet_lands, load_a_keeps, load_a_made}
use Rattle.c_landing.proofs.Operands.{in_order_lands, turned_lands, waiting_lands}
use Rattle.c_landing.specs.Tails.{IsPair, GivenInA}
use Rattle.c_landing.proofs.Tails.{direct_pair, used_goes}
use Rattle.c_landing.proofs.Equal.{as_pointer_means}
use Rattle.c_valued.specs.Decides.{DecidedAt, Decides, Whatever}
use Rattle.c_valued.proofs.Deciding.{tested_decides}

-- ---- numbers

pub max_left : (a b n : ℕ) → max a b ≤ n → a ≤ n
max_left a b n h = omega (arith, h)

pub max_right : (a b n : ℕ) → max a b ≤ n → b ≤ n
max_right a b n h = omega (arith, h)

-- ---- literals of parts

front_item : (xs ys : List (List ℕ)) (j : ℕ) (t : List ℕ) → slice_get xs j ≡ Some t → slice_get (xs ++ ys) j ≡ Some t
front_item [] ys j t e = absurd (cc e)
front_item (x ∷ xs) ys zero t e = e
front_item (x ∷ xs) ys (suc j) t e = front_item xs ys j t e

behind_item : (xs ys : List (List ℕ)) (j : ℕ) (t : List ℕ) → slice_get ys j ≡ Some t → slice_get (xs ++ ys) (length xs + j) ≡ Some t
behind_item [] ys j t e = subst (λ z. slice_get ys z ≡ Some t) (omega arith) e
behind_item (x ∷ xs) ys j t e = let s : suc (length xs + j) ≡ length (x ∷ xs) + j = omega arith in subst (λ z. slice_get (x ∷ (xs ++ ys)) z ≡ Some t) s (behind_item xs ys j t e)

pub literals_left : (g : Ground) (owner : Option (List ℕ)) (xs ys : List (List ℕ)) (b : ℕ) → LiteralsAre g owner (xs ++ ys) b → LiteralsAre g owner xs b
literals_left g owner xs ys b h j t e = h j t (front_item xs ys j t e)

pub literals_right : (g : Ground) (owner : Option (List ℕ)) (xs ys : List (List ℕ)) (b : ℕ) → LiteralsAre g owner (xs ++ ys) b → LiteralsAre g owner ys (b + length xs)
literals_right g owner xs ys b h j t e = let s : b + (length xs + j) ≡ b + length xs + j = omega arith in subst (λ z. g.text owner z ≡ Some t) s (h (length xs + j) t (behind_item xs ys j t e))

-- ---- small parts

pub at_block : {A : Type 0} {S : Setting} {code : List Op} {d n c : ℕ} {run : Run A} {M : A → List Extent → Machine → Type 0} (k j : ℕ) → k ≡ j → Lands S code k d n c run M → Lands S code j d n c run M
at_block {S = S} {code = code} {d = d} {n = n} {c = c} {run = run} {M = M} k j e l = subst (λ z. Lands S code z d n c run M) e l

pub decides_at : {S : Setting} {code : List Op} {d n c : ℕ} {run : Run Value} {M : Value → Type 0} {wanted : Bool} {target : ℕ} (k j : ℕ) → k ≡ j → Decides S code k d n c run M wanted target → Decides S code j d n c run M wanted target
decides_at {S = S} {code = code} {d = d} {n = n} {c = c} {run = run} {M = M} {wanted = wanted} {target = target} k j e h = subst (λ z. Decides S code z d n c run M wanted target) e h

pub decides_within : {S : Setting} {code : List Op} {block d n c : ℕ} {run : Run Value} {M : Value → Type 0} {wanted : Bool} {target : ℕ} (c1 : ℕ) → c1 ≤ c → Decides S code block d n c1 run M wanted target → Decides S code block d n c run M wanted target
decides_within {S = S} {d = d} {c = c} {run = run} c1 le h = record { at = λ s bs st m e stands r. wider S.program S.input S.mode (here s m st) (fuel_of st) c1 c (run st) _ _ (h.at s bs st m e stands r) (λ v st1 s1 m1 q. q) le; ends = h.ends }

-- the use of a value whose truth decided
pub decides_used : {S : Setting} {code : List Op} {block d n c : ℕ} {run : Run Value} {M : Value → Type 0} {wanted : Bool} {target : ℕ} → Decides S code block d n c run M wanted target → Decides S code block d n c (run >>= used) Whatever wanted target
unfolding used
decides_used {S = S} {code = code} {d = d} {c = c} {run = run} {M = M} {wanted = wanted} {target = target} h = record {
  at = λ s bs st m e stands r.
      (let Q = DecidedAt S bs st m.memory m.regs.bp d (front target) (behind_all s code) wanted M in
      let R = DecidedAt S bs st m.memory m.regs.bp d (front target) (behind_all s code) wanted Whatever in
      then_follows S.program S.input S.mode (here s m st) (fuel_of st) c 0 c run st used Q R (h.at s bs st m e stands r) (λ v st1 s1 m1 le q. by s bs st m v st1 s1 m1 q) (omega arith));
  ends = h.ends;
}
  where
    same : (s : Place) (bs : List Extent) (st : State) (m : Machine) (v : Value) (st1 : State) (s1 : Place) (m1 : Machine) → DecidedAt S bs st m.memory m.regs.bp d (front target) (behind_all s code) wanted M v st1 s1 m1
        → F S (here s1 m1 st1) (fuel_of st1) 0 (give v st1) (DecidedAt S bs st m.memory m.regs.bp d (front target) (behind_all s code) wanted Whatever)
    same s bs st m v st1 s1 m1 q =
        give_follows S.program S.input S.mode v s1 m1 st1 0 (DecidedAt S bs st m.memory m.regs.bp d (front target) (behind_all s code) wanted Whatever) (record { place = q.place; bases = q.bases; left = q.left; means = tt })

    by : (s : Place) (bs : List Extent) (st : State) (m : Machine) (v : Value) (st1 : State) (s1 : Place) (m1 : Machine) → DecidedAt S bs st m.memory m.regs.bp d (front target) (behind_all s code) wanted M v st1 s1 m1
        → F S (here s1 m1 st1) (fuel_of st1) 0 (used v st1) (DecidedAt S bs st m.memory m.regs.bp d (front target) (behind_all s code) wanted Whatever)
    by s bs st m (Word k) st1 s1 m1 q = same s bs st m (Word k) st1 s1 m1 q
    by s bs st m Null st1 s1 m1 q = same s bs st m Null st1 s1 m1 q
    by s bs st m (Point o k) st1 s1 m1 q = same s bs st m (Point o k) st1 s1 m1 q
    by s bs st m (Letter f i text k) st1 s1 m1 q = same s bs st m (Letter f i text k) st1 s1 m1 q
    by s bs st m (Function name) st1 s1 m1 q = same s bs st m (Function name) st1 s1 m1 q
    by s bs st m Missing st1 s1 m1 q = undefined_follows S.program S.input S.mode NoResult s1 m1 st1 (fuel_of st1) 0 (DecidedAt S bs st m.memory m.regs.bp d (front target) (behind_all s code) wanted Whatever)

-- what is undefined is followed by any code
pub undefined_lands : {A : Type 0} {S : Setting} {code : List Op} {block d n c : ℕ} {M : A → List Extent → Machine → Type 0} (act : Act) → Lands S code block d n c (undefined act) M
undefined_lands {S = S} {code = code} {d = d} {c = c} {M = M} act = record { at = λ s bs st m e stands r. undefined_follows S.program S.input S.mode act s m st (fuel_of st) c (Reached S bs st m.memory m.regs.bp d (behind_all s code) M) }

-- less is claimed
pub lands_as : {A : Type 0} {S : Setting} {code : List Op} {block d n c : ℕ} {run : Run A} {M N : A → List Extent → Machine → Type 0} → ((v : A) (bs : List Extent) (m : Machine) → M v bs m → N v bs m) → Lands S code block d n c run M → Lands S code block d n c run N
lands_as {S = S} {code = code} {d = d} {c = c} {run = run} {M = M} {N = N} f l = record {
  at = λ s bs st m e stands r. wider S.program S.input S.mode (here s m st) (fuel_of st) c c (run st) (Reached S bs st m.memory m.regs.bp d (behind_all s code) M) (Reached S bs st m.memory m.regs.bp d (behind_all s code) N) (l.at s bs st m e stands r)
      (λ v st1 s1 m1 q. record { place = q.place; bases = q.bases; left = q.left; means = f v q.bases m1 q.means }) (omega arith);
}

-- a value as a place
pub value_as_place : {S : Setting} {code : List Op} {block d n c : ℕ} {run : Run Value} → Lands S code block d n c run (InA S) → Lands S code block d n c run (PlaceInA S)
value_as_place {S = S} {code = code} {d = d} {c = c} {run = run} l = record {
  at = λ s bs st m e stands r. wider S.program S.input S.mode (here s m st) (fuel_of st) c c (run st) (Reached S bs st m.memory m.regs.bp d (behind_all s code) (InA S)) (Reached S bs st m.memory m.regs.bp d (behind_all s code) (PlaceInA S)) (l.at s bs st m e stands r)
      (λ v st1 s1 m1 q. record { place = q.place; bases = q.bases; left = q.left; means = means_everywhere S.ground q.bases v m1.regs.a q.left.lies.seen q.means }) (omega arith);
}

-- a known place comes into A
pub place_loads : (S : Setting) (l : Location) (run : Run Value) (block d n : ℕ) → IsKnown S l run → Lands S (load_to A (address_of l)) block d n (length (load_to A (address_of l))) run (PlaceInA S)
place_loads S l run block d n h = quiet_lands (load_a_keeps (address_of l)) (λ bs st m r. still_wider st _ _ (run st) (h.at bs st m d n r) (λ x q. subst (λ (z : Machine). PlaceInA S x bs z) (sym (load_a_made (address_of l) m)) (subst (λ z. Means (everywhere S.ground) bs x z) (word m l) q.0)))
  where
    word : (m : Machine) (l : Location) → location_word m l ≡ direct_word m (address_of l)
    word m (Fixed a) = refl
    word m (Framed k) = refl

module _ (S : Setting) (w : World) (agrees : Agrees S w) where
  pub used_lands : {code : List Op} {block d n c : ℕ} {run : Run Value} → Lands S code block d n c run (InA S) → Lands S code block d n c (run >>= used) (GivenInA S)
  used_lands {code} {block} {d} {n} {c} {run} l = then_still l (used_goes S w agrees (block + jumps code) d n)

  pub used_in_a : {code : List Op} {block d n c : ℕ} {run : Run Value} → Lands S code block d n c run (InA S) → Lands S code block d n c (run >>= used) (InA S)
  used_in_a l = lands_as (λ v bs m h. h.0) (used_lands l)

  pub tested_value : {code : List Op} {block d n : ℕ} {run : Run Value} (c c1 : ℕ) (wanted : Bool) (target : ℕ) → Lands S code block d n c run (InA S) → target < 2 ^ 24 → c + 1 ≤ c1 → Decides S (tested wanted target code) block d n c1 (run >>= used) Whatever wanted target
  tested_value {code} {block} {d} {n} {run} c c1 wanted target l lt le = decides_within (c + 1) le (tested_decides S w agrees code block d n c (run >>= used) wanted target lt (used_lands l))

  -- a value converts to a type
  pub converted_goes : (t : CType) (block d n : ℕ) → Goes S [] block d n 0 (λ v. give (converted t v)) (InA S) (InA S)
  converted_goes t block d n = quiet_goes (record { quiet = tt; memory = λ m. refl; frame = λ m. refl }) (λ v bs st m r h. give_still st (λ z. InA S z bs m) (converted t v) (go (is_pointer t || is_null t) bs st m r v h))
    where
      go : (b : Bool) (bs : List Extent) (st : State) (m : Machine) → Ready S bs st m d n → (v : Value) → InA S v bs m → InA S (if b then as_pointer v else v) bs m
      go true bs st m r v h = as_pointer_means S w agrees bs st m d n r v m.regs.a h
      go false bs st m r v h = h

-- ---- two operands

still_quiet : (st : State) (o : Outcome Value) → IsStill st o → GivesStill st (λ x. Unit {0}) o
still_quiet st (Gives v st1) h = (h, tt)
still_quiet st (Ended st1) h = h
still_quiet st (Going st1) h = h
still_quiet st (Undefined act st1) h = h

pub quiet_value : (e : CExpr) (w : World) (site : Environment) → is_quiet e ≡ true → IsQuiet (value_of e w site >>= used)
quiet_value e w site q = record { at = λ st. still_quiet st ((value_of e w site >>= used) st) ((quiet_then_still (value_still e w site q) (λ v. quiet_used_still v)).at st) }

pub operands_lands : {R : Type 0} (N : Reg → Operand → R → List Extent → Machine → Type 0) (S : Setting) (tail : Reg → Operand → List Op) (block d n ja ca cb ct : ℕ) (quiet : Bool) (x y : Option Direct) (a : List Op) (b : ℕ → List Op) (ra rb : Run Value) (f : Value → Value → Run R)
    → jumps a ≡ ja → ((v : Direct) → x ≡ Some v → ja ≡ 0) → 1 ≤ n → Lands S a block d n ca ra (InA S) → Lands S (b d) (block + ja) d n cb rb (InA S) → ((k : ℕ) → n ≡ suc k → Lands S (b (suc d)) (block + ja) (suc d) k cb rb (InA S))
    → ((v : Direct) → x ≡ Some v → IsDirect S v ra) → ((v : Direct) → y ≡ Some v → IsDirect S v rb) → (quiet ≡ true → IsQuiet rb)
    → ((first : Reg) (second : Operand) (k : ℕ) → IsPair first second → Goes S (tail first second) k d n ct (on_both f) (InOperands S first second) (N first second))
    → Lands S ((operands d quiet x y a b).code ++ tail (operands d quiet x y a b).first (operands d quiet x y a b).second) block d n (ca + (cb + (6 + ct))) (ra >>= λ p. rb >>= λ q. f p q) (N (operands d quiet x y a b).first (operands d quiet x y a b).second)
operands_lands {R} N S tail block d n ja ca cb ct quiet x (Some v) a b ra rb f count none some la lb lb1 kx ky still g =
    lands_within n (ca + (3 + ct)) (omega arith) (omega arith) (in_order_lands f la (ky v refl) (g A (operand_of v) _ (direct_pair v)))
operands_lands {R} N S tail block d zero ja ca cb ct quiet x None a b ra rb f count none some la lb lb1 kx ky still g = absurd (omega (arith, some))
operands_lands {R} N S tail block d (suc n) ja ca cb ct quiet None None a b ra rb f count none some la lb lb1 kx ky still g =
    lands_within (suc n) (ca + (3 + (cb + (3 + ct)))) (omega arith) (omega arith) (waiting_lands f la (at_block (block + ja) (block + jumps a) (ap (λ z. block + z) (sym count)) (lb1 n refl)) (g B (register A) _ tt))
operands_lands {R} N S tail block d (suc n) ja ca cb ct quiet (Some v) None a b ra rb f count none some la lb lb1 kx ky still g = go (quiet || is_steady v) refl
  where
    same : block + ja ≡ block
    same = omega (arith, none v refl)

    turning : (q s : Bool) → quiet ≡ q → is_steady v ≡ s → (q || s) ≡ true → MayTurn v rb
    turning true s e i h = record { quiet = true; steady = λ z. absurd (cc z); still = λ z. still e }
    turning false true e i h = record { quiet = false; steady = λ z. i; still = λ z. absurd (cc z) }
    turning false false e i h = absurd (cc h)

    go : (t : Bool) → (quiet || is_steady v) ≡ t
        → Lands S ((if t then turned v (b d) else waiting d a (b (suc d))).code ++ tail (if t then turned v (b d) else waiting d a (b (suc d))).first (if t then turned v (b d) else waiting d a (b (suc d))).second) block d (suc n) (ca + (cb + (6 + ct))) (ra >>= λ p. rb >>= λ q. f p q) (N (if t then turned v (b d) else waiting d a (b (suc d))).first (if t then turned v (b d) else waiting d a (b (suc d))).second)
    go true e = lands_within (suc n) (cb + (3 + ct)) (omega arith) (omega arith) (turned_lands f (kx v refl) (turning quiet (is_steady v) refl refl e) (at_block (block + ja) block same lb) (g B (register A) _ tt))
    go false e = lands_within (suc n) (ca + (3 + (cb + (3 + ct)))) (omega arith) (omega arith) (waiting_lands f la (at_block (block + ja) (block + jumps a) (ap (λ z. block + z) (sym count)) (lb1 n refl)) (g B (register A) _ tt))
