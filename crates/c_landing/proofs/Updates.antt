-- Compound assignments and steps.
use Rattle.std.proofs.Common.{◌≡◌, ℕ, suc, ◌+◌, ◌^◌, ◌<◌, ◌≤◌, true, List, [], ◌∷◌, ◌++◌, length, Option, Some, None, refl, sym, ap, ◌∙◌, subst, arith, append_assoc, length-append}
use Rattle.word24.specs.Word.{sum_word, difference_word}
use Rattle.eir_core.specs.Memory.{word_at}
use Rattle.eir_core.specs.declared.ops.Reg.TheVariants.{A, B, C}
use Rattle.eir_core.specs.declared.ops.Operand.TheVariants.{Reg as register}
use Rattle.eir_core.specs.declared.ops.Op.{Op}
use Rattle.eir_core.specs.declared.ops.Op.TheVariants.{Mov, Add, Sub, Load, Store}
use Rattle.c_syntax.specs.declared.tree.StepOp.{StepOp}
use Rattle.c_syntax.specs.declared.tree.StepOp.TheVariants as step
use Rattle.c_syntax.specs.declared.tree.BinOp.{BinOp}
use Rattle.c_syntax.specs.declared.tree.BinOp.TheVariants as binary
use Rattle.c_types.specs.Types.{CType, Int, Tags}
use Rattle.c_eval.specs.State.{Value, Word, Null, Point, Letter, Function, Missing, Cell, Unset, Holds, State, Outcome, Gives, Ended, Going, Undefined, Run, OtherKind}
use Rattle.c_eval.specs.Run.{◌>>=◌, give}
use Rattle.c_eval.specs.Memory.{Kind, Number, ObjectPointer, FunctionPointer, kind_of, is_of, cell_at, read_cell, load}
use Rattle.c_eval.specs.Operators.{operated, assigned, updated}
use Rattle.c_eval.specs.Eval.{World, step_op, step_value, stepped}
use Rattle.c_place.specs.Code.{jumps}
use Rattle.c_place.specs.Place.{Place, Machine, Stands, behind_all, made_all}
use Rattle.c_place.proofs.Running.{stands_first}
use Rattle.c_lowered.specs.Locations.{Location, Fixed, Framed, Direct, Exactly, Address, Stored}
use Rattle.c_lowered.specs.Operations.{point_to, restore, ready, operand_of, step_by, update_by, update_by_value}
use Rattle.c_lowered.specs.Expressions.{step_back, pointed_by, updated_code}
use Rattle.c_memory.specs.Follows.{fuel_of, here}
use Rattle.c_memory.specs.Lies.{Extent, Means}
use Rattle.c_memory.proofs.Following.{wider}
use Rattle.c_memory.proofs.Lying.{means_later}
use Rattle.c_landing.specs.Landing.{Setting, Ready, Reached, Lands, Goes, InA, PlaceInA, everywhere, GivesStill, location_word, direct_word, NumberIsSmall, IsDirect, IsPointer, IsKnown}
use Rattle.c_landing.specs.Few.{Agrees, IsNarrow, UpdateIsFew}
use Rattle.c_landing.proofs.Stilling.{give_still, undefined_still, unless_still, objects_still, load_still, object_room}
use Rattle.c_landing.proofs.Landing.{F, then_at, then_lands, lands_within}
use Rattle.c_landing.proofs.Pieces.{KeepsFrame, after_still, quiet_then, quiet_follows, ready_length, word_address, with_register}
use Rattle.c_landing.specs.Tails.{IsGiven}
use Rattle.c_landing.proofs.Sums.{sum_gives, difference_gives}
use Rattle.c_landing.proofs.Stores.{StoresAt, assigned_follows, assigned_keeps, At, PlaceWaits, known_then, place_waits}

-- the operators that update a place, on words
abbrev update_word : BinOp → ℕ → ℕ → ℕ
update_word binary.Sub a b = difference_word a b
update_word op a b = sum_word a b

still_both : {A : Type 0} (st : State) (Q R : A → Type 0) (o : Outcome A) → GivesStill st Q o → GivesStill st R o → GivesStill st (λ v. Q v × R v) o
still_both st Q R (Gives v st1) h k = (h.0, (h.1, k.1))
still_both st Q R (Ended st1) h k = h
still_both st Q R (Going st1) h k = h
still_both st Q R (Undefined act st1) h k = h

-- what is read is a value
load_given : (st : State) (kind : Kind) (p : Value) → GivesStill st IsGiven (load kind p st)
unfolding load read_cell
load_given st kind p = objects_still st IsGiven (λ os. read_cell kind (cell_at os p)) (go (cell_at st.objects p))
  where
    of_kind : (kind : Kind) (v : Value) → is_of kind v ≡ true → IsGiven v
    of_kind kind (Word k) e = tt
    of_kind kind Null e = tt
    of_kind kind (Point o k) e = tt
    of_kind kind (Letter f i text k) e = tt
    of_kind kind (Function name) e = tt
    of_kind Number Missing e = absurd (cc e)
    of_kind ObjectPointer Missing e = absurd (cc e)
    of_kind FunctionPointer Missing e = absurd (cc e)

    go : (c : Option Cell) → GivesStill st IsGiven (read_cell kind c st)
    go None = undefined_still st IsGiven _
    go (Some Unset) = undefined_still st IsGiven _
    go (Some (Holds v)) = unless_still st IsGiven (is_of kind v) OtherKind (give v) (λ t. give_still st IsGiven v (of_kind kind v t))

-- the address of a place stands in C
abbrev pub PlaceInC : Setting → Value → List Extent → Machine → Type 0
PlaceInC S p bs m = Means (everywhere S.ground) bs p m.regs.c

-- code that makes of the word at the address in C and another one the new one, in A
record Makes (pre : List Op) (op : BinOp) (m : Machine) (b : ℕ) : Type 0 where
  keeps : KeepsFrame pre
  word : (made_all pre m).regs.a ≡ update_word op (word_at m.memory m.regs.c) b
  address : (made_all pre m).regs.c ≡ m.regs.c

store_c_stores : (m : Machine) → StoresAt (Store A (register C) ∷ []) m m.regs.c
store_c_stores m = record { quiet = (tt, tt); memory = refl; frame = refl; value = refl }

module _ (S : Setting) (w : World) (agrees : Agrees S w) where
  operated_gives : (bs : List Extent) (st : State) (m : Machine) (d n : ℕ) → Ready S bs st m d n → (tags : Tags) (op : BinOp) (t u : CType) (x y : Value) (a b : ℕ) → UpdateIsFew (Some op) → IsNarrow tags t → IsNarrow tags u → Means S.ground bs x a → Means S.ground bs y b
      → GivesStill st (λ v. Means S.ground bs v (update_word op a b)) (operated tags op t u x y st)
  unfolding operated
  operated_gives bs st m d n r tags binary.Add t u x y a b few nt nu mx my = sum_gives S w agrees bs st m d n r tags t u x y a b nt nu mx my
  operated_gives bs st m d n r tags binary.Sub t u x y a b few nt nu mx my = difference_gives S w agrees bs st m d n r tags t u x y a b nt mx my
  operated_gives bs st m d n r tags binary.Or t u x y a b few nt nu mx my = absurd few
  operated_gives bs st m d n r tags binary.And t u x y a b few nt nu mx my = absurd few
  operated_gives bs st m d n r tags binary.BitOr t u x y a b few nt nu mx my = absurd few
  operated_gives bs st m d n r tags binary.BitXor t u x y a b few nt nu mx my = absurd few
  operated_gives bs st m d n r tags binary.BitAnd t u x y a b few nt nu mx my = absurd few
  operated_gives bs st m d n r tags binary.Eq t u x y a b few nt nu mx my = absurd few
  operated_gives bs st m d n r tags binary.Ne t u x y a b few nt nu mx my = absurd few
  operated_gives bs st m d n r tags binary.Lt t u x y a b few nt nu mx my = absurd few
  operated_gives bs st m d n r tags binary.Gt t u x y a b few nt nu mx my = absurd few
  operated_gives bs st m d n r tags binary.Le t u x y a b few nt nu mx my = absurd few
  operated_gives bs st m d n r tags binary.Ge t u x y a b few nt nu mx my = absurd few
  operated_gives bs st m d n r tags binary.Shl t u x y a b few nt nu mx my = absurd few
  operated_gives bs st m d n r tags binary.Shr t u x y a b few nt nu mx my = absurd few
  operated_gives bs st m d n r tags binary.Mul t u x y a b few nt nu mx my = absurd few
  operated_gives bs st m d n r tags binary.Div t u x y a b few nt nu mx my = absurd few
  operated_gives bs st m d n r tags binary.Mod t u x y a b few nt nu mx my = absurd few

  -- a word that was read is a word
  word_small : (bs : List Extent) (st : State) (m : Machine) (d n : ℕ) → Ready S bs st m d n → (x : Value) (a : ℕ) → IsGiven x → Means S.ground bs x a → a < 2 ^ 24
  word_small bs st m d n r (Word k) a i h = omega (arith, h.0, h.1)
  word_small bs st m d n r Null a i h = omega (arith, h)
  word_small bs st m d n r (Point o k) a i h = let b = object_room S.ground bs st.objects m.memory (m.regs.bp + d) o r.lies (omega (arith, h.0, r.lies.seen)) in omega (arith, h.1, h.2, b.1)
  word_small bs st m d n r (Letter f j text k) a i h = let b = agrees.letters f j text h.0 in omega (arith, h.1, h.2, b.1)
  word_small bs st m d n r (Function name) a i h = omega (arith, h.1, agrees.blocks name)
  word_small bs st m d n r Missing a i h = absurd i

  -- the old value, with what is there of it
  abbrev IsOld : List Extent → ℕ → Value → Type 0
  IsOld bs a x = Means S.ground bs x a × IsGiven x

  old_gives : (bs : List Extent) (st : State) (m : Machine) (d n : ℕ) → Ready S bs st m d n → (kind : Kind) (p : Value) → PlaceInC S p bs m → GivesStill st (IsOld bs (word_at m.memory m.regs.c)) (load kind p st)
  old_gives bs st m d n r kind p mp = still_both st _ _ (load kind p st) (load_still S.ground bs st m.memory (m.regs.bp + d) m.regs.bp kind p m.regs.c r.lies r.letters mp) (load_given st kind p)

  -- ---- compound assignments

  updated_follows : (s : Place) (bs : List Extent) (st : State) (m : Machine) (d n : ℕ) (pre : List Op) (tags : Tags) (op : BinOp) (t u : CType) (p y : Value) (b : ℕ) → UpdateIsFew (Some op) → IsNarrow tags t → IsNarrow tags u → Makes pre op m b
      → Stands S.program s (pre ++ Store A (register C) ∷ []) → Ready S bs st m d n → PlaceInC S p bs m → Means S.ground bs y b
      → F S (here s m st) (fuel_of st) (length pre + 1) (updated tags op t u p y st) (Reached S bs st m.memory m.regs.bp d (behind_all s (pre ++ Store A (register C) ∷ [])) (InA S))
  unfolding updated ◌>>=◌
  updated_follows s bs st m d n pre tags op t u p y b few nt nu k stands r mp my =
      let R = Reached S bs st m.memory m.regs.bp d (behind_all s (pre ++ Store A (register C) ∷ [])) (InA S) in
      after_still S s m st (length pre + 1) (load (kind_of t) p st) (λ x. operated tags op t u x y >>= λ v. assigned t p v) (IsOld bs (word_at m.memory m.regs.c)) R (old_gives bs st m d n r (kind_of t) p mp)
      (λ x is q. after_still S s m st (length pre + 1) (operated tags op t u x y st) (λ v. assigned t p v) (λ v. Means S.ground bs v (update_word op (word_at m.memory m.regs.c) b)) R
      (operated_gives bs st m d n r tags op t u x y (word_at m.memory m.regs.c) b few nt nu q.0 my)
      (λ v is2 mv. quiet_then S s bs st m d n pre (Store A (register C) ∷ []) 1 (assigned t p v st) (InA S) k.keeps stands r (λ r1 h1.
      let m1 = made_all pre m in
      assigned_follows S w agrees (behind_all s pre) bs st m1 d n (Store A (register C) ∷ []) t p v m1.regs.c (store_c_stores m1) h1 r1 (subst (λ z. Means (everywhere S.ground) bs p z) (sym k.address) mp) (subst (λ z. Means S.ground bs v z) (sym k.word) mv))))

  -- by a value that needs no evaluation
  abbrev direct_pre : BinOp → Direct → List Op
  direct_pre op v = Load A (register C) ∷ (ready v ++ step_by op A (operand_of v) ∷ [])

  add_made : (v : Direct) (m : Machine) → Makes (Load A (register C) ∷ (ready v ++ Add A (operand_of v) ∷ [])) binary.Add m (direct_word m v)
  add_made (Exactly k) m = record { keeps = record { quiet = (tt, (tt, tt)); memory = λ m. refl; frame = λ m. refl }; word = refl; address = refl }
  add_made (Address k) m = record { keeps = record { quiet = (tt, (tt, (tt, (tt, tt)))); memory = λ m. refl; frame = λ m. refl }; word = refl; address = refl }
  add_made (Stored (Fixed a)) m = record { keeps = record { quiet = (tt, (tt, (tt, tt))); memory = λ m. refl; frame = λ m. refl }; word = refl; address = refl }
  add_made (Stored (Framed k)) m = record { keeps = record { quiet = (tt, (tt, (tt, (tt, (tt, tt))))); memory = λ m. refl; frame = λ m. refl }; word = refl; address = refl }

  sub_made : (v : Direct) (m : Machine) → Makes (Load A (register C) ∷ (ready v ++ Sub A (operand_of v) ∷ [])) binary.Sub m (direct_word m v)
  sub_made (Exactly k) m = record { keeps = record { quiet = (tt, (tt, tt)); memory = λ m. refl; frame = λ m. refl }; word = refl; address = refl }
  sub_made (Address k) m = record { keeps = record { quiet = (tt, (tt, (tt, (tt, tt)))); memory = λ m. refl; frame = λ m. refl }; word = refl; address = refl }
  sub_made (Stored (Fixed a)) m = record { keeps = record { quiet = (tt, (tt, (tt, tt))); memory = λ m. refl; frame = λ m. refl }; word = refl; address = refl }
  sub_made (Stored (Framed k)) m = record { keeps = record { quiet = (tt, (tt, (tt, (tt, (tt, tt))))); memory = λ m. refl; frame = λ m. refl }; word = refl; address = refl }

  direct_made : (op : BinOp) (v : Direct) (m : Machine) → UpdateIsFew (Some op) → Makes (direct_pre op v) op m (direct_word m v)
  direct_made binary.Add v m few = add_made v m
  direct_made binary.Sub v m few = sub_made v m
  direct_made binary.Or v m few = absurd few
  direct_made binary.And v m few = absurd few
  direct_made binary.BitOr v m few = absurd few
  direct_made binary.BitXor v m few = absurd few
  direct_made binary.BitAnd v m few = absurd few
  direct_made binary.Eq v m few = absurd few
  direct_made binary.Ne v m few = absurd few
  direct_made binary.Lt v m few = absurd few
  direct_made binary.Gt v m few = absurd few
  direct_made binary.Le v m few = absurd few
  direct_made binary.Ge v m few = absurd few
  direct_made binary.Shl v m few = absurd few
  direct_made binary.Shr v m few = absurd few
  direct_made binary.Mul v m few = absurd few
  direct_made binary.Div v m few = absurd few
  direct_made binary.Mod v m few = absurd few

  direct_shape : (op : BinOp) (v : Direct) → update_by op v ≡ direct_pre op v ++ Store A (register C) ∷ []
  direct_shape op v = ap (λ z. Load A (register C) ∷ z) (sym (append_assoc (ready v) (step_by op A (operand_of v) ∷ []) (Store A (register C) ∷ [])))

  direct_length : (op : BinOp) (v : Direct) → length (direct_pre op v) ≤ 5
  direct_length op v = omega (arith, ready_length v, length-append (ready v) (step_by op A (operand_of v) ∷ []))

  direct_goes : (tags : Tags) (op : BinOp) (t u : CType) (v : Direct) (rv : Run Value) (block d n : ℕ) → UpdateIsFew (Some op) → IsNarrow tags t → IsNarrow tags u → IsDirect S v rv
      → Goes S (update_by op v) block d n 6 (λ p. rv >>= λ y. updated tags op t u p y) (PlaceInC S) (InA S)
  unfolding ◌>>=◌
  direct_goes tags op t u v rv block d n few nt nu h = subst (λ code. Goes S code block d n 6 (λ p. rv >>= λ y. updated tags op t u p y) (PlaceInC S) (InA S)) (sym (direct_shape op v)) (record {
    at = λ p s bs st m e stands r mp. after_still S s m st 6 (rv st) (λ y. updated tags op t u p y) (λ y. Means S.ground bs y (direct_word m v) × NumberIsSmall y v) (Reached S bs st m.memory m.regs.bp d (behind_all s (direct_pre op v ++ Store A (register C) ∷ [])) (InA S)) (h.at bs st m d n r)
        (λ y is q. wider S.program S.input S.mode (here s m st) (fuel_of st) (length (direct_pre op v) + 1) 6 (updated tags op t u p y st) _ _
        (updated_follows s bs st m d n (direct_pre op v) tags op t u p y (direct_word m v) few nt nu (direct_made op v m few) stands r mp q.0)
        (λ z st1 s1 m1 q. q) (omega (arith, direct_length op v)));
  })

  -- by the value in A
  abbrev value_pre : BinOp → List Op
  value_pre op = Load B (register C) ∷ step_by op B (register A) ∷ Mov A (register B) ∷ []

  value_made : (op : BinOp) (m : Machine) → UpdateIsFew (Some op) → Makes (value_pre op) op m m.regs.a
  value_made binary.Add m few = record { keeps = record { quiet = (tt, (tt, (tt, tt))); memory = λ m. refl; frame = λ m. refl }; word = refl; address = refl }
  value_made binary.Sub m few = record { keeps = record { quiet = (tt, (tt, (tt, tt))); memory = λ m. refl; frame = λ m. refl }; word = refl; address = refl }
  value_made binary.Or m few = absurd few
  value_made binary.And m few = absurd few
  value_made binary.BitOr m few = absurd few
  value_made binary.BitXor m few = absurd few
  value_made binary.BitAnd m few = absurd few
  value_made binary.Eq m few = absurd few
  value_made binary.Ne m few = absurd few
  value_made binary.Lt m few = absurd few
  value_made binary.Gt m few = absurd few
  value_made binary.Le m few = absurd few
  value_made binary.Ge m few = absurd few
  value_made binary.Shl m few = absurd few
  value_made binary.Shr m few = absurd few
  value_made binary.Mul m few = absurd few
  value_made binary.Div m few = absurd few
  value_made binary.Mod m few = absurd few

  -- ---- the address comes into C

  point_made : (l : Location) (m : Machine) → made_all (point_to l) m ≡ with_register m C (location_word m l)
  point_made (Fixed a) m = refl
  point_made (Framed k) m = refl

  point_keeps : (l : Location) → KeepsFrame (point_to l)
  point_keeps (Fixed a) = record { quiet = (tt, tt); memory = λ m. refl; frame = λ m. refl }
  point_keeps (Framed k) = record { quiet = (tt, (tt, tt)); memory = λ m. refl; frame = λ m. refl }

  point_length : (l : Location) → length (point_to l) ≤ 2
  point_length (Fixed a) = omega arith
  point_length (Framed k) = omega arith

  pub pointed_lands : {R : Type 0} {N : R → List Extent → Machine → Type 0} (l : Option Location) (place tail : List Op) (f : Value → Run R) (block d n cp ct : ℕ) (rp : Run Value) → Lands S place block d n cp rp (PlaceInA S) → ((x : Location) → l ≡ Some x → IsKnown S x rp)
      → ((k : ℕ) → Goes S tail k d n ct f (PlaceInC S) N) → Lands S (pointed_by l place ++ tail) block d n (cp + (2 + ct)) (rp >>= f) N
  unfolding ◌>>=◌
  pointed_lands {R} {N} (Some l) place tail f block d n cp ct rp hp kl g = record {
    at = λ s bs st m e stands r. after_still S s m st (cp + (2 + ct)) (rp st) f (λ x. Means (everywhere S.ground) bs x (location_word m l) × IsPointer x) (Reached S bs st m.memory m.regs.bp d (behind_all s (point_to l ++ tail)) N) ((kl l refl).at bs st m d n r)
        (λ p is q. wider S.program S.input S.mode (here s m st) (fuel_of st) (length (point_to l) + ct) (cp + (2 + ct)) (f p st) _ _
        (quiet_then S s bs st m d n (point_to l) tail ct (f p st) N (point_keeps l) stands r (λ r1 h1. (g (behind_all s (point_to l)).block).at p (behind_all s (point_to l)) bs st (made_all (point_to l) m) refl h1 r1
        (subst (λ (z : Machine). Means (everywhere S.ground) bs p z.regs.c) (sym (point_made l m)) q.0)))
        (λ z st1 s1 m1 q. q) (omega (arith, point_length l)));
  }
  pointed_lands {R} {N} None place tail f block d n cp ct rp hp kl g =
      let two : List Op = Mov C (register A) ∷ tail in
      let goes : Goes S two (block + jumps place) d n (1 + ct) f (PlaceInA S) N = record {
        at = λ p s bs st m e stands r mp. quiet_then S s bs st m d n (Mov C (register A) ∷ []) tail ct (f p st) N (record { quiet = (tt, tt); memory = λ m. refl; frame = λ m. refl }) stands r (λ r1 h1.
            (g (behind_all s (Mov C (register A) ∷ [])).block).at p (behind_all s (Mov C (register A) ∷ [])) bs st (made_all (Mov C (register A) ∷ []) m) refl h1 r1 mp);
      } in
      subst (λ code. Lands S code block d n (cp + (2 + ct)) (rp >>= f) N) (sym (append_assoc place (Mov C (register A) ∷ []) tail)) (lands_within n (cp + (1 + ct)) (omega arith) (omega arith) (then_lands hp goes))

  -- ---- a compound assignment

  known_goes : (tags : Tags) (op : BinOp) (t u : CType) (l : Location) (p : Value) (block d n : ℕ) → UpdateIsFew (Some op) → IsNarrow tags t → IsNarrow tags u
      → Goes S (point_to l ++ update_by_value op) block d n 6 (λ y. updated tags op t u p y) (At S w agrees l p) (InA S)
  known_goes tags op t u l p block d n few nt nu = record {
    at = λ y s bs st m e stands r q. wider S.program S.input S.mode (here s m st) (fuel_of st) (length (point_to l) + 4) 6 (updated tags op t u p y st) _ _
        (quiet_then S s bs st m d n (point_to l) (update_by_value op) 4 (updated tags op t u p y st) (InA S) (point_keeps l) stands r (λ r1 h1.
        let m1 = made_all (point_to l) m in
        let made = point_made l m in
        updated_follows (behind_all s (point_to l)) bs st m1 d n (value_pre op) tags op t u p y m1.regs.a few nt nu (value_made op m1 few) h1 r1
        (subst (λ (z : Machine). Means (everywhere S.ground) bs p z.regs.c) (sym made) q.1) (subst (λ (z : Machine). Means S.ground bs y z.regs.a) (sym made) q.0)))
        (λ z st1 s1 m1 q. q) (omega (arith, point_length l));
  }

  restore_c_made : (m : Machine) (d : ℕ) → m.regs.bp + d < 2 ^ 24 → made_all (restore C d) m ≡ with_register m C (word_at m.memory (m.regs.bp + d))
  restore_c_made m d lt = ap (λ c. with_register m C (word_at m.memory c)) (word_address m d lt)

  waited_goes : (tags : Tags) (op : BinOp) (t u : CType) (p : Value) (block d n : ℕ) → UpdateIsFew (Some op) → IsNarrow tags t → IsNarrow tags u
      → Goes S (restore C d ++ update_by_value op) block d (suc n) 7 (λ y. updated tags op t u p y) (PlaceWaits S w agrees d p) (InA S)
  waited_goes tags op t u p block d n few nt nu = record {
    at = λ y s bs st m e stands r q.
        (let small : m.regs.bp + d < 2 ^ 24 = omega (arith, r.room, r.fits) in
        quiet_then S s bs st m d (suc n) (restore C d) (update_by_value op) 4 (updated tags op t u p y st) (InA S) (record { quiet = (tt, (tt, (tt, tt))); memory = λ m. refl; frame = λ m. refl }) stands r (λ r1 h1.
        let m1 = made_all (restore C d) m in
        let made = restore_c_made m d small in
        updated_follows (behind_all s (restore C d)) bs st m1 d (suc n) (value_pre op) tags op t u p y m1.regs.a few nt nu (value_made op m1 few) h1 r1
        (subst (λ (z : Machine). Means (everywhere S.ground) bs p z.regs.c) (sym made) q.1) (subst (λ (z : Machine). Means S.ground bs y z.regs.a) (sym made) q.0)));
  }

  pub updated_lands : (tags : Tags) (op : BinOp) (t u : CType) (block d n cp cv : ℕ) (l : Option Location) (v : Option Direct) (place : List Op) (value : ℕ → List Op) (rp rv : Run Value) → UpdateIsFew (Some op) → IsNarrow tags t → IsNarrow tags u
      → Lands S place block d (suc n) cp rp (PlaceInA S) → ((x : Location) → l ≡ Some x → Lands S (value d) block d (suc n) cv rv (InA S)) → Lands S (value (suc d)) (block + jumps place) (suc d) n cv rv (InA S) → ((x : Location) → l ≡ Some x → IsKnown S x rp) → ((x : Direct) → v ≡ Some x → IsDirect S x rv)
      → Lands S (updated_code op d l v place value) block d (suc n) (cp + (cv + 10)) (rp >>= λ p. rv >>= λ y. updated tags op t u p y) (InA S)
  updated_lands tags op t u block d n cp cv l (Some x) place value rp rv few nt nu hp h1 h2 kl kv =
      lands_within (suc n) (cp + (2 + 6)) (omega arith) (omega arith) (pointed_lands l place (update_by op x) (λ p. rv >>= λ y. updated tags op t u p y) block d (suc n) cp 6 rp hp kl (λ k. direct_goes tags op t u x rv k d (suc n) few nt nu (kv x refl)))
  updated_lands tags op t u block d n cp cv (Some x) None place value rp rv few nt nu hp h1 h2 kl kv =
      lands_within (suc n) (cv + 6) (omega arith) (omega arith) (known_then S w agrees x (value d) (point_to x ++ update_by_value op) (λ p y. updated tags op t u p y) block d (suc n) cv 6 rp rv (kl x refl) (h1 x refl) (λ p. known_goes tags op t u x p (block + jumps (value d)) d (suc n) few nt nu))
  updated_lands tags op t u block d n cp cv None None place value rp rv few nt nu hp h1 h2 kl kv =
      lands_within (suc n) (cp + (3 + (cv + 7))) (omega arith) (omega arith)
      (then_lands hp (place_waits S w agrees (value (suc d)) (restore C d ++ update_by_value op) rv (λ p y. updated tags op t u p y) (block + jumps place) d n cv 7 h2 (λ p. waited_goes tags op t u p (block + jumps place + jumps (value (suc d))) d n few nt nu)))

  -- ---- steps

  abbrev back_word : StepOp → ℕ → ℕ → ℕ
  back_word step.PreInc old new = new
  back_word step.PreDec old new = new
  back_word step.PostInc old new = old
  back_word step.PostDec old new = old

  step_back_keeps : (op : StepOp) → KeepsFrame (step_back op)
  step_back_keeps step.PreInc = record { quiet = tt; memory = λ m. refl; frame = λ m. refl }
  step_back_keeps step.PreDec = record { quiet = tt; memory = λ m. refl; frame = λ m. refl }
  step_back_keeps step.PostInc = record { quiet = (tt, tt); memory = λ m. refl; frame = λ m. refl }
  step_back_keeps step.PostDec = record { quiet = (tt, tt); memory = λ m. refl; frame = λ m. refl }

  step_back_length : (op : StepOp) → length (step_back op) ≤ 1
  step_back_length step.PreInc = omega arith
  step_back_length step.PreDec = omega arith
  step_back_length step.PostInc = omega arith
  step_back_length step.PostDec = omega arith

  step_back_word : (op : StepOp) (m : Machine) (a : ℕ) → a < 2 ^ 24 → m.regs.a ≡ update_word (step_op op) a 1 → (made_all (step_back op) m).regs.a ≡ back_word op a (update_word (step_op op) a 1)
  step_back_word step.PreInc m a lt e = e
  step_back_word step.PreDec m a lt e = e
  step_back_word step.PostInc m a lt e = omega (arith, e, lt)
  step_back_word step.PostDec m a lt e = omega (arith, e, lt)

  step_means : (op : StepOp) (bs : List Extent) (old new : Value) (a : ℕ) → Means S.ground bs old a → Means S.ground bs new (update_word (step_op op) a 1) → Means S.ground bs (step_value op old new) (back_word op a (update_word (step_op op) a 1))
  step_means step.PreInc bs old new a ho hn = hn
  step_means step.PreDec bs old new a ho hn = hn
  step_means step.PostInc bs old new a ho hn = ho
  step_means step.PostDec bs old new a ho hn = ho

  step_few : (op : StepOp) → UpdateIsFew (Some (step_op op))
  step_few step.PreInc = tt
  step_few step.PreDec = tt
  step_few step.PostInc = tt
  step_few step.PostDec = tt

  back_goes : (op : StepOp) (t : CType) (bs0 : List Extent) (old new : Value) (a : ℕ) (block d n : ℕ) → a < 2 ^ 24
      → Goes {A = Value} S (step_back op) block d n 1 (λ z. give (step_value op old new)) (λ z bs m. (m.regs.a ≡ update_word (step_op op) a 1) × Means S.ground bs old a × Means S.ground bs new (update_word (step_op op) a 1)) (InA S)
  back_goes op t bs0 old new a block d n lt = record {
    at = λ z s bs st m e stands r q.
        wider S.program S.input S.mode (here s m st) (fuel_of st) (length (step_back op)) 1 (give (step_value op old new) st) _ _
        (quiet_follows S s bs st m d n (step_back op) (give (step_value op old new) st) (InA S) (step_back_keeps op) stands r
        (give_still st (λ v. InA S v bs (made_all (step_back op) m)) (step_value op old new) (subst (λ c. Means S.ground bs (step_value op old new) c) (sym (step_back_word op m a lt q.0)) (step_means op bs old new a q.1 q.2))))
        (λ v st1 s1 m1 q. q) (step_back_length op);
  }

  step_goes : (tags : Tags) (op : StepOp) (t : CType) (block d n : ℕ) → IsNarrow tags t
      → Goes S (update_by (step_op op) (Exactly 1) ++ step_back op) block d n 4 (λ p. load (kind_of t) p >>= λ old. operated tags (step_op op) t Int old (Word 1) >>= λ new. assigned t p new >>= λ z. give (step_value op old new)) (PlaceInC S) (InA S)
  unfolding ◌>>=◌
  step_goes tags op t block d n nt = record {
    at = λ p s bs st m e stands r mp.
        (let a = word_at m.memory m.regs.c in
        let pre = direct_pre (step_op op) (Exactly 1) in
        let all = update_by (step_op op) (Exactly 1) ++ step_back op in
        let R = Reached S bs st m.memory m.regs.bp d (behind_all s all) (InA S) in
        let k = direct_made (step_op op) (Exactly 1) m (step_few op) in
        after_still S s m st 4 (load (kind_of t) p st) (λ old. operated tags (step_op op) t Int old (Word 1) >>= λ new. assigned t p new >>= λ z. give (step_value op old new)) (IsOld bs a) R (old_gives bs st m d n r (kind_of t) p mp)
        (λ old is q. after_still S s m st 4 (operated tags (step_op op) t Int old (Word 1) st) (λ new. assigned t p new >>= λ z. give (step_value op old new)) (λ v. Means S.ground bs v (update_word (step_op op) a 1)) R
        (operated_gives bs st m d n r tags (step_op op) t Int old (Word 1) a 1 (step_few op) nt (λ f. absurd (cc f)) q.0 (refl, omega arith))
        (λ new is2 mv. quiet_then S s bs st m d n pre (Store A (register C) ∷ step_back op) 2 ((assigned t p new >>= λ z. give (step_value op old new)) st) (InA S) k.keeps stands r (λ r1 h1.
        let m1 = made_all pre m in
        let s1 = behind_all s pre in
        let small = word_small bs st m d n r old a q.1 q.0 in
        then_at S (Store A (register C) ∷ []) (step_back op) s1.block d n 1 1 (assigned t p new) (λ z. give (step_value op old new))
        (λ z bs2 m2. (m2.regs.a ≡ update_word (step_op op) a 1) × Means S.ground bs2 old a × Means S.ground bs2 new (update_word (step_op op) a 1)) (InA S) (back_goes op t bs old new a _ d n small) s1 bs st m1 refl h1 r1
        (wider S.program S.input S.mode (here s1 m1 st) (fuel_of st) 1 1 (assigned t p new st) _ _
        (assigned_keeps S w agrees s1 bs st m1 d n (Store A (register C) ∷ []) t p new m1.regs.c (store_c_stores m1) (stands_first S.program s1 (Store A (register C) ∷ []) (step_back op) h1) r1 (subst (λ z. Means (everywhere S.ground) bs p z) (sym k.address) mp) (subst (λ z. Means S.ground bs new z) (sym k.word) mv))
        (λ v st2 s2 m2 z. record { place = z.place; bases = z.bases; left = z.left; means = (z.means ∙ k.word, means_later S.ground old a r1.lies.seen z.left.post q.0, means_later S.ground new _ r1.lies.seen z.left.post mv) }) (omega arith))))));
  }

  pub stepped_lands : (tags : Tags) (op : StepOp) (t : CType) (block d n cp : ℕ) (l : Option Location) (place : List Op) (rp : Run Value) → IsNarrow tags t → Lands S place block d n cp rp (PlaceInA S) → ((x : Location) → l ≡ Some x → IsKnown S x rp)
      → Lands S (pointed_by l place ++ (update_by (step_op op) (Exactly 1) ++ step_back op)) block d n (cp + 6) (stepped w tags op t rp) (InA S)
  unfolding stepped
  stepped_lands tags op t block d n cp l place rp nt hp kl = pointed_lands l place (update_by (step_op op) (Exactly 1) ++ step_back op) _ block d n cp 4 rp hp kl (λ k. step_goes tags op t k d n nt)
