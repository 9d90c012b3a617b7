-- Values and places that need no evaluation.
use Rattle.std.proofs.Common.{◌≡◌, ℕ, ◌+◌, ◌-◌, ◌%◌, ◌^◌, ◌<◌, Bool, true, false, List, [], ◌∷◌, length, Option, Some, None, refl, sym, ap, ◌∙◌, subst, arith, if◌then◌else◌}
use Rattle.std.specs.Prelude.{pos, neg_ℤ}
use Rattle.std.specs.Option.{option_map, option_and_then}
use Rattle.std.specs.Str.{bytes_eq}
use Rattle.c_syntax.specs.Plain.{CExpr, Number, Str, Null, Var, Unary, Step, Binary, Assign, Cond, Comma, Cast, SizeTy, SizeOf, Index, Call, Member, Arrow}
use Rattle.c_syntax.specs.declared.tree.UnOp.TheVariants as unary
use Rattle.c_syntax.specs.Words.{meaning}
use Rattle.c_types.specs.Types as type
use Rattle.c_types.specs.Types.{CType, is_void}
use Rattle.c_types.specs.Constants.{wrapped}
use Rattle.c_types.specs.Scope.{Entity, Object as TheObject, Routine, BuiltIn, Printf, entity_of}
use Rattle.c_types.specs.Expressions.{names_function}
use Rattle.c_eval.specs.State as value
use Rattle.c_eval.specs.State.{Value, State, Run}
use Rattle.c_eval.specs.Run.{◌>>=◌, give}
use Rattle.c_eval.specs.Memory.{member_at}
use Rattle.c_eval.specs.Operators.{used, of_word, on_word, word_result, pointer_to, value_at}
use Rattle.c_eval.specs.Environment.{Environment, type_in, member_offset}
use Rattle.c_eval.specs.LiteralsIn.{literals_in}
use Rattle.c_eval.specs.Eval.{World, place_named, value_named, unary_value, cast_value, value_of, place_of}
use Rattle.c_place.specs.Place.{Machine}
use Rattle.c_lowered.specs.Locations.{Location, Fixed, Framed, shifted, Linking, located, Direct, Exactly, Address, Stored, address_of, held, named_direct, known_place, negated, address_direct, direct}
use Rattle.c_memory.specs.Lies.{Extent, base, Ground, Means}
use Rattle.c_landing.specs.Landing.{Names, ObjectLies, NamesLie, address, placed, Setting, Ready, GivesStill, everywhere, location_word, direct_word, NumberIsSmall, IsDirect, IsPointer, IsKnown}
use Rattle.c_landing.specs.Few.{Agrees, LiteralsAre, NameIsFew, IsFew}
use Rattle.c_landing.proofs.Stilling.{still_then, still_wider, give_still, undefined_still, used_still, fetched_word, value_at_still, member_still, object_room, means_whole}

-- ---- names

pub name_lies : (bs : List Extent) (bp : ℕ) (w : Linking) (xs ys : Names) (name : List ℕ) (o : ℕ) → NamesLie bs bp w.bases xs ys → meaning ys name ≡ Some (Some o) → (o < length bs) × (base bs o ≡ address bp (located w (meaning xs name)))
name_lies bs bp w [] [] name o h e = absurd (cc e)
name_lies bs bp w [] (y ∷ ys) name o h e = absurd h
name_lies bs bp w (x ∷ xs) [] name o h e = absurd (cc e)
name_lies bs bp w (x ∷ xs) (y ∷ ys) name o h e = go (λ g. name_lies bs bp w xs ys name o h.2 g) (bytes_eq name y.0) refl
  where
    one : (i j : Option ℕ) → ObjectLies bs bp w.bases i j → Some j ≡ Some (Some o) → (o < length bs) × (base bs o ≡ address bp (located w (Some i)))
    one i None h f = absurd (cc f)
    one None (Some q) h f = absurd h
    one (Some n) (Some q) h f = let same : q ≡ o = cc f in (subst (λ z. z < length bs) same h.0, ap (base bs) (sym same) ∙ h.1)

    go : (meaning ys name ≡ Some (Some o) → (o < length bs) × (base bs o ≡ address bp (located w (meaning xs name)))) → (b : Bool) → bytes_eq name y.0 ≡ b
        → (o < length bs) × (base bs o ≡ address bp (located w (if bytes_eq name x.0 then Some x.1 else meaning xs name)))
    go k true f =
        let g : bytes_eq name x.0 ≡ true = ap (bytes_eq name) h.0 ∙ f in
        rw g (one x.1 y.1 h.1 (sym (ap (λ (t : Bool). if t then Some y.1 else meaning ys name) f) ∙ e))
    go k false f =
        let g : bytes_eq name x.0 ≡ false = ap (bytes_eq name) h.0 ∙ f in
        rw g (k (sym (ap (λ (t : Bool). if t then Some y.1 else meaning ys name) f) ∙ e))

-- what the code of a location comes to
location_is : (m : Machine) (l : Location) (b : ℕ) → b ≡ address m.regs.bp l → b < 2 ^ 24 → location_word m l ≡ b
location_is m (Fixed a) b e lt = omega (arith, e, lt)
location_is m (Framed k) b e lt = omega (arith, e, lt)

-- and that of one shifted
location_shifted : (m : Machine) (k : ℕ) (l : Location) → location_word m (shifted k l) ≡ (location_word m l + k) % 2 ^ 24
location_shifted m k (Fixed a) = omega arith
location_shifted m k (Framed j) = omega arith

pub name_known : (S : Setting) (name : List ℕ) → IsKnown S (located S.linking (meaning S.coded name)) (place_named (meaning S.named name))
unfolding place_named
name_known S name = record { at = λ bs st m d n r. go bs st m d n r (meaning S.named name) refl }
  where
    go : (bs : List Extent) (st : State) (m : Machine) (d n : ℕ) → Ready S bs st m d n → (x : Option (Option ℕ)) → meaning S.named name ≡ x
        → GivesStill st (λ p. Means (everywhere S.ground) bs p (location_word m (located S.linking (meaning S.coded name))) × IsPointer p) (place_named x st)
    go bs st m d n r None e = undefined_still st _ _
    go bs st m d n r (Some None) e = undefined_still st _ _
    go bs st m d n r (Some (Some o)) e =
        let f = name_lies bs m.regs.bp S.linking S.coded S.named name o r.names e in
        let room = object_room S.ground bs st.objects m.memory (m.regs.bp + d) o r.lies f.0 in
        let word = location_is m (located S.linking (meaning S.coded name)) (base bs o) f.1 (omega (arith, room.1)) in
        give_still st _ (value.Point o 0) ((f.0, omega arith, omega (arith, word)), tt)

-- ---- values of places

held_word : (m : Machine) (t : CType) (l : Location) (v : Direct) → held t l ≡ Some v → fetched_word m.memory t (location_word m l) ≡ direct_word m v
held_word m (type.Array t n) l v e = of_address l v e
  where
    of_address : (l : Location) (v : Direct) → Some (address_of l) ≡ Some v → location_word m l ≡ direct_word m v
    of_address (Fixed a) v e = let same : Exactly a ≡ v = cc e in ap (direct_word m) same
    of_address (Framed k) v e = let same : Address k ≡ v = cc e in ap (direct_word m) same
held_word m (type.Struct tag) l v e = absurd (cc e)
held_word m type.Void l v e = let same : Stored l ≡ v = cc e in ap (direct_word m) same
held_word m type.Int l v e = let same : Stored l ≡ v = cc e in ap (direct_word m) same
held_word m type.Unsigned l v e = let same : Stored l ≡ v = cc e in ap (direct_word m) same
held_word m type.Char l v e = let same : Stored l ≡ v = cc e in ap (direct_word m) same
held_word m type.UChar l v e = let same : Stored l ≡ v = cc e in ap (direct_word m) same
held_word m type.Null l v e = let same : Stored l ≡ v = cc e in ap (direct_word m) same
held_word m (type.Pointer t) l v e = let same : Stored l ≡ v = cc e in ap (direct_word m) same
held_word m (type.Function t ts) l v e = let same : Stored l ≡ v = cc e in ap (direct_word m) same

pointer_small : (x : Value) (v : Direct) → IsPointer x → NumberIsSmall x v
pointer_small (value.Point o k) v h = tt
pointer_small (value.Letter f i text k) v h = tt
pointer_small (value.Word n) v h = absurd h
pointer_small value.Null v h = absurd h
pointer_small (value.Function name) v h = absurd h
pointer_small value.Missing v h = absurd h

stored_small : (x : Value) (l : Location) → NumberIsSmall x (Stored l)
stored_small (value.Point o k) l = tt
stored_small (value.Letter f i text k) l = tt
stored_small (value.Word n) l = tt
stored_small value.Null l = tt
stored_small (value.Function name) l = tt
stored_small value.Missing l = tt

-- a literal that stands first
first_text : (g : Ground) (owner : Option (List ℕ)) (text : List ℕ) (texts : List (List ℕ)) (before : ℕ) → LiteralsAre g owner (text ∷ texts) before → g.text owner before ≡ Some text
first_text g owner text texts before ls = subst (λ z. g.text owner z ≡ Some text) (omega arith) (ls 0 text refl)

module _ (S : Setting) (w : World) (agrees : Agrees S w) where
  -- what a known place holds
  held_direct : (l : Location) (run : Run Value) (t : CType) (v : Direct) → IsKnown S l run → held t l ≡ Some v → IsDirect S v (run >>= value_at w.inner t)
  unfolding value_at pointer_to
  held_direct l run t v h e = record {
    at = λ bs st m d n r. still_then st _ _ run (value_at w.inner t) (h.at bs st m d n r) (λ p q.
        let word = held_word m t l v e in
        let P : ℕ → Type 0 = λ z. GivesStill st (λ x. Means S.ground bs x z × NumberIsSmall x v) (value_at w.inner t p st) in
        subst P word (by_type bs st m d n r t p q e));
  }
    where
      plainly : (bs : List Extent) (st : State) (m : Machine) (d n : ℕ) → Ready S bs st m d n → (t : CType) (p : Value) → Means (everywhere S.ground) bs p (location_word m l) × IsPointer p → Stored l ≡ v
          → GivesStill st (λ x. Means S.ground bs x (fetched_word m.memory t (location_word m l)) × NumberIsSmall x v) (value_at w.inner t p st)
      plainly bs st m d n r t p q same =
          still_wider st _ _ (value_at w.inner t p st) (value_at_still S.ground bs st m.memory (m.regs.bp + d) m.regs.bp w.inner t p (location_word m l) agrees.reach r.lies r.letters q.0) (λ x k. (k, subst (λ z. NumberIsSmall x z) same (stored_small x l)))

      array : (bs : List Extent) (st : State) (m : Machine) (inner : Bool) → (w.inner ≡ inner) → (p : Value) → Means (everywhere S.ground) bs p (location_word m l) × IsPointer p
          → GivesStill st (λ x. Means S.ground bs x (location_word m l) × NumberIsSmall x v) (pointer_to inner p st)
      array bs st m true i p q = undefined_still st _ _
      array bs st m false i p q = give_still st _ p (means_whole S.ground bs p (location_word m l) (agrees.reach i) q.0, pointer_small p v q.1)

      by_type : (bs : List Extent) (st : State) (m : Machine) (d n : ℕ) → Ready S bs st m d n → (t : CType) (p : Value) → Means (everywhere S.ground) bs p (location_word m l) × IsPointer p → held t l ≡ Some v
          → GivesStill st (λ x. Means S.ground bs x (fetched_word m.memory t (location_word m l)) × NumberIsSmall x v) (value_at w.inner t p st)
      by_type bs st m d n r (type.Array t k) p q e = array bs st m w.inner refl p q
      by_type bs st m d n r (type.Struct tag) p q e = absurd (cc e)
      by_type bs st m d n r type.Void p q e = plainly bs st m d n r type.Void p q (cc e)
      by_type bs st m d n r type.Int p q e = plainly bs st m d n r type.Int p q (cc e)
      by_type bs st m d n r type.Unsigned p q e = plainly bs st m d n r type.Unsigned p q (cc e)
      by_type bs st m d n r type.Char p q e = plainly bs st m d n r type.Char p q (cc e)
      by_type bs st m d n r type.UChar p q e = plainly bs st m d n r type.UChar p q (cc e)
      by_type bs st m d n r type.Null p q e = plainly bs st m d n r type.Null p q (cc e)
      by_type bs st m d n r (type.Pointer t) p q e = plainly bs st m d n r (type.Pointer t) p q (cc e)
      by_type bs st m d n r (type.Function t ts) p q e = plainly bs st m d n r (type.Function t ts) p q (cc e)

  function_direct : (name : List ℕ) (v : Direct) → S.ground.valued name ≡ true → Some (Exactly (S.linking.entry name)) ≡ Some v → IsDirect S v (give (value.Function name))
  function_direct name v is e = record {
    at = λ bs st m d n r.
        (let same : Exactly (S.linking.entry name) ≡ v = cc e in
        subst (λ (z : Direct). GivesStill st (λ x. Means S.ground bs x (direct_word m z) × NumberIsSmall x z) (give (value.Function name) st)) same
        (give_still st _ (value.Function name) ((is, omega (arith, agrees.blocks name, agrees.entries name)), tt)));
  }

  named : (here : Environment) (i o : ℕ) (name : List ℕ) (x : Option Entity) (v : Direct) → NameIsFew S.ground.valued name x → named_direct S.linking (placed S.coded i here) name x ≡ Some v → IsDirect S v (value_named w (placed S.named o here) name x)
  unfolding value_named
  named here i o name (Some (TheObject t)) v few e = held_direct (located S.linking (meaning S.coded name)) (place_named (meaning S.named name)) t v (name_known S name) e
  named here i o name (Some (Routine t begun)) v few e = function_direct name v few e
  named here i o name (Some (BuiltIn t)) v few e = function_direct name v few e
  named here i o name (Some Printf) v few e = function_direct name v few e
  named here i o name None v few e = function_direct name v few e

  -- a constant
  number_direct : (n : ℕ) (v : Direct) → Some (Exactly (n % 2 ^ 24)) ≡ Some v → IsDirect S v (give (value.Word (n % 2 ^ 24)))
  number_direct n v e = record {
    at = λ bs st m d k r.
        (let same : Exactly (n % 2 ^ 24) ≡ v = cc e in
        subst (λ (z : Direct). GivesStill st (λ x. Means S.ground bs x (direct_word m z) × NumberIsSmall x z) (give (value.Word (n % 2 ^ 24)) st)) same
        (give_still st _ (value.Word (n % 2 ^ 24)) ((omega arith, omega arith), omega arith)));
  }

  null_direct : (v : Direct) → Some (Exactly 0) ≡ Some v → IsDirect S v (give value.Null)
  null_direct v e = record {
    at = λ bs st m d k r.
        (let same : Exactly 0 ≡ v = cc e in
        subst (λ (z : Direct). GivesStill st (λ x. Means S.ground bs x (direct_word m z) × NumberIsSmall x z) (give value.Null st)) same (give_still st _ value.Null (refl, tt)));
  }

  -- a string literal, by the number that it has in its function
  literal_word : (number : ℕ) (text : List ℕ) → S.ground.text w.owner number ≡ Some text → S.linking.literal S.linking.owner number % 2 ^ 24 ≡ S.ground.literal w.owner number + 0
  literal_word number text h =
      let room = agrees.letters w.owner number text h in
      let same : S.ground.literal w.owner number ≡ S.linking.literal S.linking.owner number = agrees.literals w.owner number ∙ ap (λ z. S.linking.literal z number) agrees.owner in
      omega (arith, room.1, same)

  literal_known : (number : ℕ) (text : List ℕ) (l : Location) → S.ground.text w.owner number ≡ Some text → Some (Fixed (S.linking.literal S.linking.owner number)) ≡ Some l → IsKnown S l (give (value.Letter w.owner number text 0))
  literal_known number text l h e = record {
    at = λ bs st m d k r.
        (let same : Fixed (S.linking.literal S.linking.owner number) ≡ l = cc e in
        subst (λ (z : Location). GivesStill st (λ x. Means (everywhere S.ground) bs x (location_word m z) × IsPointer x) (give (value.Letter w.owner number text 0) st)) same
        (give_still st _ (value.Letter w.owner number text 0) ((h, omega arith, literal_word number text h), tt)));
  }

  literal_direct : (number : ℕ) (text : List ℕ) (v : Direct) → S.ground.text w.owner number ≡ Some text → Some (Exactly (S.linking.literal S.linking.owner number)) ≡ Some v → IsDirect S v (give (value.Letter w.owner number text 0))
  literal_direct number text v h e = record {
    at = λ bs st m d k r.
        (let same : Exactly (S.linking.literal S.linking.owner number) ≡ v = cc e in
        subst (λ (z : Direct). GivesStill st (λ x. Means S.ground bs x (direct_word m z) × NumberIsSmall x z) (give (value.Letter w.owner number text 0) st)) same
        (give_still st _ (value.Letter w.owner number text 0) ((h, omega arith, literal_word number text h), tt)));
  }

  used_direct : (v : Direct) (run : Run Value) → IsDirect S v run → IsDirect S v (run >>= used)
  used_direct v run h = record { at = λ bs st m d n r. still_then st _ _ run used (h.at bs st m d n r) (λ x q. used_still st _ x q) }

  -- the value less than nothing
  negated_direct : (a : Direct) (v : Direct) (run : Run Value) → IsDirect S a run → negated a ≡ Some v → IsDirect S v (run >>= on_word unary.Minus)
  unfolding on_word of_word word_result
  negated_direct (Address k) v run h e = absurd (cc e)
  negated_direct (Stored l) v run h e = absurd (cc e)
  negated_direct (Exactly n) v run h e = record { at = λ bs st m d k r. still_then st _ _ run (on_word unary.Minus) (h.at bs st m d k r) (λ x q. go bs st m x q.0 q.1) }
    where
      same : Exactly ((2 ^ 24 - n % 2 ^ 24) % 2 ^ 24) ≡ v
      same = cc e

      turned : (x : ℕ) → x ≡ n → n < 2 ^ 24 → (2 ^ 24 - n % 2 ^ 24) % 2 ^ 24 % 2 ^ 24 ≡ wrapped (neg_ℤ (pos x))
      turned x e lt = subst (λ z. (2 ^ 24 - z % 2 ^ 24) % 2 ^ 24 % 2 ^ 24 ≡ wrapped (neg_ℤ (pos x))) e (grind arith)

      small : (x : ℕ) → wrapped (neg_ℤ (pos x)) < 2 ^ 24
      small x = grind arith

      go : (bs : List Extent) (st : State) (m : Machine) (x : Value) → Means S.ground bs x (n % 2 ^ 24) → NumberIsSmall x (Exactly n) → GivesStill st (λ y. Means S.ground bs y (direct_word m v) × NumberIsSmall y v) (on_word unary.Minus x st)
      go bs st m (value.Word x) q lt =
          subst (λ (z : Direct). GivesStill st (λ y. Means S.ground bs y (direct_word m z) × NumberIsSmall y z) (give (value.Word (wrapped (neg_ℤ (pos x)))) st)) same
          (give_still st _ (value.Word (wrapped (neg_ℤ (pos x)))) ((turned x (omega (arith, q.0, lt)) lt, small x), omega arith))
      go bs st m value.Null q lt = undefined_still st _ _
      go bs st m (value.Point o k) q lt = undefined_still st _ _
      go bs st m (value.Letter f i text k) q lt = undefined_still st _ _
      go bs st m (value.Function name) q lt = undefined_still st _ _
      go bs st m value.Missing q lt = undefined_still st _ _

  cast_direct : (t : CType) (v : Direct) (run : Run Value) → IsDirect S v run → IsDirect S v (cast_value t run)
  unfolding cast_value
  cast_direct t v run h = go (is_void t)
    where
      missing_small : (z : Direct) → NumberIsSmall value.Missing z
      missing_small z = tt

      go : (b : Bool) → IsDirect S v (if b then (run >>= λ _. give value.Missing) else (run >>= used))
      go true = record { at = λ bs st m d n r. still_then st _ _ run (λ _. give value.Missing) (h.at bs st m d n r) (λ x q. give_still st _ value.Missing (tt, missing_small v)) }
      go false = used_direct v run h

  -- the address of a known place
  pointer_direct : (l : Location) (run : Run Value) (v : Direct) → IsKnown S l run → Some (address_of l) ≡ Some v → IsDirect S v (run >>= pointer_to w.inner)
  unfolding pointer_to
  pointer_direct l run v h e = record { at = λ bs st m d n r. still_then st _ _ run (pointer_to w.inner) (h.at bs st m d n r) (λ p q. go bs st m w.inner refl p q) }
    where
      word : (m : Machine) (l : Location) → Some (address_of l) ≡ Some v → location_word m l ≡ direct_word m v
      word m (Fixed a) e = let same : Exactly a ≡ v = cc e in ap (direct_word m) same
      word m (Framed k) e = let same : Address k ≡ v = cc e in ap (direct_word m) same

      go : (bs : List Extent) (st : State) (m : Machine) (inner : Bool) → w.inner ≡ inner → (p : Value) → Means (everywhere S.ground) bs p (location_word m l) × IsPointer p → GivesStill st (λ x. Means S.ground bs x (direct_word m v) × NumberIsSmall x v) (pointer_to inner p st)
      go bs st m true i p q = undefined_still st _ _
      go bs st m false i p q = give_still st _ p (subst (λ z. Means S.ground bs p z) (word m l e) (means_whole S.ground bs p (location_word m l) (agrees.reach i) q.0), pointer_small p v q.1)

  member_known : (k : ℕ) (l : Location) (run : Run Value) → IsKnown S l run → IsKnown S (shifted k l) (run >>= member_at k)
  member_known k l run h = record {
    at = λ bs st m d n r. still_then st _ _ run (member_at k) (h.at bs st m d n r) (λ p q.
        subst (λ z. GivesStill st (λ x. Means (everywhere S.ground) bs x z × IsPointer x) (member_at k p st)) (sym (location_shifted m k l))
        (still_wider st _ _ (member_at k p st) (member_still S.ground bs st m.memory (m.regs.bp + d) k p (location_word m l) (λ f i text e. (agrees.letters f i text e).1) r.lies q.0) (λ x z. z.0)));
  }

  -- from what holds of the operand as a value and as a place
  abbrev ValueIs : Option Direct → Run Value → Type 0
  ValueIs x run = (v : Direct) → x ≡ Some v → IsDirect S v run

  abbrev PlaceIs : Option Location → Run Value → Type 0
  PlaceIs x run = (l : Location) → x ≡ Some l → IsKnown S l run

  minus : (x : Option Direct) (run : Run Value) → ValueIs x run → ValueIs (option_and_then negated x) (run >>= used >>= on_word unary.Minus)
  minus None run h v e = absurd (cc e)
  minus (Some x) run h v e = negated_direct x v _ (used_direct x run (h x refl)) e

  address_known : (x : Option Location) (run : Run Value) → PlaceIs x run → ValueIs (option_map address_of x) (run >>= pointer_to w.inner)
  address_known None run h v e = absurd (cc e)
  address_known (Some l) run h v e = pointer_direct l run v (h l refl) e

  address_of_place : (b : Bool) (x : Option Direct) (y : Option Location) (value place : Run Value) → ValueIs x value → PlaceIs y place → ValueIs (address_direct b x y) (if b then (value >>= used) else place >>= pointer_to w.inner)
  address_of_place true x y value place h k v e = used_direct v value (h v e)
  address_of_place false x y value place h k v e = address_known y place k v e

  member_value : (t : CType) (k : ℕ) (x : Option Location) (place : Run Value) → PlaceIs x place → ValueIs (option_and_then (λ l. held t (shifted k l)) x) (place >>= member_at k >>= value_at w.inner t)
  member_value t k None place h v e = absurd (cc e)
  member_value t k (Some l) place h v e = held_direct (shifted k l) _ t v (member_known k l place (h l refl)) e

  member_place : (k : ℕ) (x : Option Location) (place : Run Value) → PlaceIs x place → PlaceIs (option_map (shifted k) x) (place >>= member_at k)
  member_place k None place h l e = absurd (cc e)
  member_place k (Some x) place h l e = let same : shifted k x ≡ l = cc e in subst (λ z. IsKnown S z (place >>= member_at k)) same (member_known k x place (h x refl))

  mutual
    unfolding unary_value

    pub directs : (e : CExpr) (here : Environment) (i o : ℕ) → IsFew e S.ground.valued here.scope → LiteralsAre S.ground w.owner (literals_in here.scope e) here.literals_before → (v : Direct) → direct e S.linking (placed S.coded i here) ≡ Some v → IsDirect S v (value_of e w (placed S.named o here))
    directs (Number at n u) here i o few ls v e = number_direct n v e
    directs (Str at text) here i o few ls v e = literal_direct here.literals_before text v (first_text S.ground w.owner text [] here.literals_before ls) e
    directs (Null at) here i o few ls v e = null_direct v e
    directs (Var at name) here i o few ls v e = named here i o name (entity_of here.scope name) v few e
    directs (Unary at unary.Address a) here i o few ls v e = address_of_place (names_function here.scope a) _ _ _ _ (directs a here i o few.1 ls) (knowns a here i o few.1 ls) v e
    directs (Unary at unary.Minus a) here i o few ls v e = minus _ _ (directs a here i o few.1 ls) v e
    directs (Unary at unary.Deref a) here i o few ls v e = absurd (cc e)
    directs (Unary at unary.Plus a) here i o few ls v e = absurd (cc e)
    directs (Unary at unary.Invert a) here i o few ls v e = absurd (cc e)
    directs (Unary at unary.Not a) here i o few ls v e = absurd (cc e)
    directs (Step at op a) here i o few ls v e = absurd (cc e)
    directs (Binary at op a b) here i o few ls v e = absurd (cc e)
    directs (Assign at op a b) here i o few ls v e = absurd (cc e)
    directs (Cond at a b c) here i o few ls v e = absurd (cc e)
    directs (Comma at a b) here i o few ls v e = absurd (cc e)
    directs (Cast at t a) here i o few ls v e = cast_direct (type_in here.scope (Cast at t a)) v _ (directs a here i o few ls v e)
    directs (SizeTy at t) here i o few ls v e = absurd few
    directs (SizeOf at a) here i o few ls v e = absurd few
    directs (Index at a b) here i o few ls v e = absurd (cc e)
    directs (Call at f es) here i o few ls v e = absurd (cc e)
    directs (Member at a mem) here i o few ls v e = member_value (type_in here.scope (Member at a mem)) _ _ _ (knowns a here i o few.1 ls) v e
    directs (Arrow at a mem) here i o few ls v e = absurd (cc e)

    pub knowns : (e : CExpr) (here : Environment) (i o : ℕ) → IsFew e S.ground.valued here.scope → LiteralsAre S.ground w.owner (literals_in here.scope e) here.literals_before → (l : Location) → known_place e S.linking (placed S.coded i here) ≡ Some l → IsKnown S l (place_of e w (placed S.named o here))
    knowns (Str at text) here i o few ls l e = literal_known here.literals_before text l (first_text S.ground w.owner text [] here.literals_before ls) e
    knowns (Var at name) here i o few ls l e = let same : located S.linking (meaning S.coded name) ≡ l = cc e in subst (λ z. IsKnown S z (place_named (meaning S.named name))) same (name_known S name)
    knowns (Member at a mem) here i o few ls l e = member_place (member_offset here.scope.tags (type_in here.scope a) mem) _ _ (knowns a here i o few.1 ls) l e
    knowns (Number at n u) here i o few ls l e = absurd (cc e)
    knowns (Null at) here i o few ls l e = absurd (cc e)
    knowns (Unary at op a) here i o few ls l e = absurd (cc e)
    knowns (Step at op a) here i o few ls l e = absurd (cc e)
    knowns (Binary at op a b) here i o few ls l e = absurd (cc e)
    knowns (Assign at op a b) here i o few ls l e = absurd (cc e)
    knowns (Cond at a b c) here i o few ls l e = absurd (cc e)
    knowns (Comma at a b) here i o few ls l e = absurd (cc e)
    knowns (Cast at t a) here i o few ls l e = absurd (cc e)
    knowns (SizeTy at t) here i o few ls l e = absurd (cc e)
    knowns (SizeOf at a) here i o few ls l e = absurd (cc e)
    knowns (Index at a b) here i o few ls l e = absurd (cc e)
    knowns (Call at f es) here i o few ls l e = absurd (cc e)
    knowns (Arrow at a mem) here i o few ls l e = absurd (cc e)
