-- Steps of reading, and what they take from the front of a piece.
use Rattle.std.proofs.Common.{◌≡◌, ℕ, zero, suc, ◌^◌, ◌≤◌, Bool, true, false, cond, nat_lt, List, [], ◌∷◌, ◌++◌, length, take, drop, Result, Ok, Err, refl, sym, ap, subst, ◌∙◌, append_assoc, inl, inr, arith}
use Rattle.std.specs.Prelude.{◌⊎◌, ◌==◌, ◌&&◌, min, nat_le}
use Rattle.std.specs.Str.{is_utf8}
use Rattle.std.proofs.lemmas.Str.{IsUtf8-from_is_utf8, is_utf8-from_IsUtf8}
use Rattle.std.proofs.lemmas.Bool.{ltb-true, ltb-false, lt-ltb, le-ltb, eqb-true, eq-eqb, le-leb, leb-true, and_parts}
use Rattle.std.proofs.lemmas.List.{append-nil, take_at, drop_at, take-append-drop, length-append, length-take-le}
use Rattle.wasm_bytes.specs.declared.fault.ModFault.{ModFault}
use Rattle.wasm_bytes.specs.declared.fault.ModFault.TheVariants.{Malformed, TooLarge}
use Rattle.wasm_bytes.specs.Outcome.{◌>>=◌}
use Rattle.wasm_bytes.specs.Piece.{Piece, Cut, Reading, place, place_before, first_of, byte_at, expected_at, cut_at, closed_at}
use Rattle.wasm_bytes.specs.Number.{unsigned_value, signed_value, is_i32, leb_at, u32_at, i32_at, limited_at}
use Rattle.wasm_bytes.specs.Text.{taken_at, bytes_at, name_at}
use Rattle.wasm_bin.specs.Entry.{items_at, list_at}
use Rattle.wasm_bin.specs.Body.{sized_at}
use Rattle.wasm_bin.specs.Grammar.{Language, ◌⋅◌, Row, Byte, InTurn, IsLeb, SpellsNumber, SpellsInteger, SpellsLimited, SpellsVector, SpellsBytes, SpellsName, Sized}

-- a step takes the front of a piece, which spells this
pub record Took (Spells : Language) (p q : Piece) : Type 0 where
  pub front : List ℕ
  pub parts : p.left ≡ front ++ q.left
  pub same : q.end ≡ p.end
  pub spelled : Spells front

-- a value is read exactly where it is spelled
pub record Reads {A : Type 0} (reading : Reading A) (Spells : A → Language) : Type 0 where
  pub sound : (p : Piece) (x : A) (q : Piece) → reading p ≡ Ok (x, q) → Took (Spells x) p q
  pub complete : (p : Piece) (x : A) (q : Piece) → Took (Spells x) p q → reading p ≡ Ok (x, q)

-- a step goes on exactly where this is spelled
pub record Skips (step : Piece → Result Piece ModFault) (Spells : Language) : Type 0 where
  pub sound : (p q : Piece) → step p ≡ Ok q → Took Spells p q
  pub complete : (p q : Piece) → Took Spells p q → step p ≡ Ok q

pub respell : (Spells Others : Language) (p q : Piece) → ((bytes : List ℕ) → Spells bytes → Others bytes) → Took Spells p q → Took Others p q
respell Spells Others p q so t = record { front = t.front; parts = t.parts; same = t.same; spelled = so t.front t.spelled }

pub bind_ok : {A B : Type 0} (r : Result A ModFault) (f : A → Result B ModFault) (y : B) → (r >>= f) ≡ Ok y → (x : A) × (r ≡ Ok x) × (f x ≡ Ok y)
bind_ok (Ok x) f y e = (x, refl, e)
bind_ok (Err d) f y e = absurd cc

pub guard_ok : {A : Type 0} (b : Bool) (r : Result A ModFault) (d : ModFault) (y : A) → cond b r (Err d) ≡ Ok y → (b ≡ true) × (r ≡ Ok y)
guard_ok true r d y e = (refl, e)
guard_ok false r d y e = absurd cc

pub guard_err : {A : Type 0} (b : Bool) (r : Result A ModFault) (d : ModFault) (y : A) → cond b (Err d) r ≡ Ok y → (b ≡ false) × (r ≡ Ok y)
guard_err true r d y e = absurd cc
guard_err false r d y e = (refl, e)

pub guard_two : {A : Type 0} (b c : Bool) (r : Result A ModFault) (d e : ModFault) (y : A) → cond b r (cond c (Err d) (Err e)) ≡ Ok y → (b ≡ true) × (r ≡ Ok y)
guard_two true c r d e y h = (refl, h)
guard_two false true r d e y h = absurd cc
guard_two false false r d e y h = absurd cc

pub chosen : {A : Type 0} (b : Bool) (r s : Result A ModFault) (y : A) → cond b r s ≡ Ok y → ((b ≡ true) × (r ≡ Ok y)) ⊎ ((b ≡ false) × (s ≡ Ok y))
chosen true r s y e = inl (refl, e)
chosen false r s y e = inr (refl, e)

pub cases_of : {A C : Type 0} (b : Bool) (r s : Result A ModFault) (y : A) → cond b r s ≡ Ok y → (b ≡ true → r ≡ Ok y → C) → (b ≡ false → s ≡ Ok y → C) → C
cases_of true r s y e f g = f refl e
cases_of false r s y e f g = g refl e

pub by_test : {C : Type 0} (b : Bool) → (b ≡ true → C) → (b ≡ false → C) → C
by_test true f g = f refl
by_test false f g = g refl

abbrev pub done : {A : Type 0} → A → Result A ModFault
done x = Ok x

-- a value that was read, and what is left
abbrev pub given : {A : Type 0} → A → Piece → Result (A × Piece) ModFault
given x q = Ok (x, q)

pub ok_is : {A : Type 0} (x y : A) → done x ≡ done y → x ≡ y
ok_is x y e = cc

pub along : {A : Type 0} (P : A → Type 0) (x y : A) → done x ≡ done y → P x → P y
along P x y e h = subst P (ok_is x y e) h

pub join : (First Second : Language) (p q r : Piece) → Took First p q → Took Second q r → Took (First ⋅ Second) p r
join First Second p q r s t = record {
  front = s.front ++ t.front;
  parts = s.parts ∙ ap (λ (xs : List ℕ). s.front ++ xs) t.parts ∙ sym (append_assoc s.front t.front r.left);
  same = t.same ∙ s.same;
  spelled = record { front = s.front; back = t.front; parts = refl; first = s.spelled; second = t.spelled };
}

-- where the second of two begins
pub record Between (First Second : Language) (p r : Piece) : Type 0 where
  pub middle : Piece
  pub first : Took First p middle
  pub second : Took Second middle r

pub split : (First Second : Language) (p r : Piece) → Took (First ⋅ Second) p r → Between First Second p r
split First Second p r t = record {
  middle = record { left = t.spelled.back ++ r.left; end = p.end };
  first = record {
    front = t.spelled.front;
    parts = t.parts ∙ ap (λ (xs : List ℕ). xs ++ r.left) t.spelled.parts ∙ append_assoc t.spelled.front t.spelled.back r.left;
    same = refl;
    spelled = t.spelled.first;
  };
  second = record { front = t.spelled.back; parts = refl; same = t.same; spelled = t.spelled.second };
}

pub none_taken : (p : Piece) → Took (Row []) p p
none_taken p = record { front = []; parts = refl; same = refl; spelled = refl }

pub piece_is : (p q : Piece) → p.left ≡ q.left → q.end ≡ p.end → p ≡ q
piece_is p q l e = let one : (xs : List ℕ) (n : ℕ) → p.left ≡ xs → n ≡ p.end → p ≡ record { left = xs; end = n } = λ xs n a b. rw (← a, b) refl in one q.left q.end l e

pub nothing_taken : (p q : Piece) → Took (Row []) p q → p ≡ q
nothing_taken p q t = piece_is p q (t.parts ∙ ap (λ (xs : List ℕ). xs ++ q.left) t.spelled) t.same

-- ---- bytes

first_is : (xs : List ℕ) (end b : ℕ) (q : Piece) → first_of xs end ≡ Ok (b, q) → (xs ≡ b ∷ q.left) × (q.end ≡ end)
first_is [] end b q e = absurd cc
first_is (x ∷ xs) end b q e =
    let k : (x, record { left = xs; end = end }) ≡ (b, q) = ok_is (x, record { left = xs; end = end }) (b, q) e in
    (ap (λ (v : ℕ × Piece). v.0 ∷ v.1.left) k, sym (ap (λ (v : ℕ × Piece). v.1.end) k))

pub byte_first : (p : Piece) (b : ℕ) (q : Piece) → p.left ≡ b ∷ q.left → q.end ≡ p.end → byte_at p ≡ Ok (b, q)
byte_first p b q l e = let k : p ≡ record { left = b ∷ q.left; end = q.end } = piece_is p (record { left = b ∷ q.left; end = q.end }) l e in ap byte_at k

pub byte_reads : Reads byte_at Byte
byte_reads = record {
  sound = λ p b q e. let k = first_is p.left p.end b q e in record { front = b ∷ []; parts = k.0; same = k.1; spelled = refl };
  complete = λ p b q t. byte_first p b q (t.parts ∙ ap (λ (xs : List ℕ). xs ++ q.left) t.spelled) t.same;
}

pub expected_skips : (byte : ℕ) → Skips (expected_at byte) (Byte byte)
expected_skips byte = record {
  sound = λ p q e.
      let a = bind_ok (byte_at p) _ q e in
      let g = guard_ok (a.0.0 == byte) (Ok a.0.1) (Malformed (place p)) q a.2 in
      along (λ r. Took (Byte byte) p r) a.0.1 q g.1 (subst (λ b. Took (Byte b) p a.0.1) (eqb-true a.0.0 byte g.0) (byte_reads.sound p a.0.0 a.0.1 a.1));
  complete = λ p q t. rw (byte_reads.complete p byte q t, eq-eqb byte byte refl) refl;
}

-- ---- numbers

IsLeb-more : (b : ℕ) (bytes : List ℕ) → 128 ≤ b → IsLeb bytes → IsLeb (b ∷ bytes)
IsLeb-more b [] high leb = absurd leb
IsLeb-more b (c ∷ bytes) high leb = (high, leb)

-- a number of so many bytes and one at most
abbrev pub Leb : ℕ → List ℕ → Language
Leb n bytes row = (row ≡ bytes) × IsLeb bytes × (length bytes ≤ suc n)

leb_one : (n : ℕ) (p q r : Piece) (b : ℕ) (bytes : List ℕ) → byte_at p ≡ Ok (b, r) → nat_lt b 128 ≡ true → given (b ∷ []) r ≡ Ok (bytes, q) → Took (Leb n bytes) p q
leb_one n p q r b bytes h low e =
    let s = byte_reads.sound p b r h in
    along (λ v. Took (Leb n v.0) p v.1) (b ∷ [], r) (bytes, q) e (record { front = b ∷ []; parts = s.parts ∙ ap (λ (xs : List ℕ). xs ++ r.left) s.spelled; same = s.same; spelled = (refl, ltb-true b 128 low, omega arith) })

leb_next : (n : ℕ) (p r s q : Piece) (b : ℕ) (more bytes : List ℕ) → byte_at p ≡ Ok (b, r) → nat_lt b 128 ≡ false → Took (Leb n more) r s → given (b ∷ more) s ≡ Ok (bytes, q) → Took (Leb (suc n) bytes) p q
leb_next n p r s q b more bytes h high t e =
    let k = byte_reads.sound p b r h in
    let parts : p.left ≡ (b ∷ more) ++ s.left = k.parts ∙ ap (λ (xs : List ℕ). xs ++ r.left) k.spelled ∙ ap (λ (xs : List ℕ). b ∷ xs) (t.parts ∙ ap (λ (xs : List ℕ). xs ++ s.left) t.spelled.0) in
    let long : length more ≤ suc n = t.spelled.2 in
    along (λ v. Took (Leb (suc n) v.0) p v.1) (b ∷ more, s) (bytes, q) e (record { front = b ∷ more; parts = parts; same = t.same ∙ k.same; spelled = (refl, IsLeb-more b more (ltb-false b 128 high) t.spelled.1, omega arith) })

leb_sound : (n : ℕ) (p : Piece) (bytes : List ℕ) (q : Piece) → leb_at n p ≡ Ok (bytes, q) → Took (Leb n bytes) p q
unfolding leb_at
leb_sound zero p bytes q e =
    let a = bind_ok (byte_at p) _ (bytes, q) e in
    let g = guard_ok (nat_lt a.0.0 128) (Ok (a.0.0 ∷ [], a.0.1)) (Malformed (place p)) (bytes, q) a.2 in
    leb_one zero p q a.0.1 a.0.0 bytes a.1 g.0 g.1
leb_sound (suc n) p bytes q e =
    let a = bind_ok (byte_at p) _ (bytes, q) e in
    cases_of (nat_lt a.0.0 128) _ _ (bytes, q) a.2
    (λ t h. leb_one (suc n) p q a.0.1 a.0.0 bytes a.1 t h)
    (λ t h. let m = bind_ok (leb_at n a.0.1) _ (bytes, q) h in leb_next n p a.0.1 m.0.1 q a.0.0 m.0.0 bytes a.1 t (leb_sound n a.0.1 m.0.0 m.0.1 m.1) m.2)

leb_complete : (n : ℕ) (bytes : List ℕ) (p q : Piece) → IsLeb bytes → length bytes ≤ suc n → p.left ≡ bytes ++ q.left → q.end ≡ p.end → leb_at n p ≡ Ok (bytes, q)
unfolding leb_at
leb_complete n [] p q leb len parts same = absurd leb
leb_complete zero (b ∷ []) p q leb len parts same = rw (byte_first p b q parts same, lt-ltb b 128 leb) refl
leb_complete (suc n) (b ∷ []) p q leb len parts same = rw (byte_first p b q parts same, lt-ltb b 128 leb) refl
leb_complete zero (b ∷ c ∷ bytes) p q leb len parts same = absurd (omega arith)
leb_complete (suc n) (b ∷ c ∷ bytes) p q leb len parts same =
    let r : Piece = record { left = (c ∷ bytes) ++ q.left; end = p.end } in
    let short : length (c ∷ bytes) ≤ suc n = omega arith in
    rw (byte_first p b r parts refl, le-ltb b 128 leb.0, leb_complete n (c ∷ bytes) r q leb.1 short refl same) refl

pub number_reads : Reads u32_at SpellsNumber
unfolding u32_at SpellsNumber
number_reads = record {
  sound = λ p x q e.
      let a = bind_ok (leb_at 4 p) _ (x, q) e in
      let g = guard_ok (nat_lt (unsigned_value a.0.0) (2 ^ 32)) (Ok (unsigned_value a.0.0, a.0.1)) (Malformed (place_before a.0.1)) (x, q) a.2 in
      let t = leb_sound 4 p a.0.0 a.0.1 a.1 in
      along (λ v. Took (SpellsNumber v.0) p v.1) (unsigned_value a.0.0, a.0.1) (x, q) g.1 (record {
        front = a.0.0;
        parts = t.parts ∙ ap (λ (xs : List ℕ). xs ++ a.0.1.left) t.spelled.0;
        same = t.same;
        spelled = (t.spelled.1, t.spelled.2, refl, ltb-true (unsigned_value a.0.0) (2 ^ 32) g.0);
      });
  complete = λ p x q t.
      let h : leb_at 4 p ≡ Ok (t.front, q) = leb_complete 4 t.front p q t.spelled.0 t.spelled.1 t.parts t.same in
      rw (h, t.spelled.2, lt-ltb x (2 ^ 32) t.spelled.3) refl;
}

-- a number that was read, and what stands behind it
pub behind_number : (Spells : Language) (n size : ℕ) (p q r : Piece) → n ≡ size → u32_at p ≡ Ok (size, q) → Took Spells q r → Took (SpellsNumber n ⋅ Spells) p r
behind_number Spells n size p q r e h t = join (SpellsNumber n) Spells p q r (subst (λ k. Took (SpellsNumber k) p q) (sym e) (number_reads.sound p size q h)) t

pub integer_reads : Reads i32_at SpellsInteger
unfolding i32_at SpellsInteger
integer_reads = record {
  sound = λ p x q e.
      let a = bind_ok (leb_at 4 p) _ (x, q) e in
      let g = guard_ok (is_i32 (signed_value a.0.0)) (Ok (signed_value a.0.0, a.0.1)) (Malformed (place_before a.0.1)) (x, q) a.2 in
      let t = leb_sound 4 p a.0.0 a.0.1 a.1 in
      along (λ v. Took (SpellsInteger v.0) p v.1) (signed_value a.0.0, a.0.1) (x, q) g.1 (record {
        front = a.0.0;
        parts = t.parts ∙ ap (λ (xs : List ℕ). xs ++ a.0.1.left) t.spelled.0;
        same = t.same;
        spelled = (t.spelled.1, t.spelled.2, refl, g.0);
      });
  complete = λ p x q t.
      let h : leb_at 4 p ≡ Ok (t.front, q) = leb_complete 4 t.front p q t.spelled.0 t.spelled.1 t.parts t.same in
      rw (h, t.spelled.2, t.spelled.3) refl;
}

pub limited_reads : (limit : ℕ) → Reads (limited_at limit) (SpellsLimited limit)
unfolding limited_at SpellsLimited
limited_reads limit = record {
  sound = λ p x q e.
      let a = bind_ok (u32_at p) _ (x, q) e in
      let g = guard_err (nat_lt limit a.0.0) (Ok a.0) (TooLarge (place p)) (x, q) a.2 in
      let t = number_reads.sound p a.0.0 a.0.1 a.1 in
      along (λ v. Took (SpellsLimited limit v.0) p v.1) a.0 (x, q) g.1 (record { front = t.front; parts = t.parts; same = t.same; spelled = (ltb-false limit a.0.0 g.0, t.spelled) });
  complete = λ p x q t.
      let s : Took (SpellsNumber x) p q = record { front = t.front; parts = t.parts; same = t.same; spelled = t.spelled.1 } in
      rw (number_reads.complete p x q s, le-ltb limit x t.spelled.0) refl;
}

-- ---- rows of bytes, names, vectors

pub taken_reads : (n : ℕ) (p : Piece) (row : List ℕ) (q : Piece) → taken_at n p ≡ Ok (row, q) → Took (Row row) p q × (length row ≡ n)
unfolding taken_at
taken_reads n p row q e =
    let g = guard_err (nat_lt (length p.left) n) (Ok (take n p.left, record { left = drop n p.left; end = p.end })) (Malformed p.end) (row, q) e in
    let here : Took (Row (take n p.left)) p (record { left = drop n p.left; end = p.end }) = record { front = take n p.left; parts = sym (take-append-drop n p.left); same = refl; spelled = refl } in
    let long : length (take n p.left) ≡ n = length-take-le n p.left (ltb-false (length p.left) n g.0) in
    along (λ v. Took (Row v.0) p v.1 × (length v.0 ≡ n)) (take n p.left, record { left = drop n p.left; end = p.end }) (row, q) g.1 (here, long)

pub taken_again : (p : Piece) (row : List ℕ) (q : Piece) → Took (Row row) p q → taken_at (length row) p ≡ Ok (row, q)
unfolding taken_at
taken_again p row q t =
    let parts : p.left ≡ row ++ q.left = t.parts ∙ ap (λ (xs : List ℕ). xs ++ q.left) t.spelled in
    let at : p ≡ record { left = row ++ q.left; end = q.end } = piece_is p (record { left = row ++ q.left; end = q.end }) parts t.same in
    let whole : nat_lt (length (row ++ q.left)) (length row) ≡ false = le-ltb _ _ (omega (arith, length-append row q.left)) in
    rw (at, whole, take_at row q.left (length row) refl, drop_at row q.left (length row) refl) refl

pub bytes_read : Reads bytes_at SpellsBytes
unfolding bytes_at SpellsBytes
bytes_read = record {
  sound = λ p row q e.
      let a = bind_ok (u32_at p) _ (row, q) e in
      let t = taken_reads a.0.0 a.0.1 row q a.2 in
      behind_number (Row row) (length row) a.0.0 p a.0.1 q t.1 a.1 t.0;
  complete = λ p row q t.
      let s = split (SpellsNumber (length row)) (Row row) p q t in
      rw (number_reads.complete p (length row) s.middle s.first, taken_again s.middle row q s.second) refl;
}

pub name_reads : Reads name_at SpellsName
unfolding name_at SpellsName SpellsBytes
name_reads = record {
  sound = λ p name q e.
      let a = bind_ok (u32_at p) _ (name, q) e in
      let b = bind_ok (taken_at a.0.0 a.0.1) _ (name, q) a.2 in
      let g = guard_ok (is_utf8 b.0.0) (Ok b.0) (Malformed (place a.0.1)) (name, q) b.2 in
      let t = taken_reads a.0.0 a.0.1 b.0.0 b.0.1 b.1 in
      let both = behind_number (Row b.0.0) (length b.0.0) a.0.0 p a.0.1 b.0.1 t.1 a.1 t.0 in
      along (λ v. Took (SpellsName v.0) p v.1) b.0 (name, q) g.1 (record { front = both.front; parts = both.parts; same = both.same; spelled = (IsUtf8-from_is_utf8 b.0.0 g.0, both.spelled) });
  complete = λ p name q t.
      let both : Took (SpellsNumber (length name) ⋅ Row name) p q = record { front = t.front; parts = t.parts; same = t.same; spelled = t.spelled.1 } in
      let s = split (SpellsNumber (length name)) (Row name) p q both in
      rw (number_reads.complete p (length name) s.middle s.first, taken_again s.middle name q s.second, is_utf8-from_IsUtf8 name t.spelled.0) refl;
}

items_sound : {A : Type 0} (reading : Reading A) (Spells : A → Language) → Reads reading Spells → (n : ℕ) (p : Piece) (xs : List A) (q : Piece) → items_at reading n p ≡ Ok (xs, q) → Took (InTurn Spells xs) p q × (length xs ≡ n)
unfolding items_at
items_sound reading Spells reads zero p xs q e = along (λ v. Took (InTurn Spells v.0) p v.1 × (length v.0 ≡ zero)) ([], p) (xs, q) e (none_taken p, refl)
items_sound reading Spells reads (suc n) p xs q e =
    let a = bind_ok (reading p) _ (xs, q) e in
    let b = bind_ok (items_at reading n a.0.1) _ (xs, q) a.2 in
    let rest = items_sound reading Spells reads n a.0.1 b.0.0 b.0.1 b.1 in
    along (λ v. Took (InTurn Spells v.0) p v.1 × (length v.0 ≡ suc n)) (a.0.0 ∷ b.0.0, b.0.1) (xs, q) b.2 (join (Spells a.0.0) (InTurn Spells b.0.0) p a.0.1 b.0.1 (reads.sound p a.0.0 a.0.1 a.1) rest.0, ap suc rest.1)

items_complete : {A : Type 0} (reading : Reading A) (Spells : A → Language) → Reads reading Spells → (xs : List A) (p q : Piece) → Took (InTurn Spells xs) p q → items_at reading (length xs) p ≡ Ok (xs, q)
unfolding items_at
items_complete reading Spells reads [] p q t = ap (λ r. Ok ([], r)) (nothing_taken p q t)
items_complete reading Spells reads (x ∷ xs) p q t =
    let s = split (Spells x) (InTurn Spells xs) p q t in
    rw (reads.complete p x s.middle s.first, items_complete reading Spells reads xs s.middle q s.second) refl

pub vector_reads : {A : Type 0} (reading : Reading A) (Spells : A → Language) → Reads reading Spells → Reads (list_at reading) (SpellsVector Spells)
vector_reads reading Spells reads = record {
  sound = λ p xs q e.
      let a = bind_ok (limited_at (2 ^ 20) p) _ (xs, q) e in
      let t = items_sound reading Spells reads a.0.0 a.0.1 xs q a.2 in
      join _ _ p a.0.1 q (subst (λ n. Took (SpellsLimited (2 ^ 20) n) p a.0.1) (sym t.1) ((limited_reads (2 ^ 20)).sound p a.0.0 a.0.1 a.1)) t.0;
  complete = λ p xs q t.
      let s = split (SpellsLimited (2 ^ 20) (length xs)) (InTurn Spells xs) p q t in
      rw ((limited_reads (2 ^ 20)).complete p (length xs) s.middle s.first, items_complete reading Spells reads xs s.middle q s.second) refl;
}

-- ---- pieces of a stated size

-- what is read in a piece of a stated size, to its end
abbrev pub sized_by : {A : Type 0} → Reading A → Reading A
sized_by reading p = sized_at p >>= λ w. reading w.inside >>= λ x. closed_at w x.1 >>= λ rest. Ok (x.0, rest)

pub cut_sound : {A : Type 0} (reading : Reading A) (Spells : A → Language) → Reads reading Spells → (size : ℕ) (p : Piece) (x : A) (r q : Piece)
    → reading (cut_at size p).inside ≡ Ok (x, r) → closed_at (cut_at size p) r ≡ Ok q → (contents : List ℕ) × Spells x contents × (length contents ≡ size) × Took (Row contents) p q
cut_sound reading Spells reads size p x r q e c =
    let g = guard_ok (length r.left == 0 && nat_le size (length p.left)) (Ok (cut_at size p).behind) (Malformed (place r)) q c in
    let both = and_parts (length r.left == 0) (nat_le size (length p.left)) g.0 in
    let fits : size ≤ length p.left = leb-true size (length p.left) both.1 in
    let cut : min size (length p.left) ≡ size = omega arith in
    let t = reads.sound (cut_at size p).inside x r e in
    let all : take size p.left ≡ t.front = ap (λ (n : ℕ). take n p.left) (sym cut) ∙ t.parts ∙ whole t.front r.left (eqb-true (length r.left) 0 both.0) in
    let here : Took (Row (take size p.left)) p (record { left = drop size p.left; end = p.end }) = record { front = take size p.left; parts = sym (take-append-drop size p.left); same = refl; spelled = refl } in
    let behind : (cut_at size p).behind ≡ record { left = drop size p.left; end = p.end } = ap (λ (n : ℕ). record { left = drop n p.left; end = p.end }) cut in
    (take size p.left, subst (λ xs. Spells x xs) (sym all) t.spelled, length-take-le size p.left fits, along (λ s. Took (Row (take size p.left)) p s) (cut_at size p).behind q g.1 (subst (λ s. Took (Row (take size p.left)) p s) (sym behind) here))
  where
    whole : (xs ys : List ℕ) → length ys ≡ 0 → xs ++ ys ≡ xs
    whole xs [] z = append-nil xs
    whole xs (y ∷ ys) z = absurd (omega arith)

pub cut_complete : {A : Type 0} (reading : Reading A) (Spells : A → Language) → Reads reading Spells → (p : Piece) (x : A) (q : Piece) (contents : List ℕ) → Spells x contents → Took (Row contents) p q
    → (r : Piece) × (reading (cut_at (length contents) p).inside ≡ Ok (x, r)) × (closed_at (cut_at (length contents) p) r ≡ Ok q)
cut_complete reading Spells reads p x q contents spelled t =
    let size = length contents in
    let parts : p.left ≡ contents ++ q.left = t.parts ∙ ap (λ (xs : List ℕ). xs ++ q.left) t.spelled in
    let fits : size ≤ length p.left = rw parts (omega (arith, length-append contents q.left)) in
    let cut : min size (length p.left) ≡ size = omega arith in
    let w = cut_at size p in
    let r : Piece = record { left = []; end = w.inside.end } in
    let inside : w.inside.left ≡ contents = ap (λ (n : ℕ). take n p.left) cut ∙ ap (λ (xs : List ℕ). take size xs) parts ∙ take_at contents q.left size refl in
    let here : Took (Spells x) w.inside r = record { front = contents; parts = inside ∙ sym (append-nil contents); same = refl; spelled = spelled } in
    let behind : w.behind.left ≡ q.left = ap (λ (n : ℕ). drop n p.left) cut ∙ ap (λ (xs : List ℕ). drop size xs) parts ∙ drop_at contents q.left size refl in
    (r, reads.complete w.inside x r here, rw (le-leb size (length p.left) fits) (ap done (piece_is w.behind q behind t.same)))

pub sized_sound : {A : Type 0} (reading : Reading A) (Spells : A → Language) → Reads reading Spells → (p : Piece) (w : Cut) (x : A) (r q : Piece) → sized_at p ≡ Ok w → reading w.inside ≡ Ok (x, r) → closed_at w r ≡ Ok q → Took (Sized (Spells x)) p q
unfolding sized_at SpellsBytes
sized_sound reading Spells reads p w x r q s e c =
    let a = bind_ok (u32_at p) _ w s in
    let k : cut_at a.0.0 a.0.1 ≡ w = ok_is (cut_at a.0.0 a.0.1) w a.2 in
    let t = cut_sound reading Spells reads a.0.0 a.0.1 x r q (ap (λ (v : Cut). reading v.inside) k ∙ e) (ap (λ (v : Cut). closed_at v r) k ∙ c) in
    let both = behind_number (Row t.0) (length t.0) a.0.0 p a.0.1 q t.2 a.1 t.3 in
    record { front = both.front; parts = both.parts; same = both.same; spelled = record { contents = t.0; spelled = t.1; sized = both.spelled } }

pub sized_complete : {A : Type 0} (reading : Reading A) (Spells : A → Language) → Reads reading Spells → (p : Piece) (x : A) (q : Piece) → Took (Sized (Spells x)) p q → (w : Cut) × (r : Piece) × (sized_at p ≡ Ok w) × (reading w.inside ≡ Ok (x, r)) × (closed_at w r ≡ Ok q)
unfolding sized_at SpellsBytes
sized_complete reading Spells reads p x q t =
    let contents = t.spelled.contents in
    let both : Took (SpellsNumber (length contents) ⋅ Row contents) p q = record { front = t.front; parts = t.parts; same = t.same; spelled = t.spelled.sized } in
    let s = split (SpellsNumber (length contents)) (Row contents) p q both in
    let k = cut_complete reading Spells reads s.middle x q contents t.spelled.spelled s.second in
    (cut_at (length contents) s.middle, k.0, rw (number_reads.complete p (length contents) s.middle s.first) refl, k.1, k.2)
