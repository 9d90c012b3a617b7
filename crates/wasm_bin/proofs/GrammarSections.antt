-- The sections of a module are read exactly where the grammar spells them.
use Rattle.std.proofs.Common.{◌≡◌, ℕ, zero, suc, ◌<◌, ◌≤◌, true, false, List, [], ◌∷◌, ◌++◌, length, take, drop, Option, Some, None, Result, Ok, Err, refl, sym, ap, subst, ◌∙◌, inl, inr, arith}
use Rattle.std.specs.Prelude.{◌==◌, min}
use Rattle.std.proofs.lemmas.Bool.{eqb-true, eq-eqb, ne_eqb, leb-true, le-leb}
use Rattle.std.proofs.lemmas.List.{length-append, length-take-le, take-append-drop, take_at, drop_at}
use Rattle.wasm_bytes.specs.declared.fault.ModFault.{ModFault}
use Rattle.wasm_bytes.specs.declared.fault.ModFault.TheVariants.{Malformed, Unsupported}
use Rattle.wasm_bytes.specs.Outcome.{◌>>=◌}
use Rattle.wasm_bytes.specs.Piece.{Piece, Cut, Reading, place, is_first, begins_with, expected_at, cut_at, closed_at}
use Rattle.wasm_bytes.specs.Number.{u32_at}
use Rattle.wasm_bytes.specs.Text.{name_at}
use Rattle.wasm_bin.specs.Body.{sized_at}
use Rattle.wasm_bin.specs.Section.{custom_at, customs_at, past_customs, opened_at, contents_at, section_at, other_at, end_at}
use Rattle.wasm_bin.specs.Grammar.{Language, ◌⋅◌, Row, Byte, Times, SpellsNumber, SpellsBytes, SpellsName, Sized, Section, Named, Customs, Optional, Following}
use Rattle.wasm_bin.proofs.GrammarSteps.{Took, behind_number, Reads, bind_ok, guard_ok, guard_err, cases_of, by_test, done, ok_is, along, join, split, nothing_taken, piece_is, expected_skips, number_reads, name_reads, sized_sound, sized_complete}

-- ---- custom sections

-- a name in a piece of a stated size
record CutNamed (size : ℕ) (p q : Piece) : Type 0 where
  pub contents : List ℕ
  pub named : Named contents
  pub number : length contents ≡ size
  pub taken : Took (Row contents) p q

cut_named : (size : ℕ) (p : Piece) (name : List ℕ) (r q : Piece) → name_at (cut_at size p).inside ≡ Ok (name, r) → (cut_at size p).whole ≡ true → done (cut_at size p).behind ≡ Ok q → CutNamed size p q
cut_named size p name r q e whole b =
    let fits : size ≤ length p.left = leb-true size (length p.left) whole in
    let cut : min size (length p.left) ≡ size = omega arith in
    let t = name_reads.sound (cut_at size p).inside name r e in
    let parts : take size p.left ≡ t.front ++ r.left = ap (λ (n : ℕ). take n p.left) (sym cut) ∙ t.parts in
    let here : Took (Row (take size p.left)) p (record { left = drop size p.left; end = p.end }) = record { front = take size p.left; parts = sym (take-append-drop size p.left); same = refl; spelled = refl } in
    let behind : (cut_at size p).behind ≡ record { left = drop size p.left; end = p.end } = ap (λ (n : ℕ). record { left = drop n p.left; end = p.end }) cut in
    record {
      contents = take size p.left;
      named = record { name = name; spelled = record { front = t.front; back = r.left; parts = parts; first = t.spelled; second = tt } };
      number = length-take-le size p.left fits;
      taken = along (λ s. Took (Row (take size p.left)) p s) (cut_at size p).behind q b (subst (λ s. Took (Row (take size p.left)) p s) (sym behind) here);
    }

custom_sound : (p q : Piece) → custom_at p ≡ Ok q → Took (Section 0 Named) p q
unfolding custom_at sized_at SpellsBytes
custom_sound p q e =
    let a = bind_ok (expected_at 0 p) _ q e in
    let w = bind_ok (sized_at a.0) _ q a.2 in
    let n = bind_ok (name_at w.0.inside) _ q w.2 in
    let g = guard_ok w.0.whole (Ok w.0.behind) (Malformed w.0.inside.end) q n.2 in
    let s = bind_ok (u32_at a.0) _ w.0 w.1 in
    let k : cut_at s.0.0 s.0.1 ≡ w.0 = ok_is (cut_at s.0.0 s.0.1) w.0 s.2 in
    let c = cut_named s.0.0 s.0.1 n.0.0 n.0.1 q (ap (λ (v : Cut). name_at v.inside) k ∙ n.1) (ap (λ (v : Cut). v.whole) k ∙ g.0) (ap (λ (v : Cut). done v.behind) k ∙ g.1) in
    let both = behind_number (Row c.contents) (length c.contents) s.0.0 a.0 s.0.1 q c.number s.1 c.taken in
    join (Byte 0) (Sized Named) p a.0 q ((expected_skips 0).sound p a.0 a.1)
    (record { front = both.front; parts = both.parts; same = both.same; spelled = record { contents = c.contents; spelled = c.named; sized = both.spelled } })

custom_complete : (p q : Piece) → Took (Section 0 Named) p q → custom_at p ≡ Ok q
unfolding custom_at sized_at SpellsBytes
custom_complete p q t =
    let a = split (Byte 0) (Sized Named) p q t in
    let contents = a.second.spelled.contents in
    let named = a.second.spelled.spelled in
    let both : Took (SpellsNumber (length contents) ⋅ Row contents) a.middle q = record { front = a.second.front; parts = a.second.parts; same = a.second.same; spelled = a.second.spelled.sized } in
    let s = split (SpellsNumber (length contents)) (Row contents) a.middle q both in
    let size = length contents in
    let parts : s.middle.left ≡ contents ++ q.left = s.second.parts ∙ ap (λ (xs : List ℕ). xs ++ q.left) s.second.spelled in
    let fits : size ≤ length s.middle.left = rw parts (omega (arith, length-append contents q.left)) in
    let cut : min size (length s.middle.left) ≡ size = omega arith in
    let w = cut_at size s.middle in
    let inside : w.inside.left ≡ contents = ap (λ (n : ℕ). take n s.middle.left) cut ∙ ap (λ (xs : List ℕ). take size xs) parts ∙ take_at contents q.left size refl in
    let r : Piece = record { left = named.spelled.back; end = w.inside.end } in
    let here : Took (SpellsName named.name) w.inside r = record { front = named.spelled.front; parts = inside ∙ named.spelled.parts; same = refl; spelled = named.spelled.first } in
    let behind : w.behind.left ≡ q.left = ap (λ (n : ℕ). drop n s.middle.left) cut ∙ ap (λ (xs : List ℕ). drop size xs) parts ∙ drop_at contents q.left size refl in
    rw ((expected_skips 0).complete p a.middle a.first, number_reads.complete a.middle size s.middle s.first, name_reads.complete w.inside named.name r here, le-leb size (length s.middle.left) fits) (ap done (piece_is w.behind q behind s.second.same))

-- the first byte of a section
section_begins : (id : ℕ) (Spells : Language) (p q : Piece) → Took (Section id Spells) p q → (n : ℕ) → begins_with n p ≡ (id == n)
section_begins id Spells p q t n =
    let parts : p.left ≡ id ∷ (t.spelled.back ++ q.left) = t.parts ∙ ap (λ (xs : List ℕ). xs ++ q.left) (t.spelled.parts ∙ ap (λ (xs : List ℕ). xs ++ t.spelled.back) t.spelled.first) in
    ap (λ (xs : List ℕ). is_first n xs) parts

section_shorter : (id : ℕ) (Spells : Language) (p q : Piece) → Took (Section id Spells) p q → length q.left < length p.left
section_shorter id Spells p q t =
    let parts : p.left ≡ id ∷ (t.spelled.back ++ q.left) = t.parts ∙ ap (λ (xs : List ℕ). xs ++ q.left) (t.spelled.parts ∙ ap (λ (xs : List ℕ). xs ++ t.spelled.back) t.spelled.first) in
    omega (arith, ap length parts, length-append t.spelled.back q.left)

none_first : (n : ℕ) (xs : List ℕ) → length xs ≤ 0 → is_first n xs ≡ false
none_first n [] le = refl
none_first n (x ∷ xs) le = absurd (omega arith)

bind_same : {A B : Type 0} (r : Result A ModFault) (f g : A → Result B ModFault) → ((x : A) → r ≡ Ok x → f x ≡ g x) → (r >>= f) ≡ (r >>= g)
bind_same (Ok x) f g h = h x refl
bind_same (Err d) f g h = refl

customs_stop : (n : ℕ) (p : Piece) → begins_with 0 p ≡ false → customs_at n p ≡ Ok p
unfolding customs_at
customs_stop zero p h = refl
customs_stop (suc n) p h = rw h refl

customs_go : (n : ℕ) (p : Piece) → begins_with 0 p ≡ true → customs_at (suc n) p ≡ (custom_at p >>= customs_at n)
unfolding customs_at
customs_go n p h = rw h refl

customs_enough : (n m : ℕ) (p : Piece) → length p.left ≤ n → length p.left ≤ m → customs_at n p ≡ customs_at m p
customs_enough zero m p le me = let h = none_first 0 p.left le in customs_stop zero p h ∙ sym (customs_stop m p h)
customs_enough (suc n) zero p le me = let h = none_first 0 p.left me in customs_stop (suc n) p h ∙ sym (customs_stop zero p h)
customs_enough (suc n) (suc m) p le me =
    by_test (begins_with 0 p)
    (λ b. customs_go n p b ∙ bind_same (custom_at p) (customs_at n) (customs_at m) (λ q e. let lt = section_shorter 0 Named p q (custom_sound p q e) in customs_enough n m q (omega arith) (omega arith)) ∙ sym (customs_go m p b))
    (λ b. customs_stop (suc n) p b ∙ sym (customs_stop (suc m) p b))

pub past_stop : (p : Piece) → begins_with 0 p ≡ false → past_customs p ≡ Ok p
past_stop p h = customs_stop (length p.left) p h

past_one : (p q : Piece) → Took (Section 0 Named) p q → past_customs p ≡ past_customs q
past_one p q t =
    let lt = section_shorter 0 Named p q t in
    let here : begins_with 0 p ≡ true = section_begins 0 Named p q t 0 in
    let taken : (custom_at p >>= customs_at (length p.left)) ≡ customs_at (length p.left) q = rw (custom_complete p q t) refl in
    customs_enough (length p.left) (suc (length p.left)) p (omega arith) (omega arith) ∙ customs_go (length p.left) p here ∙ taken ∙ customs_enough (length p.left) (length q.left) q (omega arith) (omega arith)

past_times : (n : ℕ) (p q : Piece) → Took (Times n (Section 0 Named)) p q → past_customs p ≡ past_customs q
past_times zero p q t = ap past_customs (nothing_taken p q t)
past_times (suc n) p q t =
    let s = split (Section 0 Named) (Times n (Section 0 Named)) p q t in
    past_one p s.middle s.first ∙ past_times n s.middle q s.second

times_of : (p q : Piece) (t : Took Customs p q) → Took (Times t.spelled.number (Section 0 Named)) p q
times_of p q t = record { front = t.front; parts = t.parts; same = t.same; spelled = t.spelled.spelled }

pub past_all : (p q : Piece) → Took Customs p q → past_customs p ≡ past_customs q
past_all p q t = past_times t.spelled.number p q (times_of p q t)

no_customs : (p : Piece) → Took Customs p p
no_customs p = record { front = []; parts = refl; same = refl; spelled = record { number = 0; spelled = refl } }

customs_more : (p q r : Piece) → Took (Section 0 Named) p q → Took Customs q r → Took Customs p r
customs_more p q r s t =
    let both = join (Section 0 Named) (Times t.spelled.number (Section 0 Named)) p q r s (times_of q r t) in
    record { front = both.front; parts = both.parts; same = both.same; spelled = record { number = suc t.spelled.number; spelled = both.spelled } }

times_then : (n : ℕ) (p q r : Piece) → Took (Times n (Section 0 Named)) p q → Took Customs q r → Took Customs p r
times_then zero p q r s t = subst (λ v. Took Customs v r) (sym (nothing_taken p q s)) t
times_then (suc n) p q r s t =
    let k = split (Section 0 Named) (Times n (Section 0 Named)) p q s in
    customs_more p k.middle r k.first (times_then n k.middle q r k.second t)

pub customs_then : (p q r : Piece) → Took Customs p q → Took Customs q r → Took Customs p r
customs_then p q r s t = times_then s.spelled.number p q r (times_of p q s) t

customs_sound : (n : ℕ) (p q : Piece) → length p.left ≤ n → customs_at n p ≡ Ok q → Took Customs p q × (begins_with 0 q ≡ false)
unfolding customs_at
customs_sound zero p q le e = along (λ v. Took Customs p v × (begins_with 0 v ≡ false)) p q e (no_customs p, none_first 0 p.left le)
customs_sound (suc n) p q le e =
    cases_of (begins_with 0 p) (custom_at p >>= customs_at n) (Ok p) q e
    (λ b h.
    let a = bind_ok (custom_at p) (customs_at n) q h in
    let one = custom_sound p a.0 a.1 in
    let lt = section_shorter 0 Named p a.0 one in
    let rest = customs_sound n a.0 q (omega arith) a.2 in
    (customs_more p a.0 q one rest.0, rest.1))
    (λ b h. along (λ v. Took Customs p v × (begins_with 0 v ≡ false)) p q h (no_customs p, b))

pub past_sound : (p q : Piece) → past_customs p ≡ Ok q → Took Customs p q × (begins_with 0 q ≡ false)
past_sound p q e = customs_sound (length p.left) p q (omega arith) e

-- ---- a section, or none

-- a section that was opened
record Opened (id : ℕ) (p : Piece) (w : Cut) : Type 0 where
  pub behind : Piece
  pub opened : expected_at id p ≡ Ok behind
  pub sized : sized_at behind ≡ Ok w

opened_sound : (id : ℕ) (p : Piece) (w : Cut) → opened_at id p ≡ Ok (Some w) → Opened id p w
unfolding opened_at
opened_sound id p w e =
    cases_of (begins_with id p) (expected_at id p >>= sized_at >>= λ w. Ok (Some w)) (Ok None) (Some w) e
    (λ b h.
    let a = bind_ok (expected_at id p >>= sized_at) (λ w. Ok (Some w)) (Some w) h in
    let s = bind_ok (expected_at id p) sized_at a.0 a.1 in
    let k : a.0 ≡ w = some_is a.0 w a.2 in
    record { behind = s.0; opened = s.1; sized = s.2 ∙ ap done k })
    (λ b h. absurd cc)
  where
    some_is : (v w : Cut) → done (Some v) ≡ done (Some w) → v ≡ w
    some_is v w e = cc

pub opened_none : (id : ℕ) (p : Piece) → begins_with id p ≡ false → opened_at id p ≡ Ok None
unfolding opened_at
opened_none id p h = rw h refl

pub contents_sound : {A : Type 0} (id : ℕ) (reading : Reading A) (Spells : A → Language) (reads : Reads reading Spells) (absent : A) (Absent : A → Type 0) (p : Piece) (o : Option Cut) (x : A) (q : Piece)
    → opened_at id p ≡ Ok o → (o ≡ None → Absent absent) → contents_at reading absent p o ≡ Ok (x, q) → Took (Optional id (Spells x) (Absent x)) p q
contents_sound id reading Spells reads absent Absent p None x q e none c =
    along (λ v. Took (Optional id (Spells v.0) (Absent v.0)) p v.1) (absent, p) (x, q) c (record { front = []; parts = refl; same = refl; spelled = inr (none refl, refl) })
contents_sound id reading Spells reads absent Absent p (Some w) x q e none c =
    let a = bind_ok (reading w.inside) _ (x, q) c in
    let b = bind_ok (closed_at w a.0.1) _ (x, q) a.2 in
    let o = opened_sound id p w e in
    let whole = join (Byte id) (Sized (Spells a.0.0)) p o.behind b.0 ((expected_skips id).sound p o.behind o.opened) (sized_sound reading Spells reads o.behind w a.0.0 a.0.1 b.0 o.sized a.1 b.1) in
    along (λ v. Took (Optional id (Spells v.0) (Absent v.0)) p v.1) (a.0.0, b.0) (x, q) b.2 (record { front = whole.front; parts = whole.parts; same = whole.same; spelled = inl whole.spelled })

pub section_sound : {A : Type 0} (id : ℕ) (reading : Reading A) (Spells : A → Language) (reads : Reads reading Spells) (absent : A) (Absent : A → Type 0) → Absent absent → (p : Piece) (x : A) (q : Piece)
    → section_at id reading absent p ≡ Ok (x, q) → Took (Following id (Spells x) (Absent x)) p q
section_sound id reading Spells reads absent Absent none p x q e =
    let a = bind_ok (past_customs p) _ (x, q) e in
    let b = bind_ok (opened_at id a.0) _ (x, q) a.2 in
    join Customs (Optional id (Spells x) (Absent x)) p a.0 q (past_sound p a.0 a.1).0 (contents_sound id reading Spells reads absent Absent a.0 b.0 x q b.1 (λ _. none) b.2)

-- behind the custom sections no section comes up to this number
pub record Follows (id : ℕ) (p : Piece) : Type 0 where
  pub next : Piece
  pub past : past_customs p ≡ Ok next
  pub above : (n : ℕ) → n ≤ id → begins_with n next ≡ false

-- what was read, and what is left but for custom sections
pub record Behind {A : Type 0} (reading : Result (A × Piece) ModFault) (x : A) (q : Piece) : Type 0 where
  pub next : Piece
  pub read : reading ≡ Ok (x, next)
  pub same : past_customs next ≡ past_customs q

-- a section that is there, opened and read
pub record Whole {A : Type 0} (id : ℕ) (reading : Reading A) (p : Piece) (x : A) (q : Piece) : Type 0 where
  pub window : Cut
  pub rest : Piece
  pub opened : opened_at id p ≡ Ok (Some window)
  pub read : reading window.inside ≡ Ok (x, rest)
  pub closed : closed_at window rest ≡ Ok q

pub section_whole : {A : Type 0} (id : ℕ) (reading : Reading A) (Spells : A → Language) (reads : Reads reading Spells) (p : Piece) (x : A) (q : Piece) → Took (Section id (Spells x)) p q → Whole id reading p x q
unfolding opened_at
section_whole id reading Spells reads p x q t =
    let s = split (Byte id) (Sized (Spells x)) p q t in
    let k = sized_complete reading Spells reads s.middle x q s.second in
    let here : begins_with id p ≡ true = section_begins id (Spells x) p q t id ∙ eq-eqb id id refl in
    record { window = k.0; rest = k.1; opened = rw (here, (expected_skips id).complete p s.middle s.first, k.2) refl; read = k.3; closed = k.4 }

pub section_past : (id : ℕ) (Spells : Language) (p q : Piece) → 0 < id → Took (Section id Spells) p q → past_customs p ≡ Ok p
section_past id Spells p q lt t = past_stop p (section_begins id Spells p q t 0 ∙ ne_eqb id 0 (λ e. absurd (omega arith)))

pub contents_whole : {A : Type 0} (id : ℕ) (reading : Reading A) (absent : A) (p : Piece) (x : A) (q : Piece) (w : Whole id reading p x q) → contents_at reading absent p (Some w.window) ≡ Ok (x, q)
contents_whole id reading absent p x q w = rw (w.read, w.closed) refl

section_case : {A : Type 0} (id : ℕ) (reading : Reading A) (Spells : A → Language) (reads : Reads reading Spells) (absent : A) (Absent : A → Type 0) → ((x : A) → Absent x → x ≡ absent) → 0 < id
    → (front p q : Piece) (x : A) (spelled : List ℕ) → past_customs front ≡ past_customs p → p.left ≡ spelled ++ q.left → q.end ≡ p.end → Optional id (Spells x) (Absent x) spelled → Follows id q → Behind (section_at id reading absent front) x q
section_case id reading Spells reads absent Absent only lt front p q x spelled e parts same (inl h) f =
    let t : Took (Section id (Spells x)) p q = record { front = spelled; parts = parts; same = same; spelled = h } in
    let w = section_whole id reading Spells reads p x q t in
    record { next = q; read = rw (e ∙ section_past id (Spells x) p q lt t, w.opened, w.read, w.closed) refl; same = refl }
section_case id reading Spells reads absent Absent only lt front p q x spelled e parts same (inr h) f =
    let k : p ≡ q = nothing_taken p q (record { front = spelled; parts = parts; same = same; spelled = h.1 }) in
    record {
      next = f.next;
      read = rw (e ∙ ap past_customs k ∙ f.past, opened_none id f.next (f.above id (omega arith)), only x h.0) refl;
      same = past_stop f.next (f.above 0 (omega arith)) ∙ sym f.past;
    }

pub section_complete : {A : Type 0} (id : ℕ) (reading : Reading A) (Spells : A → Language) (reads : Reads reading Spells) (absent : A) (Absent : A → Type 0) → ((x : A) → Absent x → x ≡ absent) → 0 < id
    → (front p : Piece) (x : A) (q : Piece) → past_customs front ≡ past_customs p → Took (Following id (Spells x) (Absent x)) p q → Follows id q → Behind (section_at id reading absent front) x q
section_complete id reading Spells reads absent Absent only lt front p x q e t f =
    let s = split Customs (Optional id (Spells x) (Absent x)) p q t in
    section_case id reading Spells reads absent Absent only lt front s.middle q x s.second.front (e ∙ past_all p s.middle s.first) s.second.parts s.second.same s.second.spelled f

follows_case : (id lower : ℕ) (Spells : Language) (Absent : Type 0) (front p q : Piece) (spelled : List ℕ) → 0 < id → lower < id → past_customs front ≡ past_customs p → p.left ≡ spelled ++ q.left → q.end ≡ p.end
    → Optional id Spells Absent spelled → Follows id q → Follows lower front
follows_case id lower Spells Absent front p q spelled some lt e parts same (inl h) f =
    let t : Took (Section id Spells) p q = record { front = spelled; parts = parts; same = same; spelled = h } in
    record { next = p; past = e ∙ section_past id Spells p q some t; above = λ n le. section_begins id Spells p q t n ∙ ne_eqb id n (λ k. absurd (omega arith)) }
follows_case id lower Spells Absent front p q spelled some lt e parts same (inr h) f =
    let k : p ≡ q = nothing_taken p q (record { front = spelled; parts = parts; same = same; spelled = h.1 }) in
    record { next = f.next; past = e ∙ ap past_customs k ∙ f.past; above = λ n le. f.above n (omega arith) }

-- what follows a section follows the ones before it
pub follows_section : (id lower : ℕ) (Spells : Language) (Absent : Type 0) (p q : Piece) → 0 < id → lower < id → Took (Following id Spells Absent) p q → Follows id q → Follows lower p
follows_section id lower Spells Absent p q some lt t f =
    let s = split Customs (Optional id Spells Absent) p q t in
    follows_case id lower Spells Absent p s.middle q s.second.front some lt (past_all p s.middle s.first) s.second.parts s.second.same s.second.spelled f

-- ---- sections of other modules, and the end

pub other_sound : (id : ℕ) (p q : Piece) → other_at id p ≡ Ok q → Took Customs p q
unfolding other_at
other_sound id p q e =
    let a = bind_ok (past_customs p) _ q e in
    let g = guard_err (begins_with id a.0) (Ok a.0) (Unsupported (place a.0)) q a.2 in
    along (λ v. Took Customs p v) a.0 q g.1 (past_sound p a.0 a.1).0

-- what is left but for custom sections
pub record Beyond (step : Result Piece ModFault) (q : Piece) : Type 0 where
  pub next : Piece
  pub went : step ≡ Ok next
  pub same : past_customs next ≡ past_customs q

pub other_complete : (id above : ℕ) (front p : Piece) → id ≤ above → past_customs front ≡ past_customs p → Follows above p → Beyond (other_at id front) p
unfolding other_at
other_complete id above front p le e f = record {
  next = f.next;
  went = rw (e ∙ f.past, f.above id le) refl;
  same = past_stop f.next (f.above 0 (omega arith)) ∙ sym f.past;
}

pub within_more : (id : ℕ) (Spells : Language) (Absent : Type 0) (p q r : Piece) → Took Customs p q → Took (Following id Spells Absent) q r → Took (Following id Spells Absent) p r
within_more id Spells Absent p q r c t =
    let s = split Customs (Optional id Spells Absent) q r t in
    join Customs (Optional id Spells Absent) p s.middle r (customs_then p q s.middle c s.first) s.second

pub nil_is : (xs : List ℕ) → (length xs == 0) ≡ true → xs ≡ []
nil_is [] h = refl
nil_is (x ∷ xs) h = absurd (omega (arith, eqb-true (suc (length xs)) 0 h))

pub end_sound : (p q : Piece) → end_at p ≡ Ok q → Took Customs p q × (q.left ≡ [])
unfolding end_at
end_sound p q e =
    let a = bind_ok (past_customs p) _ q e in
    let g = guard_ok (length a.0.left == 0) (Ok a.0) (Malformed (place a.0)) q a.2 in
    along (λ v. Took Customs p v × (v.left ≡ [])) a.0 q g.1 ((past_sound p a.0 a.1).0, nil_is a.0.left g.0)

pub end_follows : (id : ℕ) (p q : Piece) → Took Customs p q → q.left ≡ [] → Follows id p
end_follows id p q t nil =
    let none : (n : ℕ) → begins_with n q ≡ false = λ n. ap (λ (xs : List ℕ). is_first n xs) nil in
    record { next = q; past = past_all p q t ∙ past_stop q (none 0); above = λ n le. none n }

pub end_complete : (front p q : Piece) → past_customs front ≡ past_customs p → Took Customs p q → q.left ≡ [] → end_at front ≡ Ok q
unfolding end_at
end_complete front p q e t nil =
    let zero_next : begins_with 0 q ≡ false = ap (λ (xs : List ℕ). is_first 0 xs) nil in
    let past : past_customs front ≡ Ok q = e ∙ past_all p q t ∙ past_stop q zero_next in
    let none : (length q.left == 0) ≡ true = ap (λ (xs : List ℕ). length xs == 0) nil in
    rw (past, none) refl
