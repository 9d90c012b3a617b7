-- Code that is emitted piece by piece.
use Rattle.std.proofs.Common.{◌≡◌, ◌+◌, ◌<◌, ℕ, suc, List, [], ◌∷◌, ◌++◌, length, take, drop, refl, ap, ◌∙◌, length-append, length-take, length-drop, arith}
use Rattle.std.specs.Prelude.{Result, Ok, Err, IfOk}
use Rattle.c_code.specs.Code as code
use Rattle.c_plain.specs.declared.instruction.Instruction.{Instruction}
use Rattle.c_emitted.specs.declared.emitter.Emitter.{Emitter}
use Rattle.c_emitted.specs.Tables.{IsMeant}
use Rattle.c_emitted.specs.Emits.{tables_of, Emits, Reserves, Fills}
use Rattle.c_emitted.proofs.EmitLemmas as emitted
use Rattle.c_jumps.specs.Adds.{Adds}

-- what is emitted, whatever is counted
pub added : {a b : Emitter} {is : List code.Instruction} {ls : List (List ℕ)} → Emits a b is ls → Adds a b is
added e = record { code = e.code; behind = e.behind; count = e.count; meant = e.meant; tables = e.tables; stays = e.stays }

-- so many literals are counted
pub counted : {a b : Emitter} {is : List code.Instruction} (ls : List (List ℕ)) → Adds a b is → b.before ≡ a.before + length ls → Emits a b is ls
counted ls e before = record { code = e.code; behind = e.behind; count = e.count; meant = e.meant; tables = e.tables; stays = e.stays; before = before }

-- the code that an emitter has holds no count: an equal emitter but for the count serves
end_at : (a b : Emitter) (is : List code.Instruction) → Adds a b is → (n : ℕ) → Emits (record a { before = 0 }) (record b { before = 0 }) is []
end_at a b is e n = record {
  code = e.code;
  behind = e.behind;
  count = e.count;
  meant = e.meant;
  tables = e.tables;
  stays = record { owner = e.stays.owner; objects = e.stays.objects; files = e.stays.files };
  before = omega arith;
}

back : (a b : Emitter) (is : List code.Instruction) {ls : List (List ℕ)} → Emits (record a { before = 0 }) (record b { before = 0 }) is ls → Adds a b is
back a b is e = record {
  code = e.code;
  behind = e.behind;
  count = e.count;
  meant = e.meant;
  tables = e.tables;
  stays = record { owner = e.stays.owner; objects = e.stays.objects; files = e.stays.files };
}

-- one piece behind another
pub adds_both : {a b c : Emitter} {is js : List code.Instruction} → Adds a b is → Adds b c js → Adds a c (is ++ js)
adds_both {a} {b} {c} {is} {js} e f = back a c (is ++ js) (emitted.both (end_at a b is e 0) (end_at b c js f 0))

no_count : (a b : Emitter) (at : ℕ) → Reserves a b at → Reserves (record a { before = 0 }) (record b { before = 0 }) at
no_count a b at r = record { place = r.place; code = r.code; keeps = record { tables = r.keeps.tables; stays = record { owner = r.keeps.stays.owner; objects = r.keeps.stays.objects; files = r.keeps.stays.files }; before = refl } }

no_count_filled : (a b : Emitter) (at : ℕ) (j : Instruction) → Fills a b at j → Fills (record a { before = 0 }) (record b { before = 0 }) at j
no_count_filled a b at j f = record { code = f.code; keeps = record { tables = f.keeps.tables; stays = record { owner = f.keeps.stays.owner; objects = f.keeps.stays.objects; files = f.keeps.stays.files }; before = refl } }

-- an instruction that is told behind the code that follows it
pub adds_patched : (a b c d : Emitter) (at : ℕ) (i : code.Instruction) (j : Instruction) {is : List code.Instruction} → Reserves a b at → Adds b c is → Fills c d at j → IsMeant (tables_of d) i j → Adds a d (i ∷ is)
adds_patched a b c d at i j {is} r e f m =
    back a d (i ∷ is) (emitted.patched (record a { before = 0 }) (record b { before = 0 }) (record c { before = 0 }) (record d { before = 0 }) at i j (no_count a b at r) (end_at b c is e 0) (no_count_filled c d at j f)
    (record { means = m.means }))

-- an instruction in the middle of emitted code is told
pub adds_longer : {a b : Emitter} {is : List code.Instruction} → Adds a b is → length b.code ≡ length a.code + length is
adds_longer {a} {b} {is} e = ap length e.behind ∙ (length-append a.code e.code ∙ ap (λ (n : ℕ). length a.code + n) e.count)

pub if_map : {X E : Type 0} {P Q : X → Type 0} (r : Result X E) → ((x : X) → P x → Q x) → IfOk r P → IfOk r Q
if_map (Ok x) f h = f x h
if_map (Err e) f h = h

-- as much code stands as before
pub as_long : (a b : Emitter) (at : ℕ) (i : Instruction) → Fills a b at i → at < length a.code → length b.code ≡ length a.code
as_long a b at i f h =
    let whole : length b.code ≡ length (take at a.code) + suc (length (drop (suc at) a.code)) = ap length f.code ∙ length-append (take at a.code) (i ∷ drop (suc at) a.code) in
    let front = length-take at a.code in
    let rest = length-drop (suc at) a.code in
    omega (arith, whole, front, rest, h)
