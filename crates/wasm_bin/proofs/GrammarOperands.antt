-- Instructions are read exactly where the grammar spells them.
use Rattle.std.proofs.Common.{◌≡◌, ℕ, Bool, true, false, cond, List, Ok, refl, sym, ap, subst, arith}
use Rattle.std.specs.Prelude.{◌==◌, ◌||◌, ℤ}
use Rattle.std.proofs.lemmas.Bool.{eqb-true, or_left, or_right}
use Rattle.std.proofs.lemmas.Bool.Decides.{nat_tests}
use Rattle.wasm_bytes.specs.declared.fault.ModFault.TheVariants.{Malformed, Unsupported}
use Rattle.wasm_bin.specs.declared.module.MemArg.{MemArg}
use Rattle.wasm_bytes.specs.Outcome.{◌>>=◌}
use Rattle.wasm_bytes.specs.Piece.{Piece, byte_at, expected_at}
use Rattle.wasm_bytes.specs.Number.{u32_at, i32_at}
use Rattle.wasm_bin.specs.Opcode.{Operands, Plain, Typed, Index, Table, Access, Reserved, Number, Coded, is_block, is_control, is_indexed, is_access, is_sizing, is_comparison, is_arithmetic, is_instruction}
use Rattle.wasm_bin.specs.Entry.{list_at, value_type_at}
use Rattle.wasm_bin.specs.Body.{block_type_at, table_at, access_at, plain_of, operands_at}
use Rattle.wasm_bin.specs.Grammar.{◌⋅◌, Byte, SpellsNumber, SpellsVector, SpellsBlockType, Takes, SpellsOperands}
use Rattle.wasm_bin.proofs.GrammarSteps.{Took, Reads, bind_ok, guard_two, cases_of, done, given, along, join, split, none_taken, nothing_taken, byte_reads, expected_skips, number_reads, integer_reads, vector_reads}
use Rattle.wasm_bin.proofs.GrammarEntries.{value_type_skips}

block_type_complete : (p : Piece) (x : Bool) (q : Piece) → Took (SpellsBlockType x) p q → block_type_at p ≡ Ok (x, q)
unfolding block_type_at SpellsBlockType
block_type_complete p false q t = rw (byte_reads.complete p 0x40 q t) refl
block_type_complete p true q t = rw (byte_reads.complete p 0x7F q t, value_type_skips.complete p q t) refl

pub block_type_reads : Reads block_type_at SpellsBlockType
unfolding block_type_at SpellsBlockType
block_type_reads = record {
  sound = λ p x q e.
      let a = bind_ok (byte_at p) _ (x, q) e in
      cases_of (a.0.0 == 0x40) (Ok (false, a.0.1)) (value_type_at p >>= λ rest. Ok (true, rest)) (x, q) a.2
      (λ t h. along (λ v. Took (SpellsBlockType v.0) p v.1) (false, a.0.1) (x, q) h (subst (λ b. Took (Byte b) p a.0.1) (eqb-true a.0.0 0x40 t) (byte_reads.sound p a.0.0 a.0.1 a.1)))
      (λ t h. let b = bind_ok (value_type_at p) (λ rest. Ok (true, rest)) (x, q) h in along (λ v. Took (SpellsBlockType v.0) p v.1) (true, b.0) (x, q) b.2 (value_type_skips.sound p b.0 b.1));
  complete = block_type_complete;
}

pub labels_read : Reads (list_at u32_at) (SpellsVector SpellsNumber)
labels_read = vector_reads u32_at SpellsNumber number_reads

pub access_reads : Reads access_at (λ m. SpellsNumber m.align ⋅ SpellsNumber m.offset)
unfolding access_at
access_reads = record {
  sound = λ p x q e.
      let a = bind_ok (u32_at p) _ (x, q) e in
      let b = bind_ok (u32_at a.0.1) _ (x, q) a.2 in
      let found : MemArg = record { align = a.0.0; offset = b.0.0 } in
      along (λ v. Took (SpellsNumber v.0.align ⋅ SpellsNumber v.0.offset) p v.1) (found, b.0.1) (x, q) b.2 (join _ _ p a.0.1 b.0.1 (number_reads.sound p a.0.0 a.0.1 a.1) (number_reads.sound a.0.1 b.0.0 b.0.1 b.1));
  complete = λ p x q t.
      let a = split _ _ p q t in
      rw (number_reads.complete p x.align a.middle a.first, number_reads.complete a.middle x.offset q a.second) refl;
}

-- the operands of this opcode, which end there
pub record Follow (op : ℕ) (i : Coded) (p q : Piece) : Type 0 where
  pub opcode : i.0 ≡ op
  pub has : Takes i.0 i.1
  pub taken : Took (SpellsOperands i.1) p q

table_sound : (p : Piece) (i : Coded) (q : Piece) → table_at p ≡ Ok (i, q) → Follow 0x0E i p q
unfolding table_at Takes SpellsOperands
table_sound p i q e =
    let a = bind_ok (list_at u32_at p) _ (i, q) e in
    let b = bind_ok (u32_at a.0.1) _ (i, q) a.2 in
    let t : Took (SpellsVector SpellsNumber a.0.0 ⋅ SpellsNumber b.0.0) p b.0.1 = join (SpellsVector SpellsNumber a.0.0) (SpellsNumber b.0.0) p a.0.1 b.0.1 (labels_read.sound p a.0.0 a.0.1 a.1) (number_reads.sound a.0.1 b.0.0 b.0.1 b.1) in
    along (λ v. Follow 0x0E v.0 p v.1) ((0x0E, Table a.0.0 b.0.0), b.0.1) (i, q) b.2 (record { opcode = refl; has = refl; taken = t })

table_complete : (p : Piece) (labels : List ℕ) (label : ℕ) (q : Piece) → Took (SpellsVector SpellsNumber labels ⋅ SpellsNumber label) p q → table_at p ≡ Ok ((0x0E, Table labels label), q)
unfolding table_at
table_complete p labels label q t =
    let a = split (SpellsVector SpellsNumber labels) (SpellsNumber label) p q t in
    rw (labels_read.complete p labels a.middle a.first, number_reads.complete a.middle label q a.second) refl

pub some_of_four : {A : Type 0} (a b c d : Bool) (x y : A) → (a || b || c || d) ≡ true → cond a x (cond b x (cond c x (cond d x y))) ≡ x
some_of_four true b c d x y e = refl
some_of_four false true c d x y e = refl
some_of_four false false true d x y e = refl
some_of_four false false false true x y e = refl
some_of_four false false false false x y e = absurd cc

plain_sound : (at op : ℕ) (i : Coded) (p : Piece) → plain_of at op ≡ Ok i → Follow op i p p
unfolding plain_of Takes SpellsOperands
plain_sound at op i p e =
    let here = λ (h : done {A = Coded} (op, Plain) ≡ Ok i) (has : Takes op Plain). along (λ v. Follow op v p p) (op, Plain) i h (record { opcode = refl; has = has; taken = none_taken p }) in
    cases_of (op == 0x05) _ _ i e
    (λ t h. here h (or_left _ _ (or_left _ _ (or_left _ _ t))))
    (λ _ e1. cases_of (is_comparison op) _ _ i e1
    (λ t h. here h (or_left _ _ (or_left _ _ (or_right _ _ t))))
    (λ _ e2. cases_of (is_arithmetic op) _ _ i e2
    (λ t h. here h (or_left _ _ (or_right _ _ t)))
    (λ _ e3. let g = guard_two (is_control op) (is_instruction op) (Ok (op, Plain)) (Unsupported at) (Malformed at) i e3 in here g.1 (or_right _ _ g.0))))

plain_complete : (at op : ℕ) → Takes op Plain → plain_of at op ≡ Ok (op, Plain)
unfolding plain_of Takes
plain_complete at op h = some_of_four (op == 0x05) (is_comparison op) (is_arithmetic op) (is_control op) (Ok (op, Plain)) _ h

pub operands_sound : (at op : ℕ) (p : Piece) (i : Coded) (q : Piece) → operands_at at op p ≡ Ok (i, q) → Follow op i p q
unfolding operands_at Takes SpellsOperands
operands_sound at op p i q e =
    cases_of (is_block op) _ _ (i, q) e
    (λ t h. let a = bind_ok (block_type_at p) _ (i, q) h in along (λ v. Follow op v.0 p v.1) ((op, Typed a.0.0), a.0.1) (i, q) a.2 (record { opcode = refl; has = t; taken = block_type_reads.sound p a.0.0 a.0.1 a.1 }))
    (λ _ e1. cases_of (is_indexed op) _ _ (i, q) e1
    (λ t h. let a = bind_ok (u32_at p) _ (i, q) h in along (λ v. Follow op v.0 p v.1) ((op, Index a.0.0), a.0.1) (i, q) a.2 (record { opcode = refl; has = t; taken = number_reads.sound p a.0.0 a.0.1 a.1 }))
    (λ _ e2. cases_of (is_access op) _ _ (i, q) e2
    (λ t h. let a = bind_ok (access_at p) _ (i, q) h in along (λ v. Follow op v.0 p v.1) ((op, Access a.0.0), a.0.1) (i, q) a.2 (record { opcode = refl; has = t; taken = access_reads.sound p a.0.0 a.0.1 a.1 }))
    (λ _ e3. cases_of (is_sizing op) _ _ (i, q) e3
    (λ t h. let a = bind_ok (expected_at 0 p) _ (i, q) h in along (λ v. Follow op v.0 p v.1) ((op, Reserved), a.0) (i, q) a.2 (record { opcode = refl; has = t; taken = (expected_skips 0).sound p a.0 a.1 }))
    (λ _ e4. cases_of (op == 0x0E) _ _ (i, q) e4
    (λ t h. subst (λ n. Follow n i p q) (sym (eqb-true op 0x0E t)) (table_sound p i q h))
    (λ _ e5. cases_of (op == 0x41) _ _ (i, q) e5
    (λ t h. let a = bind_ok (i32_at p) _ (i, q) h in along (λ v. Follow op v.0 p v.1) ((op, Number a.0.0), a.0.1) (i, q) a.2 (record { opcode = refl; has = eqb-true op 0x41 t; taken = integer_reads.sound p a.0.0 a.0.1 a.1 }))
    (λ _ e6. let a = bind_ok (plain_of at op) _ (i, q) e6 in along (λ v. Follow op v.0 p v.1) (a.0, p) (i, q) a.2 (plain_sound at op a.0 p a.1)))))))

-- no opcode has operands of two kinds

indexed_no_block : (op : ℕ) → is_indexed op ≡ true → is_block op ≡ false
unfolding is_indexed is_block
indexed_no_block op h = grind (arith, nat_tests)

access_no_block : (op : ℕ) → is_access op ≡ true → is_block op ≡ false
unfolding is_access is_block
access_no_block op h = grind (arith, nat_tests)

access_no_index : (op : ℕ) → is_access op ≡ true → is_indexed op ≡ false
unfolding is_access is_indexed
access_no_index op h = grind (arith, nat_tests)

sizing_no_block : (op : ℕ) → is_sizing op ≡ true → is_block op ≡ false
unfolding is_sizing is_block
sizing_no_block op h = grind (arith, nat_tests)

sizing_no_index : (op : ℕ) → is_sizing op ≡ true → is_indexed op ≡ false
unfolding is_sizing is_indexed
sizing_no_index op h = grind (arith, nat_tests)

sizing_no_access : (op : ℕ) → is_sizing op ≡ true → is_access op ≡ false
unfolding is_sizing is_access
sizing_no_access op h = grind (arith, nat_tests)

-- an opcode of no kind before the plain ones
pub record IsOther (op : ℕ) : Type 0 where
  pub no_block : is_block op ≡ false
  pub no_index : is_indexed op ≡ false
  pub no_access : is_access op ≡ false
  pub no_sizing : is_sizing op ≡ false
  pub no_table : (op == 0x0E) ≡ false
  pub no_number : (op == 0x41) ≡ false

else_is_other : (op : ℕ) → op ≡ 0x05 → IsOther op
unfolding is_block is_indexed is_access is_sizing
else_is_other op h = record { no_block = rw h refl; no_index = rw h refl; no_access = rw h refl; no_sizing = rw h refl; no_table = rw h refl; no_number = rw h refl }

comparison_is_other : (op : ℕ) → is_comparison op ≡ true → IsOther op
unfolding is_comparison is_block is_indexed is_access is_sizing
comparison_is_other op h = record { no_block = grind (arith, nat_tests); no_index = grind (arith, nat_tests); no_access = grind (arith, nat_tests); no_sizing = grind (arith, nat_tests); no_table = grind (arith, nat_tests); no_number = grind (arith, nat_tests) }

arithmetic_is_other : (op : ℕ) → is_arithmetic op ≡ true → IsOther op
unfolding is_arithmetic is_block is_indexed is_access is_sizing
arithmetic_is_other op h = record { no_block = grind (arith, nat_tests); no_index = grind (arith, nat_tests); no_access = grind (arith, nat_tests); no_sizing = grind (arith, nat_tests); no_table = grind (arith, nat_tests); no_number = grind (arith, nat_tests) }

at_is_other : (op n : ℕ) → IsOther n → (op == n) ≡ true → IsOther op
at_is_other op n o h = subst IsOther (sym (eqb-true op n h)) o

zero_is_other : IsOther 0x00
unfolding is_block is_indexed is_access is_sizing
zero_is_other = record { no_block = refl; no_index = refl; no_access = refl; no_sizing = refl; no_table = refl; no_number = refl }

nop_is_other : IsOther 0x01
unfolding is_block is_indexed is_access is_sizing
nop_is_other = record { no_block = refl; no_index = refl; no_access = refl; no_sizing = refl; no_table = refl; no_number = refl }

pub end_is_other : IsOther 0x0B
unfolding is_block is_indexed is_access is_sizing
end_is_other = record { no_block = refl; no_index = refl; no_access = refl; no_sizing = refl; no_table = refl; no_number = refl }

return_is_other : IsOther 0x0F
unfolding is_block is_indexed is_access is_sizing
return_is_other = record { no_block = refl; no_index = refl; no_access = refl; no_sizing = refl; no_table = refl; no_number = refl }

drop_is_other : IsOther 0x1A
unfolding is_block is_indexed is_access is_sizing
drop_is_other = record { no_block = refl; no_index = refl; no_access = refl; no_sizing = refl; no_table = refl; no_number = refl }

select_is_other : IsOther 0x1B
unfolding is_block is_indexed is_access is_sizing
select_is_other = record { no_block = refl; no_index = refl; no_access = refl; no_sizing = refl; no_table = refl; no_number = refl }

by_or : {C : Type 0} (a b : Bool) → (a || b) ≡ true → (a ≡ true → C) → (b ≡ true → C) → C
by_or true b e f g = f refl
by_or false b e f g = g e

control_is_other : (op : ℕ) → is_control op ≡ true → IsOther op
unfolding is_control
control_is_other op h =
    by_or (op == 0x00 || op == 0x01 || op == 0x0B || op == 0x0F || op == 0x1A) (op == 0x1B) h
    (λ h. by_or (op == 0x00 || op == 0x01 || op == 0x0B || op == 0x0F) (op == 0x1A) h
    (λ h. by_or (op == 0x00 || op == 0x01 || op == 0x0B) (op == 0x0F) h
    (λ h. by_or (op == 0x00 || op == 0x01) (op == 0x0B) h
    (λ h. by_or (op == 0x00) (op == 0x01) h (at_is_other op 0x00 zero_is_other) (at_is_other op 0x01 nop_is_other))
    (at_is_other op 0x0B end_is_other))
    (at_is_other op 0x0F return_is_other))
    (at_is_other op 0x1A drop_is_other))
    (at_is_other op 0x1B select_is_other)

pub plain_is_other : (op : ℕ) → Takes op Plain → IsOther op
unfolding Takes
plain_is_other op h =
    by_or (op == 0x05 || is_comparison op || is_arithmetic op) (is_control op) h
    (λ h. by_or (op == 0x05 || is_comparison op) (is_arithmetic op) h
    (λ h. by_or (op == 0x05) (is_comparison op) h (λ h. else_is_other op (eqb-true op 0x05 h)) (comparison_is_other op))
    (arithmetic_is_other op))
    (control_is_other op)

at_table : (at : ℕ) (p : Piece) (labels : List ℕ) (label : ℕ) (q : Piece) → table_at p ≡ Ok ((0x0E, Table labels label), q) → operands_at at 0x0E p ≡ Ok ((0x0E, Table labels label), q)
unfolding operands_at is_block is_indexed is_access is_sizing
at_table at p labels label q h = h

at_number : (at : ℕ) (p : Piece) (z : ℤ) (q : Piece) → i32_at p ≡ Ok (z, q) → operands_at at 0x41 p ≡ Ok ((0x41, Number z), q)
unfolding operands_at is_block is_indexed is_access is_sizing
at_number at p z q h = rw h refl

pub operands_complete : (at op : ℕ) (o : Operands) (p q : Piece) → Takes op o → Took (SpellsOperands o) p q → operands_at at op p ≡ Ok ((op, o), q)
unfolding operands_at Takes SpellsOperands
operands_complete at op Plain p q has t =
    let k = plain_is_other op has in
    rw (k.no_block, k.no_index, k.no_access, k.no_sizing, k.no_table, k.no_number, plain_complete at op has) (ap (λ r. given (op, Plain) r) (nothing_taken p q t))
operands_complete at op (Typed gives) p q has t = rw (has, block_type_reads.complete p gives q t) refl
operands_complete at op (Index n) p q has t = rw (indexed_no_block op has, has, number_reads.complete p n q t) refl
operands_complete at op (Table labels label) p q has t = subst (λ n. operands_at at n p ≡ Ok ((n, Table labels label), q)) (sym has) (at_table at p labels label q (table_complete p labels label q t))
operands_complete at op (Access m) p q has t = rw (access_no_block op has, access_no_index op has, has, access_reads.complete p m q t) refl
operands_complete at op Reserved p q has t = rw (sizing_no_block op has, sizing_no_index op has, sizing_no_access op has, has, (expected_skips 0).complete p q t) refl
operands_complete at op (Number z) p q has t = subst (λ n. operands_at at n p ≡ Ok ((n, Number z), q)) (sym has) (at_number at p z q (integer_reads.complete p z q t))
