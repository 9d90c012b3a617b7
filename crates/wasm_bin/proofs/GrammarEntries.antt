-- The entries of the sections are read exactly where the grammar spells them.
use Rattle.std.proofs.Common.{◌≡◌, ℕ, zero, suc, ◌^◌, ◌≤◌, Bool, true, false, cond, List, [], Option, Some, None, Ok, Err, refl, ap, subst, inl, inr, arith}
use Rattle.std.specs.Prelude.{◌⊎◌, ◌==◌, ◌&&◌, ◌||◌, nat_le}
use Rattle.std.proofs.lemmas.Bool.{eqb-true, eq-eqb, leb-true, or_cases}
use Rattle.wasm_bytes.specs.declared.fault.ModFault.TheVariants.{Malformed, Unsupported}
use Rattle.wasm_bin.specs.declared.module.Limits.{Limits}
use Rattle.wasm_bin.specs.declared.module.FuncType.{FuncType}
use Rattle.wasm_bin.specs.declared.module.GlobalVar.{GlobalVar}
use Rattle.wasm_bytes.specs.Outcome.{◌>>=◌}
use Rattle.wasm_bytes.specs.Piece.{Piece, place, byte_at, expected_at}
use Rattle.wasm_bytes.specs.Number.{u32_at, i32_at, limited_at}
use Rattle.wasm_bytes.specs.Text.{bytes_at, name_at}
use Rattle.wasm_bin.specs.Opcode.{is_instruction}
use Rattle.wasm_bin.specs.Parts.{Foreign, Shown, Stretch}
use Rattle.wasm_bin.specs.Entry.{value_type_at, value_types_at, func_type_at, import_sort_at, import_at, flag_at, largest_at, limits_at, memories_at, only_at, initial_at, global_at, export_sort_at, export_at, memory_index_at, segment_at}
use Rattle.wasm_bin.specs.Grammar.{◌⋅◌, Row, Byte, Times, SpellsNumber, SpellsLimited, ValueType, SpellsFuncType, SpellsImport, SpellsRange, SpellsLimits, SpellsMemories, SpellsInitial, SpellsFlag, SpellsGlobal, SpellsSort, SpellsExport, SpellsSegment}
use Rattle.wasm_bin.proofs.GrammarSteps.{Took, Reads, Skips, respell, bind_ok, guard_ok, guard_two, chosen, done, along, join, split, none_taken, nothing_taken, byte_reads, expected_skips, number_reads, integer_reads, limited_reads, bytes_read, name_reads}

pub value_type_skips : Skips value_type_at ValueType
unfolding value_type_at
value_type_skips = record {
  sound = λ p q e.
      let a = bind_ok (byte_at p) _ q e in
      let g = guard_two (a.0.0 == 0x7F) (nat_le 0x7C a.0.0 && nat_le a.0.0 0x7E) (Ok a.0.1) (Unsupported (place p)) (Malformed (place p)) q a.2 in
      along (λ r. Took ValueType p r) a.0.1 q g.1 (subst (λ b. Took (Byte b) p a.0.1) (eqb-true a.0.0 0x7F g.0) (byte_reads.sound p a.0.0 a.0.1 a.1));
  complete = λ p q t. rw (byte_reads.complete p 0x7F q t) refl;
}

pub value_types_skip : (n : ℕ) → Skips (value_types_at n) (Times n ValueType)
unfolding value_types_at
value_types_skip zero = record { sound = λ p q e. along (λ r. Took (Row []) p r) p q e (none_taken p); complete = λ p q t. ap done (nothing_taken p q t) }
value_types_skip (suc n) =
    let rest = value_types_skip n in
    record {
      sound = λ p q e.
          let a = bind_ok (value_type_at p) (value_types_at n) q e in
          join ValueType (Times n ValueType) p a.0 q (value_type_skips.sound p a.0 a.1) (rest.sound a.0 q a.2);
      complete = λ p q t.
          let s = split ValueType (Times n ValueType) p q t in
          rw (value_type_skips.complete p s.middle s.first) (rest.complete s.middle q s.second);
    }

pub func_type_reads : Reads func_type_at SpellsFuncType
unfolding func_type_at SpellsFuncType
func_type_reads = record {
  sound = λ p x q e.
      let a = bind_ok (expected_at 0x60 p) _ (x, q) e in
      let b = bind_ok (limited_at (2 ^ 16) a.0) _ (x, q) a.2 in
      let c = bind_ok (value_types_at b.0.0 b.0.1) _ (x, q) b.2 in
      let d = bind_ok (u32_at c.0) _ (x, q) c.2 in
      let f = bind_ok (value_types_at d.0.0 d.0.1) _ (x, q) d.2 in
      let found : FuncType = record { params = b.0.0; results = d.0.0 } in
      along (λ v. Took (SpellsFuncType v.0) p v.1) (found, f.0) (x, q) f.2
      (join _ _ p a.0 f.0 ((expected_skips 0x60).sound p a.0 a.1)
      (join _ _ a.0 b.0.1 f.0 ((limited_reads (2 ^ 16)).sound a.0 b.0.0 b.0.1 b.1)
      (join _ _ b.0.1 c.0 f.0 ((value_types_skip b.0.0).sound b.0.1 c.0 c.1)
      (join _ _ c.0 d.0.1 f.0 (number_reads.sound c.0 d.0.0 d.0.1 d.1) ((value_types_skip d.0.0).sound d.0.1 f.0 f.1)))));
  complete = λ p x q t.
      let a = split _ _ p q t in
      let b = split _ _ a.middle q a.second in
      let c = split _ _ b.middle q b.second in
      let d = split _ _ c.middle q c.second in
      rw ((expected_skips 0x60).complete p a.middle a.first, (limited_reads (2 ^ 16)).complete a.middle x.params b.middle b.first, (value_types_skip x.params).complete b.middle c.middle c.first, number_reads.complete c.middle x.results d.middle d.first, (value_types_skip x.results).complete d.middle q d.second) refl;
}

pub import_sort_skips : Skips import_sort_at (Byte 0x00)
unfolding import_sort_at
import_sort_skips = record {
  sound = λ p q e.
      let a = bind_ok (byte_at p) _ q e in
      let g = guard_two (a.0.0 == 0) (nat_le a.0.0 3) (Ok a.0.1) (Unsupported (place p)) (Malformed (place p)) q a.2 in
      along (λ r. Took (Byte 0x00) p r) a.0.1 q g.1 (subst (λ b. Took (Byte b) p a.0.1) (eqb-true a.0.0 0 g.0) (byte_reads.sound p a.0.0 a.0.1 a.1));
  complete = λ p q t. rw (byte_reads.complete p 0 q t) refl;
}

pub import_reads : Reads import_at SpellsImport
unfolding import_at SpellsImport
import_reads = record {
  sound = λ p x q e.
      let a = bind_ok (name_at p) _ (x, q) e in
      let b = bind_ok (name_at a.0.1) _ (x, q) a.2 in
      let c = bind_ok (import_sort_at b.0.1) _ (x, q) b.2 in
      let d = bind_ok (u32_at c.0) _ (x, q) c.2 in
      let found : Foreign = record { origin = a.0.0; name = b.0.0; kind = d.0.0 } in
      along (λ v. Took (SpellsImport v.0) p v.1) (found, d.0.1) (x, q) d.2
      (join _ _ p a.0.1 d.0.1 (name_reads.sound p a.0.0 a.0.1 a.1)
      (join _ _ a.0.1 b.0.1 d.0.1 (name_reads.sound a.0.1 b.0.0 b.0.1 b.1)
      (join _ _ b.0.1 c.0 d.0.1 (import_sort_skips.sound b.0.1 c.0 c.1) (number_reads.sound c.0 d.0.0 d.0.1 d.1))));
  complete = λ p x q t.
      let a = split _ _ p q t in
      let b = split _ _ a.middle q a.second in
      let c = split _ _ b.middle q b.second in
      rw (name_reads.complete p x.origin a.middle a.first, name_reads.complete a.middle x.name b.middle b.first, import_sort_skips.complete b.middle c.middle c.first, number_reads.complete c.middle x.kind q c.second) refl;
}

flag_spelled : (b : ℕ) (bytes : List ℕ) → b ≤ 1 → Byte b bytes → SpellsFlag (b == 1) bytes
unfolding SpellsFlag
flag_spelled zero bytes le h = h
flag_spelled (suc zero) bytes le h = h
flag_spelled (suc (suc b)) bytes le h = absurd (omega arith)

flag_complete : (p : Piece) (x : Bool) (q : Piece) → Took (SpellsFlag x) p q → flag_at p ≡ Ok (x, q)
unfolding flag_at SpellsFlag
flag_complete p false q t = rw (byte_reads.complete p 0 q t) refl
flag_complete p true q t = rw (byte_reads.complete p 1 q t) refl

pub flag_reads : Reads flag_at SpellsFlag
unfolding flag_at
flag_reads = record {
  sound = λ p x q e.
      let a = bind_ok (byte_at p) _ (x, q) e in
      let g = guard_ok (nat_le a.0.0 1) (Ok (a.0.0 == 1, a.0.1)) (Malformed (place p)) (x, q) a.2 in
      along (λ v. Took (SpellsFlag v.0) p v.1) (a.0.0 == 1, a.0.1) (x, q) g.1 (respell (Byte a.0.0) (SpellsFlag (a.0.0 == 1)) p a.0.1 (λ bytes h. flag_spelled a.0.0 bytes (leb-true a.0.0 1 g.0) h) (byte_reads.sound p a.0.0 a.0.1 a.1));
  complete = flag_complete;
}

range_sound : (flag : Bool) (p a b : Piece) (least : ℕ) (largest : Option ℕ) (q : Piece) → Took (SpellsFlag flag) p a → Took (SpellsLimited 1024 least) a b → largest_at flag b ≡ Ok (largest, q) → Took (SpellsRange least largest) p q
unfolding largest_at SpellsFlag SpellsRange
range_sound false p a b least largest q f l e = along (λ v. Took (SpellsRange least v.0) p v.1) (None, b) (largest, q) e (join (Byte 0x00) (SpellsLimited 1024 least) p a b f l)
range_sound true p a b least largest q f l e =
    let n = bind_ok (u32_at b) _ (largest, q) e in
    along (λ v. Took (SpellsRange least v.0) p v.1) (Some n.0.0, n.0.1) (largest, q) n.2 (join (Byte 0x01) _ p a n.0.1 f (join (SpellsLimited 1024 least) (SpellsNumber n.0.0) a b n.0.1 l (number_reads.sound b n.0.0 n.0.1 n.1)))

range_complete : (p : Piece) (least : ℕ) (largest : Option ℕ) (q : Piece) → Took (SpellsRange least largest) p q → limits_at p ≡ Ok (record { min = least; max = largest }, q)
unfolding limits_at largest_at SpellsFlag SpellsRange
range_complete p least None q t =
    let a = split (Byte 0x00) (SpellsLimited 1024 least) p q t in
    rw (flag_reads.complete p false a.middle a.first, (limited_reads 1024).complete a.middle least q a.second) refl
range_complete p least (Some largest) q t =
    let a = split (Byte 0x01) (SpellsLimited 1024 least ⋅ SpellsNumber largest) p q t in
    let b = split (SpellsLimited 1024 least) (SpellsNumber largest) a.middle q a.second in
    rw (flag_reads.complete p true a.middle a.first, (limited_reads 1024).complete a.middle least b.middle b.first, number_reads.complete b.middle largest q b.second) refl

pub limits_reads : Reads limits_at SpellsLimits
unfolding limits_at SpellsLimits
limits_reads = record {
  sound = λ p x q e.
      let a = bind_ok (flag_at p) _ (x, q) e in
      let b = bind_ok (limited_at 1024 a.0.1) _ (x, q) a.2 in
      let c = bind_ok (largest_at a.0.0 b.0.1) _ (x, q) b.2 in
      let found : Limits = record { min = b.0.0; max = c.0.0 } in
      along (λ v. Took (SpellsLimits v.0) p v.1) (found, c.0.1) (x, q) c.2 (range_sound a.0.0 p a.0.1 b.0.1 b.0.0 c.0.0 c.0.1 (flag_reads.sound p a.0.0 a.0.1 a.1) ((limited_reads 1024).sound a.0.1 b.0.0 b.0.1 b.1) c.1);
  complete = λ p x q t. range_complete p x.min x.max q t;
}

memories_complete : (p : Piece) (x : Option Limits) (q : Piece) → Took (SpellsMemories x) p q → memories_at p ≡ Ok (x, q)
unfolding memories_at SpellsMemories
memories_complete p None q t = rw (number_reads.complete p 0 q t) refl
memories_complete p (Some l) q t =
    let a = split (SpellsNumber 1) (SpellsLimits l) p q t in
    rw (number_reads.complete p 1 a.middle a.first, limits_reads.complete a.middle l q a.second) refl

pub memories_reads : Reads memories_at SpellsMemories
unfolding memories_at SpellsMemories
memories_reads = record {
  sound = λ p x q e.
      let a = bind_ok (u32_at p) _ (x, q) e in
      let n = number_reads.sound p a.0.0 a.0.1 a.1 in
      let one = λ (g : (a.0.0 == 1 ≡ true) × ((limits_at a.0.1 >>= λ m. Ok (Some m.0, m.1)) ≡ Ok (x, q))).
      (let b = bind_ok (limits_at a.0.1) (λ m. Ok (Some m.0, m.1)) (x, q) g.1 in
      along (λ v. Took (SpellsMemories v.0) p v.1) (Some b.0.0, b.0.1) (x, q) b.2 (join (SpellsNumber 1) (SpellsLimits b.0.0) p a.0.1 b.0.1 (subst (λ k. Took (SpellsNumber k) p a.0.1) (eqb-true a.0.0 1 g.0) n) (limits_reads.sound a.0.1 b.0.0 b.0.1 b.1))) in
      elim (chosen (a.0.0 == 0) (Ok (None, a.0.1)) (cond (a.0.0 == 1) (limits_at a.0.1 >>= λ m. Ok (Some m.0, m.1)) (Err (Unsupported (place p)))) (x, q) a.2) [
        | inl g ↦ along (λ v. Took (SpellsMemories v.0) p v.1) (None, a.0.1) (x, q) g.1 (subst (λ k. Took (SpellsNumber k) p a.0.1) (eqb-true a.0.0 0 g.0) n)
        | inr g ↦ one (guard_ok (a.0.0 == 1) (limits_at a.0.1 >>= λ m. Ok (Some m.0, m.1)) (Unsupported (place p)) (x, q) g.1)
      ];
  complete = memories_complete;
}

pub only_skips : (opcode : ℕ) → Skips (only_at opcode) (Byte opcode)
unfolding only_at
only_skips opcode = record {
  sound = λ p q e.
      let a = bind_ok (byte_at p) _ q e in
      let g = guard_two (a.0.0 == opcode) (is_instruction a.0.0) (Ok a.0.1) (Unsupported (place p)) (Malformed (place p)) q a.2 in
      along (λ r. Took (Byte opcode) p r) a.0.1 q g.1 (subst (λ b. Took (Byte b) p a.0.1) (eqb-true a.0.0 opcode g.0) (byte_reads.sound p a.0.0 a.0.1 a.1));
  complete = λ p q t. rw (byte_reads.complete p opcode q t, eq-eqb opcode opcode refl) refl;
}

pub initial_reads : Reads initial_at SpellsInitial
unfolding initial_at SpellsInitial
initial_reads = record {
  sound = λ p x q e.
      let a = bind_ok (only_at 0x41 p) _ (x, q) e in
      let b = bind_ok (i32_at a.0) _ (x, q) a.2 in
      let c = bind_ok (only_at 0x0B b.0.1) _ (x, q) b.2 in
      along (λ v. Took (SpellsInitial v.0) p v.1) (b.0.0, c.0) (x, q) c.2
      (join _ _ p a.0 c.0 ((only_skips 0x41).sound p a.0 a.1) (join _ _ a.0 b.0.1 c.0 (integer_reads.sound a.0 b.0.0 b.0.1 b.1) ((only_skips 0x0B).sound b.0.1 c.0 c.1)));
  complete = λ p x q t.
      let a = split _ _ p q t in
      let b = split _ _ a.middle q a.second in
      rw ((only_skips 0x41).complete p a.middle a.first, integer_reads.complete a.middle x b.middle b.first, (only_skips 0x0B).complete b.middle q b.second) refl;
}

pub global_reads : Reads global_at SpellsGlobal
unfolding global_at SpellsGlobal
global_reads = record {
  sound = λ p x q e.
      let a = bind_ok (value_type_at p) _ (x, q) e in
      let b = bind_ok (flag_at a.0) _ (x, q) a.2 in
      let c = bind_ok (initial_at b.0.1) _ (x, q) b.2 in
      let found : GlobalVar = record { mutable = b.0.0; first = c.0.0 } in
      along (λ v. Took (SpellsGlobal v.0) p v.1) (found, c.0.1) (x, q) c.2
      (join _ _ p a.0 c.0.1 (value_type_skips.sound p a.0 a.1) (join _ _ a.0 b.0.1 c.0.1 (flag_reads.sound a.0 b.0.0 b.0.1 b.1) (initial_reads.sound b.0.1 c.0.0 c.0.1 c.1)));
  complete = λ p x q t.
      let a = split _ _ p q t in
      let b = split _ _ a.middle q a.second in
      rw (value_type_skips.complete p a.middle a.first, flag_reads.complete a.middle x.mutable b.middle b.first, initial_reads.complete b.middle x.first q b.second) refl;
}

sort_is : (n : ℕ) → (n == 0 || n == 2 || n == 3) ≡ true → (n ≡ 0) ⊎ (n ≡ 2) ⊎ (n ≡ 3)
sort_is n e = elim (or_cases (n == 0 || n == 2) (n == 3) e) [
  | inl h ↦ elim (or_cases (n == 0) (n == 2) h) [ inl a ↦ inl (eqb-true n 0 a) | inr a ↦ inr (inl (eqb-true n 2 a)) ]
  | inr h ↦ inr (inr (eqb-true n 3 h))
]

is_sort : (n : ℕ) → ((n ≡ 0) ⊎ (n ≡ 2) ⊎ (n ≡ 3)) → (n == 0 || n == 2 || n == 3) ≡ true
is_sort n (inl e) = rw e refl
is_sort n (inr (inl e)) = rw e refl
is_sort n (inr (inr e)) = rw e refl

pub export_sort_reads : Reads export_sort_at SpellsSort
unfolding export_sort_at SpellsSort
export_sort_reads = record {
  sound = λ p x q e.
      let a = bind_ok (byte_at p) _ (x, q) e in
      let g = guard_two (a.0.0 == 0 || a.0.0 == 2 || a.0.0 == 3) (a.0.0 == 1) (Ok a.0) (Unsupported (place p)) (Malformed (place p)) (x, q) a.2 in
      along (λ v. Took (SpellsSort v.0) p v.1) a.0 (x, q) g.1 (respell (Byte a.0.0) (SpellsSort a.0.0) p a.0.1 (λ bytes h. (sort_is a.0.0 g.0, h)) (byte_reads.sound p a.0.0 a.0.1 a.1));
  complete = λ p x q t. rw (byte_reads.complete p x q (respell (SpellsSort x) (Byte x) p q (λ bytes h. h.1) t), is_sort x t.spelled.0) refl;
}

pub export_reads : Reads export_at SpellsExport
unfolding export_at SpellsExport
export_reads = record {
  sound = λ p x q e.
      let a = bind_ok (name_at p) _ (x, q) e in
      let b = bind_ok (export_sort_at a.0.1) _ (x, q) a.2 in
      let c = bind_ok (u32_at b.0.1) _ (x, q) b.2 in
      let found : Shown = record { name = a.0.0; sort = b.0.0; index = c.0.0 } in
      along (λ v. Took (SpellsExport v.0) p v.1) (found, c.0.1) (x, q) c.2
      (join _ _ p a.0.1 c.0.1 (name_reads.sound p a.0.0 a.0.1 a.1) (join _ _ a.0.1 b.0.1 c.0.1 (export_sort_reads.sound a.0.1 b.0.0 b.0.1 b.1) (number_reads.sound b.0.1 c.0.0 c.0.1 c.1)));
  complete = λ p x q t.
      let a = split _ _ p q t in
      let b = split _ _ a.middle q a.second in
      rw (name_reads.complete p x.name a.middle a.first, export_sort_reads.complete a.middle x.sort b.middle b.first, number_reads.complete b.middle x.index q b.second) refl;
}

pub memory_index_skips : Skips memory_index_at (SpellsNumber 0)
unfolding memory_index_at
memory_index_skips = record {
  sound = λ p q e.
      let a = bind_ok (u32_at p) _ q e in
      let g = guard_ok (a.0.0 == 0) (Ok a.0.1) (Unsupported (place p)) q a.2 in
      along (λ r. Took (SpellsNumber 0) p r) a.0.1 q g.1 (subst (λ n. Took (SpellsNumber n) p a.0.1) (eqb-true a.0.0 0 g.0) (number_reads.sound p a.0.0 a.0.1 a.1));
  complete = λ p q t. rw (number_reads.complete p 0 q t) refl;
}

pub segment_reads : Reads segment_at SpellsSegment
unfolding segment_at SpellsSegment
segment_reads = record {
  sound = λ p x q e.
      let a = bind_ok (memory_index_at p) _ (x, q) e in
      let b = bind_ok (initial_at a.0) _ (x, q) a.2 in
      let c = bind_ok (bytes_at b.0.1) _ (x, q) b.2 in
      let found : Stretch = record { offset = b.0.0; bytes = c.0.0 } in
      along (λ v. Took (SpellsSegment v.0) p v.1) (found, c.0.1) (x, q) c.2
      (join _ _ p a.0 c.0.1 (memory_index_skips.sound p a.0 a.1) (join _ _ a.0 b.0.1 c.0.1 (initial_reads.sound a.0 b.0.0 b.0.1 b.1) (bytes_read.sound b.0.1 c.0.0 c.0.1 c.1)));
  complete = λ p x q t.
      let a = split _ _ p q t in
      let b = split _ _ a.middle q a.second in
      rw (memory_index_skips.complete p a.middle a.first, initial_reads.complete a.middle x.offset b.middle b.first, bytes_read.complete b.middle x.bytes q b.second) refl;
}
