-- What bytes spell is a module: each opcode with its operands is an instruction.
use Rattle.std.proofs.Common.{◌≡◌, ◌≢◌, ◌⊎◌, ⊎_elim, ℕ, zero, suc, ◌<◌, Bool, true, false, not, ◌||◌, ◌&&◌, nat_eq, List, [], ◌∷◌, map, Result, Ok, Err, refl, sym, ap, subst, ◌∙◌, inl, inr, arith}
use Rattle.std.specs.Prelude.{◌==◌}
use Rattle.std.specs.List.{list_all}
use Rattle.std.proofs.lemmas.Bool.{eqb-true}
use Rattle.std.proofs.lemmas.Bool.Decides.{nat_tests}
use Rattle.wasm_bytes.specs.declared.fault.ModFault.{ModFault}
use Rattle.wasm_bytes.specs.declared.fault.ModFault.TheVariants.{Malformed, Unsupported, TooLarge, Memory}
use Rattle.wasm_bin.specs.declared.module.Module.{Module}
use Rattle.wasm_bin.specs.Opcode.{Operands, Coded, Plain, Typed, Index, Table, Access, Reserved, Number, coded, is_block, is_control, is_indexed, is_access, is_sizing, is_comparison, is_arithmetic}
use Rattle.wasm_bin.specs.Parts.{Foreign, Shown, Function, Stretch, Parts, foreign, shown, function_of, stretch, parts_of}
use Rattle.wasm_bin.specs.Section.{module_in, params_of}
use Rattle.wasm_bin.specs.Grammar.{Takes, InTurn, SpellsInstruction, SpellsCode, SpellsBody, SpellsBodies, SpellsFuncs, ModuleSpells, Following}
use Rattle.wasm_bin.specs.Module.{module_spells, IsRefusedFor}
use Rattle.wasm_bin.proofs.Apart.{plain_of, decoded, import_of, export_of, body_of, segment_of, module_of, all_back}
use Rattle.wasm_bin.proofs.Faults.{no_memory}
use Rattle.wasm_bin.proofs.GrammarModules.{modules_spelled}

-- ---- opcodes without operands, one after the other

is_plain : Operands → Bool
is_plain Plain = true
is_plain _ = false

takes_plain : ℕ → Bool
takes_plain op = op == 0x05 || is_comparison op || is_arithmetic op || is_control op

fits_plain : ℕ → Coded → Bool
fits_plain op i = nat_eq i.0 op && is_plain i.1

passes : ℕ → Bool
passes op = not (takes_plain op) || fits_plain op (coded (plain_of op))

below : ℕ → List ℕ
below zero = []
below (suc n) = n ∷ below n

all_pass : list_all passes (below 121) ≡ true
unfolding passes takes_plain fits_plain is_plain below is_comparison is_arithmetic is_control
all_pass = refl

both_parts : (a b : Bool) → (a && b) ≡ true → (a ≡ true) × (b ≡ true)
both_parts true b e = (refl, e)
both_parts false b e = absurd cc

last_or_below : (k n : ℕ) → k < suc n → (k ≡ n) ⊎ (k < n)
last_or_below k n lt = grind arith

each_passes : (n k : ℕ) → list_all passes (below n) ≡ true → k < n → passes k ≡ true
unfolding below
each_passes zero k e lt = absurd (omega arith)
each_passes (suc n) k e lt = ⊎_elim (λ same. subst (λ j. passes j ≡ true) (sym same) (both_parts (passes n) (list_all passes (below n)) e).0) (λ less. each_passes n k (both_parts (passes n) (list_all passes (below n)) e).1 less) (last_or_below k n lt)

low : (op : ℕ) → takes_plain op ≡ true → op < 121
unfolding takes_plain is_comparison is_arithmetic is_control
low op e = grind (arith, nat_tests)

not_both : (a : Bool) → (a && false) ≡ true → ⊥
not_both true e = cc
not_both false e = cc

plain_is : (op : ℕ) (i : Coded) → fits_plain op i ≡ true → i ≡ (op, Plain)
unfolding fits_plain is_plain
plain_is op (a, Plain) e = ap (λ k. (k, Plain)) (eqb-true a op (both_parts (nat_eq a op) true e).0)
plain_is op (a, _) e = absurd (not_both (nat_eq a op) e)

or_passes : (a b : Bool) → a ≡ true → (not a || b) ≡ true → b ≡ true
or_passes true b e f = f
or_passes false b e f = absurd cc

plain_known : (op : ℕ) → takes_plain op ≡ true → coded (plain_of op) ≡ (op, Plain)
unfolding passes
plain_known op e = plain_is op (coded (plain_of op)) (or_passes (takes_plain op) (fits_plain op (coded (plain_of op))) e (each_passes 121 op all_pass (low op e)))

-- ---- opcodes with operands

blocks : (op : ℕ) → is_block op ≡ true → (op ≡ 0x02) ⊎ ((op ≡ 0x03) ⊎ (op ≡ 0x04))
unfolding is_block
blocks op e = grind (arith, nat_tests)

indexed : (op : ℕ) → is_indexed op ≡ true → (op ≡ 0x0C) ⊎ ((op ≡ 0x0D) ⊎ ((op ≡ 0x10) ⊎ ((op ≡ 0x20) ⊎ ((op ≡ 0x21) ⊎ ((op ≡ 0x22) ⊎ ((op ≡ 0x23) ⊎ (op ≡ 0x24)))))))
unfolding is_indexed
indexed op e = grind (arith, nat_tests)

accesses : (op : ℕ) → is_access op ≡ true → (op ≡ 0x28) ⊎ ((op ≡ 0x2C) ⊎ ((op ≡ 0x2D) ⊎ ((op ≡ 0x2E) ⊎ ((op ≡ 0x2F) ⊎ ((op ≡ 0x36) ⊎ ((op ≡ 0x3A) ⊎ (op ≡ 0x3B)))))))
unfolding is_access
accesses op e = grind (arith, nat_tests)

sizings : (op : ℕ) → is_sizing op ≡ true → (op ≡ 0x3F) ⊎ (op ≡ 0x40)
unfolding is_sizing
sizings op e = grind (arith, nat_tests)

abbrev IsKnown : Coded → Type 0
IsKnown i = coded (decoded i) ≡ i

at : (x : Operands) (op k : ℕ) → op ≡ k → IsKnown (k, x) → IsKnown (op, x)
at x op k e h = subst (λ j. IsKnown (j, x)) (sym e) h

known : (op : ℕ) (x : Operands) → Takes op x → IsKnown (op, x)
unfolding Takes takes_plain
known op Plain t = plain_known op t
known op (Typed gives) t = ⊎_elim (λ e. at (Typed gives) op 0x02 e refl) (λ r. ⊎_elim (λ e. at (Typed gives) op 0x03 e refl) (λ e. at (Typed gives) op 0x04 e refl) r) (blocks op t)
known op (Index n) t =
    let x = Index n in
    ⊎_elim (λ e. at x op 0x0C e refl) (λ r. ⊎_elim (λ e. at x op 0x0D e refl) (λ r. ⊎_elim (λ e. at x op 0x10 e refl) (λ r. ⊎_elim (λ e. at x op 0x20 e refl) (λ r. ⊎_elim (λ e. at x op 0x21 e refl)
    (λ r. ⊎_elim (λ e. at x op 0x22 e refl) (λ r. ⊎_elim (λ e. at x op 0x23 e refl) (λ e. at x op 0x24 e refl) r) r) r) r) r) r) (indexed op t)
known op (Table labels label) t = at (Table labels label) op 0x0E t refl
known op (Access m) t =
    let x = Access m in
    ⊎_elim (λ e. at x op 0x28 e refl) (λ r. ⊎_elim (λ e. at x op 0x2C e refl) (λ r. ⊎_elim (λ e. at x op 0x2D e refl) (λ r. ⊎_elim (λ e. at x op 0x2E e refl) (λ r. ⊎_elim (λ e. at x op 0x2F e refl)
    (λ r. ⊎_elim (λ e. at x op 0x36 e refl) (λ r. ⊎_elim (λ e. at x op 0x3A e refl) (λ e. at x op 0x3B e refl) r) r) r) r) r) r) (accesses op t)
known op Reserved t = ⊎_elim (λ e. at Reserved op 0x3F e refl) (λ e. at Reserved op 0x40 e refl) (sizings op t)
known op (Number z) t = at (Number z) op 0x41 t refl

-- ---- code and modules

code_known : (code : List Coded) (bytes : List ℕ) → InTurn SpellsInstruction code bytes → map coded (map decoded code) ≡ code
unfolding SpellsInstruction
code_known [] bytes h = refl
code_known (i ∷ code) bytes h = ap (λ y. y ∷ map coded (map decoded code)) (known i.0 i.1 h.first.0) ∙ ap (λ ys. i ∷ ys) (code_known code h.back h.second)

body_known : (params : ℕ) (c : Function) (bytes : List ℕ) → SpellsBody params c bytes → function_of (body_of c) ≡ c
unfolding SpellsBody SpellsCode
body_known params c bytes h = ap (λ (l : List Coded). record { locals = c.locals; instructions = l }) (code_known c.instructions h.spelled.back h.spelled.second.1)

bodies_known : (params : List ℕ) (bodies : List Function) (bytes : List ℕ) → SpellsBodies params bodies bytes → map function_of (map body_of bodies) ≡ bodies
unfolding SpellsBodies
bodies_known [] [] bytes h = refl
bodies_known (p ∷ params) (c ∷ bodies) bytes h = ap (λ y. y ∷ map function_of (map body_of bodies)) (body_known p c h.front h.first) ∙ ap (λ ys. c ∷ ys) (bodies_known params bodies h.back h.second)
bodies_known [] (c ∷ bodies) bytes h = absurd h
bodies_known (p ∷ params) [] bytes h = refl

all_bodies : (p : Parts) (bytes : List ℕ) → Following 10 (SpellsFuncs p.types p.funcs p.bodies) ((p.funcs ≡ []) × (p.bodies ≡ [])) bytes → map function_of (map body_of p.bodies) ≡ p.bodies
all_bodies p bytes v = elim v.second [
  | inl section ↦ bodies_known (map (params_of p.types) p.funcs) p.bodies section.second.spelled.back section.second.spelled.second
  | inr absent ↦ ap (λ (l : List Function). map function_of (map body_of l)) absent.0.1 ∙ sym absent.0.1
]

built : (bytes : List ℕ) (p : Parts) → ModuleSpells bytes p → parts_of (module_of p) ≡ p
unfolding ModuleSpells
built bytes p s =
    let t = s.second.second.second.second.second.second.second.second in
    let bodies : map function_of (map body_of p.bodies) ≡ p.bodies = all_bodies p t.front t.first in
    ap (λ (x : List Foreign). record (parts_of (module_of p)) { imports = x }) (all_back import_of foreign (λ i. refl) p.imports)
    ∙ (ap (λ (x : List Shown). record (parts_of (module_of p)) { imports = p.imports; exports = x }) (all_back export_of shown (λ e. refl) p.exports)
    ∙ (ap (λ (x : List Function). record (parts_of (module_of p)) { imports = p.imports; exports = p.exports; bodies = x }) bodies
    ∙ ap (λ (x : List Stretch). record p { segments = x }) (all_back segment_of stretch (λ s. refl) p.segments)))

by_reading : (bytes : List ℕ) (r : Result Parts ModFault) → module_in bytes ≡ r → ((m : Module) × module_spells bytes m) ⊎ ((fault : ModFault) × (fault ≢ Memory) × IsRefusedFor bytes fault)
by_reading bytes (Ok p) e =
    let s : ModuleSpells bytes p = (modules_spelled bytes p).0 e in
    inl (module_of p, subst (ModuleSpells bytes) (sym (built bytes p s)) s)
by_reading bytes (Err (Malformed k)) e = inr (Malformed k, (λ x. cc), e)
by_reading bytes (Err (Unsupported k)) e = inr (Unsupported k, (λ x. cc), e)
by_reading bytes (Err (TooLarge k)) e = inr (TooLarge k, (λ x. cc), e)
by_reading bytes (Err Memory) e = absurd (no_memory bytes e)

pub spelled_or : (bytes : List ℕ) → ((m : Module) × module_spells bytes m) ⊎ ((fault : ModFault) × (fault ≢ Memory) × IsRefusedFor bytes fault)
spelled_or bytes = by_reading bytes (module_in bytes) refl
