-- The code of a program is a Whitespace program, and its text spells it.
use Rattle.std.proofs.Common.{◌≡◌, ◌≢◌, ℕ, zero, suc, ◌+◌, ◌-◌, ◌*◌, ◌/◌, ◌%◌, ◌^◌, ◌<◌, ◌≤◌, true, false, nat_eq, List, [], ◌∷◌, ◌++◌, length, map, Contains, refl, sym, ap, subst, arith}
use Rattle.std.specs.Prelude.{ℤ, pos, negsuc, unsigned_abs, IsTrue}
use Rattle.std.specs.List.{AllByRecursion, filter_map}
use Rattle.std.proofs.lemmas.Bool.{lt-ltb, eqb-true, eqb-false}
use Rattle.std.proofs.lemmas.List.Elements.{Contains-append_left, Contains-append_right, filter_map-append}
use Rattle.eir_core.specs.Eir.{Eir, size_of}
use Rattle.ws_lang.specs.declared.sign.Sign.{Sign}
use Rattle.ws_lang.specs.declared.sign.Sign.TheVariants.{Space, Tab, LineFeed}
use Rattle.ws_lang.specs.Instruction.{Instruction, Push, Duplicate, Swap, Discard, Copy, Slide, Add, Subtract, Multiply, Divide, Modulo, Store, Retrieve, Mark, Call, Jump, JumpIfZero, JumpIfNegative, Return, End, WriteCharacter, WriteNumber, ReadCharacter, ReadNumber, numbers_of, uses, IsInRange, IsWhitespace}
use Rattle.mach_core.specs.Integer.{is_in_range}
use Rattle.ws_lang.specs.Spelling.{sign_of, signs_of, binary, signed, name_of, SpellsNumber, SpellsParameter, SpellsCode, ws_spells}
use Rattle.ws_back.specs.Code.{digits, label, end_label, dispatch_label, branch_label, block_label, code_of}
use Rattle.ws_back.specs.Text.{byte_of, is_negative, number_signs, parameter_of, instruction_text, text_of}
use Rattle.ws_back.proofs.Labels.{binary-digits}
use Rattle.ws_back.proofs.Places.{block_labels, branch_labels, own_labels, marks-code, marked_once}
use Rattle.ws_back.proofs.Good.{IsOwn, IsSmall, good_code}

-- numbers in range

abs_in_range : (z : ℤ) → unsigned_abs z < 2 ^ 25 → IsTrue (is_in_range z)
abs_in_range (pos n) h = lt-ltb n (2 ^ 63) (omega arith)
abs_in_range (negsuc n) h = lt-ltb n (2 ^ 63) (omega arith)

all_weaker : {X : Type 0} (P Q : X → Type 0) → ((x : X) → P x → Q x) → (xs : List X) → AllByRecursion P xs → AllByRecursion Q xs
all_weaker P Q f [] p = tt
all_weaker P Q f (x ∷ xs) p = (f x p.0, all_weaker P Q f xs p.1)

in_range_of : (is : List Instruction) → AllByRecursion IsSmall is → AllByRecursion IsInRange is
in_range_of is p = all_weaker IsSmall IsInRange (λ x h. all_weaker (λ z. unsigned_abs z < 2 ^ 25) (λ z. IsTrue (is_in_range z)) abs_in_range (numbers_of x) h) is p

-- each label of the program is marked

marked_block : (k more i : ℕ) → i < more → Contains (block_labels k more) (block_label (k + i))
marked_block k zero i h = absurd (omega arith)
marked_block k (suc more) zero h = let e : k ≡ k + 0 = omega arith in subst (λ j. Contains (block_labels k (suc more)) (block_label j)) e (0, omega arith, refl)
marked_block k (suc more) (suc i) h =
    let e : suc k + i ≡ k + suc i = omega arith in
    subst (λ j. Contains (block_labels k (suc more)) (block_label j)) e (Contains-append_right (block_label k ∷ []) (block_labels (suc k) more) (block_label (suc k + i)) (marked_block (suc k) more i (omega arith)))

marked_branch : (low more i : ℕ) → low < i → i ≤ low + more → Contains (branch_labels low more) (branch_label i)
marked_branch low zero i lt le = absurd (omega arith)
marked_branch low (suc more) i lt le =
    let top = branch_label (low + suc more) in
    elim (nat_eq i (low + suc more)) as (λ b. nat_eq i (low + suc more) ≡ b → Contains (branch_labels low (suc more)) (branch_label i)) [
      | true ↦ λ e. let same : low + suc more ≡ i = sym (eqb-true i (low + suc more) e) in subst (λ j. Contains (branch_labels low (suc more)) (branch_label j)) same (0, omega arith, refl)
      | false ↦ λ e.
          let other : i ≢ low + suc more = eqb-false i (low + suc more) e in
          Contains-append_right (top ∷ []) (branch_labels low more) (branch_label i) (marked_branch low more i lt (omega arith))
    ] refl

-- an odd number, and an even one but 0
marked_odd : (n i : ℕ) → i ≤ n → Contains (own_labels n) (branch_label i)
marked_odd n zero h = (0, omega arith, refl)
marked_odd n (suc i) h =
    let ls = block_labels 0 n ++ end_label ∷ [] in
    Contains-append_right (dispatch_label ∷ []) (branch_labels 0 n ++ ls) (branch_label (suc i)) (Contains-append_left (branch_labels 0 n) ls (branch_label (suc i)) (marked_branch 0 n (suc i) (omega arith) (omega arith)))

marked_even : (n i : ℕ) → i < n → Contains (own_labels n) (block_label i)
marked_even n i h =
    let e : 0 + i ≡ i = omega arith in
    Contains-append_right (dispatch_label ∷ branch_labels 0 n) (block_labels 0 n ++ end_label ∷ []) (block_label i)
    (Contains-append_left (block_labels 0 n) (end_label ∷ []) (block_label i) (subst (λ j. Contains (block_labels 0 n) (block_label j)) e (marked_block 0 n i h)))

marked : (n j : ℕ) → j < 2 * n + 2 → Contains (own_labels n) (label j)
marked n j h =
    elim (nat_eq (j % 2) 1) as (λ b. nat_eq (j % 2) 1 ≡ b → Contains (own_labels n) (label j)) [
      | true ↦ λ e.
          let odd : j % 2 ≡ 1 = eqb-true (j % 2) 1 e in
          let is : 2 * (j / 2) + 1 ≡ j = omega arith in
          subst (λ i. Contains (own_labels n) (label i)) is (marked_odd n (j / 2) (omega arith))
      | false ↦ λ e. let even : j % 2 ≢ 1 = eqb-false (j % 2) 1 e in marked_other n j h (omega arith)
    ] refl
  where
    marked_other : (n j : ℕ) → j < 2 * n + 2 → j % 2 ≡ 0 → Contains (own_labels n) (label j)
    marked_other n zero h even =
        Contains-append_right (dispatch_label ∷ branch_labels 0 n) (block_labels 0 n ++ end_label ∷ []) end_label (Contains-append_right (block_labels 0 n) (end_label ∷ []) end_label (0, omega arith, refl))
    marked_other n (suc j) h even =
        let is : 2 * (suc j / 2 - 1) + 2 ≡ suc j = omega arith in
        subst (λ i. Contains (own_labels n) (label i)) is (marked_even n (suc j / 2 - 1) (omega arith))

sound_code : (p : Eir) → size_of p ≤ 2 ^ 17 → IsWhitespace (code_of p)
sound_code p small =
    let n = length p.blocks in
    let good = good_code p small in
    record {
      in_range = in_range_of (code_of p) good.small;
      marked_once = marked_once p (omega arith);
      marked = subst (λ ls. AllByRecursion (Contains ls) (uses (code_of p))) (sym (marks-code p))
          (all_weaker (IsOwn n) (Contains (own_labels n)) (λ l own. subst (Contains (own_labels n)) (sym own.same) (marked n own.number own.within)) (uses (code_of p)) good.own);
    }

-- the text

signs_again : (signs : List Sign) → filter_map sign_of (map byte_of signs) ≡ signs
signs_again [] = refl
signs_again (Space ∷ signs) = ap (λ (xs : List Sign). Space ∷ xs) (signs_again signs)
signs_again (Tab ∷ signs) = ap (λ (xs : List Sign). Tab ∷ xs) (signs_again signs)
signs_again (LineFeed ∷ signs) = ap (λ (xs : List Sign). LineFeed ∷ xs) (signs_again signs)

instruction_signs : (x : Instruction) → signs_of (instruction_text x) ≡ name_of x ++ parameter_of x
unfolding instruction_text
instruction_signs x = signs_again (name_of x ++ parameter_of x)

valued : (z : ℤ) → unsigned_abs z < 2 ^ 25 → z ≡ signed (is_negative z) (binary (digits 25 (unsigned_abs z)))
valued (pos n) h = ap pos (sym (binary-digits 25 n h))
valued (negsuc n) h = ap (signed true) (sym (binary-digits 25 (suc n) h))

spells_number : (z : ℤ) → unsigned_abs z < 2 ^ 25 → SpellsNumber (number_signs z) z
spells_number z h = record { negative = is_negative z; digits = digits 25 (unsigned_abs z); spelled = refl; valued = valued z h }

spells_parameter : (x : Instruction) → IsSmall x → SpellsParameter (parameter_of x) x
spells_parameter (Push n) h = spells_number n h.0
spells_parameter (Copy n) h = spells_number n h.0
spells_parameter (Slide n) h = spells_number n h.0
spells_parameter (Mark l) h = refl
spells_parameter (Call l) h = refl
spells_parameter (Jump l) h = refl
spells_parameter (JumpIfZero l) h = refl
spells_parameter (JumpIfNegative l) h = refl
spells_parameter Duplicate h = refl
spells_parameter Swap h = refl
spells_parameter Discard h = refl
spells_parameter Add h = refl
spells_parameter Subtract h = refl
spells_parameter Multiply h = refl
spells_parameter Divide h = refl
spells_parameter Modulo h = refl
spells_parameter Store h = refl
spells_parameter Retrieve h = refl
spells_parameter Return h = refl
spells_parameter End h = refl
spells_parameter WriteCharacter h = refl
spells_parameter WriteNumber h = refl
spells_parameter ReadCharacter h = refl
spells_parameter ReadNumber h = refl

spells_code : (is : List Instruction) → AllByRecursion IsSmall is → SpellsCode (signs_of (text_of is)) is
spells_code [] h = refl
spells_code (x ∷ is) h = (
  signs_of (instruction_text x),
  signs_of (text_of is),
  filter_map-append sign_of (instruction_text x) (text_of is),
  record { parameter = parameter_of x; whole = instruction_signs x; spelled = spells_parameter x h.0 },
  spells_code is h.1,
)

pub text_spells : (p : Eir) → size_of p ≤ 2 ^ 17 → ws_spells (text_of (code_of p)) (code_of p)
text_spells p small = record { spelled = spells_code (code_of p) (good_code p small).small; sound = sound_code p small }
