-- What the decoder finds at the front of a list of signs is what the front spells.
use Rattle.std.proofs.Common.{◌≡◌, Bool, true, false, List, [], ◌∷◌, ◌++◌, Option, Some, None, ℤ, refl, sym, ap, subst, ◌∙◌, append_assoc}
use Rattle.std.specs.Prelude.{MatchOption}
use Rattle.ws_lang.specs.declared.sign.Sign.{Sign}
use Rattle.ws_lang.specs.declared.sign.Sign.TheVariants.{Space, Tab, LineFeed}
use Rattle.ws_lang.specs.declared.command.Command.{Command}
use Rattle.ws_lang.specs.declared.command.Command.TheVariants as command
use Rattle.ws_lang.specs.Instruction.{Label, Instruction, Push, Duplicate, Swap, Discard, Copy, Slide, Add, Subtract, Multiply, Divide, Modulo, Store, Retrieve, Mark, Call, Jump, JumpIfZero, JumpIfNegative, Return, End, WriteCharacter, WriteNumber, ReadCharacter, ReadNumber}
use Rattle.ws_lang.specs.Spelling.{bit_signs, binary, signed, SpellsLabel, SpellsNumber, name_of, SpellsParameter, SpellsInstruction, SpellsCode}
use Rattle.ws_lang.specs.Decode.{command_in, bits_in, with_bit, number_of, number_in, with_number, with_label, instruction_after, parameterised, instruction_in}

-- the signs of a command
abbrev name_signs : Command → List Sign
name_signs command.Push = Space ∷ Space ∷ []
name_signs command.Duplicate = Space ∷ LineFeed ∷ Space ∷ []
name_signs command.Swap = Space ∷ LineFeed ∷ Tab ∷ []
name_signs command.Discard = Space ∷ LineFeed ∷ LineFeed ∷ []
name_signs command.Copy = Space ∷ Tab ∷ Space ∷ []
name_signs command.Slide = Space ∷ Tab ∷ LineFeed ∷ []
name_signs command.Add = Tab ∷ Space ∷ Space ∷ Space ∷ []
name_signs command.Subtract = Tab ∷ Space ∷ Space ∷ Tab ∷ []
name_signs command.Multiply = Tab ∷ Space ∷ Space ∷ LineFeed ∷ []
name_signs command.Divide = Tab ∷ Space ∷ Tab ∷ Space ∷ []
name_signs command.Modulo = Tab ∷ Space ∷ Tab ∷ Tab ∷ []
name_signs command.Store = Tab ∷ Tab ∷ Space ∷ []
name_signs command.Retrieve = Tab ∷ Tab ∷ Tab ∷ []
name_signs command.Mark = LineFeed ∷ Space ∷ Space ∷ []
name_signs command.Call = LineFeed ∷ Space ∷ Tab ∷ []
name_signs command.Jump = LineFeed ∷ Space ∷ LineFeed ∷ []
name_signs command.JumpIfZero = LineFeed ∷ Tab ∷ Space ∷ []
name_signs command.JumpIfNegative = LineFeed ∷ Tab ∷ Tab ∷ []
name_signs command.Return = LineFeed ∷ Tab ∷ LineFeed ∷ []
name_signs command.End = LineFeed ∷ LineFeed ∷ LineFeed ∷ []
name_signs command.WriteCharacter = Tab ∷ LineFeed ∷ Space ∷ Space ∷ []
name_signs command.WriteNumber = Tab ∷ LineFeed ∷ Space ∷ Tab ∷ []
name_signs command.ReadCharacter = Tab ∷ LineFeed ∷ Tab ∷ Space ∷ []
name_signs command.ReadNumber = Tab ∷ LineFeed ∷ Tab ∷ Tab ∷ []

abbrev Named : List Sign → Option (Command × List Sign) → Type 0
Named signs o = MatchOption o (Unit {0}) (λ p. signs ≡ name_signs p.0 ++ p.1)

-- a command that is found stands at the front
command_named : (signs : List Sign) → Named signs (command_in signs)
command_named [] = tt
command_named (Space ∷ []) = tt
command_named (Space ∷ Space ∷ rest) = refl
command_named (Space ∷ Tab ∷ []) = tt
command_named (Space ∷ Tab ∷ Space ∷ rest) = refl
command_named (Space ∷ Tab ∷ Tab ∷ rest) = tt
command_named (Space ∷ Tab ∷ LineFeed ∷ rest) = refl
command_named (Space ∷ LineFeed ∷ []) = tt
command_named (Space ∷ LineFeed ∷ Space ∷ rest) = refl
command_named (Space ∷ LineFeed ∷ Tab ∷ rest) = refl
command_named (Space ∷ LineFeed ∷ LineFeed ∷ rest) = refl
command_named (Tab ∷ []) = tt
command_named (Tab ∷ Space ∷ []) = tt
command_named (Tab ∷ Space ∷ Space ∷ []) = tt
command_named (Tab ∷ Space ∷ Space ∷ Space ∷ rest) = refl
command_named (Tab ∷ Space ∷ Space ∷ Tab ∷ rest) = refl
command_named (Tab ∷ Space ∷ Space ∷ LineFeed ∷ rest) = refl
command_named (Tab ∷ Space ∷ Tab ∷ []) = tt
command_named (Tab ∷ Space ∷ Tab ∷ Space ∷ rest) = refl
command_named (Tab ∷ Space ∷ Tab ∷ Tab ∷ rest) = refl
command_named (Tab ∷ Space ∷ Tab ∷ LineFeed ∷ rest) = tt
command_named (Tab ∷ Space ∷ LineFeed ∷ rest) = tt
command_named (Tab ∷ Tab ∷ []) = tt
command_named (Tab ∷ Tab ∷ Space ∷ rest) = refl
command_named (Tab ∷ Tab ∷ Tab ∷ rest) = refl
command_named (Tab ∷ Tab ∷ LineFeed ∷ rest) = tt
command_named (Tab ∷ LineFeed ∷ []) = tt
command_named (Tab ∷ LineFeed ∷ Space ∷ []) = tt
command_named (Tab ∷ LineFeed ∷ Space ∷ Space ∷ rest) = refl
command_named (Tab ∷ LineFeed ∷ Space ∷ Tab ∷ rest) = refl
command_named (Tab ∷ LineFeed ∷ Space ∷ LineFeed ∷ rest) = tt
command_named (Tab ∷ LineFeed ∷ Tab ∷ []) = tt
command_named (Tab ∷ LineFeed ∷ Tab ∷ Space ∷ rest) = refl
command_named (Tab ∷ LineFeed ∷ Tab ∷ Tab ∷ rest) = refl
command_named (Tab ∷ LineFeed ∷ Tab ∷ LineFeed ∷ rest) = tt
command_named (Tab ∷ LineFeed ∷ LineFeed ∷ rest) = tt
command_named (LineFeed ∷ []) = tt
command_named (LineFeed ∷ Space ∷ []) = tt
command_named (LineFeed ∷ Space ∷ Space ∷ rest) = refl
command_named (LineFeed ∷ Space ∷ Tab ∷ rest) = refl
command_named (LineFeed ∷ Space ∷ LineFeed ∷ rest) = refl
command_named (LineFeed ∷ Tab ∷ []) = tt
command_named (LineFeed ∷ Tab ∷ Space ∷ rest) = refl
command_named (LineFeed ∷ Tab ∷ Tab ∷ rest) = refl
command_named (LineFeed ∷ Tab ∷ LineFeed ∷ rest) = refl
command_named (LineFeed ∷ LineFeed ∷ []) = tt
command_named (LineFeed ∷ LineFeed ∷ Space ∷ rest) = tt
command_named (LineFeed ∷ LineFeed ∷ Tab ∷ rest) = tt
command_named (LineFeed ∷ LineFeed ∷ LineFeed ∷ rest) = refl

-- the bits before the first line feed
pub bits_in-spelled : (bits : List Bool) (rest : List Sign) → bits_in (bit_signs bits ++ LineFeed ∷ rest) ≡ Some (bits, rest)
bits_in-spelled [] rest = refl
bits_in-spelled (true ∷ bits) rest = ap (with_bit true) (bits_in-spelled bits rest)
bits_in-spelled (false ∷ bits) rest = ap (with_bit false) (bits_in-spelled bits rest)

abbrev Bits : List Sign → Option (List Bool × List Sign) → Type 0
Bits signs o = MatchOption o (Unit {0}) (λ p. signs ≡ bit_signs p.0 ++ LineFeed ∷ p.1)

one_bit : (bit : Bool) (sign : Sign) (signs : List Sign) (o : Option (List Bool × List Sign)) → ((bits : List Bool) → bit_signs (bit ∷ bits) ≡ sign ∷ bit_signs bits) → Bits signs o → Bits (sign ∷ signs) (with_bit bit o)
one_bit bit sign signs None e h = tt
one_bit bit sign signs (Some (bits, rest)) e h = ap (λ s. sign ∷ s) h ∙ ap (λ s. s ++ LineFeed ∷ rest) (sym (e bits))

-- bits that are found stand at the front
bits_found : (signs : List Sign) → Bits signs (bits_in signs)
bits_found [] = tt
bits_found (Space ∷ signs) = one_bit false Space signs (bits_in signs) (λ bits. refl) (bits_found signs)
bits_found (Tab ∷ signs) = one_bit true Tab signs (bits_in signs) (λ bits. refl) (bits_found signs)
bits_found (LineFeed ∷ signs) = refl

-- the rest of the instruction, after its command
record After (command : Command) (signs : List Sign) (instruction : Instruction) (rest : List Sign) : Type 0 where
  parameter : List Sign
  whole : signs ≡ parameter ++ rest
  named : name_of instruction ≡ name_signs command
  spelled : SpellsParameter parameter instruction

abbrev AfterAny : Command → List Sign → Option (Instruction × List Sign) → Type 0
AfterAny command signs o = MatchOption o (Unit {0}) (λ p. After command signs p.0 p.1)

number_after : (command : Command) (make : ℤ → Instruction) (signs : List Sign) (o : Option (List Bool × List Sign)) → ((n : ℤ) → name_of (make n) ≡ name_signs command) → ((s : List Sign) (n : ℤ) → SpellsNumber s n → SpellsParameter s (make n)) → Bits signs o → AfterAny command signs (with_number make (number_of o))
number_after command make signs None e p h = tt
number_after command make signs (Some ([], rest)) e p h = tt
number_after command make signs (Some (negative ∷ digits, rest)) e p h = record {
  parameter = bit_signs (negative ∷ digits) ++ LineFeed ∷ [];
  whole = h ∙ sym (append_assoc (bit_signs (negative ∷ digits)) (LineFeed ∷ []) rest);
  named = e (signed negative (binary digits));
  spelled = p _ _ (record { negative = negative; digits = digits; spelled = refl; valued = refl });
}

label_after : (command : Command) (make : Label → Instruction) (signs : List Sign) (o : Option (List Bool × List Sign)) → ((l : Label) → name_of (make l) ≡ name_signs command) → ((s : List Sign) (l : Label) → SpellsLabel s l → SpellsParameter s (make l)) → Bits signs o → AfterAny command signs (with_label make o)
label_after command make signs None e p h = tt
label_after command make signs (Some (bits, rest)) e p h = record {
  parameter = bit_signs bits ++ LineFeed ∷ [];
  whole = h ∙ sym (append_assoc (bit_signs bits) (LineFeed ∷ []) rest);
  named = e bits;
  spelled = p _ bits refl;
}

-- an instruction that is found after a command is spelled there
after_found : (command : Command) (signs : List Sign) → AfterAny command signs (instruction_after command signs)
after_found command.Push signs = number_after command.Push Push signs (bits_in signs) (λ n. refl) (λ s n h. h) (bits_found signs)
after_found command.Duplicate signs = record { parameter = []; whole = refl; named = refl; spelled = refl }
after_found command.Swap signs = record { parameter = []; whole = refl; named = refl; spelled = refl }
after_found command.Discard signs = record { parameter = []; whole = refl; named = refl; spelled = refl }
after_found command.Copy signs = number_after command.Copy Copy signs (bits_in signs) (λ n. refl) (λ s n h. h) (bits_found signs)
after_found command.Slide signs = number_after command.Slide Slide signs (bits_in signs) (λ n. refl) (λ s n h. h) (bits_found signs)
after_found command.Add signs = record { parameter = []; whole = refl; named = refl; spelled = refl }
after_found command.Subtract signs = record { parameter = []; whole = refl; named = refl; spelled = refl }
after_found command.Multiply signs = record { parameter = []; whole = refl; named = refl; spelled = refl }
after_found command.Divide signs = record { parameter = []; whole = refl; named = refl; spelled = refl }
after_found command.Modulo signs = record { parameter = []; whole = refl; named = refl; spelled = refl }
after_found command.Store signs = record { parameter = []; whole = refl; named = refl; spelled = refl }
after_found command.Retrieve signs = record { parameter = []; whole = refl; named = refl; spelled = refl }
after_found command.Mark signs = label_after command.Mark Mark signs (bits_in signs) (λ l. refl) (λ s l h. h) (bits_found signs)
after_found command.Call signs = label_after command.Call Call signs (bits_in signs) (λ l. refl) (λ s l h. h) (bits_found signs)
after_found command.Jump signs = label_after command.Jump Jump signs (bits_in signs) (λ l. refl) (λ s l h. h) (bits_found signs)
after_found command.JumpIfZero signs = label_after command.JumpIfZero JumpIfZero signs (bits_in signs) (λ l. refl) (λ s l h. h) (bits_found signs)
after_found command.JumpIfNegative signs = label_after command.JumpIfNegative JumpIfNegative signs (bits_in signs) (λ l. refl) (λ s l h. h) (bits_found signs)
after_found command.Return signs = record { parameter = []; whole = refl; named = refl; spelled = refl }
after_found command.End signs = record { parameter = []; whole = refl; named = refl; spelled = refl }
after_found command.WriteCharacter signs = record { parameter = []; whole = refl; named = refl; spelled = refl }
after_found command.WriteNumber signs = record { parameter = []; whole = refl; named = refl; spelled = refl }
after_found command.ReadCharacter signs = record { parameter = []; whole = refl; named = refl; spelled = refl }
after_found command.ReadNumber signs = record { parameter = []; whole = refl; named = refl; spelled = refl }

-- a front of the signs spells the instruction, and the rest is left
pub record FrontSpells (signs : List Sign) (instruction : Instruction) (rest : List Sign) : Type 0 where
  pub front : List Sign
  pub whole : signs ≡ front ++ rest
  pub spelled : SpellsInstruction front instruction

abbrev FrontSpellsAny : List Sign → Option (Instruction × List Sign) → Type 0
FrontSpellsAny signs o = MatchOption o (Unit {0}) (λ p. FrontSpells signs p.0 p.1)

joined : (signs left : List Sign) (command : Command) (o : Option (Instruction × List Sign)) → signs ≡ name_signs command ++ left → AfterAny command left o → FrontSpellsAny signs o
joined signs left command None e h = tt
joined signs left command (Some (instruction, rest)) e h = record {
  front = name_of instruction ++ h.parameter;
  whole = e ∙ ap (λ s. name_signs command ++ s) h.whole ∙ ap (λ s. s ++ (h.parameter ++ rest)) (sym h.named) ∙ sym (append_assoc (name_of instruction) h.parameter rest);
  spelled = record { parameter = h.parameter; whole = refl; spelled = h.spelled };
}

found : (signs : List Sign) (o : Option (Command × List Sign)) → Named signs o → FrontSpellsAny signs (parameterised o)
found signs None h = tt
found signs (Some (command, left)) h = joined signs left command (instruction_after command left) h (after_found command left)

-- an instruction that is found is spelled by the front
pub instruction_found : (signs : List Sign) (instruction : Instruction) (rest : List Sign) → instruction_in signs ≡ Some (instruction, rest) → FrontSpells signs instruction rest
instruction_found signs instruction rest e = subst (FrontSpellsAny signs) e (found signs (command_in signs) (command_named signs))

number_spelled : (make : ℤ → Instruction) (parameter : List Sign) (n : ℤ) (rest : List Sign) → SpellsNumber parameter n → with_number make (number_in (parameter ++ rest)) ≡ Some (make n, rest)
number_spelled make parameter n rest h =
    ap (λ s. with_number make (number_in (s ++ rest))) h.spelled
    ∙ ap (λ s. with_number make (number_in s)) (append_assoc (bit_signs (h.negative ∷ h.digits)) (LineFeed ∷ []) rest)
    ∙ ap (λ o. with_number make (number_of o)) (bits_in-spelled (h.negative ∷ h.digits) rest)
    ∙ ap (λ v. Some (make v, rest)) (sym h.valued)

label_spelled : (make : Label → Instruction) (parameter : List Sign) (label : Label) (rest : List Sign) → SpellsLabel parameter label → with_label make (bits_in (parameter ++ rest)) ≡ Some (make label, rest)
label_spelled make parameter label rest h =
    ap (λ s. with_label make (bits_in (s ++ rest))) h
    ∙ ap (λ s. with_label make (bits_in s)) (append_assoc (bit_signs label) (LineFeed ∷ []) rest)
    ∙ ap (with_label make) (bits_in-spelled label rest)

plain_spelled : (instruction : Instruction) (parameter : List Sign) (rest : List Sign) → parameter ≡ [] → ◌≡◌ {A = Option (Instruction × List Sign)} (Some (instruction, parameter ++ rest)) (Some (instruction, rest))
plain_spelled instruction parameter rest e = ap (λ s. Some (instruction, s ++ rest)) e

parameter_spelled : (instruction : Instruction) (parameter rest : List Sign) → SpellsParameter parameter instruction → instruction_in (name_of instruction ++ (parameter ++ rest)) ≡ Some (instruction, rest)
parameter_spelled (Push n) parameter rest h = number_spelled Push parameter n rest h
parameter_spelled Duplicate parameter rest h = plain_spelled Duplicate parameter rest h
parameter_spelled Swap parameter rest h = plain_spelled Swap parameter rest h
parameter_spelled Discard parameter rest h = plain_spelled Discard parameter rest h
parameter_spelled (Copy n) parameter rest h = number_spelled Copy parameter n rest h
parameter_spelled (Slide n) parameter rest h = number_spelled Slide parameter n rest h
parameter_spelled Add parameter rest h = plain_spelled Add parameter rest h
parameter_spelled Subtract parameter rest h = plain_spelled Subtract parameter rest h
parameter_spelled Multiply parameter rest h = plain_spelled Multiply parameter rest h
parameter_spelled Divide parameter rest h = plain_spelled Divide parameter rest h
parameter_spelled Modulo parameter rest h = plain_spelled Modulo parameter rest h
parameter_spelled Store parameter rest h = plain_spelled Store parameter rest h
parameter_spelled Retrieve parameter rest h = plain_spelled Retrieve parameter rest h
parameter_spelled (Mark label) parameter rest h = label_spelled Mark parameter label rest h
parameter_spelled (Call label) parameter rest h = label_spelled Call parameter label rest h
parameter_spelled (Jump label) parameter rest h = label_spelled Jump parameter label rest h
parameter_spelled (JumpIfZero label) parameter rest h = label_spelled JumpIfZero parameter label rest h
parameter_spelled (JumpIfNegative label) parameter rest h = label_spelled JumpIfNegative parameter label rest h
parameter_spelled Return parameter rest h = plain_spelled Return parameter rest h
parameter_spelled End parameter rest h = plain_spelled End parameter rest h
parameter_spelled WriteCharacter parameter rest h = plain_spelled WriteCharacter parameter rest h
parameter_spelled WriteNumber parameter rest h = plain_spelled WriteNumber parameter rest h
parameter_spelled ReadCharacter parameter rest h = plain_spelled ReadCharacter parameter rest h
parameter_spelled ReadNumber parameter rest h = plain_spelled ReadNumber parameter rest h

-- an instruction that the front spells is found
pub instruction_in-spelled : (front rest : List Sign) (instruction : Instruction) → SpellsInstruction front instruction → instruction_in (front ++ rest) ≡ Some (instruction, rest)
instruction_in-spelled front rest instruction h =
    ap (λ s. instruction_in (s ++ rest)) h.whole
    ∙ ap instruction_in (append_assoc (name_of instruction) h.parameter rest)
    ∙ parameter_spelled instruction h.parameter rest h.spelled

one_pair : (i j : Instruction) (s t : List Sign) → ◌≡◌ {A = Option (Instruction × List Sign)} (Some (i, s)) (Some (j, t)) → (i ≡ j) × (s ≡ t)
one_pair i j s t e =
    let pair : ◌≡◌ {A = Instruction × List Sign} (i, s) (j, t) = cc in
    (ap (λ (p : Instruction × List Sign). p.0) pair, ap (λ (p : Instruction × List Sign). p.1) pair)

pub none_some : (p : Instruction × List Sign) → None ≡ Some p → ⊥
none_some p e = cc

-- a list of signs spells at most one list of instructions
pub one_code : (signs : List Sign) (a b : List Instruction) → SpellsCode signs a → SpellsCode signs b → a ≡ b
one_code signs [] [] h k = refl
one_code signs [] (j ∷ b) h k = absurd (none_some (j, k.1) (ap instruction_in (sym h) ∙ ap instruction_in k.2 ∙ instruction_in-spelled k.0 k.1 j k.3))
one_code signs (i ∷ a) [] h k = absurd (none_some (i, h.1) (ap instruction_in (sym k) ∙ ap instruction_in h.2 ∙ instruction_in-spelled h.0 h.1 i h.3))
one_code signs (i ∷ a) (j ∷ b) h k =
    let one = one_pair i j h.1 k.1 (sym (ap instruction_in h.2 ∙ instruction_in-spelled h.0 h.1 i h.3) ∙ (ap instruction_in k.2 ∙ instruction_in-spelled k.0 k.1 j k.3)) in
    let rest : a ≡ b = one_code k.1 a b (subst (λ s. SpellsCode s a) one.1 h.4) k.4 in
    ap (λ x. x ∷ a) one.0 ∙ ap (λ x. j ∷ x) rest
