-- How a text spells instructions.
use Rattle.std.specs.Prelude.{◌≡◌, ℕ, ◌+◌, ◌*◌, Bool, cond, List, [], ◌∷◌, ◌++◌, map, Option, Some, None, ℤ, pos, neg_ℤ, nat_eq, fold}
use Rattle.std.specs.List.{filter_map}
use Rattle.ws_lang.specs.declared.sign.Sign.{Sign}
use Rattle.ws_lang.specs.declared.sign.Sign.TheVariants.{Space, Tab, LineFeed}
use Rattle.ws_lang.specs.Instruction.{Label, Instruction, Push, Duplicate, Swap, Discard, Copy, Slide, Add, Subtract, Multiply, Divide, Modulo, Store, Retrieve, Mark, Call, Jump, JumpIfZero, JumpIfNegative, Return, End, WriteCharacter, WriteNumber, ReadCharacter, ReadNumber, IsWhitespace}

-- the sign that a byte is; each other byte is a comment
abbrev pub sign_of : ℕ → Option Sign
sign_of byte = cond (nat_eq byte 32) (Some Space) (cond (nat_eq byte 9) (Some Tab) (cond (nat_eq byte 10) (Some LineFeed) None))

-- the signs of a text, in order
abbrev pub signs_of : List ℕ → List Sign
signs_of text = filter_map sign_of text

-- tabs for true, spaces for false
abbrev pub bit_signs : List Bool → List Sign
bit_signs bits = map (λ bit. cond bit Tab Space) bits

-- the number of these binary digits, the highest first
abbrev pub binary : List Bool → ℕ
binary bits = fold (λ n bit. 2 * n + cond bit 1 0) 0 bits

-- a number by its sign and its size
abbrev pub signed : Bool → ℕ → ℤ
signed negative size = cond negative (neg_ℤ (pos size)) (pos size)

-- a label is its signs and a line feed
abbrev pub SpellsLabel : List Sign → Label → Type 0
SpellsLabel signs label = signs ≡ bit_signs label ++ LineFeed ∷ []

-- a number is its sign, its binary digits and a line feed
pub record SpellsNumber (signs : List Sign) (value : ℤ) : Type 0 where
  pub negative : Bool
  pub digits : List Bool
  pub spelled : signs ≡ bit_signs (negative ∷ digits) ++ LineFeed ∷ []
  pub valued : value ≡ signed negative (binary digits)

-- the signs that name an instruction, by the published table
abbrev pub name_of : Instruction → List Sign
name_of (Push n) = Space ∷ Space ∷ []
name_of Duplicate = Space ∷ LineFeed ∷ Space ∷ []
name_of Swap = Space ∷ LineFeed ∷ Tab ∷ []
name_of Discard = Space ∷ LineFeed ∷ LineFeed ∷ []
name_of (Copy n) = Space ∷ Tab ∷ Space ∷ []
name_of (Slide n) = Space ∷ Tab ∷ LineFeed ∷ []
name_of Add = Tab ∷ Space ∷ Space ∷ Space ∷ []
name_of Subtract = Tab ∷ Space ∷ Space ∷ Tab ∷ []
name_of Multiply = Tab ∷ Space ∷ Space ∷ LineFeed ∷ []
name_of Divide = Tab ∷ Space ∷ Tab ∷ Space ∷ []
name_of Modulo = Tab ∷ Space ∷ Tab ∷ Tab ∷ []
name_of Store = Tab ∷ Tab ∷ Space ∷ []
name_of Retrieve = Tab ∷ Tab ∷ Tab ∷ []
name_of (Mark label) = LineFeed ∷ Space ∷ Space ∷ []
name_of (Call label) = LineFeed ∷ Space ∷ Tab ∷ []
name_of (Jump label) = LineFeed ∷ Space ∷ LineFeed ∷ []
name_of (JumpIfZero label) = LineFeed ∷ Tab ∷ Space ∷ []
name_of (JumpIfNegative label) = LineFeed ∷ Tab ∷ Tab ∷ []
name_of Return = LineFeed ∷ Tab ∷ LineFeed ∷ []
name_of End = LineFeed ∷ LineFeed ∷ LineFeed ∷ []
name_of WriteCharacter = Tab ∷ LineFeed ∷ Space ∷ Space ∷ []
name_of WriteNumber = Tab ∷ LineFeed ∷ Space ∷ Tab ∷ []
name_of ReadCharacter = Tab ∷ LineFeed ∷ Tab ∷ Space ∷ []
name_of ReadNumber = Tab ∷ LineFeed ∷ Tab ∷ Tab ∷ []

-- what follows the name: a number, a label or nothing
abbrev pub SpellsParameter : List Sign → Instruction → Type 0
SpellsParameter signs (Push n) = SpellsNumber signs n
SpellsParameter signs (Copy n) = SpellsNumber signs n
SpellsParameter signs (Slide n) = SpellsNumber signs n
SpellsParameter signs (Mark label) = SpellsLabel signs label
SpellsParameter signs (Call label) = SpellsLabel signs label
SpellsParameter signs (Jump label) = SpellsLabel signs label
SpellsParameter signs (JumpIfZero label) = SpellsLabel signs label
SpellsParameter signs (JumpIfNegative label) = SpellsLabel signs label
SpellsParameter signs _ = signs ≡ []

-- an instruction is its name and its parameter
pub record SpellsInstruction (signs : List Sign) (instruction : Instruction) : Type 0 where
  pub parameter : List Sign
  pub whole : signs ≡ name_of instruction ++ parameter
  pub spelled : SpellsParameter parameter instruction

-- a program is its instructions, one after the other
abbrev pub SpellsCode : List Sign → List Instruction → Type 0
SpellsCode signs [] = signs ≡ []
SpellsCode signs (instruction ∷ code) = (front : List Sign) × (rest : List Sign) × (signs ≡ front ++ rest) × SpellsInstruction front instruction × SpellsCode rest code

-- a text spells a program
pub record ws_spells (text : List ℕ) (code : List Instruction) : Type 0 where
  pub spelled : SpellsCode (signs_of text) code
  pub sound : IsWhitespace code
