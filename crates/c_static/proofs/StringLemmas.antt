-- Strings that arrays take.
use Rattle.std.proofs.Common.{◌≡◌, ℕ, ◌-◌, ◌<◌, ◌≤◌, Bool, true, false, ◌&&◌, List, [], ◌∷◌, ◌++◌, length, replicate, Some, None, refl, ap, ◌∙◌, if◌then◌else◌, arith}
use Rattle.std.specs.Prelude.{nat_le}
use Rattle.std.proofs.lemmas.Bool.Decides.{nat_tests}
use Rattle.c_syntax.specs.Plain as plain
use Rattle.c_syntax.specs.Plain.{CExpr}
use Rattle.c_types.specs.Types.{CType, Void, Array, is_character}
use Rattle.c_types.specs.Scope.{Scope}
use Rattle.c_types.specs.Declarations.{takes_string}
use Rattle.c_eval.specs.Eval.{array_text}
use Rattle.c_eval.specs.LiteralsIn.{literals_in}
use Rattle.c_static.specs.Spelled.{string_in, room_of, spelled}

-- an array of characters, and a string
pub record IsRoom (t : CType) (n : ℕ) : Type 0 where
  pub of : CType
  pub is : t ≡ Array of n
  pub characters : is_character of ≡ true

room_is : (t : CType) (n : ℕ) → room_of t ≡ Some n → IsRoom t n
room_is (Array u m) n h = by (is_character u) refl h where
  by : (b : Bool) → is_character u ≡ b → (if b then Some m else None) ≡ Some n → IsRoom (Array u m) n
  by true k g = let same : m ≡ n = cc in record { of = u; is = ap (Array u) same; characters = k }
  by false k g = absurd cc
room_is Void n h = absurd cc
room_is _ n h = absurd cc

pub record IsString (e : CExpr) (text : List ℕ) : Type 0 where
  pub at : ℕ
  pub is : e ≡ plain.Str at text

string_is : (e : CExpr) (text : List ℕ) → string_in e ≡ Some text → IsString e text
string_is (plain.Str at other) text h = let same : other ≡ text = cc in record { at = at; is = ap (plain.Str at) same }
string_is (plain.Null at) text h = absurd cc
string_is _ text h = absurd cc

not_taken : (u : CType) (n : ℕ) (e : CExpr) → is_character u ≡ false → takes_string (Array u n) e ≡ false
not_taken u n (plain.Str at text) k = ap (λ b. b && nat_le (length text) n) k
not_taken u n (plain.Null at) k = refl
not_taken u n _ k = refl

pub no_room : (t : CType) (e : CExpr) → room_of t ≡ None → spelled t e ≡ None
no_room (Array u n) e h = by (is_character u) refl h where
  by : (b : Bool) → is_character u ≡ b → (if b then Some n else None) ≡ None → spelled (Array u n) e ≡ None
  by true k g = absurd cc
  by false k g = ap (λ (x : Bool). if x then Some (array_text (Array u n) e) else None) (not_taken u n e k)
no_room Void e h = refl
no_room _ e h = refl

by_room : (u : CType) (n at : ℕ) (text : List ℕ) (b : Bool) → nat_le (length text) n ≡ b → is_character u ≡ true
    → spelled (Array u n) (plain.Str at text) ≡ (if b then Some (text ++ replicate (n - length text) 0) else None)
by_room u n at text b le k =
    ap (λ (x : Bool). if x then Some (text ++ replicate (n - length text) 0) else None) (ap (λ (x : Bool). x && nat_le (length text) n) k ∙ le)

spelled_by : (t : CType) (e : CExpr) (n : ℕ) (text : List ℕ) (b : Bool) → string_in e ≡ Some text → room_of t ≡ Some n → nat_le (length text) n ≡ b
    → spelled t e ≡ (if b then Some (text ++ replicate (n - length text) 0) else None)
spelled_by t e n text b string room le =
    let r = room_is t n room in
    let s = string_is e text string in
    ap (λ (x : CType). spelled x e) r.is ∙ (ap (spelled (Array r.of n)) s.is ∙ by_room r.of n s.at text b le r.characters)

pub string_fits : (t : CType) (e : CExpr) (n : ℕ) (text : List ℕ) → string_in e ≡ Some text → room_of t ≡ Some n → length text ≤ n → spelled t e ≡ Some (text ++ replicate (n - length text) 0)
string_fits t e n text string room le = let test : nat_le (length text) n ≡ true = grind (arith, nat_tests) in spelled_by t e n text true string room test

pub string_too_long : (t : CType) (e : CExpr) (n : ℕ) (text : List ℕ) → string_in e ≡ Some text → room_of t ≡ Some n → n < length text → spelled t e ≡ None
string_too_long t e n text string room le = let test : nat_le (length text) n ≡ false = grind (arith, nat_tests) in spelled_by t e n text false string room test

-- ---- what is spelled

pub record IsTaken (t : CType) (e : CExpr) (bytes : List ℕ) : Type 0 where
  pub taken : takes_string t e ≡ true
  pub bytes_are : bytes ≡ array_text t e

pub taken_by : (t : CType) (e : CExpr) (bytes : List ℕ) → Some bytes ≡ spelled t e → IsTaken t e bytes
taken_by t e bytes h = by (takes_string t e) refl h where
  by : (b : Bool) → takes_string t e ≡ b → Some bytes ≡ (if b then Some (array_text t e) else None) → IsTaken t e bytes
  by true k g = record { taken = k; bytes_are = cc }
  by false k g = absurd cc

pub not_taken_by : (t : CType) (e : CExpr) → None ≡ spelled t e → takes_string t e ≡ false
not_taken_by t e h = by (takes_string t e) refl h where
  by : (b : Bool) → takes_string t e ≡ b → None ≡ (if b then Some (array_text t e) else None) → takes_string t e ≡ false
  by true k g = absurd cc
  by false k g = k

-- a string is one literal
pub record IsLiteral (e : CExpr) : Type 0 where
  pub text : List ℕ
  pub literals : (s : Scope) → literals_in s e ≡ text ∷ []

pub taken_literal : (t : CType) (e : CExpr) → takes_string t e ≡ true → IsLiteral e
taken_literal (Array u n) (plain.Str at text) h = record { text = text; literals = λ s. refl }
taken_literal (Array u n) (plain.Null at) h = absurd cc
taken_literal (Array u n) _ h = absurd cc
taken_literal Void e h = absurd cc
taken_literal _ e h = absurd cc
