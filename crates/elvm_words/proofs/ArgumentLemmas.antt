-- From clap's clauses to the arguments.
use Rattle.std.proofs.Common.{◌≡◌, ◌∙◌, ap, refl, true, inl, inr, List, [], ◌∷◌, None, Some, sym}
use Rattle.clap.proofs.OnLiterals.{clap_on_literals}
use Rattle.clap.proofs.WalkLemmas.{first_value-rows}
use Rattle.clap.specs.Words.{HasKind, IsAmong, Kinds, Row, Text, fault_of, first_of, first_value, is_simple, is_simple_and_free, kind_of, matches_of, rows_of}
use Rattle.clap.specs.declared.error.Error.{Error}
use Rattle.clap.specs.declared.error.kind.ErrorKind.{ErrorKind}
use Rattle.clap.specs.declared.error.kind.ErrorKind.TheVariants as kind
use Rattle.clap.specs.declared.parser.matches.Found.{Found}
use Rattle.elvm_words.specs.Arguments.{ArgumentTexts, argument_texts, command, texts_in, without_fault}

pub command_is_free : is_simple_and_free command ≡ true
unfolding command clap_on_literals
command_is_free = refl

pub command_is_simple : is_simple command ≡ true
unfolding command clap_on_literals
command_is_simple = refl

not_read : (ks : Kinds) (t : ArgumentTexts) (k : ErrorKind) → IsAmong k ks → without_fault ks t ≡ None
not_read [] t k h = absurd h
not_read (x ∷ xs) t k h = refl

pub same_texts : (a b : ArgumentTexts) → a.verb ≡ b.verb → a.what ≡ b.what → a.target ≡ b.target → a.steps ≡ b.steps → a.codel ≡ b.codel → a ≡ b
same_texts a b p q r s t = λ i. record { verb = p i; what = q i; target = r i; steps = s i; codel = t i }

-- the words are read
pub argument_texts-read : (words : List Text) (t : ArgumentTexts) → fault_of command words ≡ [] → t ≡ texts_in (matches_of command words) → argument_texts words ≡ Some t
argument_texts-read words t none is = ap (λ ks. without_fault ks (texts_in (matches_of command words))) none ∙ ap (λ x. Some x) (sym is)

-- the words are refused
pub argument_texts-refused : (words : List Text) (e : Error) → HasKind (fault_of command words) e → (kind_of e ≡ kind.OutOfMemory → ⊥) → argument_texts words ≡ None
argument_texts-refused words e h other = elim h [
  | inl memory ↦ absurd (other memory)
  | inr among ↦ not_read (fault_of command words) (texts_in (matches_of command words)) (kind_of e) among
]

-- the text under a name, by the rows
pub text_read : (f : Found) (id : Text) (rows : List Row) → rows_of f ≡ rows → first_value f id ≡ first_of id rows
text_read f id rows e = first_value-rows f id ∙ ap (first_of id) e
