-- C texts that are compiled.
use Rattle.std.proofs.Common.{◌≡◌, ◌<◌, ◌^◌, ℕ, List, [], ◌∷◌, All, Result, Ok, Err, IfOk, IfErr, Fits, w8, get_or, inr, sym, subst, arith}
use Rattle.std.proofs.lemmas.List.Elements.{All-head, All-tail, All-from_get_or}
use Rattle.mach_core.specs.Rule.{Rule}
use Rattle.eir_core.specs.Eir.{Eir}
use Rattle.eir_print.specs.Printed.{printed}
use Rattle.c_syntax.specs.Plain.{CUnit}
use Rattle.c_valid.specs.Valid.{AreBytes}
use Rattle.c_compiled.specs.Compiled.{compiled}
use Rattle.c_compiled.specs.Texts.{IsCompiledText}
use Rattle.c_compiled.proofs.Built.{what_is_built}
use Rattle.sim_trait.specs.Bound.{Bound}
use Rattle.sim_trait.specs.Faithful.{Faithful}
use Rattle.elvm_cli.specs.Seen.{OnSink}
use Rattle.elvm_cli.specs.Shows.{EmitShows, IsNoProgram, PutShows}
use Rattle.elvm_cli.specs.Sources.{BuildTextShows, CRefused, CSpells, CompileTextShows, Compiles, IsBuiltBy, compiled_text}
use Rattle.elvm_cli.specs.declared.outcome.Outcome.{Outcome}
use Rattle.elvm_cli.specs.declared.outcome.Outcome.TheVariants.{Done, Usage, NoFile, TooLarge, Refused, NoInput, NoOutput, Fault, Limit, NoMemory}

-- what stands for the program stands for the tree
module _ (limit : ℕ) (Emitted : Eir → List ℕ → Type 0) (Stands : CUnit → List ℕ → Type 0) (out : OnSink) (u : CUnit) (stands : (t : List ℕ) → Emitted (compiled u) t → Stands u t) where
  abbrev Shown : Outcome → Type 0
  Shown outcome = EmitShows limit (λ program. Stands u) out (compiled u) outcome

  emitted_stands : (outcome : Outcome) → EmitShows limit Emitted out (compiled u) outcome → Shown outcome
  emitted_stands Done h = (h.0, (h.1.0, h.1.1, stands h.1.0 h.1.2))
  emitted_stands TooLarge h = h
  emitted_stands NoOutput h = (h.0, h.1, (h.2.0, h.2.1, stands h.2.0 h.2.2))
  emitted_stands NoMemory h = (h.0, (h.1.0, h.1.1, stands h.1.0 h.1.2))
  emitted_stands Usage h = absurd h
  emitted_stands NoFile h = absurd h
  emitted_stands (Refused kind place) h = absurd h
  emitted_stands NoInput h = absurd h
  emitted_stands (Fault code) h = absurd h
  emitted_stands Limit h = absurd h

-- a program that was made of a text and emitted
pub built : {Q D : Type 0} (limit : ℕ) (spells : List ℕ → Q → Type 0) (rule : Q → Rule D) (start : Q → D) (most : Bound) (out : OnSink) (text : List ℕ) (outcome : Outcome) (program : Eir) → Compiles text program
    → EmitShows limit (Faithful spells rule start most) out program outcome → BuildTextShows limit (IsBuiltBy spells rule start most) out text outcome
built limit spells rule start most out text outcome program c h =
    let Stands : Eir → List ℕ → Type 0 = Faithful spells rule start most in
    inr (
      c.unit,
      c.spells,
      record {
        means = c.means;
        shows = emitted_stands limit Stands (IsBuiltBy spells rule start most) out c.unit (λ t faithful. (faithful, what_is_built spells rule start most c.unit t faithful c.means.means)) outcome
            (subst (λ (p : Eir). EmitShows limit Stands out p outcome) c.is h);
      },
    )

-- a program that was made of a text and put out
pub put : (out : OnSink) (text : List ℕ) (outcome : Outcome) (program : Eir) → Compiles text program → PutShows (printed program) out outcome → CompileTextShows out text outcome
put out text outcome program c h = inr (c.unit, c.spells, record { means = c.means; shows = subst (λ (p : Eir). PutShows (printed p) out outcome) c.is h })

-- a program that was made of a typed tree is one to which its text is compiled
pub compiles : (text : List ℕ) (u : CUnit) → CSpells text u → IsCompiledText u → (made : Result Eir Outcome) → IfOk made (λ program. program ≡ compiled u) → IfOk made (Compiles text)
compiles text u spells is (Ok program) h = record { unit = u; spells = spells; is = h; means = is }
compiles text u spells is (Err outcome) h = tt

-- none was made for want of memory
pub none_compiled : (text : List ℕ) (made : Result Eir Outcome) → IfErr made (λ outcome. outcome ≡ NoMemory) → IfErr made (IsNoProgram (CRefused text))
none_compiled text (Ok program) h = tt
none_compiled text (Err outcome) h = subst (λ (o : Outcome). IsNoProgram (CRefused text) o) (sym h) tt

abbrev IsSmall : ℕ → Type 0
IsSmall c = c < 2 ^ 8

all_are_bytes : (text : List ℕ) → All IsSmall text → AreBytes text
all_are_bytes [] all = tt
all_are_bytes (c ∷ cs) all = (All-head IsSmall c cs all, all_are_bytes cs (All-tail IsSmall c cs all))

-- each item of a slice of bytes is a byte
pub slices_are_bytes : (text : List ℕ) → ((k : ℕ) → Fits w8 (get_or text k 0)) → AreBytes text
slices_are_bytes text fits = all_are_bytes text (All-from_get_or IsSmall text 0 (λ i within. omega (arith, fits i)))
