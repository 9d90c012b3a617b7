-- C texts allow one status each.
use Rattle.std.proofs.Common.{◌≡◌, ◌⊎◌, inl, inr, ℕ, List, refl, sym, ap, subst, ◌∙◌}
use Rattle.c_syntax.specs.Plain.{CUnit}
use Rattle.c_prep.specs.declared.fault.PrepFault.TheVariants as prep
use Rattle.c_parse.specs.declared.fault.ParseFault.TheVariants as parse
use Rattle.c_types.specs.declared.fault.TypeFault.TheVariants as type
use Rattle.c_source.specs.declared.fault.SourceFault.{SourceFault}
use Rattle.c_source.specs.declared.fault.SourceFault.TheVariants.{Prepare, Parse, Check}
use Rattle.c_source.specs.Source.{Spells, IsRefusedFor, LiesInText}
use Rattle.c_source.proofs.Decided.{decided}
use Rattle.elvm_cli.specs.Refusals.{source_refusal}
use Rattle.elvm_cli.specs.Sources.{CSpells, CRefused}
use Rattle.elvm_cli.specs.Line.{status_of}
use Rattle.elvm_cli.specs.Exact.{IsRefusal}
use Rattle.elvm_cli.specs.declared.outcome.Outcome.{Outcome}
use Rattle.elvm_cli.proofs.Told.{IsLanguage, IsSpelledOrRefused}

-- a reason that lies in the text is no want of memory
comes_out : (e : SourceFault) → LiesInText e → IsRefusal (source_refusal e)
comes_out (Prepare (prep.BadChar p)) h = tt
comes_out (Prepare (prep.Unclosed p)) h = tt
comes_out (Prepare (prep.NumberRange p)) h = tt
comes_out (Prepare (prep.BadDirective p)) h = tt
comes_out (Prepare (prep.Unbalanced p)) h = tt
comes_out (Prepare prep.TooLarge) h = tt
comes_out (Prepare prep.Memory) h = absurd h
comes_out (Parse (parse.Syntax p)) h = tt
comes_out (Parse (parse.TooDeep p)) h = tt
comes_out (Parse parse.TooLarge) h = tt
comes_out (Parse parse.Memory) h = absurd h
comes_out (Check (type.Unknown p)) h = tt
comes_out (Check (type.Twice p)) h = tt
comes_out (Check (type.Mismatch p)) h = tt
comes_out (Check (type.NotLvalue p)) h = tt
comes_out (Check (type.BadCall p)) h = tt
comes_out (Check (type.NoMain p)) h = tt
comes_out (Check type.TooLarge) h = tt
comes_out (Check type.Memory) h = absurd h

-- and what is refused otherwise has no such reason
lies : (e : SourceFault) → IsRefusal (source_refusal e) → LiesInText e
lies (Prepare (prep.BadChar p)) h = tt
lies (Prepare (prep.Unclosed p)) h = tt
lies (Prepare (prep.NumberRange p)) h = tt
lies (Prepare (prep.BadDirective p)) h = tt
lies (Prepare (prep.Unbalanced p)) h = tt
lies (Prepare prep.TooLarge) h = tt
lies (Prepare prep.Memory) h = absurd h
lies (Parse (parse.Syntax p)) h = tt
lies (Parse (parse.TooDeep p)) h = tt
lies (Parse parse.TooLarge) h = tt
lies (Parse parse.Memory) h = absurd h
lies (Check (type.Unknown p)) h = tt
lies (Check (type.Twice p)) h = tt
lies (Check (type.Mismatch p)) h = tt
lies (Check (type.NotLvalue p)) h = tt
lies (Check (type.BadCall p)) h = tt
lies (Check (type.NoMain p)) h = tt
lies (Check type.TooLarge) h = tt
lies (Check type.Memory) h = absurd h

lies_as : (e : SourceFault) (outcome : Outcome) → IsRefusal outcome → source_refusal e ≡ outcome → LiesInText e
lies_as e outcome told is = lies e (subst IsRefusal (sym is) told)

c_some : (text : List ℕ) → ((u : CUnit) × Spells text u) ⊎ ((e : SourceFault) × LiesInText e × IsRefusedFor text e) → IsSpelledOrRefused CSpells CRefused text
c_some text (inl p) = inl p
c_some text (inr r) = inr (source_refusal r.0, comes_out r.0 r.1, (r.0, r.2, refl))

pub c_once : (text : List ℕ) (u v : CUnit) → CSpells text u → CSpells text v → u ≡ v
c_once text u v h k = (decided text).once u v h k

pub c_language : IsLanguage CSpells CRefused
c_language = record {
  some = λ text. c_some text (decided text).some;
  apart = λ text u outcome told spelled refused. (decided text).apart u refused.0 (lies_as refused.0 outcome told refused.2) spelled refused.1;
  one_way = λ text a b told also h k.
      let same = (decided text).one_reason h.0 k.0 (lies_as h.0 a told h.2) (lies_as k.0 b also k.2) h.1 k.1 in
      ap status_of (sym h.2 ∙ (ap source_refusal same ∙ k.2));
}
