-- What an outcome shows says which status comes.
use Rattle.std.proofs.Common.{◌≡◌, ◌∙◌, ◌<◌, ◌≤◌, ◌^◌, ℕ, List, None, Some, true, length, arith, inl, inr, refl, sym, ap, subst}
use Rattle.std.specs.declared.option.Option.{Option}
use Rattle.mach_core.specs.declared.machine.Status.{Status}
use Rattle.mach_core.specs.declared.machine.Status.TheVariants as standing
use Rattle.mach_core.specs.Outside.{IsLonger, IsMissing, IsTextUnder, Texts, text_under}
use Rattle.elvm_words.specs.Invocation.{Invocation, compile, eir, emit, build, evaluate, optimise, run, sample}
use Rattle.eir_core.specs.Eir.{Eir}
use Rattle.c_syntax.specs.Plain.{CUnit}
use Rattle.c_compiled.specs.Compiled.{compiled}
use Rattle.elvm_cli.specs.Seen.{AreUntouched, IsQuiet, Seen}
use Rattle.elvm_cli.specs.Runs.{Runs}
use Rattle.elvm_cli.specs.Line.{status_of}
use Rattle.elvm_cli.specs.Shows.{EmitShows, FileShows, FueledShows, IsFed, IsNoProgram, IsNoText, PutShows, PutTextShows, RunShows, RunTextShows, RunsTo, SampleShows, TextShows, UsageShows}
use Rattle.elvm_cli.specs.Languages.{EirRefused, EirSpells, eir_runs, optimised_text}
use Rattle.elvm_cli.specs.Sources.{CRefused, CSpells, CompiledTextShows, c_runs, compiled_text}
use Rattle.elvm_cli.specs.Targets.{IsBuiltIn, StandsIn, emitted_in, in_language, runs_in}
use Rattle.elvm_cli.specs.Answer.{CallShows, IsEarly, IsEarlyStatus, reads_file, takes_input}
use Rattle.elvm_cli.specs.Exact.{Allows, AreTold, Comes, EmitAllows, FileAllows, IsComplete, IsDeed, IsExact, PutAllows, RunAllows, TextAllows, standing_status}
use Rattle.elvm_cli.specs.declared.outcome.Outcome.{Outcome}
use Rattle.elvm_cli.specs.declared.outcome.Outcome.TheVariants.{Done, Usage, NoFile, TooLarge, Refused, NoInput, NoOutput, Fault, Limit, NoMemory}
use Rattle.elvm_cli.proofs.Allowed.{calls_allowed}

is_deed : (s : Status) → IsDeed (standing_status s)
is_deed standing.Ended = inl refl
is_deed standing.Going = inr (inl refl)
is_deed (standing.Fault code) = inr (inr refl)

some_same : (x y : List ℕ) → Some x ≡ Some y → x ≡ y
some_same x y e = cc

-- one of these statuses is allowed and comes
abbrev pub OneComes : Option Invocation → Seen → (ℕ → Type 0) → ℕ → Type 0
OneComes asked seen Allowed answer = (status : ℕ) × Allowed status × Comes asked seen status answer

-- one comes, where some is allowed
abbrev pub Near : Option Invocation → Seen → (ℕ → Type 0) → ℕ → Type 0
Near asked seen Allowed answer = (any : ℕ) → Allowed any → OneComes asked seen Allowed answer

module _ (asked : Option Invocation) (seen : Seen) where
  itself : (status : ℕ) → Comes asked seen status status
  itself status = inl refl

  memory : (status : ℕ) → Comes asked seen status 9
  memory status = inr (inr (inr (inr refl)))

  -- a program that is emitted
  emit_comes : (limit : ℕ) (Stands : Eir → List ℕ → Type 0) (p : Eir) (outcome : Outcome)
      → EmitShows limit Stands seen.out p outcome → OneComes asked seen (EmitAllows limit p) (status_of outcome)
  emit_comes limit Stands p Done h = (0, inl (h.0, refl), inl refl)
  emit_comes limit Stands p TooLarge h = (8, inr (h.0, refl), inl refl)
  emit_comes limit Stands p NoOutput h = (0, inl (h.0, refl), inr (inr (inr (inl (refl, h.1, inl refl)))))
  emit_comes limit Stands p NoMemory h = (0, inl (h.0, refl), memory 0)
  emit_comes limit Stands p Usage h = absurd h
  emit_comes limit Stands p NoFile h = absurd h
  emit_comes limit Stands p (Refused kind place) h = absurd h
  emit_comes limit Stands p NoInput h = absurd h
  emit_comes limit Stands p (Fault code) h = absurd h
  emit_comes limit Stands p Limit h = absurd h

  -- a text that is put out
  put_comes : (text : List ℕ) (outcome : Outcome) → PutShows text seen.out outcome → OneComes asked seen PutAllows (status_of outcome)
  put_comes text Done h = (0, refl, inl refl)
  put_comes text NoOutput h = (0, refl, inr (inr (inr (inl (refl, h.0, inl refl)))))
  put_comes text NoMemory h = (0, refl, memory 0)
  put_comes text Usage h = absurd h
  put_comes text NoFile h = absurd h
  put_comes text TooLarge h = absurd h
  put_comes text (Refused kind place) h = absurd h
  put_comes text NoInput h = absurd h
  put_comes text (Fault code) h = absurd h
  put_comes text Limit h = absurd h

  -- a program that is run
  module _ (runs : Runs) (steps : ℕ) (i : List ℕ) (takes : takes_input asked ≡ true) (told : seen.input.left ≡ Some i) where
    abbrev stands : Status
    stands = (runs i steps).standing

    -- the input that it took is the one that was told
    stood : (s : Status) → IsFed seen.input (RunsTo runs steps seen.input seen.out s) → standing_status s ≡ standing_status stands
    stood s (taken, given, begins, ran) =
        ap standing_status (sym (subst (λ (x : List ℕ). (runs x steps).standing ≡ s) (begins.told i told) ran.standing))

    run_comes : (outcome : Outcome) → RunShows runs steps seen.input seen.out outcome → OneComes asked seen (RunAllows i steps runs) (status_of outcome)
    run_comes Done h = (0, stood standing.Ended h, inl refl)
    run_comes Limit h = (3, stood standing.Going h, inl refl)
    run_comes (Fault code) h = (4, stood (standing.Fault code) h, inl refl)
    run_comes NoInput h = (standing_status stands, refl, inr (inr (inl (refl, takes, h.0, is_deed stands))))
    run_comes NoOutput h = (standing_status stands, refl, inr (inr (inr (inl (refl, h.0, is_deed stands)))))
    run_comes NoMemory h = (standing_status stands, refl, memory (standing_status stands))
    run_comes Usage h = absurd h
    run_comes NoFile h = absurd h
    run_comes TooLarge h = absurd h
    run_comes (Refused kind place) h = absurd h

    fueled_comes : (outcome : Outcome) → FueledShows runs steps seen.input seen.out outcome → OneComes asked seen (RunAllows i steps runs) (status_of outcome)
    fueled_comes NoMemory h = (standing_status stands, refl, memory (standing_status stands))
    fueled_comes Done h = run_comes Done h
    fueled_comes Limit h = run_comes Limit h
    fueled_comes (Fault code) h = run_comes (Fault code) h
    fueled_comes NoInput h = run_comes NoInput h
    fueled_comes NoOutput h = run_comes NoOutput h
    fueled_comes Usage h = absurd h
    fueled_comes NoFile h = absurd h
    fueled_comes TooLarge h = absurd h
    fueled_comes (Refused kind place) h = absurd h

  -- a text
  module _ {P : Type 0} (Spells : List ℕ → P → Type 0) (IsRefused : List ℕ → Outcome → Type 0) (ProgramShows : P → Outcome → Type 0) (ProgramAllows : P → ℕ → Type 0)
      (program_comes : (p : P) (outcome : Outcome) → ProgramShows p outcome → OneComes asked seen (ProgramAllows p) (status_of outcome)) (quiet : Type 0) (text : List ℕ) where
    refused_near : (outcome : Outcome) → IsNoProgram (IsRefused text) outcome → Near asked seen (TextAllows Spells IsRefused ProgramAllows text) (status_of outcome)
    refused_near (Refused kind place) h = λ any allowed. (1, inr (Refused kind place, tt, h, refl), inl refl)
    refused_near TooLarge h = λ any allowed. (8, inr (TooLarge, tt, h, refl), inl refl)
    refused_near NoMemory h = λ any allowed. (any, allowed, memory any)
    refused_near Done h = absurd h
    refused_near Usage h = absurd h
    refused_near NoFile h = absurd h
    refused_near NoInput h = absurd h
    refused_near NoOutput h = absurd h
    refused_near (Fault code) h = absurd h
    refused_near Limit h = absurd h

    text_near : (outcome : Outcome) → TextShows Spells IsRefused ProgramShows quiet text outcome → Near asked seen (TextAllows Spells IsRefused ProgramAllows text) (status_of outcome)
    text_near outcome (inl h) = refused_near outcome h.0
    text_near outcome (inr h) = λ any allowed.
        let one = program_comes h.0 outcome h.2 in
        (one.0, inl (h.0, h.1, one.1), one.2)

  -- a file
  module _ (OfTextShows : List ℕ → Outcome → Type 0) (OfTextAllows : List ℕ → ℕ → Type 0)
      (of_text_near : (text : List ℕ) (outcome : Outcome) → OfTextShows text outcome → Near asked seen (OfTextAllows text) (status_of outcome))
      (texts : Texts) (reads : reads_file asked ≡ true) (told : seen.shelf.texts ≡ Some texts) (file : List ℕ) where
    abbrev Allowed : ℕ → Type 0
    Allowed status = FileAllows OfTextAllows file texts status

    missing : IsMissing seen.shelf.texts file → text_under file texts ≡ None
    missing h = subst (λ (o : Option Texts). IsMissing o file) told h

    longer : IsLonger seen.shelf.texts file (2 ^ 29) → (text : List ℕ) × (text_under file texts ≡ Some text) × (2 ^ 29 < length text)
    longer h = subst (λ (o : Option Texts). IsLonger o file (2 ^ 29)) told h

    under : (text : List ℕ) → IsTextUnder seen.shelf.texts file text → text_under file texts ≡ Some text
    under text h = subst (λ (o : Option Texts). IsTextUnder o file text) told h

    -- what the file allows its text does
    of_text_allowed : (text : List ℕ) → text_under file texts ≡ Some text → length text ≤ 2 ^ 29 → (any : ℕ) → Allowed any → OfTextAllows text any
    of_text_allowed text is short any (inl h) = let e : Some text ≡ None = sym is ∙ h.0 in cc e
    of_text_allowed text is short any (inr (other, other_is, inl large)) =
        absurd (omega (arith, short, subst (λ (x : List ℕ). 2 ^ 29 < length x) (some_same other text (sym other_is ∙ is)) large.0))
    of_text_allowed text is short any (inr (other, other_is, inr h)) = subst (λ (x : List ℕ). OfTextAllows x any) (some_same other text (sym other_is ∙ is)) h.1

    no_text_near : (outcome : Outcome) → IsNoText seen.shelf file outcome → Near asked seen Allowed (status_of outcome)
    no_text_near NoFile (inl rose) = λ any allowed. (any, allowed, inr (inl (refl, reads, rose)))
    no_text_near NoFile (inr h) = λ any allowed. (5, inl (missing h, refl), inl refl)
    no_text_near TooLarge h = let l = longer h in λ any allowed. (8, inr (l.0, l.1, inl (l.2, refl)), inl refl)
    no_text_near NoMemory h = λ any allowed. (any, allowed, memory any)
    no_text_near Done h = absurd h
    no_text_near Usage h = absurd h
    no_text_near (Refused kind place) h = absurd h
    no_text_near NoInput h = absurd h
    no_text_near NoOutput h = absurd h
    no_text_near (Fault code) h = absurd h
    no_text_near Limit h = absurd h

    file_near : (outcome : Outcome) → FileShows OfTextShows seen.shelf seen.input seen.out file outcome → Near asked seen Allowed (status_of outcome)
    file_near outcome f = elim f.shows [
      | inl h ↦ no_text_near outcome h.0
      | inr h ↦ λ any allowed.
          let one = of_text_near h.0 outcome h.4 any (of_text_allowed h.0 (under h.0 h.1) h.2 any allowed) in
          (one.0, inr (h.0, under h.0 h.1, inr (h.2, one.1)), one.2)
    ]

-- ---- calls

module _ (seen : Seen) where
  usage_comes : (asked : Option Invocation) (outcome : Outcome) → UsageShows seen.out outcome → Comes asked seen 2 (status_of outcome)
  usage_comes asked Usage h = inl refl
  usage_comes asked NoMemory h = memory asked seen 2
  usage_comes asked Done h = absurd h
  usage_comes asked NoFile h = absurd h
  usage_comes asked TooLarge h = absurd h
  usage_comes asked (Refused kind place) h = absurd h
  usage_comes asked NoOutput h = absurd h
  usage_comes asked NoInput h = absurd h
  usage_comes asked (Fault code) h = absurd h
  usage_comes asked Limit h = absurd h

  sample_comes : (blocks : ℕ) (outcome : Outcome) → SampleShows blocks seen.out outcome → Comes (Some (sample blocks)) seen 0 (status_of outcome)
  sample_comes blocks Done h = inl refl
  sample_comes blocks NoOutput h = inr (inr (inr (inl (refl, h.0, inl refl))))
  sample_comes blocks NoMemory h = memory (Some (sample blocks)) seen 0
  sample_comes blocks Usage h = absurd h
  sample_comes blocks NoFile h = absurd h
  sample_comes blocks TooLarge h = absurd h
  sample_comes blocks (Refused kind place) h = absurd h
  sample_comes blocks NoInput h = absurd h
  sample_comes blocks (Fault code) h = absurd h
  sample_comes blocks Limit h = absurd h

  -- a file of which the program is run
  run_near : (asked : Option Invocation) {P : Type 0} (Spells : List ℕ → P → Type 0) (IsRefused : List ℕ → Outcome → Type 0) (runs : P → Runs) (steps : ℕ) (file : List ℕ)
      (texts : Texts) (i : List ℕ) → AreTold asked seen texts i → reads_file asked ≡ true → takes_input asked ≡ true → (outcome : Outcome)
      → FileShows (RunTextShows Spells IsRefused runs steps seen.input seen.out) seen.shelf seen.input seen.out file outcome
      → Near asked seen (FileAllows (TextAllows Spells IsRefused (λ p. RunAllows i steps (runs p))) file texts) (status_of outcome)
  run_near asked Spells IsRefused runs steps file texts i told reads takes outcome h =
      file_near asked seen (RunTextShows Spells IsRefused runs steps seen.input seen.out) (TextAllows Spells IsRefused (λ p. RunAllows i steps (runs p)))
      (λ text o shows. text_near asked seen Spells IsRefused (λ p. RunShows (runs p) steps seen.input seen.out) (λ p. RunAllows i steps (runs p))
      (λ p o' shows'. run_comes asked seen (runs p) steps i takes (told.input takes) o' shows') (AreUntouched seen.input seen.out) text o shows)
      texts reads (told.shelf reads) file outcome h

  -- a file of which a program is made that is emitted
  made_near : (asked : Option Invocation) {P : Type 0} (Spells : List ℕ → P → Type 0) (IsRefused : List ℕ → Outcome → Type 0) (program : P → Eir) (limit : ℕ) (Stands : P → Eir → List ℕ → Type 0) (file : List ℕ) → reads_file asked ≡ true → (outcome : Outcome)
      → FileShows (TextShows Spells IsRefused (λ p. EmitShows limit (Stands p) seen.out (program p)) (IsQuiet seen.out)) seen.shelf seen.input seen.out file outcome
      → (texts : Texts) (i : List ℕ) → AreTold asked seen texts i → Near asked seen (FileAllows (TextAllows Spells IsRefused (λ p. EmitAllows limit (program p))) file texts) (status_of outcome)
  made_near asked Spells IsRefused program limit Stands file reads outcome h texts i told =
      file_near asked seen (TextShows Spells IsRefused (λ p. EmitShows limit (Stands p) seen.out (program p)) (IsQuiet seen.out)) (TextAllows Spells IsRefused (λ p. EmitAllows limit (program p)))
      (λ text o shows. text_near asked seen Spells IsRefused (λ p. EmitShows limit (Stands p) seen.out (program p)) (λ p. EmitAllows limit (program p))
      (λ p o' shows'. emit_comes asked seen limit (Stands p) (program p) o' shows') (IsQuiet seen.out) text o shows)
      texts reads (told.shelf reads) file outcome h

  -- a file of which a text is made that is put out
  put_near : (asked : Option Invocation) {P : Type 0} (Spells : List ℕ → P → Type 0) (IsRefused : List ℕ → Outcome → Type 0) (made : P → List ℕ) (file : List ℕ) → reads_file asked ≡ true → (outcome : Outcome)
      → FileShows (PutTextShows Spells IsRefused made seen.out) seen.shelf seen.input seen.out file outcome
      → (texts : Texts) (i : List ℕ) → AreTold asked seen texts i → Near asked seen (FileAllows (TextAllows Spells IsRefused (λ p. PutAllows)) file texts) (status_of outcome)
  put_near asked Spells IsRefused made file reads outcome h texts i told =
      file_near asked seen (PutTextShows Spells IsRefused made seen.out) (TextAllows Spells IsRefused (λ p. PutAllows))
      (λ text o shows. text_near asked seen Spells IsRefused (λ p. PutShows (made p) seen.out) (λ p. PutAllows)
      (λ p o' shows'. put_comes asked seen (made p) o' shows') (IsQuiet seen.out) text o shows)
      texts reads (told.shelf reads) file outcome h

  -- what a file shows of a compiled text, it shows of the text's tree
  shown_of_tree : (Shown : CUnit → Outcome → Type 0) (text : List ℕ) (outcome : Outcome) → CompiledTextShows Shown seen.out text outcome → TextShows CSpells CRefused Shown (IsQuiet seen.out) text outcome
  shown_of_tree Shown text outcome (inl h) = inl h
  shown_of_tree Shown text outcome (inr h) = inr (h.0, h.1, h.2.shows)

  tree_shown : (Shown : CUnit → Outcome → Type 0) (file : List ℕ) (outcome : Outcome) → FileShows (CompiledTextShows Shown seen.out) seen.shelf seen.input seen.out file outcome
      → FileShows (TextShows CSpells CRefused Shown (IsQuiet seen.out)) seen.shelf seen.input seen.out file outcome
  tree_shown Shown file outcome f = record {
    looks = f.looks;
    same = f.same;
    shows = elim f.shows [
      | inl h ↦ inl h
      | inr h ↦ inr (h.0, h.1, h.2, h.3, shown_of_tree Shown h.0 outcome h.4)
    ];
  }

  -- where what is asked for allows some status, one that it allows comes
  abbrev IsNear : Option Invocation → ℕ → Type 0
  IsNear asked answer = (texts : Texts) (i : List ℕ) → AreTold asked seen texts i → Near asked seen (Allows asked texts i) answer

  -- a call
  asked_near : (asked : Invocation) → (outcome : Outcome) → CallShows (Some asked) seen.shelf seen.input seen.out outcome → IsNear (Some asked) (status_of outcome)
  asked_near (compile file) outcome h = put_near (Some (compile file)) CSpells CRefused compiled_text file refl outcome (tree_shown (λ u. PutShows (compiled_text u) seen.out) file outcome h)
  asked_near (build target file) outcome h = made_near (Some (build target file)) CSpells CRefused compiled (emitted_in target).limit (λ u program. IsBuiltIn target u) file refl outcome
      (tree_shown (λ u. EmitShows (emitted_in target).limit (λ program. IsBuiltIn target u) seen.out (compiled u)) file outcome h)
  asked_near (evaluate file fuel) outcome h = λ texts i told any allowed.
      let asked : Option Invocation = Some (evaluate file fuel) in
      file_near asked seen (TextShows CSpells CRefused (λ u. FueledShows (c_runs u) fuel seen.input seen.out) (AreUntouched seen.input seen.out)) (TextAllows CSpells CRefused (λ u. RunAllows i fuel (c_runs u)))
      (λ text o shows. text_near asked seen CSpells CRefused (λ u. FueledShows (c_runs u) fuel seen.input seen.out) (λ u. RunAllows i fuel (c_runs u))
      (λ u o' shows'. fueled_comes asked seen (c_runs u) fuel i refl (told.input refl) o' shows') (AreUntouched seen.input seen.out) text o shows)
      texts refl (told.shelf refl) file outcome h any allowed
  asked_near (sample blocks) outcome h = λ texts i told any allowed. (0, refl, sample_comes blocks outcome h)
  asked_near (eir file steps) outcome h = λ texts i told any allowed.
      run_near (Some (eir file steps)) EirSpells EirRefused eir_runs steps file texts i told refl refl outcome h any allowed
  asked_near (run target file steps codel) outcome h = λ texts i told any allowed.
      let l = in_language target codel in
      run_near (Some (run target file steps codel)) l.spells l.refused (runs_in l) steps file texts i told refl refl outcome h any allowed
  asked_near (emit target file) outcome h = made_near (Some (emit target file)) EirSpells EirRefused (λ p. p) (emitted_in target).limit (λ p. StandsIn target) file refl outcome h
  asked_near (optimise file) outcome h = put_near (Some (optimise file)) EirSpells EirRefused optimised_text file refl outcome h

  shows_near : (asked : Option Invocation) (outcome : Outcome) → CallShows asked seen.shelf seen.input seen.out outcome → IsNear asked (status_of outcome)
  shows_near None outcome h = λ texts i told any allowed. (2, refl, usage_comes None outcome h)
  shows_near (Some asked) outcome h = asked_near asked outcome h

  -- the status of what is shown is exact, since some status is allowed
  pub shows_exact : (asked : Option Invocation) (outcome : Outcome) → CallShows asked seen.shelf seen.input seen.out outcome → IsExact asked seen (status_of outcome)
  shows_exact asked outcome h = λ texts i told. let some = calls_allowed asked texts i in shows_near asked outcome h texts i told some.0 some.1

  -- an exact status is complete
  pub exact_complete : (asked : Option Invocation) (answer : ℕ) → IsExact asked seen answer → IsComplete asked seen answer
  exact_complete asked answer exact = λ texts i status told decides no_shelf no_input no_out.
      let one = exact texts i told in
      elim one.2 [
        | inl same ↦ inl (same ∙ decides.alone one.0 one.1)
        | inr (inl h) ↦ absurd (no_shelf h.2)
        | inr (inr (inl h)) ↦ absurd (no_input h.2)
        | inr (inr (inr (inl h))) ↦ absurd (no_out h.1)
        | inr (inr (inr (inr none))) ↦ inr none
      ]
