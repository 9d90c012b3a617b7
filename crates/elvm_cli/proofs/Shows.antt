-- What an outcome shows.
use Rattle.std.proofs.Common.{◌≡◌, ◌≤◌, ◌+◌, ◌^◌, ℕ, List, [], None, Some, length, true, IsTrue, inl, inr, refl, sym, subst, append-nil}
use Rattle.std.specs.declared.option.Option.{Option}
use Rattle.std.specs.Io.KnownBytes.{Appends}
use Rattle.mach_core.specs.Outside.{HasTakenAtMost, IsTextUnder, one_more}
use Rattle.c_valid.specs.Valid.{AreBytes}
use Rattle.elvm_words.specs.Invocation.{Invocation, compile, eir, emit, build, evaluate, optimise, run, sample}
use Rattle.elvm_cli.specs.Seen.{AreUntouched, OnShelf, OnSink, OnSource}
use Rattle.elvm_cli.specs.Runs.{Runs}
use Rattle.elvm_cli.specs.Shows.{FileShows, FueledShows, IsNoText, RunShows}
use Rattle.elvm_cli.specs.Answer.{CallShows, DeedShows, IsEarly, file_of, reads_file}
use Rattle.elvm_cli.specs.declared.outcome.Outcome.{Outcome}
use Rattle.elvm_cli.specs.declared.outcome.Outcome.TheVariants.{Done, Usage, NoFile, TooLarge, Refused, NoInput, NoOutput, Fault, Limit, NoMemory}

-- what stays as it is got nothing
pub same_is_quiet : (got : Option (List ℕ)) → Appends got got []
same_is_quiet None = tt
same_is_quiet (Some xs) = sym (append-nil xs)

-- what a file shows is what the call shows
call_shows : (asked : Invocation) (shelf : OnShelf) (input : OnSource) (out : OnSink) (outcome : Outcome) → reads_file (Some asked) ≡ true
    → FileShows (DeedShows asked input out) shelf input out (file_of (Some asked)) outcome → CallShows (Some asked) shelf input out outcome
call_shows (eir file steps) shelf input out outcome reads h = h
call_shows (emit target file) shelf input out outcome reads h = h
call_shows (run target file steps codel) shelf input out outcome reads h = h
call_shows (sample blocks) shelf input out outcome reads h = absurd (cc reads)
call_shows (compile file) shelf input out outcome reads h = h
call_shows (optimise file) shelf input out outcome reads h = h
call_shows (evaluate file fuel) shelf input out outcome reads h = h
call_shows (build target file) shelf input out outcome reads h = h

-- a file that gives no text
pub no_text_shows : (asked : Invocation) (shelf : OnShelf) (input : OnSource) (out : OnSink) (name : List ℕ) (outcome : Outcome) → reads_file (Some asked) ≡ true → name ≡ file_of (Some asked)
    → shelf.lookups_after ≡ one_more shelf.lookups → (IsTrue shelf.chosen → HasTakenAtMost shelf.texts name shelf.left (2 ^ 29 + 1)) → shelf.texts_after ≡ shelf.texts
    → IsNoText shelf name outcome → AreUntouched input out → CallShows (Some asked) shelf input out outcome
no_text_shows asked shelf input out name outcome reads named looks_up took same none quiet =
    let shows : FileShows (DeedShows asked input out) shelf input out name outcome = record { looks = inl (looks_up, took); same = same; shows = inl (none, quiet) } in
    call_shows asked shelf input out outcome reads (subst (λ (n : List ℕ). FileShows (DeedShows asked input out) shelf input out n outcome) named shows)

-- a file that gives a text
pub text_shows : (asked : Invocation) (shelf : OnShelf) (input : OnSource) (out : OnSink) (name text : List ℕ) (outcome : Outcome) → reads_file (Some asked) ≡ true → name ≡ file_of (Some asked)
    → shelf.lookups_after ≡ one_more shelf.lookups → (IsTrue shelf.chosen → HasTakenAtMost shelf.texts name shelf.left (2 ^ 29 + 1)) → shelf.texts_after ≡ shelf.texts
    → IsTextUnder shelf.texts name text → length text ≤ 2 ^ 29 → AreBytes text → DeedShows asked input out text outcome → CallShows (Some asked) shelf input out outcome
text_shows asked shelf input out name text outcome reads named looks_up took same under short bytes deed =
    let shows : FileShows (DeedShows asked input out) shelf input out name outcome = record { looks = inl (looks_up, took); same = same; shows = inr (text, under, short, bytes, deed) } in
    call_shows asked shelf input out outcome reads (subst (λ (n : List ℕ). FileShows (DeedShows asked input out) shelf input out n outcome) named shows)

-- a text that is read is no usage fault
deed_usage : (asked : Invocation) (input : OnSource) (out : OnSink) (text : List ℕ) → DeedShows asked input out text Usage → ⊥
deed_usage (eir file steps) input out text (inl h) = h.0
deed_usage (eir file steps) input out text (inr h) = h.2
deed_usage (emit target file) input out text (inl h) = h.0
deed_usage (emit target file) input out text (inr h) = h.2
deed_usage (run target file steps codel) input out text (inl h) = h.0
deed_usage (run target file steps codel) input out text (inr h) = h.2
deed_usage (sample blocks) input out text h = h
deed_usage (compile file) input out text (inl h) = h.0
deed_usage (compile file) input out text (inr h) = h.2.shows
deed_usage (optimise file) input out text (inl h) = h.0
deed_usage (optimise file) input out text (inr h) = h.2
deed_usage (evaluate file fuel) input out text (inl h) = h.0
deed_usage (evaluate file fuel) input out text (inr h) = h.2
deed_usage (build target file) input out text (inl h) = h.0
deed_usage (build target file) input out text (inr h) = h.2.shows

pub deed_is_no_usage : (asked : Invocation) (input : OnSource) (out : OnSink) (text : List ℕ) (outcome : Outcome) → DeedShows asked input out text outcome → outcome ≡ Usage → ⊥
deed_is_no_usage asked input out text outcome h e = deed_usage asked input out text (subst (λ (o : Outcome). DeedShows asked input out text o) e h)

pub no_text_is_no_usage : (shelf : OnShelf) (name : List ℕ) (outcome : Outcome) → IsNoText shelf name outcome → outcome ≡ Usage → ⊥
no_text_is_no_usage shelf name outcome h e = subst (λ (o : Outcome). IsNoText shelf name o) e h

-- want of memory before anything was done
file_memory : (OfTextShows : List ℕ → Outcome → Type 0) (shelf : OnShelf) (input : OnSource) (out : OnSink) (name : List ℕ) → shelf.lookups_after ≡ shelf.lookups → shelf.texts_after ≡ shelf.texts → AreUntouched input out
    → FileShows OfTextShows shelf input out name NoMemory
file_memory OfTextShows shelf input out name none same quiet = record { looks = inr (refl, none); same = same; shows = inl (tt, quiet) }

pub memory_shows : (asked : Option Invocation) (shelf : OnShelf) (input : OnSource) (out : OnSink) → shelf.lookups_after ≡ shelf.lookups → shelf.texts_after ≡ shelf.texts → AreUntouched input out
    → CallShows asked shelf input out NoMemory
memory_shows None shelf input out none same quiet = quiet.0
memory_shows (Some (sample n)) shelf input out none same quiet = quiet.0
memory_shows (Some (emit target file)) shelf input out none same quiet = file_memory (DeedShows (emit target file) input out) shelf input out file none same quiet
memory_shows (Some (compile file)) shelf input out none same quiet = file_memory (DeedShows (compile file) input out) shelf input out file none same quiet
memory_shows (Some (optimise file)) shelf input out none same quiet = file_memory (DeedShows (optimise file) input out) shelf input out file none same quiet
memory_shows (Some (evaluate file fuel)) shelf input out none same quiet = file_memory (DeedShows (evaluate file fuel) input out) shelf input out file none same quiet
memory_shows (Some (eir file n)) shelf input out none same quiet = file_memory (DeedShows (eir file n) input out) shelf input out file none same quiet
memory_shows (Some (build target file)) shelf input out none same quiet = file_memory (DeedShows (build target file) input out) shelf input out file none same quiet
memory_shows (Some (run target file n s)) shelf input out none same quiet = file_memory (DeedShows (run target file n s) input out) shelf input out file none same quiet

-- a run that was begun has no early outcome
pub begun : (runs : Runs) (steps : ℕ) (input : OnSource) (out : OnSink) (outcome : Outcome) → RunShows runs steps input out outcome → IsEarly outcome → ⊥
begun runs steps input out Done h early = early
begun runs steps input out Usage h early = h
begun runs steps input out NoFile h early = h
begun runs steps input out TooLarge h early = h
begun runs steps input out (Refused kind place) h early = h
begun runs steps input out NoInput h early = early
begun runs steps input out NoOutput h early = early
begun runs steps input out (Fault code) h early = early
begun runs steps input out Limit h early = early
begun runs steps input out NoMemory h early = early

-- nor has one with fuel
pub begun_fueled : (runs : Runs) (fuel : ℕ) (input : OnSource) (out : OnSink) (outcome : Outcome) → FueledShows runs fuel input out outcome → IsEarly outcome → ⊥
begun_fueled runs fuel input out Done h early = early
begun_fueled runs fuel input out Usage h early = h
begun_fueled runs fuel input out NoFile h early = h
begun_fueled runs fuel input out TooLarge h early = h
begun_fueled runs fuel input out (Refused kind place) h early = h
begun_fueled runs fuel input out NoInput h early = early
begun_fueled runs fuel input out NoOutput h early = early
begun_fueled runs fuel input out (Fault code) h early = early
begun_fueled runs fuel input out Limit h early = early
begun_fueled runs fuel input out NoMemory h early = early
