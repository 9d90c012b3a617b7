use Rattle.std.proofs.Common.{◌≡◌, ℕ, List, [], ◌∷◌, ◌++◌, map, refl, sym, ap, subst, ◌∙◌}
use Rattle.std.specs.Prelude.{true}
use Rattle.word24.specs.declared.word.Word.{Word}
use Rattle.c_syntax.specs.View.{item_of, unit_of}
use Rattle.c_syntax.specs.declared.tree.Item.{Item}
use Rattle.c_types.specs.Scope.{contains}
use Rattle.c_types.specs.Units.{start_scope, all_items}
use Rattle.c_eval.specs.Text.{file_start, definitions, text_of}
use Rattle.c_opening.specs.Named.{tags_in, HasNumber}
use Rattle.c_lowered.specs.Whole as definition
use Rattle.c_lowered.specs.Whole.{linking_of, words_from, firsts_given, given_words, all_letters, literals_of}
use Rattle.c_counted.specs.Numbers.{IsNumber}
use Rattle.c_addressing.specs.declared.here.Here.{Here}
use Rattle.c_addressing.specs.declared.here.Output.{Output}
use Rattle.c_addressing.specs.Names.{entry_in}
use Rattle.c_lower.proofs.WordLemmas.{words_then}
use Rattle.c_lower.specs.Words.{PassesBetween}
use Rattle.c_lower.proofs.ScopeLemmas.{scope_starts}
use Rattle.c_lower.proofs.scope.placed_scope.Goals as goal

pub object_words-requires-clause-holds : goal.object_words-requires-clause-holds
object_words-requires-clause-holds c = (start_scope (unit_of c.args.unit.now), c.in_ok-opening.ensures.holds)

pub object_words-requires-clause-numbered : goal.object_words-requires-clause-numbered
object_words-requires-clause-numbered c =
    subst (λ (l : List Item). (name : List ℕ) → contains (tags_in (map item_of l)) name ≡ true → HasNumber c.in_ok-opening.opening.types name) (sym c.as_slice-items.ensures.value) c.in_ok-opening.ensures.numbered

pub returns : goal.returns
returns c = λ end typed knows are first_at letters.
    let u = unit_of c.args.unit.now in
    let w = linking_of u in
    let items = c.as_slice-items.ensures.value in
    let h : Here = record { declared = c.in_ok-opening.opening.declared; slots = c.new-slots.result; bases = c.args.places.bases; entries = c.in_ok-blocks.blocks } in
    let a : Output = record { types = c.in_ok-opening.opening.types; literals = record { next = c.args.addresses; end = c.args.first }; ops = c.new-ops.result } in
    let there = ap (λ (l : List Item). all_items (start_scope u) (map item_of l)) items ∙ typed in
    let entries = λ (name : List ℕ). subst (λ (l : List Item). IsNumber (entry_in c.in_ok-blocks.blocks.entries name) (definition.entry_in (definitions (start_scope u) (map item_of l)) 2 name)) items (c.in_ok-blocks.ensures (start_scope u) end there name) in
    let start = scope_starts h a c.new-structs.result u c.in_ok-opening.ensures.holds c.new-slots.ensures.block c.new-slots.ensures.outer knows.bases_are entries are (c.new-structs.ensures a.types) in
    let of = c.in_ok-words.ensures w (file_start u) end start there in
    let last = c.in_ok-words.words.items in
    let between = subst (λ (l : List Item). PassesBetween c.object_words.new.here c.object_words.new.out w (file_start u) (map item_of l) last c.args.letters.now) items of in
    let all = between.passes in
    let null = words_from (0 ∷ []) in
    let mid = between.values in
    let given = given_words w (firsts_given u.items) (text_of u).objects in
    let one = words_then [] null mid (0 ∷ []) given refl all.words_are in
    let two = words_then [] mid last (0 ∷ given) (all_letters (literals_of u)) one (between.words_are ∙ ap (λ (l : List Word). mid ++ l) letters) in
    record {
      slots_are = all.at.here.slots;
      bases_are = all.at.here.bases;
      entries_are = all.at.here.entries;
      words_are = two;
      first_at = first_at;
      frames_at = knows.frames_at;
    }
