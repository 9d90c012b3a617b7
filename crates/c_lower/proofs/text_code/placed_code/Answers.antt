use Rattle.std.proofs.Common.{◌≡◌, ℕ, List, map, sym, ap, subst, ◌∙◌}
use Rattle.std.specs.Prelude.{true, slice_get}
use Rattle.c_syntax.specs.View.{item_of, unit_of}
use Rattle.c_syntax.specs.declared.tree.Item.{Item}
use Rattle.c_types.specs.Scope.{contains}
use Rattle.c_types.specs.Units.{start_scope, all_items}
use Rattle.c_eval.specs.Text.{text_of, definitions}
use Rattle.c_fitting.specs.Blocks.{ItemsDeclareInBlocks}
use Rattle.c_opening.specs.Named.{tags_in, HasNumber}
use Rattle.c_lowered.specs.Whole.{frames, linking_of}
use Rattle.c_addressing.specs.declared.here.Here.{Here}
use Rattle.c_addressing.specs.declared.here.Output.{Output}
use Rattle.c_addressing.proofs.HereLemmas.{holds_later}
use Rattle.c_applied.proofs.LeadsLemmas.{same_number}
use Rattle.c_lower.specs.Walk.{AddsFunctions}
use Rattle.c_lower.proofs.ExternalWholeLemmas.{main, file_place, in_main, with_literals, main_known, before_first, whole_made}
use Rattle.c_lower.proofs.text_code.placed_code.Goals as goal

pub functions-requires-clause-holds : goal.functions-requires-clause-holds
functions-requires-clause-holds c =
    let s = start_scope (unit_of c.args.unit.now) in
    let out : Output = record { types = c.in_ok-opened.opened.types; literals = c.args.placed.now.other; ops = c.new-ops.result } in
    let opens = c.in_ok-opening.ensures c.args.at c.entry_of-main.result (same_number c.args.at) (same_number c.entry_of-main.result) in
    (s, holds_later out c.opening.new.out c.in_ok-opened.opened.declared s opens c.in_ok-opened.ensures.holds)

pub functions-requires-clause-numbered : goal.functions-requires-clause-numbered
functions-requires-clause-numbered c =
    let opens = c.in_ok-opening.ensures c.args.at c.entry_of-main.result (same_number c.args.at) (same_number c.entry_of-main.result) in
    subst (λ (l : List Item). (name : List ℕ) → contains (tags_in (map item_of l)) name ≡ true → HasNumber c.opening.new.out.types name) (sym c.as_slice-items.ensures.value)
    (λ name there.
    let k = c.in_ok-opened.ensures.numbered name there in
    (k.0, ap (λ (tags : List (List ℕ)). slice_get tags k.0) opens.tags ∙ k.1))

pub returns : goal.returns
returns c = λ end typed blocks places knows.
    let u = unit_of c.args.unit.now in
    let s = start_scope u in
    let w = linking_of u in
    let placed = c.args.placed.now in
    let opened = c.in_ok-opened.opened in
    let h : Here = record { declared = opened.declared; slots = c.args.slots; bases = c.args.bases; entries = c.args.entries } in
    let a : Output = record { types = opened.types; literals = placed.other; ops = c.new-ops.result } in
    let b = c.opening.new.out in
    let holds = c.in_ok-opened.ensures.holds in
    let items = c.as_slice-items.ensures.value in
    let at_main = c.entry_of-main.ensures (with_literals placed a) (in_main u) (file_place u) (main_known h a placed c.args.at u holds knows places) in
    let opens = c.in_ok-opening.ensures (frames u) (w.entry main) knows.frames_at at_main in
    let before = before_first h c.new-structs.result b placed c.args.at u (holds_later a b opened.declared s opens holds) (c.new-structs.ensures b.types) knows places in
    let adds =
    c.in_ok-functions.ensures w (text_of u).names s end before (ap (λ (l : List Item). all_items s (map item_of l)) items ∙ typed) (subst (λ (l : List Item). ItemsDeclareInBlocks (map item_of l)) (sym items) blocks) in
    whole_made u a b c.functions.new.out c.in_ok-functions.field-0 c.new-ops.ensures.items opens
    (subst (λ (l : List Item). AddsFunctions b c.functions.new.out w (text_of u).names (definitions s (map item_of l)) 2 c.in_ok-functions.field-0) items adds)
