use Rattle.elvm_cli.specs.Seen.{on_shelf}
use Rattle.elvm_words.specs.Invocation.{invocation_of}
use Rattle.elvm_cli.proofs.Shows.{deed_is_no_usage, no_text_is_no_usage, no_text_shows, same_is_quiet, text_shows}
use Rattle.std.proofs.Common.{refl}
use Rattle.elvm_cli.proofs.answer.answer_file.Goals as goal

pub returns-in-Ok-clause-shows : goal.returns-in-Ok-clause-shows
returns-in-Ok-clause-shows g c =
    let file = c.file_text.ensures in
    text_shows (invocation_of c.args.request) _ _ _ _ c.as_slice-bytes.result.now c.answer_text.result c.requires.file c.file_name.ensures
    file.looks_up file.took file.same (rw c.as_slice-bytes.ensures.value c.in-Ok.ensures.text) (rw c.as_slice-bytes.ensures.value c.in-Ok.ensures.within) c.are_bytes.ensures c.answer_text.ensures.shows

pub returns-in-Err-clause-shows : goal.returns-in-Err-clause-shows
returns-in-Err-clause-shows g c =
    let file = c.file_text.ensures in
    no_text_shows (invocation_of c.args.request) _ _ _ _ c.in-Err.outcome c.requires.file c.file_name.ensures
    file.looks_up file.took file.same c.in-Err.ensures.err (same_is_quiet (g.O.Sink.got c.args.out.now), refl, refl)

pub returns-in-Ok-clause-deed : goal.returns-in-Ok-clause-deed
returns-in-Ok-clause-deed g c = deed_is_no_usage (invocation_of c.args.request) _ _ _ c.answer_text.result c.answer_text.ensures.shows

pub returns-in-Err-clause-deed : goal.returns-in-Err-clause-deed
returns-in-Err-clause-deed g c =
    let f = g.F.Shelf in
    let old = c.args.shelf.now in
    let new = c.file_text.new.shelf in
    no_text_is_no_usage (on_shelf (f.faults old) (f.faults new) (f.texts old) (f.texts new) (f.lookups old) (f.lookups new) (f.chosen new) (f.left new))
    c.file_name.result.now c.in-Err.outcome c.in-Err.ensures.err
