use Rattle.eir_text.proofs.LawLemmas.{labels_laid, words_follow}
use Rattle.eir_text.proofs.laws.data_labels_name_what_follows.Goals as goal

pub returns : goal.returns
returns c = record { labels = labels_laid; words = words_follow }
