-- The file words are the texts.
use Rattle.std.proofs.Common.{◌∙◌, ap, rules}
use Rattle.std.specs.Borrow.{Bor}
use Rattle.std.specs.List.{list_any}
use Rattle.clap.proofs.WalkLemmas.{list_any-map}
use Rattle.clap.specs.Matches.{found_of}
use Rattle.pv_words.specs.Parts.{is_dash}
use Rattle.pv_words.proofs.FilesLaws.{files-are}
use Rattle.pv_words.proofs.matches.has_dash.Goals as goal

pub returns-in-Some : goal.returns-in-Some
returns-in-Some c =
    c.is_any_dash.ensures ∙ list_any-map is_dash (λ (t : Bor _). t.now) c.in-Some.files.now
    ∙ ap (list_any is_dash) (files-are (found_of c.args.matches.now) c.in-Some.files.now (search rules))
