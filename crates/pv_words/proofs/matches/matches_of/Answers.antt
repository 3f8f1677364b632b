-- The command reads the words as they are meant.
use Rattle.std.proofs.Common.{◌∙◌, sym, subst, map, string_bytes, Err}
use Rattle.clap.specs.Simple.{app_of}
use Rattle.pv_words.specs.Reading.{Reads}
use Rattle.pv_words.specs.declared.words_fault.WordsFault.{WordsFault}
use Rattle.pv_words.proofs.ReadingLaws.{command-fault, command-matches, reads-short}
use Rattle.pv_words.proofs.matches.matches_of.Goals as goal

pub returns-then-has_short : goal.returns-then-has_short
returns-then-has_short c = reads-short (map string_bytes c.args.words.now) (sym c.has_short.ensures ∙ c.if-has_short.true)

pub returns-in-Ok : goal.returns-in-Ok
returns-in-Ok c =
    command-matches (app_of c.in_ok-command.command) (map string_bytes c.args.words.now) c.in-Ok.matches c.in_ok-command.ensures
    (sym c.has_short.ensures ∙ c.if-has_short.false) c.in-Ok.ensures.kinds c.in-Ok.ensures.matches

pub returns-in-Err : goal.returns-in-Err
returns-in-Err c =
    let words = map string_bytes c.args.words.now in
    subst (λ (fault : WordsFault). Reads (Err fault) words) (sym c.fault_of.ensures)
    (command-fault (app_of c.in_ok-command.command) words c.kind.result c.in_ok-command.ensures
    (sym c.has_short.ensures ∙ c.if-has_short.false) (rw c.kind.ensures c.in-Err.ensures.kinds))
