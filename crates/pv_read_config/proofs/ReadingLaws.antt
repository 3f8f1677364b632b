-- What is read of one part after another.
use Rattle.std.proofs.Common.{◌≡◌, ℕ, ◌+◌, ◌<◌, Bool, arith, add_assoc, false, ◌||◌, List, ◌∷◌, ◌++◌, take, drop, get_or, length, add-one, append_assoc, append-nil, refl, sym, ap, ◌∙◌}
use Rattle.std.proofs.Math.Seq.{drop-cons}
use Rattle.std.proofs.Math.Bool.{or-false, or_assoc}
use Rattle.pv_text.specs.GivenMessages.{MessagesPart}
use Rattle.pv_path.specs.Paths.{Path}
use Rattle.pv_steps.specs.Trees.{Files}
use Rattle.pv_text.specs.declared.place.Place.{Place}
use Rattle.pv_read_config.specs.Configuration.{Reader, Reading, is_skipped, nothing, followed, lines_in, reading_of, reading_of_file, reading_of_files, reading_of_lines}
use Rattle.pv_text.proofs.MessagesLaws.{messages_first, messages_then, messages_whole}
use Rattle.pv_read_config.specs.Adding.{Adds}
use Rattle.pv_read_config.specs.declared.configuration.Configuration.{Configuration}

followed_assoc : {L : Type 0} (a b c : Reading L) → followed (followed a b) c ≡ followed a (followed b c)
followed_assoc a b c = λ i. record {
  lines = append_assoc a.lines b.lines c.lines i;
  invalid = or_assoc a.invalid b.invalid c.invalid i;
  messages = append_assoc a.messages b.messages c.messages i;
  count = add_assoc a.count b.count c.count i;
}

nothing_followed : {L : Type 0} (a : Reading L) → followed nothing a ≡ a
nothing_followed a =
    let none : 0 + a.count ≡ a.count = omega arith in
    λ i. record { lines = a.lines; invalid = a.invalid; messages = a.messages; count = none i }

-- ---- what is added

pub adds_nothing : {L : Type 0} (c : Configuration L) (new_messages : List (List ℕ)) → Adds nothing c c new_messages new_messages
adds_nothing c new_messages = record { lines = sym (append-nil c.lines); invalid = sym (or-false c.invalid); missing = refl; count = omega arith; few = λ h. h; messages = sym (append-nil new_messages) }

adds_both : {L : Type 0} {a b : Reading L} {c d e : Configuration L} {new_messages stated all : List (List ℕ)} → Adds a c d new_messages stated → Adds b d e stated all → Adds (followed a b) c e new_messages all
adds_both {a = a} {b = b} {c = c} {new_messages = new_messages} first second = record {
  lines = second.lines ∙ ap (λ x. x ++ b.lines) first.lines ∙ append_assoc c.lines a.lines b.lines;
  invalid = second.invalid ∙ ap (λ (x : Bool). x || b.invalid) first.invalid ∙ or_assoc c.invalid a.invalid b.invalid;
  missing = second.missing ∙ first.missing;
  count = omega (arith, first.count, second.count);
  few = λ h. second.few (first.few h);
  messages = second.messages ∙ ap (λ (x : List (List ℕ)). x ++ b.messages) first.messages ∙ append_assoc new_messages a.messages b.messages;
}

-- ---- reading that is underway

-- of all that is to be read a part is read, and the rest is left
pub record Underway {L : Type 0} (all rest : Reading L) (old new : Configuration L) (new_messages stated : List (List ℕ)) : Type 0 where
  pub done : Reading L
  pub adds : Adds done old new new_messages stated
  pub whole : followed done rest ≡ all

pub underway_start : {L : Type 0} (all : Reading L) (c : Configuration L) (new_messages : List (List ℕ)) → Underway all all c c new_messages new_messages
underway_start all c new_messages = record { done = nothing; adds = adds_nothing c new_messages; whole = nothing_followed all }

module _ {L : Type 0} {all rest : Reading L} {old new : Configuration L} {new_messages stated : List (List ℕ)} (u : Underway all rest old new new_messages stated) where
  pub underway_more : (one next : Reading L) (newer : Configuration L) (more : List (List ℕ)) → rest ≡ followed one next → Adds one new newer stated more → Underway all next old newer new_messages more
  underway_more one next newer more is adds = record {
    done = followed u.done one;
    adds = adds_both u.adds adds;
    whole = followed_assoc u.done one next ∙ ap (followed u.done) (sym is) ∙ u.whole;
  }

  pub underway_messages : MessagesPart all.messages new_messages stated
  underway_messages =
      let first = messages_first u.done.messages rest.messages new_messages stated (messages_whole u.done.messages new_messages stated u.adds.messages) in
      (first.0, first.1 ∙ ap (λ (r : Reading L). new_messages ++ take first.0 r.messages) u.whole)

  pub underway_part : (one next : Reading L) (more : List (List ℕ)) → rest ≡ followed one next → MessagesPart one.messages stated more → MessagesPart all.messages new_messages more
  underway_part one next more is part =
      let some = messages_then u.done.messages (one.messages ++ next.messages) new_messages stated more u.adds.messages (messages_first one.messages next.messages stated more part) in
      (some.0, some.1 ∙ ap (λ (r : Reading L). new_messages ++ take some.0 r.messages) (ap (followed u.done) (sym is) ∙ u.whole))

-- ---- the next line, and the next file

pub next_line : {L : Type 0} (reader : Reader L) (file name : List ℕ) (before number : ℕ) (rest line after : List ℕ) → name ≡ file → number ≡ before + 1 → lines_in rest ≡ line ∷ lines_in after
    → reading_of_lines reader file (before + 1) (lines_in rest) ≡ followed (reading_of reader (record { file = name; number = number }) line) (reading_of_lines reader file (number + 1) (lines_in after))
next_line reader file name before number rest line after same one cut =
    ap (reading_of_lines reader file (before + 1)) cut
    ∙ ap (λ (n : ℕ). followed (reading_of reader (record { file = file; number = n }) line) (reading_of_lines reader file (n + 1) (lines_in after))) (sym one)
    ∙ ap (λ (f : List ℕ). followed (reading_of reader (record { file = f; number = number }) line) (reading_of_lines reader file (number + 1) (lines_in after))) (sym same)

pub next_file : {L : Type 0} (files : Files) (reader : Reader L) (paths : List Path) (i : ℕ) (path : Path) → i < length paths → path ≡ get_or paths i path
    → reading_of_files files reader (drop i paths) ≡ followed (reading_of_file files reader path) (reading_of_files files reader (drop (i + 1) paths))
next_file files reader paths i path below is =
    let next : reading_of_files files reader (drop i paths) ≡ followed (reading_of_file files reader (get_or paths i path)) (reading_of_files files reader (drop (i + 1) paths))
    = rw (drop-cons paths i path below, add-one i) refl in
    next ∙ ap (λ (p : Path). followed (reading_of_file files reader p) (reading_of_files files reader (drop (i + 1) paths))) (sym is)

-- ---- one line

-- what is said of a line that is not skipped is a part of what it gives
pub line_part : {L : Type 0} (reader : Reader L) (place : Place) (text : List ℕ) (new_messages stated : List (List ℕ)) → is_skipped text ≡ false → stated ≡ new_messages ++ reader.messages_for place text
    → MessagesPart (reading_of reader place text).messages new_messages stated
line_part reader place text new_messages stated skipped all = rw skipped (messages_whole (reader.messages_for place text) new_messages stated all)
