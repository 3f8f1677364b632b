-- The text of messages, one more at a time, and before an image.
use Rattle.std.proofs.Common.{◌≡◌, ℕ, ◌+◌, ◌<◌, true, ◌&&◌, List, [], ◌∷◌, ◌++◌, codes, length, map, take, get_or, refl, sym, ap, ◌∙◌, append_assoc}
use Rattle.std.specs.List.{flat_map, list_all}
use Rattle.std.specs.Option.{option_map_or}
use Rattle.std.proofs.lemmas.List.{flat_map_more, take_more}
use Rattle.std.proofs.lemmas.Option.{slice_get-get_or}
use Rattle.std.proofs.lemmas.Bool.{and_parts, and_from}
use Rattle.pv_text.specs.Facts.{Values}
use Rattle.pv_text.specs.Lines.{is_line, are_lines}
use Rattle.pv_text.proofs.Characters.{all_append, one_line-append}
use Rattle.pv_steps.specs.Trees.{Files}
use Rattle.pv_image.specs.Images.{IsImage, is_note}
use Rattle.pv_image.specs.Spelling.{line, text_in}
use Rattle.provision_run.specs.Messages.{message, messages_text, message_at}

pub messages_more : (texts : List (List ℕ)) (i : ℕ) → i < length texts → messages_text (take i texts) ++ message_at texts i ≡ messages_text (take (i + 1) texts)
messages_more texts i within =
    ap (λ o. messages_text (take i texts) ++ option_map_or message o []) (slice_get-get_or texts i [] within)
    ∙ flat_map_more message [] (take i texts) (get_or texts i [])
    ∙ ap messages_text (sym (take_more texts i [] within))

-- ---- messages before an image

abbrev note : List ℕ → List ℕ
note text = codes ": " ++ text

notes_are : (new_messages : List (List ℕ)) → are_lines new_messages ≡ true → list_all (λ text. is_note text && is_line text) (map note new_messages) ≡ true
notes_are [] lines = refl
notes_are (text ∷ new_messages) lines =
    let parts = and_parts (is_line text) (are_lines new_messages) lines in
    and_from (is_note (note text) && is_line (note text)) (list_all (λ t. is_note t && is_line t) (map note new_messages))
    (and_from (is_note (note text)) (is_line (note text)) refl (one_line-append (codes ": ") text refl parts.0)) (notes_are new_messages parts.1)

notes_text : (new_messages notes : List (List ℕ)) → messages_text new_messages ++ flat_map line notes ≡ flat_map line (map note new_messages ++ notes)
notes_text [] notes = refl
notes_text (text ∷ new_messages) notes = append_assoc (message text) (messages_text new_messages) (flat_map line notes) ∙ ap (λ (t : List ℕ). message text ++ t) (notes_text new_messages notes)

-- messages before an image are notes of it, so that the whole is an image again
pub noted : (new_messages : List (List ℕ)) (bytes : List ℕ) (facts : Values) (files : Files) → are_lines new_messages ≡ true → IsImage bytes facts files → IsImage (messages_text new_messages ++ bytes) facts files
noted new_messages bytes facts files lines image = record {
  version = image.version;
  notes = map note new_messages ++ image.notes;
  are_notes = all_append (λ text. is_note text && is_line text) (map note new_messages) image.notes (notes_are new_messages lines) image.are_notes;
  fit = image.fit;
  text = ap (λ (t : List ℕ). messages_text new_messages ++ t) image.text
      ∙ sym (append_assoc (messages_text new_messages) (flat_map line image.notes) (text_in image.version facts files))
      ∙ ap (λ (t : List ℕ). t ++ text_in image.version facts files) (notes_text new_messages image.notes);
}
