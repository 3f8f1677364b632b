use Rattle.std.proofs.Common.{◌≡◌, ap, ◌∙◌, refl, ℕ, List, ◌++◌}
use Rattle.std.specs.Prelude.{Option, None, Some, option_map}
use Rattle.pv_lines.specs.ArgumentField.{words_from}
use Rattle.pv_lines.proofs.attributes.WordReader.new.Goals as goal

-- nothing is put before the words
same_words : (words : Option (List (List ℕ))) → option_map (λ ws. ws) words ≡ words
same_words None = refl
same_words (Some ws) = refl

pub returns : goal.returns
returns c text =
    ap (λ (ws : List (List ℕ)). option_map (λ words. ws ++ words) (words_from None None text)) c.new.ensures.items
    ∙ same_words (words_from None None text)
