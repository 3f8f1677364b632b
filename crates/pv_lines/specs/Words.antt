-- What a reader of words makes of a text.
use Rattle.std.specs.Prelude.{ℕ, List, ◌++◌, Option, option_map}
use Rattle.pv_lines.specs.declared.attributes.WordReader.{WordReader}
use Rattle.pv_lines.specs.ArgumentField.{words_from}

-- The words that a reader has completed, and then those of a text with which it goes on.
abbrev pub words_of : WordReader → List ℕ → Option (List (List ℕ))
words_of reader text = option_map (λ words. reader.words.items ++ words) (words_from reader.quote reader.word text)
