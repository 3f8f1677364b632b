-- Words, one byte of a text after another.
use Rattle.std.specs.Prelude.{◌≡◌, ℕ, true, false, ◌==◌, List, [], ◌∷◌, ◌++◌, Some, None, refl}
use Rattle.pv_text.specs.Fields.{is_quote}
use Rattle.pv_lines.specs.declared.attributes.WordReader.{WordReader}
use Rattle.pv_lines.specs.ArgumentField.{begun, is_space}
use Rattle.pv_lines.specs.Words.{words_of}

pub quote_ends : (reader : WordReader) (quote b : ℕ) → reader.quote ≡ Some quote → (b == quote) ≡ true → (text : List ℕ) → words_of (record reader { quote = None }) text ≡ words_of reader (b ∷ text)
quote_ends reader quote b kept is text = rw (kept, is) refl

pub bare_byte : (reader : WordReader) (b : ℕ) → reader.quote ≡ None → is_quote b ≡ false → is_space b ≡ false → (text : List ℕ) → words_of (record reader { word = Some (begun reader.word ++ b ∷ []) }) text ≡ words_of reader (b ∷ text)
bare_byte reader b quote is plain text = rw (quote, is, plain) refl
