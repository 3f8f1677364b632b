use Rattle.pv_lines.specs.ArgumentField.{begun, begun_words, is_space, words_from}
use Rattle.pv_text.specs.Fields.{is_quote}
use Rattle.std.specs.Prelude.{Option, None, Some, option_map, true, false}
use Rattle.std.proofs.lemmas.Result.{IfOk-from_err}
use Rattle.std.proofs.Common.{◌≡◌, ℕ, List, ◌∷◌, sym, subst, ◌∙◌, refl, ap, append_assoc, ◌++◌}
use Rattle.pv_lines.specs.Words.{words_of}
use Rattle.pv_lines.specs.declared.attributes.WordReader.{WordReader}
use Rattle.pv_lines.proofs.WordLaws.{bare_byte}
use Rattle.pv_lines.proofs.attributes.WordReader.read_bare.Goals as goal

pub returns : goal.returns
returns c =
    subst (λ (new : WordReader). (text : List ℕ) → words_of new text ≡ words_of c.args.self.now (c.args.byte ∷ text)) (sym c.in_ok-push.ensures)
    (bare_byte c.args.self.now c.args.byte c.requires (sym c.is_quote.ensures ∙ c.if-is_quote.false) (sym c.is_space.ensures ∙ c.if-is_space.false))

pub returns-in_err-end_word : goal.returns-in_err-end_word
returns-in_err-end_word c = IfOk-from_err c.from_residual.result _ c.from_residual.ensures.0

pub returns-in_err-push : goal.returns-in_err-push
returns-in_err-push c = IfOk-from_err c.from_residual-in_err-push.result _ c.from_residual-in_err-push.ensures.0

-- a quote begins a word
quote_begins : (reader : WordReader) (b : ℕ) → reader.quote ≡ None → is_quote b ≡ true
    → (text : List ℕ) → words_of (record reader { word = Some (begun reader.word); quote = Some b }) text ≡ words_of reader (b ∷ text)
quote_begins reader b quote is text = rw (quote, is) refl

words_twice : (first last : List (List ℕ)) (words : Option (List (List ℕ)))
    → option_map (λ ws. (first ++ last) ++ ws) words ≡ option_map (λ ws. first ++ ws) (option_map (λ ws. last ++ ws) words)
words_twice first last None = refl
words_twice first last (Some ws) = ap Some (append_assoc first last ws)

-- a space ends a word
space_ends : (reader new : WordReader) (b : ℕ) → reader.quote ≡ None → is_quote b ≡ false → is_space b ≡ true
    → new.words.items ≡ reader.words.items ++ begun_words reader.word → new.word ≡ None → new.quote ≡ reader.quote
    → (text : List ℕ) → words_of new text ≡ words_of reader (b ∷ text)
space_ends reader new b quote is space words word same text =
    rw (words, word, same, quote, is, space) (words_twice reader.words.items (begun_words reader.word) (words_from None None text))

pub returns-then-is_quote : goal.returns-then-is_quote
returns-then-is_quote c =
    subst (λ (new : WordReader). (text : List ℕ) → words_of (record new { quote = Some c.args.byte }) text ≡ words_of c.args.self.now (c.args.byte ∷ text)) (sym c.begin.ensures)
    (quote_begins c.args.self.now c.args.byte c.requires (sym c.is_quote.ensures ∙ c.if-is_quote.true))

pub returns-then-is_space : goal.returns-then-is_space
returns-then-is_space c =
    space_ends c.args.self.now c.end_word.new.self c.args.byte c.requires (sym c.is_quote.ensures ∙ c.if-is_quote.false) (sym c.is_space.ensures ∙ c.if-is_space.true)
    c.in_ok-end_word.ensures.0 c.in_ok-end_word.ensures.1 c.in_ok-end_word.ensures.2
