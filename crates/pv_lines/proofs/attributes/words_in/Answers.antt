use Rattle.pv_path.proofs.Tests.{none_of}
use Rattle.pv_lines.specs.declared.attributes.WordReader.{WordReader}
use Rattle.pv_lines.specs.Words.{words_of}
use Rattle.pv_lines.specs.ArgumentField.{begun_words, words_from}
use Rattle.std.proofs.lemmas.List.{at_drop_more, at_drop_all, append-nil}
use Rattle.std.specs.Prelude.{Option, None, Some, option_map, is_some, true}
use Rattle.std.proofs.Common.{◌≡◌, ℕ, List, [], ◌++◌, ◌+◌, refl, sym, ap, ◌∙◌, drop}
use Rattle.std.proofs.lemmas.Result.{IfOk-from_err}
use Rattle.pv_lines.proofs.attributes.words_in.Goals as goal

pub returns-in_err-read : goal.returns-in_err-read
returns-in_err-read c = IfOk-from_err c.from_residual.result _ c.from_residual.ensures.0

pub returns-in_err-end_word : goal.returns-in_err-end_word
returns-in_err-end_word c = IfOk-from_err c.from_residual-in_err-end_word.result _ c.from_residual-in_err-end_word.ensures.0

-- a reader between two quotes has no words yet, whatever it has read
left_open : (reader : WordReader) (quote : Option ℕ) → is_some quote ≡ true → None ≡ option_map (λ ws. reader.words.items ++ ws) (words_from quote reader.word [])
left_open reader None h = cc
left_open reader (Some b) h = refl

-- at the end, the word that has begun is the last one
all_words : (reader : WordReader) (words : List (List ℕ)) → reader.quote ≡ None → words ≡ reader.words.items ++ begun_words reader.word → Some words ≡ words_of reader []
all_words reader words quote is = rw quote (ap Some (is ∙ ap (λ ws. reader.words.items ++ ws) (sym (append-nil (begun_words reader.word)))))

pub loop-byte-init : goal.loop-byte-init
loop-byte-init c = c.new-reader.ensures c.args.text.now

pub loop-byte-preserved : goal.loop-byte-preserved
loop-byte-preserved c =
    let text = c.args.text.now in
    let i = c.loop-byte.byte-index in
    c.in_ok-read.ensures (drop (i + 1) text) ∙ sym (at_drop_more (words_of c.loop-byte.reader) text i 0 c.loop-byte-test.true) ∙ c.loop-byte.invariant

pub returns : goal.returns
returns c =
    all_words c.loop-byte.reader c.end_word.new.self.words.items (none_of c.loop-byte.reader.quote (sym c.is_some.ensures ∙ c.if-is_some.false)) c.in_ok-end_word.ensures.0
    ∙ sym (at_drop_all (words_of c.loop-byte.reader) c.args.text.now c.loop-byte.byte-index c.loop-byte-test.false) ∙ c.loop-byte.invariant

pub returns-then-is_some : goal.returns-then-is_some
returns-then-is_some c =
    left_open c.loop-byte.reader c.loop-byte.reader.quote (sym c.is_some.ensures ∙ c.if-is_some.true)
    ∙ sym (at_drop_all (words_of c.loop-byte.reader) c.args.text.now c.loop-byte.byte-index c.loop-byte-test.false) ∙ c.loop-byte.invariant
