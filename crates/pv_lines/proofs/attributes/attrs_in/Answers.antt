use Rattle.std.proofs.Common.{◌≡◌, ℕ, List, [], ◌+◌, ◌<◌, length, sym, ap, ◌∙◌, drop, get_or}
use Rattle.std.specs.Prelude.{Option, None, Some, option_and_then}
use Rattle.std.proofs.lemmas.List.{at_drop_more, at_drop_all}
use Rattle.std.proofs.lemmas.Result.{IfOk-from_err}
use Rattle.pv_steps.specs.Attributes.{put_attr}
use Rattle.pv_steps.specs.declared.attr.Attr.{Attr}
use Rattle.pv_steps.proofs.AttrPutting.{are_attrs-put_attr}
use Rattle.pv_lines.specs.ArgumentField.{attr_in, attrs_in}
use Rattle.pv_lines.proofs.attributes.attrs_in.Goals as goal

-- one more word is an attribute
one_more : (words : List (List ℕ)) (word : List ℕ) (attrs new : List Attr) (attr : Attr) (all : Option (List Attr)) (i : ℕ) → i < length words → word ≡ get_or words i word
    → Some attr ≡ attr_in word → new ≡ put_attr attr attrs → attrs_in (drop i words) attrs ≡ all → attrs_in (drop (i + 1) words) new ≡ all
one_more words word attrs new attr all i lt item spelled put is =
    let left = drop (i + 1) words in
    ap (attrs_in left) put
    ∙ ap (option_and_then (λ (a : Attr). attrs_in left (put_attr a attrs))) (spelled ∙ ap attr_in item)
    ∙ sym (at_drop_more (λ (ws : List (List ℕ)). attrs_in ws attrs) words i word lt) ∙ is

-- one more word is none
none_more : (words : List (List ℕ)) (word : List ℕ) (attrs : List Attr) (all : Option (List Attr)) (i : ℕ) → i < length words → word ≡ get_or words i word
    → None ≡ attr_in word → attrs_in (drop i words) attrs ≡ all → None ≡ all
none_more words word attrs all i lt item unspelled is =
    let left = drop (i + 1) words in
    ap (option_and_then (λ (a : Attr). attrs_in left (put_attr a attrs))) (unspelled ∙ ap attr_in item)
    ∙ sym (at_drop_more (λ (ws : List (List ℕ)). attrs_in ws attrs) words i word lt) ∙ is

pub loop-word-preserved : goal.loop-word-preserved
loop-word-preserved c = (
  one_more c.args.words.now c.word-item.result c.loop-word.attrs c.put.new.self c.in-Some.attr (attrs_in c.args.words.now []) c.loop-word.word-index c.loop-word-test.true c.word-item.is
      (sym c.in-Some.is ∙ c.in_ok-attr.ensures.value ∙ ap attr_in c.as_slice.ensures) c.in_ok-put-in-Some.ensures.ok c.loop-word.invariant.0,
  rw c.in_ok-put-in-Some.ensures.ok (are_attrs-put_attr c.in-Some.attr c.loop-word.attrs (rw c.in-Some.is at c.in_ok-attr.ensures.allowed) c.loop-word.invariant.1),
)

pub returns-clause-value : goal.returns-clause-value
returns-clause-value c =
    sym (at_drop_all (λ (ws : List (List ℕ)). attrs_in ws c.loop-word.attrs) c.args.words.now c.loop-word.word-index c.loop-word-test.false) ∙ c.loop-word.invariant.0

pub returns-in-None-clause-value : goal.returns-in-None-clause-value
returns-in-None-clause-value c =
    none_more c.args.words.now c.word-item.result c.loop-word.attrs (attrs_in c.args.words.now []) c.loop-word.word-index c.loop-word-test.true c.word-item.is
    (sym c.in-None.is ∙ c.in_ok-attr.ensures.value ∙ ap attr_in c.as_slice.ensures) c.loop-word.invariant.0

pub returns-in_err-attr-clause-value : goal.returns-in_err-attr-clause-value
returns-in_err-attr-clause-value c = IfOk-from_err c.from_residual.result _ c.from_residual.ensures.0

pub returns-in_err-attr-clause-allowed : goal.returns-in_err-attr-clause-allowed
returns-in_err-attr-clause-allowed c = IfOk-from_err c.from_residual.result _ c.from_residual.ensures.0

pub returns-in_err-put-in-Some-clause-value : goal.returns-in_err-put-in-Some-clause-value
returns-in_err-put-in-Some-clause-value c = IfOk-from_err c.from_residual-in_err-put-in-Some.result _ c.from_residual-in_err-put-in-Some.ensures.0

pub returns-in_err-put-in-Some-clause-allowed : goal.returns-in_err-put-in-Some-clause-allowed
returns-in_err-put-in-Some-clause-allowed c = IfOk-from_err c.from_residual-in_err-put-in-Some.result _ c.from_residual-in_err-put-in-Some.ensures.0
