use Rattle.std.proofs.Common.{◌≡◌, ◌≢◌, ◌==◌, true, false, List, [], ℕ, length, codes, sym, ap, ◌∙◌}
use Rattle.std.proofs.lemmas.Bool.{eqb-true}
use Rattle.std.proofs.lemmas.List.{nil_from_length}
use Rattle.pv_steps.specs.Letters.{letters_of}
use Rattle.pv_image.proofs.LetterTexts.{set_none, set_reads}
use Rattle.pv_image.proofs.letters.read_letters.Goals as goal

pub returns-then-is_empty : goal.returns-then-is_empty
returns-then-is_empty c =
    let other : c.args.text.now ≢ codes "-" = λ e. let bad : true ≡ false = sym (c.is_dash.ensures.1 e) ∙ c.if-is_dash.false in cc in
    set_none c.args.text.now other (λ s small is some. some (nil_from_length c.args.text.now (eqb-true (length c.args.text.now) 0 (sym c.is_empty.ensures ∙ c.if-is_empty.true))))

pub returns-then-not-branch : goal.returns-then-not-branch
returns-then-not-branch c =
    let other : c.args.text.now ≢ codes "-" = λ e. let bad : true ≡ false = sym (c.is_dash.ensures.1 e) ∙ c.if-is_dash.false in cc in
    set_none c.args.text.now other
    (λ s small is some.
    let bad : true ≡ false = sym (c.in_ok-are_letters.ensures.1 (ap letters_of (c.letters_in-set.ensures s small is) ∙ is)) ∙ c.if-not-branch.true in
    cc)

pub returns : goal.returns
returns c =
    let some : c.args.text.now ≢ [] = λ e. let bad : false ≡ true = sym c.if-is_empty.false ∙ c.is_empty.ensures ∙ ap (λ (t : List ℕ). length t == 0) e in cc in
    set_reads c.args.text.now c.letters_in-set.result c.bits-range.ensures.range some (c.in_ok-are_letters.ensures.0 c.if-not-branch.false)
