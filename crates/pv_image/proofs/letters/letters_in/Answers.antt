use Rattle.std.proofs.Common.{◌≡◌, ◌+◌, ℕ, get_or, suc, subst, ap, ◌∙◌, arith}
use Rattle.pv_steps.specs.Letters.{all_letters}
use Rattle.pv_image.proofs.LetterTexts.{found, found_set, with_bit}
use Rattle.pv_image.proofs.letters.letters_in.Goals as goal

pub loop-letter-preserved : goal.loop-letter-preserved
loop-letter-preserved c =
    let text = c.args.text.now in
    let i = c.loop-letter.letter-index in
    let letter = get_or all_letters i 0 in
    let more : suc i ≡ i + 1 = omega arith in
    let next : c.with_letter-set.result ≡ found text (suc i) = c.with_letter-set.ensures ∙ ap (λ (s : ℕ). with_bit s letter c.contains.result) c.loop-letter.invariant ∙ ap (with_bit (found text i) letter) c.contains.ensures.value in
    subst (λ (n : ℕ). c.with_letter-set.result ≡ found text n) more next

pub returns : goal.returns
returns c = λ s small e.
    let end : c.loop-letter.letter-index ≡ 15 = omega arith in
    c.loop-letter.invariant ∙ ap (found c.args.text.now) end ∙ found_set s c.args.text.now small e
