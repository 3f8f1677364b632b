use Rattle.std.proofs.Common.{◌<◌, ◌≤◌, ◌++◌, get_or, arith, sym, ap, ◌∙◌}
use Rattle.std.proofs.lemmas.List.{take_all}
use Rattle.std.specs.List.{flat_map, list_all}
use Rattle.pv_text.specs.Facts.{fact_letters}
use Rattle.pv_image.specs.Writing.{fact_fits, fact_line_of}
use Rattle.pv_image.proofs.Wholes.{facts_fit, facts_lines, fits_more, letters_more}
use Rattle.pv_image.proofs.writer.add_facts.Goals as goal

pub loop-letter-preserved : goal.loop-letter-preserved
loop-letter-preserved c =
    let within : c.loop-letter.letter-index < 12 = omega arith in
    record {
      written = c.in_ok-add_fact_of.ensures.ok
          ∙ ap (λ x. x ++ fact_line_of c.args.facts.now (get_or fact_letters c.loop-letter.letter-index 0)) c.loop-letter.invariant.written
          ∙ letters_more c.args.facts.now c.args.output.now.items c.loop-letter.letter-index within;
      fit = fits_more (fact_fits c.args.facts.now) fact_letters c.loop-letter.letter-index 0 within c.loop-letter.invariant.fit c.in_ok-add_fact_of.ensures.fits;
      alone = λ _. c.in_ok-add_fact_of.ensures.facts;
    }

pub returns-clause-text : goal.returns-clause-text
returns-clause-text c =
    let past : 12 ≤ c.loop-letter.letter-index = omega arith in
    let some : 0 < c.loop-letter.letter-index = omega arith in
    c.loop-letter.invariant.written
    ∙ ap (λ es. c.args.output.now.items ++ flat_map (fact_line_of c.args.facts.now) es) (take_all _ _ past)
    ∙ ap (λ x. c.args.output.now.items ++ x) (facts_lines c.args.facts.now (c.loop-letter.invariant.alone some))

pub returns-clause-fit : goal.returns-clause-fit
returns-clause-fit c =
    let past : 12 ≤ c.loop-letter.letter-index = omega arith in
    let some : 0 < c.loop-letter.letter-index = omega arith in
    facts_fit c.args.facts.now (c.loop-letter.invariant.alone some) (sym (ap (list_all (fact_fits c.args.facts.now)) (take_all _ _ past)) ∙ c.loop-letter.invariant.fit)
