use Rattle.std.proofs.Common.{ℕ, List, get_or, arith, rules, subst, sym, ap, ◌∙◌}
use Rattle.std.proofs.lemmas.List.{take_more, take_all}
use Rattle.std.proofs.lemmas.List.Elements.{Contains-get_or}
use Rattle.pv_glob.specs.Machines.{Machine}
use Rattle.pv_glob.specs.Search.{Asked}
use Rattle.pv_glob.proofs.Levels.{level_word, level_found, asked_more, asked_all}
use Rattle.pv_glob.proofs.search.next_level.Goals as goal

pub word_to-requires-clause-inside : goal.word_to-requires-clause-inside
word_to-requires-clause-inside g c =
    (level_word _ _ _ _ _ _ c.loop-place.invariant.asked _ (Contains-get_or c.args.level.now c.loop-place.place-index 0 c.loop-place-test.true)).0

pub word_to-requires-clause-found : goal.word_to-requires-clause-found
word_to-requires-clause-found g c =
    level_found _ _ _ _ _ _ c.loop-place.invariant.asked _ (Contains-get_or c.args.level.now c.loop-place.place-index 0 c.loop-place-test.true)

pub loop-place-preserved : goal.loop-place-preserved
loop-place-preserved g c =
    let at = get_or c.args.level.now c.loop-place.place-index 0 in
    let inv = c.loop-place.invariant in
    let one = take_more c.args.level.now c.loop-place.place-index 0 c.loop-place-test.true in
    record {
      asked = subst (λ (xs : List ℕ). Asked (g.M.Moves.machine c.args.machine.now) c.args.found.now.items c.args.level.now xs c.note_moves.new.found.items c.note_moves.new.next.items) (sym one)
          (asked_more _ _ _ _ _ _ inv.asked at c.in_ok-word.word c.in_ok-moves.moves _ _
          (Contains-get_or c.args.level.now c.loop-place.place-index 0 c.loop-place-test.true) c.in_ok-word.ensures
          (λ b. c.in_ok-moves.ensures.moves b ∙ ap (λ (m : Machine). m.after at b) inv.same) (search rules));
      same = c.moves.ensures.same ∙ inv.same;
      cost = (let e = c.moves.ensures.cost in let f = inv.cost in omega (arith, e, f));
    }

pub returns-clause-searched : goal.returns-clause-searched
returns-clause-searched g c =
    let whole = take_all c.loop-place.place-index c.args.level.now (search rules) in
    asked_all _ _ _ _ _ (subst (λ (xs : List ℕ). Asked (g.M.Moves.machine c.args.machine.now) c.args.found.now.items c.args.level.now xs c.loop-place.found.items c.loop-place.next.items) whole c.loop-place.invariant.asked) c.requires.no_end
