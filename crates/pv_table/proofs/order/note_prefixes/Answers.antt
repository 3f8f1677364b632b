use Rattle.std.proofs.Common.{rules, ◌≡◌, ◌∙◌, sym, ap, is_some, ℕ, ◌-◌, ◌+◌, ◌<◌, take, length, arith}
use Rattle.std.proofs.lemmas.Bool.{and_parts, not-false}
use Rattle.indexmap.specs.IndexMap.{get}
use Rattle.pv_path.specs.Paths.{Path, same_path}
use Rattle.pv_path.proofs.PathLaws.{has_names-take}
use Rattle.pv_table.specs.Building.{makes, first_index}
use Rattle.pv_table.proofs.FirstLaws.{all_noted, one_noted, rest_noted}
use Rattle.pv_table.proofs.order.note_prefixes.Goals as goal

pub of-requires : goal.of-requires
of-requires c = has_names-take (c.len.result - c.loop-above.above) c.names.result.now (search rules)

pub returns-then-not-branch : goal.returns-then-not-branch
returns-then-not-branch c =
    let path = c.args.path.now in
    let left = length path - c.loop-above.above in
    let prefix = c.in_ok-prefix.prefix in
    let is : prefix ≡ take left path =
    c.in_ok-prefix.ensures ∙ ap (λ (n : ℕ). take (n - c.loop-above.above) c.names.result.now) c.len.ensures.count ∙ ap (λ (p : Path). take left p) c.names.ensures.value in
    let has = and_parts (is_some (first_index (makes prefix) c.args.table.now)) (is_some (get same_path c.loop-above.firsts prefix)) (not-false _ (sym c.in_ok-note.ensures.had_none ∙ c.if-not-branch.true)) in
    rest_noted (λ q. is_some (first_index (makes q) c.args.table.now)) (get same_path c.args.firsts.now) (get same_path c.loop-above.firsts) (get same_path c.note.new.firsts) path prefix left c.args.place is
    c.loop-above.invariant c.in_ok-note.ensures.noted has.1 (λ q. c.requires prefix q)

pub loop-above-preserved : goal.loop-above-preserved
loop-above-preserved c =
    let path = c.args.path.now in
    let left = length path - c.loop-above.above in
    let prefix = c.in_ok-prefix.prefix in
    let is : prefix ≡ take left path =
    c.in_ok-prefix.ensures ∙ ap (λ (n : ℕ). take (n - c.loop-above.above) c.names.result.now) c.len.ensures.count ∙ ap (λ (p : Path). take left p) c.names.ensures.value in
    let within : c.loop-above.above < length path = (let count = c.len-above-end.ensures.count in omega (arith, c.loop-above-test.true, count)) in
    one_noted (λ q. is_some (first_index (makes q) c.args.table.now)) (get same_path c.args.firsts.now) (get same_path c.loop-above.firsts) (get same_path c.note.new.firsts) path prefix left
    (length path - (c.loop-above.above + 1)) c.args.place (omega (arith, within)) (omega arith) is c.loop-above.invariant c.in_ok-note.ensures.noted

pub returns : goal.returns
returns c =
    let path = c.args.path.now in
    let none : length path - c.loop-above.above ≡ 0 = (let count = c.len-above-end.ensures.count in omega (arith, c.loop-above-test.false, count)) in
    all_noted (λ q. is_some (first_index (makes q) c.args.table.now)) (get same_path c.args.firsts.now) (get same_path c.loop-above.firsts) (get same_path c.note-2.new.firsts) path c.root.result
    (length path - c.loop-above.above) c.args.place none c.root.ensures c.loop-above.invariant c.in_ok-note-2.ensures.noted
