use Rattle.std.proofs.Common.{◌≡◌, ◌≤◌, ℕ, false, List, Option, ◌+◌, ◌-◌, ◌∷◌, [], Some, None, replicate, length, arith, rules, subst, sym, ap, ◌∙◌, refl}
use Rattle.std.proofs.lemmas.List.{nil_from_length}
use Rattle.pv_glob.specs.Machines.{Machine, reads}
use Rattle.pv_glob.specs.Search.{IsSearched, FirstEnd, Found, unfound}
use Rattle.pv_glob.specs.Words.{IsFirst, word_cmp}
use Rattle.pv_glob.proofs.Levels.{starts, none_read, first_read, unfound-start}
use Rattle.pv_glob.proofs.search.least_word.Goals as goal

-- the queries that are left are enough for the places without a word and those of the level
cost_so_far : (all unfound level left places : ℕ) → (all + unfound) + level ≤ left + places → all ≤ left + places
cost_so_far all unfound level left places h = omega arith

enough_left : (all unfound level left places asked : ℕ) → (all + unfound) + level ≤ left + places → places ≤ all → asked ≡ level → asked ≤ left
enough_left all unfound level left places asked h some same = omega arith

cost_after : (all unfound level left places asked after : ℕ) → (all + unfound) + level ≤ left + places → asked ≡ level → left ≤ after + asked → all + unfound ≤ after + places
cost_after all unfound level left places asked after h same cost = omega arith

all_within : (all unfound n : ℕ) → all + unfound ≤ n → all ≤ n
all_within all unfound n h = omega arith

with_next : (all unfound fewer next n : ℕ) → all + unfound ≤ n → fewer + next ≡ unfound → (all + fewer) + next ≤ n
with_next all unfound fewer next n h count = omega arith

pub loop-alloc-init : goal.loop-alloc-init
loop-alloc-init g c =
    let machine = g.M.Moves.machine c.args.machine.now in
    let others = c.args.places - 1 in
    let places : machine.places ≡ others + 1 = (let e = c.requires.places in omega arith) in
    let started : IsSearched machine c.in_ok-found.found.items c.in_ok-level.level.items =
    subst (λ (x : Found). IsSearched machine x c.in_ok-level.level.items) (sym c.in_ok-found.ensures)
    (subst (λ (x : List ℕ). IsSearched machine (Some [] ∷ replicate others None) x) (sym c.in_ok-level.ensures.items) (starts machine others places)) in
    record {
      searched = started;
      same = refl;
      cost = (let n : unfound c.in_ok-found.found.items ≡ others = ap unfound c.in_ok-found.ensures ∙ unfound-start others in
          let l : length c.in_ok-level.level.items ≡ 1 = ap length c.in_ok-level.ensures.items in omega (arith, n, l));
    }

pub returns-in-Some-clause-first : goal.returns-in-Some-clause-first
returns-in-Some-clause-first g c =
    let machine = g.M.Moves.machine c.loop-alloc.machine in
    let level : c.as_slice.result.now ≡ c.loop-alloc.level.items = c.as_slice.ensures.value in
    let at_level = subst (λ (x : List ℕ). FirstEnd machine c.loop-alloc.found.items x c.in_ok-word.field-0) level c.in_ok-word.ensures in
    let is_first = subst (λ (x : Option (List ℕ)). FirstEnd machine c.loop-alloc.found.items c.loop-alloc.level.items x) c.in-Some.is at_level in
    subst (λ (m : Machine). IsFirst word_cmp (reads m 0) c.in_ok-spelled.field-0) c.loop-alloc.invariant.same
    (first_read machine c.loop-alloc.found.items c.loop-alloc.level.items c.loop-alloc.invariant.searched c.in-Some.word is_first c.in_ok-spelled.field-0 c.in_ok-spelled.ensures)

pub next_level-requires-clause-searched : goal.next_level-requires-clause-searched
next_level-requires-clause-searched g c =
    subst (λ (x : List ℕ). IsSearched (g.M.Moves.machine c.loop-alloc.machine) c.loop-alloc.found.items x) (sym c.as_slice-in-loop-alloc.ensures.value) c.loop-alloc.invariant.searched

pub next_level-requires-clause-questions : goal.next_level-requires-clause-questions
next_level-requires-clause-questions g c =
    enough_left (g.M.Moves.questions c.args.machine.now) (unfound c.loop-alloc.found.items) (length c.loop-alloc.level.items) (g.M.Moves.questions c.loop-alloc.machine) c.args.places (length c.as_slice-in-loop-alloc.result.now)
    c.loop-alloc.invariant.cost c.requires.questions (ap length c.as_slice-in-loop-alloc.ensures.value)

pub returns-in_err-level-2-clause-cost : goal.returns-in_err-level-2-clause-cost
returns-in_err-level-2-clause-cost g c =
    all_within (g.M.Moves.questions c.args.machine.now) (unfound c.loop-alloc.found.items) _
    (cost_after (g.M.Moves.questions c.args.machine.now) (unfound c.loop-alloc.found.items) (length c.loop-alloc.level.items) (g.M.Moves.questions c.loop-alloc.machine) c.args.places
    (length c.as_slice-in-loop-alloc.result.now) (g.M.Moves.questions c.next_level.new.machine) c.loop-alloc.invariant.cost (ap length c.as_slice-in-loop-alloc.ensures.value) c.in_err-level-2.ensures.cost)

pub returns-in-Some-clause-cost : goal.returns-in-Some-clause-cost
returns-in-Some-clause-cost g c =
    cost_so_far (g.M.Moves.questions c.args.machine.now) (unfound c.loop-alloc.found.items) (length c.loop-alloc.level.items) (g.M.Moves.questions c.loop-alloc.machine) c.args.places c.loop-alloc.invariant.cost

pub loop-alloc-preserved : goal.loop-alloc-preserved
loop-alloc-preserved g c =
    let next = c.in_ok-level-2.ensures in
    record {
      searched = subst (λ (m : Machine). IsSearched m c.next_level.new.found.items c.in_ok-level-2.level.items) (sym next.same) next.searched;
      same = next.same ∙ c.loop-alloc.invariant.same;
      cost = with_next (g.M.Moves.questions c.args.machine.now) (unfound c.loop-alloc.found.items) (unfound c.next_level.new.found.items) (length c.in_ok-level-2.level.items) _
          (cost_after (g.M.Moves.questions c.args.machine.now) (unfound c.loop-alloc.found.items) (length c.loop-alloc.level.items) (g.M.Moves.questions c.loop-alloc.machine) c.args.places
          (length c.as_slice-in-loop-alloc.result.now) (g.M.Moves.questions c.next_level.new.machine) c.loop-alloc.invariant.cost (ap length c.as_slice-in-loop-alloc.ensures.value) next.cost) next.count;
    }

pub returns-clause-none : goal.returns-clause-none
returns-clause-none g c _ word =
    let none : c.loop-alloc.level.items ≡ [] = nil_from_length c.loop-alloc.level.items (search rules) in
    subst (λ (m : Machine). reads m 0 word ≡ false) c.loop-alloc.invariant.same
    (none_read (g.M.Moves.machine c.loop-alloc.machine) c.loop-alloc.found.items c.loop-alloc.level.items c.loop-alloc.invariant.searched none word)

pub returns-clause-cost : goal.returns-clause-cost
returns-clause-cost g c =
    cost_so_far (g.M.Moves.questions c.args.machine.now) (unfound c.loop-alloc.found.items) (length c.loop-alloc.level.items) (g.M.Moves.questions c.loop-alloc.machine) c.args.places c.loop-alloc.invariant.cost
